use Rattle.engine.proofs.Names.{◌≡◌, ◌+◌, ◌*◌, ◌<◌, ◌≤◌, ⊎_elim, refl, sym, ap, subst, ◌∙◌, arith, ◌/◌, cases_eq, same_Some, Result, Ok, Err, result_ok, Invariant, sizes_of, Matches, Engine, end_of, stages_err, stages_ok, Content, State, seen, Reply, asks_err, asks_fails, asks_ok, change_made, change_stopped, blocks_to, one_touch, works_then, works_answered, keeps_failed, keeps_answered, keeps_both, keeps_no_memory, updates, Represents, shown_in, performs_as, performs_answered, performs_failed, performs_refused, performs_stopped, stays_honest, goes_in_sequence, Site, Geometry, Log, Stop, Memory, below_wrote, apart_wrote, entry_is, owes, entry_of, Active}
use Rattle.engine.proofs.Asking.{has_group, change_ok}
use Rattle.std.specs.Prelude.{Option}
use Rattle.engine.proofs.Writes.{touched_fits, may_write, write_fits}
use Rattle.engine.proofs.FootprintChanges.{locked_wrote, only_own}
use Rattle.engine.proofs.PageRooms.{written_there}
use Rattle.engine.proofs.Tested.{asks_either, contract_refused, contract_written, no_fewer, reads_first, work_refused, work_written}
use Rattle.engine.proofs.Calling.{does_of, serves_of, serves_still, serves_stopped}
use Rattle.engine.proofs.engine.Engine.carry_out_write.Given.{Over}
use Rattle.engine.proofs.engine.Engine.carry_out_write.Goals.{In-Ok}
use Rattle.engine.proofs.Performing.{store_then, seen_there}
use Rattle.engine.proofs.engine.Engine.carry_out_write.Goals as goal

-- The page is in front.
module _ (g : Over) (c : In-Ok g) where
  abbrev before : Site
  before = g.S.Site.state c.args.site.now

  abbrev touched : Site
  touched = g.S.Site.state c.touch.new.site

  abbrev mid : Engine
  mid = record c.args.self.now { store = c.touch.new.self }

  abbrev Fits : State → Type 0
  Fits s = Matches c.args.self.now before s

  there : c.args.number < 32 * (sizes_of c.touch.new.self).pages
  there = let same = ap (λ (k : Geometry). k.pages) c.touch.ensures.works.sizes in omega (arith, same, c.requires.may.number)

  held : (s : State) (fits : Fits s) → Represents c.touch.new.self touched fits.newest fits.records s.table s.commits
  held s fits = c.in-Ok.ensures.holds fits.newest fits.records s.table s.commits fits.holds

  abbrev fits_mid : (s : State) (fits : Fits s) → Matches mid touched s
  fits_mid s fits = touched_fits c.args.self.now c.touch.new.self before touched s fits (stays_honest before touched c.touch.ensures.works.calls.preserves fits.honest) (held s fits) c.touch.ensures.made

  -- the database may go on with it
  going_mid : Invariant mid touched
  going_mid =
      let going = c.requires.going in
      (serves_still {new = mid} going (works_answered {b = c.in-Ok.field-0} c.in-Ok.ensures.works) refl refl refl (omega (arith, going.budget)) (omega (arith, going.commits, c.in-Ok.ensures.works.rises)) going.footprints).going

  seen_now : (s : State) (fits : Fits s) → seen s c.args.entry.session c.args.number ≡ shown_in c.touch.new.self touched fits.records c.args.number
  seen_now s fits = seen_there c.args.self.now c.touch.new.self before touched s c.args.entry c.args.number fits (stays_honest before touched c.touch.ensures.works.calls.preserves fits.honest) c.requires.going.table c.requires.active there c.requires.may.free (held s fits) c.touch.ensures.made

-- It stops at the page.

pub returns-in-Err : goal.returns-in-Err
returns-in-Err g c = record {
  answers = λ s fits. record {
    reply = tt;
    asks = asks_either s c.args.entry.session c.args.number (asks_err c.in-Err.stop (one_touch (c.args.number / 32)) _ _ _ _ c.in-Err.ensures.asks) (change_stopped c.in-Err.stop (c.args.number / 32) _ _ _ _ (has_group c.requires.going) c.in-Err.ensures.asks) c.args.after.now;
    does = does_of (let more = no_fewer s c.args.entry.session c.args.number c.args.after.now in omega (arith, more)) tt (keeps_failed (c.in-Err.ensures.keeps fits.newest fits.records s.table s.commits fits.holds));
  };
  performs = λ s fits.
      let split = reads_first s c.args.entry.session c.args.number c.args.after.now in
      performs_as split.1 (performs_stopped split.0 (c.in-Err.ensures.performs fits.newest fits.records s.table s.commits fits.holds));
  serves = serves_stopped c.in-Err.ensures.works c.touch.ensures.log_reads;
}

-- The test.

pub test_page-requires-clause-going : goal.test_page-requires-clause-going
test_page-requires-clause-going g c = (g.S.Site.state c.touch.new.site, going_mid g ((goal.at.test_page-requires-clause-going g c).In-Ok))

-- on an honest site it gives what the model says
pub returns-in-Err-test_page-clause-answers : goal.returns-in-Err-test_page-clause-answers
returns-in-Err-test_page-clause-answers g c s fits =
    let at = (goal.at.returns-in-Err-test_page-clause-answers g c).In-Ok in
    absurd (let never = c.in-Err-test_page.ensures.answers s (touched g at) (fits_mid g at s fits) in cc)

pub returns-in-Err-test_page-clause-performs : goal.returns-in-Err-test_page-clause-performs
returns-in-Err-test_page-clause-performs g c s fits =
    let at = (goal.at.returns-in-Err-test_page-clause-performs g c).In-Ok in
    absurd (let never = c.in-Err-test_page.ensures.answers s (touched g at) (fits_mid g at s fits) in cc)

-- what it gives
same_ok : {x y : Option Reply} → ◌≡◌ {A = Result (Option Reply) Stop} (Ok x) (Ok y) → x ≡ y
same_ok {x} {y} same = same_Some x y (ap result_ok same)

-- There is no room.
pub returns-in-Some : goal.returns-in-Some
returns-in-Some g c =
    let at = (goal.at.returns-in-Some g c).In-Ok in
    let going = c.requires.going in
    record {
      answers = λ s fits.
          let is = sym (same_ok (c.in-Ok-test_page.ensures.answers s (touched g at) (fits_mid g at s fits))) ∙ c.in-Some.is in
          contract_refused s c.args.entry.session c.args.number c.args.after.now c.in-Some.full is refl (asks_ok c.in-Ok.field-0 _ (one_touch (c.args.number / 32)) _ _ _ _ c.in-Ok.ensures.asks)
          (does_of (omega arith) (fits_mid g at s fits) (keeps_answered (c.in-Ok.ensures.keeps fits.newest fits.records s.table s.commits fits.holds)));
      performs = λ s fits.
          let is = sym (same_ok (c.in-Ok-test_page.ensures.answers s (touched g at) (fits_mid g at s fits))) ∙ c.in-Some.is in
          performs_as (work_refused s c.args.entry.session c.args.number c.args.after.now c.in-Some.full is) (performs_answered (c.in-Ok.ensures.performs fits.newest fits.records s.table s.commits fits.holds));
      serves = record {
        keeps = serves_still going (works_answered c.in-Ok.ensures.works) refl refl refl (omega (arith, going.budget)) (omega (arith, going.commits, c.in-Ok.ensures.works.rises)) going.footprints;
        log_reads = c.touch.ensures.log_reads;
      };
    }

-- There is.

pub add-requires : goal.add-requires
add-requires g c = (entry_is c.args.self.now.active c.args.entry.session c.args.entry c.requires.going.table c.requires.active).small

pub write-requires-clause-session : goal.write-requires-clause-session
write-requires-clause-session g c = (entry_is c.args.self.now.active c.args.entry.session c.args.entry c.requires.going.table c.requires.active).small

pub write-requires-clause-alone : goal.write-requires-clause-alone
write-requires-clause-alone g c = only_own c.args.self.now.footprints c.args.self.now.locks c.args.entry.session c.args.number c.requires.going.footprints c.requires.may.free

pub wrote-requires-clause-room : goal.wrote-requires-clause-room
wrote-requires-clause-room g c =
    let part = owes c.args.self.now.active c.args.entry.session c.args.entry c.requires.going.table c.requires.active in
    omega (arith, part, c.requires.may.room, c.requires.going.cap, c.requires.going.store.both.pages_going.flash.limits.few_blocks)

-- memory is wanting

pub returns-in-Err-add-clause-answers : goal.returns-in-Err-add-clause-answers
returns-in-Err-add-clause-answers g c s fits = record {
  reply = tt;
  asks = asks_either s c.args.entry.session c.args.number (asks_fails c.in-Ok.field-0 Memory (one_touch (c.args.number / 32)) _ _ _ _ c.in-Ok.ensures.asks)
      (change_stopped {A = Reply} Memory (c.args.number / 32) _ _ _ _ (has_group c.requires.going) (asks_fails c.in-Ok.field-0 Memory (one_touch (c.args.number / 32)) _ _ _ _ c.in-Ok.ensures.asks)) c.args.after.now;
  does = does_of (let more = no_fewer s c.args.entry.session c.args.number c.args.after.now in omega (arith, more)) tt (keeps_no_memory fits.honest c.in-Ok.ensures.works (c.in-Ok.ensures.keeps fits.newest fits.records s.table s.commits fits.holds));
}

pub returns-in-Err-add-clause-performs : goal.returns-in-Err-add-clause-performs
returns-in-Err-add-clause-performs g c s fits = performs_refused (λ dev same. cc)

pub returns-in-Err-write-clause-answers : goal.returns-in-Err-write-clause-answers
returns-in-Err-write-clause-answers g c s fits = record {
  reply = tt;
  asks = asks_either s c.args.entry.session c.args.number (asks_fails c.in-Ok.field-0 Memory (one_touch (c.args.number / 32)) _ _ _ _ c.in-Ok.ensures.asks)
      (change_stopped {A = Reply} Memory (c.args.number / 32) _ _ _ _ (has_group c.requires.going) (asks_fails c.in-Ok.field-0 Memory (one_touch (c.args.number / 32)) _ _ _ _ c.in-Ok.ensures.asks)) c.args.after.now;
  does = does_of (let more = no_fewer s c.args.entry.session c.args.number c.args.after.now in omega (arith, more)) tt (keeps_no_memory fits.honest c.in-Ok.ensures.works (c.in-Ok.ensures.keeps fits.newest fits.records s.table s.commits fits.holds));
}

pub returns-in-Err-write-clause-performs : goal.returns-in-Err-write-clause-performs
returns-in-Err-write-clause-performs g c s fits = performs_refused (λ dev same. cc)

-- the Update isn't logged

pub returns-in-Err-update : goal.returns-in-Err-update
returns-in-Err-update g c =
    let at = (goal.at.returns-in-Err-update g c).In-Ok in
    record {
      answers = λ s fits.
          let has = sym (same_ok (c.in-Ok-test_page.ensures.answers s (touched g at) (fits_mid g at s fits))) ∙ c.in_default.is in
          contract_written s c.args.entry.session c.args.number c.args.after.now has tt
          (change_made c.in-Ok.field-0 (Err c.in-Err-update.stop) (c.args.number / 32) _ _ _ _ _ _ (has_group c.requires.going) c.in-Ok.ensures.asks tt c.update.ensures.rules_stay c.update.ensures.reads (stages_err c.in-Err-update.ensures.stages))
          (does_of (omega arith) tt (keeps_failed (keeps_both fits.honest c.in-Ok.ensures.works (c.in-Ok.ensures.keeps fits.newest fits.records s.table s.commits fits.holds) (c.in-Err-update.ensures.keeps fits.newest fits.records s.table s.commits (held g at s fits)))));
      performs = λ s fits.
          let has = sym (same_ok (c.in-Ok-test_page.ensures.answers s (touched g at) (fits_mid g at s fits))) ∙ c.in_default.is in
          performs_as (work_written s c.args.entry.session c.args.number c.args.after.now has)
          (store_then c.in-Ok.ensures.asks.rules_are (c.in-Ok.ensures.performs fits.newest fits.records s.table s.commits fits.holds)
          (performs_failed (performs_as (ap (λ (x : Content). updates c.args.number x c.args.after.now) (seen_now g at s fits)) (c.in-Err-update.ensures.performs fits.newest fits.records s.table s.commits (held g at s fits)))));
      serves = serves_stopped (works_then c.in-Ok.ensures.works c.in-Err-update.ensures.works) (c.update.ensures.reads Log ∙ c.touch.ensures.log_reads);
    }

-- it is

pub returns-in-Ok-update : goal.returns-in-Ok-update
returns-in-Ok-update g c =
    let at = (goal.at.returns-in-Ok-update g c).In-Ok in
    let engine = c.args.self.now in
    let number = c.args.number in
    let entry = c.args.entry in
    let going = c.requires.going in
    let last = g.S.Site.state c.update.new.site in
    let lsn = c.in-Ok-update.lsn in
    let after = c.args.after.now in
    let made = c.touch.ensures.made in
    let blocks = c.in-Ok.ensures.blocks in
    let count = ap (λ (x : Geometry). x.blocks) c.touch.ensures.works.sizes in
    let room = c.requires.may.room in
    let n = c.args.entry.session in
    let changes = c.wrote.ensures.entry in
    let touched_rises = c.in-Ok.ensures.works.rises in
    let rises = c.in-Ok-update.ensures.rises in
    let owed_is = c.wrote.ensures.owed in
    let small = (entry_is engine.active n entry going.table c.requires.active).small in
    record {
      answers = λ s fits.
          let has = sym (same_ok (c.in-Ok-test_page.ensures.answers s (touched g at) (fits_mid g at s fits))) ∙ c.in_default.is in
          let holds = held g at s fits in
          let fits_there = fits_mid g at s fits in
          let may = may_write (mid g at) (touched g at) s fits_there entry number lsn after has going.footprints.eight c.in-Ok.ensures.works.going.both.pages_going.own c.in-Ok.ensures.front going.table c.requires.active (there g at) c.requires.may.free (omega (arith, made, room)) (let kept = c.touch.ensures.works.kept in omega (arith, blocks, going.store.blocks, made, kept)) (omega (arith, going.cap, count)) in
          contract_written s n number after has refl
          (change_ok c.in-Ok.field-0 _ (number / 32) _ _ _ _ _ _ (has_group going) c.in-Ok.ensures.asks c.in-Ok-update.ensures.machine c.update.ensures.rules_stay c.update.ensures.reads (stages_ok c.in-Ok-update.ensures.stages))
          (does_of (omega arith)
          (write_fits (mid g at) _ (touched g at) last s entry number lsn (shown_in c.touch.new.self (touched g at) fits.records number) after fits_there going.table c.requires.active
          (stays_honest (before g at) last (goes_in_sequence (before g at) (touched g at) last c.touch.ensures.works.calls.preserves c.update.ensures.works.calls.preserves) fits.honest)
          (sym (seen_now g at s fits))
          (c.in-Ok-update.ensures.holds fits.newest fits.records s.table s.commits holds may)
          c.in-Ok-update.ensures.works.made refl refl c.in-Ok-add.ensures.ok c.wrote.ensures.entry c.wrote.ensures.owed going.footprints.eight _
          (written_there (mid g at) (touched g at) s fits_there number c.in-Ok.ensures.works.going.both.pages_going.own c.in-Ok.ensures.front after c.length_in.ensures c.length_of.ensures)
          c.in-Ok-write.ensures.ok)
          (keeps_answered (keeps_both fits.honest c.in-Ok.ensures.works (c.in-Ok.ensures.keeps fits.newest fits.records s.table s.commits fits.holds) (c.in-Ok-update.ensures.keeps fits.newest fits.records s.table s.commits holds))));
      serves =
          let same = c.in-Ok.ensures.blocks in
          let blocks = c.in-Ok-update.ensures.works.blocks in
          let made = c.in-Ok-update.ensures.works.made in
          let made_before = c.touch.ensures.made in
          record {
            log_reads = c.update.ensures.reads Log ∙ c.touch.ensures.log_reads;
            keeps = serves_of (works_answered (works_then c.in-Ok.ensures.works c.in-Ok-update.ensures.works)) (record {
              store = c.in-Ok-update.ensures.works.going;
              going = going.going;
              cap = going.cap ∙ ap (λ (x : Geometry). x.blocks) (sym (c.update.ensures.works.sizes ∙ c.touch.ensures.works.sizes));
              table = c.wrote.ensures.table;
              room = omega (arith, blocks, same, owed_is, room, going.store.blocks, c.update.ensures.works.kept, c.touch.ensures.works.kept);
              since = λ m other at_m. ⊎_elim
                  (λ (equal : m ≡ n).
                  let is = same_Some _ other (sym changes.own ∙ ap (entry_of c.wrote.new.active) (sym equal) ∙ at_m) in
                  let before = going.since n c.args.entry c.requires.active in
                  subst (λ (x : Active). blocks_to c.update.new.self.log + x.born ≤ x.begin / 512 + c.update.new.self.made) is (omega (arith, before, blocks, same, made, made_before)))
                  (λ differ. let before = going.since m other (sym (changes.others m differ) ∙ at_m) in omega (arith, before, blocks, same, made, made_before))
                  (cases_eq m n);
              bounded = omega (arith, made, made_before, owed_is, room, going.cap, going.store.both.pages_going.flash.limits.few_blocks);
              budget = omega (arith, made, made_before, owed_is, room);
              commits = let later = rises.0 in let last = rises.1 in omega (arith, touched_rises, later, last, going.commits);
              lasts = below_wrote c.args.self.now.active c.wrote.new.active n (end_of c.args.self.now.store.log) (end_of c.update.new.self.log) _ c.args.entry going.lasts c.requires.active changes (omega (arith, touched_rises, rises.0)) rises.1;
              differ = apart_wrote c.args.self.now.active c.wrote.new.active n _ c.args.entry going.differ c.requires.active changes;
              footprints = locked_wrote engine.footprints _ engine.locks _ n number _ small c.in-Ok-add.ensures.ok c.in-Ok-write.ensures.ok refl going.footprints;
            });
          };
      performs = λ s fits.
          let has = sym (same_ok (c.in-Ok-test_page.ensures.answers s (touched g at) (fits_mid g at s fits))) ∙ c.in_default.is in
          performs_as (work_written s n number after has)
          (store_then c.in-Ok.ensures.asks.rules_are (c.in-Ok.ensures.performs fits.newest fits.records s.table s.commits fits.holds)
          (performs_answered (performs_as (ap (λ (x : Content). updates number x after) (seen_now g at s fits)) (c.in-Ok-update.ensures.performs fits.newest fits.records s.table s.commits (held g at s fits)))));
    }
