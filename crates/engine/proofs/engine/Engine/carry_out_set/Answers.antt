use Rattle.engine.proofs.Names.{List, length, ◌%◌, ◌≡◌, ◌<◌, ◌≤◌, ◌+◌, ◌*◌, ◌++◌, ◌∷◌, [], ◌∙◌, sym, arith, ◌/◌, ℕ, ap, refl, subst, Some, None, same_Some, IfNone, Ok, Err, Result, result_ok, front_of, Invariant, LeavesTable, HasOneWrite, AreLocked, full_for, work_by, Matches, Engine, versions_on, writes_in, Entry, end_of, stages_err, stages_ok, IsStore, PageStore, content_at, Content, State, wants_page_room, Set, Reply, asks_err, asks_ok, asks_then, change_made, change_stopped, one_change, one_touch, works_then, works_answered, keeps_both, keeps_answered, keeps_failed, keeps_then, keeps_weaker, FitsFront, PerformsStore, updates, Keeps, MayGrow, Represents, shown_in, performs_as, performs_answered, performs_stopped, begins, changes, commits as commits_work, reads, RingOp, stays_honest, Site, Geometry, Log, Stop}
use Rattle.engine.proofs.Asking.{has_group, change_ok}
use Rattle.std.specs.Prelude.{Option}
use Rattle.redo_undo.specs.Stores.{sizes_of}
use Rattle.engine.proofs.Settings.{begin_at, update_at, may_begin, may_update, may_commit_one, one_write, set_fits, sets_one}
use Rattle.engine.proofs.Calling.{early, late_commit, serves_still, serves_stopped, does_of}
use Rattle.engine.proofs.Meanings.{undoable}
use Rattle.engine.proofs.PageRooms.{room_begun, shows_same}
use Rattle.engine.proofs.Tested.{none_fewer, set_reads_first, set_refused, set_written, sets_either}
use Rattle.engine.proofs.Writes.{touched_fits}
use Rattle.engine.proofs.engine.Engine.carry_out_set.Given.{Over}
use Rattle.engine.proofs.engine.Engine.carry_out_set.Goals.{In-Ok, In-Ok-begin}
use Rattle.engine.proofs.Performing.{store_then, set_there}
use Rattle.engine.proofs.engine.Engine.carry_out_set.Goals as goal
use Rattle.record_model.specs.declared.words.Reply.TheVariants as reply

-- The page is in front.
module _ (g : Over) (c : In-Ok g) where
  abbrev before : Site
  before = g.S.Site.state c.args.site.now

  abbrev touched : Site
  touched = g.S.Site.state c.touch.new.site

  abbrev mid : Engine
  mid = record c.args.self.now { store = c.touch.new.self }

  abbrev Fits : State → Type 0
  Fits s = Matches c.args.self.now before s

  there : c.args.number < 32 * (sizes_of c.touch.new.self).pages
  there = let same = ap (λ (k : Geometry). k.pages) c.touch.ensures.works.sizes in omega (arith, same, c.requires.may.number)

  cap : c.args.self.now.cap + 1 ≡ (sizes_of c.touch.new.self).blocks
  cap = c.requires.going.cap ∙ ap (λ (k : Geometry). k.blocks) (sym c.touch.ensures.works.sizes)

  held : (s : State) (fits : Fits s) → Represents c.touch.new.self touched fits.newest fits.records s.table s.commits
  held s fits = c.in-Ok.ensures.holds fits.newest fits.records s.table s.commits fits.holds

  abbrev fits_mid : (s : State) (fits : Fits s) → Matches mid touched s
  fits_mid s fits = touched_fits c.args.self.now c.touch.new.self before touched s fits (stays_honest before touched c.touch.ensures.works.calls.preserves fits.honest) (held s fits) c.touch.ensures.made

  going_mid : Invariant mid touched
  going_mid =
      let going = c.requires.going in
      (serves_still {new = mid} going (works_answered {b = c.in-Ok.field-0} c.in-Ok.ensures.works) refl refl refl (omega (arith, going.budget)) (omega (arith, going.commits, c.in-Ok.ensures.works.rises)) going.footprints).going

  -- behind it a transaction may begin
  begin_may : (s : State) (fits : Fits s) (txn : ℕ) → end_of c.touch.new.self.log ≤ txn → MayGrow c.touch.new.self touched fits.newest fits.records (begin_at txn)
  begin_may s fits txn behind = let made = c.touch.ensures.made in may_begin mid touched s (fits_mid s fits) txn behind (omega (arith, made, c.requires.may.room)) c.in-Ok.ensures.works.going.blocks cap

-- what the test gives
same_ok : {x y : Option Reply} → ◌≡◌ {A = Result (Option Reply) Stop} (Ok x) (Ok y) → x ≡ y
same_ok {x} {y} same = same_Some x y (ap result_ok same)

model_is : (s : State) (number : ℕ) (value : List ℕ) (after : Content) → after ≡ Some value → {x : Option Reply} → ◌≡◌ {A = Result (Option Reply) Stop} (Ok x) (Ok (full_for s number after)) → x ≡ wants_page_room s number value
model_is s number value after is same = same_ok same ∙ ap (full_for s number) is

-- It stops at the page.

pub returns-in-Err : goal.returns-in-Err
returns-in-Err g c = record {
  answers = λ s fits. record {
    reply = tt;
    asks = sets_either s c.args.number c.args.value.now (asks_err c.in-Err.stop (one_touch (c.args.number / 32)) _ _ _ _ c.in-Err.ensures.asks) (change_stopped c.in-Err.stop (c.args.number / 32) _ _ _ _ (has_group c.requires.going) c.in-Err.ensures.asks) (wants_page_room s c.args.number c.args.value.now);
    does = does_of (let more = none_fewer s c.args.number c.args.value.now (wants_page_room s c.args.number c.args.value.now) in omega (arith, more)) tt
        (keeps_weaker (early (sizes_of c.args.self.now.store) s _ _) (keeps_failed (c.in-Err.ensures.keeps fits.newest fits.records s.table s.commits fits.holds)));
  };
  performs = λ s fits.
      let split = set_reads_first s c.args.number c.args.value.now (wants_page_room s c.args.number c.args.value.now) in
      performs_as split.1 (performs_stopped split.0 (c.in-Err.ensures.performs fits.newest fits.records s.table s.commits fits.holds));
  serves = serves_stopped c.in-Err.ensures.works c.touch.ensures.log_reads;
}

-- The test.

pub test_page-requires-clause-going : goal.test_page-requires-clause-going
test_page-requires-clause-going g c = (g.S.Site.state c.touch.new.site, going_mid g ((goal.at.test_page-requires-clause-going g c).In-Ok))

pub returns-in-Err-test_page-clause-answers : goal.returns-in-Err-test_page-clause-answers
returns-in-Err-test_page-clause-answers g c s fits =
    let at = (goal.at.returns-in-Err-test_page-clause-answers g c).In-Ok in
    absurd (let never = c.in-Err-test_page.ensures.answers s (touched g at) (fits_mid g at s fits) in cc)

pub returns-in-Err-test_page-clause-performs : goal.returns-in-Err-test_page-clause-performs
returns-in-Err-test_page-clause-performs g c s fits =
    let at = (goal.at.returns-in-Err-test_page-clause-performs g c).In-Ok in
    absurd (let never = c.in-Err-test_page.ensures.answers s (touched g at) (fits_mid g at s fits) in cc)

-- there is no room
pub returns-in-Some : goal.returns-in-Some
returns-in-Some g c =
    let at = (goal.at.returns-in-Some g c).In-Ok in
    let going = c.requires.going in
    record {
      answers = λ s fits.
          let is = sym (model_is s c.args.number c.args.value.now _ c.value_of-after.ensures (c.in-Ok-test_page.ensures.answers s (touched g at) (fits_mid g at s fits))) ∙ c.in-Some.is in
          set_refused s c.args.number c.args.value.now (wants_page_room s c.args.number c.args.value.now) c.in-Some.full is refl (asks_ok c.in-Ok.field-0 _ (one_touch (c.args.number / 32)) _ _ _ _ c.in-Ok.ensures.asks)
          (does_of (omega arith) (fits_mid g at s fits) (keeps_weaker (early (sizes_of c.args.self.now.store) s _ _) (keeps_answered (c.in-Ok.ensures.keeps fits.newest fits.records s.table s.commits fits.holds))));
      performs = λ s fits.
          let is = sym (model_is s c.args.number c.args.value.now _ c.value_of-after.ensures (c.in-Ok-test_page.ensures.answers s (touched g at) (fits_mid g at s fits))) ∙ c.in-Some.is in
          performs_as (ap (work_by s (Set c.args.number c.args.value.now)) is) (performs_answered (c.in-Ok.ensures.performs fits.newest fits.records s.table s.commits fits.holds));
      serves = record {
        keeps = serves_still going (works_answered c.in-Ok.ensures.works) refl refl refl (omega (arith, going.budget)) (omega (arith, going.commits, c.in-Ok.ensures.works.rises)) going.footprints;
        log_reads = c.touch.ensures.log_reads;
      };
    }

-- And the transaction has begun.
module _ (g : Over) (c : In-Ok-begin g) (s : State) (fits : Matches c.args.self.now (g.S.Site.state c.args.site.now) s) where
  abbrev touch : In-Ok g
  touch = c.before.before.before.before.before.before.before.before

  abbrev after : Content
  after = c.value_of-after.result

  has : full_for s c.args.number after ≡ None
  has = sym (same_ok (c.in-Ok-test_page.ensures.answers s (touched g touch) (fits_mid g touch s fits))) ∙ c.in_default.is

  model_has : wants_page_room s c.args.number c.args.value.now ≡ None
  model_has = ap (full_for s c.args.number) (sym c.value_of-after.ensures) ∙ has

  abbrev log : List Entry
  log = fits.records ++ begin_at c.in-Ok-begin.txn ∷ []

  abbrev two : Site
  two = g.S.Site.state c.begin.new.site

  holds : Represents c.begin.new.self two fits.newest log s.table s.commits
  holds = c.in-Ok-begin.ensures.holds fits.newest fits.records s.table s.commits (held g touch s fits) (begin_may g touch s fits c.in-Ok-begin.txn c.in-Ok-begin.ensures.rises.0)

  abbrev own : IsStore c.touch.new.self.pages
  own = c.in-Ok.ensures.works.going.both.pages_going.own

  -- and its Update may be logged
  may : (lsn : ℕ) → MayGrow c.begin.new.self two fits.newest log (update_at c.in-Ok-begin.txn lsn c.args.number (shown_in c.begin.new.self two log c.args.number) after)
  may lsn =
      let made = c.touch.ensures.made in
      may_update (mid g touch) (touched g touch) s c.args.number (fits_mid g touch s fits) c.requires.going.table (there g touch) (omega (arith, made, c.requires.may.room)) c.in-Ok.ensures.works.going.blocks (cap g touch) c.requires.may.free c.in-Ok-begin.txn c.in-Ok-begin.ensures.rises.0 c.begin.new.self two lsn after
      (room_begun (mid g touch) (touched g touch) s (fits_mid g touch s fits) c.requires.going.table c.requires.going.footprints.eight c.args.number (there g touch) own c.in-Ok.ensures.front after has (versions_on (sizes_of c.begin.new.self) two.image) c.in-Ok-begin.txn lsn c.in-Ok-begin.txn c.in-Ok-begin.txn
      (undoable c.begin.new.self two fits.newest log s.table s.commits holds)
      (λ i small. shows_same c.touch.new.self c.begin.new.self (touched g touch) two fits.newest fits.records log s.table s.commits c.args.number c.begin.ensures.pages own c.in-Ok.ensures.front (held g touch s fits) holds i small))
      c.begin.ensures.works.sizes c.begin.ensures.works.kept c.in-Ok-begin.ensures.works.blocks

  there_before : content_at s.table c.args.number ≡ shown_in c.begin.new.self two log c.args.number
  there_before = set_there (mid g touch) (touched g touch) s c.args.number (fits_mid g touch s fits) c.requires.going.table (there g touch) c.requires.may.free c.in-Ok-begin.txn c.in-Ok-begin.ensures.rises.0 c.begin.new.self two c.begin.ensures.works.sizes holds

  kept_begun : Keeps (Ok c.in-Ok-begin.txn) c.args.self.now.store c.begin.new.self (before g touch) two (LeavesTable (sizes_of c.args.self.now.store) s.table s.commits (before g touch).told) 1 0
  kept_begun = keeps_both fits.honest c.in-Ok.ensures.works (c.in-Ok.ensures.keeps fits.newest fits.records s.table s.commits fits.holds) (c.in-Ok-begin.ensures.keeps fits.newest fits.records s.table s.commits (held g touch s fits))

  performs_begun : PerformsStore (Ok c.in-Ok-begin.txn) (reads c.args.number ++ begins) c.args.self.now.store c.begin.new.self (before g touch) two
  performs_begun = store_then c.in-Ok.ensures.asks.rules_are (c.in-Ok.ensures.performs fits.newest fits.records s.table s.commits fits.holds) (c.in-Ok-begin.ensures.performs fits.newest fits.records s.table s.commits (held g touch s fits))

  -- what the whole of it makes
  abbrev whole : Content → List RingOp
  whole x = reads c.args.number ++ begins ++ changes c.args.number (content_at s.table c.args.number) x ++ commits_work

  work_is : work_by s (Set c.args.number c.args.value.now) (wants_page_room s c.args.number c.args.value.now) ≡ whole after
  work_is = ap (work_by s (Set c.args.number c.args.value.now)) model_has ∙ ap whole (sym c.value_of-after.ensures)

-- It stops at the Begin,

pub returns-in-Err-begin : goal.returns-in-Err-begin
returns-in-Err-begin g c =
    let at = (goal.at.returns-in-Err-begin g c).In-Ok in
    record {
      answers = λ s fits.
          let is = sym (model_is s c.args.number c.args.value.now _ c.value_of-after.ensures (c.in-Ok-test_page.ensures.answers s (touched g at) (fits_mid g at s fits))) ∙ c.in_default.is in
          set_written s c.args.number c.args.value.now (wants_page_room s c.args.number c.args.value.now) is c.value_of-after.ensures tt
          (change_stopped c.in-Err-begin.stop (c.args.number / 32) _ _ _ _ (has_group c.requires.going) (asks_then c.in-Ok.field-0 _ (one_touch (c.args.number / 32)) [] _ _ _ _ _ _ c.in-Ok.ensures.asks c.in-Err-begin.ensures.asks))
          (does_of (omega arith) tt
          (keeps_weaker (early (sizes_of c.args.self.now.store) s _ _) (keeps_failed (keeps_both fits.honest c.in-Ok.ensures.works (c.in-Ok.ensures.keeps fits.newest fits.records s.table s.commits fits.holds) (c.in-Err-begin.ensures.keeps fits.newest fits.records s.table s.commits (held g at s fits))))));
      performs = λ s fits.
          let is = sym (model_is s c.args.number c.args.value.now _ c.value_of-after.ensures (c.in-Ok-test_page.ensures.answers s (touched g at) (fits_mid g at s fits))) ∙ c.in_default.is in
          performs_as (ap (work_by s (Set c.args.number c.args.value.now)) is)
          (performs_stopped (changes c.args.number (content_at s.table c.args.number) (Some c.args.value.now) ++ commits_work)
          (store_then c.in-Ok.ensures.asks.rules_are (c.in-Ok.ensures.performs fits.newest fits.records s.table s.commits fits.holds) (c.in-Err-begin.ensures.performs fits.newest fits.records s.table s.commits (held g at s fits))));
      serves = serves_stopped (works_then c.in-Ok.ensures.works c.in-Err-begin.ensures.works) (c.begin.ensures.reads Log ∙ c.touch.ensures.log_reads);
    }

-- at the Update

pub update-requires-clause-front : goal.update-requires-clause-front
update-requires-clause-front g c =
    let same = sym c.begin.ensures.pages in
    let front = c.in-Ok.ensures.front in
    record {
      there = subst (λ (p : PageStore). 0 < length p.pool.frames) same front.there;
      page = subst (λ (p : PageStore). (front_of p.pool.frames).page ≡ c.args.number / 32) same front.page;
    }

pub update-requires-clause-room : goal.update-requires-clause-room
update-requires-clause-room g c =
    subst (λ (p : PageStore). FitsFront p (c.args.number % 32) c.value_of-after.result) (sym c.begin.ensures.pages)
    (subst (λ (o : Option Reply). IfNone o (FitsFront c.touch.new.self.pages (c.args.number % 32) c.value_of-after.result)) c.in_default.is c.in-Ok-test_page.ensures.room)

pub returns-in-Err-update : goal.returns-in-Err-update
returns-in-Err-update g c =
    let bg = (goal.at.returns-in-Err-update g c).In-Ok-begin in
    record {
      answers = λ s fits.
          set_written s c.args.number c.args.value.now (wants_page_room s c.args.number c.args.value.now) (model_has g bg s fits) c.value_of-after.ensures tt
          (change_made c.in-Ok-begin.txn (Err c.in-Err-update.stop) (c.args.number / 32) _ _ _ _ _ _ (has_group c.requires.going) (asks_then c.in-Ok.field-0 _ (one_touch (c.args.number / 32)) [] _ _ _ _ _ _ c.in-Ok.ensures.asks c.in-Ok-begin.ensures.asks) tt c.update.ensures.rules_stay c.update.ensures.reads (stages_err c.in-Err-update.ensures.stages))
          (does_of (omega arith) tt (keeps_weaker (early (sizes_of c.args.self.now.store) s _ _) (keeps_failed (keeps_both fits.honest (works_then c.in-Ok.ensures.works c.in-Ok-begin.ensures.works) (kept_begun g bg s fits) (c.in-Err-update.ensures.keeps fits.newest (log g bg s fits) s.table s.commits (holds g bg s fits))))));
      performs = λ s fits.
          performs_as (work_is g bg s fits)
          (performs_stopped commits_work (store_then (c.in-Ok-begin.ensures.asks.rules_are ∙ c.in-Ok.ensures.asks.rules_are) (performs_begun g bg s fits)
          (performs_as (ap (λ (x : Content). updates c.args.number x c.value_of-after.result) (there_before g bg s fits)) (c.in-Err-update.ensures.performs fits.newest (log g bg s fits) s.table s.commits (holds g bg s fits)))));
      serves = serves_stopped (works_then (works_then c.in-Ok.ensures.works c.in-Ok-begin.ensures.works) c.in-Err-update.ensures.works) (c.update.ensures.reads Log ∙ c.begin.ensures.reads Log ∙ c.touch.ensures.log_reads);
    }

-- or at the Commit; or it is committed.

pub returns-in-Err-seal_commit : goal.returns-in-Err-seal_commit
returns-in-Err-seal_commit g c =
    let bg = (goal.at.returns-in-Err-seal_commit g c).In-Ok-begin in
    let at = (goal.at.returns-in-Err-seal_commit g c).In-Ok in
    let engine = c.args.self.now in
    let going = c.requires.going in
    let old = g.S.Site.state c.args.site.now in
    let written = g.S.Site.state c.update.new.site in
    let txn = c.in-Ok-begin.txn in
    let one : Engine = record engine { store = c.update.new.self } in
    let works = works_then (works_then c.in-Ok.ensures.works c.in-Ok-begin.ensures.works) (works_answered {b = txn} c.in-Ok-update.ensures.works) in
    record {
      answers = λ s fits.
          let made = c.touch.ensures.made in
          let w : HasOneWrite c.update.new.self written fits.newest fits.records s.table s.commits txn c.args.number c.value_of-after.result =
          one_write (mid g at) (touched g at) s c.args.number (fits_mid g at s fits) going.table (there g at) (omega (arith, made, c.requires.may.room)) c.in-Ok.ensures.works.going.blocks (cap g at) c.requires.may.free txn c.in-Ok-begin.ensures.rises.0
          c.update.new.self written c.in-Ok-update.field-0 (shown_in c.begin.new.self (two g bg s fits) (log g bg s fits) c.args.number) c.value_of-after.result
          (c.in-Ok-update.ensures.holds fits.newest (log g bg s fits) s.table s.commits (holds g bg s fits) (may g bg s fits c.in-Ok-update.field-0)) in
          let commit = may_commit_one c.update.new.self written fits.newest fits.records s.table s.commits txn c.args.number engine.commits c.value_of-after.result w fits.counts.commits in
          let kept = keeps_both fits.honest (works_then c.in-Ok.ensures.works c.in-Ok-begin.ensures.works) (kept_begun g bg s fits) (keeps_answered {b = txn} (c.in-Ok-update.ensures.keeps fits.newest (log g bg s fits) s.table s.commits (holds g bg s fits))) in
          set_written s c.args.number c.args.value.now (wants_page_room s c.args.number c.args.value.now) (model_has g bg s fits) c.value_of-after.ensures tt
          (asks_then txn _ (one_change (c.args.number / 32)) [] _ _ _ _ _ _
          (change_ok txn txn (c.args.number / 32) _ _ _ _ _ _ (has_group going) (asks_then c.in-Ok.field-0 _ (one_touch (c.args.number / 32)) [] _ _ _ _ _ _ c.in-Ok.ensures.asks c.in-Ok-begin.ensures.asks) c.in-Ok-update.ensures.machine c.update.ensures.rules_stay c.update.ensures.reads (stages_ok c.in-Ok-update.ensures.stages))
          c.in-Err-seal_commit.ensures.asks)
          (does_of (omega arith) tt
          (keeps_then fits.honest (early (sizes_of engine.store) s _ old.told) (late_commit (sizes_of engine.store) (sizes_of c.update.new.self) old _ s c.args.number c.value_of-after.result (writes_in txn w.log) works.sizes (sets_one w))
          works kept (c.in-Err-seal_commit.ensures.keeps fits.newest w.log s.table s.commits w.holds commit)));
      performs = λ s fits.
          let made = c.touch.ensures.made in
          let w : HasOneWrite c.update.new.self written fits.newest fits.records s.table s.commits txn c.args.number c.value_of-after.result =
          one_write (mid g at) (touched g at) s c.args.number (fits_mid g at s fits) going.table (there g at) (omega (arith, made, c.requires.may.room)) c.in-Ok.ensures.works.going.blocks (cap g at) c.requires.may.free txn c.in-Ok-begin.ensures.rises.0
          c.update.new.self written c.in-Ok-update.field-0 (shown_in c.begin.new.self (two g bg s fits) (log g bg s fits) c.args.number) c.value_of-after.result
          (c.in-Ok-update.ensures.holds fits.newest (log g bg s fits) s.table s.commits (holds g bg s fits) (may g bg s fits c.in-Ok-update.field-0)) in
          performs_as (work_is g bg s fits)
          (store_then (c.update.ensures.rules_stay ∙ c.in-Ok-begin.ensures.asks.rules_are ∙ c.in-Ok.ensures.asks.rules_are)
          (store_then (c.in-Ok-begin.ensures.asks.rules_are ∙ c.in-Ok.ensures.asks.rules_are) (performs_begun g bg s fits)
          (performs_answered {b = txn} (performs_as (ap (λ (x : Content). updates c.args.number x c.value_of-after.result) (there_before g bg s fits)) (c.in-Ok-update.ensures.performs fits.newest (log g bg s fits) s.table s.commits (holds g bg s fits)))))
          (c.in-Err-seal_commit.ensures.performs fits.newest w.log s.table s.commits w.holds));
      serves = serves_stopped (works_then works c.in-Err-seal_commit.ensures.works) (c.seal_commit.ensures.log_reads ∙ c.update.ensures.reads Log ∙ c.begin.ensures.reads Log ∙ c.touch.ensures.log_reads);
    }

pub returns-in-Ok-seal_commit : goal.returns-in-Ok-seal_commit
returns-in-Ok-seal_commit g c =
    let bg = (goal.at.returns-in-Ok-seal_commit g c).In-Ok-begin in
    let at = (goal.at.returns-in-Ok-seal_commit g c).In-Ok in
    let engine = c.args.self.now in
    let going = c.requires.going in
    let old = g.S.Site.state c.args.site.now in
    let written = g.S.Site.state c.update.new.site in
    let txn = c.in-Ok-begin.txn in
    let one : Engine = record engine { store = c.update.new.self } in
    let works = works_then (works_then c.in-Ok.ensures.works c.in-Ok-begin.ensures.works) (works_answered {b = txn} c.in-Ok-update.ensures.works) in
    record {
      answers = λ s fits.
          let made = c.touch.ensures.made in
          let w : HasOneWrite c.update.new.self written fits.newest fits.records s.table s.commits txn c.args.number c.value_of-after.result =
          one_write (mid g at) (touched g at) s c.args.number (fits_mid g at s fits) going.table (there g at) (omega (arith, made, c.requires.may.room)) c.in-Ok.ensures.works.going.blocks (cap g at) c.requires.may.free txn c.in-Ok-begin.ensures.rises.0
          c.update.new.self written c.in-Ok-update.field-0 (shown_in c.begin.new.self (two g bg s fits) (log g bg s fits) c.args.number) c.value_of-after.result
          (c.in-Ok-update.ensures.holds fits.newest (log g bg s fits) s.table s.commits (holds g bg s fits) (may g bg s fits c.in-Ok-update.field-0)) in
          let commit = may_commit_one c.update.new.self written fits.newest fits.records s.table s.commits txn c.args.number engine.commits c.value_of-after.result w fits.counts.commits in
          let kept = keeps_both fits.honest (works_then c.in-Ok.ensures.works c.in-Ok-begin.ensures.works) (kept_begun g bg s fits) (keeps_answered {b = txn} (c.in-Ok-update.ensures.keeps fits.newest (log g bg s fits) s.table s.commits (holds g bg s fits))) in
          let sealed = c.in-Ok-seal_commit.ensures.holds fits.newest w.log s.table s.commits w.holds commit in
          let all = works_then works c.in-Ok-seal_commit.ensures.works in
          set_written s c.args.number c.args.value.now (wants_page_room s c.args.number c.args.value.now) (model_has g bg s fits) c.value_of-after.ensures (c.in-Ok-seal_commit.ensures.reply ∙ ap (λ (n : ℕ). reply.Committed (n + 1)) fits.counts.commits)
          (asks_then txn _ (one_change (c.args.number / 32)) [] _ _ _ _ _ _
          (change_ok txn txn (c.args.number / 32) _ _ _ _ _ _ (has_group going) (asks_then c.in-Ok.field-0 _ (one_touch (c.args.number / 32)) [] _ _ _ _ _ _ c.in-Ok.ensures.asks c.in-Ok-begin.ensures.asks) c.in-Ok-update.ensures.machine c.update.ensures.rules_stay c.update.ensures.reads (stages_ok c.in-Ok-update.ensures.stages))
          c.in-Ok-seal_commit.ensures.asks)
          (does_of (omega arith) (set_fits engine one c.seal_commit.new.self old written _ s c.args.number txn sealed.0 c.value_of-after.result fits w (stays_honest old _ all.calls.preserves fits.honest) sealed.1
          refl c.seal_commit.ensures.rest c.in-Ok-seal_commit.ensures.commits works.made c.in-Ok-seal_commit.ensures.works.made going.footprints c.requires.may.free)
          (keeps_then fits.honest (early (sizes_of engine.store) s _ old.told) (late_commit (sizes_of engine.store) (sizes_of c.update.new.self) old _ s c.args.number c.value_of-after.result (writes_in txn w.log) works.sizes (sets_one w))
          works kept (c.in-Ok-seal_commit.ensures.keeps fits.newest w.log s.table s.commits w.holds commit)));
      performs = λ s fits.
          let made = c.touch.ensures.made in
          let w : HasOneWrite c.update.new.self written fits.newest fits.records s.table s.commits txn c.args.number c.value_of-after.result =
          one_write (mid g at) (touched g at) s c.args.number (fits_mid g at s fits) going.table (there g at) (omega (arith, made, c.requires.may.room)) c.in-Ok.ensures.works.going.blocks (cap g at) c.requires.may.free txn c.in-Ok-begin.ensures.rises.0
          c.update.new.self written c.in-Ok-update.field-0 (shown_in c.begin.new.self (two g bg s fits) (log g bg s fits) c.args.number) c.value_of-after.result
          (c.in-Ok-update.ensures.holds fits.newest (log g bg s fits) s.table s.commits (holds g bg s fits) (may g bg s fits c.in-Ok-update.field-0)) in
          performs_as (work_is g bg s fits)
          (store_then (c.update.ensures.rules_stay ∙ c.in-Ok-begin.ensures.asks.rules_are ∙ c.in-Ok.ensures.asks.rules_are)
          (store_then (c.in-Ok-begin.ensures.asks.rules_are ∙ c.in-Ok.ensures.asks.rules_are) (performs_begun g bg s fits)
          (performs_answered {b = txn} (performs_as (ap (λ (x : Content). updates c.args.number x c.value_of-after.result) (there_before g bg s fits)) (c.in-Ok-update.ensures.performs fits.newest (log g bg s fits) s.table s.commits (holds g bg s fits)))))
          (c.in-Ok-seal_commit.ensures.performs fits.newest w.log s.table s.commits w.holds));
      serves =
          let last = c.seal_commit.new.self in
          let engine_is : last ≡ record engine { store = last.store; commits = last.commits } = c.seal_commit.ensures.rest in
          record {
            log_reads = c.seal_commit.ensures.log_reads ∙ c.update.ensures.reads Log ∙ c.begin.ensures.reads Log ∙ c.touch.ensures.log_reads;
            keeps = serves_still going (works_then works c.in-Ok-seal_commit.ensures.works) (ap (λ (x : Engine). x.ended) engine_is) (ap (λ (x : Engine). x.cap) engine_is) (ap (λ (x : Engine). x.active) engine_is)
                (omega (arith, c.requires.may.room)) (let rises = works.rises in omega (arith, c.in-Ok-seal_commit.ensures.commits, going.commits, rises, c.in-Ok-seal_commit.ensures.rises))
                (subst (λ (x : Engine). AreLocked x.footprints x.locks) (sym engine_is) going.footprints);
          };
    }
