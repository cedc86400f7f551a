use Rattle.redo_undo.proofs.Names.{◌≡◌, ◌+◌, ◌<◌, ◌^◌, true≢false, ap, List, [], length, take, drop, suc, refl, sym, subst, ◌∙◌, arith, ◌-◌, inl, ◌⊎◌, ℕ, Ok, ⊤, IsTrue, IsAnalysis, seen, Master, kept_by, saved_by, logical_image_under, LeavesTableUnder, Sizes, block_of, log_split, log_from, LogRecord, LogList, PageStore, Content, stages_read, going_still, some_group, ready_next, Keeps, ReadsOne, AsksAtRest, Opening, IsOpened, IsReading, asked_of, opened, HasTaken, calls_then, no_error, of_error, State, Log, Worn, Device, Foreign}
use Rattle.std.proofs.Common.{Err}
use Rattle.std.specs.Prelude.{Option}
use Rattle.redo_undo.proofs.Judging.{read_none, readable_still, finds_them}
use Rattle.redo_undo.proofs.Redoings.{begins, holds_all}
use Rattle.redo_undo.proofs.TakenRecords.{IsUpTo, IsNextBlock, asks_first, up_to_none, opened_count, finds, next_block, one_more_block, all_blocks, same_stop, unfinished_by}
use Rattle.redo_undo.proofs.RedoWorks.{stops_first, stops_reading, asks_with_read, asks_more, asks_all, stops_within}
use Rattle.redo_undo.proofs.Calling.{calls_read, keeps_answered, keeps_failed, keeps_opened, keeps_redoing, keeps_refused_by, redone_then, works_answered, works_nothing, works_read, works_stopped, works_then, reads_worn, not_worn, works_foreign}
use Rattle.redo_undo.proofs.redo_pass.redo.Given.{Over}
use Rattle.redo_undo.proofs.redo_pass.redo.Goals.{In-Ok-read_block, After-loop-block, After-is_sound}
use Rattle.redo_undo.proofs.UndoCalls.{read_refuses}
use Rattle.redo_undo.proofs.redo_pass.redo.Goals as goal

abbrev opening : PageStore → State → Option Master → List (List LogRecord) → List Content → ℕ → Opening
opening pages site newest blocks table commits = record {
  sizes = pages.flash.geometry;
  image = site.image;
  newest = newest;
  blocks = blocks;
  table = table;
  commits = commits;
}

pub returns-in-Err-clause-keeps : goal.returns-in-Err-clause-keeps
returns-in-Err-clause-keeps g c newest blocks table commits own h =
    keeps_refused_by (inl c.in-Err.ensures.stops) c.requires.going.sizes
    (begins c.args.log.now c.args.pages.now (g.S.Site.state c.args.site.now) newest blocks table commits h) (λ same. let memory = c.in-Err.ensures.stops in cc)

pub loop-block-init : goal.loop-block-init
loop-block-init g c =
    let kept = c.kept-block.ensures in
    record {
      works = works_nothing c.requires.going;
      found_going = c.in-Ok.ensures.going;
      room = refl;
      some = omega (arith, kept);
      few = omega arith;
      owed = omega (arith, c.in-Ok.ensures.owed);
      blocks = refl;
      rises = omega arith;
      log_reads = omega arith;
      sizes = let hi = c.in-Ok-judge_of.ensures.sizes in let bound = c.requires.going.log_going.usable.bounded in omega (arith, hi, bound);
      read_to = λ o own size h.
          read_none o c.args.log.now c.args.pages.now (g.S.Site.state c.args.site.now) _ c.kept-block.result h
          (c.in-Ok-judge_of.ensures.heard o own (c.requires.going.sizes ∙ sym size) (ready_next c.args.pages.now c.args.log.now (record { first = kept_by o.newest; blocks = o.blocks; tail = [] }) (g.S.Site.state c.args.site.now) h.ready))
          refl (kept ∙ h.kept);
      up_to = λ newest blocks table commits own h.
          up_to_none c.args.log.now c.args.pages.now (g.S.Site.state c.args.site.now) newest blocks table commits c.in-Ok.found c.in-Ok-judge_of.judge c.kept-block.result c.requires.going.sizes h
          (subst (λ (m : Master). IsAnalysis (seen m) [] c.in-Ok.found) own c.in-Ok.ensures.read)
          (c.in-Ok-judge_of.ensures.heard (opening c.args.pages.now (g.S.Site.state c.args.site.now) newest blocks table commits) own c.requires.going.sizes
          (opened_count c.args.log.now c.args.pages.now (g.S.Site.state c.args.site.now) newest blocks table commits h)) (omega (arith, kept, h.kept));
      asked = λ newest blocks table commits own h.
          asks_first (opening c.args.pages.now (g.S.Site.state c.args.site.now) newest blocks table commits) c.args.pages.now (g.S.Site.state c.args.site.now)
          c.kept-block.result (omega (arith, kept, h.kept));
      keeps = λ newest blocks table commits own h. keeps_redoing c.requires.going.sizes
          (begins c.args.log.now c.args.pages.now (g.S.Site.state c.args.site.now) newest blocks table commits h);
    }

pub take_block-requires-clause-going : goal.take_block-requires-clause-going
take_block-requires-clause-going g c = going_still c.loop-block.log c.loop-block.pages (g.S.Site.state c.loop-block.site) (g.S.Site.state c.read_block.new.site) c.read_block.ensures.reads.preserves c.loop-block.invariant.works.going

-- One block more is read.

module _ (g : Over) (c : In-Ok-read_block g) where
  read_one : ReadsOne {T = ℕ} (Ok c.in-Ok-read_block.used) (g.S.Site.state c.loop-block.site) (g.S.Site.state c.read_block.new.site)
  read_one = record {
    same = c.read_block.ensures.reads.same;
    preserves = c.read_block.ensures.reads.preserves;
    log_reads = c.read_block.ensures.reads.reads;
    others = c.read_block.ensures.reads.others;
    device = c.in-Ok-read_block.ensures.reads.device Log;
    stops = tt;
    faults = c.in-Ok-read_block.ensures.reads.faults;
  }

module _ (g : Over) (c : In-Ok-read_block g) (newest : Option Master) (blocks : List (List LogRecord)) (table : List Content) (commits : ℕ)
    (own : c.args.master.now ≡ saved_by newest)
    (h : IsOpened c.args.pages.now.flash.geometry c.args.log.now c.args.pages.now (g.S.Site.state c.args.site.now) newest blocks table commits) where
  abbrev old : State
  old = g.S.Site.state c.args.site.now

  abbrev mid : State
  mid = g.S.Site.state c.loop-block.site

  abbrev read : State
  read = g.S.Site.state c.read_block.new.site

  abbrev o : Opening
  o = opening c.args.pages.now old newest blocks table commits

  up : IsUpTo o c.loop-block.log c.loop-block.pages old mid c.loop-block.so_far c.loop-block.block
  up = c.loop-block.invariant.up_to newest blocks table commits own h

  inside : c.loop-block.block - kept_by newest < length blocks
  inside =
      let count = opened_count c.args.log.now c.args.pages.now old newest blocks table commits h in
      omega (arith, count, c.sealed_end-block-end.ensures, c.loop-block-test.true, c.loop-block.auto.block, c.kept-block.ensures, h.kept)

  next : IsNextBlock o c.loop-block.log c.loop-block.pages old read c.loop-block.so_far c.loop-block.block c.read_block.new.into c.in-Ok-read_block.used
  next =
      let found = finds o c.loop-block.log c.loop-block.pages old mid c.loop-block.so_far c.loop-block.block up in
      next_block o c.loop-block.log c.loop-block.pages old mid c.loop-block.so_far c.loop-block.block up read c.read_block.new.into c.in-Ok-read_block.used
      c.read_block.ensures.reads.preserves (c.read_block.ensures.reads.same up.taken.pages_are.ready.blocks.honest) inside
      (c.in-Ok-read_block.ensures.holds (record { first = kept_by newest; blocks = blocks; tail = [] }) found up.taken.pages_are.ready.records
      (let from = up.from in omega (arith, from)))

  asked_now : AsksAtRest {T = ⊤} (Ok tt) (asked_of o (log_from (kept_by newest) (take (c.loop-block.block - kept_by newest) blocks))) c.args.pages.now
      c.loop-block.pages old read
  asked_now = asks_with_read o c.args.pages.now c.loop-block.pages old mid read (log_from (kept_by newest) (take (c.loop-block.block - kept_by newest) blocks))
      (c.loop-block.invariant.asked newest blocks table commits own h) c.read_block.ensures.reads.others (stages_read c.read_block.ensures.reads.same c.read_block.ensures.reads.preserves)

  kept_now : Keeps (Ok c.in-Ok-read_block.used) c.args.pages.now.flash.geometry c.args.log.now c.loop-block.log old read
      (LeavesTableUnder newest c.args.pages.now.flash.geometry table commits old.told) 0 0
  kept_now =
      let i = c.loop-block.invariant in
      redone_then h.ready.blocks.honest i.works.geometry refl i.works.calls (i.keeps newest blocks table commits own h)
      (keeps_opened {r = Ok c.in-Ok-read_block.used} i.works.going.sizes up.taken.pages_are (c.read_block.ensures.reads.same up.taken.pages_are.ready.blocks.honest)
      (λ d is. no_error {x = c.in-Ok-read_block.used} {e = Worn d} is) (no_error {x = c.in-Ok-read_block.used} {e = Foreign}))

pub loop-block-preserved : goal.loop-block-preserved
loop-block-preserved g c =
    let old = g.S.Site.state c.args.site.now in
    let new = g.S.Site.state c.take_block.new.site in
    let i = c.loop-block.invariant in
    let t = c.in-Ok-take_block.ensures in
    let s = (goal.at.loop-block-preserved g c).In-Ok-read_block in
    let kept = c.kept-block.ensures in
    let low = c.loop-block.auto.block in
    let one_more = λ (newest : Option Master) (blocks : List (List LogRecord)) (table : List Content) (commits : ℕ) (own : c.args.master.now ≡ saved_by newest)
    (h : IsOpened c.args.pages.now.flash.geometry c.args.log.now c.args.pages.now old newest blocks table commits).
    one_more_block (opening c.args.pages.now old newest blocks table commits) c.loop-block.block (up g s newest blocks table commits own h).from
    (inside g s newest blocks table commits own h) in
    let takes = λ (newest : Option Master) (blocks : List (List LogRecord)) (table : List Content) (commits : ℕ) (own : c.args.master.now ≡ saved_by newest)
    (h : IsOpened c.args.pages.now.flash.geometry c.args.log.now c.args.pages.now old newest blocks table commits).
    let place : ℕ = c.loop-block.block - kept_by newest in
    let next = next g s newest blocks table commits own h in
    t.takes (opening c.args.pages.now old newest blocks table commits) (log_from (kept_by newest) (take place blocks))
    (log_from (c.loop-block.block + 1) (drop (suc place) blocks)) (block_of blocks place)
    own next.taken next.content_is next.used_is next.split in
    record {
      works = works_answered (works_then (works_then i.works (works_read i.works.going (read_one g s))) t.logs_nothing.works);
      found_going = t.found_going;
      room = c.read_block.ensures.room;
      some = omega (arith, i.some, t.some);
      few = omega (arith, i.few, t.few, kept, low);
      owed = omega (arith, i.owed, t.owed);
      blocks = t.logs_nothing.blocks ∙ i.blocks;
      rises = omega (arith, i.rises, t.logs_nothing.hi);
      log_reads = omega (arith, i.log_reads, t.logs_nothing.log_reads, c.read_block.ensures.reads.reads, kept, low);
      sizes = let same = t.sizes in let before = i.sizes in omega (arith, before, ap (λ (x : Sizes). x.hi) same);
      read_to = λ o own size h.
          let up = i.read_to o own size h in
          let mid = g.S.Site.state c.loop-block.site in
          let read = g.S.Site.state c.read_block.new.site in
          let list : LogList = record { first = kept_by o.newest; blocks = o.blocks; tail = [] } in
          let place : ℕ = c.loop-block.block - kept_by o.newest in
          let from = up.from in
          let end = ready_next c.args.pages.now c.args.log.now list old h.ready in
          let inside : place < length o.blocks = omega (arith, end, c.sealed_end-block-end.ensures, c.loop-block-test.true, from, kept, h.kept) in
          let ready = up.reading.readable.ready in
          let found = c.in-Ok-read_block.ensures.holds list (finds_them o c.loop-block.log c.loop-block.pages mid up.reading.readable) ready.records (omega (arith, from)) in
          let still = readable_still o c.loop-block.log c.loop-block.pages mid read c.read_block.ensures.reads.preserves (c.read_block.ensures.reads.same ready.blocks.honest) up.reading.readable in
          record {
            from = omega (arith, from);
            reading = subst (IsReading o c.take_block.new.log c.take_block.new.pages new c.take_block.new.so_far) (one_more_block o c.loop-block.block from inside)
                (t.reads o (log_from (kept_by o.newest) (take place o.blocks)) (log_from (c.loop-block.block + 1) (drop (suc place) o.blocks)) (block_of o.blocks place) own
                (record { readable = still; heard = up.reading.heard; count = up.reading.count }) found.0 found.1
                (log_split (kept_by o.newest) place c.loop-block.block o.blocks (omega (arith, from)) inside));
          };
      up_to = λ newest blocks table commits own h. record {
        from = (let low = (up g s newest blocks table commits own h).from in omega (arith, low));
        taken = subst (HasTaken (opening c.args.pages.now old newest blocks table commits) c.take_block.new.log c.take_block.new.pages new
            c.take_block.new.so_far) (one_more newest blocks table commits own h)
            (takes newest blocks table commits own h).taken;
      };
      asked = λ newest blocks table commits own h.
          asks_more (opening c.args.pages.now old newest blocks table commits) c.args.pages.now c.loop-block.pages c.take_block.new.pages old
          (g.S.Site.state c.read_block.new.site) new _
          (asked_now g s newest blocks table commits own h) _ _ _ (sym (one_more newest blocks table commits own h))
          (takes newest blocks table commits own h).asks;
      keeps = λ newest blocks table commits own h. keeps_answered (redone_then h.ready.blocks.honest i.works.geometry refl
          (calls_then i.works.calls (calls_read (read_one g s)))
          (kept_now g s newest blocks table commits own h) (takes newest blocks table commits own h).keeps);
    }

-- All blocks are read.

module _ (g : Over) (c : After-loop-block g) (newest : Option Master) (blocks : List (List LogRecord)) (table : List Content) (commits : ℕ)
    (own : c.args.master.now ≡ saved_by newest)
    (h : IsOpened c.args.pages.now.flash.geometry c.args.log.now c.args.pages.now (g.S.Site.state c.args.site.now) newest blocks table commits) where
  all_are : log_from (kept_by newest) (take (c.loop-block.block - kept_by newest) blocks) ≡ log_from (kept_by newest) blocks
  all_are =
      let count = opened_count c.args.log.now c.args.pages.now (g.S.Site.state c.args.site.now) newest blocks table commits h in
      all_blocks (opening c.args.pages.now (g.S.Site.state c.args.site.now) newest blocks table commits) c.loop-block.block
      (omega (arith, count, c.sealed_end-block-end.ensures, c.loop-block-test.false, c.loop-block.auto.block-end))

  all_taken : HasTaken (opening c.args.pages.now (g.S.Site.state c.args.site.now) newest blocks table commits) c.loop-block.log c.loop-block.pages
      (g.S.Site.state c.loop-block.site) c.loop-block.so_far
      (log_from (kept_by newest) blocks)
  all_taken = subst (HasTaken (opening c.args.pages.now (g.S.Site.state c.args.site.now) newest blocks table commits) c.loop-block.log c.loop-block.pages
      (g.S.Site.state c.loop-block.site) c.loop-block.so_far)
      all_are (c.loop-block.invariant.up_to newest blocks table commits own h).taken

pub returns-clause-holds : goal.returns-clause-holds
returns-clause-holds g c newest blocks table commits own h =
    holds_all
    (opening c.args.pages.now (g.S.Site.state c.args.site.now) newest blocks table commits)
    c.loop-block.log c.loop-block.pages (g.S.Site.state c.loop-block.site) (all_taken g (goal.at.returns-clause-holds g c).After-loop-block newest blocks table commits own h).pages_are
    c.loop-block.invariant.works.going.sizes

pub returns-clause-read : goal.returns-clause-read
returns-clause-read g c newest blocks table commits own h = (all_taken g (goal.at.returns-clause-read g c).After-loop-block newest blocks table commits own h).analysis

pub returns-clause-count : goal.returns-clause-count
returns-clause-count g c newest blocks table commits own h = (all_taken g (goal.at.returns-clause-count g c).After-loop-block newest blocks table commits own h).count

pub returns-clause-unfinished : goal.returns-clause-unfinished
returns-clause-unfinished g c newest blocks table commits own h =
    let table_is = (all_taken g (goal.at.returns-clause-unfinished g c).After-loop-block newest blocks table commits own h).analysis.table in
    unfinished_by c.table_of_records.ensures.one c.losers_are_taken.ensures.table c.table_of_records.ensures.unfinished (logical_image_under newest c.args.pages.now.flash.geometry (g.S.Site.state c.args.site.now).image blocks) h.sound.records c.loop-block.so_far.found table_is

pub returns-clause-asks : goal.returns-clause-asks
returns-clause-asks g c newest blocks table commits own h =
    let old = g.S.Site.state c.args.site.now in
    asks_all _ (opening c.args.pages.now old newest blocks table commits) c.args.pages.now c.loop-block.pages old (g.S.Site.state c.loop-block.site) _ _
    (all_are g (goal.at.returns-clause-asks g c).After-loop-block newest blocks table commits own h)
    (c.loop-block.invariant.asked newest blocks table commits own h)

pub returns-clause-keeps : goal.returns-clause-keeps
returns-clause-keeps g c newest blocks table commits own h = keeps_answered (c.loop-block.invariant.keeps newest blocks table commits own h)

-- All of them are judged.

pub is_sound-requires : goal.is_sound-requires
is_sound-requires g c = record { few = c.loop-block.invariant.sizes }

module _ (g : Over) (c : After-is_sound g) where
  few_now : (o : Opening) → c.loop-block.so_far.records ≡ length (log_from (kept_by o.newest) o.blocks) → length (log_from (kept_by o.newest) o.blocks) < 2 ^ 62
  few_now o count =
      let few = c.loop-block.invariant.few in
      let bound = c.loop-block.invariant.works.going.log_going.usable.bounded in
      let end = c.loop-block.auto.block-end in
      omega (arith, count, few, bound, end, c.sealed_end-block-end.ensures)

pub returns-clause-judged : goal.returns-clause-judged
returns-clause-judged g c o own size h =
    let s = (goal.at.returns-clause-judged g c).After-is_sound in
    let up = c.loop-block.invariant.read_to o own size h in
    let end = ready_next c.args.pages.now c.args.log.now (record { first = kept_by o.newest; blocks = o.blocks; tail = [] }) (g.S.Site.state c.args.site.now) h.ready in
    let from = up.from in
    let whole = all_blocks o c.loop-block.block (omega (arith, end, c.sealed_end-block-end.ensures, c.loop-block-test.false, c.loop-block.auto.block-end, from)) in
    let reading = subst (IsReading o c.loop-block.log c.loop-block.pages (g.S.Site.state c.loop-block.site) c.loop-block.so_far) whole up.reading in
    (c.is_sound.ensures (opened o) (ap seen (sym own)) reading.heard (few_now g s o reading.count)).0 c.if-not-is_sound.false

sound_there : (g : Over) (c : After-is_sound g) (newest : Option Master) (blocks : List (List LogRecord)) (table : List Content) (commits : ℕ) → c.args.master.now ≡ saved_by newest →
    IsOpened c.args.pages.now.flash.geometry c.args.log.now c.args.pages.now (g.S.Site.state c.args.site.now) newest blocks table commits → IsTrue c.is_sound.result
sound_there g c newest blocks table commits own h =
    let o : Opening = opening c.args.pages.now (g.S.Site.state c.args.site.now) newest blocks table commits in
    let count = opened_count c.args.log.now c.args.pages.now (g.S.Site.state c.args.site.now) newest blocks table commits h in
    let up = c.loop-block.invariant.up_to newest blocks table commits own h in
    let from = up.from in
    let whole = all_blocks o c.loop-block.block (omega (arith, count, c.sealed_end-block-end.ensures, c.loop-block-test.false, c.loop-block.auto.block-end, from)) in
    let taken = subst (HasTaken o c.loop-block.log c.loop-block.pages (g.S.Site.state c.loop-block.site) c.loop-block.so_far) whole up.taken in
    (c.is_sound.ensures (opened o) (ap seen (sym own)) taken.heard (few_now g c o taken.count)).1 (c.sound_is_judged.ensures (opened o) h.sound.records)

pub returns-then-not-is_sound-clause-asks : goal.returns-then-not-is_sound-clause-asks
returns-then-not-is_sound-clause-asks g c newest blocks table commits own h =
    absurd {A = AsksAtRest _ _ _ _ _ _} (true≢false (sym (sound_there g (goal.at.returns-then-not-is_sound-clause-asks g c).After-is_sound newest blocks table commits own h) ∙ c.if-not-is_sound.true))

pub returns-then-not-is_sound-clause-keeps : goal.returns-then-not-is_sound-clause-keeps
returns-then-not-is_sound-clause-keeps g c newest blocks table commits own h =
    absurd (true≢false (sym (sound_there g (goal.at.returns-then-not-is_sound-clause-keeps g c).After-is_sound newest blocks table commits own h) ∙ c.if-not-is_sound.true))

pub returns-then-not-is_sound-clause-works : goal.returns-then-not-is_sound-clause-works
returns-then-not-is_sound-clause-works g c = works_foreign c.loop-block.invariant.works

pub returns-then-not-is_sound-clause-log_reads : goal.returns-then-not-is_sound-clause-log_reads
returns-then-not-is_sound-clause-log_reads g c =
    let reads = c.loop-block.invariant.log_reads in
    omega (arith, reads, c.loop-block.auto.block-end, c.kept-block.ensures, c.sealed_end-block-end.ensures)

pub returns-clause-works : goal.returns-clause-works
returns-clause-works g c = works_answered c.loop-block.invariant.works

-- Nothing is judged yet.

pub returns-in-Err-judge_of-clause-keeps : goal.returns-in-Err-judge_of-clause-keeps
returns-in-Err-judge_of-clause-keeps g c newest blocks table commits own h =
    let site = g.S.Site.state c.args.site.now in
    let o : Opening = opening c.args.pages.now site newest blocks table commits in
    keeps_refused_by c.in-Err-judge_of.ensures.stops c.requires.going.sizes (begins c.args.log.now c.args.pages.now site newest blocks table commits h)
    (λ same. c.in-Err-judge_of.ensures.foreign o own c.requires.going.sizes (opened_count c.args.log.now c.args.pages.now site newest blocks table commits h) (ap Err same)
    (c.sound_is_judged.ensures (opened o) h.sound.records))

pub returns-in-Err-judge_of-clause-asks : goal.returns-in-Err-judge_of-clause-asks
returns-in-Err-judge_of-clause-asks g c newest blocks table commits own h =
    let site = g.S.Site.state c.args.site.now in
    let pages = c.args.pages.now in
    stops_first c.in-Err-judge_of.stop (asked_of (opening pages site newest blocks table commits) (log_from (kept_by newest) blocks)) pages site
    (some_group c.requires.going) (not_worn c.in-Err-judge_of.stop c.in-Err-judge_of.ensures.stops)

-- The analysis isn't begun.

pub returns-in-Err-clause-asks : goal.returns-in-Err-clause-asks
returns-in-Err-clause-asks g c newest blocks table commits own h =
    let site = g.S.Site.state c.args.site.now in
    let pages = c.args.pages.now in
    stops_first c.in-Err.stop (asked_of (opening pages site newest blocks table commits) (log_from (kept_by newest) blocks)) pages site
    (some_group c.requires.going)
    (λ dev same. let memory = c.in-Err.ensures.stops in cc)

-- A block isn't read.

pub returns-in-Err-read_block-clause-asks : goal.returns-in-Err-read_block-clause-asks
returns-in-Err-read_block-clause-asks g c newest blocks table commits own h =
    let old = g.S.Site.state c.args.site.now in
    let mid = g.S.Site.state c.loop-block.site in
    let read = g.S.Site.state c.read_block.new.site in
    let pages = c.loop-block.pages in
    let count = opened_count c.args.log.now c.args.pages.now old newest blocks table commits h in
    let from = c.loop-block.auto.block in
    let own_kept = h.kept in
    let inside : c.loop-block.block - kept_by newest < length blocks = omega (arith, count, c.sealed_end-block-end.ensures, c.loop-block-test.true, from, c.kept-block.ensures, own_kept) in
    stops_within (opening c.args.pages.now old newest blocks table commits) c.args.pages.now pages pages old mid read
    (log_from (kept_by newest) (take (c.loop-block.block - kept_by newest) blocks))
    (c.loop-block.invariant.asked newest blocks table commits own h) {A = ⊤} c.in-Err-read_block.stop [] _ (log_from (kept_by newest) blocks)
    (some_group c.requires.going)
    (log_split (kept_by newest) (c.loop-block.block - kept_by newest) c.loop-block.block blocks (omega (arith, from, c.kept-block.ensures, own_kept)) inside)
    (stops_reading c.in-Err-read_block.stop pages mid read c.read_block.ensures.reads.others (read_refuses c.in-Err-read_block.stop c.in-Err-read_block.ensures.stops) (stages_read c.read_block.ensures.reads.same c.read_block.ensures.reads.preserves))

pub returns-in-Err-read_block-clause-keeps : goal.returns-in-Err-read_block-clause-keeps
returns-in-Err-read_block-clause-keeps g c newest blocks table commits own h =
    let i = c.loop-block.invariant in
    let up = i.up_to newest blocks table commits own h in
    let found = finds (opening c.args.pages.now (g.S.Site.state c.args.site.now) newest blocks table commits) c.loop-block.log
    c.loop-block.pages (g.S.Site.state c.args.site.now)
    (g.S.Site.state c.loop-block.site) c.loop-block.so_far c.loop-block.block up in
    keeps_failed (redone_then h.ready.blocks.honest i.works.geometry refl i.works.calls (i.keeps newest blocks table commits own h)
    (keeps_opened {T = ℕ} {r = Err c.in-Err-read_block.stop} i.works.going.sizes up.taken.pages_are (c.read_block.ensures.reads.same up.taken.pages_are.ready.blocks.honest)
    (λ d is. reads_worn d (of_error {T = ℕ} (Err c.in-Err-read_block.stop) (λ stop. (stop ≡ Device Log) ⊎ (stop ≡ Foreign)) (Worn d)
    c.in-Err-read_block.ensures.stops is))
    (λ is. c.in-Err-read_block.ensures.readable (record { first = kept_by newest; blocks = blocks; tail = [] }) found up.taken.pages_are.ready.records
    (let from = up.from in omega (arith, from)) (same_stop _ _ is))))

pub returns-in-Err-read_block-clause-works : goal.returns-in-Err-read_block-clause-works
returns-in-Err-read_block-clause-works g c =
    let read : ReadsOne {T = ℕ} (Err c.in-Err-read_block.stop) (g.S.Site.state c.loop-block.site) (g.S.Site.state c.read_block.new.site) = record {
      same = c.read_block.ensures.reads.same;
      preserves = c.read_block.ensures.reads.preserves;
      log_reads = c.read_block.ensures.reads.reads;
      others = c.read_block.ensures.reads.others;
      device = c.in-Err-read_block.ensures.reads.device Log;
      stops = c.in-Err-read_block.ensures.stops;
      faults = c.in-Err-read_block.ensures.reads.faults;
    } in
    works_stopped c.loop-block.invariant.works (works_read c.loop-block.invariant.works.going read)

-- Its records aren't.

pub returns-in-Err-take_block-clause-asks : goal.returns-in-Err-take_block-clause-asks
returns-in-Err-take_block-clause-asks g c newest blocks table commits own h =
    let old = g.S.Site.state c.args.site.now in
    let o : Opening = opening c.args.pages.now old newest blocks table commits in
    let s = (goal.at.returns-in-Err-take_block-clause-asks g c).In-Ok-read_block in
    let next = next g s newest blocks table commits own h in
    let place : ℕ = c.loop-block.block - kept_by newest in
    let front = log_from (kept_by newest) (take place blocks) in
    let behind = log_from (c.loop-block.block + 1) (drop (suc place) blocks) in
    stops_within o c.args.pages.now c.loop-block.pages c.take_block.new.pages old (g.S.Site.state c.read_block.new.site) (g.S.Site.state c.take_block.new.site)
    front (asked_now g s newest blocks table commits own h)
    c.in-Err-take_block.stop _ behind (log_from (kept_by newest) blocks) (some_group c.requires.going) next.split
    (c.in-Err-take_block.ensures.takes o front behind (block_of blocks place) own next.taken next.content_is next.used_is next.split).asks

pub returns-in-Err-take_block-clause-keeps : goal.returns-in-Err-take_block-clause-keeps
returns-in-Err-take_block-clause-keeps g c newest blocks table commits own h =
    let s = (goal.at.returns-in-Err-take_block-clause-keeps g c).In-Ok-read_block in
    let next = next g s newest blocks table commits own h in
    let place : ℕ = c.loop-block.block - kept_by newest in
    let i = c.loop-block.invariant in
    keeps_failed (redone_then h.ready.blocks.honest i.works.geometry refl (calls_then i.works.calls (calls_read (read_one g s)))
    (kept_now g s newest blocks table commits own h)
    (c.in-Err-take_block.ensures.takes (opening c.args.pages.now (g.S.Site.state c.args.site.now) newest blocks table commits)
    (log_from (kept_by newest) (take place blocks))
    (log_from (c.loop-block.block + 1) (drop (suc place) blocks)) (block_of blocks place) own next.taken next.content_is next.used_is next.split).keeps)

pub returns-in-Err-take_block-clause-works : goal.returns-in-Err-take_block-clause-works
returns-in-Err-take_block-clause-works g c =
    let i = c.loop-block.invariant in
    works_stopped (works_then i.works (works_read i.works.going (read_one g (goal.at.returns-in-Err-take_block-clause-works g c).In-Ok-read_block)))
    c.in-Err-take_block.ensures.logs_nothing.works
