-- The numbers of the rings, life after life.
use Rattle.std.proofs.lemmas.Grind.{common_steps}
use Rattle.face.proofs.Names.{◌≡◌, ℕ, zero, suc, ◌+◌, ◌*◌, ◌≤◌, List, [], true, refl, sym, ap, subst, arith, Option, Master, IsSound, log_under, IsGood, Run, turns_of, AsksNoMore, GivesNumbers, SkipsNoNumber, cache_by, made_by, run_of, staged_by_run, load_run, WearsNone, group_shape, log_shape, master_shape, Blocks, Groups, Masters, LogRecord, WritesOnly, Line, State, CacheLine, next_group, HasNumbers, hi_of, groups_add_up, LinesPushFew, WorkPushesFew, reads_in, HasLimits, blank_image, LeavesOnly, Site, Image, Snapshot, Geometry}
use Rattle.std.proofs.Math.Nat.{suc-mul}
use Rattle.sealed_ring.specs.Laws.{BlankIsRing}
use Rattle.image_meaning.proofs.Blanks.{unused}
use Rattle.face.specs.RingNumbers.{Call, of_load, of_run, HasGiven, HaveLives, IsLifeOf, LivesHaveRoom, LoadsAreComplete, MayBeLeft, NumbersOfLives, RingsSuffice, RunsAreComplete, Work, begun_by, both, no_work, work_of}
use Rattle.face.proofs.RestartGroups.{restart_few}
use Rattle.face.proofs.WornRuns.{number_at_entry}
use Rattle.face.proofs.RingCounts.{never_by_counts}

-- what holds of all that a crash may leave
left_has : (old new : Site) (P : Snapshot → Type 0) → LeavesOnly old new P → (s : Snapshot) → MayBeLeft old new s → P s
left_has old new P leaves s left = grind (arith, common_steps)

-- Groups.

module _ (work_pushes : WorkPushesFew) (lines_push : LinesPushFew) where
  -- the restart and the lines of a run push no more than so
  run_pushes : (pool : ℕ) (run : Run) → HasLimits run.geometry → (newest : Option Master) (image : Image) (blocks : List (List LogRecord)) → IsSound newest run.geometry image blocks
      → next_group (cache_by pool run (turns_of run) newest image blocks) ≤ hi_of (group_shape run.geometry) image.flash + (42 * run.geometry.blocks + reads_in (turns_of run) + 2 * made_by run)
  run_pushes pool run limits newest image blocks sound = grind (arith, number_at_entry, groups_add_up, restart_few)

-- One call.

-- the rings give no more numbers than this from one image to another
record RisesBy (g : Geometry) (work : Work) (before after : Image) : Type 0 where
  on_log : HasNumbers g (hi_of (log_shape g) before.log + g.blocks + work.logged) (hi_of master_shape before.log + 1 + work.checkpoints) after
  groups : hi_of (group_shape g) after.flash ≤ hi_of (group_shape g) before.flash + (42 * g.blocks + work.read + 2 * work.logged)

module _ (work_pushes : WorkPushesFew) (lines_push : LinesPushFew) (g : Geometry) (limits : HasLimits g) (pool : ℕ) (opening : State) (old new : Site) (good : IsGood g opening old) (lines : List Line) (listings : List (List CacheLine)) where
  abbrev run : Run
  run = record { geometry = g; opening = opening; lines = lines; listings = listings }

  rises : SkipsNoNumber run old new → AsksNoMore pool run old new → (s : Snapshot) → MayBeLeft old new s → RisesBy g (work_of run) old.image s.image
  rises skips asks s left =
      let opens = good.opens in
      let numbers = left_has old new (λ s. GivesNumbers run (log_under opens.newest opens.blocks) old.image s.image) (skips opens.newest opens.blocks opens.sound) s left in
      let blocks = numbers.blocks in
      let masters = numbers.masters in
      let room = opens.sound.records.room_for_undo in
      let staged = staged_by_run pool run (turns_of run) opens.newest old.image opens.blocks in
      let next = next_group (cache_by pool run (turns_of run) opens.newest old.image opens.blocks) in
      let writes = left_has old new (λ s. WritesOnly g staged next old.image s.image) (asks opens.newest opens.blocks opens.sound).writes s left in
      let groups = writes.groups in
      let pushes = run_pushes work_pushes lines_push pool run limits opens.newest old.image opens.blocks opens.sound in
      record {
        on_log = record { blocks = omega (arith, blocks, room); masters = omega (arith, masters) };
        groups = omega (arith, groups, pushes);
      }

-- Life after life.

module _ (ring_of_zeros : BlankIsRing) (work_pushes : WorkPushesFew) (lines_push : LinesPushFew) (g : Geometry) (limits : HasLimits g) where
  call_rises : (old new : Site) (call : Call g old new) (s : Snapshot) → MayBeLeft old new s → RisesBy g (work_of (begun_by call)) old.image s.image
  call_rises old new (of_run r) s left =
      let lines = begun_by (of_run r) in
      rises work_pushes lines_push g limits r.pool r.opening old new r.good lines.lines lines.listings r.headline.resources.asked.numbers r.headline.resources.asked.reads s left
  call_rises old new (of_load l) s left =
      let lines = begun_by (of_load l) in
      rises work_pushes lines_push g limits l.load.pool l.opening old new l.good lines.lines lines.listings l.headline.resources.asked.numbers l.headline.resources.asked.reads s left

  life_rises : (work : Work) (before after : Image) → IsLifeOf g work before after → RisesBy g work before after
  life_rises work before after life =
      subst (λ (w : Work). RisesBy g w before after) (sym life.work_is)
      (subst (λ (i : Image). RisesBy g (work_of (begun_by life.call)) i after) (sym life.entry)
      (subst (λ (i : Image). RisesBy g (work_of (begun_by life.call)) life.old.image i) (sym life.after_is)
      (call_rises life.old life.new life.call life.snapshot life.left)))

  blank_given : HasGiven g 0 no_work (blank_image g)
  blank_given =
      let blocks = (unused ring_of_zeros g limits Blocks).none in
      let masters = (unused ring_of_zeros g limits Masters).none in
      let groups = (unused ring_of_zeros g limits Groups).none in
      record {
        on_log = record { blocks = omega (arith, blocks); masters = omega (arith, masters) };
        groups = omega (arith, groups);
      }

  given_more : (lives : ℕ) (done more : Work) (before after : Image) → HasGiven g lives done before → RisesBy g more before after → HasGiven g (suc lives) (both done more) after
  given_more lives done more before after has risen = grind (arith, suc-mul)

  numbers : (lives : ℕ) (work : Work) (image : Image) → HaveLives g lives work image → HasGiven g lives work image
  numbers zero work image h = subst (λ (w : Work). HasGiven g 0 w image) (sym h.1) (subst (HasGiven g 0 no_work) (sym h.0) blank_given)
  numbers (suc lives) work image h =
      let before = h.0 in
      let done = h.1 in
      let more = h.2 in
      subst (λ (w : Work). HasGiven g (suc lives) w image) (sym h.5)
      (given_more lives done more before image (numbers lives done before h.3) (life_rises more before image h.4))

  room : (lives : ℕ) (work : Work) (image : Image) → HaveLives g lives work image → (run : Run) → run.geometry ≡ g → RingsSuffice g (lives + 1) (both work (work_of run)) → (pool : ℕ) → WearsNone pool run image
  room lives work image h run same enough pool newest blocks sound =
      let has = numbers lives work image h in
      let size : run.geometry.blocks ≡ g.blocks = ap (λ (k : Geometry). k.blocks) same in
      let size' : 42 * run.geometry.blocks ≡ 42 * g.blocks = ap (λ (n : ℕ). 42 * n) size in
      let log : hi_of (log_shape run.geometry) image.log ≡ hi_of (log_shape g) image.log = ap (λ (k : Geometry). hi_of (log_shape k) image.log) same in
      let flash : hi_of (group_shape run.geometry) image.flash ≡ hi_of (group_shape g) image.flash = ap (λ (k : Geometry). hi_of (group_shape k) image.flash) same in
      let owes = sound.records.room_for_undo in
      let made = has.on_log.blocks in
      let saved = has.on_log.masters in
      let given = has.groups in
      let blocks_few = enough.blocks in
      let masters_few = enough.masters in
      let groups_few = enough.groups in
      let pushes = run_pushes work_pushes lines_push pool run (subst HasLimits (sym same) limits) newest image blocks sound in
      let product = suc-mul lives g.blocks in
      let product' = suc-mul lives (42 * g.blocks) in
      never_by_counts pool run newest image blocks sound (omega (arith, owes, made, log, size, blocks_few, product)) (omega (arith, saved, masters_few)) (omega (arith, given, pushes, flash, size', groups_few, product'))

pub numbers_of_lives : BlankIsRing → WorkPushesFew → LinesPushFew → NumbersOfLives
numbers_of_lives ring_of_zeros work_pushes lines_push g limits = numbers ring_of_zeros work_pushes lines_push g limits

pub lives_have_room : BlankIsRing → WorkPushesFew → LinesPushFew → LivesHaveRoom
lives_have_room ring_of_zeros work_pushes lines_push g limits = room ring_of_zeros work_pushes lines_push g limits

pub runs_are_complete : BlankIsRing → WorkPushesFew → LinesPushFew → RunsAreComplete
runs_are_complete ring_of_zeros work_pushes lines_push g limits lives work old h opening good enough pool new status contract quiet in_time =
    contract.complete g opening good quiet (room ring_of_zeros work_pushes lines_push g limits lives work old.image h (run_of g opening true old.input.left []) refl enough pool) in_time

pub loads_are_complete : BlankIsRing → WorkPushesFew → LinesPushFew → LoadsAreComplete
loads_are_complete ring_of_zeros work_pushes lines_push g limits lives work old h opening good load enough new status contract quiet =
    contract.complete g opening good quiet (room ring_of_zeros work_pushes lines_push g limits lives work old.image h (load_run g opening load) refl enough load.pool)
