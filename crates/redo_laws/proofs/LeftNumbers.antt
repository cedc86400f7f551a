-- The numbers of the rings in what a call has left.
use Rattle.std.proofs.lemmas.Grind.{common_steps}
use Rattle.redo_laws.proofs.Citing.{◌≡◌, ◌+◌, ◌*◌, ◌≤◌, Bool, true, false, List, [], ◌∷◌, ◌++◌, length, refl, ap, arith, ℕ, length-append, AllByRecursion, Result, Ok, Err, OnOk, ◌≢◌, if◌then◌else◌, ring_kept, Change, AppendsMaster, Reaches, ring_of, IsReached, IsFrontOf, LeavesFront, Masters, Blocks, log_shape, master_shape, KeepsUnits, LogList, changes_if, LeavesLog, has_tail, LogStore, calls_logged, paid, cost_reached, AreReady, LeavesPages, PageStore, blocks_to, HasNumbers, SkipsNone, hi_of, Units, each_both, each_weaker, leaves_weaker, ok_as, Leaves, LeavesOnly, ChangesOnly, State, Image, Snapshot, IsQuiet, Geometry, Log, Stop, end_forced}
use Rattle.std.specs.Prelude.{Some}
use Rattle.std_lemmas.proofs.AllOf.{all_left}
use Rattle.page_store.specs.Costs.{CallsForUnits}
use Rattle.redo_laws.proofs.Touched.{tail_blocks}
use Rattle.redo_laws.proofs.Forced.{seals_only, same_blocks}
use Rattle.redo_laws.proofs.RingNumbers.{leaves_more}

-- the ring's next block is the one behind the blocks that are held
pub ready_next : (pages : PageStore) (log : LogStore) (list : LogList) (site : State) → AreReady pages log list site → log.ring.hi ≡ list.first + length list.blocks
ready_next pages log list site ready = let hi = ready.blocks.hi in let next = ready.records.blocks.next in omega (arith, hi, next)

-- a ring that keeps its units keeps its next number
pub masters_same : (old new : Image) → KeepsUnits master_shape old new → hi_of master_shape new.log ≡ hi_of master_shape old.log
masters_same old new keeps = ap (λ (u : Units). u.hi) keeps.units

pub blocks_same : (g : Geometry) (old new : Image) → KeepsUnits (log_shape g) old new → hi_of (log_shape g) new.log ≡ hi_of (log_shape g) old.log
blocks_same g old new keeps = ap (λ (u : Units). u.hi) keeps.units

-- the blocks that are left are those that were sealed, or the tail that was there is one more
pub blocks_left : (g : Geometry) (log : LogStore) (list : LogList) (sealing : Bool) (told : List ℕ) (s : Snapshot) → log.ring.hi ≡ list.first + length list.blocks → (sealing ≡ true → has_tail log ≡ true)
    → LeavesLog g sealing list told s → hi_of (log_shape g) s.image.log ≤ blocks_to log
blocks_left g log list sealing told s hi some leaves = grind (arith, tail_blocks, length-append)

-- so no number is skipped where the masters stay
numbers_left : (g : Geometry) (log : LogStore) (list : LogList) (sealing : Bool) (told : List ℕ) (old : Image) (n : ℕ) (s : Snapshot) → log.ring.hi ≡ list.first + length list.blocks → (sealing ≡ true → has_tail log ≡ true)
    → LeavesLog g sealing list told s → KeepsUnits master_shape old s.image → HasNumbers g (blocks_to log + n) (hi_of master_shape old.log + 0) s.image
numbers_left g log list sealing told old n s hi some leaves keeps =
    record { blocks = omega (arith, blocks_left g log list sealing told s hi some leaves); masters = omega (arith, masters_same old s.image keeps) }

-- what the blocks cost that a call on the log seals
paid_if : (sealing : Bool) (list : LogList) (hi hi' : ℕ) → hi' ≡ (if sealing then hi + 1 else hi) → paid (changes_if sealing list) + 5 * hi ≡ 5 * hi'
paid_if true list hi hi' next = let five : paid (changes_if true list) ≡ 5 = refl in omega (arith, five, next)
paid_if false list hi hi' next = let none : paid (changes_if false list) ≡ 0 = refl in omega (arith, none, next)

-- a call on the log makes so many calls of the site
pub log_calls : {T : Type 0} (r : Result T Stop) (g : Geometry) (hi hi' : ℕ) (list : LogList) (sealing : Bool) (site new : State) → IsQuiet site → ChangesOnly Log site new → OnOk r (Reaches g (changes_if sealing list) site.image new.image)
    → OnOk r (hi' ≡ (if sealing then hi + 1 else hi)) → OnOk r (length new.past + 5 * hi ≡ length site.past + 5 * hi') → OnOk r (CallsForUnits g site new)
log_calls (Ok x) g hi hi' list sealing site new quiet changes reaches next calls =
    calls_logged g site new quiet changes (omega (arith, cost_reached g (changes_if sealing list) site.image new.image reaches, paid_if sealing list hi hi' next, calls))
log_calls (Err e) g hi hi' list sealing site new quiet changes reaches next calls = tt

-- so does one that appends a master unit
pub save_calls : (g : Geometry) (unit : List ℕ) (site new : State) → IsQuiet site → ChangesOnly Log site new → Reaches g (AppendsMaster unit ∷ []) site.image new.image → length new.past ≡ length site.past + 5 → CallsForUnits g site new
save_calls g unit site new quiet changes reaches calls =
    let cost = cost_reached g (AppendsMaster unit ∷ []) site.image new.image reaches in
    let five : paid (AppendsMaster unit ∷ []) ≡ 5 = refl in
    calls_logged g site new quiet changes (omega (arith, cost, five, calls))

-- a call on pages
pub pages_skip : {T : Type 0} (r : Result T Stop) (g : Geometry) (given : ℕ → List ℕ) (log log' : LogStore) (list : LogList) (sealing : Bool) (site new : State) → log.ring.hi ≡ list.first + length list.blocks → (sealing ≡ true → has_tail log ≡ true)
    → LeavesOnly site new (LeavesPages g given sealing list site) → OnOk r (end_forced log' ≡ end_forced log) → OnOk r (CallsForUnits g site new) → SkipsNone r g log log' site new 0 0
pages_skip r g given log log' list sealing site new hi some leaves end calls = record {
  log = ok_as r _ _ (λ is. omega (arith, is)) end;
  any_moment = leaves_weaker site new (LeavesPages g given sealing list site) (λ s. HasNumbers g (blocks_to log + 0) (hi_of master_shape site.image.log + 0) s.image)
      (λ s left. numbers_left g log list sealing site.told site.image 0 s hi some left.log left.masters) leaves;
  device_calls = calls;
}

-- a call on the log
pub log_skips : {T : Type 0} (r : Result T Stop) (g : Geometry) (log log' : LogStore) (list : LogList) (sealing : Bool) (site new : State) (n : ℕ) → log.ring.hi ≡ list.first + length list.blocks → (sealing ≡ true → has_tail log ≡ true)
    → LeavesOnly site new (LeavesLog g sealing list site.told) → LeavesFront g (changes_if sealing list) site new → OnOk r (blocks_to log' ≤ blocks_to log + n) → OnOk r (CallsForUnits g site new) → SkipsNone r g log log' site new n 0
log_skips r g log log' list sealing site new n hi some leaves front count calls = record {
  log = count;
  any_moment = each_weaker site new (λ m. Leaves (LeavesLog g sealing list site.told) m × Leaves (IsReached g (IsFrontOf (changes_if sealing list)) site) m)
      (Leaves (λ s. HasNumbers g (blocks_to log + n) (hi_of master_shape site.image.log + 0) s.image))
      (λ m both s left. numbers_left g log list sealing site.told site.image n s hi some (both.0 s left) (masters_kept s (both.1 s left)))
      (each_both site new (Leaves (LeavesLog g sealing list site.told)) (Leaves (IsReached g (IsFrontOf (changes_if sealing list)) site)) leaves front);
  device_calls = calls;
}
  where
    masters_kept : (s : Snapshot) → IsReached g (IsFrontOf (changes_if sealing list)) site s → KeepsUnits master_shape site.image s.image
    masters_kept s is =
        let others : AllByRecursion (λ change. ring_of change ≢ Some Masters) is.changes = grind (arith, common_steps, all_left, seals_only) in
        ring_kept g Masters is.changes site.image s.image others is.reaches

-- a tail that is sealed was counted before
pub same_at_most : (log log' : LogStore) → has_tail log ≡ true → log'.ring.hi ≡ (if has_tail log then log.ring.hi + 1 else log.ring.hi) → log'.used ≡ 2 → blocks_to log' ≤ blocks_to log + 0
same_at_most log log' some next empty = let same = same_blocks log log' some next empty in omega (arith, same)

-- what has been left of an append to the masters' ring: the blocks stay, and there is at most one master unit more
record HasMasters (g : Geometry) (old new : Image) : Type 0 where
  pub blocks : hi_of (log_shape g) new.log ≡ hi_of (log_shape g) old.log
  pub masters : hi_of master_shape new.log ≤ hi_of master_shape old.log + 1

masters_left : (g : Geometry) (unit : List ℕ) (changes left : List Change) (old new : Image) → AppendsMaster unit ∷ [] ≡ changes ++ left → Reaches g changes old new → HasMasters g old new
masters_left g unit [] left old new is reads =
    record { blocks = blocks_same g old new (reads.rings Blocks); masters = omega (arith, masters_same old new (reads.rings Masters)) }
masters_left g unit (AppendsMaster content ∷ []) left old new is made =
    let mid = made.0 in
    let second = masters_same mid new (made.2.rings Masters) in
    let before : hi_of (log_shape g) mid.log ≡ hi_of (log_shape g) old.log = blocks_same g old mid (made.1.others Blocks (λ same. cc)) in
    let behind = blocks_same g mid new (made.2.rings Blocks) in
    record { blocks = omega (arith, before, behind); masters = omega (arith, ap (λ (u : Units). u.hi) made.1.units, second) }
masters_left g unit (x ∷ y ∷ changes) left old new is made = absurd (let len = ap length is in omega (arith, len))
masters_left g unit (other ∷ []) left old new is made = absurd cc

-- a call that appends a master unit
pub save_skips : {T : Type 0} (r : Result T Stop) (g : Geometry) (log log' : LogStore) (unit : List ℕ) (site new : State) → log.ring.hi ≡ hi_of (log_shape g) site.image.log → LeavesFront g (AppendsMaster unit ∷ []) site new
    → OnOk r (blocks_to log' ≡ blocks_to log) → OnOk r (CallsForUnits g site new) → SkipsNone r g log log' site new 0 1
save_skips r g log log' unit site new hi front count calls = record {
  log = ok_as r _ _ (λ same. omega (arith, same)) count;
  any_moment = leaves_weaker site new (IsReached g (IsFrontOf (AppendsMaster unit ∷ [])) site) (λ s. HasNumbers g (blocks_to log + 0) (hi_of master_shape site.image.log + 1) s.image)
      (λ s is. let has = masters_left g unit is.changes is.made.0 site.image s.image is.made.1 is.reaches in record { blocks = omega (arith, has.blocks, hi); masters = has.masters }) front;
  device_calls = calls;
}

-- a call that stops may have made more checkpoints
pub skips_not_saved : {T E : Type 0} (e : E) (g : Geometry) (old new : LogStore) (before now : State) (n m j : ℕ) → m ≤ j → SkipsNone {T = T} {E = E} (Err e) g old new before now n m → SkipsNone {T = T} {E = E} (Err e) g old new before now n j
skips_not_saved e g old new before now n m j few first = record {
  log = tt;
  any_moment = leaves_more g before now _ _ (hi_of master_shape before.image.log + m) (hi_of master_shape before.image.log + j) (omega arith) (omega (arith, few)) first.any_moment;
  device_calls = tt;
}
