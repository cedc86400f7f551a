-- What sealing the tail leaves.
use Rattle.log_store.proofs.Names.{◌≡◌, ◌⊎◌, inl, inr, ⊎_elim, ℕ, ◌+◌, ◌-◌, ◌≤◌, ◌<◌, Bool, true, List, [], ◌∷◌, ◌++◌, length, replicate, refl, sym, ap, ◌∙◌, subst, arith, slice_index, append_makes, append_done, reads_itself, Blocks, log_shape, units_on, length-block, AreBlock, LogList, sealed_if, changes_if, Invariant, HasRoom, Matches, Finds, HasBlocks, Represents, LeavesLog, KeepsBeside, LogStore, region, IsReady, LeavesOldOrNew, IsRing, SameOutside, units_of, appended, Ring, Shape, leaves_weaker, leaves_others_too, no_call, settled_leaves, told_is, unchanged, Preserves, Leaves, LeavesOnly, OnlyDevice, State, Image, Snapshot, IsSettled, IsQuiet, Geometry, Log}
use Rattle.log_records.specs.Spelling.{block}
use Rattle.image_changes.specs.Changes.{Change, SealsBlock, ReadsAs, Appends, Reaches}
use Rattle.image_changes.specs.Reached.{IsReached, IsFrontOf, LeavesFront}
use Rattle.image_changes.specs.Laws.{KeepsOrAppends}
use Rattle.image_changes.proofs.Adding.{none_made}
use Rattle.log_store.proofs.TailLaws.{tail_has_block}
use Rattle.log_store.proofs.BlockLaws.{blocks_stay, blocks_more}
use Rattle.sealed_ring.specs.Ready as ready

-- where nothing is sealed
pub none_left : (g : Geometry) (sealing : Bool) (log : LogList) (site : State) → IsSettled Log site → HasBlocks g log.first log.blocks site.image → LeavesOnly site site (LeavesLog g sealing log site.told)
none_left g sealing log site settled has =
    no_call site (Leaves (LeavesLog g sealing log site.told)) (λ snapshot left.
    let is = settled_leaves Log site snapshot settled left in record {
      told = told_is site snapshot left;
      blocks = inl (blocks_stay g log.first log.blocks site.image snapshot.image has (record { units = ap (units_of (log_shape g)) is; form = λ form. subst (IsRing (log_shape g)) (sym is) form }));
    })

-- nothing of a site that stays as it is has another place
pub none_beside : (g : Geometry) (site : State) → IsSettled Log site → LeavesOnly site site (KeepsBeside g site.image)
none_beside g site settled =
    no_call site (Leaves (KeepsBeside g site.image)) (λ snapshot left.
    let is = settled_leaves Log site snapshot settled left in record { size = ap length is; outside = λ p out. ap (λ (l : List ℕ). slice_index l p) is })

-- and an append leaves all beside its ring
pub seal_beside : (store : LogStore) (old new : State) (bytes : List ℕ) → Invariant store old → LeavesOnly old new (LeavesOldOrNew store.ring.shape (region store.ring.shape old) bytes) → LeavesOnly old new (KeepsBeside store.geometry old.image)
seal_beside store old new bytes going so_far =
    leaves_weaker old new (LeavesOldOrNew (log_shape store.geometry) old.image.log bytes) (KeepsBeside store.geometry old.image) (λ snapshot p. record { size = p.size; outside = p.outside })
    (subst (λ (s : Shape). LeavesOnly old new (LeavesOldOrNew s (region s old) bytes)) going.shape so_far)

pub none_front : (g : Geometry) (all : List Change) (site : State) → IsQuiet site → LeavesFront g all site site
none_front g all site quiet = none_made g (IsFrontOf all) site site quiet (all, refl) (unchanged site)

-- the ring of a store that fits is ready
pub ring_ready : (store : LogStore) (site : State) → Invariant store site → Matches store site → IsReady store.ring site
ring_ready store site going fits = grind arith

-- the ring of a store that found its log is found
pub ring_finds : (store : LogStore) (site : State) → Invariant store site → Finds store site → ready.Finds store.ring site
ring_finds store site going finds = grind arith

-- an append of the tail's block
module _ (store : LogStore) (old new : State) (log : LogList) (bytes : List ℕ) (going : Invariant store old) (finds : Finds store old) (holds : Represents store old.image log) (room : HasRoom store) (some : 2 < store.used)
    (is : bytes ≡ block log.tail) (only : OnlyDevice store.ring.shape.dev old new) where
  abbrev g : Geometry
  g = store.geometry

  are : AreBlock log.tail
  are = let low = some in tail_has_block store.tail store.used log.tail holds.tail (omega (arith, low)) going.high

  long : length (block log.tail) ≡ 503
  long = length-block log.tail are.room

  only_log : OnlyDevice Log old new
  only_log = subst (λ (s : Shape). OnlyDevice s.dev old new) going.shape only

  few : length log.blocks + 1 ≤ g.blocks - 1
  few = let next = holds.blocks.next in let hi = finds.hi in let kept = holds.kept in let more = room in omega (arith, next, hi, kept, more)

  more_blocks : (image : Image) → IsRing (log_shape g) image.log → units_on (log_shape g) image ≡ appended (log_shape g) (units_on (log_shape g) old.image) (block log.tail) → HasBlocks g log.first (log.blocks ++ log.tail ∷ []) image
  more_blocks image form units = blocks_more g log.first log.blocks log.tail old.image image holds.blocks few are form units

  module _ (so_far : LeavesOnly old new (LeavesOldOrNew store.ring.shape (region store.ring.shape old) bytes)) where
    leaves : LeavesOnly old new (LeavesOldOrNew (log_shape g) old.image.log (block log.tail))
    leaves = subst (λ (l : List ℕ). LeavesOnly old new (LeavesOldOrNew (log_shape g) old.image.log l)) is
        (subst (λ (s : Shape). LeavesOnly old new (LeavesOldOrNew s (region s old) bytes)) going.shape so_far)

    pub seal_left : (sealing : Bool) → sealing ≡ true → LeavesOnly old new (LeavesLog g sealing log old.told)
    seal_left sealing wants =
        leaves_weaker old new _ (LeavesLog g sealing log old.told) (λ snapshot p. record {
          told = p.1;
          blocks = ⊎_elim (λ same. inl (blocks_stay g log.first log.blocks old.image snapshot.image holds.blocks (record { units = same; form = λ form. p.0.form })))
              (λ more. inr (wants, more_blocks snapshot.image p.0.form more)) p.0.units;
        }) (leaves_others_too Log old new (LeavesOldOrNew (log_shape g) old.image.log (block log.tail)) leaves only_log)

    module _ (quiet : IsQuiet old) where
      either : LeavesOnly old new (KeepsOrAppends g Blocks (block log.tail) old)
      either = append_makes g Blocks (block log.tail) old new going.limits going.lengths quiet long leaves only_log

      one_front : LeavesFront g (SealsBlock log.tail ∷ []) old new
      one_front = leaves_weaker old new (KeepsOrAppends g Blocks (block log.tail) old) (IsReached g (IsFrontOf (SealsBlock log.tail ∷ [])) old) (λ snapshot k. reached snapshot k k.either) either
        where
          reached : (snapshot : Snapshot) → KeepsOrAppends g Blocks (block log.tail) old snapshot → ReadsAs g old.image snapshot.image ⊎ Appends g Blocks (block log.tail) old.image snapshot.image →
              IsReached g (IsFrontOf (SealsBlock log.tail ∷ [])) old snapshot
          reached snapshot k (inl reads) = record { told = k.told; changes = []; made = (SealsBlock log.tail ∷ [], refl); reaches = reads }
          reached snapshot k (inr appends) = record { told = k.told; changes = SealsBlock log.tail ∷ []; made = ([], refl); reaches = (snapshot.image, (are, appends), reads_itself g snapshot.image) }

      pub seal_front : (sealing : Bool) → sealing ≡ true → LeavesFront g (changes_if sealing log) old new
      seal_front sealing wants = subst (λ (b : Bool). LeavesFront g (changes_if b log) old new) (sym wants) one_front

  module _ (goes : Preserves old new) (ring' : Ring) (ready : IsReady ring' new) (same_shape : ring'.shape ≡ store.ring.shape) (outside : SameOutside store.ring.shape (region store.ring.shape old) (region store.ring.shape new))
      (stands : units_of store.ring.shape (region store.ring.shape new) ≡ appended store.ring.shape (units_of store.ring.shape (region store.ring.shape old)) bytes) where
    done : Appends g Blocks (block log.tail) old.image new.image
    done = append_done g Blocks (block log.tail) old new going.limits going.lengths long (goes.sizes Log)
        (subst (λ (s : Shape). IsRing s (region s new)) (same_shape ∙ going.shape) ready.form)
        (subst (λ (s : Shape). SameOutside s (region s old) (region s new)) going.shape outside) only_log
        (subst (λ (l : List ℕ). units_on (log_shape g) new.image ≡ appended (log_shape g) (units_on (log_shape g) old.image) l) is
        (subst (λ (s : Shape). units_of s (region s new) ≡ appended s (units_of s (region s old)) bytes) going.shape stands))

    pub seal_reaches : (sealing : Bool) → sealing ≡ true → Reaches g (changes_if sealing log) old.image new.image
    seal_reaches sealing wants = subst (λ (b : Bool). Reaches g (changes_if b log) old.image new.image) (sym wants) (new.image, (are, done), reads_itself g new.image)

    pub seal_holds : (sealing : Bool) → sealing ≡ true → (ring : Ring) → Represents (record store { ring = ring; tail = replicate 503 0; used = 2 }) new.image (sealed_if sealing log)
    seal_holds sealing wants ring = grind (arith, more_blocks, done)
