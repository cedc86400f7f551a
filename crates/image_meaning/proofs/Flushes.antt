-- When a checkpoint may be made.
use Rattle.image_meaning.proofs.Names.{◌≡◌, ℕ, ◌*◌, ◌/◌, ◌<◌, ◌≤◌, List, [], ◌∷◌, length, Some, refl, arith, mod_below, div-add-mod', AllByRecursion, ◌&&◌, not, ◌↔◌, IsFlushed, first_block, oldest_needed, AreKnown, Ascends, losers_ascend, above, all_from, all_below, MayCheckpoint, page_and_slot, Entry, version_at, number_of, is_closed, LogicalImage, IsSound, IsInTable, is_begin, losers, all_filter, all_weaker, all_map}

-- What holds of the LSN of each record holds of each unfinished transaction.
of_losers : (P : ℕ → Type 0) (log : List Entry) → AllByRecursion (λ e. P e.lsn) log → AllByRecursion P (losers log)
of_losers P log all = grind (arith, all_map, all_filter)

-- The first block that they need.

needed_before : (none kept : ℕ) (transactions : List ℕ) → kept ≤ none → AllByRecursion (λ t. 512 * kept ≤ t) transactions → kept ≤ first_block none transactions
needed_before none kept [] within all = within
needed_before none kept (t ∷ transactions) within all = let first = all.0 in omega (arith, first, div-add-mod' t 512, mod_below t 512 (omega arith))

all_needed : (none from kept : ℕ) (transactions : List ℕ) → Ascends from transactions → kept ≤ first_block none transactions → AllByRecursion (λ t. 512 * kept ≤ t) transactions
all_needed none from kept x3 ascends within = grind (arith, div-add-mod', all_weaker, above)

needed_within : (none : ℕ) (transactions : List ℕ) → AllByRecursion (λ t. t < 512 * none) transactions → first_block none transactions ≤ none
needed_within none [] all = omega arith
needed_within none (t ∷ transactions) all = let first = all.0 in omega (arith, first, div-add-mod' t 512)

-- That block is one of the kept ones, or the next.
pub oldest_is_there : (p : LogicalImage) → IsSound p → (p.master.kept ≤ oldest_needed p) × (oldest_needed p ≤ p.hi)
oldest_is_there p sound = (
  needed_before p.hi p.master.kept (losers p.log) (let low = sound.kept_before_redo in let high = sound.redo_before_end in omega (arith, low, high))
      (of_losers (λ t. 512 * p.master.kept ≤ t) p.log (all_from (512 * p.master.kept) p.log (512 * p.hi) sound.in_order)),
  needed_within p.hi (losers p.log) (of_losers (λ t. t < 512 * p.hi) p.log (all_below (512 * p.master.kept) p.log (512 * p.hi) sound.in_order)),
)

-- Pages that are flushed.

pub flushed_known : (p : LogicalImage) (kept : ℕ) → MayCheckpoint p kept → IsFlushed p
flushed_known p kept may page within = grind (arith, all_weaker)

known_flushed : (p : LogicalImage) → IsSound p → IsFlushed p → AllByRecursion (λ e. (number : ℕ) → number_of e.rec ≡ Some number → e.lsn ≤ (version_at p.pages (number / 32)).lsn) p.log
known_flushed p sound flushed = each p.log sound.in_table (λ page within. flushed page within)
  where
    each : (log : List Entry) → AllByRecursion (IsInTable p.pages) log → ((page : ℕ) → page < length p.pages → AreKnown log page (version_at p.pages page).lsn) →
        AllByRecursion (λ e. (number : ℕ) → number_of e.rec ≡ Some number → e.lsn ≤ (version_at p.pages (number / 32)).lsn) log
    each [] inside known = tt
    each (e ∷ log) inside known = (
      λ number is. (known (number / 32) (let here = inside.0 number is in omega (arith, here, page_and_slot number))).0 number is refl,
      each log inside.1 (λ page within. (known page within).1),
    )

-- A checkpoint may be made exactly where the pages are flushed and the blocks of all unfinished transactions are kept.
pub checkpoint_needs : (p : LogicalImage) (kept : ℕ) → IsSound p → MayCheckpoint p kept ↔ (IsFlushed p × (p.master.kept ≤ kept) × (kept ≤ oldest_needed p))
checkpoint_needs p kept sound = (
  λ may. (flushed_known p kept may, may.kept_rises, needed_before p.hi kept (losers p.log) may.kept_in_log may.losers_kept),
  λ needs. record {
    kept_rises = needs.1;
    kept_in_log = let there = (oldest_is_there p sound).1 in let before = needs.2 in omega (arith, there, before);
    losers_kept = all_needed p.hi (512 * p.master.kept) kept (losers p.log) (losers_ascend (λ e. is_begin e.rec && not (is_closed p.log e.lsn)) (512 * p.master.kept) p.log (512 * p.hi) sound.in_order) needs.2;
    flushed = known_flushed p sound needs.0;
  },
)
