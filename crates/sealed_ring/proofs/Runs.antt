-- The two halves of an append, call by call.
use Rattle.sealed_ring.proofs.Names.{◌≡◌, ℕ, ◌+◌, ◌%◌, ◌^◌, ◌≤◌, ◌<◌, List, [], ◌∷◌, ◌++◌, length, sym, ◌∙◌, ap, subst, arith, mod_below, to_be_bytes, w64, Result, region, IsAtRest, LeavesKept, LeavesEither, FitsIn, place, IsStaged, Stages, Opens, Shape, content_of-same, write_leaves_only, then_write, length-put, put, Lies, Wrote, Synced, LeavesOnly, State, content_of, loose_of}
use Rattle.site.specs.declared.outside.Failed.{Failed}
use Rattle.sealed_ring.proofs.Places.{body_fits}
use Rattle.sealed_ring.proofs.Steps.{first_leaves, second_leaves, staged_by, open_leaves, opened_by}
pub use Rattle.site.proofs.Laws.{wrote_changes, synced_changes, changes_in_sequence, synced_settles}

-- what stands in the device after a write
pub lies_region : (s : Shape) (at : ℕ) (bytes : List ℕ) (old new : State) → Lies s.dev at bytes old new → region s new ≡ put (region s old) at bytes
lies_region s at bytes old new lies = ap (content_of s.dev) lies.image ∙ content_of-same s.dev (put (content_of s.dev old.image) at bytes) old.image

module _ (s : Shape) (hi : ℕ) (old : State) (fits : FitsIn s (length (region s old))) (small : hi < 2 ^ 40) where
  slot : (n : ℕ) → n % s.slots < s.slots
  slot n = mod_below n s.slots (omega (arith, fits.slots))

  body_in : (n : ℕ) → place s (n % s.slots) + 1 + (8 + s.room) ≤ length (region s old)
  body_in n = body_fits s (length (region s old)) fits (n % s.slots) (slot n)

  -- opening

  pub opening : {T : Type 0} (new : State) (result : Result T Failed) → loose_of s.dev old.loose ≡ [] → IsStaged s hi (region s old) → Wrote s.dev (place s (hi % s.slots)) (165 ∷ []) old new result → LeavesOnly old new (LeavesEither s hi (region s old))
  opening new result settled staged w =
      write_leaves_only s.dev (place s (hi % s.slots)) (165 ∷ []) old new result (LeavesEither s hi (region s old)) (omega (arith, body_in hi)) w (open_leaves s hi old fits small settled staged)

  pub opened : {T : Type 0} (mid new : State) (result : Result T Failed) → Lies s.dev (place s (hi % s.slots)) (165 ∷ []) old mid → Synced s.dev mid new result → Opens s hi (region s old) (region s new)
  opened mid new result lies w =
      subst (Opens s hi (region s old)) (sym (ap (content_of s.dev) w.image ∙ lies_region s (place s (hi % s.slots)) (165 ∷ []) old mid lies)) (opened_by s hi (region s old) fits)

  -- staging

  pub first : {T : Type 0} (buffer : List ℕ) (new : State) (result : Result T Failed) → length buffer ≡ 8 + s.room → IsAtRest s hi old → Wrote s.dev (place s (hi % s.slots) + 1) buffer old new result → LeavesOnly old new (LeavesKept s hi (region s old))
  first buffer new result long rest w =
      write_leaves_only s.dev (place s (hi % s.slots) + 1) buffer old new result (LeavesKept s hi (region s old)) (omega (arith, long, body_in hi)) w (first_leaves s hi old fits rest (length buffer) long)

  pub second : {T : Type 0} (buffer : List ℕ) (mid new : State) (result : Result T Failed) → length buffer ≡ 8 + s.room → IsAtRest s hi old → LeavesOnly old mid (LeavesKept s hi (region s old)) → Lies s.dev (place s (hi % s.slots) + 1) buffer old mid
      → Wrote s.dev (place s ((hi + 1) % s.slots)) (0 ∷ []) mid new result → LeavesOnly old new (LeavesKept s hi (region s old))
  second buffer mid new result long rest so_far lies w =
      then_write old mid new (LeavesKept s hi (region s old)) s.dev (place s ((hi + 1) % s.slots)) (0 ∷ []) result so_far
      (omega (arith, ap length (lies_region s (place s (hi % s.slots) + 1) buffer old mid lies), length-put (region s old) (place s (hi % s.slots) + 1) buffer (omega (arith, long, body_in hi)), body_in (hi + 1)))
      (second_leaves s hi old fits rest mid buffer long lies (body_in hi)) w

  pub staged : {T : Type 0} (buffer bytes : List ℕ) (mid late new : State) (result : Result T Failed) → buffer ≡ to_be_bytes w64 hi ++ bytes → length bytes ≡ s.room
      → Lies s.dev (place s (hi % s.slots) + 1) buffer old mid → Lies s.dev (place s ((hi + 1) % s.slots)) (0 ∷ []) mid late → Synced s.dev late new result
      → Stages s hi bytes (region s old) (region s new)
  staged buffer bytes mid late new result spelt is one two w =
      let there : region s new ≡ put (put (region s old) (place s (hi % s.slots) + 1) (to_be_bytes w64 hi ++ bytes)) (place s ((hi + 1) % s.slots)) (0 ∷ []) =
      ap (content_of s.dev) w.image ∙ lies_region s (place s ((hi + 1) % s.slots)) (0 ∷ []) mid late two
      ∙ ap (λ (x : List ℕ). put x (place s ((hi + 1) % s.slots)) (0 ∷ [])) (lies_region s (place s (hi % s.slots) + 1) buffer old mid one ∙ ap (put (region s old) (place s (hi % s.slots) + 1)) spelt) in
      subst (Stages s hi bytes (region s old)) (sym there) (staged_by s hi (region s old) bytes fits small is)
