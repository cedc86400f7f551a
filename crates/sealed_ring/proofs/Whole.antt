-- The whole append, from its two halves.
use Rattle.sealed_ring.proofs.Names.{arith, ◌≡◌, ◌⊎◌, inl, inr, ℕ, ◌+◌, ◌%◌, ◌≤◌, List, [], refl, sym, ◌∙◌, ap, subst, region, region_left, Finds, IsReady, IsAtRest, LeavesOldOrNew, LeavesKept, LeavesEither, content_at, live, Units, units_of, HasForm, IsRing, appended, Keeps, Adds, OldOrNew, Ring, Shape, in_sequence, leaves_weaker, settled_leaves, Leaves, LeavesOnly, State, now_of, IsSettled}
use Rattle.sealed_ring.proofs.Highest.{hi_is}

-- the units of a ring whose next unit is known
pub units_at : (s : Shape) (hi : ℕ) (c : List ℕ) → 3 ≤ s.slots → HasForm s hi c → units_of s c ≡ record { hi = hi; live = live s hi c }
units_at s hi c slots form = ap (λ (h : ℕ). let u : Units = record { hi = h; live = live s h c } in u) (hi_is s hi c slots form)

pub ring_at : (s : Shape) (hi : ℕ) (c : List ℕ) → 3 ≤ s.slots → HasForm s hi c → IsRing s c
ring_at s hi c slots form = subst (λ (h : ℕ). HasForm s h c) (sym (hi_is s hi c slots form)) form

module _ (s : Shape) (hi : ℕ) (old bytes : List ℕ) (slots : 3 ≤ s.slots) (form : HasForm s hi old) where
  pub kept_units : (now : List ℕ) → Keeps s hi old now → units_of s now ≡ units_of s old
  kept_units now k =
      units_at s hi now slots k.form ∙ ap (λ (l : List (List ℕ)). let u : Units = record { hi = hi; live = l } in u) k.live ∙ sym (units_at s hi old slots form)

  pub old_of : (now : List ℕ) → Keeps s hi old now → OldOrNew s old bytes now
  old_of now k = record { form = ring_at s hi now slots k.form; units = inl (kept_units now k); outside = k.outside; size = k.size }

  pub added_units : (mid now : List ℕ) → Keeps s hi old mid → content_at s mid (hi % s.slots) ≡ bytes → Adds s hi mid now → units_of s now ≡ appended s (units_of s old) bytes
  added_units mid now k is a = grind (arith, units_at)

  pub either_of : (mid now : List ℕ) → Keeps s hi old mid → content_at s mid (hi % s.slots) ≡ bytes → Keeps s hi mid now ⊎ Adds s hi mid now → OldOrNew s old bytes now
  either_of mid now k is (inl kept) = old_of now (record { form = kept.form; live = kept.live ∙ k.live; outside = λ p out. kept.outside p out ∙ k.outside p out; size = kept.size ∙ k.size })
  either_of mid now k is (inr added) = record { form = ring_at s (hi + 1) now slots added.form; units = inr (added_units mid now k is added); outside = λ p out. added.outside p out ∙ k.outside p out; size = added.size ∙ k.size }

pub left_as_it_is : (s : Shape) (bytes : List ℕ) (site : State) → IsSettled s.dev site → IsRing s (region s site) → Leaves (LeavesOldOrNew s (region s site) bytes) (now_of site)
left_as_it_is s bytes site settled form snapshot m =
    let is : region_left s snapshot ≡ region s site = settled_leaves s.dev site snapshot settled m in
    subst (OldOrNew s (region s site) bytes) (sym is) (record { form = form; units = inl refl; outside = λ p out. refl; size = refl })

-- a site at rest, and an append of its next unit
module _ (s : Shape) (hi : ℕ) (bytes : List ℕ) (old : State) (slots : 3 ≤ s.slots) (rest : IsAtRest s hi old) where
  pub half : (mid : State) → LeavesOnly old mid (LeavesKept s hi (region s old)) → LeavesOnly old mid (LeavesOldOrNew s (region s old) bytes)
  half mid so_far = leaves_weaker old mid (LeavesKept s hi (region s old)) (LeavesOldOrNew s (region s old) bytes)
      (λ snapshot k. old_of s hi (region s old) bytes slots rest.form (region_left s snapshot) k) so_far

  pub all_of_it : (mid new : State) → LeavesOnly old mid (LeavesKept s hi (region s old)) → Keeps s hi (region s old) (region s mid)
      → content_at s (region s mid) (hi % s.slots) ≡ bytes → LeavesOnly mid new (LeavesEither s hi (region s mid)) → LeavesOnly old new (LeavesOldOrNew s (region s old) bytes)
  all_of_it mid new so_far k is later =
      in_sequence old mid new (Leaves (LeavesOldOrNew s (region s old) bytes)) (half mid so_far)
      (leaves_weaker mid new (LeavesEither s hi (region s mid)) (LeavesOldOrNew s (region s old) bytes)
      (λ snapshot e. either_of s hi (region s old) bytes slots rest.form (region s mid) (region_left s snapshot) k is e) later)

-- a ring that is found is of the form for its own next unit
pub form_of : (ring : Ring) (site : State) → Finds ring site → HasForm ring.shape ring.hi (region ring.shape site)
form_of ring site finds = subst (λ (h : ℕ). HasForm ring.shape h (region ring.shape site)) (sym finds.hi) finds.form

pub at_rest : (ring : Ring) (site : State) → IsReady ring site → IsAtRest ring.shape ring.hi site
at_rest ring site ready = record { settled = ready.settled; form = form_of ring site (record { form = ready.form; hi = ready.hi }) }
