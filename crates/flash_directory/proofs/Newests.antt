-- That what is found is the last frame of its page.
use Rattle.flash_directory.proofs.Names.{◌≡◌, ℕ, zero, suc, ◌+◌, ◌-◌, ◌≤◌, ◌==◌, Bool, true, false, cond, List, [], ◌∷◌, get_or, drop, slice_get, Option, Some, None, option_map, is_some, add-one, arith, refl, sym, ap, subst, ◌∙◌, eqb-true, none-some, same_Some, option_or, last_in, last_place, in_first, in_next, place_in, IsNewest, IsQueue, Queue, in_group, in_groups, Frame}
use Rattle.flash_directory.proofs.Newest.{some_last_in, some_last_place, last_bound, place_bound, size_at, IsPlaceIn}

-- the frame at a place of a group is of the page, and none behind it is
pub record IsLastHere (frames : List Frame) (page j : ℕ) : Type 0 where
  pub here : option_map (λ (f : Frame). f.page) (slice_get frames j) ≡ Some page
  pub behind : in_group (drop (suc j) frames) page ≡ false

pub last_here : (n : ℕ) (frames : List Frame) (page j : ℕ) → last_in n frames page ≡ Some (n + j) → IsLastHere frames page j
last_here n [] page j is = absurd (none-some (n + j) is)
last_here n (frame ∷ frames) page j is = by (last_in (n + 1) frames page) refl is (λ i here. last_here (n + 1) frames page i here)
  where
    first : (b : Bool) → cond b (Some n) None ≡ Some (n + j) → (b ≡ true) × (n ≡ n + j)
    first true same = (refl, same_Some n (n + j) same)
    first false same = absurd (none-some (n + j) same)

    at_first : (i : ℕ) → n ≡ n + i → (frame.page == page) ≡ true → in_group frames page ≡ false → IsLastHere (frame ∷ frames) page i
    at_first zero same is_page none = record { here = ap Some (eqb-true _ _ is_page); behind = none }
    at_first (suc i) same is_page none = absurd (omega (arith, same))

    at_next : (i k : ℕ) → k ≡ n + i → n + 1 ≤ k → ((i' : ℕ) → k ≡ n + 1 + i' → IsLastHere frames page i') → IsLastHere (frame ∷ frames) page i
    at_next zero k same within rest = absurd (omega (arith, same, within))
    at_next (suc i) k same within rest = let it = rest i (omega (arith, same)) in record { here = it.here; behind = it.behind }

    by : (o : Option ℕ) → last_in (n + 1) frames page ≡ o → option_or o (cond (frame.page == page) (Some n) None) ≡ Some (n + j)
        → ((i' : ℕ) → last_in (n + 1) frames page ≡ Some (n + 1 + i') → IsLastHere frames page i') → IsLastHere (frame ∷ frames) page j
    by None here same rest = let it = first (frame.page == page) same in at_first j it.1 it.0 (sym (some_last_in (n + 1) frames page) ∙ ap is_some here)
    by (Some k) here same rest = at_next j k (same_Some k (n + j) same) ((last_bound (n + 1) frames page k here).0) (λ i' is_k. rest i' (here ∙ ap Some is_k))

pub later_none : (groups : List (List Frame)) (page k j : ℕ) → last_place groups page ≡ Some (k, j) → in_groups (drop (suc k) groups) page ≡ false
later_none [] page k j is = absurd (none-some (k, j) is)
later_none (group ∷ later) page k j is = by (last_place later page) refl (last_in 0 group page) is (λ p here. later_none later page p.0 p.1 here)
  where
    by : (o : Option (ℕ × ℕ)) → last_place later page ≡ o → (p : Option ℕ) → option_or (option_map in_next o) (option_map in_first p) ≡ Some (k, j)
        → ((q : ℕ × ℕ) → last_place later page ≡ Some q → in_groups (drop (suc q.0) later) page ≡ false) → in_groups (drop (suc k) (group ∷ later)) page ≡ false
    by None here None same rest = absurd (none-some (k, j) same)
    by None here (Some i) same rest =
        subst (λ n. in_groups (drop (suc n) (group ∷ later)) page ≡ false) (ap (λ (p : ℕ × ℕ). p.0) (same_Some (0, i) (k, j) same))
        (sym (some_last_place later page) ∙ ap is_some here)
    by (Some q) here p same rest =
        subst (λ n. in_groups (drop (suc n) (group ∷ later)) page ≡ false) (sym (add-one q.0) ∙ ap (λ (r : ℕ × ℕ). r.0) (same_Some (q.0 + 1, q.1) (k, j) same)) (rest q here)

pub newest_is : (q : Queue) → IsQueue q → (page k j : ℕ) → last_place q.groups page ≡ Some (k, j) → IsNewest q page (place_in (q.first + k) j)
newest_is q queue page k j is =
    let number : k ≡ q.first + k - q.first = omega arith in
    let place : IsPlaceIn q.groups page k j [] = place_bound q.groups page k j [] is in
    let last : IsLastHere (get_or q.groups k []) page j = last_here 0 (get_or q.groups k []) page j (place.frame ∙ ap Some (omega arith)) in
    record {
      group = (omega arith, omega (arith, place.group));
      index = omega (arith, (last_bound 0 (get_or q.groups k []) page j place.frame).1, (size_at q.groups queue.sizes k [] place.group).1);
      frame = subst (λ n. option_map (λ (f : Frame). f.page) (slice_get (get_or q.groups n []) j) ≡ Some page) number last.here;
      behind = subst (λ n. in_group (drop (j + 1) (get_or q.groups n [])) page ≡ false) number (ap (λ m. in_group (drop m (get_or q.groups k [])) page) (add-one j) ∙ last.behind);
      later = subst (λ n. in_groups (drop (n + 1) q.groups) page ≡ false) number (ap (λ m. in_groups (drop m q.groups) page) (add-one k) ∙ later_none q.groups page k j is);
    }
