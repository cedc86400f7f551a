-- Where the last frame of a page stands.
use Rattle.flash_directory.proofs.Names.{◌≡◌, ℕ, zero, suc, ◌+◌, ◌<◌, ◌≤◌, ◌==◌, ◌||◌, Bool, true, false, cond, List, [], ◌∷◌, length, get_or, drop, Option, Some, None, option_map, is_some, add-one, arith, refl, sym, ap, subst, ◌∙◌, none-some, same_Some, AllByRecursion, option_or, last_in, last_place, last_among, in_first, in_next, place_in, Place, in_group, in_groups, Frame, some_mapped}

-- There is one exactly where the page has a frame.

some_or : {X : Type 0} (o p : Option X) → is_some (option_or o p) ≡ (is_some p || is_some o)
some_or None None = refl
some_or None (Some y) = refl
some_or (Some x) None = refl
some_or (Some x) (Some y) = refl

some_cond : {X : Type 0} (b : Bool) (x : X) → is_some (cond b (Some x) None) ≡ b
some_cond true x = refl
some_cond false x = refl

pub some_last_in : (n : ℕ) (frames : List Frame) (page : ℕ) → is_some (last_in n frames page) ≡ in_group frames page
some_last_in n [] page = refl
some_last_in n (frame ∷ frames) page =
    some_or (last_in (n + 1) frames page) (cond (frame.page == page) (Some n) None)
    ∙ ap (λ b. b || is_some (last_in (n + 1) frames page)) (some_cond (frame.page == page) n)
    ∙ ap (λ b. frame.page == page || b) (some_last_in (n + 1) frames page)

pub some_last_place : (groups : List (List Frame)) (page : ℕ) → is_some (last_place groups page) ≡ in_groups groups page
some_last_place [] page = refl
some_last_place (group ∷ later) page =
    some_or (option_map in_next (last_place later page)) (option_map in_first (last_in 0 group page))
    ∙ ap (λ b. b || is_some (option_map in_next (last_place later page))) (some_mapped _ (last_in 0 group page) ∙ some_last_in 0 group page)
    ∙ ap (λ b. in_group group page || b) (some_mapped _ (last_place later page) ∙ some_last_place later page)

-- By group numbers.

abbrev pub placed : ℕ → ℕ × ℕ → Place
placed number place = place_in (number + place.0) place.1

numbered : (number : ℕ) (o : Option (ℕ × ℕ)) (p : Option ℕ)
    → option_or (option_map (placed (number + 1)) o) (option_map (place_in number) p)
    ≡ option_map (placed number) (option_or (option_map in_next o) (option_map in_first p))
numbered number None None = refl
numbered number None (Some index) = ap (λ n. Some (place_in n index)) (omega arith)
numbered number (Some q) p = ap (λ n. Some (place_in n q.1)) (omega arith)

pub last_among-place : (number : ℕ) (groups : List (List Frame)) (page : ℕ)
    → last_among number groups page ≡ option_map (placed number) (last_place groups page)
last_among-place number [] page = refl
last_among-place number (group ∷ later) page =
    ap (λ o. option_or o (option_map (place_in number) (last_in 0 group page))) (last_among-place (number + 1) later page)
    ∙ numbered number (last_place later page) (last_in 0 group page)

-- The search from the last group on.

-- no group from here on has the page, if the next ones haven't and this one hasn't
found_at : (groups : List (List Frame)) (k : ℕ) (d : List Frame) (page index : ℕ) → k < length groups
    → last_place (drop (suc k) groups) page ≡ None → last_in 0 (get_or groups k d) page ≡ Some index → last_place groups page ≡ Some (k, index)
found_at [] k d page index less later here = absurd (omega (arith, less))
found_at (group ∷ groups) zero d page index less later here =
    ap (λ o. option_or (option_map in_next o) (option_map in_first (last_in 0 group page))) later
    ∙ ap (option_map in_first) here
found_at (group ∷ groups) (suc k) d page index less later here =
    ap (λ o. option_or (option_map in_next o) (option_map in_first (last_in 0 group page)))
    (found_at groups k d page index (omega (arith, less)) later here)
    ∙ ap (λ n. Some (n, index)) (add-one k)

-- this group has it, and the next ones haven't
pub found_here : (groups : List (List Frame)) (k : ℕ) (d : List Frame) (page index : ℕ) → k < length groups
    → last_place (drop (k + 1) groups) page ≡ None → last_in 0 (get_or groups k d) page ≡ Some index → last_place groups page ≡ Some (k, index)
found_here groups k d page index less later here = found_at groups k d page index less (ap (λ n. last_place (drop n groups) page) (sym (add-one k)) ∙ later) here

-- Where it stands, it stands within.

pub last_bound : (n : ℕ) (frames : List Frame) (page j : ℕ) → last_in n frames page ≡ Some j → (n ≤ j) × (j < n + length frames)
last_bound n [] page j is = absurd (none-some j is)
last_bound n (frame ∷ frames) page j is = by (last_in (n + 1) frames page) refl is (λ k here. last_bound (n + 1) frames page k here)
  where
    first : (b : Bool) → cond b (Some n) None ≡ Some j → n ≡ j
    first true same = same_Some n j same
    first false same = absurd (none-some j same)

    by : (o : Option ℕ) → last_in (n + 1) frames page ≡ o → option_or o (cond (frame.page == page) (Some n) None) ≡ Some j
        → ((k : ℕ) → last_in (n + 1) frames page ≡ Some k → (n + 1 ≤ k) × (k < n + 1 + length frames)) → (n ≤ j) × (j < n + suc (length frames))
    by None here same rest = let here_is : n ≡ j = first (frame.page == page) same in (omega (arith, here_is), omega (arith, here_is))
    by (Some k) here same rest = let here_is : k ≡ j = same_Some k j same in let within = rest k here in (omega (arith, here_is, within.0), omega (arith, here_is, within.1))

-- the place of a group among groups, and of a frame in that group
pub record IsPlaceIn (groups : List (List Frame)) (page k j : ℕ) (d : List Frame) : Type 0 where
  pub group : k < length groups
  pub frame : last_in 0 (get_or groups k d) page ≡ Some j

pub place_bound : (groups : List (List Frame)) (page k j : ℕ) (d : List Frame) → last_place groups page ≡ Some (k, j) → IsPlaceIn groups page k j d
place_bound [] page k j d is = absurd (none-some (k, j) is)
place_bound (group ∷ later) page k j d is = by (last_place later page) refl (last_in 0 group page) refl is (λ p here. place_bound later page p.0 p.1 d here)
  where
    by : (o : Option (ℕ × ℕ)) → last_place later page ≡ o → (p : Option ℕ) → last_in 0 group page ≡ p → option_or (option_map in_next o) (option_map in_first p) ≡ Some (k, j)
        → ((q : ℕ × ℕ) → last_place later page ≡ Some q → IsPlaceIn later page q.0 q.1 d) → IsPlaceIn (group ∷ later) page k j d
    by None here None first same rest = absurd (none-some (k, j) same)
    by None here (Some i) first same rest =
        let pair : ◌≡◌ {A = ℕ × ℕ} (0, i) (k, j) = same_Some (0, i) (k, j) same in
        let number : 0 ≡ k = ap (λ (p : ℕ × ℕ). p.0) pair in
        let index : i ≡ j = ap (λ (p : ℕ × ℕ). p.1) pair in
        subst (λ n. IsPlaceIn (group ∷ later) page n j d) number (record { group = omega arith; frame = first ∙ ap Some index })
    by (Some q) here p first same rest =
        let pair : ◌≡◌ {A = ℕ × ℕ} (q.0 + 1, q.1) (k, j) = same_Some (q.0 + 1, q.1) (k, j) same in
        let number : suc q.0 ≡ k = sym (add-one q.0) ∙ ap (λ (p : ℕ × ℕ). p.0) pair in
        let index : q.1 ≡ j = ap (λ (p : ℕ × ℕ). p.1) pair in
        let place = rest q here in
        subst (λ n. IsPlaceIn (group ∷ later) page n j d) number (record { group = omega (arith, place.group); frame = place.frame ∙ ap Some index })

pub size_at : (groups : List (List Frame)) → AllByRecursion (λ group. (1 ≤ length group) × (length group ≤ 8)) groups → (k : ℕ) (d : List Frame) → k < length groups
    → (1 ≤ length (get_or groups k d)) × (length (get_or groups k d) ≤ 8)
size_at [] all k d less = absurd (omega (arith, less))
size_at (group ∷ later) all zero d less = all.0
size_at (group ∷ later) all (suc k) d less = size_at later all.1 k d (omega (arith, less))
