-- The queue once a page was read from it.
use Rattle.flash_directory.proofs.Names.{◌≡◌, ℕ, zero, suc, ◌+◌, ◌≤◌, ◌==◌, ◌||◌, ◌&&◌, not, Bool, true, false, cond, List, [], ◌∷◌, length, get_or, set, Option, Some, None, option_map, is_some, add-one, arith, refl, sym, ap, subst, ◌∙◌, eqb-true, none-some, same_Some, AllByRecursion, option_or, last_in, last_place, in_first, in_next, read_at, group_read_none, groups_read_none, in_group, in_groups, is_last, group_read, groups_read, Frame, and_false, or_true}
use Rattle.std.proofs.Math.Bool.{or-false}
use Rattle.flash_directory.proofs.Newest.{some_last_in, some_last_place, last_bound}

reads_last : (page : ℕ) (behind : List Frame) (later : List (List Frame)) (frame : Frame)
    → (frame.page == page && is_last behind later frame) ≡ (frame.page == page && not (in_group behind page || in_groups later page))
reads_last page behind later frame = by (frame.page == page) refl
  where
    by : (b : Bool) → (frame.page == page) ≡ b → (b && is_last behind later frame) ≡ (b && not (in_group behind page || in_groups later page))
    by true same = ap (λ p. not (in_group behind p || in_groups later p)) (eqb-true _ _ same)
    by false other = refl

not_read : (frame : Frame) (b : Bool) → b ≡ false → ◌≡◌ {A = Frame} (record frame { referenced = frame.referenced || b }) frame
not_read frame b is = ap (λ r. record frame { referenced = r }) (ap (λ c. frame.referenced || c) is ∙ or-false frame.referenced)

is_read : (frame : Frame) (b : Bool) → b ≡ true → ◌≡◌ {A = Frame} (record frame { referenced = frame.referenced || b }) (record frame { referenced = true })
is_read frame b is = ap (λ r. record frame { referenced = r }) (ap (λ c. frame.referenced || c) is ∙ or_true frame.referenced)

pub group_read_later : (page : ℕ) (group : List Frame) (later : List (List Frame)) → in_groups later page ≡ true → group_read page group later ≡ group
group_read_later page [] later some = refl
group_read_later page (frame ∷ behind) later some =
    ap (λ f. f ∷ group_read page behind later) (not_read frame _ (reads_last page behind later frame
    ∙ ap (λ b. frame.page == page && not (in_group behind page || b)) some ∙ ap (λ b. frame.page == page && not b) (or_true (in_group behind page)) ∙ and_false (frame.page == page)))
    ∙ ap (λ l. frame ∷ l) (group_read_later page behind later some)

-- the last group with the page is read at the page's last frame
pub group_read_last : (page : ℕ) (group : List Frame) (later : List (List Frame)) (n j : ℕ) → in_groups later page ≡ false → last_in n group page ≡ Some (n + j)
    → group_read page group later ≡ read_at j group
group_read_last page [] later n j none is = absurd (none-some (n + j) is)
group_read_last page (frame ∷ behind) later n j none is = by (last_in (n + 1) behind page) refl is j refl (λ i here. group_read_last page behind later (n + 1) i none here)
  where
    first : (b : Bool) → cond b (Some n) None ≡ Some (n + j) → (b ≡ true) × (n ≡ n + j)
    first true same = (refl, same_Some n (n + j) same)
    first false same = absurd (none-some (n + j) same)

    here_last : (i : ℕ) → n ≡ n + i → (frame.page == page) ≡ true → in_group behind page ≡ false → group_read page (frame ∷ behind) later ≡ read_at i (frame ∷ behind)
    here_last zero same is_page none_behind =
        ap (λ f. f ∷ group_read page behind later) (is_read frame _ (reads_last page behind later frame
        ∙ ap (λ b. b && not (in_group behind page || in_groups later page)) is_page ∙ ap (λ b. not (b || in_groups later page)) none_behind ∙ ap not none))
        ∙ ap (λ l. record frame { referenced = true } ∷ l) (group_read_none page behind later none_behind)
    here_last (suc i) same is_page none_behind = absurd (omega (arith, same))

    behind_last : (i k : ℕ) → k ≡ n + i → n + 1 ≤ k → in_group behind page ≡ true → ((i' : ℕ) → k ≡ n + 1 + i' → group_read page behind later ≡ read_at i' behind)
        → group_read page (frame ∷ behind) later ≡ read_at i (frame ∷ behind)
    behind_last zero k same within some rest = absurd (omega (arith, same, within))
    behind_last (suc i) k same within some rest =
        ap (λ f. f ∷ group_read page behind later) (not_read frame _ (reads_last page behind later frame
        ∙ ap (λ b. frame.page == page && not (b || in_groups later page)) some ∙ and_false (frame.page == page)))
        ∙ ap (λ l. frame ∷ l) (rest i (omega (arith, same)))

    by : (o : Option ℕ) → last_in (n + 1) behind page ≡ o → option_or o (cond (frame.page == page) (Some n) None) ≡ Some (n + j) → (i : ℕ) → i ≡ j
        → ((i' : ℕ) → last_in (n + 1) behind page ≡ Some (n + 1 + i') → group_read page behind later ≡ read_at i' behind)
        → group_read page (frame ∷ behind) later ≡ read_at j (frame ∷ behind)
    by None here same i at rest =
        let it = first (frame.page == page) same in
        here_last j it.1 it.0 (sym (some_last_in (n + 1) behind page) ∙ ap is_some here)
    by (Some k) here same i at rest =
        behind_last j k (same_Some k (n + j) same) ((last_bound (n + 1) behind page k here).0) (sym (some_last_in (n + 1) behind page) ∙ ap is_some here)
        (λ i' is_k. rest i' (here ∙ ap Some is_k))

-- a read sets one frame's mark
pub groups_read_at : (page : ℕ) (groups : List (List Frame)) (k j : ℕ) (d : List Frame) → last_place groups page ≡ Some (k, j)
    → set groups k (read_at j (get_or groups k d)) ≡ groups_read page groups
groups_read_at page [] k j d is = absurd (none-some (k, j) is)
groups_read_at page (group ∷ later) k j d is = by (last_place later page) refl (last_in 0 group page) refl is (λ q here. groups_read_at page later q.0 q.1 d here)
  where
    by : (o : Option (ℕ × ℕ)) → last_place later page ≡ o → (p : Option ℕ) → last_in 0 group page ≡ p → option_or (option_map in_next o) (option_map in_first p) ≡ Some (k, j)
        → ((q : ℕ × ℕ) → last_place later page ≡ Some q → set later q.0 (read_at q.1 (get_or later q.0 d)) ≡ groups_read page later)
        → set (group ∷ later) k (read_at j (get_or (group ∷ later) k d)) ≡ groups_read page (group ∷ later)
    by None here None first same rest = absurd (none-some (k, j) same)
    by None here (Some i) first same rest =
        let pair : ◌≡◌ {A = ℕ × ℕ} (0, i) (k, j) = same_Some (0, i) (k, j) same in
        let number : 0 ≡ k = ap (λ (p : ℕ × ℕ). p.0) pair in
        let index : i ≡ j = ap (λ (p : ℕ × ℕ). p.1) pair in
        let none : in_groups later page ≡ false = sym (some_last_place later page) ∙ ap is_some here in
        subst (λ n. set (group ∷ later) n (read_at j (get_or (group ∷ later) n d)) ≡ groups_read page (group ∷ later)) number
        (ap (λ g. g ∷ later) (sym (group_read_last page group later 0 j none (first ∙ ap Some (omega (arith, index)))))
        ∙ ap (λ l. group_read page group later ∷ l) (sym (groups_read_none page later none)))
    by (Some q) here p first same rest =
        let pair : ◌≡◌ {A = ℕ × ℕ} (q.0 + 1, q.1) (k, j) = same_Some (q.0 + 1, q.1) (k, j) same in
        let number : suc q.0 ≡ k = sym (add-one q.0) ∙ ap (λ (p : ℕ × ℕ). p.0) pair in
        let index : q.1 ≡ j = ap (λ (p : ℕ × ℕ). p.1) pair in
        let some : in_groups later page ≡ true = sym (some_last_place later page) ∙ ap is_some here in
        subst (λ n. set (group ∷ later) n (read_at j (get_or (group ∷ later) n d)) ≡ groups_read page (group ∷ later)) number
        (ap (λ i. group ∷ set later q.0 (read_at i (get_or later q.0 d))) (sym index)
        ∙ ap (λ g. g ∷ set later q.0 (read_at q.1 (get_or later q.0 d))) (sym (group_read_later page group later some)) ∙ ap (λ l. group_read page group later ∷ l) (rest q here))

pub length-group_read : (page : ℕ) (group : List Frame) (later : List (List Frame)) → length (group_read page group later) ≡ length group
length-group_read page [] later = refl
length-group_read page (frame ∷ behind) later = ap suc (length-group_read page behind later)

pub sizes_read : (page : ℕ) (groups : List (List Frame)) → AllByRecursion (λ group. (1 ≤ length group) × (length group ≤ 8)) groups
    → AllByRecursion (λ group. (1 ≤ length group) × (length group ≤ 8)) (groups_read page groups)
sizes_read page [] all = tt
sizes_read page (group ∷ later) all =
    let same = length-group_read page group later in
    ((omega (arith, same, all.0.0), omega (arith, same, all.0.1)), sizes_read page later all.1)
