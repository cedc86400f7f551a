-- The heads of four groups, as they are put together group by group.
use Rattle.tail_rebuild.proofs.Names.{◌≡◌, ℕ, zero, suc, ◌+◌, ◌-◌, ◌*◌, ◌<◌, ◌≤◌, List, [], ◌∷◌, ◌++◌, length, get_or, take, drop, refl, sym, ap, ◌∙◌, arith, append_assoc, take_at, drop_at, take-take, drop-take, length-append, length-take-le, append-nil, AllByRecursion, flat_map, FrameHead, heads_of_group}

abbrev Heads : Type 0
Heads = List FrameHead

-- the heads of a group of a segment stand in its front
group_of_front : (xs : Heads) (i n : ℕ) → 8 * i + 8 ≤ n → heads_of_group (take n xs) i ≡ heads_of_group xs i
group_of_front xs i n fits =
    let split : n ≡ 8 * i + (n - 8 * i) = omega (arith, fits) in
    ap (λ (m : ℕ). take 8 (drop (8 * i) (take m xs))) split ∙ ap (take 8) (drop-take (8 * i) (n - 8 * i) xs) ∙ take-take 8 (n - 8 * i) (drop (8 * i) xs) (omega (arith, fits))

-- eight heads put at the place of their group
module _ (xs eight rest : Heads) (p : ℕ) (fits : 8 * p ≤ length xs) (are : length eight ≡ 8) where
  abbrev pub put : Heads
  put = take (8 * p) xs ++ (eight ++ rest)

  front : length (take (8 * p) xs) ≡ 8 * p
  front = length-take-le (8 * p) xs fits

  pub put_own : heads_of_group put p ≡ eight
  put_own = ap (take 8) (drop_at (take (8 * p) xs) (eight ++ rest) (8 * p) front) ∙ take_at eight rest 8 are

  pub put_before : (i : ℕ) → i < p → heads_of_group put i ≡ heads_of_group xs i
  put_before i less =
      sym (group_of_front put i (8 * p) (omega (arith, less)))
      ∙ ap (λ (l : Heads). heads_of_group l i) (take_at (take (8 * p) xs) (eight ++ rest) (8 * p) front)
      ∙ group_of_front xs i (8 * p) (omega (arith, less))

  pub put_front : take (8 * (p + 1)) put ≡ take (8 * p) xs ++ eight
  put_front =
      ap (take (8 * (p + 1))) (sym (append_assoc (take (8 * p) xs) eight rest))
      ∙ take_at (take (8 * p) xs ++ eight) rest (8 * (p + 1)) (length-append (take (8 * p) xs) eight ∙ omega (arith, front, are))

-- lists one behind the other, with one more
pub flat_more : {X : Type 0} (f : X → Heads) (xs : List X) (i : ℕ) (d : X) → i < length xs → flat_map f (take (suc i) xs) ≡ flat_map f (take i xs) ++ f (get_or xs i d)
flat_more f [] i d less = absurd (omega (arith, less))
flat_more f (x ∷ xs) zero d less = append-nil (f x)
flat_more f (x ∷ xs) (suc i) d less = grind (arith, append_assoc, get_or, (flat_more f xs i d (omega (arith, less))))

-- lists of eight one behind the other, by their places
pub group_of_flat : {X : Type 0} (f : X → Heads) (P : X → Type 0) (xs : List X) (i : ℕ) (d : X) → ((x : X) → P x → length (f x) ≡ 8) → AllByRecursion P xs → i < length xs → heads_of_group (flat_map f xs) i ≡ f (get_or xs i d)
group_of_flat f P [] i d eight all less = absurd (omega (arith, less))
group_of_flat f P (x ∷ xs) zero d eight all less = take_at (f x) (flat_map f xs) 8 (eight x all.0)
group_of_flat f P (x ∷ xs) (suc i) d eight all less =
    let is = eight x all.0 in
    let next : 8 * suc i ≡ length (f x) + 8 * i = omega (arith, is) in
    ap (λ (n : ℕ). take 8 (drop n (f x ++ flat_map f xs))) next ∙ ap (take 8) (drop_behind (f x) (flat_map f xs) (8 * i)) ∙ group_of_flat f P xs i d eight all.1 (omega (arith, less))
  where
    drop_behind : (as' bs : Heads) (n : ℕ) → drop (length as' + n) (as' ++ bs) ≡ drop n bs
    drop_behind [] bs n = ap (λ (m : ℕ). drop m bs) (omega arith)
    drop_behind (a ∷ as') bs n = let e : suc (length as') + n ≡ suc (length as' + n) = omega arith in ap (λ (m : ℕ). drop m (a ∷ as' ++ bs)) e ∙ drop_behind as' bs n

pub length_flat : {X : Type 0} (f : X → Heads) (P : X → Type 0) (xs : List X) → ((x : X) → P x → length (f x) ≡ 8) → AllByRecursion P xs → length (flat_map f xs) ≡ 8 * length xs
length_flat f P [] eight all = refl
length_flat f P (x ∷ xs) eight all = let own = eight x all.0 in let rest = length_flat f P xs eight all.1 in let both = length-append (f x) (flat_map f xs) in omega (arith, own, rest, both)

pub all_flat : {X : Type 0} (f : X → Heads) (P : X → Type 0) (Q : FrameHead → Type 0) (xs : List X) → ((x : X) → P x → AllByRecursion Q (f x)) → AllByRecursion P xs → AllByRecursion Q (flat_map f xs)
all_flat f P Q [] each all = tt
all_flat f P Q (x ∷ xs) each all = all_both (f x) (flat_map f xs) (each x all.0) (all_flat f P Q xs each all.1)
  where
    all_both : (as' bs : Heads) → AllByRecursion Q as' → AllByRecursion Q bs → AllByRecursion Q (as' ++ bs)
    all_both [] bs one two = two
    all_both (a ∷ as') bs one two = (one.0, all_both as' bs one.1 two)
