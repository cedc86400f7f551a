-- The changed pages that are left behind a push of the coldest ones.
use Rattle.page_store.proofs.Names.{◌≡◌, ◌≢◌, ℕ, zero, suc, ◌<◌, ◌≤◌, ◌==◌, Bool, true, false, not, ◌&&◌, ◌||◌, cond, List, [], ◌∷◌, ◌++◌, length, min, take, drop, map, filter, reverse, append_assoc, length-append, arith, refl, sym, ap, ◌∙◌, eq-eqb, ne_eqb, eqb-true, eqb-false, length-take, length-map, length-reverse, length-filter, count_by-le-length, AllByRecursion, list_any, changed_more, AreDistinct, Frame, pool_page, changed_frames, cleared_all, all_both, or_assoc}
use Rattle.std.proofs.lemmas.List.{take_all}
use Rattle.page_store.proofs.Choosing.{first_changed}
use Rattle.page_store.proofs.Movable.{reverse_map}
use Rattle.page_store.proofs.Clearing.{cleared_by, by_page, by_mark, is_among, all_cleared}
use Rattle.page_store.proofs.Saving.{distinct_reverse, some_chosen}

abbrev pub page_of : Frame → ℕ
page_of f = f.page

-- the pages of changed frames that aren't among these
left : List ℕ → List Frame → List ℕ
left saved frames = map page_of (filter (λ f. f.changed && not (is_among saved f.page)) frames)

-- none of these frames is among the pages
abbrev AreApart : List ℕ → List Frame → Type 0
AreApart saved frames = AllByRecursion (λ (f : Frame). is_among saved f.page ≡ false) frames

among_append : (ps qs : List ℕ) (n : ℕ) → is_among (ps ++ qs) n ≡ (is_among ps n || is_among qs n)
among_append [] qs n = refl
among_append (p ∷ ps) qs n = ap (λ b. p == n || b) (among_append ps qs n) ∙ sym (or_assoc (p == n) (is_among ps n) (is_among qs n))

one_apart : (saved : List ℕ) (page : ℕ) (frames : List Frame) → AreApart saved frames → AllByRecursion (λ (other : Frame). page ≢ other.page) frames → AreApart (saved ++ page ∷ []) frames
one_apart saved page frames apart others =
    all_both (λ (f : Frame). is_among saved f.page ≡ false) (λ (f : Frame). page ≢ f.page) (λ (f : Frame). is_among (saved ++ page ∷ []) f.page ≡ false)
    (λ f no ne. among_append saved (page ∷ []) f.page ∙ ap (λ b. b || (page == f.page || false)) no ∙ ap (λ b. b || false) (ne_eqb page f.page ne)) frames apart others

left_more : (saved : List ℕ) (f : Frame) (frames : List Frame) → left saved (f ∷ frames) ≡ cond (f.changed && not (is_among saved f.page)) (f.page ∷ left saved frames) (left saved frames)
unfolding left
left_more saved f frames = by (f.changed && not (is_among saved f.page))
  where
    by : (b : Bool) → map page_of (cond b (f ∷ filter (λ g. g.changed && not (is_among saved g.page)) frames) (filter (λ g. g.changed && not (is_among saved g.page)) frames))
        ≡ cond b (f.page ∷ map page_of (filter (λ g. g.changed && not (is_among saved g.page)) frames)) (map page_of (filter (λ g. g.changed && not (is_among saved g.page)) frames))
    by true = refl
    by false = refl

-- what is left behind the first changed ones are the others
left_are : (n : ℕ) (saved : List ℕ) (frames : List Frame) → AreDistinct frames → AreApart saved frames
    → left (saved ++ map page_of (take n (filter (λ f. f.changed) frames))) frames ≡ drop n (map page_of (filter (λ f. f.changed) frames))
unfolding left
left_are n saved [] distinct apart = none n
  where
    none : (m : ℕ) → ◌≡◌ {A = List ℕ} [] (drop m [])
    none zero = refl
    none (suc m) = refl
left_are n saved (f ∷ frames) distinct apart = by n f.changed refl (λ k ps others. left_are k ps frames distinct.1 others)
  where
    mark : (ps : List ℕ) (c a : Bool) → f.changed ≡ c → is_among ps f.page ≡ a
        → left ps (f ∷ frames) ≡ cond (c && not a) (f.page ∷ left ps frames) (left ps frames)
    mark ps c a is among = left_more ps f frames ∙ (λ i. cond (is i && not (among i)) (f.page ∷ left ps frames) (left ps frames))

    here : (ps : List ℕ) → is_among (saved ++ f.page ∷ ps) f.page ≡ true
    here ps = among_append saved (f.page ∷ ps) f.page ∙ ap (λ b. b || (f.page == f.page || is_among ps f.page)) apart.0
        ∙ ap (λ b. b || is_among ps f.page) (eq-eqb f.page f.page refl)

    by : (m : ℕ) (c : Bool) → f.changed ≡ c
        → ((k : ℕ) (ps : List ℕ) → AreApart ps frames → left (ps ++ map page_of (take k (filter (λ g. g.changed) frames))) frames ≡ drop k (map page_of (filter (λ g. g.changed) frames)))
        → left (saved ++ map page_of (take m (cond c (f ∷ filter (λ g. g.changed) frames) (filter (λ g. g.changed) frames)))) (f ∷ frames)
        ≡ drop m (map page_of (cond c (f ∷ filter (λ g. g.changed) frames) (filter (λ g. g.changed) frames)))
    by m false is others = left_more (saved ++ map page_of (take m (filter (λ g. g.changed) frames))) f frames
        ∙ ap (λ b. cond (b && not (is_among (saved ++ map page_of (take m (filter (λ g. g.changed) frames))) f.page))
        (f.page ∷ left (saved ++ map page_of (take m (filter (λ g. g.changed) frames))) frames) (left (saved ++ map page_of (take m (filter (λ g. g.changed) frames))) frames)) is
        ∙ others m saved apart.1
    by zero true is others =
        mark (saved ++ []) true false is (among_append saved [] f.page ∙ ap (λ b. b || false) apart.0)
        ∙ ap (λ l. f.page ∷ l) (others 0 saved apart.1)
    by (suc m) true is others =
        mark (saved ++ f.page ∷ map page_of (take m (filter (λ g. g.changed) frames))) true true is (here (map page_of (take m (filter (λ g. g.changed) frames))))
        ∙ ap (λ ps. left ps frames) (sym (append_assoc saved (f.page ∷ []) (map page_of (take m (filter (λ g. g.changed) frames)))))
        ∙ others m (saved ++ f.page ∷ []) (one_apart saved f.page frames apart.1 distinct.0)

-- the frames as they are then
left_cleared : (pages : List ℕ) (frames : List Frame) → map page_of (filter (λ f. f.changed) (map (cleared_by pages) frames)) ≡ left pages frames
unfolding left
left_cleared pages [] = refl
left_cleared pages (f ∷ frames) =
    ap (λ b. map page_of (cond b (cleared_by pages f ∷ filter (λ g. g.changed) (map (cleared_by pages) frames)) (filter (λ g. g.changed) (map (cleared_by pages) frames)))) (by_mark pages f)
    ∙ by (f.changed && not (is_among pages f.page)) (left_cleared pages frames) ∙ sym (left_more pages f frames)
  where
    by : (b : Bool) → map page_of (filter (λ g. g.changed) (map (cleared_by pages) frames)) ≡ left pages frames
        → map page_of (cond b (cleared_by pages f ∷ filter (λ g. g.changed) (map (cleared_by pages) frames)) (filter (λ g. g.changed) (map (cleared_by pages) frames)))
        ≡ cond b (f.page ∷ left pages frames) (left pages frames)
    by true rest = (λ i. by_page pages f i ∷ rest i)
    by false rest = rest

-- a push of the coldest leaves the others, in their order
pub pages_left : (room : ℕ) (frames : List Frame) → AreDistinct frames → map page_of (changed_frames (cleared_all (map page_of (first_changed room frames)) frames)) ≡ drop room (map page_of (changed_frames frames))
pages_left room frames distinct =
    let saved : List ℕ = map page_of (first_changed room frames) in
    ap (λ l. map page_of (filter (λ f. f.changed) (reverse l))) (all_cleared saved frames)
    ∙ ap (λ l. map page_of (filter (λ f. f.changed) l)) (reverse_map (cleared_by saved) frames)
    ∙ left_cleared saved (reverse frames)
    ∙ left_are room [] (reverse frames) (distinct_reverse frames distinct) (none (reverse frames))
  where
    none : (l : List Frame) → AreApart [] l
    none [] = tt
    none (f ∷ l) = (refl, none l)

-- some page is changed exactly where changed ones are left
some_pages : (frames : List Frame) → 0 < length (map page_of (changed_frames frames)) → list_any (λ p. p.changed) (map pool_page frames) ≡ true
some_pages [] less = absurd (omega (arith, less))
some_pages (f ∷ frames) less = by f.changed refl (some_pages frames)
  where
    by : (c : Bool) → f.changed ≡ c → (0 < length (map page_of (changed_frames frames)) → list_any (λ p. p.changed) (map pool_page frames) ≡ true)
        → (f.changed || list_any (λ p. p.changed) (map pool_page frames)) ≡ true
    by true is rest = ap (λ b. b || list_any (λ p. p.changed) (map pool_page frames)) is
    by false is rest = ap (λ b. b || list_any (λ p. p.changed) (map pool_page frames)) is ∙ rest fewer
      where
        fewer : 0 < length (map page_of (changed_frames frames))
        fewer = omega (
          arith,
          less,
          ap length (ap (map page_of) (changed_more f frames ∙ ap (λ b. changed_frames frames ++ cond b (f ∷ []) []) is)),
          length-map (changed_frames frames ++ []) page_of,
          length-map (changed_frames frames) page_of,
          length-append (changed_frames frames) [],
        )

no_pages : (frames : List Frame) → length (map page_of (changed_frames frames)) ≡ 0 → list_any (λ p. p.changed) (map pool_page frames) ≡ false
no_pages frames none = by (list_any (λ p. p.changed) (map pool_page frames)) refl
  where
    by : (b : Bool) → list_any (λ p. p.changed) (map pool_page frames) ≡ b → list_any (λ p. p.changed) (map pool_page frames) ≡ false
    by true is = absurd (omega (arith, none, some_chosen 1 frames (omega arith) is, length-take 1 (changed_frames frames), length-map (changed_frames frames) page_of))
    by false is = is

pub all_changed : (frames : List Frame) (n : ℕ) → n ≡ length frames → map page_of (take n (changed_frames frames)) ≡ map page_of (changed_frames frames)
all_changed frames n all =
    ap (map page_of) (take_all n (changed_frames frames) (omega (arith, all, length-filter (λ (f : Frame). f.changed) (reverse frames), count_by-le-length (λ (f : Frame). f.changed) (reverse frames), length-reverse frames)))

-- what is left to be pushed, in groups

take_same : {X : Type 0} (n k : ℕ) (xs : List X) → n ≤ k → n ≤ length xs → (n < k → length xs ≤ n) → take n xs ≡ take k xs
take_same zero zero xs low within all = refl
take_same zero (suc k) [] low within all = refl
take_same zero (suc k) (x ∷ xs) low within all = let none : length (x ∷ xs) ≤ 0 = all (omega arith) in absurd (omega (arith, none))
take_same (suc n) zero xs low within all = absurd (omega (arith, low))
take_same (suc n) (suc k) [] low within all = absurd (omega (arith, within))
take_same (suc n) (suc k) (x ∷ xs) low within all =
    ap (λ l. x ∷ l) (take_same n k xs (omega (arith, low)) (omega (arith, within)) (λ less. let rest = all (omega (arith, less)) in omega (arith, rest)))

drop_same : {X : Type 0} (n k : ℕ) (xs : List X) → n ≤ k → n ≤ length xs → (n < k → length xs ≤ n) → drop n xs ≡ drop k xs
drop_same zero zero xs low within all = refl
drop_same zero (suc k) [] low within all = refl
drop_same zero (suc k) (x ∷ xs) low within all = let none : length (x ∷ xs) ≤ 0 = all (omega arith) in absurd (omega (arith, none))
drop_same (suc n) zero xs low within all = absurd (omega (arith, low))
drop_same (suc n) (suc k) [] low within all = absurd (omega (arith, within))
drop_same (suc n) (suc k) (x ∷ xs) low within all =
    drop_same n k xs (omega (arith, low)) (omega (arith, within)) (λ less. let rest = all (omega (arith, less)) in omega (arith, rest))

take_pages : (n : ℕ) (xs : List Frame) → take n (map page_of xs) ≡ map page_of (take n xs)
take_pages zero xs = refl
take_pages (suc n) [] = refl
take_pages (suc n) (x ∷ xs) = ap (λ l. x.page ∷ l) (take_pages n xs)

module _ (frames : List Frame) (rest : List ℕ) (are : rest ≡ map page_of (changed_frames frames)) where
  pub some_left : (length rest == 0) ≡ false → list_any (λ p. p.changed) (map pool_page frames) ≡ true
  some_left not_empty = some_pages frames (omega (arith, eqb-false (length rest) 0 not_empty, ap length are))

  pub none_left : (length rest == 0) ≡ true → list_any (λ p. p.changed) (map pool_page frames) ≡ false
  none_left empty = no_pages frames (sym (ap length are) ∙ eqb-true (length rest) 0 empty)

  module _ (room n : ℕ) (n_is : n ≡ min room (length rest)) where
    pub front_pages : take n rest ≡ map page_of (first_changed room frames)
    front_pages = take_same n room rest (omega (arith, n_is)) (omega (arith, n_is)) (λ less. omega (arith, n_is, less)) ∙ ap (take room) are ∙ take_pages room (changed_frames frames)

    pub back_pages : (after : List Frame) → AreDistinct frames → after ≡ cleared_all (map page_of (first_changed room frames)) frames → drop n rest ≡ map page_of (changed_frames after)
    back_pages after distinct is =
        drop_same n room rest (omega (arith, n_is)) (omega (arith, n_is)) (λ less. omega (arith, n_is, less)) ∙ ap (drop room) are ∙ sym (pages_left room frames distinct)
        ∙ ap (λ l. map page_of (changed_frames l)) (sym is)
