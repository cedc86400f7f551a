-- Values counted page by page.
use Rattle.image_check.proofs.Names.{◌≡◌, ℕ, zero, suc, ◌+◌, ◌*◌, ◌<◌, Bool, true, false, cond, ◌≤◌, List, [], ◌∷◌, ◌++◌, map, refl, sym, ap, subst, ◌∙◌, arith, sum_by-map-range_with_len_more, range_with_len, IfNone, slot_of_page, length-versions, version_in, versions_on, Entry, Version, version_at, slot_at, value_of, table_of, Pairwise, Content, content_at, Queue, Image, Geometry, slots_of, all_left}
use Rattle.std.proofs.Common.{count_by, is_some}
use Rattle.std.specs.Prelude.{Option, None}

-- how many of n numbers from one on have a value
abbrev pub values_among : (ℕ → Content) → ℕ → ℕ → ℕ
values_among f a n = count_by is_some (map f (range_with_len a n))

pub value_more : (f : ℕ → Content) (a n : ℕ) → values_among f a (n + 1) ≡ values_among f a n + cond (is_some (f (a + n))) 1 0
value_more f a n = sum_by-map-range_with_len_more (λ (x : Content). cond (is_some x) 1 0) f a n (a + n) refl

-- one number more
pub one_value : (f : ℕ → Content) (a n count : ℕ) (b : Bool) → b ≡ is_some (f (a + n)) → count ≡ values_among f a n → count + cond b 1 0 ≡ values_among f a (n + 1)
one_value f a n count b is counted = (λ i. counted i + cond (is i) 1 0) ∙ sym (value_more f a n)

-- n numbers more
pub values_more : (f : ℕ → Content) (a m n : ℕ) → values_among f a m + values_among f (a + m) n ≡ values_among f a (m + n)
values_more f a m zero = let none : m + 0 ≡ m = omega arith in let zeros : values_among f a m + 0 ≡ values_among f a m = omega arith in zeros ∙ ap (values_among f a) (sym none)
values_more f a m (suc n) =
    let last : ℕ = cond (is_some (f (a + m + n))) 1 0 in
    let one : suc n ≡ n + 1 = omega arith in
    let all : m + n + 1 ≡ m + suc n = omega arith in
    let at : a + (m + n) ≡ a + m + n = omega arith in
    let here : values_among f (a + m) (suc n) ≡ values_among f (a + m) n + last = ap (values_among f (a + m)) one ∙ value_more f (a + m) n in
    let there : values_among f a (m + suc n) ≡ values_among f a (m + n) + last = ap (values_among f a) (sym all) ∙ value_more f a (m + n) ∙ ap (λ (k : ℕ). values_among f a (m + n) + cond (is_some (f k)) 1 0) at in
    let before = values_more f a m n in
    let sums : values_among f a m + (values_among f (a + m) n + last) ≡ values_among f a (m + n) + last = omega (arith, before) in
    ap (λ (k : ℕ). values_among f a m + k) here ∙ sums ∙ sym there

-- the numbers of a page behind those of the pages before it
pub page_more : (f : ℕ → Content) (page count more : ℕ) → count ≡ values_among f 0 (32 * page) → more ≡ values_among f (32 * page) 32 → count + more ≡ values_among f 0 (32 * (page + 1))
page_more f page count more counted here =
    let at : 32 * page ≡ 0 + 32 * page = omega arith in
    let all : 32 * page + 32 ≡ 32 * (page + 1) = omega arith in
    (λ i. counted i + (here ∙ ap (λ (k : ℕ). values_among f k 32) at) i) ∙ values_more f 0 (32 * page) 32 ∙ ap (values_among f 0) all

-- those of all pages
pub all_pages : (g : Geometry) (image : Image) (log : List Entry) (count page : ℕ) → page ≡ g.pages → count ≡ values_among (value_of log (versions_on g image)) 0 (32 * page) → count ≡ count_by is_some (table_of log (versions_on g image))
all_pages g image log count page end counted = counted ∙ ap (λ (k : ℕ). values_among (value_of log (versions_on g image)) 0 (32 * k)) (end ∙ sym (length-versions g image))

-- whether a slot of a page has a value
pub slot_has : (pages : List Version) (page slot : ℕ) (octets : List ℕ) (content : Content) (b : Bool) → slot < 32 → version_at pages page ≡ version_in octets → content ≡ content_at (slots_of octets) slot → b ≡ is_some content → b ≡ is_some (slot_at pages (32 * page + slot))
slot_has pages page slot octets content b less version is same =
    same ∙ ap is_some (is ∙ sym (ap (λ (v : Version). content_at v.slots slot) version) ∙ sym (slot_of_page pages page slot less))

-- the records before others are apart where all are
pub pairs_front : {X : Type 0} (R : X → X → Type 0) (xs ys : List X) → Pairwise R (xs ++ ys) → Pairwise R xs
pairs_front R [] ys pairs = tt
pairs_front R (x ∷ xs) ys pairs = (all_left (R x) xs ys pairs.0, pairs_front R xs ys pairs.1)

pub one_at_most : (n : ℕ) (b : Bool) → n ≡ cond b 1 0 → n ≤ 1
one_at_most n true is = omega (arith, is)
one_at_most n false is = omega (arith, is)

-- what was found

pub none_found : (o : Option Queue) → o ≡ None → IfNone o ⊥ → ⊥
none_found o is none = subst (λ (x : Option Queue). IfNone x ⊥) is none
