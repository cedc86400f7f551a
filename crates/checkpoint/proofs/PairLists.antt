-- Pairs that stand one after the other.
use Rattle.std.proofs.lemmas.Grind.{flat_map-append}
use Rattle.checkpoint.proofs.Names.{◌≡◌, ℕ, ◌+◌, ◌*◌, ◌<◌, ◌≤◌, List, [], ◌∷◌, ◌++◌, length, get_or, take, drop, refl, ap, sym, subst, ◌∙◌, arith, length-append, take-add, take_at, drop_at, drop-drop, drop-take, take-take, take_more, length-take-le, length-take, length-drop, append-nil, be_bytes_8, from_be_bytes-to_be_bytes_8, w64, from_be_bytes, to_be_bytes, AllByRecursion, writes_then, Writes, pair_spelling, spelling_of_all, FitsFields, ArePairs, Pair}
use Rattle.std_lemmas.proofs.AllOf.{all_push}
use Rattle.checkpoint.specs.Units.{number_at, pairs_in}
use Rattle.checkpoint.proofs.Texts.{IsBytes, IsBytes-drop, IsBytes-take, length-written}

pub length_all : (pairs : List Pair) → length (spelling_of_all pairs) ≡ 16 * length pairs
length_all [] = refl
length_all (p ∷ pairs) = omega (arith, length-append (pair_spelling p) (spelling_of_all pairs), length_all pairs)

pub spelling_more : (pairs : List Pair) (p : Pair) → spelling_of_all (pairs ++ p ∷ []) ≡ spelling_of_all pairs ++ pair_spelling p
spelling_more pairs p = flat_map-append pair_spelling pairs (p ∷ []) ∙ ap (λ (t : List ℕ). spelling_of_all pairs ++ t) (append-nil (pair_spelling p))

-- eight octets spell the number that they have
pub number_spelled : (octets : List ℕ) (at n : ℕ) → IsBytes octets → at + 8 ≤ length octets → n ≡ from_be_bytes w64 (take 8 (drop at octets)) → to_be_bytes w64 n ≡ take 8 (drop at octets)
number_spelled octets at n bytes room is =
    be_bytes_8 (take 8 (drop at octets)) n (omega (arith, length-take 8 (drop at octets), length-drop at octets, room)) (IsBytes-take 8 (drop at octets) (IsBytes-drop at octets bytes)) is

-- one pair more
pub pairs_more : (octets : List ℕ) (pairs : List Pair) (p : Pair) (at : ℕ) → ArePairs octets pairs → FitsFields p → IsBytes octets → at ≡ 16 * length pairs → at + 16 ≤ length octets →
    p.begin ≡ from_be_bytes w64 (take 8 (drop at octets)) → p.last ≡ from_be_bytes w64 (take 8 (drop (at + 8) octets)) → ArePairs octets (pairs ++ p ∷ [])
pairs_more octets pairs p at are fits bytes here room begin last =
    let size : 16 * length (pairs ++ p ∷ []) ≡ at + 16 = omega (arith, length-append pairs (p ∷ []), here) in
    let two : take 16 (drop at octets) ≡ pair_spelling p = take-add 8 8 (drop at octets) ∙ ap (λ (t : List ℕ). take 8 (drop at octets) ++ take 8 t) (drop-drop 8 at octets)
    ∙ ap (λ (t : List ℕ). t ++ take 8 (drop (at + 8) octets)) (sym (number_spelled octets at p.begin bytes (omega (arith, room)) begin))
    ∙ ap (λ (t : List ℕ). to_be_bytes w64 p.begin ++ t) (sym (number_spelled octets (at + 8) p.last bytes (omega (arith, room)) last)) in
    record {
      text = ap (λ n. take n octets) size ∙ take-add at 16 octets ∙ ap (λ n. take n octets ++ take 16 (drop at octets)) here
          ∙ ap (λ (t : List ℕ). t ++ take 16 (drop at octets)) are.text ∙ ap (λ (t : List ℕ). spelling_of_all pairs ++ t) two ∙ sym (spelling_more pairs p);
      fit = all_push FitsFields pairs p are.fit fits;
    }

first_pair : (octets : List ℕ) (p : Pair) (pairs : List Pair) → ArePairs octets (p ∷ pairs) → take 16 octets ≡ pair_spelling p
first_pair octets p pairs are = sym (take-take 16 (16 * length (p ∷ pairs)) octets (omega arith)) ∙ ap (take 16) are.text ∙ take_at (pair_spelling p) (spelling_of_all pairs) 16 refl

other_pairs : (octets : List ℕ) (p : Pair) (pairs : List Pair) → ArePairs octets (p ∷ pairs) → ArePairs (drop 16 octets) pairs
other_pairs octets p pairs are = record {
  text = sym (drop-take 16 (16 * length pairs) octets) ∙ ap (λ n. drop 16 (take n octets)) (omega arith) ∙ ap (drop 16) are.text ∙ drop_at (pair_spelling p) (spelling_of_all pairs) 16 refl;
  fit = are.fit.1;
}

same_pair : (a b : Pair) → FitsFields a → FitsFields b → pair_spelling a ≡ pair_spelling b → a ≡ b
same_pair a b fits other e = grind (arith, from_be_bytes-to_be_bytes_8)

-- at most one list of so many pairs is spelled there
pub one_list : (octets : List ℕ) (a b : List Pair) → ArePairs octets a → ArePairs octets b → length a ≡ length b → a ≡ b
one_list octets [] [] first second size = refl
one_list octets [] (p ∷ b) first second size = absurd (omega (arith, size))
one_list octets (p ∷ a) [] first second size = absurd (omega (arith, size))
one_list octets (p ∷ a) (q ∷ b) first second size = grind (arith, same_pair, first_pair, other_pairs, (one_list (drop 16 octets) a b (other_pairs octets p a first) (other_pairs octets q b second) (omega (arith, size))))

-- the pairs that are spelled there are read there
pub pairs_read : (octets : List ℕ) (pairs : List Pair) → ArePairs octets pairs → pairs_in (length pairs) octets ≡ pairs
unfolding pairs_in
pairs_read octets [] are = refl
pairs_read octets (p ∷ pairs) are =
    let first = first_pair octets p pairs are in
    let begin : number_at octets 0 ≡ p.begin = ap (from_be_bytes w64) (sym (take-take 8 16 octets (omega arith)) ∙ ap (take 8) first) ∙ from_be_bytes-to_be_bytes_8 p.begin are.fit.0.0 in
    let last : number_at octets 8 ≡ p.last = ap (from_be_bytes w64) (sym (drop-take 8 8 octets) ∙ ap (drop 8) first) ∙ from_be_bytes-to_be_bytes_8 p.last are.fit.0.1 in
    let rest = pairs_read (drop 16 octets) pairs (other_pairs octets p pairs are) in
    λ i. record { begin = begin i; last = last i } ∷ rest i

-- one pair more that is written
pub writes_more : (old content mid new : List ℕ) (pairs : List Pair) (i at : ℕ) (p : Pair) → i < length pairs → get_or pairs i p ≡ p → at ≡ 25 + 16 * i → length pairs ≤ 8 → length old ≡ 503 →
    Writes old content 25 (spelling_of_all (take i pairs)) → mid ≡ take at content ++ (to_be_bytes w64 p.begin ++ drop (at + 8) content) →
    new ≡ take (at + 8) mid ++ (to_be_bytes w64 p.last ++ drop (at + 8 + 8) mid) → Writes old new 25 (spelling_of_all (take (i + 1) pairs))
writes_more old content mid new pairs i at p less is here few size before first second =
    let length_content : length content ≡ 503 = length-written before ∙ size in
    let one : Writes content mid at (to_be_bytes w64 p.begin) = record { inside = omega (arith, length_content, here, less, few); written = first } in
    let length_mid : length mid ≡ 503 = length-written one ∙ length_content in
    let two : Writes mid new (at + 8) (to_be_bytes w64 p.last) = record { inside = omega (arith, length_mid, here, less, few); written = second } in
    let both : Writes content new at (pair_spelling p) = writes_then one two refl in
    subst (λ (t : List ℕ). Writes old new 25 t) (sym (ap spelling_of_all (take_more pairs i p less ∙ ap (λ (x : Pair). take i pairs ++ x ∷ []) is) ∙ spelling_more (take i pairs) p))
    (writes_then before both (omega (arith, here, length_all (take i pairs), length-take-le i pairs (omega (arith, less)))))

pub fit_more : (pairs : List Pair) (i : ℕ) (p : Pair) → i < length pairs → get_or pairs i p ≡ p → AllByRecursion FitsFields (take i pairs) → FitsFields p → AllByRecursion FitsFields (take (i + 1) pairs)
fit_more pairs i p less is before fits =
    subst (AllByRecursion FitsFields) (sym (take_more pairs i p less ∙ ap (λ (x : Pair). take i pairs ++ x ∷ []) is)) (all_push FitsFields (take i pairs) p before fits)
