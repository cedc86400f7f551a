-- Texts that are written over octets, one after the other, and parts of octets.
use Rattle.std.proofs.Common.{◌≡◌, ℕ, ◌+◌, ◌<◌, ◌≤◌, List, ◌++◌, length, get_or, take, drop, refl, ap, sym, ◌∙◌, append_assoc, arith, inl, inr, length-append}
use Rattle.std.proofs.lemmas.Bool.{cases_lt}
use Rattle.std.proofs.lemmas.List.{take_at, drop_at, drop-drop, drop-take, take-take, length-take, length-take-le, length-drop, get_or-take, get_or-drop, get_or_past}
use Rattle.std_lemmas.proofs.Lists.{length_front}
use Rattle.byte_fields.specs.Writes.{Writes}

abbrev pub IsBytes : List ℕ → Type 0
IsBytes octets = (i : ℕ) → get_or octets i 0 < 256

pub IsBytes-drop : (n : ℕ) (octets : List ℕ) → IsBytes octets → IsBytes (drop n octets)
IsBytes-drop n octets h i = rw get_or-drop (h (n + i))

pub IsBytes-take : (n : ℕ) (octets : List ℕ) → IsBytes octets → IsBytes (take n octets)
IsBytes-take n octets h i =
    elim (cases_lt i n) [
      | inl lt ↦ rw (get_or-take n octets i 0 lt) (h i)
      | inr le ↦ rw (get_or_past (take n octets) i 0 (omega (arith, length-take n octets))) (omega arith)
    ]

-- a text, and another one behind it
pub writes_then : {a b c x y : List ℕ} {from mid : ℕ} → Writes a b from x → Writes b c mid y → mid ≡ from + length x → Writes a c from (x ++ y)
writes_then {a} {b} {c} {x} {y} {from} {mid} first second here =
    let low : from ≤ length a = omega (arith, first.inside) in
    let grouped : b ≡ (take from a ++ x) ++ drop (from + length x) a = first.written ∙ sym (append_assoc (take from a) x _) in
    let front_length : length (take from a ++ x) ≡ mid = length_front a x from low ∙ sym here in
    let front : take mid b ≡ take from a ++ x = ap (take mid) grouped ∙ take_at (take from a ++ x) _ _ front_length in
    let rest : drop mid b ≡ drop mid a = ap (drop mid) grouped ∙ drop_at (take from a ++ x) _ _ front_length ∙ ap (λ n. drop n a) (sym here) in
    let both = length-append x y in
    let tail : drop (mid + length y) b ≡ drop (from + length (x ++ y)) a =
    sym (drop-drop (length y) mid b) ∙ ap (drop (length y)) rest ∙ drop-drop (length y) mid a ∙ ap (λ n. drop n a) (omega (arith, here, both)) in
    let same : length b ≡ length a =
    omega (arith, ap length grouped, length-append (take from a ++ x) (drop (from + length x) a), front_length, length-drop (from + length x) a, first.inside, here) in
    record {
      inside = omega (arith, same, second.inside, here, both);
      written = second.written ∙ ap (λ (t : List ℕ). t ++ (y ++ drop (mid + length y) b)) front ∙ ap (λ (t : List ℕ). (take from a ++ x) ++ (y ++ t)) tail
          ∙ append_assoc (take from a) x _ ∙ ap (λ (t : List ℕ). take from a ++ t) (sym (append_assoc x y _));
    }

-- a text that was put at a place
pub writes_put : (old new : List ℕ) (at : ℕ) (text : List ℕ) → at + length text ≤ length old → new ≡ take at old ++ (text ++ drop (at + length text) old) → Writes old new at text
writes_put old new at text room e = record { inside = room; written = e }

-- a text stands where it was written
pub stands_there : {old new text : List ℕ} {at : ℕ} → Writes old new at text → take (length text) (drop at new) ≡ text
stands_there {old} {new} {text} {at} writes =
    ap (λ (t : List ℕ). take (length text) (drop at t)) writes.written
    ∙ ap (take (length text)) (drop_at (take at old) _ at (length-take-le at old (omega (arith, writes.inside))))
    ∙ take_at text _ _ refl

-- a part of a part
pub part_of : (octets text : List ℕ) (at len k n : ℕ) → take len (drop at octets) ≡ text → k + n ≤ len → take n (drop (at + k) octets) ≡ take n (drop k text)
part_of octets text at len k n e room =
    ap (take n) (sym (drop-drop k at octets)) ∙ sym (drop-take k n (drop at octets)) ∙ ap (drop k) (sym (take-take (k + n) len (drop at octets) room))
    ∙ ap (λ (t : List ℕ). drop k (take (k + n) t)) e ∙ drop-take k n text
