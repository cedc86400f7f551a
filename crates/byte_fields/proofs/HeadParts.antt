-- The parts of a head, and that they are the head.
use Rattle.std.proofs.Common.{◌≡◌, ℕ, ◌+◌, ◌<◌, ◌≤◌, Bool, true, false, List, [], ◌∷◌, ◌++◌, length, get_or, take, drop, refl, ap, sym, ◌∙◌, arith, inr}
use Rattle.std.specs.Int.{w16, w32, w64, from_be_bytes, to_be_bytes}
use Rattle.std.proofs.lemmas.List.{length-drop, length-take, get_or-take, get_or-drop, drop-drop}
use Rattle.std.proofs.Math.Seq.{take-add}
use Rattle.std.proofs.lemmas.Nat.{be_bytes_2, be_bytes_4, be_bytes_8, from_be_bytes-to_be_bytes_4, from_be_bytes-to_be_bytes_8}
use Rattle.byte_fields.specs.declared.frame_head.FrameHead.{FrameHead}
use Rattle.byte_fields.specs.FrameHeads.{flag, blank, spelling, HasForm, FitsFields, IsHeadAt}
use Rattle.byte_fields.specs.Writes.{Writes}
use Rattle.byte_fields.proofs.Texts.{IsBytes, IsBytes-drop, IsBytes-take, part_of, stands_there}

-- what stands in each field
pub record HasParts (octets : List ℕ) (at : ℕ) (head : FrameHead) : Type 0 where
  pub present : get_or octets at 0 ≡ flag head.present
  pub dirty : get_or octets (at + 1) 0 ≡ flag head.dirty
  pub zero : from_be_bytes w16 (take 2 (drop (at + 2) octets)) ≡ 0
  pub page : from_be_bytes w32 (take 4 (drop (at + 4) octets)) ≡ head.page
  pub lsn : from_be_bytes w64 (take 8 (drop (at + 8) octets)) ≡ head.lsn

one_octet : (octets text : List ℕ) (at k : ℕ) → take 16 (drop at octets) ≡ text → k < 16 → get_or octets (at + k) 0 ≡ get_or text k 0
one_octet octets text at k e less =
    sym (get_or-drop at octets k 0) ∙ sym (get_or-take 16 (drop at octets) k 0 less) ∙ ap (λ (t : List ℕ). get_or t k 0) e

pub parts_of : (octets : List ℕ) (at : ℕ) (head : FrameHead) → IsHeadAt octets at head → HasParts octets at head
unfolding spelling
parts_of octets at head is = record {
  present = ap (λ n. get_or octets n 0) (omega arith) ∙ one_octet octets (spelling head) at 0 is.text (omega arith);
  dirty = one_octet octets (spelling head) at 1 is.text (omega arith);
  zero = ap (from_be_bytes w16) (part_of octets (spelling head) at 16 2 2 is.text (omega arith));
  page = ap (from_be_bytes w32) (part_of octets (spelling head) at 16 4 4 is.text (omega arith)) ∙ from_be_bytes-to_be_bytes_4 head.page is.fits_fields.0;
  lsn = ap (from_be_bytes w64) (part_of octets (spelling head) at 16 8 8 is.text (omega arith)) ∙ from_be_bytes-to_be_bytes_8 head.lsn is.fits_fields.1;
}

two_octets : (l : List ℕ) → 2 ≤ length l → take 2 l ≡ get_or l 0 0 ∷ get_or l 1 0 ∷ []
two_octets [] h = absurd (omega (arith, h))
two_octets (x ∷ []) h = absurd (omega (arith, h))
two_octets (x ∷ y ∷ l) h = refl

four_parts : (l : List ℕ) → take 16 l ≡ take 2 l ++ take 2 (drop 2 l) ++ take 4 (drop 4 l) ++ take 8 (drop 8 l)
four_parts l =
    take-add 8 8 l ∙ ap (λ (t : List ℕ). t ++ take 8 (drop 8 l)) (take-add 4 4 l)
    ∙ ap (λ (t : List ℕ). t ++ take 4 (drop 4 l) ++ take 8 (drop 8 l)) (take-add 2 2 l)

pub spelled_by_parts : (octets : List ℕ) (at : ℕ) (head : FrameHead) → IsBytes octets → at + 16 ≤ length octets → HasParts octets at head → take 16 (drop at octets) ≡ spelling head
unfolding spelling
spelled_by_parts octets at head bytes room parts =
    let l = drop at octets in
    let long : 16 ≤ length l = omega (arith, length-drop at octets, room) in
    let fits = IsBytes-drop at octets bytes in
    let first : get_or l 0 0 ≡ flag head.present = get_or-drop at octets 0 0 ∙ ap (λ n. get_or octets n 0) (omega arith) ∙ parts.present in
    let second : get_or l 1 0 ≡ flag head.dirty = get_or-drop at octets 1 0 ∙ parts.dirty in
    let flags : take 2 l ≡ flag head.present ∷ flag head.dirty ∷ [] = two_octets l (omega (arith, long)) ∙ rw (first, second) refl in
    let part_2 : to_be_bytes w16 0 ≡ take 2 (drop 2 l) = be_bytes_2 (take 2 (drop 2 l)) 0
    (omega (arith, length-take 2 (drop 2 l), length-drop 2 l, long)) (IsBytes-take 2 (drop 2 l) (IsBytes-drop 2 l fits))
    (sym parts.zero ∙ ap (λ (t : List ℕ). from_be_bytes w16 (take 2 t)) (sym (drop-drop 2 at octets))) in
    let part_4 : to_be_bytes w32 head.page ≡ take 4 (drop 4 l) = be_bytes_4 (take 4 (drop 4 l)) head.page
    (omega (arith, length-take 4 (drop 4 l), length-drop 4 l, long)) (IsBytes-take 4 (drop 4 l) (IsBytes-drop 4 l fits))
    (sym parts.page ∙ ap (λ (t : List ℕ). from_be_bytes w32 (take 4 t)) (sym (drop-drop 4 at octets))) in
    let part_8 : to_be_bytes w64 head.lsn ≡ take 8 (drop 8 l) = be_bytes_8 (take 8 (drop 8 l)) head.lsn
    (omega (arith, length-take 8 (drop 8 l), length-drop 8 l, long)) (IsBytes-take 8 (drop 8 l) (IsBytes-drop 8 l fits))
    (sym parts.lsn ∙ ap (λ (t : List ℕ). from_be_bytes w64 (take 8 t)) (sym (drop-drop 8 at octets))) in
    four_parts l ∙ ap (λ (t : List ℕ). t ++ take 2 (drop 2 l) ++ take 4 (drop 4 l) ++ take 8 (drop 8 l)) flags
    ∙ ap (λ (t : List ℕ). flag head.present ∷ flag head.dirty ∷ [] ++ t ++ take 4 (drop 4 l) ++ take 8 (drop 8 l)) (sym part_2)
    ∙ ap (λ (t : List ℕ). flag head.present ∷ flag head.dirty ∷ [] ++ to_be_bytes w16 0 ++ t ++ take 8 (drop 8 l)) (sym part_4)
    ∙ ap (λ (t : List ℕ). flag head.present ∷ flag head.dirty ∷ [] ++ to_be_bytes w16 0 ++ to_be_bytes w32 head.page ++ t) (sym part_8)

same_flag : (a b : Bool) → flag a ≡ flag b → a ≡ b
same_flag false false e = refl
same_flag true true e = refl
same_flag false true e = absurd (omega (arith, e))
same_flag true false e = absurd (omega (arith, e))

same_head : (a b : FrameHead) → a.present ≡ b.present → a.dirty ≡ b.dirty → a.page ≡ b.page → a.lsn ≡ b.lsn → a ≡ b
same_head a b p d g l =
    let head : Bool → Bool → ℕ → ℕ → FrameHead = λ present dirty page lsn. record { present = present; dirty = dirty; page = page; lsn = lsn } in
    ap (λ x. head x a.dirty a.page a.lsn) p ∙ ap (λ x. head b.present x a.page a.lsn) d ∙ ap (λ x. head b.present b.dirty x a.lsn) g ∙ ap (λ x. head b.present b.dirty b.page x) l

-- at most one head has these parts
pub one_by_parts : (octets : List ℕ) (at : ℕ) (a b : FrameHead) → HasParts octets at a → HasParts octets at b → a ≡ b
one_by_parts octets at a b first second =
    same_head a b (same_flag _ _ (sym first.present ∙ second.present)) (same_flag _ _ (sym first.dirty ∙ second.dirty)) (sym first.page ∙ second.page) (sym first.lsn ∙ second.lsn)

-- at most one head is spelled at a place
pub one_head : (octets : List ℕ) (at : ℕ) (a b : FrameHead) → IsHeadAt octets at a → IsHeadAt octets at b → a ≡ b
one_head octets at a b first second = one_by_parts octets at a b (parts_of octets at a first) (parts_of octets at b second)

pub length_spelling : (head : FrameHead) → length (spelling head) ≡ 16
unfolding spelling
length_spelling head = refl

-- a head that was written is spelled there
pub written_head : (old new : List ℕ) (at : ℕ) (head : FrameHead) → Writes old new at (spelling head) → HasForm head → FitsFields head → IsHeadAt new at head
written_head old new at head writes form fits = record {
  text = ap (λ n. take n (drop at new)) (sym (length_spelling head)) ∙ stands_there writes;
  has_form = form;
  fits_fields = fits;
}

-- the numbers in the two halves of a head's octets
abbrev pub front_half : List ℕ → ℕ → ℕ
front_half octets at = from_be_bytes w64 (take 8 (drop at octets))

abbrev pub back_half : List ℕ → ℕ → ℕ
back_half octets at = from_be_bytes w64 (take 8 (drop (at + 8) octets))

-- octets that are all 0 are those of the head of no frame
pub blank_at : (octets : List ℕ) (at : ℕ) → IsBytes octets → at + 16 ≤ length octets → front_half octets at ≡ 0 → back_half octets at ≡ 0 → IsHeadAt octets at blank
unfolding spelling
blank_at octets at bytes room front back =
    let l = drop at octets in
    let long : 16 ≤ length l = omega (arith, length-drop at octets, room) in
    let fits = IsBytes-drop at octets bytes in
    let first : to_be_bytes w64 0 ≡ take 8 l = be_bytes_8 (take 8 l) 0 (omega (arith, length-take 8 l, long)) (IsBytes-take 8 l fits) (sym front) in
    let second : to_be_bytes w64 0 ≡ take 8 (drop 8 l) = be_bytes_8 (take 8 (drop 8 l)) 0
    (omega (arith, length-take 8 (drop 8 l), length-drop 8 l, long)) (IsBytes-take 8 (drop 8 l) (IsBytes-drop 8 l fits))
    (sym back ∙ ap (λ (t : List ℕ). from_be_bytes w64 (take 8 t)) (sym (drop-drop 8 at octets))) in
    record {
      text = take-add 8 8 l ∙ ap (λ (t : List ℕ). t ++ take 8 (drop 8 l)) (sym first) ∙ ap (λ (t : List ℕ). to_be_bytes w64 0 ++ t) (sym second);
      has_form = inr refl;
      fits_fields = (omega arith, omega arith);
    }

-- and those of the head of no frame are all 0
pub halves_of_blank : (octets : List ℕ) (at : ℕ) → IsHeadAt octets at blank → (front_half octets at ≡ 0) × (back_half octets at ≡ 0)
unfolding spelling
halves_of_blank octets at is = (
  ap (λ n. from_be_bytes w64 (take 8 (drop n octets))) (omega arith) ∙ ap (from_be_bytes w64) (part_of octets (spelling blank) at 16 0 8 is.text (omega arith)),
  ap (from_be_bytes w64) (part_of octets (spelling blank) at 16 8 8 is.text (omega arith)),
)
