-- Where the first newline of a piece stands, and what of the piece is kept.
use Rattle.std.proofs.Common.{◌≡◌, ◌≢◌, ℕ, zero, suc, ◌+◌, ◌-◌, ◌≤◌, ◌<◌, List, [], ◌∷◌, ◌++◌, length, take, drop, slice_index, Option, Some, None, refl, sym, ap, ◌∙◌, arith, inl, inr}
use Rattle.std.specs.Prelude.{min}
use Rattle.std.specs.Option.{unwrap_or}
use Rattle.std.specs.List.{AllByRecursion}
use Rattle.std.proofs.lemmas.Bool.{cases_lt, eqb-true, eq-eqb}
use Rattle.std.proofs.lemmas.List.{append-nil, length-take, take-append-drop, take_all, drop_more}
use Rattle.memchr.specs.Find.{IsFirstByte, is_byte}
use Rattle.line_intake.specs.Gathering.{from_newline, Gathers}

-- the octets up to a place, none of which is a newline
none_before : (xs : List ℕ) (n : ℕ) → ((k : ℕ) → k < n → k < length xs → slice_index xs k ≢ 10) → AllByRecursion (λ x. x ≢ 10) (take n xs)
none_before xs zero others = tt
none_before [] (suc n) others = tt
none_before (x ∷ xs) (suc n) others = (others 0 (omega arith) (omega arith), none_before xs n (λ k before within. others (suc k) (omega (arith, before)) (omega (arith, within))))

-- what has room is kept
kept : (room : ℕ) (old octets : List ℕ) (count : ℕ) → length old ≤ room → count ≡ min (length octets) (room - length old) → old ++ take count octets ≡ take room (old ++ octets)
kept room [] octets count fits is = elim (cases_lt room (length octets)) [
  | inl long ↦ ap (λ n. take n octets) (omega (arith, is, long))
  | inr short ↦ take_all count octets (omega (arith, is, short)) ∙ sym (take_all room octets short)
]
kept zero (x ∷ old) octets count fits is = absurd (omega (arith, fits))
kept (suc room) (x ∷ old) octets count fits is = ap (λ (l : List ℕ). x ∷ l) (kept room old octets count (omega (arith, fits)) (omega (arith, is)))

-- a piece with no newline, and one that has one
pub gathered : (room : ℕ) (piece : List ℕ) (newline : Option ℕ) (old new : List ℕ) (count : ℕ) → IsFirstByte (is_byte 10) piece newline → length old ≤ room
    → count ≡ min (length (take (unwrap_or newline (length piece)) piece)) (room - length old)
    → new ≡ old ++ take count (take (unwrap_or newline (length piece)) piece) → Gathers room piece newline old new
gathered room piece None old new count first fits is new_is = record {
  octets = take (length piece) piece;
  none = none_before piece (length piece) (λ k before within equal. first k (omega arith) within (eq-eqb (slice_index piece k) 10 equal));
  all = sym (append-nil (take (length piece) piece) ∙ take_all (length piece) piece (omega arith));
  place = tt;
  line = new_is ∙ kept room old (take (length piece) piece) count fits is;
}
gathered room piece (Some place) old new count first fits is new_is =
    let inside = first.0.high in
    record {
      octets = take place piece;
      none = none_before piece place (λ k before within equal. first.0.before k (omega arith) before (eq-eqb (slice_index piece k) 10 equal));
      all =
          sym (take-append-drop place piece)
          ∙ ap (λ (l : List ℕ). take place piece ++ l) (drop_more piece place 0 inside ∙ ap (λ x. x ∷ drop (place + 1) piece) (eqb-true (slice_index piece place) 10 first.1));
      place = let long = length-take place piece in omega (arith, long, inside);
      line = new_is ∙ kept room old (take place piece) count fits is;
    }
