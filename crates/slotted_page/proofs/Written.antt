-- A text that is written over a part of the octets: it stands there, and all other parts are as before.
use Rattle.std.proofs.Common.{◌≡◌, ℕ, ◌+◌, ◌-◌, ◌^◌, ◌<◌, ◌≤◌, List, ◌++◌, length, take, drop, refl, sym, ap, ◌∙◌, arith, append_assoc, length-append}
use Rattle.std.proofs.lemmas.List.{nil_from_length, take-append-drop, take_at, drop_at, drop-drop, drop-append-le, take-append-le, drop-take, take-take, length-take-le, length-drop}
use Rattle.std.proofs.lemmas.Nat.{from_be_bytes-to_be_bytes_2, from_be_bytes-to_be_bytes_8}
use Rattle.std.specs.Int.{w16, w64, from_be_bytes, to_be_bytes}
use Rattle.slotted_page.specs.Layout.{number_at, lsn_of}
use Rattle.slotted_page.specs.Changes.{Wrote}

-- what stood in front of a place within the octets is as long as the place says
front : (at : ℕ) (old : List ℕ) → at ≤ length old → length (take at old) ≡ at
front at old inside = length-take-le at old inside

pub length-Wrote : (old new : List ℕ) (at : ℕ) (text : List ℕ) → Wrote old new at text → length new ≡ length old
length-Wrote old new at text w =
    ap length w.written ∙ omega (
      arith,
      length-append (take at old) (text ++ drop (at + length text) old),
      length-append text (drop (at + length text) old),
      front at old (omega (arith, w.inside)),
      length-drop (at + length text) old,
      w.inside,
    )

-- a text of no octets
pub wrote_nothing : (old new : List ℕ) (at : ℕ) (text : List ℕ) → Wrote old new at text → length text ≡ 0 → new ≡ old
wrote_nothing old new at text w none =
    w.written
    ∙ ap (λ (xs : List ℕ). take at old ++ (xs ++ drop (at + length text) old)) (nil_from_length text none)
    ∙ ap (λ n. take at old ++ drop n old) (omega (arith, none))
    ∙ take-append-drop at old

-- the part that was written
pub own : (old new : List ℕ) (at : ℕ) (text : List ℕ) → Wrote old new at text → take (length text) (drop at new) ≡ text
own old new at text w =
    ap (λ (xs : List ℕ). take (length text) (drop at xs)) w.written
    ∙ ap (take (length text)) (drop_at (take at old) (text ++ drop (at + length text) old) at (front at old (omega (arith, w.inside))))
    ∙ take_at text (drop (at + length text) old) (length text) refl

-- a part in front of it
pub before : (old new : List ℕ) (at : ℕ) (text : List ℕ) (p n : ℕ) → Wrote old new at text → p + n ≤ at
    → take n (drop p new) ≡ take n (drop p old)
before old new at text p n w less =
    let rest : List ℕ = text ++ drop (at + length text) old in
    let whole : p + (at - p) ≡ at = omega (arith, less) in
    let cut : drop p (take at old) ≡ take (at - p) (drop p old) = ap (λ m. drop p (take m old)) (sym whole) ∙ drop-take p (at - p) old in
    ap (λ (xs : List ℕ). take n (drop p xs)) w.written
    ∙ ap (take n) (drop-append-le p (take at old) rest (omega (arith, less, front at old (omega (arith, w.inside)))))
    ∙ take-append-le n (drop p (take at old)) rest (omega (arith, less, length-drop p (take at old), front at old (omega (arith, w.inside))))
    ∙ ap (take n) cut
    ∙ take-take n (at - p) (drop p old) (omega (arith, less))

-- all that stands behind it
pub behind : (old new : List ℕ) (at : ℕ) (text : List ℕ) (p : ℕ) → Wrote old new at text → at + length text ≤ p
    → drop p new ≡ drop p old
behind old new at text p w less =
    let end : ℕ = at + length text in
    let rest : end + (p - end) ≡ p = omega (arith, less) in
    let e : drop end new ≡ drop end old =
    ap (drop end) (w.written ∙ sym (append_assoc (take at old) text (drop end old)))
    ∙ drop_at (take at old ++ text) (drop end old) end (length-append (take at old) text ∙ ap (λ m. m + length text) (front at old (omega (arith, w.inside)))) in
    ap (λ m. drop m new) (sym rest) ∙ sym (drop-drop (p - end) end new) ∙ ap (drop (p - end)) e ∙ drop-drop (p - end) end old ∙ ap (λ m. drop m old) rest

-- The numbers of two octets.

pub number_before : (old new : List ℕ) (at : ℕ) (text : List ℕ) (p : ℕ) → Wrote old new at text → p + 2 ≤ at → number_at new p ≡ number_at old p
unfolding number_at
number_before old new at text p w less = ap (from_be_bytes w16) (before old new at text p 2 w less)

pub number_behind : (old new : List ℕ) (at : ℕ) (text : List ℕ) (p : ℕ) → Wrote old new at text → at + length text ≤ p → number_at new p ≡ number_at old p
unfolding number_at
number_behind old new at text p w less = ap (λ (xs : List ℕ). from_be_bytes w16 (take 2 xs)) (behind old new at text p w less)

pub number_own : (old new : List ℕ) (at n : ℕ) → Wrote old new at (to_be_bytes w16 n) → n < 2 ^ 16 → number_at new at ≡ n
unfolding number_at
number_own old new at n w small = ap (from_be_bytes w16) (own old new at (to_be_bytes w16 n) w) ∙ from_be_bytes-to_be_bytes_2 n small

pub lsn_before : (old new : List ℕ) (at : ℕ) (text : List ℕ) → Wrote old new at text → 8 ≤ at → lsn_of new ≡ lsn_of old
unfolding lsn_of
lsn_before old new at text w less = ap (from_be_bytes w64) (before old new at text 0 8 w less)

pub lsn_own : (old new : List ℕ) (lsn : ℕ) → Wrote old new 0 (to_be_bytes w64 lsn) → lsn < 2 ^ 64 → lsn_of new ≡ lsn
unfolding lsn_of
lsn_own old new lsn w small = ap (from_be_bytes w64) (own old new 0 (to_be_bytes w64 lsn) w) ∙ from_be_bytes-to_be_bytes_8 lsn small
