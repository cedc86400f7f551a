-- A field that is read is the field that was written, and what was written is read again.
use Rattle.std.proofs.Common.{◌≡◌, ℕ, zero, suc, ◌+◌, ◌^◌, ◌<◌, ◌≤◌, Bool, true, false, cond, ◌||◌, ltb, List, [], ◌∷◌, ◌++◌, length, get_or, take, drop, Option, Some, None, refl, sym, ap, subst, ◌∙◌, add-one, arith}
use Rattle.std.specs.Prelude.{nat_lt}
use Rattle.std.specs.Int.{Width, w32, w64, byte_len, from_be_bytes, to_be_bytes}
use Rattle.std.proofs.lemmas.Bool.{cases_lt, ltb-false, ltb-true, le-ltb, lt-ltb, or_parts}
use Rattle.std.proofs.lemmas.List.{take_at, drop_at, take-append-drop, length-append, length-take, get_or-drop, get_or-take, get_or_past}
use Rattle.std.proofs.lemmas.Nat.{be_bytes_4, be_bytes_8, from_be_bytes-to_be_bytes_4, from_be_bytes-to_be_bytes_8}
use Rattle.std.proofs.lemmas.Option.{same_Some, cond_some}
use Rattle.byte_fields.specs.declared.TheConstants.{VALUE_MAX}
use Rattle.record_model.specs.State.{Content}
use Rattle.log_records.specs.Spelling.{content_spelling, IsShort}
use Rattle.log_records.specs.Reading.{◌>>=◌, number_at, slot_at, value_at}

abbrev pub IsBytes : List ℕ → Type 0
IsBytes octets = (i : ℕ) → get_or octets i 0 < 256

pub IsBytes-drop : (n : ℕ) (octets : List ℕ) → IsBytes octets → IsBytes (drop n octets)
IsBytes-drop n octets h i = rw get_or-drop (h (n + i))

pub IsBytes-take : (n : ℕ) (octets : List ℕ) → IsBytes octets → IsBytes (take n octets)
IsBytes-take n octets h i = grind (arith, cases_lt, get_or-take, get_or_past, length-take)

-- the value of a step that did not fail
pub bind_some : {A B : Type 0} (r : Option A) (f : A → Option B) (y : B) → (r >>= f) ≡ Some y → (x : A) × (r ≡ Some x) × (f x ≡ Some y)
bind_some (Some x) f y e = (x, refl, e)
bind_some None f y e = absurd cc

-- and back
pub bind_is : {A B : Type 0} (r : Option A) (f : A → Option B) (x : A) (y : Option B) → r ≡ Some x → f x ≡ y → (r >>= f) ≡ y
bind_is r f x y e h = ap (λ r. r >>= f) e ∙ h

-- a test that did not fail
guard_some : {A : Type 0} (b : Bool) (x y : A) → cond b None (Some x) ≡ Some y → (b ≡ false) × (x ≡ y)
guard_some true x y e = absurd cc
guard_some false x y e = (refl, cc)

-- read and spell are of one field, whose values are good
pub record IsField {A : Type 0} (read : List ℕ → Option (A × List ℕ)) (spell : A → List ℕ) (Good : A → Type 0) : Type 0 where
  pub takes : (octets : List ℕ) (x : A × List ℕ) → IsBytes octets → read octets ≡ Some x → (octets ≡ spell x.0 ++ x.1) × IsBytes x.1 × Good x.0
  pub again : (x : A) (rest : List ℕ) → Good x → read (spell x ++ rest) ≡ Some (x, rest)

-- ---- numbers

record IsWide (w : Width) (limit : ℕ) : Type 0 where
  len : (n : ℕ) → length (to_be_bytes w n) ≡ byte_len w
  back : (octets : List ℕ) → length octets ≡ byte_len w → IsBytes octets → to_be_bytes w (from_be_bytes w octets) ≡ octets
  again : (n : ℕ) → n < limit → from_be_bytes w (to_be_bytes w n) ≡ n
  below : (octets : List ℕ) → IsBytes octets → from_be_bytes w octets < limit

wide32 : IsWide w32 (2 ^ 32)
wide32 = grind (arith, be_bytes_4, from_be_bytes-to_be_bytes_4)

wide64 : IsWide w64 (2 ^ 64)
wide64 = grind (arith, be_bytes_8, from_be_bytes-to_be_bytes_8)

number_field : (w : Width) (limit : ℕ) → IsWide w limit → IsField (number_at w) (to_be_bytes w) (λ n. n < limit)
number_field w limit wide = record { takes = takes; again = again }
  where
    takes : (octets : List ℕ) (x : ℕ × List ℕ) → IsBytes octets → number_at w octets ≡ Some x → (octets ≡ to_be_bytes w x.0 ++ x.1) × IsBytes x.1 × (x.0 < limit)
    takes octets x fits e =
        let g = guard_some (ltb (length octets) (byte_len w)) (from_be_bytes w (take (byte_len w) octets), drop (byte_len w) octets) x e in
        let long : byte_len w ≤ length octets = ltb-false _ _ g.0 in
        let back = wide.back (take (byte_len w) octets) (omega (arith, length-take (byte_len w) octets)) (IsBytes-take (byte_len w) octets fits) in
        subst (λ (x : ℕ × List ℕ). (octets ≡ to_be_bytes w x.0 ++ x.1) × IsBytes x.1 × (x.0 < limit)) g.1 (
          sym (take-append-drop (byte_len w) octets) ∙ ap (λ (t : List ℕ). t ++ drop (byte_len w) octets) (sym back),
          IsBytes-drop (byte_len w) octets fits,
          wide.below (take (byte_len w) octets) (IsBytes-take (byte_len w) octets fits),
        )

    again : (n : ℕ) (rest : List ℕ) → n < limit → number_at w (to_be_bytes w n ++ rest) ≡ Some (n, rest)
    again n rest lt =
        let len = wide.len n in
        let long : ltb (length (to_be_bytes w n ++ rest)) (byte_len w) ≡ false = le-ltb _ _ (omega (arith, length-append (to_be_bytes w n) rest)) in
        rw (long, take_at (to_be_bytes w n) rest (byte_len w) len, drop_at (to_be_bytes w n) rest (byte_len w) len, wide.again n lt) refl

pub u32_field : IsField (number_at w32) (to_be_bytes w32) (λ n. n < 2 ^ 32)
u32_field = number_field w32 (2 ^ 32) wide32

pub u64_field : IsField (number_at w64) (to_be_bytes w64) (λ n. n < 2 ^ 64)
u64_field = number_field w64 (2 ^ 64) wide64

IsBytes-rest : (b : ℕ) (octets : List ℕ) → IsBytes (b ∷ octets) → IsBytes octets
IsBytes-rest b octets h i = h (suc i)

-- ---- slots

slot_takes : (octets : List ℕ) (x : ℕ × List ℕ) → IsBytes octets → slot_at octets ≡ Some x → (octets ≡ x.0 ∷ [] ++ x.1) × IsBytes x.1 × (x.0 < 32)
unfolding slot_at
slot_takes [] x fits e = absurd cc
slot_takes (slot ∷ rest) x fits e =
    let g = cond_some (ltb slot 32) (slot, rest) x e in
    subst (λ (x : ℕ × List ℕ). (slot ∷ rest ≡ x.0 ∷ [] ++ x.1) × IsBytes x.1 × (x.0 < 32)) g.1 (refl, IsBytes-rest slot rest fits, ltb-true _ _ g.0)

slot_again : (slot : ℕ) (rest : List ℕ) → slot < 32 → slot_at (slot ∷ rest) ≡ Some (slot, rest)
unfolding slot_at
slot_again slot rest lt = rw (lt-ltb slot 32 lt) refl

pub slot_field : IsField slot_at (λ slot. slot ∷ []) (λ slot. slot < 32)
slot_field = record { takes = slot_takes; again = slot_again }

-- ---- values

value_takes : (octets : List ℕ) (x : Content × List ℕ) → IsBytes octets → value_at octets ≡ Some x → (octets ≡ content_spelling x.0 ++ x.1) × IsBytes x.1 × IsShort x.0
unfolding value_at
value_takes [] x fits e = absurd cc
value_takes (zero ∷ rest) x fits e =
    subst (λ (x : Content × List ℕ). (0 ∷ rest ≡ content_spelling x.0 ++ x.1) × IsBytes x.1 × IsShort x.0) (same_Some (None, rest) x e) (refl, IsBytes-rest 0 rest fits, tt)
value_takes (suc n ∷ rest) x fits e =
    let g = guard_some (nat_lt VALUE_MAX n || nat_lt (length rest) n) (Some (take n rest), drop n rest) x e in
    let tests = or_parts (nat_lt VALUE_MAX n) (nat_lt (length rest) n) g.0 in
    let short : n ≤ VALUE_MAX = ltb-false _ _ tests.0 in
    let there : n ≤ length rest = ltb-false _ _ tests.1 in
    let len : length (take n rest) ≡ n = omega (arith, length-take n rest) in
    let one : suc n ≡ length (take n rest) + 1 = omega (arith, len) in
    subst (λ (x : Content × List ℕ). (suc n ∷ rest ≡ content_spelling x.0 ++ x.1) × IsBytes x.1 × IsShort x.0) g.1 (
      ap (λ (t : List ℕ). suc n ∷ t) (sym (take-append-drop n rest)) ∙ ap (λ (k : ℕ). k ∷ (take n rest ++ drop n rest)) one,
      IsBytes-drop n rest (IsBytes-rest (suc n) rest fits),
      omega (arith, len, short),
    )

value_again : (content : Content) (rest : List ℕ) → IsShort content → value_at (content_spelling content ++ rest) ≡ Some (content, rest)
unfolding value_at
value_again None rest short = refl
value_again (Some value) rest short = grind (arith, le-ltb, length-append, add-one, take_at, drop_at)

pub value_field : IsField value_at content_spelling IsShort
value_field = record { takes = value_takes; again = value_again }
