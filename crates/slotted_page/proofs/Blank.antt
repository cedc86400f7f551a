-- A page whose slots are all empty: one of zeros, and one whose numbers but for the LSN were overwritten by zeros.
use Rattle.std.proofs.Common.{◌≡◌, ℕ, ◌+◌, ◌-◌, ◌*◌, ◌<◌, ◌≤◌, List, length, take, drop, replicate, Option, None, sym, ap, ◌∙◌, arith}
use Rattle.std.proofs.lemmas.List.{same_lists, drop-take, drop-drop, take-take, take-replicate, drop-replicate, length-replicate, get_or-replicate}
use Rattle.std.specs.Int.{w16, w64, from_be_bytes}
use Rattle.slotted_page.specs.Layout.{lsn_of, used_of, number_at, content_of, slots_of, IsSound}
use Rattle.slotted_page.specs.Changes.{Wrote}
use Rattle.slotted_page.specs.Laws.{IsBlank}
use Rattle.slotted_page.proofs.Written.{own}
use Rattle.slotted_page.proofs.Slots.{length-slots_of, get_or-slots_of, content_none}

abbrev zeros : ℕ → List ℕ
zeros n = replicate n 0

-- zeros stand where the numbers behind the LSN are
module _ (octets : List ℕ) (size : length octets ≡ 4096) (part_zero : (p n : ℕ) → 8 ≤ p → p + n ≤ 144 → take n (drop p octets) ≡ zeros n) where
  number_zero : (p : ℕ) → 8 ≤ p → p + 2 ≤ 144 → number_at octets p ≡ 0
  unfolding number_at
  number_zero p from inside = ap (from_be_bytes w16) (part_zero p 2 from inside)

  content_zero : (k : ℕ) → k < 32 → content_of octets k ≡ None
  content_zero k below = content_none octets k (number_zero _ (omega arith) (omega (arith, below)))

  pub empty_sound : IsSound octets
  empty_sound = record {
    size = size;
    zeros = part_zero 10 6 (omega arith) (omega arith);
    used = omega (arith, number_zero 8 (omega arith) (omega arith));
    entries = λ k below. record {
      empty = λ _. number_zero _ (omega arith) (omega (arith, below));
      short = omega (arith, number_zero (18 + 4 * k) (omega arith) (omega (arith, below)));
      begin = λ some. absurd (omega (arith, some, number_zero (18 + 4 * k) (omega arith) (omega (arith, below))));
      end = λ some. absurd (omega (arith, some, number_zero (18 + 4 * k) (omega arith) (omega (arith, below))));
    };
    apart = λ a b less below. record {
      disjoint = λ a_some b_some. absurd (omega (arith, a_some, number_zero (18 + 4 * a) (omega arith) (omega (arith, less, below))));
    };
  }

  pub empty_used : used_of octets ≡ 0
  empty_used = number_zero 8 (omega arith) (omega arith)

  pub empty_slots : slots_of octets ≡ replicate 32 None
  empty_slots = same_lists _ _ (length-slots_of octets ∙ sym (length-replicate {A = Option (List ℕ)} 32 None))
      (λ k d less. let below : k < 32 = omega (arith, less, length-slots_of octets) in
      get_or-slots_of octets k d below ∙ content_zero k below ∙ sym (get_or-replicate 32 k None d below))

module _ (len : ℕ) (size : len ≡ 4096) where
  part_zero : (p n : ℕ) → p + n ≤ 4096 → take n (drop p (zeros len)) ≡ zeros n
  part_zero p n inside = ap (take {A = ℕ} n) (drop-replicate p len 0) ∙ take-replicate n (len - p) 0 (omega (arith, inside, size))

  lsn_zero : lsn_of (zeros len) ≡ 0
  unfolding lsn_of
  lsn_zero = ap (from_be_bytes w64) (part_zero 0 8 (omega arith))

  front_zero : (p n : ℕ) → 8 ≤ p → p + n ≤ 144 → take n (drop p (zeros len)) ≡ zeros n
  front_zero p n from inside = part_zero p n (omega (arith, inside))

  long : length (zeros len) ≡ 4096
  long = length-replicate {A = ℕ} len 0 ∙ size

  pub blank : IsBlank (zeros len)
  blank = record {
    sound = empty_sound (zeros len) long front_zero;
    lsn = lsn_zero;
    used = empty_used (zeros len) long front_zero;
    slots = empty_slots (zeros len) long front_zero;
  }

-- what the zeros were written over
pub part_cleared : (old new : List ℕ) (len : ℕ) → len ≡ 136 → Wrote old new 8 (zeros len) → (p n : ℕ) → 8 ≤ p → p + n ≤ 144 → take n (drop p new) ≡ zeros n
part_cleared old new len is w p n from inside =
    let long = length-replicate {A = ℕ} len 0 in
    let m : ℕ = 144 - p in
    let all : p - 8 + m ≡ length (zeros len) = omega (arith, long, is, from, inside) in
    let here : drop (p - 8) (drop 8 new) ≡ drop p new = drop-drop (p - 8) 8 new ∙ ap (λ k. drop k new) (omega (arith, from)) in
    sym (take-take n m (drop p new) (omega (arith, inside)))
    ∙ ap (take n) (ap (take m) (sym here) ∙ sym (drop-take (p - 8) m (drop 8 new)) ∙ ap (λ k. drop (p - 8) (take k (drop 8 new))) all
    ∙ ap (drop (p - 8)) (own old new 8 (zeros len) w) ∙ drop-replicate (p - 8) len 0)
    ∙ take-replicate n (len - (p - 8)) 0 (omega (arith, is, from, inside))
