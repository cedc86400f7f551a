-- One tell more.
use Rattle.std.proofs.Common.{◌≡◌, ◌==◌, ◌⊎◌, ℕ, zero, suc, ◌+◌, ◌<◌, ◌≤◌, Bool, false, cond, List, [], ◌∷◌, ◌++◌, length, length-drop, take, drop, min, refl, sym, ◌∙◌, ap, arith, append_assoc, inl, inr}
use Rattle.std.proofs.lemmas.Bool.Decides.{eqb_tells}
use Rattle.std.proofs.lemmas.List.{append-nil, length-take, take-take, take_all}
use Rattle.std.proofs.Math.Seq.{take-add}
use Rattle.std.specs.Prelude.{Result, Ok, Err}
use Rattle.site.specs.declared.outside.Failed.{Failed}
use Rattle.site.specs.State.{State}
use Rattle.site.specs.Calls.{Adds, Stays, Told, within_tell}
use Rattle.site.specs.Moments.{EachMoment, works_in}
use Rattle.site.proofs.Working.{works_join}
use Rattle.site.proofs.Laws.{one_call, in_sequence}
use Rattle.site.specs.Telling.{HandsRest, TellsPart, SameDevices}

-- the octets that one tell told
pub told_some : (piece : List ℕ) (old new : State) (result : Result ℕ Failed) → Told piece old new result → (n : ℕ) × (new.told ≡ old.told ++ take n piece)
told_some piece old new (Ok n) t = (n, t.told)
told_some piece old new (Err e) t = t.failed

-- each front of a front is one
front_of : (j n : ℕ) (xs : List ℕ) → (k : ℕ) × (take j (take n xs) ≡ take k xs)
front_of zero n xs = (0, refl)
front_of (suc j) zero xs = (0, refl)
front_of (suc j) (suc n) [] = (0, refl)
front_of (suc j) (suc n) (x ∷ xs) = let front = front_of j n xs in (suc front.0, ap (λ (l : List ℕ). x ∷ l) front.1)

-- some octets of the rest were handed to it
pub one_tell : (piece : List ℕ) (at n : ℕ) (some : List ℕ) (old mid new : State) (result : Result ℕ Failed) → some ≡ take n (drop at piece) → SameDevices old mid → mid.told ≡ old.told ++ take at piece
    → EachMoment old mid (TellsPart piece old) → Told some mid new result → EachMoment old new (TellsPart piece old)
one_tell piece at n some old mid new result is same told so_far t =
    let now = told_some some mid new result t in
    in_sequence old mid new (TellsPart piece old) so_far
    (one_call mid new (within_tell some mid) (TellsPart piece old) t.past
    (record { image = same.image; loose = same.loose; told = λ j. more j })
    (record { image = t.image ∙ same.image; loose = t.loose ∙ same.loose; told = λ j. let m = more now.0 in (m.0, ap (λ (l : List ℕ). new.told ++ l) (take_all j [] (omega arith)) ∙ append-nil new.told ∙ now.1 ∙ m.1) }))
  where
    more : (j : ℕ) → (k : ℕ) × (mid.told ++ take j some ≡ old.told ++ take k piece)
    more j =
        let front = front_of j n (drop at piece) in
        (at + front.0, (λ i. told i ++ take j (is i)) ∙ append_assoc old.told (take at piece) (take j (take n (drop at piece))) ∙ ap (λ (l : List ℕ). old.told ++ l) (ap (λ (l : List ℕ). take at piece ++ l) front.1 ∙ sym (take-add at front.0 piece)))

-- the rest was handed to it
pub hands_more : (piece : List ℕ) (at : ℕ) (rest : List ℕ) (old mid new : State) → rest ≡ drop at piece → mid.told ≡ old.told ++ take at piece → EachMoment old mid (HandsRest piece old) → Adds (within_tell rest mid) mid new ⊎ Stays mid new → EachMoment old new (HandsRest piece old)
hands_more piece at rest old mid new is told so_far past =
    in_sequence old mid new (HandsRest piece old) so_far (one_call mid new (within_tell rest mid) (HandsRest piece old) past (inr (record { part = at; told = told; telling = is })) (inl refl))

pub told_more : (piece : List ℕ) (at n : ℕ) (some : List ℕ) (old mid new : State) (count : ℕ) → some ≡ take n (drop at piece) → count ≤ length some → mid.told ≡ old.told ++ take at piece → new.told ≡ mid.told ++ take count some → new.told ≡ old.told ++ take (at + count) piece
told_more piece at n some old mid new count is few told more =
    let all : length some ≡ min n (length (drop at piece)) = ap length is ∙ length-take n (drop at piece) in
    more ∙ (λ i. told i ++ take count (is i)) ∙ append_assoc old.told (take at piece) (take count (take n (drop at piece)))
    ∙ ap (λ (l : List ℕ). old.told ++ l) (ap (λ (l : List ℕ). take at piece ++ l) (take-take count n (drop at piece) (omega (arith, few, all))) ∙ sym (take-add at count piece))

-- there are some
pub some_left : (piece : List ℕ) (at n : ℕ) (some : List ℕ) → some ≡ take n (drop at piece) → 1 ≤ n → at < length piece → 1 ≤ length some
some_left piece at n some is any less =
    let all : length some ≡ min n (length (drop at piece)) = ap length is ∙ length-take n (drop at piece) in
    let rest = length-drop at piece in
    omega (arith, all, rest, any, less)

-- a tell of some octets is no write and no sync
pub tell_no_work : (piece : List ℕ) (mid new : State) → 1 ≤ length piece → Adds (within_tell piece mid) mid new → works_in new.past ≡ works_in mid.past
tell_no_work piece mid new some adds =
    let all = ap works_in adds ∙ works_join mid.past (within_tell piece mid ∷ []) in
    let none : works_in (within_tell piece mid ∷ []) ≡ 0 = ap (λ (b : Bool). 0 + cond b 1 0) (not_empty piece some) in
    omega (arith, all, none)
  where
    not_empty : (l : List ℕ) → 1 ≤ length l → (length l == 0) ≡ false
    not_empty l some = elim (eqb_tells (length l) 0) [
      | inl is ↦ absurd (let none = is.1 in omega (arith, none, some))
      | inr not ↦ not.0
    ]
