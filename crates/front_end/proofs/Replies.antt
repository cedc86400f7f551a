-- The lines of a reply, told one after the other.
use Rattle.std.proofs.Common.{◌≡◌, inl, inr, ⊎_elim, ℕ, zero, suc, ◌<◌, List, [], ◌∷◌, ◌++◌, length, take, drop, get_or, refl, sym, ◌∙◌, ap, subst, arith, append_assoc, take-append-drop}
use Rattle.std.specs.List.{concat}
use Rattle.std.proofs.lemmas.List.{append-nil, take_at, take_all}
use Rattle.site.specs.State.{State, Moment}
use Rattle.site.specs.Moments.{EachMoment}
use Rattle.site.proofs.Laws.{in_sequence, each_weaker}
use Rattle.site.specs.Telling.{HandsLine, HandsRest, TellsPart, SameDevices}
use Rattle.front_end.specs.Tells.{HandsLines, HandsOneOf}

-- the first of the lines, one after the other
abbrev pub first_of : ℕ → List (List ℕ) → List ℕ
first_of place lines = concat (take place lines)

-- a line more
pub line_more : (lines : List (List ℕ)) (place : ℕ) → place < length lines → (rest : List ℕ) × (concat lines ≡ first_of place lines ++ (get_or lines place [] ++ rest)) × (first_of (suc place) lines ≡ first_of place lines ++ get_or lines place [])
line_more [] place less = absurd (omega (arith, less))
line_more (x ∷ lines) zero less = (concat lines, refl, append-nil x)
line_more (x ∷ lines) (suc place) less =
    let more = line_more lines place (omega (arith, less)) in (
      more.0,
      ap (λ (l : List ℕ). x ++ l) more.1 ∙ sym (append_assoc x (first_of place lines) (get_or lines place [] ++ more.0)),
      ap (λ (l : List ℕ). x ++ l) more.2 ∙ sym (append_assoc x (first_of place lines) (get_or lines place [])),
    )

-- a front of a piece is one of the whole text
front_is : (before piece rest text : List ℕ) (k : ℕ) → text ≡ before ++ (piece ++ rest) → (n : ℕ) × (before ++ take k piece ≡ take n text)
front_is before piece rest text k is =
    let parted : text ≡ (before ++ take k piece) ++ (drop k piece ++ rest) =
    is ∙ ap (λ (l : List ℕ). before ++ (l ++ rest)) (sym (take-append-drop k piece)) ∙ ap (λ (l : List ℕ). before ++ l) (append_assoc (take k piece) (drop k piece) rest)
    ∙ sym (append_assoc before (take k piece) (drop k piece ++ rest)) in
    (length (before ++ take k piece), sym (ap (take (length (before ++ take k piece))) parted ∙ take_at (before ++ take k piece) (drop k piece ++ rest) (length (before ++ take k piece)) refl))

-- where a piece is told behind what was told of the text
pub piece_told : (before piece rest text : List ℕ) (old mid new : State) → text ≡ before ++ (piece ++ rest) → SameDevices old mid → mid.told ≡ old.told ++ before → EachMoment old mid (TellsPart text old) → EachMoment mid new (TellsPart piece mid) → EachMoment old new (TellsPart text old)
piece_told before piece rest text old mid new is same told so_far tells =
    in_sequence old mid new (TellsPart text old) so_far (each_weaker mid new (TellsPart piece mid) (TellsPart text old) (λ (m : Moment) t. record {
      image = t.image ∙ same.image;
      loose = t.loose ∙ same.loose;
      told = λ j.
          let part = t.told j in
          let front = front_is before piece rest text part.0 is in
          (front.0, part.1 ∙ ap (λ (l : List ℕ). l ++ take part.0 piece) told ∙ append_assoc old.told before (take part.0 piece) ∙ ap (λ (l : List ℕ). old.told ++ l) front.1);
    }) tells)

-- and the rest of it handed on
pub lines_handed : (lines : List (List ℕ)) (place : ℕ) (old mid new : State) → mid.told ≡ old.told ++ first_of place lines → EachMoment old mid (HandsLines lines old.told) → EachMoment mid new (HandsRest (get_or lines place []) mid) → EachMoment old new (HandsLines lines old.told)
lines_handed lines place old mid new told so_far hands =
    in_sequence old mid new (HandsLines lines old.told) so_far (each_weaker mid new (HandsRest (get_or lines place []) mid) (HandsLines lines old.told)
    (λ (m : Moment) h. ⊎_elim (λ none. inl none) (λ rest. inr (place, subst (λ (t : List ℕ). HandsLine (get_or lines place []) t m) told rest)) h) hands)

-- of the same lines, behind the same octets
pub hands_as : {lines lines' : List (List ℕ)} {so_far so_far' : List ℕ} (m : Moment) → lines ≡ lines' → so_far ≡ so_far' → HandsOneOf lines so_far m → HandsOneOf lines' so_far' m
hands_as {lines} {lines'} {so_far} {so_far'} m is same hands = subst (λ (t : List ℕ). HandsOneOf lines' t m) same (subst (λ (l : List (List ℕ)). HandsOneOf l so_far m) is hands)

-- before the first line
pub nothing_told : (text : List ℕ) (old : State) → TellsPart text old (record { told = old.told; telling = []; image = old.image; loose = old.loose })
nothing_told text old = record { image = refl; loose = refl; told = λ j. (0, ap (λ (l : List ℕ). old.told ++ l) (take_all j [] (omega arith))) }

pub all_lines : (lines : List (List ℕ)) (place : ℕ) → place ≡ length lines → first_of place lines ≡ concat lines
all_lines lines place is = ap concat (take_all place lines (omega (arith, is)))
