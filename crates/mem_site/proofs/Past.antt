-- How the moments of a history grow.
use Rattle.std.proofs.Common.{◌≡◌, ℕ, ◌+◌, ◌≤◌, List, [], ◌∷◌, ◌++◌, length, take, drop, map, reverse, refl, sym, ◌∙◌, ap, arith, length-append, length-drop, take-append-drop}
use Rattle.std.proofs.lemmas.List.{reverse-append, take_at, drop_at, length-take-le, drop-drop}
use Rattle.site.specs.State.{Moment}
use Rattle.site.specs.Calls.{put}
use Rattle.mem_site.specs.declared.change.Change.{Change}
use Rattle.mem_site.specs.declared.change.Span.{Span}
use Rattle.mem_site.specs.History.{range_of, ranges_of, before, within, moments_back, moments_of}

-- one change more
pub moments_grow : (old new inside : Moment) (changes : List Change) (change : Change) → before new change ≡ old → within new change ≡ inside
    → moments_of new (changes ++ change ∷ []) ≡ moments_of old changes ++ inside ∷ []
moments_grow old new inside changes change was is =
    let turned : reverse (changes ++ change ∷ []) ≡ change ∷ reverse changes = reverse-append changes (change ∷ []) in
    ap (λ (cs : List Change). moments_back new cs) turned
    ∙ ap (λ (m : Moment). moments_back m (reverse changes) ++ within new change ∷ []) was
    ∙ ap (λ (m : Moment). moments_back old (reverse changes) ++ m ∷ []) is

-- what was there, put back
pub put_back : (at : ℕ) (bytes had content : List ℕ) → at + length bytes ≤ length content → had ≡ take (length bytes) (drop at content) → put (put content at bytes) at had ≡ content
put_back at bytes had content fits is =
    let rest = drop (at + length bytes) content in
    let written = put content at bytes in
    let front : length (take at content) ≡ at = length-take-le at content (omega arith) in
    let size : length had ≡ length bytes = omega (arith, ap length is, length-take-le (length bytes) (drop at content) (omega (arith, length-drop at content))) in
    let before : take at written ≡ take at content = take_at (take at content) (bytes ++ rest) at front in
    let behind : drop (at + length had) written ≡ rest =
    ap (λ (n : ℕ). drop (at + n) written) size
    ∙ sym (drop-drop (length bytes) at written)
    ∙ ap (λ (l : List ℕ). drop (length bytes) l) (drop_at (take at content) (bytes ++ rest) at front)
    ∙ drop_at bytes rest (length bytes) refl in
    ap (λ (l : List ℕ). l ++ (had ++ drop (at + length had) written)) before
    ∙ ap (λ (l : List ℕ). take at content ++ (had ++ l)) behind
    ∙ ap (λ (l : List ℕ). take at content ++ (l ++ rest)) is
    ∙ ap (λ (l : List ℕ). take at content ++ (take (length bytes) (drop at content) ++ l)) (sym (drop-drop (length bytes) at content))
    ∙ ap (λ (l : List ℕ). take at content ++ l) (take-append-drop (length bytes) (drop at content))
    ∙ take-append-drop at content

-- one loose range more
pub ranges_of-push : (spans : List Span) (span : Span) → ranges_of (spans ++ span ∷ []) ≡ range_of span ∷ ranges_of spans
ranges_of-push spans span = ap (λ (l : List Span). map range_of l) (reverse-append spans (span ∷ []))

-- there is a moment for each change, whatever the last one is
pub length-moments_back : (after : Moment) (changes : List Change) → length (moments_back after changes) ≡ length changes
length-moments_back after [] = refl
length-moments_back after (change ∷ changes) = omega (arith, length-moments_back (before after change) changes, length-append (moments_back (before after change) changes) (within after change ∷ []))

pub same_clock : (one other : Moment) (changes : List Change) → length (moments_of one changes) ≡ length (moments_of other changes)
same_clock one other changes = length-moments_back one (reverse changes) ∙ sym (length-moments_back other (reverse changes))
