-- The lines of a script are those of its lives and their stop lines.
use Rattle.std.proofs.Common.{◌≡◌, ◌⊎◌, inl, inr, ℕ, zero, suc, ◌+◌, ◌-◌, ◌≤◌, ◌<◌, true, List, [], ◌∷◌, ◌++◌, length, take, drop, Option, Some, None, refl, sym, ap, subst, ◌∙◌, arith}
use Rattle.std.specs.Prelude.{min, position, slice_range}
use Rattle.std.proofs.lemmas.Bool.{cases_lt}
use Rattle.std.proofs.Math.ListN.{drop_of_length-le}
use Rattle.std.proofs.lemmas.List.{length-drop, drop-drop, take_all, length-take-le}
use Rattle.shell_text.specs.Runs.{lines_of}
use Rattle.workload.specs.declared.scripts.Life.{Life}
use Rattle.workload.specs.declared.scripts.StopLine.{StopLine}
use Rattle.workload.specs.Scripts.{stop_of, with_stop, stops_among, stops_from, lives_between}
use Rattle.workload.specs.Laws.{stop_text, lines_from, HaveNoStop, IsEnded, IsLast, AreLives, ScriptsAreCut}
use Rattle.workload.proofs.Words.{stop_lines_are_read}
use Rattle.workload.proofs.FirstLines.{is_newline, split_at, first_line, only_line, newline_then}

-- Where lines of octets have no stop line, and where they have a first one: so many octets before it, so many up to the line behind it.
pub record FirstStop (at : ℕ) (octets : List ℕ) (stop : StopLine) (more : List StopLine) : Type 0 where
  pub before : ℕ
  pub behind : ℕ
  pub text : List ℕ
  pub from : stop.from ≡ at + before
  pub next : stop.next ≡ at + behind
  pub lines : lines_of true octets ≡ lines_of true (take before octets) ++ text ∷ lines_of true (drop behind octets)
  pub no_stop : HaveNoStop (lines_of true (take before octets))
  pub says : stop_of text ≡ Some (stop.limit, stop.seed)
  pub rest : more ≡ stops_among stop.next (lines_of true (drop behind octets))

-- lines without stop lines
no_stops : (at : ℕ) (lines : List (List ℕ)) → stops_among at lines ≡ [] → HaveNoStop lines
no_stops at [] none = tt
no_stops at (line ∷ lines) none = by (stop_of line) refl none (no_stops (at + length line + 1) lines)
  where
    by : (said : Option (ℕ × ℕ)) → stop_of line ≡ said → with_stop at (at + length line + 1) said (stops_among (at + length line + 1) lines) ≡ [] →
        (stops_among (at + length line + 1) lines ≡ [] → HaveNoStop lines) → HaveNoStop (line ∷ lines)
    by None is none rest = (is, rest none)
    by (Some said) is none rest = cc none

-- The first stop line.

-- where the first line is one
here : (at place : ℕ) (octets text : List ℕ) (later : List StopLine) (said : ℕ × ℕ) (stop : StopLine) (more : List StopLine) → lines_of true octets ≡ text ∷ lines_of true (drop (place + 1) octets) → stop_of text ≡ Some said →
    later ≡ stops_among (at + place + 1) (lines_of true (drop (place + 1) octets)) →
    with_stop at (at + place + 1) (Some said) later ≡ stop ∷ more → FirstStop at octets stop more
here at place octets text later said stop more line says rest is =
    let first : record { from = at; next = at + place + 1; limit = said.0; seed = said.1 } ≡ stop = cc in
    let others : later ≡ more = cc in
    let next : at + place + 1 ≡ stop.next = ap (λ (s : StopLine). s.next) first in
    record {
      before = 0;
      behind = place + 1;
      text = text;
      from = sym (ap (λ (s : StopLine). s.from) first) ∙ omega arith;
      next = sym next ∙ omega arith;
      lines = line;
      no_stop = tt;
      says = says ∙ ap (λ (s : StopLine). Some (s.limit, s.seed)) first;
      rest = sym others ∙ rest ∙ ap (λ (n : ℕ). stops_among n (lines_of true (drop (place + 1) octets))) next;
    }

-- where it is behind the first line
later_stop : (at place : ℕ) (octets : List ℕ) (stop : StopLine) (more : List StopLine) → position is_newline octets ≡ Some place → stop_of (take place octets) ≡ None →
    FirstStop (at + place + 1) (drop (place + 1) octets) stop more → FirstStop at octets stop more
later_stop at place octets stop more some none f =
    let from = f.from in
    let next = f.next in
    let rest : drop f.behind (drop (place + 1) octets) ≡ drop (place + 1 + f.behind) octets = drop-drop f.behind (place + 1) octets in
    let first : lines_of true (take (place + suc f.before) octets) ≡ take place octets ∷ lines_of true (take f.before (drop (place + 1) octets)) = newline_then octets place f.before some in
    record {
      before = place + suc f.before;
      behind = place + 1 + f.behind;
      text = f.text;
      from = omega (arith, from);
      next = omega (arith, next);
      lines =
          first_line octets place some ∙ ap (λ (l : List (List ℕ)). take place octets ∷ l) f.lines
          ∙ (λ i. sym first i ++ f.text ∷ lines_of true (rest i));
      no_stop = subst HaveNoStop (sym first) (none, f.no_stop);
      says = f.says;
      rest = f.rest ∙ ap (λ (l : List ℕ). stops_among stop.next (lines_of true l)) rest;
    }

first_stop : (fuel at : ℕ) (octets : List ℕ) (stop : StopLine) (more : List StopLine) → length octets ≤ fuel → stops_among at (lines_of true octets) ≡ stop ∷ more → FirstStop at octets stop more
first_stop fuel at [] stop more enough is = cc is
first_stop zero at (x ∷ octets) stop more enough is = absurd (omega (arith, enough))
first_stop (suc fuel) at (x ∷ octets) stop more enough is = by_place (position is_newline (x ∷ octets)) refl (first_stop fuel)
  where
    all : List ℕ
    all = x ∷ octets

    by_place : (o : Option ℕ) → position is_newline (x ∷ octets) ≡ o →
        ((at' : ℕ) (octets' : List ℕ) (stop' : StopLine) (more' : List StopLine) → length octets' ≤ fuel → stops_among at' (lines_of true octets') ≡ stop' ∷ more' → FirstStop at' octets' stop' more') → FirstStop at (x ∷ octets) stop more
    by_place None none again = by (stop_of (x ∷ octets)) refl (sym (ap (stops_among at) line) ∙ is)
      where
        past : drop (length (x ∷ octets) + 1) (x ∷ octets) ≡ []
        past = drop_of_length-le (x ∷ octets) {i = length (x ∷ octets) + 1} (omega arith)

        line : lines_of true (x ∷ octets) ≡ (x ∷ octets) ∷ []
        line = only_line (x ∷ octets) none (omega arith)

        by : (said : Option (ℕ × ℕ)) → stop_of (x ∷ octets) ≡ said → with_stop at (at + length (x ∷ octets) + 1) said [] ≡ stop ∷ more → FirstStop at (x ∷ octets) stop more
        by None says is' = cc is'
        by (Some said) says is' =
            here at (length (x ∷ octets)) (x ∷ octets) (x ∷ octets) [] said stop more (line ∙ ap (λ (l : List ℕ). (x ∷ octets) ∷ lines_of true l) (sym past)) says
            (ap (λ (l : List ℕ). stops_among (at + length (x ∷ octets) + 1) (lines_of true l)) (sym past)) is'
    by_place (Some place) some again = by (stop_of (take place (x ∷ octets))) refl (sym (ap (stops_among at) line) ∙ is)
      where
        inside : place < length (x ∷ octets)
        inside = (split_at (x ∷ octets) place some).inside

        long : length (take place (x ∷ octets)) ≡ place
        long = length-take-le place (x ∷ octets) (let i = inside in omega (arith, i))

        line : lines_of true (x ∷ octets) ≡ take place (x ∷ octets) ∷ lines_of true (drop (place + 1) (x ∷ octets))
        line = first_line (x ∷ octets) place some

        next : at + length (take place (x ∷ octets)) + 1 ≡ at + place + 1
        next = ap (λ (n : ℕ). at + n + 1) long

        by : (said : Option (ℕ × ℕ)) → stop_of (take place (x ∷ octets)) ≡ said →
            with_stop at (at + length (take place (x ∷ octets)) + 1) said (stops_among (at + length (take place (x ∷ octets)) + 1) (lines_of true (drop (place + 1) (x ∷ octets)))) ≡ stop ∷ more → FirstStop at (x ∷ octets) stop more
        by None says is' =
            later_stop at place (x ∷ octets) stop more some says
            (again (at + place + 1) (drop (place + 1) (x ∷ octets)) stop more (let i = inside in omega (arith, i, enough, length-drop (place + 1) (x ∷ octets)))
            (ap (λ (n : ℕ). stops_among n (lines_of true (drop (place + 1) (x ∷ octets)))) (sym next) ∙ is'))
        by (Some said) says is' =
            here at place (x ∷ octets) (take place (x ∷ octets)) (stops_among (at + place + 1) (lines_of true (drop (place + 1) (x ∷ octets)))) said stop more line says refl
            (ap (λ (n : ℕ). with_stop at n (Some said) (stops_among n (lines_of true (drop (place + 1) (x ∷ octets))))) (sym next) ∙ is')

-- Lives.

first_life : ℕ → List StopLine → ℕ → Life
first_life start [] end = record { start = min start end; end = end; stop = None }
first_life start (stop ∷ stops) end = record { start = start; end = stop.from; stop = Some (stop.limit, stop.seed) }

other_lives : ℕ → List StopLine → ℕ → List Life
other_lives start [] end = []
other_lives start (stop ∷ stops) end = first_life stop.next stops end ∷ other_lives stop.next stops end

lives_are : (start : ℕ) (stops : List StopLine) (end : ℕ) → lives_between start stops end ≡ first_life start stops end ∷ other_lives start stops end
unfolding first_life other_lives
lives_are start [] end = refl
lives_are start (stop ∷ stops) end = ap (λ (lives : List Life). record { start = start; end = stop.from; stop = Some (stop.limit, stop.seed) } ∷ lives) (lives_are stop.next stops end)

begins_at : (stops : List StopLine) (end : ℕ) → (first_life 0 stops end).start ≡ 0
unfolding first_life
begins_at [] end = omega arith
begins_at (stop ∷ stops) end = refl

-- a start past the end has no lines behind it
from_min : (script : List ℕ) (start : ℕ) → lines_from script (min start (length script)) ≡ lines_from script start
from_min script start =
    elim (cases_lt start (length script)) [
      | inl inside ↦ ap (lines_from script) (omega (arith, inside))
      | inr past ↦
          let both : drop (min start (length script)) script ≡ drop start script =
          drop_of_length-le script {i = min start (length script)} (omega (arith, past)) ∙ sym (drop_of_length-le script {i = start} past) in
          ap (lines_of true) both
    ]

from_first : (script : List ℕ) (start : ℕ) (stops : List StopLine) → lines_from script (first_life start stops (length script)).start ≡ lines_from script start
unfolding first_life
from_first script start [] = from_min script start
from_first script start (stop ∷ stops) = refl

last_is : (script : List ℕ) (start many : ℕ) → (many ≡ 0) ⊎ (stops_from script start ≡ []) → IsLast script (record { start = min start (length script); end = length script; stop = None }) many
last_is script start many cause =
    let at = min start (length script) in
    let all : slice_range script at (length script) ≡ drop at script = take_all (length script - at) (drop at script) (omega (arith, length-drop at script)) in
    let lines : lines_from script at ≡ lines_of true (slice_range script at (length script)) = ap (lines_of true) (sym all) in
    record { stop = refl; lines = lines; no_stop = by cause lines }
  where
    by : (many ≡ 0) ⊎ (stops_from script start ≡ []) → lines_from script (min start (length script)) ≡ lines_of true (slice_range script (min start (length script)) (length script)) →
        (many ≡ 0) ⊎ HaveNoStop (lines_of true (slice_range script (min start (length script)) (length script)))
    by (inl none) lines = inl none
    by (inr none) lines = inr (subst HaveNoStop (sym (from_min script start) ∙ lines) (no_stops start (lines_from script start) none))

ended_is : (script : List ℕ) (start : ℕ) (stop : StopLine) (more : List StopLine) (next : Life) → FirstStop start (drop start script) stop more → lines_from script next.start ≡ lines_from script stop.next →
    IsEnded script (record { start = start; end = stop.from; stop = Some (stop.limit, stop.seed) }) next
ended_is script start stop more next f rest =
    let from = f.from in
    let own : take f.before (drop start script) ≡ slice_range script start stop.from = ap (λ (n : ℕ). take n (drop start script)) (omega (arith, from)) in
    let behind : drop f.behind (drop start script) ≡ drop stop.next script = drop-drop f.behind start script ∙ ap (λ (n : ℕ). drop n script) (sym f.next) in
    let said = (stop_lines_are_read f.text stop.limit stop.seed).0 f.says in
    record {
      k = stop.limit;
      seed = stop.seed;
      says = refl;
      are_numbers = (said.0, said.1);
      lines = f.lines ∙ (λ i. lines_of true (own i) ++ said.2 i ∷ lines_of true (behind i)) ∙ ap (λ (l : List (List ℕ)). lines_of true (slice_range script start stop.from) ++ stop_text stop.limit stop.seed ∷ l) (sym rest);
      no_stop = subst (λ (l : List ℕ). HaveNoStop (lines_of true l)) own f.no_stop;
    }

are : (script : List ℕ) (many start : ℕ) (stops : List StopLine) → stops_from script start ≡ stops →
    AreLives script (first_life start (take many stops) (length script)) (other_lives start (take many stops) (length script)) many
unfolding first_life other_lives
are script zero start stops is = last_is script start zero (inl refl)
are script (suc many) start [] is = last_is script start (suc many) (inr is)
are script (suc many) start (stop ∷ more) is =
    let f = first_stop (length (drop start script)) start (drop start script) stop more (omega arith) is in
    let behind : drop f.behind (drop start script) ≡ drop stop.next script = drop-drop f.behind start script ∙ ap (λ (n : ℕ). drop n script) (sym f.next) in (
      ended_is script start stop more (first_life stop.next (take many more) (length script)) f (from_first script stop.next (take many more)),
      are script many stop.next more (sym (f.rest ∙ ap (λ (l : List ℕ). stops_among stop.next (lines_of true l)) behind)),
    )

pub scripts_are_cut : ScriptsAreCut
scripts_are_cut script = record {
  first = first_life 0 (take 31 (stops_from script 0)) (length script);
  others = other_lives 0 (take 31 (stops_from script 0)) (length script);
  lives = lives_are 0 (take 31 (stops_from script 0)) (length script);
  begins = begins_at (take 31 (stops_from script 0)) (length script);
  are_lives = are script 31 0 (stops_from script 0) refl;
}
