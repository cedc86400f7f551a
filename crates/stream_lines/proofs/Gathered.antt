-- A line ends within what was taken.
use Rattle.std.proofs.Common.{◌≡◌, ℕ, ◌+◌, ◌-◌, List, ◌∷◌, ◌++◌, length, take, drop, ◌∙◌, ap, arith, length-append}
use Rattle.std.specs.Prelude.{Some, true}
use Rattle.std.proofs.lemmas.List.{length-take, length-drop, drop-take, drop-drop}
use Rattle.line_intake.specs.Gathering.{Gathers}
use Rattle.stream_lines.specs.declared.source.Source.{Source}
use Rattle.stream_lines.specs.Lines.{IsSource, pending, HearsPart}

-- how many octets were taken and not heard
length-pending : (source : Source) → IsSource source → length (pending source) ≡ source.to - source.from
length-pending source is =
    let some = length-take (source.to - source.from) (drop source.from source.buffer) in
    let behind = length-drop source.from source.buffer in
    let size = is.size in
    let inside = is.inside in
    let order = is.order in
    omega (arith, some, behind, size, inside, order)

-- a newline was among it
pub newline_gathered : (source : Source) (line line' : List ℕ) (place : ℕ) → IsSource source → Gathers 1027 (pending source) (Some place) line line' → HearsPart true (pending source) (pending (record source { from = source.from + (place + 1) })) line line'
newline_gathered source line line' place is g =
    let long = length-pending source is in
    let both = ap length g.all ∙ length-append g.octets (10 ∷ drop (place + 1) (pending source)) in
    let here = g.place in
    let after : ℕ = source.from + (place + 1) in
    let left : source.to - source.from ≡ place + 1 + (source.to - after) = omega (arith, long, both, here) in
    let rest : drop (place + 1) (pending source) ≡ take (source.to - after) (drop after source.buffer) =
    ap (λ n. drop (place + 1) (take n (drop source.from source.buffer))) left
    ∙ drop-take (place + 1) (source.to - after) (drop source.from source.buffer)
    ∙ ap (take (source.to - after)) (drop-drop (place + 1) source.from source.buffer) in
    record {
      octets = g.octets;
      none = g.none;
      all = g.all ∙ ap (λ (l : List ℕ). g.octets ++ 10 ∷ l) rest;
      some = λ e. cc e;
      kept = g.line;
    }
