use Rattle.std.proofs.Common.{◌<◌, length, sym, arith, ◌∙◌}
use Rattle.std.proofs.Common.{Bool, true, List, [], ◌≡◌, nat_eq, ap}
use Rattle.std.proofs.lemmas.Bool.Decides.{nat_tests}
use Rattle.std.proofs.lemmas.List.{nil_from_length}
use Rattle.mem_site.specs.declared.change.Span.{Span}
use Rattle.mem_site.specs.Crash.{scattered, drawn}
use Rattle.mem_site.proofs.Scatter.{scattered_more, drawn_more, scattered_none, drawn_none}
use Rattle.mem_site.specs.History.{ranges_of}
use Rattle.mem_site.proofs.crash.scatter.Goals as goal

pub loop-place-preserved : goal.loop-place-preserved
loop-place-preserved c =
    let l = c.loop-place in
    let ranges = ranges_of c.args.spans.now in
    let inside : l.place < length l.content = omega arith in
    record {
      content = scattered_more c.args.seed ranges l.at l.content l.place inside _ _ _ c.stands_loose-loose.ensures c.draw-at.ensures c.left.ensures ∙ l.invariant.content;
      drawn = drawn_more c.args.seed ranges l.at l.content l.place inside _ _ _ c.stands_loose-loose.ensures c.draw-at.ensures c.left.ensures ∙ l.invariant.drawn;
    }

is_none : (spans : List Span) (b : Bool) → b ≡ nat_eq (length spans) 0 → b ≡ true → spans ≡ []
is_none spans b is empty = nil_from_length spans (grind (arith, nat_tests))

pub returns-then-is_empty-clause-content : goal.returns-then-is_empty-clause-content
returns-then-is_empty-clause-content c =
    let a = c.args in
    sym (ap (λ (l : List Span). scattered a.seed (ranges_of l) 0 a.x a.content.now) (is_none a.spans.now c.is_empty.result c.is_empty.ensures c.if-is_empty.true) ∙ scattered_none a.seed 0 a.x a.content.now)

pub returns-then-is_empty-clause-drawn : goal.returns-then-is_empty-clause-drawn
returns-then-is_empty-clause-drawn c =
    let a = c.args in
    sym (ap (λ (l : List Span). drawn (ranges_of l) 0 a.x a.content.now) (is_none a.spans.now c.is_empty.result c.is_empty.ensures c.if-is_empty.true) ∙ drawn_none 0 a.x a.content.now)
