use Rattle.page_store.proofs.Names.{◌++◌, [], List, ap, ◌∙◌, arith, slice_get-get_or, Mark, group_lines, marks}
use Rattle.std.proofs.lemmas.List.{take_all}
use Rattle.page_store.proofs.Lines.{next_group, count_marks}
use Rattle.page_store.proofs.listing.list_queue.Goals as goal

pub loop-place-preserved : goal.loop-place-preserved
loop-place-preserved c =
    let queue = c.args.flash.now.directory in
    let at = slice_get-get_or {X = List Mark} (marks queue) c.loop-place.place [] (omega (arith, count_marks queue.groups, c.loop-place-test.true, c.groups-place-end.ensures)) in
    next_group queue.first (marks queue) c.loop-place.place _ _ _ _ at c.loop-place.invariant (c.in_ok-list_group.ensures.lines _ at)

pub returns-clause-lines : goal.returns-clause-lines
returns-clause-lines c =
    let queue = c.args.flash.now.directory in
    c.loop-place.invariant ∙ ap (λ (l : List (List Mark)). c.args.lines.now ++ group_lines queue.first l) (take_all c.loop-place.place (marks queue) (omega (arith, count_marks queue.groups, c.groups-place-end.ensures)))
