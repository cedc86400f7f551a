use Rattle.page_store.proofs.Names.{◌++◌, List, map, ap, ◌∙◌, take_all, CacheLine}
use Rattle.page_store.proofs.Lines.{page_line, page_lines}
use Rattle.page_store.proofs.listing.list_pool.Goals as goal

pub returns-clause-lines : goal.returns-clause-lines
returns-clause-lines c = c.loop-page.invariant ∙ ap (λ (l : List CacheLine). c.args.lines.now ++ l)
    (ap (map page_line) (take_all c.loop-page.page-index c.deref-page-items.result.now c.loop-page-test.false ∙ c.deref-page-items.ensures.value ∙ c.in_ok-marks.ensures.marks)
    ∙ page_lines c.args.pool.now.frames)
