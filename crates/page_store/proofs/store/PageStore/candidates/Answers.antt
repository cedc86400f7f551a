use Rattle.page_store.proofs.Names.{◌≡◌, List, map, take_all, ap, ◌∙◌, map-map, mark_of, coldest_movable, Frame, candidates}
use Rattle.page_store.proofs.Movable.{told_mark}
use Rattle.page_store.proofs.ToldPages.{coldest_told}
use Rattle.page_store.proofs.store.PageStore.candidates.Goals as goal

pub returns-clause-marks : goal.returns-clause-marks
returns-clause-marks c =
    let store = c.args.self.now in
    let told = c.deref-page-items.result.now in
    let are : told ≡ map mark_of (coldest_movable 7 store.pool) = c.deref-page-items.ensures.value ∙ c.in_ok-coldest.ensures.marks in
    c.loop-page.invariant
    ∙ ap (map told_mark) (take_all c.loop-page.page-index told c.loop-page-test.false ∙ are)
    ∙ ap (λ (l : List Frame). map told_mark (map mark_of l)) (coldest_told store 7 c.requires)
    ∙ map-map told_mark mark_of (candidates store)
