use Rattle.page_store.proofs.Names.{◌+◌, ℕ, List, take, take_all, get_or, refl, ap, subst, ◌∙◌, take_more, is_named, TellsOf, PageStore}
use Rattle.page_store.proofs.ToldPages.{tells_page, tells_none}
use Rattle.page_store.proofs.store.PageStore.update_framed_pages.Goals as goal

pub loop-page-init : goal.loop-page-init
loop-page-init c = record { kept = refl; told = tells_none c.args.self.now }

pub loop-page-preserved : goal.loop-page-preserved
loop-page-preserved c =
    let all = c.args.pages.now in
    let k = c.loop-page.page-index in
    let m = get_or all k 0 in
    let so_far = c.loop-page.invariant.kept in
    let framed = c.update_framed.new.self.pool.framed in
    record {
      kept = c.update_framed.ensures.kept ∙ ap (λ (s : PageStore). let t : PageStore = record s { pool = record s.pool { framed = framed } } in t) so_far;
      told = tells_page (take k all) (take (k + 1) all) m c.args.self.now c.loop-page.self c.update_framed.new.self (take_more all k 0 c.loop-page-test.true)
          (ap (λ (s : PageStore). s.pool.frames) so_far) c.loop-page.invariant.told c.update_framed.ensures.told;
    }

pub returns-clause-kept : goal.returns-clause-kept
returns-clause-kept c = c.loop-page.invariant.kept

pub returns-clause-told : goal.returns-clause-told
returns-clause-told c = subst (λ (l : List ℕ). TellsOf (is_named l) c.args.self.now c.loop-page.self) (take_all c.loop-page.page-index c.args.pages.now c.loop-page-test.false)
    c.loop-page.invariant.told
