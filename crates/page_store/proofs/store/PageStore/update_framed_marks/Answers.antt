use Rattle.page_store.proofs.Names.{◌+◌, List, false, take, take_all, get_or, refl, ap, subst, ◌∙◌, take_more, Mark, is_marked, TellsOf, PageStore}
use Rattle.page_store.proofs.ToldPages.{tells_mark, tells_none}
use Rattle.page_store.proofs.store.PageStore.update_framed_marks.Goals as goal

abbrev no_mark : Mark
no_mark = record { page = 0; valid = false; dirty = false; referenced = false }

pub loop-mark-init : goal.loop-mark-init
loop-mark-init c = record { kept = refl; told = tells_none c.args.self.now }

pub loop-mark-preserved : goal.loop-mark-preserved
loop-mark-preserved c =
    let all = c.args.marks.now in
    let k = c.loop-mark.mark-index in
    let m = get_or all k no_mark in
    let so_far = c.loop-mark.invariant.kept in
    let framed = c.update_framed.new.self.pool.framed in
    record {
      kept = c.update_framed.ensures.kept ∙ ap (λ (s : PageStore). let t : PageStore = record s { pool = record s.pool { framed = framed } } in t) so_far;
      told = tells_mark (take k all) (take (k + 1) all) m c.args.self.now c.loop-mark.self c.update_framed.new.self (take_more all k no_mark c.loop-mark-test.true)
          (ap (λ (s : PageStore). s.pool.frames) so_far) c.loop-mark.invariant.told c.update_framed.ensures.told;
    }

pub returns-clause-kept : goal.returns-clause-kept
returns-clause-kept c = c.loop-mark.invariant.kept

pub returns-clause-told : goal.returns-clause-told
returns-clause-told c = subst (λ (l : List Mark). TellsOf (is_marked l) c.args.self.now c.loop-mark.self) (take_all c.loop-mark.mark-index c.args.marks.now c.loop-mark-test.false)
    c.loop-mark.invariant.told
