use Rattle.page_store.proofs.Names.{◌≡◌, ℕ, ◌+◌, List, take, get_or, sym, ap, subst, ◌∙◌, take_more, IsSome, Pool, frame_of, cleared, Frame, cleared_all, PageStore}
use Rattle.page_store.proofs.Clearing.{still_there, cleared_push}
use Rattle.page_store.proofs.ToldPages.{told_cleared}
use Rattle.page_store.proofs.store.PageStore.clear_all.Goals as goal

pub clear_changed-requires : goal.clear_changed-requires
clear_changed-requires c =
    let page = get_or c.args.pages.now c.loop-page.page-index 0 in
    subst (λ (l : List Frame). IsSome (frame_of l page)) (sym (ap (λ (s : PageStore). s.pool.frames) c.loop-page.invariant.cleared))
    (still_there c.frames_of_pages.ensures.cleared (take c.loop-page.page-index c.args.pages.now) c.args.self.now.pool.frames page (c.requires.there c.loop-page.page-index 0 c.loop-page-test.true))

pub loop-page-preserved : goal.loop-page-preserved
loop-page-preserved c =
    let k = c.loop-page.page-index in
    let page = get_or _ k 0 in
    let first = c.args.self.now in
    let frames = first.pool.frames in
    let so_far = c.loop-page.invariant.cleared in
    let all : cleared (cleared_all (take k _) frames) page ≡ cleared_all (take (k + 1) _) frames =
    sym (cleared_push (take k _) page frames) ∙ ap (λ (ps : List ℕ). cleared_all ps frames) (sym (take_more _ k 0 c.loop-page-test.true)) in
    let framed = c.clear_changed.new.self.framed in
    let pool : c.clear_changed.new.self ≡ record first.pool { frames = cleared_all (take (k + 1) _) frames; framed = framed } =
    c.clear_changed.ensures.after ∙ ap (λ (s : PageStore). let p : Pool = record s.pool { frames = cleared s.pool.frames page; framed = framed } in p) so_far
    ∙ ap (λ (l : List Frame). let p : Pool = record first.pool { frames = l; framed = framed } in p) all in
    record {
      cleared = λ i. let s : PageStore = record { alloc = (so_far i).alloc; pool = pool i; flash = (so_far i).flash; ended = (so_far i).ended } in s;
      pool = c.clear_changed.ensures.pool;
      told = λ told. told_cleared c.frames_of_pages.ensures.cleared c.loop-page.self c.clear_changed.new.self page (ap (λ (p : Pool). p.frames) c.clear_changed.ensures.after)
          c.clear_changed.ensures.framed (c.loop-page.invariant.told told);
    }
