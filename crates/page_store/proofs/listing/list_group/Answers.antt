use Rattle.page_store.proofs.Names.{rules, ◌+◌, ℕ, ap, slice_get-get_or, Mark}
use Rattle.flash_cache.specs.Leaving.{no_mark}
use Rattle.page_store.proofs.Lines.{next_frame}
use Rattle.page_store.proofs.listing.list_group.Goals as goal

pub loop-index-preserved : goal.loop-index-preserved
loop-index-preserved c =
    let at = slice_get-get_or {X = Mark} c.marks-count.new.into c.loop-index.index no_mark (search rules) in
    next_frame _ _ c.marks-count.new.into c.loop-index.index _ _ _ _ _ at c.loop-index.invariant c.in_ok-push.ensures.ok (ap (λ (n : ℕ). n + c.args.place) c.first.ensures) c.frame_line.ensures
