use Rattle.page_store.proofs.Names.{◌++◌, map, List, ap, ◌∙◌, Frame, CacheLine, group_lines, marks}
use Rattle.page_store.proofs.Lines.{pool_lines}
use Rattle.record_model.specs.declared.words.CacheLine.TheVariants as line
use Rattle.page_store.proofs.store.PageStore.listing.Goals as goal

pub returns-clause-lines : goal.returns-clause-lines
returns-clause-lines c =
    let store = c.args.self.now in
    c.in_ok-list_pool.ensures.lines
    ∙ ap (λ (l : List CacheLine). l ++ map (λ (f : Frame). line.Pool f.page f.changed) store.pool.frames) (c.in_ok-list_queue.ensures.lines ∙ ap (λ (l : List CacheLine). l ++ group_lines store.flash.directory.first (marks store.flash.directory)) c.new-lines.ensures)
    ∙ ap (λ (l : List CacheLine). group_lines store.flash.directory.first (marks store.flash.directory) ++ l) (pool_lines store.pool.frames)
