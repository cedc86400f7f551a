use Rattle.redo_undo.proofs.Names.{◌≡◌, ◌+◌, ◌/◌, length, ap, sym, ◌∙◌, arith, seen, kept_by, IsOfSizes, Opening, opened, Geometry}
use Rattle.redo_undo.proofs.Judging.{of_sizes}
use Rattle.redo_undo.proofs.redo_pass.judge_of.Goals.{After-start}
use Rattle.redo_undo.proofs.redo_pass.judge_of.Goals as goal

module _ (c : After-start) where
  hi : c.sealed_end-hi.result / 512 ≡ c.args.log.now.ring.hi
  hi = omega (arith, c.sealed_end-hi.ensures)

  sizes_are : (o : Opening) → c.args.log.now.geometry ≡ o.sizes → c.args.log.now.ring.hi ≡ kept_by o.newest + length o.blocks →
      IsOfSizes (opened o) (record { pages = c.geometry-geometry.result.pages; blocks = c.geometry-geometry.result.blocks; hi = c.sealed_end-hi.result / 512 })
  sizes_are o same end =
      of_sizes o _ (ap (λ (k : Geometry). k.pages) (c.geometry-geometry.ensures ∙ same)) (ap (λ (k : Geometry). k.blocks) (c.geometry-geometry.ensures ∙ same)) (hi ∙ end)

pub returns-clause-heard : goal.returns-clause-heard
returns-clause-heard c o own same end = c.start.ensures.heard (opened o) (ap seen (sym own)) (sizes_are c o same end)

pub returns-clause-foreign : goal.returns-clause-foreign
returns-clause-foreign c o own same end is judged = c.start.ensures.foreign (opened o) (ap seen (sym own)) (sizes_are c o same end) is judged
