use Rattle.analysis.specs.Read as analysis
use Rattle.redo_laws.specs.Holding.{Invariant}
use Rattle.redo_undo_tests.proofs.rows.fill.Given as goal

abbrev pub invariant-loop-slot : goal.invariant-loop-slot
invariant-loop-slot g l = Invariant l.life.log l.life.pages (g.S.Site.state l.site) × analysis.Invariant l.life.found
