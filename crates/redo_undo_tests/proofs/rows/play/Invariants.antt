use Rattle.mem_site.specs.MemState.{state_of}
use Rattle.analysis.specs.Read as analysis
use Rattle.redo_laws.specs.Holding.{Invariant}
use Rattle.redo_undo_tests.proofs.rows.play.Given as goal

abbrev pub invariant-loop-place : goal.invariant-loop-place
invariant-loop-place l = Invariant l.life.log l.life.pages (state_of l.site) × analysis.Invariant l.life.found
