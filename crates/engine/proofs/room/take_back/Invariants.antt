use Rattle.engine.proofs.Names.{AreTakenBack}
use Rattle.engine.proofs.room.take_back.Given as goal

abbrev pub invariant-loop-turn : goal.invariant-loop-turn
invariant-loop-turn l = AreTakenBack l.fn.footprints l.footprints l.session l._turn
