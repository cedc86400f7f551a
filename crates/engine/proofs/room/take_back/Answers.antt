use Rattle.engine.proofs.Names.{◌≡◌, ℕ, subst, rules, arith, AreTakenBack}
use Rattle.engine.proofs.FootprintChanges.{nothing_taken, one_taken}
use Rattle.engine.proofs.room.take_back.Goals as goal

pub loop-turn-init : goal.loop-turn-init
loop-turn-init c = nothing_taken c.args.footprints.now c.args.session

pub loop-turn-preserved : goal.loop-turn-preserved
loop-turn-preserved c = one_taken c.args.footprints.now c.loop-turn.footprints c.take_back.new.self c.args.session c.loop-turn._turn (omega (arith, c.requires.session, c.requires.eight)) c.loop-turn.invariant c.take_back.ensures

pub returns : goal.returns
returns c =
    let same : c.loop-turn._turn ≡ c.args.count = search rules in
    subst (λ (k : ℕ). AreTakenBack c.args.footprints.now c.loop-turn.footprints c.args.session k) same c.loop-turn.invariant
