use Rattle.engine.proofs.Names.{◌≡◌, Option, ap, arith, option_map_or, owed_changes, owed_one, owed_at, Active}
use Rattle.engine.proofs.sessions.add.Goals as goal

pub returns-clause-owed : goal.returns-clause-owed
returns-clause-owed c =
    let all = owed_changes c.args.active.now c.add.new.self c.args.entry.session _ c.len-before.ensures.table c.len-after.ensures.table c.requires.session c.add.ensures.entry in
    let none : owed_at c.args.active.now c.args.entry.session ≡ 0 = ap (λ (o : Option Active). option_map_or owed_one o 0) c.requires.absent in
    omega (arith, all, none)
