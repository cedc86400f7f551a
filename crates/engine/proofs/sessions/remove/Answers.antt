use Rattle.engine.proofs.Names.{◌≡◌, ◌+◌, Option, ap, arith, option_map_or, owed_changes, owed_one, owed_at, entry_is, Active}
use Rattle.engine.proofs.sessions.remove.Goals as goal

pub returns-clause-owed : goal.returns-clause-owed
returns-clause-owed c =
    let small = (entry_is c.args.active.now c.args.entry.session c.args.entry c.len-before.ensures.table c.requires.active).small in
    let all = owed_changes c.args.active.now c.remove.new.self c.args.entry.session _ c.len-before.ensures.table c.len-after.ensures.table small c.remove.ensures.entry in
    let was : owed_at c.args.active.now c.args.entry.session ≡ c.args.entry.writes + 1 = ap (λ (o : Option Active). option_map_or owed_one o 0) c.requires.active in
    omega (arith, all, was)
