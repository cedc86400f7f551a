use Rattle.std.proofs.Common.{rules, ◌≡◌, ◌∙◌, Bool, true, false, sym, subst}
use Rattle.std.proofs.lemmas.Bool.{and_parts}
use Rattle.log_store.specs.Representation.{has_tail}
use Rattle.log_store.specs.Sealing.{SealsTail}
use Rattle.log_store.proofs.SealingCalls.{seals_nothing}
use Rattle.write_ahead.specs.Forcing.{forces}
use Rattle.write_ahead.proofs.Sealing.{none_wanted}
use Rattle.write_ahead.proofs.forcing.force_for.Goals as goal

pub returns-then-not-wants_force-clause-seals : goal.returns-then-not-wants_force-clause-seals
returns-then-not-wants_force-clause-seals g c =
    let none : forces c.args.log.now c.args.contents.now ≡ false = search rules in
    seals_nothing c.args.log.now (g.S.Site.state c.args.site.now) none c.requires.going

pub returns-then-not-wants_force-clause-sealed : goal.returns-then-not-wants_force-clause-sealed
returns-then-not-wants_force-clause-sealed g c logged =
    let none : forces c.args.log.now c.args.contents.now ≡ false = search rules in
    none_wanted c.args.log.now c.args.contents.now none logged

-- the tail is sealed
pub returns-clause-seals : goal.returns-clause-seals
returns-clause-seals g c =
    let log = c.args.log.now in
    let is : forces log c.args.contents.now ≡ true = search rules in
    let wanted : has_tail log ≡ forces log c.args.contents.now = (and_parts (has_tail log) _ is).0 ∙ sym is in
    subst (λ (b : Bool). SealsTail c.force.result b log c.force.new.self (g.S.Site.state c.args.site.now) (g.S.Site.state c.force.new.site)) wanted c.force.ensures.seals
