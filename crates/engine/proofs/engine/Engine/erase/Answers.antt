use Rattle.engine.proofs.Names.{subst, sym, Some, ap, ◌∙◌, refl, ℕ, None, work_by, write_by, MayWrite, performs_as, entry_is, entry_of}
use Rattle.engine.proofs.Calling.{answered, answered_tested, as_written, contract_ended, does_nothing, asks_rest, still}
use Rattle.engine.proofs.Performing.{performs_rest}
use Rattle.engine.proofs.engine.Engine.erase.Goals as goal

pub carry_out_write-requires-clause-active : goal.carry_out_write-requires-clause-active
carry_out_write-requires-clause-active g c =
    let engine = c.args.self.now in
    ap (entry_of engine.active) (entry_is engine.active c.args.session c.entry-entry.result c.requires.going.table c.entry-entry.ensures).session ∙ c.entry-entry.ensures

pub carry_out_write-requires-clause-may : goal.carry_out_write-requires-clause-may
carry_out_write-requires-clause-may g c =
    let engine = c.args.self.now in
    subst (λ (n : ℕ). MayWrite engine (Some n) c.args.number 2) (sym (entry_is engine.active c.args.session c.entry-entry.result c.requires.going.table c.entry-entry.ensures).session) c.in_default.ensures.may

pub returns-in-Some-clause-answers : goal.returns-in-Some-clause-answers
returns-in-Some-clause-answers g c s fits =
    answered (c.in-Some.ensures.refused s (g.S.Site.state c.args.site.now) fits) (does_nothing fits c.requires.going (still fits c.requires.going)) refl asks_rest

pub returns-in-Ok-clause-answers : goal.returns-in-Ok-clause-answers
returns-in-Ok-clause-answers g c s fits =
    answered_tested (c.in_default.ensures.accepted s (g.S.Site.state c.args.site.now) fits)
    (as_written {x = None} c.args.number (entry_is c.args.self.now.active c.args.session c.entry-entry.result c.requires.going.table c.entry-entry.ensures).session refl (c.in-Ok.ensures.answers s fits))

pub returns-in-Err-clause-answers : goal.returns-in-Err-clause-answers
returns-in-Err-clause-answers g c s fits =
    answered_tested (c.in_default.ensures.accepted s (g.S.Site.state c.args.site.now) fits)
    (contract_ended (as_written {x = None} c.args.number (entry_is c.args.self.now.active c.args.session c.entry-entry.result c.requires.going.table c.entry-entry.ensures).session refl (c.in-Err.ensures.answers s fits)))

pub returns-in-Some-clause-performs : goal.returns-in-Some-clause-performs
returns-in-Some-clause-performs g c s fits = performs_rest (c.in-Some.ensures.refused s (g.S.Site.state c.args.site.now) fits).1.1

pub returns-in-Ok-clause-performs : goal.returns-in-Ok-clause-performs
returns-in-Ok-clause-performs g c s fits =
    performs_as ((c.in_default.ensures.accepted s (g.S.Site.state c.args.site.now) fits).1.1 ∙ (λ i. work_by s (write_by (sym (entry_is c.args.self.now.active c.args.session c.entry-entry.result c.requires.going.table c.entry-entry.ensures).session i) c.args.number None) None))
    (c.in-Ok.ensures.performs s fits)

pub returns-in-Err-clause-performs : goal.returns-in-Err-clause-performs
returns-in-Err-clause-performs g c s fits =
    performs_as ((c.in_default.ensures.accepted s (g.S.Site.state c.args.site.now) fits).1.1 ∙ (λ i. work_by s (write_by (sym (entry_is c.args.self.now.active c.args.session c.entry-entry.result c.requires.going.table c.entry-entry.ensures).session i) c.args.number None) None))
    (c.in-Err.ensures.performs s fits)
