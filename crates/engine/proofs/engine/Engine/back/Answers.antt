use Rattle.engine.proofs.Names.{◌≡◌, ◌-◌, ℕ, Option, Some, length, refl, sym, ap, ◌∙◌, arith, unwrap_or, back_reads, IsCarriedOut, Matches, run, Engine, State, session_at, Outcome, effect, command_touches, record_touches, Back, performs_as, command_work, record_work, Site, entry_is, IsTable, entry_of, Active}
use Rattle.engine.proofs.Actives.{Finds, some_active}
use Rattle.engine.proofs.Backs.{count_as, effect_as, reads_as, touches_as, work_as}
use Rattle.engine.proofs.Calling.{answered, asks_rest, does_failed, does_nothing, still}
use Rattle.engine.proofs.Performing.{performs_rest}
use Rattle.record_model.specs.declared.words.Reply.TheVariants as reply
use Rattle.engine.proofs.engine.Engine.back.Goals as goal

-- What is carried out, by the number of writes that stay.
module _ (engine : Engine) (site : Site) (s : State) (n : ℕ) (standing : Option ℕ) (entry : Active) (stays : ℕ) (fits : Matches engine site s) (table : IsTable engine.active) (at : entry_of engine.active n ≡ Some entry) (is : stays ≡ unwrap_or standing entry.mark) (carried : IsCarriedOut s (Back n standing)) where
  abbrev found : Finds fits.newest s.kept fits.records entry (session_at s n)
  found = some_active fits.newest fits.records engine.active s fits.sessions n entry at

  own : n ≡ entry.session
  own = sym (entry_is engine.active n entry table at).session

  same : unwrap_or standing found.session.mark ≡ stays
  same = ap (unwrap_or standing) (sym found.under_way.mark) ∙ sym is

  abbrev known : Outcome
  known = record { after = effect s (Back entry.session (Some stays)); reply = reply.Back (entry.writes - stays) }

  outcome_is : run s (Back n standing) ≡ known
  outcome_is =
      let counted : length found.session.writes - stays ≡ entry.writes - stays = omega (arith, found.under_way.count) in
      carried.0 ∙ (λ i. record { after = effect_as s n entry.session standing found.session stays own found.is same i; reply = reply.Back ((count_as s n entry.session standing found.session stays own found.is same ∙ counted) i) })

  touches_are : command_touches s (Back n standing) ≡ record_touches s (Back entry.session (Some stays))
  touches_are = carried.1.0 ∙ touches_as s n entry.session standing found.session stays own found.is same

  work_is : command_work s (Back n standing) ≡ record_work s (Back entry.session (Some stays))
  work_is = carried.1.1 ∙ work_as s n entry.session standing found.session stays own found.is same

  reads_are : back_reads (Some stays) (session_at s entry.session) ≡ back_reads standing (session_at s n)
  reads_are = reads_as s n entry.session standing found.session stays own found.is same

pub carry_out_back-requires-clause-active : goal.carry_out_back-requires-clause-active
carry_out_back-requires-clause-active g c =
    ap (entry_of c.args.self.now.active) (entry_is c.args.self.now.active c.args.session c.entry-entry.result c.requires.going.table c.entry-entry.ensures).session ∙ c.entry-entry.ensures

pub carry_out_back-requires-clause-stand : goal.carry_out_back-requires-clause-stand
carry_out_back-requires-clause-stand g c = omega (arith, c.in_default.ensures.stand c.entry-entry.result c.entry-entry.ensures, c.stays.ensures)

pub returns-in-Some-clause-answers : goal.returns-in-Some-clause-answers
returns-in-Some-clause-answers g c s fits =
    answered (c.in-Some.ensures.refused s (g.S.Site.state c.args.site.now) fits) (does_nothing fits c.requires.going (still fits c.requires.going)) refl asks_rest

pub returns-in-Ok-clause-answers : goal.returns-in-Ok-clause-answers
returns-in-Ok-clause-answers g c s fits =
    let site = g.S.Site.state c.args.site.now in
    let carried = c.in_default.ensures.accepted s site fits in
    answered (outcome_is c.args.self.now site s c.args.session c.args.standing c.entry-entry.result c.stays.result fits c.requires.going.table c.entry-entry.ensures c.stays.ensures carried, (touches_are c.args.self.now site s c.args.session c.args.standing c.entry-entry.result c.stays.result fits c.requires.going.table c.entry-entry.ensures c.stays.ensures carried, tt {0}))
    (c.in-Ok.ensures.does s fits) c.in-Ok.ensures.done (c.in-Ok.ensures.asks s fits)

pub returns-in-Err-clause-answers : goal.returns-in-Err-clause-answers
returns-in-Err-clause-answers g c s fits =
    let site = g.S.Site.state c.args.site.now in
    let carried = c.in_default.ensures.accepted s site fits in
    answered (outcome_is c.args.self.now site s c.args.session c.args.standing c.entry-entry.result c.stays.result fits c.requires.going.table c.entry-entry.ensures c.stays.ensures carried, (touches_are c.args.self.now site s c.args.session c.args.standing c.entry-entry.result c.stays.result fits c.requires.going.table c.entry-entry.ensures c.stays.ensures carried, tt {0}))
    (does_failed (omega arith) (c.in-Err.ensures.does s fits)) tt (c.in-Err.ensures.asks s fits)

pub returns-in-Ok-clause-log_reads : goal.returns-in-Ok-clause-log_reads
returns-in-Ok-clause-log_reads g c s fits =
    let site = g.S.Site.state c.args.site.now in
    let read = c.in-Ok.ensures.log_reads s fits in
    omega (arith, read, reads_are c.args.self.now site s c.args.session c.args.standing c.entry-entry.result c.stays.result fits c.requires.going.table c.entry-entry.ensures c.stays.ensures (c.in_default.ensures.accepted s site fits))

pub returns-in-Err-clause-log_reads : goal.returns-in-Err-clause-log_reads
returns-in-Err-clause-log_reads g c s fits =
    let site = g.S.Site.state c.args.site.now in
    let read = c.in-Err.ensures.log_reads s fits in
    omega (arith, read, reads_are c.args.self.now site s c.args.session c.args.standing c.entry-entry.result c.stays.result fits c.requires.going.table c.entry-entry.ensures c.stays.ensures (c.in_default.ensures.accepted s site fits))

pub returns-in-Some-clause-performs : goal.returns-in-Some-clause-performs
returns-in-Some-clause-performs g c s fits = performs_rest (c.in-Some.ensures.refused s (g.S.Site.state c.args.site.now) fits).1.1

pub returns-in-Ok-clause-performs : goal.returns-in-Ok-clause-performs
returns-in-Ok-clause-performs g c s fits =
    let site = g.S.Site.state c.args.site.now in
    performs_as (work_is c.args.self.now site s c.args.session c.args.standing c.entry-entry.result c.stays.result fits c.requires.going.table c.entry-entry.ensures c.stays.ensures (c.in_default.ensures.accepted s site fits)) (c.in-Ok.ensures.performs s fits)

pub returns-in-Err-clause-performs : goal.returns-in-Err-clause-performs
returns-in-Err-clause-performs g c s fits =
    let site = g.S.Site.state c.args.site.now in
    performs_as (work_is c.args.self.now site s c.args.session c.args.standing c.entry-entry.result c.stays.result fits c.requires.going.table c.entry-entry.ensures c.stays.ensures (c.in_default.ensures.accepted s site fits)) (c.in-Err.ensures.performs s fits)
