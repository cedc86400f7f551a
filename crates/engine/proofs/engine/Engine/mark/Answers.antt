use Rattle.engine.proofs.Names.{Some, ◌∙◌, sym, ap, subst, refl, arith, Matches, Outcome, Mark, entry_is, ChangesOnly, after_mark, entry_of}
use Rattle.engine.proofs.Actives.{some_active}
use Rattle.engine.proofs.Backs.{marked_fits, still_going}
use Rattle.engine.proofs.Replies.{carried_out, refused_session, wants_active_is}
use Rattle.engine.proofs.engine.Engine.mark.Goals as goal

pub mark-requires : goal.mark-requires
mark-requires c =
    let at = sym c.find.ensures.entry ∙ c.in-Some.is in
    record { active = ap (entry_of c.args.self.now.active) (entry_is c.args.self.now.active c.args.session c.in-Some.entry c.find.ensures.table at).session ∙ at }

pub returns-in_default-clause-answers : goal.returns-in_default-clause-answers
returns-in_default-clause-answers c s site fits =
    let is = refused_session c.args.self.now site s (Mark c.args.session) c.args.session fits (sym c.find.ensures.entry ∙ c.in_default.is) refl in
    (sym (ap (λ (o : Outcome). o.reply) is.0), subst (λ (o : Outcome). Matches c.args.self.now site o.after) (sym is.0) fits)

pub returns-clause-answers : goal.returns-clause-answers
returns-clause-answers c s site fits =
    let engine = c.args.self.now in
    let at = sym c.find.ensures.entry ∙ c.in-Some.is in
    let found = some_active fits.newest fits.records engine.active s fits.sessions c.args.session c.in-Some.entry at in
    let is = carried_out s (Mark c.args.session) refl (wants_active_is s c.args.session found.session found.is) refl refl in
    let own = (entry_is engine.active c.args.session c.in-Some.entry c.find.ensures.table at).session in
    let changes = subst (λ (n : _). ChangesOnly engine.active c.mark.new.active n (Some (after_mark c.in-Some.entry))) own c.mark.ensures.entry in
    (sym (ap (λ (o : Outcome). o.reply) is.0), subst (λ (o : Outcome). Matches (record engine { active = c.mark.new.active }) site o.after) (sym is.0) (marked_fits engine c.mark.new.active site s c.args.session c.in-Some.entry fits c.find.ensures.table at changes c.mark.ensures.owed))

pub returns-clause-going : goal.returns-clause-going
returns-clause-going c site going =
    let engine = c.args.self.now in
    let at = sym c.find.ensures.entry ∙ c.in-Some.is in
    let own = (entry_is engine.active c.args.session c.in-Some.entry c.find.ensures.table at).session in
    let there = ap (λ n. entry_of engine.active n) own ∙ at in
    let last = going.lasts c.in-Some.entry.session c.in-Some.entry there in
    still_going c.in-Some.entry.session 0 c.in-Some.entry (after_mark c.in-Some.entry) going there c.mark.ensures.entry c.mark.ensures.table refl refl last.0 last.1 (omega (arith, c.mark.ensures.owed)) going.store refl refl (omega arith) (omega arith) (omega arith) refl refl refl going.footprints
