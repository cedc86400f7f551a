use Rattle.engine.proofs.Names.{◌∙◌, [], ◌∷◌, Some, refl, sym, rules, first_refusal, may_read, wants_record, Read, entry_is}
use Rattle.record_model.proofs.SerialLocks.{no_holder}
use Rattle.engine.proofs.Replies.{refused, carried_out, has_record, lacks_record, idle_session, is_active, has, may_read_is}
use Rattle.engine.proofs.engine.Engine.read_refusal.Goals as goal

pub returns-clause-may : goal.returns-clause-may
returns-clause-may c =
    let own = has _ (search rules) in
    let free = no_holder _ (sym c.read_busy.ensures ∙ c.in_default.is) in
    record { session = (entry_is c.args.self.now.active c.args.session own.own c.find.ensures.table own.is).small; active = search rules; shown = record { number = search rules; free = free } }

pub returns-then-lacks-clause-refused : goal.returns-then-lacks-clause-refused
returns-then-lacks-clause-refused c s site fits =
    let lacks = lacks_record c.args.number fits (search rules) in
    refused s (Read c.args.session c.args.number) _ (λ i. first_refusal
    ((is_active c.args.session fits (search rules)) i ∷ lacks i ∷ may_read s (Some c.args.session) c.args.number ∷ []))

pub returns-in-Some-clause-refused : goal.returns-in-Some-clause-refused
returns-in-Some-clause-refused c s site fits =
    let there = has_record c.args.number fits (search rules) in
    let busy = may_read_is (Some c.args.session) c.args.number fits c.read_busy.ensures c.in-Some.is in
    refused s (Read c.args.session c.args.number) _ (λ i. first_refusal ((is_active c.args.session fits (search rules)) i ∷ there i ∷ busy i ∷ []))

pub returns-clause-accepted : goal.returns-clause-accepted
returns-clause-accepted c s site fits =
    let there = has_record c.args.number fits (search rules) in
    let free = may_read_is (Some c.args.session) c.args.number fits c.read_busy.ensures c.in_default.is in
    carried_out s (Read c.args.session c.args.number) refl (λ i. first_refusal ((is_active c.args.session fits (search rules)) i ∷ there i ∷ free i ∷ [])) refl refl

pub returns-then-is_none-clause-refused : goal.returns-then-is_none-clause-refused
returns-then-is_none-clause-refused c s site fits =
    refused s (Read c.args.session c.args.number) _ (λ i. first_refusal
    ((idle_session c.args.session fits (search rules)) i ∷ wants_record s c.args.number ∷ may_read s (Some c.args.session) c.args.number ∷ []))
