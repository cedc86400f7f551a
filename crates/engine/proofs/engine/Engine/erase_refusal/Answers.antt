use Rattle.engine.proofs.Names.{[], ◌∷◌, Some, rules, refl, first_refusal, may_write, wants_record, Erase}
use Rattle.engine.proofs.Replies.{refused, full_refused, carried_out, has_room, has_record, lacks_record, idle_session, is_active, may_write_is}
use Rattle.engine.proofs.engine.Engine.erase_refusal.Goals as goal

pub returns-then-lacks-clause-refused : goal.returns-then-lacks-clause-refused
returns-then-lacks-clause-refused c s site fits =
    let lacks = lacks_record c.args.number fits (search rules) in
    refused s (Erase c.args.session c.args.number) _ (λ i. first_refusal
    ((is_active c.args.session fits (search rules)) i ∷ lacks i ∷ may_write s (Some c.args.session) c.args.number ∷ []))

pub returns-in-Some-clause-refused : goal.returns-in-Some-clause-refused
returns-in-Some-clause-refused c s site fits =
    let there = has_record c.args.number fits (search rules) in
    let busy = may_write_is (Some c.args.session) c.args.number fits c.write_busy.ensures c.in-Some.is in
    refused s (Erase c.args.session c.args.number) _ (λ i. first_refusal ((is_active c.args.session fits (search rules)) i ∷ there i ∷ busy i ∷ []))

pub returns-in-Some-full-clause-refused : goal.returns-in-Some-full-clause-refused
returns-in-Some-full-clause-refused c s site fits =
    let there = has_record c.args.number fits (search rules) in
    let free = may_write_is (Some c.args.session) c.args.number fits c.write_busy.ensures c.in_default.is in
    full_refused (Erase c.args.session c.args.number) 2 fits c.find.ensures.table c.in-Some-full.ensures.full refl refl
    (λ i. first_refusal ((is_active c.args.session fits (search rules)) i ∷ there i ∷ free i ∷ []))

pub returns-clause-accepted : goal.returns-clause-accepted
returns-clause-accepted c s site fits =
    let there = has_record c.args.number fits (search rules) in
    let free = may_write_is (Some c.args.session) c.args.number fits c.write_busy.ensures c.in_default.is in
    carried_out s (Erase c.args.session c.args.number) refl (λ i. first_refusal ((is_active c.args.session fits (search rules)) i ∷ there i ∷ free i ∷ [])) (has_room 2 fits c.find.ensures.table c.in_default-full.ensures.room) refl

pub returns-then-is_none-clause-refused : goal.returns-then-is_none-clause-refused
returns-then-is_none-clause-refused c s site fits =
    refused s (Erase c.args.session c.args.number) _ (λ i. first_refusal
    ((idle_session c.args.session fits (search rules)) i ∷ wants_record s c.args.number ∷ may_write s (Some c.args.session) c.args.number ∷ []))
