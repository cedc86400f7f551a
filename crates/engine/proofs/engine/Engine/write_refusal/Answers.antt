use Rattle.engine.proofs.Names.{[], ◌∷◌, Some, rules, refl, first_refusal, may_write, wants_record, wants_short}
use Rattle.record_model.specs.declared.words.Command.TheVariants.{Write}
use Rattle.engine.proofs.Replies.{refused, full_refused, tested_last, has_room, has_record, lacks_record, idle_session, is_short, is_long, is_active, may_write_is}
use Rattle.engine.proofs.engine.Engine.write_refusal.Goals as goal

pub returns-then-lacks-clause-refused : goal.returns-then-lacks-clause-refused
returns-then-lacks-clause-refused c s site fits =
    let lacks = lacks_record c.args.number fits (search rules) in
    refused s (Write c.args.session c.args.number c.args.value.now) _
    (λ i. first_refusal ((is_active c.args.session fits (search rules)) i ∷ lacks i ∷ wants_short c.args.value.now ∷ may_write s (Some c.args.session)
    c.args.number ∷ []))

pub returns-then-is_long-clause-refused : goal.returns-then-is_long-clause-refused
returns-then-is_long-clause-refused c s site fits =
    let there = has_record c.args.number fits (search rules) in
    refused s (Write c.args.session c.args.number c.args.value.now) _
    (λ i. first_refusal ((is_active c.args.session fits (search rules)) i ∷ there i ∷ (is_long c.args.value.now (search rules)) i ∷ may_write s
    (Some c.args.session) c.args.number ∷ []))

pub returns-in-Some-clause-refused : goal.returns-in-Some-clause-refused
returns-in-Some-clause-refused c s site fits =
    let there = has_record c.args.number fits (search rules) in
    let busy = may_write_is (Some c.args.session) c.args.number fits c.write_busy.ensures c.in-Some.is in
    refused s (Write c.args.session c.args.number c.args.value.now) _
    (λ i. first_refusal ((is_active c.args.session fits (search rules)) i ∷ there i ∷ (is_short c.args.value.now (search rules)) i ∷ busy i ∷ []))

pub returns-in-Some-full-clause-refused : goal.returns-in-Some-full-clause-refused
returns-in-Some-full-clause-refused c s site fits =
    let there = has_record c.args.number fits (search rules) in
    let free = may_write_is (Some c.args.session) c.args.number fits c.write_busy.ensures c.in_default.is in
    full_refused (Write c.args.session c.args.number c.args.value.now) 2 fits c.find.ensures.table c.in-Some-full.ensures.full refl refl
    (λ i. first_refusal ((is_active c.args.session fits (search rules)) i ∷ there i ∷ (is_short c.args.value.now (search rules)) i ∷ free i ∷ []))

pub returns-clause-accepted : goal.returns-clause-accepted
returns-clause-accepted c s site fits =
    let there = has_record c.args.number fits (search rules) in
    let free = may_write_is (Some c.args.session) c.args.number fits c.write_busy.ensures c.in_default.is in
    tested_last s (Write c.args.session c.args.number c.args.value.now) refl
    (λ i. first_refusal ((is_active c.args.session fits (search rules)) i ∷ there i ∷ (is_short c.args.value.now (search rules)) i ∷ free i ∷ []))
    (has_room 2 fits c.find.ensures.table c.in_default-full.ensures.room)

pub returns-then-is_none-clause-refused : goal.returns-then-is_none-clause-refused
returns-then-is_none-clause-refused c s site fits =
    refused s (Write c.args.session c.args.number c.args.value.now) _ (λ i. first_refusal ((idle_session c.args.session fits (search rules)) i ∷ wants_record s c.args.number ∷ wants_short c.args.value.now ∷ may_write s (Some c.args.session) c.args.number ∷ []))
