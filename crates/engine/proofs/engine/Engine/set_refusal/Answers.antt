use Rattle.engine.proofs.Names.{[], ◌∷◌, None, rules, first_refusal, may_write, wants_short, Set}
use Rattle.engine.proofs.Replies.{refused, has_record, lacks_record, is_short, is_long, may_write_is}
use Rattle.engine.proofs.engine.Engine.set_refusal.Goals as goal

pub returns-then-lacks-clause-refused : goal.returns-then-lacks-clause-refused
returns-then-lacks-clause-refused c s site fits =
    let lacks = lacks_record c.args.number fits (search rules) in
    refused s (Set c.args.number c.args.value.now) _ (λ i. first_refusal (lacks i ∷ wants_short c.args.value.now ∷ may_write s None c.args.number ∷ []))

pub returns-then-is_long-clause-refused : goal.returns-then-is_long-clause-refused
returns-then-is_long-clause-refused c s site fits =
    let there = has_record c.args.number fits (search rules) in
    refused s (Set c.args.number c.args.value.now) _ (λ i. first_refusal
    (there i ∷ (is_long c.args.value.now (search rules)) i ∷ may_write s None c.args.number ∷ []))

pub returns-in-Some-clause-refused : goal.returns-in-Some-clause-refused
returns-in-Some-clause-refused c s site fits =
    let there = has_record c.args.number fits (search rules) in
    let busy = may_write_is None c.args.number fits c.write_busy.ensures c.in-Some.is in
    refused s (Set c.args.number c.args.value.now) _ (λ i. first_refusal (there i ∷ (is_short c.args.value.now (search rules)) i ∷ busy i ∷ []))

pub returns-clause-passes : goal.returns-clause-passes
returns-clause-passes c s site fits =
    let there = has_record c.args.number fits (search rules) in
    let free = may_write_is None c.args.number fits c.write_busy.ensures c.in_default.is in
    λ i. first_refusal (there i ∷ (is_short c.args.value.now (search rules)) i ∷ free i ∷ [])
