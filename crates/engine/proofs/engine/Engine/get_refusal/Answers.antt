use Rattle.engine.proofs.Names.{[], ◌∷◌, None, refl, rules, first_refusal, may_read, Get}
use Rattle.engine.proofs.Replies.{refused, carried_out, has_record, lacks_record, may_read_is}
use Rattle.engine.proofs.engine.Engine.get_refusal.Goals as goal

pub returns-then-lacks-clause-refused : goal.returns-then-lacks-clause-refused
returns-then-lacks-clause-refused c s site fits =
    refused s (Get c.args.number) _ (λ i. first_refusal ((lacks_record c.args.number fits (search rules)) i ∷ may_read s None c.args.number ∷ []))

pub returns-in-Some-clause-refused : goal.returns-in-Some-clause-refused
returns-in-Some-clause-refused c s site fits =
    let busy = may_read_is None c.args.number fits c.read_busy.ensures c.in-Some.is in
    refused s (Get c.args.number) _ (λ i. first_refusal ((has_record c.args.number fits (search rules)) i ∷ busy i ∷ []))

pub returns-clause-accepted : goal.returns-clause-accepted
returns-clause-accepted c s site fits =
    let free = may_read_is None c.args.number fits c.read_busy.ensures c.in_default.is in
    carried_out s (Get c.args.number) refl (λ i. first_refusal ((has_record c.args.number fits (search rules)) i ∷ free i ∷ [])) refl refl
