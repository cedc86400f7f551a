use Rattle.face.proofs.Names.{sizes_of, reply_text, stays_honest}
use Rattle.face.proofs.CallCounts.{calls_told}
use Rattle.face.proofs.Carrying.{all_told, carries_err, hands_carried, hands_nothing, not_all_told, tells_all_of_it, tells_front, tells_nothing}
use Rattle.face.proofs.answer.answer.Goals as goal

pub returns-in-Err-clause-course : goal.returns-in-Err-clause-course
returns-in-Err-clause-course g c = carries_err c.in-Err.halt _ _ _ _ _ c.in-Err.ensures.course

pub returns-in-Err-clause-tells : goal.returns-in-Err-clause-tells
returns-in-Err-clause-tells g c s listing asked fits quiet = tells_nothing _ _ _ _ _ _ c.in-Err.ensures s listing fits quiet c.in-Err.halt

pub returns-in-Ok-tell_reply-clause-course : goal.returns-in-Ok-tell_reply-clause-course
returns-in-Ok-tell_reply-clause-course g c =
    let mid = g.S.Site.state c.carry_out.new.site in
    let new = g.S.Site.state c.tell_reply.new.site in
    let t = c.tell_reply.ensures in
    all_told c.in-Ok.reply _ _ _ _ mid new c.in-Ok.ensures.course {piece = reply_text c.in-Ok.reply} {told = c.tell_reply.result}
    (record { any_moment = t.any_moment; told = t.told; devices = t.same; cause = t.cause; reads = t.reads; preserves = t.preserves; faults = t.faults }) _
    (λ honest. calls_told (sizes_of c.args.engine.now.store) (reply_text c.in-Ok.reply) mid new (t.same honest).image (c.in-Ok-tell_reply.ensures.told honest) (t.any_moment honest).grown (c.in-Ok-tell_reply.ensures.tells_only honest)) c.in-Ok-tell_reply.ensures.faults

pub returns-in-Ok-tell_reply-clause-tells : goal.returns-in-Ok-tell_reply-clause-tells
returns-in-Ok-tell_reply-clause-tells g c s listing asked fits quiet =
    let mid = g.S.Site.state c.carry_out.new.site in
    let t = c.tell_reply.ensures in
    tells_all_of_it _ _ _ _ mid _ c.in-Ok.reply c.in-Ok.ensures {told = c.tell_reply.result}
    (record { any_moment = t.any_moment; told = t.told; devices = t.same; cause = t.cause; reads = t.reads; preserves = t.preserves; faults = t.faults }) s listing asked fits quiet _
    (c.in-Ok-tell_reply.ensures.told (stays_honest (g.S.Site.state c.args.site.now) mid c.in-Ok.ensures.preserves fits.honest))

pub returns-clause-course : goal.returns-clause-course
returns-clause-course g c =
    let t = c.tell_reply.ensures in
    not_all_told c.in-Ok.reply _ _ _ _ _ _ c.in-Ok.ensures.course {piece = reply_text c.in-Ok.reply} {told = c.tell_reply.result}
    (record { any_moment = t.any_moment; told = t.told; devices = t.same; cause = t.cause; reads = t.reads; preserves = t.preserves; faults = t.faults }) c.in-Err-tell_reply.ensures.faults c.in-Err-tell_reply.ensures.cause

pub returns-clause-tells : goal.returns-clause-tells
returns-clause-tells g c s listing asked fits quiet =
    let t = c.tell_reply.ensures in
    tells_front _ _ _ _ _ _ c.in-Ok.reply c.in-Ok.ensures {told = c.tell_reply.result}
    (record { any_moment = t.any_moment; told = t.told; devices = t.same; cause = t.cause; reads = t.reads; preserves = t.preserves; faults = t.faults }) s listing asked fits quiet

pub returns-in-Err-clause-hands : goal.returns-in-Err-clause-hands
returns-in-Err-clause-hands g c s listing asked fits quiet = hands_nothing _ _ _ _ _ _ c.in-Err.ensures s listing fits quiet

pub returns-in-Ok-tell_reply-clause-hands : goal.returns-in-Ok-tell_reply-clause-hands
returns-in-Ok-tell_reply-clause-hands g c s listing asked fits quiet =
    let t = c.tell_reply.ensures in
    hands_carried _ _ _ _ _ _ c.in-Ok.reply c.in-Ok.ensures {told = c.tell_reply.result}
    (record { any_moment = t.any_moment; told = t.told; devices = t.same; cause = t.cause; reads = t.reads; preserves = t.preserves; faults = t.faults }) s listing asked fits quiet t.lines

pub returns-clause-hands : goal.returns-clause-hands
returns-clause-hands g c s listing asked fits quiet =
    let t = c.tell_reply.ensures in
    hands_carried _ _ _ _ _ _ c.in-Ok.reply c.in-Ok.ensures {told = c.tell_reply.result}
    (record { any_moment = t.any_moment; told = t.told; devices = t.same; cause = t.cause; reads = t.reads; preserves = t.preserves; faults = t.faults }) s listing asked fits quiet t.lines
