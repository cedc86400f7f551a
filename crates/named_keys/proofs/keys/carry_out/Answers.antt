use Rattle.std.proofs.Common.{Option, subst}
use Rattle.std.specs.Prelude.{Ok}
use Rattle.named_keys.specs.declared.reply.NameReply.{NameReply}
use Rattle.named_keys.specs.Going.{Step}
use Rattle.named_keys.proofs.Calling.{one_more, whole_line}
use Rattle.named_keys.proofs.Going.{next_is}
use Rattle.named_keys.proofs.keys.carry_out.Goals as goal

pub loop-reply-preserved : goal.loop-reply-preserved
loop-reply-preserved g c =
    let told = subst (λ (o : Option NameReply). Step c.args.session c.loop-reply.probe c.make_call.new.probe (Ok o) c.loop-reply.db c.make_call.new.db) c.in-Ok-None.field-0-is c.in-Ok-None.ensures.step in
    one_more c.args.session c.args.probe c.loop-reply.probe c.make_call.new.probe c.args.db.now c.loop-reply.db c.make_call.new.db c.loop-reply.invariant told
    (next_is c.loop-reply.probe c.make_call.new.probe told.reply c.loop-reply.invariant.going told.told).going

pub loop-reply-smaller : goal.loop-reply-smaller
loop-reply-smaller g c =
    let told = subst (λ (o : Option NameReply). Step c.args.session c.loop-reply.probe c.make_call.new.probe (Ok o) c.loop-reply.db c.make_call.new.db) c.in-Ok-None.field-0-is c.in-Ok-None.ensures.step in
    (next_is c.loop-reply.probe c.make_call.new.probe told.reply c.loop-reply.invariant.going told.told).less

pub returns-in-Ok-Some : goal.returns-in-Ok-Some
returns-in-Ok-Some g c = record {
  line = whole_line c.args.session c.args.probe c.loop-reply.probe _ c.args.db.now c.loop-reply.db c.make_call.new.db c.loop-reply.invariant
      (subst (λ (o : Option NameReply). Step c.args.session c.loop-reply.probe c.make_call.new.probe (Ok o) c.loop-reply.db c.make_call.new.db) c.in-Ok-Some.field-0-is c.in-Ok-Some.ensures.step);
}

pub returns-in-Err : goal.returns-in-Err
returns-in-Err g c = record { line = whole_line c.args.session c.args.probe c.loop-reply.probe _ c.args.db.now c.loop-reply.db c.make_call.new.db c.loop-reply.invariant c.in-Err.ensures.step }
