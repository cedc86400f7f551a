use Rattle.std.proofs.Common.{Some, true, false, refl, sym, ap, ◌∙◌}
use Rattle.named_keys.specs.Lines.{command_for, is_done}
use Rattle.named_keys.proofs.Calling.{not_done, refused, tells, told_write, unanswered}
use Rattle.named_keys.proofs.keys.write_for.Goals as goal

pub returns-in-Err : goal.returns-in-Err
returns-in-Err g c = record { step = unanswered c.in-Err.ensures.serves c.args.session c.args.probe.now (ap (command_for c.args.session) c.requires.asks) c.in-Err.why refl }

pub returns-in-Done : goal.returns-in-Done
returns-in-Done g c = record {
  step = tells c.in-Ok.ensures.serves c.args.session c.args.probe.now (ap (command_for c.args.session) c.requires.asks) c.in-Ok.reply c.written.new.self refl
      (told_write c.args.probe.now c.args.number c.args.value.now c.in-Ok.reply true c.requires.asks (ap is_done c.in-Done.is) ∙ ap Some (sym c.written.ensures));
}

pub returns-in_default : goal.returns-in_default
returns-in_default g c = record {
  step = refused c.in-Ok.ensures.serves c.args.session c.args.probe.now (ap (command_for c.args.session) c.requires.asks) c.in-Ok.reply refl
      (told_write c.args.probe.now c.args.number c.args.value.now c.in-Ok.reply false c.requires.asks (not_done c.in-Ok.reply c.in_default.not-Done));
}
