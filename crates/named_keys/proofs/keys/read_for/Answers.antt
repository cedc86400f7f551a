use Rattle.std.proofs.Common.{Some, None, refl, sym, ap, ◌∙◌}
use Rattle.named_keys.specs.Lines.{command_for, content_in}
use Rattle.named_keys.proofs.Calling.{no_content, refused, tells, told_read, unanswered}
use Rattle.named_keys.proofs.keys.read_for.Goals as goal

pub returns-in-Err : goal.returns-in-Err
returns-in-Err g c = record { step = unanswered c.in-Err.ensures.serves c.args.session c.args.probe.now (ap (command_for c.args.session) c.requires.asks) c.in-Err.why refl }

pub returns-in-Value : goal.returns-in-Value
returns-in-Value g c = record {
  step = tells c.in-Ok.ensures.serves c.args.session c.args.probe.now (ap (command_for c.args.session) c.requires.asks) c.in-Ok.reply c.told.new.self refl
      (told_read c.args.probe.now c.args.number c.in-Ok.reply (Some (Some c.in-Value.value)) c.requires.asks (ap content_in c.in-Value.is) ∙ ap Some (sym c.told.ensures));
}

pub returns-in-Nothing : goal.returns-in-Nothing
returns-in-Nothing g c = record {
  step = tells c.in-Ok.ensures.serves c.args.session c.args.probe.now (ap (command_for c.args.session) c.requires.asks) c.in-Ok.reply c.told-in-Nothing.new.self refl
      (told_read c.args.probe.now c.args.number c.in-Ok.reply (Some None) c.requires.asks (ap content_in c.in-Nothing.is) ∙ ap Some (sym c.told-in-Nothing.ensures));
}

pub returns-in_default : goal.returns-in_default
returns-in_default g c = record {
  step = refused c.in-Ok.ensures.serves c.args.session c.args.probe.now (ap (command_for c.args.session) c.requires.asks) c.in-Ok.reply refl
      (told_read c.args.probe.now c.args.number c.in-Ok.reply None c.requires.asks (no_content c.in-Ok.reply c.in_default.not-Value c.in_default.not-Nothing));
}
