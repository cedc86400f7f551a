use Rattle.std.proofs.Common.{refl, ap, sym}
use Rattle.std.specs.Prelude.{Ok}
use Rattle.record_model.specs.declared.words.Reply.{Reply}
use Rattle.named_keys.specs.Lines.{refused_long}
use Rattle.named_keys.proofs.Calling.{long_refused, no_items}
use Rattle.named_keys.proofs.keys.refuse_long.Goals as goal

pub returns-in-Err : goal.returns-in-Err
returns-in-Err g c = record { refuses = long_refused c.in-Err.ensures.serves _ refl }

pub returns-in-Items : goal.returns-in-Items
returns-in-Items g c = record { refuses = long_refused c.in-Ok.ensures.serves _ (sym (ap (λ (told : Reply). refused_long (Ok told)) c.in-Items.is)) }

pub returns-in_default : goal.returns-in_default
returns-in_default g c = record { refuses = long_refused c.in-Ok.ensures.serves _ (sym (no_items c.in-Ok.reply c.in_default.not-Items)) }
