use Rattle.std.proofs.Common.{ap, ◌∙◌}
use Rattle.mem_site.specs.History.{ranges_of}
use Rattle.mem_site.proofs.Past.{ranges_of-push}
use Rattle.mem_site.proofs.area.note_span.Goals as goal

pub returns-clause-ok : goal.returns-clause-ok
returns-clause-ok c = ap ranges_of c.in_ok-push.ensures.items ∙ ranges_of-push c.args.loose.now.items (record { at = c.args.at; len = c.args.len })
