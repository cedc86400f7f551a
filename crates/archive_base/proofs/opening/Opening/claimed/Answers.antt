use Rattle.std.proofs.Common.{sym, subst, ◌∙◌}
use Rattle.std.specs.Prelude.{None}
use Rattle.archive_base.proofs.Hearing.{Named, named}
use Rattle.archive_base.proofs.opening.Opening.claimed.Goals as goal

pub returns : goal.returns
returns c = λ log has. (has, c.in_ok-writers.ensures (λ t u is. subst (Named t) (sym (has t) ∙ is) (named t None log tt)))
