use Rattle.std.proofs.Common.{false, ap, ◌∙◌}
use Rattle.std.specs.Prelude.{slice_index_or}
use Rattle.lsn_set.proofs.Rows.{one_set}
use Rattle.lsn_set.proofs.row.Row.of.Goals as goal

pub returns : goal.returns
returns c n = ap (λ r. slice_index_or r n false) (ap (λ row. row.held) c.with.ensures) ∙ one_set c.args.place n c.requires
