use Rattle.std.proofs.Common.{ℕ, ◌/◌, List, ap, ◌∙◌}
use Rattle.record_model.specs.declared.names.Job.TheVariants.{Find}
use Rattle.record_model.specs.Probes.{begun}
use Rattle.named_keys.proofs.Calling.{served_line}
use Rattle.named_keys.proofs.keys.find.Goals as goal

pub returns : goal.returns
returns g c = record {
  serves = served_line c.args.session Find c.args.name.now c.carry_out.result c.args.db.now c.carry_out.new.db c.in_ok-buckets.field-0 c.in_ok-buckets.ensures.closed c.in_ok-buckets.ensures.records c.in_ok-buckets.ensures.limits.0
      c.find.result (c.find.ensures ∙ ap (λ (name : List ℕ). begun Find name (c.in_ok-buckets.field-0 / 2)) c.as_slice.ensures.octets) c.carry_out.ensures.line;
}
