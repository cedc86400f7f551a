use Rattle.std.proofs.Common.{ℕ, ◌/◌, List, ap, rules, ◌∙◌}
use Rattle.record_model.specs.declared.names.Job.TheVariants.{Put}
use Rattle.record_model.specs.Probes.{begun}
use Rattle.named_keys.proofs.Calling.{served_line, short_put}
use Rattle.named_keys.proofs.keys.put.Goals as goal

pub returns : goal.returns
returns g c = record {
  serves = short_put c.args.session c.args.name.now c.args.value.now c.carry_out.result c.args.db.now c.carry_out.new.db (search rules)
      (served_line c.args.session (Put c.args.value.now) c.args.name.now c.carry_out.result c.args.db.now c.carry_out.new.db c.in_ok-buckets.field-0 c.in_ok-buckets.ensures.closed c.in_ok-buckets.ensures.records c.in_ok-buckets.ensures.limits.0
      c.put.result (c.put.ensures ∙ ap (λ (value : List ℕ). begun (Put value) c.as_slice-2.result.now (c.in_ok-buckets.field-0 / 2)) c.as_slice-3.ensures.value
      ∙ ap (λ (name : List ℕ). begun (Put c.args.value.now) name (c.in_ok-buckets.field-0 / 2)) c.as_slice-2.ensures.octets) c.carry_out.ensures.line);
}
