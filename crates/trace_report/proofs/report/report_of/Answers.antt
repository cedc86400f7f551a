use Rattle.std.proofs.Common.{◌≡◌, ◌++◌, append-nil, refl, sym, ap, ◌∙◌}
use Rattle.policy_sim.specs.declared.policy.Policy.TheVariants.{Fifo, Group, Chance}
use Rattle.trace_report.proofs.report.report_of.Goals as goal

pub returns-clause-report : goal.returns-clause-report
returns-clause-report c groups pool touches heard =
    let after = c.in_ok-serve.ensures.served groups pool touches heard in
    let all : after.served ≡ touches = sym (after.all ∙ ap (λ l. after.served ++ l) c.in_ok-serve.ensures.none ∙ append-nil _) in
    rw (
      c.push_counts-3.ensures.text,
      c.push_counts-2.ensures.text,
      c.push_counts.ensures.text,
      c.new-line.ensures,
      c.counts.ensures.counts_are_the_machines Fifo groups pool after.served after.fifo,
      c.counts-2.ensures.counts_are_the_machines Group groups pool after.served after.group,
      c.counts-3.ensures.counts_are_the_machines Chance groups pool after.served after.chance,
      all,
    ) refl
