use Rattle.std.proofs.Common.{◌++◌, List, append-nil, sym, ap, subst, ◌∙◌}
use Rattle.policy_sim.specs.declared.policy.Policy.TheVariants.{Fifo, Group, Chance}
use Rattle.policy_sim.specs.Machines.{IsAfter}
use Rattle.trace_report.specs.Traces.{Touch}
use Rattle.trace_report.proofs.machines.Machines.serve.Goals as goal

-- src/machines.rt:61:5
pub returns-clause-served : goal.returns-clause-served
returns-clause-served c groups pool touches heard =
    let all : List Touch = heard.served ++ c.args.self.now.waiting.items in
    record {
      served = all;
      all = heard.all ∙ sym (append-nil all) ∙ ap (λ l. all ++ l) (sym c.clear.ensures.items);
      fifo = subst (λ (l : List Touch). IsAfter Fifo groups pool (heard.served ++ l) c.serve_all.new.cache) c.deref.ensures.value
          (c.in_ok-serve_all.ensures.served Fifo groups pool heard.served heard.fifo);
      group = subst (λ (l : List Touch). IsAfter Group groups pool (heard.served ++ l) c.serve_all-2.new.cache) c.deref-2.ensures.value
          (c.in_ok-serve_all-2.ensures.served Group groups pool heard.served heard.group);
      chance = subst (λ (l : List Touch). IsAfter Chance groups pool (heard.served ++ l) c.serve_all-3.new.cache) c.deref-3.ensures.value
          (c.in_ok-serve_all-3.ensures.served Chance groups pool heard.served heard.chance);
    }
