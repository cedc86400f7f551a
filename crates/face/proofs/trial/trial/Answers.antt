use Rattle.face.proofs.Names.{◌∙◌, ap, inl, inr, subst, ⊎_elim, Ends, IsHaltOfTrial, numbers_of, first_halted, first_none, RunFaults, fault_line, Halt, stays_honest}
use Rattle.std.specs.Prelude.{Err, IfErr, Result}
use Rattle.face.proofs.Trials.{caused_by, keeps_then, keeps_told, numbers_unbegun, told_and_fault}
use Rattle.face.proofs.trial.trial.Goals as goal

pub returns-in-Err-clause-trial : goal.returns-in-Err-clause-trial
returns-in-Err-clause-trial g c geometry is_new =
    let old = g.S.Site.state c.args.site.now in
    let mid = g.S.Site.state c.run_script-lived.new.site in
    let new = g.S.Site.state c.tell_halt.new.site in
    let work = c.run_script-lived.ensures in
    let kept = keeps_then old mid new work.keeps (keeps_told (fault_line c.in-Err.halt) mid new c.tell_halt.ensures.any_moment c.tell_halt.ensures.reads c.tell_halt.ensures.preserves) in
    let numbers = numbers_of c.run_script-lived.result.1 in
    record {
      lives = λ honest.
          told_and_fault {T = Unit {0}} geometry c.args.pool old.input.left old mid new numbers c.status.result c.tell_halt.result work.keeps.preserves (stays_honest old mid work.keeps.preserves honest) c.in-Err.halt c.status.ensures
          (subst (λ (r : Result (Unit {0}) Halt). Ends geometry c.args.pool old.input.left r old mid numbers) c.in-Err.is (work.lives geometry is_new honest))
          (λ which. ap numbers_of (work.unbegun (⊎_elim (λ e. inl (c.in-Err.is ∙ ap Err e)) (λ e. inr (c.in-Err.is ∙ ap Err e)) which)) ∙ numbers_unbegun geometry c.args.inner is_new)
          c.tell_halt.ensures;
      causes = caused_by c.in-Err.halt c.status.result old mid new c.status.ensures (record {
        is = subst (λ (r : Result (Unit {0}) Halt). IfErr r IsHaltOfTrial) c.in-Err.is work.halts;
        input = λ e. work.input (c.in-Err.is ∙ ap Err e);
        output = λ e. (work.output (c.in-Err.is ∙ ap Err e)).0;
        few = λ e. (work.output (c.in-Err.is ∙ ap Err e)).1;
        limit = λ e honest. work.limit honest (c.in-Err.is ∙ ap Err e);
      }) c.tell_halt.ensures.preserves (λ honest. (c.tell_halt.ensures.devices (stays_honest old mid work.keeps.preserves honest)).left);
      devices = kept.devices;
      reads = kept.reads;
    }

pub returns-in-Ok-clause-first : goal.returns-in-Ok-clause-first
returns-in-Ok-clause-first g c = first_none _ _ (subst (λ (r : Result (Unit {0}) Halt). RunFaults r (g.S.Site.state c.args.site.now) (g.S.Site.state c.run_script-lived.new.site)) c.in-Ok.is c.run_script-lived.ensures.faults)

pub returns-in-Err-clause-first : goal.returns-in-Err-clause-first
returns-in-Err-clause-first g c =
    first_halted c.in-Err.halt c.status.result (g.S.Site.state c.args.site.now) (g.S.Site.state c.run_script-lived.new.site) (g.S.Site.state c.tell_halt.new.site) c.tell_halt.result c.status.ensures
    (subst (λ (r : Result (Unit {0}) Halt). RunFaults r (g.S.Site.state c.args.site.now) (g.S.Site.state c.run_script-lived.new.site)) c.in-Err.is c.run_script-lived.ensures.faults) c.tell_halt.ensures.faults
