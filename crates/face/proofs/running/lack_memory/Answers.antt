use Rattle.face.proofs.Names.{arith, refl, ℕ, only_tells, first_line, LacksMemory, Memory}
use Rattle.std.proofs.Common.{rules}
use Rattle.face.proofs.Hearings.{heard_halted, hears_nothing}
use Rattle.trace_report.proofs.Lacking.{lacked}
use Rattle.front_end.proofs.CheckLaws.{lacked_check}
use Rattle.face.proofs.MemoryLaws.{lacked_contract, lacked_load_run, lacked_run}
use Rattle.face.proofs.Trials.{lacked_trial}
use Rattle.front_end.specs.declared.halt.Halt.TheVariants as halt
use Rattle.face.proofs.running.lack_memory.Goals as goal

pub returns : goal.returns
returns g c =
    let old = g.S.Site.state c.args.site.now in
    let new = g.S.Site.state c.tell_memory.new.site in
    let lacks : LacksMemory 4 old new = (refl, only_tells _ old new c.tell_memory.result c.tell_memory.ensures) in
    record {
      run = λ pool. lacked_run c.serial_order.ensures pool old new c.tell_memory.result c.tell_memory.ensures;
      load = λ load. lacked_load_run load old new c.tell_memory.result c.tell_memory.ensures;
      new = λ geometry. lacked_contract 4 old new lacks geometry;
      simulate = λ s. lacked s.groups s.pool old new c.tell_memory.result (record {
        any_moment = c.tell_memory.ensures.any_moment;
        told = c.tell_memory.ensures.told;
        reads = c.tell_memory.ensures.reads;
        preserves = c.tell_memory.ensures.preserves;
        cause = c.tell_memory.ensures.cause;
      });
      trial = λ geometry pool. lacked_trial geometry pool old new c.tell_memory.result c.tell_memory.ensures;
      check = lacked_check 4 old new lacks;
      lacks = lacks;
      hears = λ honest. heard_halted {T = ℕ} (halt.Stop Memory) 4 old old new refl (c.tell_memory.ensures.devices honest).left (hears_nothing {T = ℕ} (halt.Stop Memory) old old (λ e. cc) refl);
      first = first_line 4 old new c.tell_memory.result (λ e. omega (arith, e), λ e. omega (arith, e), λ e. omega (arith, e)) c.tell_memory.ensures.faults;
      preserves = search rules;
    }
