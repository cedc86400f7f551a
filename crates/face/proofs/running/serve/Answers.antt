use Rattle.face.proofs.Names.{ap, refl, sym, ◌∙◌, refuses_devices, first_halted, first_none, stays_honest, Input}
use Rattle.face.proofs.CauseLaws.{cause_then, status_causes, no_causes}
use Rattle.face.proofs.ToldFaults.{tells_fault, tells_none}
use Rattle.face.proofs.Faults.{begins, halted, finished, run_contract}
use Rattle.face.proofs.Hearings.{heard_done, heard_halted}
use Rattle.face.proofs.Statuses.{not_zero}
use Rattle.face.proofs.running.serve.Goals as goal

pub returns-in-Ok-clause-run : goal.returns-in-Ok-clause-run
returns-in-Ok-clause-run g c =
    let old = g.S.Site.state c.args.site.now in
    let new = g.S.Site.state c.run_lines.new.site in
    let works = c.in-Ok.ensures.works in
    run_contract c.args.pool old new 0
    (λ geometry opening good. finished c.args.pool geometry opening works.0 old c.serial_order.ensures new _ good (works.1 _ (begins geometry opening works.0 old good) refl))
    (no_causes old new) (λ honest. tells_none old new)

pub returns-in-Err-clause-run : goal.returns-in-Err-clause-run
returns-in-Err-clause-run g c =
    let old = g.S.Site.state c.args.site.now in
    let mid = g.S.Site.state c.run_lines.new.site in
    let new = g.S.Site.state c.tell_halt.new.site in
    let works = c.in-Err.ensures.works in
    let cause = cause_then c.in-Err.halt old mid new c.in-Err.ensures.ends.cause c.tell_halt.ensures.preserves (λ h. c.tell_halt.ensures.devices (stays_honest old mid c.run_lines.ensures.ends.preserves h)) in
    run_contract c.args.pool old new c.status.result
    (λ geometry opening good. halted c.args.pool geometry opening works.0 old c.serial_order.ensures mid new c.in-Err.halt good (works.1 _ (begins geometry opening works.0 old good) refl)
    c.run_lines.ensures.ends.preserves c.tell_halt.result c.tell_halt.ensures cause c.status.result c.status.ensures)
    (status_causes c.in-Err.halt c.status.result old new c.status.ensures cause)
    (λ honest. tells_fault c.in-Err.halt c.status.result old mid new c.tell_halt.result c.status.ensures cause c.run_lines.ensures.ends.preserves (stays_honest old mid c.run_lines.ensures.ends.preserves honest) c.tell_halt.ensures)

pub returns-in-Err-clause-sizes : goal.returns-in-Err-clause-sizes
returns-in-Err-clause-sizes g c none =
    refuses_devices c.in-Err.halt c.status.result (g.S.Site.state c.args.site.now) (g.S.Site.state c.run_lines.new.site) (g.S.Site.state c.tell_halt.new.site) c.tell_halt.result c.status.ensures (c.in-Err.ensures.ends.refuses none) c.tell_halt.ensures

pub returns-in-Ok-clause-first : goal.returns-in-Ok-clause-first
returns-in-Ok-clause-first g c = first_none _ _ c.in-Ok.ensures.ends.faults

pub returns-in-Err-clause-first : goal.returns-in-Err-clause-first
returns-in-Err-clause-first g c =
    first_halted c.in-Err.halt c.status.result (g.S.Site.state c.args.site.now) (g.S.Site.state c.run_lines.new.site) (g.S.Site.state c.tell_halt.new.site) c.tell_halt.result c.status.ensures c.in-Err.ensures.ends.faults c.tell_halt.ensures.faults

pub returns-in-Ok-clause-hears : goal.returns-in-Ok-clause-hears
returns-in-Ok-clause-hears g c honest = heard_done _ (g.S.Site.state c.args.site.now) (g.S.Site.state c.run_lines.new.site) (c.in-Ok.ensures.hears honest)

pub returns-in-Err-clause-hears : goal.returns-in-Err-clause-hears
returns-in-Err-clause-hears g c honest =
    let old = g.S.Site.state c.args.site.now in
    let mid = g.S.Site.state c.run_lines.new.site in
    heard_halted c.in-Err.halt c.status.result old mid (g.S.Site.state c.tell_halt.new.site) c.status.ensures (c.tell_halt.ensures.devices (stays_honest old mid c.run_lines.ensures.ends.preserves honest)).left (c.in-Err.ensures.hears honest)

pub returns-in-Ok-clause-judged : goal.returns-in-Ok-clause-judged
returns-in-Ok-clause-judged g c honest =
    let judged = c.in-Ok.ensures.judged honest in
    record { done = λ zero. judged.done; taken = judged.taken }

pub returns-in-Err-clause-judged : goal.returns-in-Err-clause-judged
returns-in-Err-clause-judged g c honest =
    let left = (c.tell_halt.ensures.devices (stays_honest (g.S.Site.state c.args.site.now) (g.S.Site.state c.run_lines.new.site) c.run_lines.ensures.ends.preserves honest)).left in
    record {
      done = λ zero. absurd (not_zero c.in-Err.halt (sym c.status.ensures ∙ zero));
      taken = λ ne. (c.in-Err.ensures.judged honest).taken (λ e. ne (ap (λ (i : Input). i.left) left ∙ e));
    }
