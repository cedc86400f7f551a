use Rattle.face.proofs.Names.{arith, sym, ◌∙◌, refuses_devices, first_halted, first_none, stays_honest}
use Rattle.face.proofs.CauseLaws.{cause_then, no_causes, status_causes}
use Rattle.face.proofs.ToldFaults.{tells_fault, tells_none}
use Rattle.face.proofs.LoadFaults.{load_contract, load_done, load_halted, not_taken}
use Rattle.face.proofs.Statuses.{not_zero}
use Rattle.face.proofs.load.serve_load.Goals as goal

pub returns-in-Ok-clause-load : goal.returns-in-Ok-clause-load
returns-in-Ok-clause-load g c =
    let old = g.S.Site.state c.args.site.now in
    let new = g.S.Site.state c.load_and_tell.new.site in
    load_contract c.args.load.now old new 0
    (λ geometry opening good. load_done c.args.load.now geometry opening old good new _ (c.in-Ok.ensures.works geometry opening good) (c.load_and_tell.ensures.tells geometry opening good))
    (no_causes old new) (λ e. omega (arith, e), λ e. omega (arith, e)) (λ honest. tells_none old new)

pub returns-in-Err-clause-load : goal.returns-in-Err-clause-load
returns-in-Err-clause-load g c =
    let old = g.S.Site.state c.args.site.now in
    let mid = g.S.Site.state c.load_and_tell.new.site in
    let new = g.S.Site.state c.tell_halt.new.site in
    let goes = c.load_and_tell.ensures.ends.preserves in
    let cause = cause_then c.in-Err.halt old mid new c.in-Err.ensures.ends.cause c.tell_halt.ensures.preserves (λ h. c.tell_halt.ensures.devices (stays_honest old mid goes h)) in
    load_contract c.args.load.now old new c.status.result
    (λ geometry opening good. load_halted c.args.load.now geometry opening old good mid new c.in-Err.halt (c.in-Err.ensures.works geometry opening good) (c.load_and_tell.ensures.tells geometry opening good) goes c.tell_halt.result c.tell_halt.ensures cause c.status.result c.status.ensures)
    (status_causes c.in-Err.halt c.status.result old new c.status.ensures cause)
    (not_taken c.in-Err.halt c.status.result c.status.ensures c.in-Err.ensures.halts)
    (λ honest. tells_fault c.in-Err.halt c.status.result old mid new c.tell_halt.result c.status.ensures cause goes (stays_honest old mid goes honest) c.tell_halt.ensures)

pub returns-in-Err-clause-sizes : goal.returns-in-Err-clause-sizes
returns-in-Err-clause-sizes g c none =
    refuses_devices c.in-Err.halt c.status.result (g.S.Site.state c.args.site.now) (g.S.Site.state c.load_and_tell.new.site) (g.S.Site.state c.tell_halt.new.site) c.tell_halt.result c.status.ensures (c.in-Err.ensures.ends.refuses none) c.tell_halt.ensures

pub returns-in-Ok-clause-first : goal.returns-in-Ok-clause-first
returns-in-Ok-clause-first g c = first_none _ _ c.in-Ok.ensures.ends.faults

pub returns-in-Err-clause-first : goal.returns-in-Err-clause-first
returns-in-Err-clause-first g c =
    first_halted c.in-Err.halt c.status.result (g.S.Site.state c.args.site.now) (g.S.Site.state c.load_and_tell.new.site) (g.S.Site.state c.tell_halt.new.site) c.tell_halt.result c.status.ensures c.in-Err.ensures.ends.faults c.tell_halt.ensures.faults

pub returns-in-Ok-clause-judged : goal.returns-in-Ok-clause-judged
returns-in-Ok-clause-judged g c honest zero = c.in-Ok.ensures.judged honest

pub returns-in-Err-clause-judged : goal.returns-in-Err-clause-judged
returns-in-Err-clause-judged g c honest zero = absurd (not_zero c.in-Err.halt (sym c.status.ensures ∙ zero))
