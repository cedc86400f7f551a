use Rattle.image_check.proofs.Names.{rules, err_from_is_err_and, records_of, looks_then, looks_failed}
use Rattle.image_check.proofs.Walking.{in_order, walk_begins, walk_goes_on, judged_end, reads_lacked, walk_few}
use Rattle.image_check.proofs.undoable.Undoing.of_log.Goals as goal

pub loop-undoing-init : goal.loop-undoing-init
loop-undoing-init g c = walk_begins c.requires c.start-walk.ensures.walk c.start-walk.ensures.first c.start-walk.ensures.stands _ (λ blocks sees begun left. c.none-undoing.ensures (records_of c.args.found.now blocks)) (search rules)

pub loop-undoing-preserved : goal.loop-undoing-preserved
loop-undoing-preserved g c = walk_goes_on c.loop-undoing.invariant c.in_ok-lsn.field-0 c.next.new.self c.in_ok-lsn.ensures.next c.in-Some.lsn c.in-Some.rec c.in-Some.is c.in_ok-lsn.ensures.walk c.in_ok-lsn.ensures.reads c.in_ok-lsn.ensures.few c.in_ok-lsn.ensures.ends _ (λ blocks sees at begun left.
    c.in_default-hear.ensures.done (records_of c.args.found.now blocks) at.front (record { back = at.back; is = at.is; from = _; to = _; in_order = in_order sees; begun = begun }) left (at.holds begun left))

pub returns : goal.returns
returns g c = judged_end c.loop-undoing.invariant c.in_ok-lsn.field-0 c.next.new.self c.in_ok-lsn.ensures.next c.loop-undoing.undoing _ c.in_default.is c.in_ok-lsn.ensures.reads c.in_ok-lsn.ensures.ends (λ blocks sees undoing begun left. undoing begun left)

pub returns-in-Err : goal.returns-in-Err
returns-in-Err g c =
    let now = g.S.Site.state c.loop-undoing.site in
    record { says = tt; reads = reads_lacked c.in-Err.ensures.stops (looks_then tt _ _ now _ c.loop-undoing.invariant.reads c.in_ok-lsn.ensures.reads); few = walk_few c.loop-undoing.invariant c.in_ok-lsn.ensures.ends }

pub returns-in_err-lsn : goal.returns-in_err-lsn
returns-in_err-lsn g c =
    let p = err_from_is_err_and c.from_residual.result c.from_residual.ensures.1 in
    let now = g.S.Site.state c.loop-undoing.site in
    record { says = search rules; reads = rw (p.1, p.2) (looks_then tt _ _ now _ c.loop-undoing.invariant.reads (looks_failed c.in_err-lsn.field-0.0 now _ c.in_err-lsn.ensures.reads)); few = walk_few c.loop-undoing.invariant c.in_err-lsn.ensures.ends }
