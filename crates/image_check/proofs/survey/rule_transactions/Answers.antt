use Rattle.image_check.proofs.Names.{rules, ◌+◌, ◌*◌, List, length, ◌<◌, ℕ, true≢false, Err, refl, sym, ◌∙◌, subst, arith, err_from_is_err_and, IfSome, seen, reading_of, logical_image_of, to_go, Entry, IsInOrder, LogRecord, looks_then, looks_failed}
use Rattle.std.proofs.Common.{Ok}
use Rattle.std.specs.Prelude.{Option}
use Rattle.image_check.proofs.Surveyed.{third_at, third_of, comes, one_more}
use Rattle.image_check.proofs.Walking.{in_order, walk_begins, walk_goes_on, judged_at, judged_end, reads_lacked, walk_few}
use Rattle.image_check.proofs.survey.rule_transactions.Goals as goal

pub loop-survey-init : goal.loop-survey-init
loop-survey-init g c =
    let inside = c.start-walk.ensures.walk.inside in
    let bounded = c.requires.read.going.usable.bounded in
    walk_begins c.requires c.start-walk.ensures.walk c.start-walk.ensures.first c.start-walk.ensures.stands _
    (λ blocks sees. record { are_open = c.in_ok-transactions.ensures.done; stand = tt; surveys = c.start-survey.ensures c.args.found.now.master.redo; few = omega (arith, inside, bounded) }) (search rules)

pub returns-then-not-admits : goal.returns-then-not-admits
returns-then-not-admits g c = judged_at c.loop-survey.invariant c.in_ok-lsn.field-0 c.next.new.self c.in_ok-lsn.ensures.next c.in-Some.lsn c.in-Some.rec c.in-Some.is (Err _) _ c.in_ok-lsn.ensures.reads c.in_ok-lsn.ensures.ends (λ blocks sees at. (
  (
    λ wrong. absurd (true≢false (sym wrong)),
    λ rule.
        let p = logical_image_of (reading_of c.args.found.now blocks) (g.S.Site.state c.args.site.now).image in
        absurd (true≢false (sym ((c.admits.ensures (seen c.args.found.now.master) at.front refl at.holds.are_open).1 (third_at p at.front _ at.back at.is rule)) ∙ c.if-not-admits.true)),
  ),
  tt,
))

pub loop-survey-preserved : goal.loop-survey-preserved
loop-survey-preserved g c = walk_goes_on c.loop-survey.invariant c.in_ok-lsn.field-0 c.next.new.self c.in_ok-lsn.ensures.next c.in-Some.lsn c.in-Some.rec c.in-Some.is c.in_ok-lsn.ensures.walk c.in_ok-lsn.ensures.reads c.in_ok-lsn.ensures.few c.in_ok-lsn.ensures.ends _ (λ blocks sees at.
    let log = c.args.found.now.log in
    let m = seen c.args.found.now.master in
    let first : ℕ = 512 * c.args.found.now.master.kept in
    let shorter : to_go log c.next.new.self < to_go log c.loop-survey.walk = subst (λ (o : Option (ℕ × LogRecord)). IfSome o (λ found. to_go log c.next.new.self < to_go log c.loop-survey.walk)) c.in-Some.is c.in_ok-lsn.ensures.shorter in
    let next = comes first at.front _ at.back _ at.holds (subst (λ (l : List Entry). IsInOrder first l (512 * (c.args.found.now.master.kept + length blocks))) at.is (in_order sees)) in
    one_more at.front _ at.holds shorter ((c.admits.ensures m at.front refl at.holds.are_open).0 c.if-not-admits.false)
    (c.in_default-hear.ensures.done m at.front refl at.holds.are_open next.fresh) (c.in_default-hear-2.ensures.done at.front next at.holds.surveys))

pub returns : goal.returns
returns g c = judged_end c.loop-survey.invariant c.in_ok-lsn.field-0 c.next.new.self c.in_ok-lsn.ensures.next (Ok c.loop-survey.survey) _ c.in_default.is c.in_ok-lsn.ensures.reads c.in_ok-lsn.ensures.ends (λ blocks sees so_far.
    let few = so_far.few in
    let p = logical_image_of (reading_of c.args.found.now blocks) (g.S.Site.state c.args.site.now).image in
    ((λ yes. third_of p so_far.stand, λ rule. refl), record { surveys = so_far.surveys; few = omega (arith, few) }))

pub returns-in-Err : goal.returns-in-Err
returns-in-Err g c =
    let now = g.S.Site.state c.loop-survey.site in
    record { says = tt; reads = reads_lacked c.in-Err.ensures.stops (looks_then tt _ _ now _ c.loop-survey.invariant.reads c.in_ok-lsn.ensures.reads); few = walk_few c.loop-survey.invariant c.in_ok-lsn.ensures.ends }

pub returns-in-Err-hear : goal.returns-in-Err-hear
returns-in-Err-hear g c =
    let now = g.S.Site.state c.loop-survey.site in
    record { says = tt; reads = reads_lacked c.in-Err-hear.ensures.stops (looks_then tt _ _ now _ c.loop-survey.invariant.reads c.in_ok-lsn.ensures.reads); few = walk_few c.loop-survey.invariant c.in_ok-lsn.ensures.ends }

pub returns-in_err-lsn : goal.returns-in_err-lsn
returns-in_err-lsn g c =
    let p = err_from_is_err_and c.from_residual-in_err-lsn.result c.from_residual-in_err-lsn.ensures.1 in
    let now = g.S.Site.state c.loop-survey.site in
    record { says = search rules; reads = rw (p.1, p.2) (looks_then tt _ _ now _ c.loop-survey.invariant.reads (looks_failed c.in_err-lsn.field-0.0 now _ c.in_err-lsn.ensures.reads)); few = walk_few c.loop-survey.invariant c.in_err-lsn.ensures.ends }
