use Rattle.image_check.proofs.Names.{rules, None, true≢false, refl, sym, ◌∙◌, subst, err_from_is_err_and, reading_of, records_of, logical_image_of, Pairwise, HoldsOff, looks_then, looks_failed}
use Rattle.image_check.proofs.HeldOnes.{held_none, listed, apart_none, none_apart, pairwise_push, pairwise_at}
use Rattle.image_check.proofs.Walking.{reads_lacked, walk_begins, walk_goes_on, judged_at, judged_end, walk_few}
use Rattle.image_check.proofs.holding.rule_apart.Goals as goal

pub loop-held-init : goal.loop-held-init
loop-held-init g c = walk_begins c.requires c.start-walk.ensures.walk c.start-walk.ensures.first c.start-walk.ensures.stands _
    (λ blocks sees fourth left. record { held = held_none (records_of c.args.found.now blocks) c.new.result c.new.ensures.empty; apart = tt }) (search rules)

pub returns-then-clashes : goal.returns-then-clashes
returns-then-clashes g c = judged_at c.loop-held.invariant c.in_ok-lsn.field-0 c.next.new.self c.in_ok-lsn.ensures.next c.in-Some.lsn c.in-Some.rec c.in-Some.is _ _ c.in_ok-lsn.ensures.reads c.in_ok-lsn.ensures.ends (λ blocks sees at fourth left. (
  λ wrong. absurd (true≢false (sym wrong)),
  λ rule.
      let records = records_of c.args.found.now blocks in
      let off = pairwise_at (HoldsOff records) at.front _ at.back (subst (Pairwise (HoldsOff records)) at.is rule) in
      absurd (true≢false (sym c.if-clashes.true ∙ c.clashes.ensures ∙ apart_none records at.front _ c.loop-held.held.held (at.holds fourth left).held off)),
))

pub loop-held-preserved : goal.loop-held-preserved
loop-held-preserved g c = walk_goes_on c.loop-held.invariant c.in_ok-lsn.field-0 c.next.new.self c.in_ok-lsn.ensures.next c.in-Some.lsn c.in-Some.rec c.in-Some.is c.in_ok-lsn.ensures.walk c.in_ok-lsn.ensures.reads c.in_ok-lsn.ensures.few c.in_ok-lsn.ensures.ends _ (λ blocks sees at fourth left.
    let records = records_of c.args.found.now blocks in
    let p = logical_image_of (reading_of c.args.found.now blocks) (g.S.Site.state c.args.site.now).image in
    let so_far = at.holds fourth left in
    record {
      held = c.in_default-hear.ensures.done records at.front left (listed p at.front _ at.back at.is fourth) so_far.held;
      apart = pairwise_push (HoldsOff records) at.front _ so_far.apart (none_apart records at.front _ c.loop-held.held.held so_far.held so_far.apart (sym c.clashes.ensures ∙ c.if-clashes.false));
    })

pub returns : goal.returns
returns g c = judged_end c.loop-held.invariant c.in_ok-lsn.field-0 c.next.new.self c.in_ok-lsn.ensures.next None _ c.in_default.is c.in_ok-lsn.ensures.reads c.in_ok-lsn.ensures.ends
    (λ blocks sees heard fourth left. (λ yes. (heard fourth left).apart, λ rule. refl))

pub returns-in-Err : goal.returns-in-Err
returns-in-Err g c =
    let now = g.S.Site.state c.loop-held.site in
    record { says = tt; reads = reads_lacked c.in-Err.ensures.stops (looks_then tt _ _ now _ c.loop-held.invariant.reads c.in_ok-lsn.ensures.reads); few = walk_few c.loop-held.invariant c.in_ok-lsn.ensures.ends }

pub returns-in_err-lsn : goal.returns-in_err-lsn
returns-in_err-lsn g c =
    let p = err_from_is_err_and c.from_residual.result c.from_residual.ensures.1 in
    let now = g.S.Site.state c.loop-held.site in
    record { says = search rules; reads = rw (p.1, p.2) (looks_then tt _ _ now _ c.loop-held.invariant.reads (looks_failed c.in_err-lsn.field-0.0 now _ c.in_err-lsn.ensures.reads)); few = walk_few c.loop-held.invariant c.in_err-lsn.ensures.ends }
