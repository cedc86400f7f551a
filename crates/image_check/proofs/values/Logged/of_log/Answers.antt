use Rattle.image_check.proofs.Names.{rules, true≢false, Err, refl, sym, ◌∙◌, subst, err_from_is_err_and, AllByRecursion, records_of, IsKnownEarly, Pairwise, HoldsOff, looks_then, looks_failed, all_push, all_right}
use Rattle.std.proofs.Common.{Ok}
use Rattle.image_check.proofs.ValuesCounted.{pairs_front}
use Rattle.image_check.proofs.Walking.{reads_lacked, walk_begins, walk_goes_on, judged_at, judged_end, walk_few}
use Rattle.image_check.proofs.values.Logged.of_log.Goals as goal

pub loop-logged-init : goal.loop-logged-init
loop-logged-init g c = walk_begins c.requires c.start-walk.ensures.walk c.start-walk.ensures.first c.start-walk.ensures.stands _
    (λ blocks sees. record { early = tt; expected = c.new-logged.ensures.expected c.args.lsns.now; written = λ apart. c.new-logged.ensures.written (records_of c.args.found.now blocks) }) (search rules)

pub returns-then-not-is_known_early : goal.returns-then-not-is_known_early
returns-then-not-is_known_early g c = judged_at c.loop-logged.invariant c.in_ok-lsn.field-0 c.next.new.self c.in_ok-lsn.ensures.next c.in-Some.lsn c.in-Some.rec c.in-Some.is (Err _) _ c.in_ok-lsn.ensures.reads c.in_ok-lsn.ensures.ends (λ blocks sees at. (
  (
    λ wrong. absurd (true≢false (sym wrong)),
    λ early.
        let known = IsKnownEarly c.args.found.now.master.redo c.args.lsns.now in
        absurd (true≢false (sym (c.is_known_early.ensures.1 (all_right known at.front _ (subst (AllByRecursion known) at.is early)).0) ∙ c.if-not-is_known_early.true)),
  ),
  tt,
))

pub loop-logged-preserved : goal.loop-logged-preserved
loop-logged-preserved g c = walk_goes_on c.loop-logged.invariant c.in_ok-lsn.field-0 c.next.new.self c.in_ok-lsn.ensures.next c.in-Some.lsn c.in-Some.rec c.in-Some.is c.in_ok-lsn.ensures.walk c.in_ok-lsn.ensures.reads c.in_ok-lsn.ensures.few c.in_ok-lsn.ensures.ends _ (λ blocks sees at.
    let all = records_of c.args.found.now blocks in
    record {
      early = all_push (IsKnownEarly c.args.found.now.master.redo c.args.lsns.now) at.front _ at.holds.early (c.is_known_early.ensures.0 c.if-not-is_known_early.false);
      expected = c.in_default-hear.ensures.done.0 at.front at.holds.expected;
      written = λ apart. c.in_default-hear.ensures.done.1 all at.front (pairs_front (HoldsOff all) at.front _ (subst (Pairwise (HoldsOff all)) at.is apart)) (at.holds.written apart);
    })

pub returns : goal.returns
returns g c = judged_end c.loop-logged.invariant c.in_ok-lsn.field-0 c.next.new.self c.in_ok-lsn.ensures.next (Ok c.loop-logged.logged) _ c.in_default.is c.in_ok-lsn.ensures.reads c.in_ok-lsn.ensures.ends
    (λ blocks sees heard. ((λ yes. heard.early, λ early. refl), heard))

pub returns-in-Err : goal.returns-in-Err
returns-in-Err g c =
    let now = g.S.Site.state c.loop-logged.site in
    record { says = tt; reads = reads_lacked c.in-Err.ensures.stops (looks_then tt _ _ now _ c.loop-logged.invariant.reads c.in_ok-lsn.ensures.reads); few = walk_few c.loop-logged.invariant c.in_ok-lsn.ensures.ends }

pub returns-in_err-lsn : goal.returns-in_err-lsn
returns-in_err-lsn g c =
    let p = err_from_is_err_and c.from_residual.result c.from_residual.ensures.1 in
    let now = g.S.Site.state c.loop-logged.site in
    record { says = search rules; reads = rw (p.1, p.2) (looks_then tt _ _ now _ c.loop-logged.invariant.reads (looks_failed c.in_err-lsn.field-0.0 now _ c.in_err-lsn.ensures.reads)); few = walk_few c.loop-logged.invariant c.in_err-lsn.ensures.ends }
