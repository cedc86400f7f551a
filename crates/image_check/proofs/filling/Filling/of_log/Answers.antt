use Rattle.image_check.proofs.Names.{arith, rules, ◌≡◌, ◌+◌, ◌≤◌, ◌++◌, ◌∷◌, [], Err, true≢false, refl, sym, ◌∙◌, subst, err_from_is_err_and, FitsAt, HearsLog, filled, reading_of, records_of, without, few_more, few_then, AreVersions, logical_image_of, unread, versions_on, Entry, number_of, looks_then, looks_answered, looks_failed, State, Image, OnlyReads}
use Rattle.std.proofs.Common.{Ok}
use Rattle.std.specs.Prelude.{◌↔◌, IsTrue}
use Rattle.image_check.proofs.Looks.{without_most}
use Rattle.image_check.proofs.FilledOnes.{below_it, first_room, fits_there, rooms_more, rule_redone}
use Rattle.image_check.proofs.ShownOnes.{versions_later}
use Rattle.image_check.proofs.Walking.{in_order, may_later, walk_begins_with, walk_goes_with, walk_few, gives_few, judged_at, judged_end}
use Rattle.image_check.proofs.filling.Filling.of_log.Goals as goal

pub loop-filling-init : goal.loop-filling-init
loop-filling-init g c =
    let geometry = c.args.found.now.log.geometry in
    let image = (g.S.Site.state c.args.site.now).image in
    walk_begins_with (without c.new-filling.result.lengths.pages c.args.found.now.log.geometry.pages) c.args.found.now.log.geometry.pages (without_most c.new-filling.result.lengths.pages c.args.found.now.log.geometry.pages) c.requires.may c.start-walk.ensures.walk c.start-walk.ensures.first c.start-walk.ensures.stands _ (λ blocks sees finds versions begun left. record {
      heard = c.new-filling.ensures (records_of c.args.found.now blocks) (versions_on geometry image);
      rooms = λ lsn. first_room geometry image versions;
    }) (search rules)

pub hear-requires-clause-may : goal.hear-requires-clause-may
hear-requires-clause-may g c = may_later c.in_ok-lsn.ensures.reads c.loop-filling.invariant.may

pub loop-filling-preserved : goal.loop-filling-preserved
loop-filling-preserved g c =
    let old : State = g.S.Site.state c.args.site.now in
    let now : State = g.S.Site.state c.loop-filling.site in
    let mid : State = g.S.Site.state c.next.new.site in
    let next : State = g.S.Site.state c.hear.new.site in
    let found = c.args.found.now in
    let geometry = found.log.geometry in
    let answer = c.in_ok-lsn.field-0 in
    let reads = c.loop-filling.invariant.reads in
    let e : Entry = record { lsn = c.in-Some.lsn; rec = c.in-Some.rec } in
    let once : next.flash_reads + next.disk_reads + without c.hear.new.self.lengths.pages geometry.pages ≤ mid.flash_reads + mid.disk_reads + without c.loop-filling.filling.lengths.pages geometry.pages = c.in-Ok-true.ensures.looks.once in
    let unlogged = c.in-Ok-true.ensures.looks.ends.log in
    let ends = c.in_ok-lsn.ensures.ends.pages in
    let few = gives_few found.log c.loop-filling.walk c.next.new.self answer now mid next (omega (arith, unlogged)) c.in_ok-lsn.ensures.few in
    walk_goes_with c.loop-filling.invariant answer c.next.new.self c.in_ok-lsn.ensures.next c.in-Some.lsn c.in-Some.rec c.in-Some.is (without c.hear.new.self.lengths.pages geometry.pages) c.in_ok-lsn.ensures.walk
    (looks_then answer (Ok answer) now mid next c.in_ok-lsn.ensures.reads (looks_answered c.in-Ok-true.field-0 answer mid next c.in-Ok-true.ensures.reads)) few (omega (arith, once, ends)) _
    (λ blocks sees at finds versions begun left.
    let log = records_of found blocks in
    let so_far = at.holds finds versions begun left in
    let to_now : OnlyReads {T = Unit {0}} (Ok tt) old mid = looks_then tt _ old now mid reads (looks_answered answer tt now mid c.in_ok-lsn.ensures.reads) in
    let same : mid.image ≡ old.image = (to_now.same finds.honest).image in
    let heard = subst (λ (image : Image). HearsLog log (versions_on geometry image) at.front c.loop-filling.filling → HearsLog log (versions_on geometry image) (at.front ++ e ∷ []) c.hear.new.self
    × (IsTrue c.in-Ok-true.field-0 ↔ FitsAt (versions_on geometry image) (filled (versions_on geometry image) (at.front ++ e ∷ [])) (number_of e.rec))) same
    (c.in-Ok-true.ensures.heard log at.front (versions_later to_now finds) (subst (AreVersions geometry) (sym same) versions) (record { back = at.back; is = at.is; from = _; to = _; in_order = in_order sees; begun = begun }) left) so_far.heard in
    record {
      heard = heard.0;
      rooms = rooms_more (versions_on geometry old.image) at.front e (below_it log at.front e at.back _ _ at.is (in_order sees)) so_far.rooms (heard.1.0 c.in-Ok-true.field-0-test);
    })

pub returns-in-Ok-false : goal.returns-in-Ok-false
returns-in-Ok-false g c =
    let old : State = g.S.Site.state c.args.site.now in
    let now : State = g.S.Site.state c.loop-filling.site in
    let mid : State = g.S.Site.state c.next.new.site in
    let next : State = g.S.Site.state c.hear.new.site in
    let found = c.args.found.now in
    let geometry = found.log.geometry in
    let answer = c.in_ok-lsn.field-0 in
    let reads = c.loop-filling.invariant.reads in
    let e : Entry = record { lsn = c.in-Some.lsn; rec = c.in-Some.rec } in
    let ends = few_then (unread found.log c.loop-filling.walk) 0 0 (without c.loop-filling.filling.lengths.pages geometry.pages) (unread found.log c.loop-filling.walk) (without c.loop-filling.filling.lengths.pages geometry.pages) now mid next (omega arith) (omega arith) c.in_ok-lsn.ensures.ends c.in-Ok-false.ensures.looks.ends in
    judged_at c.loop-filling.invariant answer c.next.new.self c.in_ok-lsn.ensures.next c.in-Some.lsn c.in-Some.rec c.in-Some.is (Err c.page_of-place.result) _
    (looks_then answer (Ok answer) now mid next c.in_ok-lsn.ensures.reads (looks_answered c.in-Ok-false.field-0 answer mid next c.in-Ok-false.ensures.reads)) ends
    (λ blocks sees at finds versions begun left fit.
    let log = records_of found blocks in
    let p = logical_image_of (reading_of found blocks) old.image in
    let so_far = at.holds finds versions begun left in
    let to_now : OnlyReads {T = Unit {0}} (Ok tt) old mid = looks_then tt _ old now mid reads (looks_answered answer tt now mid c.in_ok-lsn.ensures.reads) in
    let same : mid.image ≡ old.image = (to_now.same finds.honest).image in
    let heard = subst (λ (image : Image). HearsLog log (versions_on geometry image) at.front c.loop-filling.filling → HearsLog log (versions_on geometry image) (at.front ++ e ∷ []) c.hear.new.self
    × (IsTrue c.in-Ok-false.field-0 ↔ FitsAt (versions_on geometry image) (filled (versions_on geometry image) (at.front ++ e ∷ [])) (number_of e.rec))) same
    (c.in-Ok-false.ensures.heard log at.front (versions_later to_now finds) (subst (AreVersions geometry) (sym same) versions) (record { back = at.back; is = at.is; from = _; to = _; in_order = in_order sees; begun = begun }) left) so_far.heard in (
      (λ wrong. absurd (true≢false (sym wrong)), λ rule. absurd (true≢false (sym (heard.1.1 (fits_there p _ _ (in_order sees) fit at.front e at.back at.is so_far.rooms rule)) ∙ c.in-Ok-false.field-0-test))),
      tt,
    ))

pub returns : goal.returns
returns g c =
    judged_end c.loop-filling.invariant c.in_ok-lsn.field-0 c.next.new.self c.in_ok-lsn.ensures.next (Ok c.loop-filling.filling) _ c.in_default.is c.in_ok-lsn.ensures.reads
    (few_more (unread c.args.found.now.log c.loop-filling.walk) 0 (unread c.args.found.now.log c.loop-filling.walk) (without c.loop-filling.filling.lengths.pages c.args.found.now.log.geometry.pages) _ _ (omega arith) (omega arith) c.in_ok-lsn.ensures.ends) (λ blocks sees heard finds versions begun left fit.
    let p = logical_image_of (reading_of c.args.found.now blocks) (g.S.Site.state c.args.site.now).image in
    let so_far = heard finds versions begun left in
    ((λ yes. rule_redone p _ _ (in_order sees) fit so_far.rooms, λ rule. refl), so_far.heard))

pub returns-in-Err : goal.returns-in-Err
returns-in-Err g c =
    let now : State = g.S.Site.state c.loop-filling.site in
    let mid : State = g.S.Site.state c.next.new.site in
    let next : State = g.S.Site.state c.hear.new.site in
    let walk = c.loop-filling.walk in
    let log = c.args.found.now.log in
    let ends = few_then (unread log walk) 0 0 (without c.loop-filling.filling.lengths.pages c.args.found.now.log.geometry.pages) (unread log walk) (without c.loop-filling.filling.lengths.pages c.args.found.now.log.geometry.pages) now mid next (omega arith) (omega arith) c.in_ok-lsn.ensures.ends c.in-Err.ensures.looks.ends in
    record { says = tt; reads = looks_then tt _ _ now next c.loop-filling.invariant.reads (looks_then c.in_ok-lsn.field-0 _ now mid next c.in_ok-lsn.ensures.reads (looks_failed c.in-Err.stop mid next c.in-Err.ensures.reads)); few = walk_few c.loop-filling.invariant ends }

pub returns-in_err-lsn : goal.returns-in_err-lsn
returns-in_err-lsn g c =
    let p = err_from_is_err_and c.from_residual.result c.from_residual.ensures.1 in
    let now = g.S.Site.state c.loop-filling.site in
    record { says = search rules; reads = rw (p.1, p.2) (looks_then tt _ _ now _ c.loop-filling.invariant.reads (looks_failed c.in_err-lsn.field-0.0 now _ c.in_err-lsn.ensures.reads)); few = walk_few c.loop-filling.invariant (few_more (unread c.args.found.now.log c.loop-filling.walk) 0 (unread c.args.found.now.log c.loop-filling.walk) (without c.loop-filling.filling.lengths.pages c.args.found.now.log.geometry.pages) _ _ (omega arith) (omega arith) c.in_err-lsn.ensures.ends) }
