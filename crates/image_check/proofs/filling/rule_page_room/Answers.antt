use Rattle.image_check.proofs.Names.{rules, ◌≡◌, ◌↔◌, IsTrue, List, [], true≢false, sym, ap, ◌∙◌, subst, arith, ◌+◌, ◌*◌, Result, IfOk, IfSome, IfNone, is_none, is_ok, AreKept, HaveRoom, HearsLog, RedoneFits, opened, put_back_by, Sees, kept_blocks, reading_of, records_of, without, FindsVersions, Filling, few_more, few_then, answers_as, shown_some, AreFound, ShowsFrames, AreGroups, AreVersions, OctetsAreFormed, RecordsFollowBegins, LosersCanBeUndone, VersionsFit, PagesHaveRoom, logical_image_of, Place, versions_on, AreLeft, losers, LogRecord, looks_then, looks_answered, looks_failed, State, Image, Geometry}
use Rattle.std.specs.Prelude.{Some}
use Rattle.image_check.proofs.Looks.{without_most}
use Rattle.image_check.proofs.FilledOnes.{both_of_rule, filled_is, keeps_open, kept_as, rule_of_both, shown_room, under}
use Rattle.image_check.proofs.ShownOnes.{versions_later}
use Rattle.image_check.proofs.ValuesCounted.{none_found}
use Rattle.image_check.proofs.Walking.{in_order, may_later, sees_later}
use Rattle.image_check.proofs.filling.rule_page_room.Given.{Over}
use Rattle.image_check.proofs.filling.rule_page_room.Goals.{In-Ok-Some}
use Rattle.image_check.proofs.filling.rule_page_room.Goals as goal

pub returns-in-Ok-None : goal.returns-in-Ok-None
returns-in-Ok-None g c = record {
  says = λ blocks sees rings formed third fourth sixth left.
      let old : State = g.S.Site.state c.args.site.now in
      let none = subst (λ (k : Geometry). IsTrue old.honest → AreFound c.args.found.now.rings old → AreGroups k old.image → IfNone c.in-Ok-None.field-0 ⊥) c.geometry.ensures c.in-Ok-None.ensures.formed sees.log.honest rings formed.groups in
      absurd (none_found c.in-Ok-None.field-0 c.in-Ok-None.field-0-is none);
  reads = search rules;
  few = few_more 0 c.geometry.result.groups (1 * kept_blocks c.args.found.now) (c.args.found.now.log.geometry.groups + 2 * c.args.found.now.log.geometry.pages) (g.S.Site.state c.args.site.now) (g.S.Site.state c.find_frames.new.site) (omega arith) (omega (arith, ap (λ (k : Geometry). k.groups) c.geometry.ensures)) c.in-Ok-None.ensures.looks;
}

-- the queue shows the frames that stand there
shown_there : (g : Over) (c : In-Ok-Some g) (blocks : List (List LogRecord)) → Sees c.args.found.now blocks (g.S.Site.state c.args.site.now) → AreFound c.args.found.now.rings (g.S.Site.state c.args.site.now) →
    OctetsAreFormed c.args.found.now.log.geometry c.args.found.now.master (g.S.Site.state c.args.site.now).image → FindsVersions c.args.found.now c.in-Ok-Some.frames (g.S.Site.state c.args.site.now)
shown_there g c blocks sees rings formed =
    let found = c.args.found.now in
    let sizes : Geometry = found.log.geometry in
    let old : State = g.S.Site.state c.args.site.now in
    let some = subst (λ (k : Geometry). IsTrue old.honest → AreFound found.rings old → AreGroups k old.image → IfSome c.in-Ok-Some.field-0 (λ queue. ShowsFrames k old.image queue)) c.geometry.ensures c.in-Ok-Some.ensures.shown sees.log.honest rings formed.groups in
    record { honest = sees.log.honest; rings = rings; groups = formed.groups; shown = shown_some sizes old.image c.in-Ok-Some.field-0 c.in-Ok-Some.frames c.in-Ok-Some.field-0-is some }

pub of_log-requires-clause-may : goal.of_log-requires-clause-may
of_log-requires-clause-may g c = may_later c.in-Ok-Some.ensures.reads c.requires

pub find_crowded-requires-clause-may : goal.find_crowded-requires-clause-may
find_crowded-requires-clause-may g c = may_later c.in-Ok-Ok.ensures.reads (may_later c.in-Ok-Some.ensures.reads c.requires)

pub returns-in-Ok-Ok : goal.returns-in-Ok-Ok
returns-in-Ok-Ok g c =
    let found = c.args.found.now in
    let sizes : Geometry = found.log.geometry in
    let old : State = g.S.Site.state c.args.site.now in
    let s1 : State = g.S.Site.state c.find_frames.new.site in
    let s2 : State = g.S.Site.state c.of_log.new.site in
    let s3 : State = g.S.Site.state c.find_crowded.new.site in
    let reads = c.in-Ok-Some.ensures.reads in
    let reads' = c.in-Ok-Ok.ensures.reads in
    let filling : Filling = c.in-Ok-Ok.filling in
    record {
      says = answers_as c.find_crowded.result _ _ (λ failing says blocks sees rings formed third fourth sixth left. says (blocks, sees, rings, formed, third, fourth, sixth, left))
          (under {A = (blocks : List (List LogRecord)) × Sees found blocks old × AreFound found.rings old × OctetsAreFormed sizes found.master old.image × RecordsFollowBegins (logical_image_of (reading_of found blocks) old.image)
          × LosersCanBeUndone (logical_image_of (reading_of found blocks) old.image) × VersionsFit (logical_image_of (reading_of found blocks) old.image) × AreLeft (records_of found blocks) c.args.left.now.left}
          c.find_crowded.result (λ a failing. IsTrue (is_none failing) ↔ PagesHaveRoom (logical_image_of (reading_of found a.0) old.image)) (λ a.
          let blocks = a.0 in
          let sees = a.1 in
          let formed = a.3 in
          let sixth = a.6 in
          let r = reading_of found blocks in
          let p = logical_image_of r old.image in
          let log = records_of found blocks in
          let pages = versions_on sizes old.image in
          let there = shown_there g (goal.at.returns-in-Ok-Ok g c).In-Ok-Some blocks sees a.2 formed in
          let same : s1.image ≡ old.image = (reads.same sees.log.honest).image in
          let there' = versions_later reads there in
          let same' : s2.image ≡ old.image = (reads'.same there'.honest).image ∙ same in
          let says = subst (λ (image : Image). VersionsFit (logical_image_of r image) → (IsTrue (is_ok c.in-Ok-Ok.field-0) ↔ RedoneFits (logical_image_of r image)) × IfOk c.in-Ok-Ok.field-0 (λ x. HearsLog log (versions_on sizes image) log x)) same
          (c.in-Ok-Ok.ensures.says blocks (sees_later reads sees) there' (subst (AreVersions sizes) (sym same) formed.versions) a.4.begun a.7) sixth in
          let redone = says.0.0 (ap is_ok c.in-Ok-Ok.field-0-is) in
          let hears : HearsLog log pages log filling = subst (λ (x : Result Filling Place). IfOk x (λ y. HearsLog log pages log y)) c.in-Ok-Ok.field-0-is says.1 in
          let kept = kept_as pages _ (opened log pages []) filling.lengths.pages (λ number less. sym (filled_is p _ _ (in_order sees) sixth number less)) hears.lengths in
          let crowded = subst (λ (image : Image). AreKept (versions_on sizes image) (opened log (versions_on sizes image) []) filling.lengths.pages → HaveRoom (versions_on sizes image) (opened log (versions_on sizes image) []) →
          IfOk c.find_crowded.result (λ failing. IsTrue (is_none failing) ↔ HaveRoom (versions_on sizes image) (opened log (versions_on sizes image) (put_back_by log (losers log))))) same'
          (c.find_crowded.ensures.crowded log (versions_later reads' there') (subst (AreVersions sizes) (sym same') formed.versions) a.7 (keeps_open p filling.chains a.5 hears.chains)) kept (shown_room p _ _ (in_order sees) redone) in
          answers_as c.find_crowded.result _ _ (λ failing both. (λ none. rule_of_both p redone (both.0 none), λ rule. both.1 (both_of_rule p rule).1)) crowded));
      reads = looks_then c.in-Ok-Some.field-0 _ old s1 s3 reads (looks_then c.in-Ok-Ok.field-0 _ s1 s2 s3 reads' c.find_crowded.ensures.reads);
      few = few_then (1 * kept_blocks c.args.found.now) (c.args.found.now.log.geometry.groups + c.args.found.now.log.geometry.pages) 0 (without filling.lengths.pages c.args.found.now.log.geometry.pages) (1 * kept_blocks c.args.found.now) (c.args.found.now.log.geometry.groups + 2 * c.args.found.now.log.geometry.pages) (g.S.Site.state c.args.site.now) (g.S.Site.state c.of_log.new.site) (g.S.Site.state c.find_crowded.new.site) (omega arith) (let few = without_most filling.lengths.pages c.args.found.now.log.geometry.pages in omega (arith, few)) (few_then 0 c.geometry.result.groups (1 * kept_blocks c.args.found.now) c.args.found.now.log.geometry.pages (1 * kept_blocks c.args.found.now) (c.args.found.now.log.geometry.groups + c.args.found.now.log.geometry.pages) (g.S.Site.state c.args.site.now) (g.S.Site.state c.find_frames.new.site) (g.S.Site.state c.of_log.new.site) (omega arith) (omega (arith, ap (λ (k : Geometry). k.groups) c.geometry.ensures)) c.in-Ok-Some.ensures.looks c.in-Ok-Ok.ensures.few) c.find_crowded.ensures.looks;
    }

pub returns-in-Ok-Err : goal.returns-in-Ok-Err
returns-in-Ok-Err g c =
    let found = c.args.found.now in
    let sizes : Geometry = found.log.geometry in
    let old : State = g.S.Site.state c.args.site.now in
    let s1 : State = g.S.Site.state c.find_frames.new.site in
    let s2 : State = g.S.Site.state c.of_log.new.site in
    let reads = c.in-Ok-Some.ensures.reads in
    record {
      says = λ blocks sees rings formed third fourth sixth left.
          let r = reading_of found blocks in
          let p = logical_image_of r old.image in
          let there = shown_there g (goal.at.returns-in-Ok-Err g c).In-Ok-Some blocks sees rings formed in
          let same : s1.image ≡ old.image = (reads.same sees.log.honest).image in
          let says = subst (λ (image : Image). VersionsFit (logical_image_of r image) → (IsTrue (is_ok c.in-Ok-Err.field-0) ↔ RedoneFits (logical_image_of r image)) × IfOk c.in-Ok-Err.field-0 (λ x. HearsLog (records_of found blocks) (versions_on sizes image) (records_of found blocks) x)) same
          (c.in-Ok-Err.ensures.says blocks (sees_later reads sees) (versions_later reads there) (subst (AreVersions sizes) (sym same) formed.versions) third.begun left) sixth in (
            λ wrong. absurd (true≢false (sym wrong)),
            λ rule. absurd (true≢false (sym (says.0.1 (both_of_rule p rule).0) ∙ ap is_ok c.in-Ok-Err.field-0-is)),
          );
      reads = looks_then c.in-Ok-Some.field-0 _ old s1 s2 reads (looks_answered c.in-Ok-Err.field-0 (Some c.in-Ok-Err.place) s1 s2 c.in-Ok-Err.ensures.reads);
      few = few_then 0 c.geometry.result.groups (1 * kept_blocks c.args.found.now) c.args.found.now.log.geometry.pages (1 * kept_blocks c.args.found.now) (c.args.found.now.log.geometry.groups + 2 * c.args.found.now.log.geometry.pages) (g.S.Site.state c.args.site.now) (g.S.Site.state c.find_frames.new.site) (g.S.Site.state c.of_log.new.site) (omega arith) (omega (arith, ap (λ (k : Geometry). k.groups) c.geometry.ensures)) c.in-Ok-Some.ensures.looks c.in-Ok-Err.ensures.few;
    }

pub returns : goal.returns
returns g c =
    let old : State = g.S.Site.state c.args.site.now in
    let s1 : State = g.S.Site.state c.find_frames.new.site in
    let s2 : State = g.S.Site.state c.of_log.new.site in
    record {
      says = tt;
      reads = looks_then c.in-Ok-Some.field-0 _ old s1 s2 c.in-Ok-Some.ensures.reads (looks_failed c.in-Err-of_log.stop s1 s2 c.in-Err-of_log.ensures.reads);
      few = few_then 0 c.geometry.result.groups (1 * kept_blocks c.args.found.now) c.args.found.now.log.geometry.pages (1 * kept_blocks c.args.found.now) (c.args.found.now.log.geometry.groups + 2 * c.args.found.now.log.geometry.pages) (g.S.Site.state c.args.site.now) (g.S.Site.state c.find_frames.new.site) (g.S.Site.state c.of_log.new.site) (omega arith) (omega (arith, ap (λ (k : Geometry). k.groups) c.geometry.ensures)) c.in-Ok-Some.ensures.looks c.in-Err-of_log.ensures.few;
    }

pub returns-in-Err : goal.returns-in-Err
returns-in-Err g c = record {
  says = tt;
  reads = looks_failed c.in-Err.stop _ _ c.in-Err.ensures.reads;
  few = few_more 0 c.geometry.result.groups (1 * kept_blocks c.args.found.now) (c.args.found.now.log.geometry.groups + 2 * c.args.found.now.log.geometry.pages) (g.S.Site.state c.args.site.now) (g.S.Site.state c.find_frames.new.site) (omega arith) (omega (arith, ap (λ (k : Geometry). k.groups) c.geometry.ensures)) c.in-Err.ensures.looks;
}
