use Rattle.image_check.proofs.Names.{◌≡◌, ◌↔◌, IsTrue, Bool, ap, sym, subst, List, arith, ◌*◌, rules, is_none, MeetsBefore, kept_blocks, few_more, few_then, MayRead, AreFound, AreGroups, OctetsAreFormed, FramesAreClean, SegmentsFollowGroups, Found, LogRecord, looks_then, looks_answered, State, Geometry}
use Rattle.std.specs.Prelude.{Some, None}
use Rattle.image_check.proofs.Decisions.{Past, at_first, holds_so, fails_so, hold_all}
use Rattle.image_check.proofs.Walking.{may_later}
use Rattle.image_check.proofs.verdict.failing_on_flash.Given.{Over}
use Rattle.image_check.proofs.verdict.failing_on_flash.Goals.{In_default}
use Rattle.image_check.proofs.verdict.failing_on_flash.Goals as goal

pub rule_following-requires : goal.rule_following-requires
rule_following-requires g c =
    subst (λ (x : Geometry). MayRead x c.args.found.now.rings (g.S.Site.state c.rule_clean.new.site)) (sym c.geometry-geometry.ensures) (may_later c.in_ok-place.ensures.reads c.requires).read.may_read

-- what the two rules say of the sizes that were found
clean_says : {x : Geometry} {found : Found} {blocks : List (List LogRecord)} {site : State} (stand : Bool) → x ≡ found.log.geometry → (IsTrue site.honest → AreFound found.rings site → AreGroups x site.image → IsTrue stand ↔ FramesAreClean x site.image) →
    MeetsBefore 7 found blocks site → IsTrue stand ↔ FramesAreClean found.log.geometry site.image
clean_says {found = found} {site = site} stand is says meets =
    subst (λ (y : Geometry). IsTrue site.honest → AreFound found.rings site → AreGroups y site.image → IsTrue stand ↔ FramesAreClean y site.image) is says meets.there.log.honest meets.there.rings meets.reads.formed.groups

following_says : {x : Geometry} {found : Found} {blocks : List (List LogRecord)} {site : State} (stand : Bool) → x ≡ found.log.geometry →
    (IsTrue site.honest → AreFound found.rings site → OctetsAreFormed x found.master site.image → IsTrue stand ↔ SegmentsFollowGroups x site.image) → MeetsBefore 8 found blocks site → IsTrue stand ↔ SegmentsFollowGroups found.log.geometry site.image
following_says {found = found} {site = site} stand is says meets =
    subst (λ (y : Geometry). IsTrue site.honest → AreFound found.rings site → OctetsAreFormed y found.master site.image → IsTrue stand ↔ SegmentsFollowGroups y site.image) is says meets.there.log.honest meets.there.rings meets.reads.formed

-- the seventh rule holds
past : (g : Over) (c : In_default g) (blocks : List (List LogRecord)) → MeetsBefore 7 c.args.found.now blocks (g.S.Site.state c.args.site.now) →
    Past 8 c.args.found.now blocks (g.S.Site.state c.args.site.now) (g.S.Site.state c.rule_clean.new.site)
past g c blocks meets = holds_so (at_first meets) (clean_says (is_none c.in_ok-place.field-0) c.geometry-geometry.ensures c.in_ok-place.ensures.clean meets) c.in_ok-place.ensures.reads (ap is_none c.in_default.is)

pub returns-in-Some : goal.returns-in-Some
returns-in-Some g c = record {
  says = λ blocks meets. fails_so (at_first meets) (omega arith) (clean_says (is_none c.in_ok-place.field-0) c.geometry-geometry.ensures c.in_ok-place.ensures.clean meets) (ap is_none c.in-Some.is);
  reads = looks_answered c.in_ok-place.field-0 (Some (7, c.in-Some.place)) _ _ c.in_ok-place.ensures.reads;
  few = few_more 0 (18 * c.geometry-geometry.result.groups) (0 * kept_blocks c.args.found.now) (20 * c.args.found.now.log.geometry.groups) (g.S.Site.state c.args.site.now) (g.S.Site.state c.rule_clean.new.site) (omega arith) (omega (arith, ap (λ (x : Geometry). x.groups) c.geometry-geometry.ensures)) c.rule_clean.ensures.looks;
}

pub returns-in-Some-2 : goal.returns-in-Some-2
returns-in-Some-2 g c = record {
  says = λ blocks meets.
      let p1 = past g (goal.at.returns-in-Some-2 g c).In_default blocks meets in
      fails_so p1 (omega arith) (following_says (is_none c.in_ok-place-2.field-0) c.geometry-geometry.ensures (c.in_ok-place-2.ensures.following c.args.found.now.master) p1.meets) (ap is_none c.in-Some-2.is);
  reads = looks_then c.in_ok-place.field-0 _ _ (g.S.Site.state c.rule_clean.new.site) _ c.in_ok-place.ensures.reads (looks_answered c.in_ok-place-2.field-0 (Some (8, c.in-Some-2.place)) (g.S.Site.state c.rule_clean.new.site) _ c.in_ok-place-2.ensures.reads);
  few = few_then 0 (18 * c.geometry-geometry.result.groups) 0 (2 * c.geometry-geometry.result.groups) (0 * kept_blocks c.args.found.now) (20 * c.args.found.now.log.geometry.groups) (g.S.Site.state c.args.site.now) (g.S.Site.state c.rule_clean.new.site) (g.S.Site.state c.rule_following.new.site) (omega arith) (omega (arith, ap (λ (x : Geometry). x.groups) c.geometry-geometry.ensures)) c.rule_clean.ensures.looks c.rule_following.ensures.looks;
}

pub returns : goal.returns
returns g c = record {
  says = λ blocks meets.
      let p1 = past g (goal.at.returns g c).In_default blocks meets in
      hold_all (holds_so p1 (following_says (is_none c.in_ok-place-2.field-0) c.geometry-geometry.ensures (c.in_ok-place-2.ensures.following c.args.found.now.master) p1.meets) c.in_ok-place-2.ensures.reads (ap is_none c.in_default-2.is));
  reads = looks_then c.in_ok-place.field-0 _ _ (g.S.Site.state c.rule_clean.new.site) _ c.in_ok-place.ensures.reads (looks_answered c.in_ok-place-2.field-0 None (g.S.Site.state c.rule_clean.new.site) _ c.in_ok-place-2.ensures.reads);
  few = few_then 0 (18 * c.geometry-geometry.result.groups) 0 (2 * c.geometry-geometry.result.groups) (0 * kept_blocks c.args.found.now) (20 * c.args.found.now.log.geometry.groups) (g.S.Site.state c.args.site.now) (g.S.Site.state c.rule_clean.new.site) (g.S.Site.state c.rule_following.new.site) (omega arith) (omega (arith, ap (λ (x : Geometry). x.groups) c.geometry-geometry.ensures)) c.rule_clean.ensures.looks c.rule_following.ensures.looks;
}

pub returns-in_err-place : goal.returns-in_err-place
returns-in_err-place g c = record { says = search rules; reads = search rules; few = few_more 0 (18 * c.geometry-geometry.result.groups) (0 * kept_blocks c.args.found.now) (20 * c.args.found.now.log.geometry.groups) (g.S.Site.state c.args.site.now) (g.S.Site.state c.rule_clean.new.site) (omega arith) (omega (arith, ap (λ (x : Geometry). x.groups) c.geometry-geometry.ensures)) c.rule_clean.ensures.looks }

pub returns-in_err-place-2 : goal.returns-in_err-place-2
returns-in_err-place-2 g c = record { says = search rules; reads = looks_then c.in_ok-place.field-0 c.from_residual-in_err-place-2.result _ _ _ c.in_ok-place.ensures.reads (search rules); few = few_then 0 (18 * c.geometry-geometry.result.groups) 0 (2 * c.geometry-geometry.result.groups) (0 * kept_blocks c.args.found.now) (20 * c.args.found.now.log.geometry.groups) (g.S.Site.state c.args.site.now) (g.S.Site.state c.rule_clean.new.site) (g.S.Site.state c.rule_following.new.site) (omega arith) (omega (arith, ap (λ (x : Geometry). x.groups) c.geometry-geometry.ensures)) c.rule_clean.ensures.looks c.rule_following.ensures.looks }
