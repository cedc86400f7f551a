use Rattle.image_check.proofs.Names.{rules, ◌≡◌, ℕ, List, ap, subst, sym, refl, arith, ◌*◌, ◌+◌, Result, IfOk, is_ok, MeetsBefore, HoldOr, IsVerdictOn, kept_blocks, reading_of, few_more, few_then, answers_as, HoldBefore, logical_image_of, values_of, Place, LogRecord, State, Image}
use Rattle.std.specs.Prelude.{Option, Some}
use Rattle.image_check.proofs.Decisions.{Past, sees_of, at_first, holds_so, fails_so, reaches, verdict_by}
use Rattle.image_check.proofs.Walking.{may_later}
use Rattle.image_check.proofs.verdict.judge_pages.Given.{Over}
use Rattle.image_check.proofs.verdict.judge_pages.Goals.{In-Ok}
use Rattle.image_check.proofs.verdict.judge_pages.Goals as goal

pub failing_on_flash-requires : goal.failing_on_flash-requires
failing_on_flash-requires g c = may_later c.in_ok-records.ensures.reads c.requires

-- the sixth rule holds
past : (g : Over) (c : In-Ok g) (blocks : List (List LogRecord)) → MeetsBefore 6 c.args.found.now blocks (g.S.Site.state c.args.site.now) →
    Past 7 c.args.found.now blocks (g.S.Site.state c.args.site.now) (g.S.Site.state c.rule_shown.new.site)
past g c blocks meets = holds_so (at_first meets) (c.in_ok-records.ensures.says blocks (sees_of meets) meets.there.rings meets.reads.formed).fits c.in_ok-records.ensures.reads (ap is_ok c.in-Ok.is)

pub returns-in-Err : goal.returns-in-Err
returns-in-Err g c = record {
  says = λ blocks meets survey. verdict_by 6 meets.reads (fails_so (at_first meets) (omega arith) (c.in_ok-records.ensures.says blocks (sees_of meets) meets.there.rings meets.reads.formed).fits (ap is_ok c.in-Err.is));
  reads = search rules;
  few = few_more (1 * kept_blocks c.args.found.now) (c.args.found.now.log.geometry.groups + 2 * c.args.found.now.log.geometry.pages) (2 * kept_blocks c.args.found.now) (22 * c.args.found.now.log.geometry.groups + 4 * c.args.found.now.log.geometry.pages) (g.S.Site.state c.args.site.now) (g.S.Site.state c.rule_shown.new.site) (omega arith) (omega arith) c.rule_shown.ensures.few;
}

pub returns-in-Some : goal.returns-in-Some
returns-in-Some g c = record {
  says = λ blocks meets survey.
      let r = reading_of c.args.found.now blocks in
      let s1 : State = g.S.Site.state c.rule_shown.new.site in
      let p1 = past g (goal.at.returns-in-Some g c).In-Ok blocks meets in
      let failing : HoldOr 9 (Some (c.in-Some.rule, c.in-Some.place)) r s1.image = subst (λ (o : Option (ℕ × Place)). HoldOr 9 o r s1.image) c.in-Some.is (c.in_ok-rule.ensures.says blocks p1.meets) in
      verdict_by c.in-Some.rule meets.reads (subst (HoldOr 9 (Some (c.in-Some.rule, c.in-Some.place)) r) p1.same failing);
  reads = search rules;
  few = few_then (1 * kept_blocks c.args.found.now) (c.args.found.now.log.geometry.groups + 2 * c.args.found.now.log.geometry.pages) (0 * kept_blocks c.args.found.now) (20 * c.args.found.now.log.geometry.groups) (2 * kept_blocks c.args.found.now) (22 * c.args.found.now.log.geometry.groups + 4 * c.args.found.now.log.geometry.pages) (g.S.Site.state c.args.site.now) (g.S.Site.state c.rule_shown.new.site) (g.S.Site.state c.failing_on_flash.new.site) (omega arith) (omega arith) c.rule_shown.ensures.few c.failing_on_flash.ensures.few;
}

pub judge_counts-requires : goal.judge_counts-requires
judge_counts-requires g c = may_later c.in_ok-rule.ensures.reads (may_later c.in_ok-records.ensures.reads c.requires)

pub returns : goal.returns
returns g c = record {
  says = answers_as c.judge_counts.result _ _ (λ verdict says blocks meets survey.
      let r = reading_of c.args.found.now blocks in
      let s0 : State = g.S.Site.state c.args.site.now in
      let s1 : State = g.S.Site.state c.rule_shown.new.site in
      let s2 : State = g.S.Site.state c.failing_on_flash.new.site in
      let p1 = past g (goal.at.returns g c).In-Ok blocks meets in
      let more : HoldBefore 9 r s1.image = subst (λ (o : Option (ℕ × Place)). HoldOr 9 o r s1.image) c.in_default.is (c.in_ok-rule.ensures.says blocks p1.meets) in
      let p2 = reaches p1 9 c.in_ok-rule.ensures.reads more in
      let counted = (c.in_ok-records.ensures.says blocks (sees_of meets) meets.there.rings meets.reads.formed).values ((meets.rules 5 (omega arith)).fifth refl) in
      let own = subst (λ (o : Result ℕ Place). IfOk o (λ count. count ≡ values_of (logical_image_of r s0.image))) c.in-Ok.is counted in
      let values : c.in-Ok.records ≡ values_of (logical_image_of r s2.image) = subst (λ (image : Image). c.in-Ok.records ≡ values_of (logical_image_of r image)) (sym p2.same) own in
      subst (λ (image : Image). IsVerdictOn image verdict) p2.same (says blocks p2.meets survey values)) c.judge_counts.ensures.says;
  reads = search rules;
  few = few_then (1 * kept_blocks c.args.found.now) (21 * c.args.found.now.log.geometry.groups + 2 * c.args.found.now.log.geometry.pages) (1 * kept_blocks c.args.found.now) (c.args.found.now.log.geometry.groups + 2 * c.args.found.now.log.geometry.pages) (2 * kept_blocks c.args.found.now) (22 * c.args.found.now.log.geometry.groups + 4 * c.args.found.now.log.geometry.pages) (g.S.Site.state c.args.site.now) (g.S.Site.state c.failing_on_flash.new.site) (g.S.Site.state c.judge_counts.new.site) (omega arith) (omega arith) (few_then (1 * kept_blocks c.args.found.now) (c.args.found.now.log.geometry.groups + 2 * c.args.found.now.log.geometry.pages) (0 * kept_blocks c.args.found.now) (20 * c.args.found.now.log.geometry.groups) (1 * kept_blocks c.args.found.now) (21 * c.args.found.now.log.geometry.groups + 2 * c.args.found.now.log.geometry.pages) (g.S.Site.state c.args.site.now) (g.S.Site.state c.rule_shown.new.site) (g.S.Site.state c.failing_on_flash.new.site) (omega arith) (omega arith) c.rule_shown.ensures.few c.failing_on_flash.ensures.few) c.judge_counts.ensures.few;
}

pub returns-in_err-records : goal.returns-in_err-records
returns-in_err-records g c = record { says = search rules; reads = search rules; few = few_more (1 * kept_blocks c.args.found.now) (c.args.found.now.log.geometry.groups + 2 * c.args.found.now.log.geometry.pages) (2 * kept_blocks c.args.found.now) (22 * c.args.found.now.log.geometry.groups + 4 * c.args.found.now.log.geometry.pages) (g.S.Site.state c.args.site.now) (g.S.Site.state c.rule_shown.new.site) (omega arith) (omega arith) c.rule_shown.ensures.few }

pub returns-in_err-rule : goal.returns-in_err-rule
returns-in_err-rule g c = record { says = search rules; reads = search rules; few = few_then (1 * kept_blocks c.args.found.now) (c.args.found.now.log.geometry.groups + 2 * c.args.found.now.log.geometry.pages) (0 * kept_blocks c.args.found.now) (20 * c.args.found.now.log.geometry.groups) (2 * kept_blocks c.args.found.now) (22 * c.args.found.now.log.geometry.groups + 4 * c.args.found.now.log.geometry.pages) (g.S.Site.state c.args.site.now) (g.S.Site.state c.rule_shown.new.site) (g.S.Site.state c.failing_on_flash.new.site) (omega arith) (omega arith) c.rule_shown.ensures.few c.failing_on_flash.ensures.few }
