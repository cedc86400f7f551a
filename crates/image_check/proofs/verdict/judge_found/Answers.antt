use Rattle.image_check.proofs.Names.{rules, ℕ, List, ap, subst, arith, ◌*◌, ◌+◌, Result, IfOk, is_ok, MeetsBefore, HoldOr, IsSurveyOf, IsVerdictOn, kept_blocks, reading_of, Survey, few_more, few_then, answers_as, HoldBefore, Place, LogRecord, State, Image}
use Rattle.std.specs.Prelude.{Option, Some}
use Rattle.image_check.proofs.Decisions.{Past, sees_of, at_first, holds_so, fails_so, reaches, verdict_by}
use Rattle.image_check.proofs.Walking.{may_later}
use Rattle.image_check.proofs.verdict.judge_found.Given.{Over}
use Rattle.image_check.proofs.verdict.judge_found.Goals.{In-Ok}
use Rattle.image_check.proofs.verdict.judge_found.Goals as goal

pub failing_on_log-requires : goal.failing_on_log-requires
failing_on_log-requires g c = may_later c.in_ok-survey.ensures.reads c.requires

pub judge_pages-requires : goal.judge_pages-requires
judge_pages-requires g c = may_later c.in_ok-rule.ensures.reads (may_later c.in_ok-survey.ensures.reads c.requires)

-- the third rule holds, and what the log leaves is known
past : (g : Over) (c : In-Ok g) (blocks : List (List LogRecord)) → MeetsBefore 3 c.args.found.now blocks (g.S.Site.state c.args.site.now) →
    Past 4 c.args.found.now blocks (g.S.Site.state c.args.site.now) (g.S.Site.state c.rule_transactions.new.site) × IsSurveyOf c.args.found.now blocks c.in-Ok.survey
past g c blocks meets =
    let says = c.in_ok-survey.ensures.says blocks (sees_of meets) in (
      holds_so (at_first meets) says.0 c.in_ok-survey.ensures.reads (ap is_ok c.in-Ok.is),
      subst (λ (o : Result Survey Place). IfOk o (λ survey. IsSurveyOf c.args.found.now blocks survey)) c.in-Ok.is says.1,
    )

pub returns-in-Err : goal.returns-in-Err
returns-in-Err g c = record {
  says = λ blocks meets. verdict_by 3 meets.reads (fails_so (at_first meets) (omega arith) (c.in_ok-survey.ensures.says blocks (sees_of meets)).0 (ap is_ok c.in-Err.is));
  reads = search rules;
  few = few_more (1 * kept_blocks c.args.found.now) 0 (6 * kept_blocks c.args.found.now) (22 * c.args.found.now.log.geometry.groups + 4 * c.args.found.now.log.geometry.pages) (g.S.Site.state c.args.site.now) (g.S.Site.state c.rule_transactions.new.site) (omega arith) (omega arith) c.rule_transactions.ensures.few;
}

pub returns-in-Some : goal.returns-in-Some
returns-in-Some g c = record {
  says = λ blocks meets.
      let r = reading_of c.args.found.now blocks in
      let s1 : State = g.S.Site.state c.rule_transactions.new.site in
      let p = past g (goal.at.returns-in-Some g c).In-Ok blocks meets in
      let failing : HoldOr 6 (Some (c.in-Some.rule, c.in-Some.place)) r s1.image = subst (λ (o : Option (ℕ × Place)). HoldOr 6 o r s1.image) c.in-Some.is (c.in_ok-rule.ensures.says blocks p.0.meets p.1) in
      verdict_by c.in-Some.rule meets.reads (subst (HoldOr 6 (Some (c.in-Some.rule, c.in-Some.place)) r) p.0.same failing);
  reads = search rules;
  few = few_then (1 * kept_blocks c.args.found.now) 0 (3 * kept_blocks c.args.found.now) 0 (6 * kept_blocks c.args.found.now) (22 * c.args.found.now.log.geometry.groups + 4 * c.args.found.now.log.geometry.pages) (g.S.Site.state c.args.site.now) (g.S.Site.state c.rule_transactions.new.site) (g.S.Site.state c.failing_on_log.new.site) (omega arith) (omega arith) c.rule_transactions.ensures.few c.failing_on_log.ensures.few;
}

pub returns : goal.returns
returns g c = record {
  says = answers_as c.judge_pages.result _ _ (λ verdict says blocks meets.
      let r = reading_of c.args.found.now blocks in
      let s1 : State = g.S.Site.state c.rule_transactions.new.site in
      let p = past g (goal.at.returns g c).In-Ok blocks meets in
      let holds : HoldBefore 6 r s1.image = subst (λ (o : Option (ℕ × Place)). HoldOr 6 o r s1.image) c.in_default.is (c.in_ok-rule.ensures.says blocks p.0.meets p.1) in
      let p2 = reaches p.0 6 c.in_ok-rule.ensures.reads holds in
      subst (λ (image : Image). IsVerdictOn image verdict) p2.same (says blocks p2.meets p.1)) c.judge_pages.ensures.says;
  reads = search rules;
  few = few_then (4 * kept_blocks c.args.found.now) 0 (2 * kept_blocks c.args.found.now) (22 * c.args.found.now.log.geometry.groups + 4 * c.args.found.now.log.geometry.pages) (6 * kept_blocks c.args.found.now) (22 * c.args.found.now.log.geometry.groups + 4 * c.args.found.now.log.geometry.pages) (g.S.Site.state c.args.site.now) (g.S.Site.state c.failing_on_log.new.site) (g.S.Site.state c.judge_pages.new.site) (omega arith) (omega arith) (few_then (1 * kept_blocks c.args.found.now) 0 (3 * kept_blocks c.args.found.now) 0 (4 * kept_blocks c.args.found.now) 0 (g.S.Site.state c.args.site.now) (g.S.Site.state c.rule_transactions.new.site) (g.S.Site.state c.failing_on_log.new.site) (omega arith) (omega arith) c.rule_transactions.ensures.few c.failing_on_log.ensures.few) c.judge_pages.ensures.few;
}

pub returns-in_err-survey : goal.returns-in_err-survey
returns-in_err-survey g c = record { says = search rules; reads = search rules; few = few_more (1 * kept_blocks c.args.found.now) 0 (6 * kept_blocks c.args.found.now) (22 * c.args.found.now.log.geometry.groups + 4 * c.args.found.now.log.geometry.pages) (g.S.Site.state c.args.site.now) (g.S.Site.state c.rule_transactions.new.site) (omega arith) (omega arith) c.rule_transactions.ensures.few }

pub returns-in_err-rule : goal.returns-in_err-rule
returns-in_err-rule g c = record { says = search rules; reads = search rules; few = few_then (1 * kept_blocks c.args.found.now) 0 (3 * kept_blocks c.args.found.now) 0 (6 * kept_blocks c.args.found.now) (22 * c.args.found.now.log.geometry.groups + 4 * c.args.found.now.log.geometry.pages) (g.S.Site.state c.args.site.now) (g.S.Site.state c.rule_transactions.new.site) (g.S.Site.state c.failing_on_log.new.site) (omega arith) (omega arith) c.rule_transactions.ensures.few c.failing_on_log.ensures.few }
