use Rattle.image_check.proofs.Names.{rules, ap, refl, List, arith, ◌*◌, is_none, MeetsBefore, IsSurveyOf, kept_blocks, few_more, few_then, LogRecord}
use Rattle.image_check.proofs.Decisions.{Past, sees_of, at_first, holds_so, fails_so, hold_all}
use Rattle.image_check.proofs.Walking.{may_later}
use Rattle.image_check.proofs.verdict.failing_on_log.Given.{Over}
use Rattle.image_check.proofs.verdict.failing_on_log.Goals.{In_default}
use Rattle.image_check.proofs.verdict.failing_on_log.Goals as goal

pub rule_apart-requires : goal.rule_apart-requires
rule_apart-requires g c = may_later c.in_ok-place.ensures.reads c.requires

-- the fourth rule holds
past : (g : Over) (c : In_default g) (blocks : List (List LogRecord)) → MeetsBefore 4 c.args.found.now blocks (g.S.Site.state c.args.site.now) → IsSurveyOf c.args.found.now blocks c.args.survey.now →
    Past 5 c.args.found.now blocks (g.S.Site.state c.args.site.now) (g.S.Site.state c.rule_undoable.new.site)
past g c blocks meets survey =
    holds_so (at_first meets) (c.in_ok-place.ensures.says blocks (sees_of meets) ((meets.rules 3 (omega arith)).third refl) survey.surveys.left) c.in_ok-place.ensures.reads (ap is_none c.in_default.is)

pub returns-in-Some : goal.returns-in-Some
returns-in-Some g c = record {
  says = λ blocks meets survey. fails_so (at_first meets) (omega arith) (c.in_ok-place.ensures.says blocks (sees_of meets) ((meets.rules 3 (omega arith)).third refl) survey.surveys.left) (ap is_none c.in-Some.is);
  reads = search rules;
  few = few_more (2 * kept_blocks c.args.found.now) 0 (3 * kept_blocks c.args.found.now) 0 (g.S.Site.state c.args.site.now) (g.S.Site.state c.rule_undoable.new.site) (omega arith) (omega arith) c.rule_undoable.ensures.few;
}

pub returns-in-Some-2 : goal.returns-in-Some-2
returns-in-Some-2 g c = record {
  says = λ blocks meets survey.
      let p1 = past g (goal.at.returns-in-Some-2 g c).In_default blocks meets survey in
      fails_so p1 (omega arith) (c.in_ok-place-2.ensures.says blocks (sees_of p1.meets) ((p1.meets.rules 4 (omega arith)).fourth refl) survey.surveys.left) (ap is_none c.in-Some-2.is);
  reads = search rules;
  few = few_then (2 * kept_blocks c.args.found.now) 0 (1 * kept_blocks c.args.found.now) 0 (3 * kept_blocks c.args.found.now) 0 (g.S.Site.state c.args.site.now) (g.S.Site.state c.rule_undoable.new.site) (g.S.Site.state c.rule_apart.new.site) (omega arith) (omega arith) c.rule_undoable.ensures.few c.rule_apart.ensures.few;
}

pub returns : goal.returns
returns g c = record {
  says = λ blocks meets survey.
      let p1 = past g (goal.at.returns g c).In_default blocks meets survey in
      hold_all (holds_so p1 (c.in_ok-place-2.ensures.says blocks (sees_of p1.meets) ((p1.meets.rules 4 (omega arith)).fourth refl) survey.surveys.left) c.in_ok-place-2.ensures.reads (ap is_none c.in_default-2.is));
  reads = search rules;
  few = few_then (2 * kept_blocks c.args.found.now) 0 (1 * kept_blocks c.args.found.now) 0 (3 * kept_blocks c.args.found.now) 0 (g.S.Site.state c.args.site.now) (g.S.Site.state c.rule_undoable.new.site) (g.S.Site.state c.rule_apart.new.site) (omega arith) (omega arith) c.rule_undoable.ensures.few c.rule_apart.ensures.few;
}

pub returns-in_err-place : goal.returns-in_err-place
returns-in_err-place g c = record { says = search rules; reads = search rules; few = few_more (2 * kept_blocks c.args.found.now) 0 (3 * kept_blocks c.args.found.now) 0 (g.S.Site.state c.args.site.now) (g.S.Site.state c.rule_undoable.new.site) (omega arith) (omega arith) c.rule_undoable.ensures.few }

pub returns-in_err-place-2 : goal.returns-in_err-place-2
returns-in_err-place-2 g c = record { says = search rules; reads = search rules; few = few_then (2 * kept_blocks c.args.found.now) 0 (1 * kept_blocks c.args.found.now) 0 (3 * kept_blocks c.args.found.now) 0 (g.S.Site.state c.args.site.now) (g.S.Site.state c.rule_undoable.new.site) (g.S.Site.state c.rule_apart.new.site) (omega arith) (omega arith) c.rule_undoable.ensures.few c.rule_apart.ensures.few }
