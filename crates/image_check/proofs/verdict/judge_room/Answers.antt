use Rattle.image_check.proofs.Names.{rules, ◌≡◌, IsTrue, refl, ap, subst, sym, arith, is_none, MeetsBefore, IsSurveyOf, reading_of, PagesHaveRoom, logical_image_of, values_of, commit_count, LogRecord, Image}
use Rattle.std.specs.Prelude.{◌↔◌, List}
use Rattle.image_check.proofs.Decisions.{sees_of, at_first, holds_so, fails_so, verdict_by, sound_by}
use Rattle.image_check.proofs.verdict.judge_room.Given.{Over}
use Rattle.image_check.proofs.verdict.judge_room.Goals.{In_ok-place}
use Rattle.image_check.proofs.verdict.judge_room.Goals as goal

-- what the rule says where those before it hold
says : (g : Over) (c : In_ok-place g) (blocks : List (List LogRecord)) → MeetsBefore 12 c.args.found.now blocks (g.S.Site.state c.args.site.now) → IsSurveyOf c.args.found.now blocks c.args.survey.now →
    IsTrue (is_none c.in_ok-place.field-0) ↔ PagesHaveRoom (logical_image_of (reading_of c.args.found.now blocks) (g.S.Site.state c.args.site.now).image)
says g c blocks meets survey =
    c.in_ok-place.ensures.says blocks (sees_of meets) meets.there.rings meets.reads.formed ((meets.rules 3 (omega arith)).third refl) ((meets.rules 4 (omega arith)).fourth refl) ((meets.rules 6 (omega arith)).sixth refl) survey.surveys.left

pub returns-in-Some : goal.returns-in-Some
returns-in-Some g c = record {
  says = λ blocks meets survey values count. verdict_by 12 meets.reads (fails_so (at_first meets) (omega arith) (says g (goal.at.returns-in-Some g c).In_ok-place blocks meets survey) (ap is_none c.in-Some.is));
  reads = search rules;
  few = c.rule_page_room.ensures.few;
}

pub returns : goal.returns
returns g c = record {
  says = λ blocks meets survey values count.
      let r = reading_of c.args.found.now blocks in
      let past = holds_so (at_first meets) (says g (goal.at.returns g c).In_ok-place blocks meets survey) c.in_ok-place.ensures.reads (ap is_none c.in_default.is) in
      sound_by c.args.counts.0 c.args.counts.1 past (subst (λ (image : Image). c.args.counts.0 ≡ values_of (logical_image_of r image)) (sym past.same) values) (subst (λ (image : Image). c.args.counts.1 ≡ commit_count (logical_image_of r image)) (sym past.same) count);
  reads = search rules;
  few = c.rule_page_room.ensures.few;
}

pub returns-in_err-place : goal.returns-in_err-place
returns-in_err-place g c = record { says = search rules; reads = search rules; few = c.rule_page_room.ensures.few }
