use Rattle.image_check.proofs.Names.{rules, ℕ, true≢false, sym, ◌∙◌, subst, arith, CommitsAre, reading_of, records_of, answers_as, logical_image_of, State}
use Rattle.std.specs.Prelude.{Option, Some, None}
use Rattle.image_check.proofs.Decisions.{sees_of, at_first, holds_here, fails_by, verdict_by}
use Rattle.image_check.proofs.verdict.judge_counts.Goals as goal

pub returns-then-not-rule_room : goal.returns-then-not-rule_room
returns-then-not-rule_room g c = record {
  says = λ blocks meets survey values. verdict_by 9 meets.reads (fails_by (at_first meets) (omega arith) (λ rule. true≢false (sym ((c.rule_room.ensures.room (g.S.Site.state c.args.site.now) blocks (sees_of meets) survey.surveys.left).1 rule) ∙ c.if-not-rule_room.true)));
  reads = search rules;
  few = record { log = omega arith; pages = omega arith };
}

pub returns-then-not-rule_named : goal.returns-then-not-rule_named
returns-then-not-rule_named g c = record {
  says = λ blocks meets survey values.
      let p1 = holds_here (at_first meets) ((c.rule_room.ensures.room (g.S.Site.state c.args.site.now) blocks (sees_of meets) survey.surveys.left).0 c.if-not-rule_room.false) in
      let named = c.rule_named.ensures.named (records_of c.args.found.now blocks) survey.surveys.early in
      verdict_by 10 meets.reads (fails_by p1 (omega arith) (λ rule. true≢false (sym (named.1 rule) ∙ c.if-not-rule_named.true)));
  reads = search rules;
  few = record { log = omega arith; pages = omega arith };
}

pub returns-in-None : goal.returns-in-None
returns-in-None g c = record {
  says = λ blocks meets survey values.
      let site : State = g.S.Site.state c.args.site.now in
      let p1 = holds_here (at_first meets) ((c.rule_room.ensures.room site blocks (sees_of meets) survey.surveys.left).0 c.if-not-rule_room.false) in
      let p2 = holds_here p1 ((c.rule_named.ensures.named (records_of c.args.found.now blocks) survey.surveys.early).0 c.if-not-rule_named.false) in
      let says : CommitsAre None (logical_image_of (reading_of c.args.found.now blocks) site.image) =
      subst (λ (o : Option ℕ). CommitsAre o (logical_image_of (reading_of c.args.found.now blocks) site.image)) c.in-None.is (c.rule_commits.ensures.commits site blocks (sees_of meets) survey.few survey.surveys.numbers) in
      verdict_by 11 meets.reads (fails_by p2 (omega arith) says);
  reads = search rules;
  few = record { log = omega arith; pages = omega arith };
}

pub returns-in-Some : goal.returns-in-Some
returns-in-Some g c = record {
  says = answers_as c.judge_room.result _ _ (λ verdict says blocks meets survey values.
      let site : State = g.S.Site.state c.args.site.now in
      let p1 = holds_here (at_first meets) ((c.rule_room.ensures.room site blocks (sees_of meets) survey.surveys.left).0 c.if-not-rule_room.false) in
      let p2 = holds_here p1 ((c.rule_named.ensures.named (records_of c.args.found.now blocks) survey.surveys.early).0 c.if-not-rule_named.false) in
      let counted : CommitsAre (Some c.in-Some.commits) (logical_image_of (reading_of c.args.found.now blocks) site.image) =
      subst (λ (o : Option ℕ). CommitsAre o (logical_image_of (reading_of c.args.found.now blocks) site.image)) c.in-Some.is (c.rule_commits.ensures.commits site blocks (sees_of meets) survey.few survey.surveys.numbers) in
      says blocks (holds_here p2 counted.0).meets survey values counted.1) c.judge_room.ensures.says;
  reads = search rules;
  few = c.judge_room.ensures.few;
}
