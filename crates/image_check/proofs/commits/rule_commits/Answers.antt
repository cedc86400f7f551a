use Rattle.image_check.proofs.Names.{◌≡◌, ◌/◌, [], true≢false, sym, ap, ◌∙◌, subst, arith, append-nil, reading_of, records_of, logical_image_of, commit_numbers}
use Rattle.log_judge.specs.Counting.{Heard, NumbersAre, Fit}
use Rattle.log_judge.proofs.Numbering.{numbered, fits, counted_all, heard_few}
use Rattle.image_check.proofs.commits.rule_commits.Goals as goal

pub returns-in_default : goal.returns-in_default
returns-in_default c = record {
  commits = λ site blocks sees size are numbered.
      let records = records_of c.args.found.now blocks in
      let never = subst (NumbersAre c.args.found.now.master.redo records) c.in_default.is are in
      never [] _ _ (ap commit_numbers (append-nil records) ∙ numbered.run_on);
}

pub returns-then-not-fit : goal.returns-then-not-fit
returns-then-not-fit c = record {
  commits = λ site blocks sees size are numbered.
      let n = c.in-Some.numbers in
      let p = logical_image_of (reading_of c.args.found.now blocks) site.image in
      let heard : Heard c.args.found.now.master.redo n p.log = subst (NumbersAre c.args.found.now.master.redo p.log) c.in-Some.is are in
      let few = heard_few c.args.found.now.master.redo n p.log heard in
      let hi : c.sealed_end-hi.result / 512 ≡ p.hi = omega (arith, c.sealed_end-hi.ensures, sees.log.hi) in
      let fit = subst (Fit n.first n.early n.late c.args.found.now.master.commits) (sym hi) (fits p n heard numbered) in
      true≢false (sym ((c.fit.ensures.fit (omega (arith, few, size))).1 fit) ∙ c.if-not-fit.true);
}

pub returns : goal.returns
returns c = record {
  commits = λ site blocks sees size are.
      let n = c.in-Some.numbers in
      let p = logical_image_of (reading_of c.args.found.now blocks) site.image in
      let heard : Heard c.args.found.now.master.redo n p.log = subst (NumbersAre c.args.found.now.master.redo p.log) c.in-Some.is are in
      let few = heard_few c.args.found.now.master.redo n p.log heard in
      let hi : c.sealed_end-hi.result / 512 ≡ p.hi = omega (arith, c.sealed_end-hi.ensures, sees.log.hi) in
      let fit = subst (Fit n.first n.early n.late c.args.found.now.master.commits) hi ((c.fit.ensures.fit (omega (arith, few, size))).0 c.if-not-fit.false) in
      (numbered p n heard fit, counted_all p n heard);
}
