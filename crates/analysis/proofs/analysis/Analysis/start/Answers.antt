use Rattle.analysis.proofs.Names.{List, [], sym, subst, refl, arith, ap, ◌∙◌, Open, AscendFrom, owed_for, IsTable}
use Rattle.checkpoint.specs.Newest.{seen}
use Rattle.analysis.proofs.Starting.{named_table, owed_fresh}
use Rattle.analysis.proofs.analysis.Analysis.start.Goals as goal

pub returns-clause-going : goal.returns-clause-going
returns-clause-going c = subst (AscendFrom 0) (sym c.in_ok-table.ensures.named) (named_table c.args.master.now.active c.requires).ascend

pub returns-clause-read : goal.returns-clause-read
returns-clause-read c = record {
  table = subst (λ (l : List Open). IsTable (seen c.args.master.now).active [] l) (sym c.in_ok-table.ensures.named) (named_table c.args.master.now.active c.requires);
  commits = omega arith;
  known = λ t unknown. refl;
}

pub returns-clause-owed : goal.returns-clause-owed
returns-clause-owed c = ap owed_for c.in_ok-table.ensures.named ∙ owed_fresh c.args.master.now.active
