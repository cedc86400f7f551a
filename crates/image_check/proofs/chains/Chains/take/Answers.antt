use Rattle.image_check.proofs.Names.{refl, sym, ◌∙◌, Chain}
use Rattle.image_check.proofs.ChainOnes.{kept_where, kept_nowhere}
use Rattle.image_check.proofs.chains.Chains.take.Goals as goal

pub returns-in-Some-clause-taken : goal.returns-in-Some-clause-taken
returns-in-Some-clause-taken c rest keeps = kept_where c.args.txn c.in-Some.chain _ (sym c.swap_remove.ensures.value ∙ c.in-Some.is) rest keeps

pub returns-in-None-clause-taken : goal.returns-in-None-clause-taken
returns-in-None-clause-taken c rest keeps =
    let first : Chain = record { last = c.args.txn; updates = c.new.result; written = c.new-in-None.result } in
    kept_nowhere c.args.txn first _ (sym c.swap_remove.ensures.value ∙ c.in-None.is) refl c.new.ensures.items c.new-in-None.ensures rest keeps
