use Rattle.log_judge.proofs.Names.{◌≡◌, true, sym, ◌∙◌, is_begin}
use Rattle.log_judge.proofs.LeftOnes.{left_begins}
use Rattle.log_judge.proofs.Outcomes.{memory_as}
use Rattle.log_judge.proofs.unfinished.LeftTxns.hear.Goals as goal

pub returns-then-begins : goal.returns-then-begins
returns-then-begins c =
    let begins : is_begin c.args.rec.now ≡ true = sym c.begins.ensures ∙ c.if-begins.true in
    memory_as c.begin.result (λ x put records comes is.
    left_begins records comes.from c.args.lsn c.args.rec.now c.args.self.now.left c.begin.new.self.left begins comes.in_order comes.fresh is put) c.begin.ensures
