use Rattle.analysis.proofs.Names.{◌≡◌, ◌++◌, map, sym, ap, subst, ◌∙◌, append-nil, open_of, listed}
use Rattle.analysis.proofs.Maps.{note_more, undone_of}
use Rattle.analysis.proofs.analysis.Analysis.undone.Goals as goal

pub loop-txn-preserved : goal.loop-txn-preserved
loop-txn-preserved c =
    let items = c.loop-txn.txns.items in
    let all = undone_of (listed c.args.self.now.table) in
    note_more items c.note_undone.new.txns.items all (open_of (c.in-Some.txn.now, c.in-Some.transaction.now)) (map open_of c.next.new.self) c.in_ok-note_undone.ensures.noted
    (subst (λ rest. items ++ undone_of (map open_of rest) ≡ all) c.in-Some.ensures.steps c.loop-txn.invariant)

pub returns-clause-undone : goal.returns-clause-undone
returns-clause-undone c =
    sym (append-nil c.loop-txn.txns.items) ∙ ap (λ rest. c.loop-txn.txns.items ++ undone_of (map open_of rest)) (sym c.in-None.ensures.steps.0) ∙ c.loop-txn.invariant
