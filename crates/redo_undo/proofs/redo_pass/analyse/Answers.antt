use Rattle.redo_undo.proofs.Names.{◌≡◌, true, sym, ◌∙◌, true≢false, is_taken, seen, heard_of}
use Rattle.redo_undo.proofs.redo_pass.analyse.Goals as goal

pub returns-clause-readable : goal.returns-clause-readable
returns-clause-readable c records h steps is =
    let m = seen c.args.master.now in
    let here : is_taken m (record { lsn = c.args.lsn; rec = c.args.rec.now }) ≡ true = sym c.is_heard.ensures ∙ c.if-not-is_heard.false in
    let none = (c.step.ensures.foreign m (heard_of m records) h).0 is in
    true≢false (sym ((steps here).active none.0) ∙ none.1)
