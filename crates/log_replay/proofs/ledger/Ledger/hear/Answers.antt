use Rattle.log_replay.proofs.Names.{sym, subst, after_record, LogRecord, Hears, StandsAt}
use Rattle.log_replay.proofs.ledger.Ledger.hear.Goals as goal

pub returns-in-Begin : goal.returns-in-Begin
returns-in-Begin c = λ pages next s popped later stands.
    subst (λ (rec : LogRecord). Hears c.begin.result (after_record pages c.args.lsn rec s) (λ now. StandsAt pages next now popped c.begin.new.self)) (sym c.in-Begin.is) (c.begin.ensures pages next s popped later stands)

pub returns-in-Update : goal.returns-in-Update
returns-in-Update c = λ pages next s popped later stands.
    subst (λ (rec : LogRecord). Hears c.update.result (after_record pages c.args.lsn rec s) (λ now. StandsAt pages next now popped c.update.new.self)) (sym c.in-Update.is) (c.update.ensures pages next s popped later stands)

pub returns-in-Clr : goal.returns-in-Clr
returns-in-Clr c = λ pages next s popped later stands.
    subst (λ (rec : LogRecord). Hears c.undo.result (after_record pages c.args.lsn rec s) (λ now. StandsAt pages next now popped c.undo.new.self)) (sym c.in-Clr.is) (c.undo.ensures pages next s popped later stands)

pub returns-in-Commit : goal.returns-in-Commit
returns-in-Commit c = λ pages next s popped later stands.
    subst (λ (rec : LogRecord). Hears c.commit.result (after_record pages c.args.lsn rec s) (λ now. StandsAt pages next now popped c.commit.new.self)) (sym c.in-Commit.is) (c.commit.ensures pages c.args.lsn next s popped later stands)

pub returns-in-End : goal.returns-in-End
returns-in-End c = λ pages next s popped later stands.
    subst (λ (rec : LogRecord). Hears c.end.result (after_record pages c.args.lsn rec s) (λ now. StandsAt pages next now popped c.end.new.self)) (sym c.in-End.is) (c.end.ensures pages c.args.lsn next s popped later stands)
