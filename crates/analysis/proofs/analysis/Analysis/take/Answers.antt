use Rattle.analysis.proofs.Names.{◌∷◌, [], ◌++◌, drop, refl, sym, ap, subst, arith, on_ok_weaker, Open, AscendFrom, owed_for, IsAnalysis, MayCome, listed, Entry, LogRecord, Begin, Update, Clr, Commit, End}
use Rattle.analysis.proofs.Maps.{either_way}
use Rattle.analysis.proofs.Tables.{owed_replaced, owed_taken, length-drop_one}
use Rattle.analysis.proofs.Reading.{no_commit, begin_read, goes_read, closes_read}
use Rattle.analysis.proofs.analysis.Analysis.take.Goals as goal

pub returns-in-Begin-clause-read : goal.returns-in-Begin-clause-read
returns-in-Begin-clause-read c m records is comes =
    let comes_here : MayCome records (record { lsn = c.args.lsn; rec = Begin }) = subst (λ (r : LogRecord). MayCome records (record { lsn = c.args.lsn; rec = r })) c.in-Begin.is comes in
    on_ok_weaker c.begin.result (λ begun.
    subst (λ (r : LogRecord). IsAnalysis m (records ++ record { lsn = c.args.lsn; rec = r } ∷ []) (record c.args.self.now { table = c.begin.new.self })) (sym c.in-Begin.is)
    (begin_read m records c.args.lsn c.args.self.now (record c.args.self.now { table = c.begin.new.self }) is refl comes_here begun)) c.begin.ensures.begun

pub returns-in-Update-clause-read : goal.returns-in-Update-clause-read
returns-in-Update-clause-read c m records is comes =
    let u = c.in-Update in
    let rec : LogRecord = Update u.txn u.prev u.page u.slot u.before u.after in
    let e : Entry = record { lsn = c.args.lsn; rec = rec } in
    on_ok_weaker c.update.result (λ more.
    subst (λ (r : LogRecord). IsAnalysis m (records ++ record { lsn = c.args.lsn; rec = r } ∷ []) (record c.args.self.now { table = c.update.new.self })) (sym u.is)
    (goes_read m records e c.args.self.now (record c.args.self.now { table = c.update.new.self }) is (no_commit m records c.args.self.now is) more refl))
    c.update.ensures.becomes

pub returns-in-Clr-clause-read : goal.returns-in-Clr-clause-read
returns-in-Clr-clause-read c m records is comes =
    let u = c.in-Clr in
    let rec : LogRecord = Clr u.txn u.prev u.undo_next u.page u.slot u.after in
    let e : Entry = record { lsn = c.args.lsn; rec = rec } in
    on_ok_weaker c.compensate.result (λ more.
    subst (λ (r : LogRecord). IsAnalysis m (records ++ record { lsn = c.args.lsn; rec = r } ∷ []) (record c.args.self.now { table = c.compensate.new.self })) (sym u.is)
    (goes_read m records e c.args.self.now (record c.args.self.now { table = c.compensate.new.self }) is (no_commit m records c.args.self.now is) more refl))
    c.compensate.ensures.becomes

pub returns-in-Ok-clause-read : goal.returns-in-Ok-clause-read
returns-in-Ok-clause-read c m records is comes =
    let u = c.in-Commit in
    let e : Entry = record { lsn = c.args.lsn; rec = Commit u.txn u.number } in
    let gone = c.in-Ok.ensures.closes in
    subst (λ (r : LogRecord). IsAnalysis m (records ++ record { lsn = c.args.lsn; rec = r } ∷ []) (record c.args.self.now { table = c.close.new.self; commits = c.saturating_add-self.result })) (sym u.is)
    (closes_read m records e c.args.self.now (record c.args.self.now { table = c.close.new.self; commits = c.saturating_add-self.result }) is c.saturating_add-self.ensures gone.takes.was gone.there gone.changes refl)

pub returns-in-End-clause-read : goal.returns-in-End-clause-read
returns-in-End-clause-read c m records is comes =
    let u = c.in-End in
    let e : Entry = record { lsn = c.args.lsn; rec = End u.txn } in
    on_ok_weaker c.close-in-End.result (λ gone.
    subst (λ (r : LogRecord). IsAnalysis m (records ++ record { lsn = c.args.lsn; rec = r } ∷ []) (record c.args.self.now { table = c.close-in-End.new.self })) (sym u.is)
    (closes_read m records e c.args.self.now (record c.args.self.now { table = c.close-in-End.new.self }) is (no_commit m records c.args.self.now is) gone.takes.was gone.there gone.changes refl))
    c.close-in-End.ensures.closes

pub returns-in-Update-clause-going : goal.returns-in-Update-clause-going
returns-in-Update-clause-going c = either_way c.update.result _ _ _ (λ more. more.changes.ascend) (λ same. subst (AscendFrom 0) (sym same) c.requires) c.update.ensures.becomes c.update.ensures.err

pub returns-in-Clr-clause-going : goal.returns-in-Clr-clause-going
returns-in-Clr-clause-going c = either_way c.compensate.result _ _ _ (λ more. more.changes.ascend) (λ same. subst (AscendFrom 0) (sym same) c.requires) c.compensate.ensures.becomes c.compensate.ensures.err

pub returns-in-Ok-clause-going : goal.returns-in-Ok-clause-going
returns-in-Ok-clause-going c = c.in-Ok.ensures.closes.changes.ascend

pub returns-in-End-clause-going : goal.returns-in-End-clause-going
returns-in-End-clause-going c = either_way c.close-in-End.result _ _ _ (λ gone. gone.changes.ascend) (λ same. subst (AscendFrom 0) (sym same) c.requires) c.close-in-End.ensures.closes c.close-in-End.ensures.err

pub returns-in-Begin-clause-owed : goal.returns-in-Begin-clause-owed
returns-in-Begin-clause-owed c = c.begin.ensures.owed

pub returns-in-Update-clause-owed : goal.returns-in-Update-clause-owed
returns-in-Update-clause-owed c =
    let old = listed c.args.self.now.table in
    either_way c.update.result _ _ _
    (λ more. omega (arith, owed_replaced old (listed c.update.new.self) c.in-Update.txn (λ (x : Open). record x { last = c.args.lsn; updates = c.args.lsn ∷ x.updates }) more.replaces))
    (λ same. omega (arith, ap owed_for same))
    c.update.ensures.becomes c.update.ensures.err

pub returns-in-Clr-clause-owed : goal.returns-in-Clr-clause-owed
returns-in-Clr-clause-owed c =
    let old = listed c.args.self.now.table in
    either_way c.compensate.result _ _ _
    (λ more. omega (arith, owed_replaced old (listed c.compensate.new.self) c.in-Clr.txn (λ (x : Open). record x { last = c.args.lsn; updates = drop 1 x.updates }) more.replaces, length-drop_one more.replaces.was.updates))
    (λ same. omega (arith, ap owed_for same))
    c.compensate.ensures.becomes c.compensate.ensures.err

pub returns-in-Ok-clause-owed : goal.returns-in-Ok-clause-owed
returns-in-Ok-clause-owed c = omega (arith, owed_taken (listed c.args.self.now.table) (listed c.close.new.self) c.in-Commit.txn c.in-Ok.ensures.closes.takes)

pub returns-in-End-clause-owed : goal.returns-in-End-clause-owed
returns-in-End-clause-owed c =
    let old = listed c.args.self.now.table in
    either_way c.close-in-End.result _ _ _
    (λ gone. omega (arith, owed_taken old (listed c.close-in-End.new.self) c.in-End.txn gone.takes))
    (λ same. omega (arith, ap owed_for same))
    c.close-in-End.ensures.closes c.close-in-End.ensures.err
