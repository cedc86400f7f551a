use Rattle.redo_undo.proofs.Names.{◌≡◌, ◌∙◌, ◌∷◌, [], ◌++◌, ◌+◌, ◌≤◌, ℕ, List, Option, Ok, Err, IsTrue, subst, refl, arith, Master, StandsFor, LeavesEitherFor, LeavesSome, History, settled, writes_in, Entry, Commit, Content, table_with, MayCommit, asks_then, asks_ok, asks_err, force, performs_then, performs_stopped, performs_answered, performs_failed, holds_now, LeavesOnly, State, Snapshot, Geometry, TransactionStore, sizes_of, Performs, Rules, MirrorsStore, force_work}
use Rattle.redo_laws.proofs.Committed.{awaits, before_left, either_left, next_is, next_to, table_after_it}
use Rattle.redo_undo.proofs.StoreCalling.{keeps_answered, keeps_failed, keeps_then, keeps_weaker, works_answered, works_failed, works_then}
use Rattle.redo_undo.proofs.store.TransactionStore.commit.Given.{Over}
use Rattle.redo_undo.proofs.store.TransactionStore.commit.Goals.{After-seal}
use Rattle.redo_undo.specs.Stores.{Holds, Represents}
use Rattle.redo_undo.proofs.store.TransactionStore.commit.Goals as goal

-- where no commit waits one more may
waits : (store : TransactionStore) (site : State) (newest : Option Master) (records : List Entry) (table after : List Content) (commits : ℕ) → Represents store site newest records table commits → Holds store site newest records (next_to table after commits)
waits store site newest records table after commits held = record { both = awaits store.log store.pages site newest records table after commits held.both; orderly = held.orderly; masters = held.masters }

-- The Commit is the last record, and is sealed.
module _ (g : Over) (c : After-seal g) (newest : Option Master) (records : List Entry) (table : List Content) (commits : ℕ) (held : Represents c.args.self.now (g.S.Site.state c.args.site.now) newest records table commits)
    (may : MayCommit newest records c.args.txn c.args.number commits) where
  abbrev old : State
  old = g.S.Site.state c.args.site.now

  abbrev mid : State
  mid = g.S.Site.state c.log_commit.new.site

  abbrev sizes : Geometry
  sizes = sizes_of c.args.self.now

  abbrev after : List Content
  after = table_with table (writes_in c.args.txn records)

  abbrev first : History
  first = next_to table after commits

  abbrev last : History
  last = record (next_to table after commits) { commits = commits + 1 }

  logged : Holds c.log_commit.new.self mid newest (records ++ record { lsn = c.in-Ok.lsn; rec = Commit c.args.txn c.args.number } ∷ []) last
  logged = c.in-Ok.ensures.holds newest records first (waits c.args.self.now old newest records table after commits held) may (table_after_it table after commits (λ t. table_with t (writes_in c.args.txn records)) refl)

  late : LeavesOnly old mid (LeavesSome sizes first old.told) → (s : Snapshot) → LeavesSome (sizes_of c.log_commit.new.self) last mid.told s → LeavesEitherFor sizes table after commits old.told s
  late begun s left = either_left sizes table after commits old.told s (record {
    told = left.told ∙ (holds_now old mid (LeavesSome sizes first old.told) begun).told;
    count = left.count;
    from_floor = left.from_floor;
    within = left.within;
    stands = subst (λ (x : Geometry). StandsFor x s.image (last.tables left.count) left.count) c.in-Ok.ensures.works.sizes left.stands;
  })

pub returns-in-Ok-seal-clause-holds : goal.returns-in-Ok-seal-clause-holds
returns-in-Ok-seal-clause-holds g c newest records table commits held may =
    let s = (goal.at.returns-in-Ok-seal-clause-holds g c).After-seal in
    let now : List Entry = records ++ record { lsn = c.in-Ok.lsn; rec = Commit c.args.txn c.args.number } ∷ [] in
    subst (λ (t : List Content). Represents c.seal.new.self (g.S.Site.state c.seal.new.site) newest now t (commits + 1)) (next_is table (after g s newest records table commits held may) commits)
    (c.in-Ok-seal.ensures.holds newest now (last g s newest records table commits held may) (logged g s newest records table commits held may))

pub returns-in-Err-clause-keeps : goal.returns-in-Err-clause-keeps
returns-in-Err-clause-keeps g c newest records table commits held may =
    let after : List Content = table_with table (writes_in c.args.txn records) in
    keeps_weaker (before_left (sizes_of c.args.self.now) table after commits (g.S.Site.state c.args.site.now).told)
    (c.in-Err.ensures.keeps newest records (next_to table after commits) (waits c.args.self.now (g.S.Site.state c.args.site.now) newest records table after commits held))

pub returns-in-Err-seal-clause-keeps : goal.returns-in-Err-seal-clause-keeps
returns-in-Err-seal-clause-keeps g c newest records table commits held may =
    let s = (goal.at.returns-in-Err-seal-clause-keeps g c).After-seal in
    let after : List Content = table_with table (writes_in c.args.txn records) in
    keeps_then held.both.log_holds.ready.blocks.honest (before_left (sizes_of c.args.self.now) table after commits (g.S.Site.state c.args.site.now).told) (late g s newest records table commits held may) c.in-Ok.ensures.works
    (c.in-Ok.ensures.keeps newest records (next_to table after commits) (waits c.args.self.now (g.S.Site.state c.args.site.now) newest records table after commits held))
    (keeps_failed (c.in-Err-seal.ensures.keeps newest _ (last g s newest records table commits held may) (logged g s newest records table commits held may)))

pub returns-in-Ok-seal-clause-keeps : goal.returns-in-Ok-seal-clause-keeps
returns-in-Ok-seal-clause-keeps g c newest records table commits held may =
    let s = (goal.at.returns-in-Ok-seal-clause-keeps g c).After-seal in
    let after : List Content = table_with table (writes_in c.args.txn records) in
    keeps_then held.both.log_holds.ready.blocks.honest (before_left (sizes_of c.args.self.now) table after commits (g.S.Site.state c.args.site.now).told) (late g s newest records table commits held may) c.in-Ok.ensures.works
    (c.in-Ok.ensures.keeps newest records (next_to table after commits) (waits c.args.self.now (g.S.Site.state c.args.site.now) newest records table after commits held))
    (keeps_answered (c.in-Ok-seal.ensures.keeps newest _ (last g s newest records table commits held may) (logged g s newest records table commits held may)))

pub returns-in-Err-seal-clause-works : goal.returns-in-Err-seal-clause-works
returns-in-Err-seal-clause-works g c = works_failed (works_then c.in-Ok.ensures.works c.in-Err-seal.ensures.works)

pub returns-in-Ok-seal-clause-works : goal.returns-in-Ok-seal-clause-works
returns-in-Ok-seal-clause-works g c = works_answered (works_then c.in-Ok.ensures.works c.in-Ok-seal.ensures.works)

pub returns-in-Err-seal-clause-asks : goal.returns-in-Err-seal-clause-asks
returns-in-Err-seal-clause-asks g c = asks_err c.in-Err-seal.stop _ _ _ _ _ (asks_then c.in-Ok.lsn _ [] [] _ _ _ _ _ _ c.in-Ok.ensures.asks c.in-Err-seal.ensures.asks)

pub returns-in-Ok-seal-clause-asks : goal.returns-in-Ok-seal-clause-asks
returns-in-Ok-seal-clause-asks g c = asks_ok tt c.in-Ok.lsn _ _ _ _ _ (asks_then c.in-Ok.lsn _ [] [] _ _ _ _ _ _ c.in-Ok.ensures.asks c.in-Ok-seal.ensures.asks)

pub returns-in-Err-seal-clause-reads : goal.returns-in-Err-seal-clause-reads
returns-in-Err-seal-clause-reads g c = λ d. c.seal.ensures.reads d ∙ c.log_commit.ensures.reads d

pub returns-in-Ok-seal-clause-reads : goal.returns-in-Ok-seal-clause-reads
returns-in-Ok-seal-clause-reads g c = λ d. c.seal.ensures.reads d ∙ c.log_commit.ensures.reads d

pub returns-in-Ok-seal-clause-rises : goal.returns-in-Ok-seal-clause-rises
returns-in-Ok-seal-clause-rises g c = (c.in-Ok.ensures.rises.0, let before = c.in-Ok.ensures.rises.1 in let more = c.in-Ok-seal.ensures.works.rises in omega (arith, before, more))

-- What it makes of the machine.

pub returns-in-Err-clause-performs : goal.returns-in-Err-clause-performs
returns-in-Err-clause-performs g c newest records table commits held = performs_stopped (force ∷ []) (c.in-Err.ensures.performs newest records (settled table commits) held)

pub returns-in-Err-seal-clause-performs : goal.returns-in-Err-seal-clause-performs
returns-in-Err-seal-clause-performs g c newest records table commits held =
    performs_then (c.in-Ok.ensures.performs newest records (settled table commits) held)
    (subst (λ (k : Rules). Performs {T = ℕ} (Err c.in-Err-seal.stop) k force_work (MirrorsStore c.log_commit.new.self (g.S.Site.state c.log_commit.new.site).image) (MirrorsStore c.seal.new.self (g.S.Site.state c.seal.new.site).image)) c.in-Ok.ensures.asks.rules_are
    (performs_failed {A = Unit {0}} (c.in-Err-seal.ensures.performs (c.in-Ok.ensures.next newest records (settled table commits) held))))

pub returns-in-Ok-seal-clause-performs : goal.returns-in-Ok-seal-clause-performs
returns-in-Ok-seal-clause-performs g c newest records table commits held =
    performs_then (c.in-Ok.ensures.performs newest records (settled table commits) held)
    (subst (λ (k : Rules). Performs {T = ℕ} (Ok c.in-Ok.lsn) k force_work (MirrorsStore c.log_commit.new.self (g.S.Site.state c.log_commit.new.site).image) (MirrorsStore c.seal.new.self (g.S.Site.state c.seal.new.site).image)) c.in-Ok.ensures.asks.rules_are
    (performs_answered (c.in-Ok-seal.ensures.performs (c.in-Ok.ensures.next newest records (settled table commits) held))))
