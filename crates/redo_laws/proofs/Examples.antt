-- What one Commit behind a settled log changes, said as for one table.
use Rattle.redo_laws.proofs.Citing.{◌≡◌, ℕ, ◌+◌, sym, ap, ◌∙◌, List, [], ◌∷◌, ◌++◌, Master, LogicalImage, LogRecord, Entry, Carries, whole, writes_in, Content, table_with, settled, RunsOn, LeavesSomeUnder, StandsUnder, LeavesEitherUnder, leaves_weaker, LeavesOnly, State, Geometry}
use Rattle.std.specs.Prelude.{Option}
use Rattle.log_records.specs.declared.log_record.LogRecord.TheVariants.{Commit}
use Rattle.log_records.specs.Log.{table_of}
use Rattle.log_laws.proofs.Tails.{tail_with_commit}
use Rattle.image_meaning.specs.Moments.{LeavesEitherFor}
use Rattle.image_meaning.proofs.Leaving.{under_leaves_either_for}
use Rattle.redo_laws.proofs.Runs.{means_settled, none_settled}
use Rattle.redo_laws.proofs.Committed.{first_or_next, next_to}

-- all records show the table with the writes of its transaction
pub commit_shown : (p : LogicalImage) (front : List LogRecord) (txn number : ℕ) (records : List Entry) (table : List Content) (commits : ℕ) → RunsOn p front records (settled table commits) → Carries p (front ++ Commit txn number ∷ []) →
    table_of (whole p (front ++ Commit txn number ∷ [])) p.pages ≡ table_with table (writes_in txn records)
commit_shown p front txn number records table commits runs carries =
    tail_with_commit p front txn number carries (none_settled p front records table commits runs)
    ∙ ap (λ (t : List Content). table_with t (writes_in txn (whole p front))) (sym (means_settled p front records table commits runs).table_is)
    ∙ ap (λ (l : List Entry). table_with table (writes_in txn l)) runs.records_are

-- and a crash leaves that table, or the one before
pub either_under : (newest : Option Master) (g : Geometry) (old new : State) (before after : List Content) (commits : ℕ) (so_far : List ℕ) → LeavesOnly old new (LeavesSomeUnder newest g (record (next_to before after commits) { commits = commits + 1 }) so_far) →
    LeavesOnly old new (LeavesEitherFor g before after commits so_far)
either_under newest g old new before after commits so_far leaves =
    under_leaves_either_for newest g old new before after commits so_far
    (leaves_weaker old new (LeavesSomeUnder newest g (record (next_to before after commits) { commits = commits + 1 }) so_far) (LeavesEitherUnder newest g before after commits so_far)
    (λ s left. record { told = left.told; stands = first_or_next (StandsUnder newest g s.image) before after commits left.count left.from_floor left.within left.stands }) leaves)
