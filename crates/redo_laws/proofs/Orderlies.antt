-- A log that goes on whole_stays_orderly orderly.
use Rattle.std.proofs.lemmas.Grind.{common_steps}
use Rattle.redo_laws.proofs.Citing.{arith, ◌≡◌, ℕ, List, [], ◌∷◌, ◌++◌, sym, ap, subst, ◌∙◌, Master, logical_image_under, master_of, versions_on, InTurn-left, carries_more, whole_more, whole_stays_orderly, Follows, next_entries, Carries, whole, next_lsn, Entry, Version, LogicalImage, IsOrderly, AreOrderly, LogRecord, LogStore, PageStore, History, EndsWith, RunsOn, State, Geometry}
use Rattle.std.proofs.Common.{Option}

-- the sealed records of an orderly log are orderly
pub sealed_orderly : (p : LogicalImage) (tail : List LogRecord) (records : List Entry) (history : History) → RunsOn p tail records history → AreOrderly records → AreOrderly p.log
sealed_orderly p tail records history runs orderly = InTurn-left IsOrderly [] p.log (next_entries p tail) (subst AreOrderly (sym runs.records_are) orderly)

-- a record that follows an orderly log, and comes last in it, keeps it orderly
pub ends_orderly : (g : Geometry) (log : LogStore) (pages : PageStore) (site : State) (newest : Option Master) (records : List Entry) (history : History) (rec : LogRecord) (lsn : ℕ) (versions : List Version) →
    EndsWith g log pages site newest records history (record { lsn = lsn; rec = rec }) → versions_on g site.image ≡ versions → Follows (master_of newest) versions records (record { lsn = lsn; rec = rec }) →
    AreOrderly records → AreOrderly (records ++ record { lsn = lsn; rec = rec } ∷ [])
ends_orderly g log pages site newest records history rec lsn versions m same follows orderly =
    let p = logical_image_under newest g site.image m.blocks in
    let e : Entry = record { lsn = next_lsn p m.front; rec = rec } in
    let at : Follows (master_of newest) (versions_on g site.image) records e = grind (arith, common_steps) in
    let carries : Carries p (m.front ++ rec ∷ []) =
    carries_more p m.front rec m.runs_on.carries (subst (λ (l : List Entry). Follows p.master p.pages l e) (sym m.runs_on.records_are) at) in
    let are : whole p (m.front ++ rec ∷ []) ≡ records ++ record { lsn = lsn; rec = rec } ∷ [] =
    whole_more p m.front rec ∙ ap (λ (l : List Entry). l ++ e ∷ []) m.runs_on.records_are ∙ ap (λ (n : ℕ). records ++ record { lsn = n; rec = rec } ∷ []) (sym m.next) in
    subst AreOrderly are (whole_stays_orderly p (m.front ++ rec ∷ []) carries (sealed_orderly p m.front records history m.runs_on orderly))
