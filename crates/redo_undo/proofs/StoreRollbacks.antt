-- A session's transaction is undone, CLR by CLR, and its End is logged.
use Rattle.redo_undo.proofs.Names.{History, Option, ◌≡◌, ℕ, Bool, cond, take, ◌+◌, ◌-◌, ◌*◌, ◌≤◌, List, [], ◌∷◌, ◌++◌, length, refl, sym, ap, subst, ◌∙◌, arith, and_right, eq-eqb, ne_eqb, filter-append, Master as Saved, master_of, logical_image_under, active_stays, entries_other, entries_own, loser_stays, open_more, whole_is_undoable, whole_in_order, active_is_unfinished, IsUnfinished, IsActive, IsUndoable, next_lsn, Entry, txn_of, is_of, is_update, is_closing, entries_of, updates_in, IsInOrder, IsOpen, Fields as Master, open_updates, owed, End, Content, Write, blocks_to, AreClrsOf, ConcernsOnly, RollsBackOver, GoesBackOver, sizes_of, TransactionStore, Finds, State}
use Rattle.log_laws.proofs.Pendings.{not_closing}
use Rattle.std.proofs.lemmas.List.{append_assoc, append-nil}
use Rattle.log_laws.proofs.Standing.{standing_dropped}
use Rattle.redo_undo.specs.Stores.{Holds}
use Rattle.redo_undo.specs.Rollback as undone

-- one more record of the transaction
pub concerns_more : (newest : Option Saved) (txn : ℕ) (before now : List Entry) (e : Entry) → txn_of e ≡ txn → ConcernsOnly newest txn before now → ConcernsOnly newest txn before (now ++ e ∷ [])
concerns_more newest txn before now e own concerns = record {
  under_way = λ t last writes differ active. active_stays (master_of newest) now e t last writes (concerns.under_way t last writes differ active) (ne_eqb (txn_of e) t (λ same. differ (sym same ∙ own)));
  losers = λ t differ. loser_stays now e t (ne_eqb (txn_of e) t (λ same. differ (sym same ∙ own))) ∙ concerns.losers t differ;
  left = λ t differ. ap (open_updates []) (entries_other now e t (ne_eqb (txn_of e) t (λ same. differ (sym same ∙ own)))) ∙ concerns.left t differ;
  entries = λ t differ. entries_other now e t (ne_eqb (txn_of e) t (λ same. differ (sym same ∙ own))) ∙ concerns.entries t differ;
}

-- so are its CLRs
pub concerns_clrs : (newest : Option Saved) (txn : ℕ) (before now clrs : List Entry) → AreClrsOf txn clrs → ConcernsOnly newest txn before now → ConcernsOnly newest txn before (now ++ clrs)
concerns_clrs newest txn before now [] own concerns = grind (arith, append-nil)
concerns_clrs newest txn before now (e ∷ clrs) own concerns = grind (arith, append_assoc, concerns_more, (concerns_clrs newest txn before (now ++ e ∷ []) clrs own.1 (concerns_more newest txn before now e own.0.1 concerns)))

-- A session's transaction is unfinished, and all its writes that stand remain to be undone. That reads no more records than it has Updates.
pub active_left : (store : TransactionStore) (site : State) (newest : Option Saved) (records : List Entry) (history : History) (begin last : ℕ) (writes : List Write) → Holds store site newest records history → IsActive (master_of newest) records begin last writes →
    (chain : List Entry) × IsUnfinished records (record { txn = begin; last = last; next = last; remaining = length writes; chain = chain }) × (length chain ≤ length (updates_in (entries_of begin records)))
active_left store site newest records history begin last writes h active =
    let log = h.both.log_holds in
    let p = logical_image_under newest (sizes_of store) site.image log.blocks in
    active_is_unfinished (master_of newest) (512 * p.master.kept) (next_lsn p log.tail) records begin last writes
    (subst (λ (l : List Entry). IsInOrder (512 * p.master.kept) l (next_lsn p log.tail)) log.runs_on.records_are (whole_in_order p log.tail log.runs_on.carries)) active

-- It is undone as a whole, and the ring of master units stands as before.
pub rolls_back : (store last : TransactionStore) (old new : State) (newest : Option Saved) (records : List Entry) (history : History) (begin at writes : ℕ) (made : List Write) → Holds store old newest records history → IsActive (master_of newest) records begin at made → length made ≡ writes →
    undone.RollsBack last.log last.pages new newest records history begin → Finds last.masters new → RollsBackOver last new newest records history begin writes
rolls_back store last old new newest records history begin at writes made h active many u masters =
    let unfinished = (active_left store old newest records history begin at made h active).1 in
    let e : Entry = record { lsn = u.lsn; rec = End begin } in
    record {
      log = (records ++ u.clrs) ++ e ∷ [];
      concerns = concerns_more newest begin records (records ++ u.clrs) e refl (concerns_clrs newest begin records records u.clrs u.own (record { under_way = λ t last writes differ active. active; losers = λ t differ. refl; left = λ t differ. refl; entries = λ t differ. refl }));
      holds = record { both = u.holds; orderly = u.orderly h.orderly; masters = masters };
      closed = u.closed;
      owes = omega (arith, u.owes, u.count, unfinished.remaining_is, many);
    }

-- a transaction of so many writes is undone, and there is room to undo what else is owed
pub has_room : (last : TransactionStore) (new : State) (newest : Option Saved) (records : List Entry) (history : History) (begin writes more : ℕ) → RollsBackOver last new newest records history begin writes → owed records ≡ more + (writes + 1) →
    blocks_to last.log + more ≤ last.log.kept + ((sizes_of last).blocks - 1)
has_room last new newest records history begin writes more back is =
    omega (arith, back.holds.both.log_holds.room, back.owes, is)

-- Its last writes are undone.

-- CLRs leave a transaction open, and leave its Updates
open_stays : (m : Master) (records clrs : List Entry) (t : ℕ) → AreClrsOf t clrs → IsOpen m records t → IsOpen m (records ++ clrs) t
open_stays m records [] t own lives = grind (arith, append-nil)
open_stays m records (e ∷ clrs) t own lives = grind (arith, append_assoc, open_more, and_right, not_closing, (open_stays m (records ++ e ∷ []) clrs t own.1 (open_more m records e t lives (and_right (is_of t e) (is_closing e.rec) (not_closing e.rec own.0.0).0))))

updates_stay : (records clrs : List Entry) (t : ℕ) → AreClrsOf t clrs → updates_in (entries_of t (records ++ clrs)) ≡ updates_in (entries_of t records)
updates_stay records [] t own = ap (λ (l : List Entry). updates_in (entries_of t l)) (append-nil records)
updates_stay records (e ∷ clrs) t own =
    ap (λ (l : List Entry). updates_in (entries_of t l)) (sym (append_assoc records (e ∷ []) clrs)) ∙ updates_stay (records ++ e ∷ []) clrs t own.1
    ∙ ap updates_in (entries_own records e t (eq-eqb (txn_of e) t own.0.1)) ∙ filter-append (λ (x : Entry). is_update x.rec) (entries_of t records) (e ∷ [])
    ∙ ap (λ (b : Bool). updates_in (entries_of t records) ++ cond b (e ∷ []) []) (not_closing e.rec own.0.0).1 ∙ append-nil (updates_in (entries_of t records))

pub goes_back : (store last : TransactionStore) (old new : State) (newest : Option Saved) (records : List Entry) (history : History) (begin at count lsn : ℕ) (writes : List Write) → Holds store old newest records history → IsActive (master_of newest) records begin at writes →
    undone.UndoesLast last.log last.pages new newest records history begin count lsn → Finds last.masters new → GoesBackOver last new newest records history begin count writes lsn
goes_back store last old new newest records history begin at count lsn writes h active u masters =
    let now = u.holds.log_holds in
    let p = logical_image_under newest (sizes_of last) new.image now.blocks in
    let undoable : IsUndoable (records ++ u.clrs) = subst IsUndoable now.runs_on.records_are (whole_is_undoable p now.tail now.runs_on.carries) in
    record {
      log = records ++ u.clrs;
      concerns = concerns_clrs newest begin records records u.clrs u.own (record { under_way = λ t last writes differ active. active; losers = λ t differ. refl; left = λ t differ. refl; entries = λ t differ. refl });
      holds = record { both = u.holds; orderly = u.orderly h.orderly; masters = masters };
      under_way = record {
        lives = open_stays (master_of newest) records u.clrs begin u.own active.lives;
        chain = undoable.undone begin u.loser;
        last_is = u.last_is;
        writes_are = ap (λ (w : List Write). take (length w - count) w) active.writes_are ∙ sym (standing_dropped records (records ++ u.clrs) begin count u.left);
      };
      left = u.left;
      updates = updates_stay records u.clrs begin u.own;
      owes = u.owes;
    }
