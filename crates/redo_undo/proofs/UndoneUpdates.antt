-- Undoing what analysis has found: which Updates are compensated, and what the cache has done for them.
use Rattle.redo_undo.proofs.Names.{History, ◌≡◌, ℕ, ◌+◌, ◌≤◌, ◌<◌, ◌==◌, true, List, [], ◌∷◌, ◌++◌, length, Option, Some, refl, sym, ap, subst, ◌∙◌, append_assoc, append-nil, ◌*◌, arith, add-one, length-reverse, filter_map-append, none-some, same_Some, Ok, Err, ⊤, find, option_map, ActiveIsUnfinished, Open, IsTop, Remains, IsTable, listed, Analysis, Master, kept_by, logical_image_under, Fall, left_falls, found_by_lsn, top_stands, Unfinished, next_lsn, Entry, txn_of, is_loser, last_where, undo_touch, AreOrderly, IsInOrder, left_open, pending, owed, Clr, End, LogStore, PageStore, Content, works_are, KeepsInvariant, Represents, Invariant, undo_works, works_of, IsLastAt, UndoesUpdates, IsUndoing, IsGreatest, UndoesWork, Undone, UndoCursor, RingOp, undo_work, undoing_one, undoing_work, State, Stop}
use Rattle.redo_undo.proofs.UndoCalls.{undoes_few, undoes_as, undoes_then, undoes_stopped, undoes_answered}
use Rattle.std.proofs.Common.{length-append}
use Rattle.std.specs.Prelude.{reverse}
use Rattle.redo_undo.proofs.Lasts.{split_at}
use Rattle.redo_undo.proofs.Found.{order, undoable, open_is, lives, head_of, one_more, one_end, nothing_undone, more_undone}
use Rattle.log_laws.proofs.Pendings.{last_is, none_last, waits, reversed, pending_after_clr, pending_after_end}

-- The last of all Updates that remain is the last one that its transaction has left.
pub last_is_left : (active : ActiveIsUnfinished) (log : LogStore) (pages : PageStore) (site : State) (newest : Option Master) (records : List Entry) (history : History) (found : Analysis) → Represents log pages site newest records history → IsTable [] records (listed found.table) →
    (txn lsn : ℕ) (u : Entry) → Remains (listed found.table) txn lsn → IsLastAt records txn lsn u → (rest : List Entry) × (left_open records txn ≡ u ∷ rest)
last_is_left active log pages site newest records history found h is txn lsn u remains last =
    let p = logical_image_under newest pages.flash.geometry site.image h.log_holds.blocks in
    let ordered = order active log pages site newest records history found h is in
    let said = open_is active log pages site newest records history found h is txn remains.x remains.there in
    let head = head_of (left_open records txn) lsn (subst (λ (y : Open). IsTop lsn y.updates) said.1 remains.top) in
    let next = top_stands (512 * kept_by newest) (next_lsn p h.log_holds.tail) records txn ordered
    ((undoable active log pages site newest records history found h is).undone txn (lives active log pages site newest records history found h is txn remains.x remains.there)) head.0 head.1 head.2 in
    let split = last_is (pending records) u last.last in
    let there = split_at (waits records) records split.0 u [] split.1 in
    let found_here = found_by_lsn (512 * kept_by newest) (next_lsn p h.log_holds.tail) there.0 u there.1 (subst (λ (l : List Entry). IsInOrder (512 * kept_by newest) l (next_lsn p h.log_holds.tail)) there.2 ordered) in
    let same : head.0 ≡ u = same_Some head.0 u
    (sym next.0.found ∙ ap (λ (n : ℕ). find (λ e. e.lsn == n) records) (head.3 ∙ sym last.at) ∙ ap (find (λ e. e.lsn == u.lsn)) there.2 ∙ found_here) in
    (head.1, head.2 ∙ ap (λ (v : Entry). v ∷ head.1) same)

-- One record more.

module _ (log : LogStore) (pages : PageStore) (site : State) (newest : Option Master) (records : List Entry) (history : History) (found : Analysis) where
  -- an End
  pub end_updates : (t lsn : ℕ) → left_open records t ≡ [] → Represents log pages site newest (records ++ record { lsn = lsn; rec = End t } ∷ []) history → IsTable [] (records ++ record { lsn = lsn; rec = End t } ∷ []) (listed found.table) →
      owed records ≡ owed (records ++ record { lsn = lsn; rec = End t } ∷ []) + 1 → (AreOrderly records → AreOrderly (records ++ record { lsn = lsn; rec = End t } ∷ [])) → UndoesUpdates log pages site newest records history found lsn []
  unfolding one_end one_more
  end_updates t lsn none h is owes orderly = record {
    some = one_end log pages site newest records history found t lsn h is owes orderly;
    left = sym (ap reverse (pending_after_end records lsn t none));
  }

  -- a CLR
  pub clr_updates : (x : Unfinished) (now : UndoCursor) (done : Undone log pages site newest records history x now) → IsTable [] (records ++ record { lsn = now.last; rec = Clr x.txn x.last now.next done.page done.slot done.before } ∷ []) (listed found.table) →
      ((t : ℕ) → is_loser records t ≡ true → 0 < length (left_open records t)) → (from to : ℕ) → IsInOrder from records to → (lsn : ℕ) (u : Entry) (rest : List Entry) → IsLastAt records x.txn lsn u → left_open records x.txn ≡ u ∷ rest →
      UndoesUpdates log pages site newest records history found now.last (u ∷ [])
  unfolding one_more
  clr_updates x now done is remain from to ordered lsn u rest last left =
      let greatest : IsGreatest records x.txn = (u, last.last, last.own) in
      let own : left_open records (txn_of done.e) ≡ u ∷ rest = ap (left_open records) done.own ∙ left in
      let falls = (subst Fall left (left_falls from to records x.txn ordered)).0 in
      subst (λ (n : ℕ). UndoesUpdates log pages site newest records history found n (u ∷ [])) (ap (λ (e : Entry). e.lsn) done.e_is) (record {
        some = one_more log pages site newest records history found done.e done.holds (subst (λ (e : Entry). IsTable [] (records ++ e ∷ []) (listed found.table)) (sym done.e_is) is)
            (record { ends_first = λ clr. remain; greatest = λ clr. subst (IsGreatest records) (sym done.own) greatest }) done.owes done.orderly;
        left = reversed (pending records) (pending (records ++ done.e ∷ [])) u
            (pending_after_clr records done.e u rest done.clr own falls from to ordered last.last (last.own ∙ sym done.own));
      })

-- More records.

pub no_updates : (log : LogStore) (pages : PageStore) (site : State) (newest : Option Master) (records : List Entry) (history : History) (found : Analysis) (known : ℕ) → IsUndoing log pages site newest records history found known →
    UndoesUpdates log pages site newest records history found known []
unfolding nothing_undone
no_updates log pages site newest records history found known is = record {
  some = nothing_undone log pages site newest records history found known is;
  left = sym (ap (λ (l : List Entry). reverse (pending l)) (append-nil records));
}

pub more_updates : (log log' : LogStore) (pages pages' : PageStore) (site site' : State) (newest : Option Master) (records : List Entry) (history : History) (found found' : Analysis) (known known' : ℕ) (first later : List Entry) →
    (a : UndoesUpdates log pages site newest records history found known first) → UndoesUpdates log' pages' site' newest (records ++ a.some.more) history found' known' later →
    UndoesUpdates log' pages' site' newest records history found' known' (first ++ later)
unfolding more_undone
more_updates log log' pages pages' site site' newest records history found found' known known' first later a b = record {
  some = more_undone log log' pages pages' site site' newest records history found found' known known' a.some b.some;
  left = a.left ∙ ap (λ (l : List Entry). first ++ l) b.left ∙ sym (append_assoc first later (reverse (pending ((records ++ a.some.more) ++ b.some.more))))
      ∙ ap (λ (l : List Entry). (first ++ later) ++ reverse (pending l)) (append_assoc records a.some.more b.some.more);
}

-- What analysis undoes next.

pub next_is_last : (records : List Entry) (next : Option (ℕ × ℕ)) (at : ℕ × ℕ) → next ≡ Some at → next ≡ option_map (λ (u : Entry). record { 0 = txn_of u; 1 = u.lsn }) (last_where (λ v. true) (pending records)) →
    (u : Entry) × IsLastAt records at.0 at.1 u
next_is_last records next at some is = grind (arith, none-some, same_Some)

pub last_in_front : (records : List Entry) (txn lsn : ℕ) (u : Entry) → IsLastAt records txn lsn u → (rest : List Entry) × (reverse (pending records) ≡ u ∷ rest)
last_in_front records txn lsn u last =
    let split = last_is (pending records) u last.last in
    (reverse split.0, reversed (pending records) split.0 u split.1)

pub none_is_next : (records : List Entry) (next : Option (ℕ × ℕ)) → ((at : ℕ × ℕ) → next ≡ Some at → ⊥) → next ≡ option_map (λ (u : Entry). record { 0 = txn_of u; 1 = u.lsn }) (last_where (λ v. true) (pending records)) →
    pending records ≡ []
none_is_next records next never is = grind (arith, none_last)

-- Some are undone, and what remains is to be done.
pub record UndoesSoFar (log : LogStore) (pages : PageStore) (site : State) (newest : Option Master) (records : List Entry) (history : History) (found : Analysis) (known : ℕ) (start : LogStore) (old : PageStore) (before : State) (logged : ℕ) : Type 0 where
  pub done : List Entry
  pub updates : UndoesUpdates log pages site newest records history found known done
  pub worked : List RingOp
  pub left_is : undo_work records ≡ worked ++ undoing_work (reverse (pending (records ++ updates.some.more)))
  pub does : UndoesWork {T = ⊤} (Ok tt) worked (works_of done) start log old pages before site newest history logged (length done)

-- one Update more is undone
pub updates_undone_more : {B : Type 0} {b : B} {log log' : LogStore} {pages pages' : PageStore} {site site' : State} {newest : Option Master} {records : List Entry} {history : History} {found found' : Analysis} {known known' : ℕ} {start : LogStore} {old : PageStore} {before : State} {n n' m : ℕ}
    (a : UndoesSoFar log pages site newest records history found known start old before n) {u : Entry} → n + n' ≤ m → Represents start old before newest records history → KeepsInvariant {T = ⊤} (Ok tt) start log old pages before site →
    UndoesUpdates log' pages' site' newest (records ++ a.updates.some.more) history found' known' (u ∷ []) →
    ((earlier : List Entry) → reverse (pending (records ++ a.updates.some.more)) ≡ u ∷ earlier → UndoesWork {T = B} (Ok b) (undoing_one u earlier) (works_of (u ∷ [])) log log' pages pages' site site' newest history n' 1) → UndoesSoFar log' pages' site' newest records history found' known' start old before m
unfolding more_updates
updates_undone_more {log = log} {log' = log'} {pages = pages} {pages' = pages'} {site = site} {site' = site'} {newest = newest} {records = records} {history = history} {found = found} {found' = found'} {known = known} {known' = known'} a {u = u} few h works more one =
    let earlier = reverse (pending ((records ++ a.updates.some.more) ++ more.some.more)) in
    let same : undoing_work earlier ≡ undoing_work (reverse (pending (records ++ (a.updates.some.more ++ more.some.more)))) = ap (λ (l : List Entry). undoing_work (reverse (pending l))) (append_assoc records a.updates.some.more more.some.more) in
    record {
      done = a.done ++ u ∷ [];
      updates = more_updates log log' pages pages' site site' newest records history found found' known known' a.done (u ∷ []) a.updates more;
      worked = a.worked ++ undoing_one u earlier;
      left_is = a.left_is ∙ ap (λ (l : List Entry). a.worked ++ undoing_work l) more.left ∙ sym (append_assoc a.worked (undoing_one u earlier) (undoing_work earlier)) ∙ ap (λ (w : List RingOp). (a.worked ++ undoing_one u earlier) ++ w) same;
      does = undoes_few few (omega (arith, length-append a.done (u ∷ []))) (undoes_as refl (filter_map-append undo_touch a.done (u ∷ [])) (undoes_answered (undoes_then h works a.does (one earlier more.left))));
    }

-- it stops there
pub updates_undone_stopped : {B C : Type 0} {stop : Stop} {log log' : LogStore} {pages pages' : PageStore} {site site' : State} {newest : Option Master} {records : List Entry} {history : History} {found : Analysis} {known : ℕ} {start : LogStore} {old : PageStore} {before : State} {n n' m : ℕ}
    (a : UndoesSoFar log pages site newest records history found known start old before n) (u : Entry) (txn lsn : ℕ) → IsLastAt (records ++ a.updates.some.more) txn lsn u → n + n' ≤ m → Invariant start old before → Represents start old before newest records history → KeepsInvariant {T = ⊤} (Ok tt) start log old pages before site →
    ((earlier : List Entry) → reverse (pending (records ++ a.updates.some.more)) ≡ u ∷ earlier → UndoesWork {T = B} (Err stop) (undoing_one u earlier) (works_of (u ∷ [])) log log' pages pages' site site' newest history n' 1) →
    UndoesWork {T = C} (Err stop) (undo_work records) (undo_works records) start log' old pages' before site' newest history m (length (pending records))
updates_undone_stopped {records = records} a u txn lsn last few going h works one =
    let front = last_in_front (records ++ a.updates.some.more) txn lsn u last in
    let is : undo_work records ≡ (a.worked ++ undoing_one u front.0) ++ undoing_work front.0 = a.left_is ∙ ap (λ (l : List Entry). a.worked ++ undoing_work l) front.1 ∙ sym (append_assoc a.worked (undoing_one u front.0) (undoing_work front.0)) in
    let left : reverse (pending records) ≡ a.done ++ u ∷ front.0 = a.updates.left ∙ ap (λ (l : List Entry). a.done ++ l) front.1 in
    let long : length (pending records) ≡ length a.done + (length front.0 + 1) = sym (length-reverse (pending records)) ∙ ap length left ∙ length-append a.done (u ∷ front.0) ∙ ap (λ (n : ℕ). length a.done + n) (sym (add-one (length front.0))) in
    undoes_few few (omega (arith, long)) (undoes_as is (ap works_of left ∙ works_are a.done front.0 u) (undoes_stopped (undoing_work front.0) (works_of front.0) going (undoes_then h works a.does (one front.0 front.1))))

-- or all are undone
pub updates_undone : {B : Type 0} {b : B} {log : LogStore} {pages : PageStore} {site : State} {newest : Option Master} {records : List Entry} {history : History} {found : Analysis} {known : ℕ} {start : LogStore} {old : PageStore} {before : State} {n m : ℕ}
    (a : UndoesSoFar log pages site newest records history found known start old before n) → n ≤ m → pending (records ++ a.updates.some.more) ≡ [] →
    UndoesWork {T = B} (Ok b) (undo_work records) (undo_works records) start log old pages before site newest history m (length (pending records))
updates_undone {records = records} a few none =
    let left : reverse (pending records) ≡ a.done = a.updates.left ∙ ap (λ (l : List Entry). a.done ++ reverse l) none ∙ append-nil a.done in
    let long : length (pending records) ≡ length a.done = sym (length-reverse (pending records)) ∙ ap length left in
    undoes_few few (omega (arith, long)) (undoes_as (a.left_is ∙ ap (λ (l : List Entry). a.worked ++ undoing_work (reverse l)) none ∙ append-nil a.worked) (ap works_of left) (undoes_answered a.does))
