-- What undoing has done for some CLRs of a transaction.
use Rattle.redo_undo.proofs.Names.{History, ◌≡◌, ℕ, ◌+◌, ◌≤◌, ◌<◌, Bool, true, List, [], ◌∷◌, ◌++◌, drop, take, append_assoc, append-nil, sym, ap, ◌∙◌, arith, length, eq-eqb, ne_eqb, length-append, filter_map-append, Ok, Err, ⊤, Result, IfOk, OnOk, if◌then◌else◌, Master, left_after_clr, update_is_last, Unfinished, IsUnfinished, Entry, is_update, updates_in, undo_touch, left_open, LogStore, PageStore, Content, KeepsInvariant, Represents, blocks_to, works_of, clrs_for, Compensates, UndoesWork, IsAt, Undone, Passed, clrs_logged, UndoCursor, clr_work, State, Stop}
use Rattle.std.specs.Prelude.{Option}
use Rattle.redo_undo.proofs.Rollbacks.{starts, goes_on, passes_on}
use Rattle.redo_undo.proofs.UndoCalls.{undoes_answered, undoes_as, undoes_few, undoes_nothing, undoes_then}
use Rattle.redo_undo.proofs.UndoneWork.{clrs_more}

one_read : (read all : ℕ) (chained : List Entry) (e : Entry) (rest : List Entry) → chained ≡ e ∷ rest → read + length chained ≡ all → (read + 1) + length (drop 1 chained) ≡ all
one_read read all chained e rest split are = let long = ap length split in let behind = ap (λ (l : List Entry). length (drop 1 l)) split in omega (arith, long, behind, are)

-- the Update that is read next is the first one that is left
pub left_is : {log : LogStore} {pages : PageStore} {site : State} {newest : Option Master} {records : List Entry} {history : History} {txn blocks : ℕ} {now : UndoCursor} (made : Compensates log pages site newest records history txn blocks now) (u : Entry) (rest : List Entry) → made.x.chain ≡ u ∷ rest → is_update u.rec ≡ true →
    left_open (records ++ made.clrs) txn ≡ u ∷ updates_in rest
left_is {records = records} made u rest split update = ap (left_open (records ++ made.clrs)) (sym made.same) ∙ update_is_last (records ++ made.clrs) made.x made.left u rest split update

-- How many CLRs a step has logged.

pub logged_few : (before now : UndoCursor) → clrs_logged before now ≤ 1
logged_few before now = grind (arith)

pub logged_one : (before now : UndoCursor) → before.last < now.last → clrs_logged before now ≡ 1
logged_one before now later = ap (λ (b : Bool). if b then 0 else 1) (ne_eqb now.last before.last (λ same. omega (arith, same, later)))

pub logged_none : (before now : UndoCursor) → now.last ≡ before.last → clrs_logged before now ≡ 0
logged_none before now same = ap (λ (b : Bool). if b then 0 else 1) (eq-eqb now.last before.last same)

-- where one was logged there is one block more at most
pub logged_blocks : (r : Result UndoCursor Stop) (before : UndoCursor) (end next old new : ℕ) → before.last < end → IfOk r (λ now. (end ≤ now.last) × (now.last < next)) → OnOk r (new ≤ old + 1) → IfOk r (λ now. new ≤ old + clrs_logged before now)
logged_blocks (Ok now) before end next old new first last few = let one = logged_one before now (omega (arith, first, last.0)) in omega (arith, few, one)
logged_blocks (Err stop) before end next old new first last few = tt

-- With one more item.
take_one : (n m : ℕ) (xs ys : List Entry) (u : Entry) (rest : List Entry) → n ≡ m + 1 → xs ≡ u ∷ rest → ys ≡ rest → take n xs ≡ u ∷ take m ys
take_one n m xs ys u rest is split same = grind (arith)

-- Of so many Updates of a transaction some are undone, and so many more are wanted. Of so many records that undoing reads it has read some.
pub record UndoesSoFar (log : LogStore) (pages : PageStore) (site : State) (newest : Option Master) (records : List Entry) (history : History) (txn : ℕ) (now : UndoCursor) (first : LogStore) (old : PageStore) (before : State) (chain count more : ℕ) : Type 0 where
  pub made : Compensates log pages site newest records history txn (blocks_to first) now
  pub done : List Entry
  pub are : take count (left_open records txn) ≡ done ++ take more (left_open (records ++ made.clrs) txn)
  pub many : length made.clrs + more ≡ count
  pub read : ℕ
  pub reads_are : read + length made.x.chain ≡ chain
  pub does : UndoesWork {T = ⊤} (Ok tt) (clrs_for done) (works_of done) first log old pages before site newest history (length made.clrs) read

pub starts_undoing : {log : LogStore} {pages : PageStore} {site : State} {newest : Option Master} {records : List Entry} {history : History} {count : ℕ} {x : Unfinished} {first : UndoCursor} → log.geometry ≡ pages.flash.geometry → Represents log pages site newest records history → IsUnfinished records x → IsAt first x →
    UndoesSoFar log pages site newest records history x.txn first log pages site (length x.chain) count count
unfolding starts
starts_undoing {log = log} {pages = pages} {site = site} {newest = newest} {records = records} {history = history} {count = count} {x = x} {first = first} sizes h unfinished at = record {
  made = starts log pages site newest records history x first h unfinished at;
  done = [];
  are = sym (ap (λ (l : List Entry). take count (left_open l x.txn)) (append-nil records));
  many = omega arith;
  read = 0;
  reads_are = omega arith;
  does = undoes_nothing sizes h;
}

-- one CLR more
pub goes_on_undoing : {log log' : LogStore} {pages pages' : PageStore} {site new : State} {newest : Option Master} {records : List Entry} {history : History} {txn chain count more : ℕ} {now next : UndoCursor} {first : LogStore} {old : PageStore} {before : State} (c : UndoesSoFar log pages site newest records history txn now first old before chain count more) →
    Represents first old before newest records history → KeepsInvariant {T = ⊤} (Ok tt) first log old pages before site → (u : Entry) (rest : List Entry) → c.made.x.chain ≡ u ∷ rest → is_update u.rec ≡ true →
    Undone log' pages' new newest (records ++ c.made.clrs) history c.made.x next → blocks_to log' ≤ blocks_to log + 1 → UndoesWork {T = UndoCursor} (Ok next) (clr_work u) (works_of (u ∷ [])) log log' pages pages' site new newest history 1 1 →
    (fewer : ℕ) → more ≡ fewer + 1 → UndoesSoFar log' pages' new newest records history txn next first old before chain count fewer
unfolding goes_on
goes_on_undoing {log = log} {log' = log'} {pages = pages} {pages' = pages'} {site = site} {new = new} {newest = newest} {records = records} {history = history} {txn = txn} {chain = chain} {more = more} {now = now} {next = next} {first = first} c h works u rest split update undone few one fewer less =
    let clrs = c.made.clrs in
    let longer : length (clrs ++ undone.e ∷ []) ≡ length clrs + 1 = omega (arith, length-append clrs (undone.e ∷ [])) in
    let left : left_open (records ++ clrs) txn ≡ u ∷ updates_in rest = left_is c.made u rest split update in
    let behind : left_open (records ++ (clrs ++ undone.e ∷ [])) txn ≡ updates_in rest =
    sym (ap (λ (l : List Entry). left_open l txn) (append_assoc records clrs (undone.e ∷ []))) ∙ left_after_clr (records ++ clrs) undone.e txn undone.clr (undone.own ∙ c.made.same) ∙ ap (drop 1) left in
    record {
      made = goes_on log pages site newest records history txn (blocks_to first) now c.made log' pages' new next undone few;
      done = c.done ++ u ∷ [];
      are = c.are
          ∙ ap (λ (l : List Entry). c.done ++ l) (take_one more fewer (left_open (records ++ clrs) txn) (left_open (records ++ (clrs ++ undone.e ∷ [])) txn) u (updates_in rest) less left behind)
          ∙ sym (append_assoc c.done (u ∷ []) (take fewer (left_open (records ++ (clrs ++ undone.e ∷ [])) txn)));
      many = let many = c.many in omega (arith, many, less, longer);
      read = c.read + 1;
      reads_are = one_read c.read chain c.made.x.chain u rest split c.reads_are;
      does = undoes_few (omega (arith, longer)) (omega arith) (undoes_as (clrs_more c.done u) (filter_map-append undo_touch c.done (u ∷ [])) (undoes_answered (undoes_then h works c.does one)));
    }

-- one more is passed over
pub passes_on_undoing : {log log' : LogStore} {pages pages' : PageStore} {site new : State} {newest : Option Master} {records : List Entry} {history : History} {txn chain count more : ℕ} {now next : UndoCursor} {first : LogStore} {old : PageStore} {before : State} (c : UndoesSoFar log pages site newest records history txn now first old before chain count more) →
    Represents first old before newest records history → KeepsInvariant {T = ⊤} (Ok tt) first log old pages before site → (e : Entry) (rest : List Entry) → c.made.x.chain ≡ e ∷ rest →
    Passed log log' pages' new newest (records ++ c.made.clrs) history c.made.x e next → UndoesWork {T = UndoCursor} (Ok next) [] [] log log' pages pages' site new newest history 0 1 →
    UndoesSoFar log' pages' new newest records history txn next first old before chain count more
unfolding passes_on
passes_on_undoing {log = log} {log' = log'} {pages = pages} {pages' = pages'} {site = site} {new = new} {newest = newest} {records = records} {history = history} {txn = txn} {chain = chain} {now = now} {next = next} {first = first} c h works e rest split passed one =
    record {
      made = passes_on log pages site newest records history txn (blocks_to first) now c.made log' pages' new e next passed;
      done = c.done;
      are = c.are;
      many = c.many;
      read = c.read + 1;
      reads_are = one_read c.read chain c.made.x.chain e rest split c.reads_are;
      does = undoes_few (omega arith) (omega arith) (undoes_as (sym (append-nil (clrs_for c.done))) (sym (append-nil (works_of c.done))) (undoes_answered (undoes_then h works c.does one)));
    }
