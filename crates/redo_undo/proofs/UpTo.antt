-- Of so many Updates of a transaction that are to be undone as many are as there are.
use Rattle.std.proofs.lemmas.Grind.{common_steps}
use Rattle.redo_undo.proofs.Names.{History, ◌≡◌, ℕ, zero, suc, ◌+◌, ◌-◌, ◌≤◌, min, List, [], ◌∷◌, length, take, ◌++◌, true, drop, refl, sym, ap, ◌∙◌, arith, append-nil, append_assoc, take-append-drop, Ok, Result, Master, left_after_clr, clr_is_read, Unfinished, IsUnfinished, past_clr, Entry, updates_in, is_clr, left_open, LogStore, PageStore, Content, blocks_to, works_of, clrs_for, AreClrsOf, CompensatesUpTo, UndoesLast, UndoesWork, UndoCursor, State, Stop}
use Rattle.std.specs.Prelude.{Option}
use Rattle.std.proofs.Math.ListN.{drop_of_length-le}
use Rattle.redo_undo.proofs.UndoCalls.{undoes_answered, undoes_as, undoes_few}
use Rattle.redo_undo.proofs.UndoSoFar.{UndoesSoFar}

-- undoing reads no fewer records than there are Updates among them
updates_few : (entries : List Entry) → length (updates_in entries) ≤ length entries
updates_few [] = omega arith
updates_few (e ∷ entries) = grind (arith, (updates_few entries))

pub chain_is_longer : (records : List Entry) (x : Unfinished) → IsUnfinished records x → x.remaining ≤ length x.chain
chain_is_longer records x is = let few = updates_few x.chain in let reads = ap length is.left_is in let many = is.remaining_is in omega (arith, few, reads, many)

-- nothing more is wanted where none is left
pub take_none : (n : ℕ) (xs : List Entry) → length xs ≡ 0 → take n xs ≡ []
take_none zero [] none = refl
take_none (suc n) [] none = refl
take_none n (x ∷ xs) none = absurd (omega (arith, none))

module _ {log : LogStore} {pages : PageStore} {site : State} {newest : Option Master} {records : List Entry} {history : History} {now : UndoCursor} {first : LogStore} {old : PageStore} {before : State} {count more : ℕ} (x : Unfinished) (is : IsUnfinished records x)
    (so_far : UndoesSoFar log pages site newest records history x.txn now first old before (length x.chain) count more) where
  pub own_left : length (left_open (records ++ so_far.made.clrs) x.txn) ≡ so_far.made.x.remaining
  own_left = ap (λ (t : ℕ). length (left_open (records ++ so_far.made.clrs) t)) (sym so_far.made.same) ∙ sym so_far.made.left.remaining_is

  -- so many records were read, at most
  pub reads_few : so_far.read ≤ length so_far.made.clrs + (length x.chain - x.remaining)
  reads_few = grind (arith, chain_is_longer)

  -- one fewer where a CLR is read next
  pub passed_few : (e : Entry) (rest : List Entry) → so_far.made.x.chain ≡ e ∷ rest → is_clr e.rec ≡ true → so_far.read + 1 ≤ length so_far.made.clrs + (length x.chain - x.remaining)
  passed_few e rest split clr =
      let behind = clr_is_read (records ++ so_far.made.clrs) so_far.made.x so_far.made.left e rest split clr in
      let long = chain_is_longer (records ++ so_far.made.clrs) (past_clr so_far.made.x e) behind in
      let shorter = ap (λ (l : List Entry). length (drop 1 l)) split in
      let longer = ap length split in
      let all = chain_is_longer records x is in
      let read = so_far.reads_are in let count = so_far.made.count in let remain = is.remaining_is in
      omega (arith, long, shorter, longer, all, read, count, remain)

  -- where no more are wanted, or none is left, those are done that were to be
  module _ (end : take more (left_open (records ++ so_far.made.clrs) x.txn) ≡ []) (many : length so_far.made.clrs ≡ min count x.remaining) where
    pub up_to : CompensatesUpTo log pages site newest records history x.txn count (blocks_to first) now
    up_to = record { made = so_far.made; many = many ∙ ap (min count) is.remaining_is }

    pub does_up_to : {T : Type 0} {answer : T} → UndoesWork {T = T} (Ok answer) (clrs_for (take count (left_open records x.txn))) (works_of (take count (left_open records x.txn))) first log old pages before site newest history (min count x.remaining) (min count x.remaining + (length x.chain - x.remaining))
    does_up_to =
        let all : take count (left_open records x.txn) ≡ so_far.done = so_far.are ∙ ap (λ (l : List Entry). so_far.done ++ l) end ∙ append-nil so_far.done in
        undoes_few (omega (arith, many)) (omega (arith, many, reads_few)) (undoes_as (ap clrs_for all) (ap works_of all) (undoes_answered so_far.does))

  -- no more are wanted
  pub none_wanted : more ≡ 0 → (take more (left_open (records ++ so_far.made.clrs) x.txn) ≡ []) × (length so_far.made.clrs ≡ min count x.remaining)
  none_wanted none = grind (arith)

  -- none is left
  pub none_left : so_far.made.x.remaining ≡ 0 → (take more (left_open (records ++ so_far.made.clrs) x.txn) ≡ []) × (length so_far.made.clrs ≡ min count x.remaining)
  none_left none = grind (arith, take_none, own_left)

-- Where all are wanted all are done.
pub does_all : {T : Type 0} {r : Result T Stop} {first log : LogStore} {old pages : PageStore} {before site : State} {newest : Option Master} {records : List Entry} {history : History} {count : ℕ} (x : Unfinished) → IsUnfinished records x → length (left_open records x.txn) ≤ count →
    UndoesWork r (clrs_for (take count (left_open records x.txn))) (works_of (take count (left_open records x.txn))) first log old pages before site newest history (min count x.remaining) (min count x.remaining + (length x.chain - x.remaining)) →
    UndoesWork r (clrs_for (left_open records x.txn)) (works_of (left_open records x.txn)) first log old pages before site newest history x.remaining (length x.chain)
does_all {records = records} {count = count} x is all does = grind (arith, common_steps, chain_is_longer, take-append-drop, drop_of_length-le, append-nil, undoes_few, undoes_as)

pub all_done : {log : LogStore} {pages : PageStore} {site : State} {newest : Option Master} {records : List Entry} {history : History} {txn count blocks : ℕ} {now : UndoCursor} (u : CompensatesUpTo log pages site newest records history txn count blocks now) → length (left_open records txn) ≤ count → u.made.x.remaining ≡ 0
all_done u few = let many = u.many in let count = u.made.count in omega (arith, many, count, few)

-- What the last ones leave.

pub left_after_clrs : (records clrs : List Entry) (t : ℕ) → AreClrsOf t clrs → left_open (records ++ clrs) t ≡ drop (length clrs) (left_open records t)
left_after_clrs records [] t own = grind (arith, common_steps, append-nil)
left_after_clrs records (e ∷ clrs) t own = grind (arith, common_steps, append_assoc, left_after_clr, (left_after_clrs (records ++ e ∷ []) clrs t own.1))

pub undoes_last : {log : LogStore} {pages : PageStore} {site : State} {newest : Option Master} {records : List Entry} {history : History} {txn count blocks : ℕ} {now : UndoCursor} → CompensatesUpTo log pages site newest records history txn count blocks now → count ≤ length (left_open records txn) →
    UndoesLast log pages site newest records history txn count now.last
undoes_last {records = records} {txn = txn} {count = count} u few = grind (arith, left_after_clrs)
