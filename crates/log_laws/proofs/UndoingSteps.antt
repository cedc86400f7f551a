-- One step of undo.
use Rattle.log_laws.proofs.Names.{◌≡◌, ℕ, ◌+◌, ◌*◌, ◌<◌, ◌≤◌, true, cond, not, List, [], ◌∷◌, ◌++◌, length, drop, refl, sym, ap, subst, ◌∙◌, arith, and_from, eq-eqb, not_from_false, or_left, find-append, AllByRecursion, list_any, ◌==◌, Unfinished, IsUnfinished, past_clr, after_clr, Follows, IsActive, Carries, whole, IsLink, IsUndoChain, goes_back, Entry, txn_of, is_of, is_update, is_closed, is_loser, entries_of, updates_in, Master, LogicalImage, IsInOrder, IsInTable, IsOpen, is_clr, left_open, LogRecord, Update, Clr, End, Write}
use Rattle.log_laws.specs.UndoSteps.{IsToUndo}
use Rattle.log_laws.proofs.Values.{with}
use Rattle.log_laws.proofs.Appends.{end_follows}
use Rattle.log_laws.proofs.Chains.{left_of_chain}
use Rattle.log_laws.proofs.Standing.{standing_count}
use Rattle.log_laws.proofs.Losers.{any_of_those, clr_of_last_follows, last_more, left_keep, loser_goes_on, loser_is_not_closed, loser_is_known}
use Rattle.log_laws.proofs.OpenUpdates.{left_after_clr}
use Rattle.log_laws.proofs.Tails.{whole_in_table, whole_is_undoable}
use Rattle.log_laws.proofs.Undoing.{unfinished_from_last}

-- What is read next.

-- each record of a chain stands behind the Begin
chain_late : (log : List Entry) (begin from : ℕ) (chain : List Entry) → IsUndoChain log begin from chain → begin ≤ from
chain_late log begin from [] is = omega (arith, is)
chain_late log begin from (e ∷ chain) is = let late = is.0.late in let falls = is.0.falls in omega (arith, late, falls)

-- at the Begin nothing more is read, and behind it a record is
pub chain_ends : (log : List Entry) (begin from : ℕ) (chain : List Entry) → IsUndoChain log begin from chain → from ≡ begin → chain ≡ []
chain_ends log begin from [] is end = refl
chain_ends log begin from (e ∷ chain) is end = absurd (let late = is.0.late in let falls = is.0.falls in omega (arith, late, falls, end))

pub chain_goes_on : (log : List Entry) (begin from : ℕ) (chain : List Entry) → IsUndoChain log begin from chain → begin < from → (e : Entry) × (rest : List Entry) × (chain ≡ e ∷ rest)
chain_goes_on log begin from [] is less = absurd (omega (arith, is, less))
chain_goes_on log begin from (e ∷ rest) is less = (e, rest, refl)

-- more records behind a log leave its chains
pub chain_stays : (log more : List Entry) (begin from : ℕ) (chain : List Entry) → IsUndoChain log begin from chain → IsUndoChain (log ++ more) begin from chain
chain_stays log more begin from [] is = grind arith
chain_stays log more begin from (e ∷ chain) is = grind (arith, find-append, (chain_stays log more begin (goes_back e.rec) chain is.1))

-- what a chain of an Update, or of a CLR, and those below reads
reads_update : (u : Entry) (rest : List Entry) → is_update u.rec ≡ true → updates_in (u ∷ rest) ≡ u ∷ updates_in rest
reads_update u rest update = ap (λ b. cond b (u ∷ updates_in rest) (updates_in rest)) update

reads_clr : (c : Entry) (rest : List Entry) → is_clr c.rec ≡ true → updates_in (c ∷ rest) ≡ updates_in rest
reads_clr c rest clr = grind arith

module _ (log : List Entry) (x : Unfinished) (is : IsUnfinished log x) where
  pub next_is_late : x.txn ≤ x.next
  next_is_late = chain_late log x.txn x.next x.chain is.chain_is

  -- what is read first
  pub first_read : (e : Entry) (rest : List Entry) → x.chain ≡ e ∷ rest → IsLink log x.txn x.next e × IsUndoChain log x.txn (goes_back e.rec) rest
  first_read e rest split = subst (IsUndoChain log x.txn x.next) split is.chain_is

  -- an Update that is read first is the last one that is left
  pub update_is_last : (u : Entry) (rest : List Entry) → x.chain ≡ u ∷ rest → is_update u.rec ≡ true → left_open log x.txn ≡ u ∷ updates_in rest
  update_is_last u rest split update = sym is.left_is ∙ ap updates_in split ∙ reads_update u rest update

  -- A CLR is read, and undoing goes on where it says.
  pub clr_is_read : (c : Entry) (rest : List Entry) → x.chain ≡ c ∷ rest → is_clr c.rec ≡ true → IsUnfinished log (past_clr x c)
  clr_is_read c rest split clr = grind (arith, first_read, reads_clr)

  -- An Update is read, and the CLR that compensates it is written.
  pub clr_is_written : (u : Entry) (rest : List Entry) (e : Entry) → x.chain ≡ u ∷ rest → is_update u.rec ≡ true → is_clr e.rec ≡ true → txn_of e ≡ x.txn → goes_back e.rec ≡ goes_back u.rec → x.last ≤ e.lsn →
      IsUnfinished (with log e) (after_clr x e)
  clr_is_written u rest e split update clr own back late = grind (arith, first_read, with, left_after_clr, update_is_last, loser_goes_on, loser_is_not_closed, last_more, eq-eqb, chain_stays)

module _ (p : LogicalImage) (tail : List LogRecord) (x : Unfinished) (c : Carries p tail) (is : IsUnfinished (whole p tail) x) where
  lives : IsOpen p.master (whole p tail) x.txn
  lives = loser_is_known p tail x.txn c is.loser

  to_undo : (at : ℕ) (rec : LogRecord) (rest : List Entry) → is_update rec ≡ true → left_open (whole p tail) x.txn ≡ record { lsn = at; rec = rec } ∷ rest → IsLink (whole p tail) x.txn x.next (record { lsn = at; rec = rec }) →
      IsInTable p.pages (record { lsn = at; rec = rec }) → IsToUndo p (whole p tail) x rec
  to_undo at (Update txn prev page slot before after) rest update left n in_table = (
    n.own,
    n.late,
    n.falls,
    is.early,
    in_table (32 * page + slot) refl,
    λ lsn. subst (λ l. Follows p.master p.pages (whole p tail) (record { lsn = lsn; rec = Clr x.txn l prev page slot before })) (sym is.last_is)
        (clr_of_last_follows p.master p.pages (whole p tail) lsn x.txn txn at prev page slot before after rest (whole_is_undoable p tail c) lives is.loser (whole_in_table p tail c) left),
  )
  to_undo at _ rest update left n in_table = absurd (grind arith)

  -- an Update that is read first is to be undone
  pub undo_step : (u : Entry) (rest : List Entry) → x.chain ≡ u ∷ rest → is_update u.rec ≡ true → IsToUndo p (whole p tail) x u.rec
  undo_step u rest split update =
      let left = update_is_last (whole p tail) x is u rest split update in
      let in_table = (subst (AllByRecursion (IsInTable p.pages)) left (left_keep (IsInTable p.pages) (whole p tail) x.txn (whole_in_table p tail c))).0 in
      to_undo u.lsn u.rec (updates_in rest) update left (first_read (whole p tail) x is u rest split).0 in_table

  -- where nothing is left an End may come
  pub undo_end : x.remaining ≡ 0 → (lsn : ℕ) → Follows p.master p.pages (whole p tail) (record { lsn = lsn; rec = End x.txn })
  undo_end none lsn = end_follows p.master p.pages (whole p tail) lsn x.txn lives (none_left (left_open (whole p tail) x.txn) (sym is.remaining_is ∙ none))
    where
      none_left : (us : List Entry) → length us ≡ 0 → us ≡ []
      none_left [] h = refl
      none_left (u ∷ us) h = absurd (omega (arith, h))

-- Undoing an active transaction begins with its last record, and reads no more records than it has Updates.
pub active_is_unfinished : (m : Master) (from to : ℕ) (log : List Entry) (t last : ℕ) (writes : List Write) → IsInOrder from log to → IsActive m log t last writes →
    (chain : List Entry) × IsUnfinished log (record { txn = t; last = last; next = last; remaining = length writes; chain = chain }) × (length chain ≤ length (updates_in (entries_of t log)))
active_is_unfinished m from to log t last writes order a =
    let begun : is_loser log t ≡ true = and_from (list_any (is_of t) log) (not (is_closed log t))
    (any_of_those (is_of t) (is_of t) log (ap (list_any (is_of t)) a.chain.begins ∙ or_left (t == t) (list_any (is_of t) (drop 1 (entries_of t log))) (eq-eqb t t refl)))
    (not_from_false (is_closed log t) a.lives.not_closed) in
    let found = unfinished_from_last from to log t order a.chain last (length writes) begun a.last_is (ap length a.writes_are ∙ standing_count log t) in
    let few = found.2 in
    let many = left_of_chain t (entries_of t log) a.chain in
    (found.0, found.1, omega (arith, few, many))
