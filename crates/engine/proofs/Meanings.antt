-- What the database has in memory, in the model's words.
use Rattle.engine.proofs.Names.{◌≡◌, ℕ, zero, suc, ◌*◌, ◌<◌, ◌≤◌, ◌==◌, Bool, true, false, not, ◌&&◌, ◌||◌, cond, List, [], ◌∷◌, length, find, Option, None, Some, ⊎_elim, refl, sym, ap, subst, ◌∙◌, arith, true≢false, cases_eq, and_from, ne_eqb, none-some, same_Some, list_any, range_with_len, AllByRecursion, unwrap_or, Master, sizes_of, Matches, SessionsAre, LocksAre, Engine, next_block_is, length-versions, logical_image_under, master_of, versions_on, Lock, shown_is_value, writer_is_loser, shown_stands, content_of_table, tail_without_commit, whole_is_undoable, whole_in_order, IsFree, IsFreeFor, IsUndoable, IsFresh, Entry, is_closed, table_of, value_of, AreOrderly, end_of, Content, Session, State, Write, writes_of, wrote_of, content_at, seen, last_write, table_with, Represents, shown_in, TransactionStore, Site, entry_is, IsTable, entry_of, Active}
use Rattle.std.proofs.lemmas.List.FromFn.{length-map-range_with_len}
use Rattle.log_laws.specs.Tail.{next_lsn, whole}
use Rattle.redo_laws.proofs.Runs.{means_settled, none_settled}
use Rattle.engine.proofs.Actives.{some_active}
use Rattle.engine.proofs.Updated.{updated_is}
use Rattle.record_model.specs.State as model
use Rattle.log_laws.specs.Follow as follow
use Rattle.log_laws.proofs.Orderly as orderly
use Rattle.lock_table.specs.Locks as locks

-- Locks.

pub busy_read_is : (held : List Lock) (s : State) → LocksAre held s → (own : Option ℕ) (number : ℕ) → locks.busy_read held own number ≡ model.busy_read s own number
busy_read_is held s are None number = λ i. find (λ n. true && are.written n number i) (range_with_len 0 8)
busy_read_is held s are (Some own) number = λ i. find (λ n. not (own == n) && are.written n number i) (range_with_len 0 8)

pub busy_write_is : (held : List Lock) (s : State) → LocksAre held s → (own : Option ℕ) (number : ℕ) → locks.busy_write held own number ≡ model.busy_write s own number
busy_write_is held s are None number = λ i. find (λ n. true && (are.written n number i || are.reads n number i)) (range_with_len 0 8)
busy_write_is held s are (Some own) number = λ i. find (λ n. not (own == n) && (are.written n number i || are.reads n number i)) (range_with_len 0 8)

-- The table.

-- what is sealed and what isn't stand for the same table
pub table_is : (store : TransactionStore) (site : Site) (newest : Option Master) (records : List Entry) (table : List Content) (commits : ℕ) (h : Represents store site newest records table commits) → table ≡ table_of records (versions_on (sizes_of store) site.image)
table_is store site newest records table commits h =
    let log = h.both.log_holds in
    let p = logical_image_under newest (sizes_of store) site.image log.blocks in
    (means_settled p log.tail records table commits log.runs_on).table_is ∙ sym (tail_without_commit p log.tail log.runs_on.carries (none_settled p log.tail records table commits log.runs_on))
    ∙ ap (λ (l : List Entry). table_of l (versions_on (sizes_of store) site.image)) log.runs_on.records_are

-- so two lists of writes leave the same of both
pub stands_for : {table other : List Content} (first later : List Write) → table ≡ other → table_with other first ≡ table_with other later → table_with table first ≡ table_with table later
stands_for first later same is = ap (λ (t : List Content). table_with t first) same ∙ is ∙ ap (λ (t : List Content). table_with t later) (sym same)

pub undoable : (store : TransactionStore) (site : Site) (newest : Option Master) (records : List Entry) (table : List Content) (commits : ℕ) (h : Represents store site newest records table commits) → IsUndoable records
undoable store site newest records table commits h =
    let log = h.both.log_holds in
    subst IsUndoable log.runs_on.records_are (whole_is_undoable (logical_image_under newest (sizes_of store) site.image log.blocks) log.tail log.runs_on.carries)

pub same_size : (engine : Engine) (site : Site) (s : State) → Matches engine site s → length s.table ≡ 32 * (sizes_of engine.store).pages
same_size engine site s fits =
    let versions = versions_on (sizes_of engine.store) site.image in
    ap length (table_is engine.store site fits.newest fits.records s.table s.commits fits.holds)
    ∙ length-map-range_with_len (value_of fits.records versions) 0 (32 * length versions)
    ∙ ap (λ (n : ℕ). 32 * n) (length-versions (sizes_of engine.store) site.image)

-- the log's end is that of its records
pub ends_behind : (store : TransactionStore) (site : Site) (newest : Option Master) (records : List Entry) (table : List Content) (commits lsn : ℕ) (h : Represents store site newest records table commits) → end_of store.log ≤ lsn →
    let log = h.both.log_holds in let p = logical_image_under newest (sizes_of store) site.image log.blocks in (next_lsn p log.tail ≤ lsn) × (512 * p.hi ≤ lsn)
ends_behind store site newest records table commits lsn h behind =
    let log = h.both.log_holds in
    let hi = log.ready.blocks.hi in
    let next = log.ready.records.blocks.next in
    let last = next_block_is newest log.blocks in
    (omega (arith, hi, next, log.ready.records.tail.end, behind, last), omega (arith, hi, next, behind, last))

-- a record behind the last one begins a new transaction
pub fresh_behind : (store : TransactionStore) (site : Site) (newest : Option Master) (records : List Entry) (table : List Content) (commits lsn : ℕ) (h : Represents store site newest records table commits) → end_of store.log ≤ lsn → IsFresh lsn records
fresh_behind store site newest records table commits lsn h behind =
    let log = h.both.log_holds in
    let p = logical_image_under newest (sizes_of store) site.image log.blocks in
    subst (IsFresh lsn) log.runs_on.records_are
    (orderly.fresh_behind (512 * p.master.kept) (whole p log.tail) (next_lsn p log.tail) lsn (whole_in_order p log.tail log.runs_on.carries)
    (subst AreOrderly (sym log.runs_on.records_are) h.orderly) (ends_behind store site newest records table commits lsn h behind).0)

-- which redo doesn't leave out
pub begins_late : (store : TransactionStore) (site : Site) (newest : Option Master) (records : List Entry) (table : List Content) (commits lsn : ℕ) (h : Represents store site newest records table commits) → end_of store.log ≤ lsn → 512 * (master_of newest).redo ≤ lsn
begins_late store site newest records table commits lsn h behind =
    omega (arith, h.both.log_holds.runs_on.carries.sound.redo_before_end, (ends_behind store site newest records table commits lsn h behind).1)

-- Who has written.

pub none_of : (f : ℕ → Bool) (xs : List ℕ) → find f xs ≡ None → AllByRecursion (λ x. f x ≡ false) xs
none_of f [] none = tt
none_of f (x ∷ xs) none = by (f x) refl none (none_of f xs)
  where
    by : (b : Bool) → f x ≡ b → cond b (Some x) (find f xs) ≡ None → (find f xs ≡ None → AllByRecursion (λ x. f x ≡ false) xs) → (f x ≡ false) × AllByRecursion (λ x. f x ≡ false) xs
    by true is some rest = absurd (none-some x (sym some))
    by false is later rest = (is, rest later)

at_each : (P : ℕ → Type 0) → AllByRecursion P (range_with_len 0 8) → (n : ℕ) → n < 8 → P n
at_each P all zero less = all.0
at_each P all (suc zero) less = all.1.0
at_each P all (suc (suc zero)) less = all.1.1.0
at_each P all (suc (suc (suc zero))) less = all.1.1.1.0
at_each P all (suc (suc (suc (suc zero)))) less = all.1.1.1.1.0
at_each P all (suc (suc (suc (suc (suc zero))))) less = all.1.1.1.1.1.0
at_each P all (suc (suc (suc (suc (suc (suc zero)))))) less = all.1.1.1.1.1.1.0
at_each P all (suc (suc (suc (suc (suc (suc (suc zero))))))) less = all.1.1.1.1.1.1.1.0
at_each P all (suc (suc (suc (suc (suc (suc (suc (suc more)))))))) less = absurd (omega (arith, less))

-- an unfinished transaction that has written a number is a session's, which the model says has written it
pub record IsWriter (newest : Option Master) (records : List Entry) (active : List Active) (s : State) (t number : ℕ) : Type 0 where
  pub session : ℕ
  pub entry : Active
  pub at : entry_of active session ≡ Some entry
  pub begin : entry.begin ≡ t
  pub has_written : model.has_written s session number ≡ true

pub writer : (newest : Option Master) (records : List Entry) (active : List Active) (s : State) → SessionsAre newest records active s → (t number : ℕ) → is_closed records t ≡ false → follow.has_written records t number ≡ true → IsWriter newest records active s t number
writer newest records active s are t number lives written =
    let found = are.all t (writer_is_loser records t number lives written) in
    let session = some_active newest records active s are found.0 found.1 found.2 in
    record {
      session = found.0;
      entry = found.1;
      at = found.2;
      begin = found.3;
      has_written =
          ap (λ (o : Option Session). list_any (λ wrote. wrote == number) (wrote_of o)) session.is
          ∙ ap (λ (ws : List ℕ). list_any (λ wrote. wrote == number) ws) session.under_way.wrote
          ∙ updated_is records found.1.begin number session.under_way.is_active.chain
          ∙ ap (λ (k : ℕ). follow.has_written records k number) found.3
          ∙ written;
    }

small_session : (newest : Option Master) (records : List Entry) (active : List Active) (s : State) → SessionsAre newest records active s → IsTable active → (n : ℕ) (own : Active) → entry_of active n ≡ Some own → n < 8
small_session newest records active s are table n own is = (entry_is active n own table is).small

-- where no other session has written a number, no other unfinished transaction has
pub free_for : (newest : Option Master) (records : List Entry) (active : List Active) (s : State) → SessionsAre newest records active s → IsTable active → (n number : ℕ) (own : Active) → entry_of active n ≡ Some own → model.busy_read s (Some n) number ≡ None → IsFreeFor records own.begin number
free_for newest records active s are table n number own at none t lives written =
    let found = writer newest records active s are t number lives written in
    let each = at_each (λ m. (not (n == m) && model.has_written s m number) ≡ false) (none_of (λ m. not (n == m) && model.has_written s m number) (range_with_len 0 8) none) found.session (small_session newest records active s are table found.session found.entry found.at) in
    ⊎_elim
    (λ (same : n ≡ found.session). sym found.begin ∙ ap (λ (e : Active). e.begin) (same_Some found.entry own (sym found.at ∙ ap (entry_of active) (sym same) ∙ at)))
    (λ differ. absurd (true≢false (sym (and_from _ _ (ap not (ne_eqb n found.session differ)) found.has_written) ∙ each)))
    (cases_eq n found.session)

pub free : (newest : Option Master) (records : List Entry) (active : List Active) (s : State) → SessionsAre newest records active s → IsTable active → (number : ℕ) → model.busy_read s None number ≡ None → IsFree records number
free newest records active s are table number none t lives = by (follow.has_written records t number) refl
  where
    by : (b : Bool) → follow.has_written records t number ≡ b → b ≡ false
    by false is = refl
    by true is =
        let found = writer newest records active s are t number lives is in
        let each = at_each (λ m. model.has_written s m number ≡ false) (none_of (λ m. model.has_written s m number) (range_with_len 0 8) none) found.session (small_session newest records active s are table found.session found.entry found.at) in
        absurd (true≢false (sym found.has_written ∙ each))

-- What a record has.

pub value_is : (engine : Engine) (site : Site) (s : State) (fits : Matches engine site s) (number : ℕ) → number < 32 * (sizes_of engine.store).pages →
    content_at s.table number ≡ value_of fits.records (versions_on (sizes_of engine.store) site.image) number
value_is engine site s fits number less =
    let count = length-versions (sizes_of engine.store) site.image in
    ap (λ (t : List Content). content_at t number) (table_is engine.store site fits.newest fits.records s.table s.commits fits.holds)
    ∙ content_of_table fits.records (versions_on (sizes_of engine.store) site.image) number (subst (λ (n : ℕ). number < 32 * n) (sym count) less)

-- a session sees what is shown, where it may read it
pub seen_is : (engine : Engine) (site : Site) (s : State) (fits : Matches engine site s) (n number : ℕ) (own : Active) → IsTable engine.active → number < 32 * (sizes_of engine.store).pages → entry_of engine.active n ≡ Some own → model.busy_read s (Some n) number ≡ None →
    seen s n number ≡ shown_in engine.store site fits.records number
seen_is engine site s fits n number own table less at none =
    let versions = versions_on (sizes_of engine.store) site.image in
    let session = some_active fits.newest fits.records engine.active s fits.sessions n own at in
    let under = session.under_way.is_active in
    ap (λ (o : Option Session). unwrap_or (last_write (writes_of o) number) (content_at s.table number)) session.is
    ∙ ap (λ (ws : List Write). unwrap_or (last_write ws number) (content_at s.table number)) under.writes_are
    ∙ ap (λ (x : Content). unwrap_or (last_write (follow.standing_in own.begin fits.records) number) x) (value_is engine site s fits number less)
    ∙ sym (shown_stands fits.records versions own.begin (undoable engine.store site fits.newest fits.records s.table s.commits fits.holds) under.lives.not_closed under.chain number (free_for fits.newest fits.records engine.active s fits.sessions table n number own at none))

-- so does one outside sessions
pub got_is : (engine : Engine) (site : Site) (s : State) (fits : Matches engine site s) (number : ℕ) → IsTable engine.active → number < 32 * (sizes_of engine.store).pages → model.busy_read s None number ≡ None →
    content_at s.table number ≡ shown_in engine.store site fits.records number
got_is engine site s fits number table less none =
    value_is engine site s fits number less
    ∙ sym (shown_is_value fits.records (versions_on (sizes_of engine.store) site.image) number (free fits.newest fits.records engine.active s fits.sessions table number none))
