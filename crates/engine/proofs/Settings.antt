-- A set: a transaction of one write, outside sessions.
use Rattle.engine.proofs.Names.{Option, ◌≡◌, ◌+◌, ◌*◌, ◌/◌, ◌%◌, ◌<◌, ◌≤◌, ◌==◌, Bool, true, false, ◌||◌, cond, List, [], ◌∷◌, ◌++◌, length, find, None, Some, refl, sym, ap, subst, ◌∙◌, arith, IsTrue, ℕ, ⊎_elim, true≢false, div-add-mod, cases_eq, ne_eqb, and_right, or_parts, AllByRecursion, list_any, range_with_len, filter_map, Master, sizes_of, HasOneWrite, AreLocked, FootprintsAre, Matches, SessionsAre, LocksAre, Engine, Footprint, length-versions, master_of, versions_on, Lock, begin_follows, undoable_behind, entries_other, active_begun, active_may_write, active_writes, active_owes, loser_is_closed, owed_begin, owed_update, owed_closing, table_stands, closed_same, IsActive, IsUndoable, IsFresh, IsFree, IsFreeFor, writes_in, write_of, Entry, is_of, is_closed, is_loser, shown, HasOpenRoom, owed, Begin, Commit, end_of, Content, State, Write, session_at, table_with, making, committed, MayCommit, blocks_to, ConcernsOnly, Represents, MayGrow, shown_in, update_by, TransactionStore, Site, Geometry, IsTable, entry_of, Active}
use Rattle.engine.proofs.Meanings.{busy_write_is, begins_late, free, fresh_behind, none_of, stands_for, table_is, undoable}
use Rattle.engine.proofs.Actives.{some_active, not_fresh}
use Rattle.engine.proofs.FootprintChanges.{none_there, one_set}
use Rattle.engine.proofs.Aborts.{others_go_on}
use Rattle.redo_undo.proofs.StoreRollbacks.{concerns_more}
use Rattle.record_model.specs.State as model
use Rattle.log_laws.specs.Follow as follow
use Rattle.lock_table.specs.Locks as locks
use Rattle.txn_table.specs.Entries as entries

-- Where nobody has written or read a record, nobody has written it.

find_none : (f : ℕ → Bool) (xs : List ℕ) → AllByRecursion (λ x. f x ≡ false) xs → find f xs ≡ None
find_none f [] all = refl
find_none f (x ∷ xs) all = ap (λ (b : Bool). cond b (Some x) (find f xs)) all.0 ∙ find_none f xs all.1

all_left : (f h : ℕ → Bool) (xs : List ℕ) → AllByRecursion (λ x. (f x || h x) ≡ false) xs → AllByRecursion (λ x. f x ≡ false) xs
all_left f h [] all = tt
all_left f h (x ∷ xs) all = ((or_parts (f x) (h x) all.0).0, all_left f h xs all.1)

pub unwritten : (s : State) (number : ℕ) → model.busy_write s None number ≡ None → model.busy_read s None number ≡ None
unwritten s number none =
    find_none (λ n. model.has_written s n number) (range_with_len 0 8)
    (all_left (λ n. model.has_written s n number) (λ n. model.has_read s n number) (range_with_len 0 8)
    (none_of (λ n. model.has_written s n number || model.has_read s n number) (range_with_len 0 8) none))

-- nor has a transaction that only begins
pub free_begun : (records : List Entry) (lsn number : ℕ) → IsFree records number → IsFreeFor (records ++ record { lsn = lsn; rec = Begin } ∷ []) lsn number
free_begun records lsn number none t lives written =
    let e : Entry = record { lsn = lsn; rec = Begin } in
    ⊎_elim
    (λ (same : t ≡ lsn). same)
    (λ differ.
    let apart : is_of t e ≡ false = ne_eqb lsn t (λ same. differ (sym same)) in
    let was : is_closed records t ≡ false = sym (closed_same records e t (and_right (is_of t e) false refl)) ∙ lives in
    let wrote : follow.has_written records t number ≡ true = ap (λ (l : List Entry). list_any (λ write. write.0 == number) (filter_map (λ x. write_of x.rec) l)) (sym (entries_other records e t apart)) ∙ written in
    absurd (true≢false (sym wrote ∙ none t was)))
    (cases_eq t lsn)

abbrev pub begin_at : ℕ → Entry
begin_at txn = record { lsn = txn; rec = Begin }

abbrev pub update_at : ℕ → ℕ → ℕ → Content → Content → Entry
update_at txn lsn number before after = record { lsn = lsn; rec = update_by txn txn number before after }

-- a new transaction's Begin may be logged where there is room for more
pub may_begin : (engine : Engine) (old : Site) (s : State) (fits : Matches engine old s) (txn : ℕ) → end_of engine.store.log ≤ txn → engine.store.made + entries.owed engine.active + 2 ≤ engine.cap → blocks_to engine.store.log ≤ engine.store.log.kept + engine.store.made → engine.cap + 1 ≡ (sizes_of engine.store).blocks →
    MayGrow engine.store old fits.newest fits.records (begin_at txn)
may_begin engine old s fits txn behind room blocks cap =
    let fresh = fresh_behind engine.store old fits.newest fits.records s.table s.commits txn fits.holds behind in
    record {
      follows = begin_follows (master_of fits.newest) (versions_on (sizes_of engine.store) old.image) fits.records txn fresh;
      no_commit = refl;
      room = omega (arith, owed_begin fits.records txn fresh, fits.sessions.owes, room, blocks, cap);
    }

module _ (engine : Engine) (old : Site) (s : State) (number : ℕ) (fits : Matches engine old s) (table : IsTable engine.active) (less : number < 32 * (sizes_of engine.store).pages)
    (room : engine.store.made + entries.owed engine.active + 4 ≤ engine.cap) (blocks : blocks_to engine.store.log ≤ engine.store.log.kept + engine.store.made) (cap : engine.cap + 1 ≡ (sizes_of engine.store).blocks)
    (unlocked : locks.busy_write engine.locks None number ≡ None) (txn : ℕ) (behind : end_of engine.store.log ≤ txn) where
  fresh : IsFresh txn fits.records
  fresh = fresh_behind engine.store old fits.newest fits.records s.table s.commits txn fits.holds behind

  begun : IsActive (master_of fits.newest) (fits.records ++ begin_at txn ∷ []) txn txn []
  begun = active_begun (master_of fits.newest) fits.records txn fresh (begins_late engine.store old fits.newest fits.records s.table s.commits txn fits.holds behind)

  pub begun_undoable : IsUndoable (fits.records ++ begin_at txn ∷ [])
  begun_undoable =
      let m = master_of fits.newest in
      let versions = versions_on (sizes_of engine.store) old.image in
      undoable_behind m versions fits.records (undoable engine.store old fits.newest fits.records s.table s.commits fits.holds) (begin_at txn) (begin_follows m versions fits.records txn fresh)

  place : 32 * (number / 32) + number % 32 ≡ number
  place = div-add-mod number 32

  -- behind its Begin its Update may be logged
  pub may_update : (store : TransactionStore) (site : Site) (lsn : ℕ) (after : Content) → HasOpenRoom ((fits.records ++ begin_at txn ∷ []) ++ update_at txn lsn number (shown_in store site (fits.records ++ begin_at txn ∷ []) number) after ∷ []) (versions_on (sizes_of store) site.image) (number / 32) → sizes_of store ≡ sizes_of engine.store → store.log.kept ≡ engine.store.log.kept → blocks_to store.log ≤ blocks_to engine.store.log + 1 →
      MayGrow store site fits.newest (fits.records ++ begin_at txn ∷ []) (update_at txn lsn number (shown_in store site (fits.records ++ begin_at txn ∷ []) number) after)
  may_update store site lsn after open_room same kept more =
      let log = fits.records ++ begin_at txn ∷ [] in
      let versions = versions_on (sizes_of store) site.image in
      let before : Content = shown log versions number in
      let is = place in
      let pages = ap (λ (g : Geometry). g.pages) same in
      let within : 32 * (number / 32) + number % 32 < 32 * length versions = omega (arith, less, is, length-versions (sizes_of store) site.image, pages) in
      let free_here : IsFreeFor log txn number = free_begun fits.records txn number (free fits.newest fits.records engine.active s fits.sessions table number (unwritten s number (sym (busy_write_is engine.locks s fits.locks_are None number) ∙ unlocked))) in
      let owes = owed_update log (update_at txn lsn number before after) refl begun.lives.not_closed begun.chain in
      record {
        follows = active_may_write (master_of fits.newest) versions log lsn txn txn (number / 32) (number % 32) [] before after begun_undoable begun within (subst (IsFreeFor log txn) (sym is) free_here) (ap (shown log versions) (sym is))
            (subst (HasOpenRoom (log ++ update_at txn lsn number before after ∷ []) versions) (omega (arith, is)) open_room);
        no_commit = refl;
        room = omega (arith, owes, owed_begin fits.records txn fresh, fits.sessions.owes, room, blocks, cap, more, ap (λ (g : Geometry). g.blocks) same, kept);
      }

  -- both are logged
  pub one_write : (store : TransactionStore) (site : Site) (lsn : ℕ) (before after : Content) →
      Represents store site fits.newest ((fits.records ++ begin_at txn ∷ []) ++ update_at txn lsn number before after ∷ []) s.table s.commits → HasOneWrite store site fits.newest fits.records s.table s.commits txn number after
  one_write store site lsn before after holds =
      let log = fits.records ++ begin_at txn ∷ [] in
      let e = update_at txn lsn number before after in
      record {
        log = log ++ e ∷ [];
        fresh = fresh;
        concerns = concerns_more fits.newest txn fits.records log e refl (concerns_more fits.newest txn fits.records fits.records (begin_at txn) refl (record { under_way = λ t last writes differ active. active; losers = λ t differ. refl; left = λ t differ. refl; entries = λ t differ. refl }));
        holds = holds;
        last = lsn;
        active = subst (λ (n : ℕ). IsActive (master_of fits.newest) (log ++ e ∷ []) txn lsn ((n, after) ∷ [])) place (active_writes (master_of fits.newest) log lsn txn txn (number / 32) (number % 32) [] before after begun
            ((undoable store site fits.newest (log ++ e ∷ []) s.table s.commits holds).undone txn));
        owes = omega (arith, owed_update log e refl begun.lives.not_closed begun.chain, owed_begin fits.records txn fresh);
      }

-- The sessions are as they were.
pub unconcerned : (newest : Option Master) (records log : List Entry) (active : List Active) (s : State) (txn : ℕ) → SessionsAre newest records active s → IsFresh txn records → ConcernsOnly newest txn records log → is_loser log txn ≡ false → owed log ≡ owed records → SessionsAre newest log active s
unconcerned newest records log active s txn are fresh concerns closed same = record {
  count = are.count;
  each = λ m. others_go_on newest s.kept txn records log concerns (entry_of active m) (session_at s m)
      (λ entry is. let found = some_active newest records active s are m entry is in not_fresh newest s.kept records entry found.session txn found.under_way fresh) (are.each m);
  all = λ t is. ⊎_elim
      (λ (own : t ≡ txn). absurd (true≢false (sym is ∙ ap (is_loser log) own ∙ closed)))
      (λ differ. are.all t (sym (concerns.losers t differ) ∙ is))
      (cases_eq t txn);
  owes = same ∙ are.owes;
  differ = are.differ;
}

-- It may be committed.
pub may_commit_one : (store : TransactionStore) (site : Site) (newest : Option Master) (records : List Entry) (table : List Content) (commits txn number next : ℕ) (after : Content) (w : HasOneWrite store site newest records table commits txn number after) → next ≡ commits → MayCommit newest w.log txn (next + 1) commits
may_commit_one store site newest records table commits txn number next after w is = record { begun = w.active.lives; chain = w.active.chain; number_is = ap (λ (n : ℕ). n + 1) is }

-- It leaves the one write.
pub sets_one : {store : TransactionStore} {site : Site} {newest : Option Master} {records : List Entry} {table : List Content} {commits txn number : ℕ} {after : Content} (w : HasOneWrite store site newest records table commits txn number after) →
    table_with table (writes_in txn w.log) ≡ table_with table ((number, after) ∷ [])
sets_one {store = store} {site = site} {newest = newest} {table = table} {commits = commits} {txn = txn} w =
    let versions = versions_on (sizes_of store) site.image in
    stands_for (writes_in txn w.log) (follow.standing_in txn w.log) (table_is store site newest w.log table commits w.holds) (table_stands w.log versions txn (undoable store site newest w.log table commits w.holds) w.active.lives.not_closed w.active.chain)
    ∙ ap (table_with table) (sym w.active.writes_are)

-- It is committed.
pub set_fits : (engine one last : Engine) (old between new : Site) (s : State) (number txn lsn : ℕ) (after : Content) (fits : Matches engine old s) (w : HasOneWrite one.store between fits.newest fits.records s.table s.commits txn number after) → IsTrue new.honest →
    Represents last.store new fits.newest (w.log ++ record { lsn = lsn; rec = Commit txn (one.commits + 1) } ∷ []) (table_with s.table (writes_in txn w.log)) (s.commits + 1) →
    one ≡ record engine { store = one.store } → last ≡ record one { store = last.store; commits = last.commits } → last.commits ≡ one.commits + 1 →
    one.store.made ≡ engine.store.made + 2 → last.store.made ≡ one.store.made + 1 → AreLocked engine.footprints engine.locks → locks.busy_write engine.locks None number ≡ None →
    Matches last new (making 3 (committed s ((number, after) ∷ [])))
set_fits engine one last old between new s number txn lsn after fits w honest holds rest_one rest_last commits made_one made_last locked unlocked =
    let e : Entry = record { lsn = lsn; rec = Commit txn (one.commits + 1) } in
    let log = w.log ++ e ∷ [] in
    let owes_two = active_owes (master_of fits.newest) w.log txn w.last ((number, after) ∷ []) w.active in
    let owes = owed_closing w.log e refl w.active.lives.not_closed w.active.chain in
    let engine_is : last ≡ record engine { store = last.store; commits = last.commits } = rest_last ∙ ap (λ (x : Engine). record x { store = last.store; commits = last.commits }) rest_one in
    let done = unconcerned fits.newest fits.records log engine.active s txn fits.sessions w.fresh (concerns_more fits.newest txn fits.records w.log e refl w.concerns) (loser_is_closed w.log e refl) (omega (arith, owes, owes_two, w.owes)) in
    let kept = subst (λ (a : List Active). SessionsAre fits.newest log a s) (sym (ap (λ (x : Engine). x.active) engine_is)) done in
    let held = subst (λ (l : List Lock). LocksAre l s) (sym (ap (λ (x : Engine). x.locks) engine_is)) fits.locks_are in
    record {
      honest = honest;
      newest = fits.newest;
      records = log;
      holds = subst (λ (t : List Content). Represents last.store new fits.newest log t (s.commits + 1)) (sets_one w) holds;
      counts = record {
        commits = commits ∙ ap (λ (n : ℕ). n + 1) (ap (λ (x : Engine). x.commits) rest_one ∙ fits.counts.commits);
        made = omega (arith, made_last, made_one, fits.counts.made);
        cap = ap (λ (x : Engine). x.cap) engine_is ∙ fits.counts.cap;
        fills = fits.counts.fills;
      };
      sessions = record { count = kept.count; each = kept.each; all = kept.all; owes = kept.owes; differ = kept.differ };
      locks_are = record { written = held.written; reads = held.reads };
      footprints_are =
          subst (λ (l : List (List Footprint)). FootprintsAre l (making 3 (committed s ((number, after) ∷ [])))) (sym (ap (λ (x : Engine). x.footprints) engine_is))
          (one_set engine.footprints s (making 3 (committed s ((number, after) ∷ []))) number after (none_there engine.footprints engine.locks number locked unlocked) refl refl fits.footprints_are);
    }
