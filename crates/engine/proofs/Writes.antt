-- A session's read, and its write.
use Rattle.engine.proofs.Names.{◌≡◌, ℕ, ◌+◌, ◌*◌, ◌/◌, ◌%◌, ◌<◌, ◌≤◌, ◌&&◌, ◌||◌, ◌==◌, Bool, true, false, not, cond, ◌++◌, ◌∷◌, [], List, length, find, Option, None, Some, ⊎_elim, refl, sym, ap, subst, ◌∙◌, arith, IsTrue, get_or-set_same, get_or-set_other, length-set, or-false, and-true, cases_eq, eq-eqb, ne_eqb, none-some, list_any, range_with_len, slice_set, slice_index_or, option_map, unwrap_or, Master, sizes_of, footprint_of, full_for, Matches, LocksAre, SessionIs, SessionsAre, with_write, with_read, Engine, of_session, Footprint, length-versions, master_of, versions_on, AddsLock, Lock, active_may_write, owed_update, IsFreeFor, Entry, shown, HasOpenRoom, IsStore, Content, Session, State, Write, session_at, writes_of, wrote_of, reads_of, content_at, last_write, length_of, seen, having_written, having_read, blocks_to, IsInFront, Represents, MayGrow, shown_in, update_by, TransactionStore, Site, entry_is, IsTable, entry_of, ChangesOnly, after_write, Active}
use Rattle.engine.proofs.Scans.{none_more_written}
use Rattle.log_laws.proofs.Versions.{page_and_slot}
use Rattle.engine.proofs.Actives.{some_active}
use Rattle.engine.proofs.FootprintChanges.{footprints_stay, wrote}
use Rattle.engine.proofs.PageRooms.{room_written}
use Rattle.engine.proofs.Changes.{wrote_more}
use Rattle.engine.proofs.Locks.{at_set}
use Rattle.engine.proofs.Meanings.{busy_write_is, free_for, undoable}
use Rattle.record_model.specs.State as model
use Rattle.lock_table.specs.Locks as locks
use Rattle.txn_table.specs.Entries as entries

-- Locks.

-- some item of a list, or the one behind it
any_more : {X : Type 0} (test : X → Bool) (xs : List X) (x : X) → list_any test (xs ++ x ∷ []) ≡ (list_any test xs || test x)
any_more test [] x = by (test x)
  where
    by : (b : Bool) → (b || false) ≡ (false || b)
    by true = refl
    by false = refl
any_more test (y ∷ xs) x = by (test y) (any_more test xs x)
  where
    by : (b : Bool) → list_any test (xs ++ x ∷ []) ≡ (list_any test xs || test x) → (b || list_any test (xs ++ x ∷ [])) ≡ ((b || list_any test xs) || test x)
    by true rest = refl
    by false rest = rest

-- the session has written the record now
pub added_write : (old new : List Lock) (s : State) (n number : ℕ) (after : Content) (session : Session) → n < length s.sessions → session_at s n ≡ Some session → AddsLock old new n number true → LocksAre old s → LocksAre new (with_write s n (number, after))
added_write old new s n number after session small is adds are = record {
  written = λ m r. ⊎_elim
      (λ (same : m ≡ n).
      adds.written m r
      ∙ (λ i. are.written m r i || (eq-eqb n m (sym same) i && and-true (number == r) i))
      ∙ ap (λ (o : Option Session). list_any (λ wrote. wrote == r) (wrote_of o) || (number == r)) (ap (session_at s) same ∙ is)
      ∙ sym (any_more (λ (wrote : ℕ). wrote == r) session.wrote number)
      ∙ sym (ap (λ (o : Option Session). list_any (λ wrote. wrote == r) (wrote_of o)) (own m same)))
      (λ differ.
      adds.written m r
      ∙ (λ i. are.written m r i || (ne_eqb n m (λ e. differ (sym e)) i && (number == r && true)))
      ∙ or-false (model.has_written s m r)
      ∙ sym (ap (λ (o : Option Session). list_any (λ wrote. wrote == r) (wrote_of o)) (get_or-set_other s.sessions n m now None differ)))
      (cases_eq m n);
  reads = λ m r.
      adds.reads m r ∙ none_more_written (locks.has_read old m r) (n == m) (number == r) ∙ are.reads m r
      ∙ sym (ap (λ (rs : List ℕ). list_any (λ read. read == r) rs) (at_set reads_of s.sessions n now (Some session) small is (ap (λ (o : Option Session). reads_of (option_map (having_written (number, after)) o)) is) m));
}
  where
    now : Option Session
    now = option_map (having_written (number, after)) (session_at s n)

    own : (m : ℕ) → m ≡ n → slice_index_or (slice_set s.sessions n now) m None ≡ Some (having_written (number, after) session)
    own m same = ap (λ (k : ℕ). slice_index_or (slice_set s.sessions n now) k None) same ∙ get_or-set_same s.sessions n now None small ∙ ap (option_map (having_written (number, after))) is

-- the session has read the record now
pub added_read : (old new : List Lock) (s : State) (n number : ℕ) (session : Session) → n < length s.sessions → session_at s n ≡ Some session → AddsLock old new n number false → LocksAre old s → LocksAre new (with_read s n number)
added_read old new s n number session small is adds are = record {
  reads = λ m r. ⊎_elim
      (λ (same : m ≡ n).
      adds.reads m r
      ∙ (λ i. are.reads m r i || (eq-eqb n m (sym same) i && and-true (number == r) i))
      ∙ ap (λ (o : Option Session). list_any (λ read. read == r) (reads_of o) || (number == r)) (ap (session_at s) same ∙ is)
      ∙ sym (any_more (λ (read : ℕ). read == r) session.reads number)
      ∙ sym (ap (λ (o : Option Session). list_any (λ read. read == r) (reads_of o)) (own m same)))
      (λ differ.
      adds.reads m r
      ∙ (λ i. are.reads m r i || (ne_eqb n m (λ e. differ (sym e)) i && (number == r && true)))
      ∙ or-false (model.has_read s m r)
      ∙ sym (ap (λ (o : Option Session). list_any (λ read. read == r) (reads_of o)) (get_or-set_other s.sessions n m now None differ)))
      (cases_eq m n);
  written = λ m r.
      adds.written m r ∙ none_more_written (locks.has_written old m r) (n == m) (number == r) ∙ are.written m r
      ∙ sym (ap (λ (ws : List ℕ). list_any (λ wrote. wrote == r) ws) (at_set wrote_of s.sessions n now (Some session) small is (ap (λ (o : Option Session). wrote_of (option_map (having_read (number ∷ [])) o)) is) m));
}
  where
    now : Option Session
    now = option_map (having_read (number ∷ [])) (session_at s n)

    own : (m : ℕ) → m ≡ n → slice_index_or (slice_set s.sessions n now) m None ≡ Some (having_read (number ∷ []) session)
    own m same = ap (λ (k : ℕ). slice_index_or (slice_set s.sessions n now) k None) same ∙ get_or-set_same s.sessions n now None small ∙ ap (option_map (having_read (number ∷ []))) is

-- A number that passes the smaller test passes the larger one.

find_less : (less more : ℕ → Bool) (xs : List ℕ) → ((x : ℕ) → less x ≡ true → more x ≡ true) → find more xs ≡ None → find less xs ≡ None
find_less less more [] weaker none = refl
find_less less more (x ∷ xs) weaker none = by (less x) (more x) (weaker x) none (find_less less more xs weaker)
  where
    by : (a b : Bool) → (a ≡ true → b ≡ true) → cond b (Some x) (find more xs) ≡ None → (find more xs ≡ None → find less xs ≡ None) → cond a (Some x) (find less xs) ≡ None
    by a true weaker some rest = absurd (none-some x (sym some))
    by false false weaker later rest = rest later
    by true false weaker later rest = absurd (true_false (weaker refl))
      where
        true_false : false ≡ true → ⊥
        true_false e = cc

-- who may write a record may read it
pub may_read_too : (s : State) (n number : ℕ) → model.busy_write s (Some n) number ≡ None → model.busy_read s (Some n) number ≡ None
may_read_too s n number = find_less (λ m. not (n == m) && model.has_written s m number) (λ m. not (n == m) && (model.has_written s m number || model.has_read s m number)) (range_with_len 0 8)
    (λ m. by (not (n == m)) (model.has_written s m number) (model.has_read s m number))
  where
    by : (a b c : Bool) → (a && b) ≡ true → (a && (b || c)) ≡ true
    by true true c is = refl
    by true false c is = absurd cc
    by false b c is = is

-- A write.

pub may_write : (engine : Engine) (site : Site) (s : State) (fits : Matches engine site s) (entry : Active) (number lsn : ℕ) (after : Content) → full_for s number after ≡ None → length engine.footprints ≡ 8 → IsStore engine.store.pages → IsInFront engine.store number → IsTable engine.active → entry_of engine.active entry.session ≡ Some entry → number < 32 * (sizes_of engine.store).pages →
    locks.busy_write engine.locks (Some entry.session) number ≡ None → engine.store.made + entries.owed engine.active + 2 ≤ engine.cap → blocks_to engine.store.log ≤ engine.store.log.kept + engine.store.made → engine.cap + 1 ≡ (sizes_of engine.store).blocks →
    MayGrow engine.store site fits.newest fits.records (record { lsn = lsn; rec = update_by entry.begin entry.last number (shown_in engine.store site fits.records number) after })
may_write engine site s fits entry number lsn after has eight own front table at less free room blocks cap =
    let n = entry.session in
    let versions = versions_on (sizes_of engine.store) site.image in
    let before : Content = shown_in engine.store site fits.records number in
    let e : Entry = record { lsn = lsn; rec = update_by entry.begin entry.last number before after } in
    let found = some_active fits.newest fits.records engine.active s fits.sessions n entry at in
    let active = found.under_way.is_active in
    let none = may_read_too s n number (sym (busy_write_is engine.locks s fits.locks_are (Some n) number) ∙ free) in
    let only : IsFreeFor fits.records entry.begin number = free_for fits.newest fits.records engine.active s fits.sessions table n number entry at none in
    let size = length-versions (sizes_of engine.store) site.image in
    let place = page_and_slot number in
    record {
      follows = active_may_write (master_of fits.newest) versions fits.records lsn entry.begin entry.last (number / 32) (number % 32) found.session.writes before after (undoable engine.store site fits.newest fits.records s.table s.commits fits.holds) active
          (omega (arith, place, less, size)) (subst (IsFreeFor fits.records entry.begin) (sym place) only) (ap (shown fits.records versions) (sym place))
          (subst (HasOpenRoom (fits.records ++ e ∷ []) versions) (omega (arith, place)) (room_written engine site s fits table eight number less own front after has lsn entry.begin entry.last));
      no_commit = refl;
      room = omega (arith, owed_update fits.records e refl active.lives.not_closed active.chain, fits.sessions.owes, room, blocks, cap);
    }

pub write_fits : (engine last : Engine) (old new : Site) (s : State) (entry : Active) (number lsn : ℕ) (before after : Content) (fits : Matches engine old s) → IsTable engine.active → entry_of engine.active entry.session ≡ Some entry → IsTrue new.honest → before ≡ seen s entry.session number →
    Represents last.store new fits.newest (fits.records ++ record { lsn = lsn; rec = update_by entry.begin entry.last number before after } ∷ []) s.table s.commits →
    last.store.made ≡ engine.store.made + 1 → last.commits ≡ engine.commits → last.cap ≡ engine.cap →
    AddsLock engine.locks last.locks entry.session number true → ChangesOnly engine.active last.active entry.session (Some (after_write entry lsn)) → entries.owed last.active ≡ entries.owed engine.active + 1 →
    length engine.footprints ≡ 8 → (f : Footprint) → f ≡ record { number = number; stood = length_of before; written = length_of after } → last.footprints ≡ slice_set engine.footprints entry.session (of_session engine.footprints entry.session ++ f ∷ []) →
    Matches last new (with_write s entry.session (number, after))
write_fits engine last old new s entry number lsn before after fits table at honest there holds made commits cap adds changes owes eight f tells set =
    let n = entry.session in
    let e : Entry = record { lsn = lsn; rec = update_by entry.begin entry.last number before after } in
    let found = some_active fits.newest fits.records engine.active s fits.sessions n entry at in
    let small = (entry_is engine.active n entry table at).small in
    let more : SessionsAre fits.newest (fits.records ++ e ∷ []) last.active (with_write s n (number, after)) =
    subst (λ (k : ℕ). SessionsAre fits.newest (fits.records ++ e ∷ []) last.active (with_write s n (k, after))) (page_and_slot number)
    (wrote_more fits.newest fits.records engine.active last.active s n lsn (number / 32) (number % 32) entry before after fits.sessions small at changes owes
    ((undoable last.store new fits.newest (fits.records ++ e ∷ []) s.table s.commits holds).undone entry.begin)) in
    record {
      honest = honest;
      newest = fits.newest;
      records = fits.records ++ e ∷ [];
      holds = holds;
      counts = record { commits = commits ∙ fits.counts.commits; made = let before = fits.counts.made in omega (arith, made, before); cap = cap ∙ fits.counts.cap; fills = fits.counts.fills };
      sessions = more;
      locks_are = added_write engine.locks last.locks s n number after found.session (omega (arith, small, fits.sessions.count)) found.is adds fits.locks_are;
      footprints_are =
          let same : f ≡ footprint_of s.table found.session.writes (number, after) = tells ∙ (λ i. record { number = number; stood = length_of ((there ∙ ap (λ (o : Option Session). unwrap_or (last_write (writes_of o) number) (content_at s.table number)) found.is) i); written = length_of after }) in
          wrote engine.footprints last.footprints s (with_write s n (number, after)) n number after found.session f (omega (arith, small, eight)) (omega (arith, small, fits.sessions.count)) found.is same set refl refl fits.footprints_are;
    }

-- A read.

-- what a session has read changes nothing of its transaction
pub read_more : (newest : Option Master) (records : List Entry) (active : List Active) (s : State) (n number : ℕ) (entry : Active) → SessionsAre newest records active s → n < 8 → entry_of active n ≡ Some entry → SessionsAre newest records active (with_read s n number)
read_more newest records active s n number entry are small at =
    let found = some_active newest records active s are n entry at in
    let under = found.under_way in
    let now : Option Session = option_map (having_read (number ∷ [])) (session_at s n) in
    record {
      count = length-set s.sessions n now ∙ are.count;
      each = λ m. ⊎_elim
          (λ (same : m ≡ n). subst (λ (k : ℕ). SessionIs newest s.kept records (entry_of active k) (slice_index_or (slice_set s.sessions n now) k None)) (sym same)
          (subst (λ (a : Option Active). SessionIs newest s.kept records a (slice_index_or (slice_set s.sessions n now) n None)) (sym at)
          (subst (λ (o : Option Session). SessionIs newest s.kept records (Some entry) o) (sym (get_or-set_same s.sessions n now None (omega (arith, small, are.count)) ∙ ap (option_map (having_read (number ∷ []))) found.is))
          (record { is_active = under.is_active; born = under.born; count = under.count; mark = under.mark; wrote = under.wrote }))))
          (λ differ. subst (λ (o : Option Session). SessionIs newest s.kept records (entry_of active m) o) (sym (get_or-set_other s.sessions n m now None differ)) (are.each m))
          (cases_eq m n);
      all = are.all;
      owes = are.owes;
      differ = are.differ;
    }

-- A page was touched.
abbrev pub touched_fits : (engine : Engine) (store : TransactionStore) (old new : Site) (s : State) (fits : Matches engine old s) → IsTrue new.honest → Represents store new fits.newest fits.records s.table s.commits → store.made ≡ engine.store.made → Matches (record engine { store = store }) new s
touched_fits engine store old new s fits honest holds made = record {
  honest = honest;
  newest = fits.newest;
  records = fits.records;
  holds = holds;
  counts = record { commits = fits.counts.commits; made = ap (λ (k : ℕ). k + s.kept) made ∙ fits.counts.made; cap = fits.counts.cap; fills = fits.counts.fills };
  sessions = fits.sessions;
  locks_are = fits.locks_are;
  footprints_are = fits.footprints_are;
}

pub read_fits : (engine : Engine) (held : _) (site : Site) (s : State) (n number : ℕ) (entry : Active) (fits : Matches engine site s) → IsTable engine.active → entry_of engine.active n ≡ Some entry → AddsLock engine.locks held n number false →
    Matches (record engine { locks = held }) site (with_read s n number)
read_fits engine held site s n number entry fits table at adds =
    let found = some_active fits.newest fits.records engine.active s fits.sessions n entry at in
    let small = (entry_is engine.active n entry table at).small in
    record {
      honest = fits.honest;
      newest = fits.newest;
      records = fits.records;
      holds = fits.holds;
      counts = record { commits = fits.counts.commits; made = fits.counts.made; cap = fits.counts.cap; fills = fits.counts.fills };
      sessions = read_more fits.newest fits.records engine.active s n number entry fits.sessions small at;
      locks_are = added_read engine.locks held s n number found.session (omega (arith, small, fits.sessions.count)) found.is adds fits.locks_are;
      footprints_are = footprints_stay engine.footprints s (with_read s n number) refl (at_set writes_of s.sessions n (option_map (having_read (number ∷ [])) (session_at s n)) (Some found.session) (omega (arith, small, fits.sessions.count)) found.is (ap (λ (o : Option Session). writes_of (option_map (having_read (number ∷ [])) o)) found.is)) fits.footprints_are;
    }
