-- A session's mark, and its way back.
use Rattle.engine.proofs.Names.{◌≡◌, ◌≢◌, ℕ, ◌+◌, ◌-◌, ◌<◌, ◌≤◌, List, length, drop, take, Option, None, Some, ⊎_elim, refl, sym, ap, subst, ◌∙◌, arith, get_or-set_same, get_or-set_other, length-set, IsTrue, cases_eq, length-drop, length-take-le, same_Some, filter_map, option_map, slice_index_or, slice_set, unwrap_or, Master, Invariant, sizes_of, back_reads, AreLocked, AreTakenBack, IsUnderWay, LocksAre, Matches, SessionIs, SessionsAre, with_mark, Engine, master_of, Lock, IsActive, Entry, number_of, owed, end_of, Session, State, session_at, writes_of, wrote_of, reads_of, dropped, effect, going_back, having_marked, making, with_session, record_touches, takes_back_touches, blocks_to, ConcernsOnly, GoesBack, MayWork, goes_back, record_work, Site, Geometry, entry_is, IsTable, entry_of, ChangesOnly, after_mark, after_undone, Active}
use Rattle.std.specs.Prelude.{min}
use Rattle.engine.proofs.Aborts.{others_go_on}
use Rattle.engine.proofs.Actives.{some_active}
use Rattle.engine.proofs.FootprintChanges.{footprints_stay, went_back}
use Rattle.engine.proofs.Locks.{at_set, locks_stay}
use Rattle.record_model.specs.declared.words.Command.TheVariants as command
use Rattle.txn_table.specs.Entries as entries

-- One session goes on with another entry, and no other transaction is concerned.
pub changed_one : (newest : Option Master) (records log : List Entry) (old new : List Active) (s : State) (n : ℕ) (now : Option Session) (session : Session) (entry entry' : Active) → SessionsAre newest records old s → n < 8 → entry_of old n ≡ Some entry → ChangesOnly old new n (Some entry') → entry'.begin ≡ entry.begin →
    ConcernsOnly newest entry.begin records log → owed log ≡ entries.owed new → now ≡ Some session → IsUnderWay newest s.kept log entry' session → SessionsAre newest log new (with_session s n now)
changed_one newest records log old new s n now session entry entry' are small at changes begin concerns owes is under = record {
  count = length-set s.sessions n now ∙ are.count;
  each = λ m. ⊎_elim
      (λ (same : m ≡ n). subst (λ (k : ℕ). SessionIs newest s.kept log (entry_of new k) (slice_index_or (slice_set s.sessions n now) k None)) (sym same)
      (subst (λ (a : Option Active). SessionIs newest s.kept log a (slice_index_or (slice_set s.sessions n now) n None)) (sym changes.own)
      (subst (λ (o : Option Session). SessionIs newest s.kept log (Some entry') o) (sym (get_or-set_same s.sessions n now None (omega (arith, small, are.count)) ∙ is)) under)))
      (λ differ. subst (λ (a : Option Active). SessionIs newest s.kept log a (slice_index_or (slice_set s.sessions n now) m None)) (sym (changes.others m differ))
      (subst (λ (o : Option Session). SessionIs newest s.kept log (entry_of old m) o) (sym (get_or-set_other s.sessions n m now None differ))
      (others_go_on newest s.kept entry.begin records log concerns (entry_of old m) (session_at s m) (λ other there same. differ (are.differ m n other entry there at same)) (are.each m))))
      (cases_eq m n);
  all = λ t loser. ⊎_elim
      (λ (same : t ≡ entry.begin). (n, entry', changes.own, begin ∙ sym same))
      (λ differ. older t differ (are.all t (sym (concerns.losers t differ) ∙ loser)))
      (cases_eq t entry.begin);
  owes = owes;
  differ = λ i j a b at_i at_j same. let before_i = was i a at_i in let before_j = was j b at_j in are.differ i j before_i.0 before_j.0 before_i.1 before_j.1 (before_i.2 ∙ same ∙ sym before_j.2);
}
  where
    -- the entry that it was
    was : (i : ℕ) (a : Active) → entry_of new i ≡ Some a → (b : Active) × (entry_of old i ≡ Some b) × (b.begin ≡ a.begin)
    was i a there = ⊎_elim
        (λ (same : i ≡ n). (entry, ap (entry_of old) same ∙ at, sym begin ∙ ap (λ (x : Active). x.begin) (same_Some entry' a (sym changes.own ∙ ap (entry_of new) (sym same) ∙ there))))
        (λ differ. (a, sym (changes.others i differ) ∙ there, refl))
        (cases_eq i n)

    older : (t : ℕ) → t ≢ entry.begin → (m : ℕ) × (other : Active) × (entry_of old m ≡ Some other) × (other.begin ≡ t) → (m : ℕ) × (other : Active) × (entry_of new m ≡ Some other) × (other.begin ≡ t)
    older t ne found = (found.0, found.1, changes.others found.0 (λ same. ne (sym found.3 ∙ ap (λ (x : Active). x.begin) (same_Some found.1 entry (sym found.2 ∙ ap (entry_of old) same ∙ at)))) ∙ found.2, found.3)

-- nothing was logged
nothing_concerned : (newest : Option Master) (txn : ℕ) (records : List Entry) → ConcernsOnly newest txn records records
nothing_concerned newest txn records = record { under_way = λ t last writes other active. active; losers = λ t other. refl; left = λ t other. refl; entries = λ t other. refl }

-- what it has written and read is as before
same_locks : (held : List Lock) (s : State) (n : ℕ) (now : Option Session) (session : Session) → n < length s.sessions → session_at s n ≡ Some session → wrote_of now ≡ session.wrote → reads_of now ≡ session.reads → LocksAre held s → LocksAre held (with_session s n now)
same_locks held s n now session small is wrote reads are =
    locks_stay held s (with_session s n now) (at_set wrote_of s.sessions n now (Some session) small is wrote) (at_set reads_of s.sessions n now (Some session) small is reads) are

-- The mark.
pub marked_fits : (engine : Engine) (active : List Active) (site : Site) (s : State) (n : ℕ) (entry : Active) (fits : Matches engine site s) → IsTable engine.active → entry_of engine.active n ≡ Some entry → ChangesOnly engine.active active n (Some (after_mark entry)) → entries.owed active ≡ entries.owed engine.active →
    Matches (record engine { active = active }) site (with_mark s n)
marked_fits engine active site s n entry fits table at changes owed =
    let found = some_active fits.newest fits.records engine.active s fits.sessions n entry at in
    let small = (entry_is engine.active n entry table at).small in
    let now : Option Session = option_map having_marked (session_at s n) in
    let is : now ≡ Some (having_marked found.session) = ap (option_map having_marked) found.is in
    let under = found.under_way in
    record {
      honest = fits.honest;
      newest = fits.newest;
      records = fits.records;
      holds = fits.holds;
      counts = record { commits = fits.counts.commits; made = fits.counts.made; cap = fits.counts.cap; fills = fits.counts.fills };
      sessions = changed_one fits.newest fits.records fits.records engine.active active s n now (having_marked found.session) entry (after_mark entry) fits.sessions small at changes refl (nothing_concerned fits.newest entry.begin fits.records) (fits.sessions.owes ∙ sym owed) is
          (record { is_active = under.is_active; born = under.born; count = under.count; mark = under.count; wrote = under.wrote });
      locks_are = same_locks engine.locks s n now found.session (omega (arith, small, fits.sessions.count)) found.is (ap wrote_of is) (ap reads_of is) fits.locks_are;
      footprints_are = footprints_stay engine.footprints s (with_mark s n) refl (at_set writes_of s.sessions n now (Some found.session) (omega (arith, small, fits.sessions.count)) found.is (ap writes_of is)) fits.footprints_are;
    }

-- The way back to so many writes.
pub back_fits : (engine last : Engine) (old new : Site) (s : State) (entry : Active) (stays lsn : ℕ) (session : Session) (fits : Matches engine old s) → IsTable engine.active → entry_of engine.active entry.session ≡ Some entry → session_at s entry.session ≡ Some session → IsUnderWay fits.newest s.kept fits.records entry session →
    stays ≤ entry.writes → IsTrue new.honest → GoesBack last.store new fits.newest fits.records s.table s.commits entry.begin (entry.writes - stays) session.writes lsn → last.store.made ≡ engine.store.made + (entry.writes - stays) →
    ChangesOnly engine.active last.active entry.session (Some (after_undone entry (entry.writes - stays) lsn)) → entries.owed last.active + (entry.writes - stays) ≡ entries.owed engine.active → last.locks ≡ engine.locks → last.commits ≡ engine.commits → last.cap ≡ engine.cap →
    AreTakenBack engine.footprints last.footprints entry.session (entry.writes - stays) →
    Matches last new (effect s (command.Back entry.session (Some stays)))
back_fits engine last old new s entry stays lsn session fits table at is under less honest back made changes owed locks commits cap taken =
    let n = entry.session in
    let count : ℕ = entry.writes - stays in
    let small = (entry_is engine.active n entry table at).small in
    let now : Option Session = option_map (going_back (Some stays)) (session_at s n) in
    let is_now : now ≡ Some (going_back (Some stays) session) = ap (option_map (going_back (Some stays))) is in
    let many = under.count in
    let left : length session.writes - count ≡ stays = omega (arith, many, less) in
    let drops : length (dropped (Some stays) (session_at s n)) ≡ count = ap (λ (o : Option Session). length (dropped (Some stays) o)) is ∙ length-drop stays session.writes ∙ omega (arith, many) in
    let done : SessionsAre fits.newest back.log last.active (with_session s n now) =
    changed_one fits.newest fits.records back.log engine.active last.active s n now (going_back (Some stays) session) entry (after_undone entry count lsn) fits.sessions small at changes refl back.concerns (let owes = back.owes in omega (arith, owes, fits.sessions.owes, owed)) is_now
    (record {
      is_active = subst (λ (k : ℕ). IsActive (master_of fits.newest) back.log entry.begin lsn (take k session.writes)) left back.under_way;
      born = under.born;
      count = omega (arith, less, length-take-le stays session.writes (omega (arith, less, many)));
      mark = (λ i. min (under.mark i) (stays_is i));
      wrote = under.wrote ∙ ap (filter_map (λ (u : Entry). number_of u.rec)) (sym back.updates);
    }) in
    record {
      honest = honest;
      newest = fits.newest;
      records = back.log;
      holds = back.holds;
      counts = record { commits = commits ∙ fits.counts.commits; made = omega (arith, made, fits.counts.made, drops); cap = cap ∙ fits.counts.cap; fills = fits.counts.fills };
      sessions = record { count = done.count; each = done.each; all = done.all; owes = done.owes; differ = done.differ };
      locks_are = let held = same_locks engine.locks s n now session (omega (arith, small, fits.sessions.count)) is (ap wrote_of is_now) (ap reads_of is_now) fits.locks_are in
          subst (λ (l : List Lock). LocksAre l (effect s (command.Back n (Some stays)))) (sym locks) (record { written = held.written; reads = held.reads });
      footprints_are = went_back engine.footprints last.footprints s (effect s (command.Back n (Some stays))) n stays count session (omega (arith, small, fits.sessions.count)) is (omega (arith, less, many)) (omega (arith, many)) taken refl refl fits.footprints_are;
    }
  where
    stays_is : entry.writes - (entry.writes - stays) ≡ stays
    stays_is = omega (arith, less)

-- Of every site: a session goes on with another entry, and so much less is owed as more was made.
pub still_going : {old new : Engine} {before now : Site} (n count : ℕ) (entry entry' : Active) → Invariant old before → entry_of old.active n ≡ Some entry → ChangesOnly old.active new.active n (Some entry') → IsTable new.active → entry'.begin ≡ entry.begin → entry'.born ≡ entry.born → entry'.begin ≤ entry'.last → entry'.last < end_of new.store.log →
    entries.owed new.active + count ≡ entries.owed old.active → MayWork new.store now → sizes_of new.store ≡ sizes_of old.store → new.store.log.kept ≡ old.store.log.kept → new.store.made ≡ old.store.made + count → blocks_to new.store.log ≤ blocks_to old.store.log + count → end_of old.store.log ≤ end_of new.store.log →
    new.ended ≡ old.ended → new.cap ≡ old.cap → new.commits ≡ old.commits → AreLocked new.footprints new.locks → Invariant new now
still_going {old = old} {new = new} n count entry entry' going at changes table begin born above below owed store sizes kept made blocks rises ended cap commits locked = record {
  footprints = locked;
  store = store;
  going = ended ∙ going.going;
  cap = ap (λ (k : ℕ). k + 1) cap ∙ going.cap ∙ sym (ap (λ (x : Geometry). x.blocks) sizes);
  table = table;
  room = omega (arith, blocks, kept, owed, cap, going.room);
  since = λ m other there. let x = was m other there in let before = going.since m x.0 x.1 in omega (arith, before, x.2.0, x.2.1, blocks, made);
  bounded = omega (arith, made, owed, going.bounded);
  budget = omega (arith, made, owed, cap, going.budget);
  commits = omega (arith, commits, going.commits, rises);
  lasts = λ m other there. ⊎_elim
      (λ (same : m ≡ n). subst (λ (x : Active). (x.begin ≤ x.last) × (x.last < end_of new.store.log)) (same_Some entry' other (sym changes.own ∙ ap (entry_of new.active) (sym same) ∙ there)) (above, below))
      (λ differ. let before = going.lasts m other (sym (changes.others m differ) ∙ there) in (before.0, omega (arith, before.1, rises)))
      (cases_eq m n);
  differ = λ i j a b at_i at_j same. let x = was i a at_i in let y = was j b at_j in going.differ i j x.0 y.0 x.1 y.1 (x.2.0 ∙ same ∙ sym y.2.0);
}
  where
    was : (i : ℕ) (a : Active) → entry_of new.active i ≡ Some a → (b : Active) × (entry_of old.active i ≡ Some b) × ((b.begin ≡ a.begin) × (b.born ≡ a.born))
    was i a there = ⊎_elim
        (λ (same : i ≡ n).
        let is : entry' ≡ a = same_Some entry' a (sym changes.own ∙ ap (entry_of new.active) (sym same) ∙ there) in
        (entry, ap (entry_of old.active) same ∙ at, (sym begin ∙ ap (λ (x : Active). x.begin) is, sym born ∙ ap (λ (x : Active). x.born) is)))
        (λ differ. (a, sym (changes.others i differ) ∙ there, (refl, refl)))
        (cases_eq i n)

-- A way back to the mark is one to as many writes.
module _ (s : State) (n m : ℕ) (standing : Option ℕ) (session : Session) (k : ℕ) (own : n ≡ m) (is : session_at s n ≡ Some session) (same : unwrap_or standing session.mark ≡ k) where
  there : session_at s m ≡ Some session
  there = ap (session_at s) (sym own) ∙ is

  dropped_as : dropped standing (session_at s n) ≡ dropped (Some k) (session_at s m)
  dropped_as = ap (dropped standing) is ∙ ap (λ (j : ℕ). drop j session.writes) same ∙ sym (ap (dropped (Some k)) there)

  going_as : option_map (going_back standing) (session_at s n) ≡ option_map (going_back (Some k)) (session_at s m)
  going_as =
      ap (option_map (going_back standing)) is
      ∙ ap (λ (j : ℕ). Some (record session { writes = take j session.writes; mark = min session.mark j })) same
      ∙ sym (ap (option_map (going_back (Some k))) there)

  pub effect_as : effect s (command.Back n standing) ≡ effect s (command.Back m (Some k))
  effect_as = λ i. making (length (dropped_as i)) (with_session s (own i) (going_as i))

  pub touches_as : record_touches s (command.Back n standing) ≡ record_touches s (command.Back m (Some k))
  touches_as = ap takes_back_touches dropped_as

  pub work_as : record_work s (command.Back n standing) ≡ record_work s (command.Back m (Some k))
  work_as = λ i. goes_back s.table (writes_of (going_as i)) (dropped_as i)

  pub reads_as : back_reads (Some k) (session_at s m) ≡ back_reads standing (session_at s n)
  reads_as = ap (back_reads (Some k)) there ∙ ap (λ (j : ℕ). length (drop j session.writes) + (length session.wrote - length session.writes)) (sym same) ∙ sym (ap (back_reads standing) is)

  pub count_as : length (dropped standing (session_at s n)) ≡ length session.writes - k
  count_as = ap length (dropped_as ∙ ap (dropped (Some k)) there) ∙ length-drop k session.writes
