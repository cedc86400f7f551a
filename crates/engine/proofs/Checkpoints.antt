-- A checkpoint of the active sessions' transactions.
use Rattle.engine.proofs.Names.{◌≡◌, ℕ, zero, suc, ◌+◌, ◌/◌, ◌<◌, ◌≤◌, ◌==◌, ◌||◌, not, Bool, true, false, List, [], ◌∷◌, length, drop, get_or, inl, Option, Some, None, IsTrue, refl, sym, ap, subst, ◌∙◌, arith, and_from, eq-eqb, not_from_false, or_left, none-some, same_Some, AllByRecursion, list_any, Master as Saved, Pair, Invariant, sizes_of, AreLocked, FootprintsAre, Matches, LocksAre, SessionIs, SessionsAre, checkpointed_if, updated, Engine, master_of, any_of_those, IsActive, Entry, is_of, is_closed, is_loser, entries_of, last_lsn, from_block, end_of, Session, State, Write, session_at, kept_by_checkpoint, AreUnfinished, MayBeMade, KeepUnfinished, blocks_to, MayWork, HasCheckpoint, Site, Geometry, entry_of-Contains, entry_of-at, IsTable, entry_of, counted_from, Active}
use Rattle.redo_laws.proofs.Outliving.{active_outlives}
use Rattle.std.proofs.Common.{option_map}
use Rattle.log_records.specs.Sound.{Master}
use Rattle.engine.proofs.FootprintChanges.{footprints_stay}
use Rattle.engine.proofs.Actives.{some_active}
use Rattle.engine.proofs.Namings.{no_active, pair_of, pairs_of}
use Rattle.engine.proofs.Keeping.{LetsGo, kept_is}
use Rattle.txn_table.specs.Entries as entries

-- The named transactions are the unfinished ones.

all_pairs : (P : Pair → Type 0) (active : List Active) → ((k : ℕ) → k < length active → P (pair_of (get_or active k no_active))) → AllByRecursion P (pairs_of active)
all_pairs P [] says = tt
all_pairs P (entry ∷ later) says = (says 0 (omega arith), all_pairs P later (λ k less. says (suc k) (omega (arith, less))))

active_is_loser : (m : Master) (log : List Entry) (t last : ℕ) (writes : List Write) → IsActive m log t last writes → is_loser log t ≡ true
active_is_loser m log t last writes a =
    and_from (list_any (is_of t) log) (not (is_closed log t))
    (any_of_those (is_of t) (is_of t) log (ap (list_any (is_of t)) a.chain.begins ∙ or_left (t == t) (list_any (is_of t) (drop 1 (entries_of t log))) (eq-eqb t t refl)))
    (not_from_false (is_closed log t) a.lives.not_closed)

any_pair : (active : List Active) (place t : ℕ) → place < length active → (get_or active place no_active).begin ≡ t → list_any (λ (pair : Pair). pair.begin == t) (pairs_of active) ≡ true
any_pair [] place t less is = absurd (omega (arith, less))
any_pair (entry ∷ later) zero t less is = or_left (entry.begin == t) (list_any (λ (pair : Pair). pair.begin == t) (pairs_of later)) (eq-eqb entry.begin t is)
any_pair (entry ∷ later) (suc place) t less is = either (entry.begin == t) (any_pair later place t (omega (arith, less)) is)
  where
    either : (b : Bool) → list_any (λ (pair : Pair). pair.begin == t) (pairs_of later) ≡ true → (b || list_any (λ (pair : Pair). pair.begin == t) (pairs_of later)) ≡ true
    either true rest = refl
    either false rest = rest

pub are_unfinished : (newest : Option Saved) (records : List Entry) (active : List Active) (s : State) → SessionsAre newest records active s → IsTable active → AreUnfinished records (pairs_of active)
are_unfinished newest records active s are table = record {
  each = all_pairs (λ (pair : Pair). (is_loser records pair.begin ≡ true) × (pair.last ≡ last_lsn (entries_of pair.begin records))) active
      (λ k less.
      let entry = get_or active k no_active in
      let found = some_active newest records active s are entry.session entry (entry_of-at active table k no_active less) in
      (active_is_loser (master_of newest) records entry.begin entry.last found.session.writes found.under_way.is_active, found.under_way.is_active.last_is));
  all = λ t loser.
      let own = are.all t loser in
      let there = (entry_of-Contains active own.0 own.1 own.2).0 in
      any_pair active there.0 t there.1 (ap (λ (e : Active). e.begin) (same_place active there.0 no_active own.1 there.1 there.2) ∙ own.3);
}
  where
    same_place : (xs : List Active) (k : ℕ) (d own : Active) → k < length xs → get_or xs k own ≡ own → get_or xs k d ≡ own
    same_place [] k d own less is = absurd (omega (arith, less))
    same_place (x ∷ xs) zero d own less is = is
    same_place (x ∷ xs) (suc k) d own less is = same_place xs k d own (omega (arith, less)) is

pub may_be_made : (engine : Engine) (site : Site) (s : State) (fits : Matches engine site s) → IsTable engine.active → MayBeMade engine.store.masters site fits.records (pairs_of engine.active)
may_be_made engine site s fits table = record {
  ring = fits.holds.masters;
  unfinished = are_unfinished fits.newest fits.records engine.active s fits.sessions table;
  orderly = inl fits.holds.orderly;
}

-- What stands behind it.

-- an entry that is counted anew has been there before
record WasThere (active : List Active) (first n : ℕ) (entry : Active) : Type 0 where
  pub before : Active
  pub is : entry_of active n ≡ Some before
  pub same : counted_from first before ≡ entry

was_there : (active new : List Active) (first n : ℕ) (entry : Active) → entry_of new n ≡ option_map (counted_from first) (entry_of active n) → entry_of new n ≡ Some entry → WasThere active first n entry
was_there active new first n entry counted is = by (entry_of active n) refl (sym counted ∙ is)
  where
    by : (o : Option Active) → entry_of active n ≡ o → option_map (counted_from first) o ≡ Some entry → WasThere active first n entry
    by None at none = absurd (none-some entry none)
    by (Some before) at some = record { before = before; is = at; same = same_Some (counted_from first before) entry some }

abbrev AreCounted : ℕ → List Active → List Active → Type 0
AreCounted first old new = (n : ℕ) → entry_of new n ≡ option_map (counted_from first) (entry_of old n)

-- the database may go on
pub goes_on : (old new : Engine) (site site' : Site) (first : ℕ) → Invariant old site → LetsGo old first → MayWork new.store site' → new.ended ≡ false → new.cap ≡ old.cap → sizes_of new.store ≡ sizes_of old.store → IsTable new.active →
    AreCounted first old.active new.active → entries.owed new.active ≡ entries.owed old.active → new.store.made + first ≡ old.store.made → blocks_to new.store.log ≡ blocks_to old.store.log → old.store.log.kept ≤ new.store.log.kept →
    end_of old.store.log ≤ end_of new.store.log → new.commits ≡ old.commits → AreLocked new.footprints new.locks → Invariant new site'
goes_on old new site site' first going go works ended cap sizes table counted owed made blocks kept end commits locked = record {
  footprints = locked;
  store = works;
  going = ended;
  cap = cap_is;
  table = table;
  room = let room = going.room in omega (arith, room, blocks, owed, kept, cap);
  since = λ n entry is.
      let was = was_there old.active new.active first n entry (counted n) is in
      let born = ap (λ (e : Active). e.born) was.same in
      let begin = ap (λ (e : Active). e.begin) was.same in
      let early = go.of_each n was.before was.is in
      let since = going.since n was.before was.is in
      subst (λ (b : ℕ). blocks_to new.store.log + entry.born ≤ b / 512 + new.store.made) begin (omega (arith, born, early, since, blocks, made));
  bounded = let bounded = going.bounded in omega (arith, bounded, owed, made);
  budget = let budget = going.budget in omega (arith, budget, owed, made, cap);
  commits = let most = going.commits in omega (arith, most, commits, end);
  lasts = λ n entry is.
      let was = was_there old.active new.active first n entry (counted n) is in
      let begin : was.before.begin ≡ entry.begin = ap (λ (e : Active). e.begin) was.same in
      let last : was.before.last ≡ entry.last = ap (λ (e : Active). e.last) was.same in
      let lasts = going.lasts n was.before was.is in
      (omega (arith, lasts.0, begin, last), omega (arith, lasts.1, last, end));
  differ = λ n m a b at_n at_m same.
      let first_was = was_there old.active new.active first n a (counted n) at_n in
      let second_was = was_there old.active new.active first m b (counted m) at_m in
      going.differ n m first_was.before second_was.before first_was.is second_was.is
      (ap (λ (e : Active). e.begin) first_was.same ∙ same ∙ sym (ap (λ (e : Active). e.begin) second_was.same));
}
  where
    cap_is : new.cap + 1 ≡ (sizes_of new.store).blocks
    cap_is = ap (λ (k : ℕ). k + 1) cap ∙ going.cap ∙ sym (ap (λ (k : Geometry). k.blocks) sizes)

-- the sessions have the transactions that they had
sessions_outlive : (newest : Option Saved) (master : Saved) (records : List Entry) (active new : List Active) (s : State) (first : ℕ) → SessionsAre newest records active s → IsTable active → master.active ≡ pairs_of active →
    KeepUnfinished records (from_block master.kept records) → ((n : ℕ) (entry : Active) → entry_of active n ≡ Some entry → first ≤ entry.born) → kept_by_checkpoint s ≡ s.kept + first → AreCounted first active new → entries.owed new ≡ entries.owed active →
    SessionsAre (Some master) (from_block master.kept records) new (checkpointed_if true s)
sessions_outlive newest master records active new s first are table named keeps early kept counted owed = record {
  count = are.count;
  each = λ n. subst (λ (a : Option Active). SessionIs (Some master) (kept_by_checkpoint s) (from_block master.kept records) a (session_at s n)) (sym (counted n)) (goes_on_one n (entry_of active n) (session_at s n) refl (are.each n));
  all = λ t loser.
      let own = are.all t (sym (keeps.losers t) ∙ loser) in
      (own.0, counted_from first own.1, counted own.0 ∙ ap (option_map (counted_from first)) own.2, own.3);
  owes = keeps.owes ∙ are.owes ∙ sym owed;
  differ = λ n m a b at_n at_m same.
      let first_was = was_there active new first n a (counted n) at_n in
      let second_was = was_there active new first m b (counted m) at_m in
      are.differ n m first_was.before second_was.before first_was.is second_was.is
      (ap (λ (e : Active). e.begin) first_was.same ∙ same ∙ sym (ap (λ (e : Active). e.begin) second_was.same));
}
  where
    goes_on_one : (n : ℕ) (a : Option Active) (o : Option Session) → entry_of active n ≡ a → SessionIs newest s.kept records a o → SessionIs (Some master) (kept_by_checkpoint s) (from_block master.kept records) (option_map (counted_from first) a) o
    goes_on_one n None None at is = tt
    goes_on_one n None (Some session) at is = absurd is
    goes_on_one n (Some entry) None at is = absurd is
    goes_on_one n (Some entry) (Some session) at is = record {
      is_active = active_outlives newest master records (from_block master.kept records) entry.begin entry.last session.writes keeps (subst (AreUnfinished records) (sym named) (are_unfinished newest records active s are table))
          (active_is_loser (master_of newest) records entry.begin entry.last session.writes is.is_active) is.is_active;
      born = let born = is.born in let less = early n entry at in omega (arith, born, less, kept);
      count = is.count;
      mark = is.mark;
      wrote = is.wrote ∙ ap updated (sym (keeps.entries entry.begin (active_is_loser (master_of newest) records entry.begin entry.last session.writes is.is_active)));
    }

pub fits_after : (old new : Engine) (site site' : Site) (s : State) (first : ℕ) (fits : Matches old site s) → IsTable old.active → LetsGo old first → IsTrue site'.honest →
    HasCheckpoint new.store site' fits.records s.table s.commits (pairs_of old.active) → AreCounted first old.active new.active → entries.owed new.active ≡ entries.owed old.active → new.store.made + first ≡ old.store.made → new.commits ≡ old.commits → new.cap ≡ old.cap →
    new.locks ≡ old.locks → new.footprints ≡ old.footprints → Matches new site' (checkpointed_if true s)
fits_after old new site site' s first fits table go honest has counted owed made commits cap locks prints =
    let kept = kept_is old first fits.newest fits.records s fits.sessions fits.counts.made go in
    let held = subst (λ ls. LocksAre ls s) (sym locks) fits.locks_are in
    record {
      honest = honest;
      newest = Some has.master;
      records = from_block has.master.kept fits.records;
      holds = has.holds;
      counts = record { commits = commits ∙ fits.counts.commits; made = omega (arith, made, fits.counts.made, kept); cap = cap ∙ fits.counts.cap; fills = fits.counts.fills };
      sessions = sessions_outlive fits.newest has.master fits.records old.active new.active s first fits.sessions table has.named has.keeps go.of_each kept counted owed;
      locks_are = record { written = held.written; reads = held.reads };
      footprints_are = footprints_stay new.footprints s (checkpointed_if true s) refl (λ n. refl) (subst (λ l. FootprintsAre l s) (sym prints) fits.footprints_are);
    }
