-- A session's commit.
use Rattle.engine.proofs.Names.{◌≡◌, ℕ, ◌+◌, ◌++◌, ◌∷◌, [], List, None, Some, inl, inr, ⊎_elim, refl, sym, ap, subst, ◌∙◌, arith, IsTrue, slice_set, Stands, sizes_of, LeavesEither, Matches, SessionsAre, Engine, IsOnlyOf, Footprint, versions_on, ReleasesAll, Lock, table_stands, standing_in, writes_in, Entry, Commit, Content, State, session_at, writes_of, table_with, effect, with_session, MayCommit, Represents, TransactionStore, Site, Snapshot, entry_is, IsTable, entry_of, ChangesOnly, Active}
use Rattle.engine.proofs.Locks.{released}
use Rattle.engine.proofs.Changes.{closed}
use Rattle.engine.proofs.Actives.{some_active}
use Rattle.engine.proofs.FootprintChanges.{committed as committed_there}
use Rattle.std.specs.Prelude.{length}
use Rattle.engine.proofs.Meanings.{stands_for, table_is, undoable}
use Rattle.record_model.specs.declared.words.Command.TheVariants as command
use Rattle.txn_table.specs.Entries as entries
use Rattle.image_meaning.specs.Moments as moments

-- a session's transaction may be committed
pub may_commit : (engine : Engine) (site : Site) (s : State) (entry : Active) (fits : Matches engine site s) → entry_of engine.active entry.session ≡ Some entry → MayCommit fits.newest fits.records entry.begin (engine.commits + 1) s.commits
may_commit engine site s entry fits at =
    let found = some_active fits.newest fits.records engine.active s fits.sessions entry.session entry at in
    record { begun = found.under_way.is_active.lives; chain = found.under_way.is_active.chain; number_is = ap (λ (n : ℕ). n + 1) fits.counts.commits }

-- it leaves what the session's writes leave
pub writes_are : (engine : Engine) (site : Site) (s : State) (entry : Active) (fits : Matches engine site s) → entry_of engine.active entry.session ≡ Some entry → table_with s.table (writes_in entry.begin fits.records) ≡ table_with s.table (writes_of (session_at s entry.session))
writes_are engine site s entry fits at =
    let found = some_active fits.newest fits.records engine.active s fits.sessions entry.session entry at in
    let active = found.under_way.is_active in
    let versions = versions_on (sizes_of engine.store) site.image in
    stands_for (writes_in entry.begin fits.records) (standing_in entry.begin fits.records) (table_is engine.store site fits.newest fits.records s.table s.commits fits.holds) (table_stands fits.records versions entry.begin (undoable engine.store site fits.newest fits.records s.table s.commits fits.holds) active.lives.not_closed active.chain)
    ∙ ap (table_with s.table) (sym (ap writes_of found.is ∙ active.writes_are))

pub commits_either : (engine : Engine) {old : Site} (s : State) (entry : Active) (fits : Matches engine old s) → entry_of engine.active entry.session ≡ Some entry → (snapshot : Snapshot) →
    moments.LeavesEitherFor (sizes_of engine.store) s.table (table_with s.table (writes_in entry.begin fits.records)) s.commits old.told snapshot → LeavesEither (sizes_of engine.store) s (effect s (command.Commit entry.session)) old.told snapshot
commits_either engine {old = old} s entry fits at snapshot q =
    let g = sizes_of engine.store in
    record {
      told = q.told;
      stands = ⊎_elim (λ before. inl before) (λ after. inr (subst (λ (t : List Content). Stands g snapshot.image t (s.commits + 1)) (writes_are engine old s entry fits at) after)) q.stands;
    }

pub committed_fits : (engine mid last : Engine) (old new : Site) (s : State) (entry : Active) (lsn : ℕ) (fits : Matches engine old s) → IsTable engine.active → entry_of engine.active entry.session ≡ Some entry → IsTrue new.honest →
    Represents mid.store new fits.newest (fits.records ++ record { lsn = lsn; rec = Commit entry.begin (engine.commits + 1) } ∷ []) (table_with s.table (writes_in entry.begin fits.records)) (s.commits + 1) →
    mid ≡ record engine { store = mid.store; commits = mid.commits } → mid.commits ≡ engine.commits + 1 → mid.store.made ≡ engine.store.made + 1 →
    ReleasesAll mid.locks last.locks entry.session → ChangesOnly mid.active last.active entry.session None → entries.owed last.active + (entry.writes + 1) ≡ entries.owed mid.active →
    last.store ≡ mid.store → last.commits ≡ mid.commits → last.cap ≡ mid.cap →
    length engine.footprints ≡ 8 → last.footprints ≡ slice_set mid.footprints entry.session [] → ((r : ℕ) → (owner : ℕ) × IsOnlyOf mid.footprints owner r) →
    Matches last new (effect s (command.Commit entry.session))
committed_fits engine mid last old new s entry lsn fits table at honest holds rest commits made releases changes owed store_is commits_is cap_is eight gone owned =
    let n = entry.session in
    let e : Entry = record { lsn = lsn; rec = Commit entry.begin (engine.commits + 1) } in
    let small = (entry_is engine.active n entry table at).small in
    let done : SessionsAre fits.newest (fits.records ++ e ∷ []) last.active (with_session s n None) =
    closed fits.newest fits.records engine.active last.active s n entry e fits.sessions small at
    (subst (λ (a : List Active). ChangesOnly a last.active n None) (ap (λ (x : Engine). x.active) rest) changes) (owed ∙ ap (λ (x : Engine). entries.owed x.active) rest) refl refl in
    record {
      honest = honest;
      newest = fits.newest;
      records = fits.records ++ e ∷ [];
      holds = subst (λ (j : TransactionStore). Represents j new fits.newest (fits.records ++ e ∷ []) (table_with s.table (writes_of (session_at s n))) (s.commits + 1)) (sym store_is)
          (subst (λ (t : List Content). Represents mid.store new fits.newest (fits.records ++ e ∷ []) t (s.commits + 1)) (writes_are engine old s entry fits at) holds);
      counts = record {
        commits = commits_is ∙ commits ∙ ap (λ (k : ℕ). k + 1) fits.counts.commits;
        made = let store_made = ap (λ (j : TransactionStore). j.made) store_is in let before = fits.counts.made in omega (arith, store_made, made, before);
        cap = cap_is ∙ ap (λ (x : Engine). x.cap) rest ∙ fits.counts.cap;
        fills = fits.counts.fills;
      };
      sessions = record { count = done.count; each = done.each; all = done.all; owes = done.owes; differ = done.differ };
      locks_are = released engine.locks last.locks s (effect s (command.Commit n)) n (omega (arith, small, fits.sessions.count)) refl (subst (λ (l : List Lock). ReleasesAll l last.locks n) (ap (λ (x : Engine). x.locks) rest) releases) fits.locks_are;
      footprints_are =
          let same = ap (λ (x : Engine). x.footprints) rest in
          committed_there engine.footprints last.footprints s (effect s (command.Commit n)) n (omega (arith, small, eight)) (omega (arith, small, fits.sessions.count)) (gone ∙ ap (λ (l : List (List Footprint)). slice_set l n []) same)
          (subst (λ (l : List (List Footprint)). (r : ℕ) → (owner : ℕ) × IsOnlyOf l owner r) same owned) refl refl fits.footprints_are;
    }
