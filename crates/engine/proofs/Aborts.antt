-- A session's abort.
use Rattle.engine.proofs.Names.{◌≡◌, ◌≢◌, ℕ, ◌+◌, ◌<◌, false, List, length, Option, None, Some, ⊎_elim, refl, sym, ap, subst, ◌∙◌, arith, get_or-set_same, get_or-set_other, length-set, IsTrue, true≢false, [], cases_eq, none-some, same_Some, slice_set, slice_index_or, Master, Matches, SessionIs, SessionsAre, updated, Engine, ReleasesAll, Lock, Entry, is_loser, owed, Session, State, session_at, writes_of, effect, with_session, ConcernsOnly, RollsBack, Represents, TransactionStore, Site, entry_is, IsTable, entry_of, ChangesOnly, Active}
use Rattle.engine.proofs.Locks.{released}
use Rattle.engine.proofs.Actives.{some_active}
use Rattle.engine.proofs.FootprintChanges.{dropped as dropped_there}
use Rattle.record_model.specs.declared.words.Command.TheVariants as command
use Rattle.txn_table.specs.Entries as entries

-- another session's transaction
pub others_go_on : (newest : Option Master) (kept : ℕ) (txn : ℕ) (before now : List Entry) → ConcernsOnly newest txn before now → (a : Option Active) (o : Option Session) → ((entry : Active) → a ≡ Some entry → entry.begin ≢ txn) → SessionIs newest kept before a o → SessionIs newest kept now a o
others_go_on newest kept txn before now concerns None None other is = tt
others_go_on newest kept txn before now concerns None (Some session) other is = absurd is
others_go_on newest kept txn before now concerns (Some entry) None other is = absurd is
others_go_on newest kept txn before now concerns (Some entry) (Some session) other is = record {
  is_active = concerns.under_way entry.begin entry.last session.writes (other entry refl) is.is_active;
  born = is.born;
  count = is.count;
  mark = is.mark;
  wrote = is.wrote ∙ ap updated (sym (concerns.entries entry.begin (other entry refl)));
}

-- A session's transaction was undone, and the session ends.
pub dropped : (newest : Option Master) (records log : List Entry) (old new : List Active) (s : State) (n : ℕ) (entry : Active) → SessionsAre newest records old s → n < 8 → entry_of old n ≡ Some entry → ChangesOnly old new n None → entries.owed new + (entry.writes + 1) ≡ entries.owed old →
    ConcernsOnly newest entry.begin records log → is_loser log entry.begin ≡ false → owed log + (entry.writes + 1) ≡ owed records → SessionsAre newest log new (with_session s n None)
dropped newest records log old new s n entry are small at changes owes concerns closed less =
    record {
      count = length-set s.sessions n None ∙ are.count;
      each = λ m. ⊎_elim
          (λ (same : m ≡ n). subst (λ (k : ℕ). SessionIs newest s.kept log (entry_of new k) (slice_index_or (slice_set s.sessions n None) k None)) (sym same)
          (subst (λ (a : Option Active). SessionIs newest s.kept log a (slice_index_or (slice_set s.sessions n None) n None)) (sym changes.own)
          (subst (λ (o : Option Session). SessionIs newest s.kept log None o) (sym (get_or-set_same s.sessions n None None (omega (arith, small, are.count)))) tt)))
          (λ differ. subst (λ (a : Option Active). SessionIs newest s.kept log a (slice_index_or (slice_set s.sessions n None) m None)) (sym (changes.others m differ))
          (subst (λ (o : Option Session). SessionIs newest s.kept log (entry_of old m) o) (sym (get_or-set_other s.sessions n m None None differ))
          (others_go_on newest s.kept entry.begin records log concerns (entry_of old m) (session_at s m) (λ other is same. differ (are.differ m n other entry is at same)) (are.each m))))
          (cases_eq m n);
      all = λ t is. ⊎_elim
          (λ (same : t ≡ entry.begin). absurd (true≢false (sym is ∙ ap (is_loser log) same ∙ closed)))
          (λ differ. older t differ (are.all t (sym (concerns.losers t differ) ∙ is)))
          (cases_eq t entry.begin);
      owes = omega (arith, less, are.owes, owes);
      differ = λ i j a b at_i at_j same. are.differ i j a b (was i a at_i) (was j b at_j) same;
    }
  where
    was : (i : ℕ) (a : Active) → entry_of new i ≡ Some a → entry_of old i ≡ Some a
    was i a is = ⊎_elim
        (λ (same : i ≡ n). absurd (none-some a (sym changes.own ∙ ap (entry_of new) (sym same) ∙ is)))
        (λ differ. sym (changes.others i differ) ∙ is)
        (cases_eq i n)

    older : (t : ℕ) → t ≢ entry.begin → (m : ℕ) × (other : Active) × (entry_of old m ≡ Some other) × (other.begin ≡ t) → (m : ℕ) × (other : Active) × (entry_of new m ≡ Some other) × (other.begin ≡ t)
    older t ne found = (found.0, found.1, changes.others found.0 (λ same. ne (sym found.3 ∙ ap (λ (x : Active). x.begin) (same_Some found.1 entry (sym found.2 ∙ ap (entry_of old) same ∙ at)))) ∙ found.2, found.3)

-- so many writes the session has
pub count_is : (engine : Engine) (site : Site) (s : State) (entry : Active) (fits : Matches engine site s) → entry_of engine.active entry.session ≡ Some entry → length (writes_of (session_at s entry.session)) ≡ entry.writes
count_is engine site s entry fits at =
    let found = some_active fits.newest fits.records engine.active s fits.sessions entry.session entry at in
    ap (λ (o : Option Session). length (writes_of o)) found.is ∙ sym found.under_way.count

pub aborted_fits : (engine mid last : Engine) (old new : Site) (s : State) (entry : Active) (fits : Matches engine old s) → IsTable engine.active → entry_of engine.active entry.session ≡ Some entry → IsTrue new.honest →
    RollsBack mid.store new fits.newest fits.records s.table s.commits entry.begin entry.writes →
    mid ≡ record engine { store = mid.store } → mid.store.made ≡ engine.store.made + (entry.writes + 1) →
    ReleasesAll mid.locks last.locks entry.session → ChangesOnly mid.active last.active entry.session None → entries.owed last.active + (entry.writes + 1) ≡ entries.owed mid.active →
    last.store ≡ mid.store → last.commits ≡ mid.commits → last.cap ≡ mid.cap →
    length engine.footprints ≡ 8 → last.footprints ≡ slice_set mid.footprints entry.session [] →
    Matches last new (effect s (command.Abort entry.session))
aborted_fits engine mid last old new s entry fits table at honest back rest made releases changes owed_is store_is commits_is cap_is eight gone =
    let n = entry.session in
    let small = (entry_is engine.active n entry table at).small in
    let made_last : last.store.made ≡ engine.store.made + (entry.writes + 1) = ap (λ (j : TransactionStore). j.made) store_is ∙ made in
    let done : SessionsAre fits.newest back.log last.active (with_session s n None) =
    dropped fits.newest fits.records back.log engine.active last.active s n entry fits.sessions small at
    (subst (λ (a : List Active). ChangesOnly a last.active n None) (ap (λ (x : Engine). x.active) rest) changes) (owed_is ∙ ap (λ (x : Engine). entries.owed x.active) rest)
    back.concerns back.closed back.owes in
    record {
      honest = honest;
      newest = fits.newest;
      records = back.log;
      holds = subst (λ (j : TransactionStore). Represents j new fits.newest back.log s.table s.commits) (sym store_is) back.holds;
      counts = record {
        commits = commits_is ∙ ap (λ (x : Engine). x.commits) rest ∙ fits.counts.commits;
        made = omega (arith, made_last, fits.counts.made, count_is engine old s entry fits at);
        cap = cap_is ∙ ap (λ (x : Engine). x.cap) rest ∙ fits.counts.cap;
        fills = fits.counts.fills;
      };
      sessions = record { count = done.count; each = done.each; all = done.all; owes = done.owes; differ = done.differ };
      locks_are = released engine.locks last.locks s (effect s (command.Abort n)) n (omega (arith, small, fits.sessions.count)) refl (subst (λ (l : List Lock). ReleasesAll l last.locks n) (ap (λ (x : Engine). x.locks) rest) releases) fits.locks_are;
      footprints_are = dropped_there engine.footprints last.footprints s (effect s (command.Abort n)) n (omega (arith, small, eight)) (omega (arith, small, fits.sessions.count)) (gone ∙ ap (λ (x : Engine). slice_set x.footprints n []) rest) refl refl fits.footprints_are;
    }
