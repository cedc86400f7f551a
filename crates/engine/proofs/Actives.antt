-- The sessions of the model and the unfinished transactions of the log, one record further.
use Rattle.engine.proofs.Names.{◌≡◌, ◌≢◌, ℕ, suc, ◌+◌, ◌*◌, ◌≤◌, ◌<◌, false, List, [], ◌∷◌, ◌++◌, length, Option, None, Some, ⊎_elim, refl, sym, ap, subst, ◌∙◌, arith, get_or-set_same, get_or-set_other, length-set, ne_eqb, eq-eqb, cases_eq, none-some, same_Some, slice_set, slice_index_or, Master, IsUnderWay, SessionIs, SessionsAre, updated, master_of, fresh_entries, active_begun, active_stays, entries_other, entries_own, loser_stays, owed_begin, IsActive, IsFresh, Entry, is_of, entries_of, Begin, Session, State, session_at, making, with_session, entry_of, ChangesOnly, Active}
use Rattle.std.specs.Prelude.{drop}
use Rattle.txn_table.specs.Entries as entries

-- what is active in one is in the other
pub none_active : (newest : Option Master) (records : List Entry) (active : List Active) (s : State) → SessionsAre newest records active s → (n : ℕ) → entry_of active n ≡ None → session_at s n ≡ None
none_active newest records active s are n none = by (entry_of active n) (session_at s n) none (are.each n)
  where
    by : (a : Option Active) (o : Option Session) → a ≡ None → SessionIs newest s.kept records a o → o ≡ None
    by None None is both = refl
    by None (Some session) is both = absurd both
    by (Some entry) None is both = refl
    by (Some entry) (Some session) is both = absurd (none-some entry (sym is))

pub record Finds (newest : Option Master) (kept : ℕ) (records : List Entry) (entry : Active) (o : Option Session) : Type 0 where
  pub session : Session
  pub is : o ≡ Some session
  pub under_way : IsUnderWay newest kept records entry session

pub some_active : (newest : Option Master) (records : List Entry) (active : List Active) (s : State) → SessionsAre newest records active s → (n : ℕ) (own : Active) → entry_of active n ≡ Some own → Finds newest s.kept records own (session_at s n)
some_active newest records active s are n own some = by (entry_of active n) (session_at s n) some (are.each n)
  where
    by : (a : Option Active) (o : Option Session) → a ≡ Some own → SessionIs newest s.kept records a o → Finds newest s.kept records own o
    by None o is both = absurd (none-some own is)
    by (Some entry) None is both = absurd both
    by (Some entry) (Some session) is both = record { session = session; is = refl; under_way = subst (λ (e : Active). IsUnderWay newest s.kept records e session) (same_Some entry own is) both }

-- the record of another transaction
pub others_stay : (newest : Option Master) (kept : ℕ) (records : List Entry) (e : Entry) (a : Option Active) (o : Option Session) → ((entry : Active) → a ≡ Some entry → is_of entry.begin e ≡ false) → SessionIs newest kept records a o → SessionIs newest kept (records ++ e ∷ []) a o
others_stay newest kept records e None None other is = tt
others_stay newest kept records e None (Some session) other is = absurd is
others_stay newest kept records e (Some entry) None other is = absurd is
others_stay newest kept records e (Some entry) (Some session) other is = record {
  is_active = active_stays (master_of newest) records e entry.begin entry.last session.writes is.is_active (other entry refl);
  born = is.born;
  count = is.count;
  mark = is.mark;
  wrote = is.wrote ∙ ap updated (sym (entries_other records e entry.begin (other entry refl)));
}

-- a transaction that is under way isn't fresh
pub not_fresh : (newest : Option Master) (kept : ℕ) (records : List Entry) (entry : Active) (session : Session) (lsn : ℕ) → IsUnderWay newest kept records entry session → IsFresh lsn records → entry.begin ≢ lsn
not_fresh newest kept records entry session lsn under fresh same =
    let none : entries_of entry.begin records ≡ [] = ap (λ (t : ℕ). entries_of t records) same ∙ fresh_entries lsn records fresh in
    let long : length (entries_of entry.begin records) ≡ suc (length (drop 1 (entries_of entry.begin records))) = ap length under.is_active.chain.begins in
    let short : length (entries_of entry.begin records) ≡ 0 = ap length none in
    omega (arith, long, short)

-- a session begins
pub begun : (newest : Option Master) (records : List Entry) (old new : List Active) (s : State) (n lsn made : ℕ) (entry : Active) → SessionsAre newest records old s → n < 8 → entry_of old n ≡ None → ChangesOnly old new n (Some entry) → entries.owed new ≡ entries.owed old + 1 →
    IsFresh lsn records → 512 * (master_of newest).redo ≤ lsn → entry.begin ≡ lsn → entry.last ≡ lsn → entry.born + s.kept ≡ s.made → entry.writes ≡ 0 → entry.mark ≡ 0 →
    SessionsAre newest (records ++ record { lsn = lsn; rec = Begin } ∷ []) new (making 1 (with_session s n (Some (record { born = s.made; writes = []; mark = 0; wrote = []; reads = [] }))))
begun newest records old new s n lsn made entry are small none changes owes fresh late begin last born writes mark =
    let e : Entry = record { lsn = lsn; rec = Begin } in
    let session : Session = record { born = s.made; writes = []; mark = 0; wrote = []; reads = [] } in
    record {
      count = length-set s.sessions n (Some session) ∙ are.count;
      each = λ m. ⊎_elim
          (λ (same : m ≡ n). subst (λ (k : ℕ). SessionIs newest s.kept (records ++ e ∷ []) (entry_of new k) (slice_index_or (slice_set s.sessions n (Some session)) k None)) (sym same)
          (subst (λ (a : Option Active). SessionIs newest s.kept (records ++ e ∷ []) a (slice_index_or (slice_set s.sessions n (Some session)) n None)) (sym changes.own)
          (subst (λ (o : Option Session). SessionIs newest s.kept (records ++ e ∷ []) (Some entry) o) (sym (get_or-set_same s.sessions n (Some session) None (omega (arith, small, are.count))))
          (record {
            is_active = subst (λ (t : ℕ). IsActive (master_of newest) (records ++ e ∷ []) t entry.last []) (sym begin) (subst (λ (l : ℕ). IsActive (master_of newest) (records ++ e ∷ []) lsn l []) (sym last) (active_begun (master_of newest) records lsn fresh late));
            born = born;
            count = writes;
            mark = mark;
            wrote = sym (ap (λ (t : ℕ). updated (entries_of t (records ++ e ∷ []))) begin ∙ ap updated (entries_own records e lsn (eq-eqb lsn lsn refl) ∙ ap (λ (l : List Entry). l ++ e ∷ []) (fresh_entries lsn records fresh)));
          }))))
          (λ differ. subst (λ (a : Option Active). SessionIs newest s.kept (records ++ e ∷ []) a (slice_index_or (slice_set s.sessions n (Some session)) m None)) (sym (changes.others m differ))
          (subst (λ (o : Option Session). SessionIs newest s.kept (records ++ e ∷ []) (entry_of old m) o) (sym (get_or-set_other s.sessions n m (Some session) None differ))
          (others_stay newest s.kept records e (entry_of old m) (session_at s m) (λ other is. ne_eqb lsn other.begin (λ same. other_begin m other is (sym same))) (are.each m))))
          (cases_eq m n);
      all = λ t is. ⊎_elim
          (λ (same : t ≡ lsn). (n, entry, changes.own, begin ∙ sym same))
          (λ differ. older t differ (are.all t (sym (loser_stays records e t (ne_eqb lsn t (λ same. differ (sym same)))) ∙ is)))
          (cases_eq t lsn);
      owes = owed_begin records lsn fresh ∙ ap (λ (k : ℕ). k + 1) are.owes ∙ sym owes;
      differ = λ i j a b at_i at_j same. ⊎_elim
          (λ (i_is : i ≡ n). ⊎_elim
          (λ (j_is : j ≡ n). i_is ∙ sym j_is)
          (λ j_not. absurd (other_begin j b (sym (changes.others j j_not) ∙ at_j) (sym same ∙ own_begin i a i_is at_i)))
          (cases_eq j n))
          (λ i_not. ⊎_elim
          (λ (j_is : j ≡ n). absurd (other_begin i a (sym (changes.others i i_not) ∙ at_i) (same ∙ own_begin j b j_is at_j)))
          (λ j_not. are.differ i j a b (sym (changes.others i i_not) ∙ at_i) (sym (changes.others j j_not) ∙ at_j) same)
          (cases_eq j n))
          (cases_eq i n);
    }
  where
    other_begin : (m : ℕ) (other : Active) → entry_of old m ≡ Some other → other.begin ≢ lsn
    other_begin m other is = let found = some_active newest records old s are m other is in not_fresh newest s.kept records other found.session lsn found.under_way fresh

    own_begin : (i : ℕ) (a : Active) → i ≡ n → entry_of new i ≡ Some a → a.begin ≡ lsn
    own_begin i a i_is at = ap (λ (x : Active). x.begin) (sym (same_Some entry a (sym changes.own ∙ ap (entry_of new) (sym i_is) ∙ at))) ∙ begin

    older : (t : ℕ) → t ≢ lsn → (m : ℕ) × (other : Active) × (entry_of old m ≡ Some other) × (other.begin ≡ t) → (m : ℕ) × (other : Active) × (entry_of new m ≡ Some other) × (other.begin ≡ t)
    older t ne found = (found.0, found.1, changes.others found.0 (λ same. none-some found.1 (sym none ∙ ap (entry_of old) (sym same) ∙ found.2)) ∙ found.2, found.3)

-- Where one session has ended, each other one has the entry that it had.
pub ended_was : (old new : List Active) (n : ℕ) → ChangesOnly old new n None → (m : ℕ) (a : Active) → entry_of new m ≡ Some a → entry_of old m ≡ Some a
ended_was old new n changes m a at = ⊎_elim
    (λ (same : m ≡ n). absurd (none-some a (sym changes.own ∙ ap (entry_of new) (sym same) ∙ at)))
    (λ differ. sym (changes.others m differ) ∙ at)
    (cases_eq m n)
