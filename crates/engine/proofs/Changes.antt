-- The sessions after an Update of one of them, and after the record that ends one.
use Rattle.engine.proofs.Names.{◌≡◌, ◌≢◌, ℕ, ◌+◌, ◌*◌, ◌<◌, true, List, [], ◌∷◌, ◌++◌, Option, None, Some, ⊎_elim, true≢false, refl, sym, ap, subst, ◌∙◌, arith, get_or-set_same, get_or-set_other, length-set, ne_eqb, eq-eqb, cases_eq, length-append, none-some, same_Some, slice_set, slice_index_or, option_map, Master, SessionIs, SessionsAre, updated, master_of, active_writes, active_owes, entries_own, loser_stays, loser_is_closed, owed_update, owed_closing, IsActive, CanBeUndone, Entry, entries_of, txn_of, is_loser, is_closing, Update, Content, Session, State, Write, session_at, making, with_session, having_written, entry_of, ChangesOnly, after_write, Active}
use Rattle.engine.proofs.Actives.{some_active, others_stay}
use Rattle.engine.proofs.Updated.{updated_more}
use Rattle.txn_table.specs.Entries as entries

-- another session's transaction is another one
other_txn : (newest : Option Master) (records : List Entry) (active : List Active) (s : State) → SessionsAre newest records active s → (n m : ℕ) (own other : Active) → entry_of active n ≡ Some own → entry_of active m ≡ Some other → m ≢ n → own.begin ≢ other.begin
other_txn newest records active s are n m own other at_n at_m ne same = ne (are.differ m n other own at_m at_n (sym same))

-- A session writes.
pub wrote_more : (newest : Option Master) (records : List Entry) (old new : List Active) (s : State) (n lsn page slot : ℕ) (entry : Active) (before after : Content) → SessionsAre newest records old s → n < 8 → entry_of old n ≡ Some entry → ChangesOnly old new n (Some (after_write entry lsn)) → entries.owed new ≡ entries.owed old + 1 →
    CanBeUndone (records ++ record { lsn = lsn; rec = Update entry.begin entry.last page slot before after } ∷ []) entry.begin →
    SessionsAre newest (records ++ record { lsn = lsn; rec = Update entry.begin entry.last page slot before after } ∷ []) new (making 1 (with_session s n (option_map (having_written (32 * page + slot, after)) (session_at s n))))
wrote_more newest records old new s n lsn page slot entry before after are small at changes owes undone =
    let e : Entry = record { lsn = lsn; rec = Update entry.begin entry.last page slot before after } in
    let found = some_active newest records old s are n entry at in
    let session = found.session in
    let write : Write = (32 * page + slot, after) in
    let now : Option Session = option_map (having_written write) (session_at s n) in
    let is_now : now ≡ Some (having_written write session) = ap (option_map (having_written write)) found.is in
    let under = found.under_way in
    record {
      count = length-set s.sessions n now ∙ are.count;
      each = λ m. ⊎_elim
          (λ (same : m ≡ n). subst (λ (k : ℕ). SessionIs newest s.kept (records ++ e ∷ []) (entry_of new k) (slice_index_or (slice_set s.sessions n now) k None)) (sym same)
          (subst (λ (a : Option Active). SessionIs newest s.kept (records ++ e ∷ []) a (slice_index_or (slice_set s.sessions n now) n None)) (sym changes.own)
          (subst (λ (o : Option Session). SessionIs newest s.kept (records ++ e ∷ []) (Some (after_write entry lsn)) o) (sym (get_or-set_same s.sessions n now None (omega (arith, small, are.count)) ∙ is_now))
          (record {
            is_active = active_writes (master_of newest) records lsn entry.begin entry.last page slot session.writes before after under.is_active undone;
            born = under.born;
            count = omega (arith, under.count, length-append session.writes (write ∷ []));
            mark = under.mark;
            wrote = ap (λ (l : List ℕ). l ++ (32 * page + slot) ∷ []) under.wrote ∙ sym (ap updated (entries_own records e entry.begin (eq-eqb entry.begin entry.begin refl)) ∙ updated_more (entries_of entry.begin records) e);
          }))))
          (λ differ. subst (λ (a : Option Active). SessionIs newest s.kept (records ++ e ∷ []) a (slice_index_or (slice_set s.sessions n now) m None)) (sym (changes.others m differ))
          (subst (λ (o : Option Session). SessionIs newest s.kept (records ++ e ∷ []) (entry_of old m) o) (sym (get_or-set_other s.sessions n m now None differ))
          (others_stay newest s.kept records e (entry_of old m) (session_at s m) (λ other is. ne_eqb entry.begin other.begin (other_txn newest records old s are n m entry other at is differ)) (are.each m))))
          (cases_eq m n);
      all = λ t is. ⊎_elim
          (λ (same : t ≡ entry.begin). (n, after_write entry lsn, changes.own, sym same))
          (λ differ. older t differ (are.all t (sym (loser_stays records e t (ne_eqb entry.begin t (λ same. differ (sym same)))) ∙ is)))
          (cases_eq t entry.begin);
      owes = owed_update records e refl under.is_active.lives.not_closed under.is_active.chain ∙ ap (λ (k : ℕ). k + 1) are.owes ∙ sym owes;
      differ = λ i j a b at_i at_j same. let before_i = was i a at_i in let before_j = was j b at_j in are.differ i j before_i.0 before_j.0 before_i.1 before_j.1 (before_i.2 ∙ same ∙ sym before_j.2);
    }
  where
    -- the entry that it was
    was : (i : ℕ) (a : Active) → entry_of new i ≡ Some a → (b : Active) × (entry_of old i ≡ Some b) × (b.begin ≡ a.begin)
    was i a is = ⊎_elim
        (λ (same : i ≡ n). (entry, ap (entry_of old) same ∙ at, ap (λ (x : Active). x.begin) (same_Some (after_write entry lsn) a (sym changes.own ∙ ap (entry_of new) (sym same) ∙ is))))
        (λ differ. (a, sym (changes.others i differ) ∙ is, refl))
        (cases_eq i n)

    older : (t : ℕ) → t ≢ entry.begin → (m : ℕ) × (other : Active) × (entry_of old m ≡ Some other) × (other.begin ≡ t) → (m : ℕ) × (other : Active) × (entry_of new m ≡ Some other) × (other.begin ≡ t)
    older t ne found = (found.0, found.1, changes.others found.0 (λ same. ne (sym found.3 ∙ ap (λ (x : Active). x.begin) (same_Some found.1 entry (sym found.2 ∙ ap (entry_of old) same ∙ at)))) ∙ found.2, found.3)

-- A session that has never been undone ends.
pub closed : (newest : Option Master) (records : List Entry) (old new : List Active) (s : State) (n : ℕ) (entry : Active) (e : Entry) → SessionsAre newest records old s → n < 8 → entry_of old n ≡ Some entry → ChangesOnly old new n None → entries.owed new + (entry.writes + 1) ≡ entries.owed old →
    is_closing e.rec ≡ true → txn_of e ≡ entry.begin → SessionsAre newest (records ++ e ∷ []) new (with_session s n None)
closed newest records old new s n entry e are small at changes owes closing own =
    let found = some_active newest records old s are n entry at in
    let session = found.session in
    let under = found.under_way in
    let active : IsActive (master_of newest) records (txn_of e) entry.last session.writes = subst (λ (t : ℕ). IsActive (master_of newest) records t entry.last session.writes) (sym own) under.is_active in
    let part = active_owes (master_of newest) records (txn_of e) entry.last session.writes active in
    record {
      count = length-set s.sessions n None ∙ are.count;
      each = λ m. ⊎_elim
          (λ (same : m ≡ n). subst (λ (k : ℕ). SessionIs newest s.kept (records ++ e ∷ []) (entry_of new k) (slice_index_or (slice_set s.sessions n None) k None)) (sym same)
          (subst (λ (a : Option Active). SessionIs newest s.kept (records ++ e ∷ []) a (slice_index_or (slice_set s.sessions n None) n None)) (sym changes.own)
          (subst (λ (o : Option Session). SessionIs newest s.kept (records ++ e ∷ []) None o) (sym (get_or-set_same s.sessions n None None (omega (arith, small, are.count)))) tt)))
          (λ differ. subst (λ (a : Option Active). SessionIs newest s.kept (records ++ e ∷ []) a (slice_index_or (slice_set s.sessions n None) m None)) (sym (changes.others m differ))
          (subst (λ (o : Option Session). SessionIs newest s.kept (records ++ e ∷ []) (entry_of old m) o) (sym (get_or-set_other s.sessions n m None None differ))
          (others_stay newest s.kept records e (entry_of old m) (session_at s m) (λ other is. ne_eqb (txn_of e) other.begin (λ same. other_txn newest records old s are n m entry other at is differ (sym own ∙ same))) (are.each m))))
          (cases_eq m n);
      all = λ t is. ⊎_elim
          (λ (same : t ≡ txn_of e). absurd (true≢false (sym is ∙ ap (is_loser (records ++ e ∷ [])) same ∙ loser_is_closed records e closing)))
          (λ differ. older t differ (are.all t (sym (loser_stays records e t (ne_eqb (txn_of e) t (λ same. differ (sym same)))) ∙ is)))
          (cases_eq t (txn_of e));
      owes = omega (arith, owed_closing records e closing active.lives.not_closed active.chain, part, under.count, are.owes, owes);
      differ = λ i j a b at_i at_j same. are.differ i j a b (was i a at_i) (was j b at_j) same;
    }
  where
    was : (i : ℕ) (a : Active) → entry_of new i ≡ Some a → entry_of old i ≡ Some a
    was i a is = ⊎_elim
        (λ (same : i ≡ n). absurd (none-some a (sym changes.own ∙ ap (entry_of new) (sym same) ∙ is)))
        (λ differ. sym (changes.others i differ) ∙ is)
        (cases_eq i n)

    older : (t : ℕ) → t ≢ txn_of e → (m : ℕ) × (other : Active) × (entry_of old m ≡ Some other) × (other.begin ≡ t) → (m : ℕ) × (other : Active) × (entry_of new m ≡ Some other) × (other.begin ≡ t)
    older t ne found = (found.0, found.1, changes.others found.0 (λ same. ne (sym found.3 ∙ ap (λ (x : Active). x.begin) (same_Some found.1 entry (sym found.2 ∙ ap (entry_of old) same ∙ at)) ∙ sym own)) ∙ found.2, found.3)
