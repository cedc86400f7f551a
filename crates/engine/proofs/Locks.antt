-- Locks and what sessions have read and written.
use Rattle.engine.proofs.Names.{◌≡◌, ◌≢◌, ℕ, ◌==◌, ◌<◌, ◌&&◌, Bool, not, List, Option, None, ⊎_elim, sym, ap, ◌∙◌, get_or-set_same, get_or-set_other, cases_eq, eq-eqb, ne_eqb, list_any, slice_set, slice_index_or, LocksAre, ReleasesAll, Lock, Session, State, session_at, wrote_of, reads_of}
use Rattle.std.specs.Prelude.{length}
use Rattle.lock_table.specs.Locks as locks

pub locks_stay : (held : List Lock) (s s' : State) → ((n : ℕ) → wrote_of (session_at s' n) ≡ wrote_of (session_at s n)) → ((n : ℕ) → reads_of (session_at s' n) ≡ reads_of (session_at s n)) → LocksAre held s → LocksAre held s'
locks_stay held s s' wrote reads are = record {
  written = λ n r. are.written n r ∙ sym (ap (λ (ws : List ℕ). list_any (λ wrote. wrote == r) ws) (wrote n));
  reads = λ n r. are.reads n r ∙ sym (ap (λ (rs : List ℕ). list_any (λ read. read == r) rs) (reads n));
}

-- what is seen of a session where one of them was set
pub at_set : {X : Type 0} (of : Option Session → X) (xs : List (Option Session)) (n : ℕ) (o was : Option Session) → n < length xs → slice_index_or xs n None ≡ was → of o ≡ of was →
    (m : ℕ) → of (slice_index_or (slice_set xs n o) m None) ≡ of (slice_index_or xs m None)
at_set of xs n o was small was_is same m = ⊎_elim
    (λ (is : m ≡ n). ap (λ (k : ℕ). of (slice_index_or (slice_set xs n o) k None)) is ∙ ap of (get_or-set_same xs n o None small) ∙ same ∙ ap of (sym was_is) ∙ ap (λ (k : ℕ). of (slice_index_or xs k None)) (sym is))
    (λ differ. ap of (get_or-set_other xs n m o None differ))
    (cases_eq m n)

-- a session that ends holds no lock
pub released : (old new : List Lock) (s s' : State) (n : ℕ) → n < length s.sessions → s'.sessions ≡ slice_set s.sessions n None → ReleasesAll old new n → LocksAre old s → LocksAre new s'
released old new s s' n small sessions all are = record {
  written = λ m r. ⊎_elim
      (λ (same : m ≡ n). all.written m r ∙ ap (λ (b : Bool). not b && locks.has_written old m r) (eq-eqb m n same) ∙ sym (ap (λ (o : Option Session). list_any (λ wrote. wrote == r) (wrote_of o)) (gone m same)))
      (λ differ. all.written m r ∙ ap (λ (b : Bool). not b && locks.has_written old m r) (ne_eqb m n differ) ∙ are.written m r ∙ sym (ap (λ (o : Option Session). list_any (λ wrote. wrote == r) (wrote_of o)) (other m differ)))
      (cases_eq m n);
  reads = λ m r. ⊎_elim
      (λ (same : m ≡ n). all.reads m r ∙ ap (λ (b : Bool). not b && locks.has_read old m r) (eq-eqb m n same) ∙ sym (ap (λ (o : Option Session). list_any (λ read. read == r) (reads_of o)) (gone m same)))
      (λ differ. all.reads m r ∙ ap (λ (b : Bool). not b && locks.has_read old m r) (ne_eqb m n differ) ∙ are.reads m r ∙ sym (ap (λ (o : Option Session). list_any (λ read. read == r) (reads_of o)) (other m differ)))
      (cases_eq m n);
}
  where
    gone : (m : ℕ) → m ≡ n → session_at s' m ≡ None
    gone m same = ap (λ (xs : List (Option Session)). slice_index_or xs m None) sessions ∙ ap (λ (k : ℕ). slice_index_or (slice_set s.sessions n None) k None) same ∙ get_or-set_same s.sessions n None None small

    other : (m : ℕ) → m ≢ n → session_at s' m ≡ session_at s m
    other m differ = ap (λ (xs : List (Option Session)). slice_index_or xs m None) sessions ∙ get_or-set_other s.sessions n m None None differ
