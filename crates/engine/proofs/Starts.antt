-- A run begins: what a restart leaves, and nobody at work.
use Rattle.engine.proofs.Names.{arith, ◌≡◌, ℕ, zero, suc, ◌-◌, ◌==◌, false, List, [], length, replicate, Option, None, refl, sym, ap, subst, ◌∙◌, IsTrue, true≢false, none-some, list_any, slice_index_or, Master, Opens, AreLocked, FootprintsAre, footprints_of, Matches, SessionIs, SessionsAre, LocksAre, RestartedAs, Engine, Restarted, lengths_on, of_session, Footprint, Lock, owed_none, Entry, is_loser, owed, Session, State, writes_of, wrote_of, reads_of, Represents, TransactionStore, Site, Image, Geometry, Active}

-- nobody is at work when it begins
nobody : (n : ℕ) (sessions : List (Option Session)) → sessions ≡ replicate 8 None → slice_index_or sessions n None ≡ None
nobody n sessions is = ap (λ (xs : List (Option Session)). slice_index_or xs n None) is ∙ all_none 8 n
  where
    nothing : Option Session
    nothing = None

    all_none : (len n : ℕ) → slice_index_or (replicate len None) n None ≡ nothing
    all_none zero n = refl
    all_none (suc len) zero = refl
    all_none (suc len) (suc n) = all_none len n

-- nothing is unfinished
idle : (newest : Option Master) (records : List Entry) (s : State) → ((t : ℕ) → is_loser records t ≡ false) → owed records ≡ 0 → s.sessions ≡ replicate 8 None → SessionsAre newest records [] s
idle newest records s closed none is = record {
  count = ap length is;
  each = λ n. subst (SessionIs newest s.kept records None) (sym (nobody n s.sessions is)) tt;
  all = λ t loser. absurd (true≢false (sym loser ∙ closed t));
  owes = none;
  differ = λ n m a b at_n at_m same. absurd (none-some a at_n);
}

unlocked : (s : State) → s.sessions ≡ replicate 8 None → LocksAre [] s
unlocked s is = record {
  written = λ n r. sym (ap (λ (o : Option Session). list_any (λ wrote. wrote == r) (wrote_of o)) (nobody n s.sessions is));
  reads = λ n r. sym (ap (λ (o : Option Session). list_any (λ read. read == r) (reads_of o)) (nobody n s.sessions is));
}

no_prints : (len n : ℕ) → slice_index_or {A = List Footprint} (replicate len []) n [] ≡ []
no_prints zero n = refl
no_prints (suc len) zero = refl
no_prints (suc len) (suc n) = no_prints len n

untold : (s : State) → s.sessions ≡ replicate 8 None → FootprintsAre (replicate 8 []) s
untold s is n = no_prints 8 n ∙ sym (ap (λ (o : Option Session). footprints_of s.table [] (writes_of o)) (nobody n s.sessions is))

-- on every site: without footprints nothing need be locked
pub unheld : (standing : List (List Footprint)) (held : List Lock) → standing ≡ replicate 8 [] → AreLocked standing held
unheld standing held is = record { eight = ap length is; locked = λ n r none. ap (λ l. lengths_on r (of_session l n)) is ∙ ap (lengths_on r) (no_prints 8 n) }

-- the database stands for the state that the run opens with
pub started : (g : Geometry) (image : Image) (site : Site) (s : State) (restarted : Restarted) (engine : Engine) → IsTrue site.honest → (opening : Opens g image s) → RestartedAs restarted site s.table s.commits → restarted.blocks ≡ g.blocks →
    engine.store ≡ restarted.store → engine.commits ≡ restarted.commits → engine.cap ≡ restarted.blocks - 1 → engine.active ≡ [] → engine.locks ≡ [] → engine.footprints ≡ replicate 8 [] → Matches engine site s
started g image site s restarted engine honest opening done blocks store_is commits_is cap_is active_is locks_is prints_is =
    let sessions_are : s.sessions ≡ replicate 8 None = ap (λ (x : State). x.sessions) opening.state in
    let sessions = subst (λ (a : List Active). SessionsAre done.newest done.records a s) (sym active_is) (idle done.newest done.records s done.finished (owed_none done.records done.finished) sessions_are) in
    record {
      honest = honest;
      newest = done.newest;
      records = done.records;
      holds = subst (λ (j : TransactionStore). Represents j site done.newest done.records s.table s.commits) (sym store_is) done.holds;
      counts = record {
        commits = commits_is ∙ done.commits_are;
        made =
            let made = ap (λ (x : State). x.made) opening.state in
            let none : s.kept ≡ 0 = ap (λ (x : State). x.kept) opening.state in
            omega (arith, ap (λ (j : TransactionStore). j.made) store_is, done.made, made, none);
        cap = cap_is ∙ ap (λ (n : ℕ). n - 1) blocks ∙ sym (ap (λ (x : State). x.cap) opening.state);
        fills = ap (λ (x : State). x.pages_fill) opening.state;
      };
      sessions = sessions;
      locks_are = subst (λ (l : List Lock). LocksAre l s) (sym locks_is) (unlocked s sessions_are);
      footprints_are = subst (λ (l : List (List Footprint)). FootprintsAre l s) (sym prints_is) (untold s sessions_are);
    }
