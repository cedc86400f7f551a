-- Footprints, as sessions write, go back and end.
use Rattle.engine.proofs.Names.{◌≡◌, ◌≢◌, ◌⊎◌, ⊎_elim, inl, inr, ℕ, zero, suc, ◌+◌, ◌-◌, ◌<◌, ◌≤◌, ◌==◌, ◌&&◌, ◌||◌, Bool, true, false, not, cond, List, [], ◌∷◌, ◌++◌, length, take, find, Option, Some, None, refl, sym, ap, ◌∙◌, arith, get_or-set_same, get_or-set_other, true≢false, cases_eq, cases_lt, eq-eqb, ne_eqb, or_parts, length-take-le, none-some, AllByRecursion, range_with_len, slice_set, slice_index_or, option_map, AreLocked, AreTakenBack, FootprintsAre, footprint_of, footprints_of, Drops, IsOnlyOf, lengths_on, of_session, Footprint, AddsLock, ReleasesAll, has_read, has_written, busy_write, Lock, Content, Session, State, content_at, session_at, table_with, writes_of, having_written, going_back}
use Rattle.std.proofs.lemmas.List.{length-set}
use Rattle.engine.proofs.Footprints.{footprints_count, footprints_more, footprints_taken, never_written, none_more, none_taken, same_footprints, untouched}

-- One session's change, where all others are as they were.
one_changed : (standing now : List (List Footprint)) (s s' : State) (n : ℕ) → FootprintsAre standing s → of_session now n ≡ footprints_of s'.table [] (writes_of (session_at s' n)) → ((m : ℕ) → m ≢ n → of_session now m ≡ of_session standing m) →
    ((m : ℕ) → m ≢ n → writes_of (session_at s' m) ≡ writes_of (session_at s m)) → ((m : ℕ) → m ≢ n → footprints_of s'.table [] (writes_of (session_at s m)) ≡ footprints_of s.table [] (writes_of (session_at s m))) → FootprintsAre now s'
one_changed standing now s s' n are own others writes same m = ⊎_elim
    (λ (is : m ≡ n). ap (of_session now) is ∙ own ∙ ap (λ (k : ℕ). footprints_of s'.table [] (writes_of (session_at s' k))) (sym is))
    (λ differ. others m differ ∙ are m ∙ sym (same m differ) ∙ ap (footprints_of s'.table []) (sym (writes m differ)))
    (cases_eq m n)

-- no session's writes and not the table change
pub footprints_stay : (standing : List (List Footprint)) (s s' : State) → s'.table ≡ s.table → ((n : ℕ) → writes_of (session_at s' n) ≡ writes_of (session_at s n)) → FootprintsAre standing s → FootprintsAre standing s'
footprints_stay standing s s' table writes are n = are n ∙ (λ i. footprints_of (sym table i) [] (sym (writes n) i))

-- what is set of the sessions
own_session : (s s' : State) (n : ℕ) (o : Option Session) → n < length s.sessions → s'.sessions ≡ slice_set s.sessions n o → writes_of (session_at s' n) ≡ writes_of o
own_session s s' n o less set = ap (λ (l : List (Option Session)). writes_of (slice_index_or l n None)) set ∙ ap writes_of (get_or-set_same s.sessions n o None less)

other_session : (s s' : State) (n : ℕ) (o : Option Session) → s'.sessions ≡ slice_set s.sessions n o → (m : ℕ) → m ≢ n → writes_of (session_at s' m) ≡ writes_of (session_at s m)
other_session s s' n o set m differ = ap (λ (l : List (Option Session)). writes_of (slice_index_or l m None)) set ∙ ap writes_of (get_or-set_other s.sessions n m o None differ)

other_standing : (standing now : List (List Footprint)) (n : ℕ) (own : List Footprint) → now ≡ slice_set standing n own → (m : ℕ) → m ≢ n → of_session now m ≡ of_session standing m
other_standing standing now n own set m differ = ap (λ l. of_session l m) set ∙ get_or-set_other standing n m own [] differ

own_standing : (standing now : List (List Footprint)) (n : ℕ) (own : List Footprint) → n < length standing → now ≡ slice_set standing n own → of_session now n ≡ own
own_standing standing now n own less set = ap (λ l. of_session l n) set ∙ get_or-set_same standing n own [] less

-- a session writes
pub wrote : (standing now : List (List Footprint)) (s s' : State) (n number : ℕ) (after : Content) (session : Session) (f : Footprint) → n < length standing → n < length s.sessions → session_at s n ≡ Some session →
    f ≡ footprint_of s.table session.writes (number, after) → now ≡ slice_set standing n (of_session standing n ++ f ∷ []) →
    s'.table ≡ s.table → s'.sessions ≡ slice_set s.sessions n (option_map (having_written (number, after)) (session_at s n)) → FootprintsAre standing s → FootprintsAre now s'
wrote standing now s s' n number after session f there small is tells set table sessions are =
    one_changed standing now s s' n are
    (own_standing standing now n _ there set ∙ (λ i. are n i ++ tells i ∷ []) ∙ ap (λ (o : Option Session). footprints_of s.table [] (writes_of o) ++ footprint_of s.table session.writes (number, after) ∷ []) is
    ∙ sym (footprints_more s.table [] session.writes (number, after))
    ∙ (λ i. footprints_of (sym table i) [] (sym (own_session s s' n _ small sessions ∙ ap (λ (o : Option Session). writes_of (option_map (having_written (number, after)) o)) is) i)))
    (other_standing standing now n _ set) (other_session s s' n _ sessions) (λ m differ. ap (λ (t : List Content). footprints_of t [] (writes_of (session_at s m))) table)

-- it ends, and what it wrote is gone
pub dropped : (standing now : List (List Footprint)) (s s' : State) (n : ℕ) → n < length standing → n < length s.sessions → now ≡ slice_set standing n [] → s'.table ≡ s.table → s'.sessions ≡ slice_set s.sessions n None → FootprintsAre standing s → FootprintsAre now s'
dropped standing now s s' n there small set table sessions are =
    one_changed standing now s s' n are
    (own_standing standing now n [] there set ∙ ap (footprints_of s'.table []) (sym (own_session s s' n None small sessions)))
    (other_standing standing now n [] set) (other_session s s' n None sessions) (λ m differ. ap (λ (t : List Content). footprints_of t [] (writes_of (session_at s m))) table)

-- or enters the table, where no other session had written
pub committed : (standing now : List (List Footprint)) (s s' : State) (n : ℕ) → n < length standing → n < length s.sessions → now ≡ slice_set standing n [] → ((r : ℕ) → (owner : ℕ) × IsOnlyOf standing owner r) →
    s'.table ≡ table_with s.table (writes_of (session_at s n)) → s'.sessions ≡ slice_set s.sessions n None → FootprintsAre standing s → FootprintsAre now s'
committed standing now s s' n there small set owned table sessions are =
    one_changed standing now s s' n are
    (own_standing standing now n [] there set ∙ ap (footprints_of s'.table []) (sym (own_session s s' n None small sessions)))
    (other_standing standing now n [] set) (other_session s s' n None sessions) stays
  where
    stays : (m : ℕ) → m ≢ n → footprints_of s'.table [] (writes_of (session_at s m)) ≡ footprints_of s.table [] (writes_of (session_at s m))
    stays m differ = same_footprints s.table s'.table [] (writes_of (session_at s m)) (λ r. at r (owned r))
      where
        at : (r : ℕ) → (owner : ℕ) × IsOnlyOf standing owner r → (content_at s'.table r ≡ content_at s.table r) ⊎ (lengths_on r (footprints_of s.table [] (writes_of (session_at s m))) ≡ [])
        at r own = ⊎_elim
            (λ (is : m ≡ own.0). inl (ap (λ (t : List Content). content_at t r) table ∙ untouched s.table (writes_of (session_at s n)) r
            (never_written s.table [] (writes_of (session_at s n)) r (sym (ap (lengths_on r) (are n)) ∙ own.1 n (λ same. differ (is ∙ sym same))))))
            (λ other. inr (sym (ap (lengths_on r) (are m)) ∙ own.1 m other))
            (cases_eq m own.0)

-- it goes back
pub went_back : (standing now : List (List Footprint)) (s s' : State) (n stays count : ℕ) (session : Session) → n < length s.sessions → session_at s n ≡ Some session → stays ≤ length session.writes → count ≡ length session.writes - stays →
    AreTakenBack standing now n count → s'.table ≡ s.table → s'.sessions ≡ slice_set s.sessions n (option_map (going_back (Some stays)) (session_at s n)) → FootprintsAre standing s → FootprintsAre now s'
went_back standing now s s' n stays count session small is few counts taken table sessions are =
    one_changed standing now s s' n are
    (taken.own ∙ (λ i. take (length (all i) - count) (all i))
    ∙ ap (λ (k : ℕ). take k (footprints_of s.table [] session.writes)) (omega (arith, footprints_count s.table [] session.writes, few, counts))
    ∙ sym (footprints_taken s.table [] session.writes stays)
    ∙ (λ i. footprints_of (sym table i) [] (sym (own_session s s' n _ small sessions ∙ ap (λ (o : Option Session). writes_of (option_map (going_back (Some stays)) o)) is) i)))
    taken.others (other_session s s' n _ sessions) (λ m differ. ap (λ (t : List Content). footprints_of t [] (writes_of (session_at s m))) table)
  where
    all : of_session standing n ≡ footprints_of s.table [] session.writes
    all = are n ∙ ap (λ (o : Option Session). footprints_of s.table [] (writes_of o)) is

-- a record is set that no session has written
pub one_set : (standing : List (List Footprint)) (s s' : State) (number : ℕ) (after : Content) → ((m : ℕ) → lengths_on number (of_session standing m) ≡ []) → s'.table ≡ table_with s.table ((number, after) ∷ []) → s'.sessions ≡ s.sessions →
    FootprintsAre standing s → FootprintsAre standing s'
one_set standing s s' number after none table sessions are m =
    are m ∙ sym (same_footprints s.table s'.table [] (writes_of (session_at s m)) at) ∙ ap (λ (l : List (Option Session)). footprints_of s'.table [] (writes_of (slice_index_or l m None))) (sym sessions)
  where
    at : (r : ℕ) → (content_at s'.table r ≡ content_at s.table r) ⊎ (lengths_on r (footprints_of s.table [] (writes_of (session_at s m))) ≡ [])
    at r = ⊎_elim
        (λ (is : r ≡ number). inr (sym (ap (lengths_on r) (are m)) ∙ ap (λ (k : ℕ). lengths_on k (of_session standing m)) is ∙ none m))
        (λ other. inl (ap (λ (t : List Content). content_at t r) table ∙ get_or-set_other s.table number r after None other))
        (cases_eq r number)

-- Footprints and locks.

none_beyond : (standing : List (List Footprint)) (m r : ℕ) → length standing ≤ m → lengths_on r (of_session standing m) ≡ []
none_beyond standing m r beyond = ap (lengths_on r) (past standing m beyond)
  where
    past : (l : List (List Footprint)) (m : ℕ) → length l ≤ m → slice_index_or l m [] ≡ []
    past [] m beyond = refl
    past (x ∷ l) zero beyond = absurd (omega (arith, beyond))
    past (x ∷ l) (suc m) beyond = past l m (omega (arith, beyond))

none_found : (f : ℕ → Bool) (xs : List ℕ) → find f xs ≡ None → AllByRecursion (λ x. f x ≡ false) xs
none_found f [] none = tt
none_found f (x ∷ xs) none = by (f x) refl none (none_found f xs)
  where
    by : (b : Bool) → f x ≡ b → cond b (Some x) (find f xs) ≡ None → (find f xs ≡ None → AllByRecursion (λ x. f x ≡ false) xs) → (f x ≡ false) × AllByRecursion (λ x. f x ≡ false) xs
    by true is some rest = absurd (none-some x (sym some))
    by false is later rest = (is, rest later)

at_each : (P : ℕ → Type 0) → AllByRecursion P (range_with_len 0 8) → (n : ℕ) → n < 8 → P n
at_each P all zero less = all.0
at_each P all (suc zero) less = all.1.0
at_each P all (suc (suc zero)) less = all.1.1.0
at_each P all (suc (suc (suc zero))) less = all.1.1.1.0
at_each P all (suc (suc (suc (suc zero)))) less = all.1.1.1.1.0
at_each P all (suc (suc (suc (suc (suc zero))))) less = all.1.1.1.1.1.0
at_each P all (suc (suc (suc (suc (suc (suc zero)))))) less = all.1.1.1.1.1.1.0
at_each P all (suc (suc (suc (suc (suc (suc (suc zero))))))) less = all.1.1.1.1.1.1.1.0
at_each P all (suc (suc (suc (suc (suc (suc (suc (suc more)))))))) less = absurd (omega (arith, less))

unwritten_by : (a b c : Bool) → (a && (b || c)) ≡ false → a ≡ true → b ≡ false
unwritten_by true true c is same = absurd (true≢false is)
unwritten_by true false c is same = refl
unwritten_by false b c is same = absurd (true≢false (sym same))

-- who may write a record has the only footprints there
pub only_own : (standing : List (List Footprint)) (held : List Lock) (n r : ℕ) → AreLocked standing held → busy_write held (Some n) r ≡ None → IsOnlyOf standing n r
only_own standing held n r are free m differ = ⊎_elim
    (λ less. are.locked m r (unwritten_by (not (n == m)) (has_written held m r) (has_read held m r)
    (at_each (λ k. (not (n == k) && (has_written held k r || has_read held k r)) ≡ false) (none_found (λ k. not (n == k) && (has_written held k r || has_read held k r)) (range_with_len 0 8) free) m less)
    (ap not (ne_eqb n m (λ same. differ (sym same))))))
    (λ beyond. none_beyond standing m r (omega (arith, are.eight, beyond)))
    (cases_lt m 8)

-- and where nobody has locked it there are none
pub none_there : (standing : List (List Footprint)) (held : List Lock) (r : ℕ) → AreLocked standing held → busy_write held None r ≡ None → (m : ℕ) → lengths_on r (of_session standing m) ≡ []
none_there standing held r are free m = ⊎_elim
    (λ less. are.locked m r (unwritten_by true (has_written held m r) (has_read held m r)
    (at_each (λ k. (true && (has_written held k r || has_read held k r)) ≡ false) (none_found (λ k. true && (has_written held k r || has_read held k r)) (range_with_len 0 8) free) m less) refl))
    (λ beyond. none_beyond standing m r (omega (arith, are.eight, beyond)))
    (cases_lt m 8)

-- They stay on locked records.

pub locked_wrote : (standing now : List (List Footprint)) (held held' : List Lock) (n number : ℕ) (f : Footprint) → n < 8 → AddsLock held held' n number true → now ≡ slice_set standing n (of_session standing n ++ f ∷ []) → f.number ≡ number → AreLocked standing held → AreLocked now held'
locked_wrote standing now held held' n number f small adds set on are = record {
  eight = ap length set ∙ length-set standing n _ ∙ are.eight;
  locked = λ m r none.
      let parts = or_parts (has_written held m r) (n == m && (number == r && true)) (sym (adds.written m r) ∙ none) in
      ⊎_elim
      (λ (same : m ≡ n).
      ap (λ (k : ℕ). lengths_on r (of_session now k)) same ∙ ap (lengths_on r) (own_standing standing now n _ (omega (arith, small, are.eight)) set)
      ∙ none_more r (of_session standing n) f (are.locked n r (ap (λ (k : ℕ). has_written held k r) (sym same) ∙ parts.0)) (ap (λ (k : ℕ). k == r) on ∙ off (n == m) (number == r) (eq-eqb n m (sym same)) parts.1))
      (λ differ. ap (lengths_on r) (other_standing standing now n _ set m differ) ∙ are.locked m r parts.0)
      (cases_eq m n);
}
  where
    off : (a b : Bool) → a ≡ true → (a && (b && true)) ≡ false → b ≡ false
    off true true is none = absurd (true≢false none)
    off true false is none = refl
    off false b is none = absurd (true≢false (sym is))

pub locked_read : (standing : List (List Footprint)) (held held' : List Lock) (n number : ℕ) → AddsLock held held' n number false → AreLocked standing held → AreLocked standing held'
locked_read standing held held' n number adds are = record {
  eight = are.eight;
  locked = λ m r none. are.locked m r (or_parts (has_written held m r) (n == m && (number == r && false)) (sym (adds.written m r) ∙ none)).0;
}

pub locked_ended : (standing now : List (List Footprint)) (held held' : List Lock) (n : ℕ) → n < 8 → ReleasesAll held held' n → now ≡ slice_set standing n [] → AreLocked standing held → AreLocked now held'
locked_ended standing now held held' n small all set are = record {
  eight = ap length set ∙ length-set standing n [] ∙ are.eight;
  locked = λ m r none. ⊎_elim
      (λ (same : m ≡ n). ap (λ (k : ℕ). lengths_on r (of_session now k)) same ∙ ap (lengths_on r) (own_standing standing now n [] (omega (arith, small, are.eight)) set))
      (λ differ. ap (lengths_on r) (other_standing standing now n [] set m differ) ∙ are.locked m r (kept (m == n) (has_written held m r) (ne_eqb m n differ) (sym (all.written m r) ∙ none)))
      (cases_eq m n);
}
  where
    kept : (a b : Bool) → a ≡ false → (not a && b) ≡ false → b ≡ false
    kept false b is none = none
    kept true b is none = absurd (true≢false is)

pub locked_back : (standing now : List (List Footprint)) (held : List Lock) (n count : ℕ) → AreTakenBack standing now n count → AreLocked standing held → AreLocked now held
locked_back standing now held n count taken are = record {
  eight = taken.eight ∙ are.eight;
  locked = λ m r none. ⊎_elim
      (λ (same : m ≡ n).
      ap (λ (k : ℕ). lengths_on r (of_session now k)) same ∙ ap (lengths_on r) taken.own
      ∙ none_taken r (length (of_session standing n) - count) (of_session standing n) (are.locked n r (ap (λ (k : ℕ). has_written held k r) (sym same) ∙ none)))
      (λ differ. ap (lengths_on r) (taken.others m differ) ∙ are.locked m r none)
      (cases_eq m n);
}

-- Footprints are taken back, one after the other.

take_whole : {X : Type 0} (xs : List X) → take (length xs) xs ≡ xs
take_whole [] = refl
take_whole (x ∷ xs) = ap (λ l. x ∷ l) (take_whole xs)

take_twice : {X : Type 0} (a b : ℕ) (xs : List X) → a ≤ b → take a (take b xs) ≡ take a xs
take_twice zero zero [] less = refl
take_twice zero (suc b) [] less = refl
take_twice (suc a) zero [] less = refl
take_twice (suc a) (suc b) [] less = refl
take_twice zero zero (x ∷ xs) less = refl
take_twice zero (suc b) (x ∷ xs) less = refl
take_twice (suc a) zero (x ∷ xs) less = absurd (omega (arith, less))
take_twice (suc a) (suc b) (x ∷ xs) less = ap (λ l. x ∷ l) (take_twice a b xs (omega (arith, less)))

pub nothing_taken : (standing : List (List Footprint)) (n : ℕ) → AreTakenBack standing standing n 0
nothing_taken standing n =
    let all : length (of_session standing n) - 0 ≡ length (of_session standing n) = omega arith in
    record { own = sym (ap (λ (k : ℕ). take k (of_session standing n)) all ∙ take_whole (of_session standing n)); others = λ m differ. refl; eight = refl }

pub one_taken : (old mid new : List (List Footprint)) (n count : ℕ) → n < length old → AreTakenBack old mid n count → Drops mid new n → AreTakenBack old new n (count + 1)
one_taken old mid new n count less taken drops =
    let own = of_session old n in
    let few : length (of_session mid n) ≡ length own - count = ap length taken.own ∙ length-take-le (length own - count) own (omega arith) in
    let left : length (of_session mid n) - 1 ≡ length own - (count + 1) = omega (arith, few) in
    record {
      own = ap (λ l. of_session l n) drops ∙ get_or-set_same mid n _ [] (omega (arith, less, taken.eight))
          ∙ (λ i. take (left i) (taken.own i)) ∙ take_twice (length own - (count + 1)) (length own - count) own (omega arith);
      others = λ m differ. ap (λ l. of_session l m) drops ∙ get_or-set_other mid n m _ [] differ ∙ taken.others m differ;
      eight = ap length drops ∙ length-set mid n _ ∙ taken.eight;
    }
