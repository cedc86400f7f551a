-- The records that a checkpoint keeps, in the model and in the table of active sessions.
use Rattle.engine.proofs.Names.{◌≡◌, ◌⊎◌, inl, inr, ℕ, zero, suc, ◌+◌, ◌/◌, ◌<◌, ◌≤◌, List, [], ◌∷◌, length, map, fold, min, Option, Some, None, All, Contains, refl, sym, ap, subst, ◌∙◌, arith, min-le_left, min-le_right, cases_lt, eq-eqb, cond-true, get_or-map, length-map, none-some, same_Some, filter_map, slice_index_or, Master, Invariant, SessionIs, SessionsAre, Engine, first_block, Entry, Session, State, session_at, kept_by_checkpoint, begins_of, blocks_to, Site, entry_of-Contains, entry_of-at, IsTable, IsLeast, entry_of, Active}
use Rattle.std.proofs.Common.{unwrap_or}
use Rattle.txn_table.proofs.Counting.{all_from_least}
use Rattle.engine.proofs.Actives.{some_active}
use Rattle.engine.proofs.Namings.{no_active, pairs_of}

-- The least of a number and of what sessions were born at.

abbrev least : ℕ → List (Option Session) → ℕ
least from xs = fold (λ least session. min least session.born) from (filter_map (λ session. session) xs)

least-le-first : (from : ℕ) (xs : List (Option Session)) → least from xs ≤ from
least-le-first from [] = omega arith
least-le-first from (None ∷ xs) = least-le-first from xs
least-le-first from (Some session ∷ xs) = omega (arith, least-le-first (min from session.born) xs, min-le_left from session.born)

least-le-born : (from : ℕ) (xs : List (Option Session)) (n : ℕ) (session : Session) → slice_index_or xs n None ≡ Some session → least from xs ≤ session.born
least-le-born from [] n session is = absurd (none-some session is)
least-le-born from (None ∷ xs) zero session is = absurd (none-some session is)
least-le-born from (None ∷ xs) (suc n) session is = least-le-born from xs n session is
least-le-born from (Some other ∷ xs) zero session is =
    let same : other.born ≡ session.born = ap (λ (x : Session). x.born) (same_Some other session is) in
    omega (arith, same, least-le-first (min from other.born) xs, min-le_right from other.born)
least-le-born from (Some other ∷ xs) (suc n) session is = least-le-born (min from other.born) xs n session is

-- it is the number, or a session's
pub record IsBorn (xs : List (Option Session)) (born : ℕ) : Type 0 where
  pub place : ℕ
  pub session : Session
  pub is : slice_index_or xs place None ≡ Some session
  pub born_is : born ≡ session.born

later_born : (o : Option Session) (xs : List (Option Session)) (born : ℕ) → IsBorn xs born → IsBorn (o ∷ xs) born
later_born o xs born is = record { place = suc is.place; session = is.session; is = is.is; born_is = is.born_is }

either_min : (a b : ℕ) → (min a b ≡ a) ⊎ (min a b ≡ b)
either_min a b = by (cases_lt a b)
  where
    by : (a < b) ⊎ (b ≤ a) → (min a b ≡ a) ⊎ (min a b ≡ b)
    by (inl less) = inl (omega (arith, less))
    by (inr more) = inr (omega (arith, more))

least_is : (from : ℕ) (xs : List (Option Session)) → (least from xs ≡ from) ⊎ IsBorn xs (least from xs)
least_is from [] = inl refl
least_is from (None ∷ xs) = by (least_is from xs)
  where
    by : (least from xs ≡ from) ⊎ IsBorn xs (least from xs) → (least from xs ≡ from) ⊎ IsBorn (None ∷ xs) (least from xs)
    by (inl is) = inl is
    by (inr is) = inr (later_born None xs (least from xs) is)
least_is from (Some session ∷ xs) = by (least_is (min from session.born) xs) (either_min from session.born)
  where
    by : (least (min from session.born) xs ≡ min from session.born) ⊎ IsBorn xs (least (min from session.born) xs)
        → (min from session.born ≡ from) ⊎ (min from session.born ≡ session.born)
        → (least (min from session.born) xs ≡ from) ⊎ IsBorn (Some session ∷ xs) (least (min from session.born) xs)
    by (inl is) (inl first) = inl (is ∙ first)
    by (inl is) (inr own) = inr (record { place = 0; session = session; is = refl; born_is = is ∙ own })
    by (inr is) either = inr (later_born (Some session) xs (least (min from session.born) xs) is)

-- What is let go.

-- the entry that began with so many records made before
pub record IsOldest (active : List Active) (born : ℕ) : Type 0 where
  pub session : ℕ
  pub entry : Active
  pub is : entry_of active session ≡ Some entry
  pub born_is : entry.born ≡ born

is_oldest : (active : List Active) (born : ℕ) → IsTable active → Contains (map (λ entry. entry.born) active) born → IsOldest active born
is_oldest active born table there =
    let less : there.0 < length active = omega (arith, there.1, length-map active (λ (entry : Active). entry.born)) in
    record {
      session = (slice_index_or active there.0 no_active).session;
      entry = slice_index_or active there.0 no_active;
      is = entry_of-at active table there.0 no_active less;
      born_is = sym (get_or-map (λ (entry : Active). entry.born) active there.0 no_active born less) ∙ there.2;
    }

-- the first session of a table
first_of : (first : Active) (later : List Active) → entry_of (first ∷ later) first.session ≡ Some first
first_of first later = cond-true _ _ (entry_of later first.session) (eq-eqb first.session first.session refl)

-- each session began in a block of the log, and after no more records than were made
pub began : (engine : Engine) (site : Site) (n : ℕ) (entry : Active) → Invariant engine site → entry_of engine.active n ≡ Some entry
    → (entry.begin / 512 ≤ blocks_to engine.store.log) × (entry.born ≤ engine.store.made)
began engine site n entry going is =
    let lasts = going.lasts n entry is in
    let block : entry.begin / 512 ≤ engine.store.log.ring.hi = omega (arith, lasts.0, lasts.1, going.store.both.log_going.high) in
    (omega (arith, block), omega (arith, going.since n entry is, block))

no_pairs : (active : List Active) → map (λ (entry : Active). entry.born) active ≡ [] → active ≡ []
no_pairs [] is = refl
no_pairs (entry ∷ later) is = cc

-- So many records are let go: none of them is a session's, and each block that is kept has a record that goes on counting.
pub record LetsGo (engine : Engine) (first : ℕ) : Type 0 where
  pub early : All (λ entry. first ≤ entry.born) engine.active
  pub of_each : (n : ℕ) (entry : Active) → entry_of engine.active n ≡ Some entry → first ≤ entry.born
  pub made : first ≤ engine.store.made
  pub oldest : (first ≡ engine.store.made) ⊎ IsOldest engine.active first
  pub begun : first_block (blocks_to engine.store.log) (begins_of (pairs_of engine.active)) ≤ blocks_to engine.store.log
  pub enough : blocks_to engine.store.log + first ≤ first_block (blocks_to engine.store.log) (begins_of (pairs_of engine.active)) + engine.store.made

each_after : (active : List Active) (first n : ℕ) (entry : Active) → All (λ entry. first ≤ entry.born) active → entry_of active n ≡ Some entry → first ≤ entry.born
each_after active first n entry all is =
    let found = (entry_of-Contains active n entry is).0 in
    subst (λ (e : Active). first ≤ e.born) found.2 (all found.0 entry found.1)

begun_in : (active : List Active) (blocks : ℕ) → ((n : ℕ) (entry : Active) → entry_of active n ≡ Some entry → entry.begin / 512 ≤ blocks) → first_block blocks (begins_of (pairs_of active)) ≤ blocks
begun_in [] blocks says = omega arith
begun_in (first ∷ later) blocks says = says first.session first (first_of first later)

enough_in : (active : List Active) (blocks made first : ℕ) → first ≤ made → ((n : ℕ) (entry : Active) → entry_of active n ≡ Some entry → blocks + entry.born ≤ entry.begin / 512 + made)
    → ((n : ℕ) (entry : Active) → entry_of active n ≡ Some entry → first ≤ entry.born)
    → blocks + first ≤ first_block blocks (begins_of (pairs_of active)) + made
enough_in [] blocks made first less since early = omega (arith, less)
enough_in (entry ∷ later) blocks made first less since early =
    omega (arith, since entry.session entry (first_of entry later), early entry.session entry (first_of entry later))

lets_go_with : (engine : Engine) (site : Site) (first : ℕ) → Invariant engine site → All (λ entry. first ≤ entry.born) engine.active → first ≤ engine.store.made → (first ≡ engine.store.made) ⊎ IsOldest engine.active first → LetsGo engine first
lets_go_with engine site first going early made oldest = record {
  early = early;
  of_each = λ n entry is. each_after engine.active first n entry early is;
  made = made;
  oldest = oldest;
  begun = begun_in engine.active (blocks_to engine.store.log) (λ n entry is. (began engine site n entry going is).0);
  enough = enough_in engine.active (blocks_to engine.store.log) engine.store.made first made going.since (λ n entry is. each_after engine.active first n entry early is);
}

pub lets_go : (engine : Engine) (site : Site) (found : Option ℕ) → Invariant engine site → IsLeast (map (λ entry. entry.born) engine.active) found → LetsGo engine (unwrap_or found engine.store.made)
lets_go engine site None going is =
    lets_go_with engine site engine.store.made going (subst (λ (xs : List Active). All (λ entry. engine.store.made ≤ entry.born) xs) (sym (no_pairs engine.active is)) (λ k d less. absurd (omega (arith, less)))) (omega arith) (inl refl)
lets_go engine site (Some born) going is =
    let oldest = is_oldest engine.active born going.table is.0 in
    lets_go_with engine site born going (all_from_least engine.active born is)
    (let made = (began engine site oldest.session oldest.entry going oldest.is).1 in let same = oldest.born_is in omega (arith, made, same)) (inr oldest)

-- The model lets as many go.

-- a session of the model has its entry
record HasEntry (newest : Option Master) (kept : ℕ) (records : List Entry) (active : List Active) (n : ℕ) (session : Session) : Type 0 where
  pub entry : Active
  pub is : entry_of active n ≡ Some entry
  pub born : entry.born + kept ≡ session.born

has_entry : (newest : Option Master) (records : List Entry) (active : List Active) (s : State) → SessionsAre newest records active s → (n : ℕ) (session : Session) → session_at s n ≡ Some session → HasEntry newest s.kept records active n session
has_entry newest records active s are n session is = by (entry_of active n) (session_at s n) refl is (are.each n)
  where
    by : (a : Option Active) (o : Option Session) → entry_of active n ≡ a → o ≡ Some session → SessionIs newest s.kept records a o → HasEntry newest s.kept records active n session
    by None None at same both = absurd (none-some session same)
    by None (Some other) at same both = absurd both
    by (Some entry) None at same both = absurd both
    by (Some entry) (Some other) at same both = record { entry = entry; is = at; born = both.born ∙ ap (λ (x : Session). x.born) (same_Some other session same) }

pub kept_is : (engine : Engine) (first : ℕ) (newest : Option Master) (records : List Entry) (s : State) → SessionsAre newest records engine.active s → engine.store.made + s.kept ≡ s.made → LetsGo engine first → kept_by_checkpoint s ≡ s.kept + first
kept_is engine first newest records s are made go = by go.oldest (least_is s.made s.sessions)
  where
    most : (first ≡ engine.store.made) ⊎ IsOldest engine.active first → kept_by_checkpoint s ≤ s.kept + first
    most (inl is) = omega (arith, least-le-first s.made s.sessions, made, is)
    most (inr oldest) =
        let found = some_active newest records engine.active s are oldest.session oldest.entry oldest.is in
        omega (arith, least-le-born s.made s.sessions oldest.session found.session found.is, found.under_way.born, oldest.born_is)

    by : (first ≡ engine.store.made) ⊎ IsOldest engine.active first → (kept_by_checkpoint s ≡ s.made) ⊎ IsBorn s.sessions (kept_by_checkpoint s) → kept_by_checkpoint s ≡ s.kept + first
    by oldest (inl is) = let less = most oldest in let early = go.made in omega (arith, less, is, made, early)
    by oldest (inr is) =
        let own = has_entry newest records engine.active s are is.place is.session is.is in
        omega (arith, most oldest, go.of_each is.place own.entry own.is, own.born, is.born_is)
