-- The master that names the unfinished transactions of a log.
use Rattle.image_meaning.proofs.Names.{◌≡◌, ℕ, suc, ◌+◌, ◌*◌, ◌<◌, ◌≤◌, ⊎_elim, true, List, [], ◌∷◌, take, map, refl, sym, ap, subst, ◌∙◌, arith, or_cases, or_left, or_right, eqb-true, eq-eqb, list_any, AllByRecursion, ◌&&◌, not, slice_index_or, seen, Master, IsMasterOf, Ascends, losers_ascend, above, listed_is_loser, loser_is_listed, with_master, Entry, is_loser, is_closed, entries_of, Active, LogicalImage, IsSound, last_lsn, active_in, is_begin, losers, all_both, all_weaker, all_map, any_map}
use Rattle.std.specs.Prelude.{◌==◌}
use Rattle.checkpoint.specs.declared.pairs.Pair.{Pair}
use Rattle.checkpoint.specs.Actives.{no_pair, Ascend}

-- Lists that ascend.

abbrev IsAmong : List ℕ → ℕ → Type 0
IsAmong xs x = list_any (λ s. s == x) xs ≡ true

all_among : (xs : List ℕ) → AllByRecursion (IsAmong xs) xs
all_among [] = tt
all_among (x ∷ xs) = grind (arith, or_left, eq-eqb, all_weaker, or_right, (all_among xs))

of_member : (P : ℕ → Type 0) (xs : List ℕ) (x : ℕ) → AllByRecursion P xs → IsAmong xs x → P x
of_member P [] x all among = cc among
of_member P (y ∷ xs) x all among =
    ⊎_elim (λ here. subst P (eqb-true y x here) all.0) (λ later. of_member P xs x all.1 later) (or_cases (y == x) (list_any (λ s. s == x) xs) among)

-- none is less than the first one
least : (from : ℕ) (y x : ℕ) (ys : List ℕ) → Ascends from (y ∷ ys) → IsAmong (y ∷ ys) x → y ≤ x
least from y x ys ascends among = of_member (λ n. y ≤ n) (y ∷ ys) x (omega arith, all_weaker (λ n. y + 1 ≤ n) (λ n. y ≤ n) (λ n h. omega (arith, h)) ys (above (y + 1) ys ascends.1)) among

-- two of them that have the same members are equal
same_ascending : (from from' : ℕ) (xs ys : List ℕ) → Ascends from xs → Ascends from' ys → AllByRecursion (IsAmong ys) xs → AllByRecursion (IsAmong xs) ys → xs ≡ ys
same_ascending from from' [] [] up up' in_ys in_xs = refl
same_ascending from from' [] (y ∷ ys) up up' in_ys in_xs = absurd (let none = in_xs.0 in cc none)
same_ascending from from' (x ∷ xs) [] up up' in_ys in_xs = absurd (let none = in_ys.0 in cc none)
same_ascending from from' (x ∷ xs) (y ∷ ys) up up' in_ys in_xs =
    let low = least from' y x ys up' in_ys.0 in
    let high = least from x y xs up in_xs.0 in
    let first : x ≡ y = omega (arith, low, high) in
    let rest = same_ascending (x + 1) (y + 1) xs ys up.1 up'.1 (later first ys xs (above (x + 1) xs up.1) in_ys.1) (later (sym first) xs ys (above (y + 1) ys up'.1) in_xs.1) in
    λ i. first i ∷ rest i
  where
    later : {a b : ℕ} → a ≡ b → (others some : List ℕ) → AllByRecursion (λ n. a + 1 ≤ n) some → AllByRecursion (IsAmong (b ∷ others)) some → AllByRecursion (IsAmong others) some
    later {a} {b} same others some high among =
        all_both (λ n. a + 1 ≤ n) (IsAmong (b ∷ others)) (IsAmong others)
        (λ n more h. ⊎_elim (λ here. absurd (let is = eqb-true b n here in omega (arith, same, more, is))) (λ rest. rest) (or_cases (b == n) (list_any (λ s. s == n) others) h)) some high among

-- The Begins of a master's pairs ascend.

ascend_rest : (p : Pair) (pairs : List Pair) → Ascend (p ∷ pairs) → Ascend pairs
ascend_rest p pairs up i less =
    let next : suc i + 1 ≡ suc (i + 1) = omega arith in
    subst (λ n. (slice_index_or pairs i no_pair).begin < (slice_index_or (p ∷ pairs) n no_pair).begin) next (up (suc i) (omega (arith, less)))

ascends_of : (from : ℕ) (pairs : List Pair) → Ascend pairs → AllByRecursion (λ pair. from ≤ pair.begin) (take 1 pairs) → Ascends from (map (λ (pair : Pair). pair.begin) pairs)
ascends_of from [] up first = tt
ascends_of from (p ∷ []) up first = (first.0, tt)
ascends_of from (p ∷ q ∷ pairs) up first =
    let next = up 0 (omega arith) in (first.0, ascends_of (p.begin + 1) (q ∷ pairs) (ascend_rest p (q ∷ pairs) up) (omega (arith, next), tt))

-- pairs with the last LSNs of their transactions
pairs_are : (log : List Entry) (pairs : List Pair) → AllByRecursion (λ pair. pair.last ≡ last_lsn (entries_of pair.begin log)) pairs → map {B = Active} (λ (pair : Pair). record { begin = pair.begin; last = pair.last }) pairs ≡ map {B = Active} (λ t. record { begin = t; last = last_lsn (entries_of t log) }) (map (λ (pair : Pair). pair.begin) pairs)
pairs_are log [] all = refl
pairs_are log (pair ∷ pairs) all = let rest = pairs_are log pairs all.1 in λ i. record { begin = pair.begin; last = all.0 i } ∷ rest i

module _ (p : LogicalImage) (m : Master) (sound : IsSound p) (is : IsMasterOf p m) where
  abbrev begins : List ℕ
  begins = map (λ (pair : Pair). pair.begin) m.active

  each_is_listed : AllByRecursion (IsAmong (losers p.log)) begins
  each_is_listed =
      all_map (IsAmong (losers p.log)) (λ (pair : Pair). pair.begin) m.active
      (all_weaker (λ pair. (is_loser p.log pair.begin ≡ true) × (pair.last ≡ last_lsn (entries_of pair.begin p.log))) (λ pair. IsAmong (losers p.log) pair.begin)
      (λ pair h. loser_is_listed p.log pair.begin (record { undone = sound.losers_can_be_undone; held = sound.losers_hold_others_off }) h.0) m.active is.unfinished)

  each_is_named : AllByRecursion (IsAmong begins) (losers p.log)
  each_is_named =
      all_weaker (IsAmong (losers p.log)) (IsAmong begins)
      (λ t listed. any_map (λ s. s == t) (λ (pair : Pair). pair.begin) m.active ∙ is.all t (listed_is_loser p.log t listed)) (losers p.log) (all_among (losers p.log))

  first_low : (pairs : List Pair) → AllByRecursion (λ pair. 0 ≤ pair.begin) (take 1 pairs)
  first_low [] = tt
  first_low (pair ∷ pairs) = (omega arith, tt)

  begins_are : begins ≡ losers p.log
  begins_are =
      same_ascending 0 (512 * p.master.kept) begins (losers p.log) (ascends_of 0 m.active is.ascend (first_low m.active))
      (losers_ascend (λ e. is_begin e.rec && not (is_closed p.log e.lsn)) (512 * p.master.kept) p.log (512 * p.hi) sound.in_order) each_is_listed each_is_named

  active_is : map {B = Active} (λ (pair : Pair). record { begin = pair.begin; last = pair.last }) m.active ≡ active_in p.log
  active_is =
      pairs_are p.log m.active
      (all_weaker (λ pair. (is_loser p.log pair.begin ≡ true) × (pair.last ≡ last_lsn (entries_of pair.begin p.log))) (λ pair. pair.last ≡ last_lsn (entries_of pair.begin p.log)) (λ pair h. h.1) m.active is.unfinished)
      ∙ ap (map {B = Active} (λ t. record { begin = t; last = last_lsn (entries_of t p.log) })) begins_are

  pub saved_is : seen m ≡ (with_master p m.kept).master
  saved_is = λ i. record { redo = is.redo i; kept = m.kept; commits = is.commits i; active = active_is i }

-- It is the one that such a checkpoint saves.
pub master_is_saved : (p : LogicalImage) (m : Master) → IsSound p → IsMasterOf p m → seen m ≡ (with_master p m.kept).master
master_is_saved = saved_is
