-- Footprints of writes, as lists.
use Rattle.engine.proofs.Names.{◌≡◌, ◌⊎◌, ⊎_elim, inl, inr, ℕ, zero, suc, ◌≤◌, ◌==◌, Bool, true, false, cond, max, fold, List, [], ◌∷◌, ◌++◌, length, map, take, filter, Option, Some, None, refl, sym, ap, subst, ◌∙◌, arith, append_assoc, append-nil, get_or-set_other, eq-eqb, eqb-true, none-some, reduce, option_or, unwrap_or, slice_set, slice_index_or, filter_map, FootprintsAre, footprint_of, footprints_of, lengths_on, lengths, of_session, Footprint, Content, Session, State, Write, content_at, footprint, greatest, last_write, length_of, longest_write, session_at, standing_writes, table_with, writes_of, stands_at}
use Rattle.std.specs.Prelude.{flat_map}
use Rattle.footprints.specs.Longest.{longest}
use Rattle.footprints.specs.Longest as footprints

-- Last writes.

pub last_more : (ws : List Write) (w : Write) (r : ℕ) → last_write (ws ++ w ∷ []) r ≡ cond (w.0 == r) (Some w.1) (last_write ws r)
last_more [] w r = by (w.0 == r)
  where
    by : (b : Bool) → option_or None (cond b (Some w.1) None) ≡ cond b (Some w.1) None
    by true = refl
    by false = refl
last_more (x ∷ ws) w r = ap (λ o. option_or o (cond (x.0 == r) (Some x.1) None)) (last_more ws w r) ∙ by (w.0 == r)
  where
    by : (b : Bool) → option_or (cond b (Some w.1) (last_write ws r)) (cond (x.0 == r) (Some x.1) None) ≡ cond b (Some w.1) (option_or (last_write ws r) (cond (x.0 == r) (Some x.1) None))
    by true = refl
    by false = refl

pub stands_more : (table : List Content) (ws : List Write) (w : Write) (r : ℕ) → stands_at table (ws ++ w ∷ []) r ≡ cond (w.0 == r) w.1 (stands_at table ws r)
stands_more table ws w r = ap (λ o. unwrap_or o (content_at table r)) (last_more ws w r) ∙ by (w.0 == r)
  where
    by : (b : Bool) → unwrap_or (cond b (Some w.1) (last_write ws r)) (content_at table r) ≡ cond b w.1 (stands_at table ws r)
    by true = refl
    by false = refl

-- The footprints of writes.

pub footprints_more : (table : List Content) (earlier ws : List Write) (w : Write) → footprints_of table earlier (ws ++ w ∷ []) ≡ footprints_of table earlier ws ++ footprint_of table (earlier ++ ws) w ∷ []
footprints_more table earlier [] w = ap (λ (l : List Write). footprint_of table l w ∷ []) (sym (append-nil earlier))
footprints_more table earlier (x ∷ ws) w =
    ap (λ (l : List Footprint). footprint_of table earlier x ∷ l)
    (footprints_more table (earlier ++ x ∷ []) ws w ∙ ap (λ (l : List Write). footprints_of table (earlier ++ x ∷ []) ws ++ footprint_of table l w ∷ []) (append_assoc earlier (x ∷ []) ws))

pub footprints_taken : (table : List Content) (earlier ws : List Write) (k : ℕ) → footprints_of table earlier (take k ws) ≡ take k (footprints_of table earlier ws)
footprints_taken table earlier [] zero = refl
footprints_taken table earlier [] (suc k) = refl
footprints_taken table earlier (w ∷ ws) zero = refl
footprints_taken table earlier (w ∷ ws) (suc k) = ap (λ (l : List Footprint). footprint_of table earlier w ∷ l) (footprints_taken table (earlier ++ w ∷ []) ws k)

pub footprints_count : (table : List Content) (earlier ws : List Write) → length (footprints_of table earlier ws) ≡ length ws
footprints_count table earlier [] = refl
footprints_count table earlier (w ∷ ws) = ap (λ (n : ℕ). suc n) (footprints_count table (earlier ++ w ∷ []) ws)

-- a list with one footprint in front
on_one : (r : ℕ) (f : Footprint) (fs : List Footprint) (b : Bool) → (f.number == r) ≡ b → lengths_on r (f ∷ fs) ≡ cond b (f.stood ∷ f.written ∷ lengths_on r fs) (lengths_on r fs)
on_one r f fs true on = ap (λ b. flat_map (λ (g : Footprint). g.stood ∷ g.written ∷ []) (cond b (f ∷ filter (λ (g : Footprint). g.number == r) fs) (filter (λ (g : Footprint). g.number == r) fs))) on
on_one r f fs false on = ap (λ b. flat_map (λ (g : Footprint). g.stood ∷ g.written ∷ []) (cond b (f ∷ filter (λ (g : Footprint). g.number == r) fs) (filter (λ (g : Footprint). g.number == r) fs))) on

pub none_of_rest : (r : ℕ) (f : Footprint) (fs : List Footprint) → lengths_on r (f ∷ fs) ≡ [] → ((f.number == r) ≡ false) × (lengths_on r fs ≡ [])
none_of_rest r f fs none = by (f.number == r) refl
  where
    by : (b : Bool) → (f.number == r) ≡ b → ((f.number == r) ≡ false) × (lengths_on r fs ≡ [])
    by true on = absurd (let never = sym (on_one r f fs true on) ∙ none in cc)
    by false on = (on, sym (on_one r f fs false on) ∙ none)

pub none_taken : (r k : ℕ) (fs : List Footprint) → lengths_on r fs ≡ [] → lengths_on r (take k fs) ≡ []
none_taken r zero [] none = refl
none_taken r (suc k) [] none = refl
none_taken r zero (f ∷ fs) none = refl
none_taken r (suc k) (f ∷ fs) none =
    let parts = none_of_rest r f fs none in
    on_one r f (take k fs) false parts.0 ∙ none_taken r k fs parts.1

pub none_more : (r : ℕ) (fs : List Footprint) (f : Footprint) → lengths_on r fs ≡ [] → (f.number == r) ≡ false → lengths_on r (fs ++ f ∷ []) ≡ []
none_more r [] f none off = on_one r f [] false off
none_more r (x ∷ fs) f none off =
    let parts = none_of_rest r x fs none in
    on_one r x (fs ++ f ∷ []) false parts.0 ∙ none_more r fs f parts.1 off

-- without footprints on a record no write is there
pub never_written : (table : List Content) (earlier ws : List Write) (r : ℕ) → lengths_on r (footprints_of table earlier ws) ≡ [] → last_write ws r ≡ None
never_written table earlier [] r none = refl
never_written table earlier (w ∷ ws) r none =
    let parts = none_of_rest r (footprint_of table earlier w) (footprints_of table (earlier ++ w ∷ []) ws) none in
    ap (λ o. option_or o (cond (w.0 == r) (Some w.1) None)) (never_written table (earlier ++ w ∷ []) ws r parts.1) ∙ ap (λ b. option_or None (cond b (Some w.1) None)) parts.0

-- where no write is, a table stays
pub untouched : (table : List Content) (ws : List Write) (r : ℕ) → last_write ws r ≡ None → content_at (table_with table ws) r ≡ content_at table r
untouched table [] r none = refl
untouched table (w ∷ ws) r none = by (last_write ws r) refl (w.0 == r) refl none (untouched (slice_set table w.0 w.1) ws r)
  where
    by : (o : Option Content) → last_write ws r ≡ o → (b : Bool) → (w.0 == r) ≡ b → option_or o (cond b (Some w.1) None) ≡ None →
        (last_write ws r ≡ None → content_at (table_with (slice_set table w.0 w.1) ws) r ≡ content_at (slice_set table w.0 w.1) r) → content_at (table_with table (w ∷ ws)) r ≡ content_at table r
    by (Some c) is b on some rest = absurd (none-some c (sym some))
    by None is true on some rest = absurd (none-some w.1 (sym some))
    by None is false on some rest = rest is ∙ get_or-set_other table w.0 r w.1 None (λ same. absurd (let never = sym on ∙ eq-eqb w.0 r (sym same) in cc))

-- Footprints stay where the table changes on other records only.
pub same_footprints : (table table' : List Content) (earlier ws : List Write) →
    ((r : ℕ) → (content_at table' r ≡ content_at table r) ⊎ (lengths_on r (footprints_of table earlier ws) ≡ [])) → footprints_of table' earlier ws ≡ footprints_of table earlier ws
same_footprints table table' earlier [] same = refl
same_footprints table table' earlier (w ∷ ws) same =
    let rest = same_footprints table table' (earlier ++ w ∷ []) ws (λ r. ⊎_elim (λ is. inl is) (λ none. inr (none_of_rest r (footprint_of table earlier w) (footprints_of table (earlier ++ w ∷ []) ws) none).1) (same r)) in
    (λ i. first i ∷ rest i)
  where
    here : content_at table' w.0 ≡ content_at table w.0
    here = ⊎_elim (λ is. is) (λ none. absurd (let never = sym (none_of_rest w.0 (footprint_of table earlier w) (footprints_of table (earlier ++ w ∷ []) ws) none).0 ∙ eq-eqb w.0 w.0 refl in cc)) (same w.0)

    first : footprint_of table' earlier w ≡ footprint_of table earlier w
    first = λ i. record { number = w.0; stood = length_of (unwrap_or (last_write earlier w.0) (here i)); written = length_of w.1 }

-- Greatest lengths.

greatest-append : (a b : List ℕ) → greatest (a ++ b) ≡ max (greatest a) (greatest b)
greatest-append [] b = omega arith
greatest-append (x ∷ a) b = let rest = greatest-append a b in omega (arith, rest)

fold_greatest : (x : ℕ) (xs : List ℕ) → fold max x xs ≡ max x (greatest xs)
fold_greatest x [] = omega arith
fold_greatest x (y ∷ ys) = let rest = fold_greatest (max x y) ys in omega (arith, rest)

longest-one : (w : Write) (ws : List Write) (r : ℕ) → longest_write (w ∷ ws) r ≡ cond (w.0 == r) (max (length_of w.1) (longest_write ws r)) (longest_write ws r)
longest-one w ws r = by (w.0 == r)
  where
    by : (b : Bool) → greatest (map (λ (x : Write). length_of x.1) (cond b (w ∷ filter (λ (x : Write). x.0 == r) ws) (filter (λ (x : Write). x.0 == r) ws))) ≡ cond b (max (length_of w.1) (longest_write ws r)) (longest_write ws r)
    by true = refl
    by false = refl

pub longest-append : (a b : List Write) (r : ℕ) → longest_write (a ++ b) r ≡ max (longest_write a r) (longest_write b r)
longest-append [] b r = omega arith
longest-append (w ∷ a) b r = longest-one w (a ++ b) r ∙ by (w.0 == r) (longest-append a b r) ∙ ap (λ n. max n (longest_write b r)) (sym (longest-one w a r))
  where
    by : (c : Bool) → longest_write (a ++ b) r ≡ max (longest_write a r) (longest_write b r) →
        cond c (max (length_of w.1) (longest_write (a ++ b) r)) (longest_write (a ++ b) r) ≡ max (cond c (max (length_of w.1) (longest_write a r)) (longest_write a r)) (longest_write b r)
    by true rest = omega (arith, rest)
    by false rest = rest

-- no more stands there than what the table has, or the longest write
pub stands_within : (table : List Content) (ws : List Write) (r : ℕ) → length_of (stands_at table ws r) ≤ max (length_of (content_at table r)) (longest_write ws r)
stands_within table [] r = omega arith
stands_within table (w ∷ ws) r = by (last_write ws r) refl (stands_within table ws r) (w.0 == r) refl (longest-one w ws r)
  where
    by : (o : Option Content) → last_write ws r ≡ o → length_of (unwrap_or (last_write ws r) (content_at table r)) ≤ max (length_of (content_at table r)) (longest_write ws r) → (b : Bool) → (w.0 == r) ≡ b →
        longest_write (w ∷ ws) r ≡ cond (w.0 == r) (max (length_of w.1) (longest_write ws r)) (longest_write ws r) →
        length_of (unwrap_or (option_or (last_write ws r) (cond (w.0 == r) (Some w.1) None)) (content_at table r)) ≤ max (length_of (content_at table r)) (longest_write (w ∷ ws) r)
    by (Some c) is rest true on more =
        let last = ap (λ o. length_of (unwrap_or (option_or o (cond (w.0 == r) (Some w.1) None)) (content_at table r))) is in
        let was = ap (λ o. length_of (unwrap_or o (content_at table r))) is in
        let longer : longest_write (w ∷ ws) r ≡ max (length_of w.1) (longest_write ws r) = more ∙ ap (λ b. cond b (max (length_of w.1) (longest_write ws r)) (longest_write ws r)) on in
        omega (arith, last, was, longer, rest)
    by (Some c) is rest false on more =
        let last = ap (λ o. length_of (unwrap_or (option_or o (cond (w.0 == r) (Some w.1) None)) (content_at table r))) is in
        let was = ap (λ o. length_of (unwrap_or o (content_at table r))) is in
        let longer : longest_write (w ∷ ws) r ≡ longest_write ws r = more ∙ ap (λ b. cond b (max (length_of w.1) (longest_write ws r)) (longest_write ws r)) on in
        omega (arith, last, was, longer, rest)
    by None is rest true on more =
        let last : length_of (unwrap_or (option_or (last_write ws r) (cond (w.0 == r) (Some w.1) None)) (content_at table r)) ≡ length_of w.1 = (λ i. length_of (unwrap_or (option_or (is i) (cond (on i) (Some w.1) None)) (content_at table r))) in
        let longer : longest_write (w ∷ ws) r ≡ max (length_of w.1) (longest_write ws r) = more ∙ ap (λ b. cond b (max (length_of w.1) (longest_write ws r)) (longest_write ws r)) on in
        omega (arith, last, longer)
    by None is rest false on more =
        let last : length_of (unwrap_or (option_or (last_write ws r) (cond (w.0 == r) (Some w.1) None)) (content_at table r)) ≡ length_of (content_at table r) = (λ i. length_of (unwrap_or (option_or (is i) (cond (on i) (Some w.1) None)) (content_at table r))) in
        omega (arith, last)

-- The lengths on a record: none where no write is there, and else the greatest is that of what stood there first or of
-- the longest write.
abbrev pub AreOf : List ℕ → ℕ → ℕ → Type 0
AreOf lengths longest stood =
    ((lengths ≡ []) × (longest ≡ 0)) ⊎ ((first : ℕ) × (rest : List ℕ) × (lengths ≡ first ∷ rest) × (greatest lengths ≡ max stood longest))

pub of_writes : (table : List Content) (earlier ws : List Write) (r : ℕ) → AreOf (lengths_on r (footprints_of table earlier ws)) (longest_write ws r) (length_of (stands_at table earlier r))
of_writes table earlier [] r = inl (refl, refl)
of_writes table earlier (w ∷ ws) r = by (w.0 == r) refl (of_writes table (earlier ++ w ∷ []) ws r)
  where
    by : (b : Bool) → (w.0 == r) ≡ b → AreOf (lengths_on r (footprints_of table (earlier ++ w ∷ []) ws)) (longest_write ws r) (length_of (stands_at table (earlier ++ w ∷ []) r)) → AreOf (lengths_on r (footprints_of table earlier (w ∷ ws))) (longest_write (w ∷ ws) r) (length_of (stands_at table earlier r))
    by false off rest =
        subst (λ (l : List ℕ). AreOf l (longest_write (w ∷ ws) r) (length_of (stands_at table earlier r))) (sym (on_one r (footprint_of table earlier w) (footprints_of table (earlier ++ w ∷ []) ws) false off))
        (subst (λ (n : ℕ). AreOf (lengths_on r (footprints_of table (earlier ++ w ∷ []) ws)) n (length_of (stands_at table earlier r))) (sym (longest-one w ws r ∙ ap (λ b. cond b (max (length_of w.1) (longest_write ws r)) (longest_write ws r)) off))
        (subst (λ (c : Content). AreOf (lengths_on r (footprints_of table (earlier ++ w ∷ []) ws)) (longest_write ws r) (length_of c)) (stands_more table earlier w r ∙ ap (λ b. cond b w.1 (stands_at table earlier r)) off) rest))
    by true on rest =
        let longer : longest_write (w ∷ ws) r ≡ max (length_of w.1) (longest_write ws r) = longest-one w ws r ∙ ap (λ b. cond b (max (length_of w.1) (longest_write ws r)) (longest_write ws r)) on in
        let here : length_of (stands_at table earlier w.0) ≡ length_of (stands_at table earlier r) = ap (λ n. length_of (stands_at table earlier n)) (eqb-true w.0 r on) in
        let now : length_of (stands_at table (earlier ++ w ∷ []) r) ≡ length_of w.1 = ap length_of (stands_more table earlier w r ∙ ap (λ b. cond b w.1 (stands_at table earlier r)) on) in
        let all : lengths_on r (footprints_of table earlier (w ∷ ws)) ≡ length_of (stands_at table earlier w.0) ∷ length_of w.1 ∷ lengths_on r (footprints_of table (earlier ++ w ∷ []) ws) = on_one r (footprint_of table earlier w) (footprints_of table (earlier ++ w ∷ []) ws) true on in
        inr (
          length_of (stands_at table earlier w.0),
          length_of w.1 ∷ lengths_on r (footprints_of table (earlier ++ w ∷ []) ws),
          all,
          ap greatest all ∙ ⊎_elim
              (λ none. let none_there : greatest (lengths_on r (footprints_of table (earlier ++ w ∷ []) ws)) ≡ 0 = ap greatest none.0 in omega (arith, none_there, none.1, longer, here))
              (λ some. omega (arith, some.3, now, longer, here)) rest,
        )

-- of two parts
joined : (a b : List ℕ) (n m stood : ℕ) → AreOf a n stood → AreOf b m stood → AreOf (a ++ b) (max n m) stood
joined a b n m stood (inl none) (inl nothing) = inl ((λ i. none.0 i ++ nothing.0 i), omega (arith, none.1, nothing.1))
joined a b n m stood (inl none) (inr some) =
    let same : a ++ b ≡ b = ap (λ l. l ++ b) none.0 in
    inr (some.0, some.1, same ∙ some.2, ap greatest same ∙ some.3 ∙ (let zero_is = none.1 in omega (arith, zero_is)))
joined a b n m stood (inr some) (inl none) =
    let same : a ++ b ≡ a = ap (λ l. a ++ l) none.0 ∙ append-nil a in
    inr (some.0, some.1, same ∙ some.2, ap greatest same ∙ some.3 ∙ (let zero_is = none.1 in omega (arith, zero_is)))
joined a b n m stood (inr some) (inr more) =
    inr (some.0, some.1 ++ b, ap (λ l. l ++ b) some.2, greatest-append a b ∙ (let one = some.3 in let two = more.3 in omega (arith, one, two)))

-- of all sessions
of_all : (table : List Content) (r : ℕ) (standing : List (List Footprint)) (sessions : List (Option Session)) → length standing ≡ length sessions →
    ((n : ℕ) → of_session standing n ≡ footprints_of table [] (writes_of (slice_index_or sessions n None))) →
    AreOf (lengths standing r) (longest_write (flat_map (λ (x : Session). x.writes) (filter_map (λ o. o) sessions)) r) (length_of (content_at table r))
of_all table r [] [] same are = inl (refl, refl)
of_all table r [] (o ∷ sessions) same are = absurd (omega (arith, same))
of_all table r (fs ∷ standing) [] same are = absurd (omega (arith, same))
of_all table r (fs ∷ standing) (None ∷ sessions) same are =
    let rest = of_all table r standing sessions (omega (arith, same)) (λ n. are (suc n)) in
    subst (λ (l : List ℕ). AreOf (l ++ lengths standing r) (longest_write (flat_map (λ (x : Session). x.writes) (filter_map (λ o. o) sessions)) r) (length_of (content_at table r))) (sym (ap (lengths_on r) (are 0))) rest
of_all table r (fs ∷ standing) (Some x ∷ sessions) same are =
    let rest = of_all table r standing sessions (omega (arith, same)) (λ n. are (suc n)) in
    let own = of_writes table [] x.writes r in
    subst (λ (n : ℕ). AreOf (lengths_on r fs ++ lengths standing r) n (length_of (content_at table r))) (sym (longest-append x.writes (flat_map (λ (y : Session). y.writes) (filter_map (λ o. o) sessions)) r))
    (joined (lengths_on r fs) (lengths standing r) (longest_write x.writes r) _ (length_of (content_at table r)) (subst (λ (l : List Footprint). AreOf (lengths_on r l) (longest_write x.writes r) (length_of (content_at table r))) (sym (are 0)) own) rest)

-- So a record's footprint is the model's, where it has what the table has if it has no footprint.
pub same_footprint : (standing : List (List Footprint)) (s : State) (r now : ℕ) → length standing ≡ length s.sessions → FootprintsAre standing s → (lengths standing r ≡ [] → now ≡ length_of (content_at s.table r)) → footprints.footprint standing r now ≡ footprint s r
same_footprint standing s r now same are shown = by (lengths standing r) refl (of_all s.table r standing s.sessions same are)
  where
    by : (l : List ℕ) → lengths standing r ≡ l → AreOf (lengths standing r) (longest_write (standing_writes s) r) (length_of (content_at s.table r)) → unwrap_or (reduce max (lengths standing r)) now ≡ footprint s r
    by [] is (inl none) = let table_is = shown is in let zero_is = none.1 in ap (λ x. unwrap_or (reduce max x) now) is ∙ omega (arith, table_is, zero_is)
    by [] is (inr some) = absurd (let never = sym is ∙ some.2 in cc)
    by (x ∷ xs) is (inl none) = absurd (let never = sym is ∙ none.0 in cc)
    by (x ∷ xs) is (inr some) = ap (λ y. unwrap_or (reduce max y) now) is ∙ fold_greatest x xs ∙ sym (ap greatest is) ∙ some.3

-- The writes of one session are among all.
longest_of : (sessions : List (Option Session)) (n r : ℕ) → longest_write (writes_of (slice_index_or sessions n None)) r ≤ longest_write (flat_map (λ (x : Session). x.writes) (filter_map (λ o. o) sessions)) r
longest_of [] n r = omega arith
longest_of (None ∷ sessions) zero r = omega arith
longest_of (None ∷ sessions) (suc n) r = longest_of sessions n r
longest_of (Some x ∷ sessions) zero r = let all = longest-append x.writes (flat_map (λ (y : Session). y.writes) (filter_map (λ o. o) sessions)) r in omega (arith, all)
longest_of (Some x ∷ sessions) (suc n) r =
    let all = longest-append x.writes (flat_map (λ (y : Session). y.writes) (filter_map (λ o. o) sessions)) r in
    let rest = longest_of sessions n r in
    omega (arith, all, rest)

pub longest_within : (s : State) (n r : ℕ) → longest_write (writes_of (session_at s n)) r ≤ longest_write (standing_writes s) r
longest_within s n r = longest_of s.sessions n r
