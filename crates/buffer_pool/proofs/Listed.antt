-- The index of the pages that a push may take, as pages come and go.
use Rattle.buffer_pool.proofs.Names.{◌≡◌, ℕ, ◌+◌, ◌<◌, ◌≤◌, nat_eq, Bool, true, cond, List, [], ◌∷◌, ◌++◌, length, take, map, filter, reverse, Some, arith, refl, sym, ap, subst, ◌∙◌, append-nil, length-append, eqb-true, map-append, reverse-append, take_all, take_at, take-map, filter-append, AllByRecursion, lookup, remove_entry, set_value, frame_in, frames_in, state_in, State, AreDistinct, is_framed, is_movable, coldest_movable, mark_of, is_listed, if_listed, listed_of, AreStamped, IsIndex, struck, enlisted, PoolEntry}
use Rattle.std.proofs.Common.{append_assoc}
use Rattle.std_lemmas.proofs.Entries.{at_same, AreBelow, below_append, below_weaker, insert_before, insert_last, kept_behind, skipped}
use Rattle.buffer_pool.specs.declared.index.Index.{Index}
use Rattle.buffer_pool.proofs.Cached.{Entry}
use Rattle.buffer_pool.proofs.Known.{framed_in, known, each_known}
use Rattle.std.proofs.lemmas.Grind.{common_steps}

abbrev pub Listed : Type 0
Listed = List (ℕ × (ℕ × Bool))

listed_below : (bound : ℕ) (es : List Entry) → AreStamped bound es → AreBelow bound (listed_of es)
listed_below bound [] stamped = tt
listed_below bound (e ∷ es) stamped = grind (arith, common_steps, below_append, below_weaker, (listed_below e.1.stamp es stamped.1))

stamped_weaker : (a b : ℕ) (es : List Entry) → a ≤ b → AreStamped a es → AreStamped b es
stamped_weaker a b [] le stamped = tt
stamped_weaker a b (e ∷ es) le stamped = let less = stamped.0 in (omega (arith, le, less), stamped.1)

stamped_removed : (bound k : ℕ) (es : List Entry) → AreStamped bound es → AreStamped bound (remove_entry (nat_eq k) es)
stamped_removed bound k [] stamped = tt
stamped_removed bound k (e ∷ es) stamped = grind (arith, common_steps, stamped_weaker, (stamped_removed e.1.stamp k es stamped.1))

stamped_set : (bound k : ℕ) (kept now : PoolEntry) (es : List Entry) → now.stamp ≡ kept.stamp → AreStamped bound es → lookup (nat_eq k) es ≡ Some kept → AreStamped bound (set_value (nat_eq k) es now)
stamped_set bound k kept now [] at stamped is = tt
stamped_set bound k kept now (e ∷ es) at stamped is = grind (arith, common_steps, (stamped_set e.1.stamp k kept now es at stamped.1))

stamped_front : (bound : ℕ) (front : List Entry) (e : Entry) → AreStamped bound (front ++ e ∷ []) → AreStamped bound front
stamped_front bound [] e stamped = tt
stamped_front bound (f ∷ front) e stamped = (stamped.0, stamped_front f.1.stamp front e stamped.1)

-- what is kept of a page is older than the next touch
found_below : (bound k : ℕ) (kept : PoolEntry) (es : List Entry) → AreStamped bound es → lookup (nat_eq k) es ≡ Some kept → kept.stamp < bound
found_below bound k kept [] stamped is = absurd cc
found_below bound k kept (e ∷ es) stamped is = grind (arith, common_steps, (found_below e.1.stamp k kept es stamped.1))

-- Taking off the list.

struck_here : (e : Entry) (xs : Listed) → AreBelow e.1.stamp xs → struck e.1.stamp (is_listed e.1) (xs ++ if_listed e) ≡ xs
struck_here e xs below = grind (arith, common_steps, skipped, at_same, append-nil)

struck_later : (s : ℕ) (wanted : Bool) (e : Entry) (xs : Listed) → s < e.1.stamp → struck s wanted (xs ++ if_listed e) ≡ struck s wanted xs ++ if_listed e
struck_later s wanted e xs less = grind (arith, common_steps, kept_behind, append-nil)

struck_of : (bound k : ℕ) (kept : PoolEntry) (es : List Entry) → AreStamped bound es → lookup (nat_eq k) es ≡ Some kept
    → struck kept.stamp (is_listed kept) (listed_of es) ≡ listed_of (remove_entry (nat_eq k) es)
struck_of bound k kept [] stamped is = absurd cc
struck_of bound k kept (e ∷ es) stamped is = grind (arith, common_steps, struck_here, listed_below, struck_later, found_below, (struck_of e.1.stamp k kept es stamped.1))

-- the coldest page is the first one
coldest_first : (front : List Entry) (e : Entry) → listed_of (front ++ e ∷ []) ≡ if_listed e ++ listed_of front
coldest_first [] e = sym (append-nil (if_listed e))
coldest_first (f ∷ front) e = ap (λ (l : Listed). l ++ if_listed f) (coldest_first front e) ∙ append_assoc (if_listed e) (listed_of front) (if_listed f)

struck_coldest : (front : List Entry) (e : Entry) → struck e.1.stamp (is_listed e.1) (listed_of (front ++ e ∷ [])) ≡ listed_of front
struck_coldest front e = grind (arith, common_steps, coldest_first, at_same)

-- Putting on the list.

-- a page that comes to the front
enlisted_front : (k : ℕ) (kept : PoolEntry) (es : List Entry) → AreStamped kept.stamp es → enlisted kept.stamp (k, kept.changed) (is_listed kept) (listed_of es) ≡ listed_of ((k, kept) ∷ es)
enlisted_front k kept es stamped = grind (arith, common_steps, insert_last, listed_below, append-nil)

enlisted_before : (s : ℕ) (v : ℕ × Bool) (wanted : Bool) (e : Entry) (xs : Listed) → s < e.1.stamp → enlisted s v wanted (xs ++ if_listed e) ≡ enlisted s v wanted xs ++ if_listed e
enlisted_before s v wanted e xs less = grind (arith, common_steps, insert_before, append-nil)

-- a page that stays at its place
enlisted_again : (bound k : ℕ) (kept now : PoolEntry) (es : List Entry) → now.stamp ≡ kept.stamp → AreStamped bound es → lookup (nat_eq k) es ≡ Some kept
    → enlisted now.stamp (k, now.changed) (is_listed now) (listed_of (remove_entry (nat_eq k) es)) ≡ listed_of (set_value (nat_eq k) es now)
enlisted_again bound k kept now [] at stamped is = absurd cc
enlisted_again bound k kept now (e ∷ es) at stamped is = grind (arith, common_steps, enlisted_front, eqb-true, found_below, enlisted_before, (enlisted_again e.1.stamp k kept now es at stamped.1))

-- The index beside each change of the entries: the page is struck, and put on the list where it is listed now.

pub index_stays : (a b c : Index) (es : List Entry) (k : ℕ) (kept now : PoolEntry) → now.stamp ≡ kept.stamp → lookup (nat_eq k) es ≡ Some kept → IsIndex a es
    → b.listed.entries ≡ struck kept.stamp (is_listed kept) a.listed.entries → b.next ≡ a.next → b.whole ≡ a.whole
    → (c.whole ≡ true → c.listed.entries ≡ enlisted kept.stamp (k, now.changed) (is_listed now) b.listed.entries) → c.next ≡ b.next → (c.whole ≡ true → b.whole ≡ true)
    → IsIndex c (set_value (nat_eq k) es now)
index_stays a b c es k kept now at is index off next whole on next' whole' = record {
  listed = λ w.
      let was = sym whole ∙ whole' w in
      on w ∙ ap (enlisted kept.stamp (k, now.changed) (is_listed now)) (off ∙ ap (struck kept.stamp (is_listed kept)) (index.listed was) ∙ struck_of a.next k kept es (index.stamped was) is)
      ∙ ap (λ (s : ℕ). enlisted s (k, now.changed) (is_listed now) (listed_of (remove_entry (nat_eq k) es))) (sym at)
      ∙ enlisted_again a.next k kept now es at (index.stamped was) is;
  stamped = λ w.
      let was = sym whole ∙ whole' w in
      subst (λ (n : ℕ). AreStamped n (set_value (nat_eq k) es now)) (sym (next' ∙ next)) (stamped_set a.next k kept now es at (index.stamped was) is);
}

-- nor is there anything to do where what counts stays
listed_same : (k : ℕ) (kept now : PoolEntry) (es : List Entry) → now.stamp ≡ kept.stamp → now.changed ≡ kept.changed → now.framed ≡ kept.framed → lookup (nat_eq k) es ≡ Some kept → listed_of (set_value (nat_eq k) es now) ≡ listed_of es
listed_same k kept now [] at changed framed is = refl
listed_same k kept now (e ∷ es) at changed framed is = grind (arith, common_steps, (listed_same k kept now es at changed framed))

pub index_same : (a : Index) (es : List Entry) (k : ℕ) (kept now : PoolEntry) → now.stamp ≡ kept.stamp → now.changed ≡ kept.changed → now.framed ≡ kept.framed → lookup (nat_eq k) es ≡ Some kept → IsIndex a es
    → IsIndex a (set_value (nat_eq k) es now)
index_same a es k kept now at changed framed is index = grind (arith, common_steps, listed_same, stamped_set)

pub index_leaves : (a b : Index) (es : List Entry) (k : ℕ) (kept : PoolEntry) → lookup (nat_eq k) es ≡ Some kept → IsIndex a es
    → b.listed.entries ≡ struck kept.stamp (is_listed kept) a.listed.entries → b.next ≡ a.next → b.whole ≡ a.whole → IsIndex b (remove_entry (nat_eq k) es)
index_leaves a b es k kept is index off next whole = grind (arith, common_steps, struck_of, stamped_removed)

pub index_last : (a b : Index) (es front : List Entry) (e : Entry) → es ≡ front ++ e ∷ [] → IsIndex a es
    → b.listed.entries ≡ struck e.1.stamp (is_listed e.1) a.listed.entries → b.next ≡ a.next → b.whole ≡ a.whole → IsIndex b front
index_last a b es front e split index off next whole = grind (arith, common_steps, struck_coldest, stamped_front)

pub index_enters : (a b : Index) (es : List Entry) (k : ℕ) (kept : PoolEntry) → kept.stamp ≡ a.next → IsIndex a es
    → (b.whole ≡ true → b.listed.entries ≡ enlisted a.next (k, kept.changed) (is_listed kept) a.listed.entries) → (b.whole ≡ true → b.next ≡ a.next + 1) → (b.whole ≡ true → a.whole ≡ true)
    → IsIndex b ((k, kept) ∷ es)
index_enters a b es k kept at index on next whole = grind (arith, common_steps, enlisted_front)

-- What is listed is what a push may take.

abbrev pub marks_listed : Listed → List (ℕ × Bool)
marks_listed ws = map (λ (w : ℕ × (ℕ × Bool)). w.1) ws

abbrev pub marks_if : Entry → List (ℕ × Bool)
marks_if e = cond (is_listed e.1) ((e.0, e.1.changed) ∷ []) []

marks_of_one : (e : Entry) → marks_listed (if_listed e) ≡ marks_if e
marks_of_one e = grind (arith, common_steps)

module _ (pool : State) where
  abbrev movable_marks : List Entry → List (ℕ × Bool)
  movable_marks es = map mark_of (filter (is_movable pool) (reverse (frames_in es)))

  -- one that is warmer
  movable_more : (e : Entry) (es : List Entry) → movable_marks (e ∷ es) ≡ movable_marks es ++ map mark_of (cond (is_movable pool (frame_in e)) (frame_in e ∷ []) [])
  movable_more e es = grind (arith, common_steps, reverse-append, filter-append, map-append)

  listed_movable : (es : List Entry) → AllByRecursion (λ (e : Entry). is_framed pool e.0 ≡ e.1.framed) es → marks_listed (listed_of es) ≡ movable_marks es
  listed_movable [] all = refl
  listed_movable (e ∷ es) all = grind (arith, common_steps, map-append, movable_more, (listed_movable es all.1))

-- the coldest of the list are the coldest that a push may take
pub coldest_are : (most size : ℕ) (es : List Entry) → AreDistinct (frames_in es) → take most (marks_listed (listed_of es)) ≡ map mark_of (coldest_movable most (state_in size es))
coldest_are most size es distinct =
    ap (take most) (listed_movable (state_in size es) es (agree es (each_known es distinct)))
    ∙ take-map mark_of most (filter (is_movable (state_in size es)) (reverse (frames_in es)))
  where
    agree : (rest : List Entry) → AllByRecursion (λ (e : Entry). framed_in es e.0 ≡ e.1.framed) rest → AllByRecursion (λ (e : Entry). is_framed (state_in size es) e.0 ≡ e.1.framed) rest
    agree [] all = tt
    agree (e ∷ rest) all = (known size es distinct e.0 ∙ all.0, agree rest all.1)

-- The list from its cold end, one by one.

pub record IsTold (most : ℕ) (all rest : Listed) (marks : List (ℕ × Bool)) : Type 0 where
  pub split : marks_listed all ≡ marks ++ marks_listed rest
  pub few : length marks ≤ most

-- The same by a walk over the entries.

listed_append : (xs ys : List Entry) → listed_of (xs ++ ys) ≡ listed_of ys ++ listed_of xs
listed_append [] ys = sym (append-nil (listed_of ys))
listed_append (x ∷ xs) ys = ap (λ (l : Listed). l ++ if_listed x) (listed_append xs ys) ∙ append_assoc (listed_of ys) (listed_of xs) (if_listed x)

-- some entries were looked at, from the cold end on, and these are still to come
pub record IsSought (most : ℕ) (pool : State) (warmer : List Entry) (marks : List (ℕ × Bool)) : Type 0 where
  pub behind : List Entry
  pub split : pool ≡ state_in pool.size (warmer ++ behind)
  pub marks_are : marks ≡ marks_listed (listed_of behind)
  pub few : length marks ≤ most

pub sought_begins : (most : ℕ) (pool : State) (es : List Entry) → state_in pool.size es ≡ pool → IsSought most pool es []
sought_begins most pool es is = grind (arith, common_steps, append-nil)

one_at_most : (e : Entry) → length (marks_if e) ≤ 1
one_at_most e = grind (arith, common_steps)

pub sought_more : (most : ℕ) (pool : State) (warmer rest : List Entry) (e : Entry) (marks more : List (ℕ × Bool)) → IsSought most pool warmer marks → warmer ≡ rest ++ e ∷ [] → (length marks ≡ most → ⊥)
    → more ≡ marks ++ marks_if e → IsSought most pool rest more
sought_more most pool warmer rest e marks more sought is less more_is = grind (arith, common_steps, append_assoc, marks_of_one, map-append, length-append, one_at_most)

found_all : (most : ℕ) (pool : State) (warmer behind : List Entry) (marks : List (ℕ × Bool)) → AreDistinct pool.frames → pool ≡ state_in pool.size (warmer ++ behind)
    → marks ≡ take most (marks_listed (listed_of (warmer ++ behind))) → marks ≡ map mark_of (coldest_movable most pool)
found_all most pool warmer behind marks distinct split is =
    is ∙ coldest_are most pool.size (warmer ++ behind) (subst (λ (p : State). AreDistinct p.frames) split distinct)
    ∙ ap (λ (p : State). map mark_of (coldest_movable most p)) (sym split)

pub sought_enough : (most : ℕ) (pool : State) (warmer : List Entry) (marks : List (ℕ × Bool)) → AreDistinct pool.frames → IsSought most pool warmer marks → length marks ≡ most
    → marks ≡ map mark_of (coldest_movable most pool)
sought_enough most pool warmer marks distinct sought enough = grind (arith, common_steps, found_all, listed_append, map-append, take_at)

pub sought_all : (most : ℕ) (pool : State) (warmer : List Entry) (marks : List (ℕ × Bool)) → AreDistinct pool.frames → IsSought most pool warmer marks → warmer ≡ []
    → marks ≡ map mark_of (coldest_movable most pool)
sought_all most pool warmer marks distinct sought none = grind (arith, common_steps, found_all, take_all)
