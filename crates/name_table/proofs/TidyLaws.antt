-- What the change of a tidy does to well-formed buckets, and to the names of a table.
use Rattle.name_table.proofs.Names.{◌≡◌, ℕ, zero, suc, ◌+◌, ◌-◌, ◌<◌, ◌≤◌, ◌%◌, ◌/◌, ◌⊎◌, Bool, true, false, List, [], Some, None, inl, inr, refl, ap, sym, ◌∙◌, subst, arith, length, slice_set, mod-lt, mod-eq_of_lt, cases_eq, cases_lt, ltb-true, bytes_eq-Decides, bytes_eq, home, probed, value_under, value_among, names, AreWellFormed, IsWellFormed, bucket_of, bucket_count, bucket_at, Content, content_at, Bucket, Free, Tombstone, Entry, Strange}
use Rattle.std.proofs.Math.Nat.{add-mod}
use Rattle.std.proofs.lemmas.Bool.{lt-ltb}
use Rattle.std.proofs.lemmas.List.{get_or-set_other, get_or-set_same, length-set}
use Rattle.name_table.specs.declared.tidying.TidyAsk.{TidyAsk}
use Rattle.name_table.specs.declared.tidying.TidyAsk.TheVariants as asks
use Rattle.name_table.specs.Tidying.{Tidying, up, way, leads_over}
use Rattle.name_table.specs.Tidies.{Stays, Frees, Moves, Behind, frees, moves, halts, TidyEnds, finds_none, meets_one, TidiesKeepNames, KeepsNames, tombstones, tombstones_among, one_tombstone}
use Rattle.name_table.proofs.Ring.{around, steps_to}
use Rattle.name_table.proofs.Values.{stands, stands_alike, under_other}
use Rattle.name_table.proofs.Changes.{Changed, entries_differ, not_free, not_tombstone}
use Rattle.name_table.proofs.TidyRuns.{tidies_are_told}

-- Steps up.

-- the way from a place to what is so many steps up from it
pub way_is : (n h d : ℕ) → h < n → d < n → way h ((h + d) % n) n ≡ d
way_is n h d hn dn = elim (cases_lt (h + d) n) [
  | inl low ↦
      let e : h + d + n - h ≡ d + n = omega arith in
      let back : d + n - n ≡ d = omega arith in
      ap (λ (k : ℕ). (k + n - h) % n) (mod-eq_of_lt low) ∙ ap (λ (k : ℕ). k % n) e ∙ around n (d + n) (omega arith) (omega arith) ∙ back
  | inr high ↦
      let e : h + d - n + n - h ≡ d = omega arith in
      ap (λ (k : ℕ). (k + n - h) % n) (around n (h + d) high (omega arith)) ∙ ap (λ (k : ℕ). k % n) e ∙ mod-eq_of_lt dn
]

pub way_leads : (n h p : ℕ) → h < n → p < n → (h + way h p n) % n ≡ p
way_leads n h p hn pn =
    let to = steps_to n h p hn pn in
    let same : way h p n ≡ to.steps = ap (λ (k : ℕ). way h k n) (sym to.leads) ∙ way_is n h to.steps hn to.fewer in
    ap (λ (k : ℕ). (h + k) % n) same ∙ to.leads

-- further up
pub further : (n h d j : ℕ) → j < n → up ((h + d) % n) j n ≡ (h + (d + j)) % n
further n h d j jn =
    let e : h + d + j ≡ h + (d + j) = omega arith in
    let kept : (h + d) % n % n ≡ (h + d) % n = mod-eq_of_lt (mod-lt (h + d) (omega arith)) in
    add-mod ((h + d) % n) j n ∙ ap (λ (k : ℕ). (k + j % n) % n) kept ∙ sym (add-mod (h + d) j n) ∙ ap (λ (k : ℕ). k % n) e

-- One tombstone becomes free, over which no entry's way leads.
module _ (f g : ℕ → Bucket) (n : ℕ) (formed : AreWellFormed f n) (tombstone : ℕ) (was : f tombstone ≡ Tombstone)
    (change : Changed f g tombstone Free)
    (unused : (own more : List ℕ) (steps fewer : ℕ) → steps < n → fewer < steps → f (probed own n steps) ≡ Entry own more → probed own n fewer ≡ tombstone → ⊥) where
  still_there : (k : ℕ) (b : Bucket) → (Free ≡ b → ⊥) → g k ≡ b → f k ≡ b
  still_there k b taken e = elim (cases_eq k tombstone) [
    | inl same ↦ absurd (taken (sym change.here ∙ ap g (sym same) ∙ e))
    | inr apart ↦ sym (change.elsewhere k apart) ∙ e
  ]

  there : (k : ℕ) (own more : List ℕ) → g k ≡ Entry own more → f k ≡ Entry own more
  there k own more e = still_there k (Entry own more) (λ h. not_free own more (sym h)) e

  freed_formed : AreWellFormed g n
  freed_formed = record {
    formed = λ k low e. formed.formed k low (still_there k Strange (λ h. cc) e);
    differ = λ k other own more rest low under e o. formed.differ k other own more rest low under (there k own more e) (there other own rest o);
    reached = λ own more steps fewer few before e free. elim (cases_eq (probed own n fewer) tombstone) [
      | inl same ↦ unused own more steps fewer few before (there _ own more e) same
      | inr apart ↦ formed.reached own more steps fewer few before (there _ own more e) (sym (change.elsewhere _ apart) ∙ free)
    ];
  }

  freed_names : (name : List ℕ) → value_among g name n ≡ value_among f name n
  freed_names name = stands_alike f g name n (λ k low. elim (cases_eq k tombstone) [
    | inl same ↦ ap (λ (k : ℕ). value_under name (g k)) same ∙ ap (value_under name) change.here ∙ sym (ap (value_under name) was) ∙ ap (λ (k : ℕ). value_under name (f k)) (sym same)
    | inr apart ↦ ap (value_under name) (change.elsewhere k apart)
  ])

-- An entry moves to a tombstone over which its way leads, and leaves a tombstone.
pub record Moved (f g : ℕ → Bucket) (place tombstone : ℕ) (name more : List ℕ) : Type 0 where
  pub was : f tombstone ≡ Tombstone
  pub is : f place ≡ Entry name more
  pub there : g tombstone ≡ Entry name more
  pub here : g place ≡ Tombstone
  pub elsewhere : (other : ℕ) → (other ≡ place → ⊥) → (other ≡ tombstone → ⊥) → g other ≡ f other

module _ (f g : ℕ → Bucket) (n : ℕ) (some : 0 < n) (formed : AreWellFormed f n) (place tombstone : ℕ) (name more : List ℕ) (low : place < n) (under : tombstone < n)
    (over : way (home name n) tombstone n < way (home name n) place n) (moved : Moved f g place tombstone name more) where
  -- the place at which an entry stood before
  record Stood (k : ℕ) (own value : List ℕ) : Type 0 where
    at : ℕ
    below : k < n → at < n
    was : f at ≡ Entry own value
    which : ((k ≡ tombstone) × (at ≡ place)) ⊎ ((k ≡ at) × (k ≡ place → ⊥))

  stood : (k : ℕ) (own value : List ℕ) → g k ≡ Entry own value → Stood k own value
  stood k own value e = elim (cases_eq k tombstone) [
    | inl same ↦ record { at = place; below = λ h. low; was = moved.is ∙ sym moved.there ∙ ap g (sym same) ∙ e; which = inl (same, refl) }
    | inr apart ↦ elim (cases_eq k place) [
      | inl own_place ↦ absurd (not_tombstone own value (sym e ∙ ap g own_place ∙ moved.here))
      | inr other ↦ record { at = k; below = λ h. h; was = sym (moved.elsewhere k other apart) ∙ e; which = inr (refl, other) }
    ]
  ]

  was_free : (k : ℕ) → g k ≡ Free → f k ≡ Free
  was_free k e = elim (cases_eq k tombstone) [
    | inl same ↦ absurd (not_free name more (sym moved.there ∙ ap g (sym same) ∙ e))
    | inr apart ↦ elim (cases_eq k place) [
      | inl own_place ↦ let no : Tombstone ≡ Free = sym moved.here ∙ ap g (sym own_place) ∙ e in cc
      | inr other ↦ sym (moved.elsewhere k other apart) ∙ e
    ]
  ]

  not_strange : (k : ℕ) → k < n → g k ≡ Strange → ⊥
  not_strange k below e = elim (cases_eq k tombstone) [
    | inl same ↦ let no : Entry name more ≡ Strange = sym moved.there ∙ ap g (sym same) ∙ e in cc
    | inr apart ↦ elim (cases_eq k place) [
      | inl own_place ↦ let no : Tombstone ≡ Strange = sym moved.here ∙ ap g (sym own_place) ∙ e in cc
      | inr other ↦ formed.formed k below (sym (moved.elsewhere k other apart) ∙ e)
    ]
  ]

  same_place : (k other : ℕ) (own value rest : List ℕ) → Stood k own value → Stood other own rest → k < n → other < n → k ≡ other
  same_place k other own value rest s t below beneath =
      let same : s.at ≡ t.at = formed.differ s.at t.at own value rest (s.below below) (t.below beneath) s.was t.was in
      elim s.which [
        | inl first ↦ elim t.which [
          | inl second ↦ first.0 ∙ sym second.0
          | inr second ↦ absurd (second.1 (second.0 ∙ sym same ∙ first.1))
        ]
        | inr first ↦ elim t.which [
          | inl second ↦ absurd (first.1 (first.0 ∙ same ∙ second.1))
          | inr second ↦ first.0 ∙ same ∙ sym second.0
        ]
      ]

  home_low : (own : List ℕ) → home own n < n
  home_low own = mod-lt _ some

  -- the way to the tombstone is a part of that to where the entry was
  own_way : (steps fewer : ℕ) → steps < n → fewer < steps → probed name n steps ≡ tombstone → f (probed name n fewer) ≡ Free → ⊥
  own_way steps fewer few before at free =
      let mine : steps ≡ way (home name n) tombstone n = sym (way_is n (home name n) steps (home_low name) few) ∙ ap (λ (k : ℕ). way (home name n) k n) at in
      let whole : way (home name n) place n < n = mod-lt _ some in
      formed.reached name more (way (home name n) place n) fewer whole (omega (arith, mine, over)) (ap f (way_leads n (home name n) place (home_low name) low) ∙ moved.is) free

  moved_formed : AreWellFormed g n
  moved_formed = record {
    formed = not_strange;
    differ = λ k other own value rest below beneath e o. same_place k other own value rest (stood k own value e) (stood other own rest o) below beneath;
    reached = reached_still;
  }
    where
      reached_still : (own value : List ℕ) (steps fewer : ℕ) → steps < n → fewer < steps → g (probed own n steps) ≡ Entry own value → g (probed own n fewer) ≡ Free → ⊥
      reached_still own value steps fewer few before e free = elim (stood _ own value e).which [
        | inl first ↦
            let is : name ≡ own = entries_differ name own more value (sym moved.there ∙ ap g (sym first.0) ∙ e) in
            subst (λ (l : List ℕ). probed l n steps ≡ tombstone → f (probed l n fewer) ≡ Free → ⊥) is (own_way steps fewer few before) first.0 (was_free _ free)
        | inr first ↦ formed.reached own value steps fewer few before (ap f first.0 ∙ (stood _ own value e).was) (was_free _ free)
      ]

  moved_names : (other : List ℕ) → value_among g other n ≡ value_among f other n
  moved_names other = by (bytes_eq name other) refl
    where
      no_value : (b : Bucket) → b ≡ Entry name more → (name ≡ other → ⊥) → value_under other b ≡ None
      no_value b e ne = under_other other b (λ value h. ne (entries_differ name other more value (sym e ∙ h)))

      by : (test : Bool) → bytes_eq name other ≡ test → value_among g other n ≡ value_among f other n
      by true e =
          let is : name ≡ other = (bytes_eq-Decides name other).0 e in
          let each : value_among g name n ≡ value_among f name n =
          stands g name n moved_formed tombstone more under moved.there ∙ sym (stands f name n formed place more low moved.is) in
          subst (λ (l : List ℕ). value_among g l n ≡ value_among f l n) is each
      by false e =
          let ne : name ≡ other → ⊥ = λ (h : name ≡ other). absurd (both (sym e ∙ (bytes_eq-Decides name other).1 h)) in
          stands_alike f g other n (λ k below. elim (cases_eq k tombstone) [
            | inl same ↦
                ap (λ (k : ℕ). value_under other (g k)) same ∙ no_value (g tombstone) moved.there ne
                ∙ sym (ap (value_under other) moved.was) ∙ ap (λ (k : ℕ). value_under other (f k)) (sym same)
            | inr apart ↦ elim (cases_eq k place) [
              | inl own_place ↦
                  ap (λ (k : ℕ). value_under other (g k)) own_place ∙ ap (value_under other) moved.here
                  ∙ sym (no_value (f place) moved.is ne) ∙ ap (λ (k : ℕ). value_under other (f k)) (sym own_place)
              | inr neither ↦ ap (value_under other) (moved.elsewhere k neither apart)
            ]
          ])
        where
          both : false ≡ true → ⊥
          both e = cc

-- How many tombstones there are, when one bucket changed.
same_count : (f g : ℕ → Bucket) (n : ℕ) → ((k : ℕ) → k < n → g k ≡ f k) → tombstones_among g n ≡ tombstones_among f n
same_count f g zero same = refl
same_count f g (suc n) same =
    let here : one_tombstone (g n) ≡ one_tombstone (f n) = ap one_tombstone (same n (omega arith)) in
    let below : tombstones_among g n ≡ tombstones_among f n = same_count f g n (λ k low. same k (omega arith)) in
    omega (arith, here, below)

count_changed : (f g : ℕ → Bucket) (n place : ℕ) (b : Bucket) → Changed f g place b → place < n →
    tombstones_among g n + one_tombstone (f place) ≡ tombstones_among f n + one_tombstone b
count_changed f g zero place b change low = absurd (omega arith)
count_changed f g (suc n) place b change low = elim (cases_eq place n) [
  | inl same ↦
      let here : one_tombstone (g n) ≡ one_tombstone b = ap (λ (k : ℕ). one_tombstone (g k)) (sym same) ∙ ap one_tombstone change.here in
      let was : one_tombstone (f place) ≡ one_tombstone (f n) = ap (λ (k : ℕ). one_tombstone (f k)) same in
      let below : tombstones_among g n ≡ tombstones_among f n = same_count f g n (λ k under. change.elsewhere k (omega (arith, under, same))) in
      omega (arith, here, was, below)
  | inr apart ↦
      let here : one_tombstone (g n) ≡ one_tombstone (f n) = ap one_tombstone (change.elsewhere n (λ e. apart (sym e))) in
      let below : tombstones_among g n + one_tombstone (f place) ≡ tombstones_among f n + one_tombstone b = count_changed f g n place b change (omega arith) in
      omega (arith, here, below)
]

-- One record of a bucket changes.
abbrev pub buckets_of : List Content → ℕ → ℕ → Bucket
buckets_of table n place = bucket_of (content_at table (n + place))

set_changed : (table : List Content) (n place : ℕ) (value : Content) (b : Bucket) → n + place < length table → bucket_of value ≡ b →
    Changed (buckets_of table n) (buckets_of (slice_set table (n + place) value) n) place b
set_changed table n place value b fits is = record {
  here = ap bucket_of (get_or-set_same table (n + place) value None fits) ∙ is;
  elsewhere = λ other apart. ap bucket_of (get_or-set_other table (n + place) (n + other) value None (λ e. apart (omega (arith, e))));
}

set_count : (table : List Content) (number : ℕ) (value : Content) → bucket_count (slice_set table number value) ≡ bucket_count table
set_count table number value = ap (λ (k : ℕ). k / 2) (length-set table number value)

-- What is said of buckets, counted as before, is said of the table.
module _ (table changed : List Content) (counts : bucket_count changed ≡ bucket_count table) where
  table_formed : AreWellFormed (buckets_of changed (bucket_count table)) (bucket_count table) → IsWellFormed changed
  table_formed formed = subst (λ (n : ℕ). AreWellFormed (buckets_of changed n) n) (sym counts) formed

  table_names : (name : List ℕ) → value_among (buckets_of changed (bucket_count table)) name (bucket_count table) ≡ names table name → names changed name ≡ names table name
  table_names name same = ap (λ (n : ℕ). value_among (buckets_of changed n) name n) counts ∙ same

  table_tombstones : tombstones changed ≡ tombstones_among (buckets_of changed (bucket_count table)) (bucket_count table)
  table_tombstones = ap (λ (n : ℕ). tombstones_among (buckets_of changed n) n) counts

-- A tombstone of a table is freed, or an entry moves into it.
module _ (table : List Content) (tombstone : ℕ) (under : tombstone < bucket_count table) (is : bucket_at table tombstone ≡ Tombstone) where
  fits : bucket_count table + tombstone < length table
  fits = omega arith

  abbrev pub freed : List Content
  freed = slice_set table (bucket_count table + tombstone) None

  pub freed_count : bucket_count freed ≡ bucket_count table
  freed_count = set_count table (bucket_count table + tombstone) None

  pub freed_change : Changed (bucket_at table) (buckets_of freed (bucket_count table)) tombstone Free
  freed_change = set_changed table (bucket_count table) tombstone None Free fits refl

  module _ (place : ℕ) (low : place < bucket_count table) (name more octets : List ℕ) (own : bucket_at table place ≡ Entry name more)
      (has : content_at table (bucket_count table + place) ≡ Some octets) where
    abbrev pub half : List Content
    half = slice_set table (bucket_count table + tombstone) (Some octets)

    abbrev pub after : List Content
    after = slice_set half (bucket_count table + place) (Some [])

    pub after_count : bucket_count after ≡ bucket_count table
    after_count = set_count half (bucket_count table + place) (Some []) ∙ set_count table (bucket_count table + tombstone) (Some octets)

    pub first : Changed (bucket_at table) (buckets_of half (bucket_count table)) tombstone (Entry name more)
    first = set_changed table (bucket_count table) tombstone (Some octets) (Entry name more) fits (ap bucket_of (sym has) ∙ own)

    pub second : Changed (buckets_of half (bucket_count table)) (buckets_of after (bucket_count table)) place Tombstone
    second =
        let long : length half ≡ length table = length-set table (bucket_count table + tombstone) (Some octets) in
        set_changed half (bucket_count table) place (Some []) Tombstone (omega (arith, long)) refl

    pub differ : place ≡ tombstone → ⊥
    differ same = not_tombstone name more (sym own ∙ ap (bucket_at table) same ∙ is)

    pub moved : Moved (bucket_at table) (buckets_of after (bucket_count table)) place tombstone name more
    moved = record {
      was = is;
      is = own;
      there = second.elsewhere tombstone (λ e. differ (sym e)) ∙ first.here;
      here = second.here;
      elsewhere = λ other apart far. second.elsewhere other apart ∙ first.elsewhere other far;
    }

    pub as_many : tombstones after + 0 ≡ tombstones table
    as_many =
        let one : one_tombstone (bucket_at table tombstone) ≡ 1 = ap one_tombstone is in
        let none : one_tombstone (buckets_of half (bucket_count table) place) ≡ 0 = ap one_tombstone (first.elsewhere place differ ∙ own) in
        omega (
          arith,
          table_tombstones table after after_count,
          one,
          none,
          count_changed (bucket_at table) (buckets_of half (bucket_count table)) (bucket_count table) tombstone (Entry name more) first under,
          count_changed (buckets_of half (bucket_count table)) (buckets_of after (bucket_count table)) (bucket_count table) place Tombstone second low,
        )

module _ (table : List Content) (some : 1 ≤ bucket_count table) (formed : IsWellFormed table) (tombstone : ℕ) (under : tombstone < bucket_count table)
    (is : bucket_at table tombstone ≡ Tombstone) where
  -- no entry's way leads over a tombstone that is freed
  unused : (t : Tidying) → Frees table tombstone t → (own more : List ℕ) (steps fewer : ℕ) → steps < bucket_count table → fewer < steps →
      bucket_at table (probed own (bucket_count table) steps) ≡ Entry own more → probed own (bucket_count table) fewer ≡ tombstone → ⊥
  unused t f own more steps fewer few before e at = elim (cases_lt (steps - fewer) f.steps) [
    | inl early ↦
        let kept : Stays n tombstone (probed own n steps) (Entry own more) =
        subst (Stays n tombstone (probed own n steps)) e
        (subst (λ (k : ℕ). Stays n tombstone k (bucket_at table k)) (ups (steps - fewer) (omega arith) ∙ ap (probed own n) (omega arith)) (f.stay (steps - fewer) (omega arith) early)) in
        let yes : leads_over own n tombstone (probed own n steps) ≡ true = lt-ltb _ _ (omega (arith, first, whole, before)) in
        both (sym kept ∙ yes)
    | inr late ↦ elim f.ends [
      | inl all ↦ omega (arith, all)
      | inr at_free ↦
          let free : bucket_at table (probed own n (fewer + f.steps)) ≡ Free = ap (bucket_at table) (sym (ups f.steps at_free.0)) ∙ at_free.1 in
          elim (cases_eq (fewer + f.steps) steps) [
            | inl same ↦ not_free own more (sym e ∙ ap (λ (k : ℕ). bucket_at table (probed own n k)) (sym same) ∙ free)
            | inr apart ↦ formed.reached own more steps (fewer + f.steps) few (omega arith) e free
          ]
    ]
  ]
    where
      n : ℕ
      n = bucket_count table

      h : ℕ
      h = home own (bucket_count table)

      hn : home own (bucket_count table) < bucket_count table
      hn = mod-lt _ some

      ups : (j : ℕ) → j < bucket_count table → up tombstone j (bucket_count table) ≡ probed own (bucket_count table) (fewer + j)
      ups j jn = ap (λ (k : ℕ). up k j (bucket_count table)) (sym at) ∙ further (bucket_count table) (home own (bucket_count table)) fewer j jn

      first : way (home own (bucket_count table)) tombstone (bucket_count table) ≡ fewer
      first = ap (λ (k : ℕ). way (home own (bucket_count table)) k (bucket_count table)) (sym at) ∙ way_is (bucket_count table) (home own (bucket_count table)) fewer hn (omega arith)

      whole : way (home own (bucket_count table)) (probed own (bucket_count table) steps) (bucket_count table) ≡ steps
      whole = way_is (bucket_count table) (home own (bucket_count table)) steps hn few

      both : false ≡ true → ⊥
      both e = cc

  free_keeps : (t : Tidying) → Frees table tombstone t → KeepsNames table t.next
  free_keeps t f = subst (KeepsNames table) (sym f.asks) (record {
    well_formed = table_formed table after counts (freed_formed (bucket_at table) (buckets_of after (bucket_count table)) (bucket_count table) formed tombstone is change (unused t f));
    same = λ name. table_names table after counts name
        (freed_names (bucket_at table) (buckets_of after (bucket_count table)) (bucket_count table) formed tombstone is change (unused t f) name);
    elsewhere = λ number apart. get_or-set_other table (bucket_count table + tombstone) number None None apart;
    fewer = omega (arith, table_tombstones table after counts, one, count_changed (bucket_at table) (buckets_of after (bucket_count table)) (bucket_count table) tombstone Free change under);
  })
    where
      after : List Content
      after = freed table tombstone under is

      counts : bucket_count (freed table tombstone under is) ≡ bucket_count table
      counts = freed_count table tombstone under is

      change : Changed (bucket_at table) (buckets_of (freed table tombstone under is) (bucket_count table)) tombstone Free
      change = freed_change table tombstone under is

      one : one_tombstone (bucket_at table tombstone) ≡ 1
      one = ap one_tombstone is

  move_keeps : (t : Tidying) → Moves table tombstone t → KeepsNames table t.next
  move_keeps t m = subst (KeepsNames table) (sym m.asks) (record {
    well_formed = table_formed table _ counts
        (moved_formed (bucket_at table) _ (bucket_count table) some formed _ tombstone m.name m.more low under shorter change);
    same = λ other. table_names table _ counts other
        (moved_names (bucket_at table) _ (bucket_count table) some formed _ tombstone m.name m.more low under shorter change other);
    elsewhere = λ number apart. get_or-set_other _ _ number (Some []) None apart.0
        ∙ get_or-set_other table (bucket_count table + tombstone) number (Some m.octets) None apart.1;
    fewer = as_many table tombstone under is _ low m.name m.more m.octets m.is m.has;
  })
    where
      low : up tombstone m.steps (bucket_count table) < bucket_count table
      low = mod-lt _ some

      counts : bucket_count (after table tombstone under is (up tombstone m.steps (bucket_count table)) low m.name m.more m.octets m.is m.has) ≡ bucket_count table
      counts = after_count table tombstone under is _ low m.name m.more m.octets m.is m.has

      shorter : way (home m.name (bucket_count table)) tombstone (bucket_count table) < way (home m.name (bucket_count table)) (up tombstone m.steps (bucket_count table)) (bucket_count table)
      shorter = ltb-true _ _ m.over

      change : Moved (bucket_at table) (buckets_of (after table tombstone under is (up tombstone m.steps (bucket_count table)) low m.name m.more m.octets m.is m.has) (bucket_count table))
          (up tombstone m.steps (bucket_count table)) tombstone m.name m.more
      change = moved table tombstone under is _ low m.name m.more m.octets m.is m.has

nothing_keeps : (table : List Content) → IsWellFormed table → (from : ℕ) (next : TidyAsk) → next ≡ asks.End false from → KeepsNames table next
nothing_keeps table formed from next e =
    subst (KeepsNames table) (sym e) (record { well_formed = formed; same = λ name. refl; elsewhere = λ number apart. refl; fewer = omega arith })

keeps : (table : List Content) (from : ℕ) → 1 ≤ bucket_count table → IsWellFormed table → (t : Tidying) → TidyEnds table from t → KeepsNames table t.next
keeps table from some formed t (finds_none none e) = nothing_keeps table formed _ t.next e
keeps table from some formed t (meets_one steps few none is behind) = by behind
  where
    under : up from steps (bucket_count table) < bucket_count table
    under = mod-lt _ some

    by : Behind table (up from steps (bucket_count table)) t → KeepsNames table t.next
    by (frees f) = free_keeps table some formed (up from steps (bucket_count table)) under is t f
    by (moves m) = move_keeps table some formed (up from steps (bucket_count table)) under is t m
    by (halts s) = nothing_keeps table formed _ t.next s.asks

pub tidies_keep_names : TidiesKeepNames
tidies_keep_names table from some formed = keeps table _ some formed _ (tidies_are_told table from some).ends
