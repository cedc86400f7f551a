-- Over any table a find answers behind a tidy what it answered before.
use Rattle.name_table.proofs.Names.{◌≡◌, ℕ, ◌+◌, ◌-◌, ◌<◌, ◌≤◌, ◌⊎◌, Bool, true, false, List, inl, inr, refl, ap, sym, ◌∙◌, subst, arith, mod-lt, cases_eq, cases_lt, cases_order, ltb-true, bytes_eq-Decides, bytes_eq, home, probed, bucket_count, bucket_at, Content, record_at, Bucket, Free, Tombstone, Entry, Strange, IsPassed, reached, Ask, End, Find}
use Rattle.std.proofs.lemmas.Bool.{lt-ltb}
use Rattle.record_model.specs.declared.names.NameAnswer.TheVariants as answer
use Rattle.name_table.specs.declared.tidying.TidyAsk.{TidyAsk}
use Rattle.name_table.specs.Tidying.{Tidying, up, way, leads_over, with_change}
use Rattle.name_table.specs.Tidies.{Stays, Behind, frees, moves, halts, TidyEnds, finds_none, meets_one, FindsStay}
use Rattle.name_table.proofs.Ring.{same_steps}
use Rattle.name_table.proofs.Changes.{Changed, entries_differ}
use Rattle.name_table.proofs.Runs.{Comes, meets, is_strange, is_free, passes_all, comes_to}
use Rattle.name_table.proofs.FirstLaws.{strange_is_told}
use Rattle.name_table.proofs.MetLaws.{met_is_told, find_missed_told}
use Rattle.name_table.proofs.TidyLaws.{way_is, way_leads, further, buckets_of, Moved, freed, freed_count, freed_change, after, after_count, moved}
use Rattle.name_table.proofs.TidyRuns.{tidies_are_told}

-- the buckets of the first steps are passed
abbrev Passed : (ℕ → Bucket) → ℕ → List ℕ → ℕ → Type 0
Passed f n name steps = (fewer : ℕ) → fewer < steps → IsPassed name (f (probed name n fewer))

-- what a find answers among these buckets
data Finds (f : ℕ → Bucket) (n : ℕ) (name : List ℕ) (next : Ask) : Type 0 where
  own : (steps : ℕ) (value : List ℕ) → steps < n → f (probed name n steps) ≡ Entry name value → Passed f n name steps →
      next ≡ End (answer.Found value) → Finds f n name next
  odd : (steps : ℕ) → steps < n → f (probed name n steps) ≡ Strange → Passed f n name steps →
      next ≡ End (answer.Strange (record_at name n steps)) → Finds f n name next
  free : (steps : ℕ) → steps < n → f (probed name n steps) ≡ Free → Passed f n name steps →
      next ≡ End answer.Nothing → Finds f n name next
  all : Passed f n name n → next ≡ End answer.Nothing → Finds f n name next

from_table : (table : List Content) (name : List ℕ) (next : Ask) → Comes table Find name next → Finds (bucket_at table) (bucket_count table) name next
from_table table name next (meets steps value less is passed e) = own steps value less is passed e
from_table table name next (is_strange steps less strange passed e) = odd steps less strange passed e
from_table table name next (is_free steps tombstone less is passed has e) = free steps less is passed e
from_table table name next (passes_all tombstone passed has e) = all passed e

to_table : (table : List Content) (name : List ℕ) → 1 ≤ bucket_count table → (next : Ask) → Finds (bucket_at table) (bucket_count table) name next → reached table Find name ≡ next
to_table table name some next (own steps value less is passed e) =
    (met_is_told table name value some).1 (record { steps = steps; among = less; own = is; before = passed }) ∙ sym e
to_table table name some next (odd steps less is passed e) =
    (strange_is_told table Find name _ some).1 (record { steps = steps; among = less; is_its = refl; strange = is; before = passed }) ∙ sym e
to_table table name some next (free steps less is passed e) =
    (find_missed_told table name some).1 (record { steps = steps; ends = inr (less, is); before = passed }) ∙ sym e
to_table table name some next (all passed e) =
    (find_missed_told table name some).1 (record { steps = bucket_count table; ends = inl refl; before = passed }) ∙ sym e

-- the same, where the table's buckets are counted as those of another
to_changed : (changed : List Content) (n : ℕ) (name : List ℕ) → bucket_count changed ≡ n → 1 ≤ n → (next : Ask) → Finds (buckets_of changed n) n name next → reached changed Find name ≡ next
to_changed changed n name counts some next finds =
    to_table changed name (omega (arith, counts, some)) next (subst (λ (m : ℕ). Finds (buckets_of changed m) m name next) (sym counts) finds)

-- A bucket at which the probing ends, and at which it doesn't.
entry_tombstone : (name value : List ℕ) (b : Bucket) → b ≡ Tombstone → b ≡ Entry name value → ⊥
entry_tombstone name value b e h = cc

strange_tombstone : (b : Bucket) → b ≡ Tombstone → b ≡ Strange → ⊥
strange_tombstone b e h = cc

free_tombstone : (b : Bucket) → b ≡ Tombstone → b ≡ Free → ⊥
free_tombstone b e h = cc

passed_free : (name : List ℕ) (b : Bucket) → IsPassed name b → b ≡ Free → ⊥
passed_free name b passed e = subst (IsPassed name) e passed

passed_own : (name value : List ℕ) (b : Bucket) → IsPassed name b → b ≡ Entry name value → ⊥
passed_own name value b passed e = subst (IsPassed name) e passed refl

false_true : false ≡ true → ⊥
false_true e = cc

-- Over a tombstone that is so many steps from home.
module _ (f : ℕ → Bucket) (n : ℕ) (some : 0 < n) (tombstone : ℕ) (under : tombstone < n) (was : f tombstone ≡ Tombstone) (name : List ℕ) where
  home_low : home name n < n
  home_low = mod-lt _ some

  at_low : way (home name n) tombstone n < n
  at_low = mod-lt _ some

  at_is : probed name n (way (home name n) tombstone n) ≡ tombstone
  at_is = way_leads n (home name n) tombstone home_low under

  only_there : (steps : ℕ) → steps < n → probed name n steps ≡ tombstone → steps ≡ way (home name n) tombstone n
  only_there steps few e = sym (way_is n (home name n) steps home_low few) ∙ ap (λ (k : ℕ). way (home name n) k n) e

  ups : (j : ℕ) → j < n → up tombstone j n ≡ probed name n (way (home name n) tombstone n + j)
  ups j jn = ap (λ (k : ℕ). up k j n) (sym at_is) ∙ further n (home name n) (way (home name n) tombstone n) j jn

  -- the way to what lies further leads over it
  over_it : (steps : ℕ) → way (home name n) tombstone n < steps → steps < n → leads_over name n tombstone (probed name n steps) ≡ true
  over_it steps more few =
      let whole : way (home name n) (probed name n steps) n ≡ steps = way_is n (home name n) steps home_low few in
      lt-ltb _ _ (omega (arith, whole, more))

  -- a bucket further up that stays isn't one at which the probing ends
  stays_own : (steps : ℕ) (value : List ℕ) → way (home name n) tombstone n < steps → steps < n → Stays n tombstone (probed name n steps) (f (probed name n steps)) → f (probed name n steps) ≡ Entry name value → ⊥
  stays_own steps value more few stay e = false_true (sym (subst (Stays n tombstone (probed name n steps)) e stay) ∙ over_it steps more few)

  stays_odd : (steps : ℕ) → Stays n tombstone (probed name n steps) (f (probed name n steps)) → f (probed name n steps) ≡ Strange → ⊥
  stays_odd steps stay e = subst (Stays n tombstone (probed name n steps)) e stay

  stays_free : (steps : ℕ) → Stays n tombstone (probed name n steps) (f (probed name n steps)) → f (probed name n steps) ≡ Free → ⊥
  stays_free steps stay e = subst (Stays n tombstone (probed name n steps)) e stay

  -- the buckets behind it stay, of fewer steps than so many
  module _ (many : ℕ) (stay : (fewer : ℕ) → 1 ≤ fewer → fewer < many → Stays n tombstone (up tombstone fewer n) (f (up tombstone fewer n))) where
    stay_at : (steps : ℕ) → way (home name n) tombstone n < steps → steps < way (home name n) tombstone n + many → steps < n → Stays n tombstone (probed name n steps) (f (probed name n steps))
    stay_at steps more less few =
        let on : up tombstone (steps - way (home name n) tombstone n) n ≡ probed name n steps =
        ups (steps - way (home name n) tombstone n) (omega arith) ∙ ap (probed name n) (omega (arith, more)) in
        subst (λ (k : ℕ). Stays n tombstone k (f k)) on (stay (steps - way (home name n) tombstone n) (omega arith) (omega arith))

  -- It becomes free: up to the next free bucket, or all around, the others stay.
  module _ (g : ℕ → Bucket) (change : Changed f g tombstone Free) (many : ℕ)
      (stay : (fewer : ℕ) → 1 ≤ fewer → fewer < many → Stays n tombstone (up tombstone fewer n) (f (up tombstone fewer n)))
      (ends : (many ≡ n) ⊎ ((many < n) × (f (up tombstone many n) ≡ Free))) where
    same_before : (steps : ℕ) → steps < way (home name n) tombstone n → g (probed name n steps) ≡ f (probed name n steps)
    same_before steps less = change.elsewhere _ (λ e. absurd (omega (arith, less, only_there steps (omega (arith, less, at_low)) e)))

    passed_before : (steps : ℕ) → steps ≤ way (home name n) tombstone n → Passed f n name steps → Passed g n name steps
    passed_before steps few passed fewer less = subst (IsPassed name) (sym (same_before fewer (omega arith))) (passed fewer less)

    -- what lies further, where all before it is passed, stays or is free
    beyond : (steps : ℕ) → way (home name n) tombstone n < steps → steps < n → Passed f n name steps →
        (f (probed name n steps) ≡ Free) ⊎ Stays n tombstone (probed name n steps) (f (probed name n steps))
    beyond steps more few passed = elim (cases_lt steps (way (home name n) tombstone n + many)) [
      | inl early ↦ inr (stay_at many stay steps more early few)
      | inr late ↦ elim ends [
        | inl around ↦ absurd (omega (arith, around, late, few, more))
        | inr stop ↦
            let is : f (probed name n (way (home name n) tombstone n + many)) ≡ Free = ap f (sym (ups many stop.0)) ∙ stop.1 in
            elim (cases_eq (way (home name n) tombstone n + many) steps) [
              | inl same ↦ inl (subst (λ (k : ℕ). f (probed name n k) ≡ Free) same is)
              | inr apart ↦ absurd (passed_free name _ (passed (way (home name n) tombstone n + many) (omega (arith, late, apart))) is)
            ]
      ]
    ]

    -- the probing ends at it where it came to it
    stops : (next : Ask) → Passed f n name (way (home name n) tombstone n) → next ≡ End answer.Nothing → Finds g n name next
    stops next passed e = free (way (home name n) tombstone n) at_low (ap g at_is ∙ change.here) (passed_before _ (omega arith) passed) e

    sooner : (more steps : ℕ) → steps ≤ more → Passed f n name more → Passed f n name steps
    sooner more steps few passed fewer less = passed fewer (omega arith)

    own_free : (value : List ℕ) (b : Bucket) → b ≡ Entry name value → b ≡ Free → ⊥
    own_free value b e h = cc

    odd_free : (b : Bucket) → b ≡ Strange → b ≡ Free → ⊥
    odd_free b e h = cc

    freed_finds : (next : Ask) → Finds f n name next → Finds g n name next
    freed_finds next (own steps value less is passed e) = elim (cases_order steps (way (home name n) tombstone n)) [
      | inl same ↦ absurd (entry_tombstone name value _ was (ap f (sym at_is) ∙ ap (λ (k : ℕ). f (probed name n k)) (sym same) ∙ is))
      | inr apart ↦ elim apart [
        | inl before ↦ own steps value less (same_before steps before ∙ is) (passed_before steps (omega arith) passed) e
        | inr behind ↦ elim (beyond steps behind less passed) [
          | inl stop ↦ absurd (own_free value _ is stop)
          | inr stay ↦ absurd (stays_own steps value behind less stay is)
        ]
      ]
    ]
    freed_finds next (odd steps less is passed e) = elim (cases_order steps (way (home name n) tombstone n)) [
      | inl same ↦ absurd (strange_tombstone _ was (ap f (sym at_is) ∙ ap (λ (k : ℕ). f (probed name n k)) (sym same) ∙ is))
      | inr apart ↦ elim apart [
        | inl before ↦ odd steps less (same_before steps before ∙ is) (passed_before steps (omega arith) passed) e
        | inr behind ↦ elim (beyond steps behind less passed) [
          | inl stop ↦ absurd (odd_free _ is stop)
          | inr stay ↦ absurd (stays_odd steps stay is)
        ]
      ]
    ]
    freed_finds next (free steps less is passed e) = elim (cases_lt steps (way (home name n) tombstone n)) [
      | inl before ↦ free steps less (same_before steps before ∙ is) (passed_before steps (omega arith) passed) e
      | inr behind ↦ stops next (sooner steps _ behind passed) e
    ]
    freed_finds next (all passed e) = stops next (sooner n _ (omega (arith, at_low)) passed) e

-- An entry moves.
module _ (f g : ℕ → Bucket) (n : ℕ) (some : 0 < n) (place tombstone many : ℕ) (own_name more : List ℕ) (low : place < n) (under : tombstone < n)
    (moved : Moved f g place tombstone own_name more) (least : 1 ≤ many) (few : many < n) (leads : place ≡ up tombstone many n)
    (over : way (home own_name n) tombstone n < way (home own_name n) place n)
    (stay : (fewer : ℕ) → 1 ≤ fewer → fewer < many → Stays n tombstone (up tombstone fewer n) (f (up tombstone fewer n))) where
  -- For another name each bucket is passed as before.
  other_passed : (name : List ℕ) → (own_name ≡ name → ⊥) → (k : ℕ) → IsPassed name (f k) → IsPassed name (g k)
  other_passed name ne k passed = elim (cases_eq k tombstone) [
    | inl same ↦ subst (IsPassed name) (sym (ap g same ∙ moved.there)) ne
    | inr apart ↦ elim (cases_eq k place) [
      | inl own_place ↦ subst (IsPassed name) (sym (ap g own_place ∙ moved.here)) tt
      | inr neither ↦ subst (IsPassed name) (sym (moved.elsewhere k neither apart)) passed
    ]
  ]

  other_same : (k : ℕ) (b : Bucket) → f k ≡ b → (Tombstone ≡ b → ⊥) → (Entry own_name more ≡ b → ⊥) → g k ≡ b
  other_same k b e gone neither = elim (cases_eq k tombstone) [
    | inl same ↦ absurd (gone (sym moved.was ∙ ap f (sym same) ∙ e))
    | inr apart ↦ elim (cases_eq k place) [
      | inl own_place ↦ absurd (neither (sym moved.is ∙ ap f (sym own_place) ∙ e))
      | inr far ↦ moved.elsewhere k far apart ∙ e
    ]
  ]

  other_finds : (name : List ℕ) → (own_name ≡ name → ⊥) → (next : Ask) → Finds f n name next → Finds g n name next
  other_finds name ne next (own steps value less is passed e) =
      own steps value less (other_same _ _ is (λ h. cc) (λ h. ne (entries_differ own_name name more value h))) (λ fewer before. other_passed name ne _ (passed fewer before)) e
  other_finds name ne next (odd steps less is passed e) =
      odd steps less (other_same _ _ is (λ h. cc) (λ h. cc)) (λ fewer before. other_passed name ne _ (passed fewer before)) e
  other_finds name ne next (free steps less is passed e) =
      free steps less (other_same _ _ is (λ h. cc) (λ h. cc)) (λ fewer before. other_passed name ne _ (passed fewer before)) e
  other_finds name ne next (all passed e) = all (λ fewer before. other_passed name ne _ (passed fewer before)) e

  -- Its own probing came over the tombstone to it.
  own_low : home own_name n < n
  own_low = mod-lt _ some

  there_low : way (home own_name n) place n < n
  there_low = mod-lt _ some

  there_is : probed own_name n (way (home own_name n) place n) ≡ place
  there_is = way_leads n (home own_name n) place own_low low

  -- as many steps behind the tombstone
  there_steps : way (home own_name n) place n ≡ way (home own_name n) tombstone n + many
  there_steps =
      let gap : way (home own_name n) place n - way (home own_name n) tombstone n < n = omega (arith, there_low) in
      let on : up tombstone (way (home own_name n) place n - way (home own_name n) tombstone n) n ≡ up tombstone many n =
      ups f n some tombstone under moved.was own_name _ gap ∙ ap (probed own_name n) (omega (arith, over)) ∙ there_is ∙ leads in
      let same : way (home own_name n) place n - way (home own_name n) tombstone n ≡ many = same_steps n tombstone _ many under gap few on in
      omega (arith, same, over)

  own_before : (steps : ℕ) → steps < way (home own_name n) tombstone n → g (probed own_name n steps) ≡ f (probed own_name n steps)
  own_before steps less = moved.elsewhere _
      (λ e. absurd (omega (arith, less, over, there_low, sym (way_is n (home own_name n) steps own_low (omega (arith, less, over, there_low))) ∙ ap (λ (k : ℕ). way (home own_name n) k n) e)))
      (λ e. absurd (omega (arith, less, only_there f n some tombstone under moved.was own_name steps (omega (arith, less, over, there_low)) e)))

  own_passed : (steps : ℕ) → steps ≤ way (home own_name n) tombstone n → Passed f n own_name steps → Passed g n own_name steps
  own_passed steps small passed fewer less = subst (IsPassed own_name) (sym (own_before fewer (omega arith))) (passed fewer less)

  own_stay : (steps : ℕ) → way (home own_name n) tombstone n < steps → steps < way (home own_name n) place n → Stays n tombstone (probed own_name n steps) (f (probed own_name n steps))
  own_stay steps larger less = stay_at f n some tombstone under moved.was own_name many stay steps larger (omega (arith, less, there_steps)) (omega (arith, less, there_low))

  -- the probing doesn't pass it
  never : (steps : ℕ) → way (home own_name n) place n < steps → Passed f n own_name steps → ⊥
  never steps less passed = passed_own own_name more _ (passed _ less) (ap f there_is ∙ moved.is)

  -- at the tombstone, and where it was
  at_tombstone : (steps : ℕ) → steps ≡ way (home own_name n) tombstone n → f (probed own_name n steps) ≡ Tombstone
  at_tombstone steps same = ap (λ (k : ℕ). f (probed own_name n k)) same ∙ ap f (at_is f n some tombstone under moved.was own_name) ∙ moved.was

  at_place : (steps : ℕ) → steps ≡ way (home own_name n) place n → f (probed own_name n steps) ≡ Entry own_name more
  at_place steps same = ap (λ (k : ℕ). f (probed own_name n k)) same ∙ ap f there_is ∙ moved.is

  values_same : (value : List ℕ) (b : Bucket) → b ≡ Entry own_name more → b ≡ Entry own_name value → more ≡ value
  values_same value b e h = cc

  entry_odd : (b : Bucket) → b ≡ Entry own_name more → b ≡ Strange → ⊥
  entry_odd b e h = cc

  entry_free : (b : Bucket) → b ≡ Entry own_name more → b ≡ Free → ⊥
  entry_free b e h = cc

  own_finds : (next : Ask) → Finds f n own_name next → Finds g n own_name next
  own_finds next (own steps value less is passed e) = elim (cases_order steps (way (home own_name n) tombstone n)) [
    | inl same ↦ absurd (entry_tombstone own_name value _ (at_tombstone steps same) is)
    | inr apart ↦ elim apart [
      | inl before ↦ own steps value less (own_before steps before ∙ is) (own_passed steps (omega arith) passed) e
      | inr behind ↦ elim (cases_order steps (way (home own_name n) place n)) [
        | inl there ↦
            own (way (home own_name n) tombstone n) more (omega (arith, over, there_low)) (ap g (at_is f n some tombstone under moved.was own_name) ∙ moved.there)
            (own_passed _ (omega arith) (λ fewer before. passed fewer (omega (arith, before, behind))))
            (e ∙ ap (λ (l : List ℕ). End (answer.Found l)) (sym (values_same value _ (at_place steps there) is)))
        | inr far ↦ elim far [
          | inl between ↦ absurd (stays_own f n some tombstone under moved.was own_name steps value behind less (own_stay steps behind between) is)
          | inr further_on ↦ absurd (never steps further_on passed)
        ]
      ]
    ]
  ]
  own_finds next (odd steps less is passed e) = elim (cases_order steps (way (home own_name n) tombstone n)) [
    | inl same ↦ absurd (strange_tombstone _ (at_tombstone steps same) is)
    | inr apart ↦ elim apart [
      | inl before ↦ odd steps less (own_before steps before ∙ is) (own_passed steps (omega arith) passed) e
      | inr behind ↦ elim (cases_order steps (way (home own_name n) place n)) [
        | inl there ↦ absurd (entry_odd _ (at_place steps there) is)
        | inr far ↦ elim far [
          | inl between ↦ absurd (stays_odd f n some tombstone under moved.was own_name steps (own_stay steps behind between) is)
          | inr further_on ↦ absurd (never steps further_on passed)
        ]
      ]
    ]
  ]
  own_finds next (free steps less is passed e) = elim (cases_order steps (way (home own_name n) tombstone n)) [
    | inl same ↦ absurd (free_tombstone _ (at_tombstone steps same) is)
    | inr apart ↦ elim apart [
      | inl before ↦ free steps less (own_before steps before ∙ is) (own_passed steps (omega arith) passed) e
      | inr behind ↦ elim (cases_order steps (way (home own_name n) place n)) [
        | inl there ↦ absurd (entry_free _ (at_place steps there) is)
        | inr far ↦ elim far [
          | inl between ↦ absurd (stays_free f n some tombstone under moved.was own_name steps (own_stay steps behind between) is)
          | inr further_on ↦ absurd (never steps further_on passed)
        ]
      ]
    ]
  ]
  own_finds next (all passed e) = absurd (never n there_low passed)

  moved_finds : (name : List ℕ) (next : Ask) → Finds f n name next → Finds g n name next
  moved_finds name next finds = by (bytes_eq own_name name) refl
    where
      by : (test : Bool) → bytes_eq own_name name ≡ test → Finds g n name next
      by true e =
          let is : own_name ≡ name = (bytes_eq-Decides own_name name).0 e in
          subst (λ (l : List ℕ). Finds g n l next) is (own_finds next (subst (λ (l : List ℕ). Finds f n l next) (sym is) finds))
      by false e = other_finds name (λ h. false_true (sym e ∙ (bytes_eq-Decides own_name name).1 h)) next finds

module _ (table : List Content) (some : 1 ≤ bucket_count table) (name : List ℕ) where
  before : Finds (bucket_at table) (bucket_count table) name (reached table Find name)
  before = from_table table name _ (comes_to table Find name some).comes

  finds_behind : (tombstone : ℕ) → tombstone < bucket_count table → bucket_at table tombstone ≡ Tombstone → (t : Tidying) → Behind table tombstone t →
      reached (with_change t.next table) Find name ≡ reached table Find name
  finds_behind tombstone under is t (frees f) =
      subst (λ (next : TidyAsk). reached (with_change next table) Find name ≡ reached table Find name) (sym f.asks)
      (to_changed (freed table tombstone under is) (bucket_count table) name (freed_count table tombstone under is) some _
      (freed_finds (bucket_at table) (bucket_count table) some tombstone under is name (buckets_of (freed table tombstone under is) (bucket_count table))
      (freed_change table tombstone under is) f.steps f.stay f.ends _ before))
  finds_behind tombstone under is t (moves m) =
      let low : up tombstone m.steps (bucket_count table) < bucket_count table = mod-lt _ some in
      subst (λ (next : TidyAsk). reached (with_change next table) Find name ≡ reached table Find name) (sym m.asks)
      (to_changed (after table tombstone under is (up tombstone m.steps (bucket_count table)) low m.name m.more m.octets m.is m.has) (bucket_count table) name
      (after_count table tombstone under is _ low m.name m.more m.octets m.is m.has) some _
      (moved_finds (bucket_at table) _ (bucket_count table) some (up tombstone m.steps (bucket_count table)) tombstone m.steps m.name m.more low under
      (moved table tombstone under is _ low m.name m.more m.octets m.is m.has) m.some m.few refl (ltb-true _ _ m.over) m.stay name _ before))
  finds_behind tombstone under is t (halts s) =
      ap (λ (next : TidyAsk). reached (with_change next table) Find name) s.asks

  finds_at_end : (from : ℕ) (t : Tidying) → TidyEnds table from t → reached (with_change t.next table) Find name ≡ reached table Find name
  finds_at_end from t (finds_none none e) = ap (λ (next : TidyAsk). reached (with_change next table) Find name) e
  finds_at_end from t (meets_one steps few none is way) = finds_behind (up from steps (bucket_count table)) (mod-lt _ some) is t way

pub finds_stay : FindsStay
finds_stay table from name some = finds_at_end table some name _ _ (tidies_are_told table from some).ends
