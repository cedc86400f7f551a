-- Where a probe comes to over the values of a table.
use Rattle.name_table.proofs.Names.{◌≡◌, ℕ, zero, suc, ◌+◌, ◌<◌, ◌≤◌, Bool, true, false, List, Option, Some, None, refl, ap, sym, ◌∙◌, subst, arith, below_more, ltb-true, ltb-false, bytes_eq-Decides, option_or, nat_lt, if◌then◌else◌, bytes_eq, IsOther, IsPassed, IsRead, probed, bucket_count, bucket_at, Probe, record_at, met, missed, passed_on, after_bucket, told_of, told_times, run_over, Content, Ask, Read, Write, End, Bucket, Free, Tombstone, Entry, Strange, Job, Find, Put, Remove}
use Rattle.record_model.specs.declared.names.NameAnswer.TheVariants as answer

-- the bucket so many steps from home
abbrev pub bucket_on : List Content → List ℕ → ℕ → Bucket
bucket_on table name steps = bucket_at table (probed name (bucket_count table) steps)

-- the buckets of the first steps are passed
abbrev pub ArePassed : List Content → List ℕ → ℕ → Type 0
ArePassed table name steps = (fewer : ℕ) → fewer < steps → IsPassed name (bucket_on table name fewer)

-- one of the first steps comes to the tombstone in this record, or all come to entries of other names
abbrev pub HasTombstone : List Content → List ℕ → ℕ → Option ℕ → Type 0
HasTombstone table name steps None = (fewer : ℕ) → fewer < steps → IsOther name (bucket_on table name fewer)
HasTombstone table name steps (Some number) =
    (at : ℕ) × (at < steps) × (number ≡ record_at name (bucket_count table) at) × (bucket_on table name at ≡ Tombstone)

-- where probing ends, and what comes then
pub data Comes (table : List Content) (job : Job) (name : List ℕ) (next : Ask) : Type 0 where
  meets : (steps : ℕ) (value : List ℕ) → steps < bucket_count table → bucket_on table name steps ≡ Entry name value →
      ArePassed table name steps → next ≡ met job name (record_at name (bucket_count table) steps) value → Comes table job name next
  is_strange : (steps : ℕ) → steps < bucket_count table → bucket_on table name steps ≡ Strange → ArePassed table name steps →
      next ≡ End (answer.Strange (record_at name (bucket_count table) steps)) → Comes table job name next
  is_free : (steps : ℕ) (tombstone : Option ℕ) → steps < bucket_count table → bucket_on table name steps ≡ Free → ArePassed table name steps →
      HasTombstone table name steps tombstone →
      next ≡ missed job name (bucket_count table) (option_or tombstone (Some (record_at name (bucket_count table) steps))) → Comes table job name next
  passes_all : (tombstone : Option ℕ) → ArePassed table name (bucket_count table) → HasTombstone table name (bucket_count table) tombstone →
      next ≡ missed job name (bucket_count table) tombstone → Comes table job name next

-- a probe that has come there, when no more values were told than there are buckets
pub record Ends (table : List Content) (job : Job) (name : List ℕ) (p : Probe) : Type 0 where
  pub comes : Comes table job name p.next
  pub few : p.told ≤ bucket_count table

-- a probe that asks for no read is told no more
pub met_settled : (job : Job) (name : List ℕ) (number : ℕ) (value : List ℕ) → IsRead (met job name number value) → ⊥
met_settled Find name number value h = h
met_settled (Put new) name number value h = h
met_settled Remove name number value h = h

pub missed_settled : (job : Job) (name : List ℕ) (buckets : ℕ) (free : Option ℕ) → IsRead (missed job name buckets free) → ⊥
missed_settled Find name buckets free h = h
missed_settled Remove name buckets free h = h
missed_settled (Put new) name buckets None h = h
missed_settled (Put new) name buckets (Some number) h = h

untold : (table : List Content) (next : Ask) (p : Probe) → (IsRead next → ⊥) → told_of table next p ≡ p
untold table (Read number) p settled = absurd (settled tt)
untold table (Write number value) p settled = refl
untold table (End reached) p settled = refl

stays : (table : List Content) (times : ℕ) (p : Probe) → (IsRead p.next → ⊥) → told_times table times p ≡ p
stays table zero p settled = refl
stays table (suc times) p settled = ap (told_times table times) (untold table p.next p settled) ∙ stays table times p settled

-- the tombstone behind one more step
kept_behind : (table : List Content) (name : List ℕ) (steps : ℕ) (tombstone : Option ℕ) → HasTombstone table name steps tombstone →
    IsOther name (bucket_on table name steps) → HasTombstone table name (steps + 1) tombstone
kept_behind table name steps None has other = below_more (λ fewer. IsOther name (bucket_on table name fewer)) steps has other
kept_behind table name steps (Some number) has other = (has.0, omega arith, has.2, has.3)

first_behind : (table : List Content) (name : List ℕ) (steps : ℕ) (tombstone : Option ℕ) → HasTombstone table name steps tombstone →
    bucket_on table name steps ≡ Tombstone → HasTombstone table name (steps + 1) (option_or tombstone (Some (record_at name (bucket_count table) steps)))
first_behind table name steps None has is = (steps, omega arith, refl, is)
first_behind table name steps (Some number) has is = (has.0, omega arith, has.2, has.3)

-- a probe that was told so many values
abbrev pub at_step : List Content → Job → List ℕ → ℕ → Option ℕ → Probe
at_step table job name steps tombstone = record {
  job = job;
  name = name;
  buckets = bucket_count table;
  told = steps;
  tombstone = tombstone;
  next = Read (record_at name (bucket_count table) steps);
}

-- the same, with the last value counted and what came next
abbrev pub counted : List Content → Job → List ℕ → ℕ → Option ℕ → Ask → Probe
counted table job name steps tombstone next = record {
  job = job;
  name = name;
  buckets = bucket_count table;
  told = steps + 1;
  tombstone = tombstone;
  next = next;
}

-- One more value, in front of the rest of the run.
module _ (table : List Content) (job : Job) (name : List ℕ) (times steps : ℕ) (sum : steps + suc times ≡ bucket_count table)
    (rest : (tombstone : Option ℕ) → 0 < times → ArePassed table name (steps + 1) → HasTombstone table name (steps + 1) tombstone →
    Ends table job name (told_times table times (at_step table job name (steps + 1) tombstone))) where
  -- the probe asks for no read any more
  ended : (tombstone : Option ℕ) (next : Ask) → (IsRead next → ⊥) → Comes table job name next →
      Ends table job name (told_times table times (counted table job name steps tombstone next))
  ended tombstone next settled comes =
      subst (Ends table job name) (sym (stays table times (counted table job name steps tombstone next) settled)) (record { comes = comes; few = omega arith })

  -- it goes on behind this bucket, or has passed them all
  goes_on : (tombstone : Option ℕ) (test : Bool) → nat_lt (steps + 1) (bucket_count table) ≡ test → ArePassed table name (steps + 1) →
      HasTombstone table name (steps + 1) tombstone →
      Ends table job name (told_times table times (counted table job name steps tombstone
      (if test then Read (record_at name (bucket_count table) (steps + 1)) else missed job name (bucket_count table) tombstone)))
  goes_on tombstone true e passed has =
      let less : steps + 1 < bucket_count table = ltb-true (steps + 1) (bucket_count table) e in
      rest tombstone (omega arith) passed has
  goes_on tombstone false e passed has =
      let over : bucket_count table ≤ steps + 1 = ltb-false (steps + 1) (bucket_count table) e in
      let all : steps + 1 ≡ bucket_count table = omega arith in
      ended tombstone (missed job name (bucket_count table) tombstone) (missed_settled job name (bucket_count table) tombstone)
      (passes_all tombstone (subst (ArePassed table name) all passed) (subst (λ (k : ℕ). HasTombstone table name k tombstone) all has) refl)

  module _ (passed : ArePassed table name steps) (tombstone : Option ℕ) (has : HasTombstone table name steps tombstone) where
    further : IsPassed name (bucket_on table name steps) → ArePassed table name (steps + 1)
    further here = below_more (λ fewer. IsPassed name (bucket_on table name fewer)) steps passed here

    less : steps < bucket_count table
    less = omega arith

    -- an entry, of the name or of another one
    at_entry : (other value : List ℕ) → bucket_on table name steps ≡ Entry other value → (test : Bool) → bytes_eq other name ≡ test →
        Ends table job name (told_times table times (if test
        then counted table job name steps tombstone (met job name (record_at name (bucket_count table) steps) value)
        else passed_on (counted table job name steps tombstone (Read (record_at name (bucket_count table) steps)))))
    at_entry other value is true e =
        let own : bucket_on table name steps ≡ Entry name value = is ∙ ap (λ (l : List ℕ). Entry l value) ((bytes_eq-Decides other name).0 e) in
        ended tombstone (met job name (record_at name (bucket_count table) steps) value) (met_settled job name _ value)
        (meets steps value less own passed refl)
    at_entry other value is false e =
        let ne : other ≡ name → ⊥ = λ (h : other ≡ name). absurd (both (sym e ∙ (bytes_eq-Decides other name).1 h)) in
        goes_on tombstone (nat_lt (steps + 1) (bucket_count table)) refl (further (subst (IsPassed name) (sym is) ne))
        (kept_behind table name steps tombstone has (subst (IsOther name) (sym is) ne))
      where
        both : false ≡ true → ⊥
        both e = cc

    at_bucket : (b : Bucket) → bucket_on table name steps ≡ b →
        Ends table job name (told_times table times (after_bucket
        (counted table job name steps tombstone (Read (record_at name (bucket_count table) steps))) (record_at name (bucket_count table) steps) b))
    at_bucket Free is =
        ended tombstone (missed job name (bucket_count table) (option_or tombstone (Some (record_at name (bucket_count table) steps))))
        (missed_settled job name (bucket_count table) _) (is_free steps tombstone less is passed has refl)
    at_bucket Tombstone is =
        goes_on (option_or tombstone (Some (record_at name (bucket_count table) steps))) (nat_lt (steps + 1) (bucket_count table)) refl
        (further (subst (IsPassed name) (sym is) tt)) (first_behind table name steps tombstone has is)
    at_bucket (Entry other value) is = at_entry other value is (bytes_eq other name) refl
    at_bucket Strange is =
        ended tombstone (End (answer.Strange (record_at name (bucket_count table) steps))) (λ h. h) (is_strange steps less is passed refl)

runs : (table : List Content) (job : Job) (name : List ℕ) (times steps : ℕ) → steps + times ≡ bucket_count table → 0 < times →
    ArePassed table name steps → (tombstone : Option ℕ) → HasTombstone table name steps tombstone →
    Ends table job name (told_times table times (at_step table job name steps tombstone))
runs table job name zero steps sum some passed tombstone has = absurd (omega arith)
runs table job name (suc times) steps sum some passed tombstone has =
    at_bucket table job name times steps sum
    (λ later more further own. runs table job name times (steps + 1) (omega arith) more further later own)
    passed tombstone has (bucket_on table name steps) refl

pub comes_to : (table : List Content) (job : Job) (name : List ℕ) → 1 ≤ bucket_count table → Ends table job name (run_over table job name)
comes_to table job name some =
    runs table job name (bucket_count table) 0 (omega arith) (omega arith) (λ fewer less. absurd (omega arith)) None (λ fewer less. absurd (omega arith))
