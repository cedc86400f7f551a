-- Where a tidy comes to over the values of a table.
use Rattle.name_table.proofs.Names.{◌≡◌, ℕ, zero, suc, ◌+◌, ◌<◌, ◌≤◌, ◌%◌, Bool, true, false, List, Some, None, inl, inr, refl, ap, sym, ◌∙◌, subst, arith, below_more, cases_lt, ltb-true, ltb-false, nat_lt, if◌then◌else◌, bucket_of, bucket_count, Content, content_at, Bucket, Free, Tombstone, Entry, Strange}
use Rattle.std.proofs.Math.Nat.{min-le_left}
use Rattle.name_table.specs.declared.tidying.TidyAsk.{TidyAsk}
use Rattle.name_table.specs.declared.tidying.TidyAsk.TheVariants as asks
use Rattle.name_table.specs.Tidying.{Tidying, tidy_over, up, looks, tidy_ask, tidy_changed, leads_over, look_on, read_on, octets_in, after_looked, after_behind, asking, tidy_told_of, tidy_told_times, most_reads, AsksRead}
use Rattle.name_table.specs.Tidies.{bucket_up, HasNoTombstone, Stays, AllStay, HasDone, Behind, frees, moves, halts, TidyEnds, finds_none, meets_one, TidiesAreTold}

-- a tidy that asks for no read is told no more
untold : (table : List Content) (next : TidyAsk) (t : Tidying) → (AsksRead next → ⊥) → tidy_told_of table next t ≡ t
untold table (asks.Read number) t settled = absurd (settled tt)
untold table (asks.Move entry tombstone octets) t settled = refl
untold table (asks.Free number) t settled = refl
untold table (asks.End changed from) t settled = refl

stays : (table : List Content) (times : ℕ) (t : Tidying) → (AsksRead t.next → ⊥) → tidy_told_times table times t ≡ t
stays table zero t settled = refl
stays table (suc times) t settled = ap (tidy_told_times table times) (untold table t.next t settled) ∙ stays table times t settled

-- a tidy of this table, so many steps from there
abbrev at_step : List Content → ℕ → ℕ → Bool → TidyAsk → Tidying
at_step table from steps behind next = record { buckets = bucket_count table; from = from; steps = steps; behind = behind; next = next }

-- what it comes to
abbrev outcome : List Content → ℕ → Tidying → Tidying
outcome table times t = tidy_told_times table times t

settled_outcome : (table : List Content) (times from steps : ℕ) (behind : Bool) (next : TidyAsk) → (AsksRead next → ⊥) →
    (outcome table times (at_step table from steps behind next)).next ≡ next
settled_outcome table times from steps behind next settled =
    ap (λ (t : Tidying). t.next) (stays table times (at_step table from steps behind next) settled)

settled_done : (table : List Content) (times tombstone steps : ℕ) (next : TidyAsk) → (AsksRead next → ⊥) →
    HasDone table tombstone (outcome table times (at_step table tombstone steps true next))
settled_done table times tombstone steps next settled =
    ap (λ (t : Tidying). tidy_ask (tidy_changed t)) (stays table times (at_step table tombstone steps true next) settled)

has_octets : (value : Content) (name more : List ℕ) → bucket_of value ≡ Entry name more → value ≡ Some (octets_in value)
has_octets None name more e = absurd cc
has_octets (Some octets) name more e = refl

-- Behind the tombstone.
module _ (table : List Content) (tombstone : ℕ) where
  abbrev value_up : ℕ → Content
  value_up steps = content_at table (bucket_count table + up tombstone steps (bucket_count table))

  one_more : (steps : ℕ) → AllStay table tombstone steps →
      Stays (bucket_count table) tombstone (up tombstone steps (bucket_count table)) (bucket_up table tombstone steps) → AllStay table tombstone (steps + 1)
  one_more steps stay here fewer some less = elim (cases_lt fewer steps) [
    | inl under ↦ stay fewer some under
    | inr over ↦
        let same : steps ≡ fewer = omega arith in
        subst (λ (k : ℕ). Stays (bucket_count table) tombstone (up tombstone k (bucket_count table)) (bucket_up table tombstone k)) same here
  ]

  -- it reads on, or has come around
  reads_on : (times steps : ℕ) → 1 ≤ steps → steps ≤ bucket_count table → AllStay table tombstone steps →
      (steps < bucket_count table → Behind table tombstone (outcome table times (at_step table tombstone steps true (asks.Read (bucket_count table + up tombstone steps (bucket_count table)))))) →
      (test : Bool) → nat_lt steps (bucket_count table) ≡ test →
      Behind table tombstone (outcome table times (at_step table tombstone steps true
      (if test then asks.Read (bucket_count table + up tombstone steps (bucket_count table)) else asks.Free (bucket_count table + tombstone))))
  reads_on times steps some few stay rest true e = rest (ltb-true steps (bucket_count table) e)
  reads_on times steps some few stay rest false e =
      let over : bucket_count table ≤ steps = ltb-false steps (bucket_count table) e in
      frees (record {
        steps = steps;
        some = some;
        stay = stay;
        ends = inl (omega arith);
        asks = settled_outcome table times tombstone steps true (asks.Free (bucket_count table + tombstone)) (λ h. h);
        done = settled_done table times tombstone steps (asks.Free (bucket_count table + tombstone)) (λ h. h);
      })

  -- one more value
  module _ (times steps : ℕ) (some : 1 ≤ steps) (few : steps < bucket_count table) (stay : AllStay table tombstone steps)
      (rest : AllStay table tombstone (steps + 1) → steps + 1 < bucket_count table →
      Behind table tombstone (outcome table times (at_step table tombstone (steps + 1) true (asks.Read (bucket_count table + up tombstone (steps + 1) (bucket_count table)))))) where
    abbrev here : Tidying
    here = at_step table tombstone steps true (asks.Read (bucket_count table + up tombstone steps (bucket_count table)))

    goes_on : Stays (bucket_count table) tombstone (up tombstone steps (bucket_count table)) (bucket_up table tombstone steps) →
        Behind table tombstone (outcome table times (at_step table tombstone (steps + 1) true (read_on (bucket_count table) tombstone (steps + 1))))
    goes_on own =
        reads_on times (steps + 1) (omega arith) (omega arith) (one_more steps stay own) (rest (one_more steps stay own)) (nat_lt (steps + 1) (bucket_count table)) refl

    at_entry : (name more : List ℕ) → bucket_up table tombstone steps ≡ Entry name more → (test : Bool) →
        leads_over name (bucket_count table) tombstone (up tombstone steps (bucket_count table)) ≡ test →
        Behind table tombstone (outcome table times (if test
        then asking here (asks.Move (bucket_count table + up tombstone steps (bucket_count table)) (bucket_count table + tombstone) (octets_in (value_up steps)))
        else at_step table tombstone (steps + 1) true (read_on (bucket_count table) tombstone (steps + 1))))
    at_entry name more is true over = moves (record {
      steps = steps;
      some = some;
      few = few;
      stay = stay;
      name = name;
      more = more;
      octets = octets_in (value_up steps);
      is = is;
      has = has_octets (value_up steps) name more is;
      over = over;
      asks = settled_outcome table times tombstone steps true _ (λ h. h);
      done = settled_done table times tombstone steps _ (λ h. h);
    })
    at_entry name more is false over =
        goes_on (subst (Stays (bucket_count table) tombstone (up tombstone steps (bucket_count table))) (sym is) over)

    at_bucket : (b : Bucket) → bucket_up table tombstone steps ≡ b →
        Behind table tombstone (outcome table times (after_behind here (octets_in (value_up steps)) b))
    at_bucket Free is = frees (record {
      steps = steps;
      some = some;
      stay = stay;
      ends = inr (few, is);
      asks = settled_outcome table times tombstone steps true _ (λ h. h);
      done = settled_done table times tombstone steps _ (λ h. h);
    })
    at_bucket Tombstone is = goes_on (subst (Stays (bucket_count table) tombstone (up tombstone steps (bucket_count table))) (sym is) tt)
    at_bucket (Entry name more) is =
        at_entry name more is (leads_over name (bucket_count table) tombstone (up tombstone steps (bucket_count table))) refl
    at_bucket Strange is = halts (record {
      steps = steps;
      some = some;
      few = few;
      stay = stay;
      is = is;
      asks = settled_outcome table times tombstone steps true _ (λ h. h);
    })

  runs_behind : (times steps : ℕ) → 1 ≤ steps → steps < bucket_count table → bucket_count table ≤ steps + times → AllStay table tombstone steps →
      Behind table tombstone (outcome table times (at_step table tombstone steps true (asks.Read (bucket_count table + up tombstone steps (bucket_count table)))))
  runs_behind zero steps some few sum stay = absurd (omega arith)
  runs_behind (suc times) steps some few sum stay =
      at_bucket times steps some few stay (λ more less. runs_behind times (steps + 1) (omega arith) less (omega arith) more) (bucket_up table tombstone steps) refl

  behind : (times : ℕ) → 1 ≤ bucket_count table → bucket_count table ≤ 1 + times →
      Behind table tombstone (outcome table times (at_step table tombstone 1 true (read_on (bucket_count table) tombstone 1)))
  behind times some sum =
      reads_on times 1 (omega arith) some none (λ less. runs_behind times 1 (omega arith) less sum none) (nat_lt 1 (bucket_count table)) refl
    where
      none : AllStay table tombstone 1
      none fewer least less = absurd (omega arith)

-- Looking for it.
module _ (table : List Content) (from : ℕ) (some : 1 ≤ bucket_count table) where
  looks_on : (times steps : ℕ) → steps ≤ looks (bucket_count table) → HasNoTombstone table from steps →
      (steps < looks (bucket_count table) → TidyEnds table from (outcome table times (at_step table from steps false (asks.Read (bucket_count table + up from steps (bucket_count table)))))) →
      (test : Bool) → nat_lt steps (looks (bucket_count table)) ≡ test →
      TidyEnds table from (outcome table times (at_step table from steps false
      (if test then asks.Read (bucket_count table + up from steps (bucket_count table)) else asks.End false (up from steps (bucket_count table)))))
  looks_on times steps few none rest true e = rest (ltb-true steps (looks (bucket_count table)) e)
  looks_on times steps few none rest false e =
      let over : looks (bucket_count table) ≤ steps = ltb-false steps (looks (bucket_count table)) e in
      let all : steps ≡ looks (bucket_count table) = omega arith in
      finds_none (subst (HasNoTombstone table from) all none)
      (settled_outcome table times from steps false (asks.End false (up from steps (bucket_count table))) (λ h. h)
      ∙ ap (λ (k : ℕ). asks.End false (up from k (bucket_count table))) all)

  module _ (times steps : ℕ) (few : steps < looks (bucket_count table)) (sum : bucket_count table ≤ 1 + times) (none : HasNoTombstone table from steps)
      (rest : HasNoTombstone table from (steps + 1) → steps + 1 < looks (bucket_count table) →
      TidyEnds table from (outcome table times (at_step table from (steps + 1) false (asks.Read (bucket_count table + up from (steps + 1) (bucket_count table)))))) where
    no_more : (b : Bucket) → bucket_up table from steps ≡ b → (b ≡ Tombstone → ⊥) →
        TidyEnds table from (outcome table times (at_step table from (steps + 1) false (look_on (bucket_count table) from (steps + 1))))
    no_more b is other =
        let still : HasNoTombstone table from (steps + 1) =
        below_more (λ fewer. bucket_up table from fewer ≡ Tombstone → ⊥) steps none (λ e. other (sym is ∙ e)) in
        looks_on times (steps + 1) (omega arith) still (rest still) (nat_lt (steps + 1) (looks (bucket_count table))) refl

    look_at : (b : Bucket) → bucket_up table from steps ≡ b →
        TidyEnds table from (outcome table times (after_looked (at_step table from steps false (asks.Read (bucket_count table + up from steps (bucket_count table)))) b))
    look_at Free is = no_more Free is (λ e. cc)
    look_at Tombstone is = meets_one steps few none is (behind table (up from steps (bucket_count table)) times some sum)
    look_at (Entry name more) is = no_more (Entry name more) is (λ e. cc)
    look_at Strange is = no_more Strange is (λ e. cc)

  runs : (times steps : ℕ) → steps < looks (bucket_count table) → looks (bucket_count table) + bucket_count table ≤ steps + times + 1 →
      HasNoTombstone table from steps →
      TidyEnds table from (outcome table times (at_step table from steps false (asks.Read (bucket_count table + up from steps (bucket_count table)))))
  runs zero steps few sum none = absurd (omega arith)
  runs (suc times) steps few sum none =
      look_at times steps few (omega arith) none (λ still less. runs times (steps + 1) less (omega arith) still) (bucket_up table from steps) refl

behind_settled : (table : List Content) (tombstone : ℕ) (t : Tidying) → Behind table tombstone t → AsksRead t.next → ⊥
behind_settled table tombstone t (frees f) h = subst AsksRead f.asks h
behind_settled table tombstone t (moves m) h = subst AsksRead m.asks h
behind_settled table tombstone t (halts s) h = subst AsksRead s.asks h

settled : (table : List Content) (from : ℕ) (t : Tidying) → TidyEnds table from t → AsksRead t.next → ⊥
settled table from t (finds_none none e) h = subst AsksRead e h
settled table from t (meets_one steps few none is way) h = behind_settled table _ t way h

pub tidies_are_told : TidiesAreTold
tidies_are_told table from some = record { ends = ends; no_more = settled table _ _ ends }
  where
    most : looks (bucket_count table) ≤ 64
    most = min-le_left 64 (bucket_count table)

    least : 0 < looks (bucket_count table)
    least = omega (arith, some)

    ends : TidyEnds table (from % bucket_count table) (tidy_over table from)
    ends = runs table (from % bucket_count table) some (most_reads (bucket_count table)) 0 least (omega (arith, most)) (λ fewer less. absurd (omega arith))
