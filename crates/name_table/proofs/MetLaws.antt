-- Over any table: where Found and Nothing come.
use Rattle.name_table.proofs.Names.{◌≡◌, ℕ, ◌<◌, List, inl, inr, refl, ap, sym, ◌∙◌, arith, IsPassed, IsMet, IsMissed, MetIsTold, MissedIsTold, bucket_count, Content, Ask, Write, End, Bucket, Free, Entry, Strange, Find, Remove}
use Rattle.name_table.proofs.FirstLaws.{ends_once, not_passed_strange, not_passed_free, not_passed_own}
use Rattle.name_table.proofs.Runs.{bucket_on, ArePassed, Comes, meets, is_strange, is_free, passes_all, comes_to}
use Rattle.record_model.specs.declared.names.NameAnswer.TheVariants as answer

found_same : (a b : List ℕ) → End (answer.Found a) ≡ End (answer.Found b) → a ≡ b
found_same a b e = cc

entry_same : (name a b : List ℕ) (x : Bucket) → x ≡ Entry name a → x ≡ Entry name b → a ≡ b
entry_same name a b x e h = cc

entry_free : (name value : List ℕ) (x : Bucket) → x ≡ Entry name value → x ≡ Free → ⊥
entry_free name value x e h = cc

entry_strange : (name value : List ℕ) (x : Bucket) → x ≡ Entry name value → x ≡ Strange → ⊥
entry_strange name value x e h = cc

free_strange : (x : Bucket) → x ≡ Free → x ≡ Strange → ⊥
free_strange x e h = cc

strange_not_found : (number : ℕ) (value : List ℕ) → End (answer.Strange number) ≡ End (answer.Found value) → ⊥
strange_not_found number value e = cc

nothing_not_found : (value : List ℕ) → End answer.Nothing ≡ End (answer.Found value) → ⊥
nothing_not_found value e = cc

strange_not_nothing : (number : ℕ) → End (answer.Strange number) ≡ End answer.Nothing → ⊥
strange_not_nothing number e = cc

write_not_nothing : (number : ℕ) (value : List ℕ) → Write number value ≡ End answer.Nothing → ⊥
write_not_nothing number value e = cc

is_met : (table : List Content) (name value : List ℕ) (next : Ask) → Comes table Find name next → next ≡ End (answer.Found value) → IsMet table name value
is_met table name value next (meets steps old less own passed e) h = record {
  steps = steps;
  among = less;
  own = own ∙ ap (Entry name) (found_same old value (sym e ∙ h));
  before = passed;
}
is_met table name value next (is_strange steps less strange passed e) h = absurd (strange_not_found _ value (sym e ∙ h))
is_met table name value next (is_free steps tombstone less free passed has e) h = absurd (nothing_not_found value (sym e ∙ h))
is_met table name value next (passes_all tombstone passed has e) h = absurd (nothing_not_found value (sym e ∙ h))

tells_met : (table : List Content) (name value : List ℕ) → IsMet table name value → (next : Ask) → Comes table Find name next → next ≡ End (answer.Found value)
tells_met table name value it next (meets steps old less own passed e) =
    let same : steps ≡ it.steps = ends_once table name steps it.steps passed it.before (not_passed_own name old _ own) (not_passed_own name value _ it.own) in
    e ∙ ap (λ (l : List ℕ). End (answer.Found l)) (entry_same name old value _ own (ap (bucket_on table name) same ∙ it.own))
tells_met table name value it next (is_strange steps less strange passed e) =
    let same : steps ≡ it.steps = ends_once table name steps it.steps passed it.before (not_passed_strange name _ strange) (not_passed_own name value _ it.own) in
    absurd (entry_strange name value _ it.own (ap (bucket_on table name) (sym same) ∙ strange))
tells_met table name value it next (is_free steps tombstone less free passed has e) =
    let same : steps ≡ it.steps = ends_once table name steps it.steps passed it.before (not_passed_free name _ free) (not_passed_own name value _ it.own) in
    absurd (entry_free name value _ it.own (ap (bucket_on table name) (sym same) ∙ free))
tells_met table name value it next (passes_all tombstone passed has e) = absurd (not_passed_own name value _ it.own (passed it.steps it.among))

pub met_is_told : MetIsTold
met_is_told table name value some =
    (is_met table name value _ (comes_to table Find name some).comes, λ it. tells_met table name value it _ (comes_to table Find name some).comes)

-- Nothing, for both.

missed_at : (table : List Content) (name : List ℕ) (steps : ℕ) → steps < bucket_count table → bucket_on table name steps ≡ Free → ArePassed table name steps → IsMissed table name
missed_at table name steps less free passed = record { steps = steps; ends = inr (less, free); before = passed }

missed_all : (table : List Content) (name : List ℕ) → ArePassed table name (bucket_count table) → IsMissed table name
missed_all table name passed = record { steps = bucket_count table; ends = inl refl; before = passed }

-- where it is missed, no bucket that isn't free ends the probing
not_missed : (table : List Content) (name : List ℕ) (steps : ℕ) → steps < bucket_count table → ArePassed table name steps →
    (IsPassed name (bucket_on table name steps) → ⊥) → (bucket_on table name steps ≡ Free → ⊥) → IsMissed table name → ⊥
not_missed table name steps less passed stop taken it = elim it.ends [
  | inl all ↦ stop (it.before steps (omega (arith, all)))
  | inr at ↦
      let same : steps ≡ it.steps = ends_once table name steps it.steps passed it.before stop (not_passed_free name _ at.1) in
      taken (ap (bucket_on table name) same ∙ at.1)
]

find_missed : (table : List Content) (name : List ℕ) (next : Ask) → Comes table Find name next → next ≡ End answer.Nothing → IsMissed table name
find_missed table name next (meets steps value less own passed e) h = absurd (nothing_not_found value (sym h ∙ e))
find_missed table name next (is_strange steps less strange passed e) h = absurd (strange_not_nothing _ (sym e ∙ h))
find_missed table name next (is_free steps tombstone less free passed has e) h = missed_at table name steps less free passed
find_missed table name next (passes_all tombstone passed has e) h = missed_all table name passed

find_tells : (table : List Content) (name : List ℕ) → IsMissed table name → (next : Ask) → Comes table Find name next → next ≡ End answer.Nothing
find_tells table name it next (meets steps value less own passed e) =
    absurd (not_missed table name steps less passed (not_passed_own name value _ own) (entry_free name value _ own) it)
find_tells table name it next (is_strange steps less strange passed e) =
    absurd (not_missed table name steps less passed (not_passed_strange name _ strange) (λ free. free_strange _ free strange) it)
find_tells table name it next (is_free steps tombstone less free passed has e) = e
find_tells table name it next (passes_all tombstone passed has e) = e

remove_missed : (table : List Content) (name : List ℕ) (next : Ask) → Comes table Remove name next → next ≡ End answer.Nothing → IsMissed table name
remove_missed table name next (meets steps value less own passed e) h = absurd (write_not_nothing _ _ (sym e ∙ h))
remove_missed table name next (is_strange steps less strange passed e) h = absurd (strange_not_nothing _ (sym e ∙ h))
remove_missed table name next (is_free steps tombstone less free passed has e) h = missed_at table name steps less free passed
remove_missed table name next (passes_all tombstone passed has e) h = missed_all table name passed

remove_tells : (table : List Content) (name : List ℕ) → IsMissed table name → (next : Ask) → Comes table Remove name next → next ≡ End answer.Nothing
remove_tells table name it next (meets steps value less own passed e) =
    absurd (not_missed table name steps less passed (not_passed_own name value _ own) (entry_free name value _ own) it)
remove_tells table name it next (is_strange steps less strange passed e) =
    absurd (not_missed table name steps less passed (not_passed_strange name _ strange) (λ free. free_strange _ free strange) it)
remove_tells table name it next (is_free steps tombstone less free passed has e) = e
remove_tells table name it next (passes_all tombstone passed has e) = e

pub find_missed_told : MissedIsTold Find
find_missed_told table name some =
    (find_missed table name _ (comes_to table Find name some).comes, λ it. find_tells table name it _ (comes_to table Find name some).comes)

pub remove_missed_told : MissedIsTold Remove
remove_missed_told table name some =
    (remove_missed table name _ (comes_to table Remove name some).comes, λ it. remove_tells table name it _ (comes_to table Remove name some).comes)
