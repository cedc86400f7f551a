-- Over any table: where Strange and NamesFull come, and that reads are few.
use Rattle.name_table.proofs.Names.{◌≡◌, ℕ, ◌≤◌, List, Option, Some, None, inl, inr, refl, ap, sym, ◌∙◌, subst, mod-lt, cases_order, option_or, IsOther, IsPassed, reached, IsFirstStrange, StrangeIsTold, HasNoRoom, FullIsTold, ReadsAreFew, IsRead, bucket_count, record_at, met, missed, Content, Ask, End, Bucket, Free, Tombstone, Entry, Strange, Job, Find, Put, Remove}
use Rattle.name_table.proofs.NameLaws.{each_other}
use Rattle.name_table.proofs.Runs.{bucket_on, ArePassed, HasTombstone, Comes, meets, is_strange, is_free, passes_all, comes_to, met_settled, missed_settled}
use Rattle.record_model.specs.declared.names.NameAnswer.TheVariants as answer

-- What comes where the name is met, and where it is missed, is neither of the two.

met_not_strange : (job : Job) (name : List ℕ) (number : ℕ) (value : List ℕ) (told : ℕ) → met job name number value ≡ End (answer.Strange told) → ⊥
met_not_strange Find name number value told e = cc
met_not_strange (Put new) name number value told e = cc
met_not_strange Remove name number value told e = cc

missed_not_strange : (job : Job) (name : List ℕ) (buckets : ℕ) (free : Option ℕ) (told : ℕ) → missed job name buckets free ≡ End (answer.Strange told) → ⊥
missed_not_strange Find name buckets free told e = cc
missed_not_strange Remove name buckets free told e = cc
missed_not_strange (Put new) name buckets None told e = cc
missed_not_strange (Put new) name buckets (Some number) told e = cc

met_not_full : (job : Job) (name : List ℕ) (number : ℕ) (value : List ℕ) (many : ℕ) → met job name number value ≡ End (answer.NamesFull many) → ⊥
met_not_full Find name number value many e = cc
met_not_full (Put new) name number value many e = cc
met_not_full Remove name number value many e = cc

missed_not_full : (job : Job) (name : List ℕ) (buckets : ℕ) (tombstone : Option ℕ) (number many : ℕ) →
    missed job name buckets (option_or tombstone (Some number)) ≡ End (answer.NamesFull many) → ⊥
missed_not_full Find name buckets tombstone number many e = cc
missed_not_full Remove name buckets tombstone number many e = cc
missed_not_full (Put new) name buckets None number many e = cc
missed_not_full (Put new) name buckets (Some first) number many e = cc

strange_same : (a b : ℕ) → End (answer.Strange a) ≡ End (answer.Strange b) → b ≡ a
strange_same a b e = cc

full_same : (a b : ℕ) → End (answer.NamesFull a) ≡ End (answer.NamesFull b) → b ≡ a
full_same a b e = cc

strange_not_full : (a b : ℕ) → End (answer.Strange a) ≡ End (answer.NamesFull b) → ⊥
strange_not_full a b e = cc

-- There is one step at most whose bucket isn't passed, and all before it are.
pub ends_once : (table : List Content) (name : List ℕ) (steps other : ℕ) → ArePassed table name steps → ArePassed table name other →
    (IsPassed name (bucket_on table name steps) → ⊥) → (IsPassed name (bucket_on table name other) → ⊥) → steps ≡ other
ends_once table name steps other passed before stop halt = elim (cases_order steps other) [
  | inl same ↦ same
  | inr apart ↦ elim apart [ inl less ↦ absurd (stop (before steps less)) | inr more ↦ absurd (halt (passed other more)) ]
]

pub not_passed_strange : (name : List ℕ) (b : Bucket) → b ≡ Strange → IsPassed name b → ⊥
not_passed_strange name b e passed = subst (IsPassed name) e passed

pub not_passed_free : (name : List ℕ) (b : Bucket) → b ≡ Free → IsPassed name b → ⊥
not_passed_free name b e passed = subst (IsPassed name) e passed

pub not_passed_own : (name value : List ℕ) (b : Bucket) → b ≡ Entry name value → IsPassed name b → ⊥
not_passed_own name value b e passed = subst (IsPassed name) e passed refl

strange_not_entry : (name value : List ℕ) (b : Bucket) → b ≡ Strange → b ≡ Entry name value → ⊥
strange_not_entry name value b e h = cc

strange_not_free : (b : Bucket) → b ≡ Strange → b ≡ Free → ⊥
strange_not_free b e h = cc

first_strange : (table : List Content) (job : Job) (name : List ℕ) (number : ℕ) (next : Ask) → Comes table job name next →
    next ≡ End (answer.Strange number) → IsFirstStrange table name number
first_strange table job name number next (meets steps value less own passed e) h = absurd (met_not_strange job name _ value number (sym e ∙ h))
first_strange table job name number next (is_strange steps less strange passed e) h = record {
  steps = steps;
  among = less;
  is_its = strange_same _ number (sym e ∙ h);
  strange = strange;
  before = passed;
}
first_strange table job name number next (is_free steps tombstone less free passed has e) h = absurd (missed_not_strange job name _ _ number (sym e ∙ h))
first_strange table job name number next (passes_all tombstone passed has e) h = absurd (missed_not_strange job name _ _ number (sym e ∙ h))

tells_strange : (table : List Content) (job : Job) (name : List ℕ) (number : ℕ) → IsFirstStrange table name number → (next : Ask) →
    Comes table job name next → next ≡ End (answer.Strange number)
tells_strange table job name number first next (meets steps value less own passed e) =
    let same : steps ≡ first.steps = ends_once table name steps first.steps passed first.before (not_passed_own name value _ own) (not_passed_strange name _ first.strange) in
    absurd (strange_not_entry name value _ first.strange (ap (bucket_on table name) (sym same) ∙ own))
tells_strange table job name number first next (is_strange steps less strange passed e) =
    let same : steps ≡ first.steps = ends_once table name steps first.steps passed first.before (not_passed_strange name _ strange) (not_passed_strange name _ first.strange) in
    e ∙ ap (λ (k : ℕ). End (answer.Strange (record_at name (bucket_count table) k))) same ∙ ap (λ (k : ℕ). End (answer.Strange k)) (sym first.is_its)
tells_strange table job name number first next (is_free steps tombstone less free passed has e) =
    let same : steps ≡ first.steps = ends_once table name steps first.steps passed first.before (not_passed_free name _ free) (not_passed_strange name _ first.strange) in
    absurd (strange_not_free _ first.strange (ap (bucket_on table name) (sym same) ∙ free))
tells_strange table job name number first next (passes_all tombstone passed has e) = absurd (not_passed_strange name _ first.strange (passed first.steps first.among))

pub strange_is_told : StrangeIsTold
strange_is_told table job name number some = (
  first_strange table job name number _ (comes_to table job name some).comes,
  λ first. tells_strange table job name number first _ (comes_to table job name some).comes,
)

-- NamesFull.

no_room : (table : List Content) (job : Job) (name : List ℕ) (many : ℕ) → 1 ≤ bucket_count table → (next : Ask) → Comes table job name next →
    next ≡ End (answer.NamesFull many) → HasNoRoom table job name many
no_room table job name many some next (meets steps value less own passed e) h = absurd (met_not_full job name _ value many (sym e ∙ h))
no_room table job name many some next (is_strange steps less strange passed e) h = absurd (strange_not_full _ many (sym e ∙ h))
no_room table job name many some next (is_free steps tombstone less free passed has e) h = absurd (missed_not_full job name _ tombstone _ many (sym e ∙ h))
no_room table job name many some next (passes_all tombstone passed has e) h = by job tombstone has (sym e ∙ h)
  where
    by : (job : Job) (tombstone : Option ℕ) → HasTombstone table name (bucket_count table) tombstone →
        missed job name (bucket_count table) tombstone ≡ End (answer.NamesFull many) → HasNoRoom table job name many
    by Find tombstone has h = absurd cc
    by Remove tombstone has h = absurd cc
    by (Put value) (Some number) has h = absurd cc
    by (Put value) None has h = record { value = value; puts = refl; counts = full_same _ many h; each = each_other table name some has }

other_not_own : (name value : List ℕ) (b : Bucket) → b ≡ Entry name value → IsOther name b → ⊥
other_not_own name value b e other = subst (IsOther name) e other refl

other_not : (name : List ℕ) (b c : Bucket) → b ≡ c → (IsOther name c → ⊥) → IsOther name b → ⊥
other_not name b c e never other = never (subst (IsOther name) e other)

tells_full : (table : List Content) (name value : List ℕ) → 1 ≤ bucket_count table →
    ((steps : ℕ) → IsOther name (bucket_on table name steps)) → (next : Ask) → Comes table (Put value) name next → next ≡ End (answer.NamesFull (bucket_count table))
tells_full table name value some each next (meets steps old less own passed e) = absurd (other_not_own name old _ own (each steps))
tells_full table name value some each next (is_strange steps less strange passed e) = absurd (other_not name _ Strange strange (λ h. h) (each steps))
tells_full table name value some each next (is_free steps tombstone less free passed has e) = absurd (other_not name _ Free free (λ h. h) (each steps))
tells_full table name value some each next (passes_all None passed has e) = e
tells_full table name value some each next (passes_all (Some number) passed has e) = absurd (other_not name _ Tombstone has.3 (λ h. h) (each has.0))

pub full_is_told : FullIsTold
full_is_told table job name many some = (
  no_room table job name many some _ (comes_to table job name some).comes,
  λ none. subst (λ (j : Job). reached table j name ≡ End (answer.NamesFull many)) (sym none.puts)
      (tells_full table name none.value some (λ steps. none.each _ (mod-lt _ some)) _ (comes_to table (Put none.value) name some).comes
      ∙ ap (λ (k : ℕ). End (answer.NamesFull k)) (sym none.counts)),
)

-- Reads.

reads_none : (table : List Content) (job : Job) (name : List ℕ) (next : Ask) → Comes table job name next → IsRead next → ⊥
reads_none table job name next (meets steps value less own passed e) h = met_settled job name _ value (subst IsRead e h)
reads_none table job name next (is_strange steps less strange passed e) h = subst IsRead e h
reads_none table job name next (is_free steps tombstone less free passed has e) h = missed_settled job name _ _ (subst IsRead e h)
reads_none table job name next (passes_all tombstone passed has e) h = missed_settled job name _ _ (subst IsRead e h)

pub reads_are_few : ReadsAreFew
reads_are_few table job name some = record {
  few = (comes_to table job name some).few;
  no_more = reads_none table job name _ (comes_to table job name some).comes;
  done = refl;
}
