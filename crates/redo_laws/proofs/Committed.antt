-- A Commit that is sealed at once.
use Rattle.redo_laws.proofs.Citing.{◌≡◌, ◌⊎◌, inl, inr, ℕ, ◌+◌, ◌≤◌, sym, ap, subst, ◌∙◌, arith, List, Bool, if◌then◌else◌, Master, logical_image_under, LogStore, Entry, PageStore, Content, History, settled, RunsOn, LeavesSome, Represents, State, Snapshot, Geometry, lt-ltb, cases_eq}
use Rattle.std.specs.Prelude.{nat_lt, Option}
use Rattle.std.proofs.lemmas.Bool.{le-ltb}
use Rattle.image_meaning.specs.Meaning.{StandsFor}
use Rattle.image_meaning.specs.Moments.{LeavesEitherFor}
use Rattle.redo_laws.proofs.Runs.{resettled}
use Rattle.redo_laws.proofs.Touched.{of_history}

-- the table up to so many commits, and another one from the next on
abbrev pub first_then : List Content → List Content → ℕ → ℕ → List Content
first_then before after commits count = if nat_lt commits count then after else before

-- a settled log with a next table to come
abbrev pub next_to : List Content → List Content → ℕ → History
next_to before after commits = record { tables = first_then before after commits; floor = commits; commits = commits }

first_is : (before after : List Content) (commits : ℕ) → first_then before after commits commits ≡ before
first_is before after commits = ap (λ (b : Bool). if b then after else before) (le-ltb commits commits (omega arith))

pub next_is : (before after : List Content) (commits : ℕ) → first_then before after commits (commits + 1) ≡ after
next_is before after commits = ap (λ (b : Bool). if b then after else before) (lt-ltb commits (commits + 1) (omega arith))

pub table_after_it : (before after : List Content) (commits : ℕ) (more : List Content → List Content) → after ≡ more before → first_then before after commits (commits + 1) ≡ more (first_then before after commits commits)
table_after_it before after commits more is = next_is before after commits ∙ is ∙ ap more (sym (first_is before after commits))

pub awaits : (log : LogStore) (pages : PageStore) (site : State) (newest : Option Master) (records : List Entry) (before after : List Content) (commits : ℕ) → Represents log pages site newest records (settled before commits) → Represents log pages site newest records (next_to before after commits)
awaits log pages site newest records before after commits h =
    let p = logical_image_under newest pages.flash.geometry site.image h.log_holds.blocks in
    of_history (next_to before after commits) h
    (resettled p h.log_holds.tail records (next_to before after commits) (omega arith)
    (subst (λ (t : List Content). RunsOn p h.log_holds.tail records (settled t commits)) (sym (first_is before after commits)) h.log_holds.runs_on))

-- what is so of a number up to the next is so of the table before it, or of the one after it
pub first_or_next : (P : List Content → ℕ → Type 0) (before after : List Content) (commits count : ℕ) → commits ≤ count → count ≤ commits + 1 → P (first_then before after commits count) count → P before commits ⊎ P after (commits + 1)
first_or_next P before after commits count least most holds = elim (cases_eq count commits) [
  | inl same ↦ inl (subst (λ (t : List Content). P t commits) (first_is before after commits) (subst (λ (n : ℕ). P (first_then before after commits n) n) same holds))
  | inr other ↦
      let last : count ≡ commits + 1 = omega (arith, least, most, other) in
      inr (subst (λ (t : List Content). P t (commits + 1)) (next_is before after commits) (subst (λ (n : ℕ). P (first_then before after commits n) n) last holds))
]

-- a crash leaves that
pub either_left : (g : Geometry) (before after : List Content) (commits : ℕ) (so_far : List ℕ) (s : Snapshot) → LeavesSome g (record (next_to before after commits) { commits = commits + 1 }) so_far s → LeavesEitherFor g before after commits so_far s
either_left g before after commits so_far s left = record { told = left.told; stands = first_or_next (StandsFor g s.image) before after commits left.count left.from_floor left.within left.stands }

-- and before it is logged
pub before_left : (g : Geometry) (before after : List Content) (commits : ℕ) (so_far : List ℕ) (s : Snapshot) → LeavesSome g (next_to before after commits) so_far s → LeavesEitherFor g before after commits so_far s
before_left g before after commits so_far s left =
    either_left g before after commits so_far s (record { told = left.told; count = left.count; from_floor = left.from_floor; within = let few = left.within in omega (arith, few); stands = left.stands })
