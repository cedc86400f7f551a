-- The last item that passes a test.
use Rattle.std.proofs.Common.{◌≡◌, Bool, cond, List, [], ◌∷◌, ◌++◌, Some, None, sym, arith}
use Rattle.std.specs.Prelude.{Option}
use Rattle.std.specs.List.{AllByRecursion}
use Rattle.std.specs.Option.{option_or}
use Rattle.std.proofs.lemmas.Option.{cond_some}
use Rattle.std_lemmas.proofs.Options.{option_or_none, option_or_assoc, option_or_some}
use Rattle.log_records.specs.Log.{last_where}

abbrev pub one : {X : Type 0} → (X → Bool) → X → Option X
one test x = cond (test x) (Some x) None

pub last_where-append : {X : Type 0} (test : X → Bool) (xs ys : List X) → last_where test (xs ++ ys) ≡ option_or (last_where test ys) (last_where test xs)
last_where-append {X} test [] ys = sym (option_or_none (last_where test ys))
last_where-append {X} test (x ∷ xs) ys = grind (arith, option_or_assoc, (last_where-append test xs ys))

-- what holds of all holds of the last
pub all_last : {X : Type 0} (P : X → Type 0) (test : X → Bool) (xs : List X) (x : X) → AllByRecursion P xs → last_where test xs ≡ Some x → P x
all_last P test [] x h e = absurd (grind arith)
all_last P test (y ∷ ys) x h e = grind (arith, cond_some, option_or_some, (all_last P test ys x h.1))
