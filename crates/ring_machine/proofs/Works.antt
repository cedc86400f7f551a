-- Work after work.
use Rattle.std.proofs.Common.{◌≡◌, List, [], ◌∷◌, ◌++◌, Option, Some, None, refl, sym, ap, ◌∙◌}
use Rattle.std.specs.Option.{option_or}
use Rattle.site.specs.declared.outside.Dev.{Dev}
use Rattle.std_lemmas.proofs.Options.{option_or_assoc}
use Rattle.second_chance.specs.Machine.{Rules}
use Rattle.ring_machine.specs.Machine.{Machine, RingOp, apply_op, after_all, past_end, first_worn}
use Rattle.ring_machine.specs.Laws.{RingOpsCompose, FirstIsFirst}

pub ring_ops_compose : RingOpsCompose
ring_ops_compose rules [] later m = refl
ring_ops_compose rules (work ∷ works) later m = ring_ops_compose rules works later (apply_op rules work m)

pub first_is_first : FirstIsFirst
first_is_first rules [] later m = refl
first_is_first rules (work ∷ works) later m =
    ap (option_or (past_end (apply_op rules work m))) (first_is_first rules works later (apply_op rules work m))
    ∙ sym (option_or_assoc (past_end (apply_op rules work m)) (first_worn rules works (apply_op rules work m)) (first_worn rules later (after_all rules works (apply_op rules work m))))

-- where no ring is worn by the beginning, what follows decides
pub first_then : (rules : Rules) (first later : List RingOp) (m : Machine) → first_worn rules first m ≡ None → first_worn rules (first ++ later) m ≡ first_worn rules later (after_all rules first m)
first_then rules first later m none = first_is_first rules first later m ∙ ap (λ (o : Option Dev). option_or o (first_worn rules later (after_all rules first m))) none

-- and where one is it decides
pub first_stopped : (rules : Rules) (first later : List RingOp) (m : Machine) (dev : Dev) → first_worn rules first m ≡ Some dev → first_worn rules (first ++ later) m ≡ Some dev
first_stopped rules first later m dev worn = first_is_first rules first later m ∙ ap (λ (o : Option Dev). option_or o (first_worn rules later (after_all rules first m))) worn

-- one piece of work
pub first_of_one : (rules : Rules) (work : RingOp) (m : Machine) → first_worn rules (work ∷ []) m ≡ past_end (apply_op rules work m)
first_of_one rules work m = by (past_end (apply_op rules work m))
  where
    by : (o : Option Dev) → option_or o None ≡ o
    by None = refl
    by (Some dev) = refl
