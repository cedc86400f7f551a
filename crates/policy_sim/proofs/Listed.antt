-- A list of touches, touch by touch.
use Rattle.policy_sim.proofs.Names.{arith, ◌≡◌, ℕ, Bool, List, [], ◌∷◌, ◌++◌, refl, State, after_touch, after_touches, IsAfter}
use Rattle.policy_sim.specs.declared.policy.Policy.{Policy}
use Rattle.std.proofs.lemmas.Grind.{common_steps}

one_more : (s : State) (touches : List (ℕ × Bool)) (page : ℕ) (change : Bool)
    → after_touches s (touches ++ (page, change) ∷ []) ≡ after_touch (after_touches s touches) page change
one_more s [] page change = refl
one_more s (t ∷ touches) page change = one_more (after_touch s t.0 t.1) touches page change

pub after_more : (kind : Policy) (groups pages : ℕ) (touches : List (ℕ × Bool)) (old new : State) (page : ℕ) (change : Bool)
    → new ≡ after_touch old page change → IsAfter kind groups pages touches old → IsAfter kind groups pages (touches ++ (page, change) ∷ []) new
after_more kind groups pages touches old new page change is after = grind (arith, common_steps, one_more)
