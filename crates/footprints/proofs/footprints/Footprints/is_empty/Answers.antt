use Rattle.std.proofs.Common.{◌≡◌, ℕ, nat_eq, cond, List, [], ◌∷◌, length, Some, None, refl, sym, ap, ◌∙◌, arith}
use Rattle.std.specs.Map.{lookup}
use Rattle.std.proofs.lemmas.Bool.{eq-eqb}
use Rattle.std.proofs.lemmas.Option.{none-some}
use Rattle.footprints.specs.Longest.{longest}
use Rattle.footprints.proofs.footprints.Footprints.is_empty.Goals as goal

none_there : (entries : List (ℕ × ℕ)) (n : ℕ) → length entries ≡ 0 → lookup (nat_eq n) entries ≡ None
none_there [] n none = refl
none_there (e ∷ entries) n some = absurd (omega (arith, some))

none_at_all : (entries : List (ℕ × ℕ)) → ((n : ℕ) → lookup (nat_eq n) entries ≡ None) → length entries ≡ 0
none_at_all [] none = refl
none_at_all (e ∷ entries) none = absurd (none-some e.1 (sym (none e.0) ∙ ap (λ b. cond b (Some e.1) (lookup (nat_eq e.0) entries)) (eq-eqb e.0 e.0 refl)))

pub returns : goal.returns
returns c = (
  λ empty number. ap (λ l. longest l number) (sym c.self.view_is) ∙ sym (c.self.invariant.longest number) ∙ none_there c.self.inside.longest.entries number (c.is_empty.ensures.0 empty),
  λ none. c.is_empty.ensures.1 (none_at_all c.self.inside.longest.entries (λ n. c.self.invariant.longest n ∙ ap (λ l. longest l n) c.self.view_is ∙ none n)),
)
