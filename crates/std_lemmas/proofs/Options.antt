-- Options: the first of two that is there, and whether one is.
use Rattle.std.proofs.Common.{◌≡◌, ◌⊎◌, inl, inr, true, false, true≢false, None, Some, Option, is_some, is_none, option_map, refl}
use Rattle.std.specs.Option.{option_or}

pub option_or_none : {X : Type 0} (o : Option X) → option_or o None ≡ o
option_or_none None = refl
option_or_none (Some x) = refl

pub option_or_assoc : {X : Type 0} (a b c : Option X) → option_or (option_or a b) c ≡ option_or a (option_or b c)
option_or_assoc None b c = refl
option_or_assoc (Some x) b c = refl

-- which of two it is
pub option_or_some : {X : Type 0} (a b : Option X) (x : X) → option_or a b ≡ Some x → (a ≡ Some x) ⊎ ((a ≡ None) × (b ≡ Some x))
option_or_some None b x e = inr (refl, e)
option_or_some (Some y) b x e = inl e

pub some_mapped : {X Y : Type 0} (f : X → Y) (o : Option X) → is_some (option_map f o) ≡ is_some o
some_mapped f None = refl
some_mapped f (Some x) = refl

pub none_if_no_some : {X : Type 0} (o : Option X) → is_some o ≡ false → o ≡ None
none_if_no_some None is = refl
none_if_no_some (Some x) is = absurd (true≢false is)

pub none_if_is_none : {X : Type 0} (o : Option X) → is_none o ≡ true → o ≡ None
none_if_is_none None is = refl
none_if_is_none (Some x) is = absurd cc
