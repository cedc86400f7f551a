-- Which records the open transactions claim, one transaction after the other.
use Rattle.std.proofs.Common.{◌≡◌, ℕ, nat_eq, Bool, true, false, cond, List, [], ◌∷◌, ◌++◌, refl, sym, ap, subst, ◌∙◌, append_assoc}
use Rattle.std.specs.Prelude.{Option, Some, None}
use Rattle.std.specs.List.{AllByRecursion}
use Rattle.std.specs.Map.{keys_of, lookup}
use Rattle.std.proofs.lemmas.Bool.{eqb-true}
use Rattle.std.proofs.lemmas.List.{append-nil}
use Rattle.std.proofs.lemmas.Option.{same_Some, none-some}
use Rattle.std_lemmas.proofs.AllOf.{all_push}
use Rattle.log_archive.specs.Accepted.{Unclosed}
use Rattle.log_replay.specs.Opened.{has_written}
use Rattle.archive_base.specs.Opening.{IsWriter}

-- of the transactions so far
abbrev pub Claimed : (ℕ → Option Unclosed) → List ℕ → ℕ → Option ℕ → Type 0
Claimed known front number None = AllByRecursion (λ t. (u : Unclosed) → known t ≡ Some u → has_written number u ≡ false) front
Claimed known front number (Some txn) = (u : Unclosed) × (known txn ≡ Some u) × (has_written number u ≡ true)

pub record ClaimsSo (known : ℕ → Option Unclosed) (all rest : List ℕ) (writers : ℕ → Option ℕ) : Type 0 where
  pub front : List ℕ
  pub parts : all ≡ front ++ rest
  pub claimed : ((t : ℕ) (u : Unclosed) → known t ≡ Some u → u.begin ≡ t) → (number : ℕ) → Claimed known front number (writers number)

-- one more
pub claims_more : (known : ℕ → Option Unclosed) (all rest : List ℕ) (old new : ℕ → Option ℕ) (t : ℕ) (u : Unclosed) (later : List ℕ) → rest ≡ t ∷ later → known t ≡ Some u →
    ((n : ℕ) → new n ≡ cond (has_written n u) (Some u.begin) (old n)) → ClaimsSo known all rest old → ClaimsSo known all later new
claims_more known all rest old new t u later split there claims so = record {
  front = so.front ++ t ∷ [];
  parts = so.parts ∙ ap (λ l. so.front ++ l) split ∙ sym (append_assoc so.front (t ∷ []) later);
  claimed = λ begin number. subst (Claimed known (so.front ++ t ∷ []) number) (sym (claims number)) (by number (begin t u there) (has_written number u) refl (old number) (so.claimed begin number));
}
  where
    by : (number : ℕ) → u.begin ≡ t → (b : Bool) → has_written number u ≡ b → (o : Option ℕ) → Claimed known so.front number o → Claimed known (so.front ++ t ∷ []) number (cond b (Some u.begin) o)
    by number begins true wrote o is = (u, ap known begins ∙ there, wrote)
    by number begins false off (Some w) is = is
    by number begins false off None is =
        all_push (λ x. (v : Unclosed) → known x ≡ Some v → has_written number v ≡ false) so.front t is (λ v same. sym (ap (has_written number) (same_Some _ _ (sym there ∙ same))) ∙ off)

-- one that isn't there
pub claims_none : (known : ℕ → Option Unclosed) (all rest : List ℕ) (writers : ℕ → Option ℕ) (t : ℕ) (later : List ℕ) → rest ≡ t ∷ later → known t ≡ None → ClaimsSo known all rest writers → ClaimsSo known all later writers
claims_none known all rest writers t later split gone so = record {
  front = so.front ++ t ∷ [];
  parts = so.parts ∙ ap (λ l. so.front ++ l) split ∙ sym (append_assoc so.front (t ∷ []) later);
  claimed = λ begin number. by number (writers number) (so.claimed begin number);
}
  where
    by : (number : ℕ) (o : Option ℕ) → Claimed known so.front number o → Claimed known (so.front ++ t ∷ []) number o
    by number (Some w) is = is
    by number None is = all_push (λ x. (v : Unclosed) → known x ≡ Some v → has_written number v ≡ false) so.front t is (λ v same. absurd (none-some _ (sym gone ∙ same)))

-- all of them
key_holds : {X : Type 0} (P : ℕ → Type 0) (es : List (ℕ × X)) (t : ℕ) (x : X) → lookup (nat_eq t) es ≡ Some x → AllByRecursion P (keys_of es) → P t
key_holds P [] t x is all = absurd (none-some _ is)
key_holds {X} P (e ∷ es) t x is all = by (nat_eq t e.0) refl is (λ later. key_holds P es t x later all.1)
  where
    by : (b : Bool) → nat_eq t e.0 ≡ b → cond b (Some e.1) (lookup (nat_eq t) es) ≡ Some x → (lookup (nat_eq t) es ≡ Some x → P t) → P t
    by true same is later = subst P (sym (eqb-true t e.0 same)) all.0
    by false other is later = later is

pub claims_all : (es : List (ℕ × Unclosed)) (rest : List ℕ) (writers : ℕ → Option ℕ) → rest ≡ [] → ClaimsSo (λ t. lookup (nat_eq t) es) (keys_of es) rest writers →
    ((t : ℕ) (u : Unclosed) → lookup (nat_eq t) es ≡ Some u → u.begin ≡ t) → (number : ℕ) → IsWriter (λ t. lookup (nat_eq t) es) number (writers number)
claims_all es rest writers none so begin number = by (writers number) (subst (λ l. Claimed (λ t. lookup (nat_eq t) es) l number (writers number)) whole (so.claimed begin number))
  where
    whole : so.front ≡ keys_of es
    whole = sym (so.parts ∙ ap (λ l. so.front ++ l) none ∙ append-nil so.front)

    by : (o : Option ℕ) → Claimed (λ t. lookup (nat_eq t) es) (keys_of es) number o → IsWriter (λ t. lookup (nat_eq t) es) number o
    by (Some w) is = is
    by None is = λ t u there. key_holds (λ x. (v : Unclosed) → lookup (nat_eq x) es ≡ Some v → has_written number v ≡ false) es t u there is u there
