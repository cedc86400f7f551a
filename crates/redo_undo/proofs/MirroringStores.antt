-- What calls on a store make of the machine that mirrors it.
use Rattle.redo_undo.proofs.Names.{◌≡◌, ◌⊎◌, ℕ, ◌+◌, ◌^◌, ◌≤◌, false, List, [], ◌∷◌, ◌++◌, refl, sym, ap, ◌∙◌, arith, or_from, list_any, Result, Ok, Err, OnOk, IfErr, IsErrOf, Entry, rules, current, Mirrors, MirrorsStore, PerformsStore, clrs_for, TransactionStore, saves_one, masters_stay, clr_saves_none, never_past, masters_past, performs_with, first_of_one, ends, RingOp, save, Performs, Ring, no_error, State, Image, Log, Stop, Device, Worn}
use Rattle.std.proofs.lemmas.List.Folds.{list_any-append}
use Rattle.redo_undo.proofs.Mirroring.{HasNumbersLeft}

-- a call on log and pages, as one of a store that saves no master unit
pub store_performs : {T : Type 0} {result : Result T Stop} {works : List RingOp} {old new : TransactionStore} {image image' : Image} → list_any saves_one works ≡ false → new.masters ≡ old.masters → Performs result (rules old.pages) works (Mirrors old.log old.pages image) (Mirrors new.log new.pages image') →
    Performs result (rules old.pages) works (MirrorsStore old image) (MirrorsStore new image')
store_performs {works = works} {old = old} none same performs =
    performs_with (λ m is. is.both) (λ m is both. record { both = both; masters = masters_stay (rules old.pages) works m none ∙ is.masters ∙ sym (ap (λ (r : Ring). r.hi) same) }) performs

pub clrs_save_none : (updates : List Entry) → list_any saves_one (clrs_for updates) ≡ false
clrs_save_none [] = grind (arith)
clrs_save_none (u ∷ updates) = grind (arith, list_any-append, saves_one, or_from, clr_saves_none, (clrs_save_none updates))

pub undoing_saves_none : (updates : List Entry) → list_any saves_one (clrs_for updates ++ ends) ≡ false
undoing_saves_none updates = list_any-append saves_one (clrs_for updates) ends ∙ or_from (list_any saves_one (clrs_for updates)) (list_any saves_one ends) (clrs_save_none updates) refl

-- A master unit is saved.

module _ (old new : TransactionStore) (before now : State) (numbers : HasNumbersLeft old.log old.pages) where
  pub save_performs : {T : Type 0} (result : Result T Stop) → (IsErrOf result (Worn Log) → old.masters.hi ≡ 2 ^ 40) → IfErr result (λ stop. (stop ≡ Device Log) ⊎ (stop ≡ Worn Log)) → OnOk result (new.masters.hi ≡ old.masters.hi + 1) → OnOk result (new.masters.hi ≤ 2 ^ 40) →
      OnOk result (new.log.ring.hi ≡ old.log.ring.hi) → OnOk result (new.log.used ≡ old.log.used) → new.pages ≡ old.pages → ((page : ℕ) → current old.pages now.image page ≡ current old.pages before.image page) → PerformsStore result (save ∷ []) old new before now
  save_performs {T = T} (Err stop) at_end stops one most hi used same kept = grind (arith, first_of_one, masters_past)
  save_performs (Ok x) at_end stops one most hi used same kept = grind (arith, first_of_one, never_past, no_error)
