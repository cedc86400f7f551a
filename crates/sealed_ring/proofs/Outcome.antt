-- What an append comes to where its opening was Ok.
use Rattle.sealed_ring.proofs.Names.{◌≡◌, ℕ, ◌+◌, ◌^◌, ◌<◌, List, length, sym, subst, Result, OnOk, FitsIn, units_of, appended, HasForm, Adds, Stages, Opens, Seals, Shape}
use Rattle.std.proofs.lemmas.Result.{on_ok_weaker}
use Rattle.sealed_ring.proofs.Sealed.{is_staged, opens_adds, seals, stages_keeps}
use Rattle.sealed_ring.proofs.Whole.{added_units}

module _ (s : Shape) (hi : ℕ) (bytes old mid now : List ℕ) (fits : FitsIn s (length old)) where
  fits_mid : Stages s hi bytes old mid → FitsIn s (length mid)
  fits_mid st = subst (FitsIn s) (sym st.size) fits

  adds : hi < 2 ^ 40 → Stages s hi bytes old mid → HasForm s hi old → Opens s hi mid now → Adds s hi mid now
  adds small st form o = opens_adds s hi bytes mid (fits_mid st) now small (is_staged s hi bytes old fits mid form st) o

  pub seals_ok : Stages s hi bytes old mid → {T E : Type 0} (result : Result T E) → OnOk result (Opens s hi mid now) → OnOk result (Seals s hi bytes old now)
  seals_ok st result = on_ok_weaker result (λ o. seals s hi bytes old mid now fits st o)

  pub form_ok : hi < 2 ^ 40 → Stages s hi bytes old mid → HasForm s hi old → {T E : Type 0} (result : Result T E) → OnOk result (Opens s hi mid now) → OnOk result (HasForm s (hi + 1) now)
  form_ok small st form result = on_ok_weaker result (λ o. (adds small st form o).form)

  pub stands_ok : hi < 2 ^ 40 → Stages s hi bytes old mid → HasForm s hi old → {T E : Type 0} (result : Result T E) → OnOk result (Opens s hi mid now) → OnOk result (units_of s now ≡ appended s (units_of s old) bytes)
  stands_ok small st form result = on_ok_weaker result (λ o. added_units s hi old bytes fits.slots form mid now (stages_keeps s hi bytes old fits mid form st) st.content (adds small st form o))
