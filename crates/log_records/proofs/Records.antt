-- What is read is spelled so, and what is spelled so is read.
use Rattle.std.proofs.Common.{arith, ◌≡◌, ℕ, suc, ◌^◌, ◌<◌, Bool, true, false, cond, ◌⊎◌, inl, inr, eqb, List, [], ◌∷◌, ◌++◌, Some, refl, sym, ap, subst, ◌∙◌, append_assoc}
use Rattle.std.specs.Int.{w32, w64, to_be_bytes}
use Rattle.std.proofs.lemmas.Bool.{eqb-true}
use Rattle.std.proofs.lemmas.Option.{same_Some}
use Rattle.record_model.specs.State.{Content}
use Rattle.log_records.specs.declared.log_record.LogRecord.{LogRecord}
use Rattle.log_records.specs.declared.log_record.LogRecord.TheVariants.{Begin, Update, Clr, Commit, End}
use Rattle.log_records.specs.Spelling.{spelling, content_spelling, HasForm, FitsFields, IsShort}
use Rattle.log_records.specs.Reading.{number_at, slot_at, value_at, commit_at, end_at, clr_at, update_at, record_at}
use Rattle.log_records.proofs.Fields.{IsBytes, bind_some, bind_is, u32_field, u64_field, slot_field, value_field}

-- what a record takes from the front of octets
pub record TakesRecord (octets : List ℕ) (x : LogRecord × List ℕ) : Type 0 where
  pub parts : octets ≡ spelling x.0 ++ x.1
  pub has_form : HasForm x.0
  pub fits : FitsFields x.0

commit_takes : (octets : List ℕ) (x : LogRecord × List ℕ) → IsBytes octets → commit_at octets ≡ Some x → TakesRecord (4 ∷ octets) x
unfolding commit_at spelling
commit_takes octets x fits e =
    let a = bind_some (number_at w64 octets) _ x e in
    let b = bind_some (number_at w64 a.0.1) _ x a.2 in
    let t = u64_field.takes octets a.0 fits a.1 in
    let u = u64_field.takes a.0.1 b.0 t.1 b.1 in
    subst (TakesRecord (4 ∷ octets)) (same_Some (Commit a.0.0 b.0.0, b.0.1) x b.2)
    (record { parts = ap (λ (o : List ℕ). 4 ∷ o) (t.0 ∙ ap (λ (o : List ℕ). to_be_bytes w64 a.0.0 ++ o) u.0); has_form = tt; fits = (t.2, u.2) })

commit_again : (txn number : ℕ) (rest : List ℕ) → txn < 2 ^ 64 → number < 2 ^ 64 → commit_at (to_be_bytes w64 txn ++ (to_be_bytes w64 number ++ rest)) ≡ Some (Commit txn number, rest)
unfolding commit_at spelling
commit_again txn number rest t n = grind (arith, bind_is, u64_field)

end_takes : (octets : List ℕ) (x : LogRecord × List ℕ) → IsBytes octets → end_at octets ≡ Some x → TakesRecord (5 ∷ octets) x
unfolding end_at spelling
end_takes octets x fits e =
    let a = bind_some (number_at w64 octets) _ x e in
    let t = u64_field.takes octets a.0 fits a.1 in
    subst (TakesRecord (5 ∷ octets)) (same_Some (End a.0.0, a.0.1) x a.2)
    (record { parts = ap (λ (o : List ℕ). 5 ∷ o) t.0; has_form = tt; fits = t.2 })

end_again : (txn : ℕ) (rest : List ℕ) → txn < 2 ^ 64 → end_at (to_be_bytes w64 txn ++ rest) ≡ Some (End txn, rest)
unfolding end_at spelling
end_again txn rest t = bind_is _ _ _ _ (u64_field.again txn rest t) refl

update_takes : (octets : List ℕ) (x : LogRecord × List ℕ) → IsBytes octets → update_at octets ≡ Some x → TakesRecord (2 ∷ octets) x
unfolding update_at spelling
update_takes octets x fits e =
    let txn = bind_some (number_at w64 octets) _ x e in
    let prev = bind_some (number_at w64 txn.0.1) _ x txn.2 in
    let page = bind_some (number_at w32 prev.0.1) _ x prev.2 in
    let slot = bind_some (slot_at page.0.1) _ x page.2 in
    let before = bind_some (value_at slot.0.1) _ x slot.2 in
    let after = bind_some (value_at before.0.1) _ x before.2 in
    let t1 = u64_field.takes octets txn.0 fits txn.1 in
    let t2 = u64_field.takes txn.0.1 prev.0 t1.1 prev.1 in
    let t3 = u32_field.takes prev.0.1 page.0 t2.1 page.1 in
    let t4 = slot_field.takes page.0.1 slot.0 t3.1 slot.1 in
    let t5 = value_field.takes slot.0.1 before.0 t4.1 before.1 in
    let t6 = value_field.takes before.0.1 after.0 t5.1 after.1 in
    let values : slot.0.1 ≡ content_spelling before.0.0 ++ content_spelling after.0.0 ++ after.0.1 =
    t5.0 ∙ ap (λ (o : List ℕ). content_spelling before.0.0 ++ o) t6.0 ∙ sym (append_assoc (content_spelling before.0.0) (content_spelling after.0.0) after.0.1) in
    subst (TakesRecord (2 ∷ octets)) (same_Some (Update txn.0.0 prev.0.0 page.0.0 slot.0.0 before.0.0 after.0.0, after.0.1) x after.2)
    (record {
      parts = ap (λ (o : List ℕ). 2 ∷ o) (t1.0 ∙ ap (λ (o : List ℕ). to_be_bytes w64 txn.0.0 ++ o) (t2.0 ∙ ap (λ (o : List ℕ). to_be_bytes w64 prev.0.0 ++ o)
          (t3.0 ∙ ap (λ (o : List ℕ). to_be_bytes w32 page.0.0 ++ o) (t4.0 ∙ ap (λ (o : List ℕ). slot.0.0 ∷ o) values))));
      has_form = (t4.2, t5.2, t6.2);
      fits = (t1.2, t2.2, t3.2);
    })

update_again : (txn prev page slot : ℕ) (before after : Content) (rest : List ℕ) → txn < 2 ^ 64 → prev < 2 ^ 64 → page < 2 ^ 32 → slot < 32 → IsShort before → IsShort after →
    update_at (to_be_bytes w64 txn ++ (to_be_bytes w64 prev ++ (to_be_bytes w32 page ++ (slot ∷ (content_spelling before ++ (content_spelling after ++ rest))))))
    ≡ Some (Update txn prev page slot before after, rest)
unfolding update_at spelling
update_again txn prev page slot before after rest t p g s b a = grind (arith, bind_is, u64_field, u32_field, slot_field, value_field)

clr_takes : (octets : List ℕ) (x : LogRecord × List ℕ) → IsBytes octets → clr_at octets ≡ Some x → TakesRecord (3 ∷ octets) x
unfolding clr_at spelling
clr_takes octets x fits e =
    let txn = bind_some (number_at w64 octets) _ x e in
    let prev = bind_some (number_at w64 txn.0.1) _ x txn.2 in
    let next = bind_some (number_at w64 prev.0.1) _ x prev.2 in
    let page = bind_some (number_at w32 next.0.1) _ x next.2 in
    let slot = bind_some (slot_at page.0.1) _ x page.2 in
    let after = bind_some (value_at slot.0.1) _ x slot.2 in
    let t1 = u64_field.takes octets txn.0 fits txn.1 in
    let t2 = u64_field.takes txn.0.1 prev.0 t1.1 prev.1 in
    let t3 = u64_field.takes prev.0.1 next.0 t2.1 next.1 in
    let t4 = u32_field.takes next.0.1 page.0 t3.1 page.1 in
    let t5 = slot_field.takes page.0.1 slot.0 t4.1 slot.1 in
    let t6 = value_field.takes slot.0.1 after.0 t5.1 after.1 in
    subst (TakesRecord (3 ∷ octets)) (same_Some (Clr txn.0.0 prev.0.0 next.0.0 page.0.0 slot.0.0 after.0.0, after.0.1) x after.2)
    (record {
      parts = ap (λ (o : List ℕ). 3 ∷ o) (t1.0 ∙ ap (λ (o : List ℕ). to_be_bytes w64 txn.0.0 ++ o) (t2.0 ∙ ap (λ (o : List ℕ). to_be_bytes w64 prev.0.0 ++ o)
          (t3.0 ∙ ap (λ (o : List ℕ). to_be_bytes w64 next.0.0 ++ o) (t4.0 ∙ ap (λ (o : List ℕ). to_be_bytes w32 page.0.0 ++ o)
          (t5.0 ∙ ap (λ (o : List ℕ). slot.0.0 ∷ o) t6.0)))));
      has_form = (t5.2, t6.2);
      fits = (t1.2, t2.2, t3.2, t4.2);
    })

clr_again : (txn prev next page slot : ℕ) (after : Content) (rest : List ℕ) → txn < 2 ^ 64 → prev < 2 ^ 64 → next < 2 ^ 64 → page < 2 ^ 32 → slot < 32 → IsShort after →
    clr_at (to_be_bytes w64 txn ++ (to_be_bytes w64 prev ++ (to_be_bytes w64 next ++ (to_be_bytes w32 page ++ (slot ∷ (content_spelling after ++ rest))))))
    ≡ Some (Clr txn prev next page slot after, rest)
unfolding clr_at spelling
clr_again txn prev next page slot after rest t p n g s a = grind (arith, bind_is, u64_field, u32_field, slot_field, value_field)

pub record_again : (rec : LogRecord) (rest : List ℕ) → HasForm rec → FitsFields rec → record_at (spelling rec ++ rest) ≡ Some (rec, rest)
unfolding record_at spelling
record_again Begin rest form fits = refl
record_again (Update txn prev page slot before after) rest form fits =
    ap (λ (o : List ℕ). update_at (to_be_bytes w64 txn ++ (to_be_bytes w64 prev ++ (to_be_bytes w32 page ++ (slot ∷ o))))) (append_assoc (content_spelling before) (content_spelling after) rest)
    ∙ update_again txn prev page slot before after rest fits.0 fits.1 fits.2 form.0 form.1 form.2
record_again (Clr txn prev next page slot after) rest form fits = clr_again txn prev next page slot after rest fits.0 fits.1 fits.2 fits.3 form.0 form.1
record_again (Commit txn number) rest form fits = commit_again txn number rest fits.0 fits.1
record_again (End txn) rest form fits = end_again txn rest fits

-- which way a test went
chosen : {A : Type 0} (b : Bool) (x y z : A) → cond b x y ≡ z → ((b ≡ true) × (x ≡ z)) ⊎ ((b ≡ false) × (y ≡ z))
chosen true x y z e = inl (refl, e)
chosen false x y z e = inr (refl, e)

-- read by its kind
record_takes_by : (kind : ℕ) (octets : List ℕ) (x : LogRecord × List ℕ) → IsBytes octets → record_at (kind ∷ octets) ≡ Some x → TakesRecord (kind ∷ octets) x
unfolding record_at spelling
record_takes_by kind octets x fits e = elim (chosen (eqb kind 1) _ _ (Some x) e) [
  | inl (is, here) ↦ subst (λ k. TakesRecord (k ∷ octets) x) (sym (eqb-true kind 1 is))
      (subst (TakesRecord (1 ∷ octets)) (same_Some (Begin, octets) x here) (record { parts = refl; has_form = tt; fits = tt }))
  | inr (not1, e2) ↦ elim (chosen (eqb kind 2) _ _ (Some x) e2) [
    | inl (is, here) ↦ subst (λ k. TakesRecord (k ∷ octets) x) (sym (eqb-true kind 2 is)) (update_takes octets x fits here)
    | inr (not2, e3) ↦ elim (chosen (eqb kind 3) _ _ (Some x) e3) [
      | inl (is, here) ↦ subst (λ k. TakesRecord (k ∷ octets) x) (sym (eqb-true kind 3 is)) (clr_takes octets x fits here)
      | inr (not3, e4) ↦ elim (chosen (eqb kind 4) _ _ (Some x) e4) [
        | inl (is, here) ↦ subst (λ k. TakesRecord (k ∷ octets) x) (sym (eqb-true kind 4 is)) (commit_takes octets x fits here)
        | inr (not4, e5) ↦ elim (chosen (eqb kind 5) _ _ (Some x) e5) [
          | inl (is, here) ↦ subst (λ k. TakesRecord (k ∷ octets) x) (sym (eqb-true kind 5 is)) (end_takes octets x fits here)
          | inr (not5, e6) ↦ absurd cc
        ]
      ]
    ]
  ]
]

pub record_takes : (octets : List ℕ) (x : LogRecord × List ℕ) → IsBytes octets → record_at octets ≡ Some x → TakesRecord octets x
unfolding record_at spelling
record_takes [] x fits e = absurd cc
record_takes (kind ∷ octets) x fits e = record_takes_by kind octets x (λ i. fits (suc i)) e

-- no spelling begins another one
pub spelling_is_one : (a b : LogRecord) (x y : List ℕ) → HasForm a → FitsFields a → HasForm b → FitsFields b →
    spelling a ++ x ≡ spelling b ++ y → (a ≡ b) × (x ≡ y)
spelling_is_one a b x y form fits form' fits' e =
    let same = same_Some (a, x) (b, y) (sym (record_again a x form fits) ∙ ap record_at e ∙ record_again b y form' fits') in
    (ap (λ (p : LogRecord × List ℕ). p.0) same, ap (λ (p : LogRecord × List ℕ). p.1) same)
