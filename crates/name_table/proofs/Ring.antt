-- Places on a ring: what is so many steps up from home, from the last place on to the first.
use Rattle.name_table.proofs.Names.{◌≡◌, ℕ, ◌+◌, ◌<◌, ◌≤◌, inl, inr, sym, ◌∙◌, arith, mod-eq_of_lt, mod-eq-sub-mod, cases_lt, ◌-◌, ◌%◌}

pub around : (n x : ℕ) → n ≤ x → x < n + n → x % n ≡ x - n
around n x over below = let rest : x - n < n = omega arith in mod-eq-sub-mod over ∙ mod-eq_of_lt rest

pub same_steps : (n h d e : ℕ) → h < n → d < n → e < n → (h + d) % n ≡ (h + e) % n → d ≡ e
same_steps n h d e hn dn en same = elim (cases_lt (h + d) n) [
  | inl low ↦ elim (cases_lt (h + e) n) [
    | inl below ↦ let p : h + d ≡ h + e = sym (mod-eq_of_lt low) ∙ same ∙ mod-eq_of_lt below in omega arith
    | inr over ↦ let p : h + d ≡ h + e - n = sym (mod-eq_of_lt low) ∙ same ∙ around n (h + e) over (omega arith) in omega arith
  ]
  | inr high ↦ elim (cases_lt (h + e) n) [
    | inl below ↦ let p : h + d - n ≡ h + e = sym (around n (h + d) high (omega arith)) ∙ same ∙ mod-eq_of_lt below in omega arith
    | inr over ↦
        let p : h + d - n ≡ h + e - n = sym (around n (h + d) high (omega arith)) ∙ same ∙ around n (h + e) over (omega arith) in
        omega arith
  ]
]

-- how many steps a place is from home
pub record StepsTo (n h place : ℕ) : Type 0 where
  pub steps : ℕ
  pub fewer : steps < n
  pub leads : (h + steps) % n ≡ place

pub steps_to : (n h place : ℕ) → h < n → place < n → StepsTo n h place
steps_to n h place hn below = elim (cases_lt place h) [
  | inl under ↦ record {
    steps = place + n - h;
    fewer = omega arith;
    leads = let over : n ≤ h + (place + n - h) = omega arith in
        let e : h + (place + n - h) - n ≡ place = omega arith in
        around n (h + (place + n - h)) over (omega arith) ∙ e;
  }
  | inr above ↦ record {
    steps = place - h;
    fewer = omega arith;
    leads = let low : h + (place - h) < n = omega arith in
        let e : h + (place - h) ≡ place = omega arith in
        mod-eq_of_lt low ∙ e;
  }
]
