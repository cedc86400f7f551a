-- What a session's commands since its begin are.
use Rattle.record_model.proofs.Citing.{◌≡◌, ℕ, Bool, true, false, List, [], ◌∷◌, ◌++◌, append_assoc, Some, inl, inr, refl, ap, sym, ◌∙◌, cases_Bool, and_parts, reverse-append, list_any-append, list_any, ◌&&◌, ◌||◌, filter, reverse, IsTrue, if◌then◌else◌, Line, Turn, is_begin_line, is_accepted_of, since_begin, State, is_accepted, Begin}
use Rattle.std.proofs.lemmas.List.Elements.{filter-append}
use Rattle.record_model.proofs.SerialLists.{not_both}

-- an accepted command of the session
abbrev pub is_own : ℕ → Turn → Bool
is_own n u = is_accepted_of n u.before u.line

abbrev pub begins_own : ℕ → Turn → Bool
begins_own n u = is_own n u && is_begin_line u.line

-- the session's commands are these, of turns that are given with the last one first
pub record IsSince (n : ℕ) (past : List Turn) (own : List Turn) : Type 0 where
  pub before : List Turn
  pub first : Turn
  pub between : List Turn
  pub split : reverse past ≡ before ++ first ∷ between
  pub begins : first.line ≡ Some (Begin n)
  pub is_begun : IsTrue (is_accepted first.before (Begin n))
  pub once : list_any (begins_own n) between ≡ false
  pub whole : own ≡ first ∷ filter (is_own n) between

-- the session's commands begin with its begin
abbrev pub StartsWithBegin : ℕ → List Turn → Type 0
StartsWithBegin n [] = ⊥
StartsWithBegin n (first ∷ rest) = first.line ≡ Some (Begin n)

pub starts_still : (n : ℕ) (own : List Turn) (t : Turn) → StartsWithBegin n own → StartsWithBegin n (own ++ t ∷ [])
starts_still n [] t h = absurd h
starts_still n (first ∷ rest) t h = h

-- One turn more.

reversed : (t : Turn) (past : List Turn) → reverse (t ∷ past) ≡ reverse past ++ t ∷ []
reversed t past = reverse-append (t ∷ []) past

later : (n : ℕ) (t : Turn) (past own own' : List Turn) → begins_own n t ≡ false → own' ≡ own ++ filter (is_own n) (t ∷ []) →
    IsSince n past own → IsSince n (t ∷ past) own'
later n t past own own' no_begin e since = record {
  before = since.before;
  first = since.first;
  between = since.between ++ t ∷ [];
  split = reversed t past ∙ ap (λ (l : List Turn). l ++ t ∷ []) since.split ∙ append_assoc since.before (since.first ∷ since.between) (t ∷ []);
  begins = since.begins;
  is_begun = since.is_begun;
  once = list_any-append (begins_own n) since.between (t ∷ [])
      ∙ ap (λ (b : Bool). b || (begins_own n t || false)) since.once
      ∙ ap (λ (b : Bool). b || false) no_begin;
  whole = e
      ∙ ap (λ (l : List Turn). l ++ filter (is_own n) (t ∷ [])) since.whole
      ∙ ap (λ (l : List Turn). since.first ∷ l) (sym (filter-append (is_own n) since.between (t ∷ [])));
}

of_begin : (n : ℕ) (s : State) (line : Line) → line ≡ Some (Begin n) → is_accepted_of n s line ≡ true → IsTrue (is_accepted s (Begin n))
of_begin n s line e h = (and_parts _ _ (ap (λ (l : Line). is_accepted_of n s l) (sym e) ∙ h)).1

one_kept : (b : Bool) (t : Turn) → b ≡ true → (if b then t ∷ [] else []) ≡ t ∷ []
one_kept true t h = refl
one_kept false t h = absurd cc

none_kept : (b : Bool) (t : Turn) → b ≡ false → ◌≡◌ {A = List Turn} (if b then t ∷ [] else []) []
none_kept true t h = absurd cc
none_kept false t h = refl

nothing_more : (own : List Turn) → own ≡ own ++ []
nothing_more [] = refl
nothing_more (x ∷ own) = ap (λ (l : List Turn). x ∷ l) (nothing_more own)

-- what the turn makes of the session's commands
more : Bool → Bool → Turn → List Turn → List Turn
more own begins t since = if own then (if begins then [] else since) ++ t ∷ [] else since

begun_here : (n : ℕ) (own begins : Bool) (t : Turn) (since : List Turn) → own ≡ true → begins ≡ true → StartsWithBegin n (more own begins t since) →
    (t.line ≡ Some (Begin n)) × (more own begins t since ≡ t ∷ [])
unfolding more
begun_here n true true t since h k starts = (starts, refl)
begun_here n _ _ t since h k starts = absurd cc

begun_before : (n : ℕ) (own begins : Bool) (t : Turn) (since : List Turn) → own ≡ true → begins ≡ false → (t.line ≡ Some (Begin n) → ⊥) → StartsWithBegin n (more own begins t since) →
    StartsWithBegin n since × (more own begins t since ≡ since ++ t ∷ [])
unfolding more
begun_before n true false t [] h k never starts = absurd (never starts)
begun_before n true false t (first ∷ rest) h k never starts = (starts, refl)
begun_before n _ _ t since h k never starts = absurd cc

passed_by : (n : ℕ) (own begins : Bool) (t : Turn) (since : List Turn) → own ≡ false → StartsWithBegin n (more own begins t since) →
    StartsWithBegin n since × (more own begins t since ≡ since)
unfolding more
passed_by n true begins t since h starts = absurd cc
passed_by n false begins t since h starts = (starts, refl)

pub since_is : (n : ℕ) (past : List Turn) → StartsWithBegin n (since_begin n past) → IsSince n past (since_begin n past)
unfolding more
since_is n [] starts = absurd starts
since_is n (t ∷ past) starts = elim (cases_Bool (is_own n t)) [
  | inr h ↦
      let passed = passed_by n (is_own n t) (is_begin_line t.line) t (since_begin n past) h starts in
      later n t past (since_begin n past) _ (ap (λ (b : Bool). b && is_begin_line t.line) h)
      (passed.1 ∙ nothing_more (since_begin n past) ∙ ap (λ (l : List Turn). since_begin n past ++ l) (sym (none_kept _ t h)))
      (since_is n past passed.0)
  | inl h ↦ elim (cases_Bool (is_begin_line t.line)) [
    | inl k ↦
        let here = begun_here n (is_own n t) (is_begin_line t.line) t (since_begin n past) h k starts in
        record {
          before = reverse past;
          first = t;
          between = [];
          split = reversed t past;
          begins = here.0;
          is_begun = of_begin n t.before t.line here.0 h;
          once = refl;
          whole = here.1;
        }
    | inr k ↦
        let before = begun_before n (is_own n t) (is_begin_line t.line) t (since_begin n past) h k (λ e. not_both _ (ap is_begin_line e) k) starts in
        later n t past (since_begin n past) _ (ap (λ (b : Bool). is_own n t && b) k ∙ and_false (is_own n t))
        (before.1 ∙ ap (λ (l : List Turn). since_begin n past ++ l) (sym (one_kept _ t h)))
        (since_is n past before.0)
  ]
]
  where
    and_false : (b : Bool) → (b && false) ≡ false
    and_false true = refl
    and_false false = refl
