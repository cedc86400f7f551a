-- No two sessions have one Begin, and each session's records stand in the log, once a session has written.
use Rattle.txn_table.proofs.Names.{◌≡◌, ◌≢◌, ℕ, ◌<◌, ◌≤◌, List, Option, Some, ⊎_elim, sym, ap, subst, ◌∙◌, arith, cases_eq, same_Some, entry_of, ChangesOnly, after_write, Active}

abbrev pub AreApart : List Active → Type 0
AreApart active = (n m : ℕ) (a b : Active) → entry_of active n ≡ Some a → entry_of active m ≡ Some b → a.begin ≡ b.begin → n ≡ m

abbrev pub StandBelow : List Active → ℕ → Type 0
StandBelow active end = (n : ℕ) (entry : Active) → entry_of active n ≡ Some entry → (entry.begin ≤ entry.last) × (entry.last < end)

-- another session's Begin is another one than this entry's
abbrev OthersDiffer : List Active → ℕ → Option Active → Type 0
OthersDiffer old n o = (own : Active) → o ≡ Some own → (m : ℕ) (other : Active) → m ≢ n → entry_of old m ≡ Some other → other.begin ≢ own.begin

apart_changed : (old new : List Active) (n : ℕ) (o : Option Active) → AreApart old → ChangesOnly old new n o → OthersDiffer old n o → AreApart new
apart_changed old new n o differ changes others i j a b at_i at_j same =
    ⊎_elim
    (λ (i_is : i ≡ n). ⊎_elim
    (λ (j_is : j ≡ n). i_is ∙ sym j_is)
    (λ j_not. absurd (others a (own i a i_is at_i) j b j_not (sym (changes.others j j_not) ∙ at_j) (sym same)))
    (cases_eq j n))
    (λ i_not. ⊎_elim
    (λ (j_is : j ≡ n). absurd (others b (own j b j_is at_j) i a i_not (sym (changes.others i i_not) ∙ at_i) same))
    (λ j_not. differ i j a b (sym (changes.others i i_not) ∙ at_i) (sym (changes.others j j_not) ∙ at_j) same)
    (cases_eq j n))
    (cases_eq i n)
  where
    own : (m : ℕ) (x : Active) → m ≡ n → entry_of new m ≡ Some x → o ≡ Some x
    own m x is at = sym changes.own ∙ ap (entry_of new) (sym is) ∙ at

-- a session writes
pub apart_wrote : (old new : List Active) (n lsn : ℕ) (entry : Active) → AreApart old → entry_of old n ≡ Some entry → ChangesOnly old new n (Some (after_write entry lsn)) → AreApart new
apart_wrote old new n lsn entry differ at changes =
    apart_changed old new n (Some (after_write entry lsn)) differ changes (λ own is m other m_not at_m same.
    m_not (differ m n other entry at_m at (same ∙ sym (ap (λ (e : Active). e.begin) (same_Some (after_write entry lsn) own is)))))

below_changed : (old new : List Active) (n end later : ℕ) (o : Option Active) → StandBelow old end → ChangesOnly old new n o → end ≤ later → ((own : Active) → o ≡ Some own → (own.begin ≤ own.last) × (own.last < later)) → StandBelow new later
below_changed old new n end later o below changes rises own i entry at =
    ⊎_elim
    (λ (i_is : i ≡ n). own entry (sym changes.own ∙ ap (entry_of new) (sym i_is) ∙ at))
    (λ i_not. let stands = below i entry (sym (changes.others i i_not) ∙ at) in (stands.0, omega (arith, stands.1, rises)))
    (cases_eq i n)

pub below_wrote : (old new : List Active) (n end later lsn : ℕ) (entry : Active) → StandBelow old end → entry_of old n ≡ Some entry → ChangesOnly old new n (Some (after_write entry lsn)) → end ≤ lsn → lsn < later → StandBelow new later
below_wrote old new n end later lsn entry below at changes behind last =
    let stands = below n entry at in
    below_changed old new n end later (Some (after_write entry lsn)) below changes (omega (arith, behind, last))
    (λ own is. subst (λ (e : Active). (e.begin ≤ e.last) × (e.last < later)) (same_Some (after_write entry lsn) own is) (omega (arith, stands.0, stands.1, behind), last))
