-- A page that is packed anew: the first slots are carried over, the others are empty as yet.
use Rattle.std.proofs.Common.{◌≡◌, ◌≢◌, ℕ, ◌+◌, ◌<◌, ◌≤◌, List, get_or, take, replicate, Option, None, sym, ap, ◌∙◌, arith, ⊎_elim, subst}
use Rattle.std.proofs.lemmas.List.{get_or-replicate, take_all}
use Rattle.std.proofs.lemmas.List.Sums.{sum_by_more, sum_by_more_le}
use Rattle.std.proofs.lemmas.Bool.{cases_eq}
use Rattle.slotted_page.specs.Layout.{lsn_of, used_of, slots_of, content_of, content_length, total_length, IsSound}
use Rattle.slotted_page.specs.Changes.{Sets}
use Rattle.slotted_page.proofs.Slots.{length-slots_of, get_or-slots_of, same_slots}

pub record Carried (old new : List ℕ) (slot : ℕ) : Type 0 where
  pub sound : IsSound new
  pub done : (k : ℕ) → k < slot → content_of new k ≡ content_of old k
  pub left : (k : ℕ) → slot ≤ k → k < 32 → content_of new k ≡ None
  pub lsn : lsn_of new ≡ lsn_of old
  pub used : used_of new ≡ total_length (take slot (slots_of old))

-- before the first slot
pub none_carried : (old new : List ℕ) → IsSound new → slots_of new ≡ replicate 32 None → used_of new ≡ 0 → lsn_of new ≡ lsn_of old → Carried old new 0
none_carried old new sound slots used lsn = record {
  sound = sound;
  done = λ k less. absurd (omega (arith, less));
  left = λ k _ below. sym (get_or-slots_of new k None below)
      ∙ ap (λ (xs : List (Option (List ℕ))). get_or xs k None) slots ∙ get_or-replicate 32 k None None below;
  lsn = lsn;
  used = used;
}

-- the next slot's value has room
pub next_has_room : (old new : List ℕ) (slot : ℕ) → Carried old new slot → slot < 32 → total_length (slots_of old) ≤ 3952
    → used_of new + content_length (content_of old slot) ≤ 3952
next_has_room old new slot carried below room = omega (
  arith,
  carried.used,
  room,
  sum_by_more_le content_length (slots_of old) slot None (omega (arith, below, length-slots_of old)),
  ap content_length (get_or-slots_of old slot None below),
)

-- one slot more
pub one_carried : (old mid new : List ℕ) (slot : ℕ) → Carried old mid slot → slot < 32 → Sets mid new slot (content_of old slot)
    → used_of new ≡ used_of mid + content_length (content_of old slot) → Carried old new (slot + 1)
one_carried old mid new slot carried below sets used = record {
  sound = sets.sound;
  done = λ k less. ⊎_elim
      (λ (here : k ≡ slot). let P : ℕ → Type 0 = λ n. content_of new n ≡ content_of old n in subst P (sym here) sets.own)
      (λ (other : k ≢ slot). sets.others k (omega (arith, less, below)) other ∙ carried.done k (omega (arith, less, other)))
      (cases_eq k slot);
  left = λ k more inside. sets.others k inside (λ (same : k ≡ slot). omega (arith, more, same)) ∙ carried.left k (omega (arith, more)) inside;
  lsn = sets.lsn ∙ carried.lsn;
  used = omega (
    arith,
    used,
    carried.used,
    sum_by_more content_length (slots_of old) slot None (omega (arith, below, length-slots_of old)),
    ap content_length (get_or-slots_of old slot None below),
  );
}

-- all slots
pub all_carried_slots : (old new : List ℕ) (slot : ℕ) → Carried old new slot → 32 ≤ slot → slots_of new ≡ slots_of old
all_carried_slots old new slot carried all = same_slots old new (λ k below. carried.done k (omega (arith, all, below)))

pub all_carried_used : (old new : List ℕ) (slot : ℕ) → Carried old new slot → 32 ≤ slot → used_of new ≡ total_length (slots_of old)
all_carried_used old new slot carried all =
    carried.used ∙ ap total_length (take_all slot (slots_of old) (omega (arith, all, length-slots_of old)))
