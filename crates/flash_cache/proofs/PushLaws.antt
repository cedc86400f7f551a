-- Staging and an append, one after the other.
use Rattle.flash_cache.proofs.Names.{◌≡◌, ◌⊎◌, inl, inr, ℕ, List, [], ◌∷◌, ◌++◌, length, sym, ◌∙◌, ap, subst, append_assoc, append-nil, changes_of_push, LeavesPush, LeavesPushBehind, append_makes, changes_add_up, reads_itself, Change, AppendsGroup, Reaches, IsReached, LeavesFront, IsFrontOf, Groups, shape_of, octets_of, LeavesOldOrNew, in_sequence, leaves_weaker, HasLimits, HasLengths, Leaves, LeavesOnly, OnlyDevice, State, Snapshot, IsQuiet, Geometry, HasStaged, changes_of}
use Rattle.image_changes.specs.Laws.{KeepsOrAppends}

module _ (g : Geometry) (pages : List ℕ) (contents : List (List ℕ)) (group : List ℕ) (old : State) where
  -- while pages are staged
  pub stage_only : (mid : State) → LeavesFront g (changes_of pages) old mid → LeavesOnly old mid (LeavesPush g pages contents group old)
  stage_only mid front = leaves_weaker old mid (IsReached g (IsFrontOf (changes_of pages)) old) (LeavesPush g pages contents group old)
      (λ s is. record { told = is.told; either = inl (is.changes, is.made, is.reaches) }) front

  -- while the group is appended
  append_leaves : (mid : State) (s : Snapshot) → Reaches g (changes_of pages) old.image mid.image → HasStaged pages contents old.image.disk mid.image.disk → mid.told ≡ old.told
      → KeepsOrAppends g Groups group mid s → LeavesPush g pages contents group old s
  append_leaves mid s made staged told is = record {
    told = is.told ∙ told;
    either = elim is.either [
      | inl same ↦ inl (
        changes_of pages,
        ([], sym (append-nil (changes_of pages))),
        subst (λ (l : List Change). Reaches g l old.image s.image) (append-nil (changes_of pages)) (changes_add_up g (changes_of pages) [] old.image mid.image s.image made same),
      )
      | inr more ↦ inr (
        subst (HasStaged pages contents old.image.disk) (sym more.disk) staged,
        changes_add_up g (changes_of pages) (AppendsGroup group ∷ []) old.image mid.image s.image made (s.image, more, reads_itself g s.image),
      )
    ];
  }

  pub push_leaves : (mid new : State) → HasLimits g → HasLengths g mid.image → IsQuiet mid → length group ≡ (shape_of g Groups).room
      → LeavesFront g (changes_of pages) old mid → Reaches g (changes_of pages) old.image mid.image → HasStaged pages contents old.image.disk mid.image.disk → mid.told ≡ old.told
      → LeavesOnly mid new (LeavesOldOrNew (shape_of g Groups) (octets_of (shape_of g Groups) mid.image) group) → OnlyDevice (shape_of g Groups).dev mid new
      → LeavesOnly old new (LeavesPush g pages contents group old)
  push_leaves mid new limits lengths quiet room front made staged told leaves only =
      in_sequence old mid new (Leaves (LeavesPush g pages contents group old)) (stage_only mid front)
      (leaves_weaker mid new (KeepsOrAppends g Groups group mid) (LeavesPush g pages contents group old) (λ s is. append_leaves mid s made staged told is)
      (append_makes g Groups group mid new limits lengths quiet room leaves only))

-- at each moment the first of its changes were made
pub push_front : (g : Geometry) (before : List Change) (pages : List ℕ) (contents : List (List ℕ)) (group : List ℕ) (old new : State) → LeavesOnly old new (LeavesPushBehind g before pages contents group old)
    → LeavesFront g (before ++ changes_of_push pages group) old new
push_front g before pages contents group old new leaves =
    leaves_weaker old new (LeavesPushBehind g before pages contents group old) (IsReached g (IsFrontOf (before ++ changes_of_push pages group)) old) (λ s is. one s is.told is.either) leaves
  where
    one : (s : Snapshot) → s.told ≡ old.told
        → (((changes : List Change) × IsFrontOf (before ++ changes_of pages) changes × Reaches g changes old.image s.image)
        ⊎ (HasStaged pages contents old.image.disk s.image.disk × Reaches g (before ++ changes_of_push pages group) old.image s.image))
        → IsReached g (IsFrontOf (before ++ changes_of_push pages group)) old s
    one s told (inl part) = record {
      told = told;
      changes = part.0;
      made = (
        part.1.0 ++ AppendsGroup group ∷ [],
        sym (append_assoc before (changes_of pages) (AppendsGroup group ∷ [])) ∙ ap (λ (l : List Change). l ++ AppendsGroup group ∷ []) part.1.1 ∙ append_assoc part.0 part.1.0 (AppendsGroup group ∷ []),
      );
      reaches = part.2;
    }
    one s told (inr all) = record { told = told; changes = before ++ changes_of_push pages group; made = ([], sym (append-nil (before ++ changes_of_push pages group))); reaches = all.1 }
