-- What an append of a master's unit leaves, and what it has done.
use Rattle.checkpoint.proofs.Names.{◌≡◌, ◌⊎◌, inl, inr, ⊎_elim, ℕ, List, [], ◌∷◌, Result, Ok, Err, refl, ap, ◌∙◌, subst, HasMaster, LeavesMaster, Master, Masters, master_shape, units_on, region, IsReady, LeavesOldOrNew, IsRing, SameOutside, units_of, appended, Ring, Shape, leaves_weaker, leaves_others_too, Preserves, State, Snapshot, IsQuiet, Log}
use Rattle.std.specs.Prelude.{OnOk}
use Rattle.site.specs.declared.geometry.Geometry.{Geometry}
use Rattle.site.specs.Geometry.{HasLimits, HasLengths}
use Rattle.site.specs.Moments.{LeavesOnly, OnlyDevice}
use Rattle.image_changes.specs.Changes.{AppendsMaster, ReadsAs, Appends, Reaches}
use Rattle.image_changes.specs.Reached.{IsReached, IsFrontOf, LeavesFront}
use Rattle.image_changes.specs.Laws.{KeepsOrAppends}
use Rattle.image_changes.proofs.AppendLaws.{append_makes, append_done}
use Rattle.checkpoint.specs.Units.{unit, IsUnit}
use Rattle.checkpoint.proofs.UnitParts.{length-unit}
use Rattle.checkpoint.proofs.Standing.{appended_is, same_units}
use Rattle.image_changes.proofs.Sequence.{reads_itself}

pub ok_three : {T E : Type 0} (result : Result T E) (P Q R S : Type 0) → (P → Q → R → S) → OnOk result P → OnOk result Q → OnOk result R → OnOk result S
ok_three (Ok x) P Q R S f p q r = f p q r
ok_three (Err e) P Q R S f p q r = tt

module _ (ring : Ring) (old new : State) (content : List ℕ) (m : Master) (shape : ring.shape ≡ master_shape) (is : IsUnit content m) where
  pub stands_as : units_of ring.shape (region ring.shape new) ≡ appended ring.shape (units_of ring.shape (region ring.shape old)) content →
      units_on master_shape new.image ≡ appended master_shape (units_on master_shape old.image) (unit m)
  stands_as stands =
      subst (λ (s : Shape). units_of s (region s new) ≡ appended s (units_of s (region s old)) content) shape stands ∙ ap (appended master_shape (units_on master_shape old.image)) is.spelled

  is_unit : IsUnit (unit m) m
  is_unit = subst (λ (l : List ℕ). IsUnit l m) is.spelled is

  pub master_is : units_of ring.shape (region ring.shape new) ≡ appended ring.shape (units_of ring.shape (region ring.shape old)) content → HasMaster new.image m
  master_is stands = appended_is new.image (units_on master_shape old.image) (unit m) m is_unit (stands_as stands)

  pub beside_as : SameOutside ring.shape (region ring.shape old) (region ring.shape new) → SameOutside master_shape old.image.log new.image.log
  beside_as outside = subst (λ (s : Shape). SameOutside s (region s old) (region s new)) shape outside

  module _ (leaves : LeavesOnly old new (LeavesOldOrNew ring.shape (region ring.shape old) content)) (only : OnlyDevice ring.shape.dev old new) where
    leaves_log : LeavesOnly old new (LeavesOldOrNew master_shape old.image.log (unit m))
    leaves_log = subst (λ (l : List ℕ). LeavesOnly old new (LeavesOldOrNew master_shape old.image.log l)) is.spelled
        (subst (λ (s : Shape). LeavesOnly old new (LeavesOldOrNew s (region s old) content)) shape leaves)

    only_log : OnlyDevice Log old new
    only_log = subst (λ (s : Shape). OnlyDevice s.dev old new) shape only

    pub saved_moments : LeavesOnly old new (LeavesMaster old m)
    saved_moments = leaves_weaker old new _ (LeavesMaster old m) (λ snapshot p. record {
      told = p.1;
      form = p.0.form;
      either = ⊎_elim (λ same. inl (same_units old.image snapshot.image same)) (λ more. inr (appended_is snapshot.image (units_on master_shape old.image) (unit m) m is_unit more)) p.0.units;
      beside = p.0.outside;
      others = p.2;
    }) (leaves_others_too Log old new (LeavesOldOrNew master_shape old.image.log (unit m)) leaves_log only_log)

    module _ (g : Geometry) (limits : HasLimits g) (lengths : HasLengths g old.image) (quiet : IsQuiet old) where
      either : LeavesOnly old new (KeepsOrAppends g Masters (unit m) old)
      either = append_makes g Masters (unit m) old new limits lengths quiet (length-unit m is.few) leaves_log only_log

      pub saved_front : LeavesFront g (AppendsMaster (unit m) ∷ []) old new
      saved_front = leaves_weaker old new (KeepsOrAppends g Masters (unit m) old) (IsReached g (IsFrontOf (AppendsMaster (unit m) ∷ [])) old) (λ snapshot k. reached snapshot k k.either) either
        where
          reached : (snapshot : Snapshot) → KeepsOrAppends g Masters (unit m) old snapshot → ReadsAs g old.image snapshot.image ⊎ Appends g Masters (unit m) old.image snapshot.image →
              IsReached g (IsFrontOf (AppendsMaster (unit m) ∷ [])) old snapshot
          reached snapshot k (inl reads) = record { told = k.told; changes = []; made = (AppendsMaster (unit m) ∷ [], refl); reaches = reads }
          reached snapshot k (inr appends) = record { told = k.told; changes = AppendsMaster (unit m) ∷ []; made = ([], refl); reaches = (snapshot.image, appends, reads_itself g snapshot.image) }

  pub saved_reaches : (g : Geometry) → HasLimits g → HasLengths g old.image → OnlyDevice ring.shape.dev old new → Preserves old new → (ring' : Ring) → ring'.shape ≡ ring.shape → IsReady ring' new →
      SameOutside ring.shape (region ring.shape old) (region ring.shape new) → units_of ring.shape (region ring.shape new) ≡ appended ring.shape (units_of ring.shape (region ring.shape old)) content →
      Reaches g (AppendsMaster (unit m) ∷ []) old.image new.image
  saved_reaches g limits lengths only goes ring' same ready outside stands = (
    new.image,
    append_done g Masters (unit m) old new limits lengths (length-unit m is.few) (goes.sizes Log) (subst (λ (s : Shape). IsRing s (region s new)) (same ∙ shape) ready.form)
        (beside_as outside) (subst (λ (s : Shape). OnlyDevice s.dev old new) shape only) (stands_as stands),
    reads_itself g new.image,
  )
