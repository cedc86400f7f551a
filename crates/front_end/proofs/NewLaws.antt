-- What `new` tells after it has only read.
use Rattle.std.proofs.Common.{◌≡◌, inl, inr, ⊎_elim, ◌++◌, ℕ, List, take, refl, arith, le_trans, ◌∙◌, ap, subst, IsTrue}
use Rattle.std.specs.Prelude.{Result}
use Rattle.site.specs.declared.geometry.Geometry.{Geometry}
use Rattle.site.specs.declared.outside.Failed.{Failed as CallFailed}
use Rattle.site.specs.State.{State, Moment}
use Rattle.site.specs.Geometry.{HasLengths}
use Rattle.site.specs.Calls.{Preserves, IsUnchanged, SameReads}
use Rattle.site.specs.Moments.{EachMoment}
use Rattle.site.specs.Telling.{HandsLine, HandsRest, TellsPart}
use Rattle.site.proofs.Laws.{stays_honest, no_call, in_sequence, each_weaker, unchanged_calm, unchanged_devices, devices_in_sequence}
use Rattle.front_end.specs.declared.new_database.Unfit.{Unfit}
use Rattle.front_end.specs.declared.new_database.Unfit.TheVariants.{Foreign, Failed, NotBlank}
use Rattle.front_end.specs.New.{New, IsAnswer, IsUnfit, ReadsOnce, unfit_status}
use Rattle.front_end.specs.Tells.{Tells}
use Rattle.front_end.proofs.Endings.{ends_with}
use Rattle.front_end.proofs.Replies.{nothing_told}

part_of : (line : List ℕ) (old mid : State) → IsUnchanged old mid → (m : Moment) → TellsPart line mid m → TellsPart line old m
part_of line old mid same m part = record {
  image = part.image ∙ same.image;
  loose = part.loose ∙ same.loose;
  told = λ j. let front = part.told j in (front.0, front.1 ∙ ap (λ (t : List ℕ). t ++ take front.0 line) same.told);
}

-- a line that is told after calls that only read
pub moments : (line : List ℕ) (old mid new : State) → IsUnchanged old mid → EachMoment mid new (TellsPart line mid) → EachMoment old new (TellsPart line old)
moments line old mid new same told =
    in_sequence old mid new (TellsPart line old)
    (unchanged_calm old old mid (TellsPart line old) (no_call old (TellsPart line old) (nothing_told line old)) same)
    (each_weaker mid new (TellsPart line mid) (TellsPart line old) (part_of line old mid same) told)

hands_behind : (line : List ℕ) (old mid new : State) → IsUnchanged old mid → EachMoment mid new (HandsRest line mid) → EachMoment old new (HandsRest line old)
hands_behind line old mid new same hands =
    in_sequence old mid new (HandsRest line old)
    (unchanged_calm old old mid (HandsRest line old) (no_call old (HandsRest line old) (inl refl)) same)
    (each_weaker mid new (HandsRest line mid) (HandsRest line old) (λ (m : Moment) h. ⊎_elim (λ none. inl none) (λ rest. inr (subst (λ (t : List ℕ). HandsLine line t m) same.told rest)) h) hands)

-- after an error of telling nothing is said of all of the line
pub answered : {T : Type 0} (g : Geometry) (old mid new : State) (line : List ℕ) (status : ℕ) (result : Result T CallFailed) → Preserves old mid → (IsTrue old.honest → IsUnchanged old mid) → ((HasLengths g old.image → ⊥) → SameReads old mid) → ReadsOnce old mid → Tells line mid new result
    → IsAnswer g status line old new → (IsTrue old.honest → status ≡ 0 → new.told ≡ mid.told ++ line) → New g old new status
answered g old mid new line status result goes same unread few tells answer ready = record {
  line = line;
  answer = answer;
  any_moment = λ honest. moments line old mid new (same honest) (tells.any_moment (stays_honest old mid goes honest));
  hands = λ honest. hands_behind line old mid new (same honest) (tells.hands (stays_honest old mid goes honest));
  devices = λ honest. devices_in_sequence old mid new (unchanged_devices old mid (same honest)) (tells.devices (stays_honest old mid goes honest));
  unread = λ none dev. tells.reads dev ∙ unread none dev;
  few = λ dev. let one = few dev in let same = tells.reads dev in omega (arith, one, same);
  ends = λ honest. ends_with old.told line old mid new result goes (stays_honest old mid goes honest) (same honest).told tells;
  ready = λ honest done. ready honest done ∙ ap (λ (t : List ℕ). t ++ line) (same honest).told;
}

-- what was found stays so while the line is told
pub unfit_stays : (unfit : Unfit) (g : Geometry) (old mid new : State) → IsUnfit unfit g old mid → Preserves mid new → IsUnfit unfit g old new
unfit_stays Foreign g old mid new why goes = why
unfit_stays (Failed dev) g old mid new why goes = (why.0, le_trans why.1 (goes.faults dev))
unfit_stays (NotBlank dev place) g old mid new why goes = why

pub not_done : (unfit : Unfit) → unfit_status unfit ≡ 0 → ⊥
not_done Foreign zero = absurd (omega (arith, zero))
not_done (Failed dev) zero = absurd (omega (arith, zero))
not_done (NotBlank dev place) zero = absurd (omega (arith, zero))
