-- How many calls find something of the disk loose.
use Rattle.std.proofs.Common.{◌≡◌, ◌+◌, ◌≤◌, ℕ, Bool, true, false, List, [], ◌∷◌, ◌++◌, length, arith, refl, sym, ap, ◌∙◌}
use Rattle.std.specs.Prelude.{◌==◌, not, cond}
use Rattle.std.specs.List.{AllByRecursion}
use Rattle.std.proofs.lemmas.Grind.{common_steps}
use Rattle.std.proofs.lemmas.List.Sums.{sum_by-append}
use Rattle.site.specs.declared.outside.Dev.TheVariants.{Disk}
use Rattle.site.specs.State.{State, Moment, Range, IsSettled}
use Rattle.site.specs.Moments.{SameAt, Untouched, since}
use Rattle.stage_out.specs.Staged.{is_unsynced, unsynced_in}

pub unsynced_join : (first later : List Moment) → unsynced_in (first ++ later) ≡ unsynced_in first + unsynced_in later
unsynced_join = sum_by-append (λ m. cond (is_unsynced m) 1 0)

-- within a call of the disk
pub one_unsynced : (past : List Moment) (m : Moment) → m.telling ≡ [] → 1 ≤ length m.loose.disk → unsynced_in (past ++ m ∷ []) ≡ unsynced_in past + 1
one_unsynced past m telling some = grind (arith, common_steps, unsynced_join)

-- while the disk stays as it is, and nothing of it is loose
none_among : (old : State) (moments : List Moment) → IsSettled Disk old → AllByRecursion (SameAt Disk old) moments → unsynced_in moments ≡ 0
none_among old [] settled all = refl
none_among old (m ∷ moments) settled all = grind (arith, common_steps, (none_among old moments))

pub unsynced_untouched : (old new : State) → IsSettled Disk old → Untouched Disk old new → unsynced_in new.past ≡ unsynced_in old.past
unsynced_untouched old new settled same = grind (arith, common_steps, none_among, unsynced_join)
