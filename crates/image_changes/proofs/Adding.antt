-- What crashes leave of calls in sequence.
use Rattle.std.proofs.Common.{◌≡◌, List, [], ◌++◌, refl, sym, ◌∙◌, ap, append_assoc}
use Rattle.site.specs.declared.geometry.Geometry.{Geometry}
use Rattle.site.specs.State.{State, IsQuiet}
use Rattle.site.specs.Calls.{IsUnchanged}
use Rattle.site.specs.Moments.{Leaves}
use Rattle.site.proofs.Laws.{in_sequence, leaves_weaker, quiet_leaves, no_call, unchanged_calm}
use Rattle.image_changes.specs.Changes.{Change, Reaches}
use Rattle.image_changes.specs.Reached.{IsReached, LeavesReached, IsFrontOf}
use Rattle.image_changes.specs.Laws.{FrontsAddUp}
use Rattle.image_changes.proofs.Sequence.{changes_add_up, reads_itself}
use Rattle.std.proofs.Common.{subst}

-- what may have been made may have been made by a longer list of calls too
pub made_weaker : (g : Geometry) (may all : List Change → Type 0) (a b : State) → ((changes : List Change) → may changes → all changes) → LeavesReached g may a b → LeavesReached g all a b
made_weaker g may all a b weaker so_far = leaves_weaker a b (IsReached g may a) (IsReached g all a) (λ snapshot is. record { told = is.told; changes = is.changes; made = weaker is.changes is.made; reaches = is.reaches }) so_far

-- A call that has made its changes, and the next one. What either may leave, the two together may.
pub calls_add_up : (g : Geometry) (may next all : List Change → Type 0) (first : List Change) (a b c : State) →
    LeavesReached g may a b → Reaches g first a.image b.image → b.told ≡ a.told → LeavesReached g next b c →
    ((changes : List Change) → may changes → all changes) → ((changes : List Change) → next changes → all (first ++ changes)) → LeavesReached g all a c
calls_add_up g may next all first a b c so_far made told later before behind =
    in_sequence a b c (Leaves (IsReached g all a)) (made_weaker g may all a b before so_far)
    (leaves_weaker b c (IsReached g next b) (IsReached g all a) (λ snapshot is. record {
      told = is.told ∙ told;
      changes = first ++ is.changes;
      made = behind is.changes is.made;
      reaches = changes_add_up g first is.changes a.image b.image snapshot.image made is.reaches;
    }) later)

pub fronts_add_up : FrontsAddUp
fronts_add_up g first second a b c so_far made told later =
    calls_add_up g (IsFrontOf first) (IsFrontOf second) (IsFrontOf (first ++ second)) first a b c so_far made told later
    (λ changes front. (front.0 ++ second, ap (λ (l : List Change). l ++ second) front.1 ∙ append_assoc changes front.0 second))
    (λ changes front. (front.0, ap (λ (l : List Change). first ++ l) front.1 ∙ sym (append_assoc first changes front.0)))

-- where a quiet site stays as it is, no change was made
pub none_made : (g : Geometry) (may : List Change → Type 0) (a b : State) → IsQuiet a → may [] → IsUnchanged a b → LeavesReached g may a b
none_made g may a b quiet none same =
    unchanged_calm a a b (Leaves (IsReached g may a)) (no_call a (Leaves (IsReached g may a)) (λ snapshot left.
    let is = quiet_leaves a snapshot quiet left in
    subst (IsReached g may a) (sym is) (record { told = refl; changes = []; made = none; reaches = reads_itself g a.image }))) same
