-- One list of changes after another.
use Rattle.std.proofs.Common.{arith, ◌≢◌, ℕ, List, [], ◌∷◌, ◌++◌, refl, sym, ◌∙◌, ap}
use Rattle.std.specs.Prelude.{Some}
use Rattle.site.specs.declared.geometry.Geometry.{Geometry}
use Rattle.site.specs.State.{Image}
use Rattle.sealed_ring.specs.declared.slots.Shape.{Shape}
use Rattle.image_changes.specs.Rings.{RingName, shape_of, KeepsUnits}
use Rattle.image_changes.specs.Changes.{Change, ring_of, SealsBlock, RewritesPages, SameSizes, ReadsAs, Appends, Rewrites, Makes, Reaches}
use Rattle.image_changes.specs.Laws.{ChangesAddUp, RingKept}

pub units_then : (s : Shape) (a b c : Image) → KeepsUnits s a b → KeepsUnits s b c → KeepsUnits s a c
units_then s a b c first second = record { units = second.units ∙ first.units; form = λ form. second.form (first.form form) }

sizes_then : (a b c : Image) → SameSizes a b → SameSizes b c → SameSizes a c
sizes_then a b c first second = λ dev. second dev ∙ first dev

module _ (g : Geometry) (a b c : Image) (same : ReadsAs g a b) where
  pub reads_then : ReadsAs g b c → ReadsAs g a c
  reads_then next = grind (arith, sizes_then, units_then)

  -- a change of what reads the same is that change
  appends_then : (ring : RingName) (bytes : List ℕ) → Appends g ring bytes b c → Appends g ring bytes a c
  appends_then ring bytes next = grind (arith, sizes_then, units_then)

  rewrites_then : (pages : List ℕ) → Rewrites g pages b c → Rewrites g pages a c
  rewrites_then pages next = grind (arith, sizes_then, units_then)

  makes_then : (change : Change) → Makes g change b c → Makes g change a c
  makes_then (SealsBlock records) next = (next.0, appends_then _ _ next.1)
  makes_then (RewritesPages pages) next = rewrites_then pages next
  makes_then _ next = appends_then _ _ next

read_first : (g : Geometry) (changes : List Change) (a b c : Image) → ReadsAs g a b → Reaches g changes b c → Reaches g changes a c
read_first g [] a b c same next = reads_then g a b c same next
read_first g (change ∷ changes) a b c same next = (next.0, makes_then g a b next.0 same change next.1, next.2)

pub changes_add_up : ChangesAddUp
changes_add_up g [] second a b c first next = read_first g second a b c first next
changes_add_up g (change ∷ changes) second a b c first next = (first.0, first.1, changes_add_up g changes second first.0 b c first.2 next)

-- an image reads as itself
pub reads_itself : (g : Geometry) (image : Image) → ReadsAs g image image
reads_itself g image = record { sizes = λ dev. refl; rings = λ ring. record { units = refl; form = λ form. form }; disk = refl }

-- what each change leaves of a ring that it doesn't append to

kept_by_one : (g : Geometry) (ring : RingName) (change : Change) (a b : Image) → ring_of change ≢ Some ring → Makes g change a b → KeepsUnits (shape_of g ring) a b
kept_by_one g ring (SealsBlock records) a b ne makes = makes.1.others ring (λ is. ne (ap (λ (r : RingName). Some r) (sym is)))
kept_by_one g ring (RewritesPages pages) a b ne makes = makes.rings ring
kept_by_one g ring _ a b ne makes = makes.others ring (λ is. ne (ap (λ (r : RingName). Some r) (sym is)))

pub ring_kept : RingKept
ring_kept g ring [] a b none reads = reads.rings ring
ring_kept g ring (change ∷ changes) a b none reaches = grind (arith, units_then, kept_by_one, (ring_kept g ring changes reaches.0 b none.1 reaches.2))

-- an image is reached by lists of changes one after the other
pub reaches_parts : (g : Geometry) (xs ys : List Change) (a c : Image) → Reaches g (xs ++ ys) a c → (b : Image) × Reaches g xs a b × Reaches g ys b c
reaches_parts g [] ys a c reaches = (a, reads_itself g a, reaches)
reaches_parts g (x ∷ xs) ys a c reaches = let rest = reaches_parts g xs ys reaches.0 c reaches.2 in (rest.0, (reaches.0, reaches.1, rest.1), rest.2)
