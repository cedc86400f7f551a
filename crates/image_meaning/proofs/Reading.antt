-- The groups that a cache knows of.
use Rattle.std.proofs.lemmas.Grind.{common_steps}
use Rattle.image_meaning.proofs.Names.{◌≡◌, ℕ, refl, arith, List, [], ◌∷◌, map, sym, subst, length-map, AllByRecursion, HasFrames, AreSaved, HasGroups, groups_on, Frame, IsGroup, group, frames_in, frames_of, group_shape, units_on, IsFrameOf, AreGroups, AreSegments, Image, Geometry, all_left, all_right, all_weaker}
use Rattle.sealed_ring.proofs.Units.{live_count}
use Rattle.flash_cache.proofs.Segments.{groups_are}
use Rattle.std.specs.Prelude.{length, ◌-◌}

pub spelled_again : (contents : List (List ℕ)) → AllByRecursion (λ content. IsGroup content (frames_in content)) contents → contents ≡ map group (map frames_in contents)
spelled_again [] all = refl
spelled_again (content ∷ contents) all = λ i. all.0.spelled i ∷ spelled_again contents all.1 i

pub each_has : (g : Geometry) (contents : List (List ℕ)) → AllByRecursion (λ content. IsGroup content (frames_in content)) contents → AllByRecursion (IsFrameOf g) (frames_of contents) →
    AllByRecursion (λ frames. HasFrames g frames (group frames)) (map frames_in contents)
each_has g [] all frames = grind (arith, common_steps)
each_has g (content ∷ contents) all frames = grind (arith, common_steps, all_weaker, all_left, all_right, (each_has g contents all.1 (all_right (IsFrameOf g) (frames_in content) (frames_of contents) frames)))

-- and groups of the form are there for a cache to find
pub groups_are_there : (g : Geometry) (image : Image) → AreGroups g image → HasGroups g ((units_on (group_shape g) image).hi - length (units_on (group_shape g) image).live) (groups_on g image) image
groups_are_there g image groups = grind (arith, live_count, length-map, each_has, spelled_again)

-- Segments that follow these groups are the image's.
pub segments_are_read : (g : Geometry) (first : ℕ) (groups : List (List Frame)) (image : Image) → HasGroups g first groups image → AreSaved g groups image → AreSegments g image
segments_are_read g first groups image has saved = subst (λ (l : List (List Frame)). AreSaved g l image) (sym (groups_are g first groups image has)) saved
