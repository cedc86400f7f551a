use Rattle.std.proofs.Common.{◌∙◌, subst}
use Rattle.site.specs.declared.geometry.Geometry.{Geometry}
use Rattle.site.specs.Geometry.{HasLengths}
use Rattle.mem_site.specs.MemState.{image_of}
use Rattle.redo_undo_tests.proofs.tests.a_commit_outlives_a_crash.Goals as goal

pub crashed-site-requires : goal.crashed-site-requires
crashed-site-requires g c =
    subst (λ (k : Geometry). HasLengths k (image_of c.commit.new.site)) (c.commit.ensures.works.sizes ∙ c.in_ok-store.ensures.sizes) c.in_ok-commit.ensures.works.going.both.pages_going.flash.lengths
