-- What was found of sizes and rings holds after calls that only read.
use Rattle.std.proofs.lemmas.Grind.{common_steps}
use Rattle.image_form.proofs.Names.{arith, ◌≡◌, sym, ◌∙◌, ap, subst, Option, Some, IfSome, MayRead, AreFound, HasSizes, Rings, usable_later, region, IsUsable, Matches, IsRing, hi_of, Ring, Shape, Preserves, State, Image, content_of, Geometry, Log, Flash, Disk}
use Rattle.sealed_ring.specs.Judged.{IsJudged}

pub fits_later : (ring : Ring) (a b : State) → b.image ≡ a.image → Matches ring a → Matches ring b
fits_later ring a b same fits = fits ∙ ap (λ (image : Image). hi_of ring.shape (content_of ring.shape.dev image)) (sym same)

pub sizes_later : (g : Geometry) (a b : State) → Preserves a b → HasSizes g a.image → HasSizes g b.image
sizes_later g a b goes sizes = record {
  limits = sizes.limits;
  lengths = record {
    log = goes.sizes Log ∙ sizes.lengths.log;
    flash = goes.sizes Flash ∙ sizes.lengths.flash;
    disk = goes.sizes Disk ∙ sizes.lengths.disk;
  };
}

-- a ring that was found

pub judged_some : (s : Shape) (o : Option Ring) (ring : Ring) (site : State) → o ≡ Some ring → IsJudged s o site → IsRing s (region s site) × Matches ring site
judged_some s o ring site is judged = subst (λ (x : Option Ring). IsJudged s x site) is judged

pub usable_some : (o : Option Ring) (ring : Ring) (site : State) → o ≡ Some ring → IfSome o (λ found. IsUsable found site) → IsUsable ring site
usable_some o ring site is usable = subst (λ (x : Option Ring). IfSome x (λ found. IsUsable found site)) is usable

pub shape_some : (s : Shape) (o : Option Ring) (ring : Ring) → o ≡ Some ring → IfSome o (λ found. found.shape ≡ s) → ring.shape ≡ s
shape_some s o ring is shape = subst (λ (x : Option Ring). IfSome x (λ found. found.shape ≡ s)) is shape

-- the four rings

pub may_read_later : (g : Geometry) (rings : Rings) (a b : State) → Preserves a b → MayRead g rings a → MayRead g rings b
may_read_later g rings a b goes may = grind (arith, common_steps, sizes_later, usable_later)

pub found_later : (rings : Rings) (a b : State) → b.image ≡ a.image → AreFound rings a → AreFound rings b
found_later rings a b same found = grind (arith, common_steps, fits_later)
