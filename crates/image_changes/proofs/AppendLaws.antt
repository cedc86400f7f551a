-- What an append to one of the four rings leaves.
use Rattle.std.proofs.Common.{◌≡◌, ◌≢◌, ◌⊎◌, inl, inr, ℕ, List, length, refl, sym, ◌∙◌, ap, subst, arith}
use Rattle.site.specs.declared.outside.Dev.{Dev}
use Rattle.site.specs.declared.outside.Dev.TheVariants.{Disk}
use Rattle.site.specs.declared.geometry.Geometry.{Geometry}
use Rattle.site.specs.Geometry.{HasLimits, HasLengths}
use Rattle.site.specs.State.{Image, Range, MayStand, content_of}
use Rattle.site.proofs.Laws.{cases_dev, leaves_weaker, leaves_others_too, settled_is, quiet_settled}
use Rattle.sealed_ring.specs.declared.slots.Shape.{Shape}
use Rattle.sealed_ring.specs.Ring.{FitsIn, IsRing, units_of, appended, OldOrNew}
use Rattle.sealed_ring.specs.Ready.{LeavesOldOrNew}
use Rattle.sealed_ring.specs.Laws.{Apart}
use Rattle.sealed_ring.proofs.Others.{leaves_others}
use Rattle.image_changes.specs.Rings.{RingName, Masters, Blocks, Groups, Segments, shape_of, octets_of, units_on, KeepsUnits}
use Rattle.image_changes.specs.Changes.{SameSizes, ReadsAs, Appends}
use Rattle.image_changes.specs.Laws.{KeepsOrAppends, AppendMakes, AppendDone}

-- the rings lie inside their devices
pub ring_fits : (g : Geometry) (image : Image) (ring : RingName) → HasLimits g → HasLengths g image → FitsIn (shape_of g ring) (length (octets_of (shape_of g ring) image))
ring_fits g image Masters limits lengths = let len = lengths.log in record { slots = omega arith; room = omega arith; stride = omega arith; inside = omega (arith, len); addresses = omega arith }
ring_fits g image Blocks limits lengths = let len = lengths.log in let low = limits.blocks in let high = limits.few_blocks in record { slots = omega (arith, low); room = omega arith; stride = omega arith; inside = omega (arith, len); addresses = omega (arith, high) }
ring_fits g image _ limits lengths = let len = lengths.flash in let low = limits.groups in let high = limits.few_groups in record { slots = omega (arith, low); room = omega arith; stride = omega arith; inside = omega (arith, len); addresses = omega (arith, high) }

-- two of them lie apart, or on different devices
pub rings_apart : (g : Geometry) (ring other : RingName) → other ≢ ring → Apart (shape_of g ring) (shape_of g other) ⊎ ((shape_of g other).dev ≢ (shape_of g ring).dev)
rings_apart g Masters Masters ne = absurd (ne refl)
rings_apart g Masters Blocks ne = inl (inl (omega arith))
rings_apart g Blocks Masters ne = inl (inr (omega arith))
rings_apart g Blocks Blocks ne = absurd (ne refl)
rings_apart g Groups Groups ne = absurd (ne refl)
rings_apart g Groups Segments ne = inl (inl (omega arith))
rings_apart g Segments Groups ne = inl (inr (omega arith))
rings_apart g Segments Segments ne = absurd (ne refl)
rings_apart g _ _ ne = inr (λ h. cc)

-- a ring is this one or another
cases_ring : (r ring : RingName) → (r ≡ ring) ⊎ (r ≢ ring)
cases_ring Masters Masters = inl refl
cases_ring Blocks Blocks = inl refl
cases_ring Groups Groups = inl refl
cases_ring Segments Segments = inl refl
cases_ring _ _ = inr (λ h. cc)

-- none of them is on the disk
not_disk : (g : Geometry) (ring : RingName) → Disk ≢ (shape_of g ring).dev
not_disk g Masters = λ h. cc
not_disk g _ = λ h. cc

same_units : (s : Shape) (old new : List ℕ) → new ≡ old → (units_of s new ≡ units_of s old) × (IsRing s old → IsRing s new)
same_units s old new same = (ap (units_of s) same, λ form. subst (IsRing s) (sym same) form)

module _ (g : Geometry) (ring : RingName) (bytes : List ℕ) (old now : Image) (limits : HasLimits g) (lengths : HasLengths g old)
    (o : OldOrNew (shape_of g ring) (octets_of (shape_of g ring) old) bytes (octets_of (shape_of g ring) now))
    (others : (d : Dev) → d ≢ (shape_of g ring).dev → content_of d now ≡ content_of d old) where
  abbrev s : Shape
  s = shape_of g ring

  other_ring : (other : RingName) → other ≢ ring → KeepsUnits (shape_of g other) old now
  other_ring other ne = elim (rings_apart g ring other ne) [
    | inl apart ↦ elim (cases_dev (shape_of g other).dev s.dev) [
      | inl here ↦
          let t = shape_of g other in
          let is : octets_of t old ≡ octets_of s old = ap (λ (d : Dev). content_of d old) here in
          let now_is : octets_of t now ≡ octets_of s now = ap (λ (d : Dev). content_of d now) here in
          let fits : FitsIn t (length (octets_of s old)) = subst (λ (l : List ℕ). FitsIn t (length l)) is (ring_fits g old other limits lengths) in
          let stays = leaves_others s t (octets_of s old) (octets_of s now) apart (ring_fits g old ring limits lengths) fits o.size o.outside in
          record {
            units = ap (units_of t) now_is ∙ stays.0 ∙ ap (units_of t) (sym is);
            form = λ form. subst (IsRing t) (sym now_is) (stays.1 (subst (IsRing t) is form));
          }
      | inr elsewhere ↦ let stays = same_units (shape_of g other) _ _ (others (shape_of g other).dev elsewhere) in record { units = stays.0; form = stays.1 }
    ]
    | inr elsewhere ↦ let stays = same_units (shape_of g other) _ _ (others (shape_of g other).dev elsewhere) in record { units = stays.0; form = stays.1 }
  ]

  sizes : SameSizes old now
  sizes dev = grind arith

  abbrev Grows : Type 0
  Grows = units_on s now ≡ appended s (units_on s old) bytes

  pub appends : length bytes ≡ s.room → Grows → Appends g ring bytes old now
  appends room more = record {
    sizes = sizes;
    room = room;
    form = o.form;
    units = more;
    others = other_ring;
    disk = others Disk (not_disk g ring);
  }

  reads_as : units_on s now ≡ units_on s old → ReadsAs g old now
  reads_as same = record {
    sizes = sizes;
    rings = λ r. elim (cases_ring r ring) [
      | inl is ↦ subst (λ (x : RingName). KeepsUnits (shape_of g x) old now) (sym is) (record { units = same; form = λ form. o.form })
      | inr ne ↦ other_ring r ne
    ];
    disk = others Disk (not_disk g ring);
  }

  pub keeps_or_appends : length bytes ≡ s.room → ReadsAs g old now ⊎ Appends g ring bytes old now
  keeps_or_appends room = elim o.units [ inl same ↦ inl (reads_as same) | inr more ↦ inr (appends room more) ]

pub append_makes : AppendMakes
append_makes g ring bytes old new limits lengths quiet room leaves only =
    leaves_weaker old new _ (KeepsOrAppends g ring bytes old) (λ snapshot p. record {
      told = p.1;
      either = keeps_or_appends g ring bytes old.image snapshot.image limits lengths p.0 (λ d ne. settled_is _ _
          (subst (λ (rs : List Range). MayStand rs (content_of d old.image) (content_of d snapshot.image)) (quiet_settled d old quiet) (p.2 d ne))) room;
    }) (leaves_others_too (shape_of g ring).dev old new (LeavesOldOrNew (shape_of g ring) (octets_of (shape_of g ring) old.image) bytes) leaves only)

pub append_done : AppendDone
append_done g ring bytes old new limits lengths room size form outside only more = grind (arith, appends)
