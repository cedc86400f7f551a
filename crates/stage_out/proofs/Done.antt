-- What staging has done to the devices.
use Rattle.std.proofs.Common.{◌≡◌, ◌≢◌, ℕ, suc, ◌<◌, List, [], ◌∷◌, length, get_or, refl, sym, ap, subst, arith}
use Rattle.std.specs.List.{All, AllByRecursion}
use Rattle.site.specs.declared.outside.Dev.{Dev}
use Rattle.site.specs.declared.outside.Dev.TheVariants.{Log, Flash, Disk}
use Rattle.site.specs.declared.geometry.Geometry.{Geometry}
use Rattle.site.specs.Geometry.{HasLengths}
use Rattle.site.specs.State.{State, Image, Snapshot, Range, MayStand, MayLeave, content_of, loose_of, is_loose, now_of, IsQuiet, IsSettled}
use Rattle.site.specs.Moments.{LeavesOnly, ChangesOnly, Leaves}
use Rattle.site.proofs.Laws.{leaves_weaker, leaves_others_too, settled_is, quiet_settled, in_sequence, changes_in_sequence, unchanged}
use Rattle.sealed_ring.specs.Ring.{IsRing, units_of}
use Rattle.disk_pages.specs.Pages.{LiesOn}
use Rattle.image_changes.specs.Rings.{RingName, Masters, Blocks, Groups, Segments, shape_of, KeepsUnits}
use Rattle.image_changes.specs.Changes.{RewritesPages, Rewrites, Reaches, SameSizes}
use Rattle.image_changes.specs.Reached.{IsReached, LeavesFront, IsFrontOf}
use Rattle.image_changes.proofs.Adding.{none_made}
use Rattle.image_changes.proofs.Sequence.{reads_itself}
use Rattle.stage_out.specs.Staged.{IsBesideAll, LeavesBeside, LeavesStaged, HasLeft, HasWritten, HasStaged, changes_of}

pub left_staged : (pages : List ℕ) (old new : State) → HasLeft pages old new → LeavesOnly old new (LeavesStaged pages old)
left_staged pages old new left =
    leaves_weaker old new _ (LeavesStaged pages old) (λ s p. record { told = p.1; others = p.2; disk = p.0 })
    (leaves_others_too Disk old new (LeavesBeside pages old) left.any_moment left.changes.only)

-- images with the same log and flash, which differ on the disk at most on these pages
module _ (g : Geometry) (pages : List ℕ) (old now : Image) (lengths : HasLengths g old) (lie : All (λ page. LiesOn page old.disk) pages)
    (others : (d : Dev) → d ≢ Disk → content_of d now ≡ content_of d old) (size : length now.disk ≡ length old.disk)
    (beside : (place : ℕ) → IsBesideAll pages place → get_or now.disk place 0 ≡ get_or old.disk place 0) where
  log : now.log ≡ old.log
  log = others Log (λ h. cc)

  flash : now.flash ≡ old.flash
  flash = others Flash (λ h. cc)

  keeps : (ring : RingName) → KeepsUnits (shape_of g ring) old now
  keeps Masters = record { units = ap (units_of (shape_of g Masters)) log; form = λ form. subst (IsRing (shape_of g Masters)) (sym log) form }
  keeps Blocks = record { units = ap (units_of (shape_of g Blocks)) log; form = λ form. subst (IsRing (shape_of g Blocks)) (sym log) form }
  keeps Groups = record { units = ap (units_of (shape_of g Groups)) flash; form = λ form. subst (IsRing (shape_of g Groups)) (sym flash) form }
  keeps Segments = record { units = ap (units_of (shape_of g Segments)) flash; form = λ form. subst (IsRing (shape_of g Segments)) (sym flash) form }

  sizes : SameSizes old now
  sizes Log = ap length log
  sizes Flash = ap length flash
  sizes Disk = size

  exist : (ps : List ℕ) → All (λ page. LiesOn page old.disk) ps → AllByRecursion (λ page. page < g.pages) ps
  exist [] all = tt
  exist (p ∷ ps) all = (let first = all 0 0 (omega arith) in omega (arith, first, lengths.disk), exist ps (λ k d lt. all (suc k) d (omega (arith, lt))))

  rewrites : Rewrites g pages old now
  rewrites = record { sizes = sizes; rings = keeps; exist = exist pages lie; others = beside }

  pub reaches : Reaches g (RewritesPages pages ∷ []) old now
  reaches = (now, rewrites, reads_itself g now)

-- a settled device stays as it was
pub same_there : (d : Dev) (old : State) (s : Snapshot) → IsSettled d old → MayStand (loose_of d old.loose) (content_of d old.image) (content_of d s.image) → content_of d s.image ≡ content_of d old.image
same_there d old s settled may = settled_is (content_of d old.image) (content_of d s.image) (subst (λ (rs : List Range). MayStand rs (content_of d old.image) (content_of d s.image)) settled may)

-- where there is a page, the pages are rewritten
pub changes_some : (pages : List ℕ) → 0 < length pages → changes_of pages ≡ RewritesPages pages ∷ []
changes_some [] some = absurd (omega arith)
changes_some (page ∷ pages) some = refl

-- of a quiet site a crash leaves the rewritten pages
pub front : (g : Geometry) (pages : List ℕ) (old new : State) → 0 < length pages → HasLengths g old.image → All (λ p. LiesOn p old.image.disk) pages → IsQuiet old → LeavesOnly old new (LeavesStaged pages old) → LeavesFront g (changes_of pages) old new
front g pages old new some lengths lie quiet leaves =
    leaves_weaker old new (LeavesStaged pages old) (IsReached g (IsFrontOf (changes_of pages)) old) (λ s left. record {
      told = left.told;
      changes = RewritesPages pages ∷ [];
      made = ([], changes_some pages some);
      reaches = reaches g pages old.image s.image lengths lie (λ d ne. same_there d old s (quiet_settled d old quiet) (left.others d ne)) left.disk.size
          (λ place out. left.disk.beside place out (ap (λ (rs : List Range). is_loose rs place) (quiet_settled Disk old quiet)));
    }) leaves

-- and where it stays as it is, none of them
pub none_front : (g : Geometry) (pages : List ℕ) (site : State) → IsQuiet site → LeavesFront g (changes_of pages) site site
none_front g pages site quiet = none_made g (IsFrontOf (changes_of pages)) site site quiet (changes_of pages, refl) (unchanged site)

-- what was staged
pub staged : (pages : List ℕ) (contents : List (List ℕ)) (old mid new : State) → HasWritten pages contents (length pages) old mid → new.image ≡ mid.image → HasStaged pages contents old.image.disk new.image.disk
staged pages contents old mid new written same = grind arith

pub staged_reaches : (g : Geometry) (pages : List ℕ) (contents : List (List ℕ)) (old new : State) → 0 < length pages → HasLengths g old.image → All (λ p. LiesOn p old.image.disk) pages → ChangesOnly Disk old new
    → HasStaged pages contents old.image.disk new.image.disk → Reaches g (changes_of pages) old.image new.image
staged_reaches g pages contents old new some lengths lie changes staged = grind (arith, changes_some, reaches, staged)

-- the sync behind the writes
pub sync_left : (pages : List ℕ) (old mid new : State) → HasLeft pages old mid → ChangesOnly Disk mid new → LeavesOnly mid new (MayLeave (now_of mid)) → HasLeft pages old new
sync_left pages old mid new left changes moments = record {
  any_moment = in_sequence old mid new (Leaves (LeavesBeside pages old)) left.any_moment (leaves_weaker mid new (MayLeave (now_of mid)) (LeavesBeside pages old) left.any_moment.now moments);
  changes = changes_in_sequence Disk old mid new left.changes changes;
}
