-- Stores beside calls of others.
use Rattle.page_store.proofs.Names.{◌≡◌, ◌≢◌, ℕ, ◌*◌, ◌≤◌, List, [], ◌∷◌, arith, sym, ap, subst, ◌∙◌, frame_of, Frame, version_on, RingKept, AreLogged, sealed_end, content_by, stays_honest, Geometry, Log, Flash, Disk, IsSound, IsLogged, end_forced}
use Rattle.page_store.specs.Laws.{GoesOnBeside, FitsBeside, CurrentBeside, AheadBeside, VersionsBeside, LeavesBeside, SealedBeside}
use Rattle.page_store.proofs.PushLaws.{version_same, clean_same, flash_fits_same, flash_holds_same, logged_more, force_leaves, force_sealed}
use Rattle.page_store.proofs.Versions.{pages_later}

pub goes_on_beside : GoesOnBeside
goes_on_beside store old new goes going = pages_later store old new goes going

flash_other : Flash ≢ Log
flash_other same = cc

disk_other : Disk ≢ Log
disk_other same = cc

pub fits_beside : FitsBeside
fits_beside store old new changes goes fits =
    let flash = changes.only.now.content Flash flash_other in
    let disk = changes.only.now.content Disk disk_other in
    let g = store.flash.geometry in
    record {
      flash = flash_fits_same store.flash old new flash (stays_honest old new goes fits.flash.honest) fits.flash;
      groups = fits.groups;
      holds = flash_holds_same store.flash old.image new.image fits.groups flash fits.holds;
      clean = clean_same g old.image new.image flash disk fits.clean;
      sound = λ page exists. subst IsSound (sym (version_same g old.image new.image page flash disk)) (fits.sound page exists);
      unchanged = λ page frame found unchanged. fits.unchanged page frame found unchanged ∙ sym (version_same g old.image new.image page flash disk);
    }

pub current_beside : CurrentBeside
current_beside store old new page changes =
    ap (content_by (frame_of store.pool.frames page))
    (version_same store.flash.geometry old.image new.image page (changes.only.now.content Flash flash_other) (changes.only.now.content Disk disk_other))

all_more : (end end' : ℕ) → end ≤ end' → (frames : List Frame) → AreLogged end frames → AreLogged end' frames
all_more end end' more [] all = tt
all_more end end' more (f ∷ fs) all = (logged_more end end' f.content more all.0, all_more end end' more fs all.1)

pub ahead_beside : AheadBeside
ahead_beside store log log' old new geometry geometry' fits fits' hi end changes ahead =
    let g = store.flash.geometry in
    let before : 512 * log.ring.hi ≡ sealed_end g old.image = ap (λ (n : ℕ). 512 * n) fits.hi ∙ ap (λ (h : Geometry). sealed_end h old.image) geometry in
    let after : 512 * log'.ring.hi ≡ sealed_end g new.image = ap (λ (n : ℕ). 512 * n) fits'.hi ∙ ap (λ (h : Geometry). sealed_end h new.image) (geometry' ∙ geometry) in
    record {
      pool = all_more (end_forced log) (end_forced log') end store.pool.frames ahead.pool;
      versions = record {
        each = λ page exists. logged_more (sealed_end g old.image) (sealed_end g new.image) (version_on g new.image page) (omega (arith, before, after, hi))
            (subst (IsLogged (sealed_end g old.image)) (sym (version_same g old.image new.image page (changes.only.now.content Flash flash_other) (changes.only.now.content Disk disk_other)))
            (ahead.versions.each page exists));
      };
    }

pub versions_beside : VersionsBeside
versions_beside g old new page changes = version_same g old.image new.image page (changes.only.now.content Flash flash_other) (changes.only.now.content Disk disk_other)

pub leaves_beside : RingKept → LeavesBeside
leaves_beside law g sealing list given old new quiet queue clean changes leaves front = force_leaves g sealing list old new leaves changes quiet law front queue given clean

pub sealed_beside : SealedBeside
sealed_beside g sealing list old new quiet has sealed changes leaves = force_sealed g sealing list old new leaves changes quiet has sealed
