-- The version of a page is read.
use Rattle.page_store.proofs.Names.{arith, ◌≡◌, ℕ, ◌<◌, sym, subst, ◌∙◌, version_on, IsCleanOn, FlashCache, Invariant, Matches, PageStore, has_frame, Preserves, IsUnchanged, State, Image, Geometry, Log, Flash, Disk, IsSound}
use Rattle.flash_cache.proofs.Standing.{rings_later}
use Rattle.page_store.proofs.ToldPages.{told_with}
use Rattle.std.proofs.lemmas.Grind.{common_steps}
use Rattle.flash_cache.specs.Representation as flash_cache

-- the cache goes on after any call
pub flash_later : (cache : FlashCache) (old new : State) → Preserves old new → flash_cache.Invariant cache old → flash_cache.Invariant cache new
flash_later cache old new goes going = record {
  limits = going.limits;
  lengths = record { log = goes.sizes Log ∙ going.lengths.log; flash = goes.sizes Flash ∙ going.lengths.flash; disk = goes.sizes Disk ∙ going.lengths.disk };
  rings = rings_later cache.geometry cache.ring cache.segments old new goes going.rings;
  next = going.next;
  few = going.few;
  sizes = going.sizes;
  exist = going.exist;
}

-- the store with another cache
pub store_with : (store : PageStore) (cache : FlashCache) (old new : State) → cache.geometry ≡ store.flash.geometry → ((n : ℕ) → has_frame cache.directory n ≡ has_frame store.flash.directory n) → flash_cache.Invariant cache new → Invariant store old → Invariant (record store { flash = cache }) new
store_with store cache old new geometry same flash_going going = grind (arith, common_steps, told_with)

pub fits_with : (store : PageStore) (cache : FlashCache) (old new : State) (fits : Matches store old) → cache.geometry ≡ store.flash.geometry → IsUnchanged old new → flash_cache.Matches cache new → flash_cache.Represents cache new.image fits.groups
    → Matches (record store { flash = cache }) new
fits_with store cache old new fits geometry same flash holds = record {
  flash = flash;
  groups = fits.groups;
  holds = holds;
  clean = subst (λ (h : Geometry). IsCleanOn h new.image) (sym geometry) (subst (IsCleanOn store.flash.geometry) (sym same.image) fits.clean);
  sound = λ page exists. subst (λ (h : Geometry). IsSound (version_on h new.image page)) (sym geometry)
      (subst (λ (i : Image). IsSound (version_on store.flash.geometry i page)) (sym same.image) (fits.sound page (subst (λ (h : Geometry). page < h.pages) geometry exists)));
  unchanged = λ page frame found unchanged. fits.unchanged page frame found unchanged ∙ (λ i. version_on (sym geometry i) (sym same.image i) page);
}

-- the store goes on after any call on the site
pub pages_later : (store : PageStore) (old new : State) → Preserves old new → Invariant store old → Invariant store new
pages_later store old new goes going = record { flash = flash_later store.flash old new goes going.flash; own = going.own }
