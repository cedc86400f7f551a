-- A store that fits its site, at its start and after a change.
use Rattle.std.proofs.lemmas.Grind.{common_steps}
use Rattle.page_store.proofs.Names.{◌≡◌, ◌≢◌, ℕ, ◌<◌, true, false, List, [], ◌∷◌, length, drop, Option, Some, arith, sym, ap, subst, ◌∙◌, ◌⊎◌, inl, inr, cases_eq, none-some, AllByRecursion, Pool, AreDistinct, ChangesFront, frame_of, front_of, ChangesOne, Frame, version_on, IsCleanOn, Stored, IsPage, AreTold, Invariant, Matches, PageStore, State, Image, Geometry, IsSound}
use Rattle.flash_cache.specs.Representation as flash_cache

pub fits_at_start : (store : PageStore) (g : Geometry) (old new : State) (groups : List (List Stored)) → store.flash.geometry ≡ g → store.pool.frames ≡ []
    → new.image ≡ old.image → flash_cache.Matches store.flash new → flash_cache.Represents store.flash new.image groups → IsCleanOn g old.image
    → ((page : ℕ) → page < g.pages → IsSound (version_on g old.image page)) → Matches store new
fits_at_start store g old new groups geometry empty image fits holds clean sound = record {
  flash = fits;
  groups = groups;
  holds = holds;
  clean = subst (λ (i : Image). IsCleanOn store.flash.geometry i) (sym image) (subst (λ (h : Geometry). IsCleanOn h old.image) (sym geometry) clean);
  sound = λ page exists. subst (λ (i : Image). IsSound (version_on store.flash.geometry i page)) (sym image)
      (subst (λ (h : Geometry). IsSound (version_on h old.image page)) (sym geometry) (sound page (subst (λ (h : Geometry). page < h.pages) geometry exists)));
  unchanged = λ page frame found unchanged. absurd (none-some frame (sym (ap (λ (frames : List Frame). frame_of frames page) empty) ∙ found));
}

-- A change of the front.

pub change_fits : (store : PageStore) (pool : Pool) (site : State) → ChangesOne store.pool.frames pool.frames → (front_of pool.frames).changed ≡ true
    → Matches store site → Matches (record store { pool = pool }) site
change_fits store pool site one changed fits = record {
  flash = fits.flash;
  groups = fits.groups;
  holds = fits.holds;
  clean = fits.clean;
  sound = fits.sound;
  unchanged = λ page frame found unchanged. by page frame found unchanged (cases_eq page (front_of store.pool.frames).page);
}
  where
    by : (page : ℕ) (frame : Frame) → frame_of pool.frames page ≡ Some frame → frame.changed ≡ false
        → (page ≡ (front_of store.pool.frames).page) ⊎ (page ≢ (front_of store.pool.frames).page) → frame.content ≡ version_on store.flash.geometry site.image page
    by page frame found unchanged (inl same) =
        let own : Some (front_of pool.frames) ≡ Some frame = sym one.own ∙ ap (frame_of pool.frames) (sym same) ∙ found in
        let is : front_of pool.frames ≡ frame = cc in
        let marks = ap (λ (f : Frame). f.changed) is in
        absurd cc
    by page frame found unchanged (inr other) = fits.unchanged page frame (sym (one.others page other) ∙ found) unchanged

-- the page in front is another, and the store goes on

all_changed : (P : Frame → Type 0) (old new : List Frame) → 0 < length old → length new ≡ length old → drop 1 new ≡ drop 1 old → P (front_of new) → AllByRecursion P old → AllByRecursion P new
all_changed P old new h h2 h3 h4 h5 = grind (arith, common_steps)

distinct_changed : (old new : List Frame) → 0 < length old → length new ≡ length old → drop 1 new ≡ drop 1 old → (front_of new).page ≡ (front_of old).page → AreDistinct old → AreDistinct new
distinct_changed [] new there count others page all = absurd (omega (arith, there))
distinct_changed (x ∷ xs) [] there count others page all = tt
distinct_changed (x ∷ xs) (y ∷ ys) there count others page all =
    subst (λ (l : List Frame). AllByRecursion (λ (o : Frame). y.page ≢ o.page) l × AreDistinct l) (sym others)
    (subst (λ (n : ℕ). AllByRecursion (λ (o : Frame). n ≢ o.page) xs × AreDistinct xs) (sym page) all)

pub front_exists : (pages : ℕ) (old : List Frame) → 0 < length old → AllByRecursion (IsPage pages) old → (front_of old).page < pages
front_exists pages old h h2 = grind (arith, common_steps)

pub change_going : (store : PageStore) (pool : Pool) (site : State) (slot : ℕ) (content : Option (List ℕ)) (lsn : ℕ) → 0 < length store.pool.frames → ChangesFront store.pool.frames pool.frames slot content lsn
    → pool.size ≡ store.pool.size → AreTold (record store { pool = pool }) → Invariant store site → Invariant (record store { pool = pool }) site
change_going store pool site slot content lsn there change size told going = grind (arith, common_steps, distinct_changed, all_changed, front_exists)
