-- What a restart finds on devices.
use Rattle.engine.proofs.Names.{Option, ◌≡◌, suc, ◌-◌, min, List, [], ◌∷◌, length, map, None, Some, refl, sym, ap, subst, ◌∙◌, arith, ℕ, min-le_left, if◌then◌else◌, Master, IsSound, Stands, LeavesTable, IsReady, HasGroups, groups_on, frames_in, Masters, master_shape, group_shape, log_shape, units_on, IsUnused, AreGroups, HasNewest, saved_by, kept_by, logical_image_under, Means, LogRecord, has_tail, LogStore, PageStore, Content, only_read, none_now, log_still, Opening, IsReadable, Finds, IsRing, hi_of, live, Ring, no_call, unchanged_calm, stays_honest, quiet_leaves, Preserves, IsUnchanged, Leaves, LeavesOnly, Site as State, Image, IsQuiet, Geometry}
use Rattle.page_store.proofs.Beside.{fits_beside, goes_on_beside}
use Rattle.image_meaning.proofs.Reading.{spelled_again, each_has}
use Rattle.sealed_ring.proofs.Alters.{length-units}
use Rattle.checkpoint.specs.Newest.{blank, newest_of, IsOf, HasMaster}
use Rattle.log_store.specs.Representation as log_store
use Rattle.page_store.specs.Representation as page_store
use Rattle.redo_laws.specs.Holding as both

-- The queue on flash.

as_many : (contents : List (List ℕ)) → length (map frames_in contents) ≡ length contents
as_many [] = refl
as_many (content ∷ contents) = ap suc (as_many contents)

abbrev pub first_on : Geometry → Image → ℕ
first_on g image = hi_of (group_shape g) image.flash - length (groups_on g image)

pub has_groups : (g : Geometry) (image : Image) → AreGroups g image → HasGroups g (first_on g image) (groups_on g image) image
has_groups g image is =
    let s = group_shape g in
    let hi = hi_of s image.flash in
    let contents = (units_on s image).live in
    record {
      form = is.form;
      next = omega (arith, length-units s image.flash (hi - (s.slots - 1)) (min hi (s.slots - 1)), as_many contents, min-le_left hi (s.slots - 1));
      are_groups = each_has g contents is.each is.frames;
      live = spelled_again contents is.each;
    }

-- The newest master.

no_units : (g : Geometry) (image : Image) → IsUnused g Masters image → (units_on master_shape image).live ≡ []
no_units g image unused = ap (λ (hi : ℕ). live master_shape hi image.log) unused.none

-- where none stands, the blank one is read
pub there_is_newest : (newest : Option Master) (g : Geometry) (image : Image) → HasNewest newest g image → HasMaster image (saved_by newest)
there_is_newest None g image unused = subst (λ (units : List (List ℕ)). IsOf (newest_of units) blank) (sym (no_units g image unused)) refl
there_is_newest (Some m) g image is = is.master

pub masters_form : (newest : Option Master) (g : Geometry) (image : Image) → HasNewest newest g image → IsRing master_shape image.log
masters_form None g image unused = unused.form
masters_form (Some m) g image is = is.form

pub kept_is : (newest : Option Master) → (saved_by newest).kept ≡ kept_by newest
kept_is None = refl
kept_is (Some m) = refl

-- Calls that only read.

-- where nothing of the log is unsealed and no more blocks than can be live are there, log and pages may go on
pub both_go_on : (log : LogStore) (pages : PageStore) (a b c : State) → Preserves a b → Preserves b c → log_store.Invariant log a → page_store.Invariant pages b → log.geometry ≡ pages.flash.geometry → log.used ≡ 2 → both.Invariant log pages c
both_go_on log pages a b c first second log_may pages_may sizes empty = record {
  log_going = log_still log b c second (log_still log a b first log_may);
  pages_going = goes_on_beside pages b c second pages_may;
  sizes = sizes;
  room =
      let none : (if has_tail log then 1 else 0) ≡ 0 = ap {B = ℕ} (λ b. if b then 1 else 0) (none_now log empty) in
      omega (arith, log_may.live, log_may.limits.blocks, none);
}

-- what was found there fits
module _ (g : Geometry) (log : LogStore) (pages : PageStore) (a b c d : State) (first : Preserves a b) (same_first : IsUnchanged a b) (second : Preserves b c) (same_second : IsUnchanged b c) (third : Preserves c d) (same_third : IsUnchanged c d) where
  log_found : log_store.Finds log b → log_store.Finds log d
  log_found finds =
      let same : d.image ≡ b.image = same_third.image ∙ same_second.image in
      record {
        honest = stays_honest c d third (stays_honest b c second finds.honest);
        form = subst (λ (i : Image). IsRing (log_shape log.geometry) i.log) (sym same) finds.form;
        hi = subst (λ (i : Image). log.ring.hi ≡ hi_of (log_shape log.geometry) i.log) (sym same) finds.hi;
      }

  pub readable_now : (m : Master) (o : Opening) → log.kept ≡ m.kept → m ≡ saved_by o.newest → page_store.Matches pages c → log_store.Finds log b → log_store.HasBlocks log.geometry (kept_by o.newest) o.blocks b.image → log_store.HasTail log.tail log.used [] →
      IsReadable o log pages d
  readable_now m o keeps is fits finds held tail =
      let back : d.image ≡ b.image = same_third.image ∙ same_second.image in
      let kept : log.kept ≡ kept_by o.newest = keeps ∙ ap (λ (x : Master). x.kept) is ∙ kept_is o.newest in
      record {
        kept = kept;
        ready = record {
          pages = fits_beside pages c d (only_read c d same_third) third fits;
          blocks = log_found finds;
          records = record {
            kept = omega (arith, kept);
            blocks = subst (λ (i : Image). log_store.HasBlocks log.geometry (kept_by o.newest) o.blocks i) (sym back) held;
            tail = tail;
          };
        };
      }

  pub ready_now : (masters : Ring) (m : Master) (newest : Option Master) (blocks : List (List LogRecord)) (table : List Content) (commits : ℕ) → pages.flash.geometry ≡ g → pages.pool.frames ≡ [] → log.kept ≡ m.kept → m ≡ saved_by newest → page_store.Matches pages c → Finds masters d → log_store.Finds log b →
      log_store.HasBlocks log.geometry (kept_by newest) blocks b.image → log_store.HasTail log.tail log.used [] → IsSound newest g a.image blocks → Means (logical_image_under newest g a.image blocks) table commits →
      IsReady (record { log = log; pages = pages; masters = masters; master = m }) d newest blocks table commits
  ready_now masters m newest blocks table commits sizes empty keeps is fits ring finds held tail sound means =
      let back : d.image ≡ b.image = same_third.image ∙ same_second.image in
      let all : d.image ≡ a.image = back ∙ same_first.image in
      let kept : log.kept ≡ kept_by newest = keeps ∙ ap (λ (x : Master). x.kept) is ∙ kept_is newest in
      record {
        master = is;
        masters = ring;
        opened_is = record {
          kept = kept;
          ready = record {
            pages = fits_beside pages c d (only_read c d same_third) third fits;
            blocks = log_found finds;
            records = record {
              kept = omega (arith, kept);
              blocks = subst (λ (i : Image). log_store.HasBlocks log.geometry (kept_by newest) blocks i) (sym back) held;
              tail = tail;
            };
          };
          sound = subst (λ (k : Geometry). IsSound newest k d.image blocks) (sym sizes) (subst (λ (i : Image). IsSound newest g i blocks) (sym all) sound);
          means = subst (λ (k : Geometry). Means (logical_image_under newest k d.image blocks) table commits) (sym sizes) (subst (λ (i : Image). Means (logical_image_under newest g i blocks) table commits) (sym all) means);
          empty = empty;
        };
      }

-- Results.

-- A crash while only was read leaves what stood there.
pub stands_still : (g : Geometry) (old new : State) (table : List Content) (commits : ℕ) → IsQuiet old → IsUnchanged old new → Stands g old.image table commits → LeavesOnly old new (LeavesTable g table commits old.told)
stands_still g old new table commits quiet same stands =
    unchanged_calm old old new (Leaves (LeavesTable g table commits old.told))
    (no_call old (Leaves (LeavesTable g table commits old.told))
    (λ snapshot left. subst (LeavesTable g table commits old.told) (sym (quiet_leaves old snapshot quiet left)) (record { told = refl; stands = stands }))) same
