-- Pages that are written to the disk together.
use Rattle.std.specs.Prelude.{◌≡◌, ◌≢◌, ℕ, ◌+◌, ◌<◌, ◌≤◌, ◌==◌, ◌&&◌, not, Bool, false, List, [], ◌∷◌, length}
use Rattle.std.specs.Prelude.{slice_index, slice_index_or}
use Rattle.std.specs.List.{Contains, count_by}
use Rattle.site.specs.declared.outside.Dev.{Dev}
use Rattle.site.specs.declared.outside.Dev.TheVariants.{Disk}
use Rattle.site.specs.State.{State, Moment, Snapshot, MayStand, content_of, loose_of, is_loose}
use Rattle.site.specs.Moments.{LeavesOnly, ChangesOnly}
use Rattle.disk_pages.specs.Pages.{page_on}
use Rattle.disk_pages.specs.Laws.{IsBesidePage}
use Rattle.image_changes.specs.Changes.{Change, RewritesPages}

-- the place lies on none of the pages
abbrev pub IsBesideAll : List ℕ → ℕ → Type 0
IsBesideAll pages place = (page : ℕ) → Contains pages page → IsBesidePage page place

-- each page has the octets listed for it, and every other octet of the disk is as it was
pub record HasStaged (pages : List ℕ) (contents : List (List ℕ)) (old new : List ℕ) : Type 0 where
  pub size : length new ≡ length old
  pub here : (k : ℕ) → k < length pages → page_on (slice_index pages k) new ≡ slice_index_or contents k []
  pub beside : (place : ℕ) → IsBesideAll pages place → slice_index new place ≡ slice_index old place

-- the disk beside the pages has what a crash might have left there before
pub record LeavesBeside (pages : List ℕ) (old : State) (snapshot : Snapshot) : Type 0 where
  pub size : length snapshot.image.disk ≡ length old.image.disk
  pub beside : (place : ℕ) → IsBesideAll pages place → is_loose old.loose.disk place ≡ false
      → slice_index snapshot.image.disk place ≡ slice_index old.image.disk place

-- and nothing was told, and the other devices have what a crash might have left there before
pub record LeavesStaged (pages : List ℕ) (old : State) (snapshot : Snapshot) : Type 0 where
  pub told : snapshot.told ≡ old.told
  pub others : (d : Dev) → d ≢ Disk
      → MayStand (loose_of d old.loose) (content_of d old.image) (content_of d snapshot.image)
  pub disk : LeavesBeside pages old snapshot

-- what staging does to an image
abbrev pub changes_of : List ℕ → List Change
changes_of [] = []
changes_of (page ∷ pages) = RewritesPages (page ∷ pages) ∷ []

-- the device calls that it makes: a write for each page, and one sync where there is a page
abbrev pub calls_of : List ℕ → ℕ
calls_of [] = 0
calls_of (page ∷ pages) = length (page ∷ pages) + 1

-- how many of these moments are within calls of the disk: nothing is being told, and something of the disk is loose
abbrev pub is_unsynced : Moment → Bool
is_unsynced m = (length m.telling == 0) && not (length m.loose.disk == 0)

abbrev pub unsynced_in : List Moment → ℕ
unsynced_in moments = count_by is_unsynced moments

-- within staging, up to a write that was done or failed: what a crash leaves
pub record HasLeft (pages : List ℕ) (old new : State) : Type 0 where
  pub any_moment : LeavesOnly old new (LeavesBeside pages old)
  pub changes : ChangesOnly Disk old new

-- the first n of the pages are written
pub record HasWritten (pages : List ℕ) (contents : List (List ℕ)) (n : ℕ) (old new : State) : Type 0 where
  pub size : length new.image.disk ≡ length old.image.disk
  pub here : (k : ℕ) → k < n → page_on (slice_index pages k) new.image.disk ≡ slice_index_or contents k []
  pub beside : (place : ℕ) → IsBesideAll pages place
      → slice_index new.image.disk place ≡ slice_index old.image.disk place
  pub loose : (place : ℕ) → IsBesideAll pages place → is_loose old.loose.disk place ≡ false
      → is_loose new.loose.disk place ≡ false
  pub calls : length new.past ≡ length old.past + n
  pub unsynced : unsynced_in new.past ≡ unsynced_in old.past + n
  pub lies_loose : 1 ≤ n → 1 ≤ length new.loose.disk
