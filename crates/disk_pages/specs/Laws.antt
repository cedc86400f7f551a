-- A page that is written, and the places beside it.
use Rattle.std.specs.Prelude.{◌≡◌, ◌⊎◌, ℕ, ◌+◌, ◌*◌, ◌≤◌, ◌<◌, List, length, slice_index}
use Rattle.disk_pages.specs.Pages.{page_on}

-- the place lies before the page, or behind it
abbrev pub IsBesidePage : ℕ → ℕ → Type 0
IsBesidePage page place = (place < 4096 * page) ⊎ (4096 * page + 4096 ≤ place)

-- a written page has its octets, and each octet beside it is as it was
pub record HasWritten (page : ℕ) (octets old new : List ℕ) : Type 0 where
  pub size : length new ≡ length old
  pub here : page_on page new ≡ octets
  pub beside : (place : ℕ) → IsBesidePage page place → slice_index new place ≡ slice_index old place
