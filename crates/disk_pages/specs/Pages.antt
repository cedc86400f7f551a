-- Pages on the disk: page p is the 4,096 octets from 4096 p on.
use Rattle.std.specs.Prelude.{ℕ, ◌+◌, ◌*◌, ◌≤◌, List, length, take, drop}
use Rattle.site.specs.declared.outside.Dev.TheVariants.{Disk}
use Rattle.site.specs.State.{State, Moment}
use Rattle.site.specs.Calls.{put, within_write}

-- the page lies on a disk of these octets
abbrev pub LiesOn : ℕ → List ℕ → Type 0
LiesOn page disk = 4096 * page + 4096 ≤ length disk

-- the page's octets
abbrev pub page_on : ℕ → List ℕ → List ℕ
page_on page disk = take 4096 (drop (4096 * page) disk)

-- the disk with these octets as the page's
abbrev pub with_page : ℕ → List ℕ → List ℕ → List ℕ
with_page page octets disk = put disk (4096 * page) octets

-- the moment within a write of the page: the one before it, with the page's octets loose too
abbrev pub within_page : ℕ → State → Moment
within_page page site = within_write Disk (4096 * page) 4096 site
