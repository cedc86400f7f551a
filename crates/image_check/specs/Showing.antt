-- What versions know of a log, record by record.
use Rattle.std.specs.Prelude.{◌≡◌, ℕ, ◌+◌, ◌*◌, ◌/◌, ◌≤◌, ◌<◌, ◌==◌, ◌||◌, nat_eq, nat_lt, Bool, List, slice_get}
use Rattle.std.specs.Prelude.{Option, Some, None, option_map, IsTrue, ⊤}
use Rattle.site.specs.State.{State}
use Rattle.indexmap.specs.IndexMap.{IndexMap, get}
use Rattle.record_model.specs.State.{Content, content_at}
use Rattle.log_records.specs.Log.{Entry, after_of, number_of}
use Rattle.log_records.specs.Sound.{last_known}
use Rattle.slotted_page.specs.Layout.{slots_of}
use Rattle.second_chance.specs.Queue.{Queue}
use Rattle.image_form.specs.declared.formed.Found.{Found}
use Rattle.image_form.specs.Octets.{AreGroups}
use Rattle.image_form.specs.Findings.{AreFound}
use Rattle.image_form.specs.Newest.{ShowsFrames}

-- of an honest site: the rings are those that stand there, the groups are of the form, and the queue shows their frames
pub record FindsVersions (found : Found) (frames : Queue) (site : State) : Type 0 where
  pub honest : IsTrue site.honest
  pub rings : AreFound found.rings site
  pub groups : AreGroups found.log.geometry site.image
  pub shown : ShowsFrames found.log.geometry site.image frames

-- a version knows of nothing, or of no record behind an end
abbrev pub is_logged : ℕ → ℕ → Bool
is_logged end lsn = (lsn == 0) || nat_lt lsn end

-- A record before the redo block is one that the version of its page knows of, where the versions have these LSNs.
abbrev pub IsKnownEarly : ℕ → List ℕ → Entry → Type 0
IsKnownEarly redo lsns e =
    e.lsn < 512 * redo → (number known : ℕ) →
    number_of e.rec ≡ Some number → slice_get lsns (number / 32) ≡ Some known → e.lsn ≤ known

-- what the last record on a number that its version knows of has written, if the page has a version with this LSN
abbrev pub written_by : List Entry → ℕ → Option ℕ → Option Content
written_by records number None = None
written_by records number (Some known) = option_map (λ e. after_of e.rec) (last_known records known number)

-- an entry for each number that the versions with these LSNs know records on: what the last of them has written
pub record AreExpected {S : Type 0} (lsns : List ℕ) (records : List Entry) (contents : IndexMap ℕ Content S) :
    Type 0 where
  pub each : (number : ℕ) → get nat_eq contents number ≡ written_by records number (slice_get lsns (number / 32))

-- a slot has this content, if there is one
abbrev pub IsAs : Content → Option Content → Type 0
IsAs slot None = ⊤
IsAs slot (Some content) = slot ≡ content

-- each slot of a page's octets has the content of its number's entry, if there is one
abbrev pub HasContents : {S : Type 0} → IndexMap ℕ Content S → ℕ → List ℕ → Type 0
HasContents contents page octets =
    (slot : ℕ) → slot < 32 → IsAs (content_at (slots_of octets) slot) (get nat_eq contents (32 * page + slot))
