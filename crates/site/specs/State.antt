-- All that contracts say of a site, as data.
use Rattle.std.specs.Prelude.{◌≡◌, ℕ, ◌+◌, Bool, false, List, [], ◌∷◌, ◌++◌, length, take, slice_index, nat_le, nat_lt}
use Rattle.std.specs.Prelude.{◌&&◌, ◌||◌}
use Rattle.site.specs.declared.outside.Dev.{Dev}
use Rattle.site.specs.declared.outside.Dev.TheVariants.{Log, Flash, Disk}
use Rattle.site.specs.declared.outside.Take.{Take}

-- the three contents
pub record Image : Type 0 where
  pub log : List ℕ
  pub flash : List ℕ
  pub disk : List ℕ

abbrev pub content_of : Dev → Image → List ℕ
content_of Log image = image.log
content_of Flash image = image.flash
content_of Disk image = image.disk

-- the image with another content of one device
abbrev pub with_content : Dev → List ℕ → Image → Image
with_content Log content image = record { log = content; flash = image.flash; disk = image.disk }
with_content Flash content image = record { log = image.log; flash = content; disk = image.disk }
with_content Disk content image = record { log = image.log; flash = image.flash; disk = content }

-- octets of a device from a place on
pub record Range : Type 0 where
  pub at : ℕ
  pub len : ℕ

abbrev pub is_within : Range → ℕ → Bool
is_within range place = nat_le range.at place && nat_lt place (range.at + range.len)

abbrev pub is_loose : List Range → ℕ → Bool
is_loose [] place = false
is_loose (range ∷ ranges) place = is_within range place || is_loose ranges place

-- the loose ranges of each device
pub record Loose : Type 0 where
  pub log : List Range
  pub flash : List Range
  pub disk : List Range

abbrev pub loose_of : Dev → Loose → List Range
loose_of Log loose = loose.log
loose_of Flash loose = loose.flash
loose_of Disk loose = loose.disk

-- the same with other loose ranges of one device
abbrev pub with_loose : Dev → List Range → Loose → Loose
with_loose Log ranges loose = record { log = ranges; flash = loose.flash; disk = loose.disk }
with_loose Flash ranges loose = record { log = loose.log; flash = ranges; disk = loose.disk }
with_loose Disk ranges loose = record { log = loose.log; flash = loose.flash; disk = ranges }

-- what was told, and the three contents
pub record Snapshot : Type 0 where
  pub told : List ℕ
  pub image : Image

-- all that decides what a crash at this moment may leave
pub record Moment : Type 0 where
  pub told : List ℕ
  -- of this any front may have been told besides
  pub telling : List ℕ
  pub image : Image
  pub loose : Loose

-- what may stand where `before` stood, some ranges of it loose
pub record MayStand (ranges : List Range) (before now : List ℕ) : Type 0 where
  pub size : length now ≡ length before
  pub kept : (place : ℕ) → is_loose ranges place ≡ false → slice_index now place ≡ slice_index before place

-- a crash at this moment may leave this
pub record MayLeave (moment : Moment) (snapshot : Snapshot) : Type 0 where
  pub told : (k : ℕ) × (snapshot.told ≡ moment.told ++ take k moment.telling)
  pub content : (dev : Dev) → MayStand (loose_of dev moment.loose) (content_of dev moment.image)
      (content_of dev snapshot.image)

pub record Input : Type 0 where
  -- the octets left to hear
  pub left : List ℕ
  -- how many were heard
  pub heard : ℕ
  -- whether input was asked for at this place already, and none was left
  pub asked : Bool
  -- the first take at each place, oldest first
  pub takes : List Take

-- nothing was heard, and nothing is left to hear
abbrev pub no_input : Input
no_input = record { left = []; heard = 0; asked = false; takes = [] }

pub record State : Type 0 where
  pub honest : Bool
  -- numbers that no call changes: what a kind of site wants to be known of it after code that knows only the trait
  pub kept : List ℕ
  pub image : Image
  pub loose : Loose
  pub told : List ℕ
  pub input : Input
  -- the moments within calls so far, oldest first
  pub past : List Moment
  pub log_faults : ℕ
  pub flash_faults : ℕ
  pub disk_faults : ℕ
  pub input_faults : ℕ
  pub output_faults : ℕ
  pub log_reads : ℕ
  pub flash_reads : ℕ
  pub disk_reads : ℕ

abbrev pub faults_of : Dev → State → ℕ
faults_of Log s = s.log_faults
faults_of Flash s = s.flash_faults
faults_of Disk s = s.disk_faults

abbrev pub reads_of : Dev → State → ℕ
reads_of Log s = s.log_reads
reads_of Flash s = s.flash_reads
reads_of Disk s = s.disk_reads

-- this moment, between two calls
abbrev pub now_of : State → Moment
now_of s = record { told = s.told; telling = []; image = s.image; loose = s.loose }

-- what was told and what stands there, at this moment
abbrev pub snapshot_of : State → Snapshot
snapshot_of s = record { told = s.told; image = s.image }

-- no range of the device is loose
abbrev pub IsSettled : Dev → State → Type 0
IsSettled dev s = loose_of dev s.loose ≡ []

-- no range of any device is loose
abbrev pub no_loose : Loose
no_loose = record { log = []; flash = []; disk = [] }

-- what stands on the devices is stable
abbrev pub IsQuiet : State → Type 0
IsQuiet s = s.loose ≡ no_loose
