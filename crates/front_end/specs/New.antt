-- What `new` does: the devices have the lengths of its words and are blank, or it says what isn't so.
use Rattle.std.specs.Prelude.{◌≡◌, ◌≢◌, ◌⊎◌, ℕ, ◌+◌, ◌/◌, ◌≤◌, ◌<◌, List, ◌++◌, length, slice_index_or, codes, decimal}
use Rattle.std.specs.Prelude.{IsTrue, Result, Ok, Err}
use Rattle.site.specs.declared.outside.Dev.{Dev}
use Rattle.site.specs.declared.outside.Dev.TheVariants.{Log, Flash, Disk}
use Rattle.site.specs.declared.geometry.Geometry.{Geometry}
use Rattle.site.specs.Geometry.{HasLengths}
use Rattle.site.specs.State.{State, Image, content_of, faults_of, reads_of}
use Rattle.site.specs.Calls.{Rose, SameReads}
use Rattle.site.specs.Moments.{EachMoment}
use Rattle.site.specs.Telling.{HandsRest, TellsPart, SameDevices}
use Rattle.front_end.specs.declared.new_database.Unfit.{Unfit}
use Rattle.front_end.specs.declared.new_database.Unfit.TheVariants.{Foreign, Failed, NotBlank}
use Rattle.front_end.specs.Texts.{dev_name}
use Rattle.front_end.specs.Faults.{NoFaultRose, SameFaults}
use Rattle.site.specs.Faults.{faults_in, with_fault}
use Rattle.front_end.specs.Tells.{EndsWith}

-- the octets from one place to another are zero
abbrev pub AreZero : List ℕ → ℕ → ℕ → Type 0
AreZero content from to = (i : ℕ) → from ≤ i → i < to → slice_index_or content i 0 ≡ 0

-- the first octet from a place on that isn't zero
pub record IsFirst (content : List ℕ) (from to place : ℕ) : Type 0 where
  pub at_least : from ≤ place
  pub inside : place < to
  pub nonzero : slice_index_or content place 0 ≢ 0
  pub zeros : AreZero content from place

abbrev pub IsBlankAt : Dev → Image → Type 0
IsBlankAt dev image = AreZero (content_of dev image) 0 (length (content_of dev image))

-- all octets of all devices are zero
pub record IsBlank (image : Image) : Type 0 where
  pub log : IsBlankAt Log image
  pub flash : IsBlankAt Flash image
  pub disk : IsBlankAt Disk image

abbrev pub IsFirstAt : Dev → ℕ → Image → Type 0
IsFirstAt dev place image = IsFirst (content_of dev image) 0 (length (content_of dev image)) place

-- the first octet that isn't zero, in the order log, flash, disk
abbrev pub IsFirstOfAll : Dev → ℕ → Image → Type 0
IsFirstOfAll Log place image = IsFirstAt Log place image
IsFirstOfAll Flash place image = IsBlankAt Log image × IsFirstAt Flash place image
IsFirstOfAll Disk place image = IsBlankAt Log image × IsBlankAt Flash image × IsFirstAt Disk place image

-- why a device, and why the devices, aren't blank
abbrev pub IsUnfitAt : Dev → Unfit → State → State → Type 0
IsUnfitAt dev Foreign old new = ⊥
IsUnfitAt dev (Failed d) old new = (d ≡ dev) × Rose (faults_of d old) (faults_of d new)
IsUnfitAt dev (NotBlank d place) old new = (d ≡ dev) × (IsTrue old.honest → IsFirstAt d place old.image)

abbrev pub IsNotBlank : Unfit → State → State → Type 0
IsNotBlank Foreign old new = ⊥
IsNotBlank (Failed dev) old new = Rose (faults_of dev old) (faults_of dev new)
IsNotBlank (NotBlank dev place) old new = IsTrue old.honest → IsFirstOfAll dev place old.image

-- a device is tested until a first call fails
abbrev pub TestFaults : {T : Type 0} → Result T Unfit → State → State → Type 0
TestFaults (Ok x) old new = SameFaults old new
TestFaults (Err Foreign) old new = SameFaults old new
TestFaults (Err (Failed dev)) old new = faults_in new ≡ with_fault dev (faults_in old)
TestFaults (Err (NotBlank dev place)) old new = SameFaults old new

-- why devices aren't fit for a new database
abbrev pub IsUnfit : Unfit → Geometry → State → State → Type 0
IsUnfit Foreign g old new = HasLengths g old.image → ⊥
IsUnfit (Failed dev) g old new = HasLengths g old.image × Rose (faults_of dev old) (faults_of dev new)
IsUnfit (NotBlank dev place) g old new = HasLengths g old.image × (IsTrue old.honest → IsFirstOfAll dev place old.image)

abbrev pub unfit_line : Unfit → List ℕ
unfit_line Foreign = codes "fault foreign\n"
unfit_line (Failed dev) = codes "fault " ++ dev_name dev ++ codes "\n"
unfit_line (NotBlank dev place) = codes "fault notblank " ++ dev_name dev ++ codes " " ++ decimal place ++ codes "\n"

abbrev pub unfit_status : Unfit → ℕ
unfit_status Foreign = 9
unfit_status (Failed dev) = 3
unfit_status (NotBlank dev place) = 10

abbrev pub ready_line : Geometry → List ℕ
ready_line g =
    codes "ready " ++ decimal g.pages ++ codes " " ++ decimal g.groups ++ codes " " ++ decimal g.blocks ++ codes "\n"

-- the devices have the lengths, and all octets of an honest site are zero
pub record IsFit (g : Geometry) (site : State) : Type 0 where
  pub lengths : HasLengths g site.image
  pub blank : IsTrue site.honest → IsBlank site.image

-- a status of `new`, and the line that is told with it
abbrev pub IsAnswer : Geometry → ℕ → List ℕ → State → State → Type 0
IsAnswer g status line old new =
    ((unfit : Unfit) × (status ≡ unfit_status unfit) × (line ≡ unfit_line unfit) × IsUnfit unfit g old new)
    ⊎ (((status ≡ 0) × (line ≡ ready_line g) × IsFit g old)
    ⊎ (((status ≡ 6) × (line ≡ ready_line g) × IsFit g old × Rose old.output_faults new.output_faults)
    ⊎ ((status ≡ 4) × (line ≡ codes "fault memory\n"))))

-- each device is read once at most, by pieces of 4,096 octets
abbrev pub ReadsOnce : State → State → Type 0
ReadsOnce old new = (dev : Dev) →
    reads_of dev new ≤ reads_of dev old + (length (content_of dev old.image) + 4095) / 4096

-- What `new` of these sizes does.
pub record New (g : Geometry) (old new : State) (status : ℕ) : Type 0 where
  -- the line of the status is told, or a front of it, and nothing else is done
  pub line : List ℕ
  pub answer : IsAnswer g status line old new
  pub any_moment : IsTrue old.honest → EachMoment old new (TellsPart line old)
  pub hands : IsTrue old.honest → EachMoment old new (HandsRest line old)
  pub devices : IsTrue old.honest → SameDevices old new
  -- where the lengths aren't those of the words nothing is read
  pub unread : (HasLengths g old.image → ⊥) → SameReads old new
  pub few : ReadsOnce old new
  -- all of it where no tell failed, and with status 0 at any rate
  pub ends : IsTrue old.honest → EndsWith old.told line old new
  pub ready : IsTrue old.honest → status ≡ 0 → new.told ≡ old.told ++ line

-- When each status of `new` comes.
pub record NewCauses (g : Geometry) (old new : State) (status : ℕ) : Type 0 where
  pub others : status ≡ 0 ⊎ (status ≡ 3 ⊎ (status ≡ 4 ⊎ (status ≡ 6 ⊎ (status ≡ 9 ⊎ status ≡ 10))))
  pub device : status ≡ 3 → (dev : Dev) × Rose (faults_of dev old) (faults_of dev new)
  pub output : status ≡ 6 → Rose old.output_faults new.output_faults
  -- 9 exactly where the lengths aren't those of the words
  pub foreign : status ≡ 9 → HasLengths g old.image → ⊥
  pub lengths : (HasLengths g old.image → ⊥) → (status ≡ 9) ⊎ (status ≡ 4)
  -- 10 over an honest site exactly where they are and an octet isn't zero, unless 3 or 4 came first
  pub notblank : IsTrue old.honest → status ≡ 10 → HasLengths g old.image × ¬ (IsBlank old.image)
  pub blank : IsTrue old.honest → HasLengths g old.image → ¬ (IsBlank old.image) →
      (status ≡ 10) ⊎ ((status ≡ 3) ⊎ (status ≡ 4))
  -- where nothing fails a right `new` on blank devices is done, or memory was wanted
  pub complete : IsTrue old.honest → HasLengths g old.image → IsBlank old.image → NoFaultRose old new →
      (status ≡ 0) ⊎ (status ≡ 4)
