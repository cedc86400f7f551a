-- What is told, and which moments a crash may find.
use Rattle.std.specs.Prelude.{◌≡◌, ◌⊎◌, ℕ, List, [], ◌++◌, Result, OnOk, IfOk, IsErrOf}
use Rattle.std.specs.List.{concat}
use Rattle.site.specs.declared.geometry.Geometry.{Geometry}
use Rattle.site.specs.declared.outside.Dev.TheVariants.{Log}
use Rattle.site.specs.Geometry.{HasLimits, HasLengths}
use Rattle.site.specs.State.{State, Loose, Moment, with_loose}
use Rattle.site.specs.Moments.{EachMoment}
use Rattle.site.specs.Telling.{TellsPart, SameDevices}
use Rattle.sealed_ring.specs.declared.ring.Ring.{Ring}
use Rattle.sealed_ring.specs.Ready.{IsUsable, units_in}
use Rattle.image_changes.specs.Rings.{log_shape}
use Rattle.archive_report.specs.declared.halt.Halt.{Halt}
use Rattle.archive_report.specs.declared.halt.Halt.TheVariants as halt
use Rattle.archive_report.specs.Archives.{Answers, IsAnswer}

-- of every site: the ring is that of the log's blocks, and can be used
pub record IsLogRing (ring : Ring) (site : State) : Type 0 where
  pub g : Geometry
  pub limits : HasLimits g
  pub lengths : HasLengths g site.image
  pub shape : ring.shape ≡ log_shape g
  pub usable : IsUsable ring site

-- Of an honest site these octets were told, and nothing else was done.
pub record HasTold (text : List ℕ) (old now : State) : Type 0 where
  pub moments : EachMoment old now (TellsPart text old)
  pub told : now.told ≡ old.told ++ text
  pub same : SameDevices old now

-- Of an honest site the first ones of these lines were told, each of them whole but where telling failed, and all of
-- them where nothing did.
pub record TellsLines {T : Type 0} (result : Result T Halt) (lines : List (List ℕ)) (old new : State) : Type 0 where
  pub done : List (List ℕ)
  pub rest : List (List ℕ)
  pub are : lines ≡ done ++ rest
  pub moments : EachMoment old new (TellsPart (concat done) old)
  pub told : (IsErrOf result halt.Output → ⊥) → new.told ≡ old.told ++ concat done
  pub same : SameDevices old new
  pub all : OnOk result (rest ≡ [])

-- those of what the ring answers
pub record TellsAnswer (ring : Ring) (from : ℕ) (result : Result ℕ Halt) (old new : State) : Type 0 where
  pub status : ℕ
  pub lines : List (List ℕ)
  pub is : IsAnswer ring.shape (units_in ring.shape old) from status lines
  pub tells : TellsLines result lines old new
  pub status_is : IfOk result (λ s. s ≡ status)

-- nothing of the log is loose, and of the other devices what was
abbrev pub synced : State → Loose
synced site = with_loose Log [] site.loose

-- Either nothing but a front of a fault's line was told, and the devices are as they were; or nothing of the log is
-- loose, so that a crash leaves it as it is, and a front of the text was told.
abbrev pub TellsSynced : List ℕ → List ℕ → State → Moment → Type 0
TellsSynced fault text old moment =
    TellsPart fault old moment ⊎ TellsPart text (record old { loose = synced old }) moment

-- nothing was told, and nothing changed but that the log may have been synced
pub record OnlySyncs (old new : State) : Type 0 where
  pub moments : EachMoment old new (TellsSynced [] [] old)
  pub image : new.image ≡ old.image
  pub told : new.told ≡ old.told
  pub left : new.input ≡ old.input
  pub loose : (new.loose ≡ old.loose) ⊎ (new.loose ≡ synced old)

-- Of an honest site the log is synced, and then the first lines of the answer are told: none, some, or all.
pub record Tells (from : ℕ) (result : Result ℕ Halt) (old new : State) : Type 0 where
  pub done : List (List ℕ)
  pub rest : List (List ℕ)
  pub right : (done ≡ []) ⊎ ((status : ℕ) × Answers from old.image status (done ++ rest))
  pub moments : EachMoment old new (TellsSynced [] (concat done) old)
  pub image : new.image ≡ old.image
  pub left : new.input ≡ old.input
  pub loose : ((new.loose ≡ old.loose) × (done ≡ [])) ⊎ (new.loose ≡ synced old)
  pub told : (IsErrOf result halt.Output → ⊥) → new.told ≡ old.told ++ concat done
  pub all : IfOk result (λ status. Answers from old.image status done)
