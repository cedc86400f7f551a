-- What a restore does with blank devices, and what a crash at any moment of it leaves.
use Rattle.std.specs.Prelude.{◌≡◌, ◌⊎◌, ℕ, ◌+◌, ◌-◌, ◌≤◌, ◌<◌, List, [], ◌∷◌, ◌++◌, length, slice_index_or}
use Rattle.std.specs.Prelude.{take, true, IsTrue}
use Rattle.site.specs.State.{State as Site, Image, Snapshot, no_loose}
use Rattle.site.specs.Calls.{IsUnchanged}
use Rattle.site.specs.Moments.{LeavesOnly}
use Rattle.site.specs.declared.geometry.Geometry.{Geometry}
use Rattle.site.specs.declared.outside.Stop.TheVariants.{Foreign}
use Rattle.site.specs.Geometry.{HasLimits, HasLengths}
use Rattle.record_model.specs.State.{State, Write}
use Rattle.record_model.specs.Run.{Line}
use Rattle.shell_text.specs.Runs.{lines_of}
use Rattle.log_archive.specs.Accepted.{Accepted, AfterLine, Stream, archive_table, blank_stream}
use Rattle.net_lines.specs.Nets.{Fits, net_lines}
use Rattle.engine.specs.Image.{Stands}
use Rattle.engine.specs.Leaves.{HasNoSizes}
use Rattle.front_end.specs.New.{IsBlank, IsNotBlank, ReadsOnce}
use Rattle.front_end.specs.declared.halt.Halt.TheVariants as halt
use Rattle.face.specs.Causes.{HasCause}
use Rattle.face.specs.Image.{blank_table}
use Rattle.face.specs.Run.{after_lines}
use Rattle.archive_restore.specs.declared.fault.Fault.{Fault}
use Rattle.archive_restore.specs.declared.fault.Fault.TheVariants as fault

-- an honest and quiet site of these sizes, all of whose octets are zero
pub record IsTarget (g : Geometry) (site : Site) : Type 0 where
  pub honest : IsTrue site.honest
  pub quiet : site.loose ≡ no_loose
  pub limits : HasLimits g
  pub lengths : HasLengths g site.image
  pub blank : IsBlank site.image

-- the lines that write nets, one net after the other, each by the state that those before it leave
abbrev pub lines_of_nets : State → List (List Write) → List Line
lines_of_nets s [] = []
lines_of_nets s (net ∷ nets) = net_lines s net ++ lines_of_nets (after_lines s (net_lines s net) []) nets

-- These lines stand first in the input, they are an archive of a database that was never written, and this is the
-- stream behind them.
pub record IsHeard (pages : ℕ) (lines behind : List (List ℕ)) (s : Stream) (old : Site) : Type 0 where
  pub all : lines_of true old.input.left ≡ lines ++ behind
  pub accepted : Accepted pages lines (blank_stream pages) s

-- the devices stand for the table after so many commits of the archive
abbrev pub StandsAfter : Geometry → Stream → ℕ → Image → Type 0
StandsAfter g s k image = Stands g image (archive_table (blank_table g) s.nets k) k

-- for that after the last of those that were begun, or the one before
abbrev pub StandsNear : Geometry → Stream → ℕ → Image → Type 0
StandsNear g s begun image = (k : ℕ) × (k ≤ begun) × (begun ≤ k + 1) × StandsAfter g s k image

-- What a crash may leave where so many commits were begun: the table after one of them, or before them all. Where
-- something of the line is told it is the last one or the one before.
pub record IsLeft (g : Geometry) (s : Stream) (begun : ℕ) (line so_far : List ℕ) (snapshot : Snapshot) : Type 0 where
  pub k : ℕ
  pub few : k ≤ begun
  pub stands : StandsAfter g s k snapshot.image
  pub told : (snapshot.told ≡ so_far) ⊎ ((part : ℕ) × (snapshot.told ≡ so_far ++ take part line) × (begun ≤ k + 1))

-- nothing is told before the devices stand for the table after so many
abbrev pub TellsBehind : Geometry → Stream → ℕ → List ℕ → Snapshot → Type 0
TellsBehind g s k so_far snapshot = (snapshot.told ≡ so_far) ⊎ StandsAfter g s k snapshot.image

-- So many commits are sealed, and nothing was told before the last of them was.
pub record HasSealed (g : Geometry) (s : Stream) (k : ℕ) (old new : Site) : Type 0 where
  pub stands : StandsAfter g s k new.image
  pub behind : LeavesOnly old new (TellsBehind g s k old.told)

-- The devices were tested, each read once and nothing of them changed, and then this holds.
pub record HasTested (old : Site) (P : Site → Type 0) : Type 0 where
  pub tested : Site
  pub same : IsUnchanged old tested
  pub read : ReadsOnce old tested
  pub holds : P tested

-- the net of a commit
abbrev pub net_at : Stream → ℕ → List Write
net_at s k = slice_index_or s.nets k []

-- the database has room for the net of a commit
abbrev pub FitsAt : Geometry → Stream → ℕ → Type 0
FitsAt g s k = Fits (g.blocks - 1) (archive_table (blank_table g) s.nets k) (net_at s k)

-- it has for each of those that were begun
abbrev pub HaveFit : Geometry → Stream → ℕ → Type 0
HaveFit g s begun = (k : ℕ) → k < begun → FitsAt g s k

-- Why it ends before the last commit: the next line isn't one of the archive, the input has ended, the database hasn't
-- the room for the next net, or the cause of a run. Where a line was to be heard all commits of the lines before it are
-- written.
abbrev pub EndsBy : Fault → Geometry → List (List ℕ) → List (List ℕ) → Stream → ℕ → Site → Site → Type 0
EndsBy (fault.Stream number) g lines behind s begun old new =
    (number ≡ length lines + 1) × (begun ≡ length s.nets) × (wrong : List ℕ) × (rest : List (List ℕ))
    × (behind ≡ wrong ∷ rest) × ((now : Stream) → AfterLine g.pages wrong s now → ⊥)
EndsBy (fault.Short commits) g lines behind s begun old new =
    (commits ≡ begun) × (begun ≡ length s.nets) × (behind ≡ [])
EndsBy fault.Full g lines behind s begun old new = (begun < length s.nets) × (FitsAt g s begun → ⊥)
EndsBy (fault.Halt halt.Input) g lines behind s begun old new = HasCause halt.Input old new × (begun ≡ length s.nets)
EndsBy (fault.Halt halt.Limit) g lines behind s begun old new = HasCause halt.Limit old new × (begun ≡ length s.nets)
EndsBy (fault.Halt h) g lines behind s begun old new = HasCause h old new
EndsBy (fault.Unfit unfit) g lines behind s begun old new = IsNotBlank unfit old new

-- the same of every site: no call fails but where its count of faults rises, and over an honest one that was blank no
-- device is foreign
abbrev pub HasFaultCause : Fault → Site → Site → Type 0
HasFaultCause (fault.Stream number) old new = Unit {0}
HasFaultCause (fault.Short commits) old new = Unit {0}
HasFaultCause fault.Full old new = Unit {0}
HasFaultCause (fault.Halt (halt.Stop Foreign)) old new = IsTrue old.honest → HasNoSizes old
HasFaultCause (fault.Halt h) old new = HasCause h old new
HasFaultCause (fault.Unfit unfit) old new = IsNotBlank unfit old new

-- whether the commits that were begun are all written then
abbrev pub IsBetween : Fault → Type 0
IsBetween (fault.Stream number) = Unit {0}
IsBetween (fault.Short commits) = Unit {0}
IsBetween fault.Full = Unit {0}
IsBetween (fault.Halt halt.Input) = Unit {0}
IsBetween (fault.Halt halt.Limit) = Unit {0}
IsBetween (fault.Halt h) = ⊥
IsBetween (fault.Unfit unfit) = ⊥

-- These lines are an archive with fewer commits. Input is asked for behind no others: none is taken behind the last
-- commit, or behind a line that isn't accepted.
abbrev pub HasFewCommits : ℕ → ℕ → List (List ℕ) → Type 0
HasFewCommits pages count lines = (s : Stream) × Accepted pages lines (blank_stream pages) s × (length s.nets < count)
