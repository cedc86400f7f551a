-- A restore under way.
use Rattle.std.specs.Prelude.{◌≡◌, ◌≢◌, ◌⊎◌, ℕ, ◌+◌, ◌-◌, ◌*◌, ◌≤◌, ◌<◌, List, [], ◌∷◌, ◌++◌, length, take, true}
use Rattle.std.specs.Prelude.{IsTrue}
use Rattle.site.specs.State.{State as Site, Snapshot, MayLeave, now_of, no_loose}
use Rattle.site.specs.declared.geometry.Geometry.{Geometry}
use Rattle.site.specs.Calls.{IsUnchanged, Preserves}
use Rattle.site.specs.Geometry.{HasLimits, HasLengths}
use Rattle.site.specs.Moments.{LeavesOnly}
use Rattle.shell_text.specs.Runs.{lines_of}
use Rattle.record_model.specs.State.{Write}
use Rattle.record_model.specs.Run.{Line}
use Rattle.log_archive.specs.Accepted.{Accepted, Stream, archive_table, blank_stream}
use Rattle.log_replay.specs.Stands.{StandsFor}
use Rattle.net_lines.specs.Nets.{AreLengths, idle, while_writing}
use Rattle.stream_lines.specs.Lines.{AsksFor, HasCut, HasEnded, IsSource, pending, to_hear, total}
use Rattle.engine.specs.Image.{Stands}
use Rattle.front_end.specs.New.{ReadsOnce}
use Rattle.front_end.specs.declared.halt.Halt.{Halt}
use Rattle.front_end.specs.declared.halt.Halt.TheVariants as halt
use Rattle.face.specs.Image.{blank_table}
use Rattle.face.specs.RunInProgress.{GoesOn}
use Rattle.archive_restore.specs.Restores.{EndsBy, HasFaultCause, HasFewCommits, HasTested, HaveFit, IsBetween}
use Rattle.archive_restore.specs.Restores.{IsHeard, IsLeft}
use Rattle.archive_restore.specs.Restores.{StandsAfter, StandsNear}
use Rattle.archive_restore.specs.Restores.{lines_of_nets}
use Rattle.archive_restore.specs.Writing.{AsksSome, HasCarried, blank_state}
use Rattle.archive_restore.specs.Texts.{fault_status}
use Rattle.archive_restore.specs.declared.fault.Fault.{Fault}
use Rattle.archive_restore.specs.declared.fault.Fault.TheVariants as fault
use Rattle.archive_restore.specs.declared.restoring.Restoring.{Restoring}

-- So many commits of a stream had room in a database of these sizes, and the room that is left is known.
pub record HasFit (g : Geometry) (s : Stream) (r : Restoring) : Type 0 where
  pub replay : StandsFor g.pages s (take r.written s.nets) r.replay
  pub few : r.written ≤ length s.nets
  pub cap : r.cap ≡ g.blocks - 1
  pub room : AreLengths (while_writing (archive_table (blank_table g) s.nets r.written) []) r.room
  pub fit : HaveFit g s r.written

-- These lines were heard, and these are left.
pub record HasHeard (g : Geometry) (lines : List (List ℕ)) (s : Stream) (entry now : Site) (r : Restoring)
    : Type 0 where
  pub all : lines_of true entry.input.left ≡ lines ++ lines_of true (to_hear r.source now)
  pub accepted : Accepted g.pages lines (blank_stream g.pages) s
  pub ended : HasEnded r.source now
  pub count : total r.source now ≡ length entry.input.left
  pub cut : HasCut lines r.source entry now
  -- each of them has an octet at least
  pub each : length lines + length (pending r.source) ≤ r.source.taken

-- On every site: the database goes on, and so many lines were heard. They stand for an archive; where the site is
-- honest they are the first ones of the input, and the devices were blank.
pub record GoesOnRestoring (number : ℕ) (entry now : Site) (r : Restoring) : Type 0 where
  pub database : GoesOn entry now r.engine
  pub source : IsSource r.source
  pub g : Geometry
  pub limits : HasLimits g
  pub lengths : HasLengths g entry.image
  pub lines : List (List ℕ)
  pub long : length lines ≡ number
  pub s : Stream
  pub accepted : Accepted g.pages lines (blank_stream g.pages) s
  pub archived : HasFit g s r
  pub room : length r.room ≡ 32 * g.pages
  pub cap : 2 ≤ r.cap
  pub heard : IsTrue entry.honest → HasHeard g lines s entry now r
  pub stands : IsTrue entry.honest → Stands g entry.image (blank_table g) 0

-- So many commits of the stream are written over a target, and no line of the next one is begun.
pub record HasWritten (pool : ℕ) (g : Geometry) (s : Stream) (entry now : Site) (r : Restoring) : Type 0 where
  pub archived : HasFit g s r
  pub open archived use *
  pub made : ℕ
  pub kept : ℕ
  pub carried : HasCarried pool g entry now r.engine (lines_of_nets (blank_state g) (take r.written s.nets))
      (idle (archive_table (blank_table g) s.nets r.written) r.written made kept (g.blocks - 1))
  pub told : now.told ≡ entry.told
  pub moments : LeavesOnly entry now (IsLeft g s r.written [] entry.told)

-- a net is the next one that waited, and was taken out
pub record IsPopped (net : List Write) (before now : Restoring) : Type 0 where
  pub engine : now.engine ≡ before.engine
  pub room : now.room ≡ before.room
  pub source : now.source ≡ before.source
  pub cap : now.cap ≡ before.cap
  pub written : now.written ≡ before.written
  pub replay : (pages : ℕ) (s : Stream) (popped : List (List Write)) → StandsFor pages s popped before.replay
      → StandsFor pages s (popped ++ net ∷ []) now.replay

-- why a restore ends before its last commit, over devices of these sizes, whatever they have and whatever is loose
pub record EndsEarly (g : Geometry) (lines behind : List (List ℕ)) (s : Stream) (count : ℕ) (entry now : Site)
    (f : Fault) : Type 0 where
  pub begun : ℕ
  pub few : begun ≤ length s.nets
  pub most : begun ≤ count
  pub ends : EndsBy f g lines behind s begun entry now
  pub fit : HaveFit g s begun
  pub less : IsBetween f → begun < count

-- the same on every site
pub record EndsOnSite (count : ℕ) (entry now : Site) (f : Fault) : Type 0 where
  pub g : Geometry
  pub limits : HasLimits g
  pub lengths : HasLengths g entry.image
  pub lines : List (List ℕ)
  pub behind : List (List ℕ)
  pub s : Stream
  pub early : IsTrue entry.honest → IsHeard g.pages lines behind s entry × EndsEarly g lines behind s count entry now f
  pub cause : HasFaultCause f entry now

-- a restore that ends before its last commit, over a target, before its fault line is told
pub record StopsRestoring (g : Geometry) (lines behind : List (List ℕ)) (s : Stream) (count : ℕ) (entry now : Site)
    (f : Fault) : Type 0 where
  pub early : EndsEarly g lines behind s count entry now f
  pub open early use *
  pub told : now.told ≡ entry.told
  pub moments : LeavesOnly entry now (IsLeft g s begun [] entry.told)
  pub near : (snapshot : Snapshot) → MayLeave (now_of now) snapshot → StandsNear g s begun snapshot.image
  pub between : IsBetween f → StandsAfter g s begun now.image
  pub quiet : fault_status f ≢ 3 → now.loose ≡ no_loose

-- the halt of the run that its lines make; where that isn't what it ends by, one that no ring has caused
abbrev pub halt_in : Fault → Halt
halt_in (fault.Halt h) = h
halt_in (fault.Unfit unfit) = halt.Output
halt_in (fault.Stream number) = halt.Output
halt_in (fault.Short commits) = halt.Output
halt_in fault.Full = halt.Output

-- the lines that write the nets of so many commits into a database that was never written
abbrev pub nets_lines : Geometry → Stream → ℕ → List Line
nets_lines g s begun = lines_of_nets (blank_state g) (take begun s.nets)

-- what they ask of which some were begun, all those of the commits before the last
abbrev pub AsksForNets : ℕ → Geometry → Stream → ℕ → Site → Site → Halt → Type 0
AsksForNets pool g s begun entry now halt =
    AsksSome pool g (length (nets_lines g s (begun - 1))) (nets_lines g s begun) entry now halt

-- and what they ask by then
pub record StopsAsking (pool : ℕ) (g : Geometry) (lines behind : List (List ℕ)) (s : Stream) (count : ℕ)
    (entry now : Site) (f : Fault) : Type 0 where
  pub stops : StopsRestoring g lines behind s count entry now f
  pub open stops use *
  pub asks : AsksForNets pool g s begun entry now (halt_in f)

-- the devices were only read, once
pub record IsUntouched (old new : Site) (f : Fault) : Type 0 where
  pub early : (fault_status f ≡ 3) ⊎ ((fault_status f ≡ 4) ⊎ (fault_status f ≡ 10))
  pub same : IsUnchanged old new
  pub read : ReadsOnce old new

-- it ends before the first line: they were only read, or tested so, and then the restart failed
pub record NeverRestores (pool : ℕ) (g : Geometry) (behind : List (List ℕ)) (count : ℕ) (old new : Site) (f : Fault)
    : Type 0 where
  pub stops : StopsRestoring g [] behind (blank_stream g.pages) count old new f
  pub asks : IsUntouched old new f ⊎ HasTested old (λ tested. AsksSome pool g 0 [] tested new (halt_in f))

-- A restore under way over a target: these lines were heard, and nets of their stream are written.
pub record IsUnderWay (pool count : ℕ) (g : Geometry) (old now : Site) (r : Restoring) (number : ℕ) : Type 0 where
  pub tested : Site
  pub same : IsUnchanged old tested
  pub read : ReadsOnce old tested
  pub kept : Preserves old tested
  pub lines : List (List ℕ)
  pub s : Stream
  pub goes : GoesOnRestoring number tested now r
  pub written : HasWritten pool g s tested now r
  pub heard : HasHeard g lines s tested now r
  pub long : length lines ≡ number
  pub asks : AsksFor (HasFewCommits g.pages count) tested now
