-- Lives under way.
use Rattle.std.specs.Prelude.{◌≡◌, ◌⊎◌, ℕ, ◌-◌, List, [], ◌∷◌, ◌++◌, IsTrue, Result, Ok, Err}
use Rattle.site.specs.State.{State as Site, Image, MayLeave, no_loose, now_of}
use Rattle.site.specs.Calls.{Preserves, SameReads}
use Rattle.site.specs.declared.geometry.Geometry.{Geometry}
use Rattle.site.specs.declared.outside.Stop.TheVariants.{Memory}
use Rattle.mem_site.specs.Crash.{started}
use Rattle.mem_site.specs.MemState.{IsFresh, state_of}
use Rattle.mem_site.specs.declared.mem.MemSite.{MemSite}
use Rattle.record_model.specs.declared.words.CacheLine.{CacheLine}
use Rattle.record_model.specs.State.{Content, opened}
use Rattle.front_end.specs.declared.halt.Halt.{Halt}
use Rattle.front_end.specs.declared.halt.Halt.TheVariants as halt
use Rattle.face.specs.Headline.{IsGood}
use Rattle.face.specs.Run.{Run}
use Rattle.face.specs.Trial.{Between, GoesOn, HaveLived, IsTextOf, LeavesDevices, TellsAll, TellsSome, life_run}

-- The site that a trial is called with keeps its devices, and none is read.
pub record KeepsDevices (old new : Site) : Type 0 where
  pub devices : IsTrue old.honest → LeavesDevices old new
  pub reads : SameReads old new
  pub preserves : Preserves old new

-- a run over the site opens with this table and this many commits
abbrev pub Finds : Geometry → List Content → ℕ → Site → Type 0
Finds g table commits site = IsGood g (opened table commits 0 (g.blocks - 1)) site

-- a life may begin on the site
pub record IsReady (g : Geometry) (before : Between) (m : MemSite) : Type 0 where
  pub finds : Finds g before.table before.commits (state_of m)
  pub fresh : IsFresh m
  pub state : state_of m ≡ started (0 ∷ 0 ∷ before.changes) before.image

-- each honest and quiet site with these contents is found so by a run, after some of the commits of this one
pub record IsFoundAfter (g : Geometry) (run : Run) (text : List ℕ) (image : Image) : Type 0 where
  pub table : List Content
  pub commits : ℕ
  pub goes_on : GoesOn run text table commits
  pub finds : (site : Site) → IsTrue site.honest → site.loose ≡ no_loose → site.image ≡ image
      → Finds g table commits site

-- A life is over, with a status: all that it told is its text, and what a crash now leaves is found after some of its
-- commits.
pub record HasLivedOne (g : Geometry) (before : Between) (octets : List ℕ) (status : ℕ) (site : Site) : Type 0 where
  pub listings : List (List CacheLine)
  pub is_text : IsTextOf (life_run g before octets listings) status site.told
  pub left : (image : Image) → MayLeave (now_of site) (record { told = site.told; image = image }) →
      IsFoundAfter g (life_run g before octets listings) site.told image

-- Some lives are told whole; of the next one, if it was begun, only its number is known.
pub record IsGivenUp (g : Geometry) (pool : ℕ) (script : List ℕ) (old new : Site) (numbers : List ℕ) : Type 0 where
  pub lives : ℕ
  pub before : Between
  pub lived : HaveLived g pool script lives before
  pub told : new.told ≡ old.told ++ before.told
  pub changes : ℕ
  pub numbers_are : numbers ≡ before.changes ++ changes ∷ []

-- what comes of lives before the fault line
abbrev pub Ends : {T : Type 0} → Geometry → ℕ → List ℕ → Result T Halt → Site → Site → List ℕ → Type 0
Ends g pool script (Ok done) old new numbers = TellsAll g pool script old new numbers
Ends g pool script (Err halt.Output) old new numbers = TellsSome g pool script old new numbers
Ends g pool script (Err other) old new numbers = IsGivenUp g pool script old new numbers

-- why a trial halts
abbrev pub IsHaltOfTrial : Halt → Type 0
IsHaltOfTrial h = (h ≡ halt.Stop Memory) ⊎ ((h ≡ halt.Input) ⊎ ((h ≡ halt.Output) ⊎ (h ≡ halt.Limit)))
