-- The words that the program is called with.
use Rattle.std.specs.Prelude.{◌≡◌, ◌⊎◌, ℕ, ◌%◌, ◌≤◌, ◌<◌, ◌^◌, List, [], ◌∷◌, map, codes, decimal, string_bytes}
use Rattle.std.specs.Prelude.{Bool, true, false, ◌==◌}
use Rattle.std.specs.List.{list_any}
use Rattle.std.specs.declared.string.String.{String}
use Rattle.std.specs.declared.alloc.Global.{Global}
use Rattle.site.specs.declared.geometry.Geometry.{Geometry}
use Rattle.site.specs.Geometry.{HasLimits}
use Rattle.command_line.specs.declared.request.Load.{Load as Workload}
use Rattle.command_line.specs.declared.request.Restoring.{Restoring}
use Rattle.command_line.specs.declared.request.Simulation.{Simulation}
use Rattle.command_line.specs.declared.request.TrialSizes.{TrialSizes}
use Rattle.command_line.specs.declared.request.Request.{Request}
use Rattle.command_line.specs.declared.request.Request.TheVariants.{Run, New, Load, Simulate, Trial, Check, Archive}
use Rattle.command_line.specs.declared.request.Request.TheVariants.{Verify, Restore}

-- the octets of each word
abbrev pub words_of : List (String Global) → List (List ℕ)
words_of words = map string_bytes words

-- `run POOL`, with POOL in decimal, from 1 to 4096
pub record IsRun (words : List (List ℕ)) (pool : ℕ) : Type 0 where
  pub words_are : words ≡ codes "run" ∷ decimal pool ∷ []
  pub from : 1 ≤ pool
  pub to : pool ≤ 4096

-- `new PAGES GROUPS BLOCKS` in decimal, within the limits
pub record IsNew (words : List (List ℕ)) (g : Geometry) : Type 0 where
  pub words_are : words ≡ codes "new" ∷ decimal g.pages ∷ decimal g.groups ∷ decimal g.blocks ∷ []
  pub limits : HasLimits g

-- a load makes 1 to 100,000 sets from any seed of 64 bits, with a pool of at most 4,096 pages
pub record HasLoadLimits (load : Workload) : Type 0 where
  pub some : 1 ≤ load.count
  pub few : load.count ≤ 100000
  pub seed : load.seed < 2 ^ 64
  pub from : 1 ≤ load.pool
  pub to : load.pool ≤ 4096

-- `load COUNT SEED POOL` in decimal, within the limits
pub record IsLoad (words : List (List ℕ)) (load : Workload) : Type 0 where
  pub words_are : words ≡ codes "load" ∷ decimal load.count ∷ decimal load.seed ∷ decimal load.pool ∷ []
  pub limits : HasLoadLimits load

-- caches are simulated with a flash of 8 to 16,384 groups, a multiple of four, and a pool of at most 4,096 pages
pub record HasCacheLimits (s : Simulation) : Type 0 where
  pub least : 8 ≤ s.groups
  pub most : s.groups ≤ 16384
  pub fours : s.groups % 4 ≡ 0
  pub from : 1 ≤ s.pool
  pub to : s.pool ≤ 4096

-- `simulate GROUPS POOL` in decimal, within the limits
pub record IsSimulate (words : List (List ℕ)) (s : Simulation) : Type 0 where
  pub words_are : words ≡ codes "simulate" ∷ decimal s.groups ∷ decimal s.pool ∷ []
  pub limits : HasCacheLimits s

-- the devices of a trial have at most 1,024 pages, 256 groups and 4,096 blocks
pub record HasTrialSizes (g : Geometry) : Type 0 where
  pub limits : HasLimits g
  pub few_pages : g.pages ≤ 1024
  pub few_groups : g.groups ≤ 256
  pub few_blocks : g.blocks ≤ 4096

pub record HasTrialLimits (t : TrialSizes) : Type 0 where
  pub sizes : HasTrialSizes t.geometry
  pub from : 1 ≤ t.pool
  pub to : t.pool ≤ 4096

-- `trial PAGES GROUPS BLOCKS POOL` in decimal, within the limits
pub record IsTrial (words : List (List ℕ)) (t : TrialSizes) : Type 0 where
  pub words_are : words ≡ codes "trial" ∷ decimal t.geometry.pages ∷ decimal t.geometry.groups
      ∷ decimal t.geometry.blocks ∷ decimal t.pool ∷ []
  pub limits : HasTrialLimits t

-- `check`, alone
abbrev pub IsCheck : List (List ℕ) → Type 0
IsCheck words = words ≡ codes "check" ∷ []

-- `archive FROM`, with FROM below 2^64 in decimal
pub record IsArchive (words : List (List ℕ)) (from : ℕ) : Type 0 where
  pub words_are : words ≡ codes "archive" ∷ decimal from ∷ []
  pub fits : from < 2 ^ 64

-- `verify PAGES`, with PAGES in decimal, from 1 to 65,536
pub record IsVerify (words : List (List ℕ)) (pages : ℕ) : Type 0 where
  pub words_are : words ≡ codes "verify" ∷ decimal pages ∷ []
  pub from : 1 ≤ pages
  pub to : pages ≤ 65536

-- any number of commits of 64 bits, and a pool of at most 4,096 pages
pub record HasRestoringLimits (r : Restoring) : Type 0 where
  pub commits : r.commits < 2 ^ 64
  pub from : 1 ≤ r.pool
  pub to : r.pool ≤ 4096

-- `restore N POOL` in decimal, within the limits
pub record IsRestore (words : List (List ℕ)) (r : Restoring) : Type 0 where
  pub words_are : words ≡ codes "restore" ∷ decimal r.commits ∷ decimal r.pool ∷ []
  pub limits : HasRestoringLimits r

-- the words are right and of an archive
abbrev pub IsOfArchive : List (List ℕ) → Type 0
IsOfArchive words =
    ((from : ℕ) × IsArchive words from) ⊎ (((pages : ℕ) × IsVerify words pages) ⊎ ((r : Restoring) × IsRestore words r))

-- the words are in the table
abbrev pub IsRight : List (List ℕ) → Type 0
IsRight words =
    ((pool : ℕ) × IsRun words pool) ⊎ (((g : Geometry) × IsNew words g)
    ⊎ (((load : Workload) × IsLoad words load) ⊎ (((s : Simulation) × IsSimulate words s)
    ⊎ (((t : TrialSizes) × IsTrial words t) ⊎ (IsCheck words ⊎ IsOfArchive words)))))

-- the words ask for this
abbrev pub IsRequest : Request → List (List ℕ) → Type 0
IsRequest (Run pool) words = IsRun words pool
IsRequest (New g) words = IsNew words g
IsRequest (Load load) words = IsLoad words load
IsRequest (Simulate s) words = IsSimulate words s
IsRequest (Trial t) words = IsTrial words t
IsRequest Check words = IsCheck words
IsRequest (Archive from) words = IsArchive words from
IsRequest (Verify pages) words = IsVerify words pages
IsRequest (Restore r) words = IsRestore words r

-- the word begins with a dash
abbrev pub is_dashed : List ℕ → Bool
is_dashed [] = false
is_dashed (octet ∷ rest) = octet == 45

abbrev pub HasDash : List (List ℕ) → Type 0
HasDash words = list_any is_dashed words ≡ true
