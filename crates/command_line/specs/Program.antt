-- The command line of the program, as `clap` sees it.
use Rattle.std.specs.Prelude.{◌≡◌, ◌≤◌, ◌<◌, ◌^◌, true, false, codes, decimal, List, [], ℕ, Some}
use Rattle.std.specs.List.{list_any}
use Rattle.clap.specs.Words.{App, Rule, app_of, fault_of, first_value, new_app, new_rule, subcommand_of}
use Rattle.clap.specs.Words.{subcommand_rows_of, with_rule, with_subcommand}
use Rattle.clap.specs.Simple.{on_top}
use Rattle.clap.specs.declared.builder.command.Command.{Command}
use Rattle.clap.specs.declared.parser.matches.ArgMatches.{ArgMatches}
use Rattle.clap.specs.declared.parser.matches.Found.{Found}
use Rattle.site.specs.declared.geometry.Geometry.{Geometry}
use Rattle.site.specs.Geometry.{HasLimits}
use Rattle.command_line.specs.declared.request.Load.{Load}
use Rattle.command_line.specs.declared.request.Restoring.{Restoring}
use Rattle.command_line.specs.declared.request.Simulation.{Simulation}
use Rattle.command_line.specs.declared.request.TrialSizes.{TrialSizes}
use Rattle.command_line.specs.Words.{HasCacheLimits, HasLoadLimits, HasRestoringLimits, HasTrialLimits, is_dashed}
use Rattle.clap.specs.declared.builder.command.Command.TheViews.{out-Command}

-- a text that has to be there
abbrev pub text : Rule → Rule
text rule = record rule { required = true }

abbrev pub new_words : App
new_words = with_rule (with_rule (with_rule (new_app (codes "new")) (text (new_rule (codes "pages"))))
    (text (new_rule (codes "groups")))) (text (new_rule (codes "blocks")))

abbrev pub run_words : App
run_words = with_rule (new_app (codes "run")) (text (new_rule (codes "pool")))

abbrev pub load_words : App
load_words = with_rule (with_rule (with_rule (new_app (codes "load")) (text (new_rule (codes "count"))))
    (text (new_rule (codes "seed")))) (text (new_rule (codes "pool")))

abbrev pub simulate_words : App
simulate_words = with_rule (with_rule (new_app (codes "simulate")) (text (new_rule (codes "groups"))))
    (text (new_rule (codes "pool")))

abbrev pub trial_words : App
trial_words = with_rule (with_rule (with_rule (with_rule (new_app (codes "trial")) (text (new_rule (codes "pages"))))
    (text (new_rule (codes "groups")))) (text (new_rule (codes "blocks")))) (text (new_rule (codes "pool")))

-- no text stands behind `check`
abbrev pub check_words : App
check_words = new_app (codes "check")

abbrev pub archive_words : App
archive_words = with_rule (new_app (codes "archive")) (text (new_rule (codes "from")))

abbrev pub verify_words : App
verify_words = with_rule (new_app (codes "verify")) (text (new_rule (codes "pages")))

abbrev pub restore_words : App
restore_words = with_rule (with_rule (new_app (codes "restore")) (text (new_rule (codes "count"))))
    (text (new_rule (codes "pool")))

abbrev pub bare : App
bare = on_top (λ s. record s {
  no_binary_name = true;
  disable_help_flag = true;
  disable_help_subcommand = true;
  disable_version_flag = true;
  subcommand_required = true;
}) (new_app (codes "face"))

-- `new` and `load` with three texts each and `run` with one, and no help
abbrev pub database_words : App
database_words = with_subcommand (with_subcommand (with_subcommand bare new_words.top) run_words.top) load_words.top

-- and `simulate` with two, `trial` with four, and `check` with none
abbrev pub earlier_words : App
earlier_words =
    with_subcommand (with_subcommand (with_subcommand database_words simulate_words.top) trial_words.top)
    check_words.top

-- and `archive` and `verify` with one each, and `restore` with two
abbrev pub program : App
program = with_subcommand (with_subcommand (with_subcommand earlier_words archive_words.top) verify_words.top)
    restore_words.top

-- the command is this one, and no argument of it is global
abbrev pub IsLike : Command → App → Type 0
IsLike command app = (app_of command ≡ app) × ((out-Command command).has_globals ≡ false)

-- `clap` has read the words, none of which begins with a dash, and found no fault in them
pub record IsReadFrom (words : List (List ℕ)) (m : ArgMatches) : Type 0 where
  pub plain : list_any is_dashed words ≡ false
  pub faultless : fault_of program words ≡ []
  pub rows : subcommand_rows_of m ≡ subcommand_of program words

-- the text behind `run` is a number of pages
pub record IsPool (found : Found) (pool : ℕ) : Type 0 where
  pub text : first_value found (codes "pool") ≡ Some (decimal pool)
  pub from : 1 ≤ pool
  pub to : pool ≤ 4096

-- the text behind `archive` is the number of a block
pub record IsFrom (found : Found) (from : ℕ) : Type 0 where
  pub text : first_value found (codes "from") ≡ Some (decimal from)
  pub fits : from < 2 ^ 64

-- the text behind `verify` is a number of pages
pub record ArePages (found : Found) (pages : ℕ) : Type 0 where
  pub text : first_value found (codes "pages") ≡ Some (decimal pages)
  pub from : 1 ≤ pages
  pub to : pages ≤ 65536

-- the texts behind `new` are sizes
pub record AreSizes (found : Found) (g : Geometry) : Type 0 where
  pub pages : first_value found (codes "pages") ≡ Some (decimal g.pages)
  pub groups : first_value found (codes "groups") ≡ Some (decimal g.groups)
  pub blocks : first_value found (codes "blocks") ≡ Some (decimal g.blocks)
  pub limits : HasLimits g

-- the texts behind `load` state this workload
pub record IsLoadOf (found : Found) (load : Load) : Type 0 where
  pub count : first_value found (codes "count") ≡ Some (decimal load.count)
  pub seed : first_value found (codes "seed") ≡ Some (decimal load.seed)
  pub pool : first_value found (codes "pool") ≡ Some (decimal load.pool)
  pub limits : HasLoadLimits load

-- the texts behind `simulate` say these sizes
pub record IsSimulationOf (found : Found) (s : Simulation) : Type 0 where
  pub groups : first_value found (codes "groups") ≡ Some (decimal s.groups)
  pub pool : first_value found (codes "pool") ≡ Some (decimal s.pool)
  pub limits : HasCacheLimits s

-- the texts behind `trial` ask for this trial
pub record IsTrialOf (found : Found) (t : TrialSizes) : Type 0 where
  pub pages : first_value found (codes "pages") ≡ Some (decimal t.geometry.pages)
  pub groups : first_value found (codes "groups") ≡ Some (decimal t.geometry.groups)
  pub blocks : first_value found (codes "blocks") ≡ Some (decimal t.geometry.blocks)
  pub pool : first_value found (codes "pool") ≡ Some (decimal t.pool)
  pub limits : HasTrialLimits t

-- the texts behind `restore` say these numbers
pub record IsRestoringOf (found : Found) (r : Restoring) : Type 0 where
  pub commits : first_value found (codes "count") ≡ Some (decimal r.commits)
  pub pool : first_value found (codes "pool") ≡ Some (decimal r.pool)
  pub limits : HasRestoringLimits r
