-- The contract of each command of the program.
use Rattle.std.specs.Prelude.{◌≡◌, ◌≢◌, ◌⊎◌, ℕ, [], true, IsTrue}
use Rattle.site.specs.State.{State as Site}
use Rattle.site.specs.declared.geometry.Geometry.{Geometry}
use Rattle.record_model.specs.State.{State}
use Rattle.command_line.specs.declared.request.Load.{Load}
use Rattle.face.specs.Causes.{EndsInTime, HasCauses}
use Rattle.front_end.specs.Faults.{NoFaultRose}
use Rattle.face.specs.Headline.{Headline, IsGood, TellsFault}
use Rattle.face.specs.Loads.{LoadHeadline}
use Rattle.front_end.specs.New.{New, NewCauses}
use Rattle.face.specs.RunMeaning.{run_of}
use Rattle.face.specs.Workload.{load_run}
use Rattle.face.specs.Worn.{WearsNone}

-- What `run` does with a pool of so many pages.
pub record RunContract (pool : ℕ) (old new : Site) (status : ℕ) : Type 0 where
  -- what is told, and what a crash at any moment leaves
  pub headline : (g : Geometry) (opening : State) → IsGood g opening old → Headline pool g opening old new status
  -- Where nothing fails, the lines that are left append to no ring that stands at its end, and the input ends in time,
  -- the status is 0, or memory was wanted.
  pub complete : (g : Geometry) (opening : State) → IsGood g opening old → NoFaultRose old new →
      WearsNone pool (run_of g opening true old.input.left []) old.image → EndsInTime old →
      (status ≡ 0) ⊎ (status ≡ 4)
  -- of every site: when each status comes, and the line that is told with it
  pub causes : HasCauses status old new
  pub line : IsTrue old.honest → TellsFault status old new

-- What `load` does.
pub record LoadContract (load : Load) (old new : Site) (status : ℕ) : Type 0 where
  pub headline : (g : Geometry) (opening : State) → IsGood g opening old → LoadHeadline load g opening old new status
  -- Where nothing fails, and its lines append to no ring that stands at its end, the status is 0, or memory was wanted.
  pub complete : (g : Geometry) (opening : State) → IsGood g opening old → NoFaultRose old new →
      WearsNone load.pool (load_run g opening load) old.image → (status ≡ 0) ⊎ (status ≡ 4)
  -- of every site: when each status comes, none that speaks of input, and the line that is told with it
  pub causes : HasCauses status old new
  pub untaken : (status ≢ 5) × (status ≢ 7)
  pub line : IsTrue old.honest → TellsFault status old new

-- What `new` of these sizes does, and when each of its statuses comes.
pub record NewContract (g : Geometry) (old new : Site) (status : ℕ) : Type 0 where
  pub does : New g old new status
  pub causes : NewCauses g old new status
