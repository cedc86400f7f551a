-- What `archive` does with a site.
use Rattle.std.specs.Prelude.{◌≡◌, ◌⊎◌, ℕ, List, [], ◌++◌, codes, take, IsTrue}
use Rattle.std.specs.List.{concat}
use Rattle.site.specs.declared.geometry.Geometry.{Geometry}
use Rattle.site.specs.declared.outside.Dev.TheVariants.{Log}
use Rattle.site.specs.Geometry.{HasLimits, HasLengths}
use Rattle.site.specs.State.{State}
use Rattle.site.specs.Calls.{FaultRose, Rose}
use Rattle.site.specs.Faults.{Faults, faults_in, with_fault, with_output_fault}
use Rattle.site.specs.Moments.{EachMoment}
use Rattle.archive_report.specs.Archives.{Answers, HasLog}
use Rattle.archive_report.specs.Telling.{TellsSynced}

-- the line of a fault that goes with each status, behind what was told before
pub record IsFault (status : ℕ) (fault : List ℕ) : Type 0 where
  pub log : status ≡ 3 → fault ≡ codes "fault log\n"
  pub memory : status ≡ 4 → fault ≡ codes "fault memory\n"
  pub foreign : status ≡ 9 → fault ≡ codes "fault foreign\n"
  pub none : (status ≡ 0) ⊎ ((status ≡ 6) ⊎ (status ≡ 12)) → fault ≡ []

-- What is told of an honest site: the first lines of the answer, then the line of a fault.
pub record Archives (from : ℕ) (old new : State) (status : ℕ) : Type 0 where
  pub done : List (List ℕ)
  pub rest : List (List ℕ)
  pub right : (done ≡ []) ⊎ ((s : ℕ) × Answers from old.image s (done ++ rest))
  pub fault : List ℕ
  pub fault_is : IsFault status fault
  -- a crash at any moment leaves a front of it told, and before a line of the answer is told the log is synced
  pub any_moment : EachMoment old new (TellsSynced fault (concat done ++ fault) old)
  pub image : new.image ≡ old.image
  pub left : new.input ≡ old.input
  -- in the end all of it, where no tell has failed
  pub part : ℕ
  pub told : new.told ≡ old.told ++ take part (concat done ++ fault)
  pub whole : ¬ (Rose old.output_faults new.output_faults) → take part (concat done ++ fault) ≡ concat done ++ fault
  -- the answer with its status is told whole
  pub all : (status ≡ 0) ⊎ (status ≡ 12) → Answers from old.image status done × (new.told ≡ old.told ++ concat done)

-- When each status comes.
pub record ArchiveCauses (old new : State) (status : ℕ) : Type 0 where
  pub others : (status ≡ 0) ⊎ ((status ≡ 3) ⊎ ((status ≡ 4) ⊎ ((status ≡ 6) ⊎ ((status ≡ 9) ⊎ (status ≡ 12)))))
  pub log : status ≡ 3 → FaultRose Log old new
  pub output : status ≡ 6 → Rose old.output_faults new.output_faults
  -- 9 over an honest site exactly where the devices have no log, unless 3 or 4 came first
  pub foreign : IsTrue old.honest → status ≡ 9 → (g : Geometry) → HasLog g old.image → ⊥
  pub no_log : IsTrue old.honest → ((g : Geometry) → HasLog g old.image → ⊥) →
      (status ≡ 9) ⊎ ((status ≡ 3) ⊎ (status ≡ 4))
  -- of every site: where the devices have no sizes, unless memory was wanted first
  pub sizes : ((g : Geometry) → HasLimits g → HasLengths g old.image → ⊥) → (status ≡ 9) ⊎ (status ≡ 4)

-- What `archive` does from a block on.
pub record ArchiveContract (from : ℕ) (old new : State) (status : ℕ) : Type 0 where
  pub does : IsTrue old.honest → Archives from old new status
  pub causes : ArchiveCauses old new status

-- The first failed call decides the status: with 3 one call of the log has failed, with 6 one tell, with any other
-- status none; behind it the telling of a fault's line may fail.
pub record FirstFails (status : ℕ) (old new : State) : Type 0 where
  pub after : Faults
  pub log : status ≡ 3 → after ≡ with_fault Log (faults_in old)
  pub output : status ≡ 6 → after ≡ with_output_fault (faults_in old)
  pub none : (status ≡ 0) ⊎ ((status ≡ 4) ⊎ ((status ≡ 9) ⊎ (status ≡ 12))) → after ≡ faults_in old
  pub line : (faults_in new ≡ after) ⊎ (faults_in new ≡ with_output_fault after)
