-- How the calls of a judge end.
use Rattle.std.specs.Prelude.{◌≡◌, IfOk, IfErr, Result}
use Rattle.site.specs.declared.outside.Stop.{Stop}
use Rattle.site.specs.declared.outside.Stop.TheVariants.{Memory}

-- what is said of an answer; an error is want of memory
pub record OrMemory {T : Type 0} (result : Result T Stop) (Done : T → Type 0) : Type 0 where
  pub done : IfOk result Done
  pub stops : IfErr result (λ stop. stop ≡ Memory)
