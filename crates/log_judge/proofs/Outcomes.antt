-- How calls end that want memory.
use Rattle.log_judge.proofs.Names.{Result, Ok, Err}
use Rattle.site.specs.declared.outside.Stop.{Stop}
use Rattle.log_judge.specs.Outcomes.{OrMemory}

-- what is said of an answer
pub goes_well : {T : Type 0} {x : T} {P : T → Type 0} → P x → OrMemory (Ok x) P
goes_well says = record { done = says; stops = tt }

-- and said otherwise
pub memory_as : {T : Type 0} (r : Result T Stop) {P Q : T → Type 0} → ((x : T) → P x → Q x) → OrMemory r P → OrMemory r Q
memory_as (Ok x) f says = record { done = f x says.done; stops = tt }
memory_as (Err e) f says = record { done = tt; stops = says.stops }
