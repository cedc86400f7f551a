-- When each status comes.
use Rattle.face.proofs.Names.{◌≡◌, inl, inr, ◌⊎◌, IsTrue, ℕ, length, sym, ap, subst, arith, HasCause, HasCauses, IsWornOut, IsWorn, status_of, Halt, IsLogWorn, IsSpent, rose_then, Preserves, Input, faults_of, Site as State, SameDevices, Dev, Log, Flash, Disk, Device, Memory, Worn, Foreign}
use Rattle.front_end.specs.declared.halt.Halt.TheVariants as halt

-- a cause holds still when a line was told
pub cause_then : (h : Halt) (a b c : State) → HasCause h a b → Preserves b c → (IsTrue a.honest → SameDevices b c) → HasCause h a c
cause_then (halt.Stop (Device dev)) a b c cause goes same = rose_then (faults_of dev a) (faults_of dev b) (faults_of dev c) cause (goes.faults dev)
cause_then (halt.Stop Memory) a b c cause goes same = cause
cause_then (halt.Stop (Worn Log)) a b c cause goes same = λ honest g limits lengths.
    let worn = cause honest g limits lengths in let here = sym (same honest).image in (subst (IsSpent Log g) here worn.0, λ table commits stands. subst (IsLogWorn g) here (worn.1 table commits stands))
cause_then (halt.Stop (Worn Flash)) a b c cause goes same = λ honest g limits lengths.
    let worn = cause honest g limits lengths in let here = sym (same honest).image in (subst (IsSpent Flash g) here worn.0, λ table commits stands. subst (IsWorn g) here (worn.1 table commits stands))
cause_then (halt.Stop (Worn Disk)) a b c cause goes same = absurd cause
cause_then (halt.Stop Foreign) a b c cause goes same = cause
cause_then halt.Input a b c cause goes same = rose_then a.input_faults b.input_faults c.input_faults cause goes.input_faults
cause_then halt.Output a b c cause goes same = rose_then a.output_faults b.output_faults c.output_faults cause goes.output_faults
cause_then halt.Limit a b c cause goes same = λ honest. let over = cause honest in let left = ap (λ (input : Input). length input.left) (same honest).left in omega (arith, over, left)

-- flash is worn, or the log
worn_causes : (dev : Dev) (a b : State) → IsWornOut dev a b → IsWornOut Flash a b ⊎ IsWornOut Log a b
worn_causes Flash a b cause = inl cause
worn_causes Log a b cause = inr cause
worn_causes Disk a b cause = absurd cause

-- by the status
pub status_causes : (h : Halt) (status : ℕ) (a b : State) → status ≡ status_of h → HasCause h a b → HasCauses status a b
status_causes (halt.Stop (Device dev)) status a b is cause = grind arith
status_causes (halt.Stop Memory) status a b is cause = grind arith
status_causes (halt.Stop (Worn dev)) status a b is cause = grind (arith, worn_causes)
status_causes (halt.Stop Foreign) status a b is cause = grind arith
status_causes halt.Input status a b is cause = grind arith
status_causes halt.Output status a b is cause = grind arith
status_causes halt.Limit status a b is cause = grind arith

pub no_causes : (a b : State) → HasCauses 0 a b
no_causes a b = grind arith
