-- The line of a halt is told last.
use Rattle.face.proofs.Names.{◌≡◌, inl, inr, ℕ, [], refl, IsTrue, Result, HasCause, TellsFault, ends_with, ends_done, Tells, fault_line, status_of, Halt, Preserves, Site as State, Failed}

-- the line of a halt, over every honest site
pub tells_fault : {T : Type 0} (h : Halt) (status : ℕ) (old mid new : State) (result : Result T Failed) → status ≡ status_of h → HasCause h old new → Preserves old mid → IsTrue mid.honest → Tells (fault_line h) mid new result → TellsFault status old new
tells_fault h status old mid new result is cause goes honest tells = (fault_line h, inr (h, is, refl, cause), mid.told, ends_with mid.told (fault_line h) old mid new result goes honest refl tells)

pub tells_none : (old new : State) → TellsFault 0 old new
tells_none old new = ([], inl (refl, refl), new.told, ends_done new.told old new refl)
