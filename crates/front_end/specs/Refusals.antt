-- The refusals of words and of devices without sizes, and want of memory before anything was done.
use Rattle.std.specs.Prelude.{◌≡◌, ℕ, List, codes, IsTrue}
use Rattle.site.specs.State.{State}
use Rattle.site.specs.Calls.{SameReads}
use Rattle.site.specs.Moments.{EachMoment}
use Rattle.site.specs.Telling.{HandsRest, TellsPart, SameDevices}
use Rattle.front_end.specs.Tells.{EndsWith}

abbrev pub words_fault : List ℕ
words_fault = codes "fault words\n"

-- nothing is read, and of an honest site nothing is touched but the output: a crash at any moment leaves some front of
-- this line told, and when it is over all of it is, where no tell failed
pub record OnlyTells (line : List ℕ) (old new : State) : Type 0 where
  pub any_moment : IsTrue old.honest → EachMoment old new (TellsPart line old)
  pub hands : IsTrue old.honest → EachMoment old new (HandsRest line old)
  pub ends : IsTrue old.honest → EndsWith old.told line old new
  pub devices : IsTrue old.honest → SameDevices old new
  pub reads : SameReads old new

abbrev pub RefusesWords : State → State → Type 0
RefusesWords old new = OnlyTells words_fault old new

abbrev pub foreign_fault : List ℕ
foreign_fault = codes "fault foreign\n"

-- devices without sizes have status 9, and nothing but its line is told
abbrev pub RefusesDevices : ℕ → State → State → Type 0
RefusesDevices status old new = (status ≡ 9) × OnlyTells foreign_fault old new

abbrev pub memory_fault : List ℕ
memory_fault = codes "fault memory\n"

-- memory was wanted before anything was done
abbrev pub LacksMemory : ℕ → State → State → Type 0
LacksMemory status old new = (status ≡ 4) × OnlyTells memory_fault old new
