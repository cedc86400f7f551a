-- What the calls do to one device in memory and to the history.
use Rattle.std.specs.Prelude.{◌≡◌, ◌≢◌, ◌⊎◌, ℕ, ◌<◌, ◌≤◌, Bool, true, List, [], ◌∷◌, ◌++◌, length, take, drop, Vec}
use Rattle.std.specs.Prelude.{Result, OnOk, OnErr}
use Rattle.std.specs.declared.alloc.Global.{Global}
use Rattle.site.specs.declared.outside.Dev.{Dev}
use Rattle.site.specs.declared.outside.Failed.{Failed}
use Rattle.site.specs.State.{State}
use Rattle.site.specs.Calls.{Rose, put, range, Lies, Stays}
use Rattle.site.specs.Faults.{one_more}
use Rattle.mem_site.specs.declared.change.Change.{Change}
use Rattle.mem_site.specs.declared.change.Change.TheVariants.{Wrote, Synced}
use Rattle.mem_site.specs.declared.change.Span.{Span}
use Rattle.mem_site.specs.declared.area.Area.{Area}
use Rattle.mem_site.specs.declared.limits.Gate.{Gate}
use Rattle.mem_site.specs.declared.limits.Gate.TheVariants.{Open}
use Rattle.mem_site.specs.History.{ranges_of}

-- the bytes stand there, the range is loose, and the history has what stood there
pub record Laid (dev : Dev) (at : ℕ) (bytes : List ℕ) (old new : Area) (before now : List Change) : Type 0 where
  pub content : new.content.items ≡ put old.content.items at bytes
  pub loose : ranges_of new.loose.items ≡ range at (length bytes) ∷ ranges_of old.loose.items
  pub had : (v : Vec ℕ Global) × (v.items ≡ take (length bytes) (drop at old.content.items))
      × (now ≡ before ++ Wrote dev at v ∷ [])

-- nothing changed but counts
pub record Kept (old new : Area) (before now : List Change) : Type 0 where
  pub content : new.content.items ≡ old.content.items
  pub loose : new.loose.items ≡ old.loose.items
  pub history : now ≡ before

-- no range is loose any more, and the history has those that were
pub record Settled (dev : Dev) (old new : Area) (before now : List Change) : Type 0 where
  pub content : new.content.items ≡ old.content.items
  pub loose : new.loose.items ≡ []
  pub had : (v : Vec Span Global) × (v.items ≡ old.loose.items) × (now ≡ before ++ Synced dev v ∷ [])

-- a call that fails counts as one fault more, and any other as none
pub record CountsFault {T : Type 0} (result : Result T Failed) (old new : Area) : Type 0 where
  pub cause : OnErr result (Rose old.faults new.faults)
  pub failed : OnErr result (new.faults ≡ one_more old.faults)
  pub faults : old.faults ≤ new.faults
  pub quiet : OnOk result (new.faults ≡ old.faults)

-- a change passes only an open gate, and fails there only where memory lacked
pub record FailsAt {T : Type 0} (gate : Gate) (result : Result T Failed) (lacked lacked' : Bool) : Type 0 where
  pub lacked_on : lacked ≡ true → lacked' ≡ true
  pub why : OnErr result (gate ≡ Open → lacked' ≡ true)
  pub opened : OnOk result ((gate ≡ Open) × (lacked' ≡ lacked))

-- What a failed write leaves, so many changes having been asked for: past the 10,000th what was there; else the new
-- bytes, or, where memory lacked, what was there.
pub record LeavesOf (dev : Dev) (at : ℕ) (bytes : List ℕ) (old new : State) (changes : ℕ)
    (lacked lacked' : Bool) : Type 0 where
  pub over : 10000 < changes → Stays old new × (lacked' ≡ lacked)
  pub within : changes ≤ 10000 → (Lies dev at bytes old new × (lacked' ≡ lacked)) ⊎ (Stays old new × (lacked' ≡ true))
