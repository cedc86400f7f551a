-- What the calls say alike that push a group, or a part of that.
use Rattle.std.specs.Prelude.{◌≡◌, ◌≢◌, ◌^◌, IsTrue, Result, OnOk, OnErr, IfErr, IsErrOf}
use Rattle.site.specs.declared.outside.Dev.{Dev}
use Rattle.site.specs.declared.outside.Dev.TheVariants.{Flash}
use Rattle.site.specs.declared.outside.Stop.{Stop}
use Rattle.site.specs.declared.outside.Stop.TheVariants.{Device, Worn}
use Rattle.site.specs.State.{State, IsQuiet}
use Rattle.site.specs.Calls.{Preserves, FaultRose}
use Rattle.site.specs.Faults.{WorkFaults}
use Rattle.flash_cache.specs.declared.cache.FlashCache.{FlashCache}
use Rattle.flash_cache.specs.Representation.{Invariant, Matches, IsWorn, KeepsNext}

-- how such a call ends
pub record EndsPush {T : Type 0} (result : Result T Stop) (old new : FlashCache) (before now : State) : Type 0 where
  -- of an honest site
  pub quiet : IsTrue before.honest → IsQuiet before → OnOk result (IsQuiet now)
  pub quiet_err : IsTrue before.honest → IsQuiet before
      → IfErr result (λ stop. ((d : Dev) → stop ≢ Device d) → IsQuiet now)
  -- of every site
  pub geometry : new.geometry ≡ old.geometry
  pub kept : OnErr result (new.directory ≡ old.directory)
  pub preserves : Preserves before now
  pub faults : WorkFaults result before now
  -- when each answer comes
  pub worn : IsErrOf result (Worn Flash) → old.ring.hi ≡ 2 ^ 40
  pub never_past : old.ring.hi ≡ 2 ^ 40 → OnOk result ⊥
  pub device : (d : Dev) → IsErrOf result (Device d) → FaultRose d before now

-- the same, and what stays of the cache
pub record KeepsCache {T : Type 0} (result : Result T Stop) (old new : FlashCache) (before now : State) : Type 0 where
  pub ends : EndsPush result old new before now
  pub open ends use *
  pub fits : Matches old before → OnOk result (Matches new now)
  pub next_segment : IsTrue before.honest → KeepsNext result old new before now
  pub going : Invariant new now
  pub worn_end : Matches old before → IsErrOf result (Worn Flash) → IsWorn old.geometry now.image
