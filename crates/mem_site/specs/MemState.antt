-- What a site in memory stands for.
use Rattle.std.specs.Prelude.{ℕ, List, [], ◌++◌, ◌+◌, ◌-◌, ◌^◌, min, drop, true, false, None, ◌≡◌, ◌≢◌, ◌⊎◌, Result}
use Rattle.std.specs.Prelude.{OnOk, OnErr}
use Rattle.site.specs.State.{State, Image, Input, Loose}
use Rattle.site.specs.declared.outside.Failed.{Failed}
use Rattle.mem_site.specs.declared.limits.Limits.{Limits}
use Rattle.mem_site.specs.Named.{number_of, changes_after, Names, no_calls}
use Rattle.mem_site.specs.declared.named.Call.{Call}
use Rattle.mem_site.specs.declared.named.NamedCall.{NamedCall}
use Rattle.mem_site.specs.declared.named.ShortTell.{ShortTell}
use Rattle.mem_site.specs.declared.named.CallCounts.{CallCounts}
use Rattle.mem_site.specs.declared.input.Hearing.{Hearing}
use Rattle.mem_site.specs.declared.mem.MemSite.{MemSite}
use Rattle.mem_site.specs.Lives.{lives_in}
use Rattle.mem_site.specs.Limits.{fixed_in, is_barred, is_past}
use Rattle.mem_site.specs.History.{moments_of, ranges_of}

-- what the devices read as now
abbrev pub image_of : MemSite → Image
image_of m = record { log = m.log.content.items; flash = m.flash.content.items; disk = m.disk.content.items }

abbrev pub loose_in : MemSite → Loose
loose_in m = record {
  log = ranges_of m.log.loose.items;
  flash = ranges_of m.flash.loose.items;
  disk = ranges_of m.disk.loose.items;
}

-- what it has to hear, and what it remembers of when it was asked
abbrev pub input_of : Hearing → Input
input_of h = record { left = drop h.heard h.octets.items; heard = h.heard; asked = h.asked; takes = h.takes.items }

-- the same with these octets behind
abbrev pub fed : List ℕ → Input → Input
fed octets input = record input { left = input.left ++ octets }

-- what the fuse and the named calls allow for, and the numbers of changes of earlier lives
abbrev pub kept_of : MemSite → List ℕ
kept_of m = fixed_in m.limits ++ lives_in m.lives

-- all that contracts say of it
abbrev pub state_of : MemSite → State
state_of m = record {
  honest = true;
  kept = kept_of m;
  image = image_of m;
  loose = loose_in m;
  told = m.told.items;
  input = input_of m.input;
  past = moments_of (record { told = m.told.items; telling = []; image = image_of m; loose = loose_in m })
      m.history.items;
  log_faults = m.log.faults;
  flash_faults = m.flash.faults;
  disk_faults = m.disk.faults;
  input_faults = m.input_faults;
  output_faults = m.output_faults;
  log_reads = m.log.reads;
  flash_reads = m.flash.reads;
  disk_reads = m.disk.reads;
}

abbrev pub limits_of : MemSite → Limits
limits_of m = m.limits

abbrev pub lives_of : MemSite → List ℕ
lives_of m = lives_in m.lives

-- the faults of the devices, of input and of output together
abbrev pub all_faults : State → ℕ
all_faults s = s.log_faults + s.flash_faults + s.disk_faults + s.input_faults + s.output_faults

abbrev pub named_of : MemSite → List NamedCall
named_of m = m.named.items

abbrev pub shorts_of : MemSite → List ShortTell
shorts_of m = m.shorts.items

abbrev pub calls_of : MemSite → CallCounts
calls_of m = m.calls

-- no change was asked for and no call made, no call is named, and no fuse is set
pub record IsFresh (m : MemSite) : Type 0 where
  pub changes : m.limits.changes ≡ 0
  pub last : m.limits.last ≡ None
  pub lacked : m.limits.lacked ≡ false
  pub excused : m.limits.excused ≡ false
  pub calls : m.calls ≡ no_calls
  pub named : m.named.items ≡ []
  pub shorts : m.shorts.items ≡ []

-- the calls made, the calls named and the earlier lives are as before
pub record SamePlan (old new : MemSite) : Type 0 where
  pub calls : new.calls ≡ old.calls
  pub named : new.named.items ≡ old.named.items
  pub shorts : new.shorts.items ≡ old.shorts.items
  pub lives : lives_of new ≡ lives_of old

-- the call was counted as one of its kind, and as a change where it is one; what was named stays named
pub record Counts (call : Call) (old new : MemSite) : Type 0 where
  pub number : number_of call new.calls ≡ min (number_of call old.calls + 1) (2 ^ 64 - 1)
  pub others : (other : Call) → other ≢ call → number_of other new.calls ≡ number_of other old.calls
  pub changes : new.limits.changes ≡ changes_after call old.limits.changes
  pub last : new.limits.last ≡ old.limits.last
  pub named : new.named.items ≡ old.named.items
  pub shorts : new.shorts.items ≡ old.shorts.items

-- this call, which was the last of its kind, is named to fail
abbrev pub IsNamed : Call → MemSite → Type 0
IsNamed call m = Names m.named.items call (number_of call m.calls)

-- a change is refused: it is named, the fuse has blown, or it is past the 10,000th
abbrev pub IsRefused : Call → MemSite → Type 0
IsRefused call m = IsNamed call m ⊎ (is_barred m.limits.changes m.limits.last ≡ true)

-- a call that is no change is refused: it is named, or the fuse has blown
abbrev pub IsCut : Call → MemSite → Type 0
IsCut call m = IsNamed call m ⊎ (is_past m.limits.last m.limits.changes ≡ true)

-- a call that is no change fails exactly where it is refused, and memory never lacks
pub record CutExactly {T : Type 0} (call : Call) (old new : MemSite) (result : Result T Failed) : Type 0 where
  pub passes : OnOk result (¬ (IsCut call new))
  pub fails : OnErr result (IsCut call new)
  pub lacked : new.limits.lacked ≡ old.limits.lacked

-- a change fails exactly where it is refused or memory lacked, and `lacked` tells the second
pub record FailsExactly {T : Type 0} (call : Call) (old new : MemSite) (result : Result T Failed) : Type 0 where
  pub passes : OnOk result (¬ (IsRefused call new))
  pub fails : OnErr result (IsRefused call new ⊎ (new.limits.lacked ≡ true))
  pub lacked : OnOk result (new.limits.lacked ≡ old.limits.lacked)
