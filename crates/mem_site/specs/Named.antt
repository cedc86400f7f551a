-- The calls of a site in memory by kind and number.
use Rattle.std.specs.Prelude.{◌≡◌, ℕ, ◌+◌, ◌-◌, ◌^◌, min, Any, List, [], ◌∷◌, if◌then◌else◌, ◌==◌}
use Rattle.site.specs.declared.outside.Dev.TheVariants.{Log, Flash, Disk}
use Rattle.mem_site.specs.declared.named.ShortTell.{ShortTell}
use Rattle.mem_site.specs.declared.named.NamedCall.{NamedCall}
use Rattle.mem_site.specs.declared.named.CallCounts.{CallCounts}
use Rattle.mem_site.specs.declared.named.DeviceCounts.{DeviceCounts}
use Rattle.mem_site.specs.declared.named.Call.{Call}
use Rattle.mem_site.specs.declared.named.Call.TheVariants.{Read, Write, Sync, Take, Tell}

-- how much the tell with this number takes of a piece of this length: the first that names it says so, else it is all
abbrev pub taken_of : List ShortTell → ℕ → ℕ → ℕ
taken_of [] number len = len
taken_of (short ∷ shorts) number len = if short.number
    == number then min short.count len else taken_of shorts number len

-- how many calls of this kind were made
abbrev pub number_of : Call → CallCounts → ℕ
number_of (Read Log) calls = calls.log.reads
number_of (Read Flash) calls = calls.flash.reads
number_of (Read Disk) calls = calls.disk.reads
number_of (Write Log) calls = calls.log.writes
number_of (Write Flash) calls = calls.flash.writes
number_of (Write Disk) calls = calls.disk.writes
number_of (Sync Log) calls = calls.log.syncs
number_of (Sync Flash) calls = calls.flash.syncs
number_of (Sync Disk) calls = calls.disk.syncs
number_of Take calls = calls.takes
number_of Tell calls = calls.tells

-- how many changes were asked for after this call
abbrev pub changes_after : Call → ℕ → ℕ
changes_after (Read dev) changes = changes
changes_after (Write dev) changes = min (changes + 1) (2 ^ 64 - 1)
changes_after (Sync dev) changes = min (changes + 1) (2 ^ 64 - 1)
changes_after Take changes = changes
changes_after Tell changes = min (changes + 1) (2 ^ 64 - 1)

-- the call of this kind with this number is named to fail
abbrev pub Names : List NamedCall → Call → ℕ → Type 0
Names named call number = Any (λ n. (n.call ≡ call) × (n.number ≡ number)) named

-- no call was made
abbrev pub no_calls : CallCounts
no_calls =
    let none : DeviceCounts = record { reads = 0; writes = 0; syncs = 0 } in
    record { log = none; flash = none; disk = none; takes = 0; tells = 0 }
