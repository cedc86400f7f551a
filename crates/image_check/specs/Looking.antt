-- What is read of versions where each is read once.
use Rattle.std.specs.Prelude.{ℕ, zero, suc, ◌+◌, ◌≤◌, nat_eq, is_some, Result, OnOk, if◌then◌else◌}
use Rattle.indexmap.specs.IndexMap.{IndexMap, get}
use Rattle.site.specs.declared.outside.Stop.{Stop}
use Rattle.site.specs.State.{State}
use Rattle.image_form.specs.Counted.{ReadsAtMost}

-- how many of the first n pages have no entry
abbrev pub without : {X S : Type 0} → IndexMap ℕ X S → ℕ → ℕ
without entries zero = 0
without entries (suc n) = without entries n + (if is_some (get nat_eq entries n) then 0 else 1)

-- at most one read for each page that gets an entry, and for each that had none where the call ends with an error
pub record LooksOnce {T X S : Type 0} (pages : ℕ) (result : Result T Stop) (before now : IndexMap ℕ X S)
    (old new : State) : Type 0 where
  pub ends : ReadsAtMost 0 (without before pages) old new
  pub once : OnOk result (new.flash_reads + new.disk_reads + without now pages
      ≤ old.flash_reads + old.disk_reads + without before pages)
