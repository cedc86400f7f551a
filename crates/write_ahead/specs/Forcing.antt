-- The log is forced before a page leaves that has its last change in the tail.
use Rattle.std.specs.Prelude.{◌≡◌, ℕ, ◌+◌, ◌*◌, ◌^◌, ◌<◌, ◌≤◌, nat_le, nat_lt, Bool, true, ◌&&◌, List, if◌then◌else◌}
use Rattle.std.specs.Prelude.{Result, OnOk}
use Rattle.std.specs.List.{list_any}
use Rattle.site.specs.declared.outside.Stop.{Stop}
use Rattle.site.specs.declared.geometry.Geometry.{Geometry}
use Rattle.site.specs.State.{Image}
use Rattle.sealed_ring.specs.Ring.{hi_of}
use Rattle.image_changes.specs.Rings.{log_shape}
use Rattle.slotted_page.specs.Layout.{lsn_of}
use Rattle.log_store.specs.declared.store.LogStore.{LogStore}
use Rattle.log_store.specs.Representation.{has_tail, end_of, HasRoom}

-- a page was never changed, or its LSN lies below the end of the log's blocks
pub record IsLogged (end : ℕ) (content : List ℕ) : Type 0 where
  pub below : 0 < lsn_of content → lsn_of content < end

-- where a log's sealed blocks end, and where its blocks end once its tail is sealed
abbrev pub end_now : LogStore → ℕ
end_now log = 512 * log.ring.hi

abbrev pub end_forced : LogStore → ℕ
end_forced log = 512 * (log.ring.hi + (if has_tail log then 1 else 0))

-- an LSN isn't sealed where the sealed blocks end here
abbrev pub is_unsealed : ℕ → List ℕ → Bool
is_unsealed end content = nat_lt 0 (lsn_of content) && nat_le end (lsn_of content)

-- whether the log is forced before these contents are pushed: one of them has an LSN in the tail
abbrev pub forces : LogStore → List (List ℕ) → Bool
forces log contents = has_tail log && list_any (is_unsealed (end_now log)) contents

-- the log: where it is forced it has one block more, else it is as it was
pub record Forces {T : Type 0} (result : Result T Stop) (old new : LogStore) (sealing : Bool) : Type 0 where
  pub next : OnOk result (new.ring.hi ≡ (if sealing then old.ring.hi + 1 else old.ring.hi))
  pub rises : old.ring.hi ≤ new.ring.hi
  pub end : OnOk result (end_forced new ≡ end_forced old)
  pub grows : OnOk result (end_of old ≤ end_of new)
  pub room : OnOk result (has_tail new ≡ true → HasRoom new)
  pub kept : new.kept ≡ old.kept
  pub geometry : new.geometry ≡ old.geometry

-- the ring of the log's blocks stands at its end: no block can be appended
abbrev pub IsLogAtEnd : Geometry → Image → Type 0
IsLogAtEnd g image = hi_of (log_shape g) image.log ≡ 2 ^ 40
