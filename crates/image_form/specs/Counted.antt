-- How often calls that only read do so.
use Rattle.std.specs.Prelude.{ℕ, ◌+◌, ◌*◌, ◌/◌, ◌≤◌}
use Rattle.site.specs.declared.geometry.Geometry.{Geometry}
use Rattle.site.specs.State.{State}
use Rattle.site.specs.Calls.{SameReads}
use Rattle.image_form.specs.Octets.{HasSizes}

-- at most so many reads of the log were made, and so many of flash and of the disk together
pub record ReadsAtMost (of_log of_pages : ℕ) (old new : State) : Type 0 where
  pub log : new.log_reads ≤ old.log_reads + of_log
  pub pages : new.flash_reads + new.disk_reads ≤ old.flash_reads + old.disk_reads + of_pages

-- at most as many as the sizes say whose lengths the devices have, and none where they have those of no sizes
pub record ReadsBySizes (of_log of_pages : Geometry → ℕ) (old new : State) : Type 0 where
  pub sizes : (g : Geometry) → HasSizes g old.image → ReadsAtMost (of_log g) (of_pages g) old new
  pub none : ((g : Geometry) → HasSizes g old.image → ⊥) → SameReads old new

-- the slots of the ring of segments
abbrev pub segment_slots : Geometry → ℕ
segment_slots g = g.groups / 4 + 3

-- To find rings, master and log: two looks at each slot of a ring, a third one at those of the log, and the newest
-- master.

abbrev pub log_to_find : Geometry → ℕ
log_to_find g = 3 * g.blocks + 12

abbrev pub pages_to_find : Geometry → ℕ
pages_to_find g = 2 * g.groups + 2 * segment_slots g

-- For the first rule besides: each block, each group, which counts nine times, its heads once more, each segment, and
-- each version.

abbrev pub log_looks : Geometry → ℕ
log_looks g = log_to_find g + g.blocks

abbrev pub page_looks : Geometry → ℕ
page_looks g = pages_to_find g + (10 * g.groups + segment_slots g + g.pages)
