-- What saving a master leaves.
use Rattle.std.specs.Prelude.{◌≡◌, ◌≢◌, ◌⊎◌}
use Rattle.site.specs.declared.outside.Dev.{Dev}
use Rattle.site.specs.declared.outside.Dev.TheVariants.{Log}
use Rattle.site.specs.State.{State, Image, Snapshot, MayStand, content_of, loose_of}
use Rattle.sealed_ring.specs.Ring.{IsRing, SameOutside}
use Rattle.image_changes.specs.Rings.{master_shape}
use Rattle.checkpoint.specs.declared.master.Master.{Master}
use Rattle.checkpoint.specs.Newest.{HasMaster}

-- the newest master of the one image is that of the other
abbrev pub KeepsMaster : Image → Image → Type 0
KeepsMaster old new = (m : Master) → HasMaster old m → HasMaster new m

-- Nothing was told, of flash and disk stands what might have been left before, and the log beside the master ring is as
-- before. The ring is of the form, and the newest master is the old one or this one.
pub record LeavesMaster (old : State) (m : Master) (snapshot : Snapshot) : Type 0 where
  pub told : snapshot.told ≡ old.told
  pub form : IsRing master_shape snapshot.image.log
  pub either : KeepsMaster old.image snapshot.image ⊎ HasMaster snapshot.image m
  pub beside : SameOutside master_shape old.image.log snapshot.image.log
  pub others : (dev : Dev) → dev ≢ Log
      → MayStand (loose_of dev old.loose) (content_of dev old.image) (content_of dev snapshot.image)
