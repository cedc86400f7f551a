-- A group of frames pushed behind others, while a front group leaves, as a statement over lists.
use Rattle.std.specs.Prelude.{◌≡◌, ℕ, List, None}
use Rattle.frame_group.specs.Groups.{Frame}
use Rattle.frame_group.specs.Versions.{last_frame, CleanAsDisk}
use Rattle.frame_group.specs.Laws.{IsStaged}

-- Its clean frames equal the disk, and the disk has what the front group alone has of pages that aren't in the new one.
pub record MayPush (disk : ℕ → List ℕ) (front rest new : List Frame) : Type 0 where
  pub clean : CleanAsDisk disk new
  pub staged : (page : ℕ) → last_frame page new ≡ None → IsStaged disk front rest page
