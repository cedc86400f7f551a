-- A group of frames pushed behind others.
use Rattle.image_meaning.proofs.Names.{arith, new_version, other_versions, push_keeps_clean, drop_keeps_version, drop_keeps_clean, Frame, CleanAsDisk, last_frame, version}
use Rattle.std.specs.Prelude.{ℕ, List, ◌++◌, Some, ◌≡◌, None}
use Rattle.image_meaning.specs.Pushes.{MayPush}

-- then clean frames equal the disk still
pub pushed_clean : (disk : ℕ → List ℕ) (front rest new : List Frame) → CleanAsDisk disk (front ++ rest) → MayPush disk front rest new → CleanAsDisk disk (rest ++ new)
pushed_clean disk front rest new clean may = push_keeps_clean disk rest new (drop_keeps_clean disk front rest clean) may.clean

-- a page of the new group has its version from it
pub pushed_version : (disk : ℕ → List ℕ) (rest new : List Frame) (page : ℕ) (frame : Frame) → last_frame page new ≡ Some frame → version disk (rest ++ new) page ≡ frame.octets
pushed_version disk rest new page frame last = new_version disk rest new page frame last

-- and every other page the version that it had
pub others_keep_versions : (disk : ℕ → List ℕ) (front rest new : List Frame) (page : ℕ) → CleanAsDisk disk (front ++ rest) → MayPush disk front rest new → last_frame page new ≡ None → version disk (rest ++ new) page ≡ version disk (front ++ rest) page
others_keep_versions disk front rest new page clean may none = grind (arith, other_versions, drop_keeps_version)
