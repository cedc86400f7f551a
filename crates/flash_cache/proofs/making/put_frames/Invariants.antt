use Rattle.flash_cache.proofs.Names.{◌≡◌, ◌++◌, List, length, take, AllByRecursion, frames_with, IsMadeOf, Frame, IsFrame}
use Rattle.flash_cache.proofs.making.put_frames.Given as goal

abbrev pub invariant-loop-index : goal.invariant-loop-index
invariant-loop-index l = record {
  grown : (before : List Frame) → length before ≡ l.from → IsMadeOf l.fn.group before → IsMadeOf l.group (before ++ take l.index (frames_with l.heads l.contents));
  are_frames : AllByRecursion IsFrame (take l.index (frames_with l.heads l.contents));
}
