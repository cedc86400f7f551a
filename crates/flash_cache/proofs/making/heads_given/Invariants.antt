use Rattle.flash_cache.proofs.Names.{◌≡◌, AllByRecursion, IsFrame, heads_of}
use Rattle.flash_cache.proofs.Given.{given_before}
use Rattle.flash_cache.proofs.making.heads_given.Given as goal

abbrev pub invariant-loop-index : goal.invariant-loop-index
invariant-loop-index l = record {
  heads : l.heads ≡ heads_of (given_before l.pages l.changed l.contents l.index);
  are_frames : AllByRecursion IsFrame (given_before l.pages l.changed l.contents l.index);
}
