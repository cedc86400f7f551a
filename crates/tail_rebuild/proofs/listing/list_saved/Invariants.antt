use Rattle.tail_rebuild.proofs.Names.{◌≡◌, ◌+◌, ◌≤◌, List, length, All, FrameHead, AreHeadsIn, IsFront, GoesOnWith}
use Rattle.tail_rebuild.proofs.listing.list_saved.Given as goal

abbrev pub invariant-loop-group : goal.invariant-loop-group
invariant-loop-group l = record {
  least : l.skip ≤ l.group;
  listed : All (AreHeadsIn l.pages) l.list.items;
  count : length l.list.items + l.skip ≡ length l.fn.list.items + l.group;
  front : (all : List (List FrameHead)) → IsFront all l.fn.list.items → GoesOnWith l.heads l.skip all (length l.fn.list.items) → IsFront all l.list.items;
}
