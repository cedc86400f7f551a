use Rattle.image_form.proofs.Names.{◌≡◌, ◌+◌, drop, present_in_front}
use Rattle.image_form.proofs.groups.count_of.Given as goal

abbrev pub invariant-loop-head : goal.invariant-loop-head
invariant-loop-head l = record {
  count : l.count ≡ l.head-index;
  front : present_in_front l.heads ≡ l.head-index + present_in_front (drop l.head-index l.heads);
}
