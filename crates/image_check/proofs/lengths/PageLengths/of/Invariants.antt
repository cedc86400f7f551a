use Rattle.image_check.proofs.Names.{◌≡◌, ◌<◌, ℕ, length, slice_index_or, content_at, length_of, slots_of}
use Rattle.image_check.proofs.lengths.PageLengths.of.Given as goal

abbrev pub invariant-loop-slot : goal.invariant-loop-slot
invariant-loop-slot l = record {
  size : length l.lengths ≡ 32;
  each : (slot : ℕ) → slot < l.slot → slice_index_or l.lengths slot 0 ≡ length_of (content_at (slots_of l.version) slot);
}
