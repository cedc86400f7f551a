use Rattle.engine.proofs.Names.{◌≡◌, ◌<◌, ℕ, length, None, slice_index_or, front_of, content_length, slots_of}
use Rattle.engine.proofs.engine.Engine.lengths.Given as goal

abbrev pub invariant-loop-slot : goal.invariant-loop-slot
invariant-loop-slot l = record {
  count : length l.lengths ≡ 32;
  each : (k : ℕ) → k < l.slot → slice_index_or l.lengths k 0 ≡ content_length (slice_index_or (slots_of (front_of l.self.store.pages.pool.frames).content) k None);
}
