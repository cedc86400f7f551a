use Rattle.tail_rebuild.proofs.Names.{ℕ, ◌<◌, IsTrue, slice_index_or, FrameHead}
use Rattle.tail_rebuild.proofs.reading.pages_exist.Given as goal

abbrev pub invariant-loop-head : goal.invariant-loop-head
invariant-loop-head l = (k : ℕ) (d : FrameHead) → k < l.head-index → IsTrue (slice_index_or l.heads k d).present → (slice_index_or l.heads k d).page < l.pages
