use Rattle.image_check.proofs.Names.{◌≡◌, ◌*◌, ◌%◌, ◌≤◌, ℕ, slice_index_or, range_with_len, sum_by}
use Rattle.image_check.proofs.lengths.PageLengths.fit.Given as goal

abbrev pub invariant-loop-slot : goal.invariant-loop-slot
invariant-loop-slot l = record {
  sum : (page : ℕ) → l.total ≡ sum_by (λ number. slice_index_or l.self.lengths (number % 32) 0) (range_with_len (32 * page) l.slot);
  few : l.total ≤ 65535 * l.slot;
}
