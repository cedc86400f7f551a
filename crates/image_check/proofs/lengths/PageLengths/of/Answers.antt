use Rattle.image_check.proofs.Names.{◌≡◌, ℕ, inl, inr, length, ap, ◌∙◌, arith, slice_index_or, slice_set, sym, cases_eq, length-set, get_or-set_same, get_or-set_other, content_at, length_of, slots_of}
use Rattle.image_check.proofs.lengths.PageLengths.of.Goals as goal

pub loop-slot-preserved : goal.loop-slot-preserved
loop-slot-preserved c = record {
  size = length-set c.loop-slot.lengths c.loop-slot.slot c.length_in.result ∙ c.loop-slot.invariant.size;
  each = λ slot less.
      let at : ℕ = c.loop-slot.slot in
      let size : length c.loop-slot.lengths ≡ 32 = c.loop-slot.invariant.size in
      elim (cases_eq slot at) [
        | inl same ↦
            ap (λ (k : ℕ). slice_index_or (slice_set c.loop-slot.lengths at c.length_in.result) k 0) same
            ∙ get_or-set_same c.loop-slot.lengths at c.length_in.result 0 (omega (arith, size, c.loop-slot-test.true)) ∙ c.length_in.ensures ∙ ap (λ (k : ℕ). length_of (content_at (slots_of c.args.version.now) k)) (sym same)
        | inr other ↦ get_or-set_other c.loop-slot.lengths at slot c.length_in.result 0 other ∙ c.loop-slot.invariant.each slot (omega (arith, less, other))
      ];
}

pub returns-clause-lengths : goal.returns-clause-lengths
returns-clause-lengths c slot less = c.loop-slot.invariant.each slot (omega (arith, less, c.loop-slot-test.false))
