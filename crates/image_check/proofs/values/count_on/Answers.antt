use Rattle.image_check.proofs.Names.{sym, ◌≡◌, ◌+◌, ◌*◌, ℕ, ap, ◌∙◌, arith, value_of, some_mapped}
use Rattle.image_check.proofs.ValuesCounted.{values_among, one_value, one_at_most, slot_has}
use Rattle.image_check.proofs.values.count_on.Goals as goal

pub loop-slot-preserved : goal.loop-slot-preserved
loop-slot-preserved c = record {
  counted = λ log pages are version.
      let page : ℕ = c.args.page in
      let slot : ℕ = c.loop-slot.slot in
      let there = slot_has pages page slot c.args.version.now _ c.is_some-in_slot.result c.loop-slot-test.true version c.get.ensures.content (c.is_some-in_slot.ensures ∙ sym (some_mapped _ c.get.result)) in
      ap (λ (k : ℕ). c.loop-slot.count + k) c.one_if-count.ensures
      ∙ one_value (value_of log pages) (32 * page) slot c.loop-slot.count c.has_value-has_value.result (c.has_value-has_value.ensures log pages are there) (c.loop-slot.invariant.counted log pages are version);
  few = let before = c.loop-slot.invariant.few in let more = one_at_most c.one_if-count.result c.has_value-has_value.result c.one_if-count.ensures in omega (arith, before, more);
}

pub returns-clause-values : goal.returns-clause-values
returns-clause-values c log pages are version =
    let end : c.loop-slot.slot ≡ 32 = omega (arith, c.loop-slot-test.false, c.loop-slot.auto.slot-end) in
    c.loop-slot.invariant.counted log pages are version ∙ ap (values_among (value_of log pages) (32 * c.args.page)) end
