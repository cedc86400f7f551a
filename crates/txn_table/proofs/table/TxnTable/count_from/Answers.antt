use Rattle.txn_table.proofs.Names.{◌≡◌, ◌<◌, ◌≤◌, ◌∙◌, ap, sym, subst, length, map, get_or, All, refl, arith, IsTable, counted_from, Active}
use Rattle.txn_table.proofs.Counting.{counted_to, length-counted_to, at-counted_to, all-counted, IsTable-counted, one_more}
use Rattle.txn_table.proofs.table.TxnTable.count_from.Goals as goal

blank : Active
blank = record { session = 0; begin = 0; last = 0; born = 0; writes = 0; mark = 0 }

shown_is : (c : goal.After-deref_mut) → c.deref_mut.result.now ≡ counted_to c.args.first c.loop-place.place c.self.inside.entries.items
shown_is c = c.deref_mut.ensures.value ∙ c.loop-place.invariant

there : (c : goal.After-deref_mut) → c.loop-place.place < length c.self.inside.entries.items
there c = omega (arith, c.loop-place-test.true, c.len-place-end.ensures.value)

pub loop-place-init : goal.loop-place-init
loop-place-init c = refl

pub bounds-deref_mut-place : goal.bounds-deref_mut-place
bounds-deref_mut-place c = omega (arith, there c, ap length (shown_is c), length-counted_to c.args.first c.loop-place.place c.self.inside.entries.items)

pub overflow_sub-deref_mut : goal.overflow_sub-deref_mut
unfolding blank
overflow_sub-deref_mut c =
    let same : get_or c.deref_mut.result.now c.loop-place.place blank ≡ get_or c.self.inside.entries.items c.loop-place.place blank =
    ap (λ xs. get_or xs c.loop-place.place blank) (shown_is c) ∙ at-counted_to c.args.first c.loop-place.place c.self.inside.entries.items blank (there c) in
    let early : All (λ (entry : Active). c.args.first ≤ entry.born) c.self.inside.entries.items = rw c.self.view_is c.requires.born in
    subst (λ (entry : Active). c.args.first ≤ entry.born) (sym same) (early c.loop-place.place blank (there c))

pub bounds-deref_mut-place-in-loop-place : goal.bounds-deref_mut-place-in-loop-place
bounds-deref_mut-place-in-loop-place c = bounds-deref_mut-place c

pub loop-place-preserved : goal.loop-place-preserved
unfolding blank
loop-place-preserved c = one_more c.loop-place.self-inside.entries c.deref_mut.result.now c.self.inside.entries.items c.args.first c.loop-place.place blank
    c.deref_mut.ensures.value c.loop-place.invariant (omega (arith, c.loop-place-test.true, c.len-place-end.ensures.value))

-- what there is then
all : (c : goal.After-loop-place) → c.loop-place.self-inside.entries.items ≡ map (counted_from c.args.first) c.self.inside.entries.items
all c =
    let end : c.loop-place.place ≡ length c.self.inside.entries.items = omega (arith, c.loop-place-test.false, c.loop-place.auto.place-end, c.len-place-end.ensures.value) in
    c.loop-place.invariant ∙ ap (λ n. counted_to c.args.first n c.self.inside.entries.items) end ∙ all-counted c.args.first c.self.inside.entries.items

pub invariant_of-self : goal.invariant_of-self
invariant_of-self c = subst IsTable (sym (all c)) (IsTable-counted c.args.first c.self.inside.entries.items c.self.invariant)

pub returns : goal.returns
returns c = record { entries = all c ∙ ap (map (counted_from c.args.first)) c.self.view_is }
