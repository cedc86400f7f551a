use Rattle.txn_table.proofs.Names.{◌≡◌, sym, subst, set, get_or, option_map, IsSome, with_items, IsTable, ChangesOnly, after_mark, entry_of, Active}
use Rattle.txn_table.proofs.Changes.{with_own, refill-with_own, IsTable-own, changes_own}
use Rattle.txn_table.proofs.Marks.{leaves_mark, counted_mark}
use Rattle.txn_table.proofs.table.TxnTable.mark.Goals as goal

blank : Active
blank = record { session = 0; begin = 0; last = 0; born = 0; writes = 0; mark = 0 }

-- the session is there
there : (c : goal.After-self-1) → IsSome (entry_of c.self.inside.entries.items c.args.session)
there c = rw c.self.view_is c.requires.active

-- what there is then
written : (c : goal.After-self-1) (otherwise : Active)
    → (with_items c.self.inside.entries (set c.deref_mut.result.now c.place_of-place.result (after_mark (get_or c.deref_mut.result.now c.place_of-place.result otherwise)))).items
    ≡ with_own c.self.inside.entries.items c.args.session after_mark
written c otherwise = refill-with_own c.self.inside.entries c.deref.result.now c.deref_mut.result.now c.args.session after_mark c.place_of-place.result otherwise
    c.deref.ensures.0 c.deref_mut.ensures.value (there c) c.place_of-place.ensures.place c.place_of-place.ensures.entry

pub invariant_of-self : goal.invariant_of-self
unfolding blank
invariant_of-self c = subst IsTable (sym (written c blank)) (IsTable-own c.self.inside.entries.items c.args.session after_mark leaves_mark c.self.invariant (there c)
    (λ own is. counted_mark own))

pub returns-clause-entry : goal.returns-clause-entry
unfolding blank
returns-clause-entry c = rw (← c.self.view_is)
    (subst (λ xs. ChangesOnly c.self.inside.entries.items xs c.args.session (option_map after_mark (entry_of c.self.inside.entries.items c.args.session)))
    (sym (written c blank)) (changes_own c.self.inside.entries.items c.args.session after_mark leaves_mark))
