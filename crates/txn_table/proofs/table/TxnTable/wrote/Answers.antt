use Rattle.txn_table.proofs.Names.{◌≡◌, ◌<◌, ◌^◌, sym, subst, set, get_or, option_map, IsSome, ForSome, with_items, IsTable, ChangesOnly, after_write, entry_of, Active}
use Rattle.txn_table.proofs.Changes.{with_own, refill-with_own, IsTable-own, changes_own}
use Rattle.txn_table.proofs.Marks.{leaves_write, counted_write}
use Rattle.txn_table.proofs.table.TxnTable.wrote.Goals as goal

blank : Active
blank = record { session = 0; begin = 0; last = 0; born = 0; writes = 0; mark = 0 }

-- the session is there, and may write once more
there : (c : goal.After-self-1) → IsSome (entry_of c.self.inside.entries.items c.args.session)
there c = rw c.self.view_is c.requires.active

room : (c : goal.After-self-1) → ForSome (entry_of c.self.inside.entries.items c.args.session) (λ entry. entry.writes < 2 ^ 32)
room c = rw c.self.view_is c.requires.room

-- what there is then
written : (c : goal.After-self-1) (otherwise : Active)
    → (with_items c.self.inside.entries (set c.deref_mut.result.now c.place_of-place.result (after_write (get_or c.deref_mut.result.now c.place_of-place.result otherwise) c.args.last))).items
    ≡ with_own c.self.inside.entries.items c.args.session (λ e. after_write e c.args.last)
written c otherwise = refill-with_own c.self.inside.entries c.deref.result.now c.deref_mut.result.now c.args.session (λ e. after_write e c.args.last) c.place_of-place.result otherwise
    c.deref.ensures.0 c.deref_mut.ensures.value (there c) c.place_of-place.ensures.place c.place_of-place.ensures.entry

pub invariant_of-self : goal.invariant_of-self
unfolding blank
invariant_of-self c = subst IsTable (sym (written c blank)) (IsTable-own c.self.inside.entries.items c.args.session (λ e. after_write e c.args.last) (leaves_write c.args.last) c.self.invariant (there c)
    (λ own is. counted_write own c.args.last (room c own is)))

pub returns-clause-entry : goal.returns-clause-entry
unfolding blank
returns-clause-entry c = rw (← c.self.view_is)
    (subst (λ xs. ChangesOnly c.self.inside.entries.items xs c.args.session (option_map (λ entry. after_write entry c.args.last) (entry_of c.self.inside.entries.items c.args.session)))
    (sym (written c blank)) (changes_own c.self.inside.entries.items c.args.session (λ e. after_write e c.args.last) (leaves_write c.args.last)))
