use Rattle.txn_table.proofs.Names.{◌≡◌, ℕ, ◌-◌, min, sym, ap, subst, set, get_or, option_map, IsSome, ◌∙◌, with_items, IsTable, ChangesOnly, after_undone, entry_of, Active}
use Rattle.txn_table.proofs.Changes.{with_own, refill-with_own, IsTable-own, changes_own}
use Rattle.txn_table.proofs.Marks.{leaves_undone, counted_undone}
use Rattle.txn_table.proofs.table.TxnTable.undone.Goals as goal

blank : Active
blank = record { session = 0; begin = 0; last = 0; born = 0; writes = 0; mark = 0 }

-- the session is there
there : (c : goal.After-self-1) → IsSome (entry_of c.self.inside.entries.items c.args.session)
there c = rw c.self.view_is c.requires.active

-- what there is then
own_of : (c : goal.After-self-1) (otherwise : Active) → Active
own_of c otherwise = get_or c.deref_mut.result.now c.place_of-place.result otherwise

undone : (c : goal.After-self-1) (otherwise : Active) (mark : ℕ) → mark ≡ min (own_of c otherwise).mark ((own_of c otherwise).writes - c.args.count)
    → (with_items c.self.inside.entries (set c.deref_mut.result.now c.place_of-place.result (record (own_of c otherwise) { last = c.args.lsn; writes = (own_of c otherwise).writes - c.args.count; mark = mark }))).items
    ≡ with_own c.self.inside.entries.items c.args.session (λ e. after_undone e c.args.count c.args.lsn)
unfolding own_of
undone c otherwise mark is =
    ap (λ m. (with_items c.self.inside.entries (set c.deref_mut.result.now c.place_of-place.result (record (own_of c otherwise) { last = c.args.lsn; writes = (own_of c otherwise).writes - c.args.count; mark = m }))).items) is
    ∙ refill-with_own c.self.inside.entries c.deref.result.now c.deref_mut.result.now c.args.session (λ e. after_undone e c.args.count c.args.lsn) c.place_of-place.result otherwise
    c.deref.ensures.0 c.deref_mut.ensures.value (there c) c.place_of-place.ensures.place c.place_of-place.ensures.entry

pub invariant_of-self : goal.invariant_of-self
unfolding blank own_of
invariant_of-self c = subst IsTable (sym (undone c blank c.min-entry.result c.min-entry.ensures)) (IsTable-own c.self.inside.entries.items c.args.session (λ e. after_undone e c.args.count c.args.lsn) (leaves_undone c.args.count c.args.lsn) c.self.invariant (there c)
    (λ own is. counted_undone own c.args.count c.args.lsn))

pub returns-clause-entry : goal.returns-clause-entry
unfolding blank own_of
returns-clause-entry c = rw (← c.self.view_is)
    (subst (λ xs. ChangesOnly c.self.inside.entries.items xs c.args.session (option_map (λ entry. after_undone entry c.args.count c.args.lsn) (entry_of c.self.inside.entries.items c.args.session)))
    (sym (undone c blank c.min-entry.result c.min-entry.ensures)) (changes_own c.self.inside.entries.items c.args.session (λ e. after_undone e c.args.count c.args.lsn) (leaves_undone c.args.count c.args.lsn)))
