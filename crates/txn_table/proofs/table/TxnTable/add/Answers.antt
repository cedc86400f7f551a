use Rattle.txn_table.proofs.Names.{rules, ◌≡◌, ◌∙◌, ap, not, nat_lt, insert, unwrap_or, arith, lit<, YieldsList-from_slice, position_from_yields_List, prefix_len-le-length, Active}
use Rattle.txn_table.proofs.Places.{place-position, room, absent}
use Rattle.txn_table.proofs.Changes.{with_entry, insert-with_entry, IsTable-with_entry, adds, absent_is}
use Rattle.txn_table.proofs.table.TxnTable.add.Goals as goal

pub insert-requires : goal.insert-requires
insert-requires c =
    let place = c.unwrap_or-place.ensures ∙ ap (unwrap_or c.position.result) c.len.ensures.value ∙ place-position (λ other. nat_lt c.args.entry.begin other.begin) c.self.inside.entries.items c.position.result
    (position_from_yields_List (λ other. nat_lt c.args.entry.begin other.begin) _ _ c.position.result c.position.ensures.ran
    (YieldsList-from_slice c.self.inside.entries.items (c.iter.ensures.rest ∙ c.deref.ensures.0)) (λ x b q k. search rules)) in (
      lit< tt,
      (
        omega (arith, place, prefix_len-le-length (λ (other : Active). not (nat_lt c.args.entry.begin other.begin)) c.self.inside.entries.items),
        room c.self.inside.entries.items c.args.entry.session c.self.invariant c.requires.session (absent_is c.self.inside.entries.items c.args.entry.session (rw c.self.view_is c.requires.absent)),
      ),
    )

-- what there is then
more : (c : goal.After-insert) → c.insert.new.self.items ≡ with_entry c.self.inside.entries.items c.args.entry
more c =
    let place = c.unwrap_or-place.ensures ∙ ap (unwrap_or c.position.result) c.len.ensures.value ∙ place-position (λ other. nat_lt c.args.entry.begin other.begin) c.self.inside.entries.items c.position.result
    (position_from_yields_List (λ other. nat_lt c.args.entry.begin other.begin) _ _ c.position.result c.position.ensures.ran
    (YieldsList-from_slice c.self.inside.entries.items (c.iter.ensures.rest ∙ c.deref.ensures.0)) (λ x b q k. search rules)) in
    c.insert.ensures.items ∙ ap (λ n. insert c.self.inside.entries.items n c.args.entry) place ∙ insert-with_entry c.self.inside.entries.items c.args.entry

pub invariant_of-self : goal.invariant_of-self
invariant_of-self c = rw (more c) (IsTable-with_entry c.self.inside.entries.items c.args.entry c.self.invariant c.requires.session (record { few = c.requires.writes; mark = c.requires.mark })
    (absent c.self.inside.entries.items c.args.entry.session (absent_is c.self.inside.entries.items c.args.entry.session (rw c.self.view_is c.requires.absent))))

pub returns-clause-entry : goal.returns-clause-entry
returns-clause-entry c = rw (more c, ← c.self.view_is) (adds c.self.inside.entries.items c.args.entry (absent_is c.self.inside.entries.items c.args.entry.session (rw c.self.view_is c.requires.absent)))
