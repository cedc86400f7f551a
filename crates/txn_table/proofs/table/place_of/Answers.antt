use Rattle.txn_table.proofs.Names.{rules, ◌==◌, ◌∙◌, sym, ap, slice_get, YieldsList-from_slice, position_from_yields_List}
use Rattle.std.proofs.lemmas.List.Folds.{find_at}
use Rattle.txn_table.proofs.Places.{place-position}
use Rattle.txn_table.proofs.table.place_of.Goals as goal

pub returns-clause-place : goal.returns-clause-place
returns-clause-place c = c.unwrap_or.ensures ∙ place-position (λ entry. entry.session == c.args.session) c.args.entries.now c.position.result
    (position_from_yields_List (λ entry. entry.session == c.args.session) _ _ c.position.result c.position.ensures.ran
    (YieldsList-from_slice c.args.entries.now c.iter.ensures.rest) (λ x b q k. search rules))

pub returns-clause-entry : goal.returns-clause-entry
returns-clause-entry c = ap (slice_get c.args.entries.now) (returns-clause-place c) ∙ sym (find_at (λ entry. entry.session == c.args.session) c.args.entries.now)
