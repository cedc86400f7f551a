use Rattle.std.proofs.Common.{rules, ◌&&◌, ◌||◌, option_map, refl, sym, ap, ◌∙◌}
use Rattle.std.proofs.lemmas.Iterator.{YieldsList-from_range}
use Rattle.std.proofs.lemmas.Iterator.Search.{find_from_yields_List}
use Rattle.lock_table.specs.Locks.{has_read, has_written, is_other}
use Rattle.lock_table.proofs.table.LockTable.may_write.Goals as goal

pub returns-in-Some-clause-busy : goal.returns-in-Some-clause-busy
returns-in-Some-clause-busy c =
    let found = find_from_yields_List (λ n. is_other c.args.session n && (has_written c.args.self.now n c.args.number || has_read c.args.self.now n c.args.number)) _ _ c.find.result c.find.ensures.ran (YieldsList-from_range 0 8 8 refl refl) (λ x b q k. search rules) in
    sym found ∙ ap (option_map (λ n. n)) c.in-Some.is

pub returns-in-None-clause-ok : goal.returns-in-None-clause-ok
returns-in-None-clause-ok c =
    let found = find_from_yields_List (λ n. is_other c.args.session n && (has_written c.args.self.now n c.args.number || has_read c.args.self.now n c.args.number)) _ _ c.find.result c.find.ensures.ran (YieldsList-from_range 0 8 8 refl refl) (λ x b q k. search rules) in
    sym found ∙ ap (option_map (λ n. n)) c.in-None.is
