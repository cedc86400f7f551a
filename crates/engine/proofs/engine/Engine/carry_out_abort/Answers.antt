use Rattle.engine.proofs.Names.{rules, refl, sym, arith, ap, Option, Some, List, map, reverse, length, undo_reads, Engine, entries_of, Session, writes_of, write_touch, CacheOp, asks_same, asks_ok, asks_err, keeps_answered, keeps_failed, works_answered, performs_answered, performs_as, performs_failed, stays_honest, owes, entry_is}
use Rattle.engine.proofs.Actives.{ended_was, some_active}
use Rattle.engine.proofs.Aborts.{aborted_fits}
use Rattle.engine.proofs.Undoing.{abort_is}
use Rattle.engine.proofs.Updated.{updated_count}
use Rattle.engine.proofs.Calling.{does_of, serves_of}
use Rattle.engine.proofs.FootprintChanges.{locked_ended}
use Rattle.engine.proofs.engine.Engine.carry_out_abort.Goals as goal

pub roll_back-requires-clause-few : goal.roll_back-requires-clause-few
roll_back-requires-clause-few g c =
    let part = owes c.args.self.now.active c.args.entry.session c.args.entry c.requires.going.table c.requires.active in
    omega (arith, part, c.requires.going.bounded)

pub overflow_add-owed : goal.overflow_add-owed
overflow_add-owed g c =
    let few = (entry_is c.args.self.now.active c.args.entry.session c.args.entry c.requires.going.table c.requires.active).few in
    omega (arith, few)

pub overflow_sub-owed : goal.overflow_sub-owed
overflow_sub-owed g c =
    let part = owes c.args.self.now.active c.args.entry.session c.args.entry c.requires.going.table c.requires.active in
    omega (arith, part, c.owed.ensures)

pub returns-in-Ok-clause-does : goal.returns-in-Ok-clause-does
returns-in-Ok-clause-does g c s fits =
    let engine = c.args.self.now in
    let found = some_active fits.newest fits.records engine.active s fits.sessions c.args.entry.session c.args.entry c.requires.active in
    let count = sym found.under_way.count in
    let part = owes engine.active c.args.entry.session c.args.entry c.requires.going.table c.requires.active in
    let mid : Engine = record engine { store = c.roll_back.new.self } in
    does_of (omega (arith, count, ap (λ (o : Option Session). length (writes_of o)) found.is))
    (aborted_fits engine mid _ _ _ s c.args.entry fits c.requires.going.table c.requires.active (stays_honest _ _ c.roll_back.ensures.works.calls.preserves fits.honest) (c.in-Ok.ensures.undone fits.newest fits.records s.table s.commits fits.holds found.session.writes found.under_way.is_active count)
    refl c.in-Ok.ensures.works.made c.release.ensures c.remove.ensures.entry c.remove.ensures.owed refl refl refl c.requires.going.footprints.eight c.end.ensures.gone)
    (keeps_answered (c.in-Ok.ensures.keeps fits.newest fits.records s.table s.commits fits.holds found.session.writes found.under_way.is_active count (omega (arith, fits.sessions.owes, c.owed.ensures, part))))

pub returns-in-Err-clause-does : goal.returns-in-Err-clause-does
returns-in-Err-clause-does g c s fits =
    let found = some_active fits.newest fits.records c.args.self.now.active s fits.sessions c.args.entry.session c.args.entry c.requires.active in
    let count = sym found.under_way.count in
    let many = ap (λ (o : Option Session). length (writes_of o)) found.is in
    let part = owes c.args.self.now.active c.args.entry.session c.args.entry c.requires.going.table c.requires.active in
    does_of (omega (arith, count, many)) tt (keeps_failed (c.in-Err.ensures.keeps fits.newest fits.records s.table s.commits fits.holds found.session.writes found.under_way.is_active count (omega (arith, fits.sessions.owes, c.owed.ensures, part))))

undone_by : Option Session → List CacheOp
undone_by o = map (λ write. write_touch write.0) (reverse (writes_of o))

pub returns-in-Err-clause-asks : goal.returns-in-Err-clause-asks
unfolding undone_by
returns-in-Err-clause-asks g c s fits =
    let found = some_active fits.newest fits.records c.args.self.now.active s fits.sessions c.args.entry.session c.args.entry c.requires.active in
    asks_same _ _ (undone_by (Some found.session)) _ _ _ _ (ap undone_by found.is) (asks_err c.in-Err.stop (undone_by (Some found.session)) _ _ _ _ (c.in-Err.ensures.asks fits.newest fits.records s.table s.commits fits.holds found.session.writes found.under_way.is_active))

pub returns-in-Ok-clause-asks : goal.returns-in-Ok-clause-asks
unfolding undone_by
returns-in-Ok-clause-asks g c s fits =
    let found = some_active fits.newest fits.records c.args.self.now.active s fits.sessions c.args.entry.session c.args.entry c.requires.active in
    asks_same _ _ (undone_by (Some found.session)) _ _ _ _ (ap undone_by found.is) (asks_ok c.in-Ok.field-0 _ (undone_by (Some found.session)) _ _ _ _ (c.in-Ok.ensures.asks fits.newest fits.records s.table s.commits fits.holds found.session.writes found.under_way.is_active))

pub returns-in-Ok-clause-log_reads : goal.returns-in-Ok-clause-log_reads
returns-in-Ok-clause-log_reads g c s fits =
    let found = some_active fits.newest fits.records c.args.self.now.active s fits.sessions c.args.entry.session c.args.entry c.requires.active in
    let count = sym found.under_way.count in
    let read = c.roll_back.ensures.log_reads fits.newest fits.records s.table s.commits fits.holds found.session.writes found.under_way.is_active in
    omega (arith, read, ap undo_reads found.is, ap length found.under_way.wrote, updated_count (entries_of c.args.entry.begin fits.records))

pub returns-in-Err-clause-log_reads : goal.returns-in-Err-clause-log_reads
returns-in-Err-clause-log_reads g c s fits =
    let found = some_active fits.newest fits.records c.args.self.now.active s fits.sessions c.args.entry.session c.args.entry c.requires.active in
    let count = sym found.under_way.count in
    let read = c.roll_back.ensures.log_reads fits.newest fits.records s.table s.commits fits.holds found.session.writes found.under_way.is_active in
    omega (arith, read, ap undo_reads found.is, ap length found.under_way.wrote, updated_count (entries_of c.args.entry.begin fits.records))

pub returns-in-Ok-clause-performs : goal.returns-in-Ok-clause-performs
returns-in-Ok-clause-performs g c s fits =
    let found = some_active fits.newest fits.records c.args.self.now.active s fits.sessions c.args.entry.session c.args.entry c.requires.active in
    performs_answered (performs_as (abort_is c.args.self.now (g.S.Site.state c.args.site.now) s c.args.entry fits c.requires.active) (c.in-Ok.ensures.performs fits.newest fits.records s.table s.commits fits.holds found.session.writes found.under_way.is_active))

pub returns-in-Err-clause-performs : goal.returns-in-Err-clause-performs
returns-in-Err-clause-performs g c s fits =
    let found = some_active fits.newest fits.records c.args.self.now.active s fits.sessions c.args.entry.session c.args.entry c.requires.active in
    performs_failed (performs_as (abort_is c.args.self.now (g.S.Site.state c.args.site.now) s c.args.entry fits c.requires.active) (c.in-Err.ensures.performs fits.newest fits.records s.table s.commits fits.holds found.session.writes found.under_way.is_active))

pub end-requires : goal.end-requires
end-requires g c = (entry_is c.args.self.now.active c.args.entry.session c.args.entry c.requires.going.table c.requires.active).small

pub returns-in-Ok-clause-serves : goal.returns-in-Ok-clause-serves
returns-in-Ok-clause-serves g c =
    let small = (entry_is c.args.self.now.active c.args.entry.session c.args.entry c.requires.going.table c.requires.active).small in
    serves_of (works_answered c.in-Ok.ensures.works) (record {
      footprints = locked_ended c.args.self.now.footprints _ c.args.self.now.locks _ c.args.entry.session small c.release.ensures c.end.ensures.gone c.requires.going.footprints;
      store = search rules;
      going = search rules;
      cap = search rules;
      table = search rules;
      room = search rules;
      since = search rules;
      bounded = search rules;
      budget = search rules;
      commits = search rules;
      lasts = λ m other at. let before = c.requires.going.lasts m other (ended_was _ _ c.args.entry.session c.remove.ensures.entry m other at) in (before.0, omega (arith, before.1, c.in-Ok.ensures.works.rises));
      differ = λ n m a b at_n at_m. c.requires.going.differ n m a b (ended_was _ _ c.args.entry.session c.remove.ensures.entry n a at_n) (ended_was _ _ c.args.entry.session c.remove.ensures.entry m b at_m);
    })
