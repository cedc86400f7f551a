use Rattle.engine.proofs.Names.{◌≡◌, ◌+◌, ◌-◌, ◌≤◌, ℕ, refl, sym, arith, ap, Option, Some, drop, length, ◌∙◌, length-drop, option_map, back_reads, entries_of, Session, State, session_at, writes_of, dropped, going_back, takes_back_touches, asks_same, asks_ok, asks_err, keeps_answered, keeps_failed, works_answered, performs_answered, performs_as, performs_failed, goes_back, stays_honest, owes, entry_is, after_undone}
use Rattle.engine.proofs.Actives.{some_active}
use Rattle.engine.proofs.Backs.{back_fits, still_going}
use Rattle.engine.proofs.FootprintChanges.{locked_back}
use Rattle.engine.proofs.Undoing.{back_is}
use Rattle.engine.proofs.Updated.{updated_count}
use Rattle.engine.proofs.Calling.{does_of, serves_of}
use Rattle.engine.proofs.engine.Engine.carry_out_back.Goals as goal

pub back-requires-clause-few : goal.back-requires-clause-few
back-requires-clause-few g c =
    let part = owes c.args.self.now.active c.args.entry.session c.args.entry c.requires.going.table c.requires.active in
    omega (arith, part, c.requires.going.bounded)

pub returns-in-Ok-clause-does : goal.returns-in-Ok-clause-does
returns-in-Ok-clause-does g c s fits =
    let engine = c.args.self.now in
    let entry = c.args.entry in
    let stays = c.args.stays in
    let found = some_active fits.newest fits.records engine.active s fits.sessions entry.session entry c.requires.active in
    let less : entry.writes - stays ≤ length found.session.writes = omega (arith, found.under_way.count) in
    does_of (omega (arith, ap (λ (o : Option Session). length (dropped (Some stays) o)) found.is, length-drop stays found.session.writes, found.under_way.count))
    (back_fits engine (record engine { store = c.back.new.self; footprints = c.take_back.new.footprints; active = c.undone.new.active }) _ _ s entry stays c.in-Ok.last found.session fits c.requires.going.table c.requires.active found.is found.under_way c.requires.stand (stays_honest _ _ c.back.ensures.works.calls.preserves fits.honest)
    (c.in-Ok.ensures.undone fits.newest fits.records s.table s.commits fits.holds found.session.writes found.under_way.is_active less) c.in-Ok.ensures.works.made c.undone.ensures.entry c.undone.ensures.owed refl refl refl c.take_back.ensures)
    (keeps_answered (c.in-Ok.ensures.keeps fits.newest fits.records s.table s.commits fits.holds found.session.writes found.under_way.is_active less))

pub returns-in-Err-clause-does : goal.returns-in-Err-clause-does
returns-in-Err-clause-does g c s fits =
    let found = some_active fits.newest fits.records c.args.self.now.active s fits.sessions c.args.entry.session c.args.entry c.requires.active in
    let less : c.args.entry.writes - c.args.stays ≤ length found.session.writes = omega (arith, found.under_way.count) in
    does_of (omega (arith, ap (λ (o : Option Session). length (dropped (Some c.args.stays) o)) found.is, length-drop c.args.stays found.session.writes, found.under_way.count)) tt
    (keeps_failed (c.in-Err.ensures.keeps fits.newest fits.records s.table s.commits fits.holds found.session.writes found.under_way.is_active less))

-- the pages of what is dropped
touched_by : (s : State) (n stays writes : ℕ) (session : Session) → session_at s n ≡ Some session → writes ≡ length session.writes → stays ≤ writes → takes_back_touches (dropped (Some stays) (session_at s n)) ≡ takes_back_touches (drop (length session.writes - (writes - stays)) session.writes)
touched_by s n stays writes session is count less =
    let same : stays ≡ length session.writes - (writes - stays) = omega (arith, count, less) in
    ap (λ (o : Option Session). takes_back_touches (dropped (Some stays) o)) is ∙ ap (λ (k : ℕ). takes_back_touches (drop k session.writes)) same

pub returns-in-Ok-clause-asks : goal.returns-in-Ok-clause-asks
returns-in-Ok-clause-asks g c s fits =
    let found = some_active fits.newest fits.records c.args.self.now.active s fits.sessions c.args.entry.session c.args.entry c.requires.active in
    let less : c.args.entry.writes - c.args.stays ≤ length found.session.writes = omega (arith, found.under_way.count) in
    asks_same _ _ _ _ _ _ _ (touched_by s c.args.entry.session c.args.stays c.args.entry.writes found.session found.is found.under_way.count c.requires.stand)
    (asks_ok c.in-Ok.last _ _ _ _ _ _ (c.in-Ok.ensures.asks fits.newest fits.records s.table s.commits fits.holds found.session.writes found.under_way.is_active less))

pub returns-in-Err-clause-asks : goal.returns-in-Err-clause-asks
returns-in-Err-clause-asks g c s fits =
    let found = some_active fits.newest fits.records c.args.self.now.active s fits.sessions c.args.entry.session c.args.entry c.requires.active in
    let less : c.args.entry.writes - c.args.stays ≤ length found.session.writes = omega (arith, found.under_way.count) in
    asks_same _ _ _ _ _ _ _ (touched_by s c.args.entry.session c.args.stays c.args.entry.writes found.session found.is found.under_way.count c.requires.stand)
    (asks_err c.in-Err.stop _ _ _ _ _ (c.in-Err.ensures.asks fits.newest fits.records s.table s.commits fits.holds found.session.writes found.under_way.is_active less))

-- How often the log is read.
reads_few : (s : State) (n stays writes before now updates : ℕ) (session : Session) → session_at s n ≡ Some session → writes ≡ length session.writes → updates ≡ length session.wrote → now ≤ before + ((writes - stays) + (updates - length session.writes)) → now ≤ before + back_reads (Some stays) (session_at s n)
reads_few s n stays writes before now updates session is count many few = omega (arith, few, many, count, ap (back_reads (Some stays)) is, length-drop stays session.writes)

pub returns-in-Ok-clause-log_reads : goal.returns-in-Ok-clause-log_reads
returns-in-Ok-clause-log_reads g c s fits =
    let found = some_active fits.newest fits.records c.args.self.now.active s fits.sessions c.args.entry.session c.args.entry c.requires.active in
    let less : c.args.entry.writes - c.args.stays ≤ length found.session.writes = omega (arith, found.under_way.count) in
    reads_few s c.args.entry.session c.args.stays c.args.entry.writes _ _ _ found.session found.is found.under_way.count (sym (ap length found.under_way.wrote ∙ updated_count (entries_of c.args.entry.begin fits.records))) (c.back.ensures.log_reads fits.newest fits.records s.table s.commits fits.holds found.session.writes found.under_way.is_active less)

pub returns-in-Err-clause-log_reads : goal.returns-in-Err-clause-log_reads
returns-in-Err-clause-log_reads g c s fits =
    let found = some_active fits.newest fits.records c.args.self.now.active s fits.sessions c.args.entry.session c.args.entry c.requires.active in
    let less : c.args.entry.writes - c.args.stays ≤ length found.session.writes = omega (arith, found.under_way.count) in
    reads_few s c.args.entry.session c.args.stays c.args.entry.writes _ _ _ found.session found.is found.under_way.count (sym (ap length found.under_way.wrote ∙ updated_count (entries_of c.args.entry.begin fits.records))) (c.back.ensures.log_reads fits.newest fits.records s.table s.commits fits.holds found.session.writes found.under_way.is_active less)

-- What it makes of the machine.

pub returns-in-Ok-clause-performs : goal.returns-in-Ok-clause-performs
returns-in-Ok-clause-performs g c s fits =
    let found = some_active fits.newest fits.records c.args.self.now.active s fits.sessions c.args.entry.session c.args.entry c.requires.active in
    let less : c.args.entry.writes - c.args.stays ≤ length found.session.writes = omega (arith, found.under_way.count) in
    performs_answered (performs_as (ap (λ (o : Option Session). goes_back s.table (writes_of (option_map (going_back (Some c.args.stays)) o)) (dropped (Some c.args.stays) o)) found.is
    ∙ back_is c.args.self.now (g.S.Site.state c.args.site.now) s c.args.entry fits c.requires.active found.session.writes (ap writes_of found.is) (c.args.entry.writes - c.args.stays) c.args.stays (omega (arith, c.requires.stand, found.under_way.count)))
    (c.in-Ok.ensures.performs fits.newest fits.records s.table s.commits fits.holds found.session.writes found.under_way.is_active less))

pub returns-in-Err-clause-performs : goal.returns-in-Err-clause-performs
returns-in-Err-clause-performs g c s fits =
    let found = some_active fits.newest fits.records c.args.self.now.active s fits.sessions c.args.entry.session c.args.entry c.requires.active in
    let less : c.args.entry.writes - c.args.stays ≤ length found.session.writes = omega (arith, found.under_way.count) in
    performs_failed (performs_as (ap (λ (o : Option Session). goes_back s.table (writes_of (option_map (going_back (Some c.args.stays)) o)) (dropped (Some c.args.stays) o)) found.is
    ∙ back_is c.args.self.now (g.S.Site.state c.args.site.now) s c.args.entry fits c.requires.active found.session.writes (ap writes_of found.is) (c.args.entry.writes - c.args.stays) c.args.stays (omega (arith, c.requires.stand, found.under_way.count)))
    (c.in-Err.ensures.performs fits.newest fits.records s.table s.commits fits.holds found.session.writes found.under_way.is_active less))

pub returns-in-Ok-clause-serves : goal.returns-in-Ok-clause-serves
returns-in-Ok-clause-serves g c =
    let going = c.requires.going in
    let entry = c.args.entry in
    let works = c.in-Ok.ensures.works in
    let before = going.lasts entry.session entry c.requires.active in
    let last = c.in-Ok.ensures.last in
    serves_of (works_answered works) (still_going entry.session (entry.writes - c.args.stays) entry (after_undone entry (entry.writes - c.args.stays) c.in-Ok.last) going c.requires.active c.undone.ensures.entry c.undone.ensures.table refl refl (omega (arith, before.0, last.0)) last.1 c.undone.ensures.owed works.going works.sizes works.kept works.made works.blocks works.rises refl refl refl (locked_back c.args.self.now.footprints _ _ _ _ c.take_back.ensures going.footprints))

pub take_back-requires-clause-session : goal.take_back-requires-clause-session
take_back-requires-clause-session g c = (entry_is c.args.self.now.active c.args.entry.session c.args.entry c.requires.going.table c.requires.active).small
