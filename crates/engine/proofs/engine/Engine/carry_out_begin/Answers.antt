use Rattle.std.proofs.lemmas.Grind.{common_steps}
use Rattle.engine.proofs.Names.{◌++◌, ◌∷◌, [], None, refl, arith, writes_of, wrote_of, reads_of, effect, keeps_failed, keeps_answered, works_answered, performs_answered, performs_failed, stays_honest, Log}
use Rattle.engine.proofs.Meanings.{begins_late, fresh_behind}
use Rattle.engine.proofs.Settings.{begin_at, may_begin}
use Rattle.engine.proofs.Actives.{begun, none_active}
use Rattle.record_model.specs.declared.words.Command.TheVariants.{Begin}
use Rattle.engine.proofs.FootprintChanges.{footprints_stay}
use Rattle.engine.proofs.Locks.{locks_stay, at_set}
use Rattle.engine.proofs.Calling.{does_of, serves_of, serves_stopped}
use Rattle.engine.proofs.engine.Engine.carry_out_begin.Goals as goal

pub returns-in-Err-clause-does : goal.returns-in-Err-clause-does
returns-in-Err-clause-does g c s fits = does_of (omega arith) tt (keeps_failed (c.in-Err.ensures.keeps fits.newest fits.records s.table s.commits fits.holds))

pub returns-clause-does : goal.returns-clause-does
returns-clause-does g c s fits =
    let engine = c.args.self.now in
    let behind = c.in-Ok.ensures.rises.0 in
    let may = may_begin engine _ s fits _ behind c.requires.may.room c.requires.going.store.blocks c.requires.going.cap in
    let fresh = fresh_behind engine.store _ fits.newest fits.records s.table s.commits _ fits.holds behind in
    let late = begins_late engine.store _ fits.newest fits.records s.table s.commits _ fits.holds behind in
    let none = none_active fits.newest fits.records engine.active s fits.sessions _ c.requires.may.absent in
    let count = fits.sessions.count in
    let small = c.requires.may.session in
    does_of (omega arith) (record {
      honest = stays_honest _ (g.S.Site.state c.begin.new.site) c.begin.ensures.works.calls.preserves fits.honest;
      newest = fits.newest;
      records = fits.records ++ begin_at _ ∷ [];
      holds = c.in-Ok.ensures.holds fits.newest fits.records s.table s.commits fits.holds may;
      counts = record { commits = fits.counts.commits; made = let before = fits.counts.made in omega (arith, c.in-Ok.ensures.works.made, before); cap = fits.counts.cap; fills = fits.counts.fills };
      sessions = begun fits.newest fits.records engine.active c.add.new.active s _ _ engine.store.made _ fits.sessions small c.requires.may.absent c.add.ensures.entry (omega (arith, c.add.ensures.owed)) fresh late refl refl fits.counts.made refl refl;
      locks_are = locks_stay engine.locks s _ (at_set wrote_of s.sessions _ _ None (omega (arith, small, count)) none refl) (at_set reads_of s.sessions _ _ None (omega (arith, small, count)) none refl) fits.locks_are;
      footprints_are = footprints_stay engine.footprints s (effect s (Begin c.args.session)) refl (at_set writes_of s.sessions _ _ None (omega (arith, small, count)) none refl) fits.footprints_are;
    })
    (keeps_answered (c.in-Ok.ensures.keeps fits.newest fits.records s.table s.commits fits.holds))

pub returns-in-Err-clause-serves : goal.returns-in-Err-clause-serves
returns-in-Err-clause-serves g c = serves_stopped c.in-Err.ensures.works (c.begin.ensures.reads Log)

pub returns-clause-serves : goal.returns-clause-serves
returns-clause-serves g c = record { keeps = serves_of (works_answered c.in-Ok.ensures.works) (grind (arith, common_steps)); log_reads = c.begin.ensures.reads Log }

pub returns-in-Err-clause-performs : goal.returns-in-Err-clause-performs
returns-in-Err-clause-performs g c s fits = performs_failed (c.in-Err.ensures.performs fits.newest fits.records s.table s.commits fits.holds)

pub returns-clause-performs : goal.returns-clause-performs
returns-clause-performs g c s fits = performs_answered (c.in-Ok.ensures.performs fits.newest fits.records s.table s.commits fits.holds)
