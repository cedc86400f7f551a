use Rattle.redo_laws.specs.Running.{settled}
use Rattle.engine.proofs.Names.{◌≡◌, ◌*◌, ◌<◌, None, refl, sym, ap, ◌∙◌, arith, ◌/◌, sizes_of, Matches, Engine, found, asks_ok, one_touch, keeps_failed, keeps_answered, works_answered, performs_failed, performs_answered, stays_honest, Geometry}
use Rattle.engine.proofs.Meanings.{busy_read_is, got_is}
use Rattle.engine.proofs.Writes.{touched_fits}
use Rattle.engine.proofs.Calling.{does_of, serves_still}
use Rattle.record_model.specs.State as model
use Rattle.engine.proofs.engine.Engine.carry_out_get.Goals as goal

pub returns-in-Ok : goal.returns-in-Ok
returns-in-Ok g c =
    let engine = c.args.self.now in
    let number = c.args.number in
    let mid : Engine = record engine { store = c.touch.new.self } in
    let less : number < 32 * (sizes_of c.touch.new.self).pages = omega (arith, ap (λ (x : Geometry). x.pages) c.touch.ensures.works.sizes, c.requires.may.number) in
    record {
      reply = λ s fits.
          let holds = c.in-Ok.ensures.holds fits.newest fits.records s.table s.commits fits.holds in
          let fits_mid : Matches mid _ s = touched_fits engine c.touch.new.self _ _ s fits (stays_honest _ _ c.touch.ensures.works.calls.preserves fits.honest) holds c.touch.ensures.made in
          let free : model.busy_read s None number ≡ None = sym (busy_read_is engine.locks s fits.locks_are None number) ∙ c.requires.may.free in
          c.found.ensures ∙ ap found (c.shown.ensures.shown _ fits.newest fits.records (settled s.table s.commits) holds ∙ sym (got_is mid _ s fits_mid number c.requires.going.table less free));
      does = λ s fits.
          let holds = c.in-Ok.ensures.holds fits.newest fits.records s.table s.commits fits.holds in
          does_of (omega arith) (touched_fits c.args.self.now c.touch.new.self _ _ s fits (stays_honest _ _ c.touch.ensures.works.calls.preserves fits.honest) holds c.touch.ensures.made)
          (keeps_answered (c.in-Ok.ensures.keeps fits.newest fits.records s.table s.commits fits.holds));
      serves = record {
        keeps = serves_still c.requires.going (works_answered c.in-Ok.ensures.works) refl refl refl (omega (arith, c.requires.going.budget)) (omega (arith, c.requires.going.commits, c.in-Ok.ensures.works.rises)) c.requires.going.footprints;
        log_reads = c.touch.ensures.log_reads;
      };
      asks = asks_ok c.in-Ok.field-0 _ (one_touch (c.args.number / 32)) _ _ _ _ c.in-Ok.ensures.asks;
      performs = λ s fits. performs_answered (c.in-Ok.ensures.performs fits.newest fits.records s.table s.commits fits.holds);
    }

pub returns-in-Err-clause-does : goal.returns-in-Err-clause-does
returns-in-Err-clause-does g c s fits = does_of (omega arith) tt (keeps_failed (c.in-Err.ensures.keeps fits.newest fits.records s.table s.commits fits.holds))

pub returns-in-Err-clause-performs : goal.returns-in-Err-clause-performs
returns-in-Err-clause-performs g c s fits = performs_failed (c.in-Err.ensures.performs fits.newest fits.records s.table s.commits fits.holds)
