use Rattle.redo_laws.specs.Running.{settled}
use Rattle.engine.proofs.Names.{◌≡◌, ◌*◌, ◌<◌, None, Some, refl, sym, ap, ◌∙◌, arith, ◌/◌, rules, sizes_of, Matches, Engine, asks_ok, one_touch, keeps_failed, keeps_answered, keeps_no_memory, works_answered, performs_answered, performs_failed, performs_refused, stays_honest, Geometry}
use Rattle.engine.proofs.FootprintChanges.{locked_read}
use Rattle.engine.proofs.Meanings.{busy_read_is, seen_is}
use Rattle.engine.proofs.Replies.{has}
use Rattle.engine.proofs.Writes.{read_fits, touched_fits}
use Rattle.engine.proofs.Calling.{does_of, serves_still}
use Rattle.record_model.specs.State as model
use Rattle.engine.proofs.engine.Engine.carry_out_read.Goals as goal

pub returns-in-Ok-add : goal.returns-in-Ok-add
returns-in-Ok-add g c =
    let engine = c.args.self.now in
    let number = c.args.number in
    let mid : Engine = record engine { store = c.touch.new.self } in
    let less : number < 32 * (sizes_of c.touch.new.self).pages = omega (arith, ap (λ (x : Geometry). x.pages) c.touch.ensures.works.sizes, c.requires.may.shown.number) in
    let n = c.args.session in
    let own = has _ c.requires.may.active in
    let going = c.requires.going in
    record {
      content = λ s fits.
          let holds = c.in-Ok.ensures.holds fits.newest fits.records s.table s.commits fits.holds in
          let fits_mid : Matches mid _ s = touched_fits engine c.touch.new.self _ _ s fits (stays_honest _ _ c.touch.ensures.works.calls.preserves fits.honest) holds c.touch.ensures.made in
          let free : model.busy_read s (Some n) number ≡ None = sym (busy_read_is engine.locks s fits.locks_are (Some n) number) ∙ c.requires.may.shown.free in
          c.shown.ensures.shown _ fits.newest fits.records (settled s.table s.commits) holds ∙ sym (seen_is mid _ s fits_mid n number own.own c.requires.going.table less own.is free);
      does = λ s fits.
          let holds = c.in-Ok.ensures.holds fits.newest fits.records s.table s.commits fits.holds in
          let fits_mid : Matches mid _ s = touched_fits engine c.touch.new.self _ _ s fits (stays_honest _ _ c.touch.ensures.works.calls.preserves fits.honest) holds c.touch.ensures.made in
          does_of (omega arith) (read_fits mid c.add.new.self _ s c.args.session number own.own fits_mid c.requires.going.table own.is c.in-Ok-add.ensures.ok)
          (keeps_answered (c.in-Ok.ensures.keeps fits.newest fits.records s.table s.commits fits.holds));
      serves = record {
        keeps = serves_still going (works_answered c.in-Ok.ensures.works) refl refl refl (omega (arith, going.budget)) (omega (arith, going.commits, c.in-Ok.ensures.works.rises)) (locked_read engine.footprints engine.locks _ n number c.in-Ok-add.ensures.ok going.footprints);
        log_reads = c.touch.ensures.log_reads;
      };
      asks = asks_ok c.in-Ok.field-0 _ (one_touch (c.args.number / 32)) _ _ _ _ c.in-Ok.ensures.asks;
      performs = λ s fits. performs_answered (c.in-Ok.ensures.performs fits.newest fits.records s.table s.commits fits.holds);
      locks = search rules;
      active = search rules;
      kept = search rules;
    }

pub returns-in-Err-clause-does : goal.returns-in-Err-clause-does
returns-in-Err-clause-does g c s fits = does_of (omega arith) tt (keeps_failed (c.in-Err.ensures.keeps fits.newest fits.records s.table s.commits fits.holds))

pub returns-in-Err-add-clause-does : goal.returns-in-Err-add-clause-does
returns-in-Err-add-clause-does g c s fits = does_of (omega arith) tt (keeps_no_memory fits.honest c.in-Ok.ensures.works (c.in-Ok.ensures.keeps fits.newest fits.records s.table s.commits fits.holds))

pub returns-in-Err-clause-performs : goal.returns-in-Err-clause-performs
returns-in-Err-clause-performs g c s fits = performs_failed (c.in-Err.ensures.performs fits.newest fits.records s.table s.commits fits.holds)

pub returns-in-Err-add-clause-performs : goal.returns-in-Err-add-clause-performs
returns-in-Err-add-clause-performs g c s fits = performs_refused (λ dev same. cc)
