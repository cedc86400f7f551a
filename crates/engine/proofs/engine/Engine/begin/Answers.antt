use Rattle.engine.proofs.Names.{None, true, false, refl, rules, arith, sizes_of, LeavesTable}
use Rattle.record_model.specs.declared.words.Command.TheVariants.{Begin}
use Rattle.engine.proofs.Replies.{full_is, has_room}
use Rattle.engine.proofs.Calling.{serves_then, serves_failed, serves_ended, serves_nothing, refused_as, first_then, first_failed, does_nothing, does_failed, asks_rest, late_table, still}
use Rattle.engine.proofs.Performing.{performs_rest, performs_first, performs_unmade}
use Rattle.engine.proofs.engine.Engine.begin.Goals as goal

pub carry_out_begin-requires-clause-may : goal.carry_out_begin-requires-clause-may
carry_out_begin-requires-clause-may g c = record {
  session = c.in_default.ensures.small;
  absent = c.checkpoint_if.ensures.absent c.args.session c.in_default.ensures.absent;
  room = c.in_default-full.ensures.room;
}

-- a test refuses it
pub returns-in-Some : goal.returns-in-Some
returns-in-Some g c =
    let old = g.S.Site.state c.args.site.now in
    record {
      answers = λ s fits. refused_as (λ o. LeavesTable (sizes_of c.args.self.now.store) s.table s.commits old.told) (Begin c.args.session) (c.in-Some.ensures.refused s old fits) fits c.requires.going (λ x p. p);
      performs = λ s fits. performs_rest (c.in-Some.ensures.refused s old fits).1.1;
      serves = serves_nothing c.requires.going;
      ended = search rules;
    }

-- the checkpoint stops
pub returns-in-Err : goal.returns-in-Err
returns-in-Err g c =
    let old = g.S.Site.state c.args.site.now in
    record {
      answers = λ s fits.
          first_failed (Begin c.args.session) (c.is_due-due.ensures s old fits) (c.in_default.ensures.passes s old fits) (λ o. LeavesTable (sizes_of c.args.self.now.store) s.table s.commits old.told) c.requires.going (λ x p. p) (c.in-Err.ensures.does s fits) c.in-Err.ensures.asks;
      performs = λ s fits. performs_unmade s (Begin c.args.session) (c.is_due-due.ensures s old fits) (c.in_default.ensures.passes s old fits) (c.in-Err.ensures.performs s fits);
      serves = serves_failed c.in-Err.ensures.serves;
      ended = search rules;
    }

-- there is no room
pub returns-in-Some-full : goal.returns-in-Some-full
returns-in-Some-full g c =
    let old = g.S.Site.state c.args.site.now in
    let going = c.in-Ok.ensures.serves.going in
    record {
      answers = λ s fits.
          let behind = (c.in-Ok.ensures.does s fits).after_fits in
          first_then (Begin c.args.session) (c.is_due-due.ensures s old fits) (c.in_default.ensures.passes s old fits) (λ o. LeavesTable (sizes_of c.args.self.now.store) s.table s.commits old.told) true (full_is 2 _ (c.in-Ok.ensures.does s fits).after_fits c.in-Ok.ensures.serves.going.table c.in-Some-full.ensures.full).1 None refl fits.honest
          (λ x p. p) (late_table c.in-Ok.ensures.serves.sizes) c.in-Ok.ensures.serves (c.in-Ok.ensures.does s fits) c.in-Ok.ensures.asks
          (does_nothing behind going (still behind going)) (full_is 2 _ (c.in-Ok.ensures.does s fits).after_fits c.in-Ok.ensures.serves.going.table c.in-Some-full.ensures.full).0 asks_rest;
      performs = λ s fits.
          performs_first s (Begin c.args.session) (c.is_due-due.ensures s old fits) (c.in_default.ensures.passes s old fits) true (full_is 2 _ (c.in-Ok.ensures.does s fits).after_fits c.in-Ok.ensures.serves.going.table c.in-Some-full.ensures.full).1 None refl c.in-Ok.ensures.asks.rules_are (c.in-Ok.ensures.performs s fits)
          (performs_rest refl);
      serves = serves_then c.in-Ok.ensures.serves (serves_nothing going);
      ended = search rules;
    }

-- it is carried out

pub returns-in-Ok-carry_out_begin : goal.returns-in-Ok-carry_out_begin
returns-in-Ok-carry_out_begin g c =
    let old = g.S.Site.state c.args.site.now in
    record {
      answers = λ s fits.
          first_then (Begin c.args.session) (c.is_due-due.ensures s old fits) (c.in_default.ensures.passes s old fits) (λ o. LeavesTable (sizes_of c.args.self.now.store) s.table s.commits old.told) false (has_room 2 (c.in-Ok.ensures.does s fits).after_fits c.in-Ok.ensures.serves.going.table c.in_default-full.ensures.room) None refl fits.honest
          (λ x p. p) (late_table c.in-Ok.ensures.serves.sizes) c.in-Ok.ensures.serves (c.in-Ok.ensures.does s fits) c.in-Ok.ensures.asks
          (c.in-Ok-carry_out_begin.ensures.does _ (c.in-Ok.ensures.does s fits).after_fits) c.in-Ok-carry_out_begin.ensures.done c.in-Ok-carry_out_begin.ensures.asks;
      performs = λ s fits.
          performs_first s (Begin c.args.session) (c.is_due-due.ensures s old fits) (c.in_default.ensures.passes s old fits) false (has_room 2 (c.in-Ok.ensures.does s fits).after_fits c.in-Ok.ensures.serves.going.table c.in_default-full.ensures.room) None refl c.in-Ok.ensures.asks.rules_are (c.in-Ok.ensures.performs s fits)
          (c.in-Ok-carry_out_begin.ensures.performs _ (c.in-Ok.ensures.does s fits).after_fits);
      serves = serves_then c.in-Ok.ensures.serves c.in-Ok-carry_out_begin.ensures.serves;
      ended = search rules;
    }

pub returns-in-Err-carry_out_begin : goal.returns-in-Err-carry_out_begin
returns-in-Err-carry_out_begin g c =
    let old = g.S.Site.state c.args.site.now in
    record {
      answers = λ s fits.
          first_then (Begin c.args.session) (c.is_due-due.ensures s old fits) (c.in_default.ensures.passes s old fits) (λ o. LeavesTable (sizes_of c.args.self.now.store) s.table s.commits old.told) false (has_room 2 (c.in-Ok.ensures.does s fits).after_fits c.in-Ok.ensures.serves.going.table c.in_default-full.ensures.room) None refl fits.honest
          (λ x p. p) (late_table c.in-Ok.ensures.serves.sizes) c.in-Ok.ensures.serves (c.in-Ok.ensures.does s fits) c.in-Ok.ensures.asks
          (does_failed (omega arith) (c.in-Err-carry_out_begin.ensures.does _ (c.in-Ok.ensures.does s fits).after_fits)) tt c.in-Err-carry_out_begin.ensures.asks;
      performs = λ s fits.
          performs_first s (Begin c.args.session) (c.is_due-due.ensures s old fits) (c.in_default.ensures.passes s old fits) false (has_room 2 (c.in-Ok.ensures.does s fits).after_fits c.in-Ok.ensures.serves.going.table c.in_default-full.ensures.room) None refl c.in-Ok.ensures.asks.rules_are (c.in-Ok.ensures.performs s fits)
          (c.in-Err-carry_out_begin.ensures.performs _ (c.in-Ok.ensures.does s fits).after_fits);
      serves = serves_then c.in-Ok.ensures.serves (serves_ended c.in-Err-carry_out_begin.ensures.serves);
      ended = search rules;
    }
