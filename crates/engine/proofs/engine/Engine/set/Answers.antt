use Rattle.engine.proofs.Names.{◌≡◌, ◌<◌, ◌*◌, None, true, false, refl, sym, subst, rules, List, sizes_of, LeavesEither, touches_by, checkpointed_if, busy_write, Lock, fills_page, Set, asks_same, performs_as, Geometry}
use Rattle.engine.proofs.Replies.{full_is, has_room, touched_as, worked_as}
use Rattle.engine.proofs.Calling.{serves_then, serves_failed, serves_ended, serves_nothing, refused_as, first_then, first_failed, contract_ended, does_nothing, does_weaker, asks_rest, early, late_either, still}
use Rattle.engine.proofs.Performing.{performs_rest, performs_first, performs_unmade}
use Rattle.engine.proofs.engine.Engine.set.Goals as goal

pub carry_out_set-requires-clause-may : goal.carry_out_set-requires-clause-may
carry_out_set-requires-clause-may g c = record {
  number = subst (λ (k : Geometry). c.args.number < 32 * k.pages) (sym c.in-Ok.ensures.serves.sizes) c.in_default.ensures.there;
  free = subst (λ (ls : List Lock). busy_write ls None c.args.number ≡ None) (sym c.checkpoint_if.ensures.locks) c.in_default.ensures.free;
  room = c.in_default-full.ensures.room;
}

-- a test refuses it
pub returns-in-Some : goal.returns-in-Some
returns-in-Some g c =
    let old = g.S.Site.state c.args.site.now in
    record {
      answers = λ s fits.
          refused_as (λ o. LeavesEither (sizes_of c.args.self.now.store) s o.after old.told) (Set c.args.number c.args.value.now) (c.in-Some.ensures.refused s old fits) fits c.requires.going (early (sizes_of c.args.self.now.store) s s old.told);
      performs = λ s fits. performs_rest (c.in-Some.ensures.refused s old fits).1.1;
      serves = serves_nothing c.requires.going;
      ended = search rules;
    }

-- the checkpoint stops
pub returns-in-Err : goal.returns-in-Err
returns-in-Err g c =
    let old = g.S.Site.state c.args.site.now in
    record {
      answers = λ s fits.
          first_failed (Set c.args.number c.args.value.now) (c.is_due-due.ensures s old fits) (c.in_default.ensures.passes s old fits) (λ o. LeavesEither (sizes_of c.args.self.now.store) s o.after old.told) c.requires.going (early (sizes_of c.args.self.now.store) s _ old.told) (c.in-Err.ensures.does s fits) c.in-Err.ensures.asks;
      performs = λ s fits. performs_unmade s (Set c.args.number c.args.value.now) (c.is_due-due.ensures s old fits) (c.in_default.ensures.passes s old fits) (c.in-Err.ensures.performs s fits);
      serves = serves_failed c.in-Err.ensures.serves;
      ended = search rules;
    }

-- there is no room
pub returns-in-Some-full : goal.returns-in-Some-full
returns-in-Some-full g c =
    let old = g.S.Site.state c.args.site.now in
    let mid = g.S.Site.state c.checkpoint_if.new.site in
    let going = c.in-Ok.ensures.serves.going in
    record {
      answers = λ s fits.
          let behind = (c.in-Ok.ensures.does s fits).after_fits in
          first_then (Set c.args.number c.args.value.now) (c.is_due-due.ensures s old fits) (c.in_default.ensures.passes s old fits) (λ o. LeavesEither (sizes_of c.args.self.now.store) s o.after old.told) true (full_is 4 _ (c.in-Ok.ensures.does s fits).after_fits c.in-Ok.ensures.serves.going.table c.in-Some-full.ensures.full).1 _ refl fits.honest
          (early (sizes_of c.args.self.now.store) s _ old.told) (late_either refl refl c.in-Ok.ensures.serves.sizes) c.in-Ok.ensures.serves (c.in-Ok.ensures.does s fits) c.in-Ok.ensures.asks
          (does_weaker (early (sizes_of c.checkpoint_if.new.self.store) (checkpointed_if c.is_due-due.result s) _ mid.told) (does_nothing behind going (still behind going))) (full_is 4 _ (c.in-Ok.ensures.does s fits).after_fits c.in-Ok.ensures.serves.going.table c.in-Some-full.ensures.full).0 asks_rest;
      performs = λ s fits.
          performs_first s (Set c.args.number c.args.value.now) (c.is_due-due.ensures s old fits) (c.in_default.ensures.passes s old fits) true (full_is 4 _ (c.in-Ok.ensures.does s fits).after_fits c.in-Ok.ensures.serves.going.table c.in-Some-full.ensures.full).1 _ refl c.in-Ok.ensures.asks.rules_are (c.in-Ok.ensures.performs s fits)
          (performs_rest refl);
      serves = serves_then c.in-Ok.ensures.serves (serves_nothing going);
      ended = search rules;
    }

-- the test of its page decides

pub returns-in-Ok-carry_out_set : goal.returns-in-Ok-carry_out_set
returns-in-Ok-carry_out_set g c =
    let old = g.S.Site.state c.args.site.now in
    let command = Set c.args.number c.args.value.now in
    record {
      answers = λ s fits.
          let u = checkpointed_if c.is_due-due.result s in
          let behind = (c.in-Ok.ensures.does s fits).after_fits in
          let contract = (c.in-Ok-carry_out_set.ensures.answers u behind) in
          first_then command (c.is_due-due.ensures s old fits) (c.in_default.ensures.passes s old fits) (λ o. LeavesEither (sizes_of c.args.self.now.store) s o.after old.told) false (has_room 4 behind c.in-Ok.ensures.serves.going.table c.in_default-full.ensures.room) (fills_page u command) refl fits.honest
          (early (sizes_of c.args.self.now.store) s _ old.told) (late_either refl refl c.in-Ok.ensures.serves.sizes) c.in-Ok.ensures.serves (c.in-Ok.ensures.does s fits) c.in-Ok.ensures.asks
          contract.does contract.reply (asks_same _ _ (touches_by u command (fills_page u command)) _ _ _ _ (touched_as u command (fills_page u command)) contract.asks);
      performs = λ s fits.
          let u = checkpointed_if c.is_due-due.result s in
          let behind = (c.in-Ok.ensures.does s fits).after_fits in
          performs_first s command (c.is_due-due.ensures s old fits) (c.in_default.ensures.passes s old fits) false (has_room 4 behind c.in-Ok.ensures.serves.going.table c.in_default-full.ensures.room) (fills_page u command) refl c.in-Ok.ensures.asks.rules_are (c.in-Ok.ensures.performs s fits)
          (performs_as (worked_as u command (fills_page u command)) (c.in-Ok-carry_out_set.ensures.performs u behind));
      serves = serves_then c.in-Ok.ensures.serves c.in-Ok-carry_out_set.ensures.serves;
      ended = search rules;
    }

pub returns-in-Err-carry_out_set : goal.returns-in-Err-carry_out_set
returns-in-Err-carry_out_set g c =
    let old = g.S.Site.state c.args.site.now in
    let command = Set c.args.number c.args.value.now in
    record {
      answers = λ s fits.
          let u = checkpointed_if c.is_due-due.result s in
          let behind = (c.in-Ok.ensures.does s fits).after_fits in
          let contract = (contract_ended (c.in-Err-carry_out_set.ensures.answers u behind)) in
          first_then command (c.is_due-due.ensures s old fits) (c.in_default.ensures.passes s old fits) (λ o. LeavesEither (sizes_of c.args.self.now.store) s o.after old.told) false (has_room 4 behind c.in-Ok.ensures.serves.going.table c.in_default-full.ensures.room) (fills_page u command) refl fits.honest
          (early (sizes_of c.args.self.now.store) s _ old.told) (late_either refl refl c.in-Ok.ensures.serves.sizes) c.in-Ok.ensures.serves (c.in-Ok.ensures.does s fits) c.in-Ok.ensures.asks
          contract.does contract.reply (asks_same _ _ (touches_by u command (fills_page u command)) _ _ _ _ (touched_as u command (fills_page u command)) contract.asks);
      performs = λ s fits.
          let u = checkpointed_if c.is_due-due.result s in
          let behind = (c.in-Ok.ensures.does s fits).after_fits in
          performs_first s command (c.is_due-due.ensures s old fits) (c.in_default.ensures.passes s old fits) false (has_room 4 behind c.in-Ok.ensures.serves.going.table c.in_default-full.ensures.room) (fills_page u command) refl c.in-Ok.ensures.asks.rules_are (c.in-Ok.ensures.performs s fits)
          (performs_as (worked_as u command (fills_page u command)) (c.in-Err-carry_out_set.ensures.performs u behind));
      serves = serves_then c.in-Ok.ensures.serves (serves_ended c.in-Err-carry_out_set.ensures.serves);
      ended = search rules;
    }
