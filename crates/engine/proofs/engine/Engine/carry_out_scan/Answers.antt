use Rattle.engine.proofs.Names.{map, List, ◌*◌, ◌≡◌, ℕ, ◌+◌, refl, sym, ap, subst, ◌∙◌, arith, rules, flat_map, range_with_len, Ok, IsSome, CommandEffect, sizes_of, LeavesTable, with_reads, items_seen, State, read_touch, asks_same, asks_ok, asks_fails, no_asks, performs_as, performs_answered, performs_refused, performs_stopped, reads, Geometry, entry_of, Active}
use Rattle.std.specs.Prelude.{◌<◌}
use Rattle.engine.proofs.Asking.{scan_more, scan_stops, has_group}
use Rattle.engine.proofs.Scans.{free_at, still_busy, reads_none, reads_more, range_more, items_next}
use Rattle.engine.proofs.Calling.{does_nothing, does_answered, does_failed, does_then, does_no_memory, late_table, serves_nothing, serves_answered, serves_then, serves_failed, serves_no_memory, still}
use Rattle.engine.proofs.Performing.{performs_rest, store_then, memory_refuses, reads_one_more, reads_split}
use Rattle.engine.proofs.engine.Engine.carry_out_scan.Goals as goal

pub loop-offset-init : goal.loop-offset-init
loop-offset-init g c =
    let old = g.S.Site.state c.args.site.now in
    record {
      serves = serves_nothing c.requires.going;
      active = refl;
      busy = λ r. refl;
      kept = refl;
      does = λ s fits. subst (λ (u : State). CommandEffect {T = Unit {0}} (Ok tt) c.args.self.now c.args.self.now old old s u (LeavesTable (sizes_of c.args.self.now.store) s.table s.commits old.told) 0) (sym (reads_none s c.args.session)) (does_nothing fits c.requires.going (still fits c.requires.going));
      items = λ s fits. c.new-items.ensures;
      asks = no_asks c.args.self.now.store.pages old;
      performs = λ s fits. performs_rest refl;
    }

pub carry_out_read-requires-clause-may : goal.carry_out_read-requires-clause-may
carry_out_read-requires-clause-may g c =
    let inv = c.loop-offset.invariant in
    record {
      session = c.requires.may.session;
      active = subst (λ (l : List Active). IsSome (entry_of l c.args.session)) (sym inv.active) c.requires.may.active;
      shown = record {
        number = subst (λ (k : Geometry). c.args.number + c.loop-offset.offset < 32 * k.pages) (sym inv.serves.sizes) (omega (arith, c.requires.may.there, c.loop-offset-test.true));
        free = inv.busy (c.args.number + c.loop-offset.offset) ∙ free_at c.args.self.now.locks c.args.session c.args.number c.args.count c.loop-offset.offset c.loop-offset-test.true c.requires.may.free;
      };
    }

pub loop-offset-preserved : goal.loop-offset-preserved
loop-offset-preserved g c =
    let old = g.S.Site.state c.args.site.now in
    let mid = g.S.Site.state c.loop-offset.site in
    let new = g.S.Site.state c.carry_out_read.new.site in
    let inv = c.loop-offset.invariant in
    let number = c.args.number in
    let offset = c.loop-offset.offset in
    let eight = c.requires.may.session in
    record {
      serves = serves_answered (serves_then inv.serves c.in-Ok.ensures.serves);
      active = c.carry_out_read.ensures.active ∙ inv.active;
      busy = λ r. still_busy c.loop-offset.self.locks c.carry_out_read.new.self.locks c.args.session (number + offset) c.in-Ok.ensures.locks c.args.session r ∙ inv.busy r;
      kept = c.carry_out_read.ensures.kept ∙ inv.kept;
      does = λ s fits.
          subst (λ (u : State). CommandEffect {T = Unit {0}} (Ok tt) c.args.self.now c.carry_out_read.new.self old new s u (LeavesTable (sizes_of c.args.self.now.store) s.table s.commits old.told) 0)
          (reads_more s c.args.session (number + offset) (range_with_len number offset) (omega (arith, eight, fits.sessions.count)) ∙ ap (with_reads s c.args.session) (sym (range_more number offset)))
          (does_answered (does_then fits.honest refl (λ x p. p) (late_table inv.serves.sizes) inv.serves (inv.does s fits) (c.in-Ok.ensures.does (with_reads s c.args.session (range_with_len c.args.number c.loop-offset.offset)) (inv.does s fits).after_fits)));
      items = λ s fits.
          items_next s c.args.session number offset c.loop-offset.items c.add_item.new.items _ (omega (arith, eight, fits.sessions.count)) (inv.items s fits)
          (c.in-Ok.ensures.content (with_reads s c.args.session (range_with_len number offset)) (inv.does s fits).after_fits) c.in-Ok-add_item.ensures.items;
      asks = scan_more tt (Ok tt) number offset _ _ _ old mid new inv.asks (asks_ok c.in-Ok.content tt _ _ _ _ _ c.in-Ok.ensures.asks);
      performs = λ s fits.
          performs_as (reads_one_more number offset) (store_then inv.asks.rules_are (inv.performs s fits) (performs_answered (c.in-Ok.ensures.performs (with_reads s c.args.session (range_with_len number offset)) (inv.does s fits).after_fits)));
    }

pub returns-in-Err : goal.returns-in-Err
returns-in-Err g c =
    let inv = c.loop-offset.invariant in
    record {
      items = search rules;
      does = λ s fits.
          does_failed (omega arith) (does_then fits.honest refl (λ x p. p) (late_table inv.serves.sizes) inv.serves (inv.does s fits) (c.in-Err.ensures.does (with_reads s c.args.session (range_with_len c.args.number c.loop-offset.offset)) (inv.does s fits).after_fits));
      serves = serves_failed (serves_then c.loop-offset.invariant.serves c.in-Err.ensures.serves);
      asks =
          scan_stops c.in-Err.stop c.args.number c.loop-offset.offset c.args.count _ _ _ _ (has_group c.requires.going) c.loop-offset-test.true
          (scan_more tt _ c.args.number c.loop-offset.offset _ _ _ _ _ _ c.loop-offset.invariant.asks c.in-Err.ensures.asks);
      performs = λ s fits.
          let split = reads_split c.args.number c.loop-offset.offset c.args.count c.loop-offset-test.true in
          performs_as split.1 (performs_stopped split.0 (store_then inv.asks.rules_are (inv.performs s fits) (c.in-Err.ensures.performs (with_reads s c.args.session (range_with_len c.args.number c.loop-offset.offset)) (inv.does s fits).after_fits)));
    }

pub returns-in-Err-add_item : goal.returns-in-Err-add_item
returns-in-Err-add_item g c =
    let inv = c.loop-offset.invariant in
    record {
      items = search rules;
      does = λ s fits.
          does_no_memory c.in-Err-add_item.ensures.stops fits.honest (omega arith) (serves_then inv.serves c.in-Ok.ensures.serves)
          (does_then fits.honest refl (λ x p. p) (late_table inv.serves.sizes) inv.serves (inv.does s fits) (c.in-Ok.ensures.does (with_reads s c.args.session (range_with_len c.args.number c.loop-offset.offset)) (inv.does s fits).after_fits));
      serves = serves_no_memory c.in-Err-add_item.ensures.stops (serves_then c.loop-offset.invariant.serves c.in-Ok.ensures.serves);
      asks =
          scan_stops c.in-Err-add_item.stop c.args.number c.loop-offset.offset c.args.count _ _ _ _ (has_group c.requires.going) c.loop-offset-test.true
          (scan_more tt _ c.args.number c.loop-offset.offset _ _ _ _ _ _ c.loop-offset.invariant.asks
          (asks_fails {B = Unit {0}} c.in-Ok.content c.in-Err-add_item.stop _ _ _ _ _ c.in-Ok.ensures.asks));
      performs = λ s fits. performs_refused (memory_refuses c.in-Err-add_item.stop c.in-Err-add_item.ensures.stops);
    }

pub returns : goal.returns
returns g c =
    let same : c.loop-offset.offset ≡ c.args.count = search rules in
    let old = g.S.Site.state c.args.site.now in
    record {
      items = λ s fits. c.loop-offset.invariant.items s fits ∙ ap (λ (k : ℕ). items_seen s c.args.session (range_with_len c.args.number k)) same;
      does = λ s fits.
          does_answered (subst (λ (k : ℕ). CommandEffect {T = Unit {0}} (Ok tt) c.args.self.now c.loop-offset.self old (g.S.Site.state c.loop-offset.site) s (with_reads s c.args.session (range_with_len c.args.number k)) (LeavesTable (sizes_of c.args.self.now.store) s.table s.commits old.told) 0) same (c.loop-offset.invariant.does s fits));
      serves = serves_answered c.loop-offset.invariant.serves;
      asks =
          asks_same _ _ _ _ _ _ _ (ap (λ (k : ℕ). map read_touch (range_with_len c.args.number k)) (sym same))
          (asks_ok tt _ _ _ _ _ _ c.loop-offset.invariant.asks);
      performs = λ s fits. performs_as (ap (λ (k : ℕ). flat_map reads (range_with_len c.args.number k)) (sym same)) (performs_answered (c.loop-offset.invariant.performs s fits));
    }
