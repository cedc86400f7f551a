use Rattle.redo_undo.proofs.Names.{rests, settled, ◌≡◌, ◌∙◌, true, sym, ap, inr, refl, true≢false, ◌+◌, Bool, false, nat_lt, Ok, if◌then◌else◌, ring_kept, Masters, KeepsUnits, master_shape, kept_by, LogList, changes_if, has_tail, log_fits, append_leaves, current_same, nothing_lost, forced_holds, some_now, ok_five, quiet_stops, seals_only, log_skips, log_calls, ready_next, same_at_most, skips_nothing, log_at_end, Represents, no_error, ok_as, ok_both}
use Rattle.redo_undo.proofs.Saved.{none_in_tail}
use Rattle.redo_undo.proofs.Mirroring.{force_performs, numbers_left}
use Rattle.redo_undo.proofs.forcing.force.Goals as goal

pub returns-then-tail_empty-clause-holds : goal.returns-then-tail_empty-clause-holds
returns-then-tail_empty-clause-holds g c pages newest records history sizes h =
    let two : c.args.log.now.used ≡ 2 = c.tail_empty.ensures.0 c.if-tail_empty.true in
    rests c.args.log.now pages (g.S.Site.state c.args.site.now) newest records history h (none_in_tail h.log_holds.tail (sym h.log_holds.ready.records.tail.end ∙ two))

pub returns-clause-holds : goal.returns-clause-holds
returns-clause-holds g c pages newest records history sizes h =
    let site = g.S.Site.state c.args.site.now in
    let new = g.S.Site.state c.force.new.site in
    let log = c.args.log.now in
    let ready = h.log_holds.ready in
    let list : LogList = record { first = kept_by newest; blocks = h.log_holds.blocks; tail = h.log_holds.tail } in
    let finds = ready.blocks in
    let changes = c.force.ensures.seals.changes ready.blocks.honest in
    let some : has_tail log ≡ true = some_now log c.requires.going.low (λ two. true≢false (sym (c.tail_empty.ensures.1 two) ∙ c.if-tail_empty.false)) in
    ok_five c.force.result _ _ _ _ _ (Represents c.force.new.self pages new newest records (settled (history.tables history.commits) history.commits))
    (λ holds finds' reaches next empty.
    forced_holds log pages site newest records history h sizes c.force.new.self new some c.requires.going.high
    (record { next = next; empty = empty; kept = c.force.ensures.seals.kept; geometry = c.force.ensures.seals.geometry; holds = holds; finds = finds'; reaches = reaches; changes = changes; preserves = c.force.ensures.seals.preserves }))
    (c.force.ensures.holds list finds ready.records) (c.force.ensures.seals.finds finds) (c.force.ensures.seals.reaches list finds ready.records) c.force.ensures.seals.next c.force.ensures.empty

pub returns-then-tail_empty-clause-keeps : goal.returns-then-tail_empty-clause-keeps
returns-then-tail_empty-clause-keeps g c pages newest records history h = record {
  any_moment = λ going quiet. nothing_lost c.args.log.now pages (g.S.Site.state c.args.site.now) newest records history going.sizes h quiet;
  numbers = λ going quiet. skips_nothing _ c.args.log.now.geometry c.args.log.now (g.S.Site.state c.args.site.now) 0 h.log_holds.ready.blocks.hi quiet;
  quiet = λ quiet. tt;
  worn_log = λ is. cc;
  masters = record { units = refl; form = λ form. form };
}

pub returns-clause-keeps : goal.returns-clause-keeps
returns-clause-keeps g c pages newest records history h =
    let site = g.S.Site.state c.args.site.now in
    let new = g.S.Site.state c.force.new.site in
    let log = c.args.log.now in
    let ready = h.log_holds.ready in
    let list : LogList = record { first = kept_by newest; blocks = h.log_holds.blocks; tail = h.log_holds.tail } in
    let some : has_tail log ≡ true = some_now log c.requires.going.low (λ two. true≢false (sym (c.tail_empty.ensures.1 two) ∙ c.if-tail_empty.false)) in
    record {
      any_moment = λ going quiet. append_leaves log pages site newest records history h going.sizes new (has_tail log) quiet
          (c.force.ensures.seals.changes ready.blocks.honest) (c.force.ensures.seals.any_moment list (log_fits log site quiet ready.blocks) ready.records)
          (c.force.ensures.seals.front list (log_fits log site quiet ready.blocks) ready.records quiet) going.pages_going.own (λ tail. tail);
      numbers = λ going quiet. log_skips c.force.result log.geometry log c.force.new.self list (has_tail log) site new 0 (ready_next pages log list site ready) (λ tail. tail)
          (c.force.ensures.seals.any_moment list (log_fits log site quiet ready.blocks) ready.records) (c.force.ensures.seals.front list (log_fits log site quiet ready.blocks) ready.records quiet)
          (ok_both c.force.result _ _ _ (λ next empty. same_at_most log c.force.new.self some next empty) c.force.ensures.seals.next c.force.ensures.empty)
          (log_calls c.force.result log.geometry log.ring.hi c.force.new.self.ring.hi list (has_tail log) site new quiet (c.force.ensures.seals.changes ready.blocks.honest) (c.force.ensures.seals.reaches list ready.blocks ready.records) c.force.ensures.seals.next (c.force.ensures.seals.device_calls ready.blocks.honest));
      quiet = λ quiet. quiet_stops c.force.result new site quiet (λ is. ap g.S.Site.state (c.force.ensures.unchanged (inr (c.force.ensures.seals.worn.0 is).1))) c.force.ensures.seals.stops;
      worn_log = λ is. (let worn = (c.force.ensures.seals.worn.0 is).1 in log_at_end log site new ready.blocks (ap g.S.Site.state (c.force.ensures.unchanged (inr worn))) worn);
      masters = ok_as c.force.result _ (KeepsUnits master_shape site.image new.image)
          (λ reaches. ring_kept log.geometry Masters (changes_if (has_tail log) list) site.image new.image (seals_only (has_tail log) list) reaches) (c.force.ensures.seals.reaches list ready.blocks ready.records);
    }

-- What it makes of the machine.

pub returns-then-tail_empty-clause-performs : goal.returns-then-tail_empty-clause-performs
returns-then-tail_empty-clause-performs g c pages going honest below =
    let log = c.args.log.now in
    let site = g.S.Site.state c.args.site.now in
    let two : log.used ≡ 2 = c.tail_empty.ensures.0 c.if-tail_empty.true in
    let none : has_tail log ≡ false = ap (nat_lt 2) two in
    force_performs log log pages site site (record { high = c.requires.going.high; each = below }) (Ok tt) (record { worn_log = λ says. absurd (no_error says); stops = tt }) (ap (λ (b : Bool). if b then log.ring.hi + 1 else log.ring.hi) (sym none)) two c.requires.going.low (λ number. refl)
    (numbers_left c.requires.going going.pages_going)

pub returns-clause-performs : goal.returns-clause-performs
returns-clause-performs g c pages going honest below =
    let log = c.args.log.now in
    let site = g.S.Site.state c.args.site.now in
    let new = g.S.Site.state c.force.new.site in
    force_performs log c.force.new.self pages site new (record { high = c.requires.going.high; each = below }) c.force.result (record { worn_log = c.force.ensures.seals.worn.0; stops = c.force.ensures.seals.stops }) c.force.ensures.seals.next c.force.ensures.empty c.requires.going.low
    (current_same pages site new (c.force.ensures.seals.changes honest)) (numbers_left c.force.ensures.seals.going going.pages_going)
