use Rattle.redo_undo.proofs.Names.{append-nil, Bool, sym, subst, ◌∙◌, arith, refl, ◌≡◌, ap, true≢false, false, ◌+◌, if◌then◌else◌, KeepsUnits, master_shape, kept_by, used_by, LogList, stages_as, cache_of, rules, current, flush, ends_by_pages, pages_skip, ready_next, forced_tail, leaves_table, touched_holds, RepresentsIn, Represents, rules_of, staged_by, ok_as, Geometry, Disk, ok_both, forces}
use Rattle.page_store.specs.Flushing.{flushed_contents}
use Rattle.redo_undo.proofs.Mirroring.{numbers_left, logged_now, flush_performs, used_where}
use Rattle.redo_undo.proofs.Redoings.{never_forced}
use Rattle.std.proofs.lemmas.Grind.{common_steps}
use Rattle.redo_undo.proofs.checkpointing.flush.Goals as goal

pub returns : goal.returns
returns g c =
    let site = g.S.Site.state c.args.site.now in
    let new = g.S.Site.state c.flush_all.new.site in
    let log = c.args.log.now in
    let pages = c.args.pages.now in
    let sealing : Bool = forces log (flushed_contents pages) in
    let tail = forced_tail log (flushed_contents pages) in
    record {
      holds = λ newest records history h.
          let list : LogList = record { first = kept_by newest; blocks = h.log_holds.blocks; tail = h.log_holds.tail } in
          ok_both c.flush_all.result _ _ (Represents c.flush_all.new.log c.flush_all.new.self new newest records history)
          (λ stands end. subst (λ (x : Geometry). RepresentsIn x c.flush_all.new.log c.flush_all.new.self new newest records history) (sym c.flush_all.ensures.works.geometry)
          (touched_holds log pages site newest records history h c.flush_all.new.log c.flush_all.new.self new (c.flush_all.ensures.works.forces.geometry ∙ c.requires.going.sizes)
          c.flush_all.ensures.works.forces.kept stands.current (stands.ahead h.log_holds.ahead) end (stands.sealed h.log_holds.ahead) (stands.rings newest h.log_holds.rings) c.requires.going.log_going.high sealing (forced_tail log (flushed_contents pages)) stands.ready stands.leaves))
          (c.flush_all.ensures.stands list h.log_holds.ready) c.flush_all.ensures.works.forces.end;
      keeps = λ newest records history h.
          let ready = h.log_holds.ready in
          let list : LogList = record { first = kept_by newest; blocks = h.log_holds.blocks; tail = h.log_holds.tail } in
          record {
            ends = ends_by_pages (c.flush_all.ensures.keeps list ready) (λ quiet. leaves_table log pages site newest records history h c.requires.going.pages_going.own sealing tail new
                ((c.flush_all.ensures.keeps list ready).any_moment quiet) ((c.flush_all.ensures.keeps list ready).ahead_moment quiet h.log_holds.ahead) ((c.flush_all.ensures.keeps list ready).rings_moment newest quiet h.log_holds.rings));
            numbers = λ quiet. pages_skip c.flush_all.result pages.flash.geometry (current pages site.image) log c.flush_all.new.log list sealing site new (ready_next pages log list site ready) tail ((c.flush_all.ensures.keeps list ready).any_moment quiet) c.flush_all.ensures.works.forces.end (ok_as c.flush_all.result _ _ (λ stands. stands.device_calls quiet) (c.flush_all.ensures.stands list ready));
            masters = λ none. ok_as c.flush_all.result _ (KeepsUnits master_shape site.image new.image) (λ stands. stands.leaves.masters) (c.flush_all.ensures.stands list ready);
          };
      asks =
          record {
            machine = c.flush_all.ensures.flushes.machine;
            reads = record { flash = omega (arith, c.flush_all.ensures.flushes.asked); disk = omega (arith, c.flush_all.ensures.others Disk (λ same. cc)) };
            stages = stages_as (sym (append-nil (staged_by (rules c.args.pages.now) flush (cache_of c.args.pages.now)))) refl c.flush_all.ensures.stages;
            rules_are = (λ i. rules_of (c.flush_all.ensures.works.size i) (c.flush_all.ensures.works.geometry i).groups);
          };
      performs = λ newest records history h.
          let list : LogList = record { first = kept_by newest; blocks = h.log_holds.blocks; tail = h.log_holds.tail } in
          let stands = c.flush_all.ensures.stands list h.log_holds.ready in
          let never : sealing ≡ false = never_forced log (flushed_contents pages) c.requires.sealed in
          flush_performs log c.flush_all.new.log pages c.flush_all.new.self site new c.requires.going.pages_going.own (logged_now log pages.pool.frames c.requires.sealed h.log_holds.ahead.pool) (record { high = c.requires.going.log_going.high; each = h.below })
          (numbers_left c.requires.going.log_going c.requires.going.pages_going) c.flush_all.result (λ says. true≢false (sym (c.flush_all.ensures.flushes.worn_log says).0 ∙ never)) c.flush_all.ensures.flushes.overflows c.flush_all.ensures.works.stops
          (ok_as c.flush_all.result _ _ (λ next. next ∙ ap (λ (b : Bool). if b then log.ring.hi + 1 else log.ring.hi) never) c.flush_all.ensures.works.forces.next)
          (ok_as c.flush_all.result _ _ (λ s. s.ready.records.tail.end ∙ used_where sealing list ∙ ap (λ (b : Bool). if b then 2 else used_by list.tail) never ∙ sym h.log_holds.ready.records.tail.end) stands)
          c.flush_all.ensures.flushes.machine (ok_as c.flush_all.result _ _ (λ s. s.current.each) stands) c.flush_all.ensures.works.geometry (numbers_left c.flush_all.ensures.works.log_going c.flush_all.ensures.works.going);
      clean = search rules;
      sealed = grind (arith, common_steps);
      works = grind (arith, common_steps);
      hi = grind (arith, common_steps);
      log_reads = c.flush_all.ensures.works.log_reads;
    }
