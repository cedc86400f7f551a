use Rattle.redo_undo.proofs.Names.{Bool, false, [], arith, ◌∙◌, List, ap, ℕ, sym, subst, append-nil, true≢false, OnOk, if◌then◌else◌, KeepsUnits, master_shape, kept_by, Entry, used_by, LogList, sealed_if, stages_as, pushed_by_touch, cache_of, rules, AreReady, current, touch, touch_reads, some_group, touched_next, ends_by_pages, pages_skip, ready_next, forced_tail, leaves_table, touched_holds, RepresentsIn, Represents, IsRedoing, Opening, rules_of, staged_by, ok_as, Geometry, ok_both, forces}
use Rattle.std.specs.Prelude.{◌≡◌}
use Rattle.redo_undo.proofs.Redoings.{never_forced, rings_given, rings_of, touch_leaves, touched}
use Rattle.redo_undo.proofs.Mirroring.{numbers_left, touch_performs, used_where}
use Rattle.redo_undo.proofs.Resting.{rests_touched}
use Rattle.redo_undo.proofs.UndoneNumbers.{skips_touch}
use Rattle.redo_undo.proofs.logging.touch.Given.{Over}
use Rattle.redo_undo.proofs.logging.touch.Goals.{After-touch}
use Rattle.std.proofs.lemmas.Grind.{common_steps}
use Rattle.redo_undo.proofs.logging.touch.Goals as goal

redoing_now : (g : Over) (c : After-touch g) (o : Opening) (front : List Entry) →
    IsRedoing o c.args.log.now c.args.pages.now (g.S.Site.state c.args.site.now) front →
    OnOk c.touch.result (IsRedoing o c.touch.new.log c.touch.new.self (g.S.Site.state c.touch.new.site) front)
redoing_now g c o front h =
    let log = c.args.log.now in
    let pages = c.args.pages.now in
    let site = g.S.Site.state c.args.site.now in
    let new = g.S.Site.state c.touch.new.site in
    let never = never_forced log (pushed_by_touch pages c.args.page) h.ready.records.tail.end in
    ok_as c.touch.result _ (IsRedoing o c.touch.new.log c.touch.new.self new front)
    (λ stands. touched o log pages site front h (forces log (pushed_by_touch pages c.args.page)) never new
    c.touch.new.log c.touch.new.self c.touch.ensures.works.geometry c.touch.ensures.works.forces.kept stands.ready stands.current (stands.ahead h.ahead) stands.leaves (stands.rings o.newest (rings_given o log pages site front h)))
    (c.touch.ensures.stands (record { first = kept_by o.newest; blocks = o.blocks; tail = [] }) h.ready)

pub returns : goal.returns
returns g c =
    let site = g.S.Site.state c.args.site.now in
    let new = g.S.Site.state c.touch.new.site in
    let log = c.args.log.now in
    let pages = c.args.pages.now in
    let sealing : Bool = forces log (pushed_by_touch pages c.args.page) in
    let k = pages.flash.geometry in
    let tail = forced_tail log (pushed_by_touch pages c.args.page) in
    record {
      ready = λ list h none.
          let never = never_forced log (pushed_by_touch pages c.args.page) (h.records.tail.end ∙ ap used_by none) in
          ok_as c.touch.result _ (AreReady c.touch.new.self c.touch.new.log list new)
          (λ stands. subst (λ (b : Bool). AreReady c.touch.new.self c.touch.new.log (sealed_if b list) new) never stands.ready) (c.touch.ensures.stands list h);
      holds = λ newest records history h.
          let list : LogList = record { first = kept_by newest; blocks = h.log_holds.blocks; tail = h.log_holds.tail } in
          ok_both c.touch.result _ _ (Represents c.touch.new.log c.touch.new.self new newest records history)
          (λ stands end. subst (λ (x : Geometry). RepresentsIn x c.touch.new.log c.touch.new.self new newest records history)
          (sym c.touch.ensures.works.geometry)
          (touched_holds log pages site newest records history h c.touch.new.log c.touch.new.self new (c.touch.ensures.works.forces.geometry ∙ c.requires.going.sizes) c.touch.ensures.works.forces.kept stands.current (stands.ahead h.log_holds.ahead) end
          (stands.sealed h.log_holds.ahead) (stands.rings newest h.log_holds.rings) c.requires.going.log_going.high sealing (forced_tail log (pushed_by_touch pages c.args.page)) stands.ready stands.leaves))
          (c.touch.ensures.stands list h.log_holds.ready) c.touch.ensures.works.forces.end;
      keeps = λ newest records history h.
          let ready = h.log_holds.ready in
          let list : LogList = record { first = kept_by newest; blocks = h.log_holds.blocks; tail = h.log_holds.tail } in
          record {
            ends = ends_by_pages (c.touch.ensures.keeps list ready) (λ quiet. leaves_table log pages site newest records history h c.requires.going.pages_going.own sealing tail new
                ((c.touch.ensures.keeps list ready).any_moment quiet) ((c.touch.ensures.keeps list ready).ahead_moment quiet h.log_holds.ahead) ((c.touch.ensures.keeps list ready).rings_moment newest quiet h.log_holds.rings));
            numbers = λ quiet. pages_skip c.touch.result pages.flash.geometry (current pages site.image) log c.touch.new.log list sealing site new (ready_next pages log list site ready) tail ((c.touch.ensures.keeps list ready).any_moment quiet) c.touch.ensures.works.forces.end (ok_as c.touch.result _ _ (λ stands. stands.device_calls quiet) (c.touch.ensures.stands list ready));
            masters = λ none. ok_as c.touch.result _ (KeepsUnits master_shape site.image new.image) (λ stands. stands.leaves.masters) (c.touch.ensures.stands list ready);
          };
      redoing = redoing_now g c;
      keeps_opened = λ o front h.
          let list : LogList = record { first = kept_by o.newest; blocks = o.blocks; tail = [] } in
          let never : sealing ≡ false = never_forced log (pushed_by_touch pages c.args.page) h.ready.records.tail.end in
          record {
            ends = ends_by_pages (c.touch.ensures.keeps list h.ready) (λ quiet. touch_leaves o log pages site front h sealing never new ((c.touch.ensures.keeps list h.ready).any_moment quiet)
                (rings_of o log pages site front h new ((c.touch.ensures.keeps list h.ready).rings_moment o.newest quiet (rings_given o log pages site front h))) c.requires.going.pages_going.own);
            numbers = λ quiet. skips_touch o log pages site front h sealing never new c.touch.result c.touch.new.log c.touch.new.self ((c.touch.ensures.keeps list h.ready).any_moment quiet) (redoing_now g c o front h) (ok_as c.touch.result _ _ (λ stands. stands.device_calls quiet) (c.touch.ensures.stands list h.ready));
            masters = λ none. ok_as c.touch.result _ (KeepsUnits master_shape site.image new.image) (λ stands. stands.leaves.masters) (c.touch.ensures.stands list h.ready);
          };
      at_rest = λ o front h.
          let never : sealing ≡ false = never_forced log (pushed_by_touch pages c.args.page) h.ready.records.tail.end in
          rests_touched c.touch.result c.args.page pages c.touch.new.self (some_group c.requires.going) c.requires.going.pages_going.flash.next (λ says. true≢false (sym (c.touch.ensures.worn.worn_log says).0 ∙ never)) c.touch.ensures.worn.worn_flash
          c.touch.ensures.works.stops c.touch.ensures.machine (numbers_left c.touch.ensures.works.log_going c.touch.ensures.works.going).groups;
      asks =
          let new = c.touch.new.self in
          record {
            machine = c.touch.ensures.machine;
            reads = touch_reads (rules pages) c.args.page (cache_of pages) (g.S.Site.state c.args.site.now) (g.S.Site.state c.touch.new.site) (some_group c.requires.going) c.touch.ensures.flash_reads c.touch.ensures.disk_reads;
            stages = stages_as (sym (append-nil (staged_by (rules pages) (touch c.args.page false) (cache_of pages)))) (sym (touched_next (rules pages) c.args.page false (cache_of pages) (some_group c.requires.going))) c.touch.ensures.stages;
            rules_are = (λ i. rules_of (c.touch.ensures.works.size i) (c.touch.ensures.works.geometry i).groups);
          };
      performs = λ newest records history h.
          let list : LogList = record { first = kept_by newest; blocks = h.log_holds.blocks; tail = h.log_holds.tail } in
          let stands = c.touch.ensures.stands list h.log_holds.ready in
          touch_performs log c.touch.new.log pages c.touch.new.self site new c.args.page c.requires.going.pages_going.own h.log_holds.ahead.pool (record { high = c.requires.going.log_going.high; each = h.below }) (some_group c.requires.going)
          (numbers_left c.requires.going.log_going c.requires.going.pages_going) c.requires.going.pages_going.flash.next c.touch.result
          (record { worn_log = c.touch.ensures.worn.worn_log; at_log_end = c.touch.ensures.worn.at_log_end; worn_flash = c.touch.ensures.worn.worn_flash; stops = c.touch.ensures.works.stops })
          c.touch.ensures.works.forces.next (ok_as c.touch.result _ _ (λ s. s.ready.records.tail.end ∙ used_where sealing list ∙ ap (λ (n : ℕ). if sealing then 2 else n) (sym h.log_holds.ready.records.tail.end)) stands)
          c.touch.ensures.machine (ok_as c.touch.result _ _ (λ s. s.current.each) stands) c.touch.ensures.works.geometry (numbers_left c.touch.ensures.works.log_going c.touch.ensures.works.going);
      front = search rules;
      there = search rules;
      logs_nothing = grind (arith, common_steps);
    }
