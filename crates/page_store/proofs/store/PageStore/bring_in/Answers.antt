use Rattle.page_store.proofs.Names.{rules, List, [], ◌≤◌, false, length, append-nil, refl, ℕ, sym, subst, ap, ◌∙◌, arith, if◌then◌else◌, OnOk, Reaches, AreRingsSoundUnder, LogList, sealed_if, AreSealed, pushed_for_room, cache_of, next_group, is_full, rules_for, Stands, room_changes, AreReady, LeavesPages, current, staged_by_eviction, Cache, in_front, Staged, has_frame, stays_honest, calls_then, ok_as, Image, Disk, forces}
use Rattle.page_store.proofs.Numbers.{way_next}
use Rattle.page_store.proofs.Counting.{calls_then as counts_then, calls_unchanged}
use Rattle.page_store.proofs.PushLaws.{ok_four}
use Rattle.page_store.proofs.Bringing.{snapshot_same, ready_same, current_again, ahead_in}
use Rattle.page_store.proofs.NextUnits.{next_then, next_read}
use Rattle.page_store.proofs.Calling.{forces_again, keeps_read}
use Rattle.page_store.proofs.StagingLaws.{stages_then, stages_as, stages_up}
use Rattle.page_store.proofs.store.PageStore.bring_in.Given.{Over}
use Rattle.page_store.proofs.store.PageStore.bring_in.Goals.{After-read_in}
use Rattle.page_store.proofs.store.PageStore.bring_in.Goals as goal

pub returns-in-Err : goal.returns-in-Err
returns-in-Err g c = record {
  room = c.in-Err.ensures.room;
  works = c.in-Err.ensures.pushes.works;
  ended = c.make_room.ensures.pushes.ended;
  machine = tt;
  front = tt;
  there = tt;
  flash_reads = omega (arith, c.make_room.ensures.reads);
  disk_reads = omega (arith, c.make_room.ensures.pushes.others Disk (λ same. cc));
}

stands_in : (g : Over) (c : After-read_in g) → (list : LogList) → AreReady c.args.self.now c.args.log.now list (g.S.Site.state c.args.site.now) → OnOk c.read_in.result (Stands c.args.log.now c.make_room.new.log c.args.self.now c.read_in.new.self
    (g.S.Site.state c.args.site.now) (g.S.Site.state c.read_in.new.site) list (forces c.args.log.now (pushed_for_room c.args.self.now)) (room_changes c.args.log.now list c.args.self.now (g.S.Site.state c.args.site.now).image))
stands_in g c list ready =
    let old = g.S.Site.state c.args.site.now in
    let mid = g.S.Site.state c.make_room.new.site in
    let new = g.S.Site.state c.read_in.new.site in
    let log = c.args.log.now in
    let log' = c.make_room.new.log in
    let store = c.args.self.now in
    let between = c.make_room.new.self in
    let after = c.read_in.new.self in
    let sealing = forces log (pushed_for_room store) in
    let changes = room_changes log list store old.image in
    let stands = c.in-Ok.ensures.room.stands list ready in
    let first = c.in-Ok.ensures.pushes.works in
    let read = c.read_in.ensures.reads in
    let fits = stands.ready.pages in
    let same = read.same fits.flash.honest in
    ok_four c.read_in.result _ _ _ _ (Stands log log' store after old new list sealing changes)
    (λ fits' kept put content. record {
      ready = ready_same between after log' (sealed_if sealing list) mid new fits' same stands.ready;
      leaves = subst (LeavesPages store.flash.geometry (current store old.image) sealing list old) (sym (snapshot_same mid new same)) stands.leaves;
      current = current_again store between after old.image mid.image new.image first.geometry stands.current kept;
      sealed = λ ahead. subst (AreSealed store.flash.geometry) (sym same.image) (stands.sealed ahead);
      ahead = λ ahead. ahead_in store between after log' c.args.page mid new first.geometry read.geometry (first.forces.geometry ∙ c.requires.going.sizes) stands.ready.blocks same.image c.requires.exists (stands.sealed ahead)
          (stands.ahead ahead).pool put content;
      rings = λ newest rings. subst (AreRingsSoundUnder newest store.flash.geometry) (sym same.image) (stands.rings newest rings);
      reaches = subst (λ (i : Image). Reaches store.flash.geometry changes old.image i) (sym same.image) stands.reaches;
      calls = ap length same.past ∙ stands.calls;
      device_calls = λ quiet. counts_then store.flash.geometry old mid new (stands.device_calls quiet) (calls_unchanged store.flash.geometry mid new same);
    })
    (read.fits fits) (c.read_in.ensures.current fits) c.read_in.ensures.put (c.read_in.ensures.read fits)

pub returns-in-Ok : goal.returns-in-Ok
returns-in-Ok g c =
    let store = c.args.self.now in
    let first = c.in-Ok.ensures.pushes.works in
    let read = c.read_in.ensures.reads in
    let found = ap {B = ℕ} (λ (k : Cache). if has_frame k.queue c.args.page then 1 else 0) c.in-Ok.ensures.machine in
    let missed = ap {B = ℕ} (λ (k : Cache). if has_frame k.queue c.args.page then 0 else 1) c.in-Ok.ensures.machine in
    let some : 1 ≤ (rules_for store).groups = omega (arith, c.requires.going.pages_going.flash.limits.groups) in
    let next = ap next_group c.in-Ok.ensures.machine ∙ way_next store some in
    let staged : List Staged = if is_full store then staged_by_eviction (rules_for store) (cache_of store) else [] in
    record {
      room = record {
        keeps = λ list ready.
            let there = (c.in-Ok.ensures.room.stands list ready).ready in
            keeps_read (first.calls.stays_quiet ready.blocks.honest) (read.same there.pages.flash.honest) (search rules) (search rules) (λ is. read.foreign is there.pages) (c.in-Ok.ensures.room.keeps list ready);
        stands = stands_in g (goal.at.returns-in-Ok g c).After-read_in;
        stages = stages_as (append-nil staged) refl (stages_then (λ has. omega arith) c.in-Ok.ensures.room.stages (stages_up (omega (arith, next)) c.read_in.ensures.stages));
        worn = search rules;
      };
      works = record {
        calls = calls_then first.calls read.calls;
        forces = forces_again c.read_in.result first.forces;
        going = read.going;
        log_going = search rules;
        geometry = read.geometry ∙ first.geometry;
        size = c.read_in.ensures.size ∙ first.size;
        log_reads = read.log_reads ∙ first.log_reads;
        stops = search rules;
        next = λ honest. next_then first.forces.geometry first.geometry (first.next honest)
            (next_read c.read_in.result (read.same (stays_honest (g.S.Site.state c.args.site.now) (g.S.Site.state c.make_room.new.site) first.calls.preserves honest)) read.segments read.geometry (search rules) (search rules));
      };
      ended = read.ended ∙ c.make_room.ensures.pushes.ended;
      machine = ok_as c.read_in.result _ _ (λ is. is ∙ ap (in_front c.args.page false) c.in-Ok.ensures.machine) c.read_in.ensures.machine;
      front = ok_as c.read_in.result _ _ (λ put. put.page_is) c.read_in.ensures.put;
      there = ok_as c.read_in.result _ _ (λ put. omega (arith, ap length put.frames)) c.read_in.ensures.put;
      flash_reads = omega (arith, c.make_room.ensures.reads, read.flash_reads, found);
      disk_reads = omega (arith, c.make_room.ensures.pushes.others Disk (λ same. cc), read.disk_reads, missed);
    }
