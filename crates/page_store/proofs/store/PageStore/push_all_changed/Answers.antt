use Rattle.page_store.proofs.Names.{rules, ℕ, [], ◌≡◌, Bool, ◌++◌, true, false, refl, sym, ap, subst, ◌∙◌, arith, ◌≤◌, map, or-false, or_left, or_right, and_left, and_parts, nat_tests, nat_lt, Frame, LogList, sealed_if, has_tail, next_group, cache_of, rules_for, standing, push_changes, flush_changes, after_push, pushes_changes, cleared_all, saved_next, flushed_first, flushed_contents, changed_frames, AreReady, room_for_pages, PageStore, changed_next, changed_count, Rules, rules_of, Cache, push_changed, flushed, wants_flush, calls_nothing, no_error, forces, is_unsealed, end_now}
use Rattle.std.specs.Prelude.{◌||◌}
use Rattle.std.proofs.lemmas.Bool.{true≢false}
use Rattle.page_store.proofs.Choosing.{first_changed}
use Rattle.page_store.proofs.Left.{some_left, none_left, front_pages, back_pages, all_changed}
use Rattle.page_store.proofs.Unsealed.{next_round, nothing_forced, forced_by_first}
use Rattle.page_store.proofs.Numbers.{flushed_next, flushed_more}
use Rattle.page_store.proofs.Rounds.{kept_block, no_tail, risen, sealed_again}
use Rattle.page_store.proofs.Appending.{has_pushed}
use Rattle.page_store.proofs.Changing.{HasMade, gives_versions, standing_after, none_to_come, one_to_come}
use Rattle.page_store.proofs.Calling.{pushes_as, pushes_still, pushes_then, pushes_failed, keeps_as, keeps_still, keeps_nothing, keeps_then, keeps_more, stands_as, stands_still, stands_then}
use Rattle.page_store.proofs.StagingLaws.{stages_none, flushing_more, flushing_stopped, flushing_done}
use Rattle.page_store.proofs.store.PageStore.push_all_changed.Given.{Over}
use Rattle.page_store.proofs.store.PageStore.push_all_changed.Goals.{After-room_for_pages-room}
use Rattle.page_store.proofs.store.PageStore.push_all_changed.Goals as goal

pub loop-rest-init : goal.loop-rest-init
loop-rest-init g c =
    let site = g.S.Site.state c.args.site.now in
    let store = c.args.self.now in
    let log = c.args.log.now in
    let sizes = c.requires.going.sizes in
    let none : nat_lt log.ring.hi log.ring.hi ≡ false = grind (arith, nat_tests) in
    record {
      going = c.requires.going;
      pushes = pushes_still _ calls_nothing tt (λ says. no_error says) (λ says. no_error says) none c.requires.going c.requires.going.pages_going refl refl refl (λ all. all);
      so_far = λ list ready. record {
        made = [];
        has = subst (λ (b : Bool). HasMade (flush_changes log list store site.image) [] (standing log (sealed_if b list) store site.image) (changed_count (cache_of store).pool)) (sym none)
            (record { pushes = changed_count (cache_of store).pool; enough = omega arith; split = refl });
        keeps = keeps_nothing sizes ready;
        stands = stands_still sizes refl none refl ready ready (record { each = λ page exists. refl }) (λ all. all);
      };
      forced = sym (ap (λ (t : Bool). t || forces log (flushed_contents store)) none);
      untouched = λ wants past. refl;
      machine = refl;
      reads = omega arith;
      asked = omega arith;
      stages = record { staged = []; split = refl; stages = stages_none refl (omega arith) refl };
      pages = c.as_slice-rest.ensures.value ∙ c.in_ok-pages.ensures.pages ∙ all_changed store.pool.frames c.len.result c.len.ensures.len;
    }

pub returns-in_err-pages-clause-keeps : goal.returns-in_err-pages-clause-keeps
returns-in_err-pages-clause-keeps g c list ready = keeps_still c.requires.going.sizes ready (search rules) (search rules) (search rules)

pub returns-in_err-pages-clause-flushes : goal.returns-in_err-pages-clause-flushes
returns-in_err-pages-clause-flushes g c =
    let store = c.args.self.now in
    let some : 1 ≤ (rules_for store).groups = omega (arith, c.requires.going.pages_going.flash.limits.groups) in
    record {
      machine = search rules;
      reads = search rules;
      asked = omega (arith, flushed_next (rules_for store) (cache_of store) some);
      overflows = search rules;
      worn_log = search rules;
      worn_flash = search rules;
      never_past = search rules;
    }

-- some page is changed

module _ (g : Over) (c : After-room_for_pages-room g) where
  wants : wants_flush (cache_of c.loop-rest.self) ≡ true
  wants = some_left c.loop-rest.self.pool.frames c.loop-rest.rest.now c.loop-rest.invariant.pages (sym c.is_empty.ensures ∙ c.loop-rest-test.true)

  once : nat_lt c.args.log.now.ring.hi c.loop-rest.log.ring.hi ≡ true → forces c.loop-rest.log (flushed_first c.loop-rest.self) ≡ false
  once is =
      let log0 = c.args.log.now in
      let log = c.loop-rest.log in
      and_left (has_tail log) _ (no_tail log0.ring.hi log.ring.hi (has_tail log0) (has_tail log) c.loop-rest.invariant.pushes.works.forces.end is)

pub push_changed-requires-clause-pages : goal.push_changed-requires-clause-pages
push_changed-requires-clause-pages g c =
    let frames = c.loop-rest.self.pool.frames in
    c.split_at.ensures.front ∙ front_pages frames c.loop-rest.rest.now c.loop-rest.invariant.pages c.room_for_pages-room.result c.min.result c.min.ensures
    ∙ ap (λ (n : ℕ). map (λ (f : Frame). f.page) (first_changed n frames)) c.room_for_pages-room.ensures.room

-- a push ends it

pub returns-in-Err : goal.returns-in-Err
returns-in-Err g c =
    let old = g.S.Site.state c.args.site.now in
    let mid = g.S.Site.state c.loop-rest.site in
    let first = c.args.self.now in
    let store = c.loop-rest.self in
    let log0 = c.args.log.now in
    let log = c.loop-rest.log in
    let inv = c.loop-rest.invariant in
    let works = inv.pushes.works in
    let push = c.in-Err.ensures.saves in
    let b : Bool = nat_lt log0.ring.hi log.ring.hi in
    let s = (goal.at.returns-in-Err g c).After-room_for_pages-room in
    let some : 1 ≤ (rules_for first).groups = omega (arith, c.requires.going.pages_going.flash.limits.groups) in
    let more = flushed_more c.flushes_save_all.ensures.goes_on (rules_for first) (cache_of store) some (wants g s) in
    let saves = c.flushes_save_all.ensures.saves_a_page (rules_for store) (cache_of store) (wants g s) in
    let same = ap next_group inv.machine in
    let by_first = forced_by_first (has_tail log) (is_unsealed (end_now log)) (room_for_pages (rules_for store) store.flash.directory) store.pool.frames in
    record {
      keeps = λ list (ready : AreReady first log0 list old).
          let so_far = inv.so_far list ready in
          let now = standing log (sealed_if b list) store mid.image in
          let next = one_to_come (flush_changes log0 list first old.image) so_far.made now (changed_count (cache_of store).pool) so_far.has (wants g s) 0 (omega (arith, saves)) (after_push now) refl in
          keeps_more (pushes_changes next.pushes (after_push now)) (either b (forces log (flushed_first store)) (λ is. inv.forced ∙ or_left b _ is)
          (λ is. inv.forced ∙ or_right b _ (by_first is))) next.split
          (keeps_then c.fronts_add_up.ensures (once g s) works.geometry (works.calls.stays_quiet ready.pages.flash.honest) so_far.stands so_far.keeps (c.in-Err.ensures.keeps (sealed_if b list) so_far.stands.ready));
      stands = λ list ready. tt;
      pushes = pushes_failed (pushes_then (once g s) inv.pushes c.in-Err.ensures.pushes);
      stages = flushing_stopped c.flushes_save_all.ensures.goes_on c.in-Err.stop first store c.push_changed.new.self old mid
          (g.S.Site.state c.push_changed.new.site) _
          (λ i. rules_of (works.size i) (works.geometry i).groups) (wants g s) (omega (arith, more, same)) inv.stages c.in-Err.ensures.stages;
      flushes = record {
        machine = tt;
        reads = omega (arith, inv.reads, push.reads, saves);
        asked = omega (arith, inv.asked, push.reads, more, same);
        overflows = λ is. (let full = push.worn_flash is in let next = inv.going.pages_going.flash.next in omega (arith, more, same, full, next));
        worn_log = λ says.
            let both = push.worn_log says in
            let kept : log0.ring.hi ≡ log.ring.hi = kept_block log0.ring.hi log.ring.hi (has_tail log0) (has_tail log) works.forces.end works.forces.rises (and_parts (has_tail log) _ both.0).0 in
            (inv.forced ∙ or_right b _ (by_first both.0), kept ∙ both.1);
        worn_flash = push.worn_at;
        never_past = λ wants past. tt;
      };
    }
  where
    either : (b f : Bool) {P : Type 0} → (b ≡ true → P) → (f ≡ true → P) → (b || f) ≡ true → P
    either true f first second is = first refl
    either false f first second is = second is

-- one more push

pub loop-rest-smaller : goal.loop-rest-smaller
loop-rest-smaller g c =
    let saves = c.flushes_save_all.ensures.saves_a_page (rules_for c.loop-rest.self) (cache_of c.loop-rest.self)
    (wants g (goal.at.loop-rest-smaller g c).After-room_for_pages-room) in
    omega (arith, saves, ap (λ (k : Cache). changed_count k.pool) c.in_default.ensures.saves.machine)

pub loop-rest-preserved : goal.loop-rest-preserved
loop-rest-preserved g c =
    let old = g.S.Site.state c.args.site.now in
    let new = g.S.Site.state c.push_changed.new.site in
    let first = c.args.self.now in
    let store = c.loop-rest.self in
    let store' = c.push_changed.new.self in
    let log0 = c.args.log.now in
    let log = c.loop-rest.log in
    let log' = c.push_changed.new.log in
    let inv = c.loop-rest.invariant in
    let works = inv.pushes.works in
    let push = c.in_default.ensures.pushes in
    let save = c.in_default.ensures.saves in
    let b : Bool = nat_lt log0.ring.hi log.ring.hi in
    let forced : Bool = forces log (flushed_first store) in
    let s = (goal.at.loop-rest-preserved g c).After-room_for_pages-room in
    let some_page = wants g s in
    let saves = c.flushes_save_all.ensures.saves_a_page (rules_for store) (cache_of store) some_page in
    let count = ap (λ (k : Cache). changed_count k.pool) save.machine in
    let same : rules_for store ≡ rules_for first = λ i. rules_of (works.size i) (works.geometry i).groups in
    let now : nat_lt log0.ring.hi log'.ring.hi ≡ (b || forced) = risen log0.ring.hi log.ring.hi log'.ring.hi forced works.forces.rises push.works.forces.next in
    let pushes = pushes_then (once g s) inv.pushes push in
    record {
      going = record { pages_going = push.works.going; log_going = push.works.log_going; sizes = pushes.works.forces.geometry ∙ c.requires.going.sizes ∙ sym pushes.works.geometry; room = push.works.forces.room };
      pushes = pushes_as (sym now) pushes;
      so_far = λ list ready.
          let so_far = inv.so_far list ready in
          let list' = sealed_if b list in
          let mid = g.S.Site.state c.loop-rest.site in
          let stands = c.in_default.ensures.stands list' so_far.stands.ready in
          record {
            made = so_far.made ++ (push_changes (standing log list' store mid.image) (saved_next store));
            has = one_to_come (flush_changes log0 list first old.image) so_far.made (standing log list' store mid.image) (changed_count (cache_of store).pool) so_far.has some_page (changed_count (cache_of store').pool) (omega (arith, saves, count))
                (standing log' (sealed_if (nat_lt log0.ring.hi log'.ring.hi) list) store' new.image)
                (standing_after log log' list' (sealed_if (nat_lt log0.ring.hi log'.ring.hi) list) store store' mid.image new.image _ refl push.works.forces.next push.works.forces.end
                (sym (sealed_again list b forced (once g s) ∙ ap (λ (t : Bool). sealed_if t list) (sym now))) push.works.geometry
                (has_pushed log list' store store' mid new so_far.stands.ready stands.ready.pages.flash push.works.geometry inv.going.pages_going.flash.next inv.going.pages_going.flash.limits inv.going.pages_going.flash.few (saved_next store) stands.reaches) save.directory save.frames
                (gives_versions store.flash.geometry (saved_next store) mid.image new.image (save.gives list' so_far.stands.ready)));
            keeps = keeps_as (sym now) refl (keeps_then c.fronts_add_up.ensures (once g s) works.geometry (works.calls.stays_quiet ready.pages.flash.honest) so_far.stands so_far.keeps (c.in_default.ensures.keeps list' so_far.stands.ready));
            stands = stands_as (sym now) refl (stands_then c.changes_add_up.ensures (once g s) works.geometry (works.calls.stays_quiet ready.pages.flash.honest) so_far.stands stands);
          };
      forced = inv.forced
          ∙ next_round is_unsealed (room_for_pages (rules_for store) store.flash.directory) store.pool.frames inv.going.pages_going.own.pool.distinct b (has_tail log) (has_tail log') log.ring.hi log'.ring.hi push.works.forces.next push.works.forces.end
          ∙ (λ i. sym now i || forces log' (map (λ (f : Frame). f.content) (changed_frames (sym save.frames i))));
      untouched = λ some past. absurd (save.never_past (ap (λ (s : PageStore). s.flash.ring.hi) (inv.untouched some past) ∙ past));
      machine = inv.machine ∙ (c.flushes_save_all.ensures.goes_on (rules_for first) (cache_of store) some_page).0
          ∙ ap (flushed (rules_for first)) (ap (λ (r : Rules). push_changed r (cache_of store)) (sym same) ∙ sym save.machine);
      reads = omega (arith, inv.reads, save.reads, saves, count);
      asked = (let one = ap next_group save.machine in let groups : 1 ≤ (rules_for store).groups = omega (arith, inv.going.pages_going.flash.limits.groups) in let next = changed_next (rules_for store) (cache_of store) groups in omega (arith, inv.asked, save.reads, one, next));
      stages = (let groups : 1 ≤ (rules_for store).groups = omega (arith, inv.going.pages_going.flash.limits.groups) in
          flushing_more c.flushes_save_all.ensures.goes_on first store store' old (g.S.Site.state c.loop-rest.site) new same some_page save.machine (sym (ap next_group save.machine ∙ changed_next (rules_for store) (cache_of store) groups)) inv.stages c.in_default.ensures.stages);
      pages = c.split_at.ensures.back ∙ back_pages store.pool.frames c.loop-rest.rest.now inv.pages c.room_for_pages-room.result c.min.result c.min.ensures store'.pool.frames inv.going.pages_going.own.pool.distinct
          (save.frames ∙ ap (λ (n : ℕ). cleared_all (map (λ (f : Frame). f.page) (first_changed n store.pool.frames)) store.pool.frames) (sym c.room_for_pages-room.ensures.room));
    }

-- no page is changed

module _ (b wanted rest : Bool) (is : wanted ≡ (b || rest)) (none : rest ≡ false) where
  all_forced : b ≡ wanted
  all_forced = sym (or-false b) ∙ ap (λ (t : Bool). b || t) (sym none) ∙ sym is

pub returns : goal.returns
returns g c =
    let old = g.S.Site.state c.args.site.now in
    let first = c.args.self.now in
    let store = c.loop-rest.self in
    let inv = c.loop-rest.invariant in
    let some : 1 ≤ (rules_for first).groups = omega (arith, c.requires.going.pages_going.flash.limits.groups) in
    let none : wants_flush (cache_of store) ≡ false = none_left store.pool.frames c.loop-rest.rest.now inv.pages (sym c.is_empty.ensures ∙ c.loop-rest-test.false) in
    let forced = all_forced _ _ _ inv.forced (nothing_forced (has_tail c.loop-rest.log) (is_unsealed (end_now c.loop-rest.log)) store.pool.frames none) in
    let made = λ (list : LogList) (ready : AreReady first c.args.log.now list old). none_to_come _ (inv.so_far list ready).made _
    (changed_count (cache_of store).pool) (inv.so_far list ready).has none in
    let more = flushed_next (rules_for first) (cache_of store) some in
    let machine = sym (inv.machine ∙ (c.flushes_save_all.ensures.ends (rules_for first) (cache_of store) none).0) in
    record {
      keeps = λ list ready. keeps_as forced (made list ready) (inv.so_far list ready).keeps;
      stands = λ list ready. stands_as forced (made list ready) (inv.so_far list ready).stands;
      pushes = pushes_as forced inv.pushes;
      stages = flushing_done c.flushes_save_all.ensures.ends first store old (g.S.Site.state c.loop-rest.site) _ none (ap next_group machine) inv.stages;
      flushes = record {
        machine = machine;
        reads = omega (arith, inv.reads);
        asked = omega (arith, inv.asked, more, ap next_group inv.machine);
        overflows = search rules;
        worn_log = search rules;
        worn_flash = search rules;
        never_past = λ some past. true≢false (sym some ∙ sym (ap (λ (s : PageStore). wants_flush (cache_of s)) (inv.untouched some past)) ∙ none);
      };
    }

-- what is written

pub returns-in_err-pages-clause-stages : goal.returns-in_err-pages-clause-stages
returns-in_err-pages-clause-stages g c =
    let store = c.args.self.now in
    let some : 1 ≤ (rules_for store).groups = omega (arith, c.requires.going.pages_going.flash.limits.groups) in
    stages_none (search rules) (flushed_next (rules_for store) (cache_of store) some) refl

pub push_changed-requires-clause-some : goal.push_changed-requires-clause-some
push_changed-requires-clause-some g c = wants g (goal.at.push_changed-requires-clause-some g c).After-room_for_pages-room
