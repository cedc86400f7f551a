use Rattle.page_store.proofs.Names.{◌≡◌, ◌≢◌, ◌<◌, ◌++◌, ℕ, List, length, length-append, map, arith, ap, subst, sym, ◌∙◌, refl, length-map, AllByRecursion, Ok, All, AllPairs, IsSome, Pool, IsPool, frame_of, Frame, chance_marks, pushed_queue, AreLogged, pool_page, cache_of, rules_for, Pushes, Stands, standing, push_changes, saved_next, flushed_first, cleared_all, Gives, room_for_pages, IsPage, AreTold, PageStore, Cache, chance_frame, Placed, Known, Geometry, IsLogged, end_forced, forces}
use Rattle.page_store.proofs.Saving.{pages_there, pages_exist, pages_apart, distinct_chosen, some_chosen}
use Rattle.page_store.proofs.Choosing.{few_chosen, room_some}
use Rattle.page_store.proofs.Touching.{pool_going}
use Rattle.page_store.proofs.Clearing.{all_contents}
use Rattle.page_store.proofs.Flushes.{is_saving, saved_fits, saved_current, machine_saved, pages_cleared}
use Rattle.page_store.proofs.Changing.{known_pages}
use Rattle.page_store.proofs.Calling.{pushes_as, pushes_with, keeps_as, stands_as, keeps_given, stands_given}
use Rattle.page_store.proofs.StagingLaws.{stages_between}
use Rattle.page_store.proofs.store.PageStore.push_and_clear.Goals as goal

pub push-requires-clause-some : goal.push-requires-clause-some
push-requires-clause-some g c =
    let some = some_chosen (room_for_pages (rules_for c.args.self.now) c.args.self.now.flash.directory) c.args.self.now.pool.frames (room_some (rules_for c.args.self.now) c.args.self.now.flash.directory) c.requires.some in
    omega (arith, some, ap length c.requires.pages, length-map (saved_next c.args.self.now) (λ (f : Frame). f.page))

pub push-requires-clause-few : goal.push-requires-clause-few
push-requires-clause-few g c =
    let store = c.args.self.now in
    let room : ℕ = room_for_pages (rules_for store) store.flash.directory in
    let least = room_some (rules_for store) store.flash.directory in
    let few = few_chosen room store.pool.frames in
    let chances : List Placed = chance_marks store.flash in
    let count = ap length c.requires.pages in
    omega (arith, few, least, count, length-append (map (λ (f : Placed). f.1.page) chances) c.args.pages.now, length-map chances (λ (f : Placed). f.1.page), length-map (saved_next store) (λ (f : Frame). f.page))

pub push-requires-clause-exist : goal.push-requires-clause-exist
push-requires-clause-exist g c = subst (All (λ (page : ℕ). page < c.args.self.now.flash.geometry.pages)) (sym c.requires.pages)
    (pages_exist (room_for_pages (rules_for c.args.self.now) c.args.self.now.flash.directory) c.args.self.now.pool.frames c.requires.going.pages_going.own.pool.distinct c.args.self.now.flash.geometry.pages c.requires.going.pages_going.own.pages)

pub push-requires-clause-apart : goal.push-requires-clause-apart
push-requires-clause-apart g c = subst (AllPairs (λ (a b : ℕ). a ≢ b)) (sym c.requires.pages) (pages_apart (saved_next c.args.self.now) (distinct_chosen (room_for_pages (rules_for c.args.self.now) c.args.self.now.flash.directory) c.args.self.now.pool.frames c.requires.going.pages_going.own.pool.distinct))

pub clear_all-requires-clause-there : goal.clear_all-requires-clause-there
clear_all-requires-clause-there g c =
    let frames = c.args.self.now.pool.frames in
    subst (λ (p : Pool). All (λ (page : ℕ). IsSome (frame_of p.frames page)) c.args.pages.now) (sym c.push.ensures.pool)
    (subst (All (λ (page : ℕ). IsSome (frame_of frames page))) (sym c.requires.pages) (pages_there (room_for_pages (rules_for c.args.self.now) c.args.self.now.flash.directory) frames c.requires.going.pages_going.own.pool.distinct))

pub returns-in-Err : goal.returns-in-Err
returns-in-Err g c =
    let log = c.args.log.now in
    let image = (g.S.Site.state c.args.site.now).image in
    let facts = is_saving c.args.self.now c.args.pages.now c.args.contents.now c.requires.going.pages_going.own c.requires.pages c.requires.contents in
    let first = ap (forces log) facts.chosen_are.first in
    record {
      keeps = λ list ready. keeps_as first (facts.changes log list image) (keeps_given (facts.own log image) (c.in-Err.ensures.keeps list ready));
      stands = λ list ready. tt;
      pushes = pushes_as first c.in-Err.ensures.pushes;
      stages = c.in-Err.ensures.stages;
      saves = record {
        machine = tt;
        frames = tt;
        directory = tt;
        gives = λ list ready. tt;
        reads = c.push.ensures.reads;
        worn_log = λ says. (let both = c.in-Err.ensures.worn.worn_log says in (sym first ∙ both.0, both.1));
        worn_flash = λ says. (c.in-Err.ensures.worn.worn_flash says).1;
        worn_at = c.in-Err.ensures.worn_at;
        never_past = λ past. tt;
      };
    }

pub returns-in-Ok : goal.returns-in-Ok
returns-in-Ok g c =
    let store = c.args.self.now in
    let mid = c.push.new.self in
    let log = c.args.log.now in
    let log' = c.push.new.log in
    let pages = c.args.pages.now in
    let contents = c.args.contents.now in
    let frames = store.pool.frames in
    let old = g.S.Site.state c.args.site.now in
    let new = g.S.Site.state c.push.new.site in
    let facts = is_saving store pages contents c.requires.going.pages_going.own c.requires.pages c.requires.contents in
    let own = facts.own log old.image in
    let forced = ap (forces log) facts.chosen_are.first in
    let push = c.in-Ok.ensures.pushes in
    let framed = c.clear_all.new.self.pool.framed in
    let same_frames = ap (λ (p : Pool). p.frames) c.push.ensures.pool in
    let pool : Pool = record mid.pool { frames = cleared_all pages mid.pool.frames; framed = framed } in
    let saved : PageStore = record mid { pool = pool } in
    let cleared : c.clear_all.new.self ≡ saved = c.clear_all.ensures.cleared in
    let exist = subst (λ (h : Geometry). AllByRecursion (IsPage h.pages) frames) (sym push.works.geometry) c.requires.going.pages_going.own.pages in
    let exist_now = subst (λ (p : Pool). AllByRecursion (IsPage mid.flash.geometry.pages) p.frames) (sym c.push.ensures.pool) exist in
    let logged = λ (all : AreLogged (end_forced log) frames). all_contents (λ (content : List ℕ). IsLogged (end_forced log') content) pages mid.pool.frames
    (push.logged all) in
    let queue = λ (l : List Known). pushed_queue store.flash (map chance_frame (chance_marks store.flash) ++ l) in
    let directory = c.in-Ok.ensures.directory ∙ ap queue facts.known in
    record {
      keeps = λ list ready. keeps_as forced (facts.changes log list old.image) (keeps_given own (c.in-Ok.ensures.keeps list ready));
      stands = λ list ready.
          let stands = c.in-Ok.ensures.stands list ready in
          let after = stands.ready own.clean own.sound facts.chosen_are.are_changed in
          subst (λ (s : PageStore). Stands log log' store s old new list (forces log (flushed_first store)) (push_changes (standing log list store old.image) (saved_next store))) (sym cleared)
          (stands_as {pages' = saved} forced (facts.changes log list old.image)
          (stands_given own push.works.geometry
          (record { pages = saved_fits c.frames_of_pages.ensures.cleared store mid pages contents old new same_frames push.works.geometry stands.gives facts.chosen_are.each framed after.pages; blocks = after.blocks; records = after.records })
          (saved_current c.frames_of_pages.ensures.cleared store mid pages contents old new same_frames push.works.geometry stands.gives facts.chosen_are.each framed facts.chosen_are.there) logged stands));
      pushes = pushes_as forced (subst (λ (s : PageStore). Pushes (Ok tt) log log' store s old new (forces log contents)) (sym cleared)
          (pushes_with push refl refl (pool_going mid pool new refl (subst (λ (s : PageStore). IsPool s.pool) cleared c.clear_all.ensures.pool)
          (pages_cleared mid.flash.geometry.pages pages mid.pool.frames exist_now) (subst AreTold cleared (c.clear_all.ensures.told push.works.going.own.told)) push.works.going)
          push.works.geometry push.works.size push.ended logged));
      stages = stages_between refl (ap (λ (s : PageStore). s.flash) cleared) c.in-Ok.ensures.stages;
      saves = record {
        machine = ap cache_of cleared
            ∙ ap (λ (p : Pool). let k : Cache = record { pool = map pool_page (cleared_all pages p.frames); queue = c.push.new.self.flash.directory } in k)
            c.push.ensures.pool
            ∙ ap (λ (l : List ℕ). let k : Cache = record { pool = map pool_page (cleared_all l frames); queue = c.push.new.self.flash.directory } in k)
            c.requires.pages
            ∙ machine_saved store c.push.new.self.flash.directory (directory ∙ ap queue (sym (known_pages (saved_next store))));
        frames = ap (λ (s : PageStore). s.pool.frames) cleared ∙ ap (λ (p : Pool). cleared_all pages p.frames) c.push.ensures.pool ∙ ap (λ (l : List ℕ). cleared_all l frames) c.requires.pages;
        directory = ap (λ (s : PageStore). s.flash.directory) cleared ∙ directory;
        gives = λ list ready.
            subst (λ (l : List ℕ). Gives store.flash.geometry l (flushed_first store) old.image new.image) c.requires.pages
            (subst (λ (l : List (List ℕ)). Gives store.flash.geometry pages l old.image new.image) facts.chosen_are.first
            (c.in-Ok.ensures.stands list ready).gives);
        reads = c.push.ensures.reads;
        worn_log = λ says. absurd cc;
        worn_flash = λ says. absurd cc;
        worn_at = λ says. absurd cc;
        never_past = c.in-Ok.ensures.worn.never_past refl;
      };
    }
