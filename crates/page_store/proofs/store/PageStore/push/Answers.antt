use Rattle.page_store.proofs.Names.{rules, refl, [], length, ◌≡◌, ◌++◌, ◌+◌, ◌*◌, ℕ, Bool, arith, sym, ap, ◌∙◌, subst, List, AllByRecursion, Ok, Frame, GivesVersions, staged_pages, pushed_groups, frames_pushed, changes_of_group, groups_on, FlashCache, Reaches, Change, IsReached, IsFrontOf, LeavesFront, LogList, sealed_if, changes_if, HasBlocks, LeavesLog, LeavesSealed, sealed_end, cache_of, rules_for, next_group, StandsGiven, given_changes, AreReady, LeavesPages, LeavesRings, AreTold, Invariant, HasQueueOn, Stages, PageStore, staged_in_push, Queue, each_weaker, leaves_weaker, in_sequence, quiet_settled, holds_now, stays_honest, no_error, ok_as, Leaves, LeavesOnly, SameBut, IsQuiet, IsSettled, snapshot_of, Geometry, Log, Flash, Disk, IsSound, ok_both, is_due, IsLogged, end_forced, forces, IsLogAtEnd}
use Rattle.std.specs.Prelude.{IsTrue}
use Rattle.page_store.proofs.Counting.{IsSilent, silent_leaves, unsynced_logged}
use Rattle.page_store.proofs.Rings.{sealing_keeps, sound_pushed, pushing_keeps, rings_front}
use Rattle.page_store.proofs.PushLaws.{version_same, group_changes_since, kept_where, masters_kept, own_sealing, force_leaves, force_sealed, between, Pushed, pushed, pushed_now, pushed_pages, push_leaves, pushed_sealed, reached_all, clean_given_same, gives_since, ok_under, ok_seven, fits_behind, log_fits, log_found, log_units_same}
use Rattle.page_store.proofs.Changing.{front_more}
use Rattle.page_store.proofs.StagingLaws.{stages_beside, stages_between, stages_then, push_leaves as push_writes, push_counted, queue_pushed}
use Rattle.page_store.proofs.NextUnits.{next_logged, next_pushed, next_then, next_with}
use Rattle.page_store.proofs.PushCalls.{PushTakes, push_takes, push_calls, four_most}
use Rattle.page_store.proofs.ToldPages.{fits_told, going_told, told_pushed}
use Rattle.page_store.proofs.store.PageStore.push.Goals as goal

pub returns-in-Err-clause-reads : goal.returns-in-Err-clause-reads
returns-in-Err-clause-reads g c = omega (arith, c.force_for.ensures.seals.reads Flash)

pub returns-in-Err-clause-pushes : goal.returns-in-Err-clause-pushes
returns-in-Err-clause-pushes g c =
    let log_reads = c.force_for.ensures.seals.reads Log in
    let next = λ (honest : IsTrue (g.S.Site.state c.args.site.now).honest). next_logged {pages = c.args.self.now} (c.in-Err.ensures.seals.next_block honest) (c.force_for.ensures.seals.changes honest) (search rules) in
    search rules

pub returns-in-Err-clause-keeps : goal.returns-in-Err-clause-keeps
returns-in-Err-clause-keeps g c list ready =
    let old = g.S.Site.state c.args.site.now in
    let mid = g.S.Site.state c.force_for.new.site in
    let store = c.args.self.now in
    let h = store.flash.geometry in
    let sealing : Bool = forces c.args.log.now c.args.contents.now in
    let first : List Change = changes_if sealing list in
    let sizes = c.requires.going.sizes in
    let changes = c.force_for.ensures.seals.changes ready.blocks.honest in
    let fits = λ (quiet : IsQuiet old). log_fits c.args.log.now old quiet ready.blocks in
    let leaves = λ (quiet : IsQuiet old). subst (λ (k : Geometry). LeavesOnly old mid (LeavesLog k sealing list old.told)) sizes (c.force_for.ensures.seals.any_moment list (fits quiet) ready.records) in
    let front = λ (quiet : IsQuiet old). subst (λ (k : Geometry). LeavesFront k first old mid) sizes (c.force_for.ensures.seals.front list (fits quiet) ready.records quiet) in
    record {
      any_moment = λ given quiet are clean. force_leaves h sealing list old mid (leaves quiet) changes quiet c.ring_kept.ensures (front quiet)
          (record { first = store.flash.directory.first; groups = ready.pages.groups; has = ready.pages.holds.has; saved = ready.pages.holds.saved }) given ready.pages.clean;
      ahead_moment = λ quiet sealed logged. force_sealed h sealing list old mid (leaves quiet) changes quiet
          (subst (λ (k : Geometry). HasBlocks k list.first list.blocks old.image) sizes ready.records.blocks) sealed;
      rings_moment = λ newest quiet rings sound. rings_front newest (c.rings_kept_under.ensures newest) h first old mid rings (sealing_keeps h old.image sealing list) (front quiet);
      front_moment = λ quiet. front_more h first (changes_of_group store.flash old.image c.args.pages.now c.args.changed.now c.args.contents.now) old mid (front quiet);
      quiet = c.in-Err.ensures.quiet_err ready.blocks.honest;
      worn_log = λ says. subst (λ (k : Geometry). IsLogAtEnd k mid.image) sizes (c.in-Err.ensures.worn_end ready.blocks says);
      worn = search rules;
      readable = search rules;
    }

pub returns-in-Err-clause-stages : goal.returns-in-Err-clause-stages
returns-in-Err-clause-stages g c = stages_beside tt (omega arith) c.force_for.ensures.seals.changes c.in-Err.ensures.calls refl

pub returns-in-Ok : goal.returns-in-Ok
returns-in-Ok g c =
    let old = g.S.Site.state c.args.site.now in
    let mid = g.S.Site.state c.force_for.new.site in
    let new = g.S.Site.state c.push_group-pushed.new.site in
    let store = c.args.self.now in
    let cache = c.push_group-pushed.new.self in
    let after = c.update_framed_pages.new.self in
    let store' : PageStore = record store { flash = cache } in
    let first_told : c.update_framed_marks.new.self ≡ record store' { pool = record store.pool { framed = c.update_framed_marks.new.self.pool.framed } } = c.update_framed_marks.ensures.kept in
    let told : after ≡ record store' { pool = record store.pool { framed = after.pool.framed } } =
    c.update_framed_pages.ensures.kept ∙ ap (λ (s : PageStore). let t : PageStore = record s { pool = record s.pool { framed = after.pool.framed } } in t) first_told in
    let flash : after.flash ≡ cache = ap (λ (s : PageStore). s.flash) told in
    let frames : after.pool.frames ≡ store.pool.frames = ap (λ (s : PageStore). s.pool.frames) told in
    let are_told : AreTold after = told_pushed c.push_group-pushed.result store cache _ c.args.pages.now c.args.changed.now c.update_framed_marks.new.self after c.requires.going.pages_going.own.told
    c.push_group-pushed.ensures.directory c.push_group-pushed.ensures.keeps.kept c.requires.plan.front
    (ap (λ (s : PageStore). s.pool.frames) first_told) (ap (λ (s : PageStore). s.pool.frames) c.update_framed_pages.ensures.kept) c.update_framed_marks.ensures.told c.update_framed_pages.ensures.told in
    let h = store.flash.geometry in
    let log = c.args.log.now in
    let log' = c.force_for.new.log in
    let pages = c.args.pages.now in
    let changed = c.args.changed.now in
    let contents = c.args.contents.now in
    let sealing : Bool = forces log contents in
    let first = λ (list : LogList). changes_if sealing list in
    let second : List Change = changes_of_group store.flash mid.image pages changed contents in
    let sizes = c.requires.going.sizes in
    let same_sizes : log'.geometry ≡ h = c.force_for.ensures.forces.geometry ∙ sizes in
    let rises = c.force_for.ensures.forces.rises in
    let b = λ (list : LogList) (ready : AreReady store log list old). between store log log' sealing list old mid ready
    (c.force_for.ensures.seals.changes ready.blocks.honest) c.force_for.ensures.calls.preserves (c.in-Ok.ensures.seals.finds ready.blocks)
    (c.in-Ok.ensures.holds list ready.blocks ready.records) in
    let has = λ (list : LogList) (ready : AreReady store log list old). (c.push_group-pushed.ensures.pushes ready.pages.groups (b list ready).fits (b list ready).holds).frames in
    let same = λ (list : LogList) (ready : AreReady store log list old). group_changes_since store.flash pages changed contents old.image mid.image
    (b list ready).flash (b list ready).disk in
    let reached = λ (list : LogList) (ready : AreReady store log list old). subst (λ (k : Geometry). Reaches k (first list) old.image mid.image) sizes
    (c.in-Ok.ensures.seals.reaches list ready.blocks ready.records) in
    let sealed_blocks = λ (list : LogList) (ready : AreReady store log list old).
    subst (λ (k : Geometry). HasBlocks k (sealed_if sealing list).first (sealed_if sealing list).blocks mid.image) same_sizes (b list ready).log_holds.blocks in
    let kept_rings = λ (list : LogList) (ready : AreReady store log list old) (sound : AllByRecursion IsSound contents). pushing_keeps store.flash mid
    ready.pages.groups pages changed contents (b list ready).fits (b list ready).holds
    (sound_pushed store.flash mid.image pages changed contents (λ page exists. subst IsSound
    (sym (version_same h old.image mid.image page (b list ready).flash (b list ready).disk)) (ready.pages.sound page exists)) sound (has list ready).exist)
    (has list ready).is_group in
    let end = λ (list : LogList) (ready : AreReady store log list old).
    let now : 512 * log'.ring.hi ≡ sealed_end h mid.image = ap (λ (n : ℕ). 512 * n) (b list ready).log_fits.hi ∙ ap (λ (k : Geometry). sealed_end k mid.image) same_sizes in now in
    let before = λ (list : LogList) (ready : AreReady store log list old).
    let now : 512 * log.ring.hi ≡ sealed_end h old.image = ap (λ (n : ℕ). 512 * n) ready.blocks.hi ∙ ap (λ (k : Geometry). sealed_end k old.image) sizes in now in
    let by_forcing : Stages {T = Unit {0}} (Ok tt) [] (next_group (cache_of store)) store store old mid = stages_beside refl (omega arith) c.force_for.ensures.seals.changes c.in-Ok.ensures.calls refl in
    record {
      keeps = λ list ready.
          let b = b list ready in
          let groups = ready.pages.groups in
          let changes = c.force_for.ensures.seals.changes ready.blocks.honest in
          let still = c.in-Ok.ensures.calls.stays_quiet ready.blocks.honest in
          let fits = λ (quiet : IsQuiet old). log_fits log old quiet ready.blocks in
          let leaves = λ (quiet : IsQuiet old). subst (λ (k : Geometry). LeavesOnly old mid (LeavesLog k sealing list old.told)) sizes (c.force_for.ensures.seals.any_moment list (fits quiet) ready.records) in
          let front = λ (quiet : IsQuiet old). subst (λ (k : Geometry). LeavesFront k (first list) old mid) sizes (c.force_for.ensures.seals.front list (fits quiet) ready.records quiet) in
          let pushing = λ (quiet : IsQuiet old). (c.push_group-pushed.ensures.pushes groups b.fits b.holds).front (still quiet) in
          let versions = λ (quiet : IsQuiet old). (c.push_group-pushed.ensures.pushes groups b.fits b.holds).versions (still quiet) b.clean in
          let untouched = (c.push_group-pushed.ensures.changes b.honest).log in
          record {
            any_moment = λ given quiet are clean.
                let forced = force_leaves h sealing list old mid (leaves quiet) changes quiet c.ring_kept.ensures (front quiet) (record { first = store.flash.directory.first; groups = groups; has = ready.pages.holds.has; saved = ready.pages.holds.saved }) given ready.pages.clean in
                in_sequence old mid new (Leaves (LeavesPages h given sealing list old)) forced
                (push_leaves store.flash groups pages changed contents old mid new b.flash b.disk b.told c.ring_kept.ensures (quiet_settled Log mid (still quiet)) (versions quiet) untouched (pushing quiet)
                (holds_now old mid (LeavesPages h given sealing list old) forced).masters given sealing list are (sealed_blocks list ready)
                ((c.push_group-pushed.ensures.pushes groups b.fits b.holds).clean_moment (still quiet) b.clean (clean_given_same store.flash pages changed contents old.image mid.image b.disk clean)));
            ahead_moment = λ quiet sealed logged.
                let at_first = before list ready in
                in_sequence old mid new (Leaves (LeavesSealed h))
                (force_sealed h sealing list old mid (leaves quiet) changes quiet (subst (λ (k : Geometry). HasBlocks k list.first list.blocks old.image) sizes ready.records.blocks) sealed)
                (leaves_weaker mid new (Pushed store.flash groups pages changed contents old mid new b.flash b.disk b.told) (LeavesSealed h)
                (pushed_sealed store.flash groups pages changed contents old mid new b.flash b.disk b.told (512 * log'.ring.hi) (end list ready) (omega (arith, at_first, rises)) c.requires.lists (c.in-Ok.ensures.sealed logged) sealed)
                (pushed store.flash groups pages changed contents old mid new b.flash b.disk b.told (quiet_settled Log mid (still quiet)) (versions quiet) untouched));
            rings_moment = λ newest quiet rings sound.
                let forced = rings_front newest (c.rings_kept_under.ensures newest) h (first list) old mid rings (sealing_keeps h old.image sealing list) (front quiet) in
                in_sequence old mid new (Leaves (LeavesRings newest h)) forced
                (rings_front newest (c.rings_kept_under.ensures newest) h _ mid new (holds_now old mid (LeavesRings newest h) forced)
                (kept_rings list ready sound) (pushing quiet));
            front_moment = λ quiet. subst (λ (l : List Change). LeavesFront h (first list ++ l) old new) (same list ready) (c.fronts_add_up.ensures h (first list) second old mid new (front quiet) (reached list ready) b.told (pushing quiet));
            quiet = λ quiet. c.push_group-pushed.ensures.keeps.quiet_err b.honest (still quiet);
            worn_log = search rules;
            worn = c.push_group-pushed.ensures.keeps.worn_end b.fits;
            readable = (c.push_group-pushed.ensures.pushes groups b.fits b.holds).foreign;
          };
      -- what stands behind the push, whatever is loose
      stands = λ list ready.
          let b = b list ready in
          let groups = ready.pages.groups in
          let own = c.push_group-pushed.ensures.changes b.honest in
          let units = log_units_same log'.geometry mid.image new.image own.log.now.content in
          let cleaned = clean_given_same store.flash pages changed contents old.image mid.image b.disk in
          ok_seven c.push_group-pushed.result _ _ _ _ _ _ _ (StandsGiven log log' store after pages changed contents old new list (given_changes log list store old.image pages changed contents))
          (λ queue is reaches clean fits holds past.
          let gives = gives_since h pages contents old.image mid.image new.image b.flash b.disk (record { given = is.given; others = is.others }) in
          let now = pushed_now store.flash groups pages changed contents old mid new b.flash b.disk b.told (sym own.log.now.content) own.told
          (subst (λ (q : Queue). GivesVersions h q.first (pushed_groups store.flash groups (frames_pushed store.flash mid.image pages changed contents)) pages contents mid.image new.image) queue is) in
          let made = subst (λ (l : List Change). Reaches h (first list ++ l) old.image new.image) (same list ready) (c.changes_add_up.ensures h (first list) second old.image mid.image new.image (reached list ready) reaches) in
          let takes = push_takes list sealing store.flash old.image pages changed contents log.ring.hi log'.ring.hi old mid new c.in-Ok.ensures.forces.next (c.in-Ok.ensures.seals.device_calls ready.blocks.honest) past.0 in
          record {
            gives = gives;
            reaches = made;
            calls = takes.calls;
            device_calls = λ quiet.
                let still = c.in-Ok.ensures.calls.stays_quiet ready.blocks.honest quiet in
                let changes = c.force_for.ensures.seals.changes ready.blocks.honest in
                let front = (c.push_group-pushed.ensures.pushes groups b.fits b.holds).front still in
                let silent = in_sequence old mid new IsSilent (each_weaker old mid (SameBut Log old) IsSilent (λ m same. same.telling) changes.only)
                (silent_leaves mid new (leaves_weaker mid new (IsReached h (IsFrontOf second) mid) (λ s. s.told ≡ mid.told) (λ s is. is.told) front)) in
                let before = unsynced_logged old mid quiet changes in
                let unsynced = past.1 (quiet_settled Disk mid still) in
                push_calls h (given_changes log list store old.image pages changed contents) (staged_pages store.flash) old new made takes (own.told ∙ b.told) silent (omega (arith, before, unsynced));
            leaves = λ given are given_clean. pushed_pages store.flash groups pages changed contents old mid new b.flash b.disk b.told c.ring_kept.ensures
                (masters_kept c.ring_kept.ensures h (first list) old (snapshot_of mid) (own_sealing sealing list) (reached_all h (first list) old mid b.told (reached list ready))) given sealing list are (sealed_blocks list ready)
                (snapshot_of new) now (clean (cleaned given_clean)) (reached_all h _ mid new own.told reaches);
            sealed = λ sealed logged.
                let at_first = before list ready in
                pushed_sealed store.flash groups pages changed contents old mid new b.flash b.disk b.told (512 * log'.ring.hi) (end list ready) (omega (arith, at_first, rises)) c.requires.lists (c.in-Ok.ensures.sealed logged) sealed (snapshot_of new) now;
            rings = λ newest rings sound.
                (c.rings_kept_under.ensures newest) h _ mid.image new.image ((c.rings_kept_under.ensures newest) h (first list) old.image mid.image rings (sealing_keeps h old.image sealing list) (reached list ready)) (kept_rings list ready sound) reaches;
            ready = λ given_clean sound marked. record {
              pages = fits_told store' after new told (fits_behind store cache log list old ready c.push_group-pushed.ensures.keeps.geometry pages contents new _ fits holds (clean (cleaned given_clean)) gives c.requires.lists sound marked);
              blocks = log_found log' mid new units c.push_group-pushed.ensures.keeps.preserves b.log_fits;
              records = c.stays_beside.ensures.holds log' mid.image new.image (sealed_if sealing list) units b.log_holds;
            };
          })
          c.push_group-pushed.ensures.directory ((c.push_group-pushed.ensures.pushes groups b.fits b.holds).gives b.clean) ((c.push_group-pushed.ensures.pushes groups b.fits b.holds).reaches)
          (ok_under c.push_group-pushed.result _ _ ((c.push_group-pushed.ensures.pushes groups b.fits b.holds).clean b.clean)) (c.push_group-pushed.ensures.keeps.fits b.fits) ((c.push_group-pushed.ensures.pushes groups b.fits b.holds).holds)
          (ok_both c.push_group-pushed.result _ _ (PushTakes store.flash mid new) (λ calls unsynced. (calls, unsynced)) (c.push_group-pushed.ensures.device_calls b.honest) (ok_under c.push_group-pushed.result (IsSettled Disk mid) _ (c.push_group-pushed.ensures.unsynced b.honest)));
      pushes =
          let log_reads = c.push_group-pushed.ensures.others Log (λ same. cc) ∙ c.force_for.ensures.seals.reads Log in
          let going : Invariant after new = going_told store cache after old new c.push_group-pushed.ensures.keeps.geometry told c.push_group-pushed.ensures.keeps.going are_told c.requires.going.pages_going in
          record {
            works = record {
              calls = search rules;
              forces = search rules;
              going = going;
              log_going = search rules;
              geometry = ap (λ (f : FlashCache). f.geometry) flash ∙ c.push_group-pushed.ensures.keeps.geometry;
              size = ap (λ (s : PageStore). s.pool.size) told;
              log_reads = log_reads;
              stops = search rules;
              next = λ honest.
                  let own = c.push_group-pushed.ensures.changes (stays_honest old mid c.force_for.ensures.calls.preserves honest) in
                  next_with {middle = store'} refl flash (next_then {a = tt} {between = store} c.force_for.ensures.forces.geometry refl
                  (next_logged {pages = store} (c.in-Ok.ensures.seals.next_block honest) (c.force_for.ensures.seals.changes honest) (λ says. no_error says))
                  (next_pushed {pages' = store'} (c.push_group-pushed.ensures.keeps.next_segment (stays_honest old mid c.force_for.ensures.calls.preserves honest)) own.log.now.content (search rules)));
            };
            logged = λ all. (let all_told = subst (AllByRecursion (λ (f : Frame). IsLogged (end_forced log) f.content)) (sym frames) all in search rules);
            ended = ap (λ (s : PageStore). s.ended) told;
            others = search rules;
          };
      stages = stages_between {mid = store} refl flash (stages_then {more = staged_in_push (rules_for store) store.flash.directory} {next = next_group (cache_of store)} {next' = next_group (cache_of store) + 1} (λ (has : HasQueueOn store old). omega arith)
          by_forcing (record {
            holds = λ has. queue_pushed c.push_group-pushed.result c.push_group-pushed.new.self store _ new c.push_group-pushed.ensures.keeps.going (c.push_group-pushed.ensures.keeps.fits has.fits) ((c.push_group-pushed.ensures.pushes has.groups has.fits has.holds).holds);
            quiet = λ has quiet. c.push_group-pushed.ensures.keeps.quiet has.fits.honest quiet;
            writes = λ has quiet. push_writes store (groups_on store.flash.geometry mid.image) _ mid new has ((c.push_group-pushed.ensures.pushes has.groups has.fits has.holds).front quiet) ((c.push_group-pushed.ensures.pushes has.groups has.fits has.holds).gaps quiet);
            last = λ has quiet. (c.push_group-pushed.ensures.pushes has.groups has.fits has.holds).last quiet;
            counted = λ has quiet. push_counted c.push_group-pushed.result store cache _ mid new c.push_group-pushed.ensures.directory (c.push_group-pushed.ensures.unsynced has.fits.honest (quiet_settled Disk mid quiet));
            sizes = c.push_group-pushed.ensures.keeps.geometry;
          }));
      worn = search rules;
      worn_at = λ says.
          let kept = ap (λ (q : Queue). q.first + length q.groups) (kept_where c.push_group-pushed.result _ _ says c.push_group-pushed.ensures.keeps.kept) in
          ap (λ (f : FlashCache). f.ring.hi) flash ∙ omega (arith, c.push_group-pushed.ensures.keeps.worn says, c.push_group-pushed.ensures.keeps.going.next, c.requires.going.pages_going.flash.next, kept);
      pool = ap (λ (s : PageStore). s.pool) told;
      directory = ok_as c.push_group-pushed.result _ _ (λ is. ap (λ (f : FlashCache). f.directory) flash ∙ is) c.push_group-pushed.ensures.directory;
      reads = omega (arith, c.force_for.ensures.seals.reads Flash, c.push_group-pushed.ensures.reads, four_most (is_due store.flash.ring.hi store.flash.segments.hi));
    }
