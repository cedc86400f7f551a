use Rattle.page_store.proofs.Names.{rules, Bool, true, false, ◌+◌, ◌≡◌, ◌<◌, ℕ, [], length, map, sym, subst, ◌∙◌, ap, arith, refl, All, if◌then◌else◌, Pool, AreDistinct, frame_of, Frame, known_pushed, pushed_queue, FlashCache, evicted, pool_page, cache_of, is_pushed, rules_for, MayWork, Pushes, StopsAtEnd, KeepsGiven, Stands, StandsGiven, given_changes, eviction_changes, AreReady, IsStore, Invariant, PageStore, Cache, evict_coldest, must_be_pushed, rules_of, staged_in_eviction, staged_in_push, ok_as, calls_nothing, no_error, ok_both, end_forced, forces}
use Rattle.std.specs.Prelude.{List, reverse}
use Rattle.page_store.proofs.Departures.{HasLeft, Departs, departs, must_be, going_left, logged_left, few_left, absent_left, rest_current, rest_ready, rest_going, rest_logged, none_evicted, none_forced}
use Rattle.page_store.proofs.Calling.{stops_as, pushes_as, pushes_still, pushes_with, keeps_as, keeps_still, stands_as, keeps_nothing, stands_still, keeps_given, stands_given}
use Rattle.page_store.proofs.Changing.{eviction_is}
use Rattle.page_store.proofs.PushLaws.{ok_under}
use Rattle.page_store.proofs.StagingLaws.{stages_none, stages_as, stages_between, evicted_none, evicted_staged, evicted_next}
use Rattle.page_store.proofs.store.PageStore.evict.Given.{Over}
use Rattle.page_store.proofs.store.PageStore.evict.Goals.{After-must_be_pushed, After-deref-in-Ok-2}
use Rattle.page_store.proofs.store.PageStore.evict.Goals as goal

-- the pool is empty

pub returns-in_default-clause-keeps : goal.returns-in_default-clause-keeps
returns-in_default-clause-keeps g c list ready = keeps_nothing c.requires.going.sizes ready

-- the coldest page has left it

module _ (g : Over) (c : After-must_be_pushed g) where
  has_left : HasLeft c.args.self.now c.take_coldest.new.self c.in-Some.coldest
  has_left = record {
    is = c.in-Some.ensures.some;
    one = c.frames_of_pages.ensures.last _ _ (subst AreDistinct c.in-Some.ensures.some c.requires.going.pages_going.own.pool.distinct);
    size = c.take_coldest.ensures.size;
    knows = c.in-Some.ensures.framed;
  }

  must_is : must_be_pushed c.args.self.now.flash.directory (pool_page c.in-Some.coldest) ≡ c.must_be_pushed.result
  must_is = must_be _ _ _ has_left c.requires.going.pages_going.own.told c.in-Some.framed c.in-Some.ensures.told ∙ sym c.must_be_pushed.ensures

-- and isn't pushed

pub returns-then-not-must_be_pushed-clause-stands : goal.returns-then-not-must_be_pushed-clause-stands
returns-then-not-must_be_pushed-clause-stands g c list ready =
    let log = c.args.log.now in
    let site = g.S.Site.state c.args.site.now in
    let h = has_left g (goal.at.returns-then-not-must_be_pushed-clause-stands g c).After-must_be_pushed in
    let must = must_is g (goal.at.returns-then-not-must_be_pushed-clause-stands g c).After-must_be_pushed ∙ c.if-not-must_be_pushed.true in
    stands_still c.requires.going.sizes refl (none_forced _ _ _ h log must) (eviction_is log list c.args.self.now site.image [] (none_evicted _ _ _ h must))
    ready
    (rest_ready _ _ _ h log list site ready) (rest_current _ _ _ h site ready.pages must) (rest_logged _ _ _ h (end_forced log))

pub returns-then-not-must_be_pushed-clause-pushes : goal.returns-then-not-must_be_pushed-clause-pushes
returns-then-not-must_be_pushed-clause-pushes g c =
    let h = has_left g (goal.at.returns-then-not-must_be_pushed-clause-pushes g c).After-must_be_pushed in
    let none = none_forced _ _ _ h c.args.log.now (must_is g (goal.at.returns-then-not-must_be_pushed-clause-pushes g c).After-must_be_pushed ∙ c.if-not-must_be_pushed.true) in
    pushes_still _ calls_nothing tt (λ says. no_error says) (λ says. no_error says) none c.requires.going (rest_going _ _ _ h (g.S.Site.state c.args.site.now) c.requires.going.pages_going) refl h.size refl
    (rest_logged _ _ _ h (end_forced c.args.log.now))

-- it is

pub take_with-requires-clause-store : goal.take_with-requires-clause-store
take_with-requires-clause-store g c =
    (rest_going _ _ _ (has_left g (goal.at.take_with-requires-clause-store g c).After-must_be_pushed) (g.S.Site.state c.args.site.now) c.requires.going.pages_going).own

departed : (g : Over) (c : After-deref-in-Ok-2 g) → Departs c.args.self.now c.take_with.new.self.pool c.deref.result.now c.deref-in-Ok.result.now
    c.deref-in-Ok-2.result.now
departed g c =
    let is = c.in-Some.ensures.some in
    let whole = c.requires.going.pages_going.own in
    let laws = c.frames_of_pages.ensures in
    let h : HasLeft c.args.self.now c.take_coldest.new.self c.in-Some.coldest = record {
      is = is;
      one = laws.last _ _ (subst AreDistinct is whole.pool.distinct);
      size = c.take_coldest.ensures.size;
      knows = c.in-Some.ensures.framed;
    } in
    let must = must_be _ _ _ h whole.told c.in-Some.framed c.in-Some.ensures.told ∙ sym c.must_be_pushed.ensures ∙ c.if-not-must_be_pushed.false in
    departs _ _ _ h c.unframed_is_disk.ensures laws.without whole must c.take_with.new.self.pool
    c.in-Ok.taken _ _ _
    c.in-Ok.ensures.pool c.in-Ok.ensures.taken c.deref.ensures.value c.deref-in-Ok.ensures.value c.deref-in-Ok-2.ensures.value

pub push-requires-clause-going : goal.push-requires-clause-going
push-requires-clause-going g c =
    let site = g.S.Site.state c.args.site.now in
    let h = has_left g (goal.at.push-requires-clause-going g c).After-must_be_pushed in
    subst (λ (s : PageStore). MayWork c.args.log.now s site) (sym c.take_with.ensures.kept)
    (going_left _ _ _ h c.take_with.new.self.pool c.take_with.ensures.part c.args.log.now site (subst IsStore c.take_with.ensures.kept c.take_with.ensures.store) c.requires.going)

pub push-requires-clause-exist : goal.push-requires-clause-exist
push-requires-clause-exist g c = subst (λ (s : PageStore). All (λ (page : ℕ). page < s.flash.geometry.pages) c.deref.result.now) (sym c.take_with.ensures.kept)
    (departed g c).exist

pub push-requires-clause-apart : goal.push-requires-clause-apart
push-requires-clause-apart g c = (departed g c).apart

pub returns-in-Ok-clause-keeps : goal.returns-in-Ok-clause-keeps
returns-in-Ok-clause-keeps g c list ready =
    let log = c.args.log.now in
    let old = g.S.Site.state c.args.site.now in
    let new = g.S.Site.state c.push.new.site in
    let pages = c.deref.result.now in
    let changed = c.deref-in-Ok.result.now in
    let contents = c.deref-in-Ok-2.result.now in
    let d = departed g (goal.at.returns-in-Ok-clause-keeps g c).After-deref-in-Ok-2 in
    let kept = c.take_with.ensures.kept in
    let there = subst (λ (s : PageStore). AreReady s log list old) (sym kept) (d.ready log list old ready) in
    keeps_as (d.forced log) (d.changes log list old.image)
    (keeps_given {pool = c.take_with.new.self.pool} (d.own log old ready.pages)
    (subst (λ (s : PageStore). KeepsGiven c.push.result log s pages changed contents old new list (given_changes log list s old.image pages changed contents)) kept (c.push.ensures.keeps list there)))

pub returns-in-Ok-clause-stands : goal.returns-in-Ok-clause-stands
returns-in-Ok-clause-stands g c list ready =
    let store = c.args.self.now in
    let log = c.args.log.now in
    let log' = c.push.new.log in
    let old = g.S.Site.state c.args.site.now in
    let new = g.S.Site.state c.push.new.site in
    let pages = c.deref.result.now in
    let changed = c.deref-in-Ok.result.now in
    let contents = c.deref-in-Ok-2.result.now in
    let h = has_left g (goal.at.returns-in-Ok-clause-stands g c).After-must_be_pushed in
    let d = departed g (goal.at.returns-in-Ok-clause-stands g c).After-deref-in-Ok-2 in
    let kept = c.take_with.ensures.kept in
    let there = subst (λ (s : PageStore). AreReady s log list old) (sym kept) (d.ready log list old ready) in
    let own = d.own log old ready.pages in
    let after = c.push.new.self in
    let geometry : after.flash.geometry ≡ store.flash.geometry = c.push.ensures.pushes.works.geometry ∙ ap (λ (s : PageStore). s.flash.geometry) kept in
    let pool : after.pool.frames ≡ c.take_with.new.self.pool.frames = ap (λ (p : Pool). p.frames) c.push.ensures.pool in
    ok_both c.push.result _ _ (Stands log log' store after old new list (forces log (evicted store)) (eviction_changes log list store old.image))
    (λ given logged.
    let stands = subst (λ (s : PageStore). StandsGiven log log' s after pages changed contents old new list (given_changes log list s old.image pages changed contents)) kept given in
    stands_as (d.forced log) (d.changes log list old.image)
    (stands_given {pool = c.take_with.new.self.pool} own geometry (stands.ready own.clean own.sound d.are_changed) (d.current after old.image new.image pool geometry stands.gives)
    (λ all. logged (logged_left _ _ _ h c.take_with.new.self.pool c.take_with.ensures.part (end_forced log) all)) stands))
    (c.push.ensures.stands list there) (ok_under c.push.result _ _ c.push.ensures.pushes.logged)

pub returns-in-Ok-clause-pushes : goal.returns-in-Ok-clause-pushes
returns-in-Ok-clause-pushes g c =
    let log = c.args.log.now in
    let h = has_left g (goal.at.returns-in-Ok-clause-pushes g c).After-must_be_pushed in
    let d = departed g (goal.at.returns-in-Ok-clause-pushes g c).After-deref-in-Ok-2 in
    let push = subst (λ (s : PageStore). Pushes c.push.result log c.push.new.log s c.push.new.self (g.S.Site.state c.args.site.now) (g.S.Site.state c.push.new.site) (forces log c.deref-in-Ok-2.result.now)) c.take_with.ensures.kept c.push.ensures.pushes in
    pushes_as (d.forced log) (pushes_with push refl refl push.works.going push.works.geometry (push.works.size ∙ c.take_with.ensures.size ∙ h.size) push.ended
    (λ all. push.logged (logged_left _ _ _ h c.take_with.new.self.pool c.take_with.ensures.part (end_forced log) all)))

pub returns-in-Ok-clause-machine : goal.returns-in-Ok-clause-machine
returns-in-Ok-clause-machine g c =
    let d = departed g (goal.at.returns-in-Ok-clause-machine g c).After-deref-in-Ok-2 in
    let queue = c.push.new.self.flash.directory in
    ok_as c.push.result _ (cache_of c.push.new.self ≡ evict_coldest (rules_for c.args.self.now) (cache_of c.args.self.now))
    (λ after. ap (λ (p : Pool). let k : Cache = record { pool = map pool_page p.frames; queue = queue } in k) c.push.ensures.pool
    ∙ d.machine queue (after ∙ ap (λ (s : PageStore). pushed_queue s.flash (known_pushed s.flash c.deref.result.now c.deref-in-Ok.result.now)) c.take_with.ensures.kept))
    c.push.ensures.directory

pub returns-in-Ok-clause-room_made : goal.returns-in-Ok-clause-room_made
returns-in-Ok-clause-room_made g c some =
    let now = ap (λ (p : Pool). length p.frames) c.push.ensures.pool in
    omega (arith, now, few_left _ _ _ (has_left g (goal.at.returns-in-Ok-clause-room_made g c).After-must_be_pushed) c.take_with.new.self.pool c.take_with.ensures.part)

pub returns-in-Ok-clause-absent : goal.returns-in-Ok-clause-absent
returns-in-Ok-clause-absent g c page none =
    let h = has_left g (goal.at.returns-in-Ok-clause-absent g c).After-must_be_pushed in
    ap (λ (p : Pool). frame_of p.frames page) c.push.ensures.pool ∙ absent_left _ _ _ h c.take_with.new.self.pool c.take_with.ensures.part
    c.frames_of_pages.ensures.without page none

-- memory is wanting

pub returns-in-Err-clause-keeps : goal.returns-in-Err-clause-keeps
returns-in-Err-clause-keeps g c list ready = keeps_still c.requires.going.sizes ready (search rules) (search rules) (search rules)

pub returns-in-Err-clause-pushes : goal.returns-in-Err-clause-pushes
returns-in-Err-clause-pushes g c =
    let site = g.S.Site.state c.args.site.now in
    let h = has_left g (goal.at.returns-in-Err-clause-pushes g c).After-must_be_pushed in
    let kept = c.take_with.ensures.kept in
    let going = (going_left _ _ _ h c.take_with.new.self.pool c.take_with.ensures.part c.args.log.now site (subst IsStore kept c.take_with.ensures.store)
    c.requires.going).pages_going in
    pushes_still _ (search rules) (search rules) (search rules) (search rules) tt c.requires.going (subst (λ (s : PageStore). Invariant s site) (sym kept) going)
    (ap (λ (s : PageStore). s.flash) kept) (c.take_with.ensures.size ∙ h.size)
    (ap (λ (s : PageStore). s.ended) kept) (logged_left _ _ _ h c.take_with.new.self.pool c.take_with.ensures.part (end_forced c.args.log.now))

pub returns-in-Err-clause-room_made : goal.returns-in-Err-clause-room_made
returns-in-Err-clause-room_made g c some = few_left _ _ _ (has_left g (goal.at.returns-in-Err-clause-room_made g c).After-must_be_pushed) c.take_with.new.self.pool
    c.take_with.ensures.part

pub returns-in-Err-clause-absent : goal.returns-in-Err-clause-absent
returns-in-Err-clause-absent g c =
    absent_left _ _ _ (has_left g (goal.at.returns-in-Err-clause-absent g c).After-must_be_pushed) c.take_with.new.self.pool c.take_with.ensures.part
    c.frames_of_pages.ensures.without

-- what is written

pub returns-in_default-clause-stages : goal.returns-in_default-clause-stages
returns-in_default-clause-stages g c =
    let none : c.args.self.now.pool.frames ≡ [] = search rules in
    stages_none (ap (λ (l : List Frame). staged_in_eviction (rules_for c.args.self.now) (reverse (map pool_page l)) c.args.self.now.flash.directory) none) (omega arith) refl

pub returns-in-Err-clause-stages : goal.returns-in-Err-clause-stages
returns-in-Err-clause-stages g c = stages_none tt (omega arith) (ap (λ (s : PageStore). s.flash) c.take_with.ensures.kept)

pub returns-in-Ok-clause-stages : goal.returns-in-Ok-clause-stages
returns-in-Ok-clause-stages g c =
    let store = c.args.self.now in
    let rest : Pool = c.take_coldest.new.self in
    let last = c.in-Some.coldest in
    let is = c.in-Some.ensures.some in
    let must = must_is g (goal.at.returns-in-Ok-clause-stages g c).After-must_be_pushed ∙ c.if-not-must_be_pushed.false in
    let kept : c.take_with.new.self.flash ≡ store.flash = ap (λ (s : PageStore). s.flash) c.take_with.ensures.kept in
    stages_as (ap (λ (f : FlashCache). staged_in_push (rules_of 0 f.geometry.groups) f.directory) kept ∙ evicted_staged store rest.frames last is must)
    (ap (λ (f : FlashCache). f.directory.first + length f.directory.groups + 1) kept ∙ evicted_next store rest.frames last is must)
    (stages_between kept refl c.push.ensures.stages)

pub returns-then-not-must_be_pushed-clause-keeps : goal.returns-then-not-must_be_pushed-clause-keeps
returns-then-not-must_be_pushed-clause-keeps g c list ready = keeps_nothing c.requires.going.sizes ready

pub returns-then-not-must_be_pushed-clause-stages : goal.returns-then-not-must_be_pushed-clause-stages
returns-then-not-must_be_pushed-clause-stages g c =
    stages_none (evicted_none c.args.self.now c.take_coldest.new.self.frames (c.in-Some.coldest) c.in-Some.ensures.some (must_is g (goal.at.returns-then-not-must_be_pushed-clause-stages g c).After-must_be_pushed ∙ c.if-not-must_be_pushed.true)) (omega arith) refl

-- how it ends

evicts : (b : Bool) (n : ℕ) → n + 1 ≡ n + (if b then 1 else 0) → b ≡ true
evicts true n is = refl
evicts false n is = absurd (omega (arith, is))

pushed_then : (g : Over) (c : After-must_be_pushed g) → c.must_be_pushed.result ≡ true → is_pushed (cache_of c.args.self.now) ≡ true
pushed_then g c must = evicts _ _ (evicted_next c.args.self.now c.take_coldest.new.self.frames c.in-Some.coldest c.in-Some.ensures.some (must_is g c ∙ must))

pub returns-in-Ok-clause-worn : goal.returns-in-Ok-clause-worn
returns-in-Ok-clause-worn g c =
    let log = c.args.log.now in
    let pushed = pushed_then g (goal.at.returns-in-Ok-clause-worn g c).After-must_be_pushed c.if-not-must_be_pushed.false in
    let d = departed g (goal.at.returns-in-Ok-clause-worn g c).After-deref-in-Ok-2 in
    let w = subst (λ (s : PageStore). StopsAtEnd c.push.result log s (forces log c.deref-in-Ok-2.result.now) true) c.take_with.ensures.kept c.push.ensures.worn in
    stops_as (d.forced log) (sym pushed) (record { worn_log = w.worn_log; at_log_end = w.at_log_end; worn_flash = w.worn_flash; never_past = w.never_past })

pub returns-in-Ok-clause-reads : goal.returns-in-Ok-clause-reads
returns-in-Ok-clause-reads g c =
    let pushed = pushed_then g (goal.at.returns-in-Ok-clause-reads g c).After-must_be_pushed c.if-not-must_be_pushed.false in
    let twelve = ap {B = ℕ} (λ (b : Bool). if b then 12 else 0) pushed in
    omega (arith, c.push.ensures.reads, twelve)
