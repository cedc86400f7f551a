use Rattle.page_store.proofs.Names.{◌≡◌, ℕ, true, None, Some, map, refl, rules, arith, sym, ap, subst, ◌∙◌, AllByRecursion, Result, frame_page, Pool, frame_of, front_of, Frame, pool_page, rules_for, MayWork, IsPage, BringsIn, Cache, Stop, IsLogged, end_forced}
use Rattle.page_store.proofs.Pools.{touched_held}
use Rattle.page_store.proofs.Touching.{nothing_staged, not_there, nothing_forced, nothing_pushed, nothing_changes, all_touched, order_fits, order_current, pool_going}
use Rattle.page_store.proofs.Misses.{its_keeps, its_stands, its_works, its_stages, its_worn, its_machine, its_flash_reads, its_disk_reads}
use Rattle.page_store.proofs.NextUnits.{next_nothing}
use Rattle.page_store.proofs.Calling.{forces_still, keeps_nothing, stands_still, stops_not}
use Rattle.page_store.proofs.StagingLaws.{stages_none, stages_between}
use Rattle.page_store.proofs.ToldPages.{told_touched}
use Rattle.page_store.proofs.store.PageStore.touch.Given.{Over}
use Rattle.page_store.proofs.store.PageStore.touch.Goals.{After-touch, After-bring_in}
use Rattle.page_store.proofs.store.PageStore.touch.Goals as goal

-- the page is in the pool

module _ (g : Over) (c : After-touch g) (hit : c.touch.result ≡ true) where
  is_there : frame_of c.args.self.now.pool.frames c.args.page ≡ Some (front_of c.touch.new.self.frames)
  is_there = c.touch.ensures.front (search rules)

  all_still : (P : Frame → Type 0) → AllByRecursion P c.args.self.now.pool.frames → AllByRecursion P c.touch.new.self.frames
  all_still P all = subst (λ (p : Pool). AllByRecursion P p.frames) (sym c.touch.ensures.after)
      (all_touched P c.args.self.now.pool.frames c.args.page _ is_there all)

pub returns-then-touch-clause-keeps : goal.returns-then-touch-clause-keeps
returns-then-touch-clause-keeps g c list ready = keeps_nothing c.requires.going.sizes ready

pub returns-then-touch-clause-stands : goal.returns-then-touch-clause-stands
returns-then-touch-clause-stands g c list ready =
    let store = c.args.self.now in
    let log = c.args.log.now in
    let site = g.S.Site.state c.args.site.now in
    let is = is_there g (goal.at.returns-then-touch-clause-stands g c).After-touch c.if-touch.true in
    let order = λ (n : ℕ). ap (λ (p : Pool). frame_of p.frames n) c.touch.ensures.after ∙ c.frames_of_pages.ensures.touched store.pool.frames c.args.page n in
    stands_still c.requires.going.sizes refl (nothing_forced store c.args.page _ is log) (nothing_changes store c.args.page _ is log list site.image) ready
    (record { pages = order_fits store c.touch.new.self site order ready.pages; blocks = ready.blocks; records = ready.records }) (order_current store c.touch.new.self site.image order)
    (all_still g (goal.at.returns-then-touch-clause-stands g c).After-touch c.if-touch.true (λ (f : Frame). IsLogged (end_forced log) f.content))

pub returns-then-touch-clause-front : goal.returns-then-touch-clause-front
returns-then-touch-clause-front g c = frame_page c.args.self.now.pool.frames c.args.page (front_of c.touch.new.self.frames) (is_there g (goal.at.returns-then-touch-clause-front g c).After-touch c.if-touch.true)

pub returns-then-touch-clause-machine : goal.returns-then-touch-clause-machine
returns-then-touch-clause-machine g c =
    let store = c.args.self.now in
    (λ i. let k : Cache = record { pool = map pool_page (c.touch.ensures.after i).frames; queue = store.flash.directory } in k)
    ∙ touched_held (rules_for store) store.pool.frames store.flash.directory c.args.page _ c.requires.going.pages_going.own.pool.distinct (is_there g (goal.at.returns-then-touch-clause-machine g c).After-touch c.if-touch.true)

pub returns-then-touch-clause-works : goal.returns-then-touch-clause-works
returns-then-touch-clause-works g c =
    let store = c.args.self.now in
    let size = ap (λ (p : Pool). p.size) c.touch.ensures.after in
    let going = c.requires.going.pages_going in
    record {
      calls = search rules;
      forces = forces_still _ (nothing_forced store c.args.page _ (is_there g (goal.at.returns-then-touch-clause-works g c).After-touch c.if-touch.true) c.args.log.now) c.requires.going.room;
      going = pool_going store c.touch.new.self (g.S.Site.state c.args.site.now) size c.touch.ensures.pool
          (all_still g (goal.at.returns-then-touch-clause-works g c).After-touch c.if-touch.true (IsPage store.flash.geometry.pages) going.own.pages)
          (told_touched c.frames_of_pages.ensures.touched store c.touch.new.self c.args.page (ap (λ (p : Pool). p.frames) c.touch.ensures.after) c.touch.ensures.framed going.own.told) going;
      log_going = c.requires.going.log_going;
      geometry = refl;
      size = size;
      log_reads = refl;
      stops = tt;
      next = λ honest. next_nothing refl;
    }

pub returns-then-touch-clause-worn : goal.returns-then-touch-clause-worn
returns-then-touch-clause-worn g c =
    let is = is_there g (goal.at.returns-then-touch-clause-worn g c).After-touch c.if-touch.true in
    stops_not (nothing_forced c.args.self.now c.args.page _ is c.args.log.now) (nothing_pushed c.args.self.now c.args.page _ is)

pub returns-then-touch-clause-stages : goal.returns-then-touch-clause-stages
returns-then-touch-clause-stages g c =
    stages_none (nothing_staged c.args.self.now c.args.page _ (is_there g (goal.at.returns-then-touch-clause-stages g c).After-touch c.if-touch.true)) (omega arith) refl

-- it isn't: the pool is as it was

pub bring_in-requires-clause-going : goal.bring_in-requires-clause-going
bring_in-requires-clause-going g c =
    subst (λ (p : Pool). MayWork c.args.log.now (record c.args.self.now { pool = p }) (g.S.Site.state c.args.site.now)) (sym (c.touch.ensures.same c.if-touch.false)) c.requires.going

pub bring_in-requires-clause-absent : goal.bring_in-requires-clause-absent
bring_in-requires-clause-absent g c =
    subst (λ (p : Pool). frame_of p.frames c.args.page ≡ None) (sym (c.touch.ensures.same c.if-touch.false)) (c.touch.ensures.absent c.if-touch.false)

module _ (g : Over) (c : After-bring_in g) where
  none : frame_of c.args.self.now.pool.frames c.args.page ≡ None
  none = c.touch.ensures.absent (search rules)

  brought : {result : Result (Unit {0}) Stop} → BringsIn result c.args.log.now c.bring_in.new.log (record c.args.self.now { pool = c.touch.new.self }) c.bring_in.new.self (g.S.Site.state c.args.site.now) (g.S.Site.state c.bring_in.new.site) c.args.page
      → BringsIn result c.args.log.now c.bring_in.new.log c.args.self.now c.bring_in.new.self (g.S.Site.state c.args.site.now) (g.S.Site.state c.bring_in.new.site) c.args.page
  brought {result = result} = subst (λ (p : Pool). BringsIn result c.args.log.now c.bring_in.new.log (record c.args.self.now { pool = p }) c.bring_in.new.self (g.S.Site.state c.args.site.now) (g.S.Site.state c.bring_in.new.site) c.args.page)
      (c.touch.ensures.same (search rules))

pub returns-in-Err-clause-keeps : goal.returns-in-Err-clause-keeps
returns-in-Err-clause-keeps g c list ready =
    let s = (goal.at.returns-in-Err-clause-keeps g c).After-bring_in in
    its_keeps c.args.self.now c.args.page (none g s) (brought g s c.in-Err.ensures) list ready

pub returns-in-Err-clause-works : goal.returns-in-Err-clause-works
returns-in-Err-clause-works g c =
    let s = (goal.at.returns-in-Err-clause-works g c).After-bring_in in
    let works = its_works c.args.self.now c.args.page (none g s) (brought g s c.in-Err.ensures) in
    search rules

pub returns-in-Err-clause-stages : goal.returns-in-Err-clause-stages
returns-in-Err-clause-stages g c =
    let s = (goal.at.returns-in-Err-clause-stages g c).After-bring_in in
    stages_between refl refl (its_stages c.args.self.now c.args.page (none g s) (brought g s c.in-Err.ensures))

pub returns-in-Err-clause-worn : goal.returns-in-Err-clause-worn
returns-in-Err-clause-worn g c =
    let s = (goal.at.returns-in-Err-clause-worn g c).After-bring_in in
    its_worn c.args.self.now c.args.page (none g s) (brought g s c.in-Err.ensures)

pub returns-in-Err-clause-held : goal.returns-in-Err-clause-held
returns-in-Err-clause-held g c there = absurd (not_there c.args.self.now c.args.page (none g (goal.at.returns-in-Err-clause-held g c).After-bring_in) there)

pub returns-in-Err-clause-flash_reads : goal.returns-in-Err-clause-flash_reads
returns-in-Err-clause-flash_reads g c =
    let s = (goal.at.returns-in-Err-clause-flash_reads g c).After-bring_in in
    its_flash_reads c.args.self.now c.args.page (none g s) (brought g s c.in-Err.ensures)

pub returns-in-Err-clause-disk_reads : goal.returns-in-Err-clause-disk_reads
returns-in-Err-clause-disk_reads g c =
    let s = (goal.at.returns-in-Err-clause-disk_reads g c).After-bring_in in
    its_disk_reads c.args.self.now c.args.page (none g s) (brought g s c.in-Err.ensures)

pub returns-clause-keeps : goal.returns-clause-keeps
returns-clause-keeps g c list ready =
    let s = (goal.at.returns-clause-keeps g c).After-bring_in in
    its_keeps c.args.self.now c.args.page (none g s) (brought g s c.in_default.ensures) list ready

pub returns-clause-stands : goal.returns-clause-stands
returns-clause-stands g c list ready =
    let s = (goal.at.returns-clause-stands g c).After-bring_in in
    its_stands c.args.self.now c.args.page (none g s) (brought g s c.in_default.ensures) list ready

pub returns-clause-works : goal.returns-clause-works
returns-clause-works g c =
    let s = (goal.at.returns-clause-works g c).After-bring_in in
    its_works c.args.self.now c.args.page (none g s) (brought g s c.in_default.ensures)

pub returns-clause-stages : goal.returns-clause-stages
returns-clause-stages g c =
    let s = (goal.at.returns-clause-stages g c).After-bring_in in
    its_stages c.args.self.now c.args.page (none g s) (brought g s c.in_default.ensures)

pub returns-clause-machine : goal.returns-clause-machine
returns-clause-machine g c =
    let s = (goal.at.returns-clause-machine g c).After-bring_in in
    its_machine c.args.self.now c.args.page (none g s) (brought g s c.in_default.ensures)

pub returns-clause-worn : goal.returns-clause-worn
returns-clause-worn g c =
    let s = (goal.at.returns-clause-worn g c).After-bring_in in
    its_worn c.args.self.now c.args.page (none g s) (brought g s c.in_default.ensures)

pub returns-clause-held : goal.returns-clause-held
returns-clause-held g c there = absurd (not_there c.args.self.now c.args.page (none g (goal.at.returns-clause-held g c).After-bring_in) there)

pub returns-clause-flash_reads : goal.returns-clause-flash_reads
returns-clause-flash_reads g c =
    let s = (goal.at.returns-clause-flash_reads g c).After-bring_in in
    its_flash_reads c.args.self.now c.args.page (none g s) (brought g s c.in_default.ensures)

pub returns-clause-disk_reads : goal.returns-clause-disk_reads
returns-clause-disk_reads g c =
    let s = (goal.at.returns-clause-disk_reads g c).After-bring_in in
    its_disk_reads c.args.self.now c.args.page (none g s) (brought g s c.in_default.ensures)
