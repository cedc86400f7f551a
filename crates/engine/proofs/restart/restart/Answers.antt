use Rattle.engine.proofs.Names.{◌≡◌, ◌∙◌, sym, subst, ap, refl, arith, ℕ, List, Ok, Err, IfOk, OnOk, Master, Ends, IsSound, sizes_of, IsLegible, read_of, LeavesTable, cache_on, restart_works, IsReady, LeavesNext, RestartedAs, Opened, start_reads, log_shape, master_shape, logical_image_under, table_of, Means, commit_count, LogicalImage, LogRecord, PageStore, if_ok_two, numbers_rise, ends_ok, performs_refused, restart_work, hi_of, rules_of, stays_honest, ok_as, calls_failed, err_again, Site as State, Geometry, Log, Flash, Worn, Foreign}
use Rattle.engine.proofs.Recovers.{restarts_stopped}
use Rattle.engine.proofs.restart.restart.Goals.{In-Ok-open}
use Rattle.engine.proofs.restart.restart.Given.{Over}
use Rattle.page_store.specs.Caching.{cache_of, rules}
use Rattle.engine.proofs.Asking.{from_found, last_found, not_found, still_writes, writes_found}
use Rattle.std.specs.Prelude.{IsTrue, Option}
use Rattle.log_judge.specs.Rules.{IsJudged}
use Rattle.engine.proofs.Calling.{calls_stopped, calls_behind, ends_then}
use Rattle.engine.proofs.Openings.{stands_still}
use Rattle.engine.proofs.RestartedUnits.{next_not_worn}
use Rattle.engine.proofs.RingCounts.{restart_unmoved, restart_behind}
use Rattle.engine.proofs.RestartedRings.{found_on, performs_found}
use Rattle.engine.proofs.restart.restart.Goals as goal

-- What was opened of a sound image is ready.
module _ (g : Over) (c : In-Ok-open g) (honest : IsTrue (g.S.Site.state c.args.site.now).honest) (k : Geometry) (newest : Option Master) (blocks : List (List LogRecord)) (sound : IsSound newest k (g.S.Site.state c.args.site.now).image blocks) where
  abbrev old : State
  old = g.S.Site.state c.args.site.now

  abbrev mid : State
  mid = g.S.Site.state c.open.new.site

  abbrev image : LogicalImage
  image = logical_image_under newest k old.image blocks

  abbrev pages : PageStore
  pages = c.in-Ok-open.opened.pages

  same : c.in-Ok.geometry ≡ k
  same = (c.in-Ok.ensures.found k sound.octets.limits sound.octets.lengths).1

  there : IsSound newest c.in-Ok.geometry old.image blocks
  there = subst (λ (x : Geometry). IsSound newest x old.image blocks) (sym same) sound

  ready : IsReady c.in-Ok-open.opened mid newest blocks (table_of image.log image.pages) (commit_count image)
  ready = c.in-Ok-open.ensures.ready honest newest blocks (table_of image.log image.pages) (commit_count image) there
      (subst (λ (x : Geometry). Means (logical_image_under newest x old.image blocks) (table_of image.log image.pages) (commit_count image)) (sym same) (record { table_is = refl; count_is = refl }))

  sizes : pages.flash.geometry ≡ k
  sizes = c.in-Ok-open.ensures.sizes ∙ same

  same_rules : rules pages ≡ rules_of c.args.pool k.groups
  same_rules = λ i. rules_of (c.in-Ok-open.ensures.pool i) (sizes i).groups

  same_works : restart_works (logical_image_under newest pages.flash.geometry mid.image blocks) ≡ restart_works image
  same_works = λ i. restart_works (logical_image_under newest (sizes i) ((c.open.ensures.same honest).image i) blocks)

  same_cache : cache_of pages ≡ cache_on k old.image
  same_cache = c.in-Ok-open.ensures.cache honest newest blocks there ∙ ap (λ (x : Geometry). cache_on x old.image) same

pub returns : goal.returns
returns g c =
    let old = g.S.Site.state c.args.site.now in
    let mid = g.S.Site.state c.open.new.site in
    let behind = c.recover.ensures.restarts in
    let opened = c.in-Ok-open.opened in
    let s = (goal.at.returns g c).In-Ok-open in
    let recovered = λ (honest : IsTrue old.honest) (k : Geometry) (newest : Option Master) (blocks : List (List LogRecord)) (sound : IsSound newest k old.image blocks).
    let p = image g s honest k newest blocks sound in c.recover.ensures.recovers newest blocks (table_of p.log p.pages) (commit_count p) (ready g s honest k newest blocks sound) in
    record {
      judged = λ honest k newest blocks h.
          let before = g.S.Site.state c.args.site.now in
          let same = (c.in-Ok.ensures.found k h.octets.limits h.octets.lengths).1 in
          let one = c.in-Ok-open.ensures.legible honest newest blocks (subst (λ (x : Geometry). IsLegible newest x before.image blocks) (sym same) h) in
          subst (λ (x : Geometry). OnOk c.recover.result (IsJudged (logical_image_under newest x before.image blocks))) same
          (c.recover.ensures.judged (read_of c.in-Ok.geometry before.image newest blocks) one.0 (sym c.in-Ok-open.ensures.sizes) one.1);
      opens = λ honest k newest blocks table commits sound means.
          let same : c.in-Ok.geometry ≡ k = (c.in-Ok.ensures.found k sound.octets.limits sound.octets.lengths).1 in
          let ready : IsReady c.in-Ok-open.opened mid newest blocks table commits = c.in-Ok-open.ensures.ready honest newest blocks table commits
          (subst (λ (x : Geometry). IsSound newest x old.image blocks) (sym same) sound) (subst (λ (x : Geometry). Means (logical_image_under newest x old.image blocks) table commits) (sym same) means) in
          if_ok_two c.recover.result (λ r. RestartedAs r _ table commits) (λ r. sizes_of r.store ≡ c.in-Ok-open.opened.pages.flash.geometry) (λ r. RestartedAs r _ table commits × (sizes_of r.store ≡ k))
          (λ r done sizes. (done, sizes ∙ c.in-Ok-open.ensures.sizes ∙ same)) (c.recover.ensures.recovers newest blocks table commits ready).restarted c.recover.ensures.sizes;
      ends = λ honest k table commits stands.
          let same : c.in-Ok.geometry ≡ k = (c.in-Ok.ensures.found k stands.stands.sound.octets.limits stands.stands.sound.octets.lengths).1 in
          let ready : IsReady c.in-Ok-open.opened mid stands.newest stands.stands.blocks table commits = c.in-Ok-open.ensures.ready honest stands.newest stands.stands.blocks table commits
          (subst (λ (x : Geometry). IsSound stands.newest x old.image stands.stands.blocks) (sym same) stands.stands.sound) (subst (λ (x : Geometry). Means (logical_image_under stands.newest x old.image stands.stands.blocks) table commits) (sym same) stands.stands.means) in
          let unchanged = c.open.ensures.same honest in
          let first : Ends {T = Opened} (Ok c.in-Ok-open.opened) k old mid (LeavesTable k table commits old.told) = ends_ok (λ quiet. stands_still k old mid table commits quiet unchanged stands) in
          ends_then (λ quiet. unchanged.loose ∙ quiet) (c.in-Ok-open.ensures.sizes ∙ same) first (c.recover.ensures.recovers stands.newest stands.stands.blocks table commits ready).ends;
      numbers = λ honest quiet k newest blocks sound.
          let unchanged = c.open.ensures.same honest in
          restart_behind c.recover.result _ c.in-Ok-open.opened.pages.flash.geometry k _ old mid _ (sizes g s honest k newest blocks sound) quiet unchanged ((recovered honest k newest blocks sound).numbers (unchanged.loose ∙ quiet));
      asks = λ honest k newest blocks sound.
          from_found _ _ _ (rules_of c.args.pool k.groups) _ (restart_works (image g s honest k newest blocks sound)) _ (cache_on k old.image) (start_reads k) old mid (g.S.Site.state c.recover.new.site)
          (same_rules g s honest k newest blocks sound) (same_works g s honest k newest blocks sound) (same_cache g s honest k newest blocks sound)
          (omega (arith, c.open.ensures.flash_reads, ap (λ (x : Geometry). x.groups) (same g s honest k newest blocks sound))) c.open.ensures.disk_reads (recovered honest k newest blocks sound).asks;
      log_reads = λ honest k newest blocks sound. omega (arith, c.open.ensures.log_reads, ap (λ (x : Geometry). x.blocks) (same g s honest k newest blocks sound), (recovered honest k newest blocks sound).log_reads);
      writes = λ honest quiet k newest blocks sound.
          let unchanged = c.open.ensures.same honest in
          writes_found k (rules_of c.args.pool k.groups) (restart_works (image g s honest k newest blocks sound)) opened.pages.flash.geometry (rules opened.pages) (restart_works (logical_image_under newest opened.pages.flash.geometry mid.image blocks)) (cache_of opened.pages) old mid _ (omega (arith, sound.octets.limits.groups)) quiet unchanged
          (sizes g s honest k newest blocks sound) (same_rules g s honest k newest blocks sound) (same_works g s honest k newest blocks sound) (same_cache g s honest k newest blocks sound) ((recovered honest k newest blocks sound).writes (unchanged.loose ∙ quiet));
      last = λ honest quiet k newest blocks sound.
          let unchanged = c.open.ensures.same honest in
          ok_as c.recover.result _ _ (last_found k (rules_of c.args.pool k.groups) (restart_works (image g s honest k newest blocks sound)) opened.pages.flash.geometry (rules opened.pages) (restart_works (logical_image_under newest opened.pages.flash.geometry mid.image blocks)) (cache_of opened.pages) old mid _ unchanged
          (sizes g s honest k newest blocks sound) (same_rules g s honest k newest blocks sound) (same_works g s honest k newest blocks sound) (same_cache g s honest k newest blocks sound)) ((recovered honest k newest blocks sound).last (unchanged.loose ∙ quiet));
      performs = λ honest k newest blocks sound.
          let unchanged = c.open.ensures.same honest in
          let sizes = sizes g s honest k newest blocks sound in
          let next = c.in-Ok-open.ensures.next honest in
          let p = image g s honest k newest blocks sound in
          performs_found (same_rules g s honest k newest blocks sound) (λ i. restart_work (logical_image_under newest (sizes i) (unchanged.image i) blocks))
          (found_on opened k old.image (same_cache g s honest k newest blocks sound)
          (next.block ∙ (λ i. hi_of (log_shape ((c.in-Ok-open.ensures.going.going.sizes ∙ sizes) i)) (unchanged.image i).log)) (next.master ∙ (λ i. hi_of master_shape (unchanged.image i).log)))
          (c.recover.ensures.performs newest blocks (table_of p.log p.pages) (commit_count p) (ready g s honest k newest blocks sound));
      next = λ honest k limits lengths.
          let same : c.in-Ok.geometry ≡ k = (c.in-Ok.ensures.found k limits lengths).1 in
          subst (λ (x : Geometry). LeavesNext c.recover.result (λ restarted. restarted.store) x (g.S.Site.state c.recover.new.site)) (c.in-Ok-open.ensures.sizes ∙ same)
          (c.recover.ensures.next (stays_honest old mid c.open.ensures.preserves honest) (c.in-Ok-open.ensures.next honest));
      restarts =
          record {
            calls = calls_behind c.open.ensures.preserves c.open.ensures.same c.in-Ok-open.ensures.faults behind.calls;
            going = behind.going;
            blocks = behind.blocks;
            room = behind.room;
            commits = behind.commits;
            made = behind.made;
            pool = subst (λ (n : ℕ). IfOk c.recover.result (λ restarted. restarted.store.pages.pool.size ≡ n)) c.in-Ok-open.ensures.pool behind.pool;
            stops = behind.stops;
          };
      refuses = λ none. absurd (none c.in-Ok.geometry c.in-Ok.ensures.limits c.in-Ok.ensures.lengths);
    }

pub returns-in-Err-open : goal.returns-in-Err-open
returns-in-Err-open g c =
    let old = g.S.Site.state c.args.site.now in
    record {
      judged = λ honest k newest blocks h. tt;
      opens = search rules;
      ends = λ honest k table commits stands.
          let same : c.in-Ok.geometry ≡ k = (c.in-Ok.ensures.found k stands.stands.sound.octets.limits stands.stands.sound.octets.lengths).1 in
          let unchanged = c.open.ensures.same honest in
          record {
            any_moment = λ quiet. stands_still k old (g.S.Site.state c.open.new.site) table commits quiet unchanged stands;
            quiet = λ quiet other. unchanged.loose ∙ quiet;
            worn_log = λ is. absurd (c.in-Err-open.ensures.unworn Log (err_again _ (Worn Log) is));
            worn = λ is. absurd (c.in-Err-open.ensures.unworn Flash (err_again _ (Worn Flash) is));
            readable = λ is. c.in-Err-open.ensures.readable honest stands.newest stands.stands.blocks (subst (λ (x : Geometry). IsSound stands.newest x old.image stands.stands.blocks) (sym same) stands.stands.sound) (err_again _ Foreign is);
          };
      numbers = λ honest quiet k newest blocks sound.
          restart_unmoved c.in-Err-open.stop _ k _ (g.S.Site.state c.args.site.now) (g.S.Site.state c.open.new.site) quiet (c.open.ensures.same honest);
      asks = λ honest k newest blocks sound.
          let same : c.in-Ok.geometry ≡ k = (c.in-Ok.ensures.found k sound.octets.limits sound.octets.lengths).1 in
          let groups = ap (λ (x : Geometry). x.groups) same in
          not_found c.in-Err-open.stop _ (rules_of c.args.pool k.groups) _ _ (start_reads k) _ _ (omega (arith, sound.octets.limits.groups)) (omega (arith, c.open.ensures.flash_reads, groups)) c.open.ensures.disk_reads;
      log_reads = λ honest k newest blocks sound.
          let same : c.in-Ok.geometry ≡ k = (c.in-Ok.ensures.found k sound.octets.limits sound.octets.lengths).1 in
          omega (arith, c.open.ensures.log_reads, ap (λ (x : Geometry). x.blocks) same);
      writes = λ honest quiet k newest blocks sound.
          still_writes numbers_rise k (rules_of c.args.pool k.groups) (restart_works (logical_image_under newest k (g.S.Site.state c.args.site.now).image blocks)) (g.S.Site.state c.args.site.now) (g.S.Site.state c.open.new.site) (omega (arith, sound.octets.limits.groups)) quiet (c.open.ensures.same honest);
      last = λ honest quiet k newest blocks sound. tt;
      performs = λ honest k newest blocks sound. performs_refused (λ d is. c.in-Err-open.ensures.unworn d (ap Err is));
      next = λ honest k limits lengths. next_not_worn (λ d is. c.in-Err-open.ensures.unworn d (ap Err is));
      restarts =
          restarts_stopped (calls_failed (calls_stopped c.open.ensures.preserves c.open.ensures.same c.in-Err-open.ensures.device c.in-Err-open.ensures.faults)) c.in-Err-open.ensures.stops;
      refuses = λ none. absurd (none c.in-Ok.geometry c.in-Ok.ensures.limits c.in-Ok.ensures.lengths);
    }
