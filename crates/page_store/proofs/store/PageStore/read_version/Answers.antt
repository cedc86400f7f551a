use Rattle.page_store.proofs.Names.{rules, ◌≡◌, true, false, arith, sym, ap, subst, ◌∙◌, refl, Ok, page_on, FlashCache, Invariant, Matches, HasQueueOn, PageStore, has_frame, with_read, unchanged_in_sequence, stays_honest, ok_as, ok_always, Image, Log, Disk, Foreign, IsSound}
use Rattle.std.specs.Prelude.{Bool}
use Rattle.second_chance.proofs.Unread.{with_read_none, read_has}
use Rattle.page_store.proofs.PushLaws.{flash_fits_same, flash_holds_same, kept_where}
use Rattle.page_store.proofs.Versions.{flash_later, store_with, fits_with}
use Rattle.page_store.proofs.StagingLaws.{stages_still, queue_same, queue_pushed}
use Rattle.page_store.proofs.store.PageStore.read_version.Given.{Over}
use Rattle.page_store.proofs.store.PageStore.read_version.Goals.{After-read_disk}
use Rattle.page_store.proofs.store.PageStore.read_version.Goals as goal

pub returns-in-Err-clause-reads : goal.returns-in-Err-clause-reads
returns-in-Err-clause-reads g c =
    let same = c.fetch.ensures.reads.same in
    let disk = c.fetch.ensures.reads.others Disk (λ same. cc) in
    let log = c.fetch.ensures.reads.others Log (λ same. cc) in
    let going = store_with c.args.self.now c.fetch.new.self (g.S.Site.state c.args.site.now) (g.S.Site.state c.fetch.new.site) c.fetch.ensures.geometry
    (λ n. ap (λ (f : FlashCache). has_frame f.directory n) c.in-Err.ensures.err) c.fetch.ensures.going c.requires.going in
    search rules

pub returns-then-found-clause-reads : goal.returns-then-found-clause-reads
returns-then-found-clause-reads g c =
    let store = c.args.self.now in
    let has : has_frame store.flash.directory c.args.page ≡ true = sym c.in-Ok.ensures.found ∙ c.if-found.true in
    record {
      calls = search rules;
      same = c.fetch.ensures.reads.same;
      fits = λ fits.
          ok_as c.sound_page.result _ (Matches (record store { flash = c.fetch.new.self }) _) (λ x. fits_with store c.fetch.new.self _ _ fits (ap (λ (f : FlashCache). f.geometry) (c.in-Ok.ensures.marked has)) (c.fetch.ensures.reads.same fits.flash.honest)
          (c.in-Ok.ensures.fits fits.flash) (c.in-Ok.ensures.holds fits.groups fits.flash fits.holds)) c.sound_page.ensures.sound;
      going = store_with store c.fetch.new.self (g.S.Site.state c.args.site.now) (g.S.Site.state c.fetch.new.site) (ap (λ (f : FlashCache). f.geometry) (c.in-Ok.ensures.marked has))
          (λ n. ap (λ (f : FlashCache). has_frame f.directory n) (c.in-Ok.ensures.marked has) ∙ read_has c.args.page store.flash.directory n) c.fetch.ensures.going c.requires.going;
      geometry = search rules;
      segments = c.fetch.ensures.segments;
      ended = refl;
      flash_reads = search rules;
      disk_reads = omega (arith, c.fetch.ensures.reads.others Disk (λ same. cc));
      log_reads = c.fetch.ensures.reads.others Log (λ same. cc);
      foreign = λ is fits. kept_where c.sound_page.result Foreign _ is c.sound_page.ensures.unsound
          (subst IsSound (sym (c.in-Ok.ensures.fetched fits.groups fits.flash fits.holds c.if-found.true)) (fits.sound c.args.page c.requires.exists));
    }

-- no frame was found

module _ (g : Over) (c : After-read_disk g) where
  unframed : has_frame c.args.self.now.flash.directory c.args.page ≡ false
  unframed = sym c.in-Ok.ensures.found ∙ c.if-found.false

  same_geometry : c.fetch.new.self.geometry ≡ c.args.self.now.flash.geometry
  same_geometry = ap (λ (f : FlashCache). f.geometry) (c.fetch.ensures.none unframed).1

  goes_on : Invariant (record c.args.self.now { flash = c.fetch.new.self }) (g.S.Site.state c.read_disk.new.site)
  goes_on =
      let new = g.S.Site.state c.read_disk.new.site in
      let flash = flash_later c.fetch.new.self (g.S.Site.state c.fetch.new.site) new c.read_disk.ensures.calls.preserves c.fetch.ensures.going in
      store_with c.args.self.now c.fetch.new.self (g.S.Site.state c.args.site.now) new same_geometry (λ n. ap (λ (f : FlashCache). has_frame f.directory n) (c.fetch.ensures.none unframed).1) flash c.requires.going

pub returns-in-Ok-read_disk-clause-reads : goal.returns-in-Ok-read_disk-clause-reads
returns-in-Ok-read_disk-clause-reads g c =
    let old = g.S.Site.state c.args.site.now in
    let mid = g.S.Site.state c.fetch.new.site in
    let new = g.S.Site.state c.read_disk.new.site in
    let store = c.args.self.now in
    let cache = c.fetch.new.self in
    let s = (goal.at.returns-in-Ok-read_disk-clause-reads g c).After-read_disk in
    record {
      calls = search rules;
      same = search rules;
      fits = λ fits.
          let first = c.fetch.ensures.reads.same fits.flash.honest in
          let honest = stays_honest old mid c.fetch.ensures.reads.preserves fits.flash.honest in
          let second = c.read_disk.ensures.same honest in
          let flash = ap (λ i. i.flash) second.image in
          ok_as c.sound_page-in-Ok-read_disk.result _ (Matches (record store { flash = cache }) new) (λ x. fits_with store cache old new fits (same_geometry g s) (unchanged_in_sequence old mid new first second)
          (flash_fits_same cache mid new flash (stays_honest mid new c.read_disk.ensures.calls.preserves honest) (c.in-Ok.ensures.fits fits.flash))
          (flash_holds_same cache mid.image new.image fits.groups flash (c.in-Ok.ensures.holds fits.groups fits.flash fits.holds))) c.sound_page-in-Ok-read_disk.ensures.sound;
      going = goes_on g s;
      geometry = same_geometry g s;
      segments = c.fetch.ensures.segments;
      ended = refl;
      flash_reads = search rules;
      disk_reads = search rules;
      log_reads = search rules;
      foreign = λ is fits.
          let first = c.fetch.ensures.reads.same fits.flash.honest in
          let read = c.in-Ok-read_disk.ensures.read (stays_honest old mid c.fetch.ensures.reads.preserves fits.flash.honest) in
          kept_where c.sound_page-in-Ok-read_disk.result Foreign _ is c.sound_page-in-Ok-read_disk.ensures.unsound
          (subst IsSound (sym (read ∙ ap (λ (i : Image). page_on c.args.page i.disk) first.image ∙ sym (c.unframed_is_disk.ensures store.flash old.image fits.groups c.args.page fits.holds (unframed g s)))) (fits.sound c.args.page c.requires.exists));
    }

pub returns-in-Ok-read_disk-clause-queue : goal.returns-in-Ok-read_disk-clause-queue
returns-in-Ok-read_disk-clause-queue g c =
    let none = unframed g (goal.at.returns-in-Ok-read_disk-clause-queue g c).After-read_disk in
    ok_always c.sound_page-in-Ok-read_disk.result (c.fetch.new.self.directory ≡ with_read c.args.page _)
    (ap (λ (f : FlashCache). f.directory) (c.fetch.ensures.none none).1 ∙ sym (with_read_none c.args.page _ none))

pub returns-in-Err-read_disk-clause-reads : goal.returns-in-Err-read_disk-clause-reads
returns-in-Err-read_disk-clause-reads g c =
    let going = goes_on g (goal.at.returns-in-Err-read_disk-clause-reads g c).After-read_disk in
    let none = unframed g (goal.at.returns-in-Err-read_disk-clause-reads g c).After-read_disk in
    search rules

pub returns-in-Err-clause-stages : goal.returns-in-Err-clause-stages
returns-in-Err-clause-stages g c = stages_still tt (omega arith) c.fetch.ensures.reads.same c.fetch.ensures.geometry tt (λ has. tt)

pub returns-then-found-clause-stages : goal.returns-then-found-clause-stages
returns-then-found-clause-stages g c =
    let has : has_frame c.args.self.now.flash.directory c.args.page ≡ true = sym c.in-Ok.ensures.found ∙ c.if-found.true in
    let same = ap (λ (f : FlashCache). f.directory.first) (c.in-Ok.ensures.marked has) in
    stages_still (ok_always c.sound_page.result _ refl) (omega arith) c.fetch.ensures.reads.same c.fetch.ensures.geometry (ok_always c.sound_page.result _ (omega (arith, same))) (λ has.
    ok_always c.sound_page.result (HasQueueOn (record c.args.self.now { flash = c.fetch.new.self }) (g.S.Site.state c.fetch.new.site))
    (queue_pushed {T = Bool} (Ok c.in-Ok.found) c.fetch.new.self c.args.self.now has.groups (g.S.Site.state c.fetch.new.site) c.fetch.ensures.going (c.in-Ok.ensures.fits has.fits) (c.in-Ok.ensures.holds has.groups has.fits has.holds)))

pub returns-in-Ok-read_disk-clause-stages : goal.returns-in-Ok-read_disk-clause-stages
returns-in-Ok-read_disk-clause-stages g c =
    let store = c.args.self.now in
    let mid = g.S.Site.state c.fetch.new.site in
    let new = g.S.Site.state c.read_disk.new.site in
    let after : PageStore = record store { flash = c.fetch.new.self } in
    let unread = unframed g (goal.at.returns-in-Ok-read_disk-clause-stages g c).After-read_disk in
    let first = ap (λ (f : FlashCache). f.directory.first) (c.fetch.ensures.none unread).1 in
    stages_still (ok_always c.sound_page-in-Ok-read_disk.result _ refl) (omega arith) (search rules) c.fetch.ensures.geometry (ok_always c.sound_page-in-Ok-read_disk.result _ (omega (arith, first))) (λ has.
    let honest = stays_honest (g.S.Site.state c.args.site.now) mid c.fetch.ensures.reads.preserves has.fits.honest in
    let second = c.read_disk.ensures.same honest in
    ok_always c.sound_page-in-Ok-read_disk.result (HasQueueOn after new)
    (queue_same after after mid new refl (ap (λ i. i.flash) second.image) (stays_honest mid new c.read_disk.ensures.calls.preserves honest)
    (queue_pushed {T = Bool} (Ok c.in-Ok.found) c.fetch.new.self store has.groups mid c.fetch.ensures.going (c.in-Ok.ensures.fits has.fits) (c.in-Ok.ensures.holds has.groups has.fits has.holds))))

pub returns-in-Err-read_disk-clause-stages : goal.returns-in-Err-read_disk-clause-stages
returns-in-Err-read_disk-clause-stages g c = stages_still tt (omega arith) (search rules) c.fetch.ensures.geometry tt (λ has. tt)
