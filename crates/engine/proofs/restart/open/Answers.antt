use Rattle.engine.proofs.Names.{◌≡◌, ◌∙◌, ◌-◌, ◌≤◌, List, [], Option, sym, subst, arith, ap, Master, IsSound, read_of, cache_on, groups_on, log_shape, segment_shape, AreOctetsSoundUnder, kept_by, saved_by, LogRecord, LogStore, region, hi_of, stays_honest, unchanged_in_sequence, goes_in_sequence, err_again, IsUnchanged, Image, Geometry, Log, Flash, Disk, Foreign}
use Rattle.sealed_ring.specs.declared.slots.Shape.{Shape}
use Rattle.engine.proofs.Openings.{has_groups, first_on, there_is_newest, masters_form, kept_is, both_go_on, readable_now, ready_now}
use Rattle.std.specs.Prelude.{IsTrue}
use Rattle.engine.proofs.restart.open.Given.{Over}
use Rattle.engine.proofs.restart.open.Goals.{After-newest}
use Rattle.log_store.specs.Representation as log_store
use Rattle.engine.proofs.restart.open.Goals as goal

pub returns-in-Err-start-clause-readable : goal.returns-in-Err-start-clause-readable
returns-in-Err-start-clause-readable g c honest newest blocks sound is =
    let old = g.S.Site.state c.args.site.now in
    let mid = g.S.Site.state c.start.new.site in
    let k = c.args.geometry.now in
    let there = subst (AreOctetsSoundUnder newest k) (sym (c.start.ensures.reads.same honest).image) sound.octets in
    c.in-Err-start.ensures.foreign (err_again c.in-Err-start.stop Foreign is) (stays_honest old mid c.start.ensures.reads.preserves honest) (first_on k mid.image) (groups_on k mid.image) (has_groups k mid.image there.groups) there.segments

-- Behind all that it reads.
module _ (g : Over) (c : After-newest g) (honest : IsTrue (g.S.Site.state c.args.site.now).honest) where
  honest_mid : IsTrue (g.S.Site.state c.start.new.site).honest
  honest_mid = stays_honest (g.S.Site.state c.args.site.now) (g.S.Site.state c.start.new.site) c.start.ensures.reads.preserves honest

  honest_found : IsTrue (g.S.Site.state c.start-2.new.site).honest
  honest_found = stays_honest (g.S.Site.state c.start.new.site) (g.S.Site.state c.start-2.new.site) c.start-2.ensures.preserves honest_mid

  unchanged : IsUnchanged (g.S.Site.state c.args.site.now) (g.S.Site.state c.newest.new.site)
  unchanged = unchanged_in_sequence _ _ _ (c.start.ensures.reads.same honest)
      (unchanged_in_sequence _ _ _ (c.start-2.ensures.same honest_mid) (c.newest.ensures.reads.same honest_found))

  there : (newest : Option Master) → AreOctetsSoundUnder newest c.args.geometry.now (g.S.Site.state c.args.site.now).image →
      AreOctetsSoundUnder newest c.args.geometry.now (g.S.Site.state c.start-2.new.site).image
  there newest octets = subst (AreOctetsSoundUnder newest c.args.geometry.now)
      (sym (c.start.ensures.reads.same honest).image ∙ sym (c.start-2.ensures.same honest_mid).image) octets

-- the newest master's kept block is live or the next one
kept_lives : (newest : Option Master) (k : Geometry) (image : Image) (blocks : List (List LogRecord)) (log : LogStore) (m : Master) → IsSound newest k image blocks → m ≡ saved_by newest → log.ring.hi ≡ hi_of (log_shape k) image.log →
    log.kept ≡ log.ring.hi - (k.blocks - 1) → (log.kept ≤ m.kept) × (m.kept ≤ log.ring.hi)
kept_lives newest k image blocks log m sound is hi kept =
    let same : m.kept ≡ kept_by newest = ap (λ (x : Master). x.kept) is ∙ kept_is newest in
    (omega (arith, same, sound.held.next, sound.held.few, hi, kept), omega (arith, same, sound.held.next, hi))

pub returns-in-Ok-keep_from-clause-ready : goal.returns-in-Ok-keep_from-clause-ready
returns-in-Ok-keep_from-clause-ready g c honest newest blocks table commits sound means =
    let old = g.S.Site.state c.args.site.now in
    let mid = g.S.Site.state c.start.new.site in
    let found = g.S.Site.state c.start-2.new.site in
    let new = g.S.Site.state c.newest.new.site in
    let k = c.args.geometry.now in
    let s = (goal.at.returns-in-Ok-keep_from-clause-ready g c).After-newest in
    let same_first = c.start.ensures.reads.same honest in
    let honest_mid = honest_mid g s honest in
    let honest_found = honest_found g s honest in
    let there_mid = subst (AreOctetsSoundUnder newest k) (sym same_first.image) sound.octets in
    let there_found = there g s honest newest sound.octets in
    let master = c.in-Ok-newest.master in
    let is = c.one_master.ensures.newest found.image master (saved_by newest) (c.in-Ok-newest.ensures.master honest_found) (there_is_newest newest k found.image there_found.masters) in
    let keeps = c.in-Ok-keep_from.ensures.keeps in
    let finds = subst (λ (log : LogStore). log_store.Finds log mid) (sym keeps) (record { honest = (c.in-Ok.ensures.found honest sound.held.form).honest; form = (c.in-Ok.ensures.found honest sound.held.form).form; hi = (c.in-Ok.ensures.found honest sound.held.form).hi }) in
    let held = c.in-Ok.ensures.holds honest (kept_by newest) blocks sound.held in
    ready_now k c.keep_from.new.log c.in-Ok-start.pages old mid found new c.start.ensures.reads.preserves same_first c.start-2.ensures.preserves
    (c.start-2.ensures.same honest_mid) c.newest.ensures.reads.preserves (c.newest.ensures.reads.same honest_found)
    c.in-Ok-newest.masters master newest blocks table commits c.in-Ok-start.ensures.geometry c.in-Ok-start.ensures.empty (ap (λ (log : LogStore). log.kept) keeps) is
    (c.in-Ok-start.ensures.fits honest_mid (first_on k mid.image) (groups_on k mid.image)
    (has_groups k mid.image there_mid.groups) there_mid.segments there_mid.clean there_mid.versions)
    (c.in-Ok-newest.ensures.found honest_found (masters_form newest k found.image there_found.masters)) finds
    (subst (λ (log : LogStore). log_store.HasBlocks log.geometry (kept_by newest) blocks mid.image) (sym keeps) held.blocks)
    (subst (λ (log : LogStore). log_store.HasTail log.tail log.used []) (sym keeps) held.tail) sound means

pub returns-in-Ok-keep_from-clause-legible : goal.returns-in-Ok-keep_from-clause-legible
returns-in-Ok-keep_from-clause-legible g c honest newest blocks h =
    let old = g.S.Site.state c.args.site.now in
    let mid = g.S.Site.state c.start.new.site in
    let found = g.S.Site.state c.start-2.new.site in
    let new = g.S.Site.state c.newest.new.site in
    let k = c.args.geometry.now in
    let s = (goal.at.returns-in-Ok-keep_from-clause-legible g c).After-newest in
    let same_first = c.start.ensures.reads.same honest in
    let honest_mid = honest_mid g s honest in
    let honest_found = honest_found g s honest in
    let there_mid = subst (AreOctetsSoundUnder newest k) (sym same_first.image) h.octets in
    let there_found = there g s honest newest h.octets in
    let master = c.in-Ok-newest.master in
    let is = c.one_master.ensures.newest found.image master (saved_by newest) (c.in-Ok-newest.ensures.master honest_found) (there_is_newest newest k found.image there_found.masters) in
    let keeps = c.in-Ok-keep_from.ensures.keeps in
    let finds = subst (λ (log : LogStore). log_store.Finds log mid) (sym keeps) (record { honest = (c.in-Ok.ensures.found honest h.held.form).honest; form = (c.in-Ok.ensures.found honest h.held.form).form; hi = (c.in-Ok.ensures.found honest h.held.form).hi }) in
    let held = c.in-Ok.ensures.holds honest (kept_by newest) blocks h.held in (
      is,
      readable_now k c.keep_from.new.log c.in-Ok-start.pages old mid found new c.start.ensures.reads.preserves same_first c.start-2.ensures.preserves
          (c.start-2.ensures.same honest_mid) c.newest.ensures.reads.preserves (c.newest.ensures.reads.same honest_found)
          master (read_of k old.image newest blocks) (ap (λ (log : LogStore). log.kept) keeps) is
          (c.in-Ok-start.ensures.fits honest_mid (first_on k mid.image) (groups_on k mid.image)
          (has_groups k mid.image there_mid.groups) there_mid.segments there_mid.clean there_mid.versions) finds
          (subst (λ (log : LogStore). log_store.HasBlocks log.geometry (kept_by newest) blocks mid.image) (sym keeps) held.blocks)
          (subst (λ (log : LogStore). log_store.HasTail log.tail log.used []) (sym keeps) held.tail),
    )

pub returns-in-Ok-keep_from-clause-preserves : goal.returns-in-Ok-keep_from-clause-preserves
returns-in-Ok-keep_from-clause-preserves g c =
    goes_in_sequence (g.S.Site.state c.args.site.now) _ _ c.start.ensures.reads.preserves (goes_in_sequence _ _ _ c.start-2.ensures.preserves c.newest.ensures.reads.preserves)

pub returns-in-Ok-keep_from-clause-going : goal.returns-in-Ok-keep_from-clause-going
returns-in-Ok-keep_from-clause-going g c = record {
  going = both_go_on c.keep_from.new.log c.in-Ok-start.pages (g.S.Site.state c.start.new.site) (g.S.Site.state c.start-2.new.site) (g.S.Site.state c.newest.new.site) c.start-2.ensures.preserves c.newest.ensures.reads.preserves
      (c.in-Ok-keep_from.ensures.going (g.S.Site.state c.start.new.site) c.in-Ok.ensures.going) c.in-Ok-start.ensures.going
      (ap (λ (log : LogStore). log.geometry) c.in-Ok-keep_from.ensures.keeps ∙ c.in-Ok.ensures.geometry ∙ sym c.in-Ok-start.ensures.geometry) (ap (λ (log : LogStore). log.used) c.in-Ok-keep_from.ensures.keeps ∙ c.in-Ok.ensures.empty);
  ascend = c.in-Ok-newest.ensures.ascend;
  few = c.in-Ok-newest.ensures.few;
  masters = c.in-Ok-newest.ensures.usable;
  shape = c.in-Ok-newest.ensures.shape;
}

pub returns-in-Err-keep_from-clause-readable : goal.returns-in-Err-keep_from-clause-readable
returns-in-Err-keep_from-clause-readable g c honest newest blocks sound is =
    let s = (goal.at.returns-in-Err-keep_from-clause-readable g c).After-newest in
    let old = g.S.Site.state c.args.site.now in
    let found = g.S.Site.state c.start-2.new.site in
    let k = c.args.geometry.now in
    let master = c.in-Ok-newest.master in
    let master_is = c.one_master.ensures.newest found.image master (saved_by newest) (c.in-Ok-newest.ensures.master (honest_found g s honest))
    (there_is_newest newest k found.image (there g s honest newest sound.octets).masters) in
    let finds = c.in-Ok.ensures.found honest sound.held.form in
    let hi : c.in-Ok.log.ring.hi ≡ hi_of (log_shape k) old.image.log = finds.hi ∙ ap
    (λ (x : Geometry). hi_of (log_shape x) (g.S.Site.state c.start.new.site).image.log) c.in-Ok.ensures.geometry ∙ ap (λ (i : Image). hi_of (log_shape k) i.log)
    (c.start.ensures.reads.same honest).image in
    let lives = kept_lives newest k old.image blocks c.in-Ok.log master sound master_is hi c.in-Ok.ensures.kept in
    c.in-Err-keep_from.ensures.live lives.0 lives.1

pub returns-in-Err-newest-clause-readable : goal.returns-in-Err-newest-clause-readable
returns-in-Err-newest-clause-readable g c honest newest blocks sound is =
    let s = (goal.at.returns-in-Err-newest-clause-readable g c).After-newest in
    let found = g.S.Site.state c.start-2.new.site in
    let masters = (there g s honest newest sound.octets).masters in
    c.in-Err-newest.ensures.foreign (err_again c.in-Err-newest.stop Foreign is) (honest_found g s honest) (masters_form newest _ found.image masters)
    (saved_by newest) (there_is_newest newest _ found.image masters)

pub returns-in-Ok-keep_from-clause-cache : goal.returns-in-Ok-keep_from-clause-cache
returns-in-Ok-keep_from-clause-cache g c honest newest blocks sound =
    let old = g.S.Site.state c.args.site.now in
    let mid = g.S.Site.state c.start.new.site in
    let k = c.args.geometry.now in
    let same = (c.start.ensures.reads.same honest).image in
    let there = subst (AreOctetsSoundUnder newest k) (sym same) sound.octets in
    c.in-Ok-start.ensures.machine (stays_honest old mid c.start.ensures.reads.preserves honest) (first_on k mid.image) (groups_on k mid.image) (has_groups k mid.image there.groups) there.segments ∙ ap (λ (image : Image). cache_on k image) same

pub returns-in-Err-clause-flash_reads : goal.returns-in-Err-clause-flash_reads
returns-in-Err-clause-flash_reads g c = let f = c.start.ensures.reads.others Flash (λ e. cc) in omega (arith, f)

pub returns-in-Err-clause-disk_reads : goal.returns-in-Err-clause-disk_reads
returns-in-Err-clause-disk_reads g c = c.start.ensures.reads.others Disk (λ e. cc)

pub returns-in-Err-start-clause-flash_reads : goal.returns-in-Err-start-clause-flash_reads
returns-in-Err-start-clause-flash_reads g c = let f = c.start.ensures.reads.others Flash (λ e. cc) in let r = c.start-2.ensures.reads in omega (arith, f, r)

pub returns-in-Err-start-clause-disk_reads : goal.returns-in-Err-start-clause-disk_reads
returns-in-Err-start-clause-disk_reads g c = c.start-2.ensures.others Disk (λ e. cc) ∙ c.start.ensures.reads.others Disk (λ e. cc)

pub returns-in-Err-newest-clause-flash_reads : goal.returns-in-Err-newest-clause-flash_reads
returns-in-Err-newest-clause-flash_reads g c = let f = c.start.ensures.reads.others Flash (λ e. cc) in let r = c.start-2.ensures.reads in let n = c.newest.ensures.reads.others Flash (λ e. cc) in omega (arith, f, r, n)

pub returns-in-Err-newest-clause-disk_reads : goal.returns-in-Err-newest-clause-disk_reads
returns-in-Err-newest-clause-disk_reads g c = c.newest.ensures.reads.others Disk (λ e. cc) ∙ c.start-2.ensures.others Disk (λ e. cc) ∙ c.start.ensures.reads.others Disk (λ e. cc)

pub returns-in-Ok-keep_from-clause-flash_reads : goal.returns-in-Ok-keep_from-clause-flash_reads
returns-in-Ok-keep_from-clause-flash_reads g c = let f = c.start.ensures.reads.others Flash (λ e. cc) in let r = c.start-2.ensures.reads in let n = c.newest.ensures.reads.others Flash (λ e. cc) in omega (arith, f, r, n)

pub returns-in-Ok-keep_from-clause-disk_reads : goal.returns-in-Ok-keep_from-clause-disk_reads
returns-in-Ok-keep_from-clause-disk_reads g c = c.newest.ensures.reads.others Disk (λ e. cc) ∙ c.start-2.ensures.others Disk (λ e. cc) ∙ c.start.ensures.reads.others Disk (λ e. cc)

pub returns-in-Err-keep_from-clause-flash_reads : goal.returns-in-Err-keep_from-clause-flash_reads
returns-in-Err-keep_from-clause-flash_reads g c = let f = c.start.ensures.reads.others Flash (λ e. cc) in let r = c.start-2.ensures.reads in let n = c.newest.ensures.reads.others Flash (λ e. cc) in omega (arith, f, r, n)

pub returns-in-Err-keep_from-clause-disk_reads : goal.returns-in-Err-keep_from-clause-disk_reads
returns-in-Err-keep_from-clause-disk_reads g c = c.newest.ensures.reads.others Disk (λ e. cc) ∙ c.start-2.ensures.others Disk (λ e. cc) ∙ c.start.ensures.reads.others Disk (λ e. cc)

pub returns-in-Ok-keep_from-clause-same : goal.returns-in-Ok-keep_from-clause-same
returns-in-Ok-keep_from-clause-same g c honest = unchanged g (goal.at.returns-in-Ok-keep_from-clause-same g c).After-newest honest

pub returns-in-Err-keep_from-clause-same : goal.returns-in-Err-keep_from-clause-same
returns-in-Err-keep_from-clause-same g c honest = unchanged g (goal.at.returns-in-Err-keep_from-clause-same g c).After-newest honest

pub returns-in-Err-newest-clause-same : goal.returns-in-Err-newest-clause-same
returns-in-Err-newest-clause-same g c honest = unchanged g (goal.at.returns-in-Err-newest-clause-same g c).After-newest honest

pub returns-in-Err-keep_from-clause-preserves : goal.returns-in-Err-keep_from-clause-preserves
returns-in-Err-keep_from-clause-preserves g c = goes_in_sequence _ _ _ c.start.ensures.reads.preserves (goes_in_sequence _ _ _ c.start-2.ensures.preserves c.newest.ensures.reads.preserves)

pub returns-in-Err-clause-log_reads : goal.returns-in-Err-clause-log_reads
returns-in-Err-clause-log_reads g c = omega (arith, c.start.ensures.reads.reads)

pub returns-in-Err-start-clause-log_reads : goal.returns-in-Err-start-clause-log_reads
returns-in-Err-start-clause-log_reads g c = let s = c.start-2.ensures.others Log (λ e. cc) in omega (arith, c.start.ensures.reads.reads, s)

pub returns-in-Err-newest-clause-log_reads : goal.returns-in-Err-newest-clause-log_reads
returns-in-Err-newest-clause-log_reads g c = let s = c.start-2.ensures.others Log (λ e. cc) in omega (arith, c.start.ensures.reads.reads, s, c.newest.ensures.reads.reads)

pub returns-in-Ok-keep_from-clause-log_reads : goal.returns-in-Ok-keep_from-clause-log_reads
returns-in-Ok-keep_from-clause-log_reads g c = let s = c.start-2.ensures.others Log (λ e. cc) in omega (arith, c.start.ensures.reads.reads, s, c.newest.ensures.reads.reads)

pub returns-in-Err-keep_from-clause-log_reads : goal.returns-in-Err-keep_from-clause-log_reads
returns-in-Err-keep_from-clause-log_reads g c = let s = c.start-2.ensures.others Log (λ e. cc) in omega (arith, c.start.ensures.reads.reads, s, c.newest.ensures.reads.reads)

pub returns-in-Ok-keep_from-clause-next : goal.returns-in-Ok-keep_from-clause-next
returns-in-Ok-keep_from-clause-next g c honest =
    let s = (goal.at.returns-in-Ok-keep_from-clause-next g c).After-newest in
    let new = g.S.Site.state c.newest.new.site in
    let read = (c.newest.ensures.reads.same (honest_found g s honest)).image in
    let behind = read ∙ (c.start-2.ensures.same (honest_mid g s honest)).image in
    let log = c.in-Ok.log in
    let master = c.in-Ok-newest.masters in
    record {
      block = subst (λ (l : LogStore). log_store.IsNext l new) (sym c.in-Ok-keep_from.ensures.keeps) (c.in-Ok.ensures.is_next honest ∙ ap (λ (i : Image). hi_of (log_shape log.geometry) i.log) (sym behind));
      master = subst (λ (p : Shape). master.hi ≡ hi_of p (region p new)) c.in-Ok-newest.ensures.shape (c.in-Ok-newest.ensures.fits (honest_found g s honest));
      segment = c.in-Ok-start.ensures.is_next (honest_mid g s honest) ∙ ap (λ (i : Image). hi_of (segment_shape c.in-Ok-start.pages.flash.geometry) i.flash) (sym read);
    }
