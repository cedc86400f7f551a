use Rattle.page_store.proofs.Names.{rules, refl, ◌≡◌, ◌<◌, None, false, List, ◌∷◌, map, length, sym, ap, subst, ◌∙◌, Pool, frame_of, Frame, version_on, pool_page, cache_of, Matches, IsPage, Cache, in_front, with_read, ok_as, ok_always}
use Rattle.page_store.proofs.Pools.{in_front_absent}
use Rattle.page_store.proofs.Entering.{put_fits, put_going}
use Rattle.page_store.proofs.StagingLaws.{stages_between, stages_result}
use Rattle.page_store.proofs.store.PageStore.read_in.Goals as goal

pub returns-in-Ok-clause-reads : goal.returns-in-Ok-clause-reads
returns-in-Ok-clause-reads g c =
    let new = g.S.Site.state c.read_version.new.site in
    let mid = c.read_version.new.self in
    let read = c.read_version.ensures.reads in
    let frame : Frame = record { page = c.args.page; changed = false; content = c.in-Ok.content } in
    let none : frame_of mid.pool.frames c.args.page ≡ None = subst (λ (p : Pool). frame_of p.frames c.args.page ≡ None) (sym c.read_version.ensures.pool) c.requires.absent in
    let room : length mid.pool.frames < mid.pool.size = subst (λ (p : Pool). length p.frames < p.size) (sym c.read_version.ensures.pool) c.requires.room in
    let page : IsPage mid.flash.geometry.pages frame = record { sound = c.in-Ok.ensures.sound; exists = subst (λ h. c.args.page < h.pages) (sym read.geometry) c.requires.exists } in
    record {
      calls = search rules;
      same = read.same;
      fits = λ fits.
          let version : c.in-Ok.content ≡ version_on mid.flash.geometry new.image c.args.page =
          c.in-Ok.ensures.read fits ∙ (λ i. version_on (sym read.geometry i) (sym (read.same fits.flash.honest).image i) c.args.page) in
          ok_as c.put.result _ (Matches (record mid { pool = c.put.new.self }) new)
          (λ put. put_fits mid c.put.new.self frame new (ap (λ (p : Pool). p.frames) put) version (c.in-Ok.ensures.reads.fits fits)) c.put.ensures.ok;
      going = put_going c.put.result mid c.put.new.self frame c.holds-framed.result new c.put.ensures.ok c.put.ensures.framed c.put.ensures.err c.holds-framed.ensures none room page read.going;
      geometry = read.geometry;
      segments = read.segments;
      ended = read.ended;
      flash_reads = read.flash_reads;
      disk_reads = read.disk_reads;
      log_reads = read.log_reads;
      foreign = search rules;
    }

pub returns-in-Ok-clause-machine : goal.returns-in-Ok-clause-machine
returns-in-Ok-clause-machine g c =
    let store = c.args.self.now in
    let frames = ap (λ (p : Pool). p.frames) c.read_version.ensures.pool in
    ok_as c.put.result _ (cache_of (record c.read_version.new.self { pool = c.put.new.self }) ≡ in_front c.args.page false (cache_of store))
    (λ put. (λ i. let k : Cache = record { pool = map pool_page (put i).frames; queue = c.in-Ok.ensures.queue i } in k)
    ∙ ap (λ (l : List Frame). let k : Cache = record { pool = record { page = c.args.page; changed = false } ∷ map pool_page l; queue = with_read c.args.page store.flash.directory } in k) frames
    ∙ in_front_absent store.pool.frames store.flash.directory c.args.page c.requires.absent)
    c.put.ensures.ok

pub returns-in-Ok-clause-stages : goal.returns-in-Ok-clause-stages
returns-in-Ok-clause-stages g c = stages_between refl refl (stages_result (λ P p. ok_always c.put.result P p) c.in-Ok.ensures.stages)
