use Rattle.page_store.proofs.Names.{rules, ap, map, false, Pool, pool_page, AreTold, PageStore, Cache, err_again}
use Rattle.page_store.proofs.ToldPages.{told_none}
use Rattle.page_store.proofs.Fitting.{fits_at_start}
use Rattle.page_store.proofs.store.PageStore.start.Goals as goal

pub returns-in-Err-clause-foreign : goal.returns-in-Err-clause-foreign
returns-in-Err-clause-foreign g c says honest first groups has saved = c.in-Err.ensures.foreign (err_again _ _ says) honest first groups has saved

pub returns-clause-machine : goal.returns-clause-machine
returns-clause-machine g c honest first groups has saved = λ i. let cache : Cache = record {
  pool = map pool_page (c.in_ok-pool.ensures.empty i).frames;
  queue = c.in-Ok.ensures.queue honest first groups has saved i;
} in cache

pub returns-clause-fits : goal.returns-clause-fits
returns-clause-fits g c honest first groups has saved clean sound =
    let old = g.S.Site.state c.args.site.now in
    let new = g.S.Site.state c.start.new.site in
    let store : PageStore = record { alloc = c.args.alloc; pool = c.in_ok-pool.pool; flash = c.in-Ok.flash; ended = false } in
    fits_at_start store c.args.geometry.now old new groups c.in-Ok.ensures.geometry (ap (λ (p : Pool). p.frames) c.in_ok-pool.ensures.empty) (c.start.ensures.reads.same honest).image
    (c.in-Ok.ensures.fits honest first groups has saved) (c.in-Ok.ensures.holds honest first groups has saved) clean sound

pub returns-clause-going : goal.returns-clause-going
returns-clause-going g c =
    let store : PageStore = record { alloc = c.args.alloc; pool = c.in_ok-pool.pool; flash = c.in-Ok.flash; ended = false } in
    let told : AreTold store = told_none store (ap (λ (p : Pool). p.frames) c.in_ok-pool.ensures.empty) in
    search rules
