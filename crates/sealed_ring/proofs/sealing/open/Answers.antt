use Rattle.sealed_ring.proofs.Names.{arith, region, LeavesEither, Opens, then_sync, stays_honest, one_call_more, ok_as, on_ok}
use Rattle.sealed_ring.proofs.Runs.{opening, opened, wrote_changes, synced_changes, changes_in_sequence}
use Rattle.sealed_ring.proofs.sealing.open.Goals as goal

pub returns-in_err-write_at-clause-any_moment : goal.returns-in_err-write_at-clause-any_moment
returns-in_err-write_at-clause-any_moment g c honest settled staged =
    opening c.args.shape c.args.hi (g.S.Site.state c.args.site.now) c.requires.fits c.requires.bounded (g.S.Site.state c.write_at.new.self) c.write_at.result settled staged (c.write_at.ensures.wrote honest)

pub returns-in_err-write_at-clause-changes : goal.returns-in_err-write_at-clause-changes
returns-in_err-write_at-clause-changes g c honest =
    wrote_changes c.args.shape.dev _ _ (g.S.Site.state c.args.site.now) (g.S.Site.state c.write_at.new.self) c.write_at.result (c.write_at.ensures.wrote honest)

pub returns-clause-any_moment : goal.returns-clause-any_moment
returns-clause-any_moment g c honest settled staged =
    let old = g.S.Site.state c.args.site.now in
    let mid = g.S.Site.state c.write_at.new.self in
    let new = g.S.Site.state c.sync.new.self in
    then_sync old mid new (LeavesEither c.args.shape c.args.hi (region c.args.shape old)) c.args.shape.dev c.sync.result
    (opening c.args.shape c.args.hi old c.requires.fits c.requires.bounded mid c.write_at.result settled staged (c.write_at.ensures.wrote honest))
    (c.sync.ensures.synced (stays_honest old mid c.write_at.ensures.preserves honest))

pub returns-clause-changes : goal.returns-clause-changes
returns-clause-changes g c honest =
    let dev = c.args.shape.dev in
    let old = g.S.Site.state c.args.site.now in
    let mid = g.S.Site.state c.write_at.new.self in
    let new = g.S.Site.state c.sync.new.self in
    changes_in_sequence dev old mid new
    (wrote_changes dev _ _ old mid c.write_at.result (c.write_at.ensures.wrote honest))
    (synced_changes dev mid new c.sync.result (c.sync.ensures.synced (stays_honest old mid c.write_at.ensures.preserves honest)))

pub returns-clause-opens : goal.returns-clause-opens
returns-clause-opens g c honest =
    let old = g.S.Site.state c.args.site.now in
    let mid = g.S.Site.state c.write_at.new.self in
    let new = g.S.Site.state c.sync.new.self in
    on_ok c.sync.result (Opens c.args.shape c.args.hi (region c.args.shape old) (region c.args.shape new))
    (opened c.args.shape c.args.hi old c.requires.fits c.requires.bounded mid new c.sync.result (c.in_ok-write_at.ensures.wrote honest).written
    (c.sync.ensures.synced (stays_honest old mid c.write_at.ensures.preserves honest)))

pub returns-clause-device_calls : goal.returns-clause-device_calls
returns-clause-device_calls g c honest =
    let old = g.S.Site.state c.args.site.now in
    let mid = g.S.Site.state c.write_at.new.self in
    let new = g.S.Site.state c.sync.new.self in
    let one = one_call_more _ old mid (c.in_ok-write_at.ensures.wrote honest).past_ok in
    ok_as c.sync.result _ _ (λ adds. let two = one_call_more _ mid new adds in omega (arith, one, two))
    (c.sync.ensures.synced (stays_honest old mid c.write_at.ensures.preserves honest)).past_ok
