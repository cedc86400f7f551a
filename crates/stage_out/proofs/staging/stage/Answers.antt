use Rattle.std.proofs.Common.{◌<◌, length, arith}
use Rattle.std.proofs.lemmas.Result.{on_ok_weaker}
use Rattle.std_lemmas.proofs.Results.{on_ok}
use Rattle.site.specs.declared.outside.Dev.TheVariants.{Disk}
use Rattle.site.proofs.Laws.{stays_honest, changes_in_sequence, quiet_again}
use Rattle.disk_pages.proofs.Calling.{writes_then}
use Rattle.stage_out.proofs.Steps.{nothing_left}
use Rattle.stage_out.proofs.Done.{left_staged, front, none_front, staged, staged_reaches, sync_left}
use Rattle.stage_out.proofs.staging.stage.Goals as goal

pub returns-then-is_empty-clause-any_moment : goal.returns-then-is_empty-clause-any_moment
returns-then-is_empty-clause-any_moment g c honest =
    let old = g.S.Site.state c.args.site.now in
    left_staged c.args.pages.now old old (nothing_left c.args.pages.now old)

pub returns-then-is_empty-clause-front : goal.returns-then-is_empty-clause-front
returns-then-is_empty-clause-front g c geometry honest lengths quiet = none_front geometry c.args.pages.now (g.S.Site.state c.args.site.now) quiet

pub returns-in_err-write_all-clause-any_moment : goal.returns-in_err-write_all-clause-any_moment
returns-in_err-write_all-clause-any_moment g c honest =
    left_staged c.args.pages.now (g.S.Site.state c.args.site.now) (g.S.Site.state c.write_all.new.site) (c.write_all.ensures.left honest)

pub returns-in_err-write_all-clause-front : goal.returns-in_err-write_all-clause-front
returns-in_err-write_all-clause-front g c geometry honest lengths quiet =
    let old = g.S.Site.state c.args.site.now in
    let new = g.S.Site.state c.write_all.new.site in
    let some : 0 < length c.args.pages.now = grind arith in
    front geometry c.args.pages.now old new some lengths c.requires.lie quiet (left_staged c.args.pages.now old new (c.write_all.ensures.left honest))

pub returns-clause-any_moment : goal.returns-clause-any_moment
returns-clause-any_moment g c honest =
    let old = g.S.Site.state c.args.site.now in
    let mid = g.S.Site.state c.write_all.new.site in
    let new = g.S.Site.state c.sync_disk.new.site in
    let later = stays_honest old mid c.write_all.ensures.writes.preserves honest in
    left_staged c.args.pages.now old new (sync_left c.args.pages.now old mid new (c.write_all.ensures.left honest) (c.sync_disk.ensures.changes later) (c.sync_disk.ensures.any_moment later))

pub returns-clause-front : goal.returns-clause-front
returns-clause-front g c geometry honest lengths quiet =
    let old = g.S.Site.state c.args.site.now in
    let mid = g.S.Site.state c.write_all.new.site in
    let new = g.S.Site.state c.sync_disk.new.site in
    let later = stays_honest old mid c.write_all.ensures.writes.preserves honest in
    let some : 0 < length c.args.pages.now = grind arith in
    front geometry c.args.pages.now old new some lengths c.requires.lie quiet
    (left_staged c.args.pages.now old new (sync_left c.args.pages.now old mid new (c.write_all.ensures.left honest) (c.sync_disk.ensures.changes later) (c.sync_disk.ensures.any_moment later)))

pub returns-clause-reaches : goal.returns-clause-reaches
returns-clause-reaches g c geometry honest lengths =
    let old = g.S.Site.state c.args.site.now in
    let mid = g.S.Site.state c.write_all.new.site in
    let new = g.S.Site.state c.sync_disk.new.site in
    let later = stays_honest old mid c.write_all.ensures.writes.preserves honest in
    let some : 0 < length c.args.pages.now = grind arith in
    let pages = c.args.pages.now in
    let contents = c.args.contents.now in
    on_ok c.sync_disk.result _ (staged_reaches geometry pages contents old new some lengths c.requires.lie
    (changes_in_sequence Disk old mid new (c.write_all.ensures.left honest).changes (c.sync_disk.ensures.changes later))
    (staged pages contents old mid new (c.in_ok-write_all.ensures.written honest) (c.sync_disk.ensures.image later)))

pub returns-clause-changes : goal.returns-clause-changes
returns-clause-changes g c honest =
    let old = g.S.Site.state c.args.site.now in
    let mid = g.S.Site.state c.write_all.new.site in
    let new = g.S.Site.state c.sync_disk.new.site in
    let later = stays_honest old mid c.write_all.ensures.writes.preserves honest in
    changes_in_sequence Disk old mid new (c.write_all.ensures.left honest).changes (c.sync_disk.ensures.changes later)

pub returns-clause-quiet : goal.returns-clause-quiet
returns-clause-quiet g c honest quiet =
    let old = g.S.Site.state c.args.site.now in
    let mid = g.S.Site.state c.write_all.new.site in
    let new = g.S.Site.state c.sync_disk.new.site in
    let later = stays_honest old mid c.write_all.ensures.writes.preserves honest in
    let changes = changes_in_sequence Disk old mid new (c.write_all.ensures.left honest).changes (c.sync_disk.ensures.changes later) in
    on_ok_weaker c.sync_disk.result (λ settled. quiet_again Disk old new changes quiet settled) (c.sync_disk.ensures.settled later)

pub returns-clause-writes : goal.returns-clause-writes
returns-clause-writes g c =
    writes_then _ c.sync_disk.result (g.S.Site.state c.args.site.now) (g.S.Site.state c.write_all.new.site) (g.S.Site.state c.sync_disk.new.site) c.in_ok-write_all.ensures.writes c.sync_disk.ensures.writes
