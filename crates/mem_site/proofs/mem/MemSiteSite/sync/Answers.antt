use Rattle.std.proofs.Common.{refl}
use Rattle.mem_site.proofs.Writes.{moved_as}
use Rattle.mem_site.proofs.Syncs.{synced}
use Rattle.mem_site.proofs.mem.MemSiteSite.sync.Goals as goal

pub returns-in-Log-clause-synced : goal.returns-in-Log-clause-synced
returns-in-Log-clause-synced c =
    let w = c.settle in
    let m = c.args.self.now in
    λ honest. synced c.args.dev _ _ m.log w.new.self m.history.items w.new.history.items (moved_as c.in-Log.is (record { content = refl; ranges = refl; image = refl; loose = refl; told = refl; left = refl; past = refl; past' = refl })) w.result w.ensures.ok w.ensures.err

pub returns-in-Flash-clause-synced : goal.returns-in-Flash-clause-synced
returns-in-Flash-clause-synced c =
    let w = c.settle-in-Flash in
    let m = c.args.self.now in
    λ honest. synced c.args.dev _ _ m.flash w.new.self m.history.items w.new.history.items (moved_as c.in-Flash.is (record { content = refl; ranges = refl; image = refl; loose = refl; told = refl; left = refl; past = refl; past' = refl })) w.result w.ensures.ok w.ensures.err

pub returns-in-Disk-clause-synced : goal.returns-in-Disk-clause-synced
returns-in-Disk-clause-synced c =
    let w = c.settle-in-Disk in
    let m = c.args.self.now in
    λ honest. synced c.args.dev _ _ m.disk w.new.self m.history.items w.new.history.items (moved_as c.in-Disk.is (record { content = refl; ranges = refl; image = refl; loose = refl; told = refl; left = refl; past = refl; past' = refl })) w.result w.ensures.ok w.ensures.err
