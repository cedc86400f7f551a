use Rattle.std.proofs.Common.{refl}
use Rattle.mem_site.proofs.Writes.{moved_as, wrote}
use Rattle.mem_site.proofs.mem.MemSiteSite.write_at.Goals as goal

pub returns-in-Log-clause-wrote : goal.returns-in-Log-clause-wrote
returns-in-Log-clause-wrote c =
    let w = c.write in
    λ honest. wrote c.args.dev c.args.at c.args.bytes.now _ _ c.args.self.now.log w.new.self c.args.self.now.history.items w.new.history.items (moved_as c.in-Log.is (record { content = refl; ranges = refl; image = refl; loose = refl; told = refl; left = refl; past = refl; past' = refl })) w.result c.requires w.ensures.ok w.ensures.err

pub returns-in-Flash-clause-wrote : goal.returns-in-Flash-clause-wrote
returns-in-Flash-clause-wrote c =
    let w = c.write-in-Flash in
    λ honest. wrote c.args.dev c.args.at c.args.bytes.now _ _ c.args.self.now.flash w.new.self c.args.self.now.history.items w.new.history.items (moved_as c.in-Flash.is (record { content = refl; ranges = refl; image = refl; loose = refl; told = refl; left = refl; past = refl; past' = refl })) w.result c.requires w.ensures.ok w.ensures.err

pub returns-in-Disk-clause-wrote : goal.returns-in-Disk-clause-wrote
returns-in-Disk-clause-wrote c =
    let w = c.write-in-Disk in
    λ honest. wrote c.args.dev c.args.at c.args.bytes.now _ _ c.args.self.now.disk w.new.self c.args.self.now.history.items w.new.history.items (moved_as c.in-Disk.is (record { content = refl; ranges = refl; image = refl; loose = refl; told = refl; left = refl; past = refl; past' = refl })) w.result c.requires w.ensures.ok w.ensures.err
