use Rattle.std.proofs.Common.{sym, append-nil}
use Rattle.site.specs.declared.outside.Dev.TheVariants.{Log, Flash, Disk}
use Rattle.mem_site.specs.History.{ranges_of}
use Rattle.mem_site.proofs.Scatter.{left_stands}
use Rattle.mem_site.proofs.mem.MemSite.crash.Goals as goal

pub returns-clause-left : goal.returns-clause-left
returns-clause-left c =
    let m = c.args.self in
    record {
      told = (0, sym (append-nil m.told.items));
      content = elim [
        | Log ↦ left_stands c.args.seed (ranges_of m.log.loose.items) c.args.seed m.log.content.items c.crash-log.result.0.content.items c.crash-log.ensures.content
        | Flash ↦ left_stands c.args.seed (ranges_of m.flash.loose.items) c.crash-log.result.1 m.flash.content.items c.crash-flash.result.0.content.items c.crash-flash.ensures.content
        | Disk ↦ left_stands c.args.seed (ranges_of m.disk.loose.items) c.crash-flash.result.1 m.disk.content.items c.crash-disk.result.0.content.items c.crash-disk.ensures.content
      ];
    }
