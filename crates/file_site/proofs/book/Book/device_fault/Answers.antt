use Rattle.site.specs.declared.outside.Dev.TheVariants.{Log, Flash, Disk}
use Rattle.file_site.proofs.Goings.{goes_at}
use Rattle.file_site.proofs.book.Book.device_fault.Goals as goal

pub returns-in-Log-clause-preserves : goal.returns-in-Log-clause-preserves
returns-in-Log-clause-preserves c = goes_at Log c.args.self.now c.fault.new.self c.fault.ensures.grows

pub returns-in-Flash-clause-preserves : goal.returns-in-Flash-clause-preserves
returns-in-Flash-clause-preserves c = goes_at Flash c.args.self.now c.fault-in-Flash.new.self c.fault-in-Flash.ensures.grows

pub returns-in-Disk-clause-preserves : goal.returns-in-Disk-clause-preserves
returns-in-Disk-clause-preserves c = goes_at Disk c.args.self.now c.fault-in-Disk.new.self c.fault-in-Disk.ensures.grows
