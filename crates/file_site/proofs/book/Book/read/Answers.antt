use Rattle.site.specs.declared.outside.Dev.TheVariants.{Log, Flash, Disk}
use Rattle.file_site.proofs.Goings.{goes_at}
use Rattle.file_site.proofs.book.Book.read.Goals as goal

pub returns-in-Log-clause-preserves : goal.returns-in-Log-clause-preserves
returns-in-Log-clause-preserves c = goes_at Log c.args.self.now c.read.new.self c.read.ensures.grows

pub returns-in-Flash-clause-preserves : goal.returns-in-Flash-clause-preserves
returns-in-Flash-clause-preserves c = goes_at Flash c.args.self.now c.read-in-Flash.new.self c.read-in-Flash.ensures.grows

pub returns-in-Disk-clause-preserves : goal.returns-in-Disk-clause-preserves
returns-in-Disk-clause-preserves c = goes_at Disk c.args.self.now c.read-in-Disk.new.self c.read-in-Disk.ensures.grows
