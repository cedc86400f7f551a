use Rattle.image_form.proofs.Names.{ap, arith, Shape, Disk}
use Rattle.image_form.proofs.Counts.{few_then, flash_few, disk_few}
use Rattle.image_form.proofs.clean.is_as_on_disk.Goals as goal

pub read_page-requires-clause-lies : goal.read_page-requires-clause-lies
read_page-requires-clause-lies g c = let size = c.in_default.ensures.reads.preserves.sizes Disk in let lies = c.requires.page in omega (arith, size, lies)

pub returns-in-Err-clause-looks : goal.returns-in-Err-clause-looks
returns-in-Err-clause-looks g c =
    flash_few c.read_part.result c.args.rings.now.groups.shape.dev _ 2 (g.S.Site.state c.args.site.now) (g.S.Site.state c.read_part.new.site) (ap (λ (s : Shape). s.dev) c.requires.may_read.1.groups_shape) (omega arith) c.read_part.ensures.reads

pub returns-in-Err-read_page-clause-looks : goal.returns-in-Err-read_page-clause-looks
returns-in-Err-read_page-clause-looks g c =
    few_then 0 1 0 1 0 2 (g.S.Site.state c.args.site.now) (g.S.Site.state c.read_part.new.site) (g.S.Site.state c.read_page.new.site) (omega arith) (omega arith)
    (flash_few c.read_part.result c.args.rings.now.groups.shape.dev _ 1 (g.S.Site.state c.args.site.now) (g.S.Site.state c.read_part.new.site) (ap (λ (s : Shape). s.dev) c.requires.may_read.1.groups_shape) (omega arith) c.read_part.ensures.reads)
    (disk_few 1 1 (g.S.Site.state c.read_part.new.site) (g.S.Site.state c.read_page.new.site) (omega arith) c.read_page.ensures.reads c.read_page.ensures.others)

pub returns-clause-looks : goal.returns-clause-looks
returns-clause-looks g c =
    few_then 0 1 0 1 0 2 (g.S.Site.state c.args.site.now) (g.S.Site.state c.read_part.new.site) (g.S.Site.state c.read_page.new.site) (omega arith) (omega arith)
    (flash_few c.read_part.result c.args.rings.now.groups.shape.dev _ 1 (g.S.Site.state c.args.site.now) (g.S.Site.state c.read_part.new.site) (ap (λ (s : Shape). s.dev) c.requires.may_read.1.groups_shape) (omega arith) c.read_part.ensures.reads)
    (disk_few 1 1 (g.S.Site.state c.read_part.new.site) (g.S.Site.state c.read_page.new.site) (omega arith) c.read_page.ensures.reads c.read_page.ensures.others)
