use Rattle.image_form.proofs.Names.{ap, arith, Shape}
use Rattle.image_form.proofs.Counts.{few_then, flash_few}
use Rattle.image_form.proofs.following.are_saved.Goals as goal

pub returns-in-Err-clause-looks : goal.returns-in-Err-clause-looks
returns-in-Err-clause-looks g c = flash_few c.read_part.result c.args.rings.now.groups.shape.dev _ 2 _ _ (ap (λ (s : Shape). s.dev) c.requires.may_read.1.groups_shape) (omega arith) c.read_part.ensures.reads

pub returns-in-Err-read_part-clause-looks : goal.returns-in-Err-read_part-clause-looks
returns-in-Err-read_part-clause-looks g c =
    few_then 0 1 0 1 0 2 (g.S.Site.state c.args.site.now) (g.S.Site.state c.read_part.new.site) (g.S.Site.state c.read_part-2.new.site) (omega arith) (omega arith)
    (flash_few c.read_part.result c.args.rings.now.groups.shape.dev _ 1 _ _ (ap (λ (s : Shape). s.dev) c.requires.may_read.1.groups_shape) (omega arith) c.read_part.ensures.reads)
    (flash_few c.read_part-2.result c.args.rings.now.segments.shape.dev _ 1 _ _ (ap (λ (s : Shape). s.dev) c.requires.may_read.1.segments_shape) (omega arith) c.read_part-2.ensures.reads)

pub returns-clause-looks : goal.returns-clause-looks
returns-clause-looks g c =
    few_then 0 1 0 1 0 2 (g.S.Site.state c.args.site.now) (g.S.Site.state c.read_part.new.site) (g.S.Site.state c.read_part-2.new.site) (omega arith) (omega arith)
    (flash_few c.read_part.result c.args.rings.now.groups.shape.dev _ 1 _ _ (ap (λ (s : Shape). s.dev) c.requires.may_read.1.groups_shape) (omega arith) c.read_part.ensures.reads)
    (flash_few c.read_part-2.result c.args.rings.now.segments.shape.dev _ 1 _ _ (ap (λ (s : Shape). s.dev) c.requires.may_read.1.segments_shape) (omega arith) c.read_part-2.ensures.reads)
