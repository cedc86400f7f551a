use Rattle.image_form.proofs.Names.{◌≡◌, take, drop, ap, ◌∙◌, arith, units_on, unit_at, Shape, State, group_on}
use Rattle.std.proofs.Common.{Some}
use Rattle.image_form.proofs.Counts.{flash_few}
use Rattle.image_form.proofs.SavedHeads.{heads_of_part, no_heads_of_part}
use Rattle.image_form.proofs.newest.heads_at.Goals as goal

pub returns-in_default-group_heads-clause-heads : goal.returns-in_default-group_heads-clause-heads
returns-in_default-group_heads-clause-heads g c g' frames may honest found is =
    let old : State = g.S.Site.state c.args.site.now in
    let n = c.args.group in
    let part : c.read_part.new.into ≡ take 128 (drop 0 (group_on g' old.image n)) =
    c.in_default.ensures.part honest found.groups ∙ ap (λ (s : Shape). take 128 (drop 0 (unit_at s (units_on s old.image) n))) may.groups_shape in
    absurd (no_heads_of_part (group_on g' old.image n) c.read_part.new.into frames part is c.in_default-group_heads.ensures.bad)

pub returns-clause-heads : goal.returns-clause-heads
returns-clause-heads g c g' frames may honest found is =
    let old : State = g.S.Site.state c.args.site.now in
    let n = c.args.group in
    let part : c.read_part.new.into ≡ take 128 (drop 0 (group_on g' old.image n)) =
    c.in_default.ensures.part honest found.groups ∙ ap (λ (s : Shape). take 128 (drop 0 (unit_at s (units_on s old.image) n))) may.groups_shape in
    ap Some (heads_of_part (group_on g' old.image n) c.read_part.new.into frames c.in-Ok.heads part is c.in-Ok.ensures.found)

pub returns-in-Err-clause-looks : goal.returns-in-Err-clause-looks
returns-in-Err-clause-looks g c =
    let may = c.requires.may_read in
    let shape = c.args.rings.now.groups.shape in
    flash_few c.read_part.result shape.dev _ 1 (g.S.Site.state c.args.site.now) (g.S.Site.state c.read_part.new.site) (ap (λ (s : Shape). s.dev) may.1.groups_shape) (omega arith) c.read_part.ensures.reads

pub returns-in_default-group_heads-clause-looks : goal.returns-in_default-group_heads-clause-looks
returns-in_default-group_heads-clause-looks g c =
    let may = c.requires.may_read in
    let shape = c.args.rings.now.groups.shape in
    flash_few c.read_part.result shape.dev _ 1 (g.S.Site.state c.args.site.now) (g.S.Site.state c.read_part.new.site) (ap (λ (s : Shape). s.dev) may.1.groups_shape) (omega arith) c.read_part.ensures.reads

pub returns-clause-looks : goal.returns-clause-looks
returns-clause-looks g c =
    let may = c.requires.may_read in
    let shape = c.args.rings.now.groups.shape in
    flash_few c.read_part.result shape.dev _ 1 (g.S.Site.state c.args.site.now) (g.S.Site.state c.read_part.new.site) (ap (λ (s : Shape). s.dev) may.1.groups_shape) (omega arith) c.read_part.ensures.reads
