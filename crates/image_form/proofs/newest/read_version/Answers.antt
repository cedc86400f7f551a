use Rattle.image_form.proofs.Names.{◌≡◌, ◌+◌, ◌-◌, ◌*◌, rules, ℕ, length, take, drop, sym, ap, ◌∙◌, subst, arith, units_on, IsLive, unit_at, Shape, State}
use Rattle.std.proofs.lemmas.Result.{on_ok_weaker}
use Rattle.image_form.proofs.Counts.{flash_few, disk_few}
use Rattle.image_form.proofs.NewestRead.{disk_version, frame_version}
use Rattle.image_form.proofs.newest.read_version.Goals as goal

pub returns-in_default-clause-version : goal.returns-in_default-clause-version
returns-in_default-clause-version g c honest found groups shows =
    let geometry = c.args.geometry.now in
    let old : State = g.S.Site.state c.args.site.now in
    let some = c.requires.may_read.sizes.limits.groups in
    on_ok_weaker c.read_page.result (λ read. read ∙ disk_version geometry old.image c.args.frames.now c.args.page (omega (arith, some)) groups shows (sym c.in_default.is ∙ c.newest.ensures.newest)) (c.read_page.ensures.read honest)

pub read_part-requires-clause-live : goal.read_part-requires-clause-live
read_part-requires-clause-live g c =
    let rings = c.args.rings.now in
    let place = c.in-Some.place in
    let frames = c.args.frames.now in
    let last = c.in-Some.ensures.last.group in
    let at : frames.first + (place.group - frames.first) ≡ place.group = omega (arith, last.0) in
    subst (IsLive rings.groups.shape rings.groups.hi) at (c.requires.live.each (place.group - frames.first) (omega (arith, last.0, last.1)))

pub returns-clause-version : goal.returns-clause-version
returns-clause-version g c honest found groups shows =
    let geometry = c.args.geometry.now in
    let old : State = g.S.Site.state c.args.site.now in
    let place = c.in-Some.place in
    let at = 128 + 4096 * place.index in
    let some = c.requires.may_read.sizes.limits.groups in
    let long : length c.args.into.now ≡ 4096 = search rules in
    on_ok_weaker c.read_part.result (λ read. read
    ∙ ap (λ (n : ℕ). take n (drop at (unit_at c.args.rings.now.groups.shape (units_on c.args.rings.now.groups.shape old.image) place.group))) long
    ∙ ap (λ (s : Shape). take 4096 (drop at (unit_at s (units_on s old.image) place.group))) c.requires.may_read.groups_shape
    ∙ frame_version geometry old.image c.args.frames.now c.args.page (omega (arith, some)) groups shows place (sym c.in-Some.is ∙ c.newest.ensures.newest))
    (c.read_part.ensures.part honest found.groups)

pub returns-in_default-clause-looks : goal.returns-in_default-clause-looks
returns-in_default-clause-looks g c = disk_few 1 1 (g.S.Site.state c.args.site.now) (g.S.Site.state c.read_page.new.site) (omega arith) c.read_page.ensures.reads c.read_page.ensures.others

pub returns-clause-looks : goal.returns-clause-looks
returns-clause-looks g c =
    let shape = c.args.rings.now.groups.shape in
    flash_few c.read_part.result shape.dev _ 1 (g.S.Site.state c.args.site.now) (g.S.Site.state c.read_part.new.site) (ap (λ (s : Shape). s.dev) c.requires.may_read.groups_shape) (omega arith) c.read_part.ensures.reads
