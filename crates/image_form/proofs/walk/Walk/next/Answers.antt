use Rattle.image_form.proofs.Names.{refl, arith, some_octet}
use Rattle.log_records.specs.declared.log_record.LogRecord.TheVariants.{Begin}
use Rattle.image_form.proofs.BlockReading.{some_spelled}
use Rattle.image_form.proofs.Walks.{given}
use Rattle.image_form.proofs.walk.Walk.next.Goals as goal

pub returns-then-not-more-clause-next : goal.returns-then-not-more-clause-next
returns-then-not-more-clause-next g c left finds stands = c.in-Ok.ensures.none left finds stands c.if-not-more.true

pub returns-in_default-clause-next : goal.returns-in_default-clause-next
returns-in_default-clause-next g c left finds stands =
    let s = c.in-Ok.ensures.more left finds stands c.if-not-more.false in
    let walk = c.fill.new.self in
    absurd (some_spelled walk.content walk.used walk.at s.records s.here (c.in-Ok.ensures.some c.if-not-more.false) c.in_default.ensures.bad)

pub returns-clause-next : goal.returns-clause-next
returns-clause-next g c left finds stands =
    let s = c.in-Ok.ensures.more left finds stands c.if-not-more.false in
    given c.args.log.now c.fill.new.self _ (g.S.Site.state c.args.site.now).image left c.in-Ok-read_record.rec c.in-Ok-read_record.end _ s (c.in-Ok.ensures.some c.if-not-more.false) c.in-Ok-read_record.ensures.found refl refl

pub returns-clause-shorter : goal.returns-clause-shorter
returns-clause-shorter g c =
    let found = c.in-Ok-read_record.ensures.found in
    omega (arith, c.in-Ok.ensures.shorter, some_octet c.in-Ok-read_record.rec, found.length_is, found.inside, c.in-Ok.ensures.some c.if-not-more.false)

pub returns-then-begins_at-clause-next : goal.returns-then-begins_at-clause-next
returns-then-begins_at-clause-next g c left finds stands =
    let s = c.in-Ok.ensures.more left finds stands c.if-not-more.false in
    given c.args.log.now c.fill.new.self _ (g.S.Site.state c.args.site.now).image left Begin _ _ s (c.in-Ok.ensures.some c.if-not-more.false) (c.begins_at.ensures c.if-begins_at.true) refl refl
