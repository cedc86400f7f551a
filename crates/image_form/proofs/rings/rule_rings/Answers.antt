use Rattle.image_form.proofs.Names.{◌≡◌, IsTrue, sym, ◌∙◌, subst, Result, Ok, Err, master_shape, log_shape, group_shape, Place, Rings, usable_later, region, IsRing, Shape, stays_honest, goes_in_sequence, looks_then, looks_failed, looks_answered, Preserves, State, Image}
use Rattle.image_form.proofs.Counts.{one_ring, two_rings, three_rings, four_rings}
use Rattle.image_form.proofs.Lasting.{judged_some, usable_some, shape_some, fits_later, sizes_later}
use Rattle.image_form.specs.declared.place.Place.TheVariants as place
use Rattle.image_form.proofs.rings.rule_rings.Goals as goal

pub returns-clause-rings : goal.returns-clause-rings
returns-clause-rings g c honest =
    let s0 : State = g.S.Site.state c.args.site.now in
    let s1 : State = g.S.Site.state c.judge.new.site in
    let s2 : State = g.S.Site.state c.judge-2.new.site in
    let s3 : State = g.S.Site.state c.judge-3.new.site in
    let s4 : State = g.S.Site.state c.judge-4.new.site in
    let h1 : IsTrue s1.honest = stays_honest s0 s1 c.in-Ok-Some.ensures.reads.preserves honest in
    let h2 : IsTrue s2.honest = stays_honest s1 s2 c.in-Ok-Some-judge.ensures.reads.preserves h1 in
    let h3 : IsTrue s3.honest = stays_honest s2 s3 c.in-Ok-Some-judge-2.ensures.reads.preserves h2 in
    let e4 : s4.image ≡ s3.image = (c.in-Ok-Some-judge-3.ensures.reads.same h3).image in
    let e3 : s4.image ≡ s2.image = e4 ∙ (c.in-Ok-Some-judge-2.ensures.reads.same h2).image in
    let e2 : s4.image ≡ s1.image = e3 ∙ (c.in-Ok-Some-judge.ensures.reads.same h1).image in
    let one = judged_some master_shape c.in-Ok-Some.field-0 c.in-Ok-Some.ring s1 c.in-Ok-Some.field-0-is (c.in-Ok-Some.ensures.judged honest) in
    let two = judged_some c.blocks_of.result c.in-Ok-Some-judge.field-0 c.in-Ok-Some-judge.ring s2 c.in-Ok-Some-judge.field-0-is (c.in-Ok-Some-judge.ensures.judged h1) in
    let three = judged_some c.groups_of.result c.in-Ok-Some-judge-2.field-0 c.in-Ok-Some-judge-2.ring s3 c.in-Ok-Some-judge-2.field-0-is (c.in-Ok-Some-judge-2.ensures.judged h2) in
    let four = judged_some c.segments_of.result c.in-Ok-Some-judge-3.field-0 c.in-Ok-Some-judge-3.ring s4 c.in-Ok-Some-judge-3.field-0-is (c.in-Ok-Some-judge-3.ensures.judged h3) in
    let blocks_is = c.blocks_of.ensures in
    let groups_is = c.groups_of.ensures in
    let segments_is = c.segments_of.ensures in (
      record {
        masters = subst (λ (image : Image). IsRing master_shape image.log) (sym e2) one.0;
        blocks = subst (λ (image : Image). IsRing (log_shape c.args.geometry.now) image.log) (sym e3) (subst (λ (s : Shape). IsRing s (region s s2)) blocks_is two.0);
        groups = subst (λ (image : Image). IsRing (group_shape c.args.geometry.now) image.flash) (sym e4) (subst (λ (s : Shape). IsRing s (region s s3)) groups_is three.0);
        segments = subst (λ (s : Shape). IsRing s (region s s4)) segments_is four.0;
      },
      record {
        masters = fits_later c.in-Ok-Some.ring s1 s4 e2 one.1;
        blocks = fits_later c.in-Ok-Some-judge.ring s2 s4 e3 two.1;
        groups = fits_later c.in-Ok-Some-judge-2.ring s3 s4 e4 three.1;
        segments = four.1;
      },
    )

pub returns-clause-may_read : goal.returns-clause-may_read
returns-clause-may_read g c =
    let s0 : State = g.S.Site.state c.args.site.now in
    let s1 : State = g.S.Site.state c.judge.new.site in
    let s2 : State = g.S.Site.state c.judge-2.new.site in
    let s3 : State = g.S.Site.state c.judge-3.new.site in
    let s4 : State = g.S.Site.state c.judge-4.new.site in
    let g1 : Preserves s0 s1 = c.in-Ok-Some.ensures.reads.preserves in
    let g4 : Preserves s3 s4 = c.in-Ok-Some-judge-3.ensures.reads.preserves in
    let g3 : Preserves s2 s4 = goes_in_sequence s2 s3 s4 c.in-Ok-Some-judge-2.ensures.reads.preserves g4 in
    let g2 : Preserves s1 s4 = goes_in_sequence s1 s2 s4 c.in-Ok-Some-judge.ensures.reads.preserves g3 in
    record {
      sizes = sizes_later c.args.geometry.now s0 s4 (goes_in_sequence s0 s1 s4 g1 g2) c.requires;
      masters = usable_later c.in-Ok-Some.ring s1 s4 g2 (usable_some c.in-Ok-Some.field-0 c.in-Ok-Some.ring s1 c.in-Ok-Some.field-0-is c.in-Ok-Some.ensures.usable);
      blocks = usable_later c.in-Ok-Some-judge.ring s2 s4 g3 (usable_some c.in-Ok-Some-judge.field-0 c.in-Ok-Some-judge.ring s2 c.in-Ok-Some-judge.field-0-is c.in-Ok-Some-judge.ensures.usable);
      groups = usable_later c.in-Ok-Some-judge-2.ring s3 s4 g4 (usable_some c.in-Ok-Some-judge-2.field-0 c.in-Ok-Some-judge-2.ring s3 c.in-Ok-Some-judge-2.field-0-is c.in-Ok-Some-judge-2.ensures.usable);
      segments = (usable_some c.in-Ok-Some-judge-3.field-0 c.in-Ok-Some-judge-3.ring s4 c.in-Ok-Some-judge-3.field-0-is c.in-Ok-Some-judge-3.ensures.usable);
      masters_shape = shape_some master_shape c.in-Ok-Some.field-0 c.in-Ok-Some.ring c.in-Ok-Some.field-0-is c.in-Ok-Some.ensures.shape;
      blocks_shape = shape_some c.blocks_of.result c.in-Ok-Some-judge.field-0 c.in-Ok-Some-judge.ring c.in-Ok-Some-judge.field-0-is c.in-Ok-Some-judge.ensures.shape ∙ c.blocks_of.ensures;
      groups_shape = shape_some c.groups_of.result c.in-Ok-Some-judge-2.field-0 c.in-Ok-Some-judge-2.ring c.in-Ok-Some-judge-2.field-0-is c.in-Ok-Some-judge-2.ensures.shape ∙ c.groups_of.ensures;
      segments_shape = shape_some c.segments_of.result c.in-Ok-Some-judge-3.field-0 c.in-Ok-Some-judge-3.ring c.in-Ok-Some-judge-3.field-0-is c.in-Ok-Some-judge-3.ensures.shape ∙ c.segments_of.ensures;
    }

pub returns-in-Err-judge-3-clause-reads : goal.returns-in-Err-judge-3-clause-reads
returns-in-Err-judge-3-clause-reads g c =
    looks_then c.in-Ok-Some.field-0 (Err c.in-Err-judge-3.stop) _ _ _ c.in-Ok-Some.ensures.reads
    (looks_then c.in-Ok-Some-judge.field-0 (Err c.in-Err-judge-3.stop) _ _ _ c.in-Ok-Some-judge.ensures.reads
    (looks_then c.in-Ok-Some-judge-2.field-0 (Err c.in-Err-judge-3.stop) _ _ _ c.in-Ok-Some-judge-2.ensures.reads
    (looks_failed c.in-Err-judge-3.stop _ _ c.in-Err-judge-3.ensures.reads)))

pub returns-clause-reads : goal.returns-clause-reads
returns-clause-reads g c =
    let answer : Rings = record { masters = c.in-Ok-Some.ring; blocks = c.in-Ok-Some-judge.ring; groups = c.in-Ok-Some-judge-2.ring; segments = c.in-Ok-Some-judge-3.ring } in
    looks_then c.in-Ok-Some.field-0 (Ok (Ok answer)) _ _ _ c.in-Ok-Some.ensures.reads
    (looks_then c.in-Ok-Some-judge.field-0 (Ok (Ok answer)) _ _ _ c.in-Ok-Some-judge.ensures.reads
    (looks_then c.in-Ok-Some-judge-2.field-0 (Ok (Ok answer)) _ _ _ c.in-Ok-Some-judge-2.ensures.reads
    (looks_answered c.in-Ok-Some-judge-3.field-0 (Ok answer) _ _ c.in-Ok-Some-judge-3.ensures.reads)))

pub returns-in-Ok-None-clause-looks : goal.returns-in-Ok-None-clause-looks
returns-in-Ok-None-clause-looks g c = one_ring c.args.geometry.now (g.S.Site.state c.args.site.now) (g.S.Site.state c.judge.new.site) (g.S.Site.state c.judge.new.site) (g.S.Site.state c.judge.new.site) (g.S.Site.state c.judge.new.site) c.judge.result c.judge.ensures.looks

pub returns-in-Err-clause-looks : goal.returns-in-Err-clause-looks
returns-in-Err-clause-looks g c = one_ring c.args.geometry.now (g.S.Site.state c.args.site.now) (g.S.Site.state c.judge.new.site) (g.S.Site.state c.judge.new.site) (g.S.Site.state c.judge.new.site) (g.S.Site.state c.judge.new.site) c.judge.result c.judge.ensures.looks

pub returns-in-Ok-None-judge-clause-looks : goal.returns-in-Ok-None-judge-clause-looks
returns-in-Ok-None-judge-clause-looks g c = two_rings c.args.geometry.now (g.S.Site.state c.args.site.now) (g.S.Site.state c.judge.new.site) (g.S.Site.state c.judge-2.new.site) (g.S.Site.state c.judge-2.new.site) (g.S.Site.state c.judge-2.new.site) c.judge.result c.judge-2.result c.blocks_of.result c.blocks_of.ensures c.judge.ensures.looks c.judge-2.ensures.looks

pub returns-in-Err-judge-clause-looks : goal.returns-in-Err-judge-clause-looks
returns-in-Err-judge-clause-looks g c = two_rings c.args.geometry.now (g.S.Site.state c.args.site.now) (g.S.Site.state c.judge.new.site) (g.S.Site.state c.judge-2.new.site) (g.S.Site.state c.judge-2.new.site) (g.S.Site.state c.judge-2.new.site) c.judge.result c.judge-2.result c.blocks_of.result c.blocks_of.ensures c.judge.ensures.looks c.judge-2.ensures.looks

pub returns-in-Ok-None-judge-2-clause-looks : goal.returns-in-Ok-None-judge-2-clause-looks
returns-in-Ok-None-judge-2-clause-looks g c = three_rings c.args.geometry.now (g.S.Site.state c.args.site.now) (g.S.Site.state c.judge.new.site) (g.S.Site.state c.judge-2.new.site) (g.S.Site.state c.judge-3.new.site) (g.S.Site.state c.judge-3.new.site) c.judge.result c.judge-2.result c.judge-3.result c.blocks_of.result c.groups_of.result c.blocks_of.ensures c.groups_of.ensures c.judge.ensures.looks c.judge-2.ensures.looks c.judge-3.ensures.looks

pub returns-in-Err-judge-2-clause-looks : goal.returns-in-Err-judge-2-clause-looks
returns-in-Err-judge-2-clause-looks g c = three_rings c.args.geometry.now (g.S.Site.state c.args.site.now) (g.S.Site.state c.judge.new.site) (g.S.Site.state c.judge-2.new.site) (g.S.Site.state c.judge-3.new.site) (g.S.Site.state c.judge-3.new.site) c.judge.result c.judge-2.result c.judge-3.result c.blocks_of.result c.groups_of.result c.blocks_of.ensures c.groups_of.ensures c.judge.ensures.looks c.judge-2.ensures.looks c.judge-3.ensures.looks

pub returns-in-Ok-None-judge-3-clause-looks : goal.returns-in-Ok-None-judge-3-clause-looks
returns-in-Ok-None-judge-3-clause-looks g c = four_rings c.args.geometry.now (g.S.Site.state c.args.site.now) (g.S.Site.state c.judge.new.site) (g.S.Site.state c.judge-2.new.site) (g.S.Site.state c.judge-3.new.site) (g.S.Site.state c.judge-4.new.site) c.judge.result c.judge-2.result c.judge-3.result c.judge-4.result c.blocks_of.result c.groups_of.result c.segments_of.result c.blocks_of.ensures c.groups_of.ensures c.segments_of.ensures c.judge.ensures.looks c.judge-2.ensures.looks c.judge-3.ensures.looks c.judge-4.ensures.looks

pub returns-in-Err-judge-3-clause-looks : goal.returns-in-Err-judge-3-clause-looks
returns-in-Err-judge-3-clause-looks g c = four_rings c.args.geometry.now (g.S.Site.state c.args.site.now) (g.S.Site.state c.judge.new.site) (g.S.Site.state c.judge-2.new.site) (g.S.Site.state c.judge-3.new.site) (g.S.Site.state c.judge-4.new.site) c.judge.result c.judge-2.result c.judge-3.result c.judge-4.result c.blocks_of.result c.groups_of.result c.segments_of.result c.blocks_of.ensures c.groups_of.ensures c.segments_of.ensures c.judge.ensures.looks c.judge-2.ensures.looks c.judge-3.ensures.looks c.judge-4.ensures.looks

pub returns-clause-looks : goal.returns-clause-looks
returns-clause-looks g c = four_rings c.args.geometry.now (g.S.Site.state c.args.site.now) (g.S.Site.state c.judge.new.site) (g.S.Site.state c.judge-2.new.site) (g.S.Site.state c.judge-3.new.site) (g.S.Site.state c.judge-4.new.site) c.judge.result c.judge-2.result c.judge-3.result c.judge-4.result c.blocks_of.result c.groups_of.result c.segments_of.result c.blocks_of.ensures c.groups_of.ensures c.segments_of.ensures c.judge.ensures.looks c.judge-2.ensures.looks c.judge-3.ensures.looks c.judge-4.ensures.looks

pub returns-in-Ok-None-judge-3-clause-reads : goal.returns-in-Ok-None-judge-3-clause-reads
returns-in-Ok-None-judge-3-clause-reads g c =
    let answer : Result Rings Place = Err place.Segments in
    looks_then c.in-Ok-Some.field-0 (Ok answer) _ _ _ c.in-Ok-Some.ensures.reads
    (looks_then c.in-Ok-Some-judge.field-0 (Ok answer) _ _ _ c.in-Ok-Some-judge.ensures.reads
    (looks_then c.in-Ok-Some-judge-2.field-0 (Ok answer) _ _ _ c.in-Ok-Some-judge-2.ensures.reads
    (looks_answered c.in-Ok-None-judge-3.field-0 answer _ _ c.in-Ok-None-judge-3.ensures.reads)))
