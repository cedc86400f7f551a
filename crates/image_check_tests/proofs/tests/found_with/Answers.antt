use Rattle.std.proofs.Common.{refl, subst, sym}
use Rattle.std.specs.Prelude.{Result, IfOk}
use Rattle.site.specs.State.{State}
use Rattle.site.specs.declared.geometry.Geometry.{Geometry}
use Rattle.mem_site.specs.MemState.{state_of}
use Rattle.image_form.specs.declared.place.Place.{Place}
use Rattle.image_form.specs.declared.rings.Rings.{Rings}
use Rattle.image_form.specs.Findings.{MayRead}
use Rattle.image_form.proofs.Lasting.{may_read_later}
use Rattle.image_check_tests.proofs.tests.found_with.Goals as goal

pub returns : goal.returns
returns c =
    let geometry = c.in-Some.geometry in
    let rings = c.in-Ok.rings in
    let s1 : State = state_of c.rule_rings.new.site in
    let s2 : State = state_of c.start.new.site in
    let may : MayRead geometry rings s1 = subst (λ (o : Result Rings Place). IfOk o (λ rings. MayRead geometry rings s1)) c.in-Ok.is c.in_ok-rings.ensures.may_read in
    record {
      read = record {
        going = c.in_ok-log.ensures.going;
        may_read = subst (λ (g : Geometry). MayRead g rings s2) (sym c.in_ok-log.ensures.geometry) (may_read_later geometry rings s1 s2 c.in_ok-log.ensures.reads.preserves may);
      };
      live = c.if-not-rule_kept.ensures.live refl;
      redo = c.if-not-rule_kept.ensures.redo refl;
    }
