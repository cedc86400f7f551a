use Rattle.image_form.proofs.Names.{◌≡◌, sym, subst, ◌+◌, ◌*◌, arith, Result, IfOk, is_none, log_looks, log_to_find, page_looks, pages_to_find, segment_slots, IsThere, IsThereOr, MayBeRead, FailsFirst, Found, Place, State, Geometry}
use Rattle.image_form.proofs.Counts.{by_more, by_then}
use Rattle.image_form.proofs.FirstRule.{may_be_read_later, fails_formed, placed}
use Rattle.image_form.proofs.formed.find_formed.Goals as goal

pub returns-in-Some-clause-formed : goal.returns-in-Some-clause-formed
returns-in-Some-clause-formed g c honest =
    let found = c.in-Ok.found in
    let s1 : State = g.S.Site.state c.find.new.site in
    let s2 : State = g.S.Site.state c.find_unformed.new.site in
    let there : IsThere found s1 = subst (λ (o : Result Found Place). IsThereOr o s1) c.in-Ok.is (c.in_ok-found.ensures.found honest) in
    let may : MayBeRead found s1 = subst (λ (o : Result Found Place). IfOk o (λ found. MayBeRead found s1)) c.in-Ok.is c.in_ok-found.ensures.may_read in
    let same : s2.image ≡ s1.image = (c.in_ok-place.ensures.reads.same there.log.honest).image in
    let other = placed c.in_ok-place.field-0 c.in-Some.place c.in-Some.is in
    subst (FailsFirst 1) (sym same) (fails_formed c.one_master.ensures.newest found s1 (is_none c.in_ok-place.field-0) there may.may_read.sizes (c.in_ok-place.ensures.formed there) other)

pub returns-clause-may_read : goal.returns-clause-may_read
returns-clause-may_read g c =
    let s1 : State = g.S.Site.state c.find.new.site in
    let s2 : State = g.S.Site.state c.find_unformed.new.site in
    may_be_read_later c.in-Ok.found s1 s2 c.in_ok-place.ensures.reads.preserves (subst (λ (o : Result Found Place). IfOk o (λ found. MayBeRead found s1)) c.in-Ok.is c.in_ok-found.ensures.may_read)

pub returns-in_err-found-clause-looks : goal.returns-in_err-found-clause-looks
returns-in_err-found-clause-looks g c = by_more log_to_find pages_to_find log_looks page_looks _ _ (λ x. omega arith) (λ x. omega arith) c.find.ensures.looks

pub returns-in-Err-clause-looks : goal.returns-in-Err-clause-looks
returns-in-Err-clause-looks g c = by_more log_to_find pages_to_find log_looks page_looks _ _ (λ x. omega arith) (λ x. omega arith) c.find.ensures.looks

pub returns-in_err-place-clause-looks : goal.returns-in_err-place-clause-looks
returns-in_err-place-clause-looks g c =
    let found = c.in-Ok.found in
    let sizes : Geometry = found.log.geometry in
    let s1 : State = g.S.Site.state c.find.new.site in
    let may : MayBeRead found s1 = subst (λ (o : Result Found Place). IfOk o (λ found. MayBeRead found s1)) c.in-Ok.is c.in_ok-found.ensures.may_read in
    by_then log_to_find pages_to_find log_looks page_looks sizes sizes.blocks (10 * sizes.groups + segment_slots sizes + sizes.pages) _ _ _ c.in_ok-found.ensures.reads.preserves may.may_read.sizes (omega arith) (omega arith)
    c.find.ensures.looks c.find_unformed.ensures.looks

pub returns-in-Some-clause-looks : goal.returns-in-Some-clause-looks
returns-in-Some-clause-looks g c =
    let found = c.in-Ok.found in
    let sizes : Geometry = found.log.geometry in
    let s1 : State = g.S.Site.state c.find.new.site in
    let may : MayBeRead found s1 = subst (λ (o : Result Found Place). IfOk o (λ found. MayBeRead found s1)) c.in-Ok.is c.in_ok-found.ensures.may_read in
    by_then log_to_find pages_to_find log_looks page_looks sizes sizes.blocks (10 * sizes.groups + segment_slots sizes + sizes.pages) _ _ _ c.in_ok-found.ensures.reads.preserves may.may_read.sizes (omega arith) (omega arith)
    c.find.ensures.looks c.find_unformed.ensures.looks

pub returns-clause-looks : goal.returns-clause-looks
returns-clause-looks g c =
    let found = c.in-Ok.found in
    let sizes : Geometry = found.log.geometry in
    let s1 : State = g.S.Site.state c.find.new.site in
    let may : MayBeRead found s1 = subst (λ (o : Result Found Place). IfOk o (λ found. MayBeRead found s1)) c.in-Ok.is c.in_ok-found.ensures.may_read in
    by_then log_to_find pages_to_find log_looks page_looks sizes sizes.blocks (10 * sizes.groups + segment_slots sizes + sizes.pages) _ _ _ c.in_ok-found.ensures.reads.preserves may.may_read.sizes (omega arith) (omega arith)
    c.find.ensures.looks c.find_unformed.ensures.looks
