use Rattle.std.proofs.Common.{arith, refl}
use Rattle.std.specs.Prelude.{⊤}
use Rattle.archive_restore.proofs.Starts.{ends_first, stops_untouched, untouched_unfit}
use Rattle.archive_restore.proofs.Faults.{test_faults}
use Rattle.archive_restore.proofs.restoring.blank_sizes.Goals as goal

pub returns-in-Err-clause-never : goal.returns-in-Err-clause-never
returns-in-Err-clause-never g c geometry behind s count t =
    let old = g.S.Site.state c.args.site.now in
    let new = g.S.Site.state c.test_blank.new.site in
    let same = c.test_blank.ensures.same t.honest in
    (stops_untouched c.blank_stands.ensures geometry old new s t same behind count _ c.in-Err.ensures.unfit (λ is. absurd is), untouched_unfit c.in-Err.unfit old new c.in-Err.ensures.unfit same c.test_blank.ensures.few)

pub returns-in_default-clause-read : goal.returns-in_default-clause-read
returns-in_default-clause-read g c dev = omega arith

pub returns-in-Err-clause-early : goal.returns-in-Err-clause-early
returns-in-Err-clause-early g c geometry behind s count limits lengths = ends_first geometry s (g.S.Site.state c.args.site.now) (g.S.Site.state c.test_blank.new.site) behind count _ c.in-Err.ensures.unfit (λ is. absurd is)

pub returns-in-Err-clause-cause : goal.returns-in-Err-clause-cause
returns-in-Err-clause-cause g c = c.in-Err.ensures.unfit

pub returns-in_default-clause-early : goal.returns-in_default-clause-early
returns-in_default-clause-early g c geometry behind s count limits lengths = absurd (c.in_default.ensures.none geometry limits lengths)

pub returns-in_default-clause-cause : goal.returns-in_default-clause-cause
returns-in_default-clause-cause g c honest = c.in_default.ensures.none

pub returns-in-Ok-clause-refuses : goal.returns-in-Ok-clause-refuses
returns-in-Ok-clause-refuses g c none = none c.in-Some.geometry c.in-Some.ensures.sizes.0 c.in-Some.ensures.sizes.1

pub returns-in-Err-clause-refuses : goal.returns-in-Err-clause-refuses
returns-in-Err-clause-refuses g c none = absurd (none c.in-Some.geometry c.in-Some.ensures.sizes.0 c.in-Some.ensures.sizes.1)

pub returns-in_default-clause-unfit : goal.returns-in_default-clause-unfit
returns-in_default-clause-unfit g c honest w = absurd (c.in_default.ensures.none w.g w.limits w.lengths)

pub returns-in-Ok-clause-unfit : goal.returns-in-Ok-clause-unfit
returns-in-Ok-clause-unfit g c honest w = w.filled (c.in-Ok.ensures.blank honest)

pub returns-in-Err-clause-unfit : goal.returns-in-Err-clause-unfit
returns-in-Err-clause-unfit g c honest w = (c.in-Err.unfit, refl, c.in-Err.ensures.unfit, c.test_blank.ensures.same honest)

pub returns-in-Err-clause-faults : goal.returns-in-Err-clause-faults
returns-in-Err-clause-faults g c = test_faults ⊤ c.in-Err.unfit (g.S.Site.state c.args.site.now) (g.S.Site.state c.test_blank.new.site) c.in-Err.ensures.faults
