use Rattle.std.proofs.Common.{ℕ, arith}
use Rattle.mem_site.specs.MemState.{state_of}
use Rattle.disk_pages.specs.Pages.{LiesOn}
use Rattle.stage_out.proofs.Lists.{two_differ, two_all}
use Rattle.parts_tests.proofs.stage_out_tests.stage_two.Goals as goal

pub stage-requires-clause-once : goal.stage-requires-clause-once
stage-requires-clause-once c = two_differ 2 0 (λ h. absurd (omega (arith, h)))

pub stage-requires-clause-lie : goal.stage-requires-clause-lie
stage-requires-clause-lie c =
    let len = c.requires.disk in
    two_all (λ (page : ℕ). LiesOn page (state_of c.args.site.now).image.disk) 2 0 (omega (arith, len)) (omega (arith, len))
