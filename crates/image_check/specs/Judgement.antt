-- The verdict that devices get.
use Rattle.site.specs.State.{Image}
use Rattle.image_check.specs.declared.verdict.Verdict.{Verdict}
use Rattle.image_check.specs.declared.verdict.Verdict.TheVariants.{Sound, Unsound}
use Rattle.image_form.specs.Verdict.{IsSoundWith, FailsFirst}

-- this is the verdict on three contents
abbrev pub IsVerdictOn : Image → Verdict → Type 0
IsVerdictOn image (Sound records commits) = IsSoundWith image records commits
IsVerdictOn image (Unsound rule place) = FailsFirst rule image
