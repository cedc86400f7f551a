use Rattle.frame_group.proofs.Pages.{zeros_have_no_frames}
use Rattle.frame_group.proofs.laws.no_frames.Goals as goal

pub returns : goal.returns
returns c = zeros_have_no_frames
