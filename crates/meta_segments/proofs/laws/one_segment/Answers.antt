use Rattle.meta_segments.proofs.Whole.{segment_form, one_segment}
use Rattle.meta_segments.proofs.laws.one_segment.Goals as goal

pub returns-clause-form : goal.returns-clause-form
returns-clause-form c = segment_form

pub returns-clause-one : goal.returns-clause-one
returns-clause-one c = one_segment
