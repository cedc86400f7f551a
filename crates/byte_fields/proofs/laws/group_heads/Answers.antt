use Rattle.byte_fields.proofs.GroupHeads.{have_form, present_are_first}
use Rattle.byte_fields.proofs.laws.group_heads.Goals as goal

pub returns-clause-form : goal.returns-clause-form
returns-clause-form c = have_form

pub returns-clause-first : goal.returns-clause-first
returns-clause-first c = present_are_first
