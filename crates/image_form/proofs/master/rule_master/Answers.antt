use Rattle.image_form.proofs.Names.{refl, arith, Log}
use Rattle.image_form.proofs.Counts.{log_few}
use Rattle.image_form.proofs.master.rule_master.Goals as goal

pub returns-in-Ok-clause-looks : goal.returns-in-Ok-clause-looks
returns-in-Ok-clause-looks g c = log_few c.newest.result Log (5) (5) _ _ refl (omega arith) c.newest.ensures.reads

pub returns-in-Err-Foreign-clause-looks : goal.returns-in-Err-Foreign-clause-looks
returns-in-Err-Foreign-clause-looks g c = log_few c.newest.result Log (5) (5) _ _ refl (omega arith) c.newest.ensures.reads

pub returns-in-Err-clause-looks : goal.returns-in-Err-clause-looks
returns-in-Err-clause-looks g c = log_few c.newest.result Log (5) (5) _ _ refl (omega arith) c.newest.ensures.reads
