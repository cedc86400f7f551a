use Rattle.image_form.proofs.Names.{◌+◌, refl, arith, Log}
use Rattle.image_form.proofs.Counts.{log_few}
use Rattle.image_form.proofs.formed.find_log.Goals as goal

pub returns-in-Ok-clause-looks : goal.returns-in-Ok-clause-looks
returns-in-Ok-clause-looks g c = log_few c.start.result Log (c.args.geometry.now.blocks + 1) (c.args.geometry.now.blocks + 1) _ _ refl (omega arith) c.start.ensures.reads

pub returns-in-Err-Foreign-clause-looks : goal.returns-in-Err-Foreign-clause-looks
returns-in-Err-Foreign-clause-looks g c = log_few c.start.result Log (c.args.geometry.now.blocks + 1) (c.args.geometry.now.blocks + 1) _ _ refl (omega arith) c.start.ensures.reads

pub returns-in-Err-clause-looks : goal.returns-in-Err-clause-looks
returns-in-Err-clause-looks g c = log_few c.start.result Log (c.args.geometry.now.blocks + 1) (c.args.geometry.now.blocks + 1) _ _ refl (omega arith) c.start.ensures.reads
