use Rattle.log_store.proofs.TailLaws.{tail_more}
use Rattle.log_store.proofs.store.LogStore.place.Goals as goal

pub returns-clause-tail : goal.returns-clause-tail
returns-clause-tail c records tail = tail_more _ _ _ _ records c.args.rec.now tail c.write_record-self.ensures c.requires.form c.fits_fields.ensures
