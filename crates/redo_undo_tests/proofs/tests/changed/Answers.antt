use Rattle.redo_undo_tests.proofs.tests.changed.Goals as goal

pub touch-requires-clause-going : goal.touch-requires-clause-going
touch-requires-clause-going c = c.in_ok-log_record.ensures.works.going c.in_ok-log.pages c.in_ok-log.ensures.going

pub log_change-requires-clause-fits : goal.log_change-requires-clause-fits
log_change-requires-clause-fits c = c.fits_front.ensures.room.0 c.if-not-fits_front.false
