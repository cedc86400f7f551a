use Rattle.image_check.proofs.Walking.{may_later}
use Rattle.image_check.proofs.place.place_on_log.Goals as goal

pub rule_undoable-requires : goal.rule_undoable-requires
rule_undoable-requires g c = may_later c.in_ok-survey.ensures.reads c.requires

pub rule_apart-requires : goal.rule_apart-requires
rule_apart-requires g c = may_later c.in_ok-survey.ensures.reads c.requires

pub rule_page_room-requires : goal.rule_page_room-requires
rule_page_room-requires g c = may_later c.in_ok-survey.ensures.reads c.requires
