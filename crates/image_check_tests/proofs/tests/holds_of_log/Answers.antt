use Rattle.std.proofs.Common.{subst}
use Rattle.std.specs.Prelude.{Option, IfSome}
use Rattle.mem_site.specs.MemState.{state_of}
use Rattle.image_form.specs.declared.formed.Found.{Found}
use Rattle.image_check.specs.Judging.{MayBeJudged}
use Rattle.image_check.proofs.Walking.{may_later}
use Rattle.image_check_tests.proofs.tests.holds_of_log.Goals as goal
use Rattle.image_check_tests.proofs.tests.holds_of_log.Goals.{In-Ok}

pub rule_transactions-requires : goal.rule_transactions-requires
rule_transactions-requires c =
    may_later c.in_ok-rule_blocks.ensures.reads (subst (λ (o : Option Found). IfSome o (λ found. MayBeJudged found (state_of c.found_with.new.site))) c.in-Some.is c.in_ok-found.ensures)

-- behind the survey
may : (c : In-Ok) → MayBeJudged c.in-Some.found (state_of c.rule_transactions.new.site)
may c =
    may_later c.in_ok-survey.ensures.reads (may_later c.in_ok-rule_blocks.ensures.reads
    (subst (λ (o : Option Found). IfSome o (λ found. MayBeJudged found (state_of c.found_with.new.site))) c.in-Some.is c.in_ok-found.ensures))

pub rule_undoable-requires : goal.rule_undoable-requires
rule_undoable-requires c = may (goal.at.rule_undoable-requires c).In-Ok

pub rule_apart-requires : goal.rule_apart-requires
rule_apart-requires c = may (goal.at.rule_apart-requires c).In-Ok

pub rule_page_room-requires : goal.rule_page_room-requires
rule_page_room-requires c = may (goal.at.rule_page_room-requires c).In-Ok
