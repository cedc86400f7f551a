use Rattle.std.proofs.Common.{sym, ap, ◌∙◌}
use Rattle.std.specs.Prelude.{position}
use Rattle.std.proofs.lemmas.List.{take_rest}
use Rattle.workload.proofs.FirstLines.{is_newline, line_at, last_line_at}
use Rattle.workload.proofs.lives.line_end.Goals as goal

pub returns-in-Some-clause-line : goal.returns-in-Some-clause-line
returns-in-Some-clause-line c =
    line_at c.args.script.now c.args.at c.in-Some.place
    (ap (position is_newline) (sym (take_rest c.args.script.now c.args.at)) ∙ sym c.first_newline.ensures ∙ c.in-Some.is)

pub returns-in-None-clause-line : goal.returns-in-None-clause-line
returns-in-None-clause-line c =
    last_line_at c.args.script.now c.args.at c.requires
    (ap (position is_newline) (sym (take_rest c.args.script.now c.args.at)) ∙ sym c.first_newline.ensures ∙ c.in-None.is)
