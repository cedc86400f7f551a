use Rattle.stream_report.proofs.hearing.hear_line.Goals as goal

pub returns-in-Ok-clause-accepted : goal.returns-in-Ok-clause-accepted
returns-in-Ok-clause-accepted c = λ pages s popped stands.
    let h = c.in-Ok.ensures.accepted pages s popped stands in
    (h.0, h.1, c.forget.ensures pages h.0 popped h.2)
