use Rattle.std.proofs.Common.{◌∙◌, ap, inl, inr, refl, rules}
use Rattle.std.specs.Prelude.{Err}
use Rattle.site.specs.Faults.{with_output_fault}
use Rattle.site.proofs.Laws.{fault_then, stays_honest}
use Rattle.site.specs.declared.outside.Dev.{Dev}
use Rattle.image_check.specs.declared.verdict.Verdict.{Verdict}
use Rattle.front_end.specs.Check.{verdict_line}
use Rattle.front_end.specs.Texts.{fault_line}
use Rattle.front_end.specs.declared.halt.Halt.TheVariants as halt
use Rattle.front_end.proofs.CheckLaws.{answer_stopped, answer_told, answer_untold, checked, contract, fails_unread, first_verdict, looks_told, never_stopped, no_verdict, six_is_neither, stopped_others, told_others}
use Rattle.front_end.proofs.Firsts.{first_halted, first_untold, work_halts}
use Rattle.front_end.proofs.check.serve_check.Goals as goal

pub returns-in-Ok-tell_verdict-clause-check : goal.returns-in-Ok-tell_verdict-clause-check
returns-in-Ok-tell_verdict-clause-check g c =
    let old = g.S.Site.state c.args.site.now in
    let mid = g.S.Site.state c.judge.new.site in
    let new = g.S.Site.state c.tell_verdict.new.site in
    let v = c.in-Ok.verdict in
    let status = c.status_of.result in
    contract c.one_reading.ensures.none old new status
    (checked old mid new (verdict_line v) status c.tell_verdict.result c.judge.ensures.reads.preserves c.judge.ensures.reads.same c.tell_verdict.ensures
    (answer_told v status old new c.status_of.ensures c.in-Ok.ensures.verdict)
    (λ honest done. c.in-Ok-tell_verdict.ensures.told (stays_honest old mid c.judge.ensures.reads.preserves honest)))
    (told_others v status c.status_of.ensures)
    (λ none. inl (fails_unread c.judge.result v old mid new status c.tell_verdict.result c.in-Ok.is (c.judge.ensures.sizes none) (inl c.status_of.ensures) c.tell_verdict.ensures))
    (λ done. c.in-Ok-tell_verdict.ensures.faults ∙ c.in-Ok.ensures.reads.faults)
    (looks_told old mid new c.judge.ensures.looks c.tell_verdict.ensures.reads)

pub returns-in-Err-tell_verdict-clause-check : goal.returns-in-Err-tell_verdict-clause-check
returns-in-Err-tell_verdict-clause-check g c =
    let old = g.S.Site.state c.args.site.now in
    let mid = g.S.Site.state c.judge.new.site in
    let new = g.S.Site.state c.tell_verdict.new.site in
    let v = c.in-Ok.verdict in
    contract c.one_reading.ensures.none old new 6
    (checked old mid new (verdict_line v) 6 c.tell_verdict.result c.judge.ensures.reads.preserves c.judge.ensures.reads.same c.tell_verdict.ensures
    (answer_untold v old new c.in-Ok.ensures.verdict (search rules))
    (λ honest done. absurd (six_is_neither 6 refl done)))
    (inr (inr (inr (inl refl))))
    (λ none. inl (fails_unread c.judge.result v old mid new 6 c.tell_verdict.result c.in-Ok.is (c.judge.ensures.sizes none) (inr refl) c.tell_verdict.ensures))
    (λ done. absurd (six_is_neither 6 refl done))
    (looks_told old mid new c.judge.ensures.looks c.tell_verdict.ensures.reads)

pub returns-in-Err-clause-check : goal.returns-in-Err-clause-check
returns-in-Err-clause-check g c =
    let old = g.S.Site.state c.args.site.now in
    let mid = g.S.Site.state c.judge.new.site in
    let new = g.S.Site.state c.tell_halt.new.site in
    let stop = c.in-Err.stop in
    let status = c.status.result in
    contract c.one_reading.ensures.none old new status
    (checked old mid new (fault_line (halt.Stop stop)) status c.tell_halt.result c.judge.ensures.reads.preserves c.judge.ensures.reads.same c.tell_halt.ensures
    (answer_stopped stop status old new c.status.ensures c.in-Err.ensures.reads.stops (λ (dev : Dev) is. fault_then dev old mid new (c.in-Err.ensures.reads.device dev (ap Err is)) c.tell_halt.ensures.preserves))
    (λ honest done. absurd (never_stopped stop status c.status.ensures c.in-Err.ensures.reads.stops done)))
    (stopped_others stop status c.status.ensures c.in-Err.ensures.reads.stops)
    (λ none. absurd (no_verdict c.judge.result stop _ c.in-Err.is (c.judge.ensures.sizes none).0))
    (λ done. absurd (never_stopped stop status c.status.ensures c.in-Err.ensures.reads.stops done))
    (looks_told old mid new c.judge.ensures.looks c.tell_halt.ensures.reads)

pub returns-in-Ok-tell_verdict-clause-first : goal.returns-in-Ok-tell_verdict-clause-first
returns-in-Ok-tell_verdict-clause-first g c = first_verdict c.in-Ok.verdict c.status_of.result _ _ c.status_of.ensures (c.in-Ok-tell_verdict.ensures.faults ∙ c.in-Ok.ensures.reads.faults)

pub returns-in-Err-tell_verdict-clause-first : goal.returns-in-Err-tell_verdict-clause-first
returns-in-Err-tell_verdict-clause-first g c = first_untold _ _ (c.in-Err-tell_verdict.ensures.faults ∙ ap with_output_fault c.in-Ok.ensures.reads.faults)

pub returns-in-Err-clause-first : goal.returns-in-Err-clause-first
returns-in-Err-clause-first g c =
    first_halted (halt.Stop c.in-Err.stop) c.status.result (g.S.Site.state c.args.site.now) (g.S.Site.state c.judge.new.site) (g.S.Site.state c.tell_halt.new.site) c.tell_halt.result c.status.ensures
    (c.in-Err.ensures.reads.faults ∙ work_halts Verdict c.in-Err.stop _) c.tell_halt.ensures.faults
