use Rattle.std.proofs.Common.{◌≡◌, ◌+◌, ◌++◌, ◌∷◌, [], List, ℕ, true, refl, sym, ◌∙◌, ap, subst, arith, Err}
use Rattle.std.specs.Prelude.{take}
use Rattle.site.specs.Faults.{faults_in}
use Rattle.site.proofs.Laws.{rose_since, stays_honest}
use Rattle.shell_text.specs.Runs.{lines_of}
use Rattle.stream_lines.specs.Faults as hearing
use Rattle.stream_lines.specs.Lines.{HearsLine, to_hear}
use Rattle.stream_lines.specs.declared.source.Fault as source
use Rattle.stream_lines.specs.declared.source.Fault.TheVariants as taking
use Rattle.stream_lines.specs.declared.source.Heard.TheVariants as kind
use Rattle.archive_restore.specs.declared.fault.Fault.{Fault}
use Rattle.archive_restore.specs.Progress.{EndsOnSite, StopsAsking}
use Rattle.face.specs.Causes.{IsOverLimit}
use Rattle.archive_restore.proofs.Taken.{asks_next}
use Rattle.archive_restore.proofs.Heard.{cut_as, ends_heard, goes_on_heard, heard_as, hears_on, honest_of, left_with, line_first, long_refused, over_limit, stops_here}
use Rattle.archive_restore.specs.Faults.{after_fault}
use Rattle.archive_restore.proofs.restoring.Restoring.hear.Goals as goal

pub returns-in-Err-Input-clause-stops : goal.returns-in-Err-Input-clause-stops
returns-in-Err-Input-clause-stops g c pool geometry s entry lines number' count goes h heard all less number =
    let mid = g.S.Site.state c.args.site.now in
    let new = g.S.Site.state c.next.new.site in
    let r = c.args.self.now in
    let honest = honest_of pool geometry s entry mid r h in (
      lines_of true (to_hear r.source mid),
      heard.all,
      stops_here pool geometry s entry mid new r h c.next.ensures.preserves (c.next.ensures.same honest) lines _ count _
          (rose_since _ _ _ goes.database.preserves.input_faults (c.in-Err-Input.ensures.input (ap Err c.in-Err-Input.field-0-is)), all) less (λ dev e. cc),
    )

pub returns-in-Err-Limit-clause-stops : goal.returns-in-Err-Limit-clause-stops
returns-in-Err-Limit-clause-stops g c pool geometry s entry lines number' count goes h heard all less number =
    let mid = g.S.Site.state c.args.site.now in
    let new = g.S.Site.state c.next.new.site in
    let r = c.args.self.now in
    let honest = honest_of pool geometry s entry mid r h in (
      lines_of true (to_hear r.source mid),
      heard.all,
      stops_here pool geometry s entry mid new r h c.next.ensures.preserves (c.next.ensures.same honest) lines _ count _
          (λ h'. over_limit geometry lines s entry mid new r heard (cut_as c.in-Err-Limit.field-0 taking.Limit _ _ _ _ (c.in-Err-Limit.ensures.cut_off honest heard.ended) c.in-Err-Limit.field-0-is), all) less (λ dev e. cc),
    )

pub returns-in-Ok-End-clause-stops : goal.returns-in-Ok-End-clause-stops
returns-in-Ok-End-clause-stops g c pool geometry s entry lines number' count goes h heard all less number =
    let mid = g.S.Site.state c.args.site.now in
    let new = g.S.Site.state c.next.new.site in
    let r = c.args.self.now in
    let honest = honest_of pool geometry s entry mid r h in
    let end = heard_as c.in-Ok-End.field-0 kind.End _ _ _ _ _ (c.in-Ok-End.ensures.heard honest heard.ended) c.in-Ok-End.field-0-is in (
      [],
      heard.all ∙ ap (λ (l : List ℕ). lines ++ lines_of true l) end.0,
      stops_here pool geometry s entry mid new r h c.next.ensures.preserves (c.next.ensures.same honest) lines _ count _ (refl, all, refl) less (λ dev e. cc),
    )

pub returns-in-Ok-Long-clause-stops : goal.returns-in-Ok-Long-clause-stops
returns-in-Ok-Long-clause-stops g c pool geometry s entry lines number' count goes h heard all less number =
    let mid = g.S.Site.state c.args.site.now in
    let new = g.S.Site.state c.next.new.site in
    let r = c.args.self.now in
    let honest = honest_of pool geometry s entry mid r h in
    let long = heard_as c.in-Ok-Long.field-0 kind.Long _ _ _ _ _ (c.in-Ok-Long.ensures.heard honest heard.ended) c.in-Ok-Long.field-0-is in (
      long.line ∷ long.behind,
      left_with geometry lines s entry mid r long.line long.behind heard long.is_first,
      stops_here pool geometry s entry mid new r h c.next.ensures.preserves (c.next.ensures.same honest) lines _ count _ (number, all, long.line, long.behind, refl, λ now. long_refused geometry.pages long.line s now long.many) less (λ dev e. cc),
    )

pub returns-in-Ok-clause-going : goal.returns-in-Ok-clause-going
returns-in-Ok-clause-going g c number entry goes =
    let mid = g.S.Site.state c.args.site.now in
    let new = g.S.Site.state c.next.new.site in
    let r = c.args.self.now in
    goes_on_heard number entry mid new r c.line.new.self c.next.new.self c.as_slice.result.now goes c.next.ensures.preserves c.next.ensures.same c.in-Ok-Line.ensures.faults c.next.ensures.source
    (c.in-Ok.ensures.accepted goes.g.pages goes.s (take c.args.self.now.written goes.s.nets) goes.archived.replay)
    (λ honest ended.
    let first = heard_as c.in-Ok-Line.field-0 kind.Line _ _ _ _ _ (c.in-Ok-Line.ensures.heard honest ended) c.in-Ok-Line.field-0-is in (
      subst (λ (l : List ℕ). HearsLine l r.source.ended c.next.new.self.ended (to_hear r.source mid) (to_hear c.next.new.self new)) (sym c.as_slice.ensures.value) first,
      c.in-Ok-Line.ensures.ended honest ended,
      c.in-Ok-Line.ensures.count honest,
      (c.next.ensures.takes honest ended).count,
    ))

pub returns-in-Ok-clause-hears : goal.returns-in-Ok-clause-hears
returns-in-Ok-clause-hears g c pool geometry s entry lines h heard =
    let mid = g.S.Site.state c.args.site.now in
    let new = g.S.Site.state c.next.new.site in
    let r = c.args.self.now in
    let honest = honest_of pool geometry s entry mid r h in
    let first = heard_as c.in-Ok-Line.field-0 kind.Line _ _ _ _ _ (c.in-Ok-Line.ensures.heard honest heard.ended) c.in-Ok-Line.field-0-is in
    hears_on pool geometry s entry mid new r c.line.new.self c.next.new.self lines c.as_slice.result.now h heard c.next.ensures.preserves (c.next.ensures.same honest) c.next.ensures.source (c.in-Ok-Line.ensures.ended honest heard.ended)
    (subst (λ (l : List ℕ). HearsLine l r.source.ended c.next.new.self.ended (to_hear r.source mid) (to_hear c.next.new.self new)) (sym c.as_slice.ensures.value) first) (c.in-Ok-Line.ensures.count honest) (c.next.ensures.takes honest heard.ended).count
    (c.in-Ok.ensures.accepted geometry.pages s (take r.written s.nets) h.replay)

pub returns-in-Err-BadStream-clause-stops : goal.returns-in-Err-BadStream-clause-stops
returns-in-Err-BadStream-clause-stops g c pool geometry s entry lines number' count goes h heard all less number =
    let mid = g.S.Site.state c.args.site.now in
    let new = g.S.Site.state c.next.new.site in
    let r = c.args.self.now in
    let honest = honest_of pool geometry s entry mid r h in
    let first = heard_as c.in-Ok-Line.field-0 kind.Line _ _ _ _ _ (c.in-Ok-Line.ensures.heard honest heard.ended) c.in-Ok-Line.field-0-is in
    let line = c.as_slice.result.now in
    let same = subst (λ (l : List ℕ). HearsLine l r.source.ended c.next.new.self.ended (to_hear r.source mid) (to_hear c.next.new.self new)) (sym c.as_slice.ensures.value) first in
    let behind = lines_of true (to_hear c.next.new.self new) in (
      line ∷ behind,
      left_with geometry lines s entry mid r line behind heard (line_first line r.source c.next.new.self mid new c.next.ensures.source (c.in-Ok-Line.ensures.ended honest heard.ended) same),
      stops_here pool geometry s entry mid new r h c.next.ensures.preserves (c.next.ensures.same honest) lines _ count _
          (number, all, line, behind, refl, c.in-Err-BadStream.ensures.bad geometry.pages s (take r.written s.nets) h.replay (ap Err c.in-Err-BadStream.field-0-is)) less (λ dev e. cc),
    )

pub returns-in-Err-Memory-clause-stops : goal.returns-in-Err-Memory-clause-stops
returns-in-Err-Memory-clause-stops g c pool geometry s entry lines number' count goes h heard all less number =
    let mid = g.S.Site.state c.args.site.now in
    let new = g.S.Site.state c.next.new.site in
    let r = c.args.self.now in
    let honest = honest_of pool geometry s entry mid r h in (
      lines_of true (to_hear r.source mid),
      heard.all,
      subst (λ (f : Fault). StopsAsking pool geometry lines (lines_of true (to_hear r.source mid)) s count entry new f) (sym c.lacks_memory.ensures)
          (stops_here pool geometry s entry mid new r h c.next.ensures.preserves (c.next.ensures.same honest) lines (lines_of true (to_hear r.source mid)) count _ tt less (λ dev e. cc)),
    )

pub returns-in-Err-Input-clause-faults : goal.returns-in-Err-Input-clause-faults
returns-in-Err-Input-clause-faults g c = c.in-Err-Input.ensures.faults ∙ ap (λ (f : source.Fault). hearing.after_fault f (faults_in (g.S.Site.state c.args.site.now))) c.in-Err-Input.field-0-is

pub returns-in-Err-Limit-clause-faults : goal.returns-in-Err-Limit-clause-faults
returns-in-Err-Limit-clause-faults g c = c.in-Err-Limit.ensures.faults ∙ ap (λ (f : source.Fault). hearing.after_fault f (faults_in (g.S.Site.state c.args.site.now))) c.in-Err-Limit.field-0-is

pub returns-in-Err-Memory-clause-faults : goal.returns-in-Err-Memory-clause-faults
returns-in-Err-Memory-clause-faults g c = subst (λ (f : Fault). faults_in (g.S.Site.state c.next.new.site) ≡ after_fault f (faults_in (g.S.Site.state c.args.site.now))) (sym c.lacks_memory.ensures) c.in-Ok-Line.ensures.faults

pub returns-in-Err-Input-clause-asks : goal.returns-in-Err-Input-clause-asks
returns-in-Err-Input-clause-asks g c pool geometry s entry lines count h heard all less before =
    asks_next geometry lines s entry (g.S.Site.state c.args.site.now) (g.S.Site.state c.next.new.site) c.args.self.now count heard (omega (arith, all, less)) h.told
    (c.next.ensures.takes (honest_of pool geometry s entry (g.S.Site.state c.args.site.now) c.args.self.now h) heard.ended) before

pub returns-in-Err-Limit-clause-asks : goal.returns-in-Err-Limit-clause-asks
returns-in-Err-Limit-clause-asks g c pool geometry s entry lines count h heard all less before =
    asks_next geometry lines s entry (g.S.Site.state c.args.site.now) (g.S.Site.state c.next.new.site) c.args.self.now count heard (omega (arith, all, less)) h.told
    (c.next.ensures.takes (honest_of pool geometry s entry (g.S.Site.state c.args.site.now) c.args.self.now h) heard.ended) before

pub returns-in-Ok-End-clause-asks : goal.returns-in-Ok-End-clause-asks
returns-in-Ok-End-clause-asks g c pool geometry s entry lines count h heard all less before =
    asks_next geometry lines s entry (g.S.Site.state c.args.site.now) (g.S.Site.state c.next.new.site) c.args.self.now count heard (omega (arith, all, less)) h.told
    (c.next.ensures.takes (honest_of pool geometry s entry (g.S.Site.state c.args.site.now) c.args.self.now h) heard.ended) before

pub returns-in-Ok-Long-clause-asks : goal.returns-in-Ok-Long-clause-asks
returns-in-Ok-Long-clause-asks g c pool geometry s entry lines count h heard all less before =
    asks_next geometry lines s entry (g.S.Site.state c.args.site.now) (g.S.Site.state c.next.new.site) c.args.self.now count heard (omega (arith, all, less)) h.told
    (c.next.ensures.takes (honest_of pool geometry s entry (g.S.Site.state c.args.site.now) c.args.self.now h) heard.ended) before

pub returns-in-Ok-clause-asks : goal.returns-in-Ok-clause-asks
returns-in-Ok-clause-asks g c pool geometry s entry lines count h heard all less before =
    asks_next geometry lines s entry (g.S.Site.state c.args.site.now) (g.S.Site.state c.next.new.site) c.args.self.now count heard (omega (arith, all, less)) h.told
    (c.next.ensures.takes (honest_of pool geometry s entry (g.S.Site.state c.args.site.now) c.args.self.now h) heard.ended) before

pub returns-in-Err-BadStream-clause-asks : goal.returns-in-Err-BadStream-clause-asks
returns-in-Err-BadStream-clause-asks g c pool geometry s entry lines count h heard all less before =
    asks_next geometry lines s entry (g.S.Site.state c.args.site.now) (g.S.Site.state c.next.new.site) c.args.self.now count heard (omega (arith, all, less)) h.told
    (c.next.ensures.takes (honest_of pool geometry s entry (g.S.Site.state c.args.site.now) c.args.self.now h) heard.ended) before

pub returns-in-Err-Memory-clause-asks : goal.returns-in-Err-Memory-clause-asks
returns-in-Err-Memory-clause-asks g c pool geometry s entry lines count h heard all less before =
    asks_next geometry lines s entry (g.S.Site.state c.args.site.now) (g.S.Site.state c.next.new.site) c.args.self.now count heard (omega (arith, all, less)) h.told
    (c.next.ensures.takes (honest_of pool geometry s entry (g.S.Site.state c.args.site.now) c.args.self.now h) heard.ended) before

-- Of every site.

pub returns-in-Err-Input-clause-early : goal.returns-in-Err-Input-clause-early
returns-in-Err-Input-clause-early g c number entry count goes all less is =
    let rose = rose_since _ _ _ goes.database.preserves.input_faults (c.in-Err-Input.ensures.input (ap Err c.in-Err-Input.field-0-is)) in
    ends_heard number count entry (g.S.Site.state c.args.site.now) (g.S.Site.state c.next.new.site) c.args.self.now _ goes less (λ honest. (rose, all)) rose

pub returns-in-Err-Limit-clause-early : goal.returns-in-Err-Limit-clause-early
returns-in-Err-Limit-clause-early g c number entry count goes all less is =
    let mid = g.S.Site.state c.args.site.now in
    let new = g.S.Site.state c.next.new.site in
    let r = c.args.self.now in
    let over : IsOverLimit entry new = (λ honest.
    let h = goes.heard honest in
    over_limit goes.g goes.lines goes.s entry mid new r h (cut_as c.in-Err-Limit.field-0 taking.Limit _ _ _ _ (c.in-Err-Limit.ensures.cut_off (stays_honest entry mid goes.database.preserves honest) h.ended) c.in-Err-Limit.field-0-is)) in
    ends_heard number count entry mid new r _ goes less (λ honest. (over, all)) over

pub returns-in-Ok-End-clause-early : goal.returns-in-Ok-End-clause-early
returns-in-Ok-End-clause-early g c number entry count goes all less is =
    let mid = g.S.Site.state c.args.site.now in
    ends_heard number count entry mid (g.S.Site.state c.next.new.site) c.args.self.now _ goes less
    (λ honest.
    let end = heard_as c.in-Ok-End.field-0 kind.End _ _ _ _ _ (c.in-Ok-End.ensures.heard (stays_honest entry mid goes.database.preserves honest) (goes.heard honest).ended) c.in-Ok-End.field-0-is in
    (refl, all, ap (lines_of true) end.0)) tt

pub returns-in-Ok-Long-clause-early : goal.returns-in-Ok-Long-clause-early
returns-in-Ok-Long-clause-early g c number entry count goes all less is =
    let mid = g.S.Site.state c.args.site.now in
    ends_heard number count entry mid (g.S.Site.state c.next.new.site) c.args.self.now _ goes less
    (λ honest.
    let long = heard_as c.in-Ok-Long.field-0 kind.Long _ _ _ _ _ (c.in-Ok-Long.ensures.heard (stays_honest entry mid goes.database.preserves honest) (goes.heard honest).ended) c.in-Ok-Long.field-0-is in
    (is ∙ ap (λ n. n + 1) (sym goes.long), all, long.line, long.behind, long.is_first, λ now. long_refused goes.g.pages long.line goes.s now long.many)) tt

pub returns-in-Err-BadStream-clause-early : goal.returns-in-Err-BadStream-clause-early
returns-in-Err-BadStream-clause-early g c number entry count goes all less is =
    let mid = g.S.Site.state c.args.site.now in
    let new = g.S.Site.state c.next.new.site in
    let r = c.args.self.now in
    let line = c.as_slice.result.now in
    ends_heard number count entry mid new r _ goes less
    (λ honest.
    let there = stays_honest entry mid goes.database.preserves honest in
    let ended = (goes.heard honest).ended in
    let first = heard_as c.in-Ok-Line.field-0 kind.Line _ _ _ _ _ (c.in-Ok-Line.ensures.heard there ended) c.in-Ok-Line.field-0-is in
    let same = subst (λ (l : List ℕ). HearsLine l r.source.ended c.next.new.self.ended (to_hear r.source mid) (to_hear c.next.new.self new)) (sym c.as_slice.ensures.value) first in (
      is ∙ ap (λ n. n + 1) (sym goes.long),
      all,
      line,
      lines_of true (to_hear c.next.new.self new),
      line_first line r.source c.next.new.self mid new c.next.ensures.source (c.in-Ok-Line.ensures.ended there ended) same,
      c.in-Err-BadStream.ensures.bad goes.g.pages goes.s (take r.written goes.s.nets) goes.archived.replay (ap Err c.in-Err-BadStream.field-0-is),
    )) tt

pub returns-in-Err-Memory-clause-early : goal.returns-in-Err-Memory-clause-early
returns-in-Err-Memory-clause-early g c number entry count goes all less is =
    subst (λ (f : Fault). EndsOnSite count entry (g.S.Site.state c.next.new.site) f) (sym c.lacks_memory.ensures)
    (ends_heard number count entry (g.S.Site.state c.args.site.now) (g.S.Site.state c.next.new.site) c.args.self.now _ goes less (λ honest. tt) tt)
