use Rattle.std.proofs.Common.{◌≡◌, ℕ, ◌+◌, ◌<◌, ◌++◌, ◌∷◌, [], length, length-append, refl, sym, ◌∙◌, ap, true, arith}
use Rattle.site.specs.declared.geometry.Geometry.{Geometry}
use Rattle.site.specs.Faults.{Faults}
use Rattle.site.proofs.Laws.{goes_in_sequence, stays_honest}
use Rattle.shell_text.specs.Runs.{lines_of}
use Rattle.stream_lines.specs.Lines.{AsksFor, to_hear}
use Rattle.stream_lines.proofs.Asked.{asks_none}
use Rattle.archive_restore.specs.Progress.{EndsOnSite, GoesOnRestoring, HasHeard, HasWritten, IsUnderWay}
use Rattle.archive_restore.specs.Restores.{HasFewCommits, IsTarget}
use Rattle.archive_restore.proofs.Taken.{asks_still}
use Rattle.archive_restore.proofs.Heard.{honest_of}
use Rattle.archive_restore.proofs.Stills.{heard_still}
use Rattle.archive_restore.specs.declared.fault.Fault.{Fault}
use Rattle.site.specs.State.{State as Site}
use Rattle.log_archive.specs.Accepted.{blank_stream}
use Rattle.archive_restore.proofs.Outcomes.{cause_known, known_done, known_never, known_stopped, outcome_done, outcome_never, outcome_stopped, too_many}
use Rattle.archive_restore.proofs.restored.restore_commits.Given.{Over}
use Rattle.archive_restore.proofs.restored.restore_commits.Goals.{After-hear}
use Rattle.archive_restore.specs.Faults.{after_fault}
use Rattle.archive_restore.proofs.restored.restore_commits.Goals as goal

pub loop-line-init : goal.loop-line-init
loop-line-init g c = record {
  preserves = c.start.ensures.preserves;
  faults = c.in-Ok.ensures.faults;
  most = let none = c.in-Ok.ensures.none in omega (arith, none);
  going = (c.in-Ok.ensures.going.0, c.in-Ok.ensures.going.1, c.in-Ok.ensures.going.4, c.in-Ok.ensures.going.3);
  progress = λ geometry t.
      let b = c.in-Ok.ensures.begins geometry t in
      record { tested = b.0; same = b.1; read = b.6; kept = b.2; lines = []; s = _; goes = b.3; written = b.4; heard = b.5; long = refl; asks = asks_none (HasFewCommits geometry.pages c.args.count) _ _ (c.start.ensures.left t.honest ∙ sym b.1.left) };
}

pub returns-in-Err-clause-restores : goal.returns-in-Err-clause-restores
returns-in-Err-clause-restores g c geometry t =
    let old = g.S.Site.state c.args.site.now in
    let new = g.S.Site.state c.start.new.site in
    outcome_never c.args.count c.args.pool geometry old new c.in-Err.fault (c.start.ensures.left t.honest) (c.in-Err.ensures.never geometry _ c.args.count t)

pub write_waiting-requires : goal.write_waiting-requires
write_waiting-requires g c = record { going = (c.loop-line.line, c.loop-line.invariant.going.0, c.loop-line.invariant.going.3); most = c.loop-line.invariant.most }

pub hear-requires : goal.hear-requires
hear-requires g c = (c.in-Ok-false.ensures.going c.loop-line.line c.loop-line.invariant.going.0 c.loop-line.invariant.going.3).source

pub returns-in-Ok-true-clause-restores : goal.returns-in-Ok-true-clause-restores
returns-in-Ok-true-clause-restores g c geometry t =
    let u = c.loop-line.invariant.progress geometry t in
    outcome_done c.args.count c.args.pool geometry (g.S.Site.state c.args.site.now) (g.S.Site.state c.loop-line.site) (g.S.Site.state c.write_waiting.new.site) c.loop-line.restoring c.write_waiting.new.self c.loop-line.line u
    (c.in-Ok-true.ensures.writes c.args.pool geometry u.s u.tested u.written) (c.in-Ok-true.ensures.all c.in-Ok-true.field-0-test) (c.write_waiting.ensures.left (honest_of c.args.pool geometry u.s u.tested (g.S.Site.state c.loop-line.site) c.loop-line.restoring u.written)) c.queue_is_on_flash.ensures c.versions_are_seen.ensures _

pub returns-in-Err-write_waiting-clause-restores : goal.returns-in-Err-write_waiting-clause-restores
returns-in-Err-write_waiting-clause-restores g c geometry t =
    let u = c.loop-line.invariant.progress geometry t in
    let behind = lines_of true (to_hear c.loop-line.restoring.source (g.S.Site.state c.loop-line.site)) in
    outcome_stopped c.args.count c.args.pool geometry (g.S.Site.state c.args.site.now) u.tested (g.S.Site.state c.write_waiting.new.site) u.lines behind u.s c.in-Err-write_waiting.fault u.same u.read u.kept u.heard.accepted u.heard.all
    (asks_still (HasFewCommits geometry.pages c.args.count) u.tested (g.S.Site.state c.loop-line.site) (g.S.Site.state c.write_waiting.new.site) u.asks (c.write_waiting.ensures.left (honest_of c.args.pool geometry u.s u.tested (g.S.Site.state c.loop-line.site) c.loop-line.restoring u.written)))
    (c.in-Err-write_waiting.ensures.stops c.args.pool geometry u.s u.tested u.lines behind c.loop-line.line u.goes u.written)

-- All that waited is written.
module _ (g : Over) (c : After-hear g) (geometry : Geometry) (t : IsTarget geometry (g.S.Site.state c.args.site.now)) where
  abbrev u : IsUnderWay c.args.pool c.args.count geometry (g.S.Site.state c.args.site.now) (g.S.Site.state c.loop-line.site) c.loop-line.restoring c.loop-line.line
  u = c.loop-line.invariant.progress geometry t

  goes : GoesOnRestoring c.loop-line.line u.tested (g.S.Site.state c.write_waiting.new.site) c.write_waiting.new.self
  goes = c.in-Ok-false.ensures.going c.loop-line.line u.tested u.goes

  written : HasWritten c.args.pool geometry u.s u.tested (g.S.Site.state c.write_waiting.new.site) c.write_waiting.new.self
  written = c.in-Ok-false.ensures.writes c.args.pool geometry u.s u.tested u.written

  heard : HasHeard geometry u.lines u.s u.tested (g.S.Site.state c.write_waiting.new.site) c.write_waiting.new.self
  heard = heard_still geometry u.lines u.s u.tested (g.S.Site.state c.loop-line.site) (g.S.Site.state c.write_waiting.new.site) c.loop-line.restoring c.write_waiting.new.self u.heard c.in-Ok-false.ensures.source
      (c.write_waiting.ensures.left (honest_of c.args.pool geometry u.s u.tested (g.S.Site.state c.loop-line.site) c.loop-line.restoring u.written))

  asks : AsksFor (HasFewCommits geometry.pages c.args.count) u.tested (g.S.Site.state c.write_waiting.new.site)
  asks = asks_still (HasFewCommits geometry.pages c.args.count) u.tested (g.S.Site.state c.loop-line.site) (g.S.Site.state c.write_waiting.new.site) u.asks (c.write_waiting.ensures.left (honest_of c.args.pool geometry u.s u.tested (g.S.Site.state c.loop-line.site) c.loop-line.restoring u.written))

pub returns-in-Err-hear-clause-restores : goal.returns-in-Err-hear-clause-restores
returns-in-Err-hear-clause-restores g c geometry t =
    let s = (goal.at.returns-in-Err-hear-clause-restores g c).After-hear in
    let u = c.loop-line.invariant.progress geometry t in
    let none = c.in-Ok-false.ensures.none c.args.pool geometry u.s u.tested u.written c.in-Ok-false.field-0-test in
    let st = c.in-Err-hear.ensures.stops c.args.pool geometry u.s u.tested u.lines c.loop-line.line c.args.count (goes g s geometry t) (written g s geometry t) (heard g s geometry t) none.0 none.1 (ap (λ n. n + 1) (sym u.long)) in
    outcome_stopped c.args.count c.args.pool geometry (g.S.Site.state c.args.site.now) u.tested (g.S.Site.state c.hear.new.site) u.lines st.0 u.s c.in-Err-hear.fault u.same u.read u.kept u.heard.accepted st.1
    (c.hear.ensures.asks c.args.pool geometry u.s u.tested u.lines c.args.count (written g s geometry t) (heard g s geometry t) none.0 none.1 (asks g s geometry t)) st.2

pub loop-line-preserved : goal.loop-line-preserved
loop-line-preserved g c =
    let s = (goal.at.loop-line-preserved g c).After-hear in
    record {
      preserves = goes_in_sequence _ _ _ c.loop-line.invariant.preserves (goes_in_sequence _ _ _ c.write_waiting.ensures.preserves c.hear.ensures.preserves);
      faults = c.in_default.ensures.faults ∙ c.in-Ok-false.ensures.faults ∙ c.loop-line.invariant.faults;
      most = let most = c.in-Ok-false.ensures.most in let same = c.hear.ensures.written in omega (arith, most, same);
      going = (
        c.loop-line.invariant.going.0,
        c.loop-line.invariant.going.1,
        c.loop-line.invariant.going.2,
        c.in_default.ensures.going c.loop-line.line c.loop-line.invariant.going.0 (c.in-Ok-false.ensures.going c.loop-line.line c.loop-line.invariant.going.0 c.loop-line.invariant.going.3),
      );
      progress = λ geometry t.
          let u = c.loop-line.invariant.progress geometry t in
          let none = c.in-Ok-false.ensures.none c.args.pool geometry u.s u.tested u.written c.in-Ok-false.field-0-test in
          let h = c.in_default.ensures.hears c.args.pool geometry u.s u.tested u.lines (written g s geometry t) (heard g s geometry t) in
          record {
            tested = u.tested;
            same = u.same;
            read = u.read;
            kept = u.kept;
            lines = u.lines ++ h.0 ∷ [];
            s = h.1;
            goes = c.in_default.ensures.going c.loop-line.line u.tested (goes g s geometry t);
            written = h.2;
            heard = h.3;
            asks = c.hear.ensures.asks c.args.pool geometry u.s u.tested u.lines c.args.count (written g s geometry t) (heard g s geometry t) none.0 none.1 (asks g s geometry t);
            long = let all = length-append u.lines (h.0 ∷ []) in let long = u.long in omega (arith, all, long);
          };
    }

pub returns-clause-restores : goal.returns-clause-restores
returns-clause-restores g c geometry t =
    let u = c.loop-line.invariant.progress geometry t in
    let few = too_many geometry u.lines u.s u.tested (g.S.Site.state c.loop-line.site) c.loop-line.restoring u.heard c.loop-line.invariant.going.3.source in
    let long = u.long in
    absurd (omega (arith, few, long, c.loop-line-test.false))

pub returns-in-Ok-true-clause-preserves : goal.returns-in-Ok-true-clause-preserves
returns-in-Ok-true-clause-preserves g c = goes_in_sequence _ _ _ c.loop-line.invariant.preserves c.write_waiting.ensures.preserves

pub returns-in-Err-write_waiting-clause-preserves : goal.returns-in-Err-write_waiting-clause-preserves
returns-in-Err-write_waiting-clause-preserves g c = goes_in_sequence _ _ _ c.loop-line.invariant.preserves c.write_waiting.ensures.preserves

pub returns-in-Err-hear-clause-preserves : goal.returns-in-Err-hear-clause-preserves
returns-in-Err-hear-clause-preserves g c = goes_in_sequence _ _ _ c.loop-line.invariant.preserves (goes_in_sequence _ _ _ c.write_waiting.ensures.preserves c.hear.ensures.preserves)

pub returns-in-Ok-true-clause-refuses : goal.returns-in-Ok-true-clause-refuses
returns-in-Ok-true-clause-refuses g c none = absurd (c.in-Ok.ensures.refuses none)

pub returns-in-Ok-true-clause-unfit : goal.returns-in-Ok-true-clause-unfit
returns-in-Ok-true-clause-unfit g c honest w = absurd (c.in-Ok.ensures.unfit honest w)

pub returns-in-Err-write_waiting-clause-refuses : goal.returns-in-Err-write_waiting-clause-refuses
returns-in-Err-write_waiting-clause-refuses g c none = absurd (c.in-Ok.ensures.refuses none)

pub returns-in-Err-write_waiting-clause-unfit : goal.returns-in-Err-write_waiting-clause-unfit
returns-in-Err-write_waiting-clause-unfit g c honest w = absurd (c.in-Ok.ensures.unfit honest w)

pub returns-in-Err-hear-clause-refuses : goal.returns-in-Err-hear-clause-refuses
returns-in-Err-hear-clause-refuses g c none = absurd (c.in-Ok.ensures.refuses none)

pub returns-in-Err-hear-clause-unfit : goal.returns-in-Err-hear-clause-unfit
returns-in-Err-hear-clause-unfit g c honest w = absurd (c.in-Ok.ensures.unfit honest w)

pub returns-clause-refuses : goal.returns-clause-refuses
returns-clause-refuses g c none = absurd (c.in-Ok.ensures.refuses none)

pub returns-clause-unfit : goal.returns-clause-unfit
returns-clause-unfit g c honest w = absurd (c.in-Ok.ensures.unfit honest w)

pub returns-in-Ok-true-clause-faults : goal.returns-in-Ok-true-clause-faults
returns-in-Ok-true-clause-faults g c = c.in-Ok-true.ensures.faults ∙ c.loop-line.invariant.faults

pub returns-in-Err-write_waiting-clause-faults : goal.returns-in-Err-write_waiting-clause-faults
returns-in-Err-write_waiting-clause-faults g c = c.in-Err-write_waiting.ensures.faults ∙ ap (λ (f : Faults). after_fault c.in-Err-write_waiting.fault f) c.loop-line.invariant.faults

pub returns-in-Err-hear-clause-faults : goal.returns-in-Err-hear-clause-faults
returns-in-Err-hear-clause-faults g c = c.in-Err-hear.ensures.faults ∙ ap (λ (f : Faults). after_fault c.in-Err-hear.fault f) (c.in-Ok-false.ensures.faults ∙ c.loop-line.invariant.faults)

pub returns-clause-faults : goal.returns-clause-faults
returns-clause-faults g c = c.loop-line.invariant.faults

-- What is known of any honest site, and why it ends on every one.

pub returns-in-Err-clause-known : goal.returns-in-Err-clause-known
returns-in-Err-clause-known g c honest geometry limits lengths =
    let old = g.S.Site.state c.args.site.now in
    known_never c.args.count geometry old (g.S.Site.state c.start.new.site) c.in-Err.fault (c.in-Err.ensures.early geometry (lines_of true old.input.left) (blank_stream geometry.pages) c.args.count limits lengths honest)

pub returns-in-Ok-true-clause-known : goal.returns-in-Ok-true-clause-known
returns-in-Ok-true-clause-known g c honest geometry limits lengths =
    let q = c.loop-line.invariant.going in
    known_done c.args.count geometry (g.S.Site.state c.args.site.now) q.0 (g.S.Site.state c.write_waiting.new.site) honest q.2 q.1 limits lengths c.loop-line.line c.write_waiting.new.self (c.in-Ok-true.ensures.going c.loop-line.line q.0 q.3)
    (c.in-Ok-true.ensures.all c.in-Ok-true.field-0-test) _

pub returns-in-Err-write_waiting-clause-known : goal.returns-in-Err-write_waiting-clause-known
returns-in-Err-write_waiting-clause-known g c honest geometry limits lengths =
    let q = c.loop-line.invariant.going in
    known_stopped c.args.count geometry (g.S.Site.state c.args.site.now) q.0 (g.S.Site.state c.write_waiting.new.site) honest q.2 q.1 limits lengths c.in-Err-write_waiting.fault (c.in-Err-write_waiting.ensures.early c.loop-line.line q.0 q.3)

pub returns-in-Err-write_waiting-clause-cause : goal.returns-in-Err-write_waiting-clause-cause
returns-in-Err-write_waiting-clause-cause g c =
    let q = c.loop-line.invariant.going in
    cause_known c.in-Err-write_waiting.fault (g.S.Site.state c.args.site.now) q.0 (g.S.Site.state c.write_waiting.new.site) q.2 q.1 (c.in-Err-write_waiting.ensures.early c.loop-line.line q.0 q.3).cause

-- a line isn't heard
module _ (g : Over) (c : After-hear g) (f : Fault) (ends : (heard : ℕ) (entry : Site) (count : ℕ) (goes : GoesOnRestoring heard entry (g.S.Site.state c.write_waiting.new.site) c.write_waiting.new.self) → c.write_waiting.new.self.written ≡ length goes.s.nets → c.write_waiting.new.self.written < count
    → c.loop-line.line + 1 ≡ heard + 1 → EndsOnSite count entry (g.S.Site.state c.hear.new.site) f) where
  unheard : EndsOnSite c.args.count c.loop-line.invariant.going.0 (g.S.Site.state c.hear.new.site) f
  unheard =
      let q = c.loop-line.invariant.going in
      let waits = c.in-Ok-false.ensures.waits c.loop-line.line q.0 q.3 c.in-Ok-false.field-0-test in
      ends c.loop-line.line q.0 c.args.count waits.0 waits.1 waits.2 refl

pub returns-in-Err-hear-clause-known : goal.returns-in-Err-hear-clause-known
returns-in-Err-hear-clause-known g c honest geometry limits lengths =
    let q = c.loop-line.invariant.going in
    known_stopped c.args.count geometry (g.S.Site.state c.args.site.now) q.0 (g.S.Site.state c.hear.new.site) honest q.2 q.1 limits lengths c.in-Err-hear.fault (unheard g (goal.at.returns-in-Err-hear-clause-known g c).After-hear c.in-Err-hear.fault c.in-Err-hear.ensures.early)

pub returns-in-Err-hear-clause-cause : goal.returns-in-Err-hear-clause-cause
returns-in-Err-hear-clause-cause g c =
    let q = c.loop-line.invariant.going in
    cause_known c.in-Err-hear.fault (g.S.Site.state c.args.site.now) q.0 (g.S.Site.state c.hear.new.site) q.2 q.1 (unheard g (goal.at.returns-in-Err-hear-clause-cause g c).After-hear c.in-Err-hear.fault c.in-Err-hear.ensures.early).cause

pub returns-clause-known : goal.returns-clause-known
returns-clause-known g c honest geometry limits lengths =
    let q = c.loop-line.invariant.going in
    let there = stays_honest (g.S.Site.state c.args.site.now) q.0 q.1 honest in
    let few = too_many q.3.g q.3.lines q.3.s q.0 (g.S.Site.state c.loop-line.site) c.loop-line.restoring (q.3.heard there) q.3.source in
    let long = q.3.long in
    absurd (omega (arith, few, long, c.loop-line-test.false))

pub returns-clause-cause : goal.returns-clause-cause
returns-clause-cause g c honest =
    let q = c.loop-line.invariant.going in
    let there = stays_honest (g.S.Site.state c.args.site.now) q.0 q.1 honest in
    let few = too_many q.3.g q.3.lines q.3.s q.0 (g.S.Site.state c.loop-line.site) c.loop-line.restoring (q.3.heard there) q.3.source in
    let long = q.3.long in
    absurd (omega (arith, few, long, c.loop-line-test.false))
