use Rattle.image_check.proofs.Names.{◌++◌, ◌≤◌, List, length, take, reverse, Ok, AreKept, HaveRoom, opened, MayBeJudged, LooksOnce, FindsVersions, AreVersions, versions_on, Entry, LogRecord, OnlyReads}
use Rattle.image_check.proofs.FilledOnes.{Leaving}
use Rattle.image_check.proofs.filling.raise_all.Given as goal

abbrev pub invariant-loop-left : goal.invariant-loop-left
invariant-loop-left g l =
    let old = g.S.Site.state l.fn.site in
    let now = g.S.Site.state l.site in
    let geometry = l.found.log.geometry in
    record {
      may : MayBeJudged l.found now;
      leaving : (log : List Entry) (before : List LogRecord) → FindsVersions l.found l.frames old → AreVersions geometry old.image → AreKept (versions_on geometry old.image) (opened log (versions_on geometry old.image) before) l.fn.lengths.pages →
          HaveRoom (versions_on geometry old.image) (opened log (versions_on geometry old.image) before) →
          Leaving log (versions_on geometry old.image) (before ++ reverse l.updates) (reverse (take l.left l.updates)) l.lengths.pages;
      few : l.left ≤ length l.updates;
      looks : LooksOnce {T = Unit {0}} geometry.pages (Ok tt) l.fn.lengths.pages l.lengths.pages old now;
      reads : OnlyReads {T = Unit {0}} (Ok tt) old now;
    }

abbrev pub decreases-loop-left : goal.decreases-loop-left
decreases-loop-left g l = l.left
