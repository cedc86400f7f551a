use Rattle.image_check.proofs.Names.{◌≡◌, length, Ok, MayBeJudged, FindsVersions, ReadsAtMost, OnlyReads}
use Rattle.image_check.proofs.ShownOnes.{first_lsns}
use Rattle.image_check.proofs.showing.version_lsns.Given as goal

abbrev pub invariant-loop-page : goal.invariant-loop-page
invariant-loop-page g l =
    let old = g.S.Site.state l.fn.site in
    record {
      may : MayBeJudged l.found (g.S.Site.state l.site);
      many : length l.lsns.items ≡ l.page;
      lsns : FindsVersions l.found l.frames old → l.lsns.items ≡ first_lsns l.found.log.geometry old.image l.page;
      looks : ReadsAtMost 0 l.page old (g.S.Site.state l.site);
      reads : OnlyReads {T = Unit {0}} (Ok tt) old (g.S.Site.state l.site);
    }
