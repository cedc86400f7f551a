use Rattle.image_check.proofs.Names.{◌≡◌, ◌*◌, ◌≤◌, ◌<◌, ℕ, List, Ok, version_on, MayBeJudged, FindsVersions, HasContents, AreWritten, ReadsAtMost, AreVersions, versions_on, Entry, value_of, OnlyReads}
use Rattle.image_check.proofs.ValuesCounted.{values_among}
use Rattle.image_check.proofs.values.Logged.count_pages.Given as goal

abbrev pub invariant-loop-page : goal.invariant-loop-page
invariant-loop-page g l =
    let old = g.S.Site.state l.fn.site in
    let sizes = l.found.log.geometry in
    record {
      may : MayBeJudged l.found (g.S.Site.state l.site);
      have : FindsVersions l.found l.frames old → AreVersions sizes old.image → (n : ℕ) → n < l.page → HasContents l.self.expected.contents n (version_on sizes old.image n);
      counted : (log : List Entry) → FindsVersions l.found l.frames old → AreVersions sizes old.image → AreWritten log log l.self.written →
          l.count ≡ values_among (value_of log (versions_on sizes old.image)) 0 (32 * l.page);
      few : l.count ≤ 32 * l.page;
      most : l.page ≤ sizes.pages;
      looks : ReadsAtMost 0 l.page old (g.S.Site.state l.site);
      reads : OnlyReads {T = Unit {0}} (Ok tt) old (g.S.Site.state l.site);
    }
