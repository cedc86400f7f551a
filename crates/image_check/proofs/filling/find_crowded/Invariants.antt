use Rattle.image_check.proofs.Names.{◌≡◌, ◌==◌, ℕ, List, [], true, map, AllByRecursion, list_any, Ok, AreKept, HaveRoom, KeepsOpen, opened, put_back_by, MayBeJudged, LooksOnce, FindsVersions, AreVersions, versions_on, AreLeft, Left, Entry, losers, OnlyReads}
use Rattle.image_check.proofs.FilledOnes.{Leaving}
use Rattle.image_check.proofs.filling.find_crowded.Given as goal

abbrev pub invariant-loop-txn : goal.invariant-loop-txn
invariant-loop-txn g l =
    let old = g.S.Site.state l.fn.site in
    let now = g.S.Site.state l.site in
    let geometry = l.found.log.geometry in
    record {
      may : MayBeJudged l.found now;
      leaving : (log : List Entry) → FindsVersions l.found l.frames old → AreVersions geometry old.image → AreLeft log l.left.left → KeepsOpen log l.fn.filling.chains →
          AreKept (versions_on geometry old.image) (opened log (versions_on geometry old.image) []) l.fn.filling.lengths.pages → HaveRoom (versions_on geometry old.image) (opened log (versions_on geometry old.image) []) →
          Leaving log (versions_on geometry old.image) (put_back_by log (losers log)) (put_back_by log (map (λ (e : ℕ × Left). e.0) l.txn-iterator)) l.filling.lengths.pages
          × AllByRecursion (λ n. list_any (λ m. m == n) (losers log) ≡ true) (map (λ (e : ℕ × Left). e.0) l.txn-iterator);
      chains : l.filling.chains ≡ l.fn.filling.chains;
      looks : LooksOnce {T = Unit {0}} geometry.pages (Ok tt) l.fn.filling.lengths.pages l.filling.lengths.pages old now;
      reads : OnlyReads {T = Unit {0}} (Ok tt) old now;
    }
