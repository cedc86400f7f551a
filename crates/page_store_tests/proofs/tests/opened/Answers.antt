use Rattle.std.proofs.Common.{refl}
use Rattle.sealed_ring.proofs.Stays.{usable_later}
use Rattle.log_store.proofs.GoingOn.{goes_on}
use Rattle.page_store_tests.proofs.tests.opened.Goals as goal

pub returns : goal.returns
returns c =
    let log = c.in_ok-log.log in
    let going = c.in_ok-log.ensures.going in
    let goes = c.start-2.ensures.preserves in
    record {
      going = record {
        pages = c.in_ok-pages.ensures.going;
        records = goes_on log log _ _ going goes refl (usable_later log.ring _ _ goes going.usable) refl going.kept going.live going.low going.high;
        sizes = c.in_ok-pages.ensures.geometry;
        log_sizes = c.in_ok-log.ensures.geometry;
      };
    }
