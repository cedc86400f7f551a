use Rattle.std.proofs.Common.{◌≡◌, ap, sym, ◌∙◌, arith, Bool, ℕ}
use Rattle.std.specs.Prelude.{if◌then◌else◌}
use Rattle.log_store.specs.Representation.{has_tail}
use Rattle.page_store.proofs.Versions.{pages_later}
use Rattle.redo_laws.specs.Holding.{Invariant}
use Rattle.redo_laws.proofs.Forced.{none_now}
use Rattle.redo_undo_tests.proofs.rows.opened.Goals as goal

pub returns-clause-going : goal.returns-clause-going
returns-clause-going g c =
    let log = c.in_ok-log.log in
    let going = c.in_ok-log.ensures.going in
    let none : (if has_tail log then 1 else 0) ≡ 0 = ap {B = ℕ} (λ (b : Bool). if b then 1 else 0) (none_now log c.in_ok-log.ensures.empty) in
    record {
      log_going = going;
      pages_going = pages_later c.in_ok-pages.pages (g.S.Site.state c.start.new.site) (g.S.Site.state c.start-2.new.site) c.start-2.ensures.reads.preserves c.in_ok-pages.ensures.going;
      sizes = c.in_ok-log.ensures.geometry ∙ sym c.in_ok-pages.ensures.geometry;
      room = omega (arith, going.live, going.limits.blocks, none);
    }
