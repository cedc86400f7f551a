use Rattle.std.proofs.Common.{◌≡◌, ◌/◌, ap, ◌∙◌, arith, Bool, ℕ}
use Rattle.std.specs.Prelude.{if◌then◌else◌}
use Rattle.mem_site.specs.MemState.{state_of}
use Rattle.log_store.specs.declared.store.LogStore.{LogStore}
use Rattle.log_store.specs.Representation.{has_tail}
use Rattle.redo_laws.proofs.Forced.{none_now}
use Rattle.redo_undo_tests.proofs.tests.opened.Goals as goal

pub returns-clause-going : goal.returns-clause-going
returns-clause-going c =
    let kept = c.keep.ensures.kept in
    let going = c.in_ok-log.ensures.going in
    let log = c.keep.new.self in
    let empty = ap (λ (l : LogStore). l.used) kept ∙ c.in_ok-log.ensures.empty in
    let none : (if has_tail log then 1 else 0) ≡ 0 = ap {B = ℕ} (λ (b : Bool). if b then 1 else 0) (none_now log empty) in
    let hi = ap (λ (l : LogStore). l.ring.hi) kept in
    let first = ap (λ (l : LogStore). l.kept) kept in
    let blocks = ap (λ (l : LogStore). l.geometry.blocks) kept in
    record {
      log_going = c.keep.ensures.going (state_of c.opened.new.site) going.log_going;
      pages_going = going.pages_going;
      sizes = ap (λ (l : LogStore). l.geometry) kept ∙ going.sizes;
      room = omega (arith, hi, first, blocks, none, c.sealed_end.ensures, going.log_going.limits.blocks);
    }
