use Rattle.page_store.proofs.Names.{map, ◌≡◌, ◌+◌, ◌*◌, ◌≤◌, true, nat_lt, ◌^◌, Frame, LogList, next_group, cache_of, rules_for as rules, Pushes, MayWork, flush_changes, changed_frames, flushed_contents, AreReady, changed_count, flushed, wants_flush, forces}
use Rattle.std.proofs.Common.{Ok}
use Rattle.std.specs.Prelude.{◌||◌}
use Rattle.page_store.proofs.Flushes.{SoFar}
use Rattle.page_store.proofs.StagingLaws.{IsFlushing}
use Rattle.page_store.proofs.store.PageStore.push_all_changed.Given as goal

abbrev pub invariant-loop-rest : goal.invariant-loop-rest
invariant-loop-rest g l =
    let old = g.S.Site.state l.fn.site in
    let now = g.S.Site.state l.site in
    let first = l.fn.self in
    record {
      going : MayWork l.log l.self now;
      pushes : Pushes {T = Unit {0}} (Ok tt) l.fn.log l.log first l.self old now (nat_lt l.fn.log.ring.hi l.log.ring.hi);
      so_far : (list : LogList) → AreReady first l.fn.log list old → SoFar (flush_changes l.fn.log list first old.image) l.fn.log l.log first l.self old now list (nat_lt l.fn.log.ring.hi l.log.ring.hi);
      forced : forces l.fn.log (flushed_contents first) ≡ (nat_lt l.fn.log.ring.hi l.log.ring.hi || forces l.log (flushed_contents l.self));
      untouched : wants_flush (cache_of first) ≡ true → first.flash.ring.hi ≡ 2 ^ 40 → l.self ≡ first;
      machine : flushed (rules first) (cache_of first) ≡ flushed (rules first) (cache_of l.self);
      reads : now.flash_reads + 12 * changed_count (cache_of l.self).pool ≤ old.flash_reads + 12 * changed_count (cache_of first).pool;
      asked : now.flash_reads + 12 * next_group (cache_of first) ≤ old.flash_reads + 12 * next_group (cache_of l.self);
      stages : IsFlushing first l.self old now;
      pages : l.rest ≡ map (λ (f : Frame). f.page) (changed_frames l.self.pool.frames);
    }

abbrev pub decreases-loop-rest : goal.decreases-loop-rest
decreases-loop-rest g l = changed_count (cache_of l.self).pool
