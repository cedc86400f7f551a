use Rattle.std.proofs.Common.{rules, ◌==◌, ◌&&◌, not}
use Rattle.std.proofs.lemmas.Fn.{filter_same}
use Rattle.lock_table.proofs.Released.{any-released}
use Rattle.lock_table.proofs.table.LockTable.release.Goals as goal

pub returns : goal.returns
returns c =
    let kept = filter_same _ (λ lock. not (lock.session == c.args.session)) _ (λ x b f' k. search rules) _ _ c.retain.ensures.filtered in
    record {
      reads = λ n r. rw (kept, ← c.self.view_is) (any-released (λ lock. lock.number == r && not lock.writes) c.args.session n _);
      written = λ n r. rw (kept, ← c.self.view_is) (any-released (λ lock. lock.number == r && lock.writes) c.args.session n _);
    }
