use Rattle.std.proofs.Common.{rules, ◌≡◌, ◌==◌, ◌&&◌, ◌||◌, not, Bool, true, false, ℕ, Result, Ok, Err, OnErr, arith}
use Rattle.indexmap.specs.IndexSet.{contains, IndexSet, Updates}
use Rattle.std.proofs.lemmas.Grind.{common_steps}
use Rattle.lock_table.specs.Locks.{has_read, has_written, holds}
use Rattle.lock_table.specs.declared.lock.Lock.{Lock}
use Rattle.lock_table.specs.contracts.lock.LockPartialEq.TheImpl.{eq-value}
use Rattle.lock_table.proofs.table.LockTable.add.Goals as goal

on_err : {T E P : Type 0} (r : Result T E) → P → OnErr r P
on_err (Ok x) p = tt
on_err (Err e) p = p

module _ {S : Type 0} (locks : IndexSet Lock S) (session number : ℕ) where
  -- a lock that the set hasn't is none that is held
  absent : (writes : Bool) → contains eq-value.it locks (record { session = session; number = number; writes = writes }) ≡ false
      → holds locks.keys session number writes ≡ false
  absent true none = search (rules, none)
  absent false none = search (rules, none)

  module _ (new : IndexSet Lock S) (writes : Bool) (updates : Updates eq-value.it locks new (record { session = session; number = number; writes = writes }) true) (n r : ℕ) where
    added_read : has_read new.keys n r ≡ (has_read locks.keys n r || (session == n && (number == r && not writes)))
    added_read = let u = updates.0 (record { session = n; number = r; writes = false }) in grind (arith, common_steps)

    added_written : has_written new.keys n r ≡ (has_written locks.keys n r || (session == n && (number == r && writes)))
    added_written = let u = updates.0 (record { session = n; number = r; writes = true }) in grind (arith, common_steps)

pub returns-in_err-insert-clause-absent : goal.returns-in_err-insert-clause-absent
returns-in_err-insert-clause-absent c = rw (← c.self.view_is) (on_err _ (absent c.self.inside.locks c.args.session c.args.number c.args.writes c.in_err-insert.ensures.absent))

pub returns-clause-ok : goal.returns-clause-ok
returns-clause-ok c = rw (← c.self.view_is) (record {
  reads = added_read c.self.inside.locks c.args.session c.args.number c.insert.new.self c.args.writes c.in_ok-insert.ensures.updates;
  written = added_written c.self.inside.locks c.args.session c.args.number c.insert.new.self c.args.writes c.in_ok-insert.ensures.updates;
})
