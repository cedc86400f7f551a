-- What a command rests on once no test has refused it.
use Rattle.std.specs.Prelude.{◌≡◌, ℕ, ◌+◌, ◌*◌, ◌^◌, ◌≤◌, ◌<◌, Option, Some, None, IsSome}
use Rattle.std.specs.List.{range_with_len}
use Rattle.lock_table.specs.Locks.{busy_read, busy_write}
use Rattle.txn_table.specs.Entries.{entry_of, owed}
use Rattle.engine.specs.declared.engine.Engine.{Engine}
use Rattle.engine.specs.Invariant.{sizes_of}
use Rattle.engine.specs.Scans.{first_busy}

-- the record exists, and no other session has written it
pub record MayShow (engine : Engine) (own : Option ℕ) (r : ℕ) : Type 0 where
  pub number : r < 32 * (sizes_of engine.store).pages
  pub free : busy_read engine.locks own r ≡ None

-- the session is active, and may be shown the record
pub record MayRead (engine : Engine) (n r : ℕ) : Type 0 where
  pub session : n < 8
  pub active : IsSome (entry_of engine.active n)
  pub shown : MayShow engine (Some n) r

-- the session is active, and may be shown each of so many records from a number on
pub record MayScan (engine : Engine) (n r count : ℕ) : Type 0 where
  pub session : n < 8
  pub active : IsSome (entry_of engine.active n)
  pub small : r + count < 2 ^ 32
  pub there : r + count ≤ 32 * (sizes_of engine.store).pages
  pub free : first_busy engine.locks n (range_with_len r count) ≡ None

-- the record exists, no other session has written or read it, and so many more log records may be made
pub record MayWrite (engine : Engine) (own : Option ℕ) (r more : ℕ) : Type 0 where
  pub number : r < 32 * (sizes_of engine.store).pages
  pub free : busy_write engine.locks own r ≡ None
  pub room : engine.store.made + owed engine.active + more ≤ engine.cap

-- the session isn't active yet, and there is room for its Begin and its End
pub record MayBegin (engine : Engine) (n : ℕ) : Type 0 where
  pub session : n < 8
  pub absent : entry_of engine.active n ≡ None
  pub room : engine.store.made + owed engine.active + 2 ≤ engine.cap
