-- The database over every site.
use Rattle.std.specs.Prelude.{◌≡◌, ℕ, ◌+◌, ◌/◌, ◌^◌, ◌≤◌, ◌<◌, false, Some}
use Rattle.site.specs.State.{State}
use Rattle.log_store.specs.Representation.{end_of}
use Rattle.txn_table.specs.declared.active.Active.{Active}
use Rattle.txn_table.specs.Entries.{IsTable, entry_of, owed}
use Rattle.redo_laws.specs.Holding.{blocks_to}
pub use Rattle.redo_undo.specs.Stores.{MayWork, sizes_of}
use Rattle.engine.specs.declared.engine.Engine.{Engine}
use Rattle.engine.specs.PageTests.{AreLocked}

-- of every site: the database may go on
pub record Invariant (engine : Engine) (site : State) : Type 0 where
  pub store : MayWork engine.store site
  pub going : engine.ended ≡ false
  pub cap : engine.cap + 1 ≡ (sizes_of engine.store).blocks
  pub table : IsTable engine.active
  -- there is room to undo all
  pub room : blocks_to engine.store.log + owed engine.active ≤ engine.store.log.kept + engine.cap
  -- from the block of a session's Begin on there are no more blocks than records that were made since
  pub since : (n : ℕ) (entry : Active) → entry_of engine.active n ≡ Some entry
      → blocks_to engine.store.log + entry.born ≤ entry.begin / 512 + engine.store.made
  pub bounded : engine.store.made + owed engine.active ≤ 2 ^ 40
  -- the records that count, and those that the sessions may still need, never exceed the cap
  pub budget : engine.store.made + owed engine.active ≤ engine.cap
  pub commits : engine.commits ≤ end_of engine.store.log
  -- each session's records stand in the log, and no two sessions have one Begin
  pub lasts : (n : ℕ) (entry : Active) → entry_of engine.active n ≡ Some entry
      → (entry.begin ≤ entry.last) × (entry.last < end_of engine.store.log)
  pub differ : (n m : ℕ) (a b : Active) → entry_of engine.active n ≡ Some a → entry_of engine.active m ≡ Some b
      → a.begin ≡ b.begin → n ≡ m
  -- footprints stand on locked records
  pub footprints : AreLocked engine.footprints engine.locks
