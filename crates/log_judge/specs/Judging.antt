-- What a judge knows of the records that it has heard.
use Rattle.std.specs.Prelude.{◌≡◌, ◌+◌, ◌-◌, ◌≤◌, List, [], length}
use Rattle.std.specs.List.{AllByRecursion}
use Rattle.log_records.specs.Log.{Entry}
use Rattle.log_records.specs.Sound.{LogicalImage, InTurn, IsInTable, before_block}
use Rattle.log_judge.specs.declared.judge.Judge.{Judge}
use Rattle.log_judge.specs.declared.judge.Sizes.{Sizes}
use Rattle.log_judge.specs.Opening.{AreOpen, MayStand}
use Rattle.log_judge.specs.Unended.{AreLeft}
use Rattle.log_judge.specs.Counting.{Heard}
use Rattle.log_judge.specs.Chaining.{AreChains}

-- a log of these sizes
pub record IsOfSizes (p : LogicalImage) (sizes : Sizes) : Type 0 where
  pub pages : length p.pages ≡ sizes.pages
  pub blocks : p.blocks ≡ sizes.blocks
  pub hi : p.hi ≡ sizes.hi

-- the kept blocks can all be live, and redo begins among them or behind them
pub record MayBeKept (p : LogicalImage) : Type 0 where
  pub kept_before_redo : p.master.kept ≤ p.master.redo
  pub redo_before_end : p.master.redo ≤ p.hi
  pub kept_is_live : p.hi ≤ p.master.kept + (p.blocks - 1)

-- these records of a log keep the rules so far, and the judge knows what they leave
pub record HasHeard (p : LogicalImage) (records : List Entry) (judge : Judge) : Type 0 where
  pub of_sizes : IsOfSizes p judge.sizes
  pub kept : MayBeKept p
  pub in_table : AllByRecursion (IsInTable p.pages) records
  pub stand : InTurn (MayStand p.master) [] records
  pub are_open : AreOpen p.master records judge.txns.txns
  pub are_left : AreLeft (before_block p.master.redo records) judge.early.left
  pub heard : Heard p.master.redo judge.numbers records
  pub are_chains : AreChains records judge.chains
