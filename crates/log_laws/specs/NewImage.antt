-- A new version of a page, and a new master.
use Rattle.std.specs.Prelude.{◌≡◌, ℕ, ◌*◌, ◌+◌, ◌/◌, ◌<◌, ◌≤◌, max, Some}
use Rattle.std.specs.List.{AllByRecursion}
use Rattle.record_model.specs.State.{content_at}
use Rattle.log_records.specs.Log.{Version, version_at, number_of, shown_by}
use Rattle.log_records.specs.Unfinished.{losers}
use Rattle.log_records.specs.Sound.{LogicalImage, FitsLog, from_block, active_in, commit_count, last_known, redone}

-- a version fits the log, and over it the same is redone as over the one before
pub record Replaces (p : LogicalImage) (page : ℕ) (v : Version) : Type 0 where
  pub fits : FitsLog p page v
  pub as_before : (lsn slot : ℕ) → v.lsn ≤ lsn → slot < 32
      → shown_by (content_at v.slots slot) (last_known p.log lsn (32 * page + slot))
      ≡ redone p (max lsn (version_at p.pages page).lsn) (32 * page + slot)

-- a master that keeps the blocks from one on, and redo begins with the next block
abbrev pub with_master : LogicalImage → ℕ → LogicalImage
with_master p kept = record p {
  master = record { redo = p.hi; kept = kept; commits = commit_count p; active = active_in p.log };
  log = from_block kept p.log;
}

-- each page's version knows of all of its records, and the blocks of unfinished transactions are kept
pub record MayCheckpoint (p : LogicalImage) (kept : ℕ) : Type 0 where
  pub kept_rises : p.master.kept ≤ kept
  pub kept_in_log : kept ≤ p.hi
  pub losers_kept : AllByRecursion (λ t. 512 * kept ≤ t) (losers p.log)
  pub flushed : AllByRecursion (λ e. (number : ℕ) → number_of e.rec ≡ Some number
      → e.lsn ≤ (version_at p.pages (number / 32)).lsn) p.log
