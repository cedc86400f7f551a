-- Versions of a page that know of the log up to an LSN, as statements over lists.
use Rattle.std.specs.Prelude.{◌≡◌, ℕ, ◌+◌, ◌*◌, ◌/◌, ◌<◌, ◌≤◌, ◌==◌, ◌||◌, nat_lt, List, Some}
use Rattle.std.specs.Prelude.{IsTrue, if◌then◌else◌}
use Rattle.std.specs.List.{AllByRecursion}
use Rattle.record_model.specs.State.{content_at}
use Rattle.log_records.specs.Log.{Entry, Version, version_at, number_of, after_of, shown}
use Rattle.log_records.specs.Sound.{LogicalImage, redone}

-- A version doesn't know of a record that isn't in a sealed block.
abbrev pub IsLogged : LogicalImage → Version → Type 0
IsLogged p v = IsTrue ((v.lsn == 0) || nat_lt v.lsn (512 * p.hi))

-- These records on the page have at most this LSN.
abbrev pub AreKnown : List Entry → ℕ → ℕ → Type 0
AreKnown log page lsn = AllByRecursion (λ e. (number : ℕ) → number_of e.rec ≡ Some number → number / 32 ≡ page
    → e.lsn ≤ lsn) log

-- The page's version, with the records up to an LSN redone.
pub record IsRedone (p : LogicalImage) (page : ℕ) (v : Version) : Type 0 where
  pub logged : IsLogged p v
  pub later : (version_at p.pages page).lsn ≤ v.lsn
  pub slots : (slot : ℕ) → slot < 32 → content_at v.slots slot ≡ redone p v.lsn (32 * page + slot)

-- A version that knows of all of these records on its page, and has what they show over the pages' versions.
pub record ShowsAll (log : List Entry) (pages : List Version) (page : ℕ) (v : Version) : Type 0 where
  pub known : AreKnown log page v.lsn
  pub slots : (slot : ℕ) → slot < 32 → content_at v.slots slot ≡ shown log pages (32 * page + slot)

-- The page's version, with all records redone.
pub record IsCurrent (p : LogicalImage) (page : ℕ) (v : Version) : Type 0 where
  pub logged : IsLogged p v
  pub all : ShowsAll p.log p.pages page v

-- A version with the LSN of a record of the page, and what the record has written in its slot.
pub record Redoes (page : ℕ) (e : Entry) (number : ℕ) (old new : Version) : Type 0 where
  pub lsn : new.lsn ≡ e.lsn
  pub slots : (slot : ℕ) → slot < 32
      → content_at new.slots slot ≡ (if 32 * page + slot == number then after_of e.rec else content_at old.slots slot)
