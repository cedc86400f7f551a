-- What the steps of a change do to a page's octets.
use Rattle.std.specs.Prelude.{◌≡◌, ◌≢◌, ℕ, ◌+◌, ◌<◌, ◌≤◌, List, ◌++◌, length, take, drop, Option}
use Rattle.slotted_page.specs.Layout.{lsn_of, used_of, offset_of, code_of, content_of, IsSound}

-- a text stands from a place on, and all other octets are as before
pub record Wrote (old new : List ℕ) (at : ℕ) (text : List ℕ) : Type 0 where
  pub inside : at + length text ≤ length old
  pub written : new ≡ take at old ++ (text ++ drop (at + length text) old)

-- One entry of the directory is set. All others, the numbers in front and the heap are as before.
pub record SetsEntry (old new : List ℕ) (slot offset code : ℕ) : Type 0 where
  pub size : length new ≡ length old
  pub own_offset : offset_of new slot ≡ offset
  pub own_code : code_of new slot ≡ code
  pub others : (k : ℕ) → k ≢ slot → (offset_of new k ≡ offset_of old k) × (code_of new k ≡ code_of old k)
  pub lsn : lsn_of new ≡ lsn_of old
  pub used : used_of new ≡ used_of old
  pub zeros : take 6 (drop 10 new) ≡ take 6 (drop 10 old)
  pub heap : drop 144 new ≡ drop 144 old

-- A slot has another content. All other slots and the LSN are as before, and the page is sound.
pub record Sets (old new : List ℕ) (slot : ℕ) (content : Option (List ℕ)) : Type 0 where
  pub sound : IsSound new
  pub own : content_of new slot ≡ content
  pub others : (k : ℕ) → k < 32 → k ≢ slot → content_of new k ≡ content_of old k
  pub lsn : lsn_of new ≡ lsn_of old
