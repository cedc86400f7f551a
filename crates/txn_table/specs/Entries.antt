-- The table of active sessions, as a list of entries.
use Rattle.std.specs.Prelude.{◌≡◌, ◌≢◌, ℕ, ◌+◌, ◌-◌, ◌^◌, ◌<◌, ◌≤◌, ◌==◌, List, [], ◌∷◌, find, sum_by, min}
use Rattle.std.specs.Prelude.{All, Contains, Option, Some, None}
use Rattle.std.specs.List.{AllByRecursion}
use Rattle.txn_table.specs.declared.active.Active.{Active}

-- An entry's counts: at most 2^32 writes stand, and its mark isn't above them.
pub record IsCounted (entry : Active) : Type 0 where
  pub few : entry.writes ≤ 2 ^ 32
  pub mark : entry.mark ≤ entry.writes

-- A table: each session stands there once, with a number below 8 and such counts, and none before one that began
-- earlier.
abbrev pub IsTable : List Active → Type 0
IsTable [] = Unit {0}
IsTable (entry ∷ later) =
    (entry.session < 8) × IsCounted entry
    × AllByRecursion (λ other. (entry.session ≢ other.session) × (entry.begin ≤ other.begin)) later × IsTable later

-- the entry of a session, where it is active
abbrev pub entry_of : List Active → ℕ → Option Active
entry_of entries session = find (λ entry. entry.session == session) entries

-- The session has this entry now, or none. All other sessions' entries are as before.
pub record ChangesOnly (old new : List Active) (session : ℕ) (entry : Option Active) : Type 0 where
  pub own : entry_of new session ≡ entry
  pub others : (n : ℕ) → n ≢ session → entry_of new n ≡ entry_of old n

-- an entry after one more write, whose log record is at an LSN
abbrev pub after_write : Active → ℕ → Active
after_write entry lsn = record entry { last = lsn; writes = entry.writes + 1 }

-- an entry whose mark is behind all its writes
abbrev pub after_mark : Active → Active
after_mark entry = record entry { mark = entry.writes }

-- an entry whose last writes were undone: the LSN of its last record, and a mark that isn't above what is left
abbrev pub after_undone : Active → ℕ → ℕ → Active
after_undone entry count lsn = record entry {
  last = lsn;
  writes = entry.writes - count;
  mark = min entry.mark (entry.writes - count);
}

-- an entry where records are counted from a later one on
abbrev pub counted_from : ℕ → Active → Active
counted_from first entry = record entry { born = entry.born - first }

-- the log records that the active sessions may still make: one for each of their writes that stand, and one more for
-- each of them
abbrev pub owed : List Active → ℕ
owed entries = sum_by (λ entry. entry.writes + 1) entries

-- the least of numbers, and none where there are none
abbrev pub IsLeast : List ℕ → Option ℕ → Type 0
IsLeast numbers None = numbers ≡ []
IsLeast numbers (Some least) = Contains numbers least × All (λ number. least ≤ number) numbers
