-- Which sessions have read and which have written which records.
use Rattle.std.specs.Prelude.{◌≡◌, ℕ, ◌==◌, Bool, true, not, ◌&&◌, ◌||◌, List, find, Option, Some, None, if◌then◌else◌}
use Rattle.std.specs.List.{list_any, range_with_len}
use Rattle.lock_table.specs.declared.lock.Lock.{Lock}

-- the sessions are numbered 0 to 7
abbrev pub session_count : ℕ
session_count = 8

-- whether a session has read a record, and whether it has written it
abbrev pub has_read : List Lock → ℕ → ℕ → Bool
has_read locks session number =
    list_any (λ lock. lock.session == session && (lock.number == number && not lock.writes)) locks

abbrev pub has_written : List Lock → ℕ → ℕ → Bool
has_written locks session number =
    list_any (λ lock. lock.session == session && (lock.number == number && lock.writes)) locks

-- whether a session has written the record already, or read it, whichever is said
abbrev pub holds : List Lock → ℕ → ℕ → Bool → Bool
holds locks session number writes = if writes then has_written locks session number else has_read locks session number

-- whether a session is another one than the command's own, which has none where it comes from outside sessions
abbrev pub is_other : Option ℕ → ℕ → Bool
is_other None n = true
is_other (Some own) n = not (own == n)

-- the least other session that has written the record, and the least that has written or read it
abbrev pub busy_read : List Lock → Option ℕ → ℕ → Option ℕ
busy_read locks own number = find (λ n. is_other own n && has_written locks n number) (range_with_len 0 session_count)

abbrev pub busy_write : List Lock → Option ℕ → ℕ → Option ℕ
busy_write locks own number = find (λ n. is_other own n
    && (has_written locks n number || has_read locks n number)) (range_with_len 0 session_count)

-- The session has now also read the record, or also written it, whichever is said. All other locks are as before.
pub record AddsLock (old new : List Lock) (session number : ℕ) (writes : Bool) : Type 0 where
  pub reads : (n r : ℕ) → has_read new n r ≡ (has_read old n r || (session == n && (number == r && not writes)))
  pub written : (n r : ℕ) → has_written new n r ≡ (has_written old n r || (session == n && (number == r && writes)))

-- The session has read and written nothing any more. All other sessions' locks are as before.
pub record ReleasesAll (old new : List Lock) (session : ℕ) : Type 0 where
  pub reads : (n r : ℕ) → has_read new n r ≡ (not (n == session) && has_read old n r)
  pub written : (n r : ℕ) → has_written new n r ≡ (not (n == session) && has_written old n r)
