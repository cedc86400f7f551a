-- The tail of the log, and when it is sealed.
use Rattle.std.specs.Prelude.{ℕ, ◌+◌, ◌==◌, Bool, true, false, ◌&&◌, nat_lt, List, [], ◌++◌}
use Rattle.std.specs.List.{list_any}
use Rattle.log_records.specs.Spelling.{block_len}

-- The number of the block that the tail goes into, how many of that block's octets are taken, those in front of its
-- records with them, and the pages that these records change.
pub record Tail : Type 0 where
  pub next : ℕ
  pub used : ℕ
  pub waiting : List ℕ

-- a tail without records
abbrev pub empty_at : ℕ → Tail
empty_at next = record { next = next; used = 2; waiting = [] }

-- the tail is sealed, where that is wanted: its block is appended
abbrev pub sealed_if : Bool → Tail → Tail
sealed_if true tail = empty_at (tail.next + 1)
sealed_if false tail = tail

-- whether a page waits for the tail to be sealed
abbrev pub waits : Tail → ℕ → Bool
waits tail page = list_any (λ other. other == page) tail.waiting

-- whether a record of so many octets finds no room behind the others
abbrev pub is_full_for : ℕ → Tail → Bool
is_full_for octets tail = nat_lt 2 tail.used && nat_lt block_len (tail.used + octets)

-- A record of so many octets that changes these pages is put behind the others. Where it doesn't fit, the tail is
-- sealed first.
abbrev pub put_behind : ℕ → List ℕ → Tail → Tail
put_behind octets pages tail = record tail { used = tail.used + octets; waiting = pages ++ tail.waiting }

abbrev pub with_record : ℕ → List ℕ → Tail → Tail
with_record octets pages tail = put_behind octets pages (sealed_if (is_full_for octets tail) tail)

-- the log is forced: the tail is sealed where it has records
abbrev pub forced : Tail → Tail
forced tail = sealed_if (nat_lt 2 tail.used) tail

-- before these pages are pushed the log is forced, where one of them waits for that
abbrev pub before_push : List ℕ → Tail → Tail
before_push pages tail = sealed_if (list_any (waits tail) pages) tail
