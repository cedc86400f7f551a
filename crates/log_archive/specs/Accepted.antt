-- Which lines are an archive: blocks one behind the other, whose records follow; and which table they lead to.
use Rattle.std.specs.Prelude.{◌≡◌, ◌⊎◌, ℕ, ◌+◌, ◌*◌, ◌==◌, Bool, true, false, not, ◌&&◌, nat_lt, List, [], ◌∷◌, ◌++◌}
use Rattle.std.specs.Prelude.{length, filter, find, flat_map, replicate, take, Option, Some, None, if◌then◌else◌}
use Rattle.std.specs.Prelude.{option_and_then}
use Rattle.std.specs.List.{list_any}
use Rattle.std.specs.Str.{bytes_eq}
use Rattle.record_model.specs.State.{Content, Write, content_at, table_with}
use Rattle.log_records.specs.declared.log_record.LogRecord.{LogRecord}
use Rattle.log_records.specs.declared.log_record.LogRecord.TheVariants.{Begin, Update, Clr, Commit, End}
use Rattle.log_records.specs.Spelling.{IsBlock}
use Rattle.log_records.specs.Log.{Entry, entries_from}
use Rattle.log_archive.specs.Lines.{IsBlockLine, IsEndLine}

-- writes by ascending record number, with one more, which replaces what is there of its record
abbrev pub put_in : Write → List Write → List Write
put_in write [] = write ∷ []
put_in write (w ∷ net) =
    if nat_lt write.0 w.0 then write ∷ w ∷ net else if write.0 == w.0 then write ∷ net else w ∷ put_in write net

-- an Update that no CLR has compensated: where the log stood before it, and what stood on its record
pub record Standing : Type 0 where
  pub prev : ℕ
  pub page : ℕ
  pub slot : ℕ
  pub before : Content

-- a transaction that has begun and isn't closed: the LSNs of its Begin and of its last record, its standing Updates,
-- the last one in front, and its net: what its last Update or CLR on each record leaves there
pub record Unclosed : Type 0 where
  pub begin : ℕ
  pub last : ℕ
  pub standing : List Standing
  pub net : List Write

-- Where a stream of blocks stands: the number of the next block, what the records so far leave in the table, how many
-- commits there were before it, the nets of its own commits, and the transactions that go on.
pub record Stream : Type 0 where
  pub next : ℕ
  pub shown : List Content
  pub before : ℕ
  pub nets : List (List Write)
  pub unclosed : List Unclosed

abbrev pub commits_in : Stream → ℕ
commits_in s = s.before + length s.nets

-- a stream that begins with a database that was never written
abbrev pub blank_stream : ℕ → Stream
blank_stream pages = record { next = 0; shown = replicate (32 * pages) None; before = 0; nets = []; unclosed = [] }

abbrev pub is_unclosed : ℕ → Unclosed → Bool
is_unclosed txn t = t.begin == txn

abbrev pub without : ℕ → List Unclosed → List Unclosed
without txn ts = filter (λ t. not (is_unclosed txn t)) ts

-- another transaction has written the record
abbrev pub is_taken : ℕ → ℕ → List Unclosed → Bool
is_taken txn number ts = list_any (λ t. not (is_unclosed txn t) && list_any (λ w. w.0 == number) t.net) ts

abbrev pub same_content : Content → Content → Bool
same_content None None = true
same_content None (Some b) = false
same_content (Some a) None = false
same_content (Some a) (Some b) = bytes_eq a b

-- the stream with another content of a record, which this transaction has written last
abbrev pub with_write : ℕ → ℕ → Write → List Standing → Unclosed → Stream → Stream
with_write lsn txn write standing t s = record s {
  shown = table_with s.shown (write ∷ []);
  unclosed = record { begin = t.begin; last = lsn; standing = standing; net = put_in write t.net }
      ∷ without txn s.unclosed;
}

-- An Update goes on from the transaction's last record, on a page that there is, and says what the records before it
-- leave on its record, which no other open transaction has written.
abbrev pub after_update : ℕ → ℕ → Standing → ℕ → Content → Stream → Unclosed → Option Stream
after_update pages lsn u txn after s t =
    let number = 32 * u.page + u.slot in
    if (u.prev == t.last) && nat_lt u.page pages && not (is_taken txn number s.unclosed)
    && same_content u.before (content_at s.shown number)
    then Some (with_write lsn txn (number, after) (u ∷ t.standing) t s)
    else None

-- A CLR goes on so too; it puts back what stood before the transaction's last standing Update, and undo goes on there.
abbrev pub after_clr : ℕ → ℕ → ℕ → ℕ → ℕ → ℕ → Content → Stream → Unclosed → List Standing → Option Stream
after_clr lsn txn prev undo_next page slot after s t [] = None
after_clr lsn txn prev undo_next page slot after s t (u ∷ standing) =
    if (prev == t.last) && (undo_next == u.prev) && (page == u.page) && (slot == u.slot) && same_content after u.before
    then Some (with_write lsn txn (32 * page + slot, after) standing t s)
    else None

-- a Commit has the next number, and its transaction is closed
abbrev pub after_commit : ℕ → ℕ → Stream → Unclosed → Option Stream
after_commit txn number s t =
    if number == commits_in s + 1
    then Some (record s { nets = s.nets ++ t.net ∷ []; unclosed = without txn s.unclosed })
    else None

-- an End comes where no Update stands
abbrev pub after_end : ℕ → Stream → List Standing → Option Stream
after_end txn s [] = Some (record s { unclosed = without txn s.unclosed })
after_end txn s (u ∷ standing) = None

abbrev pub unclosed_of : ℕ → Stream → Option Unclosed
unclosed_of txn s = find (is_unclosed txn) s.unclosed

-- the stream behind a record at an LSN, of a database with so many pages; none where the record doesn't follow
abbrev pub after_record : ℕ → ℕ → LogRecord → Stream → Option Stream
after_record pages lsn Begin s =
    Some (record s { unclosed = record { begin = lsn; last = lsn; standing = []; net = [] } ∷ s.unclosed })
after_record pages lsn (Update txn prev page slot before after) s =
    let u : Standing = record { prev = prev; page = page; slot = slot; before = before } in
    option_and_then (after_update pages lsn u txn after s) (unclosed_of txn s)
after_record pages lsn (Clr txn prev undo_next page slot after) s =
    option_and_then (λ t. after_clr lsn txn prev undo_next page slot after s t t.standing) (unclosed_of txn s)
after_record pages lsn (Commit txn number) s = option_and_then (after_commit txn number s) (unclosed_of txn s)
after_record pages lsn (End txn) s = option_and_then (λ t. after_end txn s t.standing) (unclosed_of txn s)

abbrev pub after_entries : ℕ → List Entry → Stream → Option Stream
after_entries pages [] s = Some s
after_entries pages (e ∷ entries) s = option_and_then (after_entries pages entries) (after_record pages e.lsn e.rec s)

abbrev pub with_next : ℕ → Stream → Option Stream
with_next number s = Some (record s { next = number })

-- behind a whole block: all of its records follow, or it is refused
abbrev pub after_block : ℕ → List LogRecord → Stream → Option Stream
after_block pages records s =
    option_and_then (with_next (s.next + 1)) (after_entries pages (entries_from (512 * s.next + 2) records) s)

-- behind a line: that of the next block, with records that follow, or an end line with its number
abbrev pub AfterLine : ℕ → List ℕ → Stream → Stream → Type 0
AfterLine pages line s now =
    ((content : List ℕ) × (records : List LogRecord) × IsBlockLine line s.next content × IsBlock content records
    × (after_block pages records s ≡ Some now))
    ⊎ (IsEndLine line s.next × (now ≡ s))

-- These lines are an archive that goes on from a stream, and this is the stream behind them.
abbrev pub Accepted : ℕ → List (List ℕ) → Stream → Stream → Type 0
Accepted pages [] s now = now ≡ s
Accepted pages (line ∷ lines) s now = (mid : Stream) × AfterLine pages line s mid × Accepted pages lines mid now

-- the table after the first k commits of a stream: what the nets leave in the table that it began with
abbrev pub archive_table : List Content → List (List Write) → ℕ → List Content
archive_table table nets k = table_with table (flat_map (λ net. net) (take k nets))
