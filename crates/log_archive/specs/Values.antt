-- Which log a stream stands for, and that an accepted archive leads to the table of its log.
use Rattle.std.specs.Prelude.{◌≡◌, ◌⊎◌, ℕ, ◌+◌, ◌*◌, ◌<◌, ◌==◌, Bool, true, false, ◌&&◌, List, [], ◌∷◌, ◌++◌, length}
use Rattle.std.specs.Prelude.{find}
use Rattle.std.specs.Prelude.{replicate, Option, Some, None, if◌then◌else◌, ⊤}
use Rattle.std.specs.List.{AllByRecursion}
use Rattle.record_model.specs.State.{Content, Write, content_at, last_write}
use Rattle.log_records.specs.declared.log_record.LogRecord.{LogRecord}
use Rattle.log_records.specs.Spelling.{IsBlock}
use Rattle.log_records.specs.Log.{Entry, Version, after_of, before_of, blank_versions, first_update, is_closed, is_of}
use Rattle.log_records.specs.Log.{is_on, last_on, log_from, shown, table_of, txn_of}
use Rattle.log_records.specs.Sound.{commit_numbers}
use Rattle.log_archive.specs.Lines.{IsBlockLine, IsEndLine}
use Rattle.log_archive.specs.Accepted.{Accepted, Standing, Stream, Unclosed, archive_table, blank_stream, is_unclosed}

-- the writes of a net have each another record, by ascending number
abbrev pub Ascends : List Write → Type 0
Ascends [] = ⊤
Ascends (write ∷ net) = AllByRecursion (λ w. write.0 < w.0) net × Ascends net

abbrev pub is_at : ℕ → Standing → Bool
is_at number u = (32 * u.page + u.slot) == number

-- what a record has once these Updates are undone, the last one, which stands in front, first
abbrev pub undone : ℕ → Content → List Standing → Content
undone number content [] = content
undone number content (u ∷ standing) = undone number (if is_at number u then u.before else content) standing

-- A transaction has written a number: its last record there is the last one there of the log, and leaves what the net
-- says; and undoing its standing Updates leads back to what stood before its first one there.
pub record HasWritten (log : List Entry) (number : ℕ) (t : Unclosed) (left : Content) : Type 0 where
  pub last : Entry
  pub last_is : last_on log number ≡ Some last
  pub own : txn_of last ≡ t.begin
  pub leaves : after_of last.rec ≡ left
  pub first : Entry
  pub first_is : first_update log t.begin number ≡ Some first
  pub leads_back : undone number left t.standing ≡ before_of first.rec

-- or it has no record there
pub record HasNotWritten (log : List Entry) (number : ℕ) (t : Unclosed) : Type 0 where
  pub none : AllByRecursion (λ e. (is_of t.begin e && is_on number e) ≡ false) log
  pub stays : AllByRecursion (λ u. is_at number u ≡ false) t.standing

-- by what its net says of the number
abbrev pub Wrote : List Entry → ℕ → Unclosed → Option Content → Type 0
Wrote log number t None = HasNotWritten log number t
Wrote log number t (Some left) = HasWritten log number t left

-- a transaction isn't closed in the log, and has written there what it says of a number
pub record IsOpenAt (log : List Entry) (number : ℕ) (t : Unclosed) : Type 0 where
  pub unclosed : is_closed log t.begin ≡ false
  pub ascends : Ascends t.net
  pub wrote : Wrote log number t (last_write t.net number)

-- What a stream says of a number before an LSN is what the log says over these versions: what shows there, which
-- transactions are open, and what they have written there.
pub record AgreesAt (log : List Entry) (versions : List Version) (number lsn : ℕ) (s : Stream) : Type 0 where
  pub shows : content_at s.shown number ≡ shown log versions number
  pub closed : (x : Entry) → last_on log number ≡ Some x → find (is_unclosed (txn_of x)) s.unclosed ≡ None
      → is_closed log (txn_of x) ≡ true
  pub opened : AllByRecursion (IsOpenAt log number) s.unclosed
  pub begun : AllByRecursion (λ e. txn_of e < lsn) log
  pub early : AllByRecursion (λ t. t.begin < lsn) s.unclosed

-- A stream stands for a log over newest versions of all pages.
pub record Agrees (log : List Entry) (versions : List Version) (s : Stream) : Type 0 where
  pub size : length s.shown ≡ 32 * length versions
  pub at : (number : ℕ) → number < 32 * length versions → AgreesAt log versions number (512 * s.next + 2) s

-- the records that lines have, block by block, numbered on from one
abbrev pub HaveBlocks : ℕ → List (List ℕ) → List (List LogRecord) → Type 0
HaveBlocks number [] blocks = blocks ≡ []
HaveBlocks number (line ∷ lines) blocks =
    ((content : List ℕ) × (records : List LogRecord) × (others : List (List LogRecord))
    × IsBlockLine line number content × IsBlock content records × (blocks ≡ records ∷ others)
    × HaveBlocks (number + 1) lines others)
    ⊎ (IsEndLine line number × HaveBlocks number lines blocks)

-- Behind each front of these records the log's table is the archive's after as many commits as the front has.
abbrev pub TablesAgree : List Version → List Entry → List Entry → List (List Write) → Type 0
TablesAgree versions log entries nets = (front rest : List Entry) → entries ≡ front ++ rest
    → table_of (log ++ front) versions
    ≡ archive_table (table_of log versions) nets (length (commit_numbers front))

-- Lines lead on from a log: they have these blocks, whose commits have these nets.
pub record LeadsOn (versions : List Version) (log : List Entry) (s now : Stream) (lines : List (List ℕ)) : Type 0 where
  pub blocks : List (List LogRecord)
  pub are : HaveBlocks s.next lines blocks
  pub nets : List (List Write)
  pub nets_are : now.nets ≡ s.nets ++ nets
  pub count : length nets ≡ length (commit_numbers (log_from s.next blocks))
  pub tables : TablesAgree versions log (log_from s.next blocks) nets
  pub agrees : Agrees (log ++ log_from s.next blocks) versions now

-- from any log on whose stream they go on from
abbrev pub ArchiveIsTheLog : Type 0
ArchiveIsTheLog = (versions : List Version) (log : List Entry) (lines : List (List ℕ)) (s now : Stream)
    → Agrees log versions s → Accepted (length versions) lines s now → LeadsOn versions log s now lines

-- A database that was never written is one, and its table has no value.
pub record BlankAgrees (pages : ℕ) : Type 0 where
  pub agrees : Agrees [] (blank_versions pages) (blank_stream pages)
  pub table : table_of [] (blank_versions pages) ≡ replicate (32 * pages) None

-- So of an archive that begins with one, all of whose commits count, the table is that of its blocks alone.
abbrev pub WholeArchiveIsTheLog : Type 0
WholeArchiveIsTheLog = (pages : ℕ) (lines : List (List ℕ)) (now : Stream)
    → Accepted pages lines (blank_stream pages) now → (blocks : List (List LogRecord)) × HaveBlocks 0 lines blocks
    × (table_of (log_from 0 blocks) (blank_versions pages)
    ≡ archive_table (replicate (32 * pages) None) now.nets (length now.nets))
