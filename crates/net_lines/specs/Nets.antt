-- What a commit has written, its net, as lines of a database, and when a database has room for it.
use Rattle.std.specs.Prelude.{◌≡◌, ℕ, ◌+◌, ◌*◌, ◌<◌, ◌≤◌, ◌==◌, Bool, true, max, nat_lt, List, [], ◌∷◌, ◌++◌}
use Rattle.std.specs.Prelude.{length, map}
use Rattle.std.specs.Prelude.{replicate, slice_index_or, Option, Some, None, if◌then◌else◌}
use Rattle.std.specs.List.{AllByRecursion}
use Rattle.byte_fields.specs.declared.TheConstants.{VALUE_MAX}
use Rattle.record_model.specs.declared.words.Command.TheVariants.{Begin, Write, Erase, Commit, Checkpoint}
use Rattle.record_model.specs.State as state
use Rattle.record_model.specs.State.{Content, State, footprint, length_of, need, page_room, used}
use Rattle.record_model.specs.Run.{Line}

-- the line of session 0 that writes what a record is to have
abbrev pub line_writing : ℕ → Content → Line
line_writing number None = Some (Erase 0 number)
line_writing number (Some value) = Some (Write 0 number value)

-- session 0 begins, writes a net, and commits it
abbrev pub session_lines : List state.Write → List Line
session_lines net = Some (Begin 0) ∷ map (λ w. line_writing w.0 w.1) net ++ Some (Commit 0) ∷ []

-- the log has room for a net, were none of it used: a Begin, two records for each write, and a Commit
abbrev pub HasLogRoom : ℕ → List state.Write → Type 0
HasLogRoom cap net = 2 * length net + 2 ≤ cap

-- it has no room where so much of it is used
abbrev pub tight : ℕ → ℕ → List state.Write → Bool
tight cap used net = nat_lt cap (used + (2 * length net + 2))

-- so a checkpoint comes first
abbrev pub net_lines : State → List state.Write → List Line
net_lines s net = if tight s.cap (used s) net then Some Checkpoint ∷ session_lines net else session_lines net

-- a database in which no session stands, and one in which session 0 alone does
abbrev pub idle : List Content → ℕ → ℕ → ℕ → ℕ → State
idle table commits made kept cap = record {
  table = table;
  commits = commits;
  sessions = replicate 8 None;
  made = made;
  kept = kept;
  cap = cap;
  pages_fill = true;
}

abbrev pub busy : List Content → ℕ → List state.Write → List ℕ → ℕ → ℕ → ℕ → ℕ → State
busy table commits writes wrote born made kept cap = record {
  table = table;
  commits = commits;
  sessions = Some (record { born = born; writes = writes; mark = 0; wrote = wrote; reads = [] }) ∷ replicate 7 None;
  made = made;
  kept = kept;
  cap = cap;
  pages_fill = true;
}

-- the same where nothing else is of interest but its table
abbrev pub while_writing : List Content → List state.Write → State
while_writing table writes = busy table 0 writes [] 0 0 0 0

-- where session 0 has made these writes over a table, the page of one more has room for it; an erase needs none
abbrev pub HasRoomFor : List Content → List state.Write → ℕ → Content → Type 0
HasRoomFor table before number None = Unit {0}
HasRoomFor table before number (Some value) = need (while_writing table before) number value ≤ page_room

abbrev pub HasRoomAfter : List Content → List state.Write → state.Write → Type 0
HasRoomAfter table before write = HasRoomFor table before write.0 write.1

-- the pages have room for each of these writes behind those
abbrev pub HaveRoomAfter : List Content → List state.Write → List state.Write → Type 0
HaveRoomAfter table before [] = Unit {0}
HaveRoomAfter table before (write ∷ writes) =
    HasRoomAfter table before write × HaveRoomAfter table (before ++ write ∷ []) writes

-- the pages have room for each write of a net
abbrev pub HasPageRoom : List Content → List state.Write → Type 0
HasPageRoom table net = HaveRoomAfter table [] net

-- a database with this table and so many blocks of the log has room for a net
pub record Fits (cap : ℕ) (table : List Content) (net : List state.Write) : Type 0 where
  pub log : HasLogRoom cap net
  pub pages : HasPageRoom table net

-- a record that there is, and a value that isn't longer than values may be
pub record IsWritable (records : ℕ) (write : state.Write) : Type 0 where
  pub inside : write.0 < records
  pub short : length_of write.1 ≤ VALUE_MAX

abbrev pub AreWritable : ℕ → List state.Write → Type 0
AreWritable records net = AllByRecursion (IsWritable records) net

-- what a record at a place may come to have, by what each one may, where a record of this number gets a value of so
-- many octets
abbrev pub needed_in : List ℕ → ℕ → ℕ → ℕ → ℕ
needed_in lengths number octets place =
    if number == place then max (slice_index_or lengths place 0) octets else slice_index_or lengths place 0

-- these are the octets that each record may come to have
pub record AreLengths (s : State) (lengths : List ℕ) : Type 0 where
  pub size : length lengths ≡ length s.table
  pub each : (number : ℕ) → number < length s.table → slice_index_or lengths number 0 ≡ footprint s number
