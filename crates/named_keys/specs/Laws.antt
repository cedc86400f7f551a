-- What a session sees of the names, before a line and behind it.
use Rattle.std.specs.Prelude.{◌≡◌, ◌≢◌, ◌⊎◌, ℕ, ◌≤◌, List, length, Option, Some, None, Ok}
use Rattle.site.specs.declared.geometry.Geometry.{Geometry}
use Rattle.record_model.specs.State.{Content, State, table_with, writes_of, session_at}
use Rattle.record_model.specs.Run.{state_at}
use Rattle.record_model.specs.declared.names.Job.{Job}
use Rattle.record_model.specs.declared.names.Job.TheVariants.{Find, Put, Remove}
use Rattle.record_model.specs.declared.names.Ask.{Ask}
use Rattle.record_model.specs.declared.names.Ask.TheVariants.{Read, Write, End}
use Rattle.record_model.specs.declared.names.NameAnswer.{NameAnswer}
use Rattle.record_model.specs.declared.names.NameAnswer.TheVariants as answer
use Rattle.record_model.specs.Names.{bucket_count, names, IsWellFormed}
use Rattle.record_model.specs.Probes.{begun, with_write}
use Rattle.name_table.specs.Laws.{found, reached}
use Rattle.name_table.specs.Probing.{IsName}
use Rattle.database.specs.Held.{Held, StandsFor}
use Rattle.database.specs.Course.{Call, Follow, run_of}
use Rattle.named_keys.specs.declared.reply.NameReply.TheVariants.{Answer}
use Rattle.named_keys.specs.Lines.{IsNameLine, buckets_of}

-- the table with the writes of a session: what it sees, and what its commit leaves
abbrev pub seen_table : State → ℕ → List Content
seen_table s n = table_with s.table (writes_of (session_at s n))

-- the state of the record model behind calls
abbrev pub state_behind : State → List Call → State
state_behind s calls = state_at (run_of s calls) s (length calls)

-- what is answered where a probe comes to this
abbrev pub IsAnswerTo : Ask → NameAnswer → Type 0
IsAnswerTo (Read number) told = ⊥
IsAnswerTo (Write number value) told = told ≡ answer.Done
IsAnswerTo (End other) told = told ≡ other

-- A line that nothing refused: its probe was told what the session sees. Behind it the database stands for the model's
-- state, with the same table and commits, and the session sees the write too, where one was asked for.
pub record ComesTo (g : Geometry) (s after : State) (n : ℕ) (asked : Ask) (told : NameAnswer) (db : Held) : Type 0 where
  pub stands : StandsFor g after db
  pub answers : IsAnswerTo asked told
  pub sees : seen_table after n ≡ with_write asked (seen_table s n)
  pub table : after.table ≡ s.table
  pub commits : after.commits ≡ s.commits

-- a line that does this with a name is answered so, by a database that stands for a state
pub record IsAnswered (g : Geometry) (s : State) (n : ℕ) (job : Job) (name : List ℕ) (told : NameAnswer)
    (calls : List Call) (before after : Held) : Type 0 where
  pub stands : StandsFor g s before
  pub follow : Follow before calls after
  pub line : IsNameLine n (begun job name (buckets_of before)) calls (Ok (Answer told))

-- over any table
abbrev pub LinesAreProbes : Type 0
LinesAreProbes = (g : Geometry) (s : State) (n : ℕ) (job : Job) (name : List ℕ) (told : NameAnswer) (calls : List Call)
    (before after : Held) → IsAnswered g s n job name told calls before after →
    ComesTo g s (state_behind s calls) n (reached (seen_table s n) job name) told after

-- Under the name the session sees this behind the line, and under each other name what it saw before.
pub record Changes (name : List ℕ) (under : Option (List ℕ)) (before after : List Content) : Type 0 where
  pub well_formed : IsWellFormed after
  pub of_name : names after name ≡ under
  pub of_others : (other : List ℕ) → other ≢ name → names after other ≡ names before other

-- what a line answers and leaves where the buckets are well formed
abbrev pub KeepsMap : Job → List ℕ → NameAnswer → List Content → List Content → Type 0
KeepsMap Find name told before after = (told ≡ found (names before name)) × (after ≡ before)
KeepsMap (Put value) name told before after = IsName name → length value ≤ 100 →
    ((told ≡ answer.Done) × Changes name (Some value) before after)
    ⊎ ((told ≡ answer.NamesFull (bucket_count before)) × (after ≡ before))
KeepsMap Remove name told before after =
    ((names before name ≡ None) × (told ≡ answer.Nothing) × (after ≡ before))
    ⊎ ((names before name ≢ None) × (told ≡ answer.Done) × Changes name None before after)

abbrev pub LinesKeepTheMap : Type 0
LinesKeepTheMap = (g : Geometry) (s : State) (n : ℕ) (job : Job) (name : List ℕ) (told : NameAnswer) (calls : List Call)
    (before after : Held) → IsAnswered g s n job name told calls before after → IsWellFormed (seen_table s n) →
    KeepsMap job name told (seen_table s n) (seen_table (state_behind s calls) n)
