-- Tidies that were worked out by hand, over tables of 32 records, so 16 buckets, and one of 256. Of the names of one
-- octet, those of 0, 12 and 24 have the home 15, of 5 and 17 the home 0, of 10 the home 1, and of 3 the home 3.
use Rattle.std.specs.Prelude.{◌≡◌, ℕ, zero, suc, false, List, [], ◌∷◌, ◌++◌, replicate, map, slice_set, Some, None}
use Rattle.std.specs.List.{range_with_len}
use Rattle.record_model.specs.declared.names.Job.{Job}
use Rattle.record_model.specs.declared.names.Job.TheVariants.{Find, Remove}
use Rattle.record_model.specs.declared.names.Ask.TheVariants.{End}
use Rattle.record_model.specs.declared.names.NameAnswer.TheVariants as answer
use Rattle.record_model.specs.State.{Content}
use Rattle.record_model.specs.Probes.{with_write}
use Rattle.name_table.specs.Laws.{reached}
use Rattle.name_table.specs.Rows.{answers, blank, one, put_one}
use Rattle.name_table.specs.declared.tidying.TidyAsk.{TidyAsk}
use Rattle.name_table.specs.declared.tidying.TidyAsk.TheVariants as asks
use Rattle.name_table.specs.Tidying.{Tidying, tidy_ask, tidy_changed, tidy_over, with_change}

-- a table behind lines about names
abbrev pub behind_lines : List Content → List (Job × List ℕ) → List Content
behind_lines table [] = table
behind_lines table (line ∷ lines) = behind_lines (with_write (reached table line.0 line.1) table) lines

-- where a tidy ended, when the change was made that it asks for
abbrev pub ended : TidyAsk → ℕ
ended (asks.Read number) = number
ended (asks.Move entry tombstone octets) = entry
ended (asks.Free number) = number
ended (asks.End changed from) = from

abbrev pub ended_behind : TidyAsk → Tidying → ℕ
ended_behind (asks.Read number) t = number
ended_behind (asks.Move entry tombstone octets) t = ended (tidy_ask (tidy_changed t))
ended_behind (asks.Free number) t = ended (tidy_ask (tidy_changed t))
ended_behind (asks.End changed from) t = from

-- what so many tidies ask for, each from where the one before it ended, and the table behind them
abbrev pub tidies : List Content → ℕ → ℕ → List TidyAsk × List Content
tidies table from zero = ([], table)
tidies table from (suc times) =
    let t : Tidying = tidy_over table from in
    let rest : List TidyAsk × List Content =
    tidies (with_change (tidy_ask t) table) (ended_behind (tidy_ask t) t) times in
    (tidy_ask t ∷ rest.0, rest.1)

abbrev pub removed : ℕ → Job × List ℕ
removed octet = (Remove, octet ∷ [])

-- at the end of a run a tombstone is freed, and no other is found
abbrev pub EndOfARun : Type 0
EndOfARun = tidies (behind_lines blank (put_one 3 ∷ removed 3 ∷ [])) 0 2
    ≡ (asks.Free 19 ∷ asks.End false 4 ∷ [], blank)

-- Two entries move back, each into the tombstone that the one before it left, and the last one is freed. Then each name
-- is found that was.
abbrev pub MovingBack : Type 0
MovingBack =
    let behind : List TidyAsk × List Content =
    tidies (behind_lines blank (put_one 5 ∷ put_one 17 ∷ put_one 10 ∷ removed 5 ∷ [])) 0 4 in
    (behind.0 ≡ asks.Move 17 16 (1 ∷ 17 ∷ one) ∷ asks.Move 18 17 (1 ∷ 10 ∷ one) ∷ asks.Free 18
    ∷ asks.End false 3 ∷ [])
    × (answers behind.1 ((Find, 17 ∷ []) ∷ (Find, 10 ∷ []) ∷ (Find, 5 ∷ []) ∷ [])
    ≡ End (answer.Found one) ∷ End (answer.Found one) ∷ End answer.Nothing ∷ [])

-- the way goes on from the last bucket to the first
abbrev pub AroundTheEnd : Type 0
AroundTheEnd = (tidies (behind_lines blank (put_one 0 ∷ put_one 12 ∷ put_one 24 ∷ removed 0 ∷ [])) 14 3).0
    ≡ asks.Move 16 31 (1 ∷ 12 ∷ one) ∷ asks.Move 17 16 (1 ∷ 24 ∷ one) ∷ asks.Free 17 ∷ []

-- An entry that is at its home stays there: the tombstone before it is freed, or takes the next one behind it.
abbrev pub AtHome : Type 0
AtHome = ((tidies (behind_lines blank (put_one 5 ∷ put_one 10 ∷ removed 5 ∷ [])) 0 1).0 ≡ asks.Free 16 ∷ [])
    × ((tidies (behind_lines blank (put_one 5 ∷ put_one 10 ∷ put_one 17 ∷ removed 5 ∷ [])) 0 2).0
    ≡ asks.Move 18 16 (1 ∷ 17 ∷ one) ∷ asks.Free 18 ∷ [])

-- where no bucket is free, all are read
abbrev pub FullTable : Type 0
FullTable = (tidies (behind_lines blank (map put_one (range_with_len 0 16) ++ removed 0 ∷ [])) 0 3).0
    ≡ asks.Move 18 31 (1 ∷ 12 ∷ one) ∷ asks.Free 18 ∷ asks.End false 3 ∷ []

-- without a tombstone 64 buckets are looked at, or all
abbrev pub NothingToDo : Type 0
NothingToDo = ((tidies blank 7 1).0 ≡ asks.End false 7 ∷ [])
    × ((tidies (replicate 256 None) 100 1).0 ≡ asks.End false 36 ∷ [])

-- octets of no bucket's form are passed before a tombstone, and behind it nothing is changed
abbrev pub StrangeBuckets : Type 0
StrangeBuckets =
    ((tidies (slice_set (slice_set blank 16 (Some (5 ∷ []))) 17 (Some [])) 0 1).0 ≡ asks.Free 17 ∷ [])
    × ((tidies (slice_set (slice_set blank 16 (Some [])) 17 (Some (5 ∷ []))) 0 1).0 ≡ asks.End false 1 ∷ [])
