-- Homes, buckets and lines about names that were worked out by hand. The tables have 32 records, so 16 buckets.
use Rattle.std.specs.Prelude.{◌≡◌, ℕ, ◌^◌, List, [], ◌∷◌, ◌++◌, replicate, map, slice_set, Some, None}
use Rattle.std.specs.List.{range_with_len}
use Rattle.record_model.specs.declared.names.Bucket.TheVariants.{Free, Tombstone, Entry, Strange}
use Rattle.record_model.specs.declared.names.Job.{Job}
use Rattle.record_model.specs.declared.names.Job.TheVariants.{Find, Put, Remove}
use Rattle.record_model.specs.declared.names.Ask.{Ask}
use Rattle.record_model.specs.declared.names.Ask.TheVariants.{Read, Write, End}
use Rattle.record_model.specs.declared.names.NameAnswer.TheVariants as answer
use Rattle.record_model.specs.State.{Content}
use Rattle.record_model.specs.Names.{bucket_of, home}
use Rattle.record_model.specs.Probes.{with_write}
use Rattle.name_table.specs.Laws.{reached}

-- what a line is answered, when the write was made that it comes to
abbrev pub answer_to : Ask → Ask
answer_to (Read number) = Read number
answer_to (Write number value) = End answer.Done
answer_to (End reached) = End reached

-- what lines are answered, each over the table that those before it left
abbrev pub answers : List Content → List (Job × List ℕ) → List Ask
answers table [] = []
answers table (line ∷ lines) =
    answer_to (reached table line.0 line.1) ∷ answers (with_write (reached table line.0 line.1) table) lines

abbrev pub blank : List Content
blank = replicate 32 None

-- two names, and the octets that the rows put under them
abbrev pub ab : List ℕ
ab = 97 ∷ 98 ∷ []

abbrev pub ac : List ℕ
ac = 97 ∷ 99 ∷ []

abbrev pub one : List ℕ
one = 1 ∷ []

abbrev pub two : List ℕ
two = 2 ∷ []

abbrev pub Homes : Type 0
Homes = (home ab 16 ≡ 2) × (home ac 16 ≡ 9) × (home ab 256 ≡ 18) × (home (replicate 32 255) 1000003 ≡ 537776)
    × (home (range_with_len 0 32) (2 ^ 20) ≡ 840267)

-- an empty value is a tombstone; a name has 1 to 32 octets, all of them there, and its value at most 100
abbrev pub Forms : Type 0
Forms = (map bucket_of (None ∷ Some [] ∷ Some (1 ∷ 97 ∷ []) ∷ Some (2 ∷ ab ++ one) ∷ [])
    ≡ Free ∷ Tombstone ∷ Entry (97 ∷ []) [] ∷ Entry ab one ∷ [])
    × (bucket_of (Some (32 ∷ replicate 132 7)) ≡ Entry (replicate 32 7) (replicate 100 7))
    × (map bucket_of (Some (0 ∷ []) ∷ Some (2 ∷ 97 ∷ []) ∷ Some (33 ∷ replicate 33 7) ∷ Some (1 ∷ replicate 102 7) ∷ [])
    ≡ replicate 4 Strange)

-- a name is put, found, put again, taken out, and then not found
abbrev pub OneName : Type 0
OneName =
    answers blank ((Put one, ab) ∷ (Find, ab) ∷ (Find, ac) ∷ (Put two, ab) ∷ (Find, ab) ∷ (Remove, ab) ∷ (Find, ab)
    ∷ (Remove, ab) ∷ [])
    ≡ End answer.Done ∷ End (answer.Found one) ∷ End answer.Nothing ∷ End answer.Done ∷ End (answer.Found two)
    ∷ End answer.Done ∷ End answer.Nothing ∷ End answer.Nothing ∷ []

-- Sixteen names fill the buckets, four of them behind others and one of those behind the last bucket. A seventeenth has
-- no room until one is taken out, whose bucket it then gets.
abbrev pub put_one : ℕ → Job × List ℕ
put_one octet = (Put one, octet ∷ [])

abbrev pub SeventeenNames : Type 0
SeventeenNames =
    answers blank (map put_one (range_with_len 0 17) ++ (Remove, 0 ∷ []) ∷ (Find, 12 ∷ []) ∷ (Put two, 16 ∷ [])
    ∷ (Find, 16 ∷ []) ∷ (Find, 0 ∷ []) ∷ [])
    ≡ replicate 16 (End answer.Done) ++ End (answer.NamesFull 16) ∷ End answer.Done ∷ End (answer.Found one)
    ∷ End answer.Done ∷ End (answer.Found two) ∷ End answer.Nothing ∷ []

-- the name's home, in the last record, has octets of no bucket's form
abbrev pub StrangeHome : Type 0
StrangeHome =
    answers (slice_set blank 31 (Some (5 ∷ []))) ((Find, 0 ∷ []) ∷ (Put one, 0 ∷ []) ∷ (Remove, 0 ∷ []) ∷ [])
    ≡ replicate 3 (End (answer.Strange 31))
