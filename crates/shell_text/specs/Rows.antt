-- Runs that were worked out by hand: what is typed, and what is told.
use Rattle.std.specs.Prelude.{◌≡◌, ℕ, List, [], ◌∷◌, ◌++◌, replicate, slice_set, flat_map, codes, true, false, Some}
use Rattle.std.specs.Prelude.{None}
use Rattle.std.specs.List.{concat}
use Rattle.record_model.specs.declared.words.Command.TheVariants.{Set}
use Rattle.record_model.specs.declared.words.CacheLine.{CacheLine}
use Rattle.record_model.specs.declared.words.CacheLine.TheVariants.{Frame, Pool}
use Rattle.record_model.specs.State.{Content, opened}
use Rattle.shell_text.specs.Reading.{line_of}
use Rattle.shell_text.specs.Runs.{commands_of, run_text}

-- 512 records, none of which has a value
abbrev pub blank : List Content
blank = replicate 512 None

-- what a run on blank devices tells, with what the cache lists; its input is heard to its end
abbrev pub told_with : List (List CacheLine) → List ℕ → List ℕ
told_with listings input = run_text (opened blank 0 0 63) (commands_of true input) listings

abbrev pub told : List ℕ → List ℕ
told input = told_with [] input

-- lines that are typed, each with its newline
abbrev pub typed : List (List ℕ) → List ℕ
typed lines = flat_map (λ line. line ++ codes "\n") lines

-- The longest value, one that is too long, the empty one, and none.
abbrev pub many : ℕ → List ℕ
many count = concat (replicate count (codes "5a"))

abbrev pub LongestValue : Type 0
LongestValue =
    told (typed ((codes "set 3 " ++ many 200) ∷ (codes "set 3 " ++ many 201) ∷ codes "set 3 -" ∷ codes "get 3"
    ∷ codes "get 4" ∷ []))
    ≡ codes "open 0\ncommitted 1\nrefused long\ncommitted 2\nvalue -\nnone\n"

-- Lines that are no commands: none of their words, a leading zero, two spaces, a space at the end, an odd digit, a
-- letter that is no digit, a scan of nothing and of too much, a mark with no session, a back with a number too many,
-- upper case, and a line that is too long.
abbrev pub wrong_lines : List (List ℕ)
wrong_lines =
    [] ∷ codes "get 05" ∷ codes "get  5" ∷ codes "get 5 " ∷ codes "set 5 0" ∷ codes "set 5 0g" ∷ codes "scan 0 0 0"
    ∷ codes "scan 0 0 65" ∷ codes "mark" ∷ codes "back 0 0 0"
    ∷ codes "GET 5" ∷ (codes "set 55 " ++ replicate 494 48) ∷ []

abbrev pub WrongLines : Type 0
WrongLines = told (typed wrong_lines) ≡ codes "open 0\n" ++ concat (replicate 12 (codes "refused line\n"))

-- a line of 500 octets is none of them, though its value is too long to be kept
abbrev pub LongestLine : Type 0
LongestLine = line_of (codes "set 5 " ++ replicate 494 48) ≡ Some (Set 5 (replicate 247 0))

abbrev pub UpperCaseIsRead : Type 0
UpperCaseIsRead =
    told (typed (codes "begin 8" ∷ codes "read 0 0" ∷ codes "begin 0" ∷ codes "begin 0" ∷ codes "set 5 AB"
    ∷ codes "get 5" ∷ []))
    ≡ codes "open 0\nrefused session\nrefused session\nok\nrefused session\ncommitted 1\nvalue ab\n"

abbrev pub ScanAmongWrites : Type 0
ScanAmongWrites =
    told (typed (codes "set 2 aa" ∷ codes "set 4 -" ∷ codes "begin 0" ∷ codes "scan 0 0 6" ∷ codes "begin 1"
    ∷ codes "write 1 9 01"
    ∷ codes "scan 0 5 8" ∷ codes "set 6 bb" ∷ codes "scan 0 500 64" ∷ []))
    ≡ codes "open 0\ncommitted 1\ncommitted 2\nok\nitem 2 aa\nitem 4 -\nend 2\nok\nok\nbusy 1\ncommitted 3\nrefused record\n"

-- what two pages in the cache are listed as
abbrev pub CacheListed : Type 0
CacheListed =
    told_with ((Frame 0 0 0 true true false ∷ Pool 1 true ∷ []) ∷ [])
    (typed (codes "set 0 01" ∷ codes "set 32 02" ∷ codes "cache" ∷ []))
    ≡ codes "open 0\ncommitted 1\ncommitted 2\nframe 0 0 page 0 vd-\npool 1*\nend 2\n"

-- the last line needs no newline
abbrev pub LastLine : Type 0
LastLine = told (codes "get 5") ≡ codes "open 0\nnone\n"

-- and no line is answered after a quit
abbrev pub QuitEnds : Type 0
QuitEnds = told (typed (codes "quit" ∷ codes "get 5" ∷ [])) ≡ codes "open 0\nbye\n"

-- Three sessions: what is told, and what the lines of the one that commits last are told alone, on the table of the
-- commits before it.
abbrev pub ThreeSessions : Type 0
ThreeSessions =
    told (typed (codes "set 2 aa" ∷ codes "begin 0" ∷ codes "begin 1" ∷ codes "begin 2" ∷ codes "read 0 2"
    ∷ codes "scan 1 0 4" ∷ codes "write 2 5 bb"
    ∷ codes "write 0 2 cc" ∷ codes "get 5" ∷ codes "read 2 2" ∷ codes "commit 1" ∷ codes "write 0 2 cc"
    ∷ codes "commit 2" ∷ codes "write 0 2 cc"
    ∷ codes "begin 1" ∷ codes "erase 1 7" ∷ codes "read 0 2" ∷ codes "foo" ∷ codes "scan 0 0 7" ∷ codes "commit 0"
    ∷ codes "get 2" ∷ []))
    ≡ codes "open 0\ncommitted 1\nok\nok\nok\nvalue aa\nitem 2 aa\nend 1\nok\nbusy 1\nbusy 2\nvalue aa\ncommitted 2\nbusy 2\ncommitted 3\nok\nok\nok\n"
    ++ codes "value cc\nrefused line\nitem 2 cc\nitem 5 bb\nend 2\ncommitted 4\nvalue cc\n"

abbrev pub LastAlone : Type 0
LastAlone =
    run_text (opened (slice_set (slice_set blank 2 (Some (170 ∷ []))) 5 (Some (187 ∷ []))) 3 0 63)
    (commands_of true (typed (codes "begin 0" ∷ codes "read 0 2" ∷ codes "write 0 2 cc" ∷ codes "read 0 2"
    ∷ codes "scan 0 0 7" ∷ codes "commit 0" ∷ []))) []
    ≡ codes "open 3\nok\nvalue aa\nok\nvalue cc\nitem 2 cc\nitem 5 bb\nend 2\ncommitted 4\n"

-- A session goes back to its mark, and to so many writes as it hasn't, and as it has.
abbrev pub GoingBack : Type 0
GoingBack =
    told (typed (codes "begin 0" ∷ codes "write 0 1 aa" ∷ codes "mark 0" ∷ codes "write 0 1 bb" ∷ codes "write 0 2 cc"
    ∷ codes "back 0" ∷ codes "read 0 1" ∷ codes "read 0 2" ∷ codes "get 2" ∷ codes "back 0 2" ∷ codes "back 0 0"
    ∷ codes "commit 0" ∷ codes "get 1" ∷ []))
    ≡ codes "open 0\nok\nok\nok\nok\nok\nback 2\nvalue aa\nnone\nbusy 0\nrefused mark\nback 1\ncommitted 1\nnone\n"
