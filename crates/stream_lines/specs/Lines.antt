-- How the input is cut into lines.
use Rattle.std.specs.Prelude.{◌≡◌, ◌≢◌, ℕ, ◌+◌, ◌-◌, ◌^◌, ◌≤◌, ◌<◌, Bool, true, false, List, [], ◌∷◌, ◌++◌, length}
use Rattle.std.specs.Prelude.{take, drop}
use Rattle.std.specs.List.{AllByRecursion}
use Rattle.site.specs.State.{State}
use Rattle.site.specs.declared.outside.Take.{Take}
use Rattle.site.specs.Calls.{SameReads}
use Rattle.shell_text.specs.Runs.{lines_of}
use Rattle.stream_lines.specs.declared.source.Fault.{Fault}
use Rattle.stream_lines.specs.declared.source.Fault.TheVariants as fault
use Rattle.stream_lines.specs.declared.source.Source.{Source}
use Rattle.stream_lines.specs.declared.source.Heard.{Heard}
use Rattle.stream_lines.specs.declared.source.Heard.TheVariants as heard

-- at most so many octets of the input are cut into lines
abbrev pub limit : ℕ
limit = 2 ^ 40

-- no line of an archive has so many octets
abbrev pub long : ℕ
long = 1027

-- the octets that were taken and not cut yet, and with them those left to take
abbrev pub pending : Source → List ℕ
pending source = take (source.to - source.from) (drop source.from source.buffer)

abbrev pub to_hear : Source → State → List ℕ
to_hear source site = pending source ++ site.input.left

-- of every site
pub record IsSource (source : Source) : Type 0 where
  pub order : source.from ≤ source.to
  pub inside : source.to ≤ 4096
  pub size : length source.buffer ≡ 4096
  pub few : source.taken ≤ limit
  pub behind : source.to ≤ source.from + source.taken
  pub emptied : source.ended ≡ true → source.from ≡ source.to

-- of an honest site: where a take has answered that the input ended, nothing is left
abbrev pub HasEnded : Source → State → Type 0
HasEnded source site = source.ended ≡ true → site.input.left ≡ []

-- the octets that were taken and those that are left
abbrev pub total : Source → State → ℕ
total source site = source.taken + length site.input.left

-- nothing but the octets left to hear changed
pub record HearsOnly (old new : State) : Type 0 where
  pub image : new.image ≡ old.image
  pub loose : new.loose ≡ old.loose
  pub told : new.told ≡ old.told
  pub past : new.past ≡ old.past
  pub reads : SameReads old new

-- Input was asked for within a line: of what was to hear these octets were heard by then, none of them a newline, and
-- fewer than so many.
pub record TookWithin (room : ℕ) (source : Source) (before : State) (t : Take) : Type 0 where
  pub octets : List ℕ
  pub none : AllByRecursion (λ x. x ≢ 10) octets
  pub few : length octets < room
  pub rest : List ℕ
  pub all : to_hear source before ≡ octets ++ rest
  pub here : t.heard + length (pending source) ≡ before.input.heard + length octets
  pub told : t.told ≡ length before.told
  pub going : source.ended ≡ false

-- input was asked for within a line only, and each octet that isn't left any more was heard
pub record TakesWithin (room : ℕ) (source : Source) (before now : State) : Type 0 where
  pub takes : List Take
  pub are : now.input.takes ≡ before.input.takes ++ takes
  pub within : AllByRecursion (TookWithin room source before) takes
  pub count : now.input.heard + length now.input.left ≡ before.input.heard + length before.input.left

-- These lines were heard, none of them too long, and the source has the octets behind them: what is left is cut into
-- lines as if it stood alone, whatever it is.
pub record HasCut (lines : List (List ℕ)) (source : Source) (entry now : State) : Type 0 where
  pub short : AllByRecursion (λ line. length line < long) lines
  pub consumed : List ℕ
  pub parts : entry.input.left ≡ consumed ++ to_hear source now
  pub whole : (more : List ℕ) (e : Bool) → (source.ended ≡ true → (more ≡ []) × (e ≡ true))
      → lines_of e (consumed ++ more) ≡ lines ++ lines_of e more
  pub heard : now.input.heard + length now.input.left ≡ entry.input.heard + length entry.input.left

-- Input was asked for, and nothing was told by then. The lines that stood whole in the octets that were heard by then
-- are as is said, and none is too long for an archive, the one under way with them.
pub record IsAskedFor (P : List (List ℕ) → Type 0) (entry : State) (t : Take) : Type 0 where
  pub heard : ℕ
  pub here : t.heard ≡ entry.input.heard + heard
  pub lines : P (lines_of false (take heard entry.input.left))
  pub short : AllByRecursion (λ line. length line < long) (lines_of true (take heard entry.input.left))
  pub told : t.told ≡ length entry.told

-- so it was wherever input was asked for
pub record AsksFor (P : List (List ℕ) → Type 0) (entry now : State) : Type 0 where
  pub takes : List Take
  pub are : now.input.takes ≡ entry.input.takes ++ takes
  pub each : AllByRecursion (IsAskedFor P entry) takes

-- these octets are a line, whatever comes behind them; where the input has ended nothing comes
abbrev pub AreLine : List ℕ → List ℕ → Bool → Type 0
AreLine octets line ended = (more : List ℕ) (e : Bool) → (ended ≡ true → (more ≡ []) × (e ≡ true)) →
    lines_of e (octets ++ more) ≡ line ∷ lines_of e more

-- a line was heard, which isn't too long
pub record HearsLine (line : List ℕ) (was ended : Bool) (before after : List ℕ) : Type 0 where
  pub short : length line < long
  pub octets : List ℕ
  pub all : before ≡ octets ++ after
  pub some : 1 ≤ length octets
  pub is_line : AreLine octets line ended
  pub going : was ≡ false

-- the first line has more octets than a line of an archive, and this is what was heard of it
pub record HearsLong (was : Bool) (before : List ℕ) : Type 0 where
  pub line : List ℕ
  pub many : long ≤ length line
  pub behind : List (List ℕ)
  pub is_first : lines_of true before ≡ line ∷ behind
  pub going : was ≡ false

abbrev pub Hears : Heard → List ℕ → Bool → Bool → List ℕ → List ℕ → Type 0
Hears heard.Line line was ended before after = HearsLine line was ended before after
Hears heard.Long line was ended before after = HearsLong was before
Hears heard.End line was ended before after = (before ≡ []) × (after ≡ []) × (ended ≡ true)

abbrev pub with_newline : Bool → List ℕ → List ℕ
with_newline true after = 10 ∷ after
with_newline false after = after

-- Octets of a line were heard, none of them a newline, and one behind them where the line ended there. What was kept of
-- the line before and they are kept, 1,027 octets at most.
pub record HearsPart (ends : Bool) (before after line line' : List ℕ) : Type 0 where
  pub octets : List ℕ
  pub none : AllByRecursion (λ x. x ≢ 10) octets
  pub all : before ≡ octets ++ with_newline ends after
  pub some : ends ≡ false → 1 ≤ length octets
  pub kept : line' ≡ take 1027 (line ++ octets)

-- Taking failed at once, or one octet too many was taken.
abbrev pub CutsOff : Fault → ℕ → List ℕ → List ℕ → Type 0
CutsOff fault.Input all before left = (before ≡ left) × (all ≤ limit + length left)
CutsOff fault.Limit all before left = (extra : ℕ) × (before ≡ extra ∷ left) × (all ≡ limit + 1 + length left)

-- and it failed within a line, of which these octets were read, and before the end of the input
pub record IsCutOff (f : Fault) (was : Bool) (all : ℕ) (before left : List ℕ) : Type 0 where
  pub octets : List ℕ
  pub none : AllByRecursion (λ x. x ≢ 10) octets
  pub rest : List ℕ
  pub all_of_it : before ≡ octets ++ rest
  pub ends : CutsOff f all rest left
  pub going : was ≡ false
