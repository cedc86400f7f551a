-- The lines of replies, each with its newline.
use Rattle.std.specs.Prelude.{ℕ, Bool, List, [], ◌∷◌, ◌++◌, length, map, codes, decimal, if◌then◌else◌}
use Rattle.std.specs.List.{concat}
use Rattle.hex.specs.Hex.{encode_lower}
use Rattle.record_model.specs.declared.words.Why.{Why}
use Rattle.record_model.specs.declared.words.Why.TheVariants.{BadLine, BadSession, NoRecord, TooLong, BadMark}
use Rattle.record_model.specs.declared.words.Item.{Item}
use Rattle.record_model.specs.declared.words.Stat.{Stat}
use Rattle.record_model.specs.declared.words.CacheLine.{CacheLine}
use Rattle.record_model.specs.declared.words.CacheLine.TheVariants.{Frame, Pool}
use Rattle.record_model.specs.declared.words.Reply.{Reply}
use Rattle.record_model.specs.declared.words.Reply.TheVariants as reply

-- the line that opens a run, which has so many commits before it
abbrev pub open_text : ℕ → List ℕ
open_text commits = codes "open " ++ decimal commits ++ codes "\n"

-- a value in lower-case digits, the empty one as a dash
abbrev pub value_text : List ℕ → List ℕ
value_text [] = codes "-"
value_text (x ∷ octets) = encode_lower (x ∷ octets)

abbrev pub why_text : Why → List ℕ
why_text BadLine = codes "line"
why_text BadSession = codes "session"
why_text NoRecord = codes "record"
why_text TooLong = codes "long"
why_text BadMark = codes "mark"

abbrev pub stat_text : Stat → List ℕ
stat_text s =
    codes "stat commits " ++ decimal s.commits ++ codes " used " ++ decimal s.used ++ codes " owed " ++ decimal s.owed
    ++ codes " cap " ++ decimal s.cap ++ codes " active " ++ decimal s.active ++ codes "\n"

abbrev pub item_text : Item → List ℕ
item_text i = codes "item " ++ decimal i.number ++ codes " " ++ value_text i.value ++ codes "\n"

-- a letter where a flag is set, and a dash where it isn't
abbrev pub flag_text : List ℕ → Bool → List ℕ
flag_text letter flag = if flag then letter else codes "-"

abbrev pub cache_text : CacheLine → List ℕ
cache_text (Frame group index page valid dirty referenced) =
    codes "frame " ++ decimal group ++ codes " " ++ decimal index ++ codes " page " ++ decimal page ++ codes " "
    ++ flag_text (codes "v") valid ++ flag_text (codes "d") dirty ++ flag_text (codes "r") referenced ++ codes "\n"
cache_text (Pool page changed) = codes "pool " ++ decimal page ++ (if changed then codes "*\n" else codes "\n")

-- the line after so many others of a list
abbrev pub end_text : ℕ → List ℕ
end_text count = codes "end " ++ decimal count ++ codes "\n"

-- the lines of a reply
abbrev pub reply_lines : Reply → List (List ℕ)
reply_lines reply.Done = codes "ok\n" ∷ []
reply_lines (reply.Value value) = (codes "value " ++ value_text value ++ codes "\n") ∷ []
reply_lines reply.Nothing = codes "none\n" ∷ []
reply_lines (reply.Committed count) = (codes "committed " ++ decimal count ++ codes "\n") ∷ []
reply_lines reply.Aborted = codes "aborted\n" ∷ []
reply_lines (reply.Back count) = (codes "back " ++ decimal count ++ codes "\n") ∷ []
reply_lines reply.Checked = codes "checkpoint\n" ∷ []
reply_lines (reply.Items items) = map item_text items ++ end_text (length items) ∷ []
reply_lines (reply.Listing lines) = map cache_text lines ++ end_text (length lines) ∷ []
reply_lines (reply.Stat stat) = stat_text stat ∷ []
reply_lines reply.Bye = codes "bye\n" ∷ []
reply_lines (reply.Busy session) = (codes "busy " ++ decimal session ++ codes "\n") ∷ []
reply_lines (reply.Full used owed cap) =
    (codes "full " ++ decimal used ++ codes " " ++ decimal owed ++ codes " " ++ decimal cap ++ codes "\n") ∷ []
reply_lines (reply.PageFull page need) =
    (codes "full page " ++ decimal page ++ codes " " ++ decimal need ++ codes "\n") ∷ []
reply_lines (reply.Refused why) = (codes "refused " ++ why_text why ++ codes "\n") ∷ []

-- the lines, one after the other
abbrev pub reply_text : Reply → List ℕ
reply_text r = concat (reply_lines r)
