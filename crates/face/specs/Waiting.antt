-- Nobody waits in vain: before input is asked for, all lines that stood whole in what was heard are answered, and none
-- of them quits.
use Rattle.std.specs.Prelude.{◌≡◌, ℕ, ◌+◌, ◌≤◌, List, ◌++◌, length, take, false}
use Rattle.std.specs.List.{AllByRecursion, list_any}
use Rattle.site.specs.State.{State as Site}
use Rattle.site.specs.declared.outside.Take.{Take}
use Rattle.record_model.specs.Run.{is_quit}
use Rattle.front_end.specs.Lines.{answered_of, commands_of}
use Rattle.face.specs.Run.{Run}
use Rattle.face.specs.RunMeaning.{first_texts}

-- Input was asked for where so many octets of what was left at entry were heard. By then the opening's text was told,
-- and the replies to all lines that stand whole in them; none of these quits.
pub record IsAnswered (run : Run) (old : Site) (t : Take) : Type 0 where
  pub heard : ℕ
  pub here : t.heard ≡ old.input.heard + heard
  pub told : length (old.told ++ first_texts run (1 + length (answered_of false (take heard old.input.left)))) ≤ t.told
  pub going : list_any is_quit (commands_of false (take heard old.input.left)) ≡ false

-- and so it was wherever the run asked for input
pub record NobodyWaits (run : Run) (old new : Site) : Type 0 where
  pub takes : List Take
  pub are : new.input.takes ≡ old.input.takes ++ takes
  pub answered : AllByRecursion (IsAnswered run old) takes
