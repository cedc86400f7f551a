-- What follows from the step of the model.
use Rattle.record_model.proofs.Citing.{◌≡◌, ℕ, ◌+◌, ◌-◌, Bool, true, false, List, [], ◌∷◌, length, Option, Some, None, refl, ap, ◌∙◌, arith, ◌≤◌, AllByRecursion, range_with_len, not, ◌&&◌, is_none, if◌then◌else◌, option_map, map, IsCountedIn, KeepsSizes, SizesStay, is_committed, Line, line_step, kept_by_checkpoint, Content, Session, State, table_with, session_at, writes_of, busy_read, busy_write, lacks_room, asks_for_checkpoint, Outcome, outcome, carried_through, full, fills_page, refusal, first_refusal, refuse_if, wants_active, wants_record, wants_short, wants_standing, may_read, may_write, ready, effect, answer, found, makes_checkpoint, is_accepted, step, CacheLine, Command, Begin, Read, Write, Erase, Scan, Commit, Abort, Get, Set, Mark, Back, Reply, Why, BadSession, NoRecord, TooLong, BadMark}
use Rattle.std.proofs.Common.{slice_set}
use Rattle.std.proofs.lemmas.Grind.{common_steps}
use Rattle.record_model.specs.declared.words.Reply.TheVariants as reply
use Rattle.record_model.specs.State as state

-- What holds of each outcome that a command whose tests let it through may have.
pub each_outcome : (P : Outcome → Type 0) (s : State) (command : Command) (listing : List CacheLine) (lacks : Bool) (page : Option Reply) →
    P (record { after = s; reply = full s }) → ((refused : Reply) → page ≡ Some refused → P (record { after = s; reply = refused })) →
    P (record { after = effect s command; reply = answer s command listing }) →
    P (if lacks then record { after = s; reply = full s } else carried_through s command listing page)
each_outcome P s command listing true page log fills done = log
each_outcome P s command listing false (Some refused) log fills done = fills refused refl
each_outcome P s command listing false None log fills done = done

-- Sizes.

pub length_table_with : (table : List Content) (writes : List state.Write) → length (table_with table writes) ≡ length table
length_table_with table [] = refl
length_table_with table (w ∷ writes) = length_table_with (slice_set table w.0 w.1) writes ∙ grind (arith, common_steps)

with_length : (s : State) (n : ℕ) (session : Option Session) → length (slice_set s.sessions n session) ≡ length s.sessions
with_length s n session = grind (arith, common_steps)

effect_keeps : (s : State) (command : Command) → KeepsSizes s (effect s command)
effect_keeps s (Begin n) = record { table = refl; sessions = with_length s n _; cap = refl; pages_fill = refl }
effect_keeps s (Read n number) = record { table = refl; sessions = with_length s n _; cap = refl; pages_fill = refl }
effect_keeps s (Write n number value) = record { table = refl; sessions = with_length s n _; cap = refl; pages_fill = refl }
effect_keeps s (Erase n number) = record { table = refl; sessions = with_length s n _; cap = refl; pages_fill = refl }
effect_keeps s (Scan n number count) = record { table = refl; sessions = with_length s n _; cap = refl; pages_fill = refl }
effect_keeps s (Commit n) = record { table = length_table_with s.table (writes_of (session_at s n)); sessions = with_length s n _; cap = refl; pages_fill = refl }
effect_keeps s (Abort n) = record { table = refl; sessions = with_length s n _; cap = refl; pages_fill = refl }
effect_keeps s (Mark n) = record { table = refl; sessions = with_length s n _; cap = refl; pages_fill = refl }
effect_keeps s (Back n standing) = record { table = refl; sessions = with_length s n _; cap = refl; pages_fill = refl }
effect_keeps s (Set number value) = record { table = length_table_with s.table ((number, Some value) ∷ []); sessions = refl; cap = refl; pages_fill = refl }
effect_keeps s _ = record { table = refl; sessions = refl; cap = refl; pages_fill = refl }

outcome_keeps : (s : State) (command : Command) (listing : List CacheLine) (r : Option Reply) →
    KeepsSizes s (outcome s command listing r).after
outcome_keeps s command listing (Some refused) = record { table = refl; sessions = refl; cap = refl; pages_fill = refl }
outcome_keeps s command listing None =
    let kept = effect_keeps (ready s command) command in
    each_outcome (λ o. KeepsSizes s o.after) (ready s command) command listing (lacks_room (ready s command) command) (fills_page (ready s command) command)
    (record { table = refl; sessions = refl; cap = refl; pages_fill = refl })
    (λ refused is. record { table = refl; sessions = refl; cap = refl; pages_fill = refl })
    (record { table = kept.table; sessions = kept.sessions; cap = kept.cap; pages_fill = kept.pages_fill })

pub sizes_stay : SizesStay
sizes_stay s None listing = record { table = refl; sessions = refl; cap = refl; pages_fill = refl }
sizes_stay s (Some command) listing = outcome_keeps s command listing (refusal s command)

-- Commits.

still : (s : State) (o : Outcome) → is_committed o.reply ≡ false → o.after.table ≡ s.table → o.after.commits ≡ s.commits → IsCountedIn s o
still s o other table commits = record { committed = λ h. absurd cc; others = λ h. (table, commits) }

pub found_is : (content : Content) → is_committed (found content) ≡ false
found_is None = refl
found_is (Some value) = refl

-- a test's reply is no commit
unfoldable pub IsNoCommit : Option Reply → Type 0
IsNoCommit None = Unit {0}
IsNoCommit (Some refused) = is_committed refused ≡ false

refused_if : (test : Bool) (why : Why) → IsNoCommit (refuse_if test (reply.Refused why))
unfolding IsNoCommit
refused_if true why = refl
refused_if false why = tt

busy_with : (holder : Option ℕ) → IsNoCommit (option_map reply.Busy holder)
unfolding IsNoCommit
busy_with None = tt
busy_with (Some n) = refl

first_of : (tests : List (Option Reply)) → AllByRecursion IsNoCommit tests → IsNoCommit (first_refusal tests)
unfolding IsNoCommit
first_of [] h = tt
first_of (None ∷ tests) h = first_of tests h.1
first_of (Some refused ∷ tests) h = h.0

all_busy : (s : State) (own : Option ℕ) (numbers : List ℕ) → AllByRecursion IsNoCommit (map (may_read s own) numbers)
all_busy s own [] = tt
all_busy s own (number ∷ numbers) = (busy_with (busy_read s own number), all_busy s own numbers)

pub refusals : (s : State) (command : Command) → IsNoCommit (refusal s command)
unfolding IsNoCommit
refusals s (Begin n) = refused_if _ BadSession
refusals s (Read n number) = first_of (wants_active s n ∷ wants_record s number ∷ may_read s (Some n) number ∷ []) (refused_if _ BadSession, (refused_if _ NoRecord, (busy_with (busy_read s (Some n) number), tt)))
refusals s (Write n number value) = first_of (wants_active s n ∷ wants_record s number ∷ wants_short value ∷ may_write s (Some n) number ∷ []) (refused_if _ BadSession, (refused_if _ NoRecord, (refused_if _ TooLong, (busy_with (busy_write s (Some n) number), tt))))
refusals s (Erase n number) = first_of (wants_active s n ∷ wants_record s number ∷ may_write s (Some n) number ∷ []) (refused_if _ BadSession, (refused_if _ NoRecord, (busy_with (busy_write s (Some n) number), tt)))
refusals s (Scan n number count) = first_of (wants_active s n ∷ wants_record s (number + count - 1) ∷ map (may_read s (Some n)) (range_with_len number count)) (refused_if _ BadSession, (refused_if _ NoRecord, all_busy s (Some n) (range_with_len number count)))
refusals s (Commit n) = refused_if _ BadSession
refusals s (Abort n) = refused_if _ BadSession
refusals s (Mark n) = refused_if _ BadSession
refusals s (Back n None) = first_of (wants_active s n ∷ wants_standing s n None ∷ []) (refused_if _ BadSession, (tt, tt))
refusals s (Back n (Some standing)) = first_of (wants_active s n ∷ wants_standing s n (Some standing) ∷ []) (refused_if _ BadSession, (refused_if _ BadMark, tt))
refusals s (Get number) = first_of (wants_record s number ∷ may_read s None number ∷ []) (refused_if _ NoRecord, (busy_with (busy_read s None number), tt))
refusals s (Set number value) = first_of (wants_record s number ∷ wants_short value ∷ may_write s None number ∷ []) (refused_if _ NoRecord, (refused_if _ TooLong, (busy_with (busy_write s None number), tt)))
refusals s _ = tt

page_is_full : (test : Bool) (page need : ℕ) → IsNoCommit (refuse_if test (reply.PageFull page need))
unfolding IsNoCommit
page_is_full true page need = refl
page_is_full false page need = tt

pub page_refusals : (s : State) (command : Command) → IsNoCommit (fills_page s command)
unfolding IsNoCommit
page_refusals s (Write n number value) = page_is_full _ _ _
page_refusals s (Set number value) = page_is_full _ _ _
page_refusals s _ = tt

pub of_none : (r : Option Reply) (refused : Reply) → r ≡ Some refused → IsNoCommit r → is_committed refused ≡ false
unfolding IsNoCommit
of_none None refused e h = absurd cc
of_none (Some other) refused e h = cc

counted_effect : (s : State) (command : Command) (listing : List CacheLine) →
    IsCountedIn s (record { after = effect (ready s command) command; reply = answer (ready s command) command listing })
counted_effect s command listing = grind (arith, still, found_is)

counted_outcome : (s : State) (command : Command) (listing : List CacheLine) (r : Option Reply) → IsNoCommit r →
    IsCountedIn s (outcome s command listing r)
unfolding IsNoCommit
counted_outcome s command listing (Some refused) h = still s _ h refl refl
counted_outcome s command listing None h =
    each_outcome (IsCountedIn s) (ready s command) command listing (lacks_room (ready s command) command) (fills_page (ready s command) command)
    (still s _ refl refl refl)
    (λ refused is. still s _ (of_none _ refused is (page_refusals (ready s command) command)) refl refl)
    (counted_effect s command listing)

-- a line commits at most once
pub commits_once : (s : State) (line : Line) (listing : List CacheLine) → IsCountedIn s (line_step s line listing)
commits_once s None listing = still s _ refl refl refl
commits_once s (Some command) listing = counted_outcome s command listing (refusal s command) (refusals s command)

-- Refusals.

kept_where : State → Bool → State
kept_where s b = record s { kept = if b then kept_by_checkpoint s else s.kept }

refused_stays : (s : State) (command : Command) (listing : List CacheLine) (lacks : Bool) (page : Option Reply) → (not lacks && is_none page) ≡ false →
    (if lacks then record { after = s; reply = full s } else carried_through s command listing page).after ≡ s
refused_stays s command listing true page h = refl
refused_stays s command listing false (Some refused) h = refl
refused_stays s command listing false None h = absurd cc

and_true : (b : Bool) → b ≡ (b && true)
and_true true = refl
and_true false = refl

refused_leaves : (s : State) (command : Command) (listing : List CacheLine) (r : Option Reply) →
    ((is_none r && not (lacks_room (ready s command) command)) && is_none (fills_page (ready s command) command)) ≡ false →
    (outcome s command listing r).after ≡ kept_where s (asks_for_checkpoint s command && is_none r)
unfolding kept_where
refused_leaves s command listing (Some refused) h = grind (arith, common_steps)
refused_leaves s command listing None h =
    refused_stays (ready s command) command listing (lacks_room (ready s command) command) (fills_page (ready s command) command) h
    ∙ ap (kept_where s) (and_true (asks_for_checkpoint s command))

-- a command that isn't carried out changes nothing, but that a checkpoint is made where one comes before the refusal
pub refused_changes_nothing : (s : State) (command : Command) (listing : List CacheLine) → is_accepted s command ≡ false → (step s command listing).after ≡ record s { kept = if makes_checkpoint s command then kept_by_checkpoint s else s.kept }
unfolding kept_where
refused_changes_nothing s command listing h = refused_leaves s command listing (refusal s command) h

-- no command makes fewer records than there were
pub effect_makes : (s : State) (command : Command) → s.made ≤ (effect s command).made
effect_makes s (Begin n) = grind arith
effect_makes s _ = grind arith
