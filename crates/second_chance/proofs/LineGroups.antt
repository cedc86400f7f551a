-- The groups that lines push at most, by what they read and log.
use Rattle.std.proofs.lemmas.Grind.{common_steps}
use Rattle.second_chance.proofs.Names.{◌≡◌, ℕ, ◌+◌, ◌*◌, ◌≤◌, Bool, true, false, List, [], ◌∷◌, length, map, Some, refl, arith, None, length-reverse, length-range_with_len, if◌then◌else◌, is_none, is_some, CacheOp, flush, line_touches, page_touches, read_touch, record_touches, tested_touches, write_touch, groups_for_all, LinesPushFew, LinesCounted, reads_by, reads_told}
use Rattle.std.proofs.Common.{Option}
use Rattle.std.specs.Prelude.{not, ◌&&◌}
use Rattle.record_model.specs.declared.words.CacheLine.{CacheLine}
use Rattle.record_model.specs.declared.words.Command.{Command}
use Rattle.record_model.specs.declared.words.Command.TheVariants.{Set, Write}
use Rattle.record_model.specs.declared.words.Reply.{Reply}
use Rattle.record_model.specs.State.{State}
use Rattle.record_model.specs.Step.{Outcome, carried_through, effect, fills_page, full, lacks_room, outcome, ready, refuse_if}
use Rattle.record_model.specs.Run.{Line, later_listings, line_step, next_listing}
use Rattle.second_chance.proofs.GroupCounts.{groups_add_up}
use Rattle.record_model.specs.declared.words.Reply.TheVariants as reply
use Rattle.record_model.specs.State as state

reads_for : (numbers : List ℕ) → groups_for_all (map read_touch numbers) ≡ length numbers
reads_for [] = omega arith
reads_for (number ∷ numbers) = omega (arith, reads_for numbers)

writes_for : (writes : List state.Write) → groups_for_all (map (λ write. write_touch write.0) writes) ≡ 2 * length writes
writes_for [] = omega arith
writes_for (write ∷ writes) = omega (arith, writes_for writes)

-- A command that is accepted makes its records: a change for each at most.
command_few : (s : State) (command : Command) → groups_for_all (record_touches s command) + 2 * s.made ≤ reads_by (Some command) + 2 * (effect (ready s command) command).made
command_few s x1 = grind (arith, common_steps, reads_for, length-range_with_len, writes_for, length-reverse)

-- A command that finds its page full reads it, and is told so.
told_full : (test : Bool) (page need : ℕ) (refused : Reply) → refuse_if test (reply.PageFull page need) ≡ Some refused → 1 ≤ reads_told refused
told_full x0 page need refused e = grind (arith, common_steps)

tested_few : (s : State) (command : Command) (refused : Reply) → fills_page s command ≡ Some refused → groups_for_all (tested_touches command) ≤ reads_told refused
tested_few s (Write n number value) refused e = told_full _ _ _ refused e
tested_few s (Set number value) refused e = told_full _ _ _ refused e
tested_few s _ refused e = absurd cc

-- what a command asks of pages, and what comes of it, by what its tests give
abbrev asked : State → Command → Bool → Option Reply → List CacheOp
asked s command comes page = if comes && is_none page then record_touches s command else (if comes && is_some page then tested_touches command else [])

IsFew : State → Command → List CacheOp → Outcome → Type 0
IsFew s command asks o = groups_for_all asks + 2 * s.made ≤ reads_by (Some command) + reads_told o.reply + 2 * o.after.made

page_few : (s : State) (command : Command) (listing : List CacheLine) (lacks : Bool) (page : Option Reply) → fills_page (ready s command) command ≡ page →
    IsFew s command (asked s command (not lacks) page) (if lacks then record { after = ready s command; reply = full (ready s command) } else carried_through (ready s command) command listing page)
unfolding IsFew
page_few s command listing true page e = omega arith
page_few s command listing false (Some refused) e = omega (arith, tested_few (ready s command) command refused e)
page_few s command listing false None e = omega (arith, command_few s command)

tests_few : (s : State) (command : Command) (listing : List CacheLine) (r : Option Reply) →
    IsFew s command (asked s command (is_none r && not (lacks_room (ready s command) command)) (fills_page (ready s command) command)) (outcome s command listing r)
unfolding IsFew
tests_few s command listing (Some refused) = omega arith
tests_few s command listing None = page_few s command listing (lacks_room (ready s command) command) (fills_page (ready s command) command) refl

flush_pushes_none : (b : Bool) → groups_for_all (if b then flush ∷ [] else []) ≡ 0
flush_pushes_none x0 = grind (arith, common_steps)

line_few : (s : State) (line : Line) (listing : List CacheLine) →
    groups_for_all (line_touches s line) + 2 * s.made ≤ reads_by line + reads_told (line_step s line listing).reply + 2 * (line_step s line listing).after.made
unfolding IsFew
line_few s x1 listing = grind (arith, common_steps, flush, groups_add_up, page_touches, flush_pushes_none, tests_few)

-- Turn after turn.

abbrev after_line : State → Line → List (List CacheLine) → State
after_line s line listings = (line_step s line (next_listing listings)).after

pub lines_push_few : LinesPushFew
lines_push_few s [] listings = omega arith
lines_push_few s (line ∷ lines) listings = grind (arith, line_few, groups_add_up, (lines_push_few (after_line s line listings) lines (later_listings line listings)))

pub lines_counted : LinesCounted
lines_counted = record { groups = refl; reads = refl; made = refl; full_groups = refl; full_reads = refl; full_made = refl }
