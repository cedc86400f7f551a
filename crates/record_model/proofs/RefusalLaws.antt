-- A reply tells whether the command was carried out.
use Rattle.record_model.proofs.Citing.{◌≡◌, ℕ, ◌+◌, ◌-◌, Bool, true, false, List, [], ◌∷◌, Option, Some, None, refl, ap, sym, AllByRecursion, range_with_len, not, ◌&&◌, is_none, option_map, map, if◌then◌else◌, is_refused, RefusalsAreTold, Content, State, seen, content_at, busy_read, busy_write, outcome, carried_through, full, fills_page, lacks_room, refusal, first_refusal, refuse_if, wants_active, wants_record, wants_short, wants_standing, may_read, may_write, ready, answer, found, CacheLine, Command, Begin, Read, Write, Erase, Scan, Commit, Abort, Get, Set, Mark, Back, Reply, Why, BadSession, NoRecord, TooLong, BadMark}
use Rattle.record_model.specs.declared.words.Reply.TheVariants as reply

-- a test's reply is a refusal
IsRefusal : Option Reply → Type 0
IsRefusal None = Unit {0}
IsRefusal (Some refused) = is_refused refused ≡ true

refused_if : (test : Bool) (why : Why) → IsRefusal (refuse_if test (reply.Refused why))
unfolding IsRefusal
refused_if true why = refl
refused_if false why = tt

busy_with : (holder : Option ℕ) → IsRefusal (option_map reply.Busy holder)
unfolding IsRefusal
busy_with None = tt
busy_with (Some n) = refl

first_of : (tests : List (Option Reply)) → AllByRecursion IsRefusal tests → IsRefusal (first_refusal tests)
unfolding IsRefusal
first_of [] h = tt
first_of (None ∷ tests) h = first_of tests h.1
first_of (Some refused ∷ tests) h = h.0

all_busy : (s : State) (own : Option ℕ) (numbers : List ℕ) → AllByRecursion IsRefusal (map (may_read s own) numbers)
all_busy s own [] = tt
all_busy s own (number ∷ numbers) = (busy_with (busy_read s own number), all_busy s own numbers)

refusals : (s : State) (command : Command) → IsRefusal (refusal s command)
unfolding IsRefusal
refusals s (Begin n) = refused_if _ BadSession
refusals s (Read n number) = first_of (wants_active s n ∷ wants_record s number ∷ may_read s (Some n) number ∷ []) (refused_if _ BadSession, (refused_if _ NoRecord, (busy_with (busy_read s (Some n) number), tt)))
refusals s (Write n number value) = first_of (wants_active s n ∷ wants_record s number ∷ wants_short value ∷ may_write s (Some n) number ∷ [])
    (refused_if _ BadSession, (refused_if _ NoRecord, (refused_if _ TooLong, (busy_with (busy_write s (Some n) number), tt))))
refusals s (Erase n number) = first_of (wants_active s n ∷ wants_record s number ∷ may_write s (Some n) number ∷ []) (refused_if _ BadSession, (refused_if _ NoRecord, (busy_with (busy_write s (Some n) number), tt)))
refusals s (Scan n number count) = first_of (wants_active s n ∷ wants_record s (number + count - 1) ∷ map (may_read s (Some n)) (range_with_len number count))
    (refused_if _ BadSession, (refused_if _ NoRecord, all_busy s (Some n) (range_with_len number count)))
refusals s (Commit n) = refused_if _ BadSession
refusals s (Abort n) = refused_if _ BadSession
refusals s (Mark n) = refused_if _ BadSession
refusals s (Back n None) = first_of (wants_active s n ∷ wants_standing s n None ∷ []) (refused_if _ BadSession, (tt, tt))
refusals s (Back n (Some standing)) = first_of (wants_active s n ∷ wants_standing s n (Some standing) ∷ []) (refused_if _ BadSession, (refused_if _ BadMark, tt))
refusals s (Get number) = first_of (wants_record s number ∷ may_read s None number ∷ []) (refused_if _ NoRecord, (busy_with (busy_read s None number), tt))
refusals s (Set number value) = first_of (wants_record s number ∷ wants_short value ∷ may_write s None number ∷ []) (refused_if _ NoRecord, (refused_if _ TooLong, (busy_with (busy_write s None number), tt)))
refusals s _ = tt

found_is_none : (content : Content) → is_refused (found content) ≡ false
found_is_none None = refl
found_is_none (Some value) = refl

-- no answer is one
answers : (s : State) (command : Command) (listing : List CacheLine) → is_refused (answer s command listing) ≡ false
answers s (Read n number) listing = found_is_none (seen s n number)
answers s (Get number) listing = found_is_none (content_at s.table number)
answers s _ listing = refl

page_is_full : (test : Bool) (page need : ℕ) → IsRefusal (refuse_if test (reply.PageFull page need))
unfolding IsRefusal
page_is_full true page need = refl
page_is_full false page need = tt

page_refusals : (s : State) (command : Command) → IsRefusal (fills_page s command)
unfolding IsRefusal
page_refusals s (Write n number value) = page_is_full _ _ _
page_refusals s (Set number value) = page_is_full _ _ _
page_refusals s _ = tt

let_through : (s : State) (command : Command) (listing : List CacheLine) (lacks : Bool) (page : Option Reply) → IsRefusal page →
    (not lacks && is_none page) ≡ not (is_refused (if lacks then record { after = s; reply = full s } else carried_through s command listing page).reply)
unfolding IsRefusal
let_through s command listing true page h = refl
let_through s command listing false (Some refused) h = ap not (sym h)
let_through s command listing false None h = ap not (sym (answers s command listing))

of_tests : (s : State) (command : Command) (listing : List CacheLine) (r : Option Reply) → IsRefusal r →
    ((is_none r && not (lacks_room (ready s command) command)) && is_none (fills_page (ready s command) command)) ≡ not (is_refused (outcome s command listing r).reply)
unfolding IsRefusal
of_tests s command listing (Some refused) h = ap not (sym h)
of_tests s command listing None h =
    let_through (ready s command) command listing (lacks_room (ready s command) command) (fills_page (ready s command) command) (page_refusals (ready s command) command)

pub refusals_are_told : RefusalsAreTold
refusals_are_told s command listing = of_tests s command listing (refusal s command) (refusals s command)
