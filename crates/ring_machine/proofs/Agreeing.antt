-- The machine's cache is the cache machine.
use Rattle.std.proofs.Common.{◌≡◌, ◌==◌, ℕ, zero, suc, Bool, true, false, List, [], ◌∷◌, ◌++◌, map, filter_map, flat_map, reverse, replicate, length, Option, Some, None, option_map, refl, sym, ap, subst, ◌∙◌}
use Rattle.std.specs.Prelude.{if◌then◌else◌}
use Rattle.std.specs.List.{cons_option, list_any, range_with_len}
use Rattle.std_lemmas.proofs.Bools.{or_true}
use Rattle.std_lemmas.proofs.Lists.{map_reverse_aux}
use Rattle.record_model.specs.declared.words.Command.{Command}
use Rattle.record_model.specs.declared.words.Command.TheVariants.{Abort, Back, Begin, Cache, Checkpoint, Commit, Erase, Get, Mark, Quit, Read, Scan, Set, Stat, Write}
use Rattle.record_model.specs.State.{Content, State, content_at, seen, session_at, writes_of}
use Rattle.record_model.specs.State as state
use Rattle.record_model.specs.Step.{makes_checkpoint, is_accepted, is_page_full, dropped, going_back}
use Rattle.record_model.specs.Touches.{CacheOp, flush, page_of, read_touch, write_touch, takes_back_touches, record_touches, tested_touches, page_touches}
use Rattle.log_records.specs.Log.{Entry, txn_of, is_of, number_of, before_of}
use Rattle.log_records.specs.Unfinished.{pending}
use Rattle.log_records.specs.Restart.{redo_touch, undo_touch}
use Rattle.log_records.specs.Sound.{from_block}
use Rattle.second_chance.specs.Machine.{Rules, is_changed, with_room, touched, after_works}
use Rattle.second_chance.specs.Machine as cache
use Rattle.ring_machine.specs.Machine.{Machine, RingOp, cached, logged, changed, apply_op, after_all}
use Rattle.ring_machine.specs.Commands.{reads, begins, commits, takes_back, ends, saves, goes_back, undoes, stood_before, record_work, page_work}
use Rattle.ring_machine.specs.Octets.{update_octets, clr_octets}
use Rattle.ring_machine.specs.Restart.{clr_on, undoing_work, only_ends, redo_work, undo_work}
use Rattle.ring_machine.specs.Laws.{CommandsAgree, RestartsAgree}
use Rattle.ring_machine.proofs.Works.{ring_ops_compose}

-- this work does to the cache what these touches and flushes do
abbrev Agrees : Rules → List RingOp → List CacheOp → Type 0
Agrees rules works asked = (m : Machine) → (after_all rules works m).cache ≡ after_works rules asked m.cache

cache_adds_up : (rules : Rules) (first later : List CacheOp) (c : cache.Cache) → after_works rules (first ++ later) c ≡ after_works rules later (after_works rules first c)
cache_adds_up rules [] later c = refl
cache_adds_up rules (work ∷ works) later c = cache_adds_up rules works later (cache.apply_op rules work c)

in_turn : (rules : Rules) (a b : List RingOp) (t u : List CacheOp) → Agrees rules a t → Agrees rules b u → Agrees rules (a ++ b) (t ++ u)
in_turn rules a b t u one two m =
    ap (λ (n : Machine). n.cache) (ring_ops_compose rules a b m) ∙ two (after_all rules a m) ∙ ap (after_works rules u) (one m) ∙ sym (cache_adds_up rules t u m.cache)

nothing : (rules : Rules) (works : List RingOp) → ((m : Machine) → (after_all rules works m).cache ≡ m.cache) → Agrees rules works []
nothing rules works same m = same m

-- a page is touched, and changed in front
change : (rules : Rules) (number octets : ℕ) → Agrees rules (cached (read_touch number) ∷ changed octets (page_of number) ∷ []) (write_touch number ∷ [])
change rules number octets m =
    let c = with_room rules (page_of number) m.cache in
    ap (λ (b : Bool). record { pool = record { page = page_of number; changed = b } ∷ cache.without (λ other. other == page_of number) c.pool; queue = (touched rules (page_of number) true m.cache).queue })
    (sym (or_true (is_changed c.pool (page_of number))))

read : (rules : Rules) (number : ℕ) → Agrees rules (reads number) (read_touch number ∷ [])
read rules number m = refl

read_all : (rules : Rules) (numbers : List ℕ) → Agrees rules (flat_map reads numbers) (map read_touch numbers)
read_all rules [] = nothing rules [] (λ m. refl)
read_all rules (number ∷ numbers) = in_turn rules (reads number) (flat_map reads numbers) (read_touch number ∷ []) (map read_touch numbers) (read rules number) (read_all rules numbers)

take_all_back : (rules : Rules) (made : List state.Write) → Agrees rules (flat_map takes_back made) (map (λ w. write_touch w.0) made)
take_all_back rules [] = nothing rules [] (λ m. refl)
take_all_back rules (w ∷ made) = in_turn rules (takes_back w) (flat_map takes_back made) (write_touch w.0 ∷ []) (map (λ w. write_touch w.0) made) (change rules w.0 (clr_octets w.1)) (take_all_back rules made)

-- the same records, in the same order
numbers_stay : (table : List Content) (earlier made : List state.Write) → map (λ w. write_touch w.0) (stood_before table earlier made) ≡ map (λ w. write_touch w.0) made
numbers_stay table earlier [] = refl
numbers_stay table earlier (w ∷ later) = ap (λ (l : List CacheOp). write_touch w.0 ∷ l) (numbers_stay table (earlier ++ w ∷ []) later)

touches_stay : (table : List Content) (earlier made : List state.Write) → map (λ w. write_touch w.0) (reverse (stood_before table earlier made)) ≡ takes_back_touches made
touches_stay table earlier made =
    sym (map_reverse_aux (λ (w : state.Write). write_touch w.0) (stood_before table earlier made) []) ∙ ap reverse (numbers_stay table earlier made) ∙ map_reverse_aux (λ (w : state.Write). write_touch w.0) made []

append-none : (asked : List CacheOp) → asked ++ [] ≡ asked
append-none [] = refl
append-none (work ∷ asked) = ap (λ (l : List CacheOp). work ∷ l) (append-none asked)

asked_as : (rules : Rules) (works : List RingOp) (asked other : List CacheOp) → asked ≡ other → Agrees rules works asked → Agrees rules works other
asked_as rules works asked other same agrees = subst (λ (l : List CacheOp). Agrees rules works l) same agrees

gone_back : (rules : Rules) (table : List Content) (earlier made : List state.Write) → Agrees rules (goes_back table earlier made) (takes_back_touches made)
gone_back rules table earlier made = asked_as rules (goes_back table earlier made) (map (λ w. write_touch w.0) (reverse (stood_before table earlier made))) (takes_back_touches made) (touches_stay table earlier made) (take_all_back rules (reverse (stood_before table earlier made)))

undone : (rules : Rules) (table : List Content) (made : List state.Write) → Agrees rules (undoes table made) (takes_back_touches made)
undone rules table made =
    asked_as rules (undoes table made) (takes_back_touches made ++ []) (takes_back_touches made) (append-none (takes_back_touches made))
    (in_turn rules (goes_back table [] made) ends (takes_back_touches made) [] (gone_back rules table [] made) (nothing rules ends (λ m. refl)))

-- a command that its tests have let through
record_agrees : (rules : Rules) (s : State) (command : Command) → Agrees rules (record_work s command) (record_touches s command)
record_agrees rules s (Begin n) = nothing rules begins (λ m. refl)
record_agrees rules s (Read n number) = read rules number
record_agrees rules s (Write n number value) = change rules number (update_octets (seen s n number) (Some value))
record_agrees rules s (Erase n number) = change rules number (update_octets (seen s n number) None)
record_agrees rules s (Scan n number count) = read_all rules (range_with_len number count)
record_agrees rules s (Commit n) = nothing rules commits (λ m. refl)
record_agrees rules s (Abort n) = undone rules s.table (writes_of (session_at s n))
record_agrees rules s (Mark n) = nothing rules [] (λ m. refl)
record_agrees rules s (Back n standing) =
    gone_back rules s.table (writes_of (option_map (going_back standing) (session_at s n))) (dropped standing (session_at s n))
record_agrees rules s (Get number) = read rules number
record_agrees rules s (Set number value) = change rules number (update_octets (content_at s.table number) (Some value))
record_agrees rules s Checkpoint = nothing rules [] (λ m. refl)
record_agrees rules s Cache = nothing rules [] (λ m. refl)
record_agrees rules s Stat = nothing rules [] (λ m. refl)
record_agrees rules s Quit = nothing rules [] (λ m. refl)

where_wanted : (rules : Rules) (b : Bool) (works : List RingOp) (asked : List CacheOp) → Agrees rules works asked → Agrees rules (if b then works else []) (if b then asked else [])
where_wanted rules true works asked agrees = agrees
where_wanted rules false works asked agrees = nothing rules [] (λ m. refl)

saved : (rules : Rules) → Agrees rules saves (flush ∷ [])
saved rules m = refl

-- pages that are only touched
redone : (rules : Rules) (asked : List CacheOp) → Agrees rules (map cached asked) asked
redone rules [] = nothing rules [] (λ m. refl)
redone rules (work ∷ asked) = λ m. redone rules asked (apply_op rules (cached work) m)

page_agrees : (rules : Rules) (s : State) (command : Command) → Agrees rules (page_work s command) (page_touches s command)
page_agrees rules s command = by (is_accepted s command) (is_page_full s command)
  where
    by : (accepted full : Bool) → Agrees rules (if accepted then record_work s command else (if full then map cached (tested_touches command) else []))
        (if accepted then record_touches s command else (if full then tested_touches command else []))
    by true full = record_agrees rules s command
    by false full = where_wanted rules full (map cached (tested_touches command)) (tested_touches command) (redone rules (tested_touches command))

pub commands_agree : CommandsAgree
commands_agree rules s command =
    in_turn rules (if makes_checkpoint s command then saves else []) (page_work s command) (if makes_checkpoint s command then flush ∷ [] else []) (page_touches s command)
    (where_wanted rules (makes_checkpoint s command) saves (flush ∷ []) (saved rules)) (page_agrees rules s command)

-- A restart.

ended_first : (rules : Rules) (n : ℕ) → Agrees rules (replicate n (logged 9)) []
ended_first rules zero = nothing rules [] (λ m. refl)
ended_first rules (suc n) = in_turn rules ends (replicate n (logged 9)) [] [] (nothing rules ends (λ m. refl)) (ended_first rules n)

all_undone : (rules : Rules) (updates : List Entry) → Agrees rules (undoing_work updates) (filter_map undo_touch updates)
all_undone rules [] = nothing rules [] (λ m. refl)
all_undone rules (u ∷ earlier) = by (number_of u.rec) (all_undone rules earlier)
  where
    after_it : List RingOp
    after_it = if list_any (is_of (txn_of u)) earlier then [] else ends

    end : Agrees rules after_it []
    end = by_end (list_any (is_of (txn_of u)) earlier)
      where
        by_end : (b : Bool) → Agrees rules (if b then [] else ends) []
        by_end true = nothing rules [] (λ m. refl)
        by_end false = nothing rules ends (λ m. refl)

    by : (number : Option ℕ) → Agrees rules (undoing_work earlier) (filter_map undo_touch earlier) →
        Agrees rules ((clr_on (before_of u.rec) number ++ after_it) ++ undoing_work earlier) (cons_option (option_map write_touch number) (filter_map undo_touch earlier))
    by None rest = in_turn rules after_it (undoing_work earlier) [] (filter_map undo_touch earlier) end rest
    by (Some number) rest =
        in_turn rules (takes_back (number, before_of u.rec) ++ after_it) (undoing_work earlier) (write_touch number ∷ []) (filter_map undo_touch earlier)
        (in_turn rules (takes_back (number, before_of u.rec)) after_it (write_touch number ∷ []) [] (change rules number (clr_octets (before_of u.rec))) end) rest

pub restarts_agree : RestartsAgree
restarts_agree rules p =
    in_turn rules (redo_work p ++ undo_work p.log) saves (filter_map (redo_touch p) (from_block p.master.redo p.log) ++ filter_map undo_touch (reverse (pending p.log))) (flush ∷ [])
    (in_turn rules (redo_work p) (undo_work p.log) (filter_map (redo_touch p) (from_block p.master.redo p.log)) (filter_map undo_touch (reverse (pending p.log)))
    (redone rules (filter_map (redo_touch p) (from_block p.master.redo p.log)))
    (in_turn rules (replicate (length (only_ends p.log)) (logged 9)) (undoing_work (reverse (pending p.log))) [] (filter_map undo_touch (reverse (pending p.log)))
    (ended_first rules (length (only_ends p.log))) (all_undone rules (reverse (pending p.log))))) (saved rules)
