-- How many numbers work takes from the rings on the log's device.
use Rattle.std.proofs.Common.{◌≡◌, ◌⊎◌, inl, inr, ⊎_elim, ℕ, zero, suc, ◌+◌, ◌^◌, ◌≤◌, Bool, true, false, not, ◌&&◌, List, [], ◌∷◌, ◌++◌, length, drop, map, flat_map, reverse, Option, Some, None, option_map, refl, sym, ap, subst, ◌∙◌, arith}
use Rattle.std.specs.Prelude.{nat_lt, is_none, is_some, if◌then◌else◌}
use Rattle.std.specs.List.{list_any, range_with_len}
use Rattle.std.specs.Option.{option_or}
use Rattle.std.proofs.lemmas.List.{length-append, length-drop, length-reverse}
use Rattle.site.specs.declared.outside.Dev.{Dev}
use Rattle.record_model.specs.declared.words.CacheLine.{CacheLine}
use Rattle.record_model.specs.declared.words.Command.{Command}
use Rattle.record_model.specs.declared.words.Command.TheVariants.{Abort, Back, Begin, Cache, Checkpoint, Commit, Erase, Get, Mark, Quit, Read, Scan, Set, Stat, Write}
use Rattle.record_model.specs.declared.words.Reply.{Reply}
use Rattle.record_model.specs.State.{Content, State, session_at, writes_of}
use Rattle.record_model.specs.State as state
use Rattle.record_model.specs.Step.{Outcome, carried_through, dropped, effect, fills_page, full, going_back, is_accepted, is_page_full, lacks_room, makes_checkpoint, outcome, ready, refusal}
use Rattle.record_model.specs.Touches.{CacheOp, touch, flush, tested_touches}
use Rattle.log_records.specs.Spelling.{block_len}
use Rattle.second_chance.specs.declared.frame.Frame.{Frame}
use Rattle.second_chance.specs.Queue.{Queue, pushed, with_read}
use Rattle.second_chance.specs.Machine.{Rules, PoolPage, holds, is_full, push_evicted, must_be_pushed, after_eviction, evict_first, evict_coldest, lacks_room as lacks_place, with_room, in_front, wants_flush, push_changed, flushed_by, next_group}
use Rattle.second_chance.specs.Machine as cache
use Rattle.second_chance.proofs.Unread.{length-groups_read}
use Rattle.ring_machine.specs.Tail.{Tail, waits, sealed_if, is_full_for, with_record, forced, before_push}
use Rattle.ring_machine.specs.Machine.{Machine, RingOp, cached, logged, changed, force, save, pushed_by, apply_op, after_all, past_end, first_worn}
use Rattle.ring_machine.specs.Commands.{reads, takes_back, ends, saves, goes_back, undoes, stood_before, record_work, page_work, command_work}
use Rattle.ring_machine.specs.Counts.{records_in, saves_in, FewAreEnough, CommandsLogFew}
use Rattle.ring_machine.proofs.Ends.{never_past}

-- Work after work.

pub records_join : (first later : List RingOp) → records_in (first ++ later) ≡ records_in first + records_in later
records_join [] later = omega arith
records_join (cached work ∷ first) later = records_join first later
records_join (logged octets ∷ first) later = omega (arith, records_join first later)
records_join (changed octets page ∷ first) later = omega (arith, records_join first later)
records_join (force ∷ first) later = records_join first later
records_join (save ∷ first) later = records_join first later

pub saves_join : (first later : List RingOp) → saves_in (first ++ later) ≡ saves_in first + saves_in later
saves_join [] later = omega arith
saves_join (cached work ∷ first) later = saves_join first later
saves_join (logged octets ∷ first) later = saves_join first later
saves_join (changed octets page ∷ first) later = saves_join first later
saves_join (force ∷ first) later = saves_join first later
saves_join (save ∷ first) later = omega (arith, saves_join first later)

-- The number of the next group never falls.

pushed_rises : (leaves : Bool) (group : List Frame) (queue : Queue) → queue.first + length queue.groups ≤ (pushed leaves group queue).first + length (pushed leaves group queue).groups
pushed_rises true group queue = omega (arith, length-append (drop 1 queue.groups) (group ∷ []), length-drop 1 queue.groups)
pushed_rises false group queue = omega (arith, length-append queue.groups (group ∷ []))

push_rises : (rules : Rules) (c : cache.Cache) → next_group c ≤ next_group (push_changed rules c)
push_rises rules c = pushed_rises (is_full rules c.queue) _ c.queue

eviction_rises : (rules : Rules) (own : PoolPage) (c : cache.Cache) → next_group c ≤ next_group (after_eviction rules own c)
eviction_rises rules own c = by (must_be_pushed c.queue own)
  where
    by : (b : Bool) → next_group c ≤ next_group (if b then push_evicted rules own c else c)
    by true = pushed_rises (is_full rules c.queue) _ c.queue
    by false = omega arith

first_rises : (rules : Rules) (pool : List PoolPage) (c : cache.Cache) → next_group c ≤ next_group (evict_first rules pool c)
first_rises rules [] c = omega arith
first_rises rules (coldest ∷ warmer) c = eviction_rises rules coldest (record c { pool = reverse warmer })

room_rises : (rules : Rules) (page : ℕ) (c : cache.Cache) → next_group c ≤ next_group (with_room rules page c)
room_rises rules page c = by (lacks_place rules page c)
  where
    by : (b : Bool) → next_group c ≤ next_group (if b then evict_coldest rules c else c)
    by true = first_rises rules (reverse c.pool) c
    by false = omega arith

front_stays : (page : ℕ) (change : Bool) (c : cache.Cache) → next_group (in_front page change c) ≡ next_group c
front_stays page change c = by (holds c.pool page)
  where
    by : (b : Bool) → (if b then c.queue else with_read page c.queue).first + length (if b then c.queue else with_read page c.queue).groups ≡ next_group c
    by true = refl
    by false = ap (λ n. c.queue.first + n) (length-groups_read page c.queue.groups)

flush_rises : (pushes : ℕ) (rules : Rules) (c : cache.Cache) → next_group c ≤ next_group (flushed_by pushes rules c)
flush_rises zero rules c = omega arith
flush_rises (suc pushes) rules c = by (wants_flush c) (flush_rises pushes rules (push_changed rules c))
  where
    by : (b : Bool) → next_group (push_changed rules c) ≤ next_group (flushed_by pushes rules (push_changed rules c)) → next_group c ≤ next_group (if b then flushed_by pushes rules (push_changed rules c) else c)
    by true later = omega (arith, push_rises rules c, later)
    by false later = omega arith

cache_rises : (rules : Rules) (work : CacheOp) (c : cache.Cache) → next_group c ≤ next_group (cache.apply_op rules work c)
cache_rises rules (touch page change) c = omega (arith, room_rises rules page c, front_stays page change (with_room rules page c))
cache_rises rules flush c = flush_rises (length c.pool) rules c

pub group_rises : (rules : Rules) (work : RingOp) (m : Machine) → next_group m.cache ≤ next_group (apply_op rules work m).cache
group_rises rules (cached work) m = cache_rises rules work m.cache
group_rises rules (logged octets) m = omega arith
group_rises rules (changed octets page) m = omega arith
group_rises rules force m = omega arith
group_rises rules save m = omega arith

pub groups_rise : (rules : Rules) (works : List RingOp) (m : Machine) → next_group m.cache ≤ next_group (after_all rules works m).cache
groups_rise rules [] m = omega arith
groups_rise rules (work ∷ works) m = omega (arith, group_rises rules work m, groups_rise rules works (apply_op rules work m))

-- A tail goes into a block below a limit, or into the one at the limit while it has no records.

abbrev Stays : ℕ → Tail → Type 0
Stays limit t = ((t.used ≡ 2) × (t.waiting ≡ []) × (t.next ≤ limit)) ⊎ (t.next + 1 ≤ limit)

below : (limit : ℕ) (t : Tail) → Stays limit t → t.next ≤ limit
below limit t stays = ⊎_elim (λ empty. empty.2) (λ less. omega (arith, less)) stays

sealed_stays : (limit : ℕ) (b : Bool) (t : Tail) → t.next + 1 ≤ limit → Stays limit (sealed_if b t)
sealed_stays limit true t less = inl (refl, refl, less)
sealed_stays limit false t less = inr less

none_wait : (t : Tail) (pages : List ℕ) → t.waiting ≡ [] → list_any (waits t) pages ≡ false
none_wait t [] none = refl
none_wait t (page ∷ pages) none = rw none (none_wait t pages none)

push_stays : (limit : ℕ) (pages : List ℕ) (t : Tail) → Stays limit t → Stays limit (before_push pages t)
push_stays limit pages t stays = ⊎_elim
    (λ empty. subst (λ (b : Bool). Stays limit (sealed_if b t)) (sym (none_wait t pages empty.1)) (inl empty))
    (λ less. sealed_stays limit (list_any (waits t) pages) t less) stays

force_stays : (limit : ℕ) (t : Tail) → Stays limit t → Stays limit (forced t)
force_stays limit t stays = ⊎_elim
    (λ empty. subst (λ (b : Bool). Stays limit (sealed_if b t)) (ap (nat_lt 2) (sym empty.0)) (inl empty))
    (λ less. sealed_stays limit (nat_lt 2 t.used) t less) stays

record_stays : (limit octets : ℕ) (pages : List ℕ) (t : Tail) → Stays limit t → Stays (limit + 1) (with_record octets pages t)
record_stays limit octets pages t stays = inr (⊎_elim
    (λ empty. let same = ap (λ (u : ℕ). (sealed_if (nat_lt 2 u && nat_lt block_len (t.used + octets)) t).next) empty.0 in let next = empty.2 in omega (arith, same, next))
    (λ less. let new = below limit (sealed_if (is_full_for octets t) t) (sealed_stays limit (is_full_for octets t) t less) in omega (arith, new)) stays)

stays_below : (limit more : ℕ) (t : Tail) → limit ≤ more → Stays limit t → Stays more t
stays_below limit more t less stays = ⊎_elim (λ empty. inl (empty.0, empty.1, let next = empty.2 in omega (arith, next, less))) (λ next. inr (omega (arith, next, less))) stays

-- one piece of work
tail_stays : (rules : Rules) (work : RingOp) (m : Machine) (limit : ℕ) → Stays limit m.tail → Stays (limit + records_in (work ∷ [])) (apply_op rules work m).tail
tail_stays rules (cached work) m limit stays = stays_below limit _ _ (omega arith) (push_stays limit (pushed_by rules work m.cache) m.tail stays)
tail_stays rules (logged octets) m limit stays = stays_below (limit + 1) _ _ (omega arith) (record_stays limit octets [] m.tail stays)
tail_stays rules (changed octets page) m limit stays = stays_below (limit + 1) _ _ (omega arith) (record_stays limit octets (page ∷ []) m.tail stays)
tail_stays rules force m limit stays = stays_below limit _ _ (omega arith) (force_stays limit m.tail stays)
tail_stays rules save m limit stays = stays_below limit _ _ (omega arith) stays

masters_after : (rules : Rules) (work : RingOp) (m : Machine) → (apply_op rules work m).masters ≡ m.masters + saves_in (work ∷ [])
masters_after rules (cached work) m = omega arith
masters_after rules (logged octets) m = omega arith
masters_after rules (changed octets page) m = omega arith
masters_after rules force m = omega arith
masters_after rules save m = omega arith

-- Where the numbers go no further than to a top, no unit is past its end.
module _ (top : ℕ) (never : (m : Machine) → m.tail.next ≤ top → m.masters ≤ top → next_group m.cache ≤ top → past_end m ≡ None) (rules : Rules) where
  enough : (works : List RingOp) (m : Machine) (limit : ℕ) → Stays limit m.tail → limit + records_in works ≤ top → m.masters + saves_in works ≤ top →
      next_group (after_all rules works m).cache ≤ top → first_worn rules works m ≡ None
  enough [] m limit stays records masters groups = refl
  enough (work ∷ works) m limit stays records masters groups =
      let now = apply_op rules work m in
      let next = limit + records_in (work ∷ []) in
      let still : Stays next now.tail = tail_stays rules work m limit stays in
      let logs : records_in (work ∷ works) ≡ records_in (work ∷ []) + records_in works = records_join (work ∷ []) works in
      let saves : saves_in (work ∷ works) ≡ saves_in (work ∷ []) + saves_in works = saves_join (work ∷ []) works in
      let saved = masters_after rules work m in
      let later = groups_rise rules works now in
      ap (λ (o : Option Dev). option_or o (first_worn rules works now))
      (never now (omega (arith, below next now.tail still, records, logs)) (omega (arith, masters, saves, saved)) (omega (arith, later, groups)))
      ∙ enough works now next still (omega (arith, records, logs)) (omega (arith, masters, saves, saved)) groups

pub few_are_enough : FewAreEnough
few_are_enough rules works m empty records masters groups =
    enough (2 ^ 40) never_past rules works m m.tail.next (inl (ap (λ (t : Tail). t.used) empty, ap (λ (t : Tail). t.waiting) empty, omega arith)) records masters groups

-- What a line logs and saves.

read_all_logs : (numbers : List ℕ) → (records_in (flat_map reads numbers) ≡ 0) × (saves_in (flat_map reads numbers) ≡ 0)
read_all_logs [] = (refl, refl)
read_all_logs (number ∷ numbers) = read_all_logs numbers

take_all_back_logs : (made : List state.Write) → (records_in (flat_map takes_back made) ≡ length made) × (saves_in (flat_map takes_back made) ≡ 0)
take_all_back_logs [] = (refl, refl)
take_all_back_logs (write ∷ made) = let rest = take_all_back_logs made in (omega (arith, rest.0), rest.1)

as_many_before : (table : List Content) (earlier made : List state.Write) → length (stood_before table earlier made) ≡ length made
as_many_before table earlier [] = refl
as_many_before table earlier (write ∷ later) = omega (arith, as_many_before table (earlier ++ write ∷ []) later)

goes_back_logs : (table : List Content) (earlier made : List state.Write) → (records_in (goes_back table earlier made) ≡ length made) × (saves_in (goes_back table earlier made) ≡ 0)
goes_back_logs table earlier made =
    let all = take_all_back_logs (reverse (stood_before table earlier made)) in
    (omega (arith, all.0, length-reverse (stood_before table earlier made), as_many_before table earlier made), all.1)

undoes_logs : (table : List Content) (made : List state.Write) → (records_in (undoes table made) ≡ length made + 1) × (saves_in (undoes table made) ≡ 0)
undoes_logs table made =
    let all = goes_back_logs table [] made in
    (omega (arith, all.0, records_join (goes_back table [] made) ends), omega (arith, all.1, saves_join (goes_back table [] made) ends))

-- pages that are only touched
pub cached_logs : (asked : List CacheOp) → (records_in (map cached asked) ≡ 0) × (saves_in (map cached asked) ≡ 0)
cached_logs [] = (refl, refl)
cached_logs (work ∷ asked) = cached_logs asked

-- a command that its tests have let through, from a state that may have kept other records
record_logs : (s : State) (kept : ℕ) (command : Command) → (s.made + records_in (record_work s command) ≤ (effect (record s { kept = kept }) command).made) × (saves_in (record_work s command) ≡ 0)
record_logs s kept (Begin n) = (omega arith, refl)
record_logs s kept (Read n number) = (omega arith, refl)
record_logs s kept (Write n number value) = (omega arith, refl)
record_logs s kept (Erase n number) = (omega arith, refl)
record_logs s kept (Scan n number count) = let none = read_all_logs (range_with_len number count) in (omega (arith, none.0), none.1)
record_logs s kept (Commit n) = (omega arith, refl)
record_logs s kept (Abort n) = let all = undoes_logs s.table (writes_of (session_at s n)) in (omega (arith, all.0), all.1)
record_logs s kept (Mark n) = (omega arith, refl)
record_logs s kept (Back n standing) =
    let all = goes_back_logs s.table (writes_of (option_map (going_back standing) (session_at s n))) (dropped standing (session_at s n)) in
    (omega (arith, all.0), all.1)
record_logs s kept (Get number) = (omega arith, refl)
record_logs s kept (Set number value) = (omega arith, refl)
record_logs s kept Checkpoint = (omega arith, refl)
record_logs s kept Cache = (omega arith, refl)
record_logs s kept Stat = (omega arith, refl)
record_logs s kept Quit = (omega arith, refl)

-- the master unit of a checkpoint
where_saved : (b : Bool) → (records_in (if b then saves else []) ≡ 0) × (saves_in (if b then saves else []) ≡ (if b then 1 else 0))
where_saved true = (refl, refl)
where_saved false = (refl, refl)

abbrev work_where : State → Command → Bool → Bool → List RingOp
work_where s command accepted full =
    if accepted then record_work s command else (if full then map cached (tested_touches command) else [])

work_saves : (s : State) (command : Command) (accepted full : Bool) → saves_in (work_where s command accepted full) ≡ 0
work_saves s command true full = (record_logs s 0 command).1
work_saves s command false true = (cached_logs (tested_touches command)).1
work_saves s command false false = refl

module _ (s : State) (command : Command) (listing : List CacheLine) where
  abbrev now : State
  now = ready s command

  -- the log has room for it: what the test of its page gives
  paged : (o : Option Reply) → s.made + records_in (work_where s command (is_none o) (is_some o)) ≤ (carried_through now command listing o).after.made
  paged (Some refused) = let none = cached_logs (tested_touches command) in omega (arith, none.0)
  paged None = (record_logs s now.kept command).0

  -- what is left of a command that its tests let through
  abbrev chosen : Bool → Option Reply → Outcome
  chosen lacks o = if lacks then record { after = now; reply = full now } else carried_through now command listing o

  through : (lacks : Bool) (o : Option Reply) → s.made + records_in (work_where s command (not lacks && is_none o) (not lacks && is_some o)) ≤ (chosen lacks o).after.made
  through true o = omega arith
  through false o = paged o

  answered : (o : Option Reply) → s.made + records_in (work_where s command ((is_none o && not (lacks_room now command)) && is_none (fills_page now command)) ((is_none o && not (lacks_room now command)) && is_some (fills_page now command))) ≤ (outcome s command listing o).after.made
  answered (Some refused) = omega arith
  answered None = through (lacks_room now command) (fills_page now command)

  command_logs : (s.made + records_in (command_work s command) ≤ (outcome s command listing (refusal s command)).after.made) × (saves_in (command_work s command) ≡ (if makes_checkpoint s command then 1 else 0))
  command_logs =
      let first = where_saved (makes_checkpoint s command) in
      let all = answered (refusal s command) in
      let before = if makes_checkpoint s command then saves else [] in
      let own = page_work s command in
      (omega (arith, first.0, all, records_join before own), omega (arith, first.1, work_saves s command (is_accepted s command) (is_page_full s command), saves_join before own))

pub commands_log_few : CommandsLogFew
commands_log_few s None listing = (omega arith, refl)
commands_log_few s (Some command) listing = command_logs s command listing
