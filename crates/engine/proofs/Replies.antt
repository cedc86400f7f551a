-- What the model answers, test by test.
use Rattle.engine.proofs.Names.{◌≡◌, ℕ, ◌+◌, ◌*◌, ◌/◌, ◌<◌, ◌≤◌, Bool, true, false, not, ◌&&◌, true≢false, List, [], ◌∷◌, ◌++◌, length, map, sum_by, Option, None, Some, refl, sym, ap, ◌∙◌, arith, and-true, and-false, zero-add, le-leb, lt-leb, lt-ltb, le-ltb, sum_by-cons, range_with_len, option_map_or, option_map, slice_index_or, nat_le, nat_lt, is_none, is_some, IsSome, if◌then◌else◌, Master, sizes_of, touches_by, work_by, Matches, SessionIs, IsFull, IsRefusedWith, IsCarriedOut, IsTested, run, checkpointed_if, Engine, Entry, Session, State, session_at, used, is_due, Outcome, carried_through, refusal, outcome, fills_page, full, lacks_room, asks_for_checkpoint, makes_checkpoint, ready, wants_active, wants_record, wants_short, refuse_if, may_write, may_read, CacheOp, flush, command_touches, record_touches, tested_touches, Command, Reply, BadSession, NoRecord, TooLong, saves, command_work, page_work, record_work, RingOp, cached, Site, owed_at, owed_one, owed_is, IsTable, entry_of, Active}
use Rattle.std.proofs.Common.{filter_map}
use Rattle.byte_fields.specs.declared.TheConstants.{VALUE_MAX}
use Rattle.engine.proofs.Actives.{some_active, none_active}
use Rattle.engine.proofs.Meanings.{same_size, busy_write_is, busy_read_is}
use Rattle.record_model.specs.declared.words.Reply.TheVariants as reply
use Rattle.record_model.specs.State as model
use Rattle.txn_table.specs.Entries as entries
use Rattle.lock_table.specs.Locks as locks

-- What a command leaves and answers behind its first tests, by whether the log lacks room and by what the test of its page
-- gives.
abbrev pub way : State → Command → Bool → Option Reply → Outcome
way s command lacks filled = if lacks then record { after = s; reply = full s } else carried_through s command [] filled

-- and what it asks of the cache and the log then
abbrev pub touched : State → Command → Bool → Option Reply → List CacheOp
touched s command lacks filled =
    if not lacks && is_none filled then record_touches s command else (if not lacks && is_some filled then tested_touches command else [])

abbrev pub worked : State → Command → Bool → Option Reply → List RingOp
worked s command lacks filled =
    if not lacks && is_none filled then record_work s command else (if not lacks && is_some filled then map cached (tested_touches command) else [])

-- which is what the test of its page says
pub touched_as : (s : State) (command : Command) (filled : Option Reply) → touched s command false filled ≡ touches_by s command filled
touched_as s command None = refl
touched_as s command (Some reply) = refl

pub worked_as : (s : State) (command : Command) (filled : Option Reply) → worked s command false filled ≡ work_by s command filled
worked_as s command None = refl
worked_as s command (Some reply) = refl

-- and what it asks with its checkpoint, by its refusal
abbrev passes_both : State → Command → Option Reply → Bool
passes_both s command o = is_none o && not (lacks_room (ready s command) command)

abbrev all_touches : State → Command → Option Reply → List CacheOp
all_touches s command o =
    (if asks_for_checkpoint s command && is_none o then flush ∷ [] else [])
    ++ (if passes_both s command o && is_none (fills_page (ready s command) command) then record_touches s command
    else (if passes_both s command o && is_some (fills_page (ready s command) command) then tested_touches command else []))

abbrev all_work : State → Command → Option Reply → List RingOp
all_work s command o =
    (if asks_for_checkpoint s command && is_none o then saves else [])
    ++ (if passes_both s command o && is_none (fills_page (ready s command) command) then record_work s command
    else (if passes_both s command o && is_some (fills_page (ready s command) command) then map cached (tested_touches command) else []))

-- a test refuses it
pub refused : (s : State) (command : Command) (r : Reply) → refusal s command ≡ Some r → IsRefusedWith s command r
refused s command r is =
    let none = and-false (asks_for_checkpoint s command) in (
      ap (outcome s command []) is,
      (ap (all_touches s command) is ∙ ap (λ (b : Bool). (if b then flush ∷ [] else []) ++ []) none, ap (all_work s command) is ∙ ap (λ (b : Bool). (if b then saves else []) ++ []) none),
    )

-- then it makes no checkpoint
pub none_made : {s : State} (command : Command) {r : Reply} → IsRefusedWith s command r → makes_checkpoint s command ≡ false
none_made {s = s} command is = by (makes_checkpoint s command) is.1.1
  where
    by : (b : Bool) → (if b then saves else []) ++ page_work s command ≡ [] → b ≡ false
    by true none = absurd cc
    by false none = refl

-- No test refuses it, and a checkpoint comes first where it asks for one.
module _ (s : State) (command : Command) {asks : Bool} (known : asks ≡ asks_for_checkpoint s command) (passes : refusal s command ≡ None) where
  pub made_as_asked : asks ≡ makes_checkpoint s command
  made_as_asked = known ∙ sym (ap (λ (o : Option Reply). asks_for_checkpoint s command && is_none o) passes ∙ and-true (asks_for_checkpoint s command))

  pub step_behind : run s command ≡ way (checkpointed_if asks s) command (lacks_room (checkpointed_if asks s) command) (fills_page (checkpointed_if asks s) command)
  step_behind = ap (outcome s command []) passes ∙ ap (λ (b : Bool). way (checkpointed_if b s) command (lacks_room (checkpointed_if b s) command) (fills_page (checkpointed_if b s) command)) (sym known)

  pub touches_behind : command_touches s command ≡ (if asks then flush ∷ [] else []) ++ touched s command (lacks_room (checkpointed_if asks s) command) (fills_page (checkpointed_if asks s) command)
  touches_behind =
      ap (all_touches s command) passes
      ∙ ap (λ (b : Bool). (if b then flush ∷ [] else []) ++ touched s command (lacks_room (ready s command) command) (fills_page (ready s command) command)) (and-true (asks_for_checkpoint s command))
      ∙ ap (λ (b : Bool). (if b then flush ∷ [] else []) ++ touched s command (lacks_room (checkpointed_if b s) command) (fills_page (checkpointed_if b s) command)) (sym known)

  pub work_behind : command_work s command ≡ (if asks then saves else []) ++ worked s command (lacks_room (checkpointed_if asks s) command) (fills_page (checkpointed_if asks s) command)
  work_behind =
      ap (all_work s command) passes
      ∙ ap (λ (b : Bool). (if b then saves else []) ++ worked s command (lacks_room (ready s command) command) (fills_page (ready s command) command)) (and-true (asks_for_checkpoint s command))
      ∙ ap (λ (b : Bool). (if b then saves else []) ++ worked s command (lacks_room (checkpointed_if b s) command) (fills_page (checkpointed_if b s) command)) (sym known)

-- where it asks for none
pub no_room : (s : State) (command : Command) → asks_for_checkpoint s command ≡ false → refusal s command ≡ None → lacks_room s command ≡ true → IsRefusedWith s command (full s)
no_room s command plain none lacks =
    let o = fills_page s command in (
      step_behind s command (sym plain) none ∙ ap (λ (b : Bool). way s command b o) lacks,
      (touches_behind s command (sym plain) none ∙ ap (λ (b : Bool). touched s command b o) lacks, work_behind s command (sym plain) none ∙ ap (λ (b : Bool). worked s command b o) lacks),
    )

pub carried_out : (s : State) (command : Command) → asks_for_checkpoint s command ≡ false → refusal s command ≡ None → lacks_room s command ≡ false → fills_page s command ≡ None → IsCarriedOut s command
carried_out s command plain none has fits = (
  step_behind s command (sym plain) none ∙ (λ i. way s command (has i) (fits i)),
  (touches_behind s command (sym plain) none ∙ (λ i. touched s command (has i) (fits i)), work_behind s command (sym plain) none ∙ (λ i. worked s command (has i) (fits i))),
)

-- the test of its page decides
pub tested_last : (s : State) (command : Command) → asks_for_checkpoint s command ≡ false → refusal s command ≡ None → lacks_room s command ≡ false → IsTested s command
tested_last s command plain none has = (
  step_behind s command (sym plain) none ∙ ap (λ (b : Bool). way s command b (fills_page s command)) has,
  (
    touches_behind s command (sym plain) none ∙ ap (λ (b : Bool). touched s command b (fills_page s command)) has ∙ touched_as s command (fills_page s command),
    work_behind s command (sym plain) none ∙ ap (λ (b : Bool). worked s command b (fills_page s command)) has ∙ worked_as s command (fills_page s command),
  ),
)

pub due_is : (engine : Engine) (site : Site) (s : State) → Matches engine site s → nat_le (engine.cap / 2) engine.store.made ≡ is_due s
due_is engine site s fits =
    let used_is : engine.store.made ≡ used s = omega (arith, fits.counts.made) in
    λ i. nat_le (fits.counts.cap i / 2) (used_is i)

-- What is owed.

abbrev owed_by : Option Session → ℕ
owed_by o = option_map_or (λ (session : Session). length session.writes + 1) o 0

total : List (Option Session) → ℕ
total [] = 0
total (o ∷ rest) = owed_by o + total rest

total_is : (xs : List (Option Session)) → sum_by (λ (session : Session). length session.writes + 1) (filter_map (λ session. session) xs) ≡ total xs
unfolding total
total_is [] = refl
total_is (None ∷ rest) = total_is rest ∙ sym (zero-add (total rest))
total_is (Some session ∷ rest) = sum_by-cons (λ (x : Session). length x.writes + 1) session (filter_map (λ x. x) rest) ∙ ap (λ (n : ℕ). length session.writes + 1 + n) (total_is rest)

each_owes : (newest : Option Master) (kept : ℕ) (records : List Entry) (a : Option Active) (o : Option Session) → SessionIs newest kept records a o → option_map_or owed_one a 0 ≡ owed_by o
each_owes newest kept records None None is = refl
each_owes newest kept records None (Some session) is = absurd is
each_owes newest kept records (Some entry) None is = absurd is
each_owes newest kept records (Some entry) (Some session) is = ap (λ (n : ℕ). n + 1) is.count

-- the sums of eight
of_eight : (xs : List (Option Session)) (f : ℕ → ℕ) → length xs ≡ 8 → ((n : ℕ) → f n ≡ owed_by (slice_index_or xs n None)) → sum_by f (range_with_len 0 8) ≡ total xs
unfolding total
of_eight (a ∷ b ∷ c ∷ d ∷ e ∷ x ∷ y ∷ z ∷ []) f is says = omega (arith, says 0, says 1, says 2, says 3, says 4, says 5, says 6, says 7)
of_eight _ f is says = absurd (omega (arith, is))

pub owed_same : (engine : Engine) (site : Site) (s : State) → Matches engine site s → IsTable engine.active → entries.owed engine.active ≡ model.owed s
owed_same engine site s fits table =
    owed_is engine.active table
    ∙ of_eight s.sessions (owed_at engine.active) fits.sessions.count (λ n. each_owes fits.newest s.kept fits.records (entry_of engine.active n) (session_at s n) (fits.sessions.each n))
    ∙ sym (total_is s.sessions)

-- the reply where there is no room
pub full_is : {engine : Engine} {site : Site} {s : State} (more : ℕ) (r : Reply) → Matches engine site s → IsTable engine.active → IsFull engine more r → (r ≡ full s) × (nat_lt s.cap (used s + model.owed s + more) ≡ true)
full_is {engine = engine} {site = site} {s = s} more r fits table is =
    let owed = owed_same engine site s fits table in
    let cap = fits.counts.cap in
    let used_is : engine.store.made ≡ used s = omega (arith, fits.counts.made) in
    (is.full_is ∙ (λ i. reply.Full (used_is i) (owed i) (cap i)), lt-ltb s.cap (used s + model.owed s + more) (omega (arith, is.no_room, owed, used_is, cap)))

pub full_refused : {engine : Engine} {site : Site} {s : State} (command : Command) (more : ℕ) {r : Reply} → Matches engine site s → IsTable engine.active →
    IsFull engine more r → asks_for_checkpoint s command ≡ false →
    lacks_room s command ≡ nat_lt s.cap (used s + model.owed s + more) → refusal s command ≡ None → IsRefusedWith s command r
full_refused {s = s} command more fits table is plain lacks none =
    let both = full_is more _ fits table is in
    let r = no_room s command plain none (lacks ∙ both.1) in
    (r.0 ∙ ap (λ (x : Reply). let o : Outcome = record { after = s; reply = x } in o) (sym both.0), r.1)

pub has_room : {engine : Engine} {site : Site} {s : State} (more : ℕ) → Matches engine site s → IsTable engine.active → engine.store.made + entries.owed engine.active + more ≤ engine.cap → nat_lt s.cap (used s + model.owed s + more) ≡ false
has_room {engine = engine} {site = site} {s = s} more fits table room =
    le-ltb s.cap (used s + model.owed s + more) (omega (arith, room, owed_same engine site s fits table, fits.counts.made, fits.counts.cap))

-- Tests that are passed, and that aren't.

pub wants_active_is : (s : State) (n : ℕ) (session : Session) → session_at s n ≡ Some session → wants_active s n ≡ None
wants_active_is s n session is = λ i. refuse_if (is_none (is i)) (reply.Refused BadSession)

pub has_record : {engine : Engine} {site : Site} {s : State} (number : ℕ) → Matches engine site s → number < 32 * (sizes_of engine.store).pages → wants_record s number ≡ None
has_record {engine = engine} {site = site} {s = s} number fits less =
    let below : nat_le (length s.table) number ≡ false = lt-leb (length s.table) number (omega (arith, less, same_size engine site s fits)) in
    λ i. refuse_if (below i) (reply.Refused NoRecord)

pub lacks_record : {engine : Engine} {site : Site} {s : State} (number : ℕ) → Matches engine site s → 32 * (sizes_of engine.store).pages ≤ number → wants_record s number ≡ Some (reply.Refused NoRecord)
lacks_record {engine = engine} {site = site} {s = s} number fits more =
    let from : nat_le (length s.table) number ≡ true = le-leb (length s.table) number (omega (arith, more, same_size engine site s fits)) in
    λ i. refuse_if (from i) (reply.Refused NoRecord)

pub is_short : (value : List ℕ) → length value ≤ VALUE_MAX → wants_short value ≡ None
is_short value short = let same : nat_lt VALUE_MAX (length value) ≡ false = le-ltb VALUE_MAX (length value) short in λ i. refuse_if (same i) (reply.Refused TooLong)

pub is_long : (value : List ℕ) → VALUE_MAX < length value → wants_short value ≡ Some (reply.Refused TooLong)
is_long value long = let same : nat_lt VALUE_MAX (length value) ≡ true = lt-ltb VALUE_MAX (length value) long in λ i. refuse_if (same i) (reply.Refused TooLong)

-- the entry that is there
pub record Has (o : Option Active) : Type 0 where
  pub own : Active
  pub is : o ≡ Some own

pub has : (o : Option Active) → IsSome o → Has o
has (Some own) some = record { own = own; is = refl }
has None some = absurd (true≢false (sym some))

pub is_active : {engine : Engine} {site : Site} {s : State} (n : ℕ) → Matches engine site s → IsSome (entry_of engine.active n) → wants_active s n ≡ None
is_active {engine = engine} {s = s} n fits some =
    let own = has (entry_of engine.active n) some in
    let session = some_active fits.newest fits.records engine.active s fits.sessions n own.own own.is in
    wants_active_is s n session.session session.is

-- a session that isn't active
pub idle_session : {engine : Engine} {site : Site} {s : State} (n : ℕ) → Matches engine site s → entry_of engine.active n ≡ None →
    wants_active s n ≡ Some (reply.Refused BadSession)
idle_session {engine = engine} {s = s} n fits none =
    let idle : session_at s n ≡ None = none_active fits.newest fits.records engine.active s fits.sessions n none in
    λ i. refuse_if (is_none (idle i)) (reply.Refused BadSession)

pub refused_session : (engine : Engine) (site : Site) (s : State) (command : Command) (n : ℕ) → Matches engine site s → entry_of engine.active n ≡ None → refusal s command ≡ wants_active s n →
    IsRefusedWith s command (reply.Refused BadSession)
refused_session engine site s command n fits none test = refused s command (reply.Refused BadSession) (test ∙ idle_session n fits none)

-- whether another session has the record, as the locks say it
pub may_write_is : {engine : Engine} {site : Site} {s : State} (own : Option ℕ) (number : ℕ) {r o : Option Reply} → Matches engine site s →
    r ≡ option_map reply.Busy (locks.busy_write engine.locks own number) → r ≡ o → may_write s own number ≡ o
may_write_is {engine = engine} {s = s} own number fits says is = ap (option_map reply.Busy) (sym (busy_write_is engine.locks s fits.locks_are own number))
    ∙ sym says ∙ is

pub may_read_is : {engine : Engine} {site : Site} {s : State} (own : Option ℕ) (number : ℕ) {r o : Option Reply} → Matches engine site s →
    r ≡ option_map reply.Busy (locks.busy_read engine.locks own number) → r ≡ o → may_read s own number ≡ o
may_read_is {engine = engine} {s = s} own number fits says is = ap (option_map reply.Busy) (sym (busy_read_is engine.locks s fits.locks_are own number)) ∙ sym
    says ∙ is
