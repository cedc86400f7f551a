-- A session that runs alone.
use Rattle.std.proofs.lemmas.Grind.{common_steps}
use Rattle.record_model.proofs.Citing.{◌≡◌, ℕ, ◌+◌, ◌-◌, ◌<◌, ◌≤◌, Bool, true, false, List, [], ◌∷◌, length, Option, Some, None, refl, ap, ◌∙◌, arith, nat_tests, range_with_len, ◌&&◌, filter_map, nat_lt, nat_le, slice_set, map, option_map, unwrap_or, is_none, sum_by, opened_alone, Content, Session, State, content_at, table_with, last_write, writes_of, seen, is_other, used, owed, Outcome, step, refusal, refuse_if, wants_active, wants_record, wants_short, wants_standing, may_read, may_write, asks_for_checkpoint, ready, lacks_room, fills_page, making, with_session, effect, answer, found, item, having_read, having_written, having_marked, going_back, dropped, CacheLine, Command, Begin, Read, Write, Erase, Scan, Commit, Set, Mark, Back, Reply, BadSession, each_member}
use Rattle.record_model.proofs.SerialLists.{set_set, no_values, only_one, passes_none, map_of_each, filter_map_same}
use Rattle.record_model.proofs.SerialLocks.{place, wrote, touched, set_here, pass_all}
use Rattle.record_model.specs.declared.words.Reply.TheVariants as reply
use Rattle.record_model.specs.State as state

-- what a session of these writes sees at a record of the table
abbrev pub view : List Content → List state.Write → ℕ → Content
view table writes number = unwrap_or (last_write writes number) (content_at table number)

-- the session as it is where it is the only active one, and its state when so many log records were made
abbrev pub lone : Session → Session
lone session = record session { born = 0 }

abbrev pub alone : List Content → ℕ → ℕ → ℕ → ℕ → Session → State
alone table commits cap n made session = record {
  table = table;
  commits = commits;
  sessions = slice_set (no_values Session 8) n (Some (lone session));
  made = made;
  kept = 0;
  cap = cap;
  pages_fill = false;
}

-- What a command does where its tests let it through.

carried : State → Command → List CacheLine → Outcome
carried s command listing = record { after = effect s command; reply = answer s command listing }

pub step_through : (s : State) (command : Command) (listing : List CacheLine) → refusal s command ≡ None →
    lacks_room (ready s command) command ≡ false → fills_page (ready s command) command ≡ None →
    step s command listing ≡ record { after = effect (ready s command) command; reply = answer (ready s command) command listing }
step_through s command listing h room page = rw h (rw room (rw page refl))

step_plain : (s : State) (command : Command) (listing : List CacheLine) → refusal s command ≡ None →
    asks_for_checkpoint s command ≡ false → lacks_room s command ≡ false → fills_page s command ≡ None →
    step s command listing ≡ carried s command listing
unfolding carried
step_plain s command listing h asks room page = grind (arith, common_steps)

fits : (cap n : ℕ) → n ≤ cap → nat_lt cap n ≡ false
fits cap n h = grind (arith, nat_tests)

-- Nobody keeps it off.

module _ (table : List Content) (commits cap n made : ℕ) (session : Session) (known : n < 8) where
  pub here : place (alone table commits cap n made session).sessions n ≡ Some (lone session)
  here = set_here (no_values Session 8) n (Some (lone session)) n refl known

  no_other : (test : Option Session → Bool) → test None ≡ false → (m : ℕ) → (is_other (Some n) m && test (place (alone table commits cap n made session).sessions m)) ≡ false
  no_other test none m = grind (arith, common_steps)

  free_read : (number : ℕ) → may_read (alone table commits cap n made session) (Some n) number ≡ None
  free_read number = ap (option_map reply.Busy) (passes_none _ (range_with_len 0 8) (no_other (λ o. wrote o number) refl))

  free_write : (number : ℕ) → may_write (alone table commits cap n made session) (Some n) number ≡ None
  free_write number = ap (option_map reply.Busy) (passes_none _ (range_with_len 0 8) (no_other (λ o. touched o number) refl))

  active : wants_active (alone table commits cap n made session) n ≡ None
  active = ap (λ (o : Option Session). refuse_if (is_none o) (reply.Refused BadSession)) here

  sees : (number : ℕ) → seen (alone table commits cap n made session) n number ≡ view table session.writes number
  sees number = ap (λ (o : Option Session). unwrap_or (last_write (writes_of o) number) (content_at table number)) here

  owes : owed (alone table commits cap n made session) ≡ length session.writes + 1
  owes = ap (sum_by (λ (session : Session). length session.writes + 1)) (only_one Session 8 n (lone session) known) ∙ omega arith

  has_room : made + length session.writes + 3 ≤ cap → nat_lt cap (used (alone table commits cap n made session) + owed (alone table commits cap n made session) + 2) ≡ false
  has_room room = fits cap _ (omega (arith, owes, room))

  -- its session in a new state, that doesn't ask when it was born
  renewed : (f : Session → Session) → f (lone session) ≡ lone (f session) →
      with_session (alone table commits cap n made session) n (option_map f (place (alone table commits cap n made session).sessions n))
      ≡ alone table commits cap n made (f session)
  renewed f same =
      ap (λ (sessions : List (Option Session)). record (alone table commits cap n made session) { sessions = sessions })
      (ap (λ (o : Option Session). slice_set (alone table commits cap n made session).sessions n (option_map f o)) here
      ∙ set_set (no_values Session 8) n (Some (lone session)) (Some (f (lone session)))
      ∙ ap (λ (now : Session). slice_set (no_values Session 8) n (Some now)) same)

-- Each command of a session that runs alone. It answers by its table and its own writes.

answered : Reply → State → Outcome
answered answer after = record { after = after; reply = answer }

module _ (table : List Content) (commits cap n made : ℕ) (session : Session) (known : n < 8) where
  pub read_alone : (number : ℕ) → wants_record (alone table commits cap n made session) number ≡ None →
      step (alone table commits cap n made session) (Read n number) []
      ≡ record { after = alone table commits cap n made (having_read (number ∷ []) session); reply = found (view table session.writes number) }
  unfolding carried answered
  read_alone number small =
      let s = alone table commits cap n made session in
      step_plain s (Read n number) []
      (pass_all (wants_active s n ∷ wants_record s number ∷ may_read s (Some n) number ∷ [])
      (active table commits cap n made session known, (small, (free_read table commits cap n made session known number, tt))))
      refl refl refl
      ∙ ap (λ content. answered (found content) (effect s (Read n number))) (sees table commits cap n made session known number)
      ∙ ap (answered (found (view table session.writes number))) (renewed table commits cap n made session known (having_read (number ∷ [])) refl)

  pub scan_alone : (number count : ℕ) → wants_record (alone table commits cap n made session) (number + count - 1) ≡ None →
      step (alone table commits cap n made session) (Scan n number count) []
      ≡ record { after = alone table commits cap n made (having_read (range_with_len number count) session); reply = reply.Items (filter_map (item (view table session.writes)) (range_with_len number count)) }
  unfolding carried answered
  scan_alone number count small =
      let s = alone table commits cap n made session in
      let numbers = range_with_len number count in
      step_plain s (Scan n number count) []
      (pass_all (wants_active s n ∷ wants_record s (number + count - 1) ∷ map (may_read s (Some n)) numbers)
      (active table commits cap n made session known, (small, map_of_each (may_read s (Some n)) (λ a. a ≡ None) numbers (each_member (λ q. may_read s (Some n) q ≡ None) numbers (λ q e. free_read table commits cap n made session known q)))))
      refl refl refl
      ∙ ap (λ items. answered (reply.Items items) (effect s (Scan n number count)))
      (filter_map_same (item (seen s n)) (item (view table session.writes)) numbers (each_member (λ q. item (seen s n) q ≡ item (view table session.writes) q) numbers (λ q e. ap (option_map (λ value. record { number = q; value = value })) (sees table commits cap n made session known q))))
      ∙ ap (answered (reply.Items (filter_map (item (view table session.writes)) numbers))) (renewed table commits cap n made session known (having_read numbers) refl)

  pub write_alone : (number : ℕ) (value : List ℕ) → wants_record (alone table commits cap n made session) number ≡ None → wants_short value ≡ None → made + length session.writes + 3 ≤ cap →
      step (alone table commits cap n made session) (Write n number value) []
      ≡ record { after = alone table commits cap n (made + 1) (having_written (number, Some value) session); reply = reply.Done }
  unfolding carried answered
  write_alone number value small short room =
      let s = alone table commits cap n made session in
      step_plain s (Write n number value) []
      (pass_all (wants_active s n ∷ wants_record s number ∷ wants_short value ∷ may_write s (Some n) number ∷ [])
      (active table commits cap n made session known, (small, (short, (free_write table commits cap n made session known number, tt)))))
      refl (has_room table commits cap n made session known room) refl
      ∙ ap (λ after. answered reply.Done (making 1 after)) (renewed table commits cap n made session known (having_written (number, Some value)) refl)

  pub erase_alone : (number : ℕ) → wants_record (alone table commits cap n made session) number ≡ None → made + length session.writes + 3 ≤ cap →
      step (alone table commits cap n made session) (Erase n number) []
      ≡ record { after = alone table commits cap n (made + 1) (having_written (number, None) session); reply = reply.Done }
  unfolding carried answered
  erase_alone number small room =
      let s = alone table commits cap n made session in
      step_plain s (Erase n number) []
      (pass_all (wants_active s n ∷ wants_record s number ∷ may_write s (Some n) number ∷ [])
      (active table commits cap n made session known, (small, (free_write table commits cap n made session known number, tt))))
      refl (has_room table commits cap n made session known room) refl
      ∙ ap (λ after. answered reply.Done (making 1 after)) (renewed table commits cap n made session known (having_written (number, None)) refl)

  pub mark_alone : step (alone table commits cap n made session) (Mark n) []
      ≡ record { after = alone table commits cap n made (having_marked session); reply = reply.Done }
  unfolding carried answered
  mark_alone =
      step_plain (alone table commits cap n made session) (Mark n) [] (active table commits cap n made session known) refl refl refl
      ∙ ap (answered reply.Done) (renewed table commits cap n made session known having_marked refl)

  pub back_alone : (standing : Option ℕ) → wants_standing (alone table commits cap n made session) n standing ≡ None →
      step (alone table commits cap n made session) (Back n standing) []
      ≡ record { after = alone table commits cap n (made + length (dropped standing (Some session))) (going_back standing session); reply = reply.Back (length (dropped standing (Some session))) }
  unfolding carried answered
  back_alone standing stands =
      let s = alone table commits cap n made session in
      step_plain s (Back n standing) []
      (pass_all (wants_active s n ∷ wants_standing s n standing ∷ []) (active table commits cap n made session known, (stands, tt)))
      refl refl refl
      ∙ ap (λ after. answered (reply.Back (length (dropped standing (place s.sessions n)))) (making (length (dropped standing (place s.sessions n))) after))
      (renewed table commits cap n made session known (going_back standing) refl)
      ∙ ap (λ (o : Option Session). answered (reply.Back (length (dropped standing o))) (making (length (dropped standing o)) (alone table commits cap n made (going_back standing session))))
      (here table commits cap n made session known)

  pub commit_alone :
      ((step (alone table commits cap n made session) (Commit n) []).reply ≡ reply.Committed (commits + 1))
      × ((step (alone table commits cap n made session) (Commit n) []).after.table ≡ table_with table session.writes)
  unfolding carried
  commit_alone =
      let s = alone table commits cap n made session in
      let done = step_plain s (Commit n) [] (active table commits cap n made session known) refl refl refl in (
        ap (λ (o : Outcome). o.reply) done,
        ap (λ (o : Outcome). o.after.table) done ∙ ap (λ (o : Option Session). table_with table (writes_of o)) (here table commits cap n made session known),
      )

-- Where no session is active.

pub unrefused : (b : Bool) (answer : Reply) → refuse_if b answer ≡ None → b ≡ false
unrefused true answer h = absurd cc
unrefused false answer h = refl

pub set_alone : (table : List Content) (commits cap number : ℕ) (value : List ℕ) →
    wants_record (opened_alone table commits cap) number ≡ None → wants_short value ≡ None → 4 ≤ cap →
    ((step (opened_alone table commits cap) (Set number value) []).reply ≡ reply.Committed (commits + 1))
    × ((step (opened_alone table commits cap) (Set number value) []).after.table ≡ slice_set table number (Some value))
unfolding carried
set_alone table commits cap number value small short room = grind (arith, common_steps)

pub begin_alone : (table : List Content) (commits cap n born : ℕ) → nat_le 8 n ≡ false → 4 ≤ cap →
    step (opened_alone table commits cap) (Begin n) []
    ≡ record { after = alone table commits cap n 1 (record { born = born; writes = []; mark = 0; wrote = []; reads = [] }); reply = reply.Done }
unfolding carried
begin_alone table commits cap n born known room = grind (arith, common_steps)
