-- What a session has been answered can be had again, alone, on each table that is the same where the session has read or written.
use Rattle.std.proofs.lemmas.Grind.{common_steps}
use Rattle.record_model.proofs.Citing.{◌≡◌, ℕ, ◌+◌, ◌*◌, ◌-◌, ◌<◌, ◌≤◌, Bool, true, false, List, [], ◌∷◌, ◌++◌, length, length-append, Option, Some, None, refl, ap, sym, ◌∙◌, arith, or_left, or_right, list_any-append, list_any, range_with_len, ◌==◌, ◌||◌, filter_map, nat_le, nat_lt, option_map, unwrap_or, Line, Turn, line_step, turn, turns, replies, left_by, listings_after, is_quit, lines_of, opened_alone, Content, Session, State, content_at, last_write, writes_of, seen, Outcome, step, refuse_if, wants_record, wants_short, wants_standing, answer, found, item, having_read, having_written, having_marked, going_back, dropped, Command, Begin, Read, Write, Erase, Scan, Mark, Back, Reply, NoRecord, BadMark, each_member}
use Rattle.record_model.proofs.RunLaws.{turns-append}
use Rattle.record_model.proofs.SerialLists.{same_is, filter_map_same}
use Rattle.record_model.proofs.SerialLocks.{place, wrote, touched}
use Rattle.record_model.proofs.SerialWhole.{StartsWithBegin, starts_still}
use Rattle.record_model.proofs.SerialAlone.{view, alone, here, read_alone, scan_alone, write_alone, erase_alone, mark_alone, back_alone, begin_alone}
use Rattle.record_model.specs.declared.words.Reply.TheVariants as reply
use Rattle.record_model.specs.State as state

-- One line more.

no_listings : (lines : List Line) → listings_after lines [] ≡ []
no_listings [] = refl
no_listings (line ∷ lines) = grind (arith, (no_listings lines))

pub one_turn : (s : State) (line : Line) → turns s (line ∷ []) [] ≡ turn s line [] ∷ []
one_turn s line = grind arith

pub one_line_more : (s : State) (lines : List Line) (line : Line) → list_any is_quit lines ≡ false →
    turns s (lines ++ line ∷ []) [] ≡ turns s lines [] ++ turn (left_by s (turns s lines [])) line [] ∷ []
one_line_more s lines line h = grind (arith, turns-append, no_listings, one_turn)

pub replies_append : (xs ys : List Turn) → replies (xs ++ ys) ≡ replies xs ++ replies ys
replies_append [] ys = refl
replies_append (x ∷ xs) ys = ap (λ (l : List Reply). x.reply ∷ l) (replies_append xs ys)

pub lines_append : (xs ys : List Turn) → lines_of (xs ++ ys) ≡ lines_of xs ++ lines_of ys
lines_append [] ys = refl
lines_append (x ∷ xs) ys = ap (λ (l : List Line). x.line ∷ l) (lines_append xs ys)

left_last : (s : State) (xs : List Turn) (t : Turn) → left_by s (xs ++ t ∷ []) ≡ t.after
left_last s [] t = refl
left_last s (x ∷ xs) t = left_last x.after xs t

-- Runs that give the same again.

abbrev pub Agrees : List Content → List Content → Session → Type 0
Agrees table other session = (r : ℕ) → touched (Some session) r ≡ true → content_at other r ≡ content_at table r

abbrev pub RunsTo : List Content → ℕ → ℕ → ℕ → List Turn → ℕ → Session → Type 0
RunsTo other commits cap n own made session =
    (replies (turns (opened_alone other commits cap) (lines_of own) []) ≡ replies own)
    × (left_by (opened_alone other commits cap) (turns (opened_alone other commits cap) (lines_of own) []) ≡ alone other commits cap n made session)

-- each command makes at most one log record more, and lets at most one more be owed
pub record Replays (n : ℕ) (own : List Turn) (table : List Content) (session : Session) : Type 0 where
  pub known : n < 8
  pub quits : list_any is_quit (lines_of own) ≡ false
  pub begins : StartsWithBegin n own
  pub made : ℕ
  pub few : made + length session.writes + 1 ≤ 2 * length own
  pub again : (other : List Content) (commits cap : ℕ) → length other ≡ length table → Agrees table other session → 4 * length own ≤ cap →
      RunsTo other commits cap n own made session

abbrev pub Standing : ℕ → List Turn → List Content → Option Session → Type 0
Standing n own table None = Unit {0}
Standing n own table (Some session) = Replays n own table session

-- the answer of one more line, where the lines before it ran alone
pub reply_more : (s after : State) (own : List Turn) (t : Turn) → list_any is_quit (lines_of own) ≡ false →
    replies (turns s (lines_of own) []) ≡ replies own → left_by s (turns s (lines_of own) []) ≡ after →
    (line_step after t.line []).reply ≡ t.reply →
    replies (turns s (lines_of (own ++ t ∷ [])) []) ≡ replies (own ++ t ∷ [])
reply_more s after own t quits same left last = grind (arith, lines_append, one_line_more, replies_append)

pub state_more : (s after : State) (own : List Turn) (t : Turn) → list_any is_quit (lines_of own) ≡ false →
    left_by s (turns s (lines_of own) []) ≡ after →
    left_by s (turns s (lines_of (own ++ t ∷ [])) []) ≡ (line_step after t.line []).after
state_more s after own t quits left = grind (arith, lines_append, one_line_more, left_last)

one_more : (n : ℕ) (own : List Turn) (table : List Content) (session : Session) (t : Turn) (command : Command) (made' : ℕ) (session' : Session) →
    t.line ≡ Some command → is_quit (Some command) ≡ false → (replays : Replays n own table session) →
    ((r : ℕ) → touched (Some session) r ≡ true → touched (Some session') r ≡ true) →
    made' + length session'.writes ≤ replays.made + length session.writes + 2 →
    ((other : List Content) (commits cap : ℕ) → length other ≡ length table → Agrees table other session' → replays.made + length session.writes + 3 ≤ cap →
    step (alone other commits cap n replays.made session) command [] ≡ record { after = alone other commits cap n made' session'; reply = t.reply }) →
    Replays n (own ++ t ∷ []) table session'
one_more n own table session t command made' session' line goes replays more few answers = record {
  known = replays.known;
  quits = ap (list_any is_quit) (lines_append own (t ∷ [])) ∙ list_any-append is_quit (lines_of own) (t.line ∷ []) ∙ ap (λ (b : Bool). b || (is_quit t.line || false)) replays.quits ∙ ap (λ (l : Line). is_quit l || false) line ∙ ap (λ (b : Bool). b || false) goes;
  begins = starts_still n own t replays.begins;
  made = made';
  few = let now = replays.few in omega (arith, now, length-append own (t ∷ []), few);
  again = λ other commits cap sizes agrees room.
      let now = replays.few in
      let before = replays.again other commits cap sizes (λ r e. agrees r (more r e)) (omega (arith, length-append own (t ∷ []), room)) in
      let last = ap (λ (l : Line). line_step (alone other commits cap n replays.made session) l []) line ∙ answers other commits cap sizes agrees (omega (arith, length-append own (t ∷ []), room, now)) in (
        reply_more (opened_alone other commits cap) (alone other commits cap n replays.made session) own t replays.quits before.0 before.1 (ap (λ (o : Outcome). o.reply) last),
        state_more (opened_alone other commits cap) (alone other commits cap n replays.made session) own t replays.quits before.1 ∙ ap (λ (o : Outcome). o.after) last,
      );
}

-- A command of the session's own.

touches_more : (session : Session) (numbers : List ℕ) (r : ℕ) → touched (Some session) r ≡ true → touched (Some (having_read numbers session)) r ≡ true
touches_more session numbers r h = grind (arith, common_steps)

touches_new : (session : Session) (numbers : List ℕ) (r : ℕ) → list_any (λ read. read == r) numbers ≡ true → touched (Some (having_read numbers session)) r ≡ true
touches_new session numbers r h = or_right (wrote (Some session) r) _ (list_any-append (λ read. read == r) session.reads numbers ∙ or_right (list_any (λ read. read == r) session.reads) _ h)

touches_write : (session : Session) (write : state.Write) (r : ℕ) → touched (Some session) r ≡ true → touched (Some (having_written write session)) r ≡ true
touches_write session write r h = grind (arith, common_steps)

-- what is dropped and what is left are all the writes
both_parts : (standing : Option ℕ) (session : Session) → length (dropped standing (Some session)) + length (going_back standing session).writes ≡ length session.writes
both_parts standing session = grind (arith, common_steps)

same_stand : (standing : Option ℕ) (s s' : State) (n : ℕ) → writes_of (place s'.sessions n) ≡ writes_of (place s.sessions n) → wants_standing s n standing ≡ None → wants_standing s' n standing ≡ None
same_stand None s s' n e h = refl
same_stand (Some standing) s s' n e h = ap (λ (writes : List state.Write). refuse_if (nat_lt (length writes) standing) (reply.Refused BadMark)) e ∙ h

module _ (s : State) (n : ℕ) (own : List Turn) (session : Session) (t : Turn) (active : place s.sessions n ≡ Some session) (replays : Replays n own s.table session) where
  has_record : (number : ℕ) (other : List Content) (commits cap : ℕ) → length other ≡ length s.table → wants_record s number ≡ None →
      wants_record (alone other commits cap n replays.made session) number ≡ None
  has_record number other commits cap sizes h = ap (λ (k : ℕ). refuse_if (nat_le k number) (reply.Refused NoRecord)) sizes ∙ h

  views : (number : ℕ) → seen s n number ≡ view s.table session.writes number
  views number = ap (λ (o : Option Session). unwrap_or (last_write (writes_of o) number) (content_at s.table number)) active

  pub read_more : (number : ℕ) → t.line ≡ Some (Read n number) → t.reply ≡ found (seen s n number) → wants_record s number ≡ None →
      Replays n (own ++ t ∷ []) s.table (having_read (number ∷ []) session)
  read_more number line answer h = one_more n own s.table session t (Read n number) replays.made (having_read (number ∷ []) session) line refl replays
      (λ r e. touches_more session (number ∷ []) r e)
      (omega arith)
      (λ other commits cap sizes agrees room.
      read_alone other commits cap n replays.made session replays.known number (has_record number other commits cap sizes h)
      ∙ ap (λ (r : Reply). record { after = alone other commits cap n replays.made (having_read (number ∷ []) session); reply = r })
      (ap found (ap (unwrap_or (last_write session.writes number)) (agrees number (touches_new session (number ∷ []) number (or_left _ _ (same_is number)))) ∙ sym (views number)) ∙ sym answer))

  pub scan_more : (number count : ℕ) → t.line ≡ Some (Scan n number count) → t.reply ≡ reply.Items (filter_map (item (seen s n)) (range_with_len number count)) → wants_record s (number + count - 1) ≡ None →
      Replays n (own ++ t ∷ []) s.table (having_read (range_with_len number count) session)
  scan_more number count line answer h = one_more n own s.table session t (Scan n number count) replays.made (having_read (range_with_len number count) session) line refl replays
      (λ r e. touches_more session (range_with_len number count) r e)
      (omega arith)
      (λ other commits cap sizes agrees room.
      scan_alone other commits cap n replays.made session replays.known number count (has_record (number + count - 1) other commits cap sizes h)
      ∙ ap (λ (r : Reply). record { after = alone other commits cap n replays.made (having_read (range_with_len number count) session); reply = r })
      (ap reply.Items (filter_map_same (item (view other session.writes)) (item (seen s n)) (range_with_len number count)
      (each_member (λ q. item (view other session.writes) q ≡ item (seen s n) q) (range_with_len number count)
      (λ q e. ap (option_map (λ value. record { number = q; value = value })) (ap (unwrap_or (last_write session.writes q)) (agrees q (touches_new session (range_with_len number count) q e)) ∙ sym (views q)))))
      ∙ sym answer))

  pub write_more : (number : ℕ) (value : List ℕ) → t.line ≡ Some (Write n number value) → t.reply ≡ reply.Done → wants_record s number ≡ None → wants_short value ≡ None →
      Replays n (own ++ t ∷ []) s.table (having_written (number, Some value) session)
  write_more number value line answer h short = one_more n own s.table session t (Write n number value) (replays.made + 1) (having_written (number, Some value) session) line refl replays
      (λ r e. touches_write session (number, Some value) r e)
      (omega (arith, length-append session.writes ((number, Some value) ∷ [])))
      (λ other commits cap sizes agrees room.
      write_alone other commits cap n replays.made session replays.known number value (has_record number other commits cap sizes h) short room
      ∙ ap (λ (r : Reply). record { after = alone other commits cap n (replays.made + 1) (having_written (number, Some value) session); reply = r }) (sym answer))

  pub erase_more : (number : ℕ) → t.line ≡ Some (Erase n number) → t.reply ≡ reply.Done → wants_record s number ≡ None →
      Replays n (own ++ t ∷ []) s.table (having_written (number, None) session)
  erase_more number line answer h = one_more n own s.table session t (Erase n number) (replays.made + 1) (having_written (number, None) session) line refl replays
      (λ r e. touches_write session (number, None) r e)
      (omega (arith, length-append session.writes ((number, None) ∷ [])))
      (λ other commits cap sizes agrees room.
      erase_alone other commits cap n replays.made session replays.known number (has_record number other commits cap sizes h) room
      ∙ ap (λ (r : Reply). record { after = alone other commits cap n (replays.made + 1) (having_written (number, None) session); reply = r }) (sym answer))

  pub mark_more : t.line ≡ Some (Mark n) → t.reply ≡ reply.Done → Replays n (own ++ t ∷ []) s.table (having_marked session)
  mark_more line answer = one_more n own s.table session t (Mark n) replays.made (having_marked session) line refl replays
      (λ r e. e) (omega arith)
      (λ other commits cap sizes agrees room.
      mark_alone other commits cap n replays.made session replays.known
      ∙ ap (λ (r : Reply). record { after = alone other commits cap n replays.made (having_marked session); reply = r }) (sym answer))

  pub back_more : (standing : Option ℕ) → t.line ≡ Some (Back n standing) → t.reply ≡ reply.Back (length (dropped standing (place s.sessions n))) → wants_standing s n standing ≡ None →
      Replays n (own ++ t ∷ []) s.table (going_back standing session)
  back_more standing line answer h = one_more n own s.table session t (Back n standing) (replays.made + length (dropped standing (Some session))) (going_back standing session) line refl replays
      (λ r e. e) (omega (arith, both_parts standing session))
      (λ other commits cap sizes agrees room.
      back_alone other commits cap n replays.made session replays.known standing
      (same_stand standing s (alone other commits cap n replays.made session) n (ap writes_of (here other commits cap n replays.made session replays.known) ∙ ap writes_of (sym active)) h)
      ∙ ap (λ (r : Reply). record { after = alone other commits cap n (replays.made + length (dropped standing (Some session))) (going_back standing session); reply = r })
      (ap (λ (o : Option Session). reply.Back (length (dropped standing o))) (sym active) ∙ sym answer))

pub begin_first : (n born : ℕ) (table : List Content) (t : Turn) → t.line ≡ Some (Begin n) → t.reply ≡ reply.Done → nat_le 8 n ≡ false →
    Replays n (t ∷ []) table (record { born = born; writes = []; mark = 0; wrote = []; reads = [] })
begin_first n born table t line answer known = record {
  known = grind (arith, common_steps);
  quits = ap (λ (l : Line). is_quit l || false) line;
  begins = line;
  made = 1;
  few = omega arith;
  again = λ other commits cap sizes agrees room.
      let last = ap (λ (l : Line). line_step (opened_alone other commits cap) l []) line ∙ begin_alone other commits cap n born known (omega (arith, room)) in (
        reply_more (opened_alone other commits cap) (opened_alone other commits cap) [] t refl refl refl (ap (λ (o : Outcome). o.reply) last ∙ sym answer),
        state_more (opened_alone other commits cap) (opened_alone other commits cap) [] t refl refl ∙ ap (λ (o : Outcome). o.after) last,
      );
}
