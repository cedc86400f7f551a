-- Room in the page in front of the pool, as soundness has it.
use Rattle.std.proofs.lemmas.Grind.{common_steps}
use Rattle.redo_undo.proofs.Names.{History, ◌≡◌, ℕ, ◌+◌, ◌*◌, ◌/◌, ◌%◌, ◌<◌, ◌≤◌, ◌==◌, suc, cond, List, [], ◌∷◌, ◌++◌, length, Option, Some, None, refl, sym, ap, subst, ◌∙◌, arith, get_or-set_same, get_or-set_other, le-max_left, eq-eqb, ne_eqb, sum_by-cons, range_with_len, sum_by, slice_set, front_of, Master, next_is_redone, length-versions, kept_by, version_in, versions_on, AreKnown, IsRedone, Redoes, shown_push, Follows, IsUndoable, Entry, Version, log_from, number_of, after_of, shown, Fields, InTurn, redone, LogStore, front_exists, IsStore, current, PageStore, Content, content_at, length_of, page_room, front_is_current, front_shows, IsOnPage, MayGrow, Represents, IsRedoing, Opening, opened, State, content_length, lsn_of, slots_of, total_length}
use Rattle.log_records.specs.Room.{total_on, HasOpenRoom}
use Rattle.log_laws.proofs.Follow.{undoable_behind}
use Rattle.log_laws.proofs.Rooms.{room_behind}
use Rattle.log_laws.proofs.Seals.{undoable_behind_all}
use Rattle.slotted_page.proofs.Slots.{length-slots_of}
use Rattle.redo_undo.specs.Fitting.{FitsFront, HasRoomInFront}

pub fits_as : (pages : PageStore) (k n : ℕ) (a b : Content) → k ≡ n → a ≡ b → FitsFront pages k a → FitsFront pages n b
fits_as pages k n a b at is fits = subst (λ (c : Content). FitsFront pages n c) is (subst (λ (m : ℕ). FitsFront pages m a) at fits)

-- A page.

slot_length : (content : Content) → content_length content ≡ length_of content
slot_length None = refl
slot_length (Some value) = refl

total_over : (f : ℕ → ℕ) (slots : List Content) (from : ℕ) → ((k : ℕ) → k < length slots → length_of (content_at slots k) ≤ f (from + k)) → total_length slots ≤ sum_by f (range_with_len from (length slots))
total_over f [] from each = omega arith
total_over f (c ∷ slots) from each =
    let first : length_of c ≤ f from = subst (λ n. length_of c ≤ f n) (omega arith) (each 0 (omega arith)) in
    let rest = total_over f slots (from + 1) (λ k less. subst (λ n. length_of (content_at slots k) ≤ f n) (omega arith) (each (suc k) (omega (arith, less)))) in
    let slots_are : total_length (c ∷ slots) ≡ content_length c + total_length slots = sum_by-cons content_length c slots in
    let lengths_are : sum_by f (range_with_len from (length (c ∷ slots))) ≡ f from + sum_by f (range_with_len (from + 1) (length slots)) = sum_by-cons f from (range_with_len (from + 1) (length slots)) in
    omega (arith, first, rest, slot_length c, slots_are, lengths_are)

-- slots that are within lengths for which the page has room
total_fits : (f : ℕ → ℕ) (slots : List Content) (page : ℕ) → length slots ≡ 32 → total_on page f ≤ page_room → ((k : ℕ) → k < 32 → length_of (content_at slots k) ≤ f (32 * page + k)) → total_length slots ≤ page_room
unfolding total_on
total_fits f slots page count room each =
    let all = total_over f slots (32 * page) (λ k less. each k (omega (arith, less, count))) in
    omega (arith, all, room, ap (λ n. sum_by f (range_with_len (32 * page) n)) count)

-- a record's value in its slot
set_slot : (slots : List Content) (after : Content) (number page k : ℕ) → number / 32 ≡ page → length slots ≡ 32 → k < 32 → content_at (slice_set slots (number % 32) after) k ≡ cond (32 * page + k == number) after (content_at slots k)
set_slot slots after number page k at count less = grind (arith, get_or-set_same, eq-eqb, get_or-set_other, ne_eqb)

-- Behind one more record.

-- an open room stays behind all records that follow
open_behind_all : (m : Fields) (pages : List Version) (log entries : List Entry) (page : ℕ) → IsUndoable log → InTurn (Follows m pages) log entries → HasOpenRoom log pages page → HasOpenRoom (log ++ entries) pages page
open_behind_all m pages log [] page undoable follow room = grind (arith, common_steps)
open_behind_all m pages log (e ∷ entries) page undoable follow room =
    grind (arith, common_steps, (open_behind_all m pages (log ++ e ∷ []) entries page (undoable_behind m pages log undoable e follow.0) follow.1 (room_behind m pages log undoable e page follow.0 room)))

-- a page that shows a log has room for the next record, where there is open room behind that one
next_fits : (log : List Entry) (pages : List Version) (e : Entry) (slots : List Content) (number page : ℕ) → number_of e.rec ≡ Some number → number / 32 ≡ page → length slots ≡ 32 →
    HasOpenRoom (log ++ e ∷ []) pages page → ((k : ℕ) → k < 32 → content_at slots k ≡ shown log pages (32 * page + k)) → total_length (slice_set slots (number % 32) (after_of e.rec)) ≤ page_room
next_fits log pages e slots number page own at count room shows = grind (arith, common_steps, total_fits, set_slot, shown_push, le-max_left)

module _ (log : LogStore) (pages : PageStore) (site : State) (newest : Option Master) (records : List Entry) (history : History) (own : IsStore pages) (there : 0 < length pages.pool.frames) (h : Represents log pages site newest records history) where
  abbrev versions : List Version
  versions = versions_on pages.flash.geometry site.image

  abbrev front : ℕ
  front = (front_of pages.pool.frames).page

  -- undo has room in the page in front
  open_in_front : IsUndoable records × HasOpenRoom records versions front
  open_in_front = grind (arith, front_exists, undoable_behind_all, open_behind_all, length-versions)

  -- a record on it has room, where there is open room behind it and records that show the same
  pub fits_behind : (log' : List Entry) (e : Entry) → ((number : ℕ) → shown log' versions number ≡ shown records versions number) → IsOnPage front e.rec → HasOpenRoom (log' ++ e ∷ []) versions front → HasRoomInFront pages e.rec
  fits_behind log' e same on room number is =
      next_fits log' versions e (slots_of (front_of pages.pool.frames).content) number front is (grind (arith, common_steps, on)) (length-slots_of (front_of pages.pool.frames).content) room
      (λ k less. front_shows log pages site newest records history k own there less h ∙ sym (same (32 * front + k)))

  pub fits_next : (e : Entry) → MayGrow log pages site.image newest records e → IsOnPage front e.rec → HasRoomInFront pages e.rec
  fits_next e may on = fits_behind records e (λ number. refl) on (room_behind _ versions records open_in_front.0 e front may.follows open_in_front.1)

-- Of an opened log.

pub fits_redone : (o : Opening) (log : LogStore) (pages : PageStore) (site : State) (front rest : List Entry) (e : Entry) → IsStore pages → 0 < length pages.pool.frames → IsRedoing o log pages site front →
    log_from (kept_by o.newest) o.blocks ≡ front ++ e ∷ rest → IsOnPage (front_of pages.pool.frames).page e.rec → lsn_of (front_of pages.pool.frames).content < e.lsn → HasRoomInFront pages e.rec
fits_redone o log pages site front rest e own there h is on later number own_number =
    let page = (front_of pages.pool.frames).page in
    let content = (front_of pages.pool.frames).content in
    let current_is : current pages site.image page ≡ content = front_is_current pages site.image there in
    let exists : page < o.sizes.pages = grind (arith, (front_exists pages.flash.geometry.pages pages.pool.frames there own.pages), h.geometry) in
    let w : Version = record { lsn = e.lsn; slots = slice_set (slots_of content) (number % 32) (after_of e.rec) } in
    let at : number / 32 ≡ page = grind (arith, common_steps, on) in
    let redoes : Redoes page e number (version_in content) w = record {
      lsn = refl;
      slots = λ k less. set_slot (slots_of content) (after_of e.rec) number page k at (length-slots_of content) less;
    } in
    let now = subst (λ (c : List ℕ). IsRedone (opened o) page (version_in c)) current_is (h.redone page exists) in
    let redone_there = next_is_redone (opened o) page (version_in content) w front rest e number h.sound is own_number at later (subst (λ (c : List ℕ). AreKnown front page (lsn_of c)) current_is (h.known page exists)) now redoes in
    total_fits (λ n. length_of (redone (opened o) e.lsn n)) w.slots page (grind (arith, common_steps, (length-slots_of content)))
    ((h.sound.room_in_pages page (omega (arith, exists, length-versions o.sizes o.image))).redone_fits e.lsn (let low = now.later in omega (arith, low, later)))
    (λ k less. omega (arith, ap length_of (redone_there.slots k less)))
