-- Room in a page for what undo may put back, behind one more Update.
use Rattle.std.proofs.lemmas.Grind.{common_steps}
use Rattle.engine.proofs.Names.{◌≡◌, ℕ, ◌+◌, ◌*◌, ◌<◌, ◌≤◌, ◌==◌, ◌&&◌, Bool, true, false, cond, find, max, List, [], ◌∷◌, ◌++◌, Option, Some, None, refl, sym, ap, subst, ◌∙◌, arith, IsTrue, true≢false, eqb-true, none-some, same_Some, AllByRecursion, cons_option, range_with_len, sizes_of, Matches, Engine, length-versions, logical_image_under, versions_on, undoable_behind, left_push, IsNoLonger, IsWithin, all_left_of, room_behind, room_is_within, total_within, within_is_room, shown_push, writes_more, with, open_before, Follows, IsUndoable, write_of, Entry, Version, is_closed, is_loser, is_number, is_of, is_on, number_of, shown, HasOpenRoom, open_length, InTurn, left_open, losers, Begin, Update, Content, Session, State, Write, content_at, footprint, length_of, longest_write, page_room, seen, session_at, writes_of, Site, entry_is, IsTable, entry_of}
use Rattle.std_lemmas.proofs.AllOf.{all_weaker}
use Rattle.log_records.specs.Room.{total_on}
use Rattle.log_records.specs.Sound.{Master as Fields}
use Rattle.log_laws.proofs.Parts.{are_losers}
use Rattle.engine.proofs.Actives.{some_active}
use Rattle.engine.proofs.Footprints.{longest-append, longest_within, stands_within}
use Rattle.engine.proofs.Meanings.{got_is, undoable}
use Rattle.engine.proofs.SeenVersions.{seen_by}
use Rattle.engine.proofs.Undoing.{StoodThere, stood}
use Rattle.record_model.specs.State as model
use Rattle.log_laws.proofs.Standing as standing

-- One record more.

module _ (log : List Entry) (pages : List Version) (undoable : IsUndoable log) (lsn t prev page slot : ℕ) (before after : Content) (from : before ≡ shown log pages (32 * page + slot)) where
  abbrev e : Entry
  e = record { lsn = lsn; rec = Update t prev page slot before after }

  -- behind an Update that begins with what is there no record needs more, but what is written on its own
  update_within : (r k : ℕ) → open_length log pages r ≤ k → (is_on r e ≡ true → length_of after ≤ k) → IsWithin (with log e) pages r k
  update_within r k less short = record {
    shows = subst (λ (c : Content). length_of c ≤ k) (sym (shown_push log e pages r)) (shows (is_on r e) refl);
    left = λ u lives. subst (AllByRecursion (IsNoLonger r k)) (sym (left_push log e u)) (left (is_of u e) u (open_before log e u lives));
  }
    where
      shows : (b : Bool) → is_on r e ≡ b → length_of (cond b after (shown log pages r)) ≤ k
      shows true on = short on
      shows false on = (room_is_within log pages r k undoable less).shows

      puts_back : IsNoLonger r k e
      puts_back on = subst (λ (c : Content). length_of c ≤ k) (sym (from ∙ ap (shown log pages) (eqb-true (32 * page + slot) r on))) (room_is_within log pages r k undoable less).shows

      left : (b : Bool) (u : ℕ) → is_closed log u ≡ false → AllByRecursion (IsNoLonger r k) (cond b (e ∷ left_open log u) (left_open log u))
      left true u lives = (puts_back, (room_is_within log pages r k undoable less).left u lives)
      left false u lives = (room_is_within log pages r k undoable less).left u lives

  -- so there is room where these bounds of what they need leave room for it
  pub room_for : (g : ℕ → ℕ) → ((i : ℕ) → i < 32 → open_length log pages (32 * page + i) ≤ g (32 * page + i)) → total_on page (λ r. cond (32 * page + slot == r) (max (g r) (length_of after)) (g r)) ≤ page_room → HasOpenRoom (with log e) pages page
  room_for g each room =
      let fewer = total_within page (open_length (with log e) pages) (λ r. cond (32 * page + slot == r) (max (g r) (length_of after)) (g r)) (λ i less. at (32 * page + i) (each i less)) in
      omega (arith, fewer, room)
    where
      at : (r : ℕ) → open_length log pages r ≤ g r → open_length (with log e) pages r ≤ cond (32 * page + slot == r) (max (g r) (length_of after)) (g r)
      at r less = by (32 * page + slot == r) refl
        where
          by : (b : Bool) → (32 * page + slot == r) ≡ b → open_length (with log e) pages r ≤ cond b (max (g r) (length_of after)) (g r)
          by true on = within_is_room (with log e) pages r (max (g r) (length_of after)) (update_within r (max (g r) (length_of after)) (omega (arith, less)) (λ here. omega arith))
          by false off = within_is_room (with log e) pages r (g r) (update_within r (g r) less (λ here. absurd (true≢false (sym here ∙ off))))

-- behind a Begin each needs as much, over versions that show the same
pub begun_needs : (log : List Entry) (pages pages' : List Version) (undoable : IsUndoable log) (lsn r k : ℕ) → shown (with log (record { lsn = lsn; rec = Begin })) pages' r ≡ shown log pages r → open_length log pages r ≤ k →
    open_length (with log (record { lsn = lsn; rec = Begin })) pages' r ≤ k
begun_needs log pages pages' undoable lsn r k same less =
    let within = room_is_within log pages r k undoable less in
    within_is_room (with log (record { lsn = lsn; rec = Begin })) pages' r k (record {
      shows = subst (λ (c : Content). length_of c ≤ k) (sym same) within.shows;
      left = λ u lives. subst (AllByRecursion (IsNoLonger r k)) (sym (left_push log (record { lsn = lsn; rec = Begin }) u)) (left (is_of u (record { lsn = lsn; rec = Begin })) u (within.left u (open_before log (record { lsn = lsn; rec = Begin }) u lives)));
    })
  where
    left : (b : Bool) (u : ℕ) → AllByRecursion (IsNoLonger r k) (left_open log u) → AllByRecursion (IsNoLonger r k) (cond b (left_open log u) (left_open log u))
    left true u all = all
    left false u all = all

-- The records of a run.

-- an open room stays behind all records that follow
open_behind_all : (m : Fields) (pages : List Version) (log entries : List Entry) (page : ℕ) → IsUndoable log → InTurn (Follows m pages) log entries → HasOpenRoom log pages page → HasOpenRoom (log ++ entries) pages page
open_behind_all m pages log [] page undoable follow room = grind (arith, common_steps)
open_behind_all m pages log (e ∷ entries) page undoable follow room =
    grind (arith, common_steps, (open_behind_all m pages (log ++ e ∷ []) entries page (undoable_behind m pages log undoable e follow.0) follow.1 (room_behind m pages log undoable e page follow.0 room)))

-- of Updates, the last one first, that begin with what those before them leave: none puts back more than what the table
-- has, or the longest of their writes
put_back_within : (table : List Content) (r : ℕ) (us : List Entry) (k : ℕ) → StoodThere table us → max (length_of (content_at table r)) (longest_write (standing.writes_of us) r) ≤ k → AllByRecursion (IsNoLonger r k) us
put_back_within table r [] k there less = tt
put_back_within table r (u ∷ us) k there less =
    let more = ap (λ (l : List Write). longest_write l r) (writes_more u us) ∙ longest-append (standing.writes_of us) (cons_option (write_of u.rec) []) r in
    let rest : max (length_of (content_at table r)) (longest_write (standing.writes_of us) r) ≤ k = omega (arith, less, more) in
    ((λ on. let was = ap length_of (there.0 r (is_there (number_of u.rec) on)) in let within = stands_within table (standing.writes_of us) r in omega (arith, was, within, rest)), put_back_within table r us k there.1 rest)
  where
    is_there : (o : Option ℕ) → is_number r o ≡ true → o ≡ Some r
    is_there (Some n) on = ap (λ (m : ℕ). Some m) (eqb-true n r on)
    is_there None on = absurd (true≢false (sym on))

found_by : (f : ℕ → Bool) (xs : List ℕ) (n : ℕ) → find f xs ≡ Some n → f n ≡ true
found_by f [] n is = absurd (none-some n is)
found_by f (x ∷ xs) n is = by (f x) refl is (found_by f xs n)
  where
    by : (b : Bool) → f x ≡ b → cond b (Some x) (find f xs) ≡ Some n → (find f xs ≡ Some n → f n ≡ true) → f n ≡ true
    by true here same rest = ap f (sym (same_Some x n same)) ∙ here
    by false here same rest = rest same

module _ (engine : Engine) (site : Site) (s : State) (fits : Matches engine site s) (table : IsTable engine.active) where
  abbrev versions : List Version
  versions = versions_on (sizes_of engine.store) site.image

  undo : IsUndoable fits.records
  undo = undoable engine.store site fits.newest fits.records s.table s.commits fits.holds

  -- undo has room in each page
  pub open_room : (page : ℕ) → page < (sizes_of engine.store).pages → HasOpenRoom fits.records versions page
  open_room page exists =
      let log = fits.holds.both.log_holds in
      let p = logical_image_under fits.newest (sizes_of engine.store) site.image log.blocks in
      let carries = log.runs_on.carries in
      let first : IsUndoable p.log = record { undone = carries.sound.losers_can_be_undone; held = carries.sound.losers_hold_others_off } in
      subst (λ (l : List Entry). HasOpenRoom l versions page) log.runs_on.records_are
      (open_behind_all p.master p.pages p.log _ page first carries.follow (carries.sound.room_in_pages page (omega (arith, exists, length-versions (sizes_of engine.store) site.image))).open_fits)

  module _ (r : ℕ) (less : r < 32 * (sizes_of engine.store).pages) where
    -- what is shown: what the table has, or what a session has written
    pub shown_as : (P : Content → Type 0) → ((n : ℕ) → P (seen s n r)) → P (content_at s.table r) → P (shown fits.records versions r)
    shown_as P by_session by_table = by (model.busy_read s None r) refl
      where
        by : (o : Option ℕ) → model.busy_read s None r ≡ o → P (shown fits.records versions r)
        by None none = subst P (got_is engine site s fits r table less none) by_table
        by (Some n) some = subst P (sym (seen_by engine site s fits r less n (found_by (λ m. true && model.has_written s m r) (range_with_len 0 8) n some))) (by_session n)

    seen_within : (n : ℕ) → length_of (seen s n r) ≤ footprint s r
    seen_within n =
        let within = stands_within s.table (writes_of (session_at s n)) r in
        let all = longest_within s n r in
        omega (arith, within, all)

    left_within : (t : ℕ) → IsTrue (is_loser fits.records t) → AllByRecursion (IsNoLonger r (footprint s r)) (left_open fits.records t)
    left_within t loser =
        let own = fits.sessions.all t loser in
        let n = own.0 in
        let entry = own.1 in
        let at : entry_of engine.active entry.session ≡ Some entry = ap (entry_of engine.active) (entry_is engine.active n entry table own.2).session ∙ own.2 in
        let found = some_active fits.newest fits.records engine.active s fits.sessions n entry own.2 in
        let most = longest_within s n r in
        let same : longest_write (writes_of (session_at s n)) r ≡ longest_write (standing.writes_of (left_open fits.records entry.begin)) r =
        ap (λ (o : Option Session). longest_write (writes_of o) r) found.is ∙ ap (λ (l : List Write). longest_write l r) found.under_way.is_active.writes_are in
        subst (λ (b : ℕ). AllByRecursion (IsNoLonger r (footprint s r)) (left_open fits.records b)) own.3
        (put_back_within s.table r (left_open fits.records entry.begin) (footprint s r) (stood engine site s entry fits at) (omega (arith, most, same)))

    -- a record needs no more than its footprint
    pub needs_within : open_length fits.records versions r ≤ footprint s r
    needs_within =
        within_is_room fits.records versions r (footprint s r) (record {
          shows = shown_as (λ c. length_of c ≤ footprint s r) seen_within (omega arith);
          left = all_left_of fits.records undo (IsNoLonger r (footprint s r))
              (all_weaker (λ t. IsTrue (is_loser fits.records t)) (λ t. AllByRecursion (IsNoLonger r (footprint s r)) (left_open fits.records t)) left_within (losers fits.records) (are_losers fits.records));
        })
