-- What the versions on the devices show, beside the model's state.
use Rattle.engine.proofs.Names.{◌≡◌, ℕ, ◌+◌, ◌*◌, ◌/◌, ◌%◌, ◌<◌, ◌==◌, Bool, true, false, ◌&&◌, ◌||◌, cond, List, [], ◌∷◌, map, Option, Some, None, ⊎_elim, refl, sym, ap, ◌∙◌, arith, true≢false, none-some, same_Some, list_any, unwrap_or, frame_of, Master, sizes_of, Matches, SessionIs, Engine, version_on, version_at_is, version_in, versions_on, has_written_is, none_any, some_or_none, shown_is_value, shown_stands, last_is_own, update_of, IsFree, IsFreeFor, IsUndoable, Entry, Version, is_closed, is_on, last_where, entries_of, slot_at, txn_of, shown, content_by, current, PageStore, Content, Session, State, Write, content_at, last_write, seen, session_at, writes_of, wrote_of, is_changed, Site, Image, entry_of, Active}
use Rattle.record_model.specs.State.{has_written}
use Rattle.buffer_pool.specs.declared.frame.Frame.{Frame}
use Rattle.page_store.specs.Caching.{cache_of, pool_page}
use Rattle.engine.specs.SeenVersions.{WhereItFits}
use Rattle.engine.proofs.Actives.{some_active}
use Rattle.engine.proofs.Updated.{updated_is}
use Rattle.engine.proofs.Meanings.{undoable, value_is, writer}
use Rattle.log_laws.specs.Follow as follow

-- Two unfinished transactions that have written a number are one.

last_writer : (records : List Entry) (t number : ℕ) → IsUndoable records → is_closed records t ≡ false → follow.has_written records t number ≡ true →
    (x : Entry) × (last_where (is_on number) records ≡ Some x) × (txn_of x ≡ t)
last_writer records t number undo lives written = ⊎_elim
    (λ none. absurd (true≢false (sym (sym (has_written_is records t number) ∙ written) ∙ none_any (is_on number) (entries_of t records) none)))
    (λ y. let first = update_of records t number y.0 (undo.undone t) lives y.1 in last_is_own records t number first.0 undo.held lives first.1)
    (some_or_none (last_where (is_on number) (entries_of t records)))

one_writer : (records : List Entry) (t number : ℕ) → IsUndoable records → is_closed records t ≡ false → follow.has_written records t number ≡ true → IsFreeFor records t number
one_writer records t number undo lives written other open' wrote =
    let own = last_writer records t number undo lives written in
    let theirs = last_writer records other number undo open' wrote in
    sym theirs.2 ∙ ap txn_of (same_Some theirs.0 own.0 (sym theirs.1 ∙ own.1)) ∙ own.2

-- A session that has written has an entry.
entry_with : (newest : Option Master) (kept : ℕ) (records : List Entry) (number : ℕ) (o : Option Active) (p : Option Session) → SessionIs newest kept records o p → list_any (λ (wrote : ℕ). wrote == number) (wrote_of p) ≡ true →
    (own : Active) × (o ≡ Some own)
entry_with newest kept records number None None is written = absurd (true≢false (sym written))
entry_with newest kept records number None (Some session) is written = absurd is
entry_with newest kept records number (Some entry) None is written = absurd is
entry_with newest kept records number (Some entry) (Some session) is written = (entry, refl)

module _ (engine : Engine) (site : Site) (s : State) (fits : Matches engine site s) (number : ℕ) (less : number < 32 * (sizes_of engine.store).pages) where
  abbrev versions : List Version
  versions = versions_on (sizes_of engine.store) site.image

  undo : IsUndoable fits.records
  undo = undoable engine.store site fits.newest fits.records s.table s.commits fits.holds

  pub seen_by : (n : ℕ) → has_written s n number ≡ true → shown fits.records versions number ≡ seen s n number
  seen_by n wrote =
      let entry = entry_with fits.newest s.kept fits.records number (entry_of engine.active n) (session_at s n) (fits.sessions.each n) wrote in
      let own = entry.0 in
      let session = some_active fits.newest fits.records engine.active s fits.sessions n own entry.1 in
      let under = session.under_way.is_active in
      let written : follow.has_written fits.records own.begin number ≡ true =
      sym (ap (λ (o : Option Session). list_any (λ (wrote : ℕ). wrote == number) (wrote_of o)) session.is
      ∙ ap (λ (ws : List ℕ). list_any (λ (wrote : ℕ). wrote == number) ws) session.under_way.wrote
      ∙ updated_is fits.records own.begin number under.chain) ∙ wrote in
      shown_stands fits.records versions own.begin undo under.lives.not_closed under.chain number (one_writer fits.records own.begin number undo under.lives.not_closed written)
      ∙ ap (λ (x : Content). unwrap_or (last_write (follow.standing_in own.begin fits.records) number) x) (sym (value_is engine site s fits number less))
      ∙ ap (λ (ws : List Write). unwrap_or (last_write ws number) (content_at s.table number)) (sym under.writes_are)
      ∙ ap (λ (o : Option Session). unwrap_or (last_write (writes_of o) number) (content_at s.table number)) (sym session.is)

  none_writes : ((n : ℕ) → has_written s n number ≡ false) → IsFree fits.records number
  none_writes none t lives = by (follow.has_written fits.records t number) refl
    where
      by : (b : Bool) → follow.has_written fits.records t number ≡ b → b ≡ false
      by false is = refl
      by true is =
          let found = writer fits.newest fits.records engine.active s fits.sessions t number lives is in
          absurd (true≢false (sym found.has_written ∙ none found.session))

  in_table : ((n : ℕ) → has_written s n number ≡ false) → shown fits.records versions number ≡ content_at s.table number
  in_table none = shown_is_value fits.records versions number (none_writes none) ∙ sym (value_is engine site s fits number less)

-- A page that the pool doesn't hold as changed is its version.

unheld : (frames : List Frame) (page : ℕ) (frame : Frame) → is_changed (map pool_page frames) page ≡ false → frame_of frames page ≡ Some frame → frame.changed ≡ false
unheld [] page frame none is = absurd (none-some frame is)
unheld (f ∷ frames) page frame none is = by (f.page == page) refl is none (unheld frames page frame)
  where
    by : (b : Bool) → (f.page == page) ≡ b → cond b (Some f) (frame_of frames page) ≡ Some frame → ((b && f.changed) || is_changed (map pool_page frames) page) ≡ false →
        (is_changed (map pool_page frames) page ≡ false → frame_of frames page ≡ Some frame → frame.changed ≡ false) → frame.changed ≡ false
    by true own found off later = ap (λ (x : Frame). x.changed) (sym (same_Some f frame found)) ∙ left f.changed (is_changed (map pool_page frames) page) off
      where
        left : (a b : Bool) → (a || b) ≡ false → a ≡ false
        left true b is = is
        left false b is = refl
    by false other found off later = later off found

version_is : (pages : PageStore) (image : Image) (page : ℕ) → is_changed (cache_of pages).pool page ≡ false →
    ((frame : Frame) → frame_of pages.pool.frames page ≡ Some frame → frame.changed ≡ false → frame.content ≡ version_on pages.flash.geometry image page) → current pages image page ≡ version_on pages.flash.geometry image page
version_is pages image page unchanged same = by (frame_of pages.pool.frames page) refl
  where
    by : (o : Option Frame) → frame_of pages.pool.frames page ≡ o → content_by o (version_on pages.flash.geometry image page) ≡ version_on pages.flash.geometry image page
    by None is = refl
    by (Some frame) is = same frame is (unheld pages.pool.frames page frame unchanged is)

pub where_it_fits : WhereItFits
where_it_fits engine site s fits number less unchanged =
    let pages = engine.store.pages in
    let g = pages.flash.geometry in
    let both = fits.holds.both in
    let page : ℕ = number / 32 in
    let slot : ℕ = number % 32 in
    let exists : page < g.pages = omega (arith, less) in
    let whole : 32 * page + slot ≡ number = omega arith in
    let current_is = version_is pages site.image page unchanged (both.log_holds.ready.pages.unchanged page) in
    let slot_is : slot_at (versions_on g site.image) number ≡ shown fits.records (versions_on g site.image) number =
    ap (λ (v : Version). content_at v.slots slot) (version_at_is g site.image page exists)
    ∙ ap (λ (octets : List ℕ). content_at (version_in octets).slots slot) (sym current_is)
    ∙ (both.shows.each page exists).slots slot (omega arith)
    ∙ ap (shown fits.records (versions_on g site.image)) whole in
    record {
      by_writer = λ n wrote. slot_is ∙ seen_by engine site s fits number less n wrote;
      in_table = λ none. slot_is ∙ in_table engine site s fits number less none;
    }
