-- What an abort and a back take back: what stood before each write of their transaction.
use Rattle.engine.proofs.Names.{◌≡◌, ◌+◌, ◌-◌, ℕ, find, List, [], ◌∷◌, ◌++◌, flat_map, reverse, length, take, drop, Option, Some, None, refl, sym, ap, subst, ◌∙◌, arith, append_assoc, append-nil, reverse-append, take-append-drop, filter_map-append, AllByRecursion, cons_option, ⊤, Matches, Engine, logical_image_under, versions_on, RunsFrom, left_keep, last_standing, left_are_updates, standing_count, standing_taken, writes_dropped, writes_more, left_begin_there, content_of_table, whole_in_table, write_of, Entry, Version, is_number, is_on, number_of, before_of, after_of, table_of, value_of, IsInTable, left_open, Content, State, Write, content_at, session_at, writes_of, clrs_for, undo_one_work, takes_back, ends, stands_at, stood_before, goes_back, undoes, RingOp, clr_on, clr_work, Site, entry_of, Active}
use Rattle.std.proofs.Common.{filter_map, option_map, unwrap_or, eq-eqb}
use Rattle.redo_undo.specs.Stores.{sizes_of}
use Rattle.engine.proofs.Actives.{Finds, some_active}
use Rattle.engine.proofs.Meanings.{table_is, undoable}
use Rattle.log_laws.proofs.Standing as standing

-- What stood before writes.

stood_more : (table : List Content) (earlier xs : List Write) (write : Write) → stood_before table earlier (xs ++ write ∷ []) ≡ stood_before table earlier xs ++ (write.0, stands_at table (earlier ++ xs) write.0) ∷ []
stood_more table earlier [] write = ap (λ (l : List Write). (write.0, stands_at table l write.0) ∷ []) (sym (append-nil earlier))
stood_more table earlier (x ∷ xs) write =
    ap (λ (l : List Write). (x.0, stands_at table earlier x.0) ∷ l)
    (stood_more table (earlier ++ x ∷ []) xs write ∙ ap (λ (l : List Write). stood_before table (earlier ++ x ∷ []) xs ++ (write.0, stands_at table l write.0) ∷ []) (append_assoc earlier (x ∷ []) xs))

-- Of Updates, the last one first, each begins with what those before it leave in the table.
abbrev pub StoodThere : List Content → List Entry → Type 0
StoodThere table [] = ⊤
StoodThere table (u ∷ earlier) = ((number : ℕ) → number_of u.rec ≡ Some number → before_of u.rec ≡ stands_at table (standing.writes_of earlier) number) × StoodThere table earlier

writes_join : (later earlier : List Entry) → standing.writes_of (later ++ earlier) ≡ standing.writes_of earlier ++ standing.writes_of later
writes_join later earlier =
    ap (filter_map (λ (e : Entry). write_of e.rec)) (reverse-append later earlier) ∙ filter_map-append (λ (e : Entry). write_of e.rec) (reverse earlier) (reverse later)

abbrev one_write : Entry → Option ℕ → List Write
one_write u o = cons_option (option_map (λ n. (n, after_of u.rec)) o) []

-- the last ones of them are taken back
taken_back : (table : List Content) (later earlier : List Entry) → StoodThere table (later ++ earlier) → flat_map clr_work later ≡ goes_back table (standing.writes_of earlier) (standing.writes_of later)
taken_back table [] earlier there = refl
taken_back table (u ∷ later) earlier there = by (number_of u.rec) refl (taken_back table later earlier there.1)
  where
    with_one : (o : Option ℕ) → number_of u.rec ≡ o → standing.writes_of (u ∷ later) ≡ standing.writes_of later ++ one_write u o
    with_one o on = writes_more u later ∙ ap (λ (x : Option ℕ). standing.writes_of later ++ one_write u x) on

    by : (o : Option ℕ) → number_of u.rec ≡ o → flat_map clr_work later ≡ goes_back table (standing.writes_of earlier) (standing.writes_of later) → clr_on (before_of u.rec) o ++ flat_map clr_work later ≡ goes_back table (standing.writes_of earlier) (standing.writes_of (u ∷ later))
    by None on rest = rest ∙ ap (goes_back table (standing.writes_of earlier)) (sym (with_one None on ∙ append-nil (standing.writes_of later)))
    by (Some n) on rest =
        ap (λ (b : Content). takes_back (n, b) ++ flat_map clr_work later) (there.0 n on ∙ ap (λ (l : List Write). stands_at table l n) (writes_join later earlier))
        ∙ ap (λ (w : List RingOp). takes_back (n, stands_at table (standing.writes_of earlier ++ standing.writes_of later) n) ++ w) rest
        ∙ sym (ap (goes_back table (standing.writes_of earlier)) (with_one (Some n) on)
        ∙ ap (λ (l : List Write). flat_map takes_back (reverse l)) (stood_more table (standing.writes_of earlier) (standing.writes_of later) (n, after_of u.rec))
        ∙ ap (flat_map takes_back) (reverse-append (stood_before table (standing.writes_of earlier) (standing.writes_of later)) ((n, stands_at table (standing.writes_of earlier ++ standing.writes_of later) n) ∷ [])))

module _ (log : List Entry) (versions : List Version) (table : List Content) (same_table : table ≡ table_of log versions) where
  stood_there : (us : List Entry) → ((number : ℕ) → RunsFrom number (value_of log versions number) us) → AllByRecursion (IsInTable versions) us → StoodThere table us
  stood_there [] runs within = tt
  stood_there (u ∷ us) runs within = (
    λ number on. (runs number).0 (ap (is_number number) on ∙ eq-eqb number number refl) ∙ sym (seen number on),
    stood_there us (λ number. (runs number).1) within.1,
  )
    where
      seen : (number : ℕ) → number_of u.rec ≡ Some number → stands_at table (standing.writes_of us) number ≡ unwrap_or (option_map (λ (e : Entry). after_of e.rec) (find (is_on number) us)) (value_of log versions number)
      seen number on =
          ap (λ (o : Option Content). unwrap_or o (content_at table number)) (last_standing us number)
          ∙ ap (unwrap_or (option_map (λ (e : Entry). after_of e.rec) (find (is_on number) us))) (ap (λ (c : List Content). content_at c number) same_table ∙ content_of_table log versions number (within.0 number on))

-- So it is with a session's.
module _ (engine : Engine) (site : Site) (s : State) (entry : Active) (fits : Matches engine site s) (at : entry_of engine.active entry.session ≡ Some entry) where
  abbrev versions : List Version
  versions = versions_on (sizes_of engine.store) site.image

  abbrev left : List Entry
  left = left_open fits.records entry.begin

  found : Finds fits.newest s.kept fits.records entry (session_at s entry.session)
  found = some_active fits.newest fits.records engine.active s fits.sessions entry.session entry at

  pub stood : StoodThere s.table left
  stood =
      let log = fits.holds.both.log_holds in
      let active = found.under_way.is_active in
      stood_there fits.records versions s.table (table_is engine.store site fits.newest fits.records s.table s.commits fits.holds) left
      (left_begin_there fits.records versions entry.begin (undoable engine.store site fits.newest fits.records s.table s.commits fits.holds) active.lives.not_closed active.chain)
      (left_keep (IsInTable versions) fits.records entry.begin
      (subst (AllByRecursion (IsInTable versions)) log.runs_on.records_are (whole_in_table (logical_image_under fits.newest (sizes_of engine.store) site.image log.blocks) log.tail log.runs_on.carries)))

  pub abort_is : undoes s.table (writes_of (session_at s entry.session)) ≡ undo_one_work fits.records entry.begin
  abort_is =
      ap (λ o. undoes s.table (writes_of o)) found.is ∙ ap (undoes s.table) found.under_way.is_active.writes_are
      ∙ ap (λ (w : List RingOp). w ++ ends) (sym (taken_back s.table left [] (subst (StoodThere s.table) (sym (append-nil left)) stood)))

  -- of so many Updates the last ones are undone, and the others stay
  pub back_is : (writes : List Write) → writes_of (session_at s entry.session) ≡ writes → (count stays : ℕ) → count + stays ≡ length writes → goes_back s.table (take stays writes) (drop stays writes) ≡ clrs_for (take count left)
  back_is writes is count stays all = (λ i. goes_back s.table (first i) (last i)) ∙ sym (taken_back s.table (take count left) (drop count left) (subst (StoodThere s.table) (sym (take-append-drop count left)) stood))
    where
      same : writes ≡ standing.writes_of left
      same = sym is ∙ ap writes_of found.is ∙ found.under_way.is_active.writes_are

      many : length writes ≡ length left
      many = ap length same ∙ standing_count fits.records entry.begin

      first : take stays writes ≡ standing.writes_of (drop count left)
      first =
          let less : stays ≡ length left - count = omega (arith, all, many) in
          ap (λ (n : ℕ). take n writes) less ∙ ap (take (length left - count)) same ∙ sym (writes_dropped count left (left_are_updates fits.records entry.begin))

      last : drop stays writes ≡ standing.writes_of (take count left)
      last =
          let less : stays ≡ length writes - count = omega (arith, all) in
          ap (λ (n : ℕ). drop n writes) less ∙ sym (standing_taken fits.records entry.begin count writes same (omega (arith, all)))
