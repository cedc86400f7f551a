-- Sealing a block that goes on keeps a logical image sound, and changes what it means by the block's commits alone.
use Rattle.std.proofs.lemmas.Grind.{common_steps}
use Rattle.log_laws.proofs.Names.{◌≡◌, ℕ, zero, suc, ◌+◌, ◌-◌, ◌*◌, ◌<◌, ◌≤◌, List, [], ◌∷◌, ◌++◌, length, sym, ap, subst, ◌∙◌, append_assoc, arith, le-ltb, le-leb, lt-leb, and_right, append-nil, length-append, filter-append, filter_map-append, length-range_with_len, AllByRecursion, range_with_len, flat_map, IsTrue, ◌==◌, nat_lt, Follows, IsUndoable, GoesOn, sealed, next_entries, table_after_all, some_octet, in_order_from, last_where-append, Entry, Version, entries_from, version_at, table_of, Master, AreNumbered, LogicalImage, InTurn, IsInOrder, IsSound, Means, IsOfOpenTransaction, before_block, from_block, last_known, FitsLog, IsInTable, active_in, commit_number, commit_numbers, commit_count, LogRecord, Content, all_append, all_weaker, filter_all}
use Rattle.std.specs.Prelude.{◌||◌}
use Rattle.std.proofs.lemmas.Bool.Decides.{nat_tests}
use Rattle.log_records.specs.Spelling.{spelling, AreBlock}
use Rattle.log_laws.proofs.Values.{with}
use Rattle.log_laws.proofs.Orderly.{begun_behind}
use Rattle.log_laws.proofs.Follow.{table_behind, undoable_behind}
use Rattle.log_laws.proofs.Parts.{commits_parts}
use Rattle.log_laws.proofs.Rooms.{rooms_behind_all}
use Rattle.log_laws.proofs.Orders.{InTurn-all, entries_in_order, in_order_to, in_order-append, all_from, none_passes, filter_none, InTurn-append_all, InTurn-weaker}

-- Records one by one.

split : (log : List Entry) (e : Entry) (entries : List Entry) → log ++ (e ∷ entries) ≡ with log e ++ entries
split log e entries = sym (append_assoc log (e ∷ []) entries)

pub undoable_behind_all : (m : Master) (pages : List Version) (log entries : List Entry) → IsUndoable log → InTurn (Follows m pages) log entries → IsUndoable (log ++ entries)
undoable_behind_all m pages log [] u f = subst IsUndoable (sym (append-nil log)) u
undoable_behind_all m pages log (e ∷ entries) u f = subst IsUndoable (sym (split log e entries)) (undoable_behind_all m pages (with log e) entries (undoable_behind m pages log u e f.0) f.1)

pub table_behind_all : (m : Master) (pages : List Version) (log entries : List Entry) → IsUndoable log → InTurn (Follows m pages) log entries →
    table_of (log ++ entries) pages ≡ table_after_all (table_of log pages) log entries
table_behind_all m pages log [] u f = grind (arith, append-nil)
table_behind_all m pages log (e ∷ entries) u f = grind (arith, split, with, undoable_behind, table_behind, (table_behind_all m pages (with log e) entries (undoable_behind m pages log u e f.0) f.1))

-- numbers behind numbers
range_join : (a n m : ℕ) → range_with_len a n ++ range_with_len (a + n) m ≡ range_with_len a (n + m)
range_join a zero m =
    let here : a + 0 ≡ a = omega arith in
    let there : 0 + m ≡ m = omega arith in
    ap (λ (k : ℕ). range_with_len k m) here ∙ ap (range_with_len a) (sym there)
range_join a (suc n) m =
    let here : a + suc n ≡ (a + 1) + n = omega arith in
    let there : suc n + m ≡ suc (n + m) = omega arith in
    ap (λ (k : ℕ). (a ∷ range_with_len (a + 1) n) ++ range_with_len k m) here ∙ ap (λ (l : List ℕ). a ∷ l) (range_join (a + 1) n m) ∙ ap (range_with_len a) (sym there)

-- records have no more Commits than octets
few_here : (rec : LogRecord) (lsn : ℕ) (entries : List Entry) → length (commit_numbers (record { lsn = lsn; rec = rec } ∷ entries)) ≤ 1 + length (commit_numbers entries)
few_here x0 lsn entries = grind (arith, common_steps)

few_commits : (lsn : ℕ) (records : List LogRecord) → length (commit_numbers (entries_from lsn records)) ≤ length (flat_map spelling records)
few_commits lsn [] = omega arith
few_commits lsn (rec ∷ records) = grind (arith, common_steps, few_here, some_octet, length-append, (few_commits (lsn + length (spelling rec)) records))

module _ (p : LogicalImage) (records : List LogRecord) (sound : IsSound p) (block : AreBlock records) where
  pub undoable : IsUndoable p.log
  undoable = record { undone = sound.losers_can_be_undone; held = sound.losers_hold_others_off }

  new_in_order : IsInOrder (512 * p.hi + 2) (next_entries p records) (512 * (p.hi + 1))
  new_in_order = in_order_to (512 * p.hi + 2) (next_entries p records) (512 * p.hi + 2 + length (flat_map spelling records)) (512 * (p.hi + 1)) (let room = block.room in omega (arith, room)) (entries_in_order (512 * p.hi + 2) records)

  behind : AllByRecursion (λ e. 512 * p.hi + 2 ≤ e.lsn) (next_entries p records)
  behind = all_from (512 * p.hi + 2) (next_entries p records) (512 * (p.hi + 1)) new_in_order

  late : AllByRecursion (λ e. 512 * p.master.redo ≤ e.lsn) (next_entries p records)
  late = all_weaker (λ e. 512 * p.hi + 2 ≤ e.lsn) (λ e. 512 * p.master.redo ≤ e.lsn) (λ e h. let r = sound.redo_before_end in omega (arith, r, h)) (next_entries p records) behind

  pub before_same : before_block p.master.redo (p.log ++ next_entries p records) ≡ before_block p.master.redo p.log
  before_same = grind (arith, filter-append, filter_none, all_weaker, le-ltb, late, append-nil)

  pub from_more : from_block p.master.redo (p.log ++ next_entries p records) ≡ from_block p.master.redo p.log ++ next_entries p records
  from_more = grind (arith, filter-append, filter_all, all_weaker, le-leb, late)

  low : (lsn : ℕ) → IsTrue ((lsn == 0) || nat_lt lsn (512 * p.hi)) → lsn < 512 * p.hi + 2
  low lsn h = grind (arith, nat_tests)

  -- a version knows of none of the new records
  known_same : (lsn number : ℕ) → lsn < 512 * p.hi + 2 → last_known (p.log ++ next_entries p records) lsn number ≡ last_known p.log lsn number
  known_same lsn number l = grind (arith, common_steps, last_where-append, none_passes, all_weaker, and_right, lt-leb, behind)

  logged_more : (lsn : ℕ) → IsTrue ((lsn == 0) || nat_lt lsn (512 * p.hi)) → IsTrue ((lsn == 0) || nat_lt lsn (512 * (p.hi + 1)))
  logged_more lsn h = grind (arith, nat_tests)

  fits_sealed : (page : ℕ) (v : Version) → FitsLog p page v → FitsLog (sealed p records) page v
  fits_sealed page v f = grind (arith, logged_more, known_same, low, before_same)

  undoable_sealed : GoesOn p records → IsUndoable (p.log ++ next_entries p records)
  undoable_sealed goes = undoable_behind_all p.master p.pages p.log (next_entries p records) undoable goes.follow

  whole_in_order : IsInOrder (512 * p.master.kept) (p.log ++ next_entries p records) (512 * (p.hi + 1))
  whole_in_order = grind (arith, in_order-append, in_order_from, new_in_order)

  sealed_with : GoesOn p records → IsSound (sealed p records)
  sealed_with goes = record {
    kept_before_redo = sound.kept_before_redo;
    redo_before_end = let r = sound.redo_before_end in omega (arith, r);
    kept_is_live = let r = goes.room in omega (arith, r);
    in_order = whole_in_order;
    open_transactions = InTurn-append_all (IsOfOpenTransaction p.master) [] p.log (next_entries p records) sound.open_transactions
        (InTurn-weaker (Follows p.master p.pages) (IsOfOpenTransaction p.master) (λ earlier e f late other. f.of_open other) p.log (next_entries p records) goes.follow);
    begun = begun_behind p (next_entries p records) (512 * (p.hi + 1)) sound
        (in_order_from (512 * p.hi + 2) (512 * p.hi) (next_entries p records) (512 * (p.hi + 1)) (omega arith) new_in_order) goes.follow;
    in_table = all_append (IsInTable p.pages) p.log (next_entries p records) sound.in_table
        (InTurn-all (Follows p.master p.pages) (IsInTable p.pages) (λ earlier e f. f.in_table) p.log (next_entries p records) goes.follow);
    losers_can_be_undone = (undoable_sealed goes).undone;
    losers_hold_others_off = (undoable_sealed goes).held;
    versions_fit = λ page h. fits_sealed page (version_at p.pages page) (sound.versions_fit page h);
    room_for_undo = goes.room;
    master_names_the_active = sound.master_names_the_active ∙ ap active_in (sym before_same);
    commits = goes.numbered;
    room_in_pages = λ page exists.
        let room = rooms_behind_all p p.log (next_entries p records) (512 * p.master.kept) (512 * (p.hi + 1)) page undoable whole_in_order goes.follow (sound.room_in_pages page exists) in
        record { redone_fits = room.redone_fits; open_fits = room.open_fits };
  }

  -- the count rises by the block's commits
  pub sealed_count : commit_count (sealed p records) ≡ commit_count p + length (commit_numbers (next_entries p records))
  sealed_count = grind (arith, from_more, filter_map-append, length-append)

  means_with : GoesOn p records → (table : List Content) (count : ℕ) → Means p table count →
      Means (sealed p records) (table_after_all table p.log (next_entries p records)) (count + length (commit_numbers (next_entries p records)))
  means_with goes table count means = grind (arith, table_behind_all, undoable, sealed_count)

  -- the commits run on where those of the block do
  pub numbered_with : (more : ℕ) → commit_numbers (next_entries p records) ≡ range_with_len (commit_count p + 1) more → AreNumbered (sealed p records)
  numbered_with more new = record {
    before_redo = let b = sound.commits.before_redo in omega (arith, b, ap (λ (l : List Entry). length (commit_numbers l)) before_same);
    run_on = all_run_on;
    fit = let f = sound.commits.fit in omega (arith, f, sealed_count, few_commits (512 * p.hi + 2) records, block.room);
  }
    where
      size : length (commit_numbers (next_entries p records)) ≡ more
      size = ap length new ∙ length-range_with_len (commit_count p + 1) more

      numbers : commit_numbers (p.log ++ next_entries p records) ≡ commit_numbers p.log ++ commit_numbers (next_entries p records)
      numbers = filter_map-append commit_number p.log (next_entries p records)

      before : ℕ
      before = length (commit_numbers (before_block p.master.redo p.log))

      old : ℕ
      old = length (commit_numbers p.log)

      all : length (commit_numbers (p.log ++ next_entries p records)) ≡ old + more
      all = ap length numbers ∙ length-append (commit_numbers p.log) (commit_numbers (next_entries p records)) ∙ ap (λ (n : ℕ). old + n) size

      all_run_on : commit_numbers (p.log ++ next_entries p records) ≡ range_with_len (p.master.commits + 1 - length (commit_numbers (before_block p.master.redo (p.log ++ next_entries p records)))) (length (commit_numbers (p.log ++ next_entries p records)))
      all_run_on =
          let b = sound.commits.before_redo in
          numbers ∙ ap (λ (l : List ℕ). commit_numbers p.log ++ l) new
          ∙ ap (λ (l : List ℕ). l ++ range_with_len (commit_count p + 1) more) sound.commits.run_on
          ∙ ap (λ n. range_with_len (p.master.commits + 1 - before) old ++ range_with_len n more) (omega (arith, b, commits_parts p.master.redo (512 * p.master.kept) p.log (512 * p.hi) sound.in_order))
          ∙ range_join (p.master.commits + 1 - before) old more
          ∙ ap (range_with_len (p.master.commits + 1 - before)) (sym all)
          ∙ sym (ap (λ (l : List Entry). range_with_len (p.master.commits + 1 - length (commit_numbers l)) (length (commit_numbers (p.log ++ next_entries p records)))) before_same)

pub sealed_is_sound : (p : LogicalImage) (records : List LogRecord) → IsSound p → GoesOn p records → IsSound (sealed p records)
sealed_is_sound p records sound goes = sealed_with p records sound goes.are_block goes

pub sealed_means : (p : LogicalImage) (records : List LogRecord) → IsSound p → GoesOn p records → (table : List Content) (count : ℕ) → Means p table count →
    Means (sealed p records) (table_after_all table p.log (next_entries p records)) (count + length (commit_numbers (next_entries p records)))
sealed_means p records sound goes = means_with p records sound goes.are_block goes
