-- A master is saved over flushed pages and an empty tail.
use Rattle.redo_undo.proofs.Names.{Means, History, settled, LeavesSome, LeavesSomeUnder, LeavesTableUnder, leaves_settled, leaves_weaker, ◌≡◌, ◌⊎◌, inl, inr, ℕ, ◌+◌, ◌-◌, ◌*◌, ◌/◌, ◌≤◌, ◌<◌, ◌==◌, Bool, true, false, List, [], ◌∷◌, map, drop, Option, Some, refl, sym, ap, subst, ◌∙◌, arith, append-nil, length, cond-true, cond-false, le-leb, lt-ltb, length-append, sum_by-cons, none-some, same_Some, list_any, AllByRecursion, if◌then◌else◌, filter, flat_map, max, nat_le, slice_get, sum_by, frame_of, Frame, seen, unit, IsUnit, master_in, Master, version_on, AppendsMaster, Makes, Reaches, ReadsAs, LeavesFront, Masters, Blocks, log_shape, KeepsUnits, master_shape, under_leaves_for, redone_is_current, version_is_redone, length-versions, version_is, IsFlushed, IsMasterOf, first_block, oldest_needed, logical_image_under, kept_by, versions_on, version_in, IsSoundUnder, LeavesFor, AreKnown, ShowsAll, listed_is_loser, loser_is_listed, in_order_filter, carries_nothing, whole_is_undoable, IsUndoable, whole, some_octet, Entry, Version, version_at, is_loser, entries_of, is_of, Active, LogicalImage, AreOrderly, from_block, last_lsn, active_in, before_block, IsInOrder, IsSound, IsLoserChain, used_by, spelling, losers, owed, owed_by, open_updates, LogRecord, has_tail, end_of, LogStore, fits_beside, versions_beside, AreLogged, cache_of, pool_page, current, PageStore, Content, current_same, more_sealed, sound_there, nothing_happens, hi_is, AreUnfinished, MayBeMade, begins_of, KeepUnfinished, IsSaved, Represents, blocks_to, Finds, Units, FitsIn, IsRing, hi_of, Ring, Shape, wants_flush, stays_honest, holds_now, in_sequence, Preserves, ChangesOnly, Leaves, LeavesOnly, State, Image, content_of, IsQuiet, Geometry, Log, Flash, Disk, lsn_of, all_member, each_member, end_forced}
use Rattle.image_meaning.proofs.Flushes.{oldest_is_there}
use Rattle.log_store.proofs.Standing.{holds_beside}
use Rattle.std_lemmas.proofs.Bools.{same_bools}
use Rattle.std.specs.Prelude.{nat_lt}
use Rattle.checkpoint.specs.declared.pairs.Pair.{Pair}
use Rattle.checkpoint.specs.Actives.{Ascend}
use Rattle.image_meaning.specs.Changes.{MaySave}
use Rattle.image_meaning.proofs.Naming.{master_is_saved}
use Rattle.image_meaning.proofs.Beside.{rings_saved}
use Rattle.image_meaning.proofs.Saves.{checkpoint_may_save, logical_image_saved, sound_saved, means_saved, orderly_saved}
use Rattle.image_meaning.proofs.CheckpointMoments.{save_stands}
use Rattle.checkpoint.proofs.UnitParts.{unit_read}
use Rattle.redo_laws.proofs.Runs.{runs_settled, means_settled}
use Rattle.redo_undo.proofs.NextRecords.{order_ends}
use Rattle.log_store.specs.Representation as log_store

-- the oldest of some transactions
pub first_is : (next : ℕ) (pairs : List Pair) (pair : Pair) → slice_get pairs 0 ≡ Some pair → first_block next (begins_of pairs) ≡ pair.begin / 512
first_is next [] pair there = absurd (none-some pair there)
first_is next (x ∷ pairs) pair there = ap (λ (p : Pair). p.begin / 512) (same_Some x pair there)

-- a tail that ends where it begins has no records
pub none_in_tail : (tail : List LogRecord) → used_by tail ≡ 2 → tail ≡ []
none_in_tail [] is = refl
none_in_tail (rec ∷ tail) is = absurd (omega (arith, is, some_octet rec, length-append (spelling rec) (flat_map spelling tail)))

-- without changed pages each page's content is its version
unchanged_frame : (frames : List Frame) (number : ℕ) (frame : Frame) → list_any (λ p. p.changed) (map pool_page frames) ≡ false → frame_of frames number ≡ Some frame → frame.changed ≡ false
unchanged_frame [] number frame clean found = grind (arith, none-some)
unchanged_frame (x ∷ frames) number frame clean found = grind (arith, same_Some, (unchanged_frame frames number frame))

pub clean_current : (log : LogStore) (pages : PageStore) (site : State) (newest : Option Master) (records : List Entry) (history : History) → Represents log pages site newest records history → wants_flush (cache_of pages) ≡ false → (number : ℕ) → current pages site.image number ≡ version_on pages.flash.geometry site.image number
clean_current log pages site newest records history h clean number = grind (arith, unchanged_frame)

-- known records stay known where some are left out
known_filter : (test : Entry → Bool) (log : List Entry) (page lsn : ℕ) → AreKnown log page lsn → AreKnown (filter test log) page lsn
known_filter test [] page lsn known = grind (arith)
known_filter test (e ∷ log) page lsn known = grind (arith, (known_filter test log page lsn known.1))

-- the Begins of the transactions that a master names
named_begins : (pairs : List Pair) → map (λ (a : Active). a.begin) (map (λ pair. record { begin = pair.begin; last = pair.last }) pairs) ≡ begins_of pairs
named_begins [] = refl
named_begins (pair ∷ pairs) = ap (λ (l : List ℕ). pair.begin ∷ l) (named_begins pairs)

active_begins : (log : List Entry) (ts : List ℕ) → map (λ (a : Active). a.begin) (map (λ t. record { begin = t; last = last_lsn (entries_of t log) }) ts) ≡ ts
active_begins log [] = refl
active_begins log (t ∷ ts) = ap (λ (l : List ℕ). t ∷ l) (active_begins log ts)

-- what is read the same after a change
then_same : (g : Geometry) (content : List ℕ) (old mid new : Image) → Makes g (AppendsMaster content) old mid → ReadsAs g mid new → Makes g (AppendsMaster content) old new
then_same g content old mid new made same = record {
  sizes = λ dev. same.sizes dev ∙ made.sizes dev;
  room = made.room;
  form = (same.rings Masters).form made.form;
  units = (same.rings Masters).units ∙ made.units;
  others = λ other differ. record { units = (same.rings other).units ∙ (made.others other differ).units; form = λ form. (same.rings other).form ((made.others other differ).form form) };
  disk = same.disk ∙ made.disk;
}

later_block : (a b : ℕ) → a ≤ b → max a b ≡ b
later_block a b less = omega (arith, less)

-- Lists.

sum_same : (f h : ℕ → ℕ) (xs : List ℕ) → AllByRecursion (λ t. f t ≡ h t) xs → sum_by f xs ≡ sum_by h xs
sum_same f h [] all = refl
sum_same f h (x ∷ xs) all = let here = all.0 in omega (arith, sum_by-cons f x xs, sum_by-cons h x xs, here, sum_same f h xs all.1)

filter_swap : (f h : Entry → Bool) (xs : List Entry) → filter f (filter h xs) ≡ filter h (filter f xs)
filter_swap f h [] = grind (arith)
filter_swap f h (x ∷ xs) = grind (arith, cond-true, cond-false, (filter_swap f h xs))

-- records in order from a block on stand there, and those before a block's end before it
all_from : (n low to : ℕ) (xs : List Entry) → 512 * n ≤ low → IsInOrder low xs to → from_block n xs ≡ xs
all_from n low to [] less order = grind (arith)
all_from n low to (x ∷ xs) less order = grind (arith, cond-true, le-leb, (all_from n (x.lsn + 1) to xs (let first = order.0 in omega (arith, less, first)) order.1))

all_before : (n from to : ℕ) (xs : List Entry) → to ≤ 512 * n → IsInOrder from xs to → before_block n xs ≡ xs
all_before n from to [] less order = grind (arith)
all_before n from to (x ∷ xs) less order = grind (arith, cond-true, lt-ltb, order_ends, (all_before n (x.lsn + 1) to xs less order.1))

-- all records of an unfinished transaction stand from its Begin on
chain_kept : (n t from to : ℕ) (log : List Entry) → IsInOrder from log to → IsLoserChain t (entries_of t log) → 512 * n ≤ t → entries_of t (from_block n log) ≡ entries_of t log
chain_kept n t from to log order chain late =
    let ordered = subst (λ (l : List Entry). IsInOrder from l to) chain.begins (in_order_filter (is_of t) from log to order) in
    let begun : IsInOrder t (entries_of t log) to = subst (λ (l : List Entry). IsInOrder t l to) (sym chain.begins) (omega arith, ordered.1) in
    filter_swap (is_of t) (λ e. nat_le (512 * n) e.lsn) log ∙ all_from n t to (entries_of t log) late begun

module _ (log : LogStore) (pages : PageStore) (site : State) (newest : Option Master) (records : List Entry) (table : List Content) (commits : ℕ) (h : Represents log pages site newest records (settled table commits))
    (sizes : log.geometry ≡ pages.flash.geometry) (empty : log.used ≡ 2) (clean : wants_flush (cache_of pages) ≡ false) (m : Master) (redo : m.redo ≡ log.ring.hi) (count : m.commits ≡ commits) (ascend : Ascend m.active) (unfinished : AreUnfinished records m.active) where
  abbrev g : Geometry
  g = pages.flash.geometry

  abbrev p : LogicalImage
  p = logical_image_under newest pages.flash.geometry site.image h.log_holds.blocks

  tail_is : h.log_holds.tail ≡ []
  tail_is = none_in_tail h.log_holds.tail (sym h.log_holds.ready.records.tail.end ∙ empty)

  log_is : p.log ≡ records
  log_is = sym (append-nil p.log) ∙ ap (λ (tail : List LogRecord). whole p tail) (sym tail_is) ∙ h.log_holds.runs_on.records_are

  means_now : Means p table commits
  means_now = means_settled p h.log_holds.tail records table commits h.log_holds.runs_on

  pub sound : IsSoundUnder newest pages.flash.geometry site.image h.log_holds.blocks
  sound = sound_there log pages site newest records (settled table commits) sizes h

  flushed : IsFlushed p
  flushed page less =
      let exists : page < g.pages = omega (arith, less, length-versions g site.image) in
      let version : lsn_of (current pages site.image page) ≡ (version_at p.pages page).lsn =
      ap lsn_of (clean_current log pages site newest records (settled table commits) h clean page) ∙ sym (ap (λ (v : Version). v.lsn) (version_is g site.image page exists)) in
      subst (λ (n : ℕ). AreKnown p.log page n) version (subst (λ (l : List Entry). AreKnown l page (lsn_of (current pages site.image page))) (sym log_is) (h.shows.each page exists).known)

  pub is_master : IsMasterOf p m
  is_master = record {
    redo = redo ∙ hi_is log pages site newest records (settled table commits) h;
    commits = count ∙ means_now.count_is;
    ascend = ascend;
    unfinished = subst (λ (l : List Entry). AllByRecursion (λ pair. (is_loser l pair.begin ≡ true) × (pair.last ≡ last_lsn (entries_of pair.begin l))) m.active) (sym log_is) unfinished.each;
    all = subst (λ (l : List Entry). (t : ℕ) → is_loser l t ≡ true → list_any (λ pair. pair.begin == t) m.active ≡ true) (sym log_is) unfinished.all;
  }

  -- the block of the oldest Begin is that of the oldest transaction that is needed
  pub needed_is : oldest_needed p ≡ first_block m.redo (begins_of m.active)
  needed_is =
      let named : (seen m).active ≡ active_in p.log = ap (λ k. k.active) (master_is_saved p m sound.records is_master) in
      let same : begins_of m.active ≡ losers p.log = sym (named_begins m.active) ∙ ap (map (λ (a : Active). a.begin)) named ∙ active_begins p.log (losers p.log) in
      λ i. first_block (sym is_master.redo i) (sym same i)

  -- it is one of the kept ones, or the next
  pub needed_there : (log.kept ≤ first_block m.redo (begins_of m.active)) × (first_block m.redo (begins_of m.active) ≤ m.redo)
  needed_there =
      let there = oldest_is_there p sound.records in
      (omega (arith, there.0, h.log_holds.kept, needed_is), omega (arith, there.1, needed_is, is_master.redo))

  module _ (kept : m.kept ≡ first_block m.redo (begins_of m.active)) (unit_is : IsUnit (unit m) m) (orderly : AreOrderly records ⊎ (m.active ≡ [])) where
    orderly_or_none : AreOrderly records ⊎ (m.active ≡ []) → AreOrderly p.log ⊎ (m.kept ≡ p.hi)
    orderly_or_none (inl is) = inl (subst AreOrderly (sym log_is) is)
    orderly_or_none (inr none) = inr (kept ∙ ap (λ (l : List Pair). first_block m.redo (begins_of l)) none ∙ is_master.redo)

    pub rises : kept_by newest ≤ m.kept
    rises = let there = needed_there.0 in let before = h.log_holds.kept in omega (arith, there, before, kept)

    pub may_save : MaySave newest pages.flash.geometry site.image h.log_holds.blocks (unit m)
    may_save = checkpoint_may_save newest g site.image h.log_holds.blocks (unit m) m sound unit_is is_master flushed rises (omega (arith, kept, needed_is)) (orderly_or_none orderly)

    -- behind it
    -- a crash while the unit is written leaves what stands for the same
    pub save_leaves : (new : State) → IsQuiet site → LeavesFront pages.flash.geometry (AppendsMaster (unit m) ∷ []) site new →
        LeavesOnly site new (LeavesFor pages.flash.geometry table commits site.told)
    save_leaves new quiet front = save_stands newest g site site new h.log_holds.blocks _ table commits
        (under_leaves_for newest g site site table commits site.told (nothing_happens log pages site newest records table commits sizes h quiet)) refl sound
        means_now may_save front

    module _ (new : State) (reaches : Reaches pages.flash.geometry (AppendsMaster (unit m) ∷ []) site.image new.image) (changes : ChangesOnly Log site new) (goes : Preserves site new) where
      made : Makes g (AppendsMaster (unit m)) site.image new.image
      made = then_same g (unit m) site.image reaches.0 new.image reaches.1 reaches.2

      -- the log's blocks are still there
      kept_log : KeepsUnits (log_shape log.geometry) site.image new.image
      kept_log = subst (λ (k : Geometry). KeepsUnits (log_shape k) site.image new.image) (sym sizes) (made.others Blocks (λ same. cc))

      pub finds_log : log_store.Finds log new
      finds_log = let finds = h.log_holds.ready.blocks in record {
        honest = stays_honest site new goes finds.honest;
        form = kept_log.form finds.form;
        hi = finds.hi ∙ sym (ap (λ (u : Units). u.hi) kept_log.units);
      }

      pub held_log : log_store.Represents log new.image (record { first = kept_by newest; blocks = h.log_holds.blocks; tail = h.log_holds.tail })
      held_log = holds_beside log site.image new.image _ kept_log h.log_holds.ready.records

      pub held_after : (log' : LogStore) → log_store.Represents log' new.image (record { first = max (kept_by newest) m.kept; blocks = drop (m.kept - kept_by newest) h.log_holds.blocks; tail = h.log_holds.tail }) →
          log_store.Represents log' new.image (record { first = m.kept; blocks = drop (m.kept - kept_by newest) h.log_holds.blocks; tail = h.log_holds.tail })
      held_after log' held =
          subst (λ (first : ℕ). log_store.Represents log' new.image (record { first = first; blocks = drop (m.kept - kept_by newest) h.log_holds.blocks; tail = h.log_holds.tail })) (later_block (kept_by newest) m.kept rises) held

      read : master_in (unit m) ≡ m
      read = unit_read (unit m) m unit_is

      abbrev n : Master
      n = master_in (unit m)

      abbrev blocks : List (List LogRecord)
      blocks = drop ((master_in (unit m)).kept - kept_by newest) h.log_holds.blocks

      abbrev q : LogicalImage
      q = logical_image_under (Some (master_in (unit m))) pages.flash.geometry new.image (drop ((master_in (unit m)).kept - kept_by newest) h.log_holds.blocks)

      sound_now : IsSoundUnder (Some n) g new.image blocks
      sound_now = sound_saved newest g site.image new.image h.log_holds.blocks (unit m) sound may_save made

      records_now : q.log ≡ from_block n.kept records
      records_now = ap (λ (x : LogicalImage). x.log) (logical_image_saved newest g site.image new.image h.log_holds.blocks (unit m) sound may_save made) ∙ ap (from_block n.kept) log_is

      pub orderly_now : AreOrderly (from_block m.kept records)
      orderly_now =
          subst (λ (k : Master). AreOrderly (from_block k.kept records)) read
          (subst AreOrderly records_now (orderly_saved newest g site.image new.image h.log_holds.blocks (unit m) sound may_save made))

      undoable_of : (r : LogicalImage) → IsSound r → IsUndoable r.log
      undoable_of r is = subst IsUndoable (append-nil r.log) (whole_is_undoable r [] (carries_nothing r is))

      -- the unfinished transactions are the same
      losers_now : losers q.log ≡ losers p.log
      losers_now =
          let named : (seen m).active ≡ active_in p.log = ap (λ k. k.active) (master_is_saved p m sound.records is_master) in
          let redo_is : n.redo ≡ q.hi = ap (λ (k : Master). k.redo) read ∙ is_master.redo ∙ sym (ap (λ (x : LogicalImage). x.hi) (logical_image_saved newest g site.image new.image h.log_holds.blocks (unit m) sound may_save made)) in
          let all : before_block n.redo q.log ≡ q.log = all_before n.redo (512 * q.master.kept) (512 * q.hi) q.log (omega (arith, redo_is)) sound_now.records.in_order in
          let named_now : (seen n).active ≡ active_in q.log = sound_now.records.master_names_the_active ∙ ap active_in all in
          sym (active_begins q.log (losers q.log)) ∙ ap (map (λ (a : Active). a.begin)) (sym named_now) ∙ ap (λ (k : Master). map (λ (a : Active). a.begin) (seen k).active) read
          ∙ ap (map (λ (a : Active). a.begin)) named ∙ active_begins p.log (losers p.log)

      loser_now : (t : ℕ) → is_loser q.log t ≡ is_loser p.log t
      loser_now t = same_bools (is_loser q.log t) (is_loser p.log t)
          (λ is. listed_is_loser p.log t (subst (λ (l : List ℕ). list_any (λ s. s == t) l ≡ true) losers_now (loser_is_listed q.log t (undoable_of q sound_now.records) is)))
          (λ is. listed_is_loser q.log t (subst (λ (l : List ℕ). list_any (λ s. s == t) l ≡ true) (sym losers_now) (loser_is_listed p.log t (undoable_of p sound.records) is)))

      entries_now : (t : ℕ) → is_loser p.log t ≡ true → entries_of t (from_block n.kept p.log) ≡ entries_of t p.log
      entries_now t is =
          chain_kept n.kept t (512 * p.master.kept) (512 * p.hi) p.log sound.records.in_order (sound.records.losers_can_be_undone t is)
          (all_member (λ s. 512 * n.kept ≤ s) (losers p.log) t may_save.may.losers_kept (loser_is_listed p.log t (undoable_of p sound.records) is))

      logical_image_log : q.log ≡ from_block n.kept p.log
      logical_image_log = ap (λ (x : LogicalImage). x.log) (logical_image_saved newest g site.image new.image h.log_holds.blocks (unit m) sound may_save made)

      owed_now : owed q.log ≡ owed p.log
      owed_now =
          ap (sum_by (owed_by q.log)) losers_now
          ∙ sum_same (owed_by q.log) (owed_by p.log) (losers p.log)
          (each_member (λ t. owed_by q.log t ≡ owed_by p.log t) (losers p.log)
          (λ t any. ap (λ (l : List Entry). length (open_updates [] l) + 1) (ap (entries_of t) logical_image_log ∙ entries_now t (listed_is_loser p.log t any))))

      pub unfinished_now : KeepUnfinished records (from_block m.kept records)
      unfinished_now = grind (arith, read, log_is, logical_image_log, loser_now, entries_now, owed_now)

      shows_now : (page : ℕ) → page < g.pages → ShowsAll (from_block n.kept records) (versions_on g new.image) page (version_in (current pages new.image page))
      shows_now page exists =
          let v = version_at q.pages page in
          let here : v ≡ version_in (current pages new.image page) =
          version_is g new.image page exists ∙ ap version_in (versions_beside g site new page changes)
          ∙ ap version_in (sym (clean_current log pages site newest records (settled table commits) h clean page)) ∙ ap version_in (sym (current_same pages site new changes page)) in
          let known : AreKnown q.log page v.lsn =
          subst (λ (l : List Entry). AreKnown l page v.lsn) (sym records_now)
          (subst (λ (w : Version). AreKnown (from_block n.kept records) page w.lsn) (sym here)
          (subst (λ (c : List ℕ). AreKnown (from_block n.kept records) page (lsn_of c)) (sym (current_same pages site new changes page))
          (known_filter (λ e. nat_le (512 * n.kept) e.lsn) records page (lsn_of (current pages site.image page)) (h.shows.each page exists).known))) in
          subst (λ (w : Version). ShowsAll (from_block n.kept records) (versions_on g new.image) page w) here
          (subst (λ (l : List Entry). ShowsAll l (versions_on g new.image) page v) records_now
          (redone_is_current q page v (version_is_redone q page sound_now.records (omega (arith, exists, length-versions g new.image))) known).all)

      -- the log lets go of the blocks before
      module _ (log' : LogStore) (is : log' ≡ record log { kept = m.kept }) (finds : log_store.Finds log new → log_store.Finds log' new)
          (held : log_store.Finds log new → log_store.Represents log new.image (record
          { first = kept_by newest; blocks = h.log_holds.blocks; tail = h.log_holds.tail }) →
          log_store.Represents log' new.image (record { first = max (kept_by newest) m.kept; blocks = drop (m.kept - kept_by newest) h.log_holds.blocks; tail = h.log_holds.tail })) where
        pub saved_holds : Represents log' pages new (Some m) (from_block m.kept records) (settled table commits)
        saved_holds = subst (λ (k : Master). Represents log' pages new (Some k) (from_block k.kept records) (settled table commits)) read (record {
          log_holds = record {
            kept = ap (λ (l : LogStore). l.kept) is ∙ ap (λ (k : Master). k.kept) (sym read);
            blocks = blocks;
            tail = [];
            ready = record {
              pages = fits_beside pages site new changes goes h.log_holds.ready.pages;
              blocks = finds finds_log;
              records = subst (λ (tail : List LogRecord). log_store.Represents log' new.image (record { first = n.kept; blocks = drop (n.kept - kept_by newest) h.log_holds.blocks; tail = tail })) tail_is
                  (subst (λ (k : Master). log_store.Represents log' new.image (record { first = k.kept; blocks = drop (k.kept - kept_by newest) h.log_holds.blocks; tail = h.log_holds.tail })) (sym read) (held_after log' (held finds_log held_log)));
            };
            rings = rings_saved newest g (unit m) site.image new.image h.log_holds.rings may_save.unit made;
            runs_on = runs_settled q [] (from_block n.kept records) table commits (carries_nothing q sound_now.records)
                (means_saved newest g site.image new.image h.log_holds.blocks (unit m) sound may_save made table commits means_now) refl (append-nil q.log ∙ records_now);
            ahead = record {
              pool = subst (λ (l : LogStore). AreLogged (end_forced l) pages.pool.frames) (sym is) h.log_holds.ahead.pool;
              versions = more_sealed pages site new changes log log' sizes (ap (λ (l : LogStore). l.geometry) is) h.log_holds.ready.blocks
                  (finds finds_log)
                  (let same = ap (λ (l : LogStore). l.ring.hi) is in omega (arith, same)) h.log_holds.ahead.versions;
            };
            room = room_now;
          };
          shows = record { each = shows_now };
          below = λ page exists.
              subst (λ (l : LogStore). lsn_of (current pages new.image page) < end_of l) (sym is)
              (subst (λ (c : List ℕ). lsn_of c < end_of log) (sym (current_same pages site new changes page)) (h.below page exists));
        })
          where
            none : ◌≡◌ {A = ℕ} (if has_tail log then 1 else 0) 0
            none = ap {B = ℕ} (λ (b : Bool). if b then 1 else 0) (ap (nat_lt 2) empty)

            room_now : blocks_to log' + owed (from_block n.kept records) ≤ log'.kept + (g.blocks - 1)
            room_now =
                let owed_is : owed q.log ≡ owed (from_block n.kept records) = ap owed records_now in
                let hi_is_q : q.hi ≡ p.hi = ap (λ (x : LogicalImage). x.hi) (logical_image_saved newest g site.image new.image h.log_holds.blocks (unit m) sound may_save made) in
                let hi = hi_is log pages site newest records (settled table commits) h in
                let same : blocks_to log' ≡ blocks_to log = ap blocks_to is in
                let kept_is : log'.kept ≡ n.kept = ap (λ (l : LogStore). l.kept) is ∙ ap (λ (k : Master). k.kept) (sym read) in
                omega (arith, sound_now.records.room_for_undo, owed_is, hi_is_q, hi, same, kept_is, none, may_save.may.kept_in_log)

        pub is_saved : (masters : Ring) → Finds masters new → IsSaved log' pages masters new records table commits m
        is_saved masters found = record { holds = saved_holds; orderly = orderly_now; keeps = unfinished_now; found = found }

-- a log may go on after any calls on its site
pub log_still : (log : LogStore) (old new : State) → Preserves old new → log_store.Invariant log old → log_store.Invariant log new
log_still log old new goes may = record {
  limits = may.limits;
  lengths = record { log = goes.sizes Log ∙ may.lengths.log; flash = goes.sizes Flash ∙ may.lengths.flash; disk = goes.sizes Disk ∙ may.lengths.disk };
  usable = record { fits = subst (FitsIn log.ring.shape) (sym (goes.sizes log.ring.shape.dev)) may.usable.fits; bounded = may.usable.bounded };
  shape = may.shape;
  kept = may.kept;
  live = may.live;
  low = may.low;
  high = may.high;
}

-- the master ring is found where its units are kept
pub finds_kept : (masters : Ring) (old new : State) → masters.shape ≡ master_shape → KeepsUnits master_shape old.image new.image → Finds masters old → Finds masters new
finds_kept masters old new shape keeps finds = record {
  form = subst (λ (s : Shape). IsRing s (content_of s.dev new.image)) (sym shape) (keeps.form (subst (λ (s : Shape). IsRing s (content_of s.dev old.image)) shape finds.form));
  hi = subst (λ (s : Shape). masters.hi ≡ hi_of s (content_of s.dev new.image)) (sym shape)
      (subst (λ (s : Shape). masters.hi ≡ hi_of s (content_of s.dev old.image)) shape finds.hi ∙ sym (ap (λ (u : Units). u.hi) keeps.units));
}

-- what a crash leaves, whatever the newest master is
pub some_leaves_for : (newest : Option Master) (g : Geometry) (old new : State) (history : History) (so_far : List ℕ) → LeavesOnly old new (LeavesSomeUnder newest g history so_far) → LeavesOnly old new (LeavesSome g history so_far)
some_leaves_for newest g old new history so_far leaves =
    leaves_weaker old new (LeavesSomeUnder newest g history so_far) (LeavesSome g history so_far)
    (λ s q. record { told = q.told; count = q.count; from_floor = q.from_floor; within = q.within; stands = record { newest = newest; stands = q.stands } }) leaves

-- which is the table, where no commit waits
pub settled_leaves_for : (newest : Option Master) (g : Geometry) (old new : State) (table : List Content) (commits : ℕ) (so_far : List ℕ) → LeavesOnly old new (LeavesSomeUnder newest g (settled table commits) so_far) → LeavesOnly old new (LeavesFor g table commits so_far)
settled_leaves_for newest g old new table commits so_far leaves =
    under_leaves_for newest g old new table commits so_far (leaves_weaker old new (LeavesSomeUnder newest g (settled table commits) so_far) (LeavesTableUnder newest g table commits so_far) leaves_settled leaves)

-- one call behind others
pub then_for : (g g' : Geometry) (old mid new : State) (table : List Content) (commits : ℕ) → g' ≡ g → LeavesOnly old mid (LeavesFor g table commits old.told) → LeavesOnly mid new (LeavesFor g' table commits mid.told) → LeavesOnly old new (LeavesFor g table commits old.told)
then_for g g' old mid new table commits same first second =
    let told : mid.told ≡ old.told = (holds_now old mid (LeavesFor g table commits old.told) first).told in
    in_sequence old mid new (Leaves (LeavesFor g table commits old.told)) first
    (subst (λ (t : List ℕ). LeavesOnly mid new (LeavesFor g table commits t)) told (subst (λ (x : Geometry). LeavesOnly mid new (LeavesFor x table commits mid.told)) same second))

pub may_still : (masters : Ring) (old new : State) (records : List Entry) (active : List Pair) → masters.shape ≡ master_shape → KeepsUnits master_shape old.image new.image → MayBeMade masters old records active → MayBeMade masters new records active
may_still masters old new records active shape keeps may = record { ring = finds_kept masters old new shape keeps may.ring; unfinished = may.unfinished; orderly = may.orderly }
