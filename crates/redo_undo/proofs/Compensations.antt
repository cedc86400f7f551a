-- Undoing an Update.
use Rattle.redo_undo.proofs.Names.{History, ◌≡◌, ℕ, ◌+◌, ◌-◌, ◌*◌, ◌≤◌, ◌<◌, ◌==◌, ◌||◌, Bool, true, false, List, [], ◌∷◌, ◌++◌, length, Option, None, Some, true≢false, refl, sym, ap, subst, ◌∙◌, arith, none-some, same_Some, if◌then◌else◌, find, Master, next_block_is, length-versions, master_of, logical_image_under, versions_on, kept_by, loser_is_not_closed, owed_clr, whole_is_undoable, clr_is_written, first_read, undo_step, update_is_last, Unfinished, IsUnfinished, Follows, IsUndoable, whole, IsLink, goes_back, Entry, Version, txn_by, txn_of, number_of, before_of, is_closed, is_update, log_from, entries_from, entries_of, LogicalImage, IsLoserChain, AreOrderly, is_clr, left_open, owed, LogRecord, Begin, Update, Clr, Commit, End, entries, at_lsn, LogStore, PageStore, Content, Represents, MayGrow, blocks_to, IsAt, IsStepOf, IsWanted, Undone, Compensate, Pass, UndoCursor, State, Image, Geometry}
use Rattle.log_laws.specs.UndoSteps.{IsToUndo}
use Rattle.redo_undo.specs.declared.undo.Wanted.{Wanted}
use Rattle.redo_undo.specs.declared.undo.Step.{Step}

-- a record that is found by its LSN
found_by : (b : Bool) (e u : Entry) (rest : Option Entry) (last : Option LogRecord) → (rest ≡ Some u → last ≡ Some u.rec) →
    (if b then Some e else rest) ≡ Some u → (if b then Some e.rec else last) ≡ Some u.rec
found_by true e u rest last later found = let same : e ≡ u = cc in ap (λ (x : Entry). Some x.rec) same
found_by false e u rest last later found = later found

pub found_at : (lsn : ℕ) (log : List Entry) (u : Entry) → find (λ e. e.lsn == lsn) log ≡ Some u → at_lsn lsn log ≡ Some u.rec
found_at lsn [] u found = cc
found_at lsn (e ∷ log) u found = found_by (e.lsn == lsn) e u (find (λ e. e.lsn == lsn) log) (at_lsn lsn log) (found_at lsn log u) found

-- the store's list is the whole log
pub entries_are : (newest : Option Master) (g : Geometry) (image : Image) (blocks : List (List LogRecord)) (tail : List LogRecord) → entries (record { first = kept_by newest; blocks = blocks; tail = tail }) ≡ whole (logical_image_under newest g image blocks) tail
entries_are newest g image blocks tail = ap (λ (n : ℕ). log_from (kept_by newest) blocks ++ entries_from (512 * n + 2) tail) (sym (next_block_is newest blocks))

module _ (log : LogStore) (pages : PageStore) (site : State) (newest : Option Master) (records : List Entry) (history : History) (h : Represents log pages site newest records history) (x : Unfinished) (unfinished : IsUnfinished records x) where
  abbrev g : Geometry
  g = pages.flash.geometry

  abbrev p : LogicalImage
  p = logical_image_under newest pages.flash.geometry site.image h.log_holds.blocks

  abbrev listed : List Entry
  listed = entries (record { first = kept_by newest; blocks = h.log_holds.blocks; tail = h.log_holds.tail })

  -- the record that undoing reads next stands where it goes on
  pub to_read : (e : Entry) (rest : List Entry) → x.chain ≡ e ∷ rest → at_lsn x.next (entries (record { first = kept_by newest; blocks = h.log_holds.blocks; tail = h.log_holds.tail })) ≡ Some e.rec
  to_read e rest split =
      ap (at_lsn x.next) (entries_are newest g site.image h.log_holds.blocks h.log_holds.tail ∙ h.log_holds.runs_on.records_are)
      ∙ found_at x.next records e (first_read records x unfinished e rest split).0.found

  -- whichever record it is that was read there
  pub read_is : (lsn : ℕ) (rec : LogRecord) (e : Entry) (rest : List Entry) → x.chain ≡ e ∷ rest → lsn ≡ x.next → at_lsn lsn (entries (record { first = kept_by newest; blocks = h.log_holds.blocks; tail = h.log_holds.tail })) ≡ Some rec → e.rec ≡ rec
  read_is lsn rec e rest split at read = same_Some e.rec rec (sym (to_read e rest split) ∙ ap (λ (n : ℕ). at_lsn n listed) (sym at) ∙ read)

  -- and one is
  pub is_there : (lsn : ℕ) (e : Entry) (rest : List Entry) → x.chain ≡ e ∷ rest → lsn ≡ x.next → at_lsn lsn (entries (record { first = kept_by newest; blocks = h.log_holds.blocks; tail = h.log_holds.tail })) ≡ None → ⊥
  is_there lsn e rest split at none = none-some e.rec (sym none ∙ ap (λ (n : ℕ). at_lsn n listed) at ∙ to_read e rest split)

  -- an Update that is read next is to be undone
  to_undo : (u : Entry) (rest : List Entry) → x.chain ≡ u ∷ rest → is_update u.rec ≡ true → IsToUndo p records x u.rec
  to_undo u rest split update =
      let are = h.log_holds.runs_on.records_are in
      subst (λ (l : List Entry). IsToUndo p l x u.rec) are (undo_step p h.log_holds.tail x h.log_holds.runs_on.carries (subst (λ (l : List Entry). IsUnfinished l x) (sym are) unfinished) u rest split update)

  -- undoing goes on from each record that it reads
  pub steps : (at : UndoCursor) (e : Entry) (rest : List Entry) → IsAt at x → x.chain ≡ e ∷ rest → (step : Step) × IsStepOf at g.pages e.rec step
  steps at e rest is split = subst (λ (rec : LogRecord). (step : Step) × IsStepOf at g.pages rec step) refl (by e.rec refl)
    where
      link : IsLink records x.txn x.next e
      link = (first_read records x unfinished e rest split).0

      by : (rec : LogRecord) → e.rec ≡ rec → (step : Step) × IsStepOf at g.pages rec step
      by (Update txn prev page slot before after) same =
          let to = subst (IsToUndo p records x) same (to_undo e rest split (ap is_update same)) in
          let falls = to.2 in
          (Compensate (record { prev = prev; page = page; slot = slot; before = before }), (to.0 ∙ sym is.txn, omega (arith, falls, is.next), omega (arith, to.4, length-versions g site.image), refl))
      by (Clr txn prev undo_next page slot after) same =
          let own : txn ≡ x.txn = sym (ap (txn_by e.lsn) same) ∙ link.own in
          let falls = link.falls in
          let back : goes_back e.rec ≡ undo_next = ap goes_back same in
          (Pass undo_next, (own ∙ sym is.txn, omega (arith, falls, back, is.next), refl))
      by Begin same = absurd (true≢false (sym link.change ∙ ap (λ r. is_update r || is_clr r) same))
      by (Commit txn number) same = absurd (true≢false (sym link.change ∙ ap (λ r. is_update r || is_clr r) same))
      by (End txn) same = absurd (true≢false (sym link.change ∙ ap (λ r. is_update r || is_clr r) same))

  -- what the Update has that is read next
  pub wanted_is : (at : UndoCursor) (u : Entry) (rest : List Entry) (w : Wanted) → x.chain ≡ u ∷ rest → IsStepOf at g.pages u.rec (Compensate w) → IsWanted g site.image newest records x u w
  wanted_is at u rest w split step = by u.rec refl step
    where
      by : (rec : LogRecord) → u.rec ≡ rec → IsStepOf at g.pages rec (Compensate w) → IsWanted g site.image newest records x u w
      by (Update txn prev page slot before after) same is =
          let to = subst (IsToUndo p records x) same (to_undo u rest split (ap is_update same)) in
          subst (λ (v : Wanted). IsWanted g site.image newest records x u v) (sym is.3)
          (record {
            number = ap number_of same;
            before = ap before_of same;
            back = ap goes_back same;
            late = to.1;
            early = to.2;
            exists = is.2;
            follows = to.5;
          })
      by _ same is = absurd is

  -- where an Update is read next, one is left
  pub some_remain : (u : Entry) (rest : List Entry) → x.chain ≡ u ∷ rest → is_update u.rec ≡ true → 0 < x.remaining
  some_remain u rest split update = let left = ap length (update_is_last records x unfinished u rest split update) in omega (arith, unfinished.remaining_is, left)

  -- its transaction can be undone
  pub chain : IsLoserChain x.txn (entries_of x.txn records)
  chain = (subst IsUndoable h.log_holds.runs_on.records_are (whole_is_undoable p h.log_holds.tail h.log_holds.runs_on.carries)).undone x.txn unfinished.loser

-- A record that is no Update may follow whatever the pages show.
pub follows_moved : (newest : Option Master) (versions versions' : List Version) (records : List Entry) (e : Entry) → is_update e.rec ≡ false → length versions' ≡ length versions → Follows (master_of newest) versions records e → Follows (master_of newest) versions' records e
follows_moved newest versions versions' records e other same f = grind (arith)

pub may_moved : (log log' : LogStore) (pages pages' : PageStore) (old new : Image) (newest : Option Master) (records : List Entry) (e : Entry) → is_update e.rec ≡ false → pages'.flash.geometry ≡ pages.flash.geometry → blocks_to log' ≡ blocks_to log → log'.kept ≡ log.kept →
    MayGrow log pages old newest records e → MayGrow log' pages' new newest records e
may_moved log log' pages pages' old new newest records e other geometry blocks kept may = grind (arith, follows_moved, length-versions)

-- A CLR of an unfinished transaction may be logged: with it there is less to undo.
module _ (log : LogStore) (pages : PageStore) (site : State) (newest : Option Master) (records : List Entry) (history : History) (h : Represents log pages site newest records history) (x : Unfinished) (unfinished : IsUnfinished records x) where
  pub owes_less : (e : Entry) → is_clr e.rec ≡ true → txn_of e ≡ x.txn → 0 < x.remaining → owed records ≡ owed (records ++ e ∷ []) + 1
  owes_less e clr own some =
      owed_clr records e clr (subst (λ t. is_closed records t ≡ false) (sym own) (loser_is_not_closed records x.txn unfinished.loser))
      (subst (λ t. IsLoserChain t (entries_of t records)) (sym own) (chain log pages site newest records history h x unfinished))
      (subst (λ t. 0 < length (left_open records t)) (sym own) (omega (arith, some, unfinished.remaining_is)))

  pub may_compensate : (at : UndoCursor) (u : Entry) (w : Wanted) (lsn : ℕ) → IsAt at x → 0 < x.remaining → IsWanted pages.flash.geometry site.image newest records x u w →
      MayGrow log pages site.image newest records (record { lsn = lsn; rec = Clr at.txn at.last w.prev w.page w.slot w.before })
  may_compensate at u w lsn is some wanted =
      let e : Entry = record { lsn = lsn; rec = Clr at.txn at.last w.prev w.page w.slot w.before } in
      record {
        follows = subst (λ (t : ℕ). Follows (master_of newest) (versions_on pages.flash.geometry site.image) records (record { lsn = lsn; rec = Clr t at.last w.prev w.page w.slot w.before })) (sym is.txn)
            (subst (λ (l : ℕ). Follows (master_of newest) (versions_on pages.flash.geometry site.image) records (record { lsn = lsn; rec = Clr x.txn l w.prev w.page w.slot w.before })) (sym is.last) (wanted.follows lsn));
        no_commit = refl;
        room = omega (arith, owes_less e refl is.txn some, h.log_holds.room);
      }

  -- there is room for it
  pub room_for_clr : 0 < x.remaining → blocks_to log + 1 ≤ log.kept + (pages.flash.geometry.blocks - 1)
  room_for_clr some =
      let e : Entry = record { lsn = 0; rec = Clr x.txn 0 0 0 0 None } in
      omega (arith, owes_less e refl refl some, h.log_holds.room)

-- it was logged
pub undone : (g : Geometry) (log : LogStore) (pages : PageStore) (image : Image) (site : State) (newest : Option Master) (records : List Entry) (history : History) (x : Unfinished) (at : UndoCursor) (u : Entry) (rest : List Entry) (w : Wanted) (lsn : ℕ) →
    IsUnfinished records x → IsAt at x → x.chain ≡ u ∷ rest → is_update u.rec ≡ true → 0 < x.remaining → IsWanted g image newest records x u w → x.last < lsn →
    Represents log pages site newest (records ++ record { lsn = lsn; rec = Clr at.txn at.last w.prev w.page w.slot w.before } ∷ []) history →
    owed records ≡ owed (records ++ record { lsn = lsn; rec = Clr at.txn at.last w.prev w.page w.slot w.before } ∷ []) + 1 →
    (AreOrderly records → AreOrderly (records ++ record { lsn = lsn; rec = Clr at.txn at.last w.prev w.page w.slot w.before } ∷ [])) → Undone log pages site newest records history x (record { txn = at.txn; last = lsn; next = w.prev })
undone g log pages image site newest records history x at u rest w lsn unfinished is split update some wanted late holds owes orderly =
    let e : Entry = record { lsn = lsn; rec = Clr at.txn at.last w.prev w.page w.slot w.before } in
    record {
      e = e;
      page = w.page;
      slot = w.slot;
      before = w.before;
      e_is = λ i. record { lsn = lsn; rec = Clr (is.txn i) (is.last i) w.prev w.page w.slot w.before };
      clr = refl;
      own = is.txn;
      holds = holds;
      left = clr_is_written records x unfinished u rest e split update refl is.txn (sym wanted.back) (omega (arith, late));
      at = record { txn = is.txn; last = refl; next = refl };
      later = late;
      fewer = omega (arith, some);
      owes = owes;
      orderly = orderly;
    }

-- What undoing does with an Update, and with a CLR.
pub is_an_update : (at : UndoCursor) (pages : ℕ) (rec : LogRecord) (w : Wanted) → IsStepOf at pages rec (Compensate w) → is_update rec ≡ true
is_an_update at pages (Update txn prev page slot before after) w is = refl
is_an_update at pages _ w is = absurd is

pub is_a_clr : (at : UndoCursor) (pages : ℕ) (rec : LogRecord) (next : ℕ) → IsStepOf at pages rec (Pass next) → (is_clr rec ≡ true) × (next ≡ goes_back rec)
is_a_clr at pages (Clr txn prev undo_next page slot after) next is = (refl, is.2)
is_a_clr at pages _ next is = absurd is

pub no_update : (rec : LogRecord) → is_clr rec ≡ true → is_update rec ≡ true → ⊥
no_update (Update txn prev page slot before after) clr update = true≢false (sym clr)
no_update (Clr txn prev undo_next page slot after) clr update = true≢false (sym update)
no_update Begin clr update = true≢false (sym clr)
no_update (Commit txn number) clr update = true≢false (sym clr)
no_update (End txn) clr update = true≢false (sym clr)
