use Rattle.redo_undo.proofs.Names.{History, List, ◌≡◌, ◌+◌, ◌-◌, ◌^◌, ◌≤◌, ◌++◌, ◌∷◌, [], length, refl, sym, ap, subst, ◌∙◌, arith, ℕ, true≢false, append-nil, ⊤, Result, Master, Unfinished, IsUnfinished, Entry, left_open, owed, End, LogStore, rules, PageStore, Content, Represents, MayGrow, blocks_to, undo_one_works, undo_one_work, AreClrsOf, Compensates, UndoesWork, IsAt, ends, State, Geometry, Stop}
use Rattle.redo_undo.proofs.UndoCalls.{undoes_answered, undoes_as, undoes_beside, undoes_failed, undoes_few, undoes_stopped, undoes_then}
use Rattle.std.specs.Prelude.{Option}
use Rattle.std.proofs.Common.{Ok, Err}
use Rattle.redo_undo.proofs.Rollbacks.{few_left, room_for_end, may_end, owes_all, rolls_back}
use Rattle.redo_undo.proofs.UpTo.{all_done, does_all}
use Rattle.redo_undo.proofs.Calling.{works_answered, works_appended, works_foreign, works_stopped, works_then}
use Rattle.redo_undo.proofs.undo.undo_one.Given.{Over}
use Rattle.redo_undo.proofs.undo.undo_one.Goals.{In-Ok}
use Rattle.redo_undo.proofs.undo.undo_one.Goals as goal

-- All of them are undone.

module _ (g : Over) (c : In-Ok g) (newest : Option Master) (records : List Entry) (history : History) (x : Unfinished)
    (h : Represents c.args.log.now c.args.pages.now (g.S.Site.state c.args.site.now) newest records history) (unfinished : IsUnfinished records x)
    (own : x.txn ≡ c.args.txn) (last : x.last ≡ c.args.last) (next : x.next ≡ c.args.last) where
  abbrev old : State
  old = g.S.Site.state c.args.site.now

  abbrev site : State
  site = g.S.Site.state c.undo_updates.new.site

  abbrev log : LogStore
  log = c.undo_updates.new.log

  abbrev pages : PageStore
  pages = c.undo_updates.new.pages

  at : IsAt (record { txn = c.args.txn; last = c.args.last; next = c.args.last }) x
  at = record { txn = sym own; last = sym last; next = sym next }

  abbrev done : Compensates log pages site newest records history x.txn (blocks_to c.args.log.now) c.in-Ok.at
  done = (c.in-Ok.ensures.undone newest records history x h unfinished at).made

  -- no transaction has as many Updates as may be undone
  few : length (left_open records x.txn) ≤ 2 ^ 64 - 1
  few = few_left c.args.log.now c.args.pages.now old newest records history h c.requires.going x unfinished

  none : done.x.remaining ≡ 0
  none = all_done (c.in-Ok.ensures.undone newest records history x h unfinished at) few

  -- and the End behind it
  behind : (r : Result ℕ Stop) (log' : LogStore) (new : State) → UndoesWork r ends [] log log' pages pages site new newest history 1 0 →
      UndoesWork r (undo_one_work records c.args.txn) (undo_one_works records c.args.txn) c.args.log.now log' c.args.pages.now pages old new newest history (x.remaining + 1) (length x.chain)
  behind r log' new end =
      subst (λ (t : ℕ). UndoesWork r (undo_one_work records t) (undo_one_works records t) c.args.log.now log' c.args.pages.now pages old new newest history (x.remaining + 1) (length x.chain)) own
      (undoes_few (omega arith) (omega arith) (undoes_as refl (sym (append-nil (undo_one_works records x.txn)))
      (undoes_then h c.in-Ok.ensures.works (does_all x unfinished few (c.in-Ok.ensures.does newest records history x h unfinished at)) end)))

pub returns-in-Ok-log_record : goal.returns-in-Ok-log_record
returns-in-Ok-log_record g c =
    let site = g.S.Site.state c.undo_updates.new.site in
    let start = blocks_to c.args.log.now in
    let log = c.undo_updates.new.log in
    let pages = c.undo_updates.new.pages in
    let s = (goal.at.returns-in-Ok-log_record g c).In-Ok in
    let lsn = c.in-Ok-log_record.field-0 in
    let new = g.S.Site.state c.log_record.new.site in
    let works = c.in-Ok.ensures.works in
    let end = c.in-Ok-log_record.ensures in
    record {
      undone = λ newest records history x h unfinished own last next.
          let done = done g s newest records history x h unfinished own last next in
          let none = none g s newest records history x h unfinished own last next in
          let may : MayGrow log pages site.image newest (records ++ done.clrs) (record { lsn = lsn; rec = End c.args.txn }) =
          subst (λ (t : ℕ). MayGrow log pages site.image newest (records ++ done.clrs) (record { lsn = lsn; rec = End t })) own
          (may_end log pages site newest records history x.txn start c.in-Ok.at done none lsn) in
          rolls_back c.log_record.new.log pages new newest records history c.args.txn done.clrs lsn (subst (λ (t : ℕ). AreClrsOf t done.clrs) own done.own)
          (subst (λ (t : ℕ). length done.clrs ≡ length (left_open records t)) own (omega (arith, done.count, none)))
          (subst (λ (t : ℕ). owed ((records ++ done.clrs) ++ record { lsn = lsn; rec = End t } ∷ []) + (length done.clrs + 1) ≡ owed records) own
          (owes_all log pages site newest records history x.txn start c.in-Ok.at done none lsn))
          (end.holds pages newest (records ++ done.clrs) history works.going.sizes done.holds refl may)
          (λ were. end.orderly pages newest (records ++ done.clrs) history works.going.sizes done.holds may (done.orderly were));
      does = λ newest records history x h unfinished own last next.
          let done = done g s newest records history x h unfinished own last next in
          undoes_answered (behind g s newest records history x h unfinished own last next (Ok lsn) c.log_record.new.log new
          (undoes_beside works.going tt end.works (end.keeps pages newest (records ++ done.clrs) history done.holds) (end.performs pages newest (records ++ done.clrs) history works.going done.holds)));
      blocks = λ newest records history x h unfinished own last next.
          let done = done g s newest records history x h unfinished own last next in
          omega (arith, done.count, done.few, end.blocks, unfinished.remaining_is);
      works = works_answered (works_then works (works_appended works.going end.rises tt end.works));
    }

pub returns-then-not-has_room : goal.returns-then-not-has_room
returns-then-not-has_room g c =
    let s = (goal.at.returns-then-not-has_room g c).In-Ok in
    let works = c.in-Ok.ensures.works in
    let all = ap (λ (k : Geometry). k.blocks) works.going.sizes in
    record {
      undone = search rules;
      does = λ newest records history x h unfinished own last next.
          let room = room_for_end c.undo_updates.new.log c.undo_updates.new.pages (g.S.Site.state c.undo_updates.new.site) newest records history x.txn (blocks_to c.args.log.now) c.in-Ok.at
          (done g s newest records history x h unfinished own last next) (none g s newest records history x h unfinished own last next) in
          absurd (true≢false (sym (c.has_room.ensures.1 (omega (arith, room, all, works.going.log_going.limits.blocks))) ∙ c.if-not-has_room.true));
      blocks = search rules;
      works = works_foreign works;
    }

pub returns-in-Err-log_record : goal.returns-in-Err-log_record
returns-in-Err-log_record g c =
    let s = (goal.at.returns-in-Err-log_record g c).In-Ok in
    let works = c.in-Ok.ensures.works in
    let pages = c.undo_updates.new.pages in
    let end = c.in-Err-log_record.ensures in
    record {
      undone = search rules;
      does = λ newest records history x h unfinished own last next.
          let done = done g s newest records history x h unfinished own last next in
          undoes_failed (behind g s newest records history x h unfinished own last next (Err c.in-Err-log_record.stop) c.log_record.new.log (g.S.Site.state c.log_record.new.site)
          (undoes_beside works.going end.stops end.works (end.keeps pages newest (records ++ done.clrs) history done.holds) (end.performs pages newest (records ++ done.clrs) history works.going done.holds)));
      blocks = search rules;
      works = works_stopped works (works_appended works.going tt end.stops end.works);
    }

pub returns-in-Err-clause-does : goal.returns-in-Err-clause-does
returns-in-Err-clause-does g c newest records history x h unfinished own last next =
    let pages = c.args.pages.now in
    let old = g.S.Site.state c.args.site.now in
    let now = g.S.Site.state c.undo_updates.new.site in
    let at : IsAt (record { txn = c.args.txn; last = c.args.last; next = c.args.last }) x = record { txn = sym own; last = sym last; next = sym next } in
    subst (λ (t : ℕ). UndoesWork {T = ⊤} (Err c.in-Err.stop) (undo_one_work records t) (undo_one_works records t) c.args.log.now c.undo_updates.new.log pages c.undo_updates.new.pages old now newest history (x.remaining + 1) (length x.chain)) own
    (undoes_few (omega arith) (omega arith) (undoes_as refl (sym (append-nil (undo_one_works records x.txn)))
    (undoes_stopped ends [] c.requires.going
    (does_all x unfinished (few_left c.args.log.now pages old newest records history h c.requires.going x unfinished) (c.in-Err.ensures.does newest records history x h unfinished at)))))
