use Rattle.std.proofs.lemmas.Grind.{flat_map-append}
use Rattle.redo_undo.proofs.Names.{History, ◌≡◌, ◌⊎◌, ◌+◌, ◌-◌, ◌≤◌, min, take, suc, subst, inl, inr, ⊎_elim, ◌||◌, ℕ, true, true≢false, List, ◌∷◌, ◌++◌, length, Option, append-nil, refl, sym, ap, ◌∙◌, arith, filter_map-append, Master, first_read, Unfinished, IsUnfinished, Entry, is_update, updates_in, undo_touch, is_clr, left_open, LogRecord, Begin, Update, Clr, Commit, End, Content, works_are, Represents, blocks_to, works_of, clrs_for, IsAt, clr_work}
use Rattle.redo_undo.proofs.Calling.{works_answered, works_nothing, works_then}
use Rattle.redo_undo.proofs.Rollbacks.{remains, none_remains}
use Rattle.redo_undo.proofs.UndoCalls.{undoes_as, undoes_few, undoes_stopped, undoes_then}
use Rattle.redo_undo.proofs.UndoneWork.{clrs_are}
use Rattle.redo_undo.proofs.UndoSoFar.{UndoesSoFar, goes_on_undoing, left_is, logged_few, logged_none, logged_one, passes_on_undoing, starts_undoing}
use Rattle.redo_undo.proofs.UpTo.{does_up_to, none_left, none_wanted, own_left, passed_few, reads_few, up_to}
use Rattle.redo_undo.proofs.undo.undo_updates.Given.{Over}
use Rattle.redo_undo.proofs.undo.undo_updates.Goals.{After-undo_step}
use Rattle.redo_undo.proofs.undo.undo_updates.Goals as goal

-- In a turn a record is read.
module _ (g : Over) (c : After-undo_step g) (newest : Option Master) (records : List Entry) (history : History) (x : Unfinished)
    (h : Represents c.args.log.now c.args.pages.now (g.S.Site.state c.args.site.now) newest records history) (unfinished : IsUnfinished records x) (at : IsAt c.args.first x) where
  so_far : UndoesSoFar c.loop-more.log c.loop-more.pages (g.S.Site.state c.loop-more.site) newest records history x.txn c.loop-more.at c.args.log.now c.args.pages.now (g.S.Site.state c.args.site.now) (length x.chain) c.args.count c.loop-more.more
  so_far = c.loop-more.invariant.undone newest records history x h unfinished at

  next : (e : Entry) × (rest : List Entry) × (so_far.made.x.chain ≡ e ∷ rest)
  next = remains c.loop-more.log c.loop-more.pages (g.S.Site.state c.loop-more.site) newest records history x.txn (blocks_to c.args.log.now) c.loop-more.at so_far.made c.if-at.false

  change : (is_update next.0.rec || is_clr next.0.rec) ≡ true
  change = (first_read (records ++ so_far.made.clrs) so_far.made.x so_far.made.left next.0 next.1 next.2).0.change

-- an Update or a CLR
either : (rec : LogRecord) → (is_update rec || is_clr rec) ≡ true → (is_update rec ≡ true) ⊎ (is_clr rec ≡ true)
either (Update txn prev page slot before after) is = inl refl
either (Clr txn prev undo_next page slot after) is = inr refl
either Begin is = absurd (true≢false (sym is))
either (Commit txn number) is = absurd (true≢false (sym is))
either (End txn) is = absurd (true≢false (sym is))

pub overflow_sub-more : goal.overflow_sub-more
overflow_sub-more g c = omega (arith, c.clrs_logged-more.ensures, logged_few c.loop-more.at c.in-Ok.next, c.loop-more-test.true)

pub loop-more-init : goal.loop-more-init
loop-more-init g c = record { works = works_nothing c.requires.going; last = (omega arith, c.requires.last); blocks = omega arith; undone = λ newest records history x h unfinished at. starts_undoing c.requires.going.sizes h unfinished at }

pub loop-more-preserved : goal.loop-more-preserved
loop-more-preserved g c =
    let inv = c.loop-more.invariant in
    let logged = c.clrs_logged-more.ensures in
    record {
      works = works_answered (works_then inv.works c.in-Ok.ensures.works);
      last = (omega (arith, inv.last.0, c.in-Ok.ensures.last.0), c.in-Ok.ensures.last.1);
      blocks = omega (arith, inv.blocks, c.in-Ok.ensures.blocks, logged, logged_few c.loop-more.at c.in-Ok.next, c.loop-more-test.true);
      undone = λ newest records history x h unfinished at.
          let s = (goal.at.loop-more-preserved g c).After-undo_step in
          let so_far = so_far g s newest records history x h unfinished at in
          let made = so_far.made in
          let e = next g s newest records history x h unfinished at in
          ⊎_elim
          (λ (update : is_update e.0.rec ≡ true).
          let undone = c.in-Ok.ensures.undone newest (records ++ made.clrs) history made.x e.0 e.1 made.holds made.left made.at e.2 update in
          let one = logged_one c.loop-more.at c.in-Ok.next (omega (arith, made.at.last, undone.later)) in
          goes_on_undoing so_far h inv.works e.0 e.1 e.2 update
          undone (omega (arith, c.in-Ok.ensures.blocks, one))
          (c.in-Ok.ensures.does newest (records ++ made.clrs) history made.x e.0 e.1 made.holds made.left made.at e.2 update)
          (c.loop-more.more - c.clrs_logged-more.result) (omega (arith, one, logged, c.loop-more-test.true)))
          (λ (clr : is_clr e.0.rec ≡ true).
          let passed = c.in-Ok.ensures.passed newest (records ++ made.clrs) history made.x e.0 e.1 made.holds made.left made.at e.2 clr in
          let none = logged_none c.loop-more.at c.in-Ok.next (passed.at.last ∙ sym made.at.last) in
          let same : c.loop-more.more ≡ c.loop-more.more - c.clrs_logged-more.result = omega (arith, none, logged) in
          subst (λ (n : ℕ). UndoesSoFar c.undo_step.new.log c.undo_step.new.pages (g.S.Site.state c.undo_step.new.site) newest records history x.txn c.in-Ok.next c.args.log.now c.args.pages.now (g.S.Site.state c.args.site.now) (length x.chain) c.args.count n) same
          (passes_on_undoing so_far h inv.works e.0 e.1 e.2 passed
          (c.in-Ok.ensures.passes newest (records ++ made.clrs) history made.x e.0 e.1 made.holds made.left made.at e.2 clr)))
          (either e.0.rec (change g s newest records history x h unfinished at));
    }

-- So many are undone.
pub returns : goal.returns
returns g c =
    let inv = c.loop-more.invariant in
    let none : c.loop-more.more ≡ 0 = omega (arith, c.loop-more-test.false) in
    record {
      undone = λ newest records history x h unfinished at.
          let so_far = inv.undone newest records history x h unfinished at in
          let end = none_wanted x unfinished so_far none in
          up_to x unfinished so_far end.0 end.1;
      does = λ newest records history x h unfinished at.
          let so_far = inv.undone newest records history x h unfinished at in
          let end = none_wanted x unfinished so_far none in
          does_up_to x unfinished so_far end.0 end.1;
      last = inv.last;
      works = works_answered inv.works;
      blocks = omega (arith, inv.blocks);
    }

-- Undoing has come to the Begin.
pub returns-then-at : goal.returns-then-at
returns-then-at g c =
    let inv = c.loop-more.invariant in
    record {
      undone = λ newest records history x h unfinished at.
          let so_far = inv.undone newest records history x h unfinished at in
          let end = none_left x unfinished so_far (none_remains c.loop-more.log c.loop-more.pages _ newest records history x.txn (blocks_to c.args.log.now) c.loop-more.at so_far.made c.if-at.true) in
          up_to x unfinished so_far end.0 end.1;
      does = λ newest records history x h unfinished at.
          let so_far = inv.undone newest records history x h unfinished at in
          let end = none_left x unfinished so_far (none_remains c.loop-more.log c.loop-more.pages _ newest records history x.txn (blocks_to c.args.log.now) c.loop-more.at so_far.made c.if-at.true) in
          does_up_to x unfinished so_far end.0 end.1;
      last = inv.last;
      works = works_answered inv.works;
      blocks = omega (arith, inv.blocks);
    }

pub returns-in-Err-clause-does : goal.returns-in-Err-clause-does
returns-in-Err-clause-does g c newest records history x h unfinished at =
    let s = (goal.at.returns-in-Err-clause-does g c).After-undo_step in
    let so_far = so_far g s newest records history x h unfinished at in
    let made = so_far.made in
    let e = next g s newest records history x h unfinished at in
    let wanted = so_far.many in
    let few = reads_few x unfinished so_far in
    let own = own_left x unfinished so_far in
    ⊎_elim
    (λ (update : is_update e.0.rec ≡ true).
    let left = left_is made e.0 e.1 e.2 update in
    let fewer = c.loop-more.more - 1 in
    let rest = take fewer (updates_in e.1) in
    let more : c.loop-more.more ≡ suc fewer = omega (arith, c.loop-more-test.true) in
    let all : take c.args.count (left_open records x.txn) ≡ so_far.done ++ e.0 ∷ rest = so_far.are ∙ ap (λ (l : List Entry). so_far.done ++ l) (ap (take c.loop-more.more) left ∙ ap (λ (n : ℕ). take n (e.0 ∷ updates_in e.1)) more) in
    let some = ap length left in
    let one : length made.clrs + 1 ≤ min c.args.count x.remaining = omega (arith, some, own, made.count, unfinished.remaining_is, wanted, c.loop-more-test.true) in
    undoes_few one (omega (arith, one, few)) (undoes_as (ap clrs_for all ∙ clrs_are so_far.done rest e.0) (ap works_of all ∙ works_are so_far.done rest e.0)
    (undoes_stopped (clrs_for rest) (works_of rest) c.requires.going (undoes_then h c.loop-more.invariant.works so_far.does
    (c.in-Err.ensures.does newest (records ++ made.clrs) history made.x e.0 e.1 made.holds made.left made.at e.2 update)))))
    (λ (clr : is_clr e.0.rec ≡ true).
    let rest = take c.loop-more.more (left_open (records ++ made.clrs) x.txn) in
    let some : length made.clrs ≤ min c.args.count x.remaining = omega (arith, made.count, unfinished.remaining_is, wanted) in
    undoes_few (omega (arith, some)) (omega (arith, some, passed_few x unfinished so_far e.0 e.1 e.2 clr)) (undoes_as (ap clrs_for so_far.are ∙ flat_map-append clr_work so_far.done rest) (ap works_of so_far.are ∙ filter_map-append undo_touch so_far.done rest)
    (undoes_stopped (clrs_for rest) (works_of rest) c.requires.going (undoes_as (sym (append-nil (clrs_for so_far.done))) (sym (append-nil (works_of so_far.done))) (undoes_then h c.loop-more.invariant.works so_far.does
    (c.in-Err.ensures.passes newest (records ++ made.clrs) history made.x e.0 e.1 made.holds made.left made.at e.2 clr))))))
    (either e.0.rec (change g s newest records history x h unfinished at))
