use Rattle.redo_undo.proofs.Names.{History, ◌*◌, refl, sym, ap, ◌∙◌, true, [], ◌∷◌, ℕ, List, Option, ◌≡◌, Master, kept_by, update_is_last, Unfinished, IsUnfinished, Entry, is_update, updates_in, left_open, Content, IsLastAt, IsUndoing}
use Rattle.redo_undo.proofs.undo_losers.undo_greatest.Goals.{After-undo_update}
use Rattle.redo_undo.proofs.undo_losers.undo_greatest.Given.{Over}
use Rattle.redo_undo.proofs.UndoCalls.{undoes_answered, undoes_failed}
use Rattle.redo_undo.proofs.Found.{order, unfinished_loser, each_remains}
use Rattle.redo_undo.proofs.UndoneUpdates.{last_is_left, clr_updates}
use Rattle.redo_undo.proofs.undo_losers.undo_greatest.Goals as goal

head_same : (v u : Entry) (xs ys : List Entry) → v ∷ xs ≡ u ∷ ys → v ≡ u
head_same v u xs ys is = cc

module _ (g : Over) (c : After-undo_update g) (newest : Option Master) (records : List Entry) (history : History) (known : ℕ) (u : Entry)
    (h : IsUndoing c.args.log.now c.args.pages.now (g.S.Site.state c.args.site.now) newest records history c.args.found.now known) (last : IsLastAt records c.args.loser.txn c.args.lsn u) where
  standing : (v : Entry) × (below : List Entry) × IsUnfinished records (record { txn = c.args.loser.txn; last = c.args.loser.last; next = c.args.lsn; remaining = c.args.loser.remaining; chain = v ∷ below }) × (is_update v.rec ≡ true)
  standing = unfinished_loser c.table_of_records.ensures.active c.args.log.now c.args.pages.now (g.S.Site.state c.args.site.now) newest records history c.args.found.now h.holds h.analysis c.args.loser c.args.lsn c.requires.there c.requires.greatest

  abbrev x : Unfinished
  x = record { txn = c.args.loser.txn; last = c.args.loser.last; next = c.args.lsn; remaining = c.args.loser.remaining; chain = standing.0 ∷ standing.1 }

  left : (rest : List Entry) × (left_open records c.args.loser.txn ≡ u ∷ rest)
  left = last_is_left c.table_of_records.ensures.active c.args.log.now c.args.pages.now (g.S.Site.state c.args.site.now) newest records history c.args.found.now h.holds h.analysis c.args.loser.txn c.args.lsn u c.requires.greatest last

  -- what is read is that Update
  same : standing.0 ≡ u
  same = head_same standing.0 u (updates_in standing.1) left.0 (sym (update_is_last records x standing.2 standing.0 standing.1 refl standing.3) ∙ left.1)

  first : x.chain ≡ u ∷ standing.1
  first = ap (λ (e : Entry). e ∷ standing.1) same

  update : is_update u.rec ≡ true
  update = ap (λ (e : Entry). is_update e.rec) (sym same) ∙ standing.3

pub returns-in-Err-clause-does : goal.returns-in-Err-clause-does
returns-in-Err-clause-does g c newest records history known u h last =
    let s = (goal.at.returns-in-Err-clause-does g c).After-undo_update in
    undoes_failed (c.in-Err.ensures.does newest records history (x g s newest records history known u h last) u (standing g s newest records history known u h last).1 h.holds (standing g s newest records history known u h last).2 (record { txn = refl; last = refl; next = refl })
    (first g s newest records history known u h last) (update g s newest records history known u h last))

pub returns-clause-does : goal.returns-clause-does
returns-clause-does g c newest records history known u h last =
    let s = (goal.at.returns-clause-does g c).After-undo_update in
    undoes_answered (c.in-Ok.ensures.does newest records history (x g s newest records history known u h last) u (standing g s newest records history known u h last).1 h.holds (standing g s newest records history known u h last).2 (record { txn = refl; last = refl; next = refl })
    (first g s newest records history known u h last) (update g s newest records history known u h last))

pub returns-clause-updates : goal.returns-clause-updates
returns-clause-updates g c newest records history known u h last =
    let s = (goal.at.returns-clause-updates g c).After-undo_update in
    let log = c.args.log.now in
    let pages = c.args.pages.now in
    let site = g.S.Site.state c.args.site.now in
    let found = c.args.found.now in
    let x = x g s newest records history known u h last in
    let standing = standing g s newest records history known u h last in
    let left = left g s newest records history known u h last in
    let done = c.in-Ok.ensures.undone newest records history x u standing.1 h.holds standing.2 (record { txn = refl; last = refl; next = refl }) (first g s newest records history known u h last) (update g s newest records history known u h last) in
    let ordered = order c.table_of_records.ensures.active log pages site newest records history found h.holds h.analysis in
    clr_updates c.undo_update.new.log c.undo_update.new.pages (g.S.Site.state c.undo_update.new.site) newest records history c.compensated.new.self x c.in-Ok.now done
    (c.compensated.ensures.table [] records c.args.loser.last done.page done.slot done.before h.analysis)
    (each_remains c.table_of_records.ensures.active log pages site newest records history found h.holds h.analysis c.requires.remain) (512 * kept_by newest) _ ordered c.args.lsn u left.0 last left.1
