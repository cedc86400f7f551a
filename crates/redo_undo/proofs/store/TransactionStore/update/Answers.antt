use Rattle.redo_undo.proofs.Names.{History, settled, refl, ℕ, List, ◌≡◌, ◌+◌, ◌*◌, ◌/◌, ◌%◌, ◌++◌, ◌∷◌, [], sym, subst, arith, same_Some, Ok, IsTrue, front_of, LogRecord, updates, KeepsNext, shown_in, update_by, performs_as, RingOp, changed}
use Rattle.std.proofs.Common.{rules}
use Rattle.redo_undo.proofs.Rooms.{fits_as}
use Rattle.redo_undo.proofs.Saved.{some_leaves_for, finds_kept}
use Rattle.redo_undo.proofs.StoreCalling.{keeps_settled, keeps_of, works_at_error}
use Rattle.redo_undo.proofs.NextUnits.{store_next}
use Rattle.redo_undo.specs.Stores.{Holds, MayGrow}
use Rattle.redo_undo.proofs.MirroringStores.{store_performs}
use Rattle.redo_undo.proofs.store.TransactionStore.update.Goals as goal
use Rattle.ring_machine.specs.Octets as octets

pub log_change-requires-clause-fits : goal.log_change-requires-clause-fits
log_change-requires-clause-fits g c = λ n own.
    let number = c.args.number in
    let same : 32 * (number / 32) + number % 32 ≡ n = same_Some (32 * (number / 32) + number % 32) n own in
    fits_as c.args.self.now.pages (number % 32) (n % 32) c.args.after.now c.copy_of.result (omega (arith, same)) (sym c.copy_of.ensures) c.requires.room

pub returns-in-Ok-clause-holds_over : goal.returns-in-Ok-clause-holds_over
returns-in-Ok-clause-holds_over g c newest records history h = λ may.
    let store = c.args.self.now in
    let old = g.S.Site.state c.args.site.now in
    let new = g.S.Site.state c.log_change.new.site in
    let lsn = c.in-Ok.lsn in
    let is : update_by c.args.txn c.args.prev c.args.number c.shown.result c.copy_of.result ≡ update_by c.args.txn c.args.prev c.args.number (shown_in store old records c.args.number) c.args.after.now =
    λ i. update_by c.args.txn c.args.prev c.args.number ((c.shown.ensures.shown old newest records history h) i) (c.copy_of.ensures i) in
    let grows = subst (λ (rec : LogRecord). MayGrow store old newest records (record { lsn = lsn; rec = rec })) (sym is) may in
    subst (λ (rec : LogRecord). Holds (record { log = c.log_change.new.log; pages = c.log_change.new.pages; masters = store.masters; made = store.made + 1 }) new newest (records ++ record { lsn = lsn; rec = rec } ∷ []) history) is
    (record {
      both = c.in-Ok.ensures.holds newest records history h.both grows;
      orderly = c.in-Ok.ensures.orderly newest records history h.both grows h.orderly;
      masters = finds_kept store.masters old new c.requires.may.going.shape ((c.in-Ok.ensures.keeps newest records history h.both).masters refl) h.masters;
    })

pub returns-in-Ok-clause-holds : goal.returns-in-Ok-clause-holds
returns-in-Ok-clause-holds g c newest records table commits = returns-in-Ok-clause-holds_over g c newest records (settled table commits)

pub returns-in-Ok-clause-keeps_over : goal.returns-in-Ok-clause-keeps_over
returns-in-Ok-clause-keeps_over g c newest records history h = keeps_of (some_leaves_for newest _ _ _ history _) (c.in-Ok.ensures.keeps newest records history h.both)

pub returns-in-Ok-clause-keeps : goal.returns-in-Ok-clause-keeps
returns-in-Ok-clause-keeps g c newest records table commits h = keeps_settled (returns-in-Ok-clause-keeps_over g c newest records (settled table commits) h)

pub returns-in-Err-clause-keeps_over : goal.returns-in-Err-clause-keeps_over
returns-in-Err-clause-keeps_over g c newest records history h = keeps_of (some_leaves_for newest _ _ _ history _) (c.in-Err.ensures.keeps newest records history h.both)

pub returns-in-Err-clause-keeps : goal.returns-in-Err-clause-keeps
returns-in-Err-clause-keeps g c newest records table commits h = keeps_settled (returns-in-Err-clause-keeps_over g c newest records (settled table commits) h)

pub returns-in-Ok-clause-works : goal.returns-in-Ok-clause-works
returns-in-Ok-clause-works g c =
    let works = c.in-Ok.ensures.works in
    let next : IsTrue (g.S.Site.state c.args.site.now).honest → KeepsNext {T = ℕ} (Ok c.in-Ok.lsn) c.args.self.now
    (record c.args.self.now { log = c.log_change.new.log; pages = c.log_change.new.pages; made = c.args.self.now.made + 1 }) (g.S.Site.state c.args.site.now) (g.S.Site.state c.log_change.new.site) =
    λ honest. store_next c.requires.may.going.both.sizes refl tt (works.next honest) in
    search rules

pub returns-in-Err-clause-works : goal.returns-in-Err-clause-works
returns-in-Err-clause-works g c = works_at_error c.requires.may.going refl c.in-Err.ensures.works

pub returns-in-Ok-clause-performs_over : goal.returns-in-Ok-clause-performs_over
returns-in-Ok-clause-performs_over g c newest records history h =
    let store = c.args.self.now in
    let old = g.S.Site.state c.args.site.now in
    let front = (front_of store.pages.pool.frames).page in
    let is : ◌≡◌ {A = List RingOp} (updates c.args.number (shown_in store old records c.args.number) c.args.after.now) (changed (octets.update_octets c.shown.result c.copy_of.result) front ∷ []) =
    λ i. changed (octets.update_octets ((sym (c.shown.ensures.shown old newest records history h)) i) ((sym c.copy_of.ensures) i)) ((sym c.requires.front.page) i) ∷ [] in
    store_performs refl refl (performs_as is (c.in-Ok.ensures.performs newest records history h.both))

pub returns-in-Ok-clause-performs : goal.returns-in-Ok-clause-performs
returns-in-Ok-clause-performs g c newest records table commits = returns-in-Ok-clause-performs_over g c newest records (settled table commits)

pub returns-in-Err-clause-performs_over : goal.returns-in-Err-clause-performs_over
returns-in-Err-clause-performs_over g c newest records history h =
    let store = c.args.self.now in
    let old = g.S.Site.state c.args.site.now in
    let front = (front_of store.pages.pool.frames).page in
    let is : ◌≡◌ {A = List RingOp} (updates c.args.number (shown_in store old records c.args.number) c.args.after.now) (changed (octets.update_octets c.shown.result c.copy_of.result) front ∷ []) =
    λ i. changed (octets.update_octets ((sym (c.shown.ensures.shown old newest records history h)) i) ((sym c.copy_of.ensures) i)) ((sym c.requires.front.page) i) ∷ [] in
    store_performs refl refl (performs_as is (c.in-Err.ensures.performs newest records history h.both))

pub returns-in-Err-clause-performs : goal.returns-in-Err-clause-performs
returns-in-Err-clause-performs g c newest records table commits = returns-in-Err-clause-performs_over g c newest records (settled table commits)
