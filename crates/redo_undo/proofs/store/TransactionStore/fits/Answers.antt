use Rattle.redo_undo.proofs.Names.{History, ◌≡◌, ◌+◌, ◌*◌, ◌/◌, ◌%◌, ◌++◌, ◌∷◌, [], ℕ, List, refl, sym, subst, arith, Option, option_copied, IsTrue, Master, versions_on, shown_push, Entry, shown, Begin, Content, shown_in, update_by, State}
use Rattle.std.proofs.Common.{rules}
use Rattle.log_records.specs.Room.{HasOpenRoom}
use Rattle.redo_undo.specs.Stores.{MayGrow, Holds}
use Rattle.redo_undo.proofs.Rooms.{fits_as, fits_behind}
use Rattle.redo_undo.proofs.store.TransactionStore.fits.Goals as goal

-- an Update has room behind records that show what these do
behind : (c : goal.After-fits) (site : State) (newest : Option Master) (records : List Entry) (history : History) → Holds c.args.self.now site newest records history →
    (log : List Entry) → ((number : ℕ) → shown log (versions_on c.args.self.now.pages.flash.geometry site.image) number ≡ shown_in c.args.self.now site records number) →
    (lsn txn prev : ℕ) (before : Content) → MayGrow c.args.self.now site newest log (record { lsn = lsn; rec = update_by txn prev c.args.number before c.args.after.now }) → IsTrue c.fits.result
behind c site newest records history h log same lsn txn prev before may =
    let store = c.args.self.now in
    let number = c.args.number in
    let e : Entry = record { lsn = lsn; rec = update_by txn prev c.args.number before c.args.after.now } in
    let at = 32 * (c.args.number / 32) + c.args.number % 32 in
    let page = c.requires.front.page in
    let room = fits_behind store.log store.pages site newest records history c.requires.pages c.requires.front.there h.both log e same (at, refl, omega (arith, page))
    (subst (HasOpenRoom (log ++ e ∷ []) (versions_on store.pages.flash.geometry site.image)) (omega (arith, page)) (may.follows.room_in_page at refl refl)) at refl in
    c.fits.ensures.1 (fits_as store.pages (at % 32) (number % 32) c.args.after.now (option_copied c.slice_of.result) (omega arith) (sym c.slice_of.ensures) room)

pub returns : goal.returns
returns c = record {
  grows = λ site newest records history txn prev lsn h may. behind c site newest records history h records (λ number. refl) lsn txn prev _ may;
  begins = λ site newest records history txn lsn h may.
      behind c site newest records history h (records ++ record { lsn = txn; rec = Begin } ∷ [])
      (λ number. shown_push records (record { lsn = txn; rec = Begin }) (versions_on c.args.self.now.pages.flash.geometry site.image) number) lsn txn txn _ may;
  room = search rules;
}
