-- What commands make of the machine that mirrors the database.
use Rattle.engine.proofs.Names.{◌≡◌, ℕ, ◌+◌, Bool, false, List, [], ◌∷◌, ◌++◌, flat_map, append_assoc, Some, None, refl, sym, ap, ◌∙◌, arith, ◌*◌, ◌<◌, ◌≤◌, ◌-◌, true≢false, IsTrue, eq-eqb, false_from_ne_true, range_with_len, list_any, Result, Ok, Err, if◌then◌else◌, checkpointed_if, Matches, Engine, length-versions, versions_on, fresh_entries, has_written_is, entries_own, shown_is_value, content_of_table, IsFree, IsFresh, Entry, Version, is_on, end_of, State, Content, content_at, seen, asks_for_checkpoint, fills_page, lacks_room, refusal, Command, Reply, MirrorsStore, Represents, shown_in, TransactionStore, performs_as, performs_by, performs_then, performs_stopped, performs_nothing, reads, saves, command_work, RingOp, Performs, no_error, Image, Site, Geometry, Dev, Stop, Worn, Memory, IsTable, entry_of, Active}
use Rattle.std.specs.Prelude.{Option}
use Rattle.std.proofs.lemmas.Grind.{flat_map-append}
use Rattle.page_store.specs.Caching.{rules}
use Rattle.engine.proofs.Replies.{work_behind, worked}
use Rattle.engine.proofs.Scans.{range_more, range_at}
use Rattle.redo_undo.specs.Stores.{sizes_of}
use Rattle.engine.proofs.Meanings.{busy_write_is, free, fresh_behind, seen_is, table_is}
use Rattle.engine.proofs.Settings.{begin_at, free_begun, unwritten}
use Rattle.engine.proofs.Writes.{may_read_too, touched_fits}
use Rattle.log_laws.specs.Follow as follow
use Rattle.lock_table.specs.Locks as locks

abbrev PerformsOver : {T : Type 0} → Result T Stop → List RingOp → TransactionStore → TransactionStore → Image → Image → Type 0
PerformsOver result works old new image image' = Performs result (rules old.pages) works (MirrorsStore old image) (MirrorsStore new image')

-- a command that is refused, or only answers
pub performs_rest : {T : Type 0} {x : T} {works : List RingOp} {store : TransactionStore} {image : Image} → works ≡ [] → PerformsOver {T = T} (Ok x) works store store image image
performs_rest {T = T} {x = x} none = performs_as none (performs_nothing (λ m is. is) (λ dev says. absurd (no_error {T = T} {x = x} {e = Worn dev} says)))

-- memory is wanting: no device is worn
pub memory_refuses : (stop : Stop) → stop ≡ Memory → (dev : Dev) → stop ≡ Worn dev → ⊥
memory_refuses stop memory dev = λ worn. cc

-- one call on a store after another one
pub store_then : {A B : Type 0} {a : A} {result : Result B Stop} {first later : List RingOp} {old mid new : TransactionStore} {before between now : Image} → rules mid.pages ≡ rules old.pages → PerformsOver {T = A} (Ok a) first old mid before between → PerformsOver result later mid new between now →
    PerformsOver result (first ++ later) old new before now
store_then same one two = performs_then one (performs_by (sym same) two)

-- A command that no test refuses, behind the checkpoint that is made where it asks for one.
module _ (s : State) (command : Command) {asks : Bool} (known : asks ≡ asks_for_checkpoint s command) (passes : refusal s command ≡ None) where
  pub performs_first : (lacks : Bool) → lacks_room (checkpointed_if asks s) command ≡ lacks → (filled : Option Reply) → fills_page (checkpointed_if asks s) command ≡ filled → {A B : Type 0} {a : A} {result : Result B Stop} {old mid new : TransactionStore} {before between now : Image} → rules mid.pages ≡ rules old.pages →
      PerformsOver {T = A} (Ok a) (if asks then saves else []) old mid before between → PerformsOver result (worked s command lacks filled) mid new between now → PerformsOver result (command_work s command) old new before now
  performs_first lacks is filled fills same first second = performs_as (work_behind s command known passes ∙ (λ i. (if asks then saves else []) ++ worked s command (is i) (fills i))) (store_then same first second)

  pub performs_unmade : {A B : Type 0} {stop : Stop} {old mid : TransactionStore} {before now : Image} → PerformsOver {T = A} (Err stop) (if asks then saves else []) old mid before now → PerformsOver {T = B} (Err stop) (command_work s command) old mid before now
  performs_unmade first = performs_as (work_behind s command known passes) (performs_stopped (worked s command (lacks_room (checkpointed_if asks s) command) (fills_page (checkpointed_if asks s) command)) first)

-- A scan, record by record.

pub reads_one_more : (number offset : ℕ) → flat_map reads (range_with_len number (offset + 1)) ≡ flat_map reads (range_with_len number offset) ++ reads (number + offset)
reads_one_more number offset =
    ap (flat_map reads) (range_more number offset) ∙ flat_map-append reads (range_with_len number offset) ((number + offset) ∷ [])

-- one stops the scan, and others would follow
pub reads_split : (number offset count : ℕ) → offset < count → (rest : List RingOp) × (flat_map reads (range_with_len number count) ≡ (flat_map reads (range_with_len number offset) ++ reads (number + offset)) ++ rest)
reads_split number offset count less =
    let rest = flat_map reads (range_with_len (number + offset + 1) (count - offset - 1)) in (
      rest,
      ap (flat_map reads) (range_at number offset count less) ∙ flat_map-append reads (range_with_len number offset) ((number + offset) ∷ range_with_len (number + offset + 1) (count - offset - 1))
          ∙ sym (append_assoc (flat_map reads (range_with_len number offset)) (reads (number + offset)) rest),
    )

-- What stands before a write: what its session sees there.
pub seen_there : (engine : Engine) (store : TransactionStore) (old new : Site) (s : State) (entry : Active) (number : ℕ) (fits : Matches engine old s) → IsTrue new.honest → IsTable engine.active → entry_of engine.active entry.session ≡ Some entry → number < 32 * (sizes_of store).pages →
    locks.busy_write engine.locks (Some entry.session) number ≡ None → Represents store new fits.newest fits.records s.table s.commits → store.made ≡ engine.store.made → seen s entry.session number ≡ shown_in store new fits.records number
seen_there engine store old new s entry number fits honest table at less free holds made =
    seen_is (record engine { store = store }) new s (touched_fits engine store old new s fits honest holds made) entry.session number entry table less at
    (may_read_too s entry.session number (sym (busy_write_is engine.locks s fits.locks_are (Some entry.session) number) ∙ free))

-- and of a transaction that only begins what the table has
pub set_there : (engine : Engine) (old : Site) (s : State) (number : ℕ) (fits : Matches engine old s) → IsTable engine.active → number < 32 * (sizes_of engine.store).pages → locks.busy_write engine.locks None number ≡ None → (txn : ℕ) → end_of engine.store.log ≤ txn →
    (store : TransactionStore) (site : Site) → sizes_of store ≡ sizes_of engine.store → Represents store site fits.newest (fits.records ++ begin_at txn ∷ []) s.table s.commits → content_at s.table number ≡ shown_in store site (fits.records ++ begin_at txn ∷ []) number
set_there engine old s number fits table less unlocked txn behind store site sizes holds =
    ap (λ (t : List Content). content_at t number) (table_is store site fits.newest log s.table s.commits holds)
    ∙ content_of_table log versions number (omega (arith, less, length-versions (sizes_of store) site.image, ap (λ (g : Geometry). g.pages) sizes))
    ∙ sym (shown_is_value log versions number none)
  where
    log : List Entry
    log = fits.records ++ begin_at txn ∷ []

    versions : List Version
    versions = versions_on (sizes_of store) site.image

    fresh : IsFresh txn fits.records
    fresh = fresh_behind engine.store old fits.newest fits.records s.table s.commits txn fits.holds behind

    none_own : follow.has_written log txn number ≡ false
    none_own = has_written_is log txn number ∙ ap (list_any (is_on number)) (entries_own fits.records (begin_at txn) txn (eq-eqb txn txn refl) ∙ ap (λ (l : List Entry). l ++ begin_at txn ∷ []) (fresh_entries txn fits.records fresh))

    none : IsFree log number
    none t lives = false_from_ne_true (follow.has_written log t number) (λ written.
        let same : t ≡ txn = free_begun fits.records txn number (free fits.newest fits.records engine.active s fits.sessions table number (unwritten s number (sym (busy_write_is engine.locks s fits.locks_are None number) ∙ unlocked))) t lives written in
        true≢false (sym written ∙ ap (λ (n : ℕ). follow.has_written log n number) same ∙ none_own))
