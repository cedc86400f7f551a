-- Where log and pages stand, as the machine of the rings, and what calls on them ask of it.
use Rattle.std.specs.Prelude.{◌≡◌, ℕ, ◌^◌, ◌≤◌, ◌<◌, nat_eq, Bool, false, List, [], ◌∷◌, ◌++◌}
use Rattle.std.specs.Prelude.{map, flat_map, filter, replicate, length, Result}
use Rattle.site.specs.declared.outside.Stop.{Stop}
use Rattle.site.specs.State.{State, Image}
use Rattle.record_model.specs.State.{Content}
use Rattle.record_model.specs.Touches.{CacheOp, touch, flush, page_of}
use Rattle.log_records.specs.declared.log_record.LogRecord.{LogRecord}
use Rattle.log_records.specs.Log.{Entry}
use Rattle.log_records.specs.Unfinished.{left_open}
use Rattle.second_chance.specs.Machine.{Cache}
use Rattle.ring_machine.specs.Tail.{waits, empty_at}
use Rattle.ring_machine.specs.Machine.{Machine, RingOp, cached, logged, changed, force}
use Rattle.ring_machine.specs.Octets.{octets_of, update_octets}
use Rattle.ring_machine.specs.Commands.{ends}
use Rattle.ring_machine.specs.Restart.{clr_work}
use Rattle.ring_machine.specs.Performing.{Performs}
use Rattle.log_store.specs.declared.store.LogStore.{LogStore}
use Rattle.write_ahead.specs.Forcing.{is_unsealed, end_now}
use Rattle.page_store.specs.declared.store.PageStore.{PageStore}
use Rattle.page_store.specs.Representation.{current}
use Rattle.page_store.specs.Caching.{cache_of, rules}
use Rattle.analysis.specs.Open.{Open}
use Rattle.redo_undo.specs.declared.store.TransactionStore.{TransactionStore}

-- The machine mirrors log and pages: it has their pool and their queue; its tail goes into the log's next block, and
-- has as many octets; and a page waits for the tail exactly where its last change stands there.
pub record Mirrors (log : LogStore) (pages : PageStore) (image : Image) (m : Machine) : Type 0 where
  pub cache : m.cache ≡ cache_of pages
  pub next : m.tail.next ≡ log.ring.hi
  pub used : m.tail.used ≡ log.used
  pub waiting : (page : ℕ) → page < pages.flash.geometry.pages
      → waits m.tail page ≡ is_unsealed (end_now log) (current pages image page)
  pub masters : m.masters ≤ 2 ^ 40

-- and the ring of master units with them
pub record MirrorsStore (store : TransactionStore) (image : Image) (m : Machine) : Type 0 where
  pub both : Mirrors store.log store.pages image m
  pub masters : m.masters ≡ store.masters.hi

-- a call on log and pages does this work, and a call on a store
abbrev pub PerformsOn : {T : Type 0} → Result T Stop → List RingOp → LogStore → LogStore → PageStore → PageStore → State
    → State → Type 0
PerformsOn result works old new pages pages' before now =
    Performs result (rules pages) works (Mirrors old pages before.image) (Mirrors new pages' now.image)

abbrev pub PerformsStore : {T : Type 0} → Result T Stop → List RingOp → TransactionStore → TransactionStore → State
    → State → Type 0
PerformsStore result works old new before now =
    Performs result (rules old.pages) works (MirrorsStore old before.image) (MirrorsStore new now.image)

-- While a log is redone its tail has no records, and no page waits for one: the machine at rest, with its next block
-- and its next master unit.
abbrev pub resting : ℕ → ℕ → Cache → Machine
resting next masters cache = record { cache = cache; tail = empty_at next; masters = masters }

-- a call that redoes does this work of the cache, from rest to rest, wherever log and masters stand
pub record PerformsAtRest {T : Type 0} (result : Result T Stop) (works : List CacheOp)
    (old new : PageStore) : Type 0 where
  pub from : (next masters : ℕ) → next ≤ 2 ^ 40 → masters ≤ 2 ^ 40
      → Performs result (rules old) (map cached works) (λ m. m ≡ resting next masters (cache_of old))
      (λ m. m ≡ resting next masters (cache_of new))

-- a page comes to the front; what is unsealed is sealed; all changed pages are pushed
abbrev pub touch_work : ℕ → List RingOp
touch_work page = cached (touch page false) ∷ []

abbrev pub force_work : List RingOp
force_work = force ∷ []

-- a Commit is logged
abbrev pub commit_work : List RingOp
commit_work = logged 17 ∷ []

abbrev pub flush_work : List RingOp
flush_work = cached flush ∷ []

-- a record is logged, and one on a page, which it changes
abbrev pub record_work : LogRecord → List RingOp
record_work rec = logged (octets_of rec) ∷ []

abbrev pub change_work : LogRecord → ℕ → List RingOp
change_work rec page = changed (octets_of rec) page ∷ []

abbrev pub updates : ℕ → Content → Content → List RingOp
updates number before after = changed (update_octets before after) (page_of number) ∷ []

-- undoing these Updates, the first one first, and undoing a transaction: a CLR for each of its Updates that are left,
-- and its End
abbrev pub clrs_for : List Entry → List RingOp
clrs_for updates = flat_map clr_work updates

abbrev pub undo_one_work : List Entry → ℕ → List RingOp
undo_one_work records txn = clrs_for (left_open records txn) ++ ends

-- the Ends of the transactions of which nothing remains
abbrev pub none_remains : Open → Bool
none_remains x = nat_eq (length x.updates) 0

abbrev pub ends_for : List Open → List RingOp
ends_for table = replicate (length (filter none_remains table)) (logged 9)
