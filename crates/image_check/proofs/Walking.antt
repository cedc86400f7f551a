-- Calls that only read, one after the other, and walks over the log that was found.
use Rattle.std.proofs.lemmas.Grind.{common_steps}
use Rattle.image_check.proofs.Names.{◌≡◌, ℕ, ◌+◌, ◌*◌, ◌≤◌, List, [], ◌∷◌, ◌++◌, length, sym, ap, ◌∙◌, subst, arith, Ok, IfSome, MayBeJudged, Sees, JudgesBy, records_of, kept_blocks, log_in_order, may_be_read_later, ReadsAtMost, MayWalk, StandsBefore, Gives, unread, Found, Entry, IsInOrder, LogRecord, Finds, HasBlocks, looks_then, looks_answered, State, Image, OnlyReads, Stop}
use Rattle.std.specs.Prelude.{Option, Some, None, Err}
use Rattle.site.specs.declared.outside.Stop.TheVariants.{Memory}
use Rattle.log_store.specs.declared.store.LogStore.{LogStore}
use Rattle.image_form.specs.declared.walk.Walk.{Walk}
use Rattle.image_form.proofs.BlocksJudged.{finds_later}
use Rattle.image_form.proofs.Walks.{Walked, walked_none, walked_more, walked_all, gives_at}

-- What was found is there after calls that only read.

pub may_later : {T : Type 0} {x : T} {found : Found} {a b : State} → OnlyReads {T = T} (Ok x) a b → MayBeJudged found a → MayBeJudged found b
may_later {found = found} {a = a} {b = b} reads may = record { read = may_be_read_later found a b reads.preserves may.read; live = may.live; redo = may.redo }

pub sees_later : {T : Type 0} {x : T} {found : Found} {blocks : List (List LogRecord)} {a b : State} → OnlyReads {T = T} (Ok x) a b → Sees found blocks a → Sees found blocks b
sees_later {found = found} {blocks = blocks} {a = a} {b = b} reads sees = grind (arith, common_steps, finds_later)

pub in_order : {found : Found} {blocks : List (List LogRecord)} {site : State} → Sees found blocks site →
    IsInOrder (512 * found.master.kept) (records_of found blocks) (512 * (found.master.kept + length blocks))
in_order {found = found} {blocks = blocks} sees = log_in_order found.master.kept blocks (512 * (found.master.kept + length blocks)) sees.has.are_blocks (omega arith)

-- calls that only read, behind which memory lacks
pub reads_lacked : {A B : Type 0} {x : A} {stop : Stop} {a b : State} → stop ≡ Memory → OnlyReads {T = A} (Ok x) a b → OnlyReads {T = B} (Err stop) a b
reads_lacked {B = B} {a = a} {b = b} is reads = grind (arith, common_steps)

-- A walk over the records of what was found.

-- it may go on, and this holds of the records that it has given
pub record WalksOver (found : Found) (walk : Walk) (old now : State) (left most : ℕ) (P : List (List LogRecord) → List Entry → Type 0) : Type 0 where
  pub may : MayBeJudged found now
  pub walks : MayWalk found.log walk
  pub heard : (blocks : List (List LogRecord)) → Sees found blocks old → (w : Walked walk found.log old.image (records_of found blocks)) × P blocks w.done
  pub reads : OnlyReads {T = Unit {0}} (Ok tt) old now
  pub few : now.log_reads + unread found.log walk ≤ old.log_reads + kept_blocks found
  -- of flash and the disk so much may be read yet
  pub pages : now.flash_reads + now.disk_reads + left ≤ old.flash_reads + old.disk_reads + most

pub walk_begins_with : {found : Found} {walk : Walk} {site : State} → (left most : ℕ) → left ≤ most → MayBeJudged found site → MayWalk found.log walk → walk.block ≡ found.master.kept →
    ((image : Image) (blocks : List (List LogRecord)) → HasBlocks found.log.geometry found.master.kept blocks image → StandsBefore walk found.log image (records_of found blocks)) →
    (P : List (List LogRecord) → List Entry → Type 0) → ((blocks : List (List LogRecord)) → Sees found blocks site → P blocks []) → OnlyReads {T = Unit {0}} (Ok tt) site site → WalksOver found walk site site left most P
walk_begins_with {found = found} {walk = walk} {site = site} left most less may walks first stands P holds reads = record {
  may = may;
  walks = walks;
  heard = λ blocks sees. walked_none walk found.log site.image (records_of found blocks) (stands site.image blocks sees.has) (P blocks) (holds blocks sees);
  reads = reads;
  few = omega (arith, first);
  pages = omega (arith, less);
}

pub walk_begins : {found : Found} {walk : Walk} {site : State} → MayBeJudged found site → MayWalk found.log walk → walk.block ≡ found.master.kept →
    ((image : Image) (blocks : List (List LogRecord)) → HasBlocks found.log.geometry found.master.kept blocks image → StandsBefore walk found.log image (records_of found blocks)) →
    (P : List (List LogRecord) → List Entry → Type 0) → ((blocks : List (List LogRecord)) → Sees found blocks site → P blocks []) → OnlyReads {T = Unit {0}} (Ok tt) site site → WalksOver found walk site site 0 0 P
walk_begins may walks first stands P holds reads = walk_begins_with 0 0 (omega arith) may walks first stands P holds reads

-- what a step has read is read after calls that don't read the log
pub gives_few : (log : LogStore) (walk new : Walk) (answer : Option (ℕ × LogRecord)) (now mid next : State) → next.log_reads ≤ mid.log_reads →
    IfSome answer (λ found. mid.log_reads + unread log new ≤ now.log_reads + unread log walk) → IfSome answer (λ found. next.log_reads + unread log new ≤ now.log_reads + unread log walk)
gives_few log walk new None now mid next less few = tt
gives_few log walk new (Some found) now mid next less few = omega (arith, less, few)

-- where a record stands among those of the log
pub record StandsAmong (found : Found) (blocks : List (List LogRecord)) (e : Entry) (P : List Entry → Type 0) : Type 0 where
  pub front : List Entry
  pub back : List Entry
  pub is : records_of found blocks ≡ front ++ e ∷ back
  pub holds : P front

-- what a walk has read where its next step is the last one
pub walk_few : {found : Found} {walk : Walk} {old now next : State} {left most : ℕ} {P : List (List LogRecord) → List Entry → Type 0} → WalksOver found walk old now left most P → ReadsAtMost (unread found.log walk) left now next →
    ReadsAtMost (1 * kept_blocks found) most old next
walk_few so_far ends =
    let few = so_far.few in
    let pages = so_far.pages in
    let more = ends.log in
    let further = ends.pages in
    record { log = omega (arith, few, more); pages = omega (arith, pages, further) }

-- the next step of the walk
module _ {found : Found} {walk : Walk} {old now : State} {left most : ℕ} {P : List (List LogRecord) → List Entry → Type 0} (so_far : WalksOver found walk old now left most P) (answer : Option (ℕ × LogRecord)) (new : Walk)
    (gives : (left : List Entry) → Finds found.log now → StandsBefore walk found.log now.image left → Gives answer left new found.log now.image) where
  given : (blocks : List (List LogRecord)) (sees : Sees found blocks old) → Gives answer (so_far.heard blocks sees).0.left new found.log old.image
  given blocks sees =
      let w = (so_far.heard blocks sees).0 in
      gives_at found.log walk new now.image old.image w.left answer (so_far.reads.same sees.log.honest).image w.stands (gives w.left (sees_later so_far.reads sees).log)

  module _ (lsn : ℕ) (rec : LogRecord) (is : answer ≡ Some (lsn, rec)) where
    abbrev e : Entry
    e = record { lsn = lsn; rec = rec }

    more : (blocks : List (List LogRecord)) (sees : Sees found blocks old) → Gives (Some (lsn, rec)) (so_far.heard blocks sees).0.left new found.log old.image
    more blocks sees = subst (λ (o : Option (ℕ × LogRecord)). Gives o (so_far.heard blocks sees).0.left new found.log old.image) is (given blocks sees)

    pub walk_at : (blocks : List (List LogRecord)) → Sees found blocks old → StandsAmong found blocks e (P blocks)
    walk_at blocks sees =
        let so = so_far.heard blocks sees in
        let one = more blocks sees in
        record { front = so.0.done; back = one.0; is = so.0.split ∙ ap (λ (l : List Entry). so.0.done ++ l) one.1; holds = so.1 }

    pub walk_goes_with : {next : State} (later : ℕ) → MayWalk found.log new → OnlyReads {T = Option (ℕ × LogRecord)} (Ok answer) now next → IfSome answer (λ found'. next.log_reads + unread found.log new ≤ now.log_reads + unread found.log walk) → next.flash_reads + next.disk_reads + later ≤ now.flash_reads + now.disk_reads + left → (Q : List (List LogRecord) → List Entry → Type 0) →
        ((blocks : List (List LogRecord)) → Sees found blocks old → (at : StandsAmong found blocks e (P blocks)) → Q blocks (at.front ++ e ∷ [])) → WalksOver found new old next later most Q
    unfolding walk_at
    walk_goes_with {next = next} later walks reads few pages Q holds = record {
      may = may_later reads so_far.may;
      walks = walks;
      heard = λ blocks sees. walked_more walk new found.log old.image (records_of found blocks) (so_far.heard blocks sees).0 lsn rec (more blocks sees) (Q blocks) (holds blocks sees (walk_at blocks sees));
      reads = looks_then tt _ old now next so_far.reads (looks_answered answer tt now next reads);
      few =
          let before = so_far.few in
          let more : next.log_reads + unread found.log new ≤ now.log_reads + unread found.log walk =
          subst (λ (o : Option (ℕ × LogRecord)). IfSome o (λ found'. next.log_reads + unread found.log new ≤ now.log_reads + unread found.log walk)) is few in
          omega (arith, before, more);
      pages = let before = so_far.pages in omega (arith, before, pages);
    }

    pub walk_goes_on : {next : State} → MayWalk found.log new → OnlyReads {T = Option (ℕ × LogRecord)} (Ok answer) now next → IfSome answer (λ found'. next.log_reads + unread found.log new ≤ now.log_reads + unread found.log walk) → ReadsAtMost (unread found.log walk) 0 now next → (Q : List (List LogRecord) → List Entry → Type 0) →
        ((blocks : List (List LogRecord)) → Sees found blocks old → (at : StandsAmong found blocks e (P blocks)) → Q blocks (at.front ++ e ∷ [])) → WalksOver found new old next left most Q
    unfolding walk_at
    walk_goes_on walks reads few ends Q holds = walk_goes_with left walks reads few (let none = ends.pages in omega (arith, none)) Q holds

    pub judged_at : {next : State} {B : Type 0} (y : B) (Says : List (List LogRecord) → B → Type 0) → OnlyReads {T = Option (ℕ × LogRecord)} (Ok answer) now next → ReadsAtMost (unread found.log walk) left now next →
        ((blocks : List (List LogRecord)) → Sees found blocks old → StandsAmong found blocks e (P blocks) → Says blocks y) → JudgesBy {T = B} found 1 most (Ok y) old next Says
    judged_at {next = next} y Says reads ends says = record {
      says = λ blocks sees. says blocks sees (walk_at blocks sees);
      reads = looks_then tt _ old now next so_far.reads (looks_answered answer y now next reads);
      few = walk_few so_far ends;
    }

  -- where none is left
  pub judged_end : {next : State} {B : Type 0} (y : B) (Says : List (List LogRecord) → B → Type 0) → answer ≡ None → OnlyReads {T = Option (ℕ × LogRecord)} (Ok answer) now next → ReadsAtMost (unread found.log walk) left now next →
      ((blocks : List (List LogRecord)) → Sees found blocks old → P blocks (records_of found blocks) → Says blocks y) → JudgesBy {T = B} found 1 most (Ok y) old next Says
  judged_end {next = next} y Says is reads ends says = record {
    says = λ blocks sees.
        let so = so_far.heard blocks sees in
        let none : so.0.left ≡ [] = subst (λ (o : Option (ℕ × LogRecord)). Gives o so.0.left new found.log old.image) is (given blocks sees) in
        says blocks sees (subst (P blocks) (sym (walked_all walk found.log old.image (records_of found blocks) so.0 none)) so.1);
    reads = looks_then tt _ old now next so_far.reads (looks_answered answer y now next reads);
    few = walk_few so_far ends;
  }
