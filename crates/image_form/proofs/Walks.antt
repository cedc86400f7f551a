-- A walk over the records of a log.
use Rattle.std.proofs.lemmas.Grind.{common_steps}
use Rattle.image_form.proofs.Names.{◌≡◌, ℕ, ◌+◌, ◌-◌, ◌*◌, ◌≤◌, ◌<◌, List, [], ◌∷◌, ◌++◌, length, drop, refl, sym, ap, ◌∙◌, subst, append_assoc, arith, append-nil, Option, Some, max, slice_index_or, log_shape, IsLeft, StandsBefore, Gives, Entry, entries_from, log_from, spelling, used_by, IsBlock, IsSpelledAt, LogRecord, HasBlocks, block_on, LogStore, hi_of, Image, Geometry}
use Rattle.log_store.specs.LogList.{LogList}
use Rattle.log_store.proofs.BlockLaws.{blocks_from}
use Rattle.log_store.proofs.Standing.{stands_there}
use Rattle.image_form.specs.declared.walk.Walk.{Walk}
use Rattle.image_form.proofs.BlockLists.{one_block}
use Rattle.image_form.proofs.BlockReading.{all_left, none_left, reads_first}

-- where nothing is left of the block in memory
nothing_here : (walk : Walk) (log : LogStore) (image : Image) (left : List Entry) (s : StandsBefore walk log image left) → walk.used ≤ walk.at → left ≡ log_from walk.block s.blocks
nothing_here walk log image left s end = grind (arith, common_steps, none_left)

-- and behind it
pub nothing_left : (walk : Walk) (log : LogStore) (image : Image) (left : List Entry) → StandsBefore walk log image left → walk.used ≤ walk.at → hi_of (log_shape log.geometry) image.log ≤ walk.block → left ≡ []
nothing_left walk log image left s end last = nothing_here walk log image left s end ∙ ap (log_from walk.block) (empty s.blocks (let next = s.behind.next in omega (arith, next, last)))
  where
    empty : (blocks : List (List LogRecord)) → length blocks ≡ 0 → blocks ≡ []
    empty [] is = refl
    empty (b ∷ blocks) is = absurd (omega (arith, is))

first_block : (blocks : List (List LogRecord)) → 0 < length blocks → (first : List LogRecord) × (rest : List (List LogRecord)) × (blocks ≡ first ∷ rest)
first_block [] some = absurd (omega (arith, some))
first_block (first ∷ rest) some = (first, rest, refl)

later_blocks : (g : Geometry) (n : ℕ) (first : List LogRecord) (rest : List (List LogRecord)) (image : Image) → HasBlocks g n (first ∷ rest) image → HasBlocks g (n + 1) rest image
later_blocks g n first rest image has =
    let moved = blocks_from g n (n + 1) (first ∷ rest) image has (omega arith) in
    let at : max n (n + 1) ≡ n + 1 = omega arith in
    let one : n + 1 - n ≡ 1 = omega arith in
    subst (λ (k : ℕ). HasBlocks g k rest image) at (subst (λ (k : ℕ). HasBlocks g (max n (n + 1)) (drop k (first ∷ rest)) image) one moved)

-- the next block was read
pub filled : (log : LogStore) (old new : Walk) (image : Image) (left : List Entry) → StandsBefore old log image left → old.used ≤ old.at → old.block < hi_of (log_shape log.geometry) image.log →
    new.from ≡ 512 * old.block → new.block ≡ old.block + 1 → new.at ≡ 2 → new.content ≡ block_on log.geometry image old.block → (records : List LogRecord) → IsBlock new.content records → new.used ≡ used_by records →
    StandsBefore new log image left
filled log old new image left s end below from next at content records is used =
    let g = log.geometry in
    let count = s.behind.next in
    let one = first_block s.blocks (omega (arith, count, below)) in
    let behind : HasBlocks g old.block (one.0 ∷ one.1) image = subst (λ (x : List (List LogRecord)). HasBlocks g old.block x image) one.2 s.behind in
    let list : LogList = record { first = old.block; blocks = one.0 ∷ one.1; tail = [] } in
    let there = stands_there g list image old.block behind (omega arith) (omega arith) in
    let none : old.block - old.block ≡ 0 = omega arith in
    let first : IsBlock (block_on g image old.block) one.0 = subst (λ (k : ℕ). IsBlock (block_on g image old.block) (slice_index_or (one.0 ∷ one.1) k [])) none there in
    let same : records ≡ one.0 = one_block new.content records one.0 is (subst (λ (c : List ℕ). IsBlock c one.0) (sym content) first) in
    let here : IsLeft new.content new.used 2 records = all_left new.content new.used records is used in
    let place : 512 * old.block + 2 ≡ new.from + new.at = omega (arith, from, at) in
    record {
      records = one.0;
      blocks = one.1;
      here = subst (λ (x : List LogRecord). IsLeft new.content new.used new.at x) same (subst (λ (k : ℕ). IsLeft new.content new.used k records) (sym at) here);
      behind = subst (λ (k : ℕ). HasBlocks g k one.1 image) (sym next) (later_blocks g old.block one.0 one.1 image behind);
      entries =
          nothing_here old log image left s end
          ∙ ap (log_from old.block) one.2
          ∙ ap (λ (k : ℕ). entries_from k one.0 ++ log_from (old.block + 1) one.1) place
          ∙ ap (λ (k : ℕ). entries_from (new.from + new.at) one.0 ++ log_from k one.1) (sym next);
    }

-- the next record was read
pub given : (log : LogStore) (old new : Walk) (image : Image) (left : List Entry) (rec : LogRecord) (end lsn : ℕ) → StandsBefore old log image left → old.at < old.used → IsSpelledAt old.content old.at old.used rec end →
    lsn ≡ old.from + old.at → new ≡ record old { at = end } → Gives (Some (lsn, rec)) left new log image
given log old new image left rec end lsn s before spelled is new_is =
    let read = reads_first old.content old.used old.at s.records s.here before rec end spelled in
    let place : old.from + old.at + length (spelling rec) ≡ old.from + end = let at = spelled.length_is in omega (arith, at) in
    let rest : List Entry = entries_from (old.from + old.at + length (spelling rec)) read.0 ++ log_from old.block s.blocks in
    let stands : StandsBefore (record old { at = end }) log image rest = record {
      records = read.0;
      blocks = s.blocks;
      here = read.2;
      behind = s.behind;
      entries = ap (λ (k : ℕ). entries_from k read.0 ++ log_from old.block s.blocks) place;
    } in (
      rest,
      s.entries ∙ ap (λ (x : List LogRecord). entries_from (old.from + old.at) x ++ log_from old.block s.blocks) read.1 ∙ ap (λ (k : ℕ). record { lsn = k; rec = rec } ∷ rest) (sym is),
      subst (λ (w : Walk). StandsBefore w log image rest) (sym new_is) stands,
    )

-- while there are blocks the next one is of the form
pub block_there : (log : LogStore) (walk : Walk) (image : Image) (left : List Entry) → StandsBefore walk log image left → walk.block < hi_of (log_shape log.geometry) image.log → (records : List LogRecord) × IsBlock (block_on log.geometry image walk.block) records
block_there log walk image left s below =
    let g = log.geometry in
    let count = s.behind.next in
    let list : LogList = record { first = walk.block; blocks = s.blocks; tail = [] } in
    (_, stands_there g list image walk.block s.behind (omega arith) (omega (arith, count, below)))

-- Of all entries some were taken, and the walk stands before the others.
pub record Walked (walk : Walk) (log : LogStore) (image : Image) (all : List Entry) : Type 0 where
  pub done : List Entry
  pub left : List Entry
  pub split : all ≡ done ++ left
  pub stands : StandsBefore walk log image left

pub walked_none : (walk : Walk) (log : LogStore) (image : Image) (all : List Entry) → StandsBefore walk log image all → (P : List Entry → Type 0) → P [] → (w : Walked walk log image all) × P w.done
walked_none walk log image all stands P holds = (record { done = []; left = all; split = refl; stands = stands }, holds)

-- one more, and what holds of those taken
pub walked_more : (walk new : Walk) (log : LogStore) (image : Image) (all : List Entry) (w : Walked walk log image all) (lsn : ℕ) (rec : LogRecord) → Gives (Some (lsn, rec)) w.left new log image →
    (P : List Entry → Type 0) → P (w.done ++ record { lsn = lsn; rec = rec } ∷ []) → (next : Walked new log image all) × P next.done
walked_more walk new log image all w lsn rec gives P holds =
    let e : Entry = record { lsn = lsn; rec = rec } in (
      record {
        done = w.done ++ e ∷ [];
        left = gives.0;
        split = w.split ∙ ap (λ (l : List Entry). w.done ++ l) gives.1 ∙ sym (append_assoc w.done (e ∷ []) gives.0);
        stands = gives.2;
      },
      holds,
    )

-- where none is left all were taken
pub walked_all : (walk : Walk) (log : LogStore) (image : Image) (all : List Entry) (w : Walked walk log image all) → w.left ≡ [] → all ≡ w.done
walked_all walk log image all w none = w.split ∙ ap (λ (l : List Entry). w.done ++ l) none ∙ append-nil w.done

-- what is found of the image that stands there is found of the one at entry
pub gives_at : (log : LogStore) (walk new : Walk) (now old : Image) (left : List Entry) (found : Option (ℕ × LogRecord)) → now ≡ old → StandsBefore walk log old left → (StandsBefore walk log now left → Gives found left new log now) → Gives found left new log old
gives_at log walk new now old left found same stands next =
    subst (Gives found left new log) same (next (subst (λ (image : Image). StandsBefore walk log image left) (sym same) stands))
