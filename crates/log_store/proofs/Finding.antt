-- Finding a record by its LSN.
use Rattle.log_store.proofs.Names.{◌≡◌, ◌≢◌, inl, inr, ℕ, suc, get_or, ◌+◌, ◌-◌, ◌*◌, ◌≤◌, ◌<◌, List, [], ◌∷◌, ◌++◌, length, drop, refl, sym, ap, ◌∙◌, subst, append_assoc, arith, cases_eq, cond-true, cond-false, eq-eqb, nat_tests, length-append, drop-drop, drop_at, AllByRecursion, flat_map, Option, Some, None, ◌==◌, if◌then◌else◌, some_octet, behind, one_spelled, spelled_next, Entry, entries_from, log_from, used_by, HasForm, FitsFields, AreBlock, IsBlock, IsSpelledAt, LogRecord, LogList, next_block, entries, at_lsn, sealed_block, HasTail, HasRecords}
use Rattle.log_records.specs.Spelling.{spelling}

-- one entry more in front

here : (lsn place : ℕ) (rec : LogRecord) (rest : List Entry) → place ≡ lsn → at_lsn lsn (record { lsn = place; rec = rec } ∷ rest) ≡ Some rec
here lsn place rec rest is = cond-true (place == lsn) (Some rec) (at_lsn lsn rest) (eq-eqb place lsn is)

not_here : (lsn place : ℕ) (rec : LogRecord) (rest : List Entry) → place ≢ lsn → at_lsn lsn (record { lsn = place; rec = rec } ∷ rest) ≡ at_lsn lsn rest
not_here lsn place rec rest ne = cond-false (place == lsn) (Some rec) (at_lsn lsn rest) (grind (arith, nat_tests))

-- lists one after the other

first_none : (lsn : ℕ) (xs ys : List Entry) → at_lsn lsn xs ≡ None → at_lsn lsn (xs ++ ys) ≡ at_lsn lsn ys
first_none lsn [] ys none = refl
first_none lsn (x ∷ xs) ys none = elim (cases_eq x.lsn lsn) [
  | inl is ↦ absurd (some_not_none x.rec (sym (here lsn x.lsn x.rec xs is) ∙ none))
  | inr ne ↦ not_here lsn x.lsn x.rec (xs ++ ys) ne ∙ first_none lsn xs ys (sym (not_here lsn x.lsn x.rec xs ne) ∙ none)
]
  where
    some_not_none : (rec : LogRecord) → Some rec ≡ None → ⊥
    some_not_none rec e = cc

second_none : (lsn : ℕ) (xs ys : List Entry) → at_lsn lsn ys ≡ None → at_lsn lsn (xs ++ ys) ≡ at_lsn lsn xs
second_none lsn [] ys none = none
second_none lsn (x ∷ xs) ys none = ap (λ (o : Option LogRecord). if x.lsn == lsn then Some x.rec else o) (second_none lsn xs ys none)

-- the entries of a block

none_before : (lsn from : ℕ) (records : List LogRecord) → lsn < from → at_lsn lsn (entries_from from records) ≡ None
none_before lsn from [] below = refl
none_before lsn from (rec ∷ records) below = grind (arith, not_here, (none_before lsn (from + length (spelling rec)) records (omega (arith, below))))

none_behind : (lsn from : ℕ) (records : List LogRecord) → from + length (flat_map spelling records) ≤ lsn → at_lsn lsn (entries_from from records) ≡ None
none_behind lsn from [] above = refl
none_behind lsn from (rec ∷ records) above =
    let both = length-append (spelling rec) (flat_map spelling records) in
    let some = some_octet rec in
    not_here lsn from rec (entries_from (from + length (spelling rec)) records) (λ is. omega (arith, is, both, some, above))
    ∙ none_behind lsn (from + length (spelling rec)) records (omega (arith, both, above))

-- LSNs of a block are offsets behind a number
shifted : (k offset from place : ℕ) (records : List LogRecord) → place ≡ k + from → at_lsn (k + offset) (entries_from place records) ≡ at_lsn offset (entries_from from records)
shifted k offset from place [] is = refl
shifted k offset from place (rec ∷ records) is =
    let next = from + length (spelling rec) in
    let later = place + length (spelling rec) in
    elim (cases_eq from offset) [
      | inl same ↦ here (k + offset) place rec (entries_from later records) (omega (arith, is, same)) ∙ sym (here offset from rec (entries_from next records) same)
      | inr ne ↦
          not_here (k + offset) place rec (entries_from later records) (λ e. ne (omega (arith, is, e)))
          ∙ shifted k offset next later records (omega (arith, is))
          ∙ sym (not_here offset from rec (entries_from next records) ne)
    ]

-- the entries of blocks

blocks_before : (lsn first : ℕ) (blocks : List (List LogRecord)) → lsn < 512 * first → at_lsn lsn (log_from first blocks) ≡ None
blocks_before lsn first [] below = refl
blocks_before lsn first (records ∷ blocks) below = grind (arith, first_none, none_before, (blocks_before lsn (first + 1) blocks (omega (arith, below))))

blocks_behind : (lsn first : ℕ) (blocks : List (List LogRecord)) → AllByRecursion AreBlock blocks → 512 * (first + length blocks) ≤ lsn → at_lsn lsn (log_from first blocks) ≡ None
blocks_behind lsn first [] all above = refl
blocks_behind lsn first (records ∷ blocks) all above = grind (arith, first_none, none_behind, (blocks_behind lsn (first + 1) blocks all.1 (omega (arith, above))))

block_at : (b offset first : ℕ) (blocks : List (List LogRecord)) → AllByRecursion AreBlock blocks → first ≤ b → b < first + length blocks → offset < 512 →
    at_lsn (512 * b + offset) (log_from first blocks) ≡ at_lsn offset (entries_from 2 (get_or blocks (b - first) []))
block_at b offset first [] all from to small = absurd (omega (arith, from, to))
block_at b offset first (records ∷ blocks) all from to small =
    let lsn = 512 * b + offset in
    elim (cases_eq first b) [
      | inl is ↦
          let none : b - first ≡ 0 = omega (arith, is) in
          second_none lsn (entries_from (512 * first + 2) records) (log_from (first + 1) blocks) (blocks_before lsn (first + 1) blocks (omega (arith, is, small)))
          ∙ shifted (512 * b) offset 2 (512 * first + 2) records (omega (arith, is))
          ∙ ap (λ (i : ℕ). at_lsn offset (entries_from 2 (get_or (records ∷ blocks) i []))) (sym none)
      | inr ne ↦
          let room = all.0.room in
          let above : first + 1 ≤ b = omega (arith, from, ne) in
          let more : b - first ≡ suc (b - (first + 1)) = omega (arith, above) in
          first_none lsn (entries_from (512 * first + 2) records) (log_from (first + 1) blocks) (none_behind lsn (512 * first + 2) records (omega (arith, above, room)))
          ∙ block_at b offset (first + 1) blocks all.1 above (omega (arith, to)) small
          ∙ ap (λ (i : ℕ). at_lsn offset (entries_from 2 (get_or (records ∷ blocks) i []))) (sym more)
    ]

-- the record at an LSN of a sealed block, and of the tail

pub in_block : (log : LogList) (lsn b offset : ℕ) → AllByRecursion AreBlock log.blocks → log.first ≤ b → b < next_block log → offset < 512 → lsn ≡ 512 * b + offset →
    at_lsn lsn (entries log) ≡ at_lsn offset (entries_from 2 (sealed_block log b))
in_block log lsn b offset all from to small is = grind (arith, second_none, none_before, block_at)

pub in_tail : (log : LogList) (lsn b offset : ℕ) → AllByRecursion AreBlock log.blocks → b ≡ next_block log → lsn ≡ 512 * b + offset → at_lsn lsn (entries log) ≡ at_lsn offset (entries_from 2 log.tail)
in_tail log lsn b offset all at is = grind (arith, first_none, blocks_behind, shifted)

-- Walking over the records of octets.

-- what is left of the records from a place on, and that a record at the offset stands there if at all
pub record IsLeft (octets : List ℕ) (used offset at : ℕ) (records : List LogRecord) : Type 0 where
  pub left : List LogRecord
  pub have_form : AllByRecursion HasForm left
  pub fit_fields : AllByRecursion FitsFields left
  pub text : drop at octets ≡ flat_map spelling left ++ drop used octets
  pub end : used ≡ at + length (flat_map spelling left)
  pub same : at_lsn offset (entries_from 2 records) ≡ at_lsn offset (entries_from at left)

pub record IsReading (octets : List ℕ) (used offset at : ℕ) : Type 0 where
  pub high : at ≤ used
  pub left : (records : List LogRecord) → HasRecords octets used records → IsLeft octets used offset at records

-- before the end one is left
one_left : (octets : List ℕ) (used offset at : ℕ) (records : List LogRecord) (l : IsLeft octets used offset at records) → at < used → (rec : LogRecord) × (others : List LogRecord) × (l.left ≡ rec ∷ others)
one_left octets used offset at records l before = by_cases l.left refl
  where
    by_cases : (left : List LogRecord) → l.left ≡ left → (rec : LogRecord) × (others : List LogRecord) × (l.left ≡ rec ∷ others)
    by_cases [] is = let end = l.end in let none = ap (λ (x : List LogRecord). length (flat_map spelling x)) is in absurd (omega (arith, end, none, before))
    by_cases (rec ∷ others) is = (rec, others, is)

-- and it is spelled there
module _ (octets : List ℕ) (used offset at : ℕ) (records : List LogRecord) (l : IsLeft octets used offset at records) (rec : LogRecord) (others : List LogRecord) (is : l.left ≡ rec ∷ others) where
  size : length (flat_map spelling l.left) ≡ length (spelling rec) + length (flat_map spelling others)
  size = ap (λ (x : List LogRecord). length (flat_map spelling x)) is ∙ length-append (spelling rec) (flat_map spelling others)

  front : drop at octets ≡ spelling rec ++ (flat_map spelling others ++ drop used octets)
  front = l.text ∙ ap (λ (x : List LogRecord). flat_map spelling x ++ drop used octets) is ∙ append_assoc (spelling rec) (flat_map spelling others) (drop used octets)

  pub first_spelled : IsSpelledAt octets at used rec (at + length (spelling rec))
  first_spelled = spelled_next octets used at rec (flat_map spelling others ++ drop used octets) front (let end = l.end in omega (arith, end, size))
      (subst (AllByRecursion HasForm) is l.have_form).0 (subst (AllByRecursion FitsFields) is l.fit_fields).0

  -- past it, where it isn't the one that is looked for
  pub rest_left : at ≢ offset → IsLeft octets used offset (at + length (spelling rec)) records
  rest_left ne = record {
    left = others;
    have_form = (subst (AllByRecursion HasForm) is l.have_form).1;
    fit_fields = (subst (AllByRecursion FitsFields) is l.fit_fields).1;
    text = sym (drop-drop (length (spelling rec)) at octets) ∙ ap (drop (length (spelling rec))) front ∙ drop_at (spelling rec) (flat_map spelling others ++ drop used octets) (length (spelling rec)) refl;
    end = let end = l.end in omega (arith, end, size);
    same = l.same ∙ ap (λ (x : List LogRecord). at_lsn offset (entries_from at x)) is ∙ not_here offset at rec (entries_from (at + length (spelling rec)) others) ne;
  }

  pub first_found : at ≡ offset → at_lsn offset (entries_from 2 records) ≡ Some rec
  first_found same = l.same ∙ ap (λ (x : List LogRecord). at_lsn offset (entries_from at x)) is ∙ here offset at rec (entries_from (at + length (spelling rec)) others) same

module _ (octets : List ℕ) (used offset at : ℕ) (reading : IsReading octets used offset at) where
  pub read_on : (end : ℕ) (rec : LogRecord) → at < used → IsSpelledAt octets at used rec end → at ≢ offset → IsReading octets used offset end
  read_on end rec before spelled ne = record {
    high = spelled.inside;
    left = λ records has.
        let l = reading.left records has in
        let one = one_left octets used offset at records l before in
        let same = one_spelled octets at used one.0 rec (at + length (spelling one.0)) end (first_spelled octets used offset at records l one.0 one.1 one.2) spelled in
        subst (λ (n : ℕ). IsLeft octets used offset n records) same.1 (rest_left octets used offset at records l one.0 one.1 one.2 ne);
  }

  pub read_here : (end : ℕ) (rec : LogRecord) → at < used → IsSpelledAt octets at used rec end → at ≡ offset → (records : List LogRecord) → HasRecords octets used records → Some rec ≡ at_lsn offset (entries_from 2 records)
  read_here end rec before spelled is records has =
      let l = reading.left records has in
      let one = one_left octets used offset at records l before in
      let same = one_spelled octets at used one.0 rec (at + length (spelling one.0)) end (first_spelled octets used offset at records l one.0 one.1 one.2) spelled in
      sym (first_found octets used offset at records l one.0 one.1 one.2 is ∙ ap (λ (x : LogRecord). Some x) same.0)

  pub read_none : at < used → ((rec : LogRecord) (stop : ℕ) → IsSpelledAt octets at used rec stop → ⊥) → (records : List LogRecord) → HasRecords octets used records → None ≡ at_lsn offset (entries_from 2 records)
  read_none before none records has =
      let l = reading.left records has in
      let one = one_left octets used offset at records l before in
      absurd (none one.0 _ (first_spelled octets used offset at records l one.0 one.1 one.2))

  pub read_all : used ≤ at → (records : List LogRecord) → HasRecords octets used records → None ≡ at_lsn offset (entries_from 2 records)
  read_all behind records has =
      let l = reading.left records has in
      sym (l.same ∙ by_cases l.left (let end = l.end in omega (arith, end, behind)))
    where
      by_cases : (left : List LogRecord) → length (flat_map spelling left) ≡ 0 → at_lsn offset (entries_from at left) ≡ None
      by_cases [] none = refl
      by_cases (rec ∷ left) none = absurd (omega (arith, none, some_octet rec, length-append (spelling rec) (flat_map spelling left)))

-- the octets of a tail, and those of a block

have_records : (octets rest : List ℕ) (used : ℕ) (records : List LogRecord) → used ≡ used_by records → AllByRecursion HasForm records → AllByRecursion FitsFields records → drop 2 octets ≡ flat_map spelling records ++ rest → HasRecords octets used records
have_records octets rest used records end form fits text =
    let flat = flat_map spelling records in
    let behind : drop used octets ≡ rest = ap (λ (n : ℕ). drop n octets) end ∙ sym (drop-drop (length flat) 2 octets) ∙ ap (drop (length flat)) text ∙ drop_at flat rest (length flat) refl in
    record { end = end; have_form = form; fit_fields = fits; text = text ∙ ap (λ (l : List ℕ). flat ++ l) (sym behind) }

pub tail_has : (octets : List ℕ) (used : ℕ) (records : List LogRecord) → HasTail octets used records → HasRecords octets used records
tail_has octets used records t = have_records octets _ used records t.end t.have_form t.fit_fields t.text

pub block_has : (octets : List ℕ) (used : ℕ) (records : List LogRecord) → IsBlock octets records → used ≡ used_by records → HasRecords octets used records
block_has octets used records is end = have_records octets _ used records end is.are_block.have_form is.are_block.fit_fields (behind octets records is)
