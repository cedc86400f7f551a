-- The records of a block, read one after the other.
use Rattle.log_laws.proofs.Names.{◌≡◌, ℕ, ◌+◌, ◌*◌, ◌≤◌, ◌<◌, List, [], ◌∷◌, ◌++◌, length, drop, replicate, ◌-◌, refl, sym, ap, subst, ◌∙◌, append_assoc, arith, length-append, append-nil, drop-drop, drop_at, AllByRecursion, flat_map, some_octet, spelled_next, Entry, entries_from, LogRecord}
use Rattle.log_records.specs.Laws.{OneSpelled}
use Rattle.log_records.specs.Spelling.{spelling, block, block_len, used_by, HasForm, FitsFields, IsBlock, IsSpelledAt}

-- behind its first two octets a block has its records, and then zeros
behind : (content : List ℕ) (all : List LogRecord) → IsBlock content all → drop 2 content ≡ flat_map spelling all ++ replicate (block_len - used_by all) 0
unfolding block
behind content all is = ap (drop 2) is.spelled

-- up to a place these were read, and these are left
pub record IsPast (block : ℕ) (octets : List ℕ) (used at : ℕ) (records : List LogRecord) (done : List Entry) : Type 0 where
  pub left : List LogRecord
  pub have_form : AllByRecursion HasForm left
  pub fit_fields : AllByRecursion FitsFields left
  pub text : drop at octets ≡ flat_map spelling left ++ drop used octets
  pub end : used ≡ at + length (flat_map spelling left)
  pub split : entries_from (512 * block + 2) records ≡ done ++ entries_from (512 * block + at) left

pub past_none : (number : ℕ) (octets : List ℕ) (used : ℕ) (records : List LogRecord) → IsBlock octets records → used ≡ used_by records → IsPast number octets used 2 records []
past_none number octets used records is end =
    let flat = flat_map spelling records in
    let rest : List ℕ = replicate (block_len - used_by records) 0 in
    let text = behind octets records is in
    let zeros : drop used octets ≡ rest = ap (λ (n : ℕ). drop n octets) end ∙ sym (drop-drop (length flat) 2 octets) ∙ ap (drop (length flat)) text ∙ drop_at flat rest (length flat) refl in
    record {
      left = records;
      have_form = is.are_block.have_form;
      fit_fields = is.are_block.fit_fields;
      text = text ∙ ap (λ (l : List ℕ). flat ++ l) (sym zeros);
      end = end;
      split = refl;
    }

regroup : (a b : List Entry) (e : Entry) (c d : List Entry) → a ++ ((b ++ (e ∷ c)) ++ d) ≡ (a ++ b) ++ (e ∷ (c ++ d))
regroup a b e c d = grind (arith, append_assoc)

module _ (one_spelled : OneSpelled) (number : ℕ) (octets : List ℕ) (used at : ℕ) (records : List LogRecord) (done : List Entry) (a : IsPast number octets used at records done) where
  one_left : at < used → (rec : LogRecord) × (others : List LogRecord) × (a.left ≡ rec ∷ others)
  one_left before = by_cases a.left refl
    where
      by_cases : (left : List LogRecord) → a.left ≡ left → (rec : LogRecord) × (others : List LogRecord) × (a.left ≡ rec ∷ others)
      by_cases [] is = let end = a.end in let none = ap (λ (x : List LogRecord). length (flat_map spelling x)) is in absurd (omega (arith, end, none, before))
      by_cases (rec ∷ others) is = (rec, others, is)

  module _ (rec : LogRecord) (others : List LogRecord) (is : a.left ≡ rec ∷ others) where
    size : length (flat_map spelling a.left) ≡ length (spelling rec) + length (flat_map spelling others)
    size = ap (λ (x : List LogRecord). length (flat_map spelling x)) is ∙ length-append (spelling rec) (flat_map spelling others)

    front : drop at octets ≡ spelling rec ++ (flat_map spelling others ++ drop used octets)
    front = a.text ∙ ap (λ (x : List LogRecord). flat_map spelling x ++ drop used octets) is ∙ append_assoc (spelling rec) (flat_map spelling others) (drop used octets)

    first_spelled : IsSpelledAt octets at used rec (at + length (spelling rec))
    first_spelled = grind (arith, spelled_next, front, size)

    abbrev this : Entry
    this = record { lsn = 512 * number + at; rec = rec }

    later : entries_from (512 * number + 2) records ≡ done ++ this ∷ entries_from (512 * number + at + length (spelling rec)) others
    later = a.split ∙ ap (λ (x : List LogRecord). done ++ entries_from (512 * number + at) x) is

    past_first : IsPast number octets used (at + length (spelling rec)) records (done ++ this ∷ [])
    past_first = record {
      left = others;
      have_form = (subst (AllByRecursion HasForm) is a.have_form).1;
      fit_fields = (subst (AllByRecursion FitsFields) is a.fit_fields).1;
      text = sym (drop-drop (length (spelling rec)) at octets) ∙ ap (drop (length (spelling rec))) front ∙ drop_at (spelling rec) (flat_map spelling others ++ drop used octets) (length (spelling rec)) refl;
      end = let end = a.end in omega (arith, end, size);
      split = later ∙ sym (append_assoc done (this ∷ []) (entries_from (512 * number + at + length (spelling rec)) others))
          ∙ ap (λ (n : ℕ). (done ++ this ∷ []) ++ entries_from n others) (omega arith);
    }

  -- the record that stands there is the next one of the log
  pub next_of_log : (earlier : List Entry) (rec : LogRecord) (end : ℕ) (log rest : List Entry) → at < used → IsSpelledAt octets at used rec end → log ≡ earlier ++ (entries_from (512 * number + 2) records ++ rest) →
      (others : List Entry) × (log ≡ (earlier ++ done) ++ record { lsn = 512 * number + at; rec = rec } ∷ others)
  next_of_log earlier rec end log rest before spelled is =
      let one = one_left before in
      let same = one_spelled octets at used one.0 rec (at + length (spelling one.0)) end (first_spelled one.0 one.1 one.2) spelled in
      let tail : List Entry = entries_from (512 * number + at + length (spelling one.0)) one.1 in (
        tail ++ rest,
        is ∙ ap (λ (l : List Entry). earlier ++ (l ++ rest)) (later one.0 one.1 one.2) ∙ regroup earlier done (this one.0 one.1 one.2) tail rest
            ∙ ap (λ (r : LogRecord). (earlier ++ done) ++ record { lsn = 512 * number + at; rec = r } ∷ (tail ++ rest)) same.0,
      )

  pub past_one : (rec : LogRecord) (end : ℕ) → at < used → IsSpelledAt octets at used rec end → IsPast number octets used end records (done ++ record { lsn = 512 * number + at; rec = rec } ∷ [])
  past_one rec end before spelled =
      let one = one_left before in
      let same = one_spelled octets at used one.0 rec (at + length (spelling one.0)) end (first_spelled one.0 one.1 one.2) spelled in
      subst (λ (r : LogRecord). IsPast number octets used end records (done ++ record { lsn = 512 * number + at; rec = r } ∷ [])) same.0
      (subst (λ (n : ℕ). IsPast number octets used n records (done ++ record { lsn = 512 * number + at; rec = one.0 } ∷ [])) same.1 (past_first one.0 one.1 one.2))

  pub none_there : at < used → ((rec : LogRecord) (stop : ℕ) → IsSpelledAt octets at used rec stop → ⊥) → ⊥
  none_there before none = let one = one_left before in none one.0 _ (first_spelled one.0 one.1 one.2)

  pub past_all : used ≤ at → done ≡ entries_from (512 * number + 2) records
  past_all over = sym (a.split ∙ ap (λ (l : List LogRecord). done ++ entries_from (512 * number + at) l) (none a.left (let end = a.end in omega (arith, end, over))) ∙ append-nil done)
    where
      none : (left : List LogRecord) → length (flat_map spelling left) ≡ 0 → left ≡ []
      none [] is = refl
      none (rec ∷ left) is = absurd (omega (arith, is, some_octet rec, length-append (spelling rec) (flat_map spelling left)))
