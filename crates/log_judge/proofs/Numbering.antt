-- The numbers of the commits, record by record.
use Rattle.std.proofs.lemmas.Grind.{common_steps}
use Rattle.log_judge.proofs.Names.{◌≡◌, ◌⊎◌, inl, inr, ℕ, ◌+◌, ◌*◌, ◌/◌, ◌≤◌, Bool, true, false, true≢false, List, [], ◌∷◌, ◌++◌, length, get_or, refl, sym, ap, ◌∙◌, arith, get_or-append_seam, cases_lt, cases_eq, nat_tests, length-append, append-nil, filter-append, filter_map-append, range_with_len, cons_option, nat_le, not, if◌then◌else◌, Heard, Counts, Fit, Numbers, Entry, LogicalImage, AreNumbered, commit_count, commit_number, commit_number_by, commit_numbers, before_block, from_block, LogRecord, Begin, Update, Clr, Commit, End, range_push}
use Rattle.std.proofs.Common.{filter}
use Rattle.std.specs.Prelude.{Option, Some, None, nat_lt}
use Rattle.std.proofs.lemmas.List.FromFn.{get_or-range_with_len, length-range_with_len}
use Rattle.std.proofs.Math.ListN.{get_or-append}

-- a Commit's number, or none
abbrev listed : Option ℕ → List ℕ
listed None = []
listed (Some number) = number ∷ []

one : (lsn : ℕ) (rec : LogRecord) → commit_numbers (record { lsn = lsn; rec = rec } ∷ []) ≡ listed (commit_number_by rec)
one lsn Begin = refl
one lsn (Update txn prev page slot before after) = refl
one lsn (Clr txn prev undo_next page slot after) = refl
one lsn (Commit txn number) = refl
one lsn (End txn) = refl

all_numbers : (records : List Entry) (lsn : ℕ) (rec : LogRecord) → commit_numbers (records ++ record { lsn = lsn; rec = rec } ∷ []) ≡ commit_numbers records ++ listed (commit_number_by rec)
all_numbers records lsn rec = filter_map-append commit_number records (record { lsn = lsn; rec = rec } ∷ []) ∙ ap (λ (l : List ℕ). commit_numbers records ++ l) (one lsn rec)

-- those that pass a test
passed : (p : Entry → Bool) (records : List Entry) (lsn : ℕ) (rec : LogRecord) (b : Bool) → p (record { lsn = lsn; rec = rec }) ≡ b →
    commit_numbers (filter p (records ++ record { lsn = lsn; rec = rec } ∷ [])) ≡ commit_numbers (filter p records) ++ (if b then listed (commit_number_by rec) else [])
passed p records lsn rec b is = grind (arith, common_steps, filter-append, filter_map-append, one)

nothing : (b : Bool) (o : Option ℕ) → o ≡ None → (if b then listed o else []) ≡ []
nothing true o none = ap listed none
nothing false o none = refl

still : (p : Entry → Bool) (records : List Entry) (lsn : ℕ) (rec : LogRecord) → commit_number_by rec ≡ None → commit_numbers (filter p (records ++ record { lsn = lsn; rec = rec } ∷ [])) ≡ commit_numbers (filter p records)
still p records lsn rec none = grind (arith, common_steps, passed, nothing, append-nil)

-- there are no more numbers than records
pub heard_few : (redo : ℕ) (n : Numbers) (records : List Entry) → Heard redo n records → n.early + n.late ≤ length records
heard_few redo n records heard =
    let all : length (commit_numbers records) ≡ n.early + n.late = ap length heard.run_on ∙ length-range_with_len n.first (n.early + n.late) in
    let few = numbers_few records in
    omega (arith, all, few)
  where
    with_one : (o : Option ℕ) (numbers : List ℕ) → length (cons_option o numbers) ≤ length numbers + 1
    with_one None numbers = omega arith
    with_one (Some number) numbers = omega arith

    numbers_few : (entries : List Entry) → length (commit_numbers entries) ≤ length entries
    numbers_few [] = omega arith
    numbers_few (e ∷ entries) =
        let rest = numbers_few entries in
        let one = with_one (commit_number e) (commit_numbers entries) in
        omega (arith, rest, one)

-- a record that is no Commit
pub heard_other : (redo : ℕ) (n : Numbers) (records : List Entry) (lsn : ℕ) (rec : LogRecord) → commit_number_by rec ≡ None → Heard redo n records → Heard redo n (records ++ record { lsn = lsn; rec = rec } ∷ [])
heard_other redo n records lsn rec none heard = grind (arith, common_steps, still, all_numbers, append-nil)

pub not_commit : (rec : LogRecord) → ((txn number : ℕ) → rec ≡ Commit txn number → ⊥) → commit_number_by rec ≡ None
not_commit Begin other = refl
not_commit (Update txn prev page slot before after) other = refl
not_commit (Clr txn prev undo_next page slot after) other = refl
not_commit (Commit txn number) other = absurd (other txn number refl)
not_commit (End txn) other = refl

-- numbers that run on

none_yet : (a b number m : ℕ) → b ≡ number → m ≡ 1 → range_with_len a 0 ++ number ∷ [] ≡ range_with_len b m
none_yet a b number m is one = sym ((λ i. range_with_len (is i) (one i)))

some_yet : (a b number k m : ℕ) → b ≡ a → number ≡ a + k → m ≡ k + 1 → range_with_len a k ++ number ∷ [] ≡ range_with_len b m
some_yet a b number k m is next more = ap (λ (x : ℕ). range_with_len a k ++ x ∷ []) next ∙ range_push a k ∙ sym ((λ i. range_with_len (is i) (more i)))

counted : (early : Bool) (number : ℕ) → length (if early then listed (Some number) else []) ≡ (if early then 1 else 0)
counted true number = refl
counted false number = refl

uncounted : (late early : Bool) (number : ℕ) → late ≡ not early → length (if late then listed (Some number) else []) ≡ (if early then 0 else 1)
uncounted true true number is = absurd (true≢false is)
uncounted true false number is = refl
uncounted false true number is = refl
uncounted false false number is = absurd (true≢false (sym is))

-- a record stands before a place, or from it on
one_side : (lsn k : ℕ) → nat_le k lsn ≡ not (nat_lt lsn k)
one_side lsn k = grind (arith, common_steps, cases_lt, nat_tests)

-- and that by its block
pub early_block : (lsn redo : ℕ) → nat_lt (lsn / 512) redo ≡ nat_lt lsn (512 * redo)
early_block lsn redo = grind (arith, common_steps, cases_lt, nat_tests)

-- one Commit more
pub heard_commit : (redo : ℕ) (n new : Numbers) (records : List Entry) (lsn txn number : ℕ) → Heard redo n records → ((n.early + n.late ≡ 0) ⊎ (number ≡ n.first + (n.early + n.late))) → Counts n number (nat_lt lsn (512 * redo)) new →
    Heard redo new (records ++ record { lsn = lsn; rec = Commit txn number } ∷ [])
heard_commit redo n new records lsn txn number heard next counts =
    let early : Bool = nat_lt lsn (512 * redo) in
    let late : Bool = nat_le (512 * redo) lsn in
    let before = passed (λ e. nat_lt e.lsn (512 * redo)) records lsn (Commit txn number) early refl in
    let behind = passed (λ e. nat_le (512 * redo) e.lsn) records lsn (Commit txn number) late refl in
    let early_size = ap length before ∙ length-append (commit_numbers (before_block redo records)) (if early then listed (Some number) else []) in
    let late_size = ap length behind ∙ length-append (commit_numbers (from_block redo records)) (if late then listed (Some number) else []) in
    let early_one = counted early number in
    let late_one = uncounted late early number (one_side lsn (512 * redo)) in
    let early_more = counts.early_more in
    let late_more = counts.late_more in
    let early_so_far = heard.early in
    let late_so_far = heard.late in
    let both = sum early in
    let m : ℕ = n.early + n.late in
    record {
      early = omega (arith, early_size, early_one, early_more, early_so_far);
      late = omega (arith, late_size, late_one, late_more, late_so_far);
      run_on =
          all_numbers records lsn (Commit txn number)
          ∙ ap (λ (l : List ℕ). l ++ number ∷ []) heard.run_on
          ∙ elim (cases_eq m 0) [
            | inl none ↦ ap (λ (k : ℕ). range_with_len n.first k ++ number ∷ []) none ∙ none_yet n.first new.first number (new.early + new.late) (counts.first none) (omega (arith, early_more, late_more, both, none))
            | inr some ↦ some_yet n.first new.first number m (new.early + new.late) (counts.kept (omega (arith, some))) (one_of next some) (omega (arith, early_more, late_more, both))
          ];
    }
  where
    sum : (b : Bool) → (if b then 1 else 0) + (if b then 0 else 1) ≡ 1
    sum true = refl
    sum false = refl

    one_of : {A : Type 0} {k : ℕ} → (k ≡ 0) ⊎ A → (k ≡ 0 → ⊥) → A
    one_of (inl is) other = absurd (other is)
    one_of (inr a) other = a

-- where a number isn't the next one, the numbers don't run on
pub heard_wrong : (redo : ℕ) (n : Numbers) (records rest : List Entry) (lsn txn number a m : ℕ) → Heard redo n records → (((n.early + n.late ≡ 0) ⊎ (number ≡ n.first + (n.early + n.late))) → ⊥) →
    commit_numbers (records ++ record { lsn = lsn; rec = Commit txn number } ∷ rest) ≡ range_with_len a m → ⊥
heard_wrong redo n records rest lsn txn number a m heard off all =
    let k : ℕ = n.early + n.late in
    let xs : List ℕ = commit_numbers records in
    let ys : List ℕ = commit_numbers rest in
    let split : xs ++ number ∷ ys ≡ range_with_len a m = sym (filter_map-append commit_number records (record { lsn = lsn; rec = Commit txn number } ∷ rest)) ∙ all in
    let size : length xs ≡ k = ap length heard.run_on ∙ length-range_with_len n.first k in
    let parts = length-append xs (number ∷ ys) in
    let same = ap length split ∙ length-range_with_len a m in
    let whole : length xs + (1 + length ys) ≡ m = omega (arith, parts, same) in
    elim (cases_eq k 0) [
      | inl none ↦ off (inl none)
      | inr some ↦
          let here : number ≡ a + length xs = sym (get_or-append_seam xs number ys 0) ∙ ap (λ (l : List ℕ). get_or l (length xs) 0) split ∙ get_or-range_with_len a m (length xs) 0 (omega (arith, whole)) in
          let first : n.first + 0 ≡ a + 0 =
          sym (get_or-range_with_len n.first k 0 0 (omega (arith, some)))
          ∙ sym (ap (λ (l : List ℕ). get_or l 0 0) heard.run_on)
          ∙ sym (get_or-append xs (number ∷ ys) 0 0 (omega (arith, size, some)))
          ∙ ap (λ (l : List ℕ). get_or l 0 0) split
          ∙ get_or-range_with_len a m 0 0 (omega (arith, whole)) in
          off (inr (omega (arith, here, first, size)))
    ]

-- at the end

pub numbered : (p : LogicalImage) (n : Numbers) → Heard p.master.redo n p.log → Fit n.first n.early n.late p.master.commits p.hi → AreNumbered p
numbered p n heard fit = grind (arith, common_steps, length-range_with_len)

pub fits : (p : LogicalImage) (n : Numbers) → Heard p.master.redo n p.log → AreNumbered p → Fit n.first n.early n.late p.master.commits p.hi
fits p n heard are = grind (arith, common_steps, length-range_with_len, get_or-range_with_len, get_or)

-- and so many were made
pub counted_all : (p : LogicalImage) (n : Numbers) → Heard p.master.redo n p.log → p.master.commits + n.late ≡ commit_count p
counted_all p n heard = ap (λ (k : ℕ). p.master.commits + k) heard.late
