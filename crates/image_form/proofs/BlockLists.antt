-- The records of blocks, block by block and as one log.
use Rattle.image_form.proofs.Names.{◌≡◌, ℕ, ◌+◌, ◌*◌, ◌≤◌, List, [], ◌∷◌, ◌++◌, length, take, refl, sym, ◌∙◌, subst, arith, length-append, AllByRecursion, flat_map, IsOnPage, behind, some_octet, used_is, Entry, Version, entries_from, log_from, spelling, used_by, HasForm, AreBlock, IsBlock, LogRecord}
use Rattle.std.specs.Int.{from_be_bytes, w16}
use Rattle.std_lemmas.proofs.Lists.{front_same}
use Rattle.log_records.specs.declared.log_record.LogRecord.TheVariants.{Begin, Update, Clr, Commit, End}
use Rattle.log_records.specs.Sound.{IsInOrder, IsInTable}
use Rattle.log_records.proofs.Entries.{in_order_from}
use Rattle.log_store.proofs.OneLog.{one_list}

-- A content is the block of one list of records.

pub one_block : (content : List ℕ) (a b : List LogRecord) → IsBlock content a → IsBlock content b → a ≡ b
one_block content a b first second =
    let used = from_be_bytes w16 (take 2 content) in
    let end : used_by a ≡ used_by b = sym (used_is content a used first refl) ∙ used_is content b used second refl in
    one_list a b first.are_block.have_form first.are_block.fit_fields second.are_block.have_form second.are_block.fit_fields
    (front_same (flat_map spelling a) (flat_map spelling b) _ _ (omega (arith, end)) (sym (behind content a first) ∙ behind content b second))

-- Lists of entries.

all_both : (P : Entry → Type 0) (xs ys : List Entry) → AllByRecursion P xs → AllByRecursion P ys → AllByRecursion P (xs ++ ys)
all_both P [] ys first second = second
all_both P (x ∷ xs) ys first second = (first.0, all_both P xs ys first.1 second)

-- their pages are on the disk exactly where their numbers are in the table

in_table : (pages : List Version) (lsn : ℕ) (rec : LogRecord) → IsOnPage (length pages) rec → HasForm rec → IsInTable pages (record { lsn = lsn; rec = rec })
in_table pages lsn Begin on form number is = let none : ⊥ = cc in absurd none
in_table pages lsn (Update txn prev page slot before after) on form number is = let e : 32 * page + slot ≡ number = cc in omega (arith, e, on, form.0)
in_table pages lsn (Clr txn prev undo_next page slot after) on form number is = let e : 32 * page + slot ≡ number = cc in omega (arith, e, on, form.0)
in_table pages lsn (Commit txn number') on form number is = let none : ⊥ = cc in absurd none
in_table pages lsn (End txn) on form number is = let none : ⊥ = cc in absurd none

on_page : (pages : List Version) (lsn : ℕ) (rec : LogRecord) → IsInTable pages (record { lsn = lsn; rec = rec }) → IsOnPage (length pages) rec
on_page pages lsn Begin table = tt
on_page pages lsn (Update txn prev page slot before after) table = let less = table (32 * page + slot) refl in omega (arith, less)
on_page pages lsn (Clr txn prev undo_next page slot after) table = let less = table (32 * page + slot) refl in omega (arith, less)
on_page pages lsn (Commit txn number) table = tt
on_page pages lsn (End txn) table = tt

entries_in_table : (pages : List Version) (lsn : ℕ) (records : List LogRecord) → AllByRecursion (IsOnPage (length pages)) records → AllByRecursion HasForm records → AllByRecursion (IsInTable pages) (entries_from lsn records)
entries_in_table pages lsn [] on form = tt
entries_in_table pages lsn (rec ∷ records) on form = (in_table pages lsn rec on.0 form.0, entries_in_table pages (lsn + length (spelling rec)) records on.1 form.1)

entries_on_pages : (pages : List Version) (lsn : ℕ) (records : List LogRecord) (rest : List Entry) → AllByRecursion (IsInTable pages) (entries_from lsn records ++ rest) →
    AllByRecursion (IsOnPage (length pages)) records × AllByRecursion (IsInTable pages) rest
entries_on_pages pages lsn [] rest all = (tt, all)
entries_on_pages pages lsn (rec ∷ records) rest all =
    let later = entries_on_pages pages (lsn + length (spelling rec)) records rest all.1 in
    ((on_page pages lsn rec all.0, later.0), later.1)

pub log_in_table : (pages : List Version) (first : ℕ) (blocks : List (List LogRecord)) → AllByRecursion (AllByRecursion (IsOnPage (length pages))) blocks → AllByRecursion AreBlock blocks →
    AllByRecursion (IsInTable pages) (log_from first blocks)
log_in_table pages first [] on are = tt
log_in_table pages first (records ∷ blocks) on are =
    all_both (IsInTable pages) (entries_from (512 * first + 2) records) (log_from (first + 1) blocks) (entries_in_table pages (512 * first + 2) records on.0 are.0.have_form)
    (log_in_table pages (first + 1) blocks on.1 are.1)

pub blocks_on_pages : (pages : List Version) (first : ℕ) (blocks : List (List LogRecord)) → AllByRecursion (IsInTable pages) (log_from first blocks) → AllByRecursion (AllByRecursion (IsOnPage (length pages))) blocks
blocks_on_pages pages first [] all = tt
blocks_on_pages pages first (records ∷ blocks) all =
    let both = entries_on_pages pages (512 * first + 2) records (log_from (first + 1) blocks) all in
    (both.0, blocks_on_pages pages (first + 1) blocks both.1)

-- Their LSNs ascend.

entries_in_order : (lsn : ℕ) (records : List LogRecord) (rest : List Entry) (to : ℕ) → IsInOrder (lsn + length (flat_map spelling records)) rest to → IsInOrder lsn (entries_from lsn records ++ rest) to
entries_in_order lsn [] rest to order = in_order_from (lsn + 0) lsn rest to (omega arith) order
entries_in_order lsn (rec ∷ records) rest to order =
    let some = some_octet rec in
    let all = length-append (spelling rec) (flat_map spelling records) in
    let next : ℕ = lsn + length (spelling rec) in
    let end : lsn + length (flat_map spelling (rec ∷ records)) ≡ next + length (flat_map spelling records) = omega (arith, all) in
    let later = entries_in_order next records rest to (subst (λ (n : ℕ). IsInOrder n rest to) end order) in
    (omega arith, in_order_from next (lsn + 1) (entries_from next records ++ rest) to (omega (arith, some)) later)

pub log_in_order : (first : ℕ) (blocks : List (List LogRecord)) (to : ℕ) → AllByRecursion AreBlock blocks → 512 * (first + length blocks) ≤ to → IsInOrder (512 * first) (log_from first blocks) to
log_in_order first [] to are end = omega (arith, end)
log_in_order first (records ∷ blocks) to are end =
    let room = are.0.room in
    let later = log_in_order (first + 1) blocks to are.1 (omega (arith, end)) in
    in_order_from (512 * first + 2) (512 * first) (entries_from (512 * first + 2) records ++ log_from (first + 1) blocks) to (omega arith)
    (entries_in_order (512 * first + 2) records (log_from (first + 1) blocks) to
    (in_order_from (512 * (first + 1)) (512 * first + 2 + length (flat_map spelling records)) (log_from (first + 1) blocks) to (omega (arith, room)) later))
