-- The table that writes leave.
use Rattle.std.proofs.lemmas.Grind.{common_steps}
use Rattle.log_laws.proofs.Names.{◌≡◌, ℕ, ◌<◌, List, [], ◌∷◌, length, None, refl, ◌∙◌, arith, ◌*◌, sym, ext_get_or, option_map, unwrap_or, filter_map, slice_set, write_of, content_of_table, length_table_of, Entry, Version, is_on, last_where, after_of, table_of, value_of, Content, Write, content_at, table_with, last_write, option_or_none}
pub use Rattle.log_records.proofs.Values.{content_of_table}

pub length_table_with : (table : List Content) (writes : List Write) → length (table_with table writes) ≡ length table
length_table_with table [] = refl
length_table_with table (w ∷ writes) = length_table_with (slice_set table w.0 w.1) writes ∙ grind (arith, common_steps)

-- a record of the table after writes
pub content_with : (table : List Content) (writes : List Write) (number : ℕ) → number < length table → content_at (table_with table writes) number ≡ unwrap_or (last_write writes number) (content_at table number)
content_with table [] number h = refl
content_with table (w ∷ writes) number h = grind (arith, common_steps, (content_with (slice_set table w.0 w.1) writes number (grind (arith, common_steps))))

-- the last write of these records on a number
pub last_write_of : (entries : List Entry) (number : ℕ) → last_write (filter_map (λ e. write_of e.rec) entries) number ≡ option_map (λ (x : Entry). after_of x.rec) (last_where (is_on number) entries)
last_write_of [] number = refl
last_write_of (e ∷ entries) number = grind (arith, option_or_none, (last_write_of entries number))

-- where each value is what these records of a log have put there last, the table is that with their writes
pub table_written : (log log' : List Entry) (pages : List Version) (entries : List Entry) →
    ((number : ℕ) → value_of log' pages number ≡ unwrap_or (option_map (λ (x : Entry). after_of x.rec) (last_where (is_on number) entries)) (value_of log pages number)) →
    table_of log' pages ≡ table_with (table_of log pages) (filter_map (λ e. write_of e.rec) entries)
table_written log log' pages entries h =
    ext_get_or None (table_of log' pages) (table_with (table_of log pages) (filter_map (λ e. write_of e.rec) entries))
    (length_table_of log' pages ∙ sym (length_table_with (table_of log pages) (filter_map (λ e. write_of e.rec) entries) ∙ length_table_of log pages))
    (λ number within. each number (omega (arith, length_table_of log' pages, within)))
  where
    each : (number : ℕ) → number < 32 * length pages → content_at (table_of log' pages) number ≡ content_at (table_with (table_of log pages) (filter_map (λ e. write_of e.rec) entries)) number
    each number within = grind (arith, content_of_table, last_write_of, content_with, length_table_of)
