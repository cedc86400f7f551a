-- Tables of equal values.
use Rattle.log_laws.proofs.Names.{◌≡◌, ℕ, ◌*◌, ◌<◌, List, length, None, sym, ap, ◌∙◌, arith, ext_get_or, content_of_table, length_table_of, Entry, Version, value_of, table_of, content_at}
pub use Rattle.log_records.proofs.Values.{page_and_slot}

-- tables are equal where their values are
pub table_same : (log log' : List Entry) (pages pages' : List Version) → length pages' ≡ length pages → ((number : ℕ) → number < 32 * length pages → value_of log' pages' number ≡ value_of log pages number) →
    table_of log' pages' ≡ table_of log pages
table_same log log' pages pages' same h =
    ext_get_or None (table_of log' pages') (table_of log pages) (length_table_of log' pages' ∙ ap (λ n. 32 * n) same ∙ sym (length_table_of log pages))
    (λ number within. each number (omega (arith, length_table_of log' pages', within, same)))
  where
    each : (number : ℕ) → number < 32 * length pages → content_at (table_of log' pages') number ≡ content_at (table_of log pages) number
    each number within = content_of_table log' pages' number (omega (arith, same, within)) ∙ h number within ∙ sym (content_of_table log pages number within)
