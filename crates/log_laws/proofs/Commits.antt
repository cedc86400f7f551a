-- What a block with no Commit, or with one, changes.
use Rattle.std.proofs.lemmas.Grind.{common_steps}
use Rattle.log_laws.proofs.Names.{◌≡◌, ℕ, ◌+◌, List, [], ◌∷◌, ◌++◌, length, refl, sym, ap, ◌∙◌, append_assoc, arith, append-nil, length-append, filter_map-append, GoesOn, sealed, next_entries, table_after, table_after_all, writes_in, Entry, LogicalImage, IsSound, Means, commit_number, commit_numbers, LogRecord, Commit, Content, table_with}
use Rattle.log_laws.proofs.Seals.{sealed_means}

no_commit : (table : List Content) (log : List Entry) (e : Entry) (entries : List Entry) → commit_numbers (e ∷ entries) ≡ [] → (commit_numbers entries ≡ []) × (table_after table log e.rec ≡ table)
no_commit table log e entries h = grind arith

pub table_none : (table : List Content) (log entries : List Entry) → commit_numbers entries ≡ [] → table_after_all table log entries ≡ table
table_none table log [] h = refl
table_none table log (e ∷ entries) h = grind (arith, common_steps, no_commit, (table_none table (log ++ e ∷ []) entries))

pub table_append : (table : List Content) (log entries more : List Entry) → table_after_all table log (entries ++ more) ≡ table_after_all (table_after_all table log entries) (log ++ entries) more
table_append table log [] more = grind (arith, append-nil)
table_append table log (e ∷ entries) more = grind (arith, append_assoc, (table_append (table_after table log e.rec) (log ++ e ∷ []) entries more))

module _ (p : LogicalImage) (records : List LogRecord) (sound : IsSound p) (goes : GoesOn p records) (table : List Content) (count : ℕ) (means : Means p table count) where
  pub means_without_commit : commit_numbers (next_entries p records) ≡ [] → Means (sealed p records) table count
  means_without_commit h =
      let m = sealed_means p records sound goes table count means in record {
        table_is = sym (table_none table p.log (next_entries p records) h) ∙ m.table_is;
        count_is = omega (arith, m.count_is, ap length h);
      }

  pub means_with_commit : (before after : List Entry) (lsn t number : ℕ) → next_entries p records ≡ before ++ record { lsn = lsn; rec = Commit t number } ∷ after → commit_numbers before ≡ [] → commit_numbers after ≡ [] →
      Means (sealed p records) (table_with table (writes_in t (p.log ++ before))) (count + 1)
  means_with_commit before after lsn t number split none_before none_after =
      let m = sealed_means p records sound goes table count means in
      let c : Entry = record { lsn = lsn; rec = Commit t number } in
      record {
        table_is =
            sym (ap (table_after_all table p.log) split ∙ table_append table p.log before (c ∷ after)
            ∙ ap (λ (x : List Content). table_after_all x (p.log ++ before) (c ∷ after)) (table_none table p.log before none_before)
            ∙ table_none (table_with table (writes_in t (p.log ++ before))) (p.log ++ before ++ c ∷ []) after none_after)
            ∙ m.table_is;
        count_is = omega (
          arith,
          m.count_is,
          ap (λ (l : List Entry). length (commit_numbers l)) split,
          ap length (filter_map-append commit_number before (c ∷ after)),
          length-append (commit_numbers before) (number ∷ commit_numbers after),
          ap length none_before,
          ap length none_after,
        );
      }
