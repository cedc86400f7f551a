-- Analysis with one more record.
use Rattle.analysis.proofs.Names.{rules, ◌≡◌, ℕ, ◌+◌, ◌-◌, ◌^◌, min, true, false, List, [], ◌∷◌, length, Option, Some, None, refl, sym, ◌∙◌, arith, length-append, Open, found_in, Changes, begun, open_in, IsAnalysis, MayCome, listed, Becomes, Entry, txn_of, is_closing, Master, commit_numbers, Begin}
use Rattle.analysis.specs.declared.analysis.Analysis.{Analysis}
use Rattle.analysis.proofs.Records.{with, after_record, numbers_more}
use Rattle.analysis.proofs.Steps.{next_table, goes_on, is_gone, is_new, known_more, known_active, known_begin}

commits_more : (m : Master) (records : List Entry) (e : Entry) (old new : ℕ) → old ≡ min (m.commits + length (commit_numbers records)) (2 ^ 64 - 1) → new ≡ min (old + length (commit_numbers (e ∷ []))) (2 ^ 64 - 1) →
    new ≡ min (m.commits + length (commit_numbers (with records e))) (2 ^ 64 - 1)
commits_more m records e old new is more = grind (arith, numbers_more, length-append)

-- a record that isn't a Commit
pub no_commit : (m : Master) (records : List Entry) (a : Analysis) → IsAnalysis m records a → a.commits ≡ min (a.commits + 0) (2 ^ 64 - 1)
no_commit m records a is = let was = is.commits in omega (arith, was)

module _ (m : Master) (records : List Entry) (e : Entry) (a b : Analysis) (is : IsAnalysis m records a) (commits : b.commits ≡ min (a.commits + length (commit_numbers (e ∷ []))) (2 ^ 64 - 1)) where
  abbrev old : List Open
  old = listed a.table

  abbrev new : List Open
  new = listed b.table

  says_active : (x : Open) → found_in old (txn_of e) ≡ Some x → open_in m.active records (txn_of e) ≡ Some x
  says_active x there = sym (is.table.says (txn_of e)) ∙ there

  pub goes_read : Becomes old new (txn_of e) (λ x. after_record x e) → is_closing e.rec ≡ false → IsAnalysis m (with records e) b
  goes_read more going = record {
    table = next_table m.active records e old new _ is.table more.changes (goes_on m.active records e more.replaces.was (says_active more.replaces.was more.there) going);
    commits = commits_more m records e a.commits b.commits is.commits commits;
    known = known_more m.active records e is.known (known_active m.active records e more.replaces.was (says_active more.replaces.was more.there));
  }

  pub closes_read : (x : Open) → found_in old (txn_of e) ≡ Some x → Changes old new (txn_of e) None → is_closing e.rec ≡ true → IsAnalysis m (with records e) b
  closes_read x there changes closing = search (rules, arith, next_table, is_gone, commits_more, known_more, known_active, says_active)

module _ (m : Master) (records : List Entry) (lsn : ℕ) (a b : Analysis) (is : IsAnalysis m records a) (same : b.commits ≡ a.commits) (comes : MayCome records (record { lsn = lsn; rec = Begin })) where
  abbrev e : Entry
  e = record { lsn = lsn; rec = Begin }

  says_begun : (o : Option Open) → found_in (listed a.table) lsn ≡ o → Some (begun lsn o) ≡ open_in m.active (with records e) lsn
  says_begun None there = is_new m.active records lsn (sym (is.table.says lsn) ∙ there) (comes refl) (is.known lsn)
  says_begun (Some x) there = goes_on m.active records e x (sym (is.table.says lsn) ∙ there) refl

  pub begin_read : Changes (listed a.table) (listed b.table) lsn (Some (begun lsn (found_in (listed a.table) lsn))) → IsAnalysis m (with records e) b
  begin_read changes = record {
    table = next_table m.active records e (listed a.table) (listed b.table) _ is.table changes (says_begun (found_in (listed a.table) lsn) refl);
    commits = commits_more m records e a.commits b.commits is.commits (let was = is.commits in omega (arith, same, was));
    known = known_more m.active records e is.known (known_begin m.active records lsn);
  }
