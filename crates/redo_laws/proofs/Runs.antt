-- The log as a list goes on, and the pages have other versions.
use Rattle.std.proofs.lemmas.Grind.{common_steps}
use Rattle.redo_laws.proofs.Citing.{◌≡◌, ℕ, ◌+◌, ◌-◌, ◌*◌, ◌≤◌, ◌<◌, List, [], ◌∷◌, ◌++◌, None, refl, sym, ap, subst, ◌∙◌, arith, length, cons_option, range_with_len, Master, carries_still, shown_stays, versions_mean, length-versions, ReplaceAll, logical_image_under, versions_on, ShowsAll, carries_more, carries_nothing, commits_more, commits_stay, sealed_tail, sealed_tail_means, whole_more, whole_sealed, Follows, sealed, next_entries, writes_in, Carries, whole, next_lsn, Entry, Version, shown, LogicalImage, HasRoom, Means, commit_numbers, commit_number, commit_count, AreBlock, LogRecord, Content, table_with, History, settled, RunsOn, Image, Geometry}
use Rattle.std.proofs.lemmas.List.FromFn.{length-range_with_len}
use Rattle.std_lemmas.proofs.Lists.{range_push}
use Rattle.log_laws.specs.Follow.{table_after_all}
use Rattle.log_laws.proofs.Commits.{table_append, table_none}
use Rattle.log_records.specs.declared.log_record.LogRecord.TheVariants.{Commit}
use Rattle.std.proofs.Common.{Option}

-- Where no commit waits.

none_more : (at n : ℕ) → range_with_len at (n - n) ≡ []
none_more at n = let none : n - n ≡ 0 = omega arith in ap (range_with_len at) none

-- a tail without a Commit
pub runs_settled : (p : LogicalImage) (tail : List LogRecord) (records : List Entry) (table : List Content) (commits : ℕ) → Carries p tail → Means p table commits → commit_numbers (next_entries p tail) ≡ [] → whole p tail ≡ records → RunsOn p tail records (settled table commits)
runs_settled p tail records table commits carries means none are = record {
  carries = carries;
  count = commits;
  from_floor = omega arith;
  within = omega arith;
  means = means;
  run_on = none ∙ sym (none_more (commit_count p + 1) commits);
  table_is = sym (table_none table p.log (next_entries p tail) none);
  records_are = are;
}

-- of any history it has come to its end
pub none_waits : (p : LogicalImage) (tail : List LogRecord) (records : List Entry) (history : History) → RunsOn p tail records history → commit_numbers (next_entries p tail) ≡ [] → RunsOn p tail records (settled (history.tables history.commits) history.commits)
none_waits p tail records history runs none =
    let few : 0 ≡ history.commits - runs.count = sym (ap length none) ∙ ap length runs.run_on ∙ length-range_with_len (commit_count p + 1) (history.commits - runs.count) in
    let same : history.tables runs.count ≡ history.tables history.commits = sym (table_none (history.tables runs.count) p.log (next_entries p tail) none) ∙ sym runs.table_is in
    let all : runs.count ≡ history.commits = let within = runs.within in omega (arith, few, within) in
    runs_settled p tail records (history.tables history.commits) history.commits runs.carries
    (subst (λ (n : ℕ). Means p (history.tables history.commits) n) all (subst (λ (t : List Content). Means p t runs.count) same runs.means)) none runs.records_are

-- what is sealed of a settled log stands for its table
pub means_settled : (p : LogicalImage) (tail : List LogRecord) (records : List Entry) (table : List Content) (commits : ℕ) → RunsOn p tail records (settled table commits) → Means p table commits
means_settled p tail records table commits runs =
    let all : runs.count ≡ commits = let least = runs.from_floor in let most = runs.within in omega (arith, least, most) in
    subst (Means p table) all runs.means

-- and its tail has no Commit
pub none_settled : (p : LogicalImage) (tail : List LogRecord) (records : List Entry) (table : List Content) (commits : ℕ) → RunsOn p tail records (settled table commits) → commit_numbers (next_entries p tail) ≡ []
none_settled p tail records table commits runs =
    let none : commits - runs.count ≡ 0 = let least = runs.from_floor in omega (arith, least) in
    runs.run_on ∙ ap (range_with_len (commit_count p + 1)) none

-- The tail is sealed, and a new one begins: no commit waits any more.
pub sealed_settled : (p : LogicalImage) (tail : List LogRecord) (records : List Entry) (history : History) → RunsOn p tail records history → AreBlock tail → HasRoom (sealed p tail) → RunsOn (sealed p tail) [] records (settled (history.tables history.commits) history.commits)
sealed_settled p tail records history runs block room =
    let more : ℕ = history.commits - runs.count in
    let all : runs.count + (history.commits - runs.count) ≡ history.commits = let within = runs.within in omega (arith, within) in
    runs_settled (sealed p tail) [] records (history.tables history.commits) history.commits (carries_nothing (sealed p tail) (sealed_tail p tail runs.carries block room more runs.run_on))
    (subst (Means (sealed p tail) (history.tables history.commits)) all
    (subst (λ (t : List Content). Means (sealed p tail) t (runs.count + more)) (sym runs.table_is)
    (sealed_tail_means p tail runs.carries block room more runs.run_on (history.tables runs.count) runs.count runs.means)))
    refl (whole_sealed p tail ∙ runs.records_are)

-- a settled log is at any place that its history has come to
pub resettled : (p : LogicalImage) (tail : List LogRecord) (records : List Entry) (history : History) → history.floor ≤ history.commits → RunsOn p tail records (settled (history.tables history.commits) history.commits) → RunsOn p tail records history
resettled p tail records history rises runs = record {
  carries = runs.carries;
  count = history.commits;
  from_floor = rises;
  within = omega arith;
  means = means_settled p tail records (history.tables history.commits) history.commits runs;
  run_on = none_settled p tail records (history.tables history.commits) history.commits runs ∙ sym (none_more (commit_count p + 1) history.commits);
  table_is = sym (table_none (history.tables history.commits) p.log (next_entries p tail) (none_settled p tail records (history.tables history.commits) history.commits runs));
  records_are = runs.records_are;
}

pub rises : {p : LogicalImage} {tail : List LogRecord} {records : List Entry} {history : History} → RunsOn p tail records history → history.floor ≤ history.commits
rises runs = let least = runs.from_floor in let most = runs.within in omega (arith, least, most)

-- One more record follows.
module _ (p : LogicalImage) (tail : List LogRecord) (rec : LogRecord) (lsn : ℕ) (records : List Entry) (history : History) (runs : RunsOn p tail records history) (is : lsn ≡ next_lsn p tail)
    (follows : Follows p.master p.pages records (record { lsn = lsn; rec = rec })) where
  abbrev e : Entry
  e = record { lsn = next_lsn p tail; rec = rec }

  carries_one : Carries p (tail ++ rec ∷ [])
  carries_one =
      let at : Follows p.master p.pages (whole p tail) e = let are = runs.records_are in grind (arith, common_steps) in
      carries_more p tail rec runs.carries at

  whole_one : whole p (tail ++ rec ∷ []) ≡ records ++ record { lsn = lsn; rec = rec } ∷ []
  whole_one = whole_more p tail rec ∙ ap (λ (l : List Entry). l ++ e ∷ []) runs.records_are ∙ ap (λ (n : ℕ). records ++ record { lsn = n; rec = rec } ∷ []) (sym is)

  entries_one : next_entries p (tail ++ rec ∷ []) ≡ next_entries p tail ++ e ∷ []
  entries_one = whole_more (record p { log = [] }) tail rec

  table_one : table_after_all (history.tables runs.count) p.log (next_entries p (tail ++ rec ∷ [])) ≡ table_after_all (history.tables history.commits) (whole p tail) (e ∷ [])
  table_one =
      ap (table_after_all (history.tables runs.count) p.log) entries_one ∙ table_append (history.tables runs.count) p.log (next_entries p tail) (e ∷ [])
      ∙ ap (λ (t : List Content). table_after_all t (whole p tail) (e ∷ [])) (sym runs.table_is)

  -- but for a Commit it changes nothing
  pub one_more : commit_number (record { lsn = lsn; rec = rec }) ≡ None → RunsOn p (tail ++ rec ∷ []) (records ++ record { lsn = lsn; rec = rec } ∷ []) history
  one_more none = record {
    carries = carries_one;
    count = runs.count;
    from_floor = runs.from_floor;
    within = runs.within;
    means = runs.means;
    run_on = ap commit_numbers entries_one ∙ commits_stay (next_entries p tail) e none ∙ runs.run_on;
    table_is = sym (table_one ∙ table_none (history.tables history.commits) (whole p tail) (e ∷ []) (ap (λ (o : Option ℕ). cons_option o []) none));
    records_are = whole_one;
  }

-- A Commit of the next number waits for its seal.
pub one_commit : (p : LogicalImage) (tail : List LogRecord) (txn number lsn : ℕ) (records : List Entry) (history : History) → RunsOn p tail records history → lsn ≡ next_lsn p tail →
    Follows p.master p.pages records (record { lsn = lsn; rec = Commit txn number }) → number ≡ history.commits + 1 → history.tables (history.commits + 1) ≡ table_with (history.tables history.commits) (writes_in txn records) →
    RunsOn p (tail ++ Commit txn number ∷ []) (records ++ record { lsn = lsn; rec = Commit txn number } ∷ []) (record history { commits = history.commits + 1 })
one_commit p tail txn number lsn records history runs is follows next table =
    let e : Entry = record { lsn = next_lsn p tail; rec = Commit txn number } in
    let more : ℕ = history.commits - runs.count in
    let at : ℕ = commit_count p + 1 in
    let last : number ≡ (commit_count p + 1) + (history.commits - runs.count) = let count = runs.means.count_is in let within = runs.within in omega (arith, next, count, within) in
    let all : (history.commits - runs.count) + 1 ≡ history.commits + 1 - runs.count = let within = runs.within in omega (arith, within) in
    record {
      carries = carries_one p tail (Commit txn number) lsn records history runs is follows;
      count = runs.count;
      from_floor = runs.from_floor;
      within = let within = runs.within in omega (arith, within);
      means = runs.means;
      run_on = ap commit_numbers (entries_one p tail (Commit txn number) lsn records history runs is follows) ∙ commits_more (next_entries p tail) e number refl
          ∙ ap (λ (l : List ℕ). l ++ number ∷ []) runs.run_on ∙ ap (λ (n : ℕ). range_with_len at more ++ n ∷ []) last ∙ range_push at more ∙ ap (range_with_len at) all;
      table_is = table ∙ ap (λ (l : List Entry). table_with (history.tables history.commits) (writes_in txn l)) (sym runs.records_are) ∙ sym (table_one p tail (Commit txn number) lsn records history runs is follows);
      records_are = whole_one p tail (Commit txn number) lsn records history runs is follows;
    }

-- other versions
pub reversioned : (g : Geometry) (old new : Image) (blocks : List (List LogRecord)) (tail : List LogRecord) (newest : Option Master) (records : List Entry) (history : History) →
    ReplaceAll (logical_image_under newest g old blocks) (versions_on g new) → RunsOn (logical_image_under newest g old blocks) tail records history → RunsOn (logical_image_under newest g new blocks) tail records history
reversioned g old new blocks tail newest records history replace runs =
    let p = logical_image_under newest g old blocks in
    record {
      carries = carries_still p (versions_on g new) tail replace runs.carries;
      count = runs.count;
      from_floor = runs.from_floor;
      within = runs.within;
      means = versions_mean p (versions_on g new) runs.carries.sound replace (history.tables runs.count) runs.count runs.means;
      run_on = runs.run_on;
      table_is = runs.table_is;
      records_are = runs.records_are;
    }

-- and pages that show all records show them still
pub shows_still : (g : Geometry) (old new : Image) (blocks : List (List LogRecord)) (tail : List LogRecord) (newest : Option Master) (records : List Entry) (history : History) (page : ℕ) (v : Version) →
    ReplaceAll (logical_image_under newest g old blocks) (versions_on g new) → RunsOn (logical_image_under newest g old blocks) tail records history → page < g.pages →
    ShowsAll records (versions_on g old) page v → ShowsAll records (versions_on g new) page v
shows_still g old new blocks tail newest records history page v replace runs exists shows =
    let p = logical_image_under newest g old blocks in
    record {
      known = shows.known;
      slots = λ slot less.
          shows.slots slot less
          ∙ sym (subst (λ (l : List Entry). shown l (versions_on g new) (32 * page + slot) ≡ shown l (versions_on g old) (32 * page + slot)) runs.records_are
          (shown_stays p (versions_on g new) (next_entries p tail) (32 * page + slot) replace (omega (arith, exists, less, length-versions g old))));
    }
