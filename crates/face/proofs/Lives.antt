-- What a run or a load leaves opens again.
use Rattle.face.proofs.Names.{ℕ, List, sym, subst, Opens, ran, LawOfLives, OpensAgain, LawOfLoads, LoadOpensAgain, OpensAfter, IsLeftOf, Run, turns_of, IsLeft, StandsAfter, load_run, summary_text, after_commits, holds_now, leaves_weaker, Image, Snapshot}
use Rattle.face.proofs.Meanings.{opens_where_it_stands}

opens_after : (run : Run) (k : ℕ) (image : Image) → StandsAfter run k image → OpensAfter run k image
opens_after run k image stands =
    let there = opens_where_it_stands run.geometry image (after_commits run.opening.table (turns_of run) k) _ stands in
    record {
      next = there.0;
      good = λ site honest quiet same. record { honest = honest; quiet = quiet; opens = subst (λ (x : Image). Opens run.geometry x there.0) (sym same) there.1 };
      table = there.2;
      commits = there.3;
    }

opens_again : (run : Run) (so_far fault : List ℕ) (s : Snapshot) → IsLeft run so_far fault s → OpensAgain run so_far s
opens_again run so_far fault s left = record {
  told = left.told;
  told_is = left.told_is;
  k = left.k;
  in_range = left.in_range;
  opens = opens_after run left.k s.image left.stands;
}

pub law_of_lives : LawOfLives
law_of_lives g opening old new status d =
    let again = leaves_weaker old new (IsLeft (ran d) old.told d.fault) (OpensAgain (ran d) old.told) (opens_again (ran d) old.told d.fault) d.any_moment in
    record { any_moment = again; now = holds_now old new (OpensAgain (ran d) old.told) again }

load_opens_again : (run : Run) (summary fault so_far : List ℕ) (s : Snapshot) → IsLeftOf run summary fault so_far s → LoadOpensAgain run summary fault so_far s
load_opens_again run summary fault so_far s left = record {
  told = left.told;
  told_is = left.told_is;
  k = left.k;
  allowed = left.allowed;
  opens = opens_after run left.k s.image left.stands;
}

pub law_of_loads : LawOfLoads
law_of_loads load g opening old new status d =
    let run = load_run g opening load in
    let summary = summary_text run load in
    let again = leaves_weaker old new (IsLeftOf run summary d.fault old.told) (LoadOpensAgain run summary d.fault old.told) (load_opens_again run summary d.fault old.told) d.any_moment in
    record { any_moment = again; now = holds_now old new (LoadOpensAgain run summary d.fault old.told) again }
