-- What is judged is a part of what sound images keep.
use Rattle.log_judge.proofs.Names.{ℕ, List, [], drop, and_parts, not-true, not, Links, IsLinked, IsJudged, InTurn-weaker, Entry, is_closed, entries_of, LogicalImage, IsSound, IsLoserChain, Continues, is_known}
use Rattle.log_laws.proofs.Listing.{listed_is_loser, begun_is_listed}

linked_by : (t : ℕ) (entries : List Entry) → IsLoserChain t entries → IsLinked t entries
linked_by t entries chain = record {
  begins = chain.begins;
  links = InTurn-weaker Continues Links (λ earlier e goes. record { linked = goes.linked; undoes = goes.undoes }) _ (drop 1 entries) chain.continues;
}

pub judged_by : (p : LogicalImage) → IsSound p → IsJudged p
judged_by p sound = record {
  kept_before_redo = sound.kept_before_redo;
  redo_before_end = sound.redo_before_end;
  kept_is_live = sound.kept_is_live;
  in_table = sound.in_table;
  open_transactions = sound.open_transactions;
  begun = sound.begun;
  losers_are_linked = λ t lives.
      let both = and_parts (is_known [] p.log t) (not (is_closed p.log t)) lives in
      linked_by t (entries_of t p.log) (sound.losers_can_be_undone t (listed_is_loser p.log t (begun_is_listed p.log t (not-true (is_closed p.log t) both.1) p.log both.0)));
  master_names_the_active = sound.master_names_the_active;
  commits = sound.commits;
}
