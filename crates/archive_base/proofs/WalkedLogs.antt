-- A walk over the blocks of a log.
use Rattle.std.proofs.Common.{◌≡◌, ℕ, List, [], ◌∷◌, ◌++◌, refl, sym, ap, subst, ◌∙◌}
use Rattle.std.specs.Prelude.{Option, Some, None, Ok}
use Rattle.site.specs.State.{State}
use Rattle.site.specs.Work.{OnlyReads}
use Rattle.site.proofs.Working.{looks_then, looks_answered}
use Rattle.log_records.specs.declared.log_record.LogRecord.{LogRecord}
use Rattle.log_records.specs.Log.{Entry, log_from}
use Rattle.log_store.specs.declared.store.LogStore.{LogStore}
use Rattle.log_store.specs.Representation.{Finds, HasBlocks, Invariant}
use Rattle.image_form.specs.declared.walk.Walk.{Walk}
use Rattle.image_form.specs.Walking.{Gives, MayWalk, StandsBefore}
use Rattle.image_form.proofs.BlocksJudged.{finds_later, going_later}
use Rattle.image_form.proofs.Walks.{Walked, gives_at, walked_all, walked_more}

pub record WalksOn (log : LogStore) (kept : ℕ) (walk : Walk) (old now : State) (P : List Entry → Type 0) : Type 0 where
  pub going : Invariant log now
  pub walks : MayWalk log walk
  pub heard : (blocks : List (List LogRecord)) → Finds log old → HasBlocks log.geometry kept blocks old.image → (w : Walked walk log old.image (log_from kept blocks)) × P w.done
  pub reads : OnlyReads {T = Unit {0}} (Ok tt) old now

module _ {log : LogStore} {kept : ℕ} {walk : Walk} {old now : State} {P : List Entry → Type 0} (so : WalksOn log kept walk old now P) (answer : Option (ℕ × LogRecord)) (new : Walk)
    (gives : (left : List Entry) → Finds log now → StandsBefore walk log now.image left → Gives answer left new log now.image) where
  given : (blocks : List (List LogRecord)) (finds : Finds log old) (has : HasBlocks log.geometry kept blocks old.image) → Gives answer (so.heard blocks finds has).0.left new log old.image
  given blocks finds has =
      let w = (so.heard blocks finds has).0 in
      let same = so.reads.same finds.honest in
      gives_at log walk new now.image old.image w.left answer same.image w.stands (gives w.left (finds_later log old now so.reads.preserves same.image finds))

  module _ (lsn : ℕ) (rec : LogRecord) (is : answer ≡ Some (lsn, rec)) where
    one : (blocks : List (List LogRecord)) (finds : Finds log old) (has : HasBlocks log.geometry kept blocks old.image) → Gives (Some (lsn, rec)) (so.heard blocks finds has).0.left new log old.image
    one blocks finds has = subst (λ (o : Option (ℕ × LogRecord)). Gives o (so.heard blocks finds has).0.left new log old.image) is (given blocks finds has)

    pub goes_on : {next : State} → MayWalk log new → OnlyReads {T = Option (ℕ × LogRecord)} (Ok answer) now next → (Q : List Entry → Type 0) → ((done : List Entry) → P done → Q (done ++ record { lsn = lsn; rec = rec } ∷ [])) → WalksOn log kept new old next Q
    goes_on {next} walks reads Q holds = record {
      going = going_later log now next reads.preserves so.going;
      walks = walks;
      heard = λ blocks finds has.
          let w = so.heard blocks finds has in
          walked_more walk new log old.image (log_from kept blocks) w.0 lsn rec (one blocks finds has) Q (holds w.0.done w.1);
      reads = looks_then tt _ old now next so.reads (looks_answered answer tt now next reads);
    }

    -- where it stands among the records of the log
    pub stands_among : (blocks : List (List LogRecord)) → Finds log old → HasBlocks log.geometry kept blocks old.image →
        (front : List Entry) × (e : Entry) × (back : List Entry) × (log_from kept blocks ≡ front ++ e ∷ back) × (e ≡ record { lsn = lsn; rec = rec })
    stands_among blocks finds has =
        let w = (so.heard blocks finds has).0 in
        let g = one blocks finds has in
        (w.done, record { lsn = lsn; rec = rec }, g.0, w.split ∙ ap (λ (l : List Entry). w.done ++ l) g.1, refl)

  pub all_heard : answer ≡ None → (blocks : List (List LogRecord)) → Finds log old → HasBlocks log.geometry kept blocks old.image → P (log_from kept blocks)
  all_heard is blocks finds has =
      let w = so.heard blocks finds has in
      let none : w.0.left ≡ [] = subst (λ (o : Option (ℕ × LogRecord)). Gives o w.0.left new log old.image) is (given blocks finds has) in
      subst P (sym (walked_all walk log old.image (log_from kept blocks) w.0 none)) w.1
