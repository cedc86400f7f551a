-- What one walk over the kept blocks has found so far.
use Rattle.std.proofs.lemmas.Grind.{common_steps}
use Rattle.image_check.proofs.Names.{◌≡◌, ℕ, ◌+◌, ◌^◌, ◌≤◌, ◌<◌, List, [], ◌∷◌, ◌++◌, length, arith, length-append, Survey, RecordsFollowBegins, Comes, fresh_of, InTurn-append, InTurn-all, InTurn-weaker, all_below, InTurn-right, in_order_left, Entry, LogicalImage, InTurn, IsInOrder, all_right}
use Rattle.lsn_set.specs.declared.lsn_set.LsnSet.{LsnSet}
use Rattle.log_records.specs.Sound.{Master}
use Rattle.log_judge.specs.Opening.{AreOpen, MayStand}
use Rattle.image_check.specs.Surveying.{Surveys}

-- the records so far follow the third rule and are fewer than what was to be read; the open transactions are known, and what they leave
pub record SurveyedSoFar (m : Master) (most : ℕ) (txns : LsnSet) (survey : Survey) (records : List Entry) : Type 0 where
  pub are_open : AreOpen m records txns
  pub stand : InTurn (MayStand m) [] records
  pub surveys : Surveys m.redo records survey
  pub few : length records + most ≤ 2 ^ 60

pub comes : {m : Master} {most : ℕ} {txns : LsnSet} {survey : Survey} (from : ℕ) (front : List Entry) (e : Entry) (back : List Entry) (to : ℕ) → SurveyedSoFar m most txns survey front → IsInOrder from (front ++ e ∷ back) to →
    Comes front e.lsn
comes {m = m} from front e back to so_far order = grind (arith, common_steps, InTurn-all, in_order_left, fresh_of, all_below)

-- and with it
pub one_more : {m : Master} {most now : ℕ} {txns heard : LsnSet} {survey after : Survey} (front : List Entry) (e : Entry) → SurveyedSoFar m most txns survey front → now < most → MayStand m front e →
    AreOpen m (front ++ e ∷ []) heard → Surveys m.redo (front ++ e ∷ []) after → SurveyedSoFar m now heard after (front ++ e ∷ [])
one_more {m = m} front e so_far shorter may opens surveys =
    let few = so_far.few in
    let longer : length (front ++ e ∷ []) ≡ length front + 1 = length-append front (e ∷ []) in
    record {
      are_open = opens;
      stand = InTurn-append (MayStand m) [] front e so_far.stand may;
      surveys = surveys;
      few = omega (arith, few, shorter, longer);
    }

-- What the rule says of the next record.

pub third_at : (p : LogicalImage) (front : List Entry) (e : Entry) (back : List Entry) → p.log ≡ front ++ e ∷ back → RecordsFollowBegins p → MayStand p.master front e
third_at p front e back split rule = grind (arith, common_steps, all_right, InTurn-right)

pub third_of : (p : LogicalImage) → InTurn (MayStand p.master) [] p.log → RecordsFollowBegins p
third_of p stand = grind (arith, common_steps, InTurn-weaker, InTurn-all)
