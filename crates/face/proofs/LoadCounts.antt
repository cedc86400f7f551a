-- What is counted of a load.
use Rattle.face.proofs.Names.{◌≡◌, ℕ, suc, ◌+◌, ◌≤◌, Bool, true, false, List, [], ◌∷◌, drop, length, refl, ◌∙◌, ap, arith, Option, Some, None, nat_lt, option_map, count_by, if◌then◌else◌, ◌&&◌, AllByRecursion, is_none, HasCounted, Run, answered, first_lines, listing_at, state_at, step, turns_of, makes_one, has_passed, is_value, Line, Turn, is_committed, State, busy_read, busy_write, content_at, is_due, need, page_of, page_room, Outcome, carried_through, full, outcome, ready, refusal, lacks_room, carried_out, first_refusal, found, may_read, may_write, refuse_if, wants_record, wants_short, Command, Reply, TooLong}
use Rattle.byte_fields.specs.declared.TheConstants.{VALUE_MAX}
use Rattle.record_model.specs.declared.words.Command.TheVariants.{Get, Set}
use Rattle.face.proofs.LinesBeforeQuit.{count_join, count_one}
use Rattle.face.proofs.Runs.{turn_at, turns_next}
use Rattle.record_model.specs.declared.words.Reply.TheVariants as reply

-- Whether a checkpoint was made is told by the reply, where one was due.

-- a test that fails gives no such reply
module _ (p : Reply → Bool) where
  Never : Option Reply → Type 0
  Never (Some r) = p r ≡ false
  Never None = true ≡ true

  first_never : (tests : List (Option Reply)) → AllByRecursion Never tests → Never (first_refusal tests)
  unfolding Never
  first_never [] all = refl
  first_never (Some r ∷ tests) all = all.0
  first_never (None ∷ tests) all = first_never tests all.1

  refused_never : (test : Bool) (r : Reply) → p r ≡ false → Never (refuse_if test r)
  unfolding Never
  refused_never true r is = is
  refused_never false r is = refl

  busy_never : (o : Option ℕ) → ((holder : ℕ) → p (reply.Busy holder) ≡ false) → Never (option_map reply.Busy o)
  unfolding Never
  busy_never (Some holder) is = is holder
  busy_never None is = refl

  -- nor does a command that is carried out
  outcome_never : (s : State) (command : Command) (o : Option Reply) → Never o → p (carried_out (ready s command) command []).reply ≡ false → p (outcome s command [] o).reply ≡ false
  unfolding Never
  outcome_never s command (Some r) never is = never
  outcome_never s command None never is = is

abbrev set_outcome : State → ℕ → List ℕ → Bool → Bool → Outcome
set_outcome s number value lacks fills = if lacks then record { after = s; reply = full s }
    else carried_through s (Set number value) [] (refuse_if fills (reply.PageFull (page_of number) (need s number value)))

set_passed : (s : State) (number : ℕ) (value : List ℕ) (lacks fills : Bool) → has_passed (set_outcome s number value lacks fills).reply ≡ true
set_passed s number value true fills = refl
set_passed s number value false true = refl
set_passed s number value false false = refl

passed_is : (s : State) (number : ℕ) (value : List ℕ) (o : Option Reply) → Never has_passed o → has_passed (outcome s (Set number value) [] o).reply ≡ is_none o
unfolding Never
passed_is s number value (Some r) never = never
passed_is s number value None never =
    let r = ready s (Set number value) in
    set_passed r number value (lacks_room r (Set number value)) (r.pages_fill && nat_lt page_room (need r number value))

-- a set by any listing, and a get
pub set_makes : (s : State) (number : ℕ) (value : List ℕ) → (is_due s && has_passed (step s (Some (Set number value)) []).reply) ≡ makes_one s (Some (Set number value))
set_makes s number value =
    ap (λ (b : Bool). is_due s && b) (passed_is s number value (refusal s (Set number value))
    (first_never has_passed (wants_record s number ∷ wants_short value ∷ may_write s None number ∷ []) (refused_never has_passed _ _ refl, (refused_never has_passed (nat_lt VALUE_MAX (length value)) (reply.Refused TooLong) refl, (busy_never has_passed (busy_write s None number) (λ holder. refl), tt)))))

none_passes : (due : Bool) → (due && false) ≡ false
none_passes true = refl
none_passes false = refl

found_passes_not : (o : Option (List ℕ)) → has_passed (found o) ≡ false
found_passes_not (Some value) = refl
found_passes_not None = refl

pub get_makes : (s : State) (number : ℕ) → (is_due s && has_passed (step s (Some (Get number)) []).reply) ≡ makes_one s (Some (Get number))
get_makes s number =
    ap (λ (b : Bool). is_due s && b) (outcome_never has_passed s (Get number) (refusal s (Get number))
    (first_never has_passed (wants_record s number ∷ may_read s None number ∷ []) (refused_never has_passed _ _ refl, (busy_never has_passed (busy_read s None number) (λ holder. refl), tt)))
    (found_passes_not (content_at s.table number))) ∙ none_passes (is_due s)

-- One line more.
module _ (run : Run) (i : ℕ) (line : Line) (rest : List Line) (is : drop i (answered run) ≡ line ∷ rest) where
  one_more : (p : Turn → Bool) (n : ℕ) → n ≡ count_by p (turns_of (first_lines run i)) → n + (if p (turn_at run i line rest is) then 1 else 0) ≡ count_by p (turns_of (first_lines run (suc i)))
  one_more p n so_far = grind (arith, turn_at, count_one, turns_next, count_join)

  -- counted by its reply
  pub counted_next : (committed checkpoints found : ℕ) → HasCounted (first_lines run i) committed checkpoints found → (reply : Reply) → reply ≡ (step (state_at run i) line (listing_at run i)).reply → (due : Bool) → (due && has_passed reply) ≡ makes_one (state_at run i) line →
      HasCounted (first_lines run (suc i)) (committed + (if is_committed reply then 1 else 0)) (checkpoints + (if due && has_passed reply then 1 else 0)) (found + (if is_value reply then 1 else 0))
  counted_next committed checkpoints found so_far reply is_reply due makes = record {
    committed_is = ap (λ (r : Reply). committed + (if is_committed r then 1 else 0)) is_reply ∙ one_more (λ t. is_committed t.reply) committed so_far.committed_is;
    checkpoints_are = ap (λ (b : Bool). checkpoints + (if b then 1 else 0)) makes ∙ one_more (λ t. makes_one t.before t.line) checkpoints so_far.checkpoints_are;
    found_is = ap (λ (r : Reply). found + (if is_value r then 1 else 0)) is_reply ∙ one_more (λ t. is_value t.reply) found so_far.found_is;
  }

-- at most one is counted
pub one_most : (b : Bool) (n m : ℕ) → n ≡ m + (if b then 1 else 0) → n ≤ m + 1
one_most true n m is = omega (arith, is)
one_most false n m is = omega (arith, is)
