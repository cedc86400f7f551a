-- Where the first lines of a run append to a ring that stands at its end, so does all of it.
use Rattle.face.proofs.Names.{◌≡◌, ℕ, ◌≤◌, Bool, true, List, [], ◌++◌, take, drop, Option, Some, None, sym, ap, subst, ◌∙◌, arith, append_assoc, take-append-drop, take-take, Master, IsSound, machine_on, Run, after_lines, answered, first_lines, turns_of, run_of, WearsFirst, WearsNone, WearsNoneBefore, rings_of, worn_by, logical_image_under, LogRecord, Line, State, CacheLine, first_stopped, RingOp, first_worn, restart_work, rules_of, Image, Geometry, Dev}
use Rattle.face.proofs.Fronts.{first_same}
use Rattle.face.proofs.Pagings.{taken_first}
use Rattle.face.proofs.WornRuns.{none_prefix, rings_are, rings_join, turns_work}

module _ (pool : ℕ) (g : Geometry) (opening : State) (newest : Option Master) (image : Image) (blocks : List (List LogRecord)) where
  abbrev restart : List RingOp
  restart = restart_work (logical_image_under newest g image blocks)

  abbrev worn_after : List RingOp → Option Dev
  worn_after works = first_worn (rules_of pool g.groups) (restart ++ works) (machine_on g image)

  both : (first later : List Line) → worn_after (rings_of opening (first ++ later)) ≡ first_worn (rules_of pool g.groups) ((restart ++ rings_of opening first) ++ rings_of (after_lines opening first []) later) (machine_on g image)
  both first later = grind (arith, rings_join, append_assoc)

  pub front_worn : (first later : List Line) (dev : Dev) → worn_after (rings_of opening first) ≡ Some dev → worn_after (rings_of opening (first ++ later)) ≡ Some dev
  front_worn first later dev is = grind (arith, both, first_stopped)

  pub front_none : (first later : List Line) → worn_after (rings_of opening (first ++ later)) ≡ None → worn_after (rings_of opening first) ≡ None
  front_none first later none = grind (arith, none_prefix, both)

-- by lines
worn_first : (pool : ℕ) (run : Run) (newest : Option Master) (image : Image) (blocks : List (List LogRecord)) (n : ℕ) → worn_by pool run (turns_of (first_lines run n)) newest image blocks ≡ worn_after pool run.geometry run.opening newest image blocks (rings_of run.opening (take n (answered run)))
worn_first pool run newest image blocks n = ap (λ (w : List RingOp). first_worn (rules_of pool run.geometry.groups) w (machine_on run.geometry image)) (rings_are run newest image blocks n)

pub worn_all : (pool : ℕ) (run : Run) (newest : Option Master) (image : Image) (blocks : List (List LogRecord)) → worn_by pool run (turns_of run) newest image blocks ≡ worn_after pool run.geometry run.opening newest image blocks (rings_of run.opening (answered run))
worn_all pool run newest image blocks = ap (worn_after pool run.geometry run.opening newest image blocks) (turns_work run.opening run.lines run.listings)

-- fewer lines append to none where more do not
pub none_first : (pool : ℕ) (run : Run) (n k : ℕ) (image : Image) → n ≤ k → WearsNone pool (first_lines run k) image → WearsNone pool (first_lines run n) image
none_first pool run n k image few none newest blocks sound =
    let long = take k (answered run) in
    let split : take n (answered run) ++ drop n long ≡ long = ap (λ (l : List Line). l ++ drop n long) (sym (take-take n k (answered run) few)) ∙ take-append-drop n long in
    worn_first pool run newest image blocks n
    ∙ front_none pool run.geometry run.opening newest image blocks (take n (answered run)) (drop n long)
    (ap (λ (l : List Line). worn_after pool run.geometry run.opening newest image blocks (rings_of run.opening l)) split ∙ sym (worn_first pool run newest image blocks k) ∙ none newest blocks sound)

-- and so with the first lines of another run
pub earlier_same : (pool : ℕ) (run : Run) (lines : List Line) (n : ℕ) → take n lines ≡ take n run.lines → (image : Image) → WearsNoneBefore pool run n image → WearsNoneBefore pool (record run { lines = lines }) n image
earlier_same pool run lines n same image none k less =
    let front : take k lines ≡ take k run.lines = sym (take-take k n lines (omega (arith, less))) ∙ ap (take k) same ∙ take-take k n run.lines (omega (arith, less)) in
    subst (λ (r : Run). WearsNone pool r image) (sym (first_same run lines k front)) (none k less)

-- the lines of the octets that were taken are the first ones of all that are left
pub never_worn : (pool : ℕ) (g : Geometry) (opening : State) (listings : List (List CacheLine)) (ended : Bool) (left octets rest : List ℕ) → left ≡ octets ++ rest → (ended ≡ true → rest ≡ []) → (begun : ℕ) (image : Image) (newest : Option Master) (blocks : List (List LogRecord)) → IsSound newest g image blocks → (dev : Dev)
    → WearsFirst pool (first_lines (run_of g opening ended octets listings) begun) dev image → WearsNone pool (run_of g opening true left []) image → ⊥
never_worn pool g opening listings ended left octets rest is none begun image newest blocks sound dev wears room =
    let part = run_of g opening ended octets listings in
    let all = run_of g opening true left [] in
    let first = taken_first ended left octets rest is none in
    let own = answered part in
    let split : answered all ≡ take begun own ++ (drop begun own ++ first.0) =
    first.1 ∙ ap (λ (l : List Line). l ++ first.0) (sym (take-append-drop begun own)) ∙ append_assoc (take begun own) (drop begun own) first.0 in
    let there = front_worn pool g opening newest image blocks (take begun own) (drop begun own ++ first.0) dev (sym (worn_first pool part newest image blocks begun) ∙ wears newest blocks sound) in
    let whole = worn_all pool all newest image blocks ∙ ap (λ (l : List Line). worn_after pool g opening newest image blocks (rings_of opening l)) split ∙ there in
    let never = room newest blocks sound in
    absurd cc

-- the same of the first lines of a run
pub never_worn_within : (pool : ℕ) (run : Run) (begun : ℕ) (image : Image) (newest : Option Master) (blocks : List (List LogRecord)) → IsSound newest run.geometry image blocks → (dev : Dev) → WearsFirst pool (first_lines run begun) dev image → WearsNone pool run image → ⊥
never_worn_within pool run begun image newest blocks sound dev wears room =
    let own = answered run in
    let there = front_worn pool run.geometry run.opening newest image blocks (take begun own) (drop begun own) dev (sym (worn_first pool run newest image blocks begun) ∙ wears newest blocks sound) in
    let whole = worn_all pool run newest image blocks ∙ ap (λ (l : List Line). worn_after pool run.geometry run.opening newest image blocks (rings_of run.opening l)) (sym (take-append-drop begun own)) ∙ there in
    let never = room newest blocks sound in
    absurd cc
