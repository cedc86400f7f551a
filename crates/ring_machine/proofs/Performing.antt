-- Calls as work of the machine, one after the other.
use Rattle.std.proofs.Common.{◌≡◌, ◌≢◌, List, [], ◌++◌, None, refl, sym, subst, ◌∙◌}
use Rattle.std.specs.Prelude.{Result, Ok, Err, OnOk, IsErrOf}
use Rattle.site.specs.declared.outside.Dev.{Dev}
use Rattle.site.specs.declared.outside.Stop.{Stop}
use Rattle.site.specs.declared.outside.Stop.TheVariants.{Worn}
use Rattle.site.proofs.Working.{err_again, no_error, of_error, ok_as}
use Rattle.second_chance.specs.Machine.{Rules}
use Rattle.ring_machine.specs.Machine.{Machine, RingOp, after_all, first_worn}
use Rattle.ring_machine.specs.Performing.{Performs}
use Rattle.ring_machine.proofs.Works.{ring_ops_compose, first_then, first_stopped}

-- a call after one that was Ok
pub performs_then : {A B : Type 0} {a : A} {result : Result B Stop} {rules : Rules} {first later : List RingOp} {P Q R : Machine → Type 0} → Performs {T = A} (Ok a) rules first P Q → Performs result rules later Q R → Performs result rules (first ++ later) P R
performs_then {result = result} {rules = rules} {first = first} {later = later} {R = R} one two = record {
  done = λ m is.
      let d = one.done m is in
      ok_as result ((first_worn rules later (after_all rules first m) ≡ None) × R (after_all rules later (after_all rules first m))) ((first_worn rules (first ++ later) m ≡ None) × R (after_all rules (first ++ later) m))
      (λ e. (first_then rules first later m d.0 ∙ e.0, subst R (sym (ring_ops_compose rules first later m)) e.1)) (two.done (after_all rules first m) d.1);
  worn = λ m is dev says. let d = one.done m is in first_then rules first later m d.0 ∙ two.worn (after_all rules first m) d.1 dev says;
}

-- a call that stops before all of some work is done
pub performs_stopped : {A B : Type 0} {stop : Stop} {rules : Rules} {first : List RingOp} {P Q R : Machine → Type 0} (later : List RingOp) → Performs {T = A} (Err stop) rules first P Q → Performs {T = B} (Err stop) rules (first ++ later) P R
performs_stopped {stop = stop} {rules = rules} {first = first} later one = record {
  done = λ m is. tt;
  worn = λ m is dev says. first_stopped rules first later m dev (one.worn m is dev (err_again stop (Worn dev) says));
}

-- another answer of the same call
pub performs_answered : {A B : Type 0} {a : A} {b : B} {rules : Rules} {works : List RingOp} {P Q : Machine → Type 0} → Performs {T = A} (Ok a) rules works P Q → Performs {T = B} (Ok b) rules works P Q
performs_answered {B = B} {b = b} one = record { done = one.done; worn = λ m is dev says. absurd (no_error {T = B} {x = b} {e = Worn dev} says) }

pub performs_failed : {A B : Type 0} {stop : Stop} {rules : Rules} {works : List RingOp} {P Q R : Machine → Type 0} → Performs {T = A} (Err stop) rules works P Q → Performs {T = B} (Err stop) rules works P R
performs_failed {stop = stop} one = record { done = λ m is. tt; worn = λ m is dev says. one.worn m is dev (err_again stop (Worn dev) says) }

-- a call that stops for another reason
pub performs_refused : {T : Type 0} {stop : Stop} {rules : Rules} {works : List RingOp} {P Q : Machine → Type 0} → ((dev : Dev) → stop ≢ Worn dev) → Performs {T = T} (Err stop) rules works P Q
performs_refused {T = T} {stop = stop} other = record { done = λ m is. tt; worn = λ m is dev says. absurd (of_error {T = T} (Err stop) (λ s. s ≢ Worn dev) (Worn dev) (other dev) says refl) }

-- a call that does no work
pub performs_nothing : {T : Type 0} {result : Result T Stop} {rules : Rules} {P Q : Machine → Type 0} → ((m : Machine) → P m → OnOk result (Q m)) → ((dev : Dev) → IsErrOf result (Worn dev) → ⊥) → Performs result rules [] P Q
performs_nothing {result = result} {rules = rules} {Q = Q} stays never = record {
  done = λ m is. ok_as result (Q m) ((first_worn rules [] m ≡ None) × Q m) (λ q. (refl, q)) (stays m is);
  worn = λ m is dev says. absurd (never dev says);
}

-- the same work by another name, by other rules, from elsewhere and to elsewhere
pub performs_as : {T : Type 0} {result : Result T Stop} {rules : Rules} {works other : List RingOp} {P Q : Machine → Type 0} → works ≡ other → Performs result rules other P Q → Performs result rules works P Q
performs_as {result = result} {rules = rules} {P = P} {Q = Q} same performs = subst (λ (w : List RingOp). Performs result rules w P Q) (sym same) performs

pub performs_by : {T : Type 0} {result : Result T Stop} {rules other : Rules} {works : List RingOp} {P Q : Machine → Type 0} → rules ≡ other → Performs result other works P Q → Performs result rules works P Q
performs_by {result = result} {works = works} {P = P} {Q = Q} same performs = subst (λ (r : Rules). Performs result r works P Q) (sym same) performs

pub performs_from : {T : Type 0} {result : Result T Stop} {rules : Rules} {works : List RingOp} {P P' Q : Machine → Type 0} → ((m : Machine) → P' m → P m) → Performs result rules works P Q → Performs result rules works P' Q
performs_from there performs = record { done = λ m is. performs.done m (there m is); worn = λ m is. performs.worn m (there m is) }

-- with more that is known of where the machine stands
pub performs_with : {T : Type 0} {result : Result T Stop} {rules : Rules} {works : List RingOp} {P P' Q Q' : Machine → Type 0} → ((m : Machine) → P' m → P m) → ((m : Machine) → P' m → Q (after_all rules works m) → Q' (after_all rules works m)) →
    Performs result rules works P Q → Performs result rules works P' Q'
performs_with {result = result} {rules = rules} {works = works} {Q = Q} {Q' = Q'} there so performs = record {
  done = λ m is. ok_as result ((first_worn rules works m ≡ None) × Q (after_all rules works m)) ((first_worn rules works m ≡ None) × Q' (after_all rules works m)) (λ e. (e.0, so m is e.1)) (performs.done m (there m is));
  worn = λ m is. performs.worn m (there m is);
}
