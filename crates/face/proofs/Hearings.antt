-- What was heard of the input when a run ends.
use Rattle.face.proofs.Names.{◌≡◌, ◌≢◌, ◌⊎◌, ⊎_elim, ℕ, suc, ◌+◌, ◌≤◌, Bool, true, false, List, [], ◌++◌, length, refl, sym, ◌∙◌, ap, subst, arith, Ok, Err, HasHeard, HasEnded, HearsLine, IsCutOff, IsSource, limit, to_hear, total, status_of, Halt, Source, Line, is_quit, Site, Input}
use Rattle.std.proofs.lemmas.List.{length-append}
use Rattle.std.proofs.lemmas.Grind.{common_steps}
use Rattle.face.specs.Hearing.{EndsHearing, HasTaken, HearsInTime, IsTooLong, WorkHears}
use Rattle.face.proofs.Statuses.{not_zero, of_seven}
use Rattle.face.proofs.Cuts.{Cut, has_heard_all, heard_line, input_failed, over_limit, quit_is_last, taken_by}
use Rattle.front_end.specs.declared.halt.Halt.TheVariants as halt

-- where a run halts for another reason no more octets were taken than it may take
ends_hearing : (h : Halt) (octets : List ℕ) → h ≢ halt.Limit → length octets ≤ limit → EndsHearing h octets
ends_hearing (halt.Stop stop) octets ne few = few
ends_hearing halt.Input octets ne few = few
ends_hearing halt.Output octets ne few = few
ends_hearing halt.Limit octets ne few = absurd (ne refl)

taken_of : (n : ℕ) (octets : List ℕ) (ended : Bool) (old now : Site) → HasHeard n octets ended old now → HasTaken octets ended old now
taken_of n octets ended old now heard = record { taken = heard.taken; end = heard.end }

-- how many octets were taken
count_of : (octets : List ℕ) (ended : Bool) (old now : Site) → HasTaken octets ended old now → length old.input.left ≡ length octets + length now.input.left
count_of octets ended old now taken = ap length taken.taken ∙ length-append octets now.input.left

-- none was taken
pub hears_nothing : {T : Type 0} (h : Halt) (old new : Site) → h ≢ halt.Limit → new.input ≡ old.input → WorkHears {T = T} (Err h) old new
hears_nothing h old new ne same = record {
  octets = [];
  ended = false;
  has_taken = record { taken = sym (ap (λ (input : Input). input.left) same); end = λ no. cc };
  all = tt;
  stops = ends_hearing h [] ne (omega arith);
}

module _ (old mid : Site) (source : Source) (i : ℕ) (cut : Cut old.input.left source mid i) (is_source : IsSource source) where
  -- taking failed
  pub hears_cut : {T : Type 0} (h : Halt) (new : Site) → (h ≡ halt.Input) ⊎ (h ≡ halt.Limit) → IsCutOff h source.ended (total source mid) (to_hear source mid) new.input.left → WorkHears {T = T} (Err h) old new
  hears_cut (halt.Stop stop) new which off = ⊎_elim (λ e. absurd cc) (λ e. absurd cc) which
  hears_cut halt.Output new which off = ⊎_elim (λ e. absurd cc) (λ e. absurd cc) which
  hears_cut halt.Input new which off =
      let f = input_failed old.input.left source mid i cut is_source new.input.left off.octets off.rest off.none off.all_of_it off.going old new refl refl off.ends.0 off.ends.1 in
      let taken = taken_of i (cut.octets ++ off.octets) false old new f.0 in
      record {
        octets = cut.octets ++ off.octets;
        ended = false;
        has_taken = taken;
        all = tt;
        stops = let many = count_of (cut.octets ++ off.octets) false old new taken in let all = cut.taken in let few = off.ends.1 in omega (arith, many, all, few);
      }
  hears_cut halt.Limit new which off =
      let f = over_limit old.input.left source mid i cut is_source new.input.left off.octets off.rest off.none off.all_of_it off.going off.ends.0 off.ends.1 off.ends.2 old new refl refl in
      record { octets = _; ended = false; has_taken = taken_of i _ false old new f.0; all = tt; stops = (f.2, f.1.1) }

  -- the input was heard to its end
  pub hears_end : {T : Type 0} (x : T) (new : Site) → to_hear source mid ≡ [] → new.input.left ≡ [] → WorkHears (Ok x) old new
  hears_end x new none left = grind (arith, has_heard_all, taken_of, count_of, length-append)

  -- a line was heard
  module _ (source' : Source) (next : Site) (line : Line) (h : HearsLine line source.ended source'.ended (to_hear source mid) (to_hear source' next)) (ended : HasEnded source' next) (is' : IsSource source') (same : total source' next ≡ total source mid) (new : Site) (left : new.input ≡ next.input) where
    abbrev all_taken : List ℕ
    all_taken = taken_by old.input.left source mid i cut is_source source' next line h ended is'

    line_taken : HasTaken all_taken source'.ended old new
    line_taken = taken_of (suc i) all_taken source'.ended old new (heard_line old.input.left source mid i cut is_source source' next line h ended is' old new refl left)

    few_taken : length all_taken ≤ limit
    few_taken = grind (arith, common_steps, count_of, line_taken)

    -- its answer failed
    pub hears_answer : {T : Type 0} (fault : Halt) → fault ≢ halt.Limit → WorkHears {T = T} (Err fault) old new
    hears_answer fault ne = record { octets = all_taken; ended = source'.ended; has_taken = line_taken; all = tt; stops = ends_hearing fault all_taken ne few_taken }

    -- it was a quit
    pub hears_quit : {T : Type 0} (x : T) → is_quit line ≡ true → WorkHears (Ok x) old new
    hears_quit x quits = grind (arith, common_steps, line_taken, quit_is_last, few_taken)

-- By the status.

pub heard_done : {T : Type 0} (x : T) (old new : Site) → WorkHears (Ok x) old new → HearsInTime 0 old new
heard_done x old new w = record { octets = w.octets; ended = w.ended; has_taken = w.has_taken; all = λ zero. w.all.0; over = λ seven. absurd (omega (arith, seven)); within = λ ne. w.all.1 }

over_by : (h : Halt) (status : ℕ) (octets : List ℕ) → status ≡ status_of h → EndsHearing h octets → status ≡ 7 → IsTooLong octets
over_by h status octets is ends e = subst (λ (x : Halt). EndsHearing x octets) (of_seven h (sym is ∙ e)) ends

within_by : (h : Halt) (status : ℕ) (octets : List ℕ) → status ≡ status_of h → EndsHearing h octets → status ≢ 7 → length octets ≤ limit
within_by x0 status octets is ends ne = grind arith

-- behind which the fault line is told
pub heard_halted : {T : Type 0} (h : Halt) (status : ℕ) (old mid new : Site) → status ≡ status_of h → new.input ≡ mid.input → WorkHears {T = T} (Err h) old mid → HearsInTime status old new
heard_halted h status old mid new is same w = grind (arith, not_zero, over_by, within_by)
