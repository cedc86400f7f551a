-- What was opened goes on, on every site.
use Rattle.face.proofs.Names.{arith, ◌≡◌, IsTrue, ◌∙◌, ap, Ok, Err, ⊤, Engine, CarriesOut, WorkEnds, GoesOn, RunFaults, SameFaults, after_halt, HearsOnly, Halt, Line, goes_in_sequence, rose_since, stays_honest, Preserves, Rose, faults_in, with_output_fault, Site}
use Rattle.face.proofs.Ends.{answer_cause}
use Rattle.face.proofs.Logs.{goes_on, still_fits}
use Rattle.face.proofs.NextUnits.{next_later}
use Rattle.front_end.specs.declared.halt.Halt.TheVariants as halt

-- a first failed call of later work is the first of all
pub faults_since : (h : Halt) (old mid new : Site) → SameFaults old mid → RunFaults {T = ⊤} (Err h) mid new → RunFaults {T = ⊤} (Err h) old new
faults_since h old mid new same faults = faults ∙ ap (after_halt h) same

module _ (entry mid new : Site) (engine : Engine) (so_far : GoesOn entry mid engine) where
  still : IsTrue entry.honest → IsTrue mid.honest
  still honest = stays_honest entry mid so_far.preserves honest

  -- something is heard
  pub goes_heard : Preserves mid new → (IsTrue mid.honest → HearsOnly mid new) → SameFaults mid new → GoesOn entry new engine
  goes_heard goes same faults = record {
    preserves = goes_in_sequence entry mid new so_far.preserves goes;
    faults = faults ∙ so_far.faults;
    sized = so_far.sized;
    going = goes_on engine mid new so_far.going goes;
    fits = λ honest g table commits stands. let f = so_far.fits honest g table commits stands in ((f.0.0, still_fits engine mid new f.0.0 f.0.1 goes (same (still honest)).image), f.1);
    next = λ honest g limits lengths. let n = so_far.next honest g limits lengths in (next_later engine.store mid new (same (still honest)).image n.0, n.1);
  }

  -- a line is carried out
  pub goes_next : {T : Type 0} (x : T) (line : Line) (engine' : Engine) → CarriesOut {T = T} (Ok x) line engine engine' mid new → GoesOn entry new engine'
  goes_next x line engine' c = record {
    preserves = goes_in_sequence entry mid new so_far.preserves c.preserves;
    faults = c.faults ∙ so_far.faults;
    sized = so_far.sized;
    going = c.going;
    fits = λ honest g table commits stands. let f = so_far.fits honest g table commits stands in ((_, (c.does f.0.0 f.0.1).fits), c.sizes ∙ f.1);
    next = λ honest g limits lengths. let n = so_far.next honest g limits lengths in (c.next (still honest) n.0, c.sizes ∙ n.1);
  }

  -- or fails
  pub fails_there : {T U : Type 0} (h : Halt) (line : Line) (engine' : Engine) → CarriesOut {T = T} (Err h) line engine engine' mid new → WorkEnds {T = U} (Err h) entry new
  fails_there h line engine' c = grind (arith, answer_cause, goes_in_sequence, faults_since)

-- How work ends: well, by an error of other work, or while something is told.

pub ends_well : {T : Type 0} (x : T) (entry now : Site) (engine : Engine) → GoesOn entry now engine → WorkEnds {T = T} (Ok x) entry now
ends_well x entry now engine goes = record { cause = tt; refuses = goes.sized; preserves = goes.preserves; faults = goes.faults }

pub ends_as : {A B : Type 0} (h : Halt) (old new : Site) → WorkEnds {T = A} (Err h) old new → WorkEnds {T = B} (Err h) old new
ends_as h old new ends = record { cause = ends.cause; refuses = ends.refuses; preserves = ends.preserves; faults = ends.faults }

module _ {A B : Type 0} (a : A) (old mid new : Site) (ends : WorkEnds {T = A} (Ok a) old mid) (goes : Preserves mid new) where
  pub ends_told : (b : B) → SameFaults mid new → WorkEnds {T = B} (Ok b) old new
  ends_told b same = record { cause = tt; refuses = ends.refuses; preserves = goes_in_sequence old mid new ends.preserves goes; faults = same ∙ ends.faults }

  pub ends_untold : faults_in new ≡ with_output_fault (faults_in mid) → Rose mid.output_faults new.output_faults → WorkEnds {T = B} (Err halt.Output) old new
  ends_untold same rose = grind (arith, rose_since, goes_in_sequence)
