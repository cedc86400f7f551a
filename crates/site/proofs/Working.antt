-- Work one after the other, known by its record; and what is said of a result.
use Rattle.std.proofs.Common.{◌≡◌, ◌≢◌, ◌==◌, ◌+◌, ◌≤◌, cond, List, ◌++◌, length, length-append, refl, sym, subst, ap, ◌∙◌, ◌⊎◌, inl, inr, arith}
use Rattle.std.proofs.lemmas.List.Sums.{sum_by-append, count_by-le-length}
use Rattle.std.specs.Prelude.{Result, Ok, Err, OnOk, IfErr, IsErrOf}
pub use Rattle.std_lemmas.proofs.Results.{on_ok as ok_always}
use Rattle.site.specs.declared.outside.Dev.{Dev}
use Rattle.site.specs.declared.outside.Stop.{Stop}
use Rattle.site.specs.declared.outside.Stop.TheVariants.{Device, Worn, Foreign, Memory}
use Rattle.site.specs.State.{State, Moment}
use Rattle.site.specs.Moments.{since, works_in}
use Rattle.site.specs.Faults.{Faults, faults_in, after_work, TellFaults, with_output_fault}
use Rattle.site.proofs.Laws.{stays_honest, fault_since, goes_in_sequence, goes_nowhere, unchanged_in_sequence}
use Rattle.site.specs.Work.{Calls, OnlyReads}
use Rattle.site.specs.declared.outside.Dev.TheVariants.{Log, Flash, Disk}
use Rattle.site.specs.declared.outside.Failed.{Failed}
use Rattle.site.specs.declared.geometry.Geometry.{Geometry}
use Rattle.site.specs.Geometry.{HasLengths}
use Rattle.site.specs.Calls.{Preserves}

-- Results.

pub no_error : {T : Type 0} {x : T} {e : Stop} → IsErrOf {T = T} {E = Stop} (Ok x) e → ⊥
no_error is = cc

-- the same error of an answer of another type
pub err_again : {A B : Type 0} (stop is : Stop) → IsErrOf {T = A} (Err stop) is → IsErrOf {T = B} (Err stop) is
err_again stop is same = let equal : stop ≡ is = cc in ap Err equal

-- what is said of its error
pub of_error : {T : Type 0} (r : Result T Stop) (P : Stop → Type 0) (e : Stop) → IfErr r P → IsErrOf r e → P e
of_error (Ok x) P e p is = absurd (no_error {x = x} {e = e} is)
of_error (Err stop) P e p is = let same : stop ≡ e = cc in subst P same p

-- and where another thing is said then
pub err_as : {T : Type 0} (r : Result T Stop) (P Q : Stop → Type 0) → ((stop : Stop) → P stop → Q stop) → IfErr r P → IfErr r Q
err_as (Ok x) P Q f p = tt
err_as (Err stop) P Q f p = f stop p

pub err_always : {T : Type 0} (r : Result T Stop) (P : Type 0) → P → IfErr r (λ stop. ((d : Dev) → stop ≢ Device d) → P)
err_always (Ok x) P p = tt
err_always (Err stop) P p = λ other. p

pub ok_as : {T E : Type 0} (r : Result T E) (P Q : Type 0) → (P → Q) → OnOk r P → OnOk r Q
ok_as (Ok x) P Q f p = f p
ok_as (Err e) P Q f p = tt

-- No length changes.

pub lengths_later : (g : Geometry) (old new : State) → Preserves old new → HasLengths g old.image → HasLengths g new.image
lengths_later g old new goes lengths = record { log = goes.sizes Log ∙ lengths.log; flash = goes.sizes Flash ∙ lengths.flash; disk = goes.sizes Disk ∙ lengths.disk }

-- Counts of faults.

-- a telling adds one of its own at most
pub tell_faults_cases : {T : Type 0} (result : Result T Failed) (old new : State) → TellFaults result old new → (faults_in new ≡ faults_in old) ⊎ (faults_in new ≡ with_output_fault (faults_in old))
tell_faults_cases (Ok x) old new tells = inl tells
tell_faults_cases (Err e) old new tells = inr tells

-- of an error the answer's type says nothing
pub same_error : (A B : Type 0) (stop : Stop) (f : Faults) → after_work {T = A} (Err stop) f ≡ after_work {T = B} (Err stop) f
same_error A B (Device d) f = refl
same_error A B Memory f = refl
same_error A B (Worn d) f = refl
same_error A B Foreign f = refl

-- one that names no device raises no count
pub no_fault : (A : Type 0) (stop : Stop) (f : Faults) → ((d : Dev) → stop ≢ Device d) → after_work {T = A} (Err stop) f ≡ f
no_fault A (Device d) f other = absurd (other d refl)
no_fault A Memory f other = refl
no_fault A (Worn d) f other = refl
no_fault A Foreign f other = refl

-- Work.

pub calls_nothing : {T : Type 0} {x : T} {site : State} → Calls {T = T} (Ok x) site site
calls_nothing {T = T} {x = x} {site = site} = record {
  preserves = goes_nowhere site;
  left = λ honest. refl;
  stays_quiet = λ honest quiet. quiet;
  device = λ d is. absurd (no_error {T = T} {x = x} {e = Device d} is);
  faults = refl;
}

pub calls_then : {A B : Type 0} {a : A} {r : Result B Stop} {before between now : State} → Calls {T = A} (Ok a) before between → Calls r between now → Calls r before now
calls_then {r = r} {before = before} {between = between} {now = now} first second = record {
  preserves = goes_in_sequence before between now first.preserves second.preserves;
  left = λ honest. second.left (stays_honest before between first.preserves honest) ∙ first.left honest;
  stays_quiet = λ honest quiet. second.stays_quiet (stays_honest before between first.preserves honest) (first.stays_quiet honest quiet);
  device = λ d is. fault_since d before between now first.preserves (second.device d is);
  faults = second.faults ∙ ap (λ (f : Faults). after_work r f) first.faults;
}

-- the error of a call is the error of its caller
pub calls_failed : {A B : Type 0} {stop : Stop} {before now : State} → Calls {T = A} (Err stop) before now → Calls {T = B} (Err stop) before now
calls_failed {A = A} {B = B} {stop = stop} {before = before} first = record {
  preserves = first.preserves;
  left = first.left;
  stays_quiet = λ honest quiet. tt;
  device = λ d is. first.device d (err_again stop (Device d) is);
  faults = first.faults ∙ same_error A B stop (faults_in before);
}

-- another value of its caller
pub calls_answered : {A B : Type 0} {a : A} {b : B} {before now : State} → Calls {T = A} (Ok a) before now → Calls {T = B} (Ok b) before now
calls_answered {B = B} {b = b} first = record { preserves = first.preserves; left = first.left; stays_quiet = first.stays_quiet; device = λ d is. absurd (no_error {T = B} {x = b} {e = Device d} is); faults = first.faults }

-- its caller refuses what it got
pub calls_refused : {A B : Type 0} {a : A} {stop : Stop} {before now : State} → ((d : Dev) → stop ≢ Device d) → Calls {T = A} (Ok a) before now → Calls {T = B} (Err stop) before now
calls_refused {B = B} {stop = stop} {before = before} other first = record {
  preserves = first.preserves;
  left = first.left;
  stays_quiet = λ honest quiet. tt;
  device = λ d is. absurd (other d (let same : stop ≡ Device d = cc in same));
  faults = first.faults ∙ sym (no_fault B stop (faults_in before) other);
}

-- Work that only reads.

-- one call behind others that were Ok
pub looks_then : {A B : Type 0} (x : A) (r : Result B Stop) (a b c : State) → OnlyReads {T = A} (Ok x) a b → OnlyReads r b c → OnlyReads r a c
looks_then x r a b c first second = record {
  same = λ honest. unchanged_in_sequence a b c (first.same honest) (second.same (stays_honest a b first.preserves honest));
  preserves = goes_in_sequence a b c first.preserves second.preserves;
  faults = second.faults ∙ ap (after_work r) first.faults;
  device = λ d says. fault_since d a b c first.preserves (second.device d says);
  stops = second.stops;
}

-- the same with another answer, or with another type of answer beside the error
pub looks_answered : {A B : Type 0} (x : A) (y : B) (a b : State) → OnlyReads {T = A} (Ok x) a b → OnlyReads {T = B} (Ok y) a b
looks_answered {A} {B} x y a b reads = record {
  same = reads.same;
  preserves = reads.preserves;
  faults = reads.faults;
  device = λ d says. absurd (no_error {T = B} {x = y} {e = Device d} says);
  stops = tt;
}

pub looks_failed : {A B : Type 0} (stop : Stop) (a b : State) → OnlyReads {T = A} (Err stop) a b → OnlyReads {T = B} (Err stop) a b
looks_failed {A} {B} stop a b reads = record {
  same = reads.same;
  preserves = reads.preserves;
  faults = reads.faults ∙ same_error A B stop (faults_in a);
  device = λ d says. reads.device d (err_again stop (Device d) says);
  stops = reads.stops;
}

-- Writes and syncs.

pub works_join : (first later : List Moment) → works_in (first ++ later) ≡ works_in first + works_in later
works_join = sum_by-append (λ m. cond (length m.telling == 0) 1 0)

-- there are no more of them than calls
pub works_rise : (old new : State) → new.past ≡ old.past ++ since old new → works_in new.past + length old.past ≤ works_in old.past + length new.past
works_rise old new grown =
    let works = ap works_in grown ∙ works_join old.past (since old new) in
    let calls = ap length grown ∙ length-append old.past (since old new) in
    let few = count_by-le-length (λ m. length m.telling == 0) (since old new) in
    omega (arith, works, calls, few)
