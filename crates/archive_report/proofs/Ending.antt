-- How an archive ends: the answer was told whole, or the line of a fault is told last.
use Rattle.archive_report.proofs.Names.{◌≡◌, ◌⊎◌, inl, inr, ⊎_elim, ℕ, ◌≤◌, le_refl, List, [], ◌++◌, length, take, refl, sym, ◌∙◌, ap, subst, arith, append_assoc, IsTrue, append-nil, take_all, concat, Result, Ok, Err, OnOk, OnErr, IsErrOf, HasLog, ArchiveContract, Archives, FirstFails, IsFault, Tells, TellsSynced, synced, Halt, each_weaker, in_sequence, rose_then, rose_since, fault_then, tell_faults_cases, FaultRose, Preserves, Rose, Faults, faults_in, one_more, TellFaults, EachMoment, State, Moment, now_of, TellsPart}
use Rattle.site.specs.declared.outside.Dev.TheVariants.{Log}
use Rattle.site.specs.declared.outside.Failed.{Failed}
use Rattle.site.specs.declared.geometry.Geometry.{Geometry}
use Rattle.site.specs.Geometry.{HasLimits, HasLengths}
use Rattle.archive_report.specs.Halts.{Goes, after_halt, halt_line, halt_status}
use Rattle.archive_report.proofs.Told.{front_behind, part_behind, part_more}
use Rattle.archive_report.specs.declared.halt.Halt.TheVariants as halt

-- an answer of the calls before
abbrev pub answered : ℕ → Result ℕ Halt
answered status = Ok status

abbrev pub stopped : Halt → Result ℕ Halt
stopped h = Err h

no_error : {T : Type 0} {x : T} → IsErrOf {T = T} {E = Halt} (Ok x) halt.Output → ⊥
no_error is = cc

-- The answer was told whole.

abbrev pub IsDone : ℕ → Type 0
IsDone status = (status ≡ 0) ⊎ (status ≡ 12)

not_done : (status k : ℕ) → IsDone status → status ≡ k → (k ≡ 0) ⊎ (k ≡ 12)
not_done status k (inl is) e = inl (omega (arith, is, e))
not_done status k (inr is) e = inr (omega (arith, is, e))

neither : (k : ℕ) → (k ≡ 0) ⊎ (k ≡ 12) → 1 ≤ k → k ≤ 11 → ⊥
neither k (inl is) least most = omega (arith, is, least)
neither k (inr is) least most = omega (arith, is, most)

done_not : (status k : ℕ) → IsDone status → 1 ≤ k → k ≤ 11 → status ≡ k → ⊥
done_not status k is least most e = neither k (not_done status k is e) least most

fault_none : (status : ℕ) → IsDone status → IsFault status []
fault_none status is = record {
  log = λ e. absurd (done_not status 3 is (omega arith) (omega arith) e);
  memory = λ e. absurd (done_not status 4 is (omega arith) (omega arith) e);
  foreign = λ e. absurd (done_not status 9 is (omega arith) (omega arith) e);
  none = λ e. refl;
}

does_told : (from status : ℕ) (old new : State) → IsDone status → Tells from (Ok status) old new → Archives from old new status
does_told from status old new is tells =
    let text : List ℕ = concat tells.done in
    let told : new.told ≡ old.told ++ text = tells.told (λ error. no_error error) in
    let all : take (length (text ++ [])) (text ++ []) ≡ text ++ [] = take_all (length (text ++ [])) (text ++ []) (omega arith) in
    record {
      done = tells.done;
      rest = tells.rest;
      right = tells.right;
      fault = [];
      fault_is = fault_none status is;
      any_moment = subst (λ (t : List ℕ). EachMoment old new (TellsSynced [] t old)) (sym (append-nil text)) tells.moments;
      image = tells.image;
      left = tells.left;
      part = length (text ++ []);
      told = told ∙ ap (λ (t : List ℕ). old.told ++ t) (sym (append-nil text) ∙ sym all);
      whole = λ none. all;
      all = λ done. (tells.all, told);
    }

done_others : (status : ℕ) → IsDone status → (status ≡ 0) ⊎ ((status ≡ 3) ⊎ ((status ≡ 4) ⊎ ((status ≡ 6) ⊎ ((status ≡ 9) ⊎ (status ≡ 12)))))
done_others status (inl is) = inl is
done_others status (inr is) = inr (inr (inr (inr (inr is))))

pub contract_told : (from status : ℕ) (old new : State) → IsDone status → (IsTrue old.honest → Tells from (Ok status) old new) → (((g : Geometry) → HasLimits g → HasLengths g old.image → ⊥) → answered status ≡ stopped halt.Foreign) → ArchiveContract from old new status
contract_told from status old new is tells sizes = record {
  does = λ honest. does_told from status old new is (tells honest);
  causes = record {
    others = done_others status is;
    log = λ e. absurd (done_not status 3 is (omega arith) (omega arith) e);
    output = λ e. absurd (done_not status 6 is (omega arith) (omega arith) e);
    foreign = λ honest e. absurd (done_not status 9 is (omega arith) (omega arith) e);
    no_log = λ honest none. let answers = (tells honest).all in absurd (none answers.g answers.log);
    sizes = λ none. absurd (never (sizes none));
  };
}
  where
    never : answered status ≡ stopped halt.Foreign → ⊥
    never is = cc

pub first_told : (status : ℕ) (old new : State) → IsDone status → faults_in new ≡ faults_in old → FirstFails status old new
first_told status old new is same = record {
  after = faults_in old;
  log = λ e. absurd (done_not status 3 is (omega arith) (omega arith) e);
  output = λ e. absurd (done_not status 6 is (omega arith) (omega arith) e);
  none = λ e. refl;
  line = inl same;
}

-- The line of a fault is told last.

-- nothing more is told
part_again : (text : List ℕ) (base mid : State) (m : Moment) → TellsPart text base (now_of mid) → TellsPart [] mid m → TellsPart text base m
part_again text base mid m here part = record {
  image = part.image ∙ here.image;
  loose = part.loose ∙ here.loose;
  told = λ j.
      let some = part.told j in
      let front = here.told 0 in
      (front.0, some.1 ∙ ap (λ (l : List ℕ). mid.told ++ l) (take_all some.0 [] (omega arith)) ∙ front.1);
}

-- telling a line
pub record TellsLast (line : List ℕ) (mid new : State) (result : Result (Unit {0}) Failed) : Type 0 where
  pub any_moment : EachMoment mid new (TellsPart line mid)
  pub told : OnOk result (new.told ≡ mid.told ++ line)
  pub cause : OnErr result (Rose mid.output_faults new.output_faults)
  pub left : new.input ≡ mid.input

module _ (from : ℕ) (h : Halt) (old mid new : State) (result : Result (Unit {0}) Failed) (goes : Preserves mid new) (tells : Tells from (Err h) old mid) (last : TellsLast (halt_line h) mid new result) where
  abbrev text : List ℕ
  text = concat tells.done ++ halt_line h

  moments : ((m : Moment) → TellsPart (halt_line h) mid m → TellsSynced (halt_line h) text old m) → EachMoment old new (TellsSynced (halt_line h) text old)
  moments each =
      in_sequence old mid new (TellsSynced (halt_line h) text old)
      (each_weaker old mid (TellsSynced [] (concat tells.done) old) (TellsSynced (halt_line h) text old)
      (λ (m : Moment) either. ⊎_elim (λ part. inl (part_more [] (halt_line h) old m part)) (λ part. inr (part_more (concat tells.done) (halt_line h) (record old { loose = synced old }) m part)) either) tells.moments)
      (each_weaker mid new (TellsPart (halt_line h) mid) (TellsSynced (halt_line h) text old) each last.any_moment)

  -- it comes behind lines that were told whole
  module _ (known : mid.told ≡ old.told ++ concat tells.done) where
    behind : (m : Moment) → TellsPart (halt_line h) mid m → TellsSynced (halt_line h) text old m
    behind m part = elim tells.loose [
      | inl none ↦ inl (record {
        image = part.image ∙ tells.image;
        loose = part.loose ∙ none.0;
        told = λ j.
            let some = part.told j in
            (some.0, some.1 ∙ ap (λ (l : List ℕ). l ++ take some.0 (halt_line h)) (known ∙ ap (λ (d : List (List ℕ)). old.told ++ concat d) none.1 ∙ append-nil old.told));
      })
      | inr is ↦ inr (part_behind (concat tells.done) (halt_line h) (record old { loose = synced old }) mid m (record { image = tells.image; loose = is; left = tells.left }) known part)
    ]

    ends : (r : Result (Unit {0}) Failed) → OnOk r (new.told ≡ mid.told ++ halt_line h) → OnErr r (Rose mid.output_faults new.output_faults) → Preserves old mid
        → (part : ℕ) × (new.told ≡ old.told ++ take part text) × (¬ (Rose old.output_faults new.output_faults) → take part text ≡ text)
    ends (Ok x) told cause before =
        let all : take (length text) text ≡ text = take_all (length text) text (omega arith) in
        (length text, told ∙ ap (λ (l : List ℕ). l ++ halt_line h) known ∙ append_assoc old.told (concat tells.done) (halt_line h) ∙ ap (λ (l : List ℕ). old.told ++ l) (sym all), λ none. all)
    ends (Err e) told cause before =
        let some = last.any_moment.now.told 0 in
        let front = front_behind (concat tells.done) (halt_line h) some.0 in (
          front.0,
          sym (append-nil new.told) ∙ some.1 ∙ ap (λ (l : List ℕ). l ++ take some.0 (halt_line h)) known ∙ append_assoc old.told (concat tells.done) (take some.0 (halt_line h)) ∙ ap (λ (l : List ℕ). old.told ++ l) front.1,
          λ none. absurd (none (rose_since old.output_faults mid.output_faults new.output_faults before.output_faults cause)),
        )

    pub does_known : Preserves old mid → (fault_is : IsFault (halt_status h) (halt_line h)) → (IsDone (halt_status h) → ⊥) → Archives from old new (halt_status h)
    does_known before fault_is not =
        let end = ends result last.told last.cause before in
        record {
          done = tells.done;
          rest = tells.rest;
          right = tells.right;
          fault = halt_line h;
          fault_is = fault_is;
          any_moment = moments behind;
          image = last.any_moment.now.image ∙ tells.image;
          left = last.left ∙ tells.left;
          part = end.0;
          told = end.1;
          whole = end.2;
          all = λ done. absurd (not done);
        }

-- Telling has failed, and no line comes behind.
module _ (from : ℕ) (old mid new : State) (result : Result (Unit {0}) Failed) (goes : Preserves mid new) (tells : Tells from (Err halt.Output) old mid) (last : TellsLast [] mid new result) (rose : Rose old.output_faults mid.output_faults) where
  abbrev so_far : List ℕ
  so_far = concat tells.done

  again : (m : Moment) → TellsPart [] mid m → TellsSynced [] so_far old m
  again m part = ⊎_elim (λ here. inl (part_again [] old mid m here part)) (λ here. inr (part_again so_far (record old { loose = synced old }) mid m here part)) tells.moments.now

  -- a front of it was told
  front : (k : ℕ) × (new.told ≡ old.told ++ take k so_far)
  front = by (again (now_of new) last.any_moment.now)
    where
      by : TellsSynced [] so_far old (now_of new) → (k : ℕ) × (new.told ≡ old.told ++ take k so_far)
      by (inl part) = let some = part.told 0 in (0, sym (append-nil new.told) ∙ some.1 ∙ ap (λ (l : List ℕ). old.told ++ l) (take_all some.0 [] (omega arith)))
      by (inr part) = let some = part.told 0 in (some.0, sym (append-nil new.told) ∙ some.1)

  pub does_untold : Archives from old new 6
  does_untold = record {
    done = tells.done;
    rest = tells.rest;
    right = tells.right;
    fault = [];
    fault_is = record { log = λ e. absurd (omega (arith, e)); memory = λ e. absurd (omega (arith, e)); foreign = λ e. absurd (omega (arith, e)); none = λ e. refl };
    any_moment = subst (λ (t : List ℕ). EachMoment old new (TellsSynced [] t old)) (sym (append-nil so_far))
        (in_sequence old mid new (TellsSynced [] so_far old) tells.moments (each_weaker mid new (TellsPart [] mid) (TellsSynced [] so_far old) again last.any_moment));
    image = last.any_moment.now.image ∙ tells.image;
    left = last.left ∙ tells.left;
    part = front.0;
    told = front.1 ∙ ap (λ (t : List ℕ). old.told ++ take front.0 t) (sym (append-nil so_far));
    whole = λ none. absurd (none (rose_then old.output_faults mid.output_faults new.output_faults rose goes.output_faults));
    all = λ done. absurd (six 6 refl done);
  }
    where
      six : (n : ℕ) → n ≡ 6 → (n ≡ 0) ⊎ (n ≡ 12) → ⊥
      six n is (inl e) = omega (arith, is, e)
      six n is (inr e) = omega (arith, is, e)

-- Each halt.

rose_is : (a b : ℕ) → b ≡ one_more a → Rose a b
rose_is a b is = subst (λ (n : ℕ). one_more a ≤ n) (sym is) (le_refl (one_more a))

fault_is : (h : Halt) → IsFault (halt_status h) (halt_line h)
fault_is halt.Log = record { log = λ e. refl; memory = λ e. absurd (omega (arith, e)); foreign = λ e. absurd (omega (arith, e)); none = λ e. absurd (three 3 refl e) }
  where
    three : (n : ℕ) → n ≡ 3 → (n ≡ 0) ⊎ ((n ≡ 6) ⊎ (n ≡ 12)) → ⊥
    three n is (inl e) = omega (arith, is, e)
    three n is (inr (inl e)) = omega (arith, is, e)
    three n is (inr (inr e)) = omega (arith, is, e)
fault_is halt.Output = record { log = λ e. absurd (omega (arith, e)); memory = λ e. absurd (omega (arith, e)); foreign = λ e. absurd (omega (arith, e)); none = λ e. refl }
fault_is halt.Foreign = record { log = λ e. absurd (omega (arith, e)); memory = λ e. absurd (omega (arith, e)); foreign = λ e. refl; none = λ e. absurd (nine 9 refl e) }
  where
    nine : (n : ℕ) → n ≡ 9 → (n ≡ 0) ⊎ ((n ≡ 6) ⊎ (n ≡ 12)) → ⊥
    nine n is (inl e) = omega (arith, is, e)
    nine n is (inr (inl e)) = omega (arith, is, e)
    nine n is (inr (inr e)) = omega (arith, is, e)

never_done : (h : Halt) → IsDone (halt_status h) → ⊥
never_done halt.Log (inl e) = omega (arith, e)
never_done halt.Log (inr e) = omega (arith, e)
never_done halt.Output (inl e) = omega (arith, e)
never_done halt.Output (inr e) = omega (arith, e)
never_done halt.Foreign (inl e) = omega (arith, e)
never_done halt.Foreign (inr e) = omega (arith, e)

does_halted : (from : ℕ) (h : Halt) (old mid new : State) (result : Result (Unit {0}) Failed) → Goes {T = ℕ} (Err h) old mid → Preserves mid new → Tells from (Err h) old mid → TellsLast (halt_line h) mid new result → Archives from old new (halt_status h)
does_halted from halt.Log old mid new result before goes tells last =
    does_known from halt.Log old mid new result goes tells last (tells.told (λ is. not_log is)) before.preserves (fault_is halt.Log) (never_done halt.Log)
  where
    not_log : IsErrOf {T = ℕ} {E = Halt} (Err halt.Log) halt.Output → ⊥
    not_log is = cc
does_halted from halt.Output old mid new result before goes tells last =
    does_untold from old mid new result goes tells last (rose_is old.output_faults mid.output_faults (ap (λ (f : Faults). f.output) before.faults))
does_halted from halt.Foreign old mid new result before goes tells last =
    does_known from halt.Foreign old mid new result goes tells last (tells.told (λ is. not_foreign is)) before.preserves (fault_is halt.Foreign) (never_done halt.Foreign)
  where
    not_foreign : IsErrOf {T = ℕ} {E = Halt} (Err halt.Foreign) halt.Output → ⊥
    not_foreign is = cc

-- what the calls before the last line say of the halt
pub record Halts (h : Halt) (old mid : State) : Type 0 where
  pub goes : Goes {T = ℕ} (Err h) old mid
  pub foreign : IsTrue old.honest → stopped h ≡ stopped halt.Foreign → (g : Geometry) → HasLog g old.image → ⊥
  pub no_log : IsTrue old.honest → ((g : Geometry) → HasLog g old.image → ⊥) → (stopped h ≡ stopped halt.Foreign) ⊎ (stopped h ≡ stopped halt.Log)
  pub sizes : ((g : Geometry) → HasLimits g → HasLengths g old.image → ⊥) → stopped h ≡ stopped halt.Foreign

halt_is : (h k : Halt) → stopped h ≡ stopped k → h ≡ k
halt_is h k is = cc

is_foreign : (h : Halt) → halt_status h ≡ 9 → stopped h ≡ stopped halt.Foreign
is_foreign halt.Log e = absurd (omega (arith, e))
is_foreign halt.Output e = absurd (omega (arith, e))
is_foreign halt.Foreign e = refl

log_rose : (h : Halt) (old mid : State) → Goes {T = ℕ} (Err h) old mid → halt_status h ≡ 3 → FaultRose Log old mid
log_rose halt.Log old mid goes e = rose_is old.log_faults mid.log_faults (ap (λ (f : Faults). f.log) goes.faults)
log_rose halt.Output old mid goes e = absurd (omega (arith, e))
log_rose halt.Foreign old mid goes e = absurd (omega (arith, e))

output_rose : (h : Halt) (old mid : State) → Goes {T = ℕ} (Err h) old mid → halt_status h ≡ 6 → Rose old.output_faults mid.output_faults
output_rose halt.Log old mid goes e = absurd (omega (arith, e))
output_rose halt.Output old mid goes e = rose_is old.output_faults mid.output_faults (ap (λ (f : Faults). f.output) goes.faults)
output_rose halt.Foreign old mid goes e = absurd (omega (arith, e))

halt_others : (h : Halt) → let status = halt_status h in (status ≡ 0) ⊎ ((status ≡ 3) ⊎ ((status ≡ 4) ⊎ ((status ≡ 6) ⊎ ((status ≡ 9) ⊎ (status ≡ 12)))))
halt_others halt.Log = inr (inl refl)
halt_others halt.Output = inr (inr (inr (inl refl)))
halt_others halt.Foreign = inr (inr (inr (inr (inl refl))))

pub contract_halted : (from : ℕ) (h : Halt) (old mid new : State) (result : Result (Unit {0}) Failed) → Halts h old mid → Preserves mid new → (IsTrue old.honest → Tells from (Err h) old mid) → (IsTrue old.honest → TellsLast (halt_line h) mid new result) → ArchiveContract from old new (halt_status h)
contract_halted from h old mid new result halts goes tells last = record {
  does = λ honest. does_halted from h old mid new result halts.goes goes (tells honest) (last honest);
  causes = record {
    others = halt_others h;
    log = λ e. fault_then Log old mid new (log_rose h old mid halts.goes e) goes;
    output = λ e. rose_then old.output_faults mid.output_faults new.output_faults (output_rose h old mid halts.goes e) goes.output_faults;
    foreign = λ honest e. halts.foreign honest (is_foreign h e);
    no_log = λ honest none. ⊎_elim (λ is. inl (ap halt_status (halt_is h halt.Foreign is))) (λ is. inr (inl (ap halt_status (halt_is h halt.Log is)))) (halts.no_log honest none);
    sizes = λ none. inl (ap halt_status (halt_is h halt.Foreign (halts.sizes none)));
  };
}

pub first_halted : (h : Halt) (old mid new : State) (result : Result (Unit {0}) Failed) → faults_in mid ≡ after_halt h (faults_in old) → TellFaults result mid new → FirstFails (halt_status h) old new
first_halted halt.Log old mid new result same tells = record {
  after = faults_in mid;
  log = λ e. same;
  output = λ e. absurd (omega (arith, e));
  none = λ e. absurd (three 3 refl e);
  line = tell_faults_cases result mid new tells;
}
  where
    three : (n : ℕ) → n ≡ 3 → (n ≡ 0) ⊎ ((n ≡ 4) ⊎ ((n ≡ 9) ⊎ (n ≡ 12))) → ⊥
    three n is (inl e) = omega (arith, is, e)
    three n is (inr (inl e)) = omega (arith, is, e)
    three n is (inr (inr (inl e))) = omega (arith, is, e)
    three n is (inr (inr (inr e))) = omega (arith, is, e)
first_halted halt.Output old mid new result same tells = record {
  after = faults_in mid;
  log = λ e. absurd (omega (arith, e));
  output = λ e. same;
  none = λ e. absurd (six 6 refl e);
  line = tell_faults_cases result mid new tells;
}
  where
    six : (n : ℕ) → n ≡ 6 → (n ≡ 0) ⊎ ((n ≡ 4) ⊎ ((n ≡ 9) ⊎ (n ≡ 12))) → ⊥
    six n is (inl e) = omega (arith, is, e)
    six n is (inr (inl e)) = omega (arith, is, e)
    six n is (inr (inr (inl e))) = omega (arith, is, e)
    six n is (inr (inr (inr e))) = omega (arith, is, e)
first_halted halt.Foreign old mid new result same tells = record {
  after = faults_in mid;
  log = λ e. absurd (omega (arith, e));
  output = λ e. absurd (omega (arith, e));
  none = λ e. same;
  line = tell_faults_cases result mid new tells;
}
