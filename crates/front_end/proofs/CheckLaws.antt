-- What `check` tells after it has only read, and when each of its statuses comes.
use Rattle.std.proofs.Common.{◌≡◌, ◌⊎◌, inl, inr, ◌++◌, ◌≤◌, ℕ, zero, suc, List, refl, ◌∙◌, ap, arith, subst, IsTrue, ⊎_elim}
use Rattle.std.specs.Prelude.{Result, Ok, Err, None}
use Rattle.std.proofs.lemmas.Bool.{cases_lt}
use Rattle.site.specs.declared.outside.Dev.{Dev}
use Rattle.site.specs.declared.outside.Dev.TheVariants.{Log, Flash, Disk}
use Rattle.site.specs.declared.outside.Failed.{Failed as CallFailed}
use Rattle.site.specs.declared.outside.Stop.{Stop}
use Rattle.site.specs.declared.outside.Stop.TheVariants.{Device, Memory, Worn, Foreign}
use Rattle.site.specs.State.{State, Image, faults_of}
use Rattle.site.specs.Calls.{Preserves, IsUnchanged, Rose, SameReads}
use Rattle.site.proofs.Laws.{stays_honest, unchanged_devices, devices_in_sequence}
use Rattle.site.specs.Work.{IsOutside}
use Rattle.image_check.specs.declared.verdict.Verdict.{Verdict}
use Rattle.image_form.specs.declared.place.Place.TheVariants.{Lengths}
use Rattle.image_check.specs.declared.verdict.Verdict.TheVariants.{Sound, Unsound}
use Rattle.image_check.specs.Judgement.{IsVerdictOn}
use Rattle.image_form.specs.Verdict.{FailsFirst}
use Rattle.image_check.specs.Laws.{SoundFailsNone}
use Rattle.image_form.specs.Findings.{SizesAre}
use Rattle.front_end.specs.declared.halt.Halt.TheVariants as halt
use Rattle.front_end.specs.Faults.{FirstDecides, NoFaultRose, SameFaults}
use Rattle.image_form.specs.Counted.{ReadsBySizes}
use Rattle.image_check.specs.Deciding.{log_checked, pages_checked}
use Rattle.front_end.specs.Check.{AreSound, Check, CheckContract, FailsUnread, IsAnswer, SaysSound, SaysUnsound, unsound_line, verdict_line, verdict_status}
use Rattle.front_end.specs.Tells.{Tells}
use Rattle.front_end.specs.Texts.{fault_line, status_of}
use Rattle.front_end.specs.Refusals.{LacksMemory, OnlyTells, memory_fault}
use Rattle.front_end.proofs.Endings.{ends_with, only_tells}
use Rattle.front_end.proofs.Firsts.{first_done}
use Rattle.front_end.proofs.NewLaws.{moments}
use Rattle.image_check.proofs.Readings.{rule_past}

-- the line comes after calls that only read
pub checked : {T : Type 0} (old mid new : State) (line : List ℕ) (status : ℕ) (result : Result T CallFailed) → Preserves old mid → (IsTrue old.honest → IsUnchanged old mid) → Tells line mid new result
    → IsAnswer status line old new → (IsTrue old.honest → (status ≡ 0) ⊎ (status ≡ 11) → new.told ≡ mid.told ++ line) → Check old new status
checked old mid new line status result goes same tells answer whole = record {
  line = line;
  answer = answer;
  any_moment = λ honest. moments line old mid new (same honest) (tells.any_moment (stays_honest old mid goes honest));
  devices = λ honest. devices_in_sequence old mid new (unchanged_devices old mid (same honest)) (tells.devices (stays_honest old mid goes honest));
  ends = λ honest. ends_with old.told line old mid new result goes (stays_honest old mid goes honest) (same honest).told tells;
  whole = λ honest done. whole honest done ∙ ap (λ (t : List ℕ). t ++ line) (same honest).told;
}

-- The rule that fails is one of the twelve.

numbered : (i : ℕ) (image : Image) → FailsFirst i image → (1 ≤ i) × (i ≤ 12)
numbered zero image fails = absurd fails
numbered (suc zero) image fails = (omega arith, omega arith)
numbered (suc (suc zero)) image fails = (omega arith, omega arith)
numbered (suc (suc (suc i))) image fails =
    let k : ℕ = suc (suc (suc i)) in
    elim (cases_lt k 13) [
      | inl below ↦ (omega arith, omega (arith, below))
      | inr past ↦ absurd (fails.3 (rule_past k fails.0 image past))
    ]

-- What a verdict says.

says : (v : Verdict) (site : State) → (IsTrue site.honest → IsVerdictOn site.image v) → SaysSound (verdict_line v) site ⊎ SaysUnsound (verdict_line v) site
says (Sound records commits) site theirs = inl (record { records = records; commits = commits; line_is = refl; sound = theirs })
says (Unsound rule place) site theirs = inr (record { rule = rule; line_is = refl; fails = theirs; numbered = λ honest. numbered rule site.image (theirs honest) })

-- it is told
pub answer_told : (v : Verdict) (status : ℕ) (old new : State) → status ≡ verdict_status v → (IsTrue old.honest → IsVerdictOn old.image v) → IsAnswer status (verdict_line v) old new
answer_told (Sound records commits) status old new is theirs = record {
  sound = λ e. record { records = records; commits = commits; line_is = refl; sound = theirs };
  unsound = λ e. absurd (omega (arith, is, e));
  device = λ e. absurd (omega (arith, is, e));
  memory = λ e. absurd (omega (arith, is, e));
  output = λ e. absurd (omega (arith, is, e));
}
answer_told (Unsound rule place) status old new is theirs = record {
  sound = λ e. absurd (omega (arith, is, e));
  unsound = λ e. record { rule = rule; line_is = refl; fails = theirs; numbered = λ honest. numbered rule old.image (theirs honest) };
  device = λ e. absurd (omega (arith, is, e));
  memory = λ e. absurd (omega (arith, is, e));
  output = λ e. absurd (omega (arith, is, e));
}

-- it can't be told
pub answer_untold : (v : Verdict) (old new : State) → (IsTrue old.honest → IsVerdictOn old.image v) → Rose old.output_faults new.output_faults → IsAnswer 6 (verdict_line v) old new
answer_untold v old new theirs rose = record {
  sound = λ e. absurd (omega (arith, e));
  unsound = λ e. absurd (omega (arith, e));
  device = λ e. absurd (omega (arith, e));
  memory = λ e. absurd (omega (arith, e));
  output = λ e. (says v old theirs, rose);
}

-- a device failed, or memory was wanted
pub answer_stopped : (stop : Stop) (status : ℕ) (old new : State) → status ≡ status_of (halt.Stop stop) → IsOutside stop → ((dev : Dev) → stop ≡ Device dev → Rose (faults_of dev old) (faults_of dev new)) → IsAnswer status (fault_line (halt.Stop stop)) old new
answer_stopped (Device dev) status old new is outside rose = record {
  sound = λ e. absurd (omega (arith, is, e));
  unsound = λ e. absurd (omega (arith, is, e));
  device = λ e. (dev, refl, rose dev refl);
  memory = λ e. absurd (omega (arith, is, e));
  output = λ e. absurd (omega (arith, is, e));
}
answer_stopped Memory status old new is outside rose = record {
  sound = λ e. absurd (omega (arith, is, e));
  unsound = λ e. absurd (omega (arith, is, e));
  device = λ e. absurd (omega (arith, is, e));
  memory = λ e. refl;
  output = λ e. absurd (omega (arith, is, e));
}
answer_stopped (Worn dev) status old new is outside rose = absurd outside
answer_stopped Foreign status old new is outside rose = absurd outside

-- When each status comes.

abbrev pub Others : ℕ → Type 0
Others status = status ≡ 0 ⊎ (status ≡ 3 ⊎ (status ≡ 4 ⊎ (status ≡ 6 ⊎ status ≡ 11)))

pub told_others : (v : Verdict) (status : ℕ) → status ≡ verdict_status v → Others status
told_others (Sound records commits) status is = inl is
told_others (Unsound rule place) status is = inr (inr (inr (inr is)))

pub stopped_others : (stop : Stop) (status : ℕ) → status ≡ status_of (halt.Stop stop) → IsOutside stop → Others status
stopped_others (Device dev) status is outside = inr (inl is)
stopped_others Memory status is outside = inr (inr (inl is))
stopped_others (Worn dev) status is outside = absurd outside
stopped_others Foreign status is outside = absurd outside

not_sound_by : (status : ℕ) (line : List ℕ) (old new : State) → IsAnswer status line old new → Others status → IsTrue old.honest → ¬ (AreSound old.image) → (status ≡ 11) ⊎ ((status ≡ 3) ⊎ ((status ≡ 4) ⊎ (status ≡ 6)))
not_sound_by status line old new answer (inl is) honest none =
    let told = answer.sound is in
    absurd (none (told.records, told.commits, told.sound honest))
not_sound_by status line old new answer (inr (inl is)) honest none = inr (inl is)
not_sound_by status line old new answer (inr (inr (inl is))) honest none = inr (inr (inl is))
not_sound_by status line old new answer (inr (inr (inr (inl is)))) honest none = inr (inr (inr is))
not_sound_by status line old new answer (inr (inr (inr (inr is)))) honest none = inl is

complete_by : (status : ℕ) (line : List ℕ) (old new : State) → IsAnswer status line old new → Others status → NoFaultRose old new → (status ≡ 0) ⊎ ((status ≡ 11) ⊎ (status ≡ 4))
complete_by status line old new answer (inl is) none = inl is
complete_by status line old new answer (inr (inl is)) none = let why = answer.device is in absurd (none.devices why.0 why.2)
complete_by status line old new answer (inr (inr (inl is))) none = inr (inr is)
complete_by status line old new answer (inr (inr (inr (inl is)))) none = absurd (none.output (answer.output is).1)
complete_by status line old new answer (inr (inr (inr (inr is)))) none = inr (inl is)

-- the devices are read no more where nothing is told but text
pub looks_told : (old mid new : State) → ReadsBySizes log_checked pages_checked old mid → SameReads mid new → ReadsBySizes log_checked pages_checked old new
looks_told old mid new looks same = record {
  sizes = λ g has.
      let few = looks.sizes g has in
      let log = few.log in
      let pages = few.pages in
      let log' = same Log in
      let flash' = same Flash in
      let disk' = same Disk in
      record { log = omega (arith, log, log'); pages = omega (arith, pages, flash', disk') };
  none = λ off d. same d ∙ looks.none off d;
}

pub looks_none : (old : State) → ReadsBySizes log_checked pages_checked old old
looks_none old = record { sizes = λ g has. record { log = omega arith; pages = omega arith }; none = λ off d. refl }

pub contract : SoundFailsNone → (old new : State) (status : ℕ) → (does : Check old new status) → Others status → (SizesAre None old.image → FailsUnread old new status ⊎ LacksMemory status old new) → ((status ≡ 0) ⊎ (status ≡ 11) → SameFaults old new) → ReadsBySizes log_checked pages_checked old new → CheckContract old new status
contract fails_none old new status does others sizes faultless looks = record {
  looks = looks;
  does = does;
  causes = record {
    others = others;
    device = λ e. let why = does.answer.device e in (why.0, why.2);
    output = λ e. (does.answer.output e).1;
    unsound = λ honest e are.
        let told = does.answer.unsound e in
        fails_none old.image are.0 are.1 told.rule are.2 (told.fails honest);
    not_sound = not_sound_by status does.line old new does.answer others;
    sizes = sizes;
    complete = complete_by status does.line old new does.answer others;
    faultless = faultless;
  };
}

-- another status than 0 and 11
pub six_is_neither : (status : ℕ) → status ≡ 6 → (status ≡ 0) ⊎ (status ≡ 11) → ⊥
six_is_neither status is (inl e) = omega (arith, is, e)
six_is_neither status is (inr e) = omega (arith, is, e)

pub never_stopped : (stop : Stop) (status : ℕ) → status ≡ status_of (halt.Stop stop) → IsOutside stop → (status ≡ 0) ⊎ (status ≡ 11) → ⊥
never_stopped (Device dev) status is outside (inl e) = omega (arith, is, e)
never_stopped (Device dev) status is outside (inr e) = omega (arith, is, e)
never_stopped Memory status is outside (inl e) = omega (arith, is, e)
never_stopped Memory status is outside (inr e) = omega (arith, is, e)
never_stopped (Worn dev) status is outside done = absurd outside
never_stopped Foreign status is outside done = absurd outside

same_verdict : (judged : Result Verdict Stop) (a b : Verdict) → judged ≡ Ok a → judged ≡ Ok b → a ≡ b
same_verdict judged a b first second = cc

pub no_verdict : (judged : Result Verdict Stop) (stop : Stop) (v : Verdict) → judged ≡ Err stop → judged ≡ Ok v → ⊥
no_verdict judged stop v first second = cc

-- devices without sizes: nothing was done before their line is told
pub fails_unread : {T : Type 0} (judged : Result Verdict Stop) (v : Verdict) (old mid new : State) (status : ℕ) (result : Result T CallFailed) → judged ≡ Ok v → (judged ≡ Ok (Unsound 1 Lengths)) × (mid ≡ old) → (status ≡ verdict_status v) ⊎ (status ≡ 6) → Tells (verdict_line v) mid new result → FailsUnread old new status
fails_unread judged v old mid new status result found unread is tells =
    let first : v ≡ Unsound 1 Lengths = same_verdict judged v (Unsound 1 Lengths) found unread.0 in
    record {
      is = ⊎_elim (λ e. inl (e ∙ ap verdict_status first)) (λ e. inr e) is;
      tells = subst (λ (m : State). OnlyTells (unsound_line 1) m new) unread.1 (subst (λ (w : Verdict). OnlyTells (verdict_line w) mid new) first (only_tells (verdict_line v) mid new result tells));
    }

-- the first event is that the verdict is told
pub first_verdict : (v : Verdict) (status : ℕ) (old new : State) → status ≡ verdict_status v → SameFaults old new → FirstDecides status old new
first_verdict (Sound records commits) status old new is same = first_done status old new (λ e. omega (arith, is, e), λ e. omega (arith, is, e), λ e. omega (arith, is, e)) same
first_verdict (Unsound rule place) status old new is same = first_done status old new (λ e. omega (arith, is, e), λ e. omega (arith, is, e), λ e. omega (arith, is, e)) same

-- memory was wanted before anything was done
pub lacked_check : (status : ℕ) (old new : State) → LacksMemory status old new → CheckContract old new status
lacked_check status old new l =
    let is : status ≡ 4 = l.0 in
    let answer : IsAnswer status memory_fault old new = record {
      sound = λ e. absurd (omega (arith, is, e));
      unsound = λ e. absurd (omega (arith, is, e));
      device = λ e. absurd (omega (arith, is, e));
      memory = λ e. refl;
      output = λ e. absurd (omega (arith, is, e));
    } in
    record {
      looks = looks_told old old new (looks_none old) l.1.reads;
      does = record {
        line = memory_fault;
        answer = answer;
        any_moment = l.1.any_moment;
        devices = l.1.devices;
        ends = l.1.ends;
        whole = λ honest done. absurd (neither done is);
      };
      causes = record {
        others = inr (inr (inl is));
        device = λ e. absurd (omega (arith, is, e));
        output = λ e. absurd (omega (arith, is, e));
        unsound = λ honest e are. omega (arith, is, e);
        not_sound = λ honest none. inr (inr (inl is));
        sizes = λ none. inr l;
        complete = λ none. inr (inr is);
        faultless = λ done. absurd (neither done is);
      };
    }
  where
    neither : {n : ℕ} → (n ≡ 0) ⊎ (n ≡ 11) → n ≡ 4 → ⊥
    neither (inl e) is = omega (arith, e, is)
    neither (inr e) is = omega (arith, e, is)
