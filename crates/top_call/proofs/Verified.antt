-- The word `verify`: its first failed call decides its status; and memory was wanted before anything was done.
use Rattle.std.proofs.Common.{◌≡◌, ◌⊎◌, inl, inr, refl, sym, arith, ℕ, ap, ◌∙◌, [], ◌++◌, append-nil}
use Rattle.site.specs.State.{State, Input}
use Rattle.site.specs.Faults.{faults_in}
use Rattle.stream_report.specs.Contract.{FirstFails, VerifyContract}
use Rattle.front_end.specs.Faults.{AfterFirst, FirstDecides}
use Rattle.front_end.specs.Refusals.{LacksMemory, memory_fault}

abbrev Others : ℕ → Type 0
Others status = (status ≡ 0) ⊎ ((status ≡ 4) ⊎ ((status ≡ 5) ⊎ ((status ≡ 6) ⊎ ((status ≡ 7) ⊎ (status ≡ 13)))))

pub first_verified : (status : ℕ) (old new : State) → FirstFails status old new → Others status → FirstDecides status old new
first_verified status old new fails others = record { after = fails.after; first = by others; line = fails.line }
  where
    by : Others status → AfterFirst status (faults_in old) fails.after
    by (inl is) = inr (inr (inr (λ e. omega (arith, is, e), λ e. omega (arith, is, e), λ e. omega (arith, is, e), fails.none (inl is))))
    by (inr (inl is)) = inr (inr (inr (λ e. omega (arith, is, e), λ e. omega (arith, is, e), λ e. omega (arith, is, e), fails.none (inr (inl is)))))
    by (inr (inr (inl is))) = inr (inl (is, fails.input is))
    by (inr (inr (inr (inl is)))) = inr (inr (inl (is, fails.output is)))
    by (inr (inr (inr (inr (inl is))))) = inr (inr (inr (λ e. omega (arith, is, e), λ e. omega (arith, is, e), λ e. omega (arith, is, e), fails.none (inr (inr (inl is))))))
    by (inr (inr (inr (inr (inr is))))) = inr (inr (inr (λ e. omega (arith, is, e), λ e. omega (arith, is, e), λ e. omega (arith, is, e), fails.none (inr (inr (inr is))))))

-- none of its statuses is that of wrong words
pub never_two : (status : ℕ) → Others status → status ≡ 2 → ⊥
never_two status (inl is) two = omega (arith, is, two)
never_two status (inr (inl is)) two = omega (arith, is, two)
never_two status (inr (inr (inl is))) two = omega (arith, is, two)
never_two status (inr (inr (inr (inl is)))) two = omega (arith, is, two)
never_two status (inr (inr (inr (inr (inl is))))) two = omega (arith, is, two)
never_two status (inr (inr (inr (inr (inr is))))) two = omega (arith, is, two)

pub lacked_verify : (pages status : ℕ) (old new : State) → LacksMemory status old new → VerifyContract pages old new status
lacked_verify pages status old new l =
    let is : status ≡ 4 = l.0 in
    record {
      text = memory_fault;
      answer = λ honest. inr (inr (inr (inr (is, refl))));
      any_moment = l.1.any_moment;
      whole = λ honest none. (let ends = l.1.ends honest in ends.told ∙ ap (λ x. old.told ++ x) (ends.whole none));
      done = λ honest zero. absurd (omega (arith, is, zero));
      bad = λ honest number wrong. inr (inl is);
      archive = λ honest count archive. inr (inl is);
      others = inr (inl is);
      input = λ e. absurd (omega (arith, is, e));
      output = λ e. absurd (omega (arith, is, e));
      reads = λ honest. l.1.reads;
      asks = λ honest. record { takes = []; are = ap (λ (x : Input). x.takes) (l.1.devices honest).left ∙ sym (append-nil old.input.takes); each = tt };
    }
