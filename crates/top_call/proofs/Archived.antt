-- An archive: its first failed call decides its status; and memory was wanted before anything was done.
use Rattle.std.proofs.Common.{◌≡◌, ◌⊎◌, inl, inr, refl, arith, ℕ, []}
use Rattle.site.specs.State.{State, Moment}
use Rattle.site.specs.declared.outside.Dev.TheVariants.{Log}
use Rattle.site.specs.Faults.{faults_in}
use Rattle.site.specs.Telling.{TellsPart}
use Rattle.site.proofs.Laws.{each_weaker}
use Rattle.archive_report.specs.Contract.{ArchiveContract, FirstFails}
use Rattle.archive_report.specs.Telling.{TellsSynced}
use Rattle.front_end.specs.Faults.{AfterFirst, FirstDecides}
use Rattle.front_end.specs.Refusals.{LacksMemory, memory_fault}

abbrev Others : ℕ → Type 0
Others status = (status ≡ 0) ⊎ ((status ≡ 3) ⊎ ((status ≡ 4) ⊎ ((status ≡ 6) ⊎ ((status ≡ 9) ⊎ (status ≡ 12)))))

pub first_archived : (status : ℕ) (old new : State) → FirstFails status old new → Others status → FirstDecides status old new
first_archived status old new fails others = record { after = fails.after; first = by others; line = fails.line }
  where
    by : Others status → AfterFirst status (faults_in old) fails.after
    by (inl is) = inr (inr (inr (λ e. omega (arith, is, e), λ e. omega (arith, is, e), λ e. omega (arith, is, e), fails.none (inl is))))
    by (inr (inl is)) = inl (is, Log, fails.log is)
    by (inr (inr (inl is))) = inr (inr (inr (λ e. omega (arith, is, e), λ e. omega (arith, is, e), λ e. omega (arith, is, e), fails.none (inr (inl is)))))
    by (inr (inr (inr (inl is)))) = inr (inr (inl (is, fails.output is)))
    by (inr (inr (inr (inr (inl is))))) = inr (inr (inr (λ e. omega (arith, is, e), λ e. omega (arith, is, e), λ e. omega (arith, is, e), fails.none (inr (inr (inl is))))))
    by (inr (inr (inr (inr (inr is))))) = inr (inr (inr (λ e. omega (arith, is, e), λ e. omega (arith, is, e), λ e. omega (arith, is, e), fails.none (inr (inr (inr is))))))

-- none of its statuses is that of wrong words
pub not_two : (status : ℕ) → Others status → status ≡ 2 → ⊥
not_two status (inl is) two = omega (arith, is, two)
not_two status (inr (inl is)) two = omega (arith, is, two)
not_two status (inr (inr (inl is))) two = omega (arith, is, two)
not_two status (inr (inr (inr (inl is)))) two = omega (arith, is, two)
not_two status (inr (inr (inr (inr (inl is))))) two = omega (arith, is, two)
not_two status (inr (inr (inr (inr (inr is))))) two = omega (arith, is, two)

pub lacked_archive : (from status : ℕ) (old new : State) → LacksMemory status old new → ArchiveContract from old new status
lacked_archive from status old new l =
    let is : status ≡ 4 = l.0 in
    record {
      does = λ honest.
          let ends = l.1.ends honest in
          record {
            done = [];
            rest = [];
            right = inl refl;
            fault = memory_fault;
            fault_is = record { log = λ e. absurd (omega (arith, is, e)); memory = λ e. refl; foreign = λ e. absurd (omega (arith, is, e)); none = λ e. absurd (never e is) };
            any_moment = each_weaker old new (TellsPart memory_fault old) (TellsSynced memory_fault memory_fault old) (λ (m : Moment) part. inl part) (l.1.any_moment honest);
            image = (l.1.devices honest).image;
            left = (l.1.devices honest).left;
            part = ends.part;
            told = ends.told;
            whole = ends.whole;
            all = λ done. absurd (neither done is);
          };
      causes = record {
        others = inr (inr (inl is));
        log = λ e. absurd (omega (arith, is, e));
        output = λ e. absurd (omega (arith, is, e));
        foreign = λ honest e. absurd (omega (arith, is, e));
        no_log = λ honest none. inr (inr is);
        sizes = λ none. inr is;
      };
    }
  where
    neither : {n : ℕ} → (n ≡ 0) ⊎ (n ≡ 12) → n ≡ 4 → ⊥
    neither (inl e) is = omega (arith, e, is)
    neither (inr e) is = omega (arith, e, is)

    never : {n : ℕ} → (n ≡ 0) ⊎ ((n ≡ 6) ⊎ (n ≡ 12)) → n ≡ 4 → ⊥
    never (inl e) is = omega (arith, e, is)
    never (inr (inl e)) is = omega (arith, e, is)
    never (inr (inr e)) is = omega (arith, e, is)
