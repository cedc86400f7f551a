-- A write, by what the test of its page gives.
use Rattle.engine.proofs.Names.{◌≡◌, ℕ, ◌+◌, ◌/◌, ◌≤◌, List, [], ◌∷◌, ◌++◌, Option, Some, None, refl, sym, subst, arith, none-some, Result, IfOk, CommandContract, CommandEffect, sizes_of, LeavesEither, full_for, tested, touches_by, work_by, write_by, with_write, Engine, PageStore, Content, State, content_at, seen, wants_page_room, making, committed, Set, Reply, StepsMachine, one_change, one_touch, reads, begins, changes, commits, writes, RingOp, Site, Snapshot, Stop}
use Rattle.record_model.specs.declared.words.Command.TheVariants.{Write}
use Rattle.record_model.specs.declared.words.Reply.TheVariants as reply

-- A session's.

module _ (s : State) (n number : ℕ) where
  pub no_fewer : (after : Content) → s.made ≤ (tested s (write_by n number after) (full_for s number after)).after.made
  no_fewer None = omega arith
  no_fewer (Some value) = by (wants_page_room s number value)
    where
      by : (o : Option Reply) → s.made ≤ (tested s (Write n number value) o).after.made
      by None = omega arith
      by (Some full) = omega arith

  pub asks_either : {T : Type 0} {r : Result T Stop} {old new : PageStore} {before now : Site} → StepsMachine r (one_touch (number / 32)) old new before now → StepsMachine r (one_change (number / 32)) old new before now → (after : Content) →
      StepsMachine r (touches_by s (write_by n number after) (full_for s number after)) old new before now
  asks_either touch change None = change
  asks_either {T = T} {r = r} {old = old} {new = new} {before = before} {now = now} touch change (Some value) = by (wants_page_room s number value)
    where
      by : (o : Option Reply) → StepsMachine r (touches_by s (Write n number value) o) old new before now
      by None = change
      by (Some full) = touch

  -- the page is read first
  pub reads_first : (after : Content) → (rest : List RingOp) × (work_by s (write_by n number after) (full_for s number after) ≡ reads number ++ rest)
  reads_first None = (changes number (seen s n number) None, refl)
  reads_first (Some value) = by (wants_page_room s number value)
    where
      by : (o : Option Reply) → (rest : List RingOp) × (work_by s (Write n number value) o ≡ reads number ++ rest)
      by None = (changes number (seen s n number) (Some value), refl)
      by (Some full) = ([], refl)

  -- there is room
  pub contract_written : {r : Result Reply Stop} {old new : Engine} {before now : Site} {P : Snapshot → Type 0} {m : ℕ} → (after : Content) → full_for s number after ≡ None → IfOk r (λ x. x ≡ reply.Done) → StepsMachine r (one_change (number / 32)) old.store.pages new.store.pages before now →
      CommandEffect r old new before now s (with_write s n (number, after)) P m → CommandContract r old new before now s (tested s (write_by n number after) (full_for s number after)) (touches_by s (write_by n number after) (full_for s number after)) P m
  contract_written None has done asks does = record { reply = done; asks = asks; does = does }
  contract_written {r = r} {old = old} {new = new} {before = before} {now = now} {P = P} {m = m} (Some value) has done asks does =
      subst (λ (o : Option Reply). CommandContract r old new before now s (tested s (Write n number value) o) (touches_by s (Write n number value) o) P m) (sym has) (record { reply = done; asks = asks; does = does })

  pub work_written : (after : Content) → full_for s number after ≡ None → work_by s (write_by n number after) (full_for s number after) ≡ writes number (seen s n number) after
  work_written None has = refl
  work_written (Some value) has = λ i. work_by s (Write n number value) (has i)

  -- there is none
  pub contract_refused : {r : Result Reply Stop} {old new : Engine} {before now : Site} {P : Snapshot → Type 0} {m : ℕ} → (after : Content) (full : Reply) → full_for s number after ≡ Some full → IfOk r (λ x. x ≡ full) → StepsMachine r (one_touch (number / 32)) old.store.pages new.store.pages before now →
      CommandEffect r old new before now s s P m → CommandContract r old new before now s (tested s (write_by n number after) (full_for s number after)) (touches_by s (write_by n number after) (full_for s number after)) P m
  contract_refused None full never reply asks does = absurd (none-some full never)
  contract_refused {r = r} {old = old} {new = new} {before = before} {now = now} {P = P} {m = m} (Some value) full is reply asks does =
      subst (λ (o : Option Reply). CommandContract r old new before now s (tested s (Write n number value) o) (touches_by s (Write n number value) o) P m) (sym is) (record { reply = reply; asks = asks; does = does })

  pub work_refused : (after : Content) (full : Reply) → full_for s number after ≡ Some full → work_by s (write_by n number after) (full_for s number after) ≡ reads number
  work_refused None full never = absurd (none-some full never)
  work_refused (Some value) full is = λ i. work_by s (Write n number value) (is i)

-- One outside sessions.

module _ (s : State) (number : ℕ) (value : List ℕ) where
  pub none_fewer : (o : Option Reply) → s.made ≤ (tested s (Set number value) o).after.made
  none_fewer None = omega arith
  none_fewer (Some full) = omega arith

  pub sets_either : {T : Type 0} {r : Result T Stop} {old new : PageStore} {before now : Site} → StepsMachine r (one_touch (number / 32)) old new before now → StepsMachine r (one_change (number / 32)) old new before now → (o : Option Reply) → StepsMachine r (touches_by s (Set number value) o) old new before now
  sets_either touch change None = change
  sets_either touch change (Some full) = touch

  pub set_reads_first : (o : Option Reply) → (rest : List RingOp) × (work_by s (Set number value) o ≡ reads number ++ rest)
  set_reads_first None = (begins ++ changes number (content_at s.table number) (Some value) ++ commits, refl)
  set_reads_first (Some full) = ([], refl)

  pub set_written : {r : Result Reply Stop} {old new : Engine} {before now : Site} {m : ℕ} {x : Content} → (o : Option Reply) → o ≡ None → x ≡ Some value → IfOk r (λ y. y ≡ reply.Committed (s.commits + 1)) → StepsMachine r (one_change (number / 32)) old.store.pages new.store.pages before now →
      CommandEffect r old new before now s (making 3 (committed s ((number, x) ∷ []))) (LeavesEither (sizes_of old.store) s (making 3 (committed s ((number, x) ∷ []))) before.told) m →
      CommandContract r old new before now s (tested s (Set number value) o) (touches_by s (Set number value) o) (LeavesEither (sizes_of old.store) s (tested s (Set number value) o).after before.told) m
  set_written {r = r} {old = old} {new = new} {before = before} {now = now} {m = m} o has is done asks does =
      subst (λ (p : Option Reply). CommandContract r old new before now s (tested s (Set number value) p) (touches_by s (Set number value) p) (LeavesEither (sizes_of old.store) s (tested s (Set number value) p).after before.told) m) (sym has) (record {
        reply = done;
        asks = asks;
        does = subst (λ (c : Content). CommandEffect r old new before now s (making 3 (committed s ((number, c) ∷ []))) (LeavesEither (sizes_of old.store) s (making 3 (committed s ((number, c) ∷ []))) before.told) m) is does;
      })

  pub set_refused : {r : Result Reply Stop} {old new : Engine} {before now : Site} {m : ℕ} → (o : Option Reply) (full : Reply) → o ≡ Some full → IfOk r (λ y. y ≡ full) → StepsMachine r (one_touch (number / 32)) old.store.pages new.store.pages before now →
      CommandEffect r old new before now s s (LeavesEither (sizes_of old.store) s s before.told) m → CommandContract r old new before now s (tested s (Set number value) o) (touches_by s (Set number value) o) (LeavesEither (sizes_of old.store) s (tested s (Set number value) o).after before.told) m
  set_refused {r = r} {old = old} {new = new} {before = before} {now = now} {m = m} o full is reply asks does =
      subst (λ (p : Option Reply). CommandContract r old new before now s (tested s (Set number value) p) (touches_by s (Set number value) p) (LeavesEither (sizes_of old.store) s (tested s (Set number value) p).after before.told) m) (sym is) (record { reply = reply; asks = asks; does = does })
