-- Calls of a store one after the other, each known by its record.
use Rattle.redo_undo.proofs.Names.{LeavesSome, settled, ◌≡◌, ◌+◌, ◌≤◌, List, refl, subst, ◌∙◌, arith, ℕ, Result, Ok, Err, OnOk, IsTrue, StandsFor, LeavesFor, Content, ends_answered, ends_behind, ends_failed, ends_leaving, ends_no_memory, leaves_late, skips_on, then_skips, skips_again, skips_answered, skips_refused, skips_weaker, sizes_of, MayWork, TransactionStore, holds_now, leaves_weaker, stays_honest, ok_as, calls_then, calls_answered, calls_failed, LeavesOnly, State as Site, Snapshot, Geometry, Stop, Memory}
use Rattle.redo_undo.proofs.NextUnits.{next_then, next_answered, next_failed, store_next}
use Rattle.redo_undo.specs.StoreCalls.{KeepsInvariant, Keeps}
use Rattle.redo_laws.specs.Calls as calls

-- Of a result.

pub where_two : {T E : Type 0} (A B C : Type 0) (result : Result T E) → OnOk result A → OnOk result B → (A → B → C) → OnOk result C
where_two A B C (Ok x) first second then = then first second
where_two A B C (Err e) first second then = tt

-- On every site.

pub works_then : {A B : Type 0} {a : A} {r : Result B Stop} {old mid new : TransactionStore} {before between now : Site} {n n' : ℕ} →
    KeepsInvariant {T = A} (Ok a) old mid before between n → KeepsInvariant r mid new between now n' → KeepsInvariant r old new before now (n + n')
works_then {r = r} {old = old} {new = new} {before = before} {between = between} {n = n} {n' = n'} first second = grind (arith, calls_then, next_then, stays_honest, ok_as)

pub works_answered : {A B : Type 0} {a : A} {b : B} {old new : TransactionStore} {before now : Site} {n : ℕ} → KeepsInvariant {T = A} (Ok a) old new before now n → KeepsInvariant {T = B} (Ok b) old new before now n
works_answered first = record { calls = calls_answered first.calls; going = first.going; next = λ honest. next_answered (first.next honest); made = first.made; blocks = first.blocks; rises = first.rises; kept = first.kept; sizes = first.sizes; stops = tt }

pub works_failed : {A B : Type 0} {stop : Stop} {old new : TransactionStore} {before now : Site} {n k : ℕ} → KeepsInvariant {T = A} (Err stop) old new before now n → KeepsInvariant {T = B} (Err stop) old new before now k
works_failed first = record { calls = calls_failed first.calls; going = tt; next = λ honest. next_failed (first.next honest); made = tt; blocks = tt; rises = tt; kept = first.kept; sizes = first.sizes; stops = first.stops }

-- a call of log and pages that fails
pub works_at_error : {A B : Type 0} {stop : Stop} {old new : TransactionStore} {before now : Site} {n : ℕ} → MayWork old before → new.masters ≡ old.masters → calls.KeepsInvariant {T = A} (Err stop) old.log new.log old.pages new.pages before now → KeepsInvariant {T = B} (Err stop) old new before now n
works_at_error going masters works = grind (arith, calls_failed, next_failed, store_next)

-- On an honest site.

-- what log and pages keep, the store keeps, where what a crash leaves of it is what is asked
pub keeps_of : {T : Type 0} {r : Result T Stop} {old new : TransactionStore} {before now : Site} {P R : Snapshot → Type 0} {n m : ℕ} → (LeavesOnly before now P → LeavesOnly before now R) → calls.Keeps r (sizes_of old) old.log new.log before now P n m → Keeps r old new before now R n m
keeps_of more first = record { ends = ends_leaving more first.ends; numbers = first.numbers }

pub keeps_then : {A B : Type 0} {a : A} {r : Result B Stop} {old mid new : TransactionStore} {before between now : Site} {P Q R : Snapshot → Type 0} {i n m n' m' : ℕ} → IsTrue before.honest →
    ((s : Snapshot) → P s → R s) → (LeavesOnly before between P → (s : Snapshot) → Q s → R s) →
    KeepsInvariant {T = A} (Ok a) old mid before between i → Keeps {T = A} (Ok a) old mid before between P n m → Keeps r mid new between now Q n' m' → Keeps r old new before now R (n + n') (m + m')
keeps_then {a = a} {r = r} {old = old} {mid = mid} {new = new} {before = before} {between = between} {now = now} {P = P} {Q = Q} {R = R} {n = n} {m = m} {n' = n'} {m' = m'} honest early late works first second = record {
  ends = ends_behind (works.calls.stays_quiet honest) works.sizes (λ quiet. leaves_late early late (first.any_moment quiet)) second.ends;
  numbers = λ quiet. then_skips r a (sizes_of old) old.log mid.log new.log before between now n m n' m' (n + n') (m + m') (first.numbers quiet)
      (skips_on r (sizes_of mid) (sizes_of old) mid.log new.log between now n' m' works.sizes (second.numbers (works.calls.stays_quiet honest quiet))) (omega arith) refl;
}

-- the table stays as it was
pub keeps_both : {A B : Type 0} {a : A} {r : Result B Stop} {old mid new : TransactionStore} {before between now : Site} {table : List Content} {commits i n m n' m' : ℕ} → IsTrue before.honest →
    KeepsInvariant {T = A} (Ok a) old mid before between i → Keeps {T = A} (Ok a) old mid before between (LeavesFor (sizes_of old) table commits before.told) n m →
    Keeps r mid new between now (LeavesFor (sizes_of mid) table commits between.told) n' m' → Keeps r old new before now (LeavesFor (sizes_of old) table commits before.told) (n + n') (m + m')
keeps_both {old = old} {before = before} {between = between} {table = table} {commits = commits} honest works first second =
    keeps_then honest (λ s p. p) (λ begun s q. record {
      told = q.told ∙ (holds_now before between (LeavesFor (sizes_of old) table commits before.told) begun).told;
      stands = subst (λ (g : Geometry). StandsFor g s.image table commits) works.sizes q.stands;
    }) works first second

pub keeps_weaker : {T : Type 0} {r : Result T Stop} {old new : TransactionStore} {before now : Site} {P R : Snapshot → Type 0} {n m : ℕ} → ((s : Snapshot) → P s → R s) → Keeps r old new before now P n m → Keeps r old new before now R n m
keeps_weaker {before = before} {now = now} {P = P} {R = R} more first = record { ends = ends_leaving (leaves_weaker before now P R more) first.ends; numbers = first.numbers }

-- where no commit waits a crash leaves the table
pub keeps_settled : {T : Type 0} {r : Result T Stop} {old new : TransactionStore} {before now : Site} {g : Geometry} {table : List Content} {commits n m : ℕ} {so_far : List ℕ} → Keeps r old new before now (LeavesSome g (settled table commits) so_far) n m → Keeps r old new before now (LeavesFor g table commits so_far) n m
keeps_settled {g = g} {table = table} {commits = commits} kept = keeps_weaker (λ s left.
    let all : left.count ≡ commits = let least = left.from_floor in let most = left.within in omega (arith, least, most) in
    record { told = left.told; stands = subst (StandsFor g s.image table) all left.stands }) kept

pub keeps_before : {A B : Type 0} {stop : Stop} {old new : TransactionStore} {before now : Site} {P : Snapshot → Type 0} {n k m : ℕ} → n ≤ k → Keeps {T = A} (Err stop) old new before now P n m → Keeps {T = B} (Err stop) old new before now P k m
keeps_before {A = A} {B = B} {stop = stop} {old = old} {new = new} {before = before} {now = now} {n = n} {k = k} {m = m} few first = record {
  ends = ends_failed first.ends;
  numbers = λ quiet. skips_weaker {T = B} (Err stop) (sizes_of old) old.log new.log before now n k m few (skips_again {A = A} {B = B} stop (sizes_of old) old.log new.log before now n m (first.numbers quiet));
}

pub keeps_failed : {A B : Type 0} {stop : Stop} {old new : TransactionStore} {before now : Site} {P : Snapshot → Type 0} {n m : ℕ} → Keeps {T = A} (Err stop) old new before now P n m → Keeps {T = B} (Err stop) old new before now P n m
keeps_failed first = keeps_before (omega arith) first

pub keeps_answered : {A B : Type 0} {a : A} {b : B} {old new : TransactionStore} {before now : Site} {P : Snapshot → Type 0} {n m : ℕ} → Keeps {T = A} (Ok a) old new before now P n m → Keeps {T = B} (Ok b) old new before now P n m
keeps_answered {A = A} {B = B} {a = a} {b = b} {old = old} {new = new} {before = before} {now = now} {n = n} {m = m} first = grind (arith, ends_answered, skips_answered)

pub keeps_no_memory : {A B : Type 0} {a : A} {old new : TransactionStore} {before now : Site} {P : Snapshot → Type 0} {i n m : ℕ} → IsTrue before.honest → KeepsInvariant {T = A} (Ok a) old new before now i → Keeps {T = A} (Ok a) old new before now P n m → Keeps {T = B} (Err Memory) old new before now P n m
keeps_no_memory {A = A} {B = B} {a = a} {old = old} {new = new} {before = before} {now = now} {n = n} {m = m} honest works first = grind (arith, ends_no_memory, skips_refused)
