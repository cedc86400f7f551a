-- Calls of a database, one after the other.
use Rattle.std.proofs.Common.{◌≡◌, ℕ, ◌+◌, List, [], ◌∷◌, ◌++◌, arith}
use Rattle.std.specs.Prelude.{Result, if◌then◌else◌}
use Rattle.record_model.specs.declared.words.Command.{Command}
use Rattle.record_model.specs.declared.words.Reply.{Reply}
use Rattle.database.specs.declared.unanswered.Unanswered.{Unanswered}
use Rattle.database.specs.Held.{Held}
use Rattle.database.specs.Serving.{Serves}
use Rattle.site.proofs.Laws.{leaves_weaker}
use Rattle.database.specs.Course.{Call, CallsAreDurable, LeavesCommits, may_commit, may_commit_in, run_of}
use Rattle.database.proofs.Following.{one_call, calls_then}
use Rattle.account_book.specs.Payments.{MakesCalls, MakesOneCommit}

both : (first later : List Call) → may_commit_in (first ++ later) ≡ may_commit_in first + may_commit_in later
both [] later = omega arith
both (call ∷ first) later = let rest = both first later in omega (arith, rest)

pub one : {command : Command} {answer : Result Reply Unanswered} {before now : Held} → Serves command answer before now → MakesCalls (if may_commit command then 1 else 0) before now
one {command} {answer} {before} {now} serves = record {
  calls = record { command = command; answer = answer; before = before; after = now } ∷ [];
  follow = one_call command answer before now serves;
  few = omega arith;
}

pub and_then : {n m : ℕ} {before between now : Held} → MakesCalls n before between → MakesCalls m between now → MakesCalls (n + m) before now
and_then {before = before} {between = between} {now = now} first later = record {
  calls = first.calls ++ later.calls;
  follow = calls_then first.calls later.calls before between now first.follow later.follow;
  few = let a = first.few in let b = later.few in let sum = both first.calls later.calls in omega (arith, a, b, sum);
}

-- what the law on calls says of these
pub one_commit : CallsAreDurable → {before now : Held} → MakesCalls 1 before now → MakesOneCommit before now
one_commit law {before} {now} made = record {
  made = made;
  any_moment = λ g s stands. let all = law g s before now made.calls stands made.follow in
      leaves_weaker before.site now.site _ (LeavesCommits g s (run_of s made.calls) 0 1 before.site.told)
      (λ snapshot left. record {
        count = left.count;
        at_least = left.at_least;
        at_most = (let high = left.at_most in let most = all.few in let few = made.few in omega (arith, high, most, few));
        stands = left.stands;
        told = left.told;
      }) all.whole;
}

pub no_more : {before now : Held} → MakesCalls 0 before now → MakesCalls 1 before now
no_more made = record { calls = made.calls; follow = made.follow; few = let few = made.few in omega (arith, few) }
