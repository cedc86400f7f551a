-- What comes of calls: first by lines, then by commits.
use Rattle.std.proofs.lemmas.Grind.{common_steps}
use Rattle.database.proofs.Names.{◌≡◌, ⊎_elim, ℕ, suc, ◌+◌, ◌≤◌, Bool, true, false, List, [], ◌∷◌, ◌++◌, length, map, Some, refl, sym, ap, subst, ◌∙◌, arith, if◌then◌else◌, Result, Ok, Err, OnOk, IfOk, Call, Follow, IsServed, begun, is_answer, is_commit, commits_in, commits_asked, lines_of, listings_of, run_of, may_commit, may_commit_in, AreAnswers, LeavesCommits, IsDurable, CallsAreDurable, Held, StandsFor, answered, has_stopped, IsAnswered, Unanswered, Invariant, LeavesEither, listing_of, Matches, commits_make_the_table, turns_are_run, IsCountedAt, Turn, replies, state_at, turns, is_cache, is_committed, commit_marks, commits_among, after_commits, Content, State, CacheLine, Reply, stands_there, holds_now, in_sequence, image_is, leaves_weaker, no_call, told_is, ok_as, Leaves, LeavesOnly, Image, Snapshot, MayLeave, IsQuiet, now_of, Geometry, Stop, on_ok}
use Rattle.std.specs.List.{AllByRecursion}
use Rattle.record_model.proofs.StepLaws.{commits_once}
use Rattle.record_model.proofs.SerialOrder.{serial_order}
use Rattle.engine.specs.Image.{Stands}
use Rattle.database.specs.declared.unanswered.Unanswered.TheVariants.{Closed}
use Rattle.database.proofs.Lines.{counts_few, turn_of, run_cons, rises, rises_by_one}

-- the devices have the table and the count of a state
abbrev Has : Geometry → State → Image → Type 0
Has g s image = Stands g image s.table s.commits

-- An answer, by the engine's.

ok_answered : (r : Result Reply Stop) (P : Type 0) → OnOk r P → OnOk (answered r) P
ok_answered (Ok reply) P p = p
ok_answered (Err stop) P p = tt

not_answered : (a : Result Reply Unanswered) → a ≡ Err Closed → (P : Type 0) → OnOk a P
not_answered a is P = subst (λ (x : Result Reply Unanswered). OnOk x P) (sym is) tt

ok_all : {T E : Type 0} (r : Result T E) (P Q R S : Type 0) → (P → Q → R → S) → OnOk r P → OnOk r Q → OnOk r R → OnOk r S
ok_all (Ok x) P Q R S f p q o = f p q o
ok_all (Err e) P Q R S f p q o = tt

add_one : (n : ℕ) → suc n ≡ n + 1
add_one n = omega arith

-- A database that is closed stays as it is.

closed_at : (earlier later : List Call) (call : Call) (db now : Held) → db.closed ≡ true → Follow db (earlier ++ call ∷ later) now → (call.before ≡ db) × (call.after ≡ db) × (call.answer ≡ Err Closed) × (commits_in earlier ≡ 0)
closed_at [] later call db now closed follow = grind (arith, common_steps)
closed_at (first ∷ earlier) later call db now closed follow = grind (arith, common_steps, (closed_at earlier later call first.after now))

closed_all : (calls : List Call) (db now : Held) → db.closed ≡ true → Follow db calls now → AllByRecursion (λ answer. answer ≡ Err Closed) (map (λ call. call.answer) calls)
closed_all [] db now closed follow = tt
closed_all (call ∷ calls) db now closed follow = grind (arith, common_steps, (closed_all calls call.after now))

-- By lines.

-- the devices have the table after so many lines of a run
record LeavesLines (g : Geometry) (s : State) (run : List Turn) (least most : ℕ) (so_far : List ℕ) (snapshot : Snapshot) : Type 0 where
  lines : ℕ
  at_least : least ≤ lines
  at_most : lines ≤ most
  stands : Has g (state_at run s lines) snapshot.image
  told : snapshot.told ≡ so_far

-- how many were answered, and how many begun
answered_in : List Call → ℕ
answered_in [] = 0
answered_in (call ∷ calls) = if is_answer call.answer then suc (answered_in calls) else 0

begun_in : List Call → ℕ
begun_in [] = 0
begun_in (call ∷ calls) = suc (if is_answer call.answer then begun_in calls else 0)

begun_are : (calls : List Call) → begun_in calls ≡ length (begun calls)
unfolding begun_in
begun_are [] = refl
begun_are (call ∷ calls) = grind (arith, common_steps, begun_in, (begun_are calls))

record IsByLines (g : Geometry) (s : State) (run : List Turn) (so_far : List ℕ) (earlier : List Call) (call : Call) : Type 0 where
  any_moment : LeavesOnly call.before.site call.after.site (LeavesLines g s run (answered_in earlier) (begun_in (earlier ++ call ∷ [])) so_far)
  few : begun_in (earlier ++ call ∷ []) ≤ answered_in earlier + 1
  commits : s.commits + commits_in earlier ≡ (state_at run s (answered_in earlier)).commits
  stands : OnOk call.answer (StandsFor g (state_at run s (suc (length earlier))) call.after)
  counts : OnOk call.answer (s.commits + commits_in (earlier ++ call ∷ []) ≡ (state_at run s (suc (length earlier))).commits)
  told : OnOk call.answer (call.after.site.told ≡ so_far)

-- one call of a database that stands for a state
module _ (g : Geometry) (s : State) (call : Call) (stands : StandsFor g s call.before) (serves : IsServed call) where
  said : IsAnswered call.command call.answer call.before call.after
  said = serves.answers stands.is_open

  abbrev after : State
  after = (turn_of s call).after

  moments : LeavesOnly call.before.site call.after.site (LeavesEither g s after call.before.site.told)
  moments = subst (λ (k : Geometry). LeavesOnly call.before.site call.after.site (LeavesEither k s after call.before.site.told)) stands.sizes ((said.answers s stands.fits).does.any_moment stands.quiet)

  told_stays : call.after.site.told ≡ call.before.site.told
  told_stays = (holds_now call.before.site call.after.site (LeavesEither g s after call.before.site.told) moments).told

  behind : OnOk said.result (StandsFor g after call.after)
  behind = by said.result said.closes said.keeps.going (said.answers s stands.fits).does.after_fits (said.keeps.calls.stays_quiet stands.fits.honest stands.quiet)
    where
      by : (r : Result Reply Stop) → call.after.closed ≡ has_stopped r → OnOk r (Invariant call.after.engine call.after.site) → OnOk r (Matches call.after.engine call.after.site after) → OnOk r (IsQuiet call.after.site) → OnOk r (StandsFor g after call.after)
      by (Ok reply) closes going fits quiet = record { is_open = closes; going = going; fits = fits; quiet = quiet; sizes = said.keeps.sizes ∙ stands.sizes }
      by (Err stop) closes going fits quiet = tt

  -- its commit is counted
  counted : OnOk said.result (s.commits + (if is_commit call.answer then 1 else 0) ≡ after.commits)
  counted = by said.result said.answer_is (said.answers s stands.fits).reply
    where
      listing : List CacheLine
      listing = if is_cache (Some call.command) then listing_of call.before.engine else []

      one : (b : Bool) → is_committed (turn_of s call).reply ≡ b → s.commits + (if b then 1 else 0) ≡ after.commits
      one true is = sym ((commits_once s (Some call.command) listing).committed is).1
      one false is = let same = ((commits_once s (Some call.command) listing).others is).1 in omega (arith, same)

      by : (r : Result Reply Stop) → call.answer ≡ answered r → IfOk r (λ reply. reply ≡ (turn_of s call).reply) → OnOk r (s.commits + (if is_commit call.answer then 1 else 0) ≡ after.commits)
      by (Ok reply) is same = ap (λ (a : Result Reply Unanswered). s.commits + (if is_commit a then 1 else 0)) is ∙ ap (λ (x : Reply). s.commits + (if is_committed x then 1 else 0)) same ∙ one (is_committed (turn_of s call).reply) refl
      by (Err stop) is same = tt

abbrev none_of : Bool → ℕ
none_of b = if b then 0 else 0

zero_or_zero : (b : Bool) → none_of b ≡ 0
zero_or_zero true = refl
zero_or_zero false = refl

-- what holds of a run holds of the equal one that a first call begins
begins : (s : State) (call : Call) (later : List Call) (b : Bool) → is_answer call.answer ≡ b → IsAnswered call.command call.answer call.before call.after → (P : List Turn → Type 0) → P (turn_of s call ∷ (if b then run_of (turn_of s call).after later else [])) →
    P (run_of s (call ∷ later))
begins s call later b is does P p = subst P (sym (run_cons s call later b is does.goes_on)) p

first_by_lines : (g : Geometry) (s : State) (call : Call) (later : List Call) (run : List Turn) → StandsFor g s call.before → IsServed call → IsByLines g s (turn_of s call ∷ run) call.before.site.told [] call
unfolding answered_in begun_in
first_by_lines g s call later run stands serves =
    let does = said g s call stands serves in
    record {
      any_moment = leaves_weaker call.before.site call.after.site (LeavesEither g s (after g s call stands serves) call.before.site.told) (LeavesLines g s (turn_of s call ∷ run) 0 (suc (if is_answer call.answer then 0 else 0)) call.before.site.told) (λ snapshot left. ⊎_elim
          (λ old. record { lines = 0; at_least = omega arith; at_most = omega arith; stands = old; told = left.told })
          (λ new. record { lines = 1; at_least = omega arith; at_most = omega arith; stands = new; told = left.told }) left.stands) (moments g s call stands serves);
      few = let none = zero_or_zero (is_answer call.answer) in omega (arith, none);
      commits = omega arith;
      stands = subst (λ (a : Result Reply Unanswered). OnOk a (StandsFor g (after g s call stands serves) call.after)) (sym does.answer_is) (ok_answered does.result _ (behind g s call stands serves));
      counts = subst (λ (a : Result Reply Unanswered). OnOk a (s.commits + ((if is_commit call.answer then 1 else 0) + 0) ≡ (after g s call stands serves).commits)) (sym does.answer_is)
          (ok_answered does.result _ (ok_as does.result _ _ (λ same. omega (arith, same)) (counted g s call stands serves)));
      told = on_ok call.answer _ (told_stays g s call stands serves);
    }

module _ (g : Geometry) (s : State) (first : Call) (earlier later : List Call) (call : Call) (now : Held) (stands : StandsFor g s first.before) (serves : IsServed first) (follow : Follow first.after (earlier ++ call ∷ later) now) where
  abbrev all : List Call
  all = earlier ++ call ∷ later

  -- the first one was answered
  goes_on : is_answer first.answer ≡ true → s.commits + (if is_commit first.answer then 1 else 0) ≡ (turn_of s first).after.commits →
      IsByLines g (turn_of s first).after (run_of (turn_of s first).after all) first.after.site.told earlier call → IsByLines g s (turn_of s first ∷ run_of (turn_of s first).after all) first.before.site.told (first ∷ earlier) call
  unfolding answered_in begun_in
  goes_on is more rest =
      let s' = (turn_of s first).after in
      let run = run_of s' all in
      let same : first.after.site.told ≡ first.before.site.told = told_stays g s first stands serves in
      let least : suc (answered_in earlier) ≡ answered_in (first ∷ earlier) = λ i. if sym is i then suc (answered_in earlier) else 0 in
      let most : suc (begun_in (earlier ++ call ∷ [])) ≡ begun_in (first ∷ (earlier ++ call ∷ [])) = λ i. suc (if sym is i then begun_in (earlier ++ call ∷ []) else 0) in
      record {
        any_moment = leaves_weaker call.before.site call.after.site (LeavesLines g s' run (answered_in earlier) (begun_in (earlier ++ call ∷ [])) first.after.site.told)
            (LeavesLines g s (turn_of s first ∷ run) (answered_in (first ∷ earlier)) (begun_in (first ∷ (earlier ++ call ∷ []))) first.before.site.told)
            (λ snapshot left. record {
              lines = suc left.lines;
              at_least = let low = left.at_least in omega (arith, low, least);
              at_most = let high = left.at_most in omega (arith, high, most);
              stands = left.stands;
              told = left.told ∙ same;
            }) rest.any_moment;
        few = let rest_few = rest.few in omega (arith, rest_few, least, most);
        commits = let count = rest.commits in
            (let own : s.commits + ((if is_commit first.answer then 1 else 0) + commits_in earlier) ≡ s'.commits + commits_in earlier = omega (arith, more) in
            own ∙ count ∙ ap (λ (n : ℕ). (state_at (turn_of s first ∷ run) s n).commits) least);
        stands = rest.stands;
        counts = ok_as call.answer _ _ (λ count. (let own : s.commits + ((if is_commit first.answer then 1 else 0) + commits_in (earlier ++ call ∷ [])) ≡ s'.commits + commits_in (earlier ++ call ∷ []) = omega (arith, more) in own ∙ count)) rest.counts;
        told = ok_as call.answer _ _ (λ own. own ∙ same) rest.told;
      }

  -- it stopped
  stays : is_answer first.answer ≡ false → is_commit first.answer ≡ false → first.after.closed ≡ true → IsByLines g s (turn_of s first ∷ []) first.before.site.told (first ∷ earlier) call
  unfolding answered_in begun_in
  stays is none closed =
      let still = closed_at earlier later call first.after now closed follow in
      let least : 0 ≡ answered_in (first ∷ earlier) = λ i. if sym is i then suc (answered_in earlier) else 0 in
      let most : 1 ≡ begun_in (first ∷ (earlier ++ call ∷ [])) = λ i. suc (if sym is i then begun_in (earlier ++ call ∷ []) else 0) in
      let P = LeavesLines g s (turn_of s first ∷ []) (answered_in (first ∷ earlier)) (begun_in (first ∷ (earlier ++ call ∷ []))) first.before.site.told in
      let left : Leaves P (now_of first.after.site) = λ snapshot may. (let either = (moments g s first stands serves).now snapshot may in ⊎_elim
      (λ old. record { lines = 0; at_least = omega (arith, least); at_most = omega (arith, most); stands = old; told = either.told })
      (λ new. record { lines = 1; at_least = omega (arith, least); at_most = omega (arith, most); stands = new; told = either.told }) either.stands) in
      record {
        any_moment = subst (λ (d : Held). LeavesOnly d.site call.after.site P) (sym still.0) (subst (λ (d : Held). LeavesOnly first.after.site d.site P) (sym still.1) (no_call first.after.site (Leaves P) left));
        few = omega (arith, least, most);
        commits = (let no_more : s.commits + ((if is_commit first.answer then 1 else 0) + commits_in earlier) ≡ s.commits = (λ i. s.commits + ((if none i then 1 else 0) + still.3 i)) ∙ omega arith in
            no_more ∙ ap (λ (n : ℕ). (state_at (turn_of s first ∷ []) s n).commits) least);
        stands = not_answered call.answer still.2 _;
        counts = not_answered call.answer still.2 _;
        told = not_answered call.answer still.2 _;
      }

  module _ (rest : StandsFor g (turn_of s first).after first.after → IsByLines g (turn_of s first).after (run_of (turn_of s first).after all) first.after.site.told earlier call) where
    by_answer : (r : Result Reply Stop) → first.answer ≡ answered r → first.after.closed ≡ has_stopped r → OnOk r (StandsFor g (turn_of s first).after first.after) → OnOk r (s.commits + (if is_commit first.answer then 1 else 0) ≡ (turn_of s first).after.commits) →
        IsByLines g s (run_of s (first ∷ all)) first.before.site.told (first ∷ earlier) call
    by_answer (Ok reply) is closes fits count =
        let yes : is_answer first.answer ≡ true = ap is_answer is in
        begins s first all true yes (said g s first stands serves) (λ run. IsByLines g s run first.before.site.told (first ∷ earlier) call) (goes_on yes count (rest fits))
    by_answer (Err stop) is closes fits count =
        let no : is_answer first.answer ≡ false = ap is_answer is in
        begins s first all false no (said g s first stands serves) (λ run. IsByLines g s run first.before.site.told (first ∷ earlier) call) (stays no (ap is_commit is) closes)

-- each call, with those before it
by_lines : (g : Geometry) (s : State) (earlier later : List Call) (call : Call) (before now : Held) → StandsFor g s before → Follow before (earlier ++ call ∷ later) now → IsByLines g s (run_of s (earlier ++ call ∷ later)) before.site.told earlier call
by_lines g s [] later call before now stands follow =
    let here = subst (StandsFor g s) (sym follow.0) stands in
    subst (λ (d : Held). IsByLines g s (run_of s (call ∷ later)) d.site.told [] call) follow.0
    (begins s call later (is_answer call.answer) refl (said g s call here follow.1) (λ run. IsByLines g s run call.before.site.told [] call) (first_by_lines g s call later _ here follow.1))
by_lines g s (first ∷ earlier) later call before now stands follow =
    let here = subst (StandsFor g s) (sym follow.0) stands in
    let does = said g s first here follow.1 in
    subst (λ (d : Held). IsByLines g s (run_of s (first ∷ (earlier ++ call ∷ later))) d.site.told (first ∷ earlier) call) follow.0
    (by_answer g s first earlier later call now here follow.1 follow.2 (λ behind. by_lines g (turn_of s first).after earlier later call first.after now behind follow.2)
    does.result does.answer_is does.closes (behind g s first here follow.1) (counted g s first here follow.1))

-- All of the calls.

closed_now : (calls : List Call) (db now : Held) → db.closed ≡ true → Follow db calls now → now ≡ db
closed_now [] db now closed follow = follow
closed_now (call ∷ calls) db now closed follow = grind (arith, common_steps, (closed_now calls call.after now))

-- what a database that stands for a state has, and what a crash leaves of it
has_state : (g : Geometry) (s : State) (db : Held) → StandsFor g s db → Has g s db.site.image
has_state g s db stands = subst (λ (k : Geometry). Has k s db.site.image) stands.sizes (record {
  newest = stands.fits.newest;
  stands = stands_there db.engine.store.log db.engine.store.pages db.site stands.fits.newest stands.fits.records s.table s.commits stands.going.store.both.sizes stands.fits.holds.both;
})

leaves_state : (g : Geometry) (s : State) (db : Held) → StandsFor g s db → (snapshot : Snapshot) → MayLeave (now_of db.site) snapshot → Has g s snapshot.image
leaves_state g s db stands snapshot left = subst (Has g s) (sym (image_is (now_of db.site) snapshot stands.quiet left)) (has_state g s db stands)

-- a crash meanwhile leaves some of the lines, and these count no more commits than the commands that may make one
record IsWhole (g : Geometry) (s : State) (run : List Turn) (calls : List Call) (before now : Held) : Type 0 where
  any_moment : LeavesOnly before.site now.site (LeavesLines g s run 0 (begun_in calls) before.site.told)
  few : (state_at run s (begun_in calls)).commits ≤ s.commits + may_commit_in calls

module _ (g : Geometry) (s : State) (first : Call) (calls : List Call) (now : Held) (stands : StandsFor g s first.before) (serves : IsServed first) where
  -- the first call, as one of all
  begins_whole : (run : List Turn) → LeavesOnly first.before.site first.after.site (LeavesLines g s (turn_of s first ∷ run) 0 (begun_in (first ∷ calls)) first.before.site.told)
  unfolding begun_in
  begins_whole run = leaves_weaker first.before.site first.after.site (LeavesEither g s (after g s first stands serves) first.before.site.told) (LeavesLines g s (turn_of s first ∷ run) 0 (begun_in (first ∷ calls)) first.before.site.told)
      (λ snapshot left. ⊎_elim
      (λ old. record { lines = 0; at_least = omega arith; at_most = omega arith; stands = old; told = left.told })
      (λ new. record { lines = 1; at_least = omega arith; at_most = omega arith; stands = new; told = left.told }) left.stands) (moments g s first stands serves)

  whole_on : is_answer first.answer ≡ true → IsWhole g (turn_of s first).after (run_of (turn_of s first).after calls) calls first.after now → IsWhole g s (turn_of s first ∷ run_of (turn_of s first).after calls) (first ∷ calls) first.before now
  unfolding begun_in
  whole_on is rest =
      let s' = (turn_of s first).after in
      let run = run_of s' calls in
      let most : suc (begun_in calls) ≡ begun_in (first ∷ calls) = λ i. suc (if sym is i then begun_in calls else 0) in
      record {
        any_moment = in_sequence first.before.site first.after.site now.site (Leaves (LeavesLines g s (turn_of s first ∷ run) 0 (begun_in (first ∷ calls)) first.before.site.told)) (begins_whole run)
            (leaves_weaker first.after.site now.site (LeavesLines g s' run 0 (begun_in calls) first.after.site.told) (LeavesLines g s (turn_of s first ∷ run) 0 (begun_in (first ∷ calls)) first.before.site.told)
            (λ snapshot left. record {
              lines = suc left.lines;
              at_least = omega arith;
              at_most = let high = left.at_most in omega (arith, high, most);
              stands = left.stands;
              told = left.told ∙ told_stays g s first stands serves;
            }) rest.any_moment);
        few = (let own = counts_few s first in let more = rest.few in
            let all : (state_at run s' (begun_in calls)).commits ≤ s.commits + ((if may_commit first.command then 1 else 0) + may_commit_in calls) = omega (arith, own, more) in
            subst (λ (n : ℕ). (state_at (turn_of s first ∷ run) s n).commits ≤ s.commits + may_commit_in (first ∷ calls)) most all);
      }

  whole_stops : is_answer first.answer ≡ false → now ≡ first.after → IsWhole g s (turn_of s first ∷ []) (first ∷ calls) first.before now
  unfolding begun_in
  whole_stops is same =
      let most : 1 ≡ begun_in (first ∷ calls) = λ i. suc (if sym is i then begun_in calls else 0) in
      record {
        any_moment = subst (λ (d : Held). LeavesOnly first.before.site d.site (LeavesLines g s (turn_of s first ∷ []) 0 (begun_in (first ∷ calls)) first.before.site.told)) (sym same) (begins_whole []);
        few = (let own = counts_few s first in
            let all : (turn_of s first).after.commits ≤ s.commits + ((if may_commit first.command then 1 else 0) + may_commit_in calls) = omega (arith, own) in
            subst (λ (n : ℕ). (state_at (turn_of s first ∷ []) s n).commits ≤ s.commits + may_commit_in (first ∷ calls)) most all);
      }

  module _ (follow : Follow first.after calls now) (rest : StandsFor g (turn_of s first).after first.after → IsWhole g (turn_of s first).after (run_of (turn_of s first).after calls) calls first.after now) where
    whole_by : (r : Result Reply Stop) → first.answer ≡ answered r → first.after.closed ≡ has_stopped r → OnOk r (StandsFor g (turn_of s first).after first.after) → IsWhole g s (run_of s (first ∷ calls)) (first ∷ calls) first.before now
    whole_by (Ok reply) is closes fits =
        let yes : is_answer first.answer ≡ true = ap is_answer is in
        begins s first calls true yes (said g s first stands serves) (λ run. IsWhole g s run (first ∷ calls) first.before now) (whole_on yes (rest fits))
    whole_by (Err stop) is closes fits =
        let no : is_answer first.answer ≡ false = ap is_answer is in
        begins s first calls false no (said g s first stands serves) (λ run. IsWhole g s run (first ∷ calls) first.before now) (whole_stops no (closed_now calls first.after now closes follow))

whole_course : (g : Geometry) (s : State) (calls : List Call) (before now : Held) → StandsFor g s before → Follow before calls now → IsWhole g s (run_of s calls) calls before now
unfolding begun_in
whole_course g s [] before now stands follow = record {
  any_moment = subst (λ (d : Held). LeavesOnly before.site d.site (LeavesLines g s [] 0 0 before.site.told)) (sym follow)
      (no_call before.site (Leaves (LeavesLines g s [] 0 0 before.site.told)) (λ snapshot left. record {
        lines = 0;
        at_least = omega arith;
        at_most = omega arith;
        stands = leaves_state g s before stands snapshot left;
        told = told_is before.site snapshot left;
      }));
  few = omega arith;
}
whole_course g s (call ∷ calls) before now stands follow =
    let here = subst (StandsFor g s) (sym follow.0) stands in
    let does = said g s call here follow.1 in
    subst (λ (d : Held). IsWhole g s (run_of s (call ∷ calls)) (call ∷ calls) d now) follow.0
    (whole_by g s call calls now here follow.1 follow.2 (λ fits. whole_course g (turn_of s call).after calls call.after now fits follow.2) does.result does.answer_is does.closes (behind g s call here follow.1))

-- The answers.

answers_are : (g : Geometry) (s : State) (calls : List Call) (before now : Held) → StandsFor g s before → Follow before calls now → AreAnswers (map (λ call. call.answer) calls) (replies (run_of s calls))
answers_are g s [] before now stands follow = tt
answers_are g s (call ∷ calls) before now stands follow =
    by (λ fits. answers_are g (turn_of s call).after calls call.after now fits follow.2) does.result does.answer_is does.closes (behind g s call here follow.1) (does.answers s here.fits).reply
  where
    here : StandsFor g s call.before
    here = subst (StandsFor g s) (sym follow.0) stands

    does : IsAnswered call.command call.answer call.before call.after
    does = said g s call here follow.1

    by : (StandsFor g (turn_of s call).after call.after → AreAnswers (map (λ call. call.answer) calls) (replies (run_of (turn_of s call).after calls))) → (r : Result Reply Stop) → call.answer ≡ answered r → call.after.closed ≡ has_stopped r →
        OnOk r (StandsFor g (turn_of s call).after call.after) → IfOk r (λ reply. reply ≡ (turn_of s call).reply) → AreAnswers (call.answer ∷ map (λ call. call.answer) calls) (replies (run_of s (call ∷ calls)))
    by rest (Ok reply) is closes fits same =
        begins s call calls true (ap is_answer is) does (λ run. AreAnswers (call.answer ∷ map (λ call. call.answer) calls) (replies run))
        (subst (λ (a : Result Reply Unanswered). AreAnswers (a ∷ map (λ call. call.answer) calls) ((turn_of s call).reply ∷ replies (run_of (turn_of s call).after calls))) (sym is)
        (same, rest fits))
    by rest (Err stop) is closes fits same =
        begins s call calls false (ap is_answer is) does (λ run. AreAnswers (call.answer ∷ map (λ call. call.answer) calls) (replies run))
        (subst (λ (a : Result Reply Unanswered). AreAnswers (a ∷ map (λ call. call.answer) calls) ((turn_of s call).reply ∷ [])) (sym is) (closed_all calls call.after now closes follow.2))

-- By commits.

module _ (g : Geometry) (s : State) (calls : List Call) where
  abbrev run : List Turn
  run = run_of s calls

  counts_at : (i : ℕ) → IsCountedAt s run i
  counts_at i = commits_make_the_table s (lines_of (begun calls)) (listings_of (begun calls)) i

  abbrev number : ℕ → ℕ
  number i = commits_among i (commit_marks run)

  up : (i j : ℕ) → i ≤ j → (state_at run s i).commits ≤ (state_at run s j).commits
  up = rises s run (turns_are_run s (lines_of (begun calls)) (listings_of (begun calls)))

  has_commits : (i : ℕ) (image : Image) → Has g (state_at run s i) image → Stands g image (after_commits s.table run (number i)) (s.commits + number i)
  has_commits i image has = subst (λ (t : List Content). Stands g image t (s.commits + number i)) (counts_at i).table (subst (λ (n : ℕ). Stands g image (state_at run s i).table n) (counts_at i).commits has)

  by_commits : (least most few : ℕ) (so_far : List ℕ) (snapshot : Snapshot) → s.commits + few ≡ (state_at run s least).commits → LeavesLines g s run least most so_far snapshot → LeavesCommits g s run few (number most) so_far snapshot
  by_commits least most few so_far snapshot counts left = grind (arith, common_steps, up, counts_at, has_commits, (up least left.lines left.at_least), (up left.lines most left.at_most))

  at_rest : (i few : ℕ) (so_far : List ℕ) (db : Held) → s.commits + few ≡ (state_at run s i).commits → db.site.told ≡ so_far → StandsFor g (state_at run s i) db → Leaves (LeavesCommits g s run few few so_far) (now_of db.site)
  at_rest i few so_far db counts same stands snapshot left =
      let has = leaves_state g (state_at run s i) db stands snapshot left in
      let c = (counts_at i).commits in
      record {
        count = number i;
        at_least = omega (arith, c, counts);
        at_most = omega (arith, c, counts);
        stands = has_commits i snapshot.image has;
        told = told_is db.site snapshot left ∙ same;
      }

  durable_call : (before : Held) (earlier : List Call) (call : Call) → IsByLines g s run before.site.told earlier call → IsDurable g s run before earlier call
  durable_call before earlier call lines =
      let asked : number (begun_in (earlier ++ call ∷ [])) ≡ commits_asked run (earlier ++ call ∷ []) = ap number (begun_are (earlier ++ call ∷ [])) in
      record {
        any_moment = subst (λ (n : ℕ). LeavesOnly call.before.site call.after.site (LeavesCommits g s run (commits_in earlier) n before.site.told)) asked
            (leaves_weaker call.before.site call.after.site _ _ (λ snapshot. by_commits (answered_in earlier) (begun_in (earlier ++ call ∷ [])) (commits_in earlier) before.site.told snapshot lines.commits) lines.any_moment);
        one_more = (
            let high = up (begun_in (earlier ++ call ∷ [])) (suc (answered_in earlier)) (let few = lines.few in omega (arith, few)) in
            let one = rises_by_one s run (turns_are_run s (lines_of (begun calls)) (listings_of (begun calls))) (answered_in earlier) in
            let c = (counts_at (begun_in (earlier ++ call ∷ []))).commits in
            let d = lines.commits in
            omega (arith, high, one, c, d, asked));
        at_rest = ok_all call.answer _ _ _ _ (λ stands counts told. at_rest (suc (length earlier)) (commits_in (earlier ++ call ∷ [])) before.site.told call.after counts told stands) lines.stands lines.counts lines.told;
        stands = ok_as call.answer _ _ (λ stands. subst (λ (n : ℕ). StandsFor g (state_at run s n) call.after) (add_one (length earlier)) stands) lines.stands;
      }

  module _ (before now : Held) (whole : IsWhole g s run calls before now) where
    asked_all : number (begun_in calls) ≡ commits_asked run calls
    asked_all = ap number (begun_are calls)

    whole_by_commits : LeavesOnly before.site now.site (LeavesCommits g s run 0 (commits_asked run calls) before.site.told)
    whole_by_commits = subst (λ (n : ℕ). LeavesOnly before.site now.site (LeavesCommits g s run 0 n before.site.told)) asked_all
        (leaves_weaker before.site now.site _ _ (λ snapshot. by_commits 0 (begun_in calls) 0 before.site.told snapshot (omega arith)) whole.any_moment)

    few_by_commits : commits_asked run calls ≤ may_commit_in calls
    few_by_commits = let few = whole.few in let c = (counts_at (begun_in calls)).commits in omega (arith, few, c, asked_all)

pub calls_are_durable : CallsAreDurable
calls_are_durable g s before now calls stands follow = record {
  answers = answers_are g s calls before now stands follow;
  each = λ earlier later call is. durable_call g s calls before earlier call
      (subst (λ (c : List Call). IsByLines g s (run_of s c) before.site.told earlier call) (sym is) (by_lines g s earlier later call before now stands (subst (λ (c : List Call). Follow before c now) is follow)));
  whole = whole_by_commits g s calls before now (whole_course g s calls before now stands follow);
  few = few_by_commits g s calls before now (whole_course g s calls before now stands follow);
  serial = λ made cap is earlier later t split. serial_order s.table s.commits made cap (lines_of (begun calls)) (listings_of (begun calls)) earlier later t
      (subst (λ (x : State). turns x (lines_of (begun calls)) (listings_of (begun calls)) ≡ earlier ++ t ∷ later) is split);
}
