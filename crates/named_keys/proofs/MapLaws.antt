-- What people know of lines about names.
use Rattle.std.proofs.Common.{◌≡◌, ◌≢◌, ℕ, ◌+◌, ◌/◌, ◌≤◌, List, [], ◌∷◌, ◌++◌, length, Option, Some, None, inl, inr, refl, sym, ap, ◌∙◌, subst, arith}
use Rattle.std.specs.Prelude.{Result, Ok, Err, OnOk, ◌⊎◌}
use Rattle.site.specs.declared.geometry.Geometry.{Geometry}
use Rattle.record_model.specs.declared.names.Job.{Job}
use Rattle.record_model.specs.declared.names.Job.TheVariants.{Find, Put, Remove}
use Rattle.record_model.specs.declared.names.Ask.{Ask}
use Rattle.record_model.specs.declared.names.Ask.TheVariants.{End}
use Rattle.record_model.specs.declared.names.NameAnswer.{NameAnswer}
use Rattle.record_model.specs.declared.names.NameAnswer.TheVariants as answer
use Rattle.record_model.specs.State.{Content, State, session_at, writes_of}
use Rattle.record_model.specs.Run.{state_at}
use Rattle.record_model.specs.declared.words.Reply.{Reply}
use Rattle.record_model.specs.Names.{bucket_count, names, IsWellFormed}
use Rattle.record_model.specs.Probes.{Probe, begun, told_times, with_write}
use Rattle.record_model.proofs.StepLaws.{length_table_with}
use Rattle.name_table.specs.Laws.{IsMap, NamesAreAMap, Writes, found, reached}
use Rattle.database.specs.declared.unanswered.Unanswered.{Unanswered}
use Rattle.database.specs.Held.{Held, StandsFor, records_of}
use Rattle.database.specs.Course.{Call, CallsAreDurable, Follow, run_of}
use Rattle.database.proofs.Sizes.{table_size}
use Rattle.named_keys.specs.declared.reply.NameReply.TheVariants.{Answer}
use Rattle.named_keys.specs.Lines.{IsNameLine, buckets_of}
use Rattle.named_keys.specs.Laws.{Changes, IsAnswerTo, KeepsMap, LinesAreProbes, LinesKeepTheMap, seen_table, state_behind}
use Rattle.named_keys.proofs.FirstCalls.{FirstCall, reads, writes, stops, first_call}
use Rattle.named_keys.proofs.Going.{few_calls}
use Rattle.named_keys.proofs.LineLaws.{comes_of}

-- there are as many buckets as the session sees
buckets_seen : (g : Geometry) (s : State) (n : ℕ) (db : Held) → StandsFor g s db → buckets_of db ≡ bucket_count (seen_table s n)
buckets_seen g s n db stands =
    let same : length (seen_table s n) ≡ records_of db = length_table_with s.table (writes_of (session_at s n)) ∙ table_size g s db stands in
    ap (λ (k : ℕ). k / 2) (sym same)

-- and there is one at least
some_buckets : (g : Geometry) (s : State) (db : Held) → StandsFor g s db → 1 ≤ buckets_of db
some_buckets g s db stands = let pages = stands.going.store.both.pages_going.flash.limits.pages in omega (arith, pages)

ends_by : (calls : List Call) → (calls ≡ []) ⊎ ((earlier : List Call) × (last : Call) × (calls ≡ earlier ++ last ∷ []))
ends_by [] = inl refl
ends_by (call ∷ calls) = by (ends_by calls)
  where
    by : (calls ≡ []) ⊎ ((earlier : List Call) × (last : Call) × (calls ≡ earlier ++ last ∷ [])) → (call ∷ calls ≡ []) ⊎ ((earlier : List Call) × (last : Call) × (call ∷ calls ≡ earlier ++ last ∷ []))
    by (inl none) = inr ([], call, ap (λ (l : List Call). call ∷ l) none)
    by (inr some) = inr (call ∷ some.0, some.1, ap (λ (l : List Call). call ∷ l) some.2)

-- the last one was
last_answered : (n : ℕ) (p : Probe) (earlier : List Call) (last : Call) (told : NameAnswer) → IsNameLine n p (earlier ++ last ∷ []) (Ok (Answer told)) → (reply : Reply) × (last.answer ≡ Ok reply)
last_answered n p [] last told line = by (first_call n p last [] (Ok (Answer told)) line)
  where
    by : FirstCall n p last [] (Ok (Answer told)) → (reply : Reply) × (last.answer ≡ Ok reply)
    by (reads number content is asks answered rest) = (_, answered)
    by (writes number value is asks answered rest) = (_, answered)
    by (stops asks none never) = absurd (never told refl)
last_answered n p (call ∷ earlier) last told line = by (λ q rest. last_answered n q earlier last told rest) (first_call n p call (earlier ++ last ∷ []) (Ok (Answer told)) line)
  where
    by : ((q : Probe) → IsNameLine n q (earlier ++ last ∷ []) (Ok (Answer told)) → (reply : Reply) × (last.answer ≡ Ok reply)) → FirstCall n p call (earlier ++ last ∷ []) (Ok (Answer told)) → (reply : Reply) × (last.answer ≡ Ok reply)
    by later (reads number content is asks answered rest) = later _ rest
    by later (writes number value is asks answered rest) = later _ rest
    by later (stops asks none never) = absurd (never told refl)

length_last : {X : Type 0} (earlier : List X) (last : X) → length (earlier ++ last ∷ []) ≡ length earlier + 1
length_last [] last = refl
length_last (x ∷ earlier) last = let rest = length_last earlier last in omega (arith, rest)

stands_behind : CallsAreDurable → (g : Geometry) (s : State) (n : ℕ) (p : Probe) (calls : List Call) (told : NameAnswer) (before after : Held) → StandsFor g s before → Follow before calls after → IsNameLine n p calls (Ok (Answer told)) → StandsFor g (state_behind s calls) after
stands_behind law g s n p calls told before after stands follow line = by (ends_by calls)
  where
    none : (l : List Call) → l ≡ [] → Follow before l after → StandsFor g (state_behind s l) after
    none [] is follow = subst (StandsFor g s) (sym follow) stands
    none (call ∷ l) is follow = absurd cc

    last_is : (earlier : List Call) (last : Call) (db : Held) → Follow db (earlier ++ last ∷ []) after → last.after ≡ after
    last_is [] last db follow = sym follow.2
    last_is (call ∷ earlier) last db follow = last_is earlier last call.after follow.2

    by : (calls ≡ []) ⊎ ((earlier : List Call) × (last : Call) × (calls ≡ earlier ++ last ∷ [])) → StandsFor g (state_behind s calls) after
    by (inl is) = none calls is follow
    by (inr some) =
        let earlier = some.0 in
        let last = some.1 in
        let all = law g s before after calls stands follow in
        let answered = last_answered n p earlier last told (subst (λ (l : List Call). IsNameLine n p l (Ok (Answer told))) some.2 line) in
        let there : StandsFor g (state_at (run_of s calls) s (length earlier + 1)) last.after = on last.answer answered.1 (all.each earlier [] last some.2).stands in
        subst (λ (db : Held). StandsFor g (state_behind s calls) db) (last_is earlier last before (subst (λ (l : List Call). Follow before l after) some.2 follow))
        (subst (λ (k : ℕ). StandsFor g (state_at (run_of s calls) s k) last.after) (sym (ap length some.2 ∙ length_last earlier last)) there)
      where
        on : {P : Type 0} (r : Result Reply Unanswered) {told : Reply} → r ≡ Ok told → OnOk r P → P
        on (Ok reply) is p = p
        on (Err why) is p = absurd cc

pub lines_are_probes : CallsAreDurable → LinesAreProbes
lines_are_probes law g s n job name told calls before after does =
    let count = buckets_seen g s n before does.stands in
    let some = some_buckets g s before does.stands in
    let first = begun job name (buckets_of before) in
    let few = few_calls n first calls (Ok (Answer told)) (λ asks. some) does.line in
    let comes = comes_of n first calls s told (buckets_of before) (let most = few.reads in omega (arith, most)) does.line (law g s before after calls does.stands does.follow).answers in
    let same : (told_times (seen_table s n) (buckets_of before) first).next ≡ reached (seen_table s n) job name = ap (λ (k : ℕ). (told_times (seen_table s n) k (begun job name k)).next) count in
    record {
      stands = stands_behind law g s n first calls told before after does.stands does.follow does.line;
      answers = subst (λ (a : Ask). IsAnswerTo a told) same comes.answers;
      sees = comes.sees ∙ ap (λ (a : Ask). with_write a (seen_table s n)) same;
      table = comes.table;
      commits = comes.commits;
    }

-- Over well-formed buckets.

module _ (table after : List Content) (name : List ℕ) (told : NameAnswer) (is : IsMap table name) where
  ended : (reached : NameAnswer) (asked : Ask) → asked ≡ End reached → IsAnswerTo asked told → after ≡ with_write asked table → (told ≡ reached) × (after ≡ table)
  ended reached asked e answers sees = (subst (λ (a : Ask). IsAnswerTo a told) e answers, sees ∙ ap (λ (a : Ask). with_write a table) e)

  wrote : (value : List ℕ) (under : Option (List ℕ)) (asked : Ask) → Writes table name value under asked → IsAnswerTo asked told → after ≡ with_write asked table → (told ≡ answer.Done) × Changes name under table after
  wrote value under asked made answers sees = (
    subst (λ (a : Ask). IsAnswerTo a told) made.asks answers,
    record {
      well_formed = subst IsWellFormed (sym sees) made.well_formed;
      of_name = ap (λ (t : List Content). names t name) sees ∙ made.of_name;
      of_others = λ other differs. ap (λ (t : List Content). names t other) sees ∙ made.of_others other differs;
    },
  )

  keeps_map : (job : Job) → IsAnswerTo (reached table job name) told → after ≡ with_write (reached table job name) table → KeepsMap job name told table after
  keeps_map Find answers sees = ended (found (names table name)) (reached table Find name) is.find answers sees
  keeps_map (Put value) answers sees = λ is_name short. elim (is.put value is_name short) [
    | inl full ↦ inr (ended (answer.NamesFull (bucket_count table)) (reached table (Put value) name) full.tells answers sees)
    | inr made ↦ inl (wrote _ (Some value) (reached table (Put value) name) made answers sees)
  ]
  keeps_map Remove answers sees = by (names table name) refl
    where
      by : (o : Option (List ℕ)) → names table name ≡ o → ((names table name ≡ None) × (told ≡ answer.Nothing) × (after ≡ table)) ⊎ ((names table name ≢ None) × (told ≡ answer.Done) × Changes name None table after)
      by None none = (let end = ended answer.Nothing (reached table Remove name) (is.remove_none none) answers sees in inl (none, end.0, end.1))
      by (Some value) some = (let change = wrote [] None (reached table Remove name) (is.remove_some value some) answers sees in inr ((λ none. (let never : None ≡ Some value = sym none ∙ some in cc)), change.0, change.1))

pub lines_keep_the_map : LinesAreProbes → NamesAreAMap → LinesKeepTheMap
lines_keep_the_map lines map g s n job name told calls before after does formed =
    let comes = lines g s n job name told calls before after does in
    let some : 1 ≤ bucket_count (seen_table s n) = subst (λ (k : ℕ). 1 ≤ k) (buckets_seen g s n before does.stands) (some_buckets g s before does.stands) in
    keeps_map (seen_table s n) (seen_table (state_behind s calls) n) name told (map (seen_table s n) name some formed) job comes.answers comes.sees
