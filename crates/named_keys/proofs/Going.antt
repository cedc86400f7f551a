-- How many calls a line makes.
use Rattle.std.proofs.Common.{◌≡◌, ℕ, ◌+◌, ◌-◌, ◌<◌, ◌≤◌, Bool, true, false, List, [], ◌∷◌, Option, Some, None, refl, sym, ap, subst, arith}
use Rattle.std.proofs.lemmas.Bool.{ltb-true}
use Rattle.std.proofs.lemmas.Grind.{common_steps}
use Rattle.std.specs.Option.{option_or}
use Rattle.std.specs.Prelude.{Result, if◌then◌else◌, nat_lt, option_map}
use Rattle.std.specs.Str.{bytes_eq}
use Rattle.record_model.specs.declared.names.Ask.{Ask}
use Rattle.record_model.specs.declared.names.Ask.TheVariants.{Read, Write, End}
use Rattle.record_model.specs.declared.names.Bucket.{Bucket}
use Rattle.record_model.specs.declared.names.Bucket.TheVariants.{Free, Tombstone, Entry, Strange}
use Rattle.record_model.specs.declared.words.Command.{Command}
use Rattle.record_model.specs.declared.words.Reply.{Reply}
use Rattle.record_model.specs.State.{Content}
use Rattle.record_model.specs.Names.{bucket_of}
use Rattle.record_model.specs.Probes.{Probe, after_bucket, after_told, after_written, met, missed, passed_on, record_at}
use Rattle.name_table.specs.Probing.{IsRead}
use Rattle.name_table.proofs.Runs.{met_settled, missed_settled}
use Rattle.database.specs.declared.unanswered.Unanswered.{Unanswered}
use Rattle.database.specs.Course.{Call}
use Rattle.named_keys.specs.declared.reply.NameReply.{NameReply}
use Rattle.named_keys.specs.Lines.{IsNameLine, content_in, is_done, is_read, is_write, reads_in, told_by, writes_in}
use Rattle.named_keys.specs.Going.{IsGoing}
use Rattle.named_keys.proofs.FirstCalls.{FirstCall, reads, writes, stops, first_call}

goes_on : (p : Probe) → IsGoing (passed_on p)
goes_on p = by (nat_lt p.told p.buckets) refl
  where
    by : (b : Bool) → nat_lt p.told p.buckets ≡ b → IsRead (if b then Read (record_at p.name p.buckets p.told) else missed p.job p.name p.buckets p.tombstone) → p.told < p.buckets
    by true is h = ltb-true p.told p.buckets is
    by false is h = absurd (missed_settled p.job p.name p.buckets p.tombstone h)

goes_behind : (p : Probe) (number : ℕ) (b : Bucket) → IsGoing (after_bucket p number b)
goes_behind p number Free h = absurd (missed_settled p.job p.name p.buckets (option_or p.tombstone (Some number)) h)
goes_behind p number Tombstone h = goes_on (record p { tombstone = option_or p.tombstone (Some number) }) h
goes_behind p number (Entry name value) h = by (bytes_eq name p.name) h
  where
    by : (b : Bool) → IsGoing (if b then record p { next = met p.job p.name number value } else passed_on p)
    by true h = absurd (met_settled p.job p.name number value h)
    by false h = goes_on p h
goes_behind p number Strange h = absurd h

pub going_told : (p : Probe) (value : Content) → IsGoing (after_told p value)
going_told p value = goes_behind (record p { told = p.told + 1 }) (record_at p.name p.buckets p.told) (bucket_of value)

-- a value is told, and nothing else of this changes
counts_behind : (p : Probe) (number : ℕ) (b : Bucket) → ((after_bucket p number b).told ≡ p.told) × ((after_bucket p number b).buckets ≡ p.buckets)
counts_behind p number Free = (refl, refl)
counts_behind p number Tombstone = (refl, refl)
counts_behind p number (Entry name value) = by (bytes_eq name p.name)
  where
    by : (b : Bool) → ((if b then record p { next = met p.job p.name number value } else passed_on p).told ≡ p.told) × ((if b then record p { next = met p.job p.name number value } else passed_on p).buckets ≡ p.buckets)
    by true = (refl, refl)
    by false = (refl, refl)
counts_behind p number Strange = (refl, refl)

pub counts_told : (p : Probe) (value : Content) → ((after_told p value).told ≡ p.told + 1) × ((after_told p value).buckets ≡ p.buckets)
counts_told p value = counts_behind (record p { told = p.told + 1 }) (record_at p.name p.buckets p.told) (bucket_of value)

-- What a probe may still ask for: so many reads, and a write.

abbrev pub left_by : Ask → ℕ → ℕ
left_by (Read number) more = more + 1
left_by (Write number value) more = 1
left_by (End reached) more = 0

abbrev pub left : Probe → ℕ
left p = left_by p.next (p.buckets - p.told)

less_told : (p next : Probe) → p.told < p.buckets → next.told ≡ p.told + 1 → next.buckets ≡ p.buckets → IsGoing next → left next < p.buckets - p.told + 1
less_told p next less told same going = by next.next refl
  where
    by : (a : Ask) → next.next ≡ a → left_by a (next.buckets - next.told) < p.buckets - p.told + 1
    by (Read number) is = let few : next.told < next.buckets = going (subst IsRead (sym is) tt) in omega (arith, less, told, same, few)
    by (Write number value) is = omega (arith, less)
    by (End reached) is = omega arith

-- a probe that was told of a call goes on, with less left
pub record IsNext (p next : Probe) : Type 0 where
  pub going : IsGoing next
  pub less : left next < left p

pub next_is : (p next : Probe) (told : Reply) → IsGoing p → told_by p.next told p ≡ Some next → IsNext p next
next_is p next told going is = by p.next refl is
  where
    reads : (number : ℕ) → p.next ≡ Read number → (o : Option Content) → option_map (after_told p) o ≡ Some next → IsNext p next
    reads number is None e = absurd cc
    reads number is (Some content) e =
        let same : after_told p content ≡ next = cc in
        let less : p.told < p.buckets = going (subst IsRead (sym is) tt) in
        subst (IsNext p) same (record {
          going = going_told p content;
          less = subst (λ (a : Ask). left (after_told p content) < left_by a (p.buckets - p.told)) (sym is)
              (less_told p (after_told p content) less (counts_told p content).0 (counts_told p content).1 (going_told p content));
        })

    writes : (number : ℕ) (value : List ℕ) → p.next ≡ Write number value → (b : Bool) → (if b then Some (after_written p) else None) ≡ Some next → IsNext p next
    writes number value is false e = absurd cc
    writes number value is true e =
        let same : after_written p ≡ next = cc in
        subst (IsNext p) same (record { going = λ h. absurd h; less = subst (λ (a : Ask). 0 < left_by a (p.buckets - p.told)) (sym is) (omega arith) })

    by : (a : Ask) → p.next ≡ a → told_by a told p ≡ Some next → IsNext p next
    by (Read number) is e = reads number is (content_in told) e
    by (Write number value) is e = writes number value is (is_done told) e
    by (End reached) is e = absurd cc

-- How many calls a line makes.

pub record IsFew (p : Probe) (calls : List Call) : Type 0 where
  pub reads : reads_in calls ≤ p.buckets - p.told
  pub writes : writes_in calls ≤ 1

ends_none : (n : ℕ) (p : Probe) (later : List Call) (answer : Result NameReply Unanswered) → IsNameLine n (after_written p) later answer → later ≡ []
ends_none n p [] answer line = refl
ends_none n p (call ∷ later) answer line = absurd (none line.0)
  where
    none : {c : Command} → None ≡ Some c → ⊥
    none e = cc

module _ (n : ℕ) (p : Probe) (call : Call) (later : List Call) (answer : Result NameReply Unanswered) (going : IsGoing p) (rest : (content : Content) → IsNameLine n (after_told p content) later answer → IsFew (after_told p content) later) where
  few_behind : FirstCall n p call later answer → IsFew p (call ∷ later)
  few_behind (reads number content is asks answered line) =
      let more = rest content line in
      let counts = counts_told p content in
      let less : p.told < p.buckets = going (subst IsRead (sym is) tt) in
      let read : is_read call.command ≡ true = ap is_read asks in
      let no_write : is_write call.command ≡ false = ap is_write asks in
      record { reads = grind (arith, common_steps); writes = grind (arith, common_steps) }
  few_behind (writes number value is asks answered line) =
      let none = ends_none n p later answer line in
      let no_read : is_read call.command ≡ false = ap is_read asks in
      record { reads = grind (arith, common_steps); writes = grind (arith, common_steps) }
  few_behind (stops asks none never) = record { reads = at (is_read call.command) refl; writes = grind (arith, common_steps) }
    where
      at : (b : Bool) → is_read call.command ≡ b → reads_in (call ∷ later) ≤ p.buckets - p.told
      at true is = let less : p.told < p.buckets = going (asks is) in grind (arith, common_steps)
      at false is = grind (arith, common_steps)

pub few_calls : (n : ℕ) (p : Probe) (calls : List Call) (answer : Result NameReply Unanswered) → IsGoing p → IsNameLine n p calls answer → IsFew p calls
few_calls n p [] answer going line = record { reads = omega arith; writes = omega arith }
few_calls n p (call ∷ later) answer going line =
    few_behind n p call later answer going (λ content rest. few_calls n (after_told p content) later answer (going_told p content) rest) (first_call n p call later answer line)
