-- Reading several records at once.
use Rattle.engine.proofs.Names.{◌≡◌, zero, suc, ◌+◌, ◌-◌, ◌*◌, ◌^◌, ◌<◌, ◌≤◌, ◌==◌, ◌&&◌, ◌||◌, Bool, true, false, not, List, [], ◌∷◌, ◌++◌, map, find, length, Option, None, Some, refl, sym, ap, ◌∙◌, arith, add-one, get_or-set_same, ℕ, true≢false, map-append, set-get_or, filter_map-append, range_with_len, slice_set, option_map, is_some, unwrap_or, LocksAre, with_read, with_reads, first_busy, items_seen, items_of, AddsLock, has_written, busy_read, Lock, Content, Session, State, session_at, writes_of, seen, content_at, last_write, first_refusal, item, having_read, may_read, Reply}
use Rattle.record_model.proofs.SerialLists.{set_set}
use Rattle.std.proofs.Common.{filter_map}
use Rattle.std.proofs.lemmas.List.{append-nil, append_assoc}
use Rattle.record_model.specs.declared.words.Item.{Item}
use Rattle.site.specs.Geometry.{HasLimits}
use Rattle.engine.proofs.Meanings.{busy_read_is}
use Rattle.record_model.specs.declared.words.Reply.TheVariants as reply

-- Numbers.

range_next : (a n : ℕ) → range_with_len a (suc n) ≡ range_with_len a n ++ (a + n) ∷ []
range_next a zero = let same : a ≡ a + 0 = omega arith in ap (λ (k : ℕ). k ∷ []) same
range_next a (suc n) =
    let same : a + 1 + n ≡ a + suc n = omega arith in
    ap (λ (ns : List ℕ). a ∷ ns) (range_next (a + 1) n ∙ ap (λ (k : ℕ). range_with_len (a + 1) n ++ k ∷ []) same)

pub range_more : (a n : ℕ) → range_with_len a (n + 1) ≡ range_with_len a n ++ (a + n) ∷ []
range_more a n = ap (range_with_len a) (add-one n) ∙ range_next a n

range_split : (a m n : ℕ) → range_with_len a (m + n) ≡ range_with_len a m ++ range_with_len (a + m) n
range_split a zero n =
    let from : a ≡ a + 0 = omega arith in
    let size : 0 + n ≡ n = omega arith in
    λ i. range_with_len (from i) (size i)
range_split a (suc m) n =
    let size : suc m + n ≡ suc (m + n) = omega arith in
    let from : a + 1 + m ≡ a + suc m = omega arith in
    ap (range_with_len a) size ∙ ap (λ (ns : List ℕ). a ∷ ns) (range_split (a + 1) m n ∙ ap (λ (k : ℕ). range_with_len (a + 1) m ++ range_with_len k n) from)

-- the numbers up to one, that one, and those behind it
pub range_at : (a m n : ℕ) → m < n → range_with_len a n ≡ range_with_len a m ++ (a + m) ∷ range_with_len (a + m + 1) (n - m - 1)
range_at a m n less =
    let is : n ≡ m + suc (n - m - 1) = omega (arith, less) in
    ap (range_with_len a) is ∙ range_split a m (suc (n - m - 1))

-- The first refusal.

refusal_behind : (xs ys : List (Option Reply)) → first_refusal xs ≡ None → first_refusal (xs ++ ys) ≡ first_refusal ys
refusal_behind [] ys none = refl
refusal_behind (None ∷ xs) ys none = refusal_behind xs ys none
refusal_behind (Some r ∷ xs) ys none = absurd (true≢false (ap is_some none))

abbrev test : List Lock → ℕ → ℕ → Option Reply
test held session number = option_map reply.Busy (busy_read held (Some session) number)

pub none_more : (held : List Lock) (session number n : ℕ) → first_busy held session (range_with_len number n) ≡ None → busy_read held (Some session) (number + n) ≡ None
    → first_busy held session (range_with_len number (n + 1)) ≡ None
none_more held session number n none free =
    ap (λ (ns : List ℕ). first_refusal (map (test held session) ns)) (range_more number n)
    ∙ ap first_refusal (map-append (test held session) (range_with_len number n) ((number + n) ∷ []))
    ∙ refusal_behind (map (test held session) (range_with_len number n)) (map (test held session) ((number + n) ∷ [])) none
    ∙ ap (λ (o : Option ℕ). first_refusal (option_map reply.Busy o ∷ [])) free

pub busy_at : (held : List Lock) (session number count n holder : ℕ) → n < count → first_busy held session (range_with_len number n) ≡ None → busy_read held (Some session) (number + n) ≡ Some holder
    → first_busy held session (range_with_len number count) ≡ Some (reply.Busy holder)
busy_at held session number count n holder less none busy =
    let rest = range_with_len (number + n + 1) (count - n - 1) in
    ap (λ (ns : List ℕ). first_refusal (map (test held session) ns)) (range_at number n count less)
    ∙ ap first_refusal (map-append (test held session) (range_with_len number n) ((number + n) ∷ rest))
    ∙ refusal_behind (map (test held session) (range_with_len number n)) (map (test held session) ((number + n) ∷ rest)) none
    ∙ ap (λ (o : Option ℕ). first_refusal (option_map reply.Busy o ∷ map (test held session) rest)) busy

first_free : (o : Option ℕ) (tests : List (Option Reply)) → first_refusal (option_map reply.Busy o ∷ tests) ≡ None → o ≡ None
first_free None tests is = refl
first_free (Some holder) tests is = absurd (true≢false (ap is_some is))

rest_free : (o : Option ℕ) (tests : List (Option Reply)) → first_refusal (option_map reply.Busy o ∷ tests) ≡ None → first_refusal tests ≡ None
rest_free None tests is = is
rest_free (Some holder) tests is = absurd (true≢false (ap is_some is))

-- where none of the records is busy, each isn't
pub free_at : (held : List Lock) (session number count n : ℕ) → n < count → first_busy held session (range_with_len number count) ≡ None → busy_read held (Some session) (number + n) ≡ None
free_at held session number zero n less none = absurd (omega (arith, less))
free_at held session number (suc count) zero less none =
    let same : number + 0 ≡ number = omega arith in
    ap (busy_read held (Some session)) same ∙ first_free (busy_read held (Some session) number) (map (test held session) (range_with_len (number + 1) count)) none
free_at held session number (suc count) (suc n) less none =
    let same : number + suc n ≡ number + 1 + n = omega arith in
    ap (busy_read held (Some session)) same
    ∙ free_at held session (number + 1) count n (omega (arith, less)) (rest_free (busy_read held (Some session) number) (map (test held session) (range_with_len (number + 1) count)) none)

-- what the model answers of a scan
pub busy_is : (held : List Lock) (s : State) → LocksAre held s → (n : ℕ) (numbers : List ℕ) → first_busy held n numbers ≡ first_refusal (map (may_read s (Some n)) numbers)
busy_is held s are n numbers = ap first_refusal (same numbers)
  where
    same : (ns : List ℕ) → map (λ number. option_map reply.Busy (busy_read held (Some n) number)) ns ≡ map (may_read s (Some n)) ns
    same [] = refl
    same (number ∷ ns) = λ i. option_map reply.Busy (busy_read_is held s are (Some n) number i) ∷ same ns i

-- no table has so many records
pub past_all : (g : _) → HasLimits g → (number : ℕ) → 2 ^ 32 ≤ number + 1 → 32 * g.pages ≤ number
past_all g limits number more = let few = limits.few_pages in omega (arith, few, more)

-- Locks.

pub none_more_written : (a b d : Bool) → (a || (b && (d && false))) ≡ a
none_more_written true b d = refl
none_more_written false true true = refl
none_more_written false true false = refl
none_more_written false false d = refl

-- a record that was read is as busy for readers as before
pub still_busy : (old new : List Lock) (session number : ℕ) → AddsLock old new session number false → (n r : ℕ) → busy_read new (Some n) r ≡ busy_read old (Some n) r
still_busy old new session number adds n r =
    λ i. find (λ m. not (n == m) && written m i) (range_with_len 0 8)
  where
    written : (m : ℕ) → has_written new m r ≡ has_written old m r
    written m = adds.written m r ∙ none_more_written (has_written old m r) (session == m) (number == r)

-- Items.

abbrev item_here : ℕ → Content → Option Item
item_here number content = option_map (λ (value : List ℕ). record { number = number; value = value }) content

one_item : (number : ℕ) (content : Content) → filter_map (λ (x : Option Item). x) (item_here number content ∷ []) ≡ items_of number content
one_item number None = refl
one_item number (Some value) = refl

pub items_more : (s : State) (session number n : ℕ) → items_seen s session (range_with_len number (n + 1)) ≡ items_seen s session (range_with_len number n) ++ items_of (number + n) (seen s session (number + n))
items_more s session number n =
    ap (items_seen s session) (range_more number n) ∙ filter_map-append (item (seen s session)) (range_with_len number n) ((number + n) ∷ [])
    ∙ ap (λ (items : List Item). items_seen s session (range_with_len number n) ++ items) (one_item (number + n) (seen s session (number + n)))

-- What a session has read.

nothing_read : (o : Option Session) → option_map (having_read []) o ≡ o
nothing_read None = refl
nothing_read (Some session) = ap (λ (reads : List ℕ). Some (record session { reads = reads })) (append-nil session.reads)

pub reads_none : (s : State) (n : ℕ) → with_reads s n [] ≡ s
reads_none s n =
    ap (λ (sessions : List (Option Session)). record s { sessions = sessions })
    (ap (slice_set s.sessions n) (nothing_read (session_at s n)) ∙ set-get_or s.sessions n None)

read_twice : (first second : List ℕ) (o : Option Session) → option_map (having_read second) (option_map (having_read first) o) ≡ option_map (having_read (first ++ second)) o
read_twice first second None = refl
read_twice first second (Some session) = ap (λ (reads : List ℕ). Some (record session { reads = reads })) (append_assoc session.reads first second)

pub reads_more : (s : State) (n number : ℕ) (numbers : List ℕ) → n < length s.sessions → with_read (with_reads s n numbers) n number ≡ with_reads s n (numbers ++ number ∷ [])
reads_more s n number numbers small =
    let o = session_at s n in
    let mid : List (Option Session) = slice_set s.sessions n (option_map (having_read numbers) o) in
    ap (λ (sessions : List (Option Session)). record s { sessions = sessions })
    (ap (λ (x : Option Session). slice_set mid n (option_map (having_read (number ∷ [])) x)) (get_or-set_same s.sessions n (option_map (having_read numbers) o) None small)
    ∙ ap (slice_set mid n) (read_twice numbers (number ∷ []) o)
    ∙ set_set s.sessions n (option_map (having_read numbers) o) (option_map (having_read (numbers ++ number ∷ [])) o))

-- it sees what it saw before it read
pub seen_same : (s : State) (n number : ℕ) (numbers : List ℕ) → n < length s.sessions → seen (with_reads s n numbers) n number ≡ seen s n number
seen_same s n number numbers small =
    ap (λ (o : Option Session). unwrap_or (last_write (writes_of o) number) (content_at s.table number)) (get_or-set_same s.sessions n (option_map (having_read numbers) (session_at s n)) None small)
    ∙ same (session_at s n)
  where
    same : (o : Option Session) → unwrap_or (last_write (writes_of (option_map (having_read numbers) o)) number) (content_at s.table number) ≡ unwrap_or (last_write (writes_of o) number) (content_at s.table number)
    same None = refl
    same (Some session) = refl

-- One record more of a scan.

pub items_next : (s : State) (session number n : ℕ) (old new : List Item) (content : Content) → session < length s.sessions → old ≡ items_seen s session (range_with_len number n) →
    content ≡ seen (with_reads s session (range_with_len number n)) session (number + n) → new ≡ old ++ items_of (number + n) content → new ≡ items_seen s session (range_with_len number (n + 1))
items_next s session number n old new content small before is more =
    let same = is ∙ seen_same s session (number + n) (range_with_len number n) small in
    more ∙ (λ i. before i ++ items_of (number + n) (same i)) ∙ sym (items_more s session number n)
