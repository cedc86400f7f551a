-- No session writes what another one has touched.
use Rattle.std.proofs.lemmas.Grind.{common_steps}
use Rattle.record_model.proofs.Citing.{◌≡◌, ℕ, suc, ◌+◌, ◌<◌, ◌≤◌, Bool, true, false, List, [], ◌∷◌, length, Option, Some, None, inl, inr, refl, ap, sym, ◌∙◌, subst, arith, or_left, cases_lt, or_cases, eqb-true, ne_eqb, list_any, range_with_len, AllByRecursion, ◌==◌, not, ◌&&◌, ◌||◌, ◌⊎◌, find, slice_index_or, slice_set, map, option_map, Session, State, wrote_of, reads_of, is_other, busy_read, busy_write, refusal, first_refusal, wants_active, wants_record, wants_short, may_read, may_write, ready, effect, having_read, having_written, having_marked, going_back, Command, Begin, Read, Write, Erase, Scan, Commit, Abort, Mark, Back, Reply, all_member}
use Rattle.std.specs.Prelude.{◌-◌}
use Rattle.record_model.proofs.SerialLists.{not_both, get_set_same, get_set_other, none_passes, each_of_map}
use Rattle.record_model.specs.declared.words.Reply.TheVariants as reply
use Rattle.record_model.specs.State as state

abbrev pub place : List (Option Session) → ℕ → Option Session
place sessions n = slice_index_or sessions n None

-- whether a session has written a record, and whether it has written or read it
abbrev pub wrote : Option Session → ℕ → Bool
wrote o r = list_any (λ number. number == r) (wrote_of o)

abbrev pub touched : Option Session → ℕ → Bool
touched o r = wrote o r || list_any (λ read. read == r) (reads_of o)

abbrev pub Apart : List (Option Session) → Type 0
Apart sessions = (m n r : ℕ) → (m ≡ n → ⊥) → wrote (place sessions m) r ≡ true → touched (place sessions n) r ≡ true → ⊥

-- A session in another's place.

pub set_here : (sessions : List (Option Session)) (k : ℕ) (v : Option Session) (m : ℕ) → m ≡ k → k < length sessions → place (slice_set sessions k v) m ≡ v
set_here sessions k v m e below = ap (place (slice_set sessions k v)) e ∙ get_set_same sessions k v None below

pub set_there : (sessions : List (Option Session)) (k : ℕ) (v : Option Session) (m : ℕ) → (m ≡ k → ⊥) → place (slice_set sessions k v) m ≡ place sessions m
set_there sessions k v m d = get_set_other sessions k m v None (λ e. d (sym e))

pub get_beyond : (sessions : List (Option Session)) (n : ℕ) → length sessions ≤ n → place sessions n ≡ None
get_beyond (o ∷ sessions) (suc n) h = get_beyond sessions n (omega arith)
get_beyond _ _ h = grind arith

-- what a session in a new place has written is what it had, or what no other has touched, and what it has touched likewise
abbrev WritesMore : List (Option Session) → ℕ → Option Session → Type 0
WritesMore sessions k v = (r : ℕ) → wrote v r ≡ true → (wrote (place sessions k) r ≡ true) ⊎ ((n : ℕ) → (n ≡ k → ⊥) → touched (place sessions n) r ≡ true → ⊥)

abbrev TouchesMore : List (Option Session) → ℕ → Option Session → Type 0
TouchesMore sessions k v = (r : ℕ) → touched v r ≡ true → (touched (place sessions k) r ≡ true) ⊎ ((m : ℕ) → (m ≡ k → ⊥) → wrote (place sessions m) r ≡ true → ⊥)

pub apart_set : (sessions : List (Option Session)) (k : ℕ) (v : Option Session) → Apart sessions → WritesMore sessions k v → TouchesMore sessions k v → Apart (slice_set sessions k v)
apart_set sessions k v apart writes touches = grind (arith, common_steps)

-- What a session has after one more read or write.

pub reads_wrote : (numbers : List ℕ) (o : Option Session) (r : ℕ) → wrote (option_map (having_read numbers) o) r ≡ wrote o r
reads_wrote numbers None r = refl
reads_wrote numbers (Some session) r = refl

pub reads_touched : (numbers : List ℕ) (o : Option Session) (r : ℕ) → touched (option_map (having_read numbers) o) r ≡ true →
    (touched o r ≡ true) ⊎ (list_any (λ read. read == r) numbers ≡ true)
reads_touched numbers None r h = absurd cc
reads_touched numbers (Some session) r h = grind (arith, common_steps)

one_number : (number r : ℕ) → ((number == r) || false) ≡ true → number ≡ r
one_number number r h = elim (or_cases (number == r) false h) [ inl e ↦ eqb-true number r e | inr e ↦ absurd cc ]

pub writes_wrote : (write : state.Write) (o : Option Session) (r : ℕ) → wrote (option_map (having_written write) o) r ≡ true →
    (wrote o r ≡ true) ⊎ (write.0 ≡ r)
writes_wrote write None r h = absurd cc
writes_wrote write (Some session) r h = grind (arith, common_steps)

pub writes_touched : (write : state.Write) (o : Option Session) (r : ℕ) → touched (option_map (having_written write) o) r ≡ true →
    (touched o r ≡ true) ⊎ (write.0 ≡ r)
writes_touched write None r h = absurd cc
writes_touched write (Some session) r h = grind (arith, common_steps)

-- What a session has that is renewed, and has touched what it had.
same_wrote : (f : Session → Session) → ((session : Session) → (f session).wrote ≡ session.wrote) → (o : Option Session) (r : ℕ) → wrote (option_map f o) r ≡ wrote o r
same_wrote f keeps None r = refl
same_wrote f keeps (Some session) r = ap (list_any (λ number. number == r)) (keeps session)

same_touched : (f : Session → Session) → ((session : Session) → (f session).wrote ≡ session.wrote) → ((session : Session) → (f session).reads ≡ session.reads) →
    (o : Option Session) (r : ℕ) → touched (option_map f o) r ≡ touched o r
same_touched f keeps reads None r = refl
same_touched f keeps reads (Some session) r =
    ap (λ (b : Bool). b || list_any (λ read. read == r) (f session).reads) (same_wrote f keeps (Some session) r)
    ∙ ap (λ (l : List ℕ). wrote (Some session) r || list_any (λ read. read == r) l) (reads session)

-- What the tests say.

pub all_pass : (tests : List (Option Reply)) → first_refusal tests ≡ None → AllByRecursion (λ a. a ≡ None) tests
all_pass [] h = tt
all_pass (None ∷ tests) h = (refl, all_pass tests h)
all_pass (Some refused ∷ tests) h = absurd cc

pub pass_all : (tests : List (Option Reply)) → AllByRecursion (λ a. a ≡ None) tests → first_refusal tests ≡ None
pass_all [] h = refl
pass_all (None ∷ tests) h = pass_all tests h.1
pass_all (Some refused ∷ tests) h = let e : Some refused ≡ None = h.0 in absurd cc

pub no_holder : (holder : Option ℕ) → option_map reply.Busy holder ≡ None → holder ≡ None
no_holder None h = refl
no_holder (Some n) h = absurd cc

nobody : (sessions : List (Option Session)) → length sessions ≡ 8 → (other : ℕ → Bool) (test : Option Session → Bool) → test None ≡ false →
    find (λ n. other n && test (place sessions n)) (range_with_len 0 8) ≡ None → (m : ℕ) → other m ≡ true → test (place sessions m) ≡ false
nobody sessions long other test none h m o = elim (cases_lt m 8) [
  | inl below ↦ rest (other m) o (none_passes (λ n. other n && test (place sessions n)) 0 8 h m (omega arith) (omega arith))
  | inr beyond ↦ ap test (get_beyond sessions m (omega arith)) ∙ none
]
  where
    rest : (b : Bool) → b ≡ true → (b && test (place sessions m)) ≡ false → test (place sessions m) ≡ false
    rest true e k = k
    rest false e k = absurd cc

is_another : (n m : ℕ) → (m ≡ n → ⊥) → is_other (Some n) m ≡ true
is_another n m d = ap not (ne_eqb n m (λ e. d (sym e)))

pub unread : (s : State) (n r : ℕ) → length s.sessions ≡ 8 → may_read s (Some n) r ≡ None → (m : ℕ) → (m ≡ n → ⊥) → wrote (place s.sessions m) r ≡ true → ⊥
unread s n r long h m d w = not_both _ w (nobody s.sessions long (is_other (Some n)) (λ o. wrote o r) refl (no_holder (busy_read s (Some n) r) h) m (is_another n m d))

pub unwritten : (s : State) (n r : ℕ) → length s.sessions ≡ 8 → may_write s (Some n) r ≡ None → (m : ℕ) → (m ≡ n → ⊥) → touched (place s.sessions m) r ≡ true → ⊥
unwritten s n r long h m d w = not_both _ w (nobody s.sessions long (is_other (Some n)) (λ o. touched o r) refl (no_holder (busy_write s (Some n) r) h) m (is_another n m d))

pub untouched : (s : State) (r : ℕ) → length s.sessions ≡ 8 → may_write s None r ≡ None → (m : ℕ) → touched (place s.sessions m) r ≡ true → ⊥
untouched s r long h m w = not_both _ w (nobody s.sessions long (is_other None) (λ o. touched o r) refl (no_holder (busy_write s None r) h) m refl)

-- Each accepted command keeps the sessions apart.

wrote_touched : (o : Option Session) (r : ℕ) → wrote o r ≡ true → touched o r ≡ true
wrote_touched o r h = or_left (wrote o r) _ h

reading : (s : State) (n : ℕ) (numbers : List ℕ) → length s.sessions ≡ 8 → Apart s.sessions → ((r : ℕ) → list_any (λ read. read == r) numbers ≡ true → may_read s (Some n) r ≡ None) →
    Apart (slice_set s.sessions n (option_map (having_read numbers) (place s.sessions n)))
reading s n numbers long apart free = grind (arith, apart_set, reads_wrote, reads_touched, unread)

writing : (s : State) (n : ℕ) (write : state.Write) → length s.sessions ≡ 8 → Apart s.sessions → may_write s (Some n) write.0 ≡ None →
    Apart (slice_set s.sessions n (option_map (having_written write) (place s.sessions n)))
writing s n write long apart free = apart_set s.sessions n _ apart
    (λ r h. elim (writes_wrote write (place s.sessions n) r h) [ inl old ↦ inl old | inr new ↦ inr (subst (λ (q : ℕ). (m : ℕ) → (m ≡ n → ⊥) → touched (place s.sessions m) q ≡ true → ⊥) new (unwritten s n write.0 long free)) ])
    (λ r h. elim (writes_touched write (place s.sessions n) r h) [
      | inl old ↦ inl old
      | inr new ↦ inr (subst (λ (q : ℕ). (m : ℕ) → (m ≡ n → ⊥) → wrote (place s.sessions m) q ≡ true → ⊥) new (λ m d w. unwritten s n write.0 long free m d (wrote_touched (place s.sessions m) write.0 w)))
    ])

renewing : (s : State) (n : ℕ) (f : Session → Session) → ((session : Session) → (f session).wrote ≡ session.wrote) → ((session : Session) → (f session).reads ≡ session.reads) →
    Apart s.sessions → Apart (slice_set s.sessions n (option_map f (place s.sessions n)))
renewing s n f keeps reads apart = apart_set s.sessions n _ apart
    (λ r h. inl (sym (same_wrote f keeps (place s.sessions n) r) ∙ h)) (λ r h. inl (sym (same_touched f keeps reads (place s.sessions n) r) ∙ h))

with_none : (s : State) (n : ℕ) (o : Option Session) → ((r : ℕ) → wrote o r ≡ false) → ((r : ℕ) → touched o r ≡ false) → Apart s.sessions → Apart (slice_set s.sessions n o)
with_none s n o writes touches apart = apart_set s.sessions n o apart (λ r h. not_both _ h (writes r)) (λ r h. not_both _ h (touches r))

pub one_is : (number r : ℕ) → list_any (λ read. read == r) (number ∷ []) ≡ true → number ≡ r
one_is number r h = one_number number r h

pub locks_kept : (s : State) (command : Command) → length s.sessions ≡ 8 → refusal s command ≡ None → Apart s.sessions → Apart (effect (ready s command) command).sessions
locks_kept s (Begin n) long h apart = with_none s n _ (λ r. refl) (λ r. refl) apart
locks_kept s (Read n number) long h apart = let tests = all_pass (wants_active s n ∷ wants_record s number ∷ may_read s (Some n) number ∷ []) h in
    reading s n (number ∷ []) long apart (λ r e. subst (λ (q : ℕ). may_read s (Some n) q ≡ None) (one_is number r e) tests.1.1.0)
locks_kept s (Write n number value) long h apart = let tests = all_pass (wants_active s n ∷ wants_record s number ∷ wants_short value ∷ may_write s (Some n) number ∷ []) h in
    writing s n (number, Some value) long apart tests.1.1.1.0
locks_kept s (Erase n number) long h apart = let tests = all_pass (wants_active s n ∷ wants_record s number ∷ may_write s (Some n) number ∷ []) h in
    writing s n (number, None) long apart tests.1.1.0
locks_kept s (Scan n number count) long h apart = let tests = all_pass (wants_active s n ∷ wants_record s (number + count - 1) ∷ map (may_read s (Some n)) (range_with_len number count)) h in
    reading s n (range_with_len number count) long apart (λ r e. all_member (λ q. may_read s (Some n) q ≡ None) (range_with_len number count) r (each_of_map (may_read s (Some n)) (λ a. a ≡ None) (range_with_len number count) tests.1.1) e)
locks_kept s (Commit n) long h apart = with_none s n None (λ r. refl) (λ r. refl) apart
locks_kept s (Abort n) long h apart = with_none s n None (λ r. refl) (λ r. refl) apart
locks_kept s (Mark n) long h apart = renewing s n having_marked (λ session. refl) (λ session. refl) apart
locks_kept s (Back n standing) long h apart = renewing s n (going_back standing) (λ session. refl) (λ session. refl) apart
locks_kept s _ long h apart = apart
