-- What stands when a session has gone back to its mark.
use Rattle.record_model.proofs.Citing.{◌≡◌, ℕ, zero, suc, ◌<◌, Bool, true, false, List, [], ◌∷◌, ◌++◌, length, append_assoc, Option, Some, None, inl, inr, refl, ap, sym, ◌∙◌, subst, arith, or_parts, and_parts, list_any, ◌==◌, ◌||◌, nat_le, min, slice_index_or, slice_set, take, option_map, is_none, is_some, if◌then◌else◌, moves_mark, BackToTheMark, Line, line_step, turns, left_by, is_quit, next_listing, later_listings, Session, State, session_at, writes_of, Outcome, step, outcome, refusal, first_refusal, refuse_if, ready, lacks_room, fills_page, effect, having_read, having_written, having_marked, going_back, CacheLine, Command, Begin, Read, Write, Erase, Scan, Commit, Abort, Mark, Back, Reply, BadSession, none_if_is_none}
use Rattle.std.proofs.Math.Seq.{take-append_seam}
use Rattle.record_model.proofs.StepLaws.{each_outcome}
use Rattle.record_model.proofs.SerialAlone.{step_through}
use Rattle.record_model.proofs.SerialLists.{not_both, same_is, get_set_same}
use Rattle.record_model.proofs.PageLaws.{set_or}
use Rattle.record_model.specs.declared.words.Reply.TheVariants as reply
use Rattle.record_model.specs.State as state

-- what stood at the mark stands in front of the rest
record FromMark (front : List state.Write) (session : Session) : Type 0 where
  rest : List state.Write
  mark : session.mark ≡ length front
  writes : session.writes ≡ front ++ rest

record HasMark (n : ℕ) (front : List state.Write) (sessions : List (Option Session)) : Type 0 where
  session : Session
  active : slice_index_or sessions n None ≡ Some session
  from : FromMark front session

-- Another session changes, or this one does and keeps that.

other_set : (n m : ℕ) (front : List state.Write) (sessions : List (Option Session)) (v : Option Session) → (m ≡ n → ⊥) → HasMark n front sessions → HasMark n front (slice_set sessions m v)
other_set n m front sessions v d has = elim (set_or sessions m v None n) [
  | inl put ↦ absurd (d put.1)
  | inr old ↦ record { session = has.session; active = old ∙ has.active; from = has.from }
]

renewed : (n m : ℕ) (front : List state.Write) (sessions : List (Option Session)) (f : Session → Session) → ((session : Session) → FromMark front session → FromMark front (f session)) →
    HasMark n front sessions → HasMark n front (slice_set sessions m (option_map f (slice_index_or sessions m None)))
renewed n m front sessions f keeps has = elim (set_or sessions m (option_map f (slice_index_or sessions m None)) None n) [
  | inl put ↦ record {
    session = f has.session;
    active = put.0 ∙ ap (λ (k : ℕ). option_map f (slice_index_or sessions k None)) put.1 ∙ ap (option_map f) has.active;
    from = keeps has.session has.from;
  }
  | inr old ↦ record { session = has.session; active = old ∙ has.active; from = has.from }
]

more_written : (front : List state.Write) (write : state.Write) (session : Session) → FromMark front session → FromMark front (having_written write session)
more_written front write session from = record {
  rest = from.rest ++ write ∷ [];
  mark = from.mark;
  writes = ap (λ (l : List state.Write). l ++ write ∷ []) from.writes ∙ append_assoc front from.rest (write ∷ []);
}

left_at_mark : (front : List state.Write) (session : Session) → FromMark front session → (going_back None session).writes ≡ front
left_at_mark front session from = ap (λ (k : ℕ). take k session.writes) from.mark ∙ ap (take (length front)) from.writes ∙ take-append_seam front from.rest

gone_back : (front : List state.Write) (session : Session) → FromMark front session → FromMark front (going_back None session)
gone_back front session from = record {
  rest = [];
  mark = same session.mark ∙ from.mark;
  writes = left_at_mark front session from ∙ nothing_more front;
}
  where
    same : (k : ℕ) → min k k ≡ k
    same k = omega arith

    nothing_more : (l : List state.Write) → l ≡ l ++ []
    nothing_more [] = refl
    nothing_more (x ∷ l) = ap (λ (l : List state.Write). x ∷ l) (nothing_more l)

-- Each step.

apart : (m n : ℕ) → (m == n) ≡ false → m ≡ n → ⊥
apart m n h e = not_both (m == n) (subst (λ (k : ℕ). (m == k) ≡ true) e (same_is m)) h

begun_is : (s : State) (n : ℕ) (session : Session) → session_at s n ≡ Some session → refusal s (Begin n) ≡ None → ⊥
begun_is s n session active h = by (nat_le 8 n) (session_at s n) active h
  where
    by : (b : Bool) (o : Option Session) → o ≡ Some session → refuse_if (b || is_some o) (reply.Refused BadSession) ≡ None → ⊥
    by true o e h = absurd cc
    by false None e h = absurd cc
    by false (Some other) e h = absurd cc

effect_has : (s : State) (command : Command) (n : ℕ) (front : List state.Write) → refusal s command ≡ None → moves_mark n (Some command) ≡ false →
    HasMark n front s.sessions → HasMark n front (effect (ready s command) command).sessions
effect_has s (Begin m) n front h stays has = other_set n m front s.sessions _ (λ e. begun_is s m has.session (ap (session_at s) e ∙ has.active) h) has
effect_has s (Read m number) n front h stays has = renewed n m front s.sessions (having_read (number ∷ [])) (λ session from. record { rest = from.rest; mark = from.mark; writes = from.writes }) has
effect_has s (Write m number value) n front h stays has = renewed n m front s.sessions (having_written (number, Some value)) (more_written front (number, Some value)) has
effect_has s (Erase m number) n front h stays has = renewed n m front s.sessions (having_written (number, None)) (more_written front (number, None)) has
effect_has s (Scan m number count) n front h stays has = renewed n m front s.sessions (having_read _) (λ session from. record { rest = from.rest; mark = from.mark; writes = from.writes }) has
effect_has s (Commit m) n front h stays has = other_set n m front s.sessions None (apart m n stays) has
effect_has s (Abort m) n front h stays has = other_set n m front s.sessions None (apart m n stays) has
effect_has s (Mark m) n front h stays has = other_set n m front s.sessions _ (apart m n stays) has
effect_has s (Back m None) n front h stays has = renewed n m front s.sessions (going_back None) (gone_back front) has
effect_has s (Back m (Some standing)) n front h stays has = other_set n m front s.sessions _ (apart m n stays) has
effect_has s _ n front h stays has = has

outcome_has : (s : State) (command : Command) (listing : List CacheLine) (n : ℕ) (front : List state.Write) (r : Option Reply) → refusal s command ≡ r → moves_mark n (Some command) ≡ false →
    HasMark n front s.sessions → HasMark n front (outcome s command listing r).after.sessions
outcome_has s command listing n front (Some refused) e stays has = has
outcome_has s command listing n front None e stays has =
    each_outcome (λ o. HasMark n front o.after.sessions) (ready s command) command listing (lacks_room (ready s command) command) (fills_page (ready s command) command)
    has (λ refused is. has) (effect_has s command n front e stays has)

line_has : (s : State) (line : Line) (listing : List CacheLine) (n : ℕ) (front : List state.Write) → moves_mark n line ≡ false → HasMark n front s.sessions → HasMark n front (line_step s line listing).after.sessions
line_has s None listing n front stays has = has
line_has s (Some command) listing n front stays has = outcome_has s command listing n front (refusal s command) refl stays has

lines_have : (s : State) (lines : List Line) (listings : List (List CacheLine)) (n : ℕ) (front : List state.Write) → list_any (moves_mark n) lines ≡ false → HasMark n front s.sessions →
    HasMark n front (left_by s (turns s lines listings)).sessions
lines_have s [] listings n front stays has = has
lines_have s (line ∷ lines) listings n front stays has =
    let both = or_parts (moves_mark n line) (list_any (moves_mark n) lines) stays in
    let next = line_has s line (next_listing listings) n front both.0 has in
    by (is_quit line) next (lines_have (line_step s line (next_listing listings)).after lines (later_listings line listings) n front both.1 next)
  where
    after : State
    after = (line_step s line (next_listing listings)).after

    by : (b : Bool) → HasMark n front after.sessions → HasMark n front (left_by after (turns after lines (later_listings line listings))).sessions →
        HasMark n front (left_by after (if b then [] else turns after lines (later_listings line listings))).sessions
    by true next rest = next
    by false next rest = rest

-- From the mark to the back.

is_there : (A : Type 0) (xs : List (Option A)) (n : ℕ) (x : A) → slice_index_or xs n None ≡ Some x → n < length xs
is_there A [] n x e = absurd cc
is_there A (y ∷ xs) zero x e = omega arith
is_there A (y ∷ xs) (suc n) x e = let below = is_there A xs n x e in omega (arith, below)

is_active : (o : Option Session) → refuse_if (is_none o) (reply.Refused BadSession) ≡ None → (session : Session) × (o ≡ Some session)
is_active None h = absurd cc
is_active (Some session) h = (session, refl)

marked_has : (s : State) (n : ℕ) → refusal s (Mark n) ≡ None → HasMark n (writes_of (session_at s n)) (effect (ready s (Mark n)) (Mark n)).sessions
marked_has s n h =
    let active = is_active (session_at s n) h in
    record {
      session = having_marked active.0;
      active = get_set_same s.sessions n _ None (is_there Session s.sessions n active.0 active.1) ∙ ap (option_map having_marked) active.1;
      from = record { rest = []; mark = ap (λ (o : Option Session). length (writes_of o)) (sym active.1); writes = ap writes_of (sym active.1) ∙ nothing_more (writes_of (session_at s n)) };
    }
  where
    nothing_more : (l : List state.Write) → l ≡ l ++ []
    nothing_more [] = refl
    nothing_more (x ∷ l) = ap (λ (l : List state.Write). x ∷ l) (nothing_more l)

back_leaves : (s : State) (n : ℕ) (front : List state.Write) → HasMark n front s.sessions → writes_of (session_at (step s (Back n None) []).after n) ≡ front
back_leaves s n front has =
    let passes : refusal s (Back n None) ≡ None = ap (λ (o : Option Session). first_refusal (refuse_if (is_none o) (reply.Refused BadSession) ∷ None ∷ [])) has.active in
    ap (λ (o : Outcome). writes_of (session_at o.after n)) (step_through s (Back n None) [] passes refl refl)
    ∙ ap writes_of (get_set_same s.sessions n _ None (is_there Session s.sessions n has.session has.active) ∙ ap (option_map (going_back None)) has.active)
    ∙ left_at_mark front has.session has.from

pub back_to_the_mark : BackToTheMark
back_to_the_mark s n lines listings accepted stays =
    let passes = none_if_is_none (refusal s (Mark n)) (and_parts _ _ (and_parts _ _ accepted).0).0 in
    let marked = subst (λ (o : Outcome). HasMark n (writes_of (session_at s n)) o.after.sessions) (sym (step_through s (Mark n) [] passes refl refl)) (marked_has s n passes) in
    back_leaves _ n _ (lines_have (step s (Mark n) []).after lines listings n (writes_of (session_at s n)) stays marked)
