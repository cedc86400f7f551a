-- What holds of an active session at each moment.
use Rattle.std.proofs.lemmas.Grind.{common_steps}
use Rattle.record_model.proofs.Citing.{◌≡◌, ℕ, zero, suc, Bool, true, List, [], ◌∷◌, Option, Some, None, inl, inr, refl, sym, ◌∙◌, subst, arith, list_any, ◌⊎◌, slice_index_or, slice_set, take, option_map, IsSoundSession, AreSound, SessionsStaySound, Session, State, outcome, refusal, ready, lacks_room, fills_page, effect, having_read, having_written, having_marked, going_back, left_standing, CacheLine, Command, Begin, Read, Write, Erase, Scan, Commit, Abort, Mark, Back, Reply}
use Rattle.record_model.proofs.StepLaws.{each_outcome}
use Rattle.record_model.specs.State as state

-- A place has what was put there, or what it had.
pub placed_or : (sessions : List (Option Session)) (n : ℕ) (v : Option Session) (k : ℕ) →
    (slice_index_or (slice_set sessions n v) k None ≡ v) ⊎ (slice_index_or (slice_set sessions n v) k None ≡ slice_index_or sessions k None)
placed_or [] n v k = inr refl
placed_or (o ∷ sessions) zero v zero = inl refl
placed_or (o ∷ sessions) zero v (suc k) = inr refl
placed_or (o ∷ sessions) (suc n) v zero = inr refl
placed_or (o ∷ sessions) (suc n) v (suc k) = placed_or sessions n v k

-- A session in another's place, and one that is renewed.

sound_set : (sessions : List (Option Session)) (n : ℕ) (v : Option Session) → AreSound sessions → ((session : Session) → v ≡ Some session → IsSoundSession session) →
    AreSound (slice_set sessions n v)
sound_set sessions n v sound new k session e = elim (placed_or sessions n v k) [
  | inl put ↦ new session (sym put ∙ e)
  | inr old ↦ sound k session (sym old ∙ e)
]

renewed : (sessions : List (Option Session)) (n : ℕ) (f : Session → Session) → AreSound sessions → ((session : Session) → IsSoundSession session → IsSoundSession (f session)) →
    AreSound (slice_set sessions n (option_map f (slice_index_or sessions n None)))
renewed sessions n f sound keeps = sound_set sessions n _ sound (new (slice_index_or sessions n None) refl)
  where
    new : (o : Option Session) → slice_index_or sessions n None ≡ o → (session : Session) → option_map f o ≡ Some session → IsSoundSession session
    new None is session e = absurd cc
    new (Some old) is session e = let same : f old ≡ session = cc in subst IsSoundSession same (keeps old (sound n old is))

-- Each change of a session.

begun : (born : ℕ) → IsSoundSession (record { born = born; writes = []; mark = 0; wrote = []; reads = [] })
begun born = record { written = λ number h. h; few = omega arith; marked = omega arith }

read : (numbers : List ℕ) (session : Session) → IsSoundSession session → IsSoundSession (having_read numbers session)
read numbers session sound = record { written = sound.written; few = sound.few; marked = sound.marked }

wrote : (write : state.Write) (session : Session) → IsSoundSession session → IsSoundSession (having_written write session)
wrote write session sound = grind (arith, common_steps)

marked : (session : Session) → IsSoundSession session → IsSoundSession (having_marked session)
marked session sound = record { written = sound.written; few = sound.few; marked = omega arith }

any_of_front : (A : Type 0) (test : A → Bool) (k : ℕ) (xs : List A) → list_any test (take k xs) ≡ true → list_any test xs ≡ true
any_of_front A test zero xs h = absurd cc
any_of_front A test (suc k) [] h = absurd cc
any_of_front A test (suc k) (x ∷ xs) h = grind (arith, common_steps, (any_of_front A test k xs))

went_back : (standing : Option ℕ) (session : Session) → IsSoundSession session → IsSoundSession (going_back standing session)
went_back standing session sound = record {
  written = λ number h. sound.written number (any_of_front _ _ (left_standing standing session) session.writes h);
  few = let few = sound.few in grind (arith, common_steps);
  marked = let marked = sound.marked in grind (arith, common_steps);
}

-- Each step.

effect_sound : (s : State) (command : Command) → AreSound s.sessions → AreSound (effect s command).sessions
effect_sound s (Begin n) sound = sound_set s.sessions n _ sound (λ session e. subst (λ o. (session : Session) → o ≡ Some session → IsSoundSession session) refl (first s.made) session e)
  where
    first : (born : ℕ) (session : Session) → Some (record { born = born; writes = []; mark = 0; wrote = []; reads = [] }) ≡ Some session → IsSoundSession session
    first born session e = let same : record { born = born; writes = []; mark = 0; wrote = []; reads = [] } ≡ session = cc in subst IsSoundSession same (begun born)
effect_sound s (Read n number) sound = renewed s.sessions n (having_read (number ∷ [])) sound (read (number ∷ []))
effect_sound s (Write n number value) sound = renewed s.sessions n (having_written (number, Some value)) sound (wrote (number, Some value))
effect_sound s (Erase n number) sound = renewed s.sessions n (having_written (number, None)) sound (wrote (number, None))
effect_sound s (Scan n number count) sound = renewed s.sessions n _ sound (read _)
effect_sound s (Commit n) sound = sound_set s.sessions n None sound (λ session e. absurd cc)
effect_sound s (Abort n) sound = sound_set s.sessions n None sound (λ session e. absurd cc)
effect_sound s (Mark n) sound = renewed s.sessions n having_marked sound marked
effect_sound s (Back n standing) sound = renewed s.sessions n (going_back standing) sound (went_back standing)
effect_sound s _ sound = sound

outcome_sound : (s : State) (command : Command) (listing : List CacheLine) (r : Option Reply) → AreSound s.sessions → AreSound (outcome s command listing r).after.sessions
outcome_sound s command listing (Some refused) sound = sound
outcome_sound s command listing None sound =
    each_outcome (λ o. AreSound o.after.sessions) (ready s command) command listing (lacks_room (ready s command) command) (fills_page (ready s command) command)
    sound (λ refused is. sound) (effect_sound (ready s command) command sound)

pub sessions_stay_sound : SessionsStaySound
sessions_stay_sound s None listing sound = sound
sessions_stay_sound s (Some command) listing sound = outcome_sound s command listing (refusal s command) sound
