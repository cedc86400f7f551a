-- How many numbers a run gives to the rings on the log's device, line by line.
use Rattle.std.proofs.lemmas.Grind.{common_steps}
use Rattle.face.proofs.Names.{◌≡◌, ℕ, suc, ◌+◌, ◌≤◌, List, [], ◌∷◌, drop, refl, sym, ◌∙◌, ap, subst, arith, Result, Ok, Err, OnOk, Some, None, if◌then◌else◌, count_nothing, log_under, Invariant, sizes_of, Matches, Engine, Run, after_lines, answered, checkpoints_of, first_lines, line_checkpoints, listing_at, state_at, step, turns_of, IsCounted, GivesNumbers, SkipsNoNumber, made_by, blocks_by, masters_by, checkpoints_in, makes_one, up_to_quit, master_shape, Entry, LogStore, calls_then, CallsForUnits, Line, later_listings, next_listing, turns, State, CacheLine, leaves_more, leaves_unchanged, blocks_to, HasNumbers, SkipsNone, TransactionStore, hi_of, holds_now, in_sequence, unchanged, ok_as, EachMoment, Leaves, LeavesOnly, Site, Image, IsQuiet, TellsPart, Geometry, Stop}
use Rattle.std_lemmas.proofs.Results.{on_ok}
use Rattle.engine.specs.Numbers.{CountsOn, RestartsWithin}
use Rattle.face.proofs.Writings.{images_told}
use Rattle.face.proofs.Pagings.{after_same}
use Rattle.face.proofs.Runs.{state_next, turn_at, turns_next}
use Rattle.face.proofs.LinesBeforeQuit.{count_join, count_one}
use Rattle.face.proofs.Fronts.{lines_first}
use Rattle.face.proofs.Turns.{left_are}
use Rattle.record_model.specs.declared.words.Reply.TheVariants as reply

-- Calls.

-- a call that was Ok, and another answer of its caller
pub counts_as : {A B E F : Type 0} (x : A) (r : Result B F) (old new : Engine) (before now : Site) (s after : State) (n : ℕ) → CountsOn {T = A} {E = E} (Ok x) old new before now s after n → CountsOn r old new before now s after n
counts_as x r old new before now s after n c = grind (arith, on_ok)

-- behind which something is told
pub counts_told : {A B E F : Type 0} (x : A) (r : Result B F) (old new : Engine) (piece : List ℕ) (before mid now : Site) (s after : State) (n : ℕ) → EachMoment mid now (TellsPart piece mid) → OnOk r (CallsForUnits (sizes_of old.store) mid now) → CountsOn {T = A} {E = E} (Ok x) old new before mid s after n →
    CountsOn r old new before now s after n
counts_told x r old new piece before mid now s after n tells calls c = record {
  records = c.records;
  made = c.made;
  skips = record {
    log = on_ok r _ c.log;
    any_moment = images_told (λ (i : Image). HasNumbers (sizes_of old.store) (blocks_to old.store.log + c.records) (hi_of master_shape before.image.log + n) i) piece before mid now c.any_moment tells;
    device_calls = ok_as r _ _ (calls_then (sizes_of old.store) before mid now c.device_calls) calls;
  };
}

-- the error of a call is one of its caller
pub counts_err : {A B E F : Type 0} (e : E) (f : F) (old new : Engine) (before now : Site) (s after : State) (n : ℕ) → CountsOn {T = A} {E = E} (Err e) old new before now s after n → CountsOn {T = B} {E = F} (Err f) old new before now s after n
counts_err e f old new before now s after n c = grind arith

-- a line that asks for no call, and leaves log and pages as they are
pub counts_idle : {T F : Type 0} (r : Result T F) (line : Line) (old new : Engine) (site : Site) (s : State) → new.store ≡ old.store → Matches old site s → Invariant old site → IsQuiet site → s.made ≤ (step s line []).after.made → line_checkpoints s line ≡ 0 →
    CountsOn r old new site site s (step s line []).after (line_checkpoints s line)
counts_idle {T} {F} r line old new site s same fits going quiet few none =
    let after = (step s line []).after in
    let c = counts_as reply.Done r old old site site s after 0 (count_nothing {E = F} reply.Done old site s after fits going quiet few) in
    subst (λ (n : ℕ). CountsOn r old new site site s after n) (sym none) (record {
      records = c.records;
      made = c.made;
      skips = subst (λ (t : TransactionStore). SkipsNone r (sizes_of old.store) old.store.log t.log site site c.records 0) (sym same) c.skips;
    })

-- What the turns of a run make.

-- their records
pub made_all : (run : Run) → made_by run ≡ (after_lines run.opening (answered run) run.listings).made
made_all run = ap (λ (s : State). s.made) (left_are run.opening run.lines run.listings)

pub made_are : (run : Run) (lines : ℕ) → made_by (first_lines run lines) ≡ (state_at run lines).made
made_are run lines = made_all (first_lines run lines) ∙ ap (λ (l : List Line). (after_lines run.opening l run.listings).made) (lines_first run lines)

one_makes : (s : State) (line : Line) → (if makes_one s line then 1 else 0) ≡ line_checkpoints s line
one_makes s None = refl
one_makes s (Some command) = refl

pub turns_make : (s : State) (lines : List Line) (listings : List (List CacheLine)) → checkpoints_in (turns s lines listings) ≡ checkpoints_of s (up_to_quit lines)
turns_make s [] listings = grind (arith, common_steps)
turns_make s (line ∷ lines) listings = grind (arith, common_steps, count_one, one_makes, after_same, count_join, (turns_make (step s line (next_listing listings)).after lines (later_listings line listings)))

-- What one line more makes.

pub made_next : (run : Run) (i : ℕ) (line : Line) (rest : List Line) → drop i (answered run) ≡ line ∷ rest → made_by (first_lines run (suc i)) ≡ (step (state_at run i) line []).after.made
made_next run i line rest is = made_are run (suc i) ∙ ap (λ (s : State). s.made) (state_next run i line rest is ∙ after_same (state_at run i) line (listing_at run i) [])

pub checkpoints_next : (run : Run) (i : ℕ) (line : Line) (rest : List Line) → drop i (answered run) ≡ line ∷ rest → checkpoints_in (turns_of (first_lines run (suc i))) ≡ checkpoints_in (turns_of (first_lines run i)) + line_checkpoints (state_at run i) line
checkpoints_next run i line rest is = grind (arith, turn_at, turns_next, count_join, count_one, one_makes)

-- A run, line by line.

module _ (run : Run) (records : List Entry) (entry : Site) where
  -- the numbers that its first lines give at most
  abbrev blocks_at : ℕ → ℕ
  blocks_at i = blocks_by (first_lines run i) records entry.image

  abbrev masters_at : ℕ → ℕ
  masters_at i = masters_by (first_lines run i) entry.image

  abbrev Given : ℕ → Image → Type 0
  Given i image = GivesNumbers (first_lines run i) records entry.image image

  -- the restart gives none that no line gives
  pub restart_numbers : {T : Type 0} (result : Result T Stop) (log_of : T → LogStore) (mid : Site) → RestartsWithin result log_of run.geometry records entry mid → LeavesOnly entry mid (λ s. Given 0 s.image)
  restart_numbers result log_of mid within = leaves_more run.geometry entry mid _ (blocks_at 0) _ (masters_at 0) (omega arith) (omega arith) within.any_moment

  -- behind which something is told
  pub restart_told : {T : Type 0} (result : Result T Stop) (log_of : T → LogStore) (piece : List ℕ) (mid now : Site) → EachMoment mid now (TellsPart piece mid) → RestartsWithin result log_of run.geometry records entry mid → LeavesOnly entry now (λ s. Given 0 s.image)
  restart_told result log_of piece mid now tells within = images_told (Given 0) piece entry mid now (restart_numbers result log_of mid within) tells

  pub first_counted : (engine : Engine) (piece : List ℕ) (mid now : Site) → EachMoment mid now (TellsPart piece mid) → CallsForUnits run.geometry mid now → RestartsWithin {T = Engine} (Ok engine) (λ e. e.store.log) run.geometry records entry mid → IsCounted run records entry now engine 0
  first_counted engine piece mid now tells calls within = record {
    log = let few = within.log in omega (arith, few);
    numbers = restart_told (Ok engine) (λ e. e.store.log) piece mid now tells within;
    calls = calls_then run.geometry entry mid now within.device_calls calls;
  }

  -- a line more is carried out, however that ends
  module _ (mid new : Site) (engine engine' : Engine) (i : ℕ) (line : Line) (rest : List Line) (is : drop i (answered run) ≡ line ∷ rest) (sizes : sizes_of engine.store ≡ run.geometry) (counted : IsCounted run records entry mid engine i)
      {T E : Type 0} (result : Result T E) (c : CountsOn result engine engine' mid new (state_at run i) (step (state_at run i) line []).after (line_checkpoints (state_at run i) line)) where
    more_blocks : blocks_to engine.store.log + c.records ≤ blocks_at (suc i)
    more_blocks = let was = made_are run i in let made = made_next run i line rest is in let log = counted.log in let some = c.made in omega (arith, was, made, log, some)

    more_masters : hi_of master_shape mid.image.log + line_checkpoints (state_at run i) line ≤ masters_at (suc i)
    more_masters = let has = (holds_now entry mid (λ s. Given i s.image) counted.numbers).masters in let checkpoints = checkpoints_next run i line rest is in omega (arith, has, checkpoints)

    pub counts_next : LeavesOnly entry new (λ s. Given (suc i) s.image)
    counts_next =
        let was = made_are run i in
        let made = made_next run i line rest is in
        let some = c.made in
        let checkpoints = checkpoints_next run i line rest is in
        let own : LeavesOnly mid new (λ s. HasNumbers run.geometry (blocks_to engine.store.log + c.records) (hi_of master_shape mid.image.log + line_checkpoints (state_at run i) line) s.image) =
        subst (λ (g : Geometry). LeavesOnly mid new (λ s. HasNumbers g (blocks_to engine.store.log + c.records) (hi_of master_shape mid.image.log + line_checkpoints (state_at run i) line) s.image)) sizes c.any_moment in
        in_sequence entry mid new (Leaves (λ s. Given (suc i) s.image))
        (leaves_more run.geometry entry mid (blocks_at i) (blocks_at (suc i)) (masters_at i) (masters_at (suc i)) (omega (arith, was, made, some)) (omega (arith, checkpoints)) counted.numbers)
        (leaves_more run.geometry mid new _ (blocks_at (suc i)) _ (masters_at (suc i)) more_blocks more_masters own)

  -- it was answered
  pub next_counted : (mid new : Site) (engine engine' : Engine) (i : ℕ) (line : Line) (rest : List Line) (is : drop i (answered run) ≡ line ∷ rest) → sizes_of engine.store ≡ run.geometry → IsCounted run records entry mid engine i →
      {T E : Type 0} (x : T) → CountsOn {T = T} {E = E} (Ok x) engine engine' mid new (state_at run i) (step (state_at run i) line []).after (line_checkpoints (state_at run i) line) → IsCounted run records entry new engine' (suc i)
  next_counted mid new engine engine' i line rest is sizes counted {T} {E} x c =
      let was = made_are run i in
      let made = made_next run i line rest is in
      let log = counted.log in
      let some = c.made in
      record {
        log = let few = c.log in omega (arith, few, log, was, made, some);
        numbers = counts_next mid new engine engine' i line rest is sizes counted {T = T} {E = E} (Ok x) c;
        calls = calls_then run.geometry entry mid new counted.calls (subst (λ (g : Geometry). CallsForUnits g mid new) sizes c.device_calls);
      }

-- what nothing was done to
pub counts_nothing : (run : Run) (old : Site) → IsQuiet old → SkipsNoNumber (first_lines run 0) old old
counts_nothing run old quiet newest blocks sound = leaves_unchanged old old (λ s. GivesNumbers (first_lines run 0) (log_under newest blocks) old.image s.image) quiet (unchanged old) (record { blocks = omega arith; masters = omega arith })

-- something is told
pub skips_still : (run : Run) (piece : List ℕ) (old mid now : Site) → EachMoment mid now (TellsPart piece mid) → SkipsNoNumber run old mid → SkipsNoNumber run old now
skips_still run piece old mid now tells skips newest blocks sound = images_told (λ (i : Image). GivesNumbers run (log_under newest blocks) old.image i) piece old mid now (skips newest blocks sound) tells
