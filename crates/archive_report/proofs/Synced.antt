-- The log is synced, and then lines are told.
use Rattle.archive_report.proofs.Names.{◌≡◌, inl, inr, ⊎_elim, ℕ, List, [], ◌++◌, take, refl, sym, ◌∙◌, ap, subst, append-nil, concat, Result, Ok, Err, IfOk, OnOk, Answers, IsAnswer, IsLogRing, OnlySyncs, Tells, TellsAnswer, TellsSynced, synced, Halt, Finds, units_in, IsRing, units_of, Ring, Shape, in_sequence, each_weaker, EachMoment, State, Image, Moment, content_of, TellsPart}
use Rattle.archive_report.proofs.Told.{part_more}

-- what is told behind the sync
pub part_synced : (text : List ℕ) (old mid : State) (m : Moment) → mid.image ≡ old.image → mid.told ≡ old.told → mid.loose ≡ synced old → TellsPart text mid m → TellsPart text (record old { loose = synced old }) m
part_synced text old mid m image told loose part = record {
  image = part.image ∙ image;
  loose = part.loose ∙ loose;
  told = λ j. let some = part.told j in (some.0, some.1 ∙ ap (λ (l : List ℕ). l ++ take some.0 text) told);
}

-- nothing is a front of any text
pub nothing_yet : (fault text : List ℕ) (old : State) (m : Moment) → TellsSynced [] [] old m → TellsSynced fault text old m
nothing_yet fault text old m (inl part) = inl (part_more [] fault old m part)
nothing_yet fault text old m (inr part) = inr (part_more [] text (record old { loose = synced old }) m part)

pub told_synced : (text : List ℕ) (old mid new : State) → OnlySyncs old mid → mid.loose ≡ synced old → EachMoment mid new (TellsPart text mid) → EachMoment old new (TellsSynced [] text old)
told_synced text old mid new syncs loose tells =
    in_sequence old mid new (TellsSynced [] text old)
    (each_weaker old mid (TellsSynced [] [] old) (TellsSynced [] text old) (nothing_yet [] text old) syncs.moments)
    (each_weaker mid new (TellsPart text mid) (TellsSynced [] text old) (λ (m : Moment) part. inr (part_synced text old mid m syncs.image syncs.told loose part)) tells)

-- the answer of the ring is that of the image
answers_of : (ring : Ring) (from status : ℕ) (lines : List (List ℕ)) (old mid : State) → IsLogRing ring mid → Finds ring mid → mid.image ≡ old.image → IsAnswer ring.shape (units_in ring.shape mid) from status lines → Answers from old.image status lines
answers_of ring from status lines old mid log finds same is =
    let here : Answers from mid.image status lines = record {
      g = log.g;
      log = record { limits = log.limits; lengths = log.lengths; form = subst (λ (s : Shape). IsRing s (content_of s.dev mid.image)) log.shape finds.form };
      is = subst (λ (s : Shape). IsAnswer s (units_of s (content_of s.dev mid.image)) from status lines) log.shape is;
    } in
    subst (λ (i : Image). Answers from i status lines) same here

pub answer_told : (ring : Ring) (from : ℕ) (result : Result ℕ Halt) (old mid new : State) → OnlySyncs old mid → mid.loose ≡ synced old → IsLogRing ring mid → Finds ring mid → TellsAnswer ring from result mid new → Tells from result old new
answer_told ring from result old mid new syncs loose log finds a =
    let answers : Answers from old.image a.status a.lines = answers_of ring from a.status a.lines old mid log finds syncs.image a.is in
    record {
      done = a.tells.done;
      rest = a.tells.rest;
      right = inr (a.status, subst (λ (l : List (List ℕ)). Answers from old.image a.status l) a.tells.are answers);
      moments = told_synced (concat a.tells.done) old mid new syncs loose a.tells.moments;
      image = a.tells.same.image ∙ syncs.image;
      left = a.tells.same.left ∙ syncs.left;
      loose = inr (a.tells.same.loose ∙ loose);
      told = λ none. a.tells.told none ∙ ap (λ (l : List ℕ). l ++ concat a.tells.done) syncs.told;
      all = whole result a.status a.lines a.tells.done a.tells.rest answers a.tells.are a.status_is a.tells.all;
    }
  where
    whole : (result : Result ℕ Halt) (status : ℕ) (lines done rest : List (List ℕ)) → Answers from old.image status lines → lines ≡ done ++ rest → IfOk result (λ s. s ≡ status) → OnOk result (rest ≡ []) → IfOk result (λ s. Answers from old.image s done)
    whole (Ok s) status lines done rest answers are is all =
        subst (λ (n : ℕ). Answers from old.image n done) (sym is)
        (subst (λ (l : List (List ℕ)). Answers from old.image status l) (are ∙ ap (λ (l : List (List ℕ)). done ++ l) all ∙ append-nil done) answers)
    whole (Err h) status lines done rest answers are is all = tt

-- no ring is found
pub nothing_found : (from : ℕ) (h : Halt) (old new : State) → OnlySyncs old new → Tells from (Err h) old new
nothing_found from h old new syncs = record {
  done = [];
  rest = [];
  right = inl refl;
  moments = syncs.moments;
  image = syncs.image;
  left = syncs.left;
  loose = ⊎_elim (λ same. inl (same, refl)) (λ is. inr is) syncs.loose;
  told = λ none. syncs.told ∙ sym (append-nil old.told);
  all = tt;
}
