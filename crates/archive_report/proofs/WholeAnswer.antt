-- The answer of the ring.
use Rattle.archive_report.proofs.Names.{◌≡◌, ◌≤◌, ◌<◌, ℕ, List, [], ◌∷◌, ◌++◌, refl, inl, inr, ap, subst, Result, Ok, Err, IfOk, codes, ahead_line, archive_of, blocks_from, gone_line, oldest_in, TellsAnswer, TellsLines, Halt, end_text, units_in, Ring, State}
use Rattle.archive_report.proofs.Told.{all_told, tells_answered, tells_failed, tells_first, tells_then}

module _ (ring : Ring) (from : ℕ) (old : State) (lives : oldest_in ring.shape (units_in ring.shape old) ≤ from) (below : from ≤ (units_in ring.shape old).hi) where
  abbrev blocks : List (List ℕ)
  blocks = blocks_from ring.shape (units_in ring.shape old) from

  abbrev last : List ℕ
  last = end_text (units_in ring.shape old).hi ++ codes "\n"

  -- the blocks weren't told
  pub blocks_stop : {A : Type 0} (h : Halt) (new : State) → TellsLines {T = A} (Err h) blocks old new → TellsAnswer ring from (Err h) old new
  blocks_stop h new tells = record {
    status = 0;
    lines = archive_of ring.shape (units_in ring.shape old) from;
    is = inl (lives, below, refl, refl);
    tells = tells_failed h (blocks ++ last ∷ []) old new (tells_first h blocks (last ∷ []) old new tells);
    status_is = tt;
  }

  -- the last line wasn't
  pub end_stops : {A B : Type 0} (x : A) (h : Halt) (line : List ℕ) (mid new : State) → line ≡ last → TellsLines {T = A} (Ok x) blocks old mid → TellsLines {T = B} (Err h) (line ∷ []) mid new → TellsAnswer ring from (Err h) old new
  end_stops {A} {B} x h line mid new is first second = record {
    status = 0;
    lines = archive_of ring.shape (units_in ring.shape old) from;
    is = inl (lives, below, refl, refl);
    tells = tells_failed h (blocks ++ last ∷ []) old new (tells_then (Err h) blocks (last ∷ []) old mid new (all_told x blocks old mid first) (subst (λ (l : List ℕ). TellsLines {T = B} (Err h) (l ∷ []) mid new) is second));
    status_is = tt;
  }

  -- all was told
  pub whole_told : {A B : Type 0} (x : A) (y : B) (status : ℕ) (line : List ℕ) (mid new : State) → status ≡ 0 → line ≡ last → TellsLines {T = A} (Ok x) blocks old mid → TellsLines {T = B} (Ok y) (line ∷ []) mid new → TellsAnswer ring from (Ok status) old new
  whole_told {A} {B} x y status line mid new zero is first second = record {
    status = 0;
    lines = archive_of ring.shape (units_in ring.shape old) from;
    is = inl (lives, below, refl, refl);
    tells = tells_answered y status (blocks ++ last ∷ []) old new (tells_then (Ok y) blocks (last ∷ []) old mid new (all_told x blocks old mid first) (subst (λ (l : List ℕ). TellsLines {T = B} (Ok y) (l ∷ []) mid new) is second));
    status_is = zero;
  }

-- the block lives no more
pub gone_told : (ring : Ring) (from : ℕ) (line : List ℕ) (result : Result ℕ Halt) (old new : State) → from < oldest_in ring.shape (units_in ring.shape old) → line ≡ gone_line (oldest_in ring.shape (units_in ring.shape old)) → TellsLines result (line ∷ []) old new → IfOk result (λ status. status ≡ 12) → TellsAnswer ring from result old new
gone_told ring from line result old new less is tells status_is = record {
  status = 12;
  lines = line ∷ [];
  is = inr (inl (less, refl, ap (λ (l : List ℕ). l ∷ []) is));
  tells = tells;
  status_is = status_is;
}

-- or is behind the next one
pub ahead_told : (ring : Ring) (from : ℕ) (line : List ℕ) (result : Result ℕ Halt) (old new : State) → (units_in ring.shape old).hi < from → line ≡ ahead_line (units_in ring.shape old).hi → TellsLines result (line ∷ []) old new → IfOk result (λ status. status ≡ 12) → TellsAnswer ring from result old new
ahead_told ring from line result old new less is tells status_is = record {
  status = 12;
  lines = line ∷ [];
  is = inr (inr (less, refl, ap (λ (l : List ℕ). l ∷ []) is));
  tells = tells;
  status_is = status_is;
}
