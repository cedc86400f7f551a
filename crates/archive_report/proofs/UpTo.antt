-- The lines of the live blocks are told one after the other.
use Rattle.archive_report.proofs.Names.{◌≡◌, ℕ, ◌+◌, ◌≤◌, ◌<◌, List, [], ◌∷◌, ◌++◌, refl, sym, ◌∙◌, ap, subst, append_assoc, append-nil, concat, Ok, Err, codes, blocks_from, oldest_in, HasTold, TellsLines, Halt, block_text, region, units_in, Units, unit_at, Ring, State}
use Rattle.archive_report.proofs.LiveBlocks.{block_first, no_blocks, units_later}
use Rattle.archive_report.proofs.Told.{all_told, nothing_told, tells_first, tells_then, told_all}

-- the lines of the blocks up to a number were told
pub record ToldUpTo (ring : Ring) (from number : ℕ) (old now : State) : Type 0 where
  pub before : List (List ℕ)
  pub all : blocks_from ring.shape (units_in ring.shape old) from ≡ before ++ blocks_from ring.shape (units_in ring.shape old) number
  pub told : HasTold (concat before) old now

abbrev pub line_at : Ring → State → ℕ → List ℕ
line_at ring site number = block_text number (unit_at ring.shape (units_in ring.shape site) number) ++ codes "\n"

pub none_told : (ring : Ring) (from : ℕ) (old : State) → ToldUpTo ring from from old old
none_told ring from old = record { before = []; all = refl; told = nothing_told old }

module _ (ring : Ring) (from number : ℕ) (old mid new : State) (so_far : ToldUpTo ring from number old mid) (lives : oldest_in ring.shape (units_in ring.shape old) ≤ number) (below : number < (units_in ring.shape old).hi) where
  abbrev line : List ℕ
  line = line_at ring old number

  same_line : line_at ring mid number ≡ line
  same_line = ap (λ (u : Units). block_text number (unit_at ring.shape u number) ++ codes "\n") (units_later ring.shape old mid so_far.told.same.image)

  all_of_them : blocks_from ring.shape (units_in ring.shape old) from ≡ (so_far.before ++ line ∷ []) ++ blocks_from ring.shape (units_in ring.shape old) (number + 1)
  all_of_them =
      so_far.all ∙ ap (λ (l : List (List ℕ)). so_far.before ++ l) (block_first ring.shape (region ring.shape old) number lives below)
      ∙ sym (append_assoc so_far.before (line ∷ []) (blocks_from ring.shape (units_in ring.shape old) (number + 1)))

  -- one more
  pub one_more : {T : Type 0} (x : T) → TellsLines {T = T} (Ok x) (line_at ring mid number ∷ []) mid new → ToldUpTo ring from (number + 1) old new
  one_more x tells = record {
    before = so_far.before ++ line ∷ [];
    all = all_of_them;
    told = all_told x (so_far.before ++ line ∷ []) old new (tells_then (Ok x) so_far.before (line ∷ []) old mid new so_far.told (subst (λ (l : List ℕ). TellsLines (Ok x) (l ∷ []) mid new) same_line tells));
  }

  -- or it can't be told
  pub stops : {T : Type 0} (h : Halt) → TellsLines {T = T} (Err h) (line_at ring mid number ∷ []) mid new → TellsLines {T = T} (Err h) (blocks_from ring.shape (units_in ring.shape old) from) old new
  stops {T} h tells =
      subst (λ (l : List (List ℕ)). TellsLines {T = T} (Err h) l old new) (sym all_of_them)
      (tells_first h (so_far.before ++ line ∷ []) (blocks_from ring.shape (units_in ring.shape old) (number + 1)) old new
      (tells_then (Err h) so_far.before (line ∷ []) old mid new so_far.told (subst (λ (l : List ℕ). TellsLines {T = T} (Err h) (l ∷ []) mid new) same_line tells)))

-- all of them
pub told_to_end : {T : Type 0} (x : T) (ring : Ring) (from number : ℕ) (old now : State) → ToldUpTo ring from number old now → number ≡ (units_in ring.shape old).hi → TellsLines {T = T} (Ok x) (blocks_from ring.shape (units_in ring.shape old) from) old now
told_to_end x ring from number old now so_far is =
    let all : blocks_from ring.shape (units_in ring.shape old) from ≡ so_far.before =
    so_far.all ∙ ap (λ (l : List (List ℕ)). so_far.before ++ l) (no_blocks ring.shape (region ring.shape old) number is) ∙ append-nil so_far.before in
    subst (λ (l : List (List ℕ)). TellsLines (Ok x) l old now) (sym all) (told_all x so_far.before old now so_far.told)
