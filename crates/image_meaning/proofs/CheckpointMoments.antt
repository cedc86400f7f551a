-- What a crash leaves of a checkpoint.
use Rattle.image_meaning.proofs.Names.{ℕ, List, [], ◌∷◌, Option, subst, Master, AppendsMaster, LeavesFront, MaySave, logical_image_under, IsSoundUnder, LeavesFor, Means, LogRecord, Content, in_sequence, Leaves, LeavesOnly, State, Geometry}
use Rattle.std.specs.Prelude.{◌≡◌}
use Rattle.image_meaning.proofs.Leaving.{front_stands_for}

-- So they do where all that is known of the moments before the master unit is that the devices stood for it.
pub save_stands : (newest : Option Master) (g : Geometry) (old mid new : State) (blocks : List (List LogRecord)) (content : List ℕ) (table : List Content) (count : ℕ) → LeavesOnly old mid (LeavesFor g table count old.told) → mid.told ≡ old.told → IsSoundUnder newest g mid.image blocks → Means (logical_image_under newest g mid.image blocks) table count → MaySave newest g mid.image blocks content → LeavesFront g (AppendsMaster content ∷ []) mid new → LeavesOnly old new (LeavesFor g table count old.told)
save_stands newest g old mid new blocks content table count leaves told sound means may saves =
    in_sequence old mid new (Leaves (LeavesFor g table count old.told)) leaves
    (subst (λ (l : List ℕ). LeavesOnly mid new (LeavesFor g table count l)) told
    (front_stands_for newest g mid new blocks (AppendsMaster content ∷ []) table count sound means (may, λ end made. tt) (tt, tt) saves))
