-- A head by hand: a dirty frame of page 7, whose page has the LSN 41.
use Rattle.std.proofs.Common.{◌≡◌, true, [], ◌∷◌, refl}
use Rattle.byte_fields.specs.FrameHeads.{blank, spelling}

dirty_frame : spelling (record { present = true; dirty = true; page = 7; lsn = 41 }) ≡ 1 ∷ 1 ∷ 0 ∷ 0 ∷ 0 ∷ 0 ∷ 0 ∷ 7 ∷ 0 ∷ 0 ∷ 0 ∷ 0 ∷ 0 ∷ 0 ∷ 0 ∷ 41 ∷ []
unfolding spelling
dirty_frame = refl

no_frame : spelling blank ≡ 0 ∷ 0 ∷ 0 ∷ 0 ∷ 0 ∷ 0 ∷ 0 ∷ 0 ∷ 0 ∷ 0 ∷ 0 ∷ 0 ∷ 0 ∷ 0 ∷ 0 ∷ 0 ∷ []
unfolding spelling
no_frame = refl
