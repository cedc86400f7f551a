-- Which frame is valid, by hand: page 7 stands twice, so the later frame of it is.
use Rattle.std.proofs.Common.{◌≡◌, ℕ, true, false, List, [], ◌∷◌, Some, None, refl}
use Rattle.frame_group.specs.Groups.{Frame}
use Rattle.frame_group.specs.Versions.{last_frame, version}

abbrev frames : List Frame
frames = record { page = 7; dirty = true; octets = 1 ∷ [] } ∷ record { page = 5; dirty = false; octets = 2 ∷ [] } ∷ record { page = 7; dirty = false; octets = 3 ∷ [] } ∷ []

later : last_frame 7 frames ≡ Some (record { page = 7; dirty = false; octets = 3 ∷ [] })
later = refl

none : last_frame 6 frames ≡ None
none = refl

versions : (disk : ℕ → List ℕ) → (version disk frames 7 ≡ 3 ∷ []) × (version disk frames 5 ≡ 2 ∷ []) × (version disk frames 6 ≡ disk 6)
versions disk = (refl, refl, refl)
