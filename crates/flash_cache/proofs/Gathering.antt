-- What was gathered by places so far.
use Rattle.flash_cache.proofs.Names.{◌≡◌, ℕ, ◌+◌, List, [], ◌∷◌, ◌++◌, get_or, map, take, Some, slice_get, ap, ◌∙◌, map-append, take_more, get_or_from_slice_get, slice_get_within}

pub mapped_more : {B : Type 0} (f : ℕ → B) (xs : List ℕ) (n x : ℕ) → slice_get xs n ≡ Some x → map f (take (n + 1) xs) ≡ map f (take n xs) ++ f x ∷ []
mapped_more f xs n x is =
    ap (map f) (take_more xs n 0 (slice_get_within xs n x is)) ∙ map-append f (take n xs) (get_or xs n 0 ∷ [])
    ∙ ap (λ (y : ℕ). map f (take n xs) ++ f y ∷ []) (get_or_from_slice_get xs n x 0 is)
