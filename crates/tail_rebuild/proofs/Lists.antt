-- A list of heads that is the front of another one.
use Rattle.tail_rebuild.proofs.Names.{◌≡◌, ℕ, ◌≤◌, ◌<◌, List, [], ◌∷◌, ◌++◌, length, get_or, take, sym, ap, ◌∙◌, take_more, length-append, take_all, FrameHead, IsFront}

-- with the next one
pub front_more : (all list : List (List FrameHead)) (heads : List FrameHead) → IsFront all list → length list < length all → heads ≡ get_or all (length list) [] → IsFront all (list ++ heads ∷ [])
front_more all list heads front less is =
    (λ i. front i ++ is i ∷ []) ∙ sym (take_more all (length list) [] less) ∙ ap (λ (n : ℕ). take n all) (sym (length-append list (heads ∷ [])))

-- as long as the other one it is the other one
pub front_whole : (all list : List (List FrameHead)) → IsFront all list → length all ≤ length list → list ≡ all
front_whole all list front long = front ∙ take_all (length list) all long
