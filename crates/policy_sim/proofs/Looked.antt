-- The first pages of the list, one by one.
use Rattle.policy_sim.proofs.Names.{◌≡◌, ℕ, ◌+◌, ◌<◌, ◌≤◌, List, [], ◌∷◌, ◌++◌, length, take, map, arith, sym, ap, ◌∙◌, append-nil, append_assoc, length-append, map-append, length-map, take_all, take_at, take_more_set, slice_set, IsListedBy, listed_of, pages_in, candidates, Entry, Queue, has_frame, PoolMark}
use Rattle.policy_sim.proofs.Pooled.{Entries}
use Rattle.policy_sim.proofs.Struck.{Listed, listed_movable, mark_in}
use Rattle.std.proofs.lemmas.Grind.{common_steps}

-- some were looked at, and these are still to come
pub record IsLooked (queue : Queue) (all rest : Listed) (found : List PoolMark) (count : ℕ) : Type 0 where
  pub front : Listed
  pub split : all ≡ front ++ rest
  pub count_is : length front ≡ count
  pub found_are : take count found ≡ map (mark_in queue) front

pub look_goes_on : (queue : Queue) (all rest next : Listed) (w : ℕ × Entry) (found more : List PoolMark) (count : ℕ) → IsLooked queue all rest found count → rest ≡ w ∷ next
    → more ≡ slice_set found count (mark_in queue w) → count < length found → IsLooked queue all next more (count + 1)
look_goes_on queue all rest next w found more count looked is set less = record {
  front = looked.front ++ w ∷ [];
  split = looked.split ∙ ap (λ (l : Listed). looked.front ++ l) is ∙ sym (append_assoc looked.front (w ∷ []) next);
  count_is = let long = length-append looked.front (w ∷ []) in let count_is = looked.count_is in omega (arith, long, count_is);
  found_are =
      ap (take (count + 1)) set ∙ take_more_set found count (mark_in queue w) less ∙ ap (λ (l : List PoolMark). l ++ mark_in queue w ∷ []) looked.found_are
      ∙ sym (map-append (mark_in queue) looked.front (w ∷ []));
}

listed_are : (queue : Queue) (es : Entries) (all : Listed) → all ≡ listed_of es → IsListedBy (has_frame queue) es → candidates queue (pages_in es) ≡ take 7 (map (mark_in queue) all)
listed_are queue es all is listed = ap (take 7) (sym (listed_movable queue es listed)) ∙ ap (λ (l : Listed). take 7 (map (mark_in queue) l)) (sym is)

pub look_has_enough : (queue : Queue) (es : Entries) (all rest : Listed) (found : List PoolMark) (count : ℕ) → all ≡ listed_of es → IsListedBy (has_frame queue) es → IsLooked queue all rest found count
    → count ≡ 7 → take count found ≡ candidates queue (pages_in es)
look_has_enough queue es all rest found count is listed looked enough = grind (arith, common_steps, listed_are, mark_in, map-append, take_at, length-map)

pub look_ends : (queue : Queue) (es : Entries) (all rest : Listed) (found : List PoolMark) (count : ℕ) → all ≡ listed_of es → IsListedBy (has_frame queue) es → IsLooked queue all rest found count
    → rest ≡ [] → count ≤ 7 → take count found ≡ candidates queue (pages_in es)
look_ends queue es all rest found count is listed looked none few = grind (arith, common_steps, length-map, mark_in, listed_are, append-nil, take_all)
