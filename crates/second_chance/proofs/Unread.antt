-- The queue where a page without a frame in it is read.
use Rattle.second_chance.proofs.Names.{◌≡◌, suc, ℕ, ◌==◌, ◌||◌, ◌&&◌, false, List, [], ◌∷◌, length, refl, ap, ◌∙◌, or_parts, Queue, in_group, in_groups, has_frame, is_last, group_read, groups_read, with_read, Frame}
use Rattle.std_lemmas.proofs.Bools.{or_false}

pub group_read_none : (page : ℕ) (group : List Frame) (later : List (List Frame)) → in_group group page ≡ false → group_read page group later ≡ group
group_read_none page [] later none = refl
group_read_none page (frame ∷ behind) later none =
    let parts = or_parts (frame.page == page) (in_group behind page) none in
    ap (λ b. record frame { referenced = frame.referenced || (b && is_last behind later frame) } ∷ group_read page behind later) parts.0
    ∙ ap (λ b. record frame { referenced = b } ∷ group_read page behind later) (or_false frame.referenced)
    ∙ ap (λ l. frame ∷ l) (group_read_none page behind later parts.1)

pub groups_read_none : (page : ℕ) (groups : List (List Frame)) → in_groups groups page ≡ false → groups_read page groups ≡ groups
groups_read_none page [] none = refl
groups_read_none page (group ∷ later) none =
    let parts = or_parts (in_group group page) (in_groups later page) none in
    ap (λ g. g ∷ groups_read page later) (group_read_none page group later parts.0) ∙ ap (λ l. group ∷ l) (groups_read_none page later parts.1)

pub with_read_none : (page : ℕ) (queue : Queue) → has_frame queue page ≡ false → with_read page queue ≡ queue
with_read_none page queue none = ap (λ (groups : List (List Frame)). record queue { groups = groups }) (groups_read_none page queue.groups none)

-- no group goes
pub length-groups_read : (page : ℕ) (groups : List (List Frame)) → length (groups_read page groups) ≡ length groups
length-groups_read page [] = refl
length-groups_read page (group ∷ later) = ap suc (length-groups_read page later)

-- A read leaves the pages of all frames.

group_read_same : (page : ℕ) (group : List Frame) (later : List (List Frame)) (n : ℕ) → in_group (group_read page group later) n ≡ in_group group n
group_read_same page [] later n = refl
group_read_same page (f ∷ group) later n = ap (λ b. (f.page == n) || b) (group_read_same page group later n)

groups_read_same : (page : ℕ) (groups : List (List Frame)) (n : ℕ) → in_groups (groups_read page groups) n ≡ in_groups groups n
groups_read_same page [] n = refl
groups_read_same page (g ∷ later) n = (λ i. group_read_same page g later n i || groups_read_same page later n i)

pub read_has : (page : ℕ) (queue : Queue) (n : ℕ) → has_frame (with_read page queue) n ≡ has_frame queue n
read_has page queue n = groups_read_same page queue.groups n
