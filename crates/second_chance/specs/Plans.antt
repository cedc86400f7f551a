-- What a push takes, from the marks of the front group and of the pool's pages.
use Rattle.std.specs.Prelude.{ℕ, ◌-◌, ◌==◌, Bool, true, not, ◌&&◌, ◌||◌, List, [], length, map, filter, take}
use Rattle.std.specs.Prelude.{if◌then◌else◌}
use Rattle.std.specs.List.{list_any, enumerate_from}
use Rattle.byte_fields.specs.declared.frame_head.Mark.{Mark}
use Rattle.second_chance.specs.declared.plan.PoolMark.{PoolMark}
use Rattle.second_chance.specs.declared.plan.Plan.{Plan}

-- whether second chances are given
abbrev pub chances_given : Bool
chances_given = true

-- whether an eviction pulls pages
abbrev pub pages_pulled : Bool
pages_pulled = true

-- a group has at most so many frames, and at most so many of a front group's are given a second chance
abbrev pub group_size : ℕ
group_size = 8

abbrev pub most_chances : ℕ
most_chances = 7

-- a frame of the front group: its place, and its mark
abbrev pub Placed : Type 0
Placed = ℕ × Mark

-- The second chances: the first seven frames of the front group that are valid and referenced. None is given where
-- second chances aren't given at all.
abbrev pub chances_of : Bool → List Mark → List Placed
chances_of given front = if given then take most_chances
    (filter (λ f. f.1.valid && f.1.referenced) (enumerate_from 0 front)) else []

abbrev pub is_among : List Placed → ℕ → Bool
is_among frames place = list_any (λ f. f.0 == place) frames

-- The frames that are staged: those of the front group that are valid and dirty and no second chances.
abbrev pub staged_of : Bool → List Mark → List Placed
staged_of given front = filter (λ f. (f.1.valid && f.1.dirty)
    && not (is_among (chances_of given front) f.0)) (enumerate_from 0 front)

-- What a push at an eviction pulls from the pool, the coldest in front: as many pages as the group has room for beside
-- its second chances and the evicted page, of those that are changed or have no frame. Nothing is pulled where
-- evictions don't pull at all.
abbrev pub pulled_at_eviction : Bool → Bool → List Mark → List PoolMark → List PoolMark
pulled_at_eviction pulls given front pool =
    if pulls then take (group_size - 1 - length (chances_of given front))
    (filter (λ p. p.changed || not p.framed) pool) else []

-- What a push of a flush pulls: as many pages as the group has room for beside its second chances, of those that are
-- changed.
abbrev pub pulled_at_flush : Bool → List Mark → List PoolMark → List PoolMark
pulled_at_flush given front pool = take (group_size - length (chances_of given front)) (filter (λ p. p.changed) pool)

-- Both as plans: the frames of the front group by their places, the pool's pages by their numbers.
abbrev pub planned : Bool → List Mark → List PoolMark → Plan
planned given front pulled = record {
  chances = map (λ f. f.0) (chances_of given front);
  staged = map (λ f. f.0) (staged_of given front);
  pulled = map (λ p. p.page) pulled;
}

abbrev pub eviction_plan : Bool → Bool → List Mark → List PoolMark → Plan
eviction_plan pulls given front pool = planned given front (pulled_at_eviction pulls given front pool)

abbrev pub flush_plan : Bool → List Mark → List PoolMark → Plan
flush_plan given front pool = planned given front (pulled_at_flush given front pool)
