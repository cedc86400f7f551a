-- The queue on flash, as a list of groups of frames.
use Rattle.std.specs.Prelude.{ℕ, ◌+◌, ◌==◌, Bool, false, not, ◌&&◌, ◌||◌, List, [], ◌∷◌, ◌++◌, drop, if◌then◌else◌}
use Rattle.std.specs.List.{list_any}
use Rattle.byte_fields.specs.declared.frame_head.Mark.{Mark}
use Rattle.second_chance.specs.declared.frame.Frame.{Frame}

-- the groups that are in the queue, the oldest in front, and the number of the first; the others follow it in number
pub record Queue : Type 0 where
  pub first : ℕ
  pub groups : List (List Frame)

-- whether a page has a frame in a group, and whether it has one in some groups
abbrev pub in_group : List Frame → ℕ → Bool
in_group group page = list_any (λ frame. frame.page == page) group

abbrev pub in_groups : List (List Frame) → ℕ → Bool
in_groups groups page = list_any (λ group. in_group group page) groups

abbrev pub has_frame : Queue → ℕ → Bool
has_frame queue page = in_groups queue.groups page

-- whether a frame is the last of its page, where these frames of its group and these groups stand behind it
abbrev pub is_last : List Frame → List (List Frame) → Frame → Bool
is_last behind later frame = not (in_group behind frame.page || in_groups later frame.page)

-- what a plan and a listing know of a frame
abbrev pub mark_of : Bool → Frame → Mark
mark_of valid frame = record { page = frame.page; valid = valid; dirty = frame.dirty; referenced = frame.referenced }

-- the marks of a group's frames, where these groups stand behind it: a frame is valid where it is the last of its page
abbrev pub group_marks : List Frame → List (List Frame) → List Mark
group_marks [] later = []
group_marks (frame ∷ behind) later = mark_of (is_last behind later frame) frame ∷ group_marks behind later

abbrev pub marks_of_groups : List (List Frame) → List (List Mark)
marks_of_groups [] = []
marks_of_groups (group ∷ later) = group_marks group later ∷ marks_of_groups later

-- the marks of the queue's frames, group by group
abbrev pub marks : Queue → List (List Mark)
marks queue = marks_of_groups queue.groups

-- the marks of the front group, none where there is no group
abbrev pub front_marks : List (List Frame) → List Mark
front_marks [] = []
front_marks (group ∷ later) = group_marks group later

-- the frames of a group once a page was read: its last frame is referenced, all others are as they were
abbrev pub group_read : ℕ → List Frame → List (List Frame) → List Frame
group_read page [] later = []
group_read page (frame ∷ behind) later =
    record frame { referenced = frame.referenced || (frame.page == page && is_last behind later frame) }
    ∷ group_read page behind later

abbrev pub groups_read : ℕ → List (List Frame) → List (List Frame)
groups_read page [] = []
groups_read page (group ∷ later) = group_read page group later ∷ groups_read page later

-- the queue once a page was read from it
abbrev pub with_read : ℕ → Queue → Queue
with_read page queue = record queue { groups = groups_read page queue.groups }

-- the queue with one group more behind, and without its front group where that leaves
abbrev pub pushed : Bool → List Frame → Queue → Queue
pushed leaves group queue =
    record {
      first = if leaves then queue.first + 1 else queue.first;
      groups = (if leaves then drop 1 queue.groups else queue.groups) ++ group ∷ [];
    }

-- a frame as it is put into a new group: not referenced yet
abbrev pub frame_of : ℕ → Bool → Frame
frame_of page dirty = record { page = page; dirty = dirty; referenced = false }
