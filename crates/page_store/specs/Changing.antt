-- Which changes of an image the calls on pages make.
use Rattle.std.specs.Prelude.{ℕ, zero, suc, ◌+◌, ◌*◌, Bool, true, not, ◌&&◌, List, [], ◌∷◌, ◌++◌, map, drop}
use Rattle.std.specs.Prelude.{if◌then◌else◌}
use Rattle.std.specs.List.{list_any}
use Rattle.image_changes.specs.Rings.{group_shape, units_on}
use Rattle.image_changes.specs.Changes.{Change}
use Rattle.frame_group.specs.Groups.{Frame as Stored, group, frames_in}
use Rattle.tail_rebuild.specs.Saving.{is_due, changes_of_save}
use Rattle.flash_cache.specs.Pushed.{chance_given, changes_of_push, changes_of_group}
use Rattle.flash_cache.specs.Representation.{version_on}
use Rattle.site.specs.State.{Image}
use Rattle.buffer_pool.specs.declared.frame.Frame.{Frame}
use Rattle.buffer_pool.specs.Frames.{frame_of}
use Rattle.second_chance.specs.Plans.{Placed, chances_given, chances_of, staged_of}
use Rattle.second_chance.specs.Queue.{Queue, pushed, frame_of as known_of}
use Rattle.second_chance.specs.Machine.{Cache, chance_frame, rules_of, leaving, is_full as queue_is_full, wants_flush}
use Rattle.second_chance.specs.Machine.{lacks_room}
use Rattle.second_chance.specs.Laws.{changed_count}
use Rattle.log_store.specs.declared.store.LogStore.{LogStore}
use Rattle.log_store.specs.LogList.{LogList, sealed_if, changes_if}
use Rattle.log_store.specs.Representation.{has_tail}
use Rattle.write_ahead.specs.Forcing.{is_unsealed, forces}
use Rattle.page_store.specs.declared.store.PageStore.{PageStore}
use Rattle.page_store.specs.Representation.{content_by}
use Rattle.page_store.specs.Caching.{pool_page, cache_of, rules, is_full}
use Rattle.page_store.specs.Pulling.{evicted_frames}
use Rattle.page_store.specs.Flushing.{chosen, cleared_all}

-- What the changes of a push depend on: whether the log has a tail, the number of its next block, its records, the
-- queue on a flash of so many groups, the contents of its groups, the numbers of the next group and of the next
-- segment, the pool, and the pages' versions.
pub record Standing : Type 0 where
  pub tail : Bool
  pub next : ℕ
  pub list : LogList
  pub groups : ℕ
  pub queue : Queue
  pub live : List (List ℕ)
  pub next_group : ℕ
  pub next_segment : ℕ
  pub frames : List Frame
  pub versions : ℕ → List ℕ

abbrev pub standing : LogStore → LogList → PageStore → Image → Standing
standing log list store image = record {
  tail = has_tail log;
  next = log.ring.hi;
  list = list;
  groups = store.flash.geometry.groups;
  queue = store.flash.directory;
  live = (units_on (group_shape store.flash.geometry) image).live;
  next_group = store.flash.ring.hi;
  next_segment = store.flash.segments.hi;
  frames = store.pool.frames;
  versions = version_on store.flash.geometry image;
}

-- One push.

-- whether the log is forced before these pages are pushed: one of them has an LSN in the tail
abbrev pub is_forced : Standing → List Frame → Bool
is_forced s frames = s.tail && list_any (is_unsealed (512 * s.next)) (map (λ f. f.content) frames)

-- the pages that are staged: those of the front group's valid dirty frames, where that group leaves
abbrev pub staged_at : Standing → List ℕ
staged_at s = map (λ f. f.1.page) (staged_of chances_given (leaving (rules_of 0 s.groups) s.queue))

-- the frames of the front group that are given a second chance, where it leaves
abbrev pub chances_at : Standing → List Placed
chances_at s = chances_of chances_given (leaving (rules_of 0 s.groups) s.queue)

-- whether a segment is saved first, and its change
abbrev pub is_due_at : Standing → Bool
is_due_at s = is_due s.next_group s.next_segment

abbrev pub save_changes : Standing → List Change
save_changes s = changes_of_save (is_due_at s) (map frames_in s.live)

-- a page of the pool as a frame of a group, dirty where it is changed
abbrev pub stored : Frame → Stored
stored frame = record { page = frame.page; dirty = frame.changed; octets = frame.content }

-- the content of the group that is pushed with these pages: the second chances and these
abbrev pub group_at : Standing → List Frame → List ℕ
group_at s frames = group (map (chance_given s.versions) (chances_at s) ++ map stored frames)

-- The changes of a push of these pages: the tail is sealed where the log is forced, a segment is saved where one is
-- due, the staged pages are rewritten if there are any, and the group is appended.
abbrev pub push_changes : Standing → List Frame → List Change
push_changes s frames =
    changes_if (is_forced s frames) s.list ++ (save_changes s ++ changes_of_push (staged_at s) (group_at s frames))

-- the same of pages that are given with their marks and contents
abbrev pub given_changes : LogStore → LogList → PageStore → Image → List ℕ → List Bool → List (List ℕ) → List Change
given_changes log list store image pages changed contents =
    changes_if (forces log contents) list ++ changes_of_group store.flash image pages changed contents

-- A touch.

-- what an eviction changes: the push of the pages that it pushes, if there are any
abbrev pub changes_if_any : Standing → List Frame → List Change
changes_if_any s [] = []
changes_if_any s (coldest ∷ warmer) = push_changes s (coldest ∷ warmer)

abbrev pub eviction_changes : LogStore → LogList → PageStore → Image → List Change
eviction_changes log list store image = changes_if_any (standing log list store image) (evicted_frames store)

-- what changes where room is made for a page, and by a touch
abbrev pub room_changes : LogStore → LogList → PageStore → Image → List Change
room_changes log list store image = if is_full store then eviction_changes log list store image else []

abbrev pub touch_changes : LogStore → LogList → PageStore → Image → ℕ → List Change
touch_changes log list store image page =
    if lacks_room (rules store) page (cache_of store) then eviction_changes log list store image else []

-- A flush.

abbrev pub cache_at : Standing → Cache
cache_at s = record { pool = map pool_page s.frames; queue = s.queue }

-- the pages that the next push saves
abbrev pub next_saved : Standing → List Frame
next_saved s = chosen (rules_of 0 s.groups) s.queue s.frames

-- Behind a push of the coldest changed pages: where the log was forced it has one block more and no tail, the queue has
-- the group, there is one segment more where one was due, the pages count as unchanged, and what they have are their
-- versions.
abbrev pub after_push : Standing → Standing
after_push s = record {
  tail = s.tail && not (is_forced s (next_saved s));
  next = if is_forced s (next_saved s) then s.next + 1 else s.next;
  list = sealed_if (is_forced s (next_saved s)) s.list;
  groups = s.groups;
  queue = pushed (queue_is_full (rules_of 0 s.groups) s.queue) (map chance_frame (chances_at s)
      ++ map (λ f. known_of f.page true) (next_saved s)) s.queue;
  live = (if queue_is_full (rules_of 0 s.groups) s.queue then drop 1 s.live else s.live)
      ++ group_at s (next_saved s) ∷ [];
  next_group = s.next_group + 1;
  next_segment = if is_due_at s then s.next_segment + 1 else s.next_segment;
  frames = cleared_all (map (λ f. f.page) (next_saved s)) s.frames;
  versions = λ page. content_by (frame_of (next_saved s) page) (s.versions page);
}

-- the changes of a flush, push by push; each push saves at least one changed page
abbrev pub pushes_changes : ℕ → Standing → List Change
pushes_changes zero s = []
pushes_changes (suc pushes) s = if wants_flush (cache_at s) then push_changes s (next_saved s)
    ++ pushes_changes pushes (after_push s) else []

abbrev pub flush_changes : LogStore → LogList → PageStore → Image → List Change
flush_changes log list store image =
    pushes_changes (changed_count (cache_of store).pool) (standing log list store image)
