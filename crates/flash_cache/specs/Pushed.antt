-- What a push does to the queue and to the devices: pages are staged, then a group is appended.
use Rattle.std.specs.Prelude.{◌≡◌, ◌⊎◌, ℕ, ◌+◌, Bool, false, List, [], ◌∷◌, ◌++◌, map, drop, zip, slice_index_or}
use Rattle.std.specs.Prelude.{length, if◌then◌else◌}
use Rattle.site.specs.declared.geometry.Geometry.{Geometry}
use Rattle.site.specs.declared.outside.Dev.TheVariants.{Log}
use Rattle.site.specs.State.{State, Image, Snapshot}
use Rattle.site.specs.Moments.{Untouched}
use Rattle.image_changes.specs.Changes.{Change, AppendsGroup, RewritesPages, Reaches}
use Rattle.image_changes.specs.Reached.{IsFrontOf}
use Rattle.stage_out.specs.Staged.{HasStaged, changes_of}
use Rattle.frame_group.specs.Groups.{Frame, group}
use Rattle.second_chance.specs.declared.frame.Frame.{Frame as Known}
use Rattle.second_chance.specs.Queue.{Queue, pushed, frame_of as known_of}
use Rattle.second_chance.specs.Plans.{Placed, chances_of, staged_of, chances_given}
use Rattle.second_chance.specs.Machine.{rules_of, is_full, leaving, chance_frame}
use Rattle.tail_rebuild.specs.Saving.{is_due, changes_of_save}
use Rattle.flash_cache.specs.declared.cache.FlashCache.{FlashCache}
use Rattle.flash_cache.specs.declared.cache.PushPlan.{PushPlan}
use Rattle.flash_cache.specs.Representation.{version_on, groups_on}

-- whether the front group leaves with a push: the queue has as many groups as can be
abbrev pub front_leaves : FlashCache → Bool
front_leaves cache = is_full (rules_of 0 cache.geometry.groups) cache.directory

-- the frames of the front group that the machine's push stages
abbrev pub staged_marks : FlashCache → List Placed
staged_marks cache = staged_of chances_given (leaving (rules_of 0 cache.geometry.groups) cache.directory)

abbrev pub staged_pages : FlashCache → List ℕ
staged_pages cache = map (λ f. f.1.page) (staged_marks cache)

abbrev pub no_frame : Frame
no_frame = record { page = 0; dirty = false; octets = [] }

-- what they have on flash
abbrev pub staged_contents : FlashCache → List (List Frame) → List (List ℕ)
staged_contents cache groups =
    map (λ f. (slice_index_or (slice_index_or groups 0 []) f.0 no_frame).octets) (staged_marks cache)

-- the frames of the front group that the machine's push gives a second chance
abbrev pub chance_marks : FlashCache → List Placed
chance_marks cache = chances_of chances_given (leaving (rules_of 0 cache.geometry.groups) cache.directory)

-- the marks of what leaves with the next push, and the machine's plan for them
pub record IsPlan (plan : PushPlan) (cache : FlashCache) : Type 0 where
  pub front : plan.front.now ≡ leaving (rules_of 0 cache.geometry.groups) cache.directory
  pub chances : plan.plan.chances ≡ map (λ f. f.0) (chance_marks cache)
  pub staged : plan.plan.staged ≡ map (λ f. f.0) (staged_marks cache)

-- a second chance in the new group, where pages have these versions: its page's version, dirty as it was
abbrev pub chance_given : (ℕ → List ℕ) → Placed → Frame
chance_given versions f = record { page = f.1.page; dirty = f.1.dirty; octets = versions f.1.page }

-- the frames of the pages given, each dirty where it was changed
abbrev pub given_frame : (ℕ × Bool) × List ℕ → Frame
given_frame f = record { page = f.0.0; dirty = f.0.1; octets = f.1 }

abbrev pub frames_given : List ℕ → List Bool → List (List ℕ) → List Frame
frames_given pages changed contents = map given_frame (zip (zip pages changed) contents)

-- and as the directory knows them
abbrev pub known_given : List ℕ → List Bool → List Known
known_given pages changed = map (λ f. known_of f.0 f.1) (zip pages changed)

-- The new group: the second chances in their order, then the pages given. Its pages, its frames, and these as the
-- directory knows them.
abbrev pub pages_pushed : FlashCache → List ℕ → List ℕ
pages_pushed cache pages = map (λ f. f.1.page) (chance_marks cache) ++ pages

abbrev pub frames_pushed : FlashCache → Image → List ℕ → List Bool → List (List ℕ) → List Frame
frames_pushed cache image pages changed contents =
    map (chance_given (version_on cache.geometry image)) (chance_marks cache) ++ frames_given pages changed contents

abbrev pub known_pushed : FlashCache → List ℕ → List Bool → List Known
known_pushed cache pages changed = map chance_frame (chance_marks cache) ++ known_given pages changed

-- the groups with one more, and without the front one where that leaves
abbrev pub pushed_groups : FlashCache → List (List Frame) → List Frame → List (List Frame)
pushed_groups cache groups frames = (if front_leaves cache then drop 1 groups else groups) ++ frames ∷ []

-- the same of the queue
abbrev pub pushed_queue : FlashCache → List Known → Queue
pushed_queue cache frames = pushed (front_leaves cache) frames cache.directory

-- all changes of a push: the staged pages are rewritten, if there are any, and the group is appended
abbrev pub changes_of_push : List ℕ → List ℕ → List Change
changes_of_push pages group = changes_of pages ++ AppendsGroup group ∷ []

-- a number of each change, added up
abbrev pub sum_of : (Change → ℕ) → List Change → ℕ
sum_of number [] = 0
sum_of number (change ∷ changes) = number change + sum_of number changes

-- how many calls a change takes: a write for each page and a sync; for a unit three writes and two syncs
abbrev pub calls_by : Change → ℕ
calls_by (RewritesPages pages) = length pages + 1
calls_by change = 5

-- Nothing was told. Either no group was appended: the first of the changes before were made, and staged pages may have
-- any octets; or the group was, and each staged page has its octets.
pub record LeavesPushBehind (g : Geometry) (before : List Change) (pages : List ℕ) (contents : List (List ℕ))
    (group : List ℕ) (old : State) (snapshot : Snapshot) : Type 0 where
  pub told : snapshot.told ≡ old.told
  pub either : ((changes : List Change) × IsFrontOf (before ++ changes_of pages) changes
      × Reaches g changes old.image snapshot.image)
      ⊎ (HasStaged pages contents old.image.disk snapshot.image.disk
      × Reaches g (before ++ changes_of_push pages group) old.image snapshot.image)

-- where no segment is saved before
abbrev pub LeavesPush : Geometry → List ℕ → List (List ℕ) → List ℕ → State → Snapshot → Type 0
LeavesPush g = LeavesPushBehind g []

-- a segment is saved before, where one is due
abbrev pub changes_before : FlashCache → Image → List Change
changes_before cache image = changes_of_save (is_due cache.ring.hi cache.segments.hi) (groups_on cache.geometry image)

-- All changes of a push by the cache: the segment that is due, then the staged pages and the group with the second
-- chances and the pages given.
abbrev pub changes_of_group : FlashCache → Image → List ℕ → List Bool → List (List ℕ) → List Change
changes_of_group cache image pages changed contents =
    changes_before cache image ++ changes_of_push (staged_pages cache)
    (group (frames_pushed cache image pages changed contents))

-- the log's device stays as it is, nothing was told, and nothing was heard
pub record ChangesPages (old new : State) : Type 0 where
  pub log : Untouched Log old new
  pub told : new.told ≡ old.told
  pub left : new.input ≡ old.input
