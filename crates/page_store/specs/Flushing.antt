-- What a flush pushes.
use Rattle.std.specs.Prelude.{ℕ, List, [], ◌∷◌, take, map, filter, reverse}
use Rattle.buffer_pool.specs.declared.frame.Frame.{Frame}
use Rattle.buffer_pool.specs.Frames.{frame_of, cleared}
use Rattle.second_chance.specs.Queue.{Queue}
use Rattle.second_chance.specs.Machine.{Rules}
use Rattle.page_store.specs.declared.store.PageStore.{PageStore}
use Rattle.page_store.specs.Representation.{content_by}
use Rattle.page_store.specs.Caching.{rules}
use Rattle.page_store.specs.Pulling.{room_for_pages}

-- the changed pages, the coldest in front
abbrev pub changed_frames : List Frame → List Frame
changed_frames frames = filter (λ f. f.changed) (reverse frames)

-- the coldest of them, as many as the next group has room for beside its second chances
abbrev pub chosen : Rules → Queue → List Frame → List Frame
chosen r queue frames = take (room_for_pages r queue) (changed_frames frames)

-- the pages that the next push of a flush saves
abbrev pub saved_next : PageStore → List Frame
saved_next store = chosen (rules store) store.flash.directory store.pool.frames

-- what the pool has of a page
abbrev pub content_in : List Frame → ℕ → List ℕ
content_in frames page = content_by (frame_of frames page) []

-- the frames once these pages are marked as unchanged
abbrev pub cleared_all : List ℕ → List Frame → List Frame
cleared_all [] frames = frames
cleared_all (page ∷ pages) frames = cleared_all pages (cleared frames page)

-- the contents that one push of a flush has, and those of the whole flush
abbrev pub flushed_first : PageStore → List (List ℕ)
flushed_first store = map (λ f. f.content) (saved_next store)

abbrev pub flushed_contents : PageStore → List (List ℕ)
flushed_contents store = map (λ f. f.content) (changed_frames store.pool.frames)
