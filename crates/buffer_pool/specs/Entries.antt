-- What a cache has, as the frames of a pool.
use Rattle.std.specs.Prelude.{ℕ, List, map, filter}
use Rattle.buffer_pool.specs.declared.frame.Frame.{Frame}
use Rattle.buffer_pool.specs.declared.pool_entry.PoolEntry.{PoolEntry}
use Rattle.buffer_pool.specs.Frames.{State}

-- an entry as a frame
abbrev pub frame_in : ℕ × PoolEntry → Frame
frame_in entry = record { page = entry.0; changed = entry.1.changed; content = entry.1.content.value }

-- all entries as frames, in their order
abbrev pub frames_in : List (ℕ × PoolEntry) → List Frame
frames_in entries = map frame_in entries

-- the pages that have a frame in the queue, as their entries say
abbrev pub framed_pages : List (ℕ × PoolEntry) → List ℕ
framed_pages entries = map (λ e. e.0) (filter (λ e. e.1.framed) entries)

-- a pool of this size with these entries
abbrev pub state_in : ℕ → List (ℕ × PoolEntry) → State
state_in size entries = record { size = size; frames = frames_in entries; framed = framed_pages entries }
