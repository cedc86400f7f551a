-- The pool by its entries, and the pages that a push looks at.
use Rattle.std.specs.Prelude.{ℕ, Bool, not, ◌||◌, List, ◌∷◌, ◌++◌, map, filter, take, reverse}
use Rattle.byte_fields.specs.declared.frame_head.Mark.{Mark}
use Rattle.second_chance.specs.declared.frame.Frame.{Frame}
use Rattle.second_chance.specs.declared.plan.Plan.{Plan}
use Rattle.second_chance.specs.declared.plan.PoolMark.{PoolMark}
use Rattle.second_chance.specs.Queue.{Queue, frame_of}
use Rattle.second_chance.specs.Machine.{PoolPage, pool_mark, is_changed}
use Rattle.second_chance.specs.Laws.{given_again}
use Rattle.policy_sim.specs.declared.entry.Entry.{Entry}
use Rattle.policy_sim.specs.declared.entry.Kept.{Kept}
use Rattle.policy_sim.specs.declared.pool.Pool.{Pool}

abbrev pub page_of : Entry → PoolPage
page_of entry = record { page = entry.page; changed = entry.changed }

-- an entry of the cache that holds the pool
abbrev pub entry_page : ℕ × Kept → PoolPage
entry_page e = record { page = e.0; changed = e.1.changed }

abbrev pub pages_in : List (ℕ × Kept) → List PoolPage
pages_in entries = map entry_page entries

-- the pages of the pool, the one that was touched last in front
abbrev pub pages_of : Pool → List PoolPage
pages_of pool = pages_in pool.pages.entries

-- a page that a push may take from the pool: it is changed or has no frame
abbrev pub is_movable : PoolMark → Bool
is_movable p = p.changed || not p.framed

abbrev pub movable : Queue → List PoolPage → List PoolMark
movable queue pool = filter is_movable (map (pool_mark queue) (reverse pool))

-- the first seven of them, the coldest in front: no push takes more
abbrev pub candidates : Queue → List PoolPage → List PoolMark
candidates queue pool = take 7 (movable queue pool)

-- pages of the pool as frames of a group
abbrev pub pulled_frames : List PoolPage → List ℕ → List Frame
pulled_frames pool pages = map (λ page. frame_of page (is_changed pool page)) pages

-- the frames of the group that a plan says
abbrev pub group_of : List Mark → Plan → PoolPage → List PoolPage → List Frame
group_of front plan own pool = given_again front plan.chances ++ frame_of own.page own.changed
    ∷ pulled_frames pool plan.pulled
