-- What the pool is told of the queue on flash.
use Rattle.std.specs.Prelude.{◌≡◌, ℕ, ◌==◌, Bool, false, List, IsSome}
use Rattle.std.specs.List.{list_any}
use Rattle.byte_fields.specs.declared.frame_head.Mark.{Mark}
use Rattle.buffer_pool.specs.Frames.{frame_of}
use Rattle.page_store.specs.declared.store.PageStore.{PageStore}
use Rattle.page_store.specs.Representation.{IsTold}

-- whether a page is one of these marks', and whether it is among some pages
abbrev pub is_marked : List Mark → ℕ → Bool
is_marked marks page = list_any (λ mark. mark.page == page) marks

abbrev pub is_named : List ℕ → ℕ → Bool
is_named pages page = list_any (λ other. other == page) pages

-- A page of the pool is told right where it passes this test, or was told right before.
abbrev pub TellsOf : (ℕ → Bool) → PageStore → PageStore → Type 0
TellsOf test old new = (page : ℕ) → IsSome (frame_of old.pool.frames page) → (test page ≡ false → IsTold old page)
    → IsTold new page
