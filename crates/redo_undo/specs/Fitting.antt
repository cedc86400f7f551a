-- What has room in the page in front of the pool.
use Rattle.std.specs.Prelude.{◌≡◌, ℕ, ◌%◌, Some}
use Rattle.record_model.specs.State.{Content}
use Rattle.log_records.specs.declared.log_record.LogRecord.{LogRecord}
use Rattle.log_records.specs.Log.{number_of, after_of}
use Rattle.slotted_page.specs.Layout.{slots_of, FitsPage}
use Rattle.buffer_pool.specs.Frames.{front_of}
use Rattle.page_store.specs.declared.store.PageStore.{PageStore}

-- a content has room in a slot of the page in front, beside what the other slots have
abbrev pub FitsFront : PageStore → ℕ → Content → Type 0
FitsFront pages slot content = FitsPage (slots_of (front_of pages.pool.frames).content) slot content

-- so has what an Update or a CLR writes
abbrev pub HasRoomInFront : PageStore → LogRecord → Type 0
HasRoomInFront pages rec = (number : ℕ) → number_of rec ≡ Some number → FitsFront pages (number % 32) (after_of rec)
