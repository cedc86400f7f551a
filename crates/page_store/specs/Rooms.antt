-- What the calls promise that are parts of a touch or of a flush.
use Rattle.std.specs.Prelude.{◌≡◌, ℕ, ◌+◌, ◌≤◌, ◌<◌, ◌&&◌, false, [], length, if◌then◌else◌, Result, OnOk}
use Rattle.site.specs.declared.outside.Stop.{Stop}
use Rattle.site.specs.State.{State}
use Rattle.buffer_pool.specs.Frames.{front_of}
use Rattle.second_chance.specs.Queue.{has_frame}
use Rattle.second_chance.specs.Machine.{in_front, staged_in_push}
use Rattle.log_store.specs.declared.store.LogStore.{LogStore}
use Rattle.log_store.specs.LogList.{LogList}
use Rattle.write_ahead.specs.Forcing.{forces}
use Rattle.page_store.specs.declared.store.PageStore.{PageStore}
use Rattle.page_store.specs.Caching.{cache_of, rules, next_group, is_full, is_pushed, with_way}
use Rattle.page_store.specs.Ahead.{pushed_for_room}
use Rattle.page_store.specs.Leaves.{AreReady}
use Rattle.page_store.specs.Flushing.{saved_next, flushed_first}
use Rattle.page_store.specs.Changing.{standing, push_changes, room_changes}
use Rattle.page_store.specs.Staging.{staged_by_eviction, Stages}
use Rattle.page_store.specs.Calls.{KeepsInvariant, Pushes, StopsAtEnd, Saves, Keeps, Stands}

-- room for one page more is made in the pool
pub record MakesRoom {T : Type 0} (result : Result T Stop) (old new : LogStore) (pages pages' : PageStore)
    (before now : State) : Type 0 where
  -- of an honest site
  pub keeps : (list : LogList) → AreReady pages old list before →
      Keeps result old pages before now list (forces old (pushed_for_room pages))
      (room_changes old list pages before.image)
  pub stands : (list : LogList) → AreReady pages old list before →
      OnOk result (Stands old new pages pages' before now list (forces old (pushed_for_room pages))
      (room_changes old list pages before.image))
  -- of every site
  pub stages : Stages result
      (if is_full pages then staged_by_eviction (rules pages) (cache_of pages) else [])
      (next_group (cache_of pages) + (if (is_full pages && is_pushed (cache_of pages)) then 1 else 0))
      pages pages' before now
  pub worn : StopsAtEnd result old pages (forces old (pushed_for_room pages))
      (is_full pages && is_pushed (cache_of pages))

-- and a page that isn't in the pool comes to its front
pub record BringsIn {T : Type 0} (result : Result T Stop) (old new : LogStore) (pages pages' : PageStore)
    (before now : State) (page : ℕ) : Type 0 where
  pub room : MakesRoom result old new pages pages' before now
  pub open room use *
  pub works : KeepsInvariant result old new pages pages' before now (forces old (pushed_for_room pages))
  pub ended : pages'.ended ≡ pages.ended
  pub machine : OnOk result (cache_of pages' ≡ in_front page false (with_way pages))
  pub front : OnOk result ((front_of pages'.pool.frames).page ≡ page)
  pub there : OnOk result (0 < length pages'.pool.frames)
  pub flash_reads : now.flash_reads ≤ before.flash_reads
      + (if (is_full pages && is_pushed (cache_of pages)) then 12 else 0)
      + (if has_frame (with_way pages).queue page then 1 else 0)
  pub disk_reads : now.disk_reads ≤ before.disk_reads + (if has_frame (with_way pages).queue page then 0 else 1)

-- the coldest changed pages are pushed, as many as a group has room for
pub record SavesFirst {T : Type 0} (result : Result T Stop) (old new : LogStore) (pages pages' : PageStore)
    (before now : State) : Type 0 where
  -- of an honest site
  pub keeps : (list : LogList) → AreReady pages old list before →
      Keeps result old pages before now list (forces old (flushed_first pages))
      (push_changes (standing old list pages before.image) (saved_next pages))
  pub stands : (list : LogList) → AreReady pages old list before →
      OnOk result (Stands old new pages pages' before now list (forces old (flushed_first pages))
      (push_changes (standing old list pages before.image) (saved_next pages)))
  -- of every site
  pub pushes : Pushes result old new pages pages' before now (forces old (flushed_first pages))
  pub stages : Stages result (staged_in_push (rules pages) pages.flash.directory) (next_group (cache_of pages) + 1)
      pages pages' before now
  pub saves : Saves result old pages pages' before now
