-- What a touch of a page that isn't in the pool promises, by what bringing it in does.
use Rattle.page_store.proofs.Names.{◌≡◌, ℕ, ◌+◌, ◌≤◌, false, None, arith, ap, ◌∙◌, Result, OnOk, if◌then◌else◌, frame_of, LogList, LogStore, pushed_for_room, pushed_by_touch, cache_of, rules_for, next_group, pushes, KeepsInvariant, StopsAtEnd, Keeps, Stands, touch_changes, AreReady, BringsIn, Stages, PageStore, touch, in_front, touched, finds, misses, staged_by, ok_as, State, Stop, forces}
use Rattle.page_store.proofs.Touching.{way, pushed_same, pushes_same, finds_same, misses_same, count_if, other_count, changes_same, room_staged, room_next}
use Rattle.page_store.proofs.Calling.{works_as, stops_as, keeps_as, stands_as}
use Rattle.page_store.proofs.StagingLaws.{stages_as}
use Rattle.std.proofs.lemmas.Grind.{common_steps}

module _ (store : PageStore) (page : ℕ) (none : frame_of store.pool.frames page ≡ None) {result : Result (Unit {0}) Stop} {log log' : LogStore} {after : PageStore} {old new : State} (b : BringsIn result log log' store after old new page) where
  forced_same : forces log (pushed_for_room store) ≡ forces log (pushed_by_touch store page)
  forced_same = ap (forces log) (pushed_same store page none)

  pub its_keeps : (list : LogList) → AreReady store log list old → Keeps result log store old new list (forces log (pushed_by_touch store page)) (touch_changes log list store old.image page)
  its_keeps list ready = keeps_as forced_same (changes_same store page none log list old.image) (b.keeps list ready)

  pub its_stands : (list : LogList) → AreReady store log list old → OnOk result (Stands log log' store after old new list (forces log (pushed_by_touch store page)) (touch_changes log list store old.image page))
  its_stands list ready = ok_as result _ _ (stands_as forced_same (changes_same store page none log list old.image)) (b.stands list ready)

  pub its_works : KeepsInvariant result log log' store after old new (forces log (pushed_by_touch store page))
  its_works = works_as forced_same b.works

  pub its_worn : StopsAtEnd result log store (forces log (pushed_by_touch store page)) (pushes (rules_for store) page (cache_of store))
  its_worn = stops_as forced_same (pushes_same store page none) b.worn

  pub its_stages : Stages result (staged_by (rules_for store) (touch page false) (cache_of store)) (next_group (cache_of store) + (if pushes (rules_for store) page (cache_of store) then 1 else 0)) store after old new
  its_stages = stages_as (room_staged store page none) (room_next store page none) b.stages

  pub its_machine : OnOk result (cache_of after ≡ touched (rules_for store) page false (cache_of store))
  its_machine = ok_as result _ _ (λ is. is ∙ ap (in_front page false) (way store page none)) b.machine

  pub its_flash_reads : new.flash_reads ≤ old.flash_reads + (if pushes (rules_for store) page (cache_of store) then 12 else 0) + (if finds (rules_for store) page (cache_of store) then 1 else 0)
  its_flash_reads = grind (arith, common_steps, pushes_same, finds_same)

  pub its_disk_reads : new.disk_reads ≤ old.disk_reads + (if misses (rules_for store) page (cache_of store) then 1 else 0)
  its_disk_reads = grind (arith, common_steps, other_count, count_if, misses_same)
