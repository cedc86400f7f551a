-- Where the rings have numbers for so many records, checkpoints and groups, no run appends to one that stands at its end.
use Rattle.face.proofs.Names.{◌≡◌, ℕ, ◌+◌, ◌≤◌, List, [], ◌∷◌, ◌++◌, Option, Some, None, refl, sym, ap, ◌∙◌, arith, ◌^◌, Master, IsSound, log_under, cache_on, restart_works, machine_on, Run, after_lines, answered, checkpoints_of, line_checkpoints, step, turns_of, works_of, cache_by, made_by, checkpoints_in, rings_of, worn_by, log_shape, master_shape, logical_image_under, LogRecord, Line, State, CacheOp, line_touches, ops_compose, next_group, ring_ops_compose, line_work, Machine, RingOp, after_all, restart_work, hi_of, Rules, after_works, rules_of, Image}
use Rattle.log_records.specs.Unfinished.{owed}
use Rattle.ring_machine.specs.Counts.{records_in, saved_by, saves_in}
use Rattle.ring_machine.proofs.Agreeing.{commands_agree, restarts_agree}
use Rattle.ring_machine.proofs.Counts.{commands_log_few, few_are_enough, records_join, saves_join}
use Rattle.ring_machine.proofs.RestartCounts.{restarts_log_few}
use Rattle.face.proofs.Counted.{made_all, turns_make}
use Rattle.face.proofs.LinesBeforeQuit.{after_cons}
use Rattle.face.proofs.Pagings.{same_after, turns_ask}
use Rattle.face.proofs.WornFronts.{worn_all}

-- Lines.

lines_log : (s : State) (lines : List Line) → s.made + records_in (rings_of s lines) ≤ (after_lines s lines []).made
lines_log s [] = omega arith
lines_log s (line ∷ lines) =
    let then = (step s line []).after in
    let one = (commands_log_few s line []).0 in
    let rest = lines_log then lines in
    let both = records_join (line_work s line) (rings_of then lines) in
    let last = ap (λ (x : State). x.made) (after_cons s line lines) in
    omega (arith, one, rest, both, last)

saved_once : (s : State) (line : Line) → saved_by s line ≡ line_checkpoints s line
saved_once s None = refl
saved_once s (Some command) = refl

lines_save : (s : State) (lines : List Line) → saves_in (rings_of s lines) ≡ checkpoints_of s lines
lines_save s [] = refl
lines_save s (line ∷ lines) =
    let then = (step s line []).after in
    let one = (commands_log_few s line []).1 ∙ saved_once s line in
    let rest = lines_save then lines in
    let both = saves_join (line_work s line) (rings_of then lines) in
    omega (arith, one, rest, both)

-- the machine's cache steps as the cache machine
line_agrees : (r : Rules) (s : State) (line : Line) (m : Machine) → (after_all r (line_work s line) m).cache ≡ after_works r (line_touches s line) m.cache
line_agrees r s None m = refl
line_agrees r s (Some command) m = commands_agree r s command m

lines_agree : (r : Rules) (s : State) (lines : List Line) (m : Machine) → (after_all r (rings_of s lines) m).cache ≡ after_works r (works_of s lines) m.cache
lines_agree r s [] m = refl
lines_agree r s (line ∷ lines) m =
    let then = (step s line []).after in
    let own = line_work s line in
    ap (λ (x : Machine). x.cache) (ring_ops_compose r own (rings_of then lines) m)
    ∙ lines_agree r then lines (after_all r own m)
    ∙ ap (after_works r (works_of then lines)) (line_agrees r s line m)
    ∙ sym (ops_compose r (line_touches s line) (works_of then lines) m.cache)

-- A run.
module _ (pool : ℕ) (run : Run) (newest : Option Master) (image : Image) (blocks : List (List LogRecord)) where
  abbrev r : Rules
  r = rules_of pool run.geometry.groups

  abbrev restart : List RingOp
  restart = restart_work (logical_image_under newest run.geometry image blocks)

  abbrev own : List RingOp
  own = rings_of run.opening (answered run)

  abbrev start : Machine
  start = machine_on run.geometry image

  cache_is : (after_all r (restart ++ own) start).cache ≡ cache_by pool run (turns_of run) newest image blocks
  cache_is =
      let asked = restart_works (logical_image_under newest run.geometry image blocks) in
      ap (λ (x : Machine). x.cache) (ring_ops_compose r restart own start)
      ∙ lines_agree r run.opening (answered run) (after_all r restart start)
      ∙ ap (after_works r (works_of run.opening (answered run))) (restarts_agree r (logical_image_under newest run.geometry image blocks) start)
      ∙ sym (ops_compose r asked (works_of run.opening (answered run)) (cache_on run.geometry image))
      ∙ ap (λ (w : List CacheOp). after_works r (asked ++ w) (cache_on run.geometry image)) (sym (turns_ask run.opening run.lines run.listings))

  pub never_by_counts : IsSound newest run.geometry image blocks → hi_of (log_shape run.geometry) image.log + owed (log_under newest blocks) + made_by run ≤ 2 ^ 40 → hi_of master_shape image.log + 1 + checkpoints_in (turns_of run) ≤ 2 ^ 40 → next_group (cache_by pool run (turns_of run) newest image blocks) ≤ 2 ^ 40 →
      worn_by pool run (turns_of run) newest image blocks ≡ None
  never_by_counts sound few less groups =
      let restarted = restarts_log_few (logical_image_under newest run.geometry image blocks) sound.records in
      let logged = records_join restart own in
      let saved = saves_join restart own in
      let lines = lines_log run.opening (answered run) in
      let made = made_all run ∙ ap (λ (s : State). s.made) (same_after run.opening (answered run) run.listings []) in
      let checkpoints = lines_save run.opening (answered run) in
      let all = turns_make run.opening run.lines run.listings in
      let undone = restarted.0 in
      let one = restarted.1 in
      let there = ap next_group cache_is in
      worn_all pool run newest image blocks
      ∙ few_are_enough r (restart ++ own) start refl (omega (arith, logged, lines, made, undone, few)) (omega (arith, saved, checkpoints, all, one, less)) (omega (arith, there, groups))
