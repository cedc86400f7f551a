-- Lines are carried out, one after the other.
use Rattle.std.proofs.Common.{◌≡◌, ◌≢◌, ℕ, suc, false, List, [], ◌∷◌, ◌++◌, length, take, drop, refl, sym, ◌∙◌, ap, subst, arith, append_assoc, append-nil, length-append, cond, Ok, Err, Result, Some, ◌≤◌}
use Rattle.std.specs.Prelude.{⊤}
use Rattle.std.proofs.lemmas.List.{drop_at, take_at}
use Rattle.std_lemmas.proofs.AllOf.{all_push}
use Rattle.site.specs.State.{State as Site, IsQuiet}
use Rattle.site.specs.Moments.{LeavesOnly}
use Rattle.site.specs.declared.geometry.Geometry.{Geometry}
use Rattle.record_model.specs.State.{State}
use Rattle.record_model.specs.Run.{Line, is_quit}
use Rattle.record_model.specs.declared.words.Command.{Command}
use Rattle.record_model.specs.declared.words.Reply.{Reply}
use Rattle.engine.specs.declared.engine.Engine.{Engine}
use Rattle.engine.specs.Leaves.{LeavesEither}
use Rattle.engine.specs.Representation.{Matches}
use Rattle.front_end.specs.declared.halt.Halt.{Halt}
use Rattle.front_end.specs.declared.halt.Halt.TheVariants as halt
use Rattle.front_end.specs.Lines.{up_to_quit}
use Rattle.front_end.specs.Texts.{status_of}
use Rattle.face.specs.Carrying.{CarriesUntold}
use Rattle.face.specs.Causes.{AnswerFailsBy}
use Rattle.face.specs.Run.{Run, StandsFor, after_lines, answered, first_lines, state_at, step}
use Rattle.face.specs.Working.{Demands}
use Rattle.face.specs.Worn.{WearsNoneBefore}
use Rattle.engine.specs.Listings.{QueueIsOnFlash}
use Rattle.engine.specs.SeenVersions.{WhereItFits}
use Rattle.site.specs.declared.outside.Dev.{Dev}
use Rattle.site.specs.declared.outside.Stop.TheVariants.{Worn}
use Rattle.face.specs.RunInProgress.{HasServed}
use Rattle.face.proofs.LinesBeforeQuit.{NoneQuits, after_cons}
use Rattle.face.proofs.RunsSoFar.{going_stands}
use Rattle.face.proofs.Serving.{line_fails, none_before, served_all, served_next, served_so_far}
use Rattle.archive_restore.specs.Writing.{AsksSome, HasCarried, blank_state, run_over}

-- no line fails by taking input
pub answer_takes_nothing : (h : Halt) (engine : Engine) (old new : Site) → AnswerFailsBy h engine old new → (h ≢ halt.Input) × (h ≢ halt.Limit)
answer_takes_nothing (halt.Stop stop) engine old new fails = (λ e. cc, λ e. cc)
answer_takes_nothing halt.Input engine old new fails = absurd fails
answer_takes_nothing halt.Output engine old new fails = (λ e. cc, λ e. cc)
answer_takes_nothing halt.Limit engine old new fails = absurd fails

-- a line more
after_push : (s : State) (lines : List Line) (line : Line) → after_lines s (lines ++ line ∷ []) [] ≡ (step (after_lines s lines []) line []).after
after_push s [] line = after_cons s line []
after_push s (x ∷ lines) line = after_cons s x (lines ++ line ∷ []) ∙ after_push (step s x []).after lines line ∙ ap (λ (t : State). (step t line []).after) (sym (after_cons s x lines))

answered_behind : (lines more : List Line) → NoneQuits lines → up_to_quit (lines ++ more) ≡ lines ++ up_to_quit more
answered_behind [] more goes = refl
answered_behind (line ∷ lines) more goes = λ i. line ∷ cond (goes.0 i) [] (answered_behind lines more goes.1 i)

module _ (pool : ℕ) (g : Geometry) (entry mid : Site) (engine : Engine) (lines : List Line) (s : State) (c : HasCarried pool g entry mid engine lines s) where
  -- they are the first ones, whatever comes behind them
  front : (more : List Line) → take (length lines) (answered (run_over g (lines ++ more))) ≡ lines
  front more = ap (take (length lines)) (answered_behind lines more c.goes) ∙ take_at lines (up_to_quit more) (length lines) refl

  state_is : (more : List Line) → state_at (run_over g (lines ++ more)) (length lines) ≡ s
  state_is more = ap (λ l. after_lines (blank_state g) l []) (front more) ∙ c.state

  pub carried_fits : Matches engine mid s
  carried_fits = subst (Matches engine mid) (state_is []) (c.served []).fits

  pub carried_quiet : IsQuiet mid
  carried_quiet = (c.served []).quiet

  pub carried_stands : StandsFor g mid.image s
  carried_stands = subst (StandsFor g mid.image) (state_is []) (going_stands (run_over g (lines ++ [])) entry mid engine (length lines) (c.served []))

  alone : run_over g (lines ++ []) ≡ run_over g lines
  alone = ap (run_over g) (append-nil lines)

  -- it stops behind them
  pub carried_so_far : (h : Halt) (least : ℕ) → ((dev : Dev) → h ≡ halt.Stop (Worn dev) → ⊥) → least ≤ length lines → AsksSome pool g least lines entry mid h
  carried_so_far h least never enough =
      let run = run_over g (lines ++ []) in
      record {
        begun = length lines;
        enough = enough;
        few = omega arith;
        earlier = subst (λ (r : Run). WearsNoneBefore pool r (length lines) entry.image) alone (none_before pool run entry mid engine (length lines) (c.served []) (length lines) (omega arith));
        demands = subst (λ (r : Run). Demands {T = ⊤} pool (first_lines r (length lines)) entry mid (Err h)) alone (served_so_far pool run entry mid engine (length lines) (c.served []) h never);
      }

  -- they are all
  pub carried_all : QueueIsOnFlash → WhereItFits → Demands {T = ⊤} pool (first_lines (run_over g lines) (length lines)) entry mid (Ok tt)
  carried_all queue seen = subst (λ (r : Run). Demands {T = ⊤} pool (first_lines r (length lines)) entry mid (Ok tt)) alone (served_all pool (run_over g (lines ++ [])) entry mid engine (length lines) (c.served []) queue seen tt)

  pub carried_earlier : WearsNoneBefore pool (run_over g lines) (length lines) entry.image
  carried_earlier = subst (λ (r : Run). WearsNoneBefore pool r (length lines) entry.image) alone (none_before pool (run_over g (lines ++ [])) entry mid engine (length lines) (c.served []) (length lines) (omega arith))

  pub carried_whole : length (answered (run_over g lines)) ≤ length lines
  carried_whole =
      let is : up_to_quit lines ≡ lines = ap up_to_quit (sym (append-nil lines)) ∙ answered_behind lines [] c.goes ∙ append-nil lines in
      let long = ap (λ (l : List Line). length l) is in
      omega (arith, long)

  module _ (command : Command) (engine' : Engine) (new : Site) where
    abbrev line : Line
    line = Some command

    -- a line is carried out
    pub carried_next : is_quit line ≡ false → (reply : Reply) → CarriesUntold (Ok reply) line engine engine' mid new → HasCarried pool g entry new engine' (lines ++ line ∷ []) (step s line []).after
    carried_next going reply done = record {
      served = λ more.
          let run = run_over g (lines ++ line ∷ more) in
          let next = served_next pool run entry mid engine (length lines) (c.served (line ∷ more)) line (cond (is_quit line) [] (up_to_quit more))
          (ap (drop (length lines)) (answered_behind lines (line ∷ more) c.goes) ∙ drop_at lines (up_to_quit (line ∷ more)) (length lines) refl) engine' new reply done.course in
          let long : suc (length lines) ≡ length (lines ++ line ∷ []) = let all = length-append lines (line ∷ []) in omega (arith, all) in
          subst (λ n. HasServed pool (run_over g ((lines ++ line ∷ []) ++ more)) entry new engine' n) long
          (subst (λ l. HasServed pool (run_over g l) entry new engine' (suc (length lines))) (sym (append_assoc lines (line ∷ []) more)) next);
      state = after_push (blank_state g) lines line ∙ ap (λ (t : State). (step t line []).after) c.state;
      goes = all_push (λ l. is_quit l ≡ false) lines line c.goes going;
    }

    -- a crash leaves the table before it or behind it
    pub carried_leaves : (result : Result Reply Halt) → CarriesUntold result line engine engine' mid new → LeavesOnly mid new (LeavesEither g s (step s line []).after mid.told)
    carried_leaves result done = subst (λ (x : Geometry). LeavesOnly mid new (LeavesEither x s (step s line []).after mid.told)) (c.served []).geometry (done.any_moment s carried_fits carried_quiet)

    -- or fails: all before it were carried out
    pub carried_asks : (rest : List Line) (h : Halt) (least : ℕ) → CarriesUntold (Err h) line engine engine' mid new → least ≤ length lines → AsksSome pool g least (lines ++ line ∷ rest) entry new h
    carried_asks rest h least done enough =
        let run = run_over g (lines ++ line ∷ rest) in
        let so_far = c.served (line ∷ rest) in
        record {
          begun = suc (length lines);
          enough = omega (arith, enough);
          few = let all = length-append lines (line ∷ rest) in omega (arith, all);
          earlier = none_before pool run entry mid engine (length lines) so_far (suc (length lines)) (omega arith);
          demands = line_fails pool run entry mid engine (length lines) so_far line (cond (is_quit line) [] (up_to_quit rest))
              (ap (drop (length lines)) (answered_behind lines (line ∷ rest) c.goes) ∙ drop_at lines (up_to_quit (line ∷ rest)) (length lines) refl) engine' new (Err h) done.course h refl;
        }

    pub failed_quiet : (h : Halt) → CarriesUntold (Err h) line engine engine' mid new → status_of h ≢ 3 → IsQuiet new
    failed_quiet h done ne = (done.course.does s carried_fits).quiet carried_quiet (λ d e. ne (ap status_of e))
