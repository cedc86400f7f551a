use Rattle.face.proofs.Names.{◌≡◌, ◌-◌, ◌+◌, ◌*◌, ◌<◌, ◌≤◌, ◌&&◌, ⊎_elim, ℕ, suc, List, [], ◌∷◌, drop, false, true≢false, refl, sym, ◌∙◌, ap, subst, arith, add-one, cases_lt, IsGood, LoadInProgress, Run, answered, first_lines, listing_at, state_at, step, turns_of, checkpoints_in, committed_in, found_in, get_line, has_passed, load_run, makes_one, set_line, Line, is_cache, State, is_due, Geometry, following, generated, record_of, value_of}
use Rattle.face.proofs.Ends.{answer_takes_nothing}
use Rattle.face.proofs.Fronts.{whole_turns}
use Rattle.face.proofs.Going.{ends_as, ends_well, fails_there, goes_next}
use Rattle.face.proofs.Loadings.{get_at, lines_count, load_finished, load_never_opened, load_next, load_opened, load_stopped, opens_never, opens_still, set_at}
use Rattle.face.proofs.LoadCounts.{counted_next, get_makes, one_most, set_makes}
use Rattle.face.proofs.load.run_load.Given.{Over}
use Rattle.face.proofs.load.run_load.Goals.{After-carry_out}
use Rattle.face.proofs.load.run_load.Goals as goal

pub returns-in-Err-clause-works : goal.returns-in-Err-clause-works
returns-in-Err-clause-works g c geometry opening good =
    load_never_opened geometry opening c.args.load.now (g.S.Site.state c.args.site.now) (g.S.Site.state c.open.new.site) c.in-Err.halt (c.in-Err.ensures.never (load_run geometry opening c.args.load.now) good) (c.open.ensures.left good.honest)

pub loop-place-init : goal.loop-place-init
loop-place-init g c = record {
  going = c.in-Ok.ensures.going;
  sets = λ few. refl;
  gets = λ less. absurd (omega (arith, less));
  committed = omega arith;
  checkpoints = omega arith;
  found = omega arith;
  progress = λ geometry opening good. load_opened geometry opening c.args.load.now (g.S.Site.state c.args.site.now) (g.S.Site.state c.open.new.site) c.in-Ok.engine (c.in-Ok.ensures.opens (load_run geometry opening c.args.load.now) good) (c.open.ensures.left good.honest);
  counted = λ geometry opening good. record { committed_is = refl; checkpoints_are = refl; found_is = refl };
}

-- A line was carried out, or has failed.
module _ (g : Over) (c : After-carry_out g) where
  abbrev i : ℕ
  i = c.loop-place.place

  abbrev count : ℕ
  count = c.args.load.now.count

  abbrev x : ℕ
  x = c.number_at-x.result

  abbrev line : Line
  line = c.line_at.result

  abbrev pages : ℕ
  pages = c.pages_of-pages.result

  x_sets : i < count → x ≡ generated c.args.load.now.seed (suc i)
  x_sets less = c.number_at-x.ensures.next (λ e. omega (arith, less, e)) ∙ ap following (c.loop-place.invariant.sets (omega (arith, less)))

  x_gets : count ≤ i → x ≡ generated c.args.load.now.seed (suc (i - count))
  x_gets many = ⊎_elim
      (λ less. c.number_at-x.ensures.next (λ e. omega (arith, less, e)) ∙ ap following (c.loop-place.invariant.gets less))
      (λ few. let none : 0 ≡ i - count = omega (arith, few, many) in c.number_at-x.ensures.anew (omega (arith, few, many)) ∙ ap (λ (n : ℕ). generated c.args.load.now.seed (suc n)) none)
      (cases_lt count i)

  by_kind : (P : Line → Type 0) → ((y : ℕ) → P (set_line (32 * pages) y)) → ((y : ℕ) → P (get_line (32 * pages) y)) → P line
  by_kind P sets gets = ⊎_elim (λ less. subst P (sym (c.line_at.ensures.sets less)) (sets x)) (λ many. subst P (sym (c.line_at.ensures.gets many)) (gets x)) (cases_lt i count)

  plain : is_cache line ≡ false
  plain = by_kind (λ l. is_cache l ≡ false) (λ y. refl) (λ y. refl)

  makes : (s : State) → (is_due s && has_passed (step s line []).reply) ≡ makes_one s line
  makes s = by_kind (λ l. (is_due s && has_passed (step s l []).reply) ≡ makes_one s l) (λ y. set_makes s (record_of y (32 * pages)) (value_of y)) (λ y. get_makes s (record_of y (32 * pages)))

  module _ (geometry : Geometry) (opening : State) (good : IsGood geometry opening (g.S.Site.state c.args.site.now)) where
    abbrev run : Run
    run = load_run geometry opening c.args.load.now

    pages_are : pages ≡ geometry.pages
    pages_are = c.pages_of-pages.ensures.pages ∙ ap (λ (y : Geometry). y.pages) (c.in-Ok.ensures.opens run good).geometry

    at : (rest : List Line) × (drop i (answered run) ≡ line ∷ rest)
    at = ⊎_elim
        (λ less.
        let s = set_at geometry opening c.args.load.now i less in
        (s.0, s.1 ∙ ap (λ (l : Line). l ∷ s.0) (sym (c.line_at.ensures.sets less ∙ (λ k. set_line (32 * pages_are k) (x_sets less k))))))
        (λ many.
        let s = get_at geometry opening c.args.load.now (i - count) (omega (arith, many, c.loop-place-test.true)) in
        let place : i ≡ count + (i - count) = omega (arith, many) in
        (s.0, ap (λ (n : ℕ). drop n (answered run)) place ∙ s.1 ∙ ap (λ (l : Line). l ∷ s.0) (sym (c.line_at.ensures.gets many ∙ (λ k. get_line (32 * pages_are k) (x_gets many k))))))
        (cases_lt i count)

pub loop-place-preserved : goal.loop-place-preserved
loop-place-preserved g c =
    let s = (goal.at.loop-place-preserved g c).After-carry_out in
    let old = g.S.Site.state c.args.site.now in
    let mid = g.S.Site.state c.loop-place.site in
    let new = g.S.Site.state c.carry_out.new.site in
    let i = c.loop-place.place in
    let load = c.args.load.now in
    let inv = c.loop-place.invariant in
    let reply = c.in-Ok-carry_out.reply in
    record {
      going = goes_next old mid new c.loop-place.engine inv.going reply c.line_at.result c.carry_out.new.engine c.in-Ok-carry_out.ensures.course;
      sets = λ few. x_sets g s (omega (arith, few)) ∙ ap (generated load.seed) (sym (add-one i));
      gets = λ less. let more : suc (i - load.count) ≡ i + 1 - load.count = omega (arith, less) in x_gets g s (omega (arith, less)) ∙ ap (generated load.seed) more;
      committed = let few = one_most _ _ _ c.count_line-counts.ensures.committed in let so_far = inv.committed in omega (arith, few, so_far);
      checkpoints = let few = one_most _ _ _ c.count_line-counts.ensures.checkpoints in let so_far = inv.checkpoints in omega (arith, few, so_far);
      found = let few = one_most _ _ _ c.count_line-counts.ensures.found in let so_far = inv.found in omega (arith, few, so_far);
      progress = λ geometry opening good.
          let at = at g s geometry opening good in
          subst (LoadInProgress load.pool (load_run geometry opening load) old new c.carry_out.new.engine) (sym (add-one i))
          (load_next geometry opening load old mid c.loop-place.engine i (inv.progress geometry opening good) c.line_at.result at.0 at.1 c.carry_out.new.engine new reply c.in-Ok-carry_out.ensures);
      counted = λ geometry opening good.
          let run = load_run geometry opening load in
          let at = at g s geometry opening good in
          let fits = (inv.progress geometry opening good).fits in
          let model = state_at run i in
          let own = c.in-Ok-carry_out.ensures.reply model [] (λ asks. absurd (true≢false (sym asks ∙ plain g s))) fits in
          let due = c.is_due-due.ensures model mid fits in
          let counted = counted_next run i c.line_at.result at.0 at.1 _ _ _ (inv.counted geometry opening good) reply
          (c.in-Ok-carry_out.ensures.reply model (listing_at run i) (λ asks. absurd (true≢false (sym asks ∙ plain g s))) fits) c.is_due-due.result ((λ k. due k && has_passed (own k)) ∙ makes g s model) in
          record {
            committed_is = c.count_line-counts.ensures.committed ∙ counted.committed_is ∙ ap (λ (n : ℕ). committed_in (turns_of (first_lines run n))) (sym (add-one i));
            checkpoints_are = c.count_line-counts.ensures.checkpoints ∙ counted.checkpoints_are ∙ ap (λ (n : ℕ). checkpoints_in (turns_of (first_lines run n))) (sym (add-one i));
            found_is = c.count_line-counts.ensures.found ∙ counted.found_is ∙ ap (λ (n : ℕ). found_in (turns_of (first_lines run n))) (sym (add-one i));
          };
    }

pub returns-in-Err-carry_out-clause-works : goal.returns-in-Err-carry_out-clause-works
returns-in-Err-carry_out-clause-works g c geometry opening good =
    let s = (goal.at.returns-in-Err-carry_out-clause-works g c).After-carry_out in
    let at = at g s geometry opening good in
    load_stopped geometry opening c.args.load.now (g.S.Site.state c.args.site.now) (g.S.Site.state c.loop-place.site) c.loop-place.engine c.loop-place.place (c.loop-place.invariant.progress geometry opening good) c.line_at.result at.0 at.1 c.carry_out.new.engine (g.S.Site.state c.carry_out.new.site) c.in-Err-carry_out.halt
    (let all = lines_count geometry opening c.args.load.now in omega (arith, all, c.loop-place-test.true)) c.in-Err-carry_out.ensures

pub returns-in-Err-carry_out-clause-halts : goal.returns-in-Err-carry_out-clause-halts
returns-in-Err-carry_out-clause-halts g c = answer_takes_nothing c.in-Err-carry_out.halt c.loop-place.engine (g.S.Site.state c.loop-place.site) (g.S.Site.state c.carry_out.new.site) c.in-Err-carry_out.ensures.course.cause

pub returns-in-Err-clause-ends : goal.returns-in-Err-clause-ends
returns-in-Err-clause-ends g c = ends_as c.in-Err.halt _ _ c.in-Err.ensures.ends

pub returns-in-Err-carry_out-clause-ends : goal.returns-in-Err-carry_out-clause-ends
returns-in-Err-carry_out-clause-ends g c =
    fails_there _ (g.S.Site.state c.loop-place.site) (g.S.Site.state c.carry_out.new.site) c.loop-place.engine c.loop-place.invariant.going c.in-Err-carry_out.halt c.line_at.result c.carry_out.new.engine c.in-Err-carry_out.ensures.course

pub returns-clause-ends : goal.returns-clause-ends
returns-clause-ends g c = ends_well _ _ (g.S.Site.state c.loop-place.site) c.loop-place.engine c.loop-place.invariant.going

pub returns-clause-works : goal.returns-clause-works
returns-clause-works g c geometry opening good =
    load_finished geometry opening c.args.load.now (g.S.Site.state c.args.site.now) (g.S.Site.state c.loop-place.site) c.loop-place.engine c.loop-place.place (c.loop-place.invariant.progress geometry opening good) c.queue_is_on_flash.ensures c.versions_are_seen.ensures _ (omega (arith, c.loop-place-test.false, c.loop-place.auto.place-end))

pub returns-clause-counts : goal.returns-clause-counts
returns-clause-counts g c geometry opening good =
    let run = load_run geometry opening c.args.load.now in
    let counted = c.loop-place.invariant.counted geometry opening good in
    let all = whole_turns run c.loop-place.place (let lines = lines_count geometry opening c.args.load.now in omega (arith, lines, c.loop-place-test.false)) in
    record {
      committed_is = counted.committed_is ∙ ap committed_in all;
      checkpoints_are = counted.checkpoints_are ∙ ap checkpoints_in all;
      found_is = counted.found_is ∙ ap found_in all;
    }

-- What is told by then.

pub returns-in-Err-clause-opens : goal.returns-in-Err-clause-opens
returns-in-Err-clause-opens g c geometry opening good =
    opens_never geometry opening c.args.load.now (g.S.Site.state c.args.site.now) (g.S.Site.state c.open.new.site) c.in-Err.halt (c.in-Err.ensures.never (load_run geometry opening c.args.load.now) good)

pub returns-in-Err-carry_out-clause-opens : goal.returns-in-Err-carry_out-clause-opens
returns-in-Err-carry_out-clause-opens g c geometry opening good =
    let s = (goal.at.returns-in-Err-carry_out-clause-opens g c).After-carry_out in
    let at = at g s geometry opening good in
    opens_still geometry opening c.args.load.now (g.S.Site.state c.args.site.now) (g.S.Site.state c.loop-place.site) c.loop-place.engine c.loop-place.place (c.loop-place.invariant.progress geometry opening good) c.line_at.result at.0 at.1 c.carry_out.new.engine (g.S.Site.state c.carry_out.new.site) _ c.in-Err-carry_out.ensures

pub returns-clause-opens : goal.returns-clause-opens
returns-clause-opens g c geometry opening good = (c.loop-place.invariant.progress geometry opening good).tells

pub returns-in-Err-clause-judged : goal.returns-in-Err-clause-judged
returns-in-Err-clause-judged g c honest = tt

pub returns-in-Err-carry_out-clause-judged : goal.returns-in-Err-carry_out-clause-judged
returns-in-Err-carry_out-clause-judged g c honest = tt

pub returns-clause-judged : goal.returns-clause-judged
returns-clause-judged g c honest = c.in-Ok.ensures.judged honest
