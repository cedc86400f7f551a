use Rattle.face.proofs.Names.{◌∙◌, ap, ◌≡◌, List, [], arith, refl, subst, sym, append-nil, log_under, LeavesTable, HasStagedFrom, restart_works, cache_on, machine_on, Engine, TellsDone, IsGood, Run, first_lines, status_of, logical_image_under, unsynced_told, CacheOp, RingOp, first_worn, restart_work, rules_of, open_text, stays_honest, goes_in_sequence, holds_now, EachMoment, Worn}
use Rattle.std.specs.Prelude.{Err}
use Rattle.face.proofs.Carrying.{stop_faults}
use Rattle.face.proofs.Going.{ends_told, ends_untold}
use Rattle.face.proofs.CallCounts.{calls_told}
use Rattle.face.proofs.CommandLaws.{start_cause}
use Rattle.face.proofs.Counted.{first_counted, restart_numbers, restart_told}
use Rattle.face.proofs.Demanded.{demands_err}
use Rattle.face.proofs.Dones.{opening_done, silent_start}
use Rattle.face.proofs.Logs.{goes_on, still_fits}
use Rattle.face.proofs.Meanings.{stands_by, opens_where_it_stands}
use Rattle.face.proofs.NextUnits.{next_later}
use Rattle.face.proofs.Pagings.{first_paged, first_reads}
use Rattle.face.proofs.RunsSoFar.{not_opened, opening_lost, opened}
use Rattle.face.proofs.Serving.{done_by}
use Rattle.face.proofs.WornRuns.{opened_performs}
use Rattle.face.proofs.Writings.{last_told, writes_told}
use Rattle.face.proofs.opening.open.Given.{Over}
use Rattle.face.proofs.opening.open.Goals.{After-tell_all}
use Rattle.front_end.specs.declared.halt.Halt.TheVariants as halt
use Rattle.face.proofs.opening.open.Goals as goal

pub returns-in-Err-clause-never : goal.returns-in-Err-clause-never
returns-in-Err-clause-never g c run good =
    let old = g.S.Site.state c.args.site.now in
    let new = g.S.Site.state c.start.new.site in
    let ends = c.in-Err.ensures.ends good.honest run.geometry run.opening.table run.opening.commits (stands_by run.geometry old.image run.opening good.opens) in
    record {
      stops = not_opened run old new (ends.any_moment good.quiet) (halt.Stop c.in-Err.stop) (λ ne. ends.quiet good.quiet (λ d is. ne (ap (λ x. status_of (halt.Stop x)) is)));
      tells = silent_start c.args.pool run old new (ends.any_moment good.quiet);
      demands = demands_err c.args.pool (first_lines run 0) old new (halt.Stop c.in-Err.stop)
          (λ dev says newest blocks sound.
          let same : c.in-Err.stop ≡ Worn dev = cc in
          let start = machine_on run.geometry old.image in
          ap (λ (w : List RingOp). first_worn (rules_of c.args.pool run.geometry.groups) w start) (append-nil (restart_work (logical_image_under newest run.geometry old.image blocks)))
          ∙ (c.in-Err.ensures.performs good.honest run.geometry newest blocks sound).worn start refl dev (ap Err same))
          (λ newest blocks sound. restart_numbers run (log_under newest blocks) old c.start.result _ new (c.start.ensures.numbers good.honest good.quiet run.geometry newest blocks sound))
          (λ newest blocks sound. first_reads c.args.pool run newest old.image blocks c.start.result (λ e. e.store.pages) old new new (λ dev. refl) (c.start.ensures.writes good.honest good.quiet run.geometry newest blocks sound) (c.start.ensures.asks good.honest run.geometry newest blocks sound) (c.start.ensures.log_reads good.honest run.geometry newest blocks sound));
    }

pub returns-in-Err-clause-ends : goal.returns-in-Err-clause-ends
returns-in-Err-clause-ends g c =
    let old = g.S.Site.state c.args.site.now in
    let new = g.S.Site.state c.start.new.site in
    record {
      cause = start_cause c.start.result c.in-Err.stop old new c.in-Err.is c.in-Err.ensures.stops c.start.ensures.calls.device c.start.ensures.ends c.start.ensures.next;
      refuses = λ none. let refused = c.in-Err.ensures.refuses none in (ap halt.Stop refused.0, ap g.S.Site.state refused.1);
      preserves = c.start.ensures.calls.preserves;
      faults = stop_faults Engine Engine c.in-Err.stop old new c.in-Err.ensures.calls.faults;
    }

-- The opening is told, or a front of it.
module _ (g : Over) (c : After-tell_all g) (run : Run) (good : IsGood run.geometry run.opening (g.S.Site.state c.args.site.now)) where
  tells_done : EachMoment (g.S.Site.state c.args.site.now) (g.S.Site.state c.tell_all.new.site) (TellsDone c.args.pool run 0 [] (g.S.Site.state c.args.site.now))
  tells_done =
      let old = g.S.Site.state c.args.site.now in
      let mid = g.S.Site.state c.start.new.site in
      let engine = c.in-Ok.engine in
      let leaves = (c.start.ensures.ends good.honest run.geometry run.opening.table run.opening.commits (stands_by run.geometry old.image run.opening good.opens)).any_moment good.quiet in
      let opens = c.in-Ok.ensures.opens good.honest run.geometry run.opening good.opens in
      let honest = stays_honest old mid c.start.ensures.calls.preserves good.honest in
      opening_done c.args.pool run old mid (g.S.Site.state c.tell_all.new.site) c.as_slice.result.now (c.as_slice.ensures.value ∙ c.open_line.ensures ∙ ap open_text (c.commits.ensures.model run.opening mid opens.0))
      (holds_now old mid (LeavesTable run.geometry run.opening.table run.opening.commits old.told) leaves).told leaves
      (done_by c.args.pool run old mid engine 0 c.queue_is_on_flash.ensures c.versions_are_seen.ensures opens.0 c.in-Ok.ensures.going opens.1
      (λ newest blocks sound. first_paged c.args.pool run newest old.image blocks engine _ _ _ (c.in-Ok.ensures.asks good.honest run.geometry newest blocks sound))
      (λ newest blocks sound. opened_performs run newest old.image blocks engine refl (c.in-Ok.ensures.performs good.honest run.geometry newest blocks sound))
      (λ newest blocks sound. first_reads c.args.pool run newest old.image blocks c.start.result (λ e. e.store.pages) old mid mid (λ d. refl) (c.start.ensures.writes good.honest good.quiet run.geometry newest blocks sound)
      (c.start.ensures.asks good.honest run.geometry newest blocks sound) (c.start.ensures.log_reads good.honest run.geometry newest blocks sound)))
      (c.tell_all.ensures.any_moment honest) (c.tell_all.ensures.hands honest)

pub returns-in-Err-tell_all-clause-never : goal.returns-in-Err-tell_all-clause-never
returns-in-Err-tell_all-clause-never g c run good =
    let old = g.S.Site.state c.args.site.now in
    let mid = g.S.Site.state c.start.new.site in
    let new = g.S.Site.state c.tell_all.new.site in
    let leaves = (c.start.ensures.ends good.honest run.geometry run.opening.table run.opening.commits (stands_by run.geometry old.image run.opening good.opens)).any_moment good.quiet in
    let opens = c.in-Ok.ensures.opens good.honest run.geometry run.opening good.opens in
    let is = c.as_slice.ensures.value ∙ c.open_line.ensures ∙ ap open_text (c.commits.ensures.model run.opening mid opens.0) in
    let honest = stays_honest old mid c.start.ensures.calls.preserves good.honest in
    let each = c.tell_all.ensures.any_moment honest in
    record {
      stops = opening_lost run old mid leaves new c.as_slice.result.now is each ((c.tell_all.ensures.same honest).loose ∙ c.in-Ok.ensures.calls.stays_quiet good.honest good.quiet);
      tells = tells_done g (goal.at.returns-in-Err-tell_all-clause-never g c).After-tell_all run good;
      demands = demands_err c.args.pool (first_lines run 0) old new halt.Output (λ dev says. cc)
          (λ newest blocks sound. restart_told run (log_under newest blocks) old c.start.result _ _ mid new each (c.start.ensures.numbers good.honest good.quiet run.geometry newest blocks sound))
          (λ newest blocks sound. first_reads c.args.pool run newest old.image blocks c.start.result (λ e. e.store.pages) old mid new c.tell_all.ensures.reads
          (writes_told run.geometry (rules_of c.args.pool run.geometry.groups) (restart_works (logical_image_under newest run.geometry old.image blocks)) (cache_on run.geometry old.image) _ old mid new (c.start.ensures.writes good.honest good.quiet run.geometry newest blocks sound) each)
          (c.start.ensures.asks good.honest run.geometry newest blocks sound) (c.start.ensures.log_reads good.honest run.geometry newest blocks sound));
    }

pub returns-in-Err-tell_all-clause-ends : goal.returns-in-Err-tell_all-clause-ends
returns-in-Err-tell_all-clause-ends g c =
    ends_untold c.in-Ok.engine (g.S.Site.state c.args.site.now) (g.S.Site.state c.start.new.site) (g.S.Site.state c.tell_all.new.site) (record { cause = tt; refuses = c.in-Ok.ensures.refuses; preserves = c.start.ensures.calls.preserves; faults = c.in-Ok.ensures.calls.faults }) c.tell_all.ensures.preserves
    c.in-Err-tell_all.ensures.faults c.in-Err-tell_all.ensures.cause

pub returns-in-Ok-tell_all-clause-ends : goal.returns-in-Ok-tell_all-clause-ends
returns-in-Ok-tell_all-clause-ends g c =
    ends_told c.in-Ok.engine (g.S.Site.state c.args.site.now) (g.S.Site.state c.start.new.site) (g.S.Site.state c.tell_all.new.site) (record { cause = tt; refuses = c.in-Ok.ensures.refuses; preserves = c.start.ensures.calls.preserves; faults = c.in-Ok.ensures.calls.faults }) c.tell_all.ensures.preserves
    c.in-Ok.engine c.in-Ok-tell_all.ensures.faults

pub returns-in-Ok-tell_all-clause-opens : goal.returns-in-Ok-tell_all-clause-opens
returns-in-Ok-tell_all-clause-opens g c run good =
    let old = g.S.Site.state c.args.site.now in
    let mid = g.S.Site.state c.start.new.site in
    let new = g.S.Site.state c.tell_all.new.site in
    let leaves = (c.start.ensures.ends good.honest run.geometry run.opening.table run.opening.commits (stands_by run.geometry old.image run.opening good.opens)).any_moment good.quiet in
    let opens = c.in-Ok.ensures.opens good.honest run.geometry run.opening good.opens in
    let is = c.as_slice.ensures.value ∙ c.open_line.ensures ∙ ap open_text (c.commits.ensures.model run.opening mid opens.0) in
    let honest = stays_honest old mid c.start.ensures.calls.preserves good.honest in
    let each = c.tell_all.ensures.any_moment honest in
    let same = c.tell_all.ensures.same honest in
    let r = rules_of c.args.pool run.geometry.groups in
    opened run old mid leaves new c.as_slice.result.now is each c.in-Ok.engine (record {
      opens = good.opens;
      fits = still_fits c.in-Ok.engine mid new run.opening opens.0 c.tell_all.ensures.preserves same.image;
      quiet = same.loose ∙ c.in-Ok.ensures.calls.stays_quiet good.honest good.quiet;
      going = goes_on c.in-Ok.engine mid new c.in-Ok.ensures.going c.tell_all.ensures.preserves;
      geometry = opens.1;
      few = omega arith;
      paged = λ newest blocks sound. first_paged c.args.pool run newest old.image blocks c.in-Ok.engine _ _ _ (c.in-Ok.ensures.asks good.honest run.geometry newest blocks sound);
      mirrored = λ newest blocks sound. opened_performs run newest old.image blocks c.in-Ok.engine same.image (c.in-Ok.ensures.performs good.honest run.geometry newest blocks sound);
      counted = λ newest blocks sound. first_counted run (log_under newest blocks) old c.in-Ok.engine _ mid new each
          (calls_told run.geometry c.as_slice.result.now mid new same.image (c.in-Ok-tell_all.ensures.told honest) each.grown (c.in-Ok-tell_all.ensures.tells_only honest)) (c.in-Ok.ensures.numbers good.honest good.quiet run.geometry newest blocks sound);
      reads = λ newest blocks sound. first_reads c.args.pool run newest old.image blocks c.start.result (λ e. e.store.pages) old mid new c.tell_all.ensures.reads
          (writes_told run.geometry r (restart_works (logical_image_under newest run.geometry old.image blocks)) (cache_on run.geometry old.image) _ old mid new (c.start.ensures.writes good.honest good.quiet run.geometry newest blocks sound) each)
          (c.start.ensures.asks good.honest run.geometry newest blocks sound) (c.start.ensures.log_reads good.honest run.geometry newest blocks sound);
      staged = λ newest blocks sound.
          let restart = restart_works (logical_image_under newest run.geometry old.image blocks) in
          subst (λ (w : List CacheOp). HasStagedFrom run.geometry r w (cache_on run.geometry old.image) old new) (sym (append-nil restart))
          (last_told run.geometry r restart (cache_on run.geometry old.image) _ old mid new (c.start.ensures.writes good.honest good.quiet run.geometry newest blocks sound).grown each (unsynced_told mid new each.grown (c.in-Ok-tell_all.ensures.tells_only honest).works) (c.in-Ok.ensures.last good.honest good.quiet run.geometry newest blocks sound));
    }) (c.in-Ok-tell_all.ensures.told honest) (tells_done g (goal.at.returns-in-Ok-tell_all-clause-opens g c).After-tell_all run good)

pub returns-in-Ok-tell_all-clause-going : goal.returns-in-Ok-tell_all-clause-going
returns-in-Ok-tell_all-clause-going g c =
    let old = g.S.Site.state c.args.site.now in
    let mid = g.S.Site.state c.start.new.site in
    let new = g.S.Site.state c.tell_all.new.site in
    let engine = c.in-Ok.engine in
    record {
      preserves = goes_in_sequence old mid new c.start.ensures.calls.preserves c.tell_all.ensures.preserves;
      faults = c.in-Ok-tell_all.ensures.faults ∙ c.in-Ok.ensures.calls.faults;
      sized = c.in-Ok.ensures.refuses;
      going = goes_on engine mid new c.in-Ok.ensures.going c.tell_all.ensures.preserves;
      fits = λ honest geometry table commits stands.
          let opens = opens_where_it_stands geometry old.image table commits stands in
          let fits = c.in-Ok.ensures.opens honest geometry opens.0 opens.1 in
          ((opens.0, still_fits engine mid new opens.0 fits.0 c.tell_all.ensures.preserves (c.tell_all.ensures.same (stays_honest old mid c.start.ensures.calls.preserves honest)).image), fits.1);
      next = λ honest geometry limits lengths.
          let next = (c.in-Ok.ensures.next honest geometry limits lengths).next in
          (next_later engine.store mid new (c.tell_all.ensures.same (stays_honest old mid c.start.ensures.calls.preserves honest)).image next.0, next.1);
    }

pub returns-in-Err-clause-judged : goal.returns-in-Err-clause-judged
returns-in-Err-clause-judged g c honest = tt

pub returns-in-Err-tell_all-clause-judged : goal.returns-in-Err-tell_all-clause-judged
returns-in-Err-tell_all-clause-judged g c honest = tt

pub returns-in-Ok-tell_all-clause-judged : goal.returns-in-Ok-tell_all-clause-judged
returns-in-Ok-tell_all-clause-judged g c honest = c.in-Ok.ensures.judged honest
