use Rattle.std.proofs.Common.{◌≡◌, List, [], ◌∙◌, ap, refl, sym, subst, arith}
use Rattle.std.specs.Prelude.{Err}
use Rattle.std.proofs.lemmas.List.{append-nil}
use Rattle.site.proofs.Laws.{no_call}
use Rattle.site.specs.Telling.{TellsPart}
use Rattle.record_model.specs.Touches.{CacheOp}
use Rattle.image_meaning.specs.Meaning.{logical_image_under}
use Rattle.second_chance.specs.Machine.{rules_of}
use Rattle.engine.specs.Image.{Opens, log_under}
use Rattle.engine.specs.Paging.{HasStagedFrom, cache_on, restart_works}
use Rattle.engine.specs.declared.engine.Engine.{Engine}
use Rattle.front_end.specs.Texts.{status_of}
use Rattle.front_end.specs.declared.halt.Halt.TheVariants as halt
use Rattle.face.proofs.CallCounts.{calls_told}
use Rattle.face.proofs.Carrying.{stop_faults}
use Rattle.face.proofs.CommandLaws.{start_cause}
use Rattle.face.proofs.Counted.{first_counted, restart_numbers}
use Rattle.face.proofs.Demanded.{demands_err}
use Rattle.face.specs.Run.{first_lines}
use Rattle.ring_machine.specs.Machine.{RingOp, first_worn}
use Rattle.ring_machine.specs.Restart.{restart_work}
use Rattle.engine.specs.RingWork.{machine_on}
use Rattle.site.specs.declared.outside.Stop.TheVariants.{Worn}
use Rattle.face.proofs.Meanings.{opens_where_it_stands, stands_by}
use Rattle.face.proofs.Pagings.{first_paged, first_reads}
use Rattle.face.proofs.WornRuns.{opened_performs}
use Rattle.archive_restore.specs.Writing.{blank_state, run_over}
use Rattle.archive_restore.proofs.Starts.{target_opens, tells_nothing}
use Rattle.archive_restore.proofs.beginning.begin.Goals as goal

pub returns-in-Ok-clause-begins : goal.returns-in-Ok-clause-begins
returns-in-Ok-clause-begins g c geometry t =
    let old = g.S.Site.state c.args.site.now in
    let mid = g.S.Site.state c.start.new.site in
    let opening : Opens geometry old.image (blank_state geometry) = target_opens c.blank_stands.ensures geometry old t in
    let opens = c.in-Ok.ensures.opens t.honest geometry (blank_state geometry) opening in
    record {
      carried = record {
        served = λ more. record {
          opens = opening;
          fits = opens.0;
          quiet = c.in-Ok.ensures.calls.stays_quiet t.honest t.quiet;
          going = c.in-Ok.ensures.going;
          geometry = opens.1;
          few = omega arith;
          paged = λ newest blocks sound. first_paged c.args.pool (run_over geometry more) newest old.image blocks c.in-Ok.engine _ _ _ (c.in-Ok.ensures.asks t.honest geometry newest blocks sound);
          mirrored = λ newest blocks sound. opened_performs (run_over geometry more) newest old.image blocks c.in-Ok.engine refl (c.in-Ok.ensures.performs t.honest geometry newest blocks sound);
          counted = λ newest blocks sound. first_counted (run_over geometry more) (log_under newest blocks) old c.in-Ok.engine [] mid mid (no_call mid (TellsPart [] mid) (tells_nothing mid))
              (calls_told geometry [] mid mid refl (sym (append-nil mid.told)) (no_call mid (TellsPart [] mid) (tells_nothing mid)).grown (record { calls = omega arith; works = refl })) (c.in-Ok.ensures.numbers t.honest t.quiet geometry newest blocks sound);
          reads = λ newest blocks sound. first_reads c.args.pool (run_over geometry more) newest old.image blocks c.start.result (λ e. e.store.pages) old mid mid (λ d. refl) (c.start.ensures.writes t.honest t.quiet geometry newest blocks sound)
              (c.start.ensures.asks t.honest geometry newest blocks sound) (c.start.ensures.log_reads t.honest geometry newest blocks sound);
          staged = λ newest blocks sound.
              let restart = restart_works (logical_image_under newest geometry old.image blocks) in
              subst (λ (w : List CacheOp). HasStagedFrom geometry (rules_of c.args.pool geometry.groups) w (cache_on geometry old.image) old mid) (sym (append-nil restart)) (c.in-Ok.ensures.last t.honest t.quiet geometry newest blocks sound);
        };
        state = refl;
        goes = tt;
      };
      moments = (c.start.ensures.ends t.honest geometry (blank_state geometry).table 0 (stands_by geometry old.image (blank_state geometry) opening)).any_moment t.quiet;
    }

pub returns-in-Err-clause-never : goal.returns-in-Err-clause-never
returns-in-Err-clause-never g c geometry t =
    let old = g.S.Site.state c.args.site.now in
    let new = g.S.Site.state c.start.new.site in
    let opening : Opens geometry old.image (blank_state geometry) = target_opens c.blank_stands.ensures geometry old t in
    let ends = c.in-Err.ensures.ends t.honest geometry (blank_state geometry).table 0 (stands_by geometry old.image (blank_state geometry) opening) in
    record {
      asks = record {
        begun = 0;
        enough = omega arith;
        few = omega arith;
        earlier = λ lines less. absurd (omega (arith, less));
        demands = demands_err c.args.pool (first_lines (run_over geometry []) 0) old new (halt.Stop c.in-Err.stop)
            (λ dev says newest blocks sound.
            let same : c.in-Err.stop ≡ Worn dev = cc in
            let start = machine_on geometry old.image in
            ap (λ (w : List RingOp). first_worn (rules_of c.args.pool geometry.groups) w start) (append-nil (restart_work (logical_image_under newest geometry old.image blocks)))
            ∙ (c.in-Err.ensures.performs t.honest geometry newest blocks sound).worn start refl dev (ap Err same))
            (λ newest blocks sound. restart_numbers (run_over geometry []) (log_under newest blocks) old c.start.result _ new (c.start.ensures.numbers t.honest t.quiet geometry newest blocks sound))
            (λ newest blocks sound. first_reads c.args.pool (run_over geometry []) newest old.image blocks c.start.result (λ e. e.store.pages) old new new (λ dev. refl) (c.start.ensures.writes t.honest t.quiet geometry newest blocks sound) (c.start.ensures.asks t.honest geometry newest blocks sound) (c.start.ensures.log_reads t.honest geometry newest blocks sound));
      };
      moments = ends.any_moment t.quiet;
      quiet = λ ne. ends.quiet t.quiet (λ d is. ne (ap (λ x. status_of (halt.Stop x)) is));
    }

pub returns-in-Ok-clause-going : goal.returns-in-Ok-clause-going
returns-in-Ok-clause-going g c =
    let old = g.S.Site.state c.args.site.now in
    record {
      preserves = c.start.ensures.calls.preserves;
      faults = c.in-Ok.ensures.calls.faults;
      sized = c.in-Ok.ensures.refuses;
      going = c.in-Ok.ensures.going;
      fits = λ honest geometry table commits stands.
          let opens = opens_where_it_stands geometry old.image table commits stands in
          let fits = c.in-Ok.ensures.opens honest geometry opens.0 opens.1 in
          ((opens.0, fits.0), fits.1);
      next = λ honest geometry limits lengths. (c.in-Ok.ensures.next honest geometry limits lengths).next;
    }

pub returns-in-Ok-clause-ends : goal.returns-in-Ok-clause-ends
returns-in-Ok-clause-ends g c = record { cause = tt; refuses = c.in-Ok.ensures.refuses; preserves = c.start.ensures.calls.preserves; faults = c.in-Ok.ensures.calls.faults }

pub returns-in-Err-clause-ends : goal.returns-in-Err-clause-ends
returns-in-Err-clause-ends g c =
    let old = g.S.Site.state c.args.site.now in
    let new = g.S.Site.state c.start.new.site in
    record {
      cause = start_cause c.start.result c.in-Err.stop old new c.in-Err.is c.in-Err.ensures.stops c.start.ensures.calls.device c.start.ensures.ends c.start.ensures.next;
      refuses = λ none. let refused = c.in-Err.ensures.refuses none in (ap halt.Stop refused.0, ap g.S.Site.state refused.1);
      preserves = c.start.ensures.calls.preserves;
      faults = stop_faults Engine Engine c.in-Err.stop old new c.in-Err.ensures.calls.faults;
    }
