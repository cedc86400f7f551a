use Rattle.redo_undo.proofs.Names.{◌∙◌, ◌+◌, ◌*◌, ◌++◌, ◌∷◌, [], ℕ, true≢false, refl, arith, sym, front_of, Entry, AreOrderly, Clr, if_ok_one, change_made, change_stopped, some_group, Represents, MayGrow, performs_as, performs_by, performs_then, performs_stopped, changed, clr_octets, rules_of, Log}
use Rattle.redo_undo.proofs.Compensations.{may_moved}
use Rattle.redo_undo.proofs.Calling.{keeps_failed, keeps_few, keeps_then, works_foreign, works_then}
use Rattle.std.proofs.lemmas.Grind.{common_steps}
use Rattle.redo_undo.proofs.UndoneWork.{back_is}
use Rattle.redo_undo.proofs.undo.compensate.Goals as goal

pub fits_front-requires-clause-on_page : goal.fits_front-requires-clause-on_page
fits_front-requires-clause-on_page g c = (32 * c.args.wanted.page + c.args.wanted.slot, refl, let front = c.in-Ok.ensures.front in let form = c.requires.form.0 in omega (arith, front, form))

pub log_change-requires-clause-on_page : goal.log_change-requires-clause-on_page
log_change-requires-clause-on_page g c = (32 * c.args.wanted.page + c.args.wanted.slot, refl, let front = c.in-Ok.ensures.front in let form = c.requires.form.0 in omega (arith, front, form))

pub returns : goal.returns
returns g c =
    let site = g.S.Site.state c.args.site.now in
    let mid = g.S.Site.state c.touch.new.site in
    let new = g.S.Site.state c.log_change.new.site in
    let w = c.args.wanted in
    let entry : ℕ → Entry = λ (lsn : ℕ). record { lsn = lsn; rec = Clr c.args.at.now.txn c.args.at.now.last w.prev w.page w.slot w.before } in
    let first = c.in-Ok.ensures.logs_nothing.works in
    record {
      holds = λ newest records history h.
          if_ok_one c.log_change.result
          (λ lsn. MayGrow c.touch.new.log c.touch.new.pages mid.image newest records (entry lsn) → Represents c.log_change.new.log c.log_change.new.pages new newest (records ++ entry lsn ∷ []) history)
          (λ lsn. MayGrow _ _ site.image newest records (entry lsn) → Represents c.log_change.new.log c.log_change.new.pages new newest (records ++ entry lsn ∷ []) history)
          (λ lsn grown may. grown (may_moved _ c.touch.new.log _ c.touch.new.pages site.image mid.image newest records (entry lsn) refl c.touch.ensures.logs_nothing.works.geometry c.in-Ok.ensures.logs_nothing.blocks c.touch.ensures.logs_nothing.works.kept may))
          (c.log_change.ensures.holds newest records history (c.in-Ok.ensures.holds newest records history h));
      orderly = λ newest records history h.
          if_ok_one c.log_change.result
          (λ lsn. MayGrow c.touch.new.log c.touch.new.pages mid.image newest records (entry lsn) → AreOrderly records → AreOrderly (records ++ entry lsn ∷ []))
          (λ lsn. MayGrow _ _ site.image newest records (entry lsn) → AreOrderly records → AreOrderly (records ++ entry lsn ∷ []))
          (λ lsn grown may. grown (may_moved _ c.touch.new.log _ c.touch.new.pages site.image mid.image newest records (entry lsn) refl c.touch.ensures.logs_nothing.works.geometry c.in-Ok.ensures.logs_nothing.blocks c.touch.ensures.logs_nothing.works.kept may))
          (c.log_change.ensures.orderly newest records history (c.in-Ok.ensures.holds newest records history h));
      does = λ newest records history lsn h may.
          let held = c.in-Ok.ensures.holds newest records history h in
          record {
            keeps = keeps_then h.log_holds.ready.blocks.honest first.geometry first.geometry first.calls (c.in-Ok.ensures.keeps newest records history h) (c.log_change.ensures.keeps newest records history held);
            asks = change_made tt c.log_change.result w.page _ _ _ site mid new (some_group c.requires.going) c.in-Ok.ensures.asks c.log_change.ensures.machine (λ i. rules_of (c.log_change.ensures.works.size i) (c.log_change.ensures.works.geometry i).groups) c.log_change.ensures.reads
                c.log_change.ensures.stages;
            performs = performs_as (sym (back_is w.page w.slot (front_of c.touch.new.pages.pool.frames).page w.before c.requires.form.0 c.in-Ok.ensures.front))
                (performs_then (c.in-Ok.ensures.performs newest records history h) (performs_by (sym c.in-Ok.ensures.asks.rules_are) (c.log_change.ensures.performs newest records history held)));
            log_reads = let same = c.log_change.ensures.reads Log ∙ c.touch.ensures.logs_nothing.log_reads in omega (arith, same);
          };
      rises = grind (arith, common_steps);
      works = works_then c.in-Ok.ensures.logs_nothing.works c.log_change.ensures.works;
      blocks = grind (arith, common_steps);
      log_reads = c.log_change.ensures.reads Log ∙ c.touch.ensures.logs_nothing.log_reads;
    }

pub returns-in-Err-clause-does : goal.returns-in-Err-clause-does
returns-in-Err-clause-does g c newest records history lsn h may =
    let w = c.args.wanted in
    record {
      keeps = keeps_few (omega arith) (keeps_failed (c.in-Err.ensures.keeps newest records history h));
      asks = change_stopped c.in-Err.stop w.page _ c.touch.new.pages (g.S.Site.state c.args.site.now) (g.S.Site.state c.touch.new.site) (some_group c.requires.going) c.in-Err.ensures.asks;
      performs = performs_as (sym (back_is w.page w.slot w.page w.before c.requires.form.0 refl)) (performs_stopped (changed (clr_octets w.before) w.page ∷ []) (c.in-Err.ensures.performs newest records history h));
      log_reads = let same = c.in-Err.ensures.logs_nothing.log_reads in omega (arith, same);
    }

-- the page has room for what stood there
pub returns-then-not-fits_front-clause-does : goal.returns-then-not-fits_front-clause-does
returns-then-not-fits_front-clause-does g c newest records history lsn h may =
    let site = g.S.Site.state c.args.site.now in
    let mid = g.S.Site.state c.touch.new.site in
    let w = c.args.wanted in
    let e : Entry = record { lsn = lsn; rec = Clr c.args.at.now.txn c.args.at.now.last w.prev w.page w.slot w.before } in
    let moved = may_moved _ c.touch.new.log _ c.touch.new.pages site.image mid.image newest records e refl c.touch.ensures.logs_nothing.works.geometry c.in-Ok.ensures.logs_nothing.blocks c.touch.ensures.logs_nothing.works.kept may in
    absurd (true≢false (sym (c.fits_front.ensures.grows c.touch.new.log mid newest records history lsn (c.in-Ok.ensures.holds newest records history h) moved) ∙ c.if-not-fits_front.true))

pub returns-then-not-fits_front-clause-works : goal.returns-then-not-fits_front-clause-works
returns-then-not-fits_front-clause-works g c = works_foreign c.in-Ok.ensures.logs_nothing.works
