use Rattle.redo_undo.proofs.Names.{◌≡◌, ℕ, List, length, ◌∷◌, [], ◌++◌, refl, sym, ap, subst, ◌∙◌, arith, length-append, Err, seen, Master, kept_by, saved_by, HasHeard, in_order_left, Entry, log_from, IsInOrder, some_group, Opening, HasTaken, IsReading, asked_of, opened, ok_as}
use Rattle.redo_undo.proofs.Judging.{read_in_order}
use Rattle.redo_undo.proofs.NextRecords.{may_step, known_before, no_change}
use Rattle.redo_undo.proofs.RedoWorks.{stops_first, asks_early, asks_late}
use Rattle.redo_undo.proofs.TakenRecords.{analysis_to, analysis_back, step_to}
use Rattle.redo_undo.proofs.Calling.{keeps_redoing, keeps_refused_by, not_worn}
use Rattle.redo_undo.proofs.redo_pass.take_record.Given.{Over}
use Rattle.redo_undo.proofs.redo_pass.take_record.Goals.{In_default}
use Rattle.redo_undo.proofs.redo_pass.take_record.Goals as goal

-- It is judged.

module _ (g : Over) (c : In_default g) (o : Opening) (front rest : List Entry) (own : c.args.master.now ≡ saved_by o.newest)
    (is : log_from (kept_by o.newest) o.blocks ≡ front ++ record { lsn = c.args.lsn; rec = c.args.rec.now } ∷ rest) where
  abbrev one : Entry
  one = record { lsn = c.args.lsn; rec = c.args.rec.now }

  heard_now : (from to : ℕ) → HasHeard (opened o) front c.args.so_far.now.judge → IsInOrder from (log_from (kept_by o.newest) o.blocks) to → c.args.so_far.now.records ≡ length front →
      HasHeard (opened o) (front ++ one ∷ []) c.hear.new.self
  heard_now from to heard order count =
      c.in_default.ensures.heard (opened o) front from (ap seen (sym own)) heard (in_order_left from front one rest to (subst (λ (l : List Entry). IsInOrder from l to) is order)) (omega (arith, count, c.requires.few))

judged_now : (g : Over) (c : In_default g) (o : Opening) (front rest : List Entry) (own : c.args.master.now ≡ saved_by o.newest) →
    HasTaken o c.args.log.now c.args.pages.now (g.S.Site.state c.args.site.now) c.args.so_far.now front →
    log_from (kept_by o.newest) o.blocks ≡ front ++ record { lsn = c.args.lsn; rec = c.args.rec.now } ∷ rest →
    HasHeard (opened o) (front ++ record { lsn = c.args.lsn; rec = c.args.rec.now } ∷ []) c.hear.new.self
judged_now g c o front rest own h is = heard_now g c o front rest own is _ _ h.heard h.pages_are.sound.in_order h.count

reading_now : (g : Over) (c : In_default g) (o : Opening) (front rest : List Entry) (own : c.args.master.now ≡ saved_by o.newest) →
    IsReading o c.args.log.now c.args.pages.now (g.S.Site.state c.args.site.now) c.args.so_far.now front →
    log_from (kept_by o.newest) o.blocks ≡ front ++ record { lsn = c.args.lsn; rec = c.args.rec.now } ∷ rest →
    HasHeard (opened o) (front ++ record { lsn = c.args.lsn; rec = c.args.rec.now } ∷ []) c.hear.new.self
reading_now g c o front rest own h is = heard_now g c o front rest own is _ _ h.heard (read_in_order o _ _ _ h.readable) h.count

pub returns-in-Err-clause-takes : goal.returns-in-Err-clause-takes
returns-in-Err-clause-takes g c o front rest own h is =
    let e : Entry = record { lsn = c.args.lsn; rec = c.args.rec.now } in
    record {
      taken = tt;
      keeps = keeps_refused_by c.in-Err.ensures.stops c.requires.going.sizes h.pages_are (λ same.
          c.in-Err.ensures.foreign (opened o) front rest _ _ (ap seen (sym own)) h.heard (omega (arith, h.count, c.requires.few)) is h.pages_are.sound.in_order (ap Err same)
          (c.sound_is_judged.ensures (opened o) h.pages_are.sound));
      asks = stops_first c.in-Err.stop (asked_of o (e ∷ [])) c.args.pages.now _ (some_group c.requires.going)
          (not_worn c.in-Err.stop c.in-Err.ensures.stops);
    }

pub returns-then-lsn-master-clause-reads : goal.returns-then-lsn-master-clause-reads
returns-then-lsn-master-clause-reads g c o front rest own h is = record {
  readable = h.readable;
  heard = reading_now g (goal.at.returns-then-lsn-master-clause-reads g c).In_default o front rest own h is;
  count = omega (arith, h.count, length-append front (record { lsn = c.args.lsn; rec = c.args.rec.now } ∷ []));
}

pub returns-clause-reads : goal.returns-clause-reads
returns-clause-reads g c o front rest own h is = ok_as c.redo_record.result _ _ (λ ready. record {
  readable = record { kept = c.redo_record.ensures.logs_nothing.works.kept ∙ h.readable.kept; ready = ready };
  heard = reading_now g (goal.at.returns-clause-reads g c).In_default o front rest own h is;
  count = omega (arith, h.count, length-append front (record { lsn = c.args.lsn; rec = c.args.rec.now } ∷ []));
}) (c.redo_record.ensures.ready (record { first = kept_by o.newest; blocks = o.blocks; tail = [] }) h.readable.ready refl)

pub returns-in-Err-analyse-clause-takes : goal.returns-in-Err-analyse-clause-takes
returns-in-Err-analyse-clause-takes g c o front rest own h is =
    let e : Entry = record { lsn = c.args.lsn; rec = c.args.rec.now } in
    let to = analysis_to o c.args.master.now own front c.args.so_far.now.found h.analysis in
    let step = step_to o c.args.master.now own front e (may_step o c.args.log.now c.args.pages.now _ front h.pages_are e rest is c.sound_log_steps.ensures.steps) in
    record {
      taken = tt;
      keeps = keeps_refused_by c.in-Err-analyse.ensures.stops c.requires.going.sizes h.pages_are (λ same. c.in-Err-analyse.ensures.readable front to step (ap Err same));
      asks = stops_first c.in-Err-analyse.stop (asked_of o (e ∷ [])) c.args.pages.now _ (some_group c.requires.going)
          (not_worn c.in-Err-analyse.stop c.in-Err-analyse.ensures.stops);
    }

pub returns-then-lsn-master-clause-takes : goal.returns-then-lsn-master-clause-takes
returns-then-lsn-master-clause-takes g c o front rest own h is =
    let e : Entry = record { lsn = c.args.lsn; rec = c.args.rec.now } in
    let step = step_to o c.args.master.now own front e (may_step o c.args.log.now c.args.pages.now _ front h.pages_are e rest is c.sound_log_steps.ensures.steps) in
    let heard = c.in_default-analyse.ensures.heard front (analysis_to o c.args.master.now own front c.args.so_far.now.found h.analysis) step in
    let redo = ap (λ (m : Master). m.redo) own in
    record {
      taken = record {
        pages_are = no_change o c.args.log.now c.args.pages.now _ front h.pages_are e rest is
            (known_before o c.args.log.now c.args.pages.now _ front h.pages_are e rest is (omega (arith, redo, c.if-lsn-master.true)));
        analysis = analysis_back o c.args.master.now own (front ++ e ∷ []) _ heard;
        heard = judged_now g (goal.at.returns-then-lsn-master-clause-takes g c).In_default o front rest own h is;
        count = omega (arith, h.count, length-append front (e ∷ []));
      };
      keeps = keeps_redoing c.requires.going.sizes h.pages_are;
      asks = asks_early _ o e c.args.pages.now _ (omega (arith, redo, c.if-lsn-master.true));
    }

pub returns-clause-takes : goal.returns-clause-takes
returns-clause-takes g c o front rest own h is =
    let e : Entry = record { lsn = c.args.lsn; rec = c.args.rec.now } in
    let step = step_to o c.args.master.now own front e (may_step o c.args.log.now c.args.pages.now _ front h.pages_are e rest is c.sound_log_steps.ensures.steps) in
    let heard = c.in_default-analyse.ensures.heard front (analysis_to o c.args.master.now own front c.args.so_far.now.found h.analysis) step in
    let redo = ap (λ (m : Master). m.redo) own in
    record {
      taken = ok_as c.redo_record.result _ _ (λ pages_are. record { pages_are = pages_are; analysis = analysis_back o c.args.master.now own (front ++ e ∷ []) _ heard; heard = judged_now g (goal.at.returns-clause-takes g c).In_default o front rest own h is; count = omega (arith, h.count, length-append front (e ∷ [])) })
          (c.redo_record.ensures.redoing o front rest h.pages_are is);
      keeps = c.redo_record.ensures.keeps o front rest h.pages_are is;
      asks = asks_late c.redo_record.result o e c.args.pages.now c.redo_record.new.pages _ (g.S.Site.state c.redo_record.new.site) (omega (arith, redo, c.if-lsn-master.false)) (c.redo_record.ensures.asks o front rest h.pages_are is);
    }
