use Rattle.std.proofs.lemmas.Grind.{common_steps}
use Rattle.redo_undo.proofs.Names.{◌*◌, ◌+◌, true≢false, refl, sym, ap, subst, ℕ, ◌∙◌, arith, Clr, rules, work_is, IsStepOf, Compensate, Geometry}
use Rattle.redo_undo.proofs.Calling.{works_answered, works_foreign, works_nothing}
use Rattle.redo_undo.proofs.Compensations.{is_an_update, may_compensate, owes_less, room_for_clr, some_remain, undone, wanted_is}
use Rattle.redo_undo.proofs.UndoCalls.{undoes_answered, undoes_as, undoes_failed}
use Rattle.redo_undo.proofs.UndoneWork.{clr_is}
use Rattle.redo_undo.proofs.undo.put_back.Goals as goal

pub returns : goal.returns
returns g c =
    let log = c.args.log.now in
    let pages = c.args.pages.now in
    let site = g.S.Site.state c.args.site.now in
    let w = c.args.wanted in
    let sizes = ap (λ (k : Geometry). k.pages) c.requires.going.sizes in
    record {
      undone = λ newest records history x u rest h unfinished at split is.
          let step = subst (λ (n : ℕ). IsStepOf c.args.at n u.rec (Compensate w)) sizes is in
          let update = is_an_update c.args.at pages.flash.geometry.pages u.rec w step in
          let some = some_remain log pages site newest records history h x unfinished u rest split update in
          let wanted = wanted_is log pages site newest records history h x unfinished c.args.at u rest w split step in
          let may = may_compensate log pages site newest records history h x unfinished c.args.at u w c.in-Ok.last at some wanted in
          let before = c.requires.last in
          let rises = c.in-Ok.ensures.rises.0 in
          undone pages.flash.geometry c.compensate.new.log c.compensate.new.pages site.image (g.S.Site.state c.compensate.new.site) newest records history x c.args.at u rest w c.in-Ok.last unfinished at split update some
          wanted (omega (arith, before, rises, at.last))
          (c.in-Ok.ensures.holds newest records history h may)
          (owes_less log pages site newest records history h x unfinished (record { lsn = c.in-Ok.last; rec = Clr c.args.at.txn c.args.at.last w.prev w.page w.slot w.before }) refl at.txn some)
          (c.in-Ok.ensures.orderly newest records history h may);
      does = λ newest records history x u rest h unfinished at split is.
          let step = subst (λ (n : ℕ). IsStepOf c.args.at n u.rec (Compensate w)) sizes is in
          let update = is_an_update c.args.at pages.flash.geometry.pages u.rec w step in
          let some = some_remain log pages site newest records history h x unfinished u rest split update in
          let wanted = wanted_is log pages site newest records history h x unfinished c.args.at u rest w split step in
          let may = may_compensate log pages site newest records history h x unfinished c.args.at u w 0 at some wanted in
          undoes_answered (undoes_as (clr_is u (32 * w.page + w.slot) w.before wanted.number wanted.before) (sym (work_is u w.page w.slot c.requires.form.0 wanted.number))
          (c.in-Ok.ensures.does newest records history 0 h may));
      last = c.in-Ok.ensures.rises;
      next = search rules;
      same = search rules;
      works = works_answered c.in-Ok.ensures.works;
      blocks = grind (arith, common_steps);
      log_reads = search rules;
    }

pub returns-in-Err-clause-does : goal.returns-in-Err-clause-does
returns-in-Err-clause-does g c newest records history x u rest h unfinished at split is =
    let log = c.args.log.now in
    let pages = c.args.pages.now in
    let site = g.S.Site.state c.args.site.now in
    let w = c.args.wanted in
    let step = subst (λ (n : ℕ). IsStepOf c.args.at n u.rec (Compensate w)) (ap (λ (k : Geometry). k.pages) c.requires.going.sizes) is in
    let update = is_an_update c.args.at pages.flash.geometry.pages u.rec w step in
    let some = some_remain log pages site newest records history h x unfinished u rest split update in
    let wanted = wanted_is log pages site newest records history h x unfinished c.args.at u rest w split step in
    let may = may_compensate log pages site newest records history h x unfinished c.args.at u w 0 at some wanted in
    undoes_failed (undoes_as (clr_is u (32 * w.page + w.slot) w.before wanted.number wanted.before) (sym (work_is u w.page w.slot c.requires.form.0 wanted.number))
    (c.in-Err.ensures.does newest records history 0 h may))

-- there is room
pub returns-then-not-has_room-clause-does : goal.returns-then-not-has_room-clause-does
returns-then-not-has_room-clause-does g c newest records history x u rest h unfinished at split is =
    let log = c.args.log.now in
    let pages = c.args.pages.now in
    let site = g.S.Site.state c.args.site.now in
    let sizes = ap (λ (k : Geometry). k.pages) c.requires.going.sizes in
    let step = subst (λ (n : ℕ). IsStepOf c.args.at n u.rec (Compensate c.args.wanted)) sizes is in
    let update = is_an_update c.args.at pages.flash.geometry.pages u.rec c.args.wanted step in
    let room = room_for_clr log pages site newest records history h x unfinished (some_remain log pages site newest records history h x unfinished u rest split update) in
    let all = ap (λ (k : Geometry). k.blocks) c.requires.going.sizes in
    absurd (true≢false (sym (c.has_room.ensures.1 (omega (arith, room, all, c.requires.going.log_going.limits.blocks))) ∙ c.if-not-has_room.true))

pub returns-then-not-has_room-clause-works : goal.returns-then-not-has_room-clause-works
returns-then-not-has_room-clause-works g c = works_foreign {A = Unit {0}} (works_nothing c.requires.going)
