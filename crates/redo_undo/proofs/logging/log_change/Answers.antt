use Rattle.redo_undo.proofs.Names.{refl, ◌≡◌, ◌∷◌, [], ◌++◌, ℕ, sym, ap, subst, arith, Err, front_of, FlashCache, front_exists, stages_between, stages_ok, stages_err, current, stages_log, holds_on, other_pages, front_is_current, RepresentsIn, performs_refused, octets_of, Geometry, lsn_of}
use Rattle.redo_undo.proofs.Calling.{appends_foreign, keeps_appended}
use Rattle.redo_undo.proofs.Mirroring.{change_performs, change_stopped_by}
use Rattle.redo_undo.proofs.logging.log_change.Goals as goal

pub returns-clause-holds : goal.returns-clause-holds
returns-clause-holds g c newest records history h may =
    let pages = c.args.pages.now in
    let site = g.S.Site.state c.args.site.now in
    let new = g.S.Site.state c.log_record.new.site in
    let k = pages.flash.geometry in
    let lsn = c.in-Ok.lsn in
    let rec = c.args.rec.now in
    let log' = c.log_record.new.log in
    let pages' = c.change_front.new.pages in
    let front = (front_of pages.pool.frames).page in
    let holds = c.in-Ok.ensures.log_holds pages newest records history c.requires.going.sizes h may in
    let is : lsn_of (current pages new.image front) ≡ lsn_of (front_of pages.pool.frames).content = ap lsn_of (front_is_current pages new.image c.requires.there) in
    subst (λ (x : Geometry). RepresentsIn x log' pages' new newest (records ++ record { lsn = lsn; rec = rec } ∷ []) history) (sym (ap (λ (f : FlashCache). f.geometry) c.change_front.ensures.flash))
    (holds_on k c.args.log.now log' pages site new newest records history h (c.log_record.ensures.pages pages newest records history h) pages' rec lsn c.requires.on_page.0 front
    c.requires.on_page.1 c.requires.on_page.2 (omega (arith, is, c.front_lsn.ensures, c.if-front_lsn-lsn.false)) (c.change_front.ensures.redoes new.image c.requires.on_page.0 c.requires.on_page.1)
    (c.change_front.ensures.others new.image) c.in-Ok.ensures.rises.0 c.in-Ok.ensures.rises.1
    (other_pages k log' pages pages' new newest (records ++ record { lsn = lsn; rec = rec } ∷ []) history (c.change_front.ensures.fit new holds.ready.pages) (c.change_front.ensures.ahead log' new.image holds.ahead c.in-Ok.ensures.forced) holds))

pub returns-clause-orderly : goal.returns-clause-orderly
returns-clause-orderly g c newest records history h = c.in-Ok.ensures.orderly c.args.pages.now newest records history c.requires.going.sizes h

pub returns-in-Err-clause-keeps : goal.returns-in-Err-clause-keeps
returns-in-Err-clause-keeps g c newest records history h = keeps_appended c.requires.going c.in-Err.ensures.stops (c.in-Err.ensures.keeps c.args.pages.now newest records history h)

pub returns-then-front_lsn-lsn-clause-keeps : goal.returns-then-front_lsn-lsn-clause-keeps
returns-then-front_lsn-lsn-clause-keeps g c newest records history h =
    let pages = c.args.pages.now in
    let site = g.S.Site.state c.args.site.now in
    let front = (front_of pages.pool.frames).page in
    let exists = front_exists pages.flash.geometry.pages pages.pool.frames c.requires.there c.requires.going.pages_going.own.pages in
    let is : lsn_of (current pages site.image front) ≡ lsn_of (front_of pages.pool.frames).content = ap lsn_of (front_is_current pages site.image c.requires.there) in
    absurd (omega (arith, h.below front exists, is, c.front_lsn.ensures, c.if-front_lsn-lsn.true, c.in-Ok.ensures.rises.0))

pub returns-clause-keeps : goal.returns-clause-keeps
returns-clause-keeps g c newest records history h = keeps_appended c.requires.going tt (c.in-Ok.ensures.keeps c.args.pages.now newest records history h)

-- no append says that it is Foreign
pub returns-in-Err-clause-foreign : goal.returns-in-Err-clause-foreign
returns-in-Err-clause-foreign g c = λ says. absurd (appends_foreign {T = ℕ} (Err c.in-Err.stop) c.in-Err.ensures.stops says)

pub returns-then-front_lsn-lsn-clause-foreign : goal.returns-then-front_lsn-lsn-clause-foreign
returns-then-front_lsn-lsn-clause-foreign g c = λ says. omega (arith, c.front_lsn.ensures, c.if-front_lsn-lsn.true, c.in-Ok.ensures.rises.0)

pub returns-in-Err-clause-stages : goal.returns-in-Err-clause-stages
returns-in-Err-clause-stages g c = stages_log c.in-Err.ensures.works

pub returns-then-front_lsn-lsn-clause-stages : goal.returns-then-front_lsn-lsn-clause-stages
returns-then-front_lsn-lsn-clause-stages g c = stages_err (stages_log c.in-Ok.ensures.works)

pub returns-clause-stages : goal.returns-clause-stages
returns-clause-stages g c = stages_between {mid = c.args.pages.now} {new = c.args.pages.now} refl c.change_front.ensures.flash (stages_ok (stages_log c.in-Ok.ensures.works))

-- What it makes of the machine.

pub returns-in-Err-clause-performs : goal.returns-in-Err-clause-performs
returns-in-Err-clause-performs g c newest records history h = change_stopped_by (c.in-Err.ensures.performs c.args.pages.now newest records history c.requires.going h)

pub returns-then-front_lsn-lsn-clause-performs : goal.returns-then-front_lsn-lsn-clause-performs
returns-then-front_lsn-lsn-clause-performs g c newest records history h = performs_refused (λ dev same. cc)

pub returns-clause-performs : goal.returns-clause-performs
returns-clause-performs g c newest records history h =
    let pages = c.args.pages.now in
    let new = g.S.Site.state c.log_record.new.site in
    let front = (front_of pages.pool.frames).page in
    change_performs c.log_record.new.log pages c.change_front.new.pages new.image front c.in-Ok.lsn (octets_of c.args.rec.now) c.change_front.ensures.machine (ap (λ (f : FlashCache). f.geometry) c.change_front.ensures.flash)
    (c.change_front.ensures.redoes new.image c.requires.on_page.0 c.requires.on_page.1).lsn (c.change_front.ensures.others new.image)
    (let rises = c.in-Ok.ensures.rises.0 in let low = c.requires.going.log_going.low in omega (arith, rises, low)) c.in-Ok.ensures.last_block (c.in-Ok.ensures.performs pages newest records history c.requires.going h)
