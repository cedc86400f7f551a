use Rattle.redo_undo.proofs.Names.{◌≡◌, ◌∷◌, [], true≢false, refl, sym, ap, ◌∙◌, arith, none-some, Ok, IsTrue, front_of, FlashCache, Entry, next_answered, next_with, current, some_group, front_is_current, touches_of, rules_of, Geometry, Foreign, lsn_of}
use Rattle.redo_undo.proofs.NextRecords.{page_exists, lsn_sealed, no_change, changed, front_knows}
use Rattle.redo_undo.proofs.RedoWorks.{stops_first, asks_no_page, stops_in_touch, asks_known, asks_redone}
use Rattle.redo_undo.proofs.Calling.{keeps_redoing, logs_answered, logs_foreign, logs_nothing}
use Rattle.page_store.specs.Calls.{KeepsNext}
use Rattle.std.proofs.lemmas.Grind.{common_steps}
use Rattle.redo_undo.proofs.redo_pass.redo_record.Goals as goal

pub returns-in_default : goal.returns-in_default
returns-in_default g c =
    record {
      redoing = λ o front rest h is.
          no_change o c.args.log.now c.args.pages.now (g.S.Site.state c.args.site.now) front h (record { lsn = c.args.lsn; rec = c.args.rec.now }) rest is
          (λ page number exists own at. absurd (none-some number (sym c.in_default.ensures.none ∙ own)));
      keeps = λ o front rest h is. keeps_redoing c.requires.going.sizes h;
      asks = λ o front rest h is.
          asks_no_page _ o (record { lsn = c.args.lsn; rec = c.args.rec.now }) c.args.pages.now (g.S.Site.state c.args.site.now) c.in_default.ensures.none;
      ready = λ list h none. h;
      logs_nothing = logs_nothing c.requires.going;
    }

pub returns-then-front_lsn-lsn : goal.returns-then-front_lsn-lsn
returns-then-front_lsn-lsn g c =
    let pages = c.touch.new.pages in
    let site = g.S.Site.state c.touch.new.site in
    let on = c.in-Some.ensures.on in
    record {
      redoing = λ o front rest h is.
          no_change o c.touch.new.log pages site front (c.in-Ok.ensures.redoing o front h) (record { lsn = c.args.lsn; rec = c.args.rec.now }) rest is
          (λ page number exists own at. front_knows pages site.image c.args.rec.now c.args.lsn c.in-Some.page c.in-Ok.ensures.there c.in-Ok.ensures.front on
          (omega (arith, c.front_lsn.ensures, c.if-front_lsn-lsn.true)) page number own at);
      keeps = λ o front rest h is. c.in-Ok.ensures.keeps_opened o front h;
      asks = λ o front rest h is.
          asks_known o c.touch.new.log pages site front (c.in-Ok.ensures.redoing o front h) (record { lsn = c.args.lsn; rec = c.args.rec.now }) rest is
          c.in-Some.page on.0 on.1 on.2 c.args.pages.now (g.S.Site.state c.args.site.now) _ (record { asks = c.in-Ok.ensures.asks; performs = c.in-Ok.ensures.at_rest o front h })
          (front_knows pages site.image c.args.rec.now c.args.lsn c.in-Some.page c.in-Ok.ensures.there c.in-Ok.ensures.front on
          (omega (arith, c.front_lsn.ensures, c.if-front_lsn-lsn.true)) c.in-Some.page on.0 on.1 on.2);
      ready = λ list h none. c.in-Ok.ensures.ready list h none;
      logs_nothing = logs_answered c.in-Ok.ensures.logs_nothing;
    }

pub fits_front-requires-clause-on_page : goal.fits_front-requires-clause-on_page
fits_front-requires-clause-on_page g c = let on = c.in-Some.ensures.on in (on.0, on.1, on.2 ∙ sym c.in-Ok.ensures.front)

pub returns : goal.returns
returns g c =
    let pages = c.touch.new.pages in
    let site = g.S.Site.state c.touch.new.site in
    let on = c.in-Some.ensures.on in
    let e : Entry = record { lsn = c.args.lsn; rec = c.args.rec.now } in
    let first = (front_of pages.pool.frames).page in
    let content : lsn_of (current pages site.image first) ≡ lsn_of (front_of pages.pool.frames).content = ap lsn_of (front_is_current pages site.image c.in-Ok.ensures.there) in
    let next : IsTrue (g.S.Site.state c.args.site.now).honest → KeepsNext {T = Unit {0}} (Ok tt) c.args.log.now c.touch.new.log c.args.pages.now c.change_front.new.pages (g.S.Site.state c.args.site.now) site =
    λ honest. next_answered (next_with refl c.change_front.ensures.flash (c.in-Ok.ensures.logs_nothing.works.next honest)) in
    record {
      redoing = λ o front rest h is.
          let now = c.in-Ok.ensures.redoing o front h in
          changed o _ pages site front now e rest is c.change_front.new.pages first on.0 on.1 (on.2 ∙ sym c.in-Ok.ensures.front)
          (omega (arith, content, c.front_lsn.ensures, c.if-front_lsn-lsn.false)) (c.change_front.ensures.redoes site.image on.0 on.1) (c.change_front.ensures.others site.image)
          (ap (λ (f : FlashCache). f.geometry) c.change_front.ensures.flash) (c.change_front.ensures.fit site now.ready.pages)
          (c.change_front.ensures.ahead _ site.image now.ahead (lsn_sealed o _ pages site front now e rest is));
      keeps = λ o front rest h is. c.in-Ok.ensures.keeps_opened o front h;
      asks = λ o front rest h is.
          let content : lsn_of (current pages site.image c.in-Some.page) ≡ lsn_of (front_of pages.pool.frames).content =
          ap (λ page. lsn_of (current pages site.image page)) (sym c.in-Ok.ensures.front) ∙ ap lsn_of
          (front_is_current pages site.image c.in-Ok.ensures.there) in
          asks_redone o c.touch.new.log pages site front (c.in-Ok.ensures.redoing o front h) (record { lsn = c.args.lsn; rec = c.args.rec.now }) rest is
          c.in-Some.page on.0 on.1 on.2 c.args.pages.now (g.S.Site.state c.args.site.now) _ (record { asks = c.in-Ok.ensures.asks; performs = c.in-Ok.ensures.at_rest o front h })
          (omega (arith, content, c.front_lsn.ensures, c.if-front_lsn-lsn.false)) c.change_front.new.pages
          (some_group c.requires.going) c.change_front.ensures.machine
          (λ i. rules_of (c.change_front.ensures.size i) (c.change_front.ensures.flash i).geometry.groups) c.change_front.ensures.flash;
      ready = λ list h none. let now = c.in-Ok.ensures.ready list h none in record { pages = c.change_front.ensures.fit site now.pages; blocks = now.blocks; records = now.records };
      logs_nothing = grind (arith, common_steps);
    }

pub returns-then-page-geometry-clause-asks : goal.returns-then-page-geometry-clause-asks
returns-then-page-geometry-clause-asks g c o front rest h is =
    stops_first Foreign (touches_of o (record { lsn = c.args.lsn; rec = c.args.rec.now } ∷ [])) c.args.pages.now (g.S.Site.state c.args.site.now) (some_group c.requires.going) (λ dev same. cc)

-- its page has room for what it has written
pub returns-then-not-fits_front-clause-asks : goal.returns-then-not-fits_front-clause-asks
returns-then-not-fits_front-clause-asks g c o front rest h is =
    absurd (true≢false (sym (c.fits_front.ensures.redone o c.touch.new.log (g.S.Site.state c.touch.new.site) front rest c.args.lsn (c.in-Ok.ensures.redoing o front h) is (omega (arith, c.front_lsn.ensures, c.if-front_lsn-lsn.false))) ∙ c.if-not-fits_front.true))

pub returns-then-not-fits_front-clause-keeps : goal.returns-then-not-fits_front-clause-keeps
returns-then-not-fits_front-clause-keeps g c o front rest h is =
    absurd (true≢false (sym (c.fits_front.ensures.redone o c.touch.new.log (g.S.Site.state c.touch.new.site) front rest c.args.lsn (c.in-Ok.ensures.redoing o front h) is (omega (arith, c.front_lsn.ensures, c.if-front_lsn-lsn.false))) ∙ c.if-not-fits_front.true))

pub returns-then-not-fits_front-clause-logs_nothing : goal.returns-then-not-fits_front-clause-logs_nothing
returns-then-not-fits_front-clause-logs_nothing g c = logs_foreign c.in-Ok.ensures.logs_nothing

pub returns-in-Err-clause-asks : goal.returns-in-Err-clause-asks
returns-in-Err-clause-asks g c o front rest h is =
    let on = c.in-Some.ensures.on in
    stops_in_touch c.in-Err.stop o (record { lsn = c.args.lsn; rec = c.args.rec.now }) c.in-Some.page on.0 c.args.pages.now c.touch.new.pages (g.S.Site.state c.args.site.now) (g.S.Site.state c.touch.new.site)
    on.1 on.2 (some_group c.requires.going) (record { asks = c.in-Err.ensures.asks; performs = c.in-Err.ensures.at_rest o front h })

-- the page exists
pub returns-then-page-geometry-clause-keeps : goal.returns-then-page-geometry-clause-keeps
returns-then-page-geometry-clause-keeps g c o front rest h is =
    let on = c.in-Some.ensures.on in
    let exists = page_exists o c.args.log.now c.args.pages.now (g.S.Site.state c.args.site.now) front h (record { lsn = c.args.lsn; rec = c.args.rec.now }) rest is
    c.in-Some.page on.0 on.1 on.2 in
    absurd (omega (arith, exists, ap (λ (k : Geometry). k.pages) (c.geometry.ensures ∙ c.requires.going.sizes ∙ h.geometry), c.if-page-geometry.true))

pub returns-in-Err-clause-keeps : goal.returns-in-Err-clause-keeps
returns-in-Err-clause-keeps g c o front rest h is = c.in-Err.ensures.keeps_opened o front h
