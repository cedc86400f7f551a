use Rattle.std.proofs.Common.{List, [], sym, ◌∙◌, ap, subst, true≢false}
use Rattle.site.specs.Faults.{Faults}
use Rattle.front_end.specs.Faults.{after_halt}
use Rattle.net_lines.specs.Nets.{AreLengths, AreWritable, Fits, while_writing}
use Rattle.record_model.specs.State.{Content}
use Rattle.archive_restore.proofs.Writes.{carried_now, first, full_on_site, goes_more, halts_on_site, popped_cap, popped_goes, popped_writable, room_goes, room_now, stops_full, stops_halted, table, written_more}
use Rattle.archive_restore.proofs.restoring.Restoring.write.Given.{Over}
use Rattle.archive_restore.proofs.restoring.Restoring.write.Goals.{After-write_net}
use Rattle.archive_restore.proofs.restoring.Restoring.write.Goals as goal

pub fits_log-requires : goal.fits_log-requires
fits_log-requires g c = let q = c.requires.going in popped_cap q.0 q.1 (g.S.Site.state c.args.site.now) q.2 c.args.self.now c.args.net.now q.3 q.4

pub judge-requires : goal.judge-requires
judge-requires g c = let q = c.requires.going in popped_writable q.0 q.1 (g.S.Site.state c.args.site.now) q.2 c.args.self.now c.args.net.now q.3 q.4

pub write_net-requires-clause-going : goal.write_net-requires-clause-going
write_net-requires-clause-going g c = let q = c.requires.going in (q.1, popped_goes q.0 q.1 (g.S.Site.state c.args.site.now) q.2 c.args.self.now c.args.net.now q.3 q.4)

pub write_net-requires-clause-writable : goal.write_net-requires-clause-writable
write_net-requires-clause-writable g c = let q = c.requires.going in (_, popped_writable q.0 q.1 (g.S.Site.state c.args.site.now) q.2 c.args.self.now c.args.net.now q.3 q.4)

pub close-requires : goal.close-requires
close-requires g c =
    let q = c.requires.going in
    subst (λ n. AreWritable n c.args.net.now) (sym c.judge.ensures.size) (popped_writable q.0 q.1 (g.S.Site.state c.args.site.now) q.2 c.args.self.now c.args.net.now q.3 q.4)

pub returns-then-not-fits_log-clause-stops : goal.returns-then-not-fits_log-clause-stops
returns-then-not-fits_log-clause-stops g c pool geometry s entry before lines behind number count goes h p less =
    stops_full pool geometry s entry (g.S.Site.state c.args.site.now) before c.args.self.now c.args.net.now h p lines behind count less
    (λ fits. true≢false (sym (c.fits_log.ensures.1 fits.log) ∙ c.if-not-fits_log.true))

pub returns-then-not-judge-clause-stops : goal.returns-then-not-judge-clause-stops
returns-then-not-judge-clause-stops g c pool geometry s entry before lines behind number count goes h p less =
    let mid = g.S.Site.state c.args.site.now in
    let r = c.args.self.now in
    let net = c.args.net.now in
    stops_full pool geometry s entry mid before r net h p lines behind count less
    (λ fits. true≢false (sym ((c.judge.ensures.room _ (room_now geometry s before r net h.archived p)).1 fits.pages) ∙ c.if-not-judge.true))

-- The log and the pages have room.
module _ (g : Over) (c : After-write_net g) (table : List Content) (lengths : AreLengths (while_writing table []) c.args.self.now.room) where
  has_room : Fits c.args.self.now.cap table c.args.net.now
  has_room = record { log = c.fits_log.ensures.0 c.if-not-fits_log.false; pages = (c.judge.ensures.room table lengths).0 c.if-not-judge.false }

pub returns-in-Err-clause-stops : goal.returns-in-Err-clause-stops
returns-in-Err-clause-stops g c pool geometry s entry before lines behind number count goes h p less =
    let mid = g.S.Site.state c.args.site.now in
    let r = c.args.self.now in
    let net = c.args.net.now in
    let lengths = room_now geometry s before r net h.archived p in
    let writable = subst (λ n. AreWritable n net) lengths.size (popped_writable number entry mid before r net goes p) in
    let fits = has_room g (goal.at.returns-in-Err-clause-stops g c).After-write_net _ lengths in
    stops_halted pool geometry s entry mid before r net h p fits (g.S.Site.state c.write_net.new.site) lines behind count c.in-Err.halt less c.in-Err.ensures.halts
    (c.in-Err.ensures.ends entry (popped_goes number entry mid before r net goes p)).cause
    (c.in-Err.ensures.fails pool geometry entry (first pool geometry s entry mid before r net h p) _ before.written h.made h.kept (carried_now pool geometry s entry mid before r net h p) writable fits)

pub returns-clause-going : goal.returns-clause-going
returns-clause-going g c number entry before goes p =
    let mid = g.S.Site.state c.args.site.now in
    let r = c.args.self.now in
    let net = c.args.net.now in
    let t = table number entry mid before r net goes p in
    let lengths = room_goes number entry mid before r net goes p in
    goes_more number entry mid before r net goes p (g.S.Site.state c.write_net.new.site) c.write_net.new.engine c.close.new.self
    (c.in_default.ensures.going entry (popped_goes number entry mid before r net goes p)) (c.close.ensures.size ∙ c.judge.ensures.size) c.write_net.ensures.left
    (has_room g (goal.at.returns-clause-going g c).After-write_net t lengths) (c.close.ensures.lengths t (c.judge.ensures.lengths t lengths c.if-not-judge.false))

pub returns-clause-writes : goal.returns-clause-writes
returns-clause-writes g c pool geometry s entry before h p =
    let mid = g.S.Site.state c.args.site.now in
    let r = c.args.self.now in
    let net = c.args.net.now in
    let q = c.requires.going in
    let lengths = room_now geometry s before r net h.archived p in
    let writable = subst (λ n. AreWritable n net) lengths.size (popped_writable q.0 q.1 mid q.2 r net q.3 q.4) in
    let fits = has_room g (goal.at.returns-clause-writes g c).After-write_net _ lengths in
    written_more pool geometry s entry mid before r net h p fits (g.S.Site.state c.write_net.new.site) c.write_net.new.engine c.close.new.self
    (c.close.ensures.lengths _ (c.judge.ensures.lengths _ lengths c.if-not-judge.false))
    (c.in_default.ensures.writes pool geometry entry (first pool geometry s entry mid before r net h p) _ before.written h.made h.kept (carried_now pool geometry s entry mid before r net h p) writable fits)

pub returns-then-not-fits_log-clause-early : goal.returns-then-not-fits_log-clause-early
returns-then-not-fits_log-clause-early g c number entry before count goes p less =
    full_on_site number entry (g.S.Site.state c.args.site.now) before c.args.self.now c.args.net.now goes p count less (g.S.Site.state c.args.site.now)
    (λ fits. true≢false (sym (c.fits_log.ensures.1 fits.log) ∙ c.if-not-fits_log.true))

pub returns-then-not-judge-clause-early : goal.returns-then-not-judge-clause-early
returns-then-not-judge-clause-early g c number entry before count goes p less =
    let mid = g.S.Site.state c.args.site.now in
    let r = c.args.self.now in
    let net = c.args.net.now in
    full_on_site number entry mid before r net goes p count less mid
    (λ fits. true≢false (sym ((c.judge.ensures.room (table number entry mid before r net goes p) (room_goes number entry mid before r net goes p)).1 fits.pages) ∙ c.if-not-judge.true))

pub returns-in-Err-clause-early : goal.returns-in-Err-clause-early
returns-in-Err-clause-early g c number entry before count goes p less =
    let mid = g.S.Site.state c.args.site.now in
    let r = c.args.self.now in
    let net = c.args.net.now in
    halts_on_site number entry mid before r net goes p count less (g.S.Site.state c.write_net.new.site)
    (has_room g (goal.at.returns-in-Err-clause-early g c).After-write_net (table number entry mid before r net goes p) (room_goes number entry mid before r net goes p)) c.in-Err.halt c.in-Err.ensures.halts
    (c.in-Err.ensures.ends entry (popped_goes number entry mid before r net goes p)).cause

pub returns-in-Err-clause-left : goal.returns-in-Err-clause-left
returns-in-Err-clause-left g c honest = c.write_net.ensures.left honest

pub returns-in-Err-clause-faults : goal.returns-in-Err-clause-faults
returns-in-Err-clause-faults g c =
    let q = c.requires.going in
    let goes = popped_goes q.0 q.1 (g.S.Site.state c.args.site.now) q.2 c.args.self.now c.args.net.now q.3 q.4 in
    (c.in-Err.ensures.ends q.1 goes).faults ∙ ap (λ (f : Faults). after_halt c.in-Err.halt f) (sym goes.faults)

pub returns-clause-faults : goal.returns-clause-faults
returns-clause-faults g c =
    let q = c.requires.going in
    let goes = popped_goes q.0 q.1 (g.S.Site.state c.args.site.now) q.2 c.args.self.now c.args.net.now q.3 q.4 in
    (c.in_default.ensures.ends q.1 goes).faults ∙ sym goes.faults
