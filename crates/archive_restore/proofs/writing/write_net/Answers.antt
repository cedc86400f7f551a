use Rattle.std.proofs.Common.{◌++◌, ◌-◌, ◌∙◌, arith}
use Rattle.site.proofs.Laws.{goes_in_sequence, stays_honest}
use Rattle.site.proofs.Working.{ok_as}
use Rattle.net_lines.specs.Nets.{tight}
use Rattle.archive_restore.proofs.Sessions.{both_written, err_as, first_of, session_fails}
use Rattle.archive_restore.proofs.writing.write_net.Goals as goal

pub carry_session-requires-clause-going : goal.carry_session-requires-clause-going
carry_session-requires-clause-going g c = (c.requires.going.0, c.in-Ok.ensures.going c.requires.going.0 c.requires.going.1)

pub carry_session-requires-clause-few : goal.carry_session-requires-clause-few
carry_session-requires-clause-few g c = omega (arith, c.requires.room, c.ranges.cap.fits)

pub returns-in-Err-clause-fails : goal.returns-in-Err-clause-fails
returns-in-Err-clause-fails g c pool geometry entry lines table commits made kept carried writable fits = c.in-Err.ensures.fails pool geometry entry lines table commits made kept carried

pub returns-in-Ok-clause-going : goal.returns-in-Ok-clause-going
returns-in-Ok-clause-going g c entry goes = c.carry_session.ensures.going entry (c.in-Ok.ensures.going entry goes)

pub returns-in-Ok-clause-ends : goal.returns-in-Ok-clause-ends
returns-in-Ok-clause-ends g c entry goes = c.carry_session.ensures.ends entry (c.in-Ok.ensures.going entry goes)

pub returns-in-Ok-clause-writes : goal.returns-in-Ok-clause-writes
returns-in-Ok-clause-writes g c pool geometry entry lines table commits made kept carried writable fits =
    let old = g.S.Site.state c.args.site.now in
    let mid = g.S.Site.state c.free.new.site in
    let f = c.in-Ok.ensures.frees pool geometry entry lines table commits made kept carried in
    ok_as c.carry_session.result _ _ (λ w. both_written pool geometry entry old mid c.free.new.engine lines table commits made kept c.args.cap c.args.net.now f c.carry_session.new.engine (g.S.Site.state c.carry_session.new.site) w)
    (c.carry_session.ensures.writes pool geometry entry (lines ++ first_of (tight c.args.cap (made - kept) c.args.net.now)) table commits made f.later c.args.cap f.carried (record { writable = writable; pages = fits.pages; log = f.room }))

pub returns-in-Ok-clause-fails : goal.returns-in-Ok-clause-fails
returns-in-Ok-clause-fails g c pool geometry entry lines table commits made kept carried writable fits =
    let old = g.S.Site.state c.args.site.now in
    let mid = g.S.Site.state c.free.new.site in
    let f = c.in-Ok.ensures.frees pool geometry entry lines table commits made kept carried in
    err_as c.carry_session.result _ _ (λ h w. session_fails pool geometry entry old mid c.free.new.engine lines table commits made kept c.args.cap c.args.net.now f (g.S.Site.state c.carry_session.new.site) h w)
    (c.carry_session.ensures.fails pool geometry entry (lines ++ first_of (tight c.args.cap (made - kept) c.args.net.now)) table commits made f.later c.args.cap f.carried (record { writable = writable; pages = fits.pages; log = f.room }))

pub returns-in-Ok-clause-left : goal.returns-in-Ok-clause-left
returns-in-Ok-clause-left g c honest = c.carry_session.ensures.left (stays_honest (g.S.Site.state c.args.site.now) (g.S.Site.state c.free.new.site) c.free.ensures.preserves honest) ∙ c.free.ensures.left honest

pub returns-in-Ok-clause-preserves : goal.returns-in-Ok-clause-preserves
returns-in-Ok-clause-preserves g c =
    goes_in_sequence (g.S.Site.state c.args.site.now) (g.S.Site.state c.free.new.site) (g.S.Site.state c.carry_session.new.site) c.free.ensures.preserves c.carry_session.ensures.preserves
