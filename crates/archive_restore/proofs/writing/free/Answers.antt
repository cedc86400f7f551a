use Rattle.std.proofs.Common.{sym, ◌∙◌}
use Rattle.net_lines.specs.Nets.{idle}
use Rattle.face.proofs.Going.{fails_there, goes_next}
use Rattle.archive_restore.proofs.Carried.{answer_takes_nothing, carried_fits}
use Rattle.archive_restore.proofs.Sessions.{freed_by, freed_still, frees_not}
use Rattle.archive_restore.proofs.writing.free.Goals as goal

pub returns-then-not-is_tight-clause-frees : goal.returns-then-not-is_tight-clause-frees
returns-then-not-is_tight-clause-frees g c pool geometry entry lines table commits made kept carried =
    freed_still pool geometry entry (g.S.Site.state c.args.site.now) c.args.engine.now lines table commits made kept c.args.cap c.args.net.now carried c.used_of.result
    (c.used_of.ensures (idle table commits made kept c.args.cap) (g.S.Site.state c.args.site.now) (carried_fits pool geometry entry (g.S.Site.state c.args.site.now) c.args.engine.now lines _ carried)) (sym c.is_tight.ensures ∙ c.if-not-is_tight.true)

pub returns-in-Ok-clause-frees : goal.returns-in-Ok-clause-frees
returns-in-Ok-clause-frees g c pool geometry entry lines table commits made kept carried =
    freed_by pool geometry entry (g.S.Site.state c.args.site.now) c.args.engine.now lines table commits made kept c.args.cap c.args.net.now carried c.used_of.result
    (c.used_of.ensures (idle table commits made kept c.args.cap) (g.S.Site.state c.args.site.now) (carried_fits pool geometry entry (g.S.Site.state c.args.site.now) c.args.engine.now lines _ carried)) c.carry_out.new.engine (g.S.Site.state c.carry_out.new.site)
    (sym c.is_tight.ensures ∙ c.if-not-is_tight.false) c.requires.room c.in-Ok._reply c.in-Ok.ensures

pub returns-in-Err-clause-fails : goal.returns-in-Err-clause-fails
returns-in-Err-clause-fails g c pool geometry entry lines table commits made kept carried =
    frees_not pool geometry entry (g.S.Site.state c.args.site.now) c.args.engine.now lines table commits made kept c.args.cap c.args.net.now carried c.used_of.result
    (c.used_of.ensures (idle table commits made kept c.args.cap) (g.S.Site.state c.args.site.now) (carried_fits pool geometry entry (g.S.Site.state c.args.site.now) c.args.engine.now lines _ carried)) c.carry_out.new.engine (g.S.Site.state c.carry_out.new.site)
    (sym c.is_tight.ensures ∙ c.if-not-is_tight.false) c.in-Err.halt c.in-Err.ensures

pub returns-in-Ok-clause-going : goal.returns-in-Ok-clause-going
returns-in-Ok-clause-going g c entry goes = goes_next entry (g.S.Site.state c.args.site.now) (g.S.Site.state c.carry_out.new.site) c.args.engine.now goes c.in-Ok._reply _ c.carry_out.new.engine c.in-Ok.ensures.course

pub returns-in-Err-clause-ends : goal.returns-in-Err-clause-ends
returns-in-Err-clause-ends g c entry goes = fails_there entry (g.S.Site.state c.args.site.now) (g.S.Site.state c.carry_out.new.site) c.args.engine.now goes c.in-Err.halt _ c.carry_out.new.engine c.in-Err.ensures.course

pub returns-in-Err-clause-halts : goal.returns-in-Err-clause-halts
returns-in-Err-clause-halts g c = answer_takes_nothing c.in-Err.halt c.args.engine.now (g.S.Site.state c.args.site.now) (g.S.Site.state c.carry_out.new.site) c.in-Err.ensures.course.cause
