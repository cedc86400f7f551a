use Rattle.engine.proofs.Names.{◌||◌, ap, rules, lt-leb, or_right, is_some, nat_le, session_at, refuse_if, BadSession, entry_of}
use Rattle.record_model.specs.declared.words.Command.TheVariants.{Begin}
use Rattle.engine.proofs.Actives.{none_active, some_active}
use Rattle.engine.proofs.Replies.{has, refused}
use Rattle.record_model.specs.declared.words.Reply.TheVariants as reply
use Rattle.engine.proofs.engine.Engine.begin_refusal.Goals as goal

pub returns-clause-passes : goal.returns-clause-passes
returns-clause-passes c s site fits =
    let none = none_active fits.newest fits.records c.args.self.now.active s fits.sessions c.args.session (search rules) in
    λ i. refuse_if (lt-leb 8 c.args.session (search rules) i || is_some (none i)) (reply.Refused BadSession)

pub returns-then-is_some-clause-refused : goal.returns-then-is_some-clause-refused
returns-then-is_some-clause-refused c s site fits =
    let own = has (entry_of c.args.self.now.active c.args.session) (search rules) in
    let found = some_active fits.newest fits.records c.args.self.now.active s fits.sessions c.args.session own.own own.is in
    refused s (Begin c.args.session) (reply.Refused BadSession) (λ i. refuse_if (or_right (nat_le 8 c.args.session) (is_some (session_at s c.args.session)) (ap is_some found.is) i) (reply.Refused BadSession))
