use Rattle.engine.proofs.Names.{◌≡◌, ℕ, Some, refl, sym, ap, subst, ◌∙◌, arith, ◌≤◌, ◌+◌, Result, CommandEffect, undo_reads, Matches, IsCarriedOut, Engine, State, session_at, writes_of, effect, record_touches, Abort, Reply, performs_as, command_work, record_work, undoes, Site, Snapshot, Stop, entry_is, IsTable, entry_of, Active}
use Rattle.engine.proofs.Actives.{some_active}
use Rattle.engine.proofs.Replies.{carried_out, wants_active_is, refused_session}
use Rattle.engine.proofs.Calling.{answered, does_nothing, does_failed, asks_rest, still}
use Rattle.engine.proofs.Performing.{performs_rest}
use Rattle.engine.proofs.engine.Engine.abort.Goals as goal

runs : (engine : Engine) (site : Site) (s : State) (n : ℕ) (entry : Active) → Matches engine site s → entry_of engine.active n ≡ Some entry → IsCarriedOut s (Abort n)
runs engine site s n entry fits at =
    let found = some_active fits.newest fits.records engine.active s fits.sessions n entry at in
    carried_out s (Abort n) refl (wants_active_is s n found.session found.is) refl refl

of_session : {r : Result Reply Stop} {old new : Engine} {before now : Site} {s : State} {P : Snapshot → Type 0} (n k : ℕ) → n ≡ k → CommandEffect r old new before now s (effect s (Abort n)) P 0 → CommandEffect r old new before now s (effect s (Abort k)) P 0
of_session {r = r} {old = old} {new = new} {before = before} {now = now} {s = s} {P = P} n k same does = subst (λ (j : ℕ). CommandEffect r old new before now s (effect s (Abort j)) P 0) same does

pub carry_out_abort-requires-clause-active : goal.carry_out_abort-requires-clause-active
carry_out_abort-requires-clause-active g c =
    let at = sym c.find.ensures.entry ∙ c.in-Some.is in
    ap (entry_of c.args.self.now.active) (entry_is c.args.self.now.active c.args.session c.in-Some.entry c.requires.going.table at).session ∙ at

pub returns-in_default-clause-answers : goal.returns-in_default-clause-answers
returns-in_default-clause-answers g c s fits =
    answered (refused_session c.args.self.now _ s (Abort c.args.session) c.args.session fits (sym c.find.ensures.entry ∙ c.in_default.is) refl)
    (does_nothing fits c.requires.going (still fits c.requires.going)) refl asks_rest

pub returns-in-Ok-clause-answers : goal.returns-in-Ok-clause-answers
returns-in-Ok-clause-answers g c s fits =
    answered ((runs c.args.self.now _ s c.args.session c.in-Some.entry fits (sym c.find.ensures.entry ∙ c.in-Some.is)).0, ((runs c.args.self.now _ s c.args.session c.in-Some.entry fits (sym c.find.ensures.entry ∙ c.in-Some.is)).1.0 ∙ ap (λ (n : ℕ). record_touches s (Abort n)) (sym (entry_is c.args.self.now.active c.args.session c.in-Some.entry c.requires.going.table (sym c.find.ensures.entry ∙ c.in-Some.is)).session), tt {0})) (of_session _ _ (entry_is c.args.self.now.active c.args.session c.in-Some.entry c.requires.going.table (sym c.find.ensures.entry ∙ c.in-Some.is)).session (c.in-Ok.ensures.does s fits)) c.in-Ok.ensures.done (c.in-Ok.ensures.asks s fits)

pub returns-in-Err-clause-answers : goal.returns-in-Err-clause-answers
returns-in-Err-clause-answers g c s fits =
    answered ((runs c.args.self.now _ s c.args.session c.in-Some.entry fits (sym c.find.ensures.entry ∙ c.in-Some.is)).0, ((runs c.args.self.now _ s c.args.session c.in-Some.entry fits (sym c.find.ensures.entry ∙ c.in-Some.is)).1.0 ∙ ap (λ (n : ℕ). record_touches s (Abort n)) (sym (entry_is c.args.self.now.active c.args.session c.in-Some.entry c.requires.going.table (sym c.find.ensures.entry ∙ c.in-Some.is)).session), tt {0})) (does_failed (omega arith) (of_session _ _ (entry_is c.args.self.now.active c.args.session c.in-Some.entry c.requires.going.table (sym c.find.ensures.entry ∙ c.in-Some.is)).session (c.in-Err.ensures.does s fits))) tt (c.in-Err.ensures.asks s fits)

reads_of_session : (old new : Site) (s : State) (n k : ℕ) → n ≡ k → new.log_reads ≤ old.log_reads + undo_reads (session_at s n) → new.log_reads ≤ old.log_reads + undo_reads (session_at s k)
reads_of_session old new s n k same read = subst (λ (j : ℕ). new.log_reads ≤ old.log_reads + undo_reads (session_at s j)) same read

pub returns-in_default-clause-log_reads : goal.returns-in_default-clause-log_reads
returns-in_default-clause-log_reads g c s fits = omega arith

pub returns-in-Ok-clause-log_reads : goal.returns-in-Ok-clause-log_reads
returns-in-Ok-clause-log_reads g c s fits =
    reads_of_session (g.S.Site.state c.args.site.now) (g.S.Site.state c.carry_out_abort.new.site) s _ _ (entry_is c.args.self.now.active c.args.session c.in-Some.entry c.requires.going.table (sym c.find.ensures.entry ∙ c.in-Some.is)).session (c.carry_out_abort.ensures.log_reads s fits)

pub returns-in-Err-clause-log_reads : goal.returns-in-Err-clause-log_reads
returns-in-Err-clause-log_reads g c s fits =
    reads_of_session (g.S.Site.state c.args.site.now) (g.S.Site.state c.carry_out_abort.new.site) s _ _ (entry_is c.args.self.now.active c.args.session c.in-Some.entry c.requires.going.table (sym c.find.ensures.entry ∙ c.in-Some.is)).session (c.carry_out_abort.ensures.log_reads s fits)

-- What it makes of the machine.

asked : (engine : Engine) (site : Site) (s : State) (n : ℕ) (entry : Active) (fits : Matches engine site s) → IsTable engine.active → entry_of engine.active n ≡ Some entry → command_work s (Abort n) ≡ undoes s.table (writes_of (session_at s entry.session))
asked engine site s n entry fits table at = (runs engine site s n entry fits at).1.1 ∙ ap (λ (k : ℕ). record_work s (Abort k)) (sym (entry_is engine.active n entry table at).session)

pub returns-in_default-clause-performs : goal.returns-in_default-clause-performs
returns-in_default-clause-performs g c s fits = performs_rest (refused_session c.args.self.now (g.S.Site.state c.args.site.now) s (Abort c.args.session) c.args.session fits (sym c.find.ensures.entry ∙ c.in_default.is) refl).1.1

pub returns-in-Ok-clause-performs : goal.returns-in-Ok-clause-performs
returns-in-Ok-clause-performs g c s fits = performs_as (asked c.args.self.now (g.S.Site.state c.args.site.now) s c.args.session c.in-Some.entry fits c.requires.going.table (sym c.find.ensures.entry ∙ c.in-Some.is)) (c.in-Ok.ensures.performs s fits)

pub returns-in-Err-clause-performs : goal.returns-in-Err-clause-performs
returns-in-Err-clause-performs g c s fits = performs_as (asked c.args.self.now (g.S.Site.state c.args.site.now) s c.args.session c.in-Some.entry fits c.requires.going.table (sym c.find.ensures.entry ∙ c.in-Some.is)) (c.in-Err.ensures.performs s fits)
