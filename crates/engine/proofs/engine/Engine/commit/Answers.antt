use Rattle.engine.proofs.Names.{◌≡◌, ℕ, Some, refl, sym, ap, subst, ◌∙◌, arith, Result, CommandEffect, sizes_of, LeavesEither, Matches, IsCarriedOut, Engine, State, effect, Reply, performs_as, Site, Stop, entry_is, entry_of, Active}
use Rattle.record_model.specs.declared.words.Command.TheVariants.{Commit}
use Rattle.engine.proofs.Actives.{some_active}
use Rattle.engine.proofs.Replies.{carried_out, wants_active_is, refused_session}
use Rattle.engine.proofs.Calling.{answered_as, does_nothing, does_weaker, does_failed, asks_rest, early, still}
use Rattle.engine.proofs.Performing.{performs_rest}
use Rattle.engine.proofs.engine.Engine.commit.Goals as goal

runs : (engine : Engine) (site : Site) (s : State) (n : ℕ) (entry : Active) → Matches engine site s → entry_of engine.active n ≡ Some entry → IsCarriedOut s (Commit n)
runs engine site s n entry fits at =
    let found = some_active fits.newest fits.records engine.active s fits.sessions n entry at in
    carried_out s (Commit n) refl (wants_active_is s n found.session found.is) refl refl

of_session : {r : Result Reply Stop} {old new : Engine} {before now : Site} {s : State} (n k : ℕ) → n ≡ k → CommandEffect r old new before now s (effect s (Commit n)) (LeavesEither (sizes_of old.store) s (effect s (Commit n)) before.told) 0 →
    CommandEffect r old new before now s (effect s (Commit k)) (LeavesEither (sizes_of old.store) s (effect s (Commit k)) before.told) 0
of_session {r = r} {old = old} {new = new} {before = before} {now = now} {s = s} n k same does = subst (λ (j : ℕ). CommandEffect r old new before now s (effect s (Commit j)) (LeavesEither (sizes_of old.store) s (effect s (Commit j)) before.told) 0) same does

pub carry_out_commit-requires-clause-active : goal.carry_out_commit-requires-clause-active
carry_out_commit-requires-clause-active g c =
    let at = sym c.find.ensures.entry ∙ c.in-Some.is in
    ap (entry_of c.args.self.now.active) (entry_is c.args.self.now.active c.args.session c.in-Some.entry c.requires.going.table at).session ∙ at

pub returns-in_default-clause-answers : goal.returns-in_default-clause-answers
returns-in_default-clause-answers g c s fits =
    let old = g.S.Site.state c.args.site.now in
    answered_as (λ o. LeavesEither (sizes_of c.args.self.now.store) s o.after old.told) (refused_session c.args.self.now old s (Commit c.args.session) c.args.session fits (sym c.find.ensures.entry ∙ c.in_default.is) refl)
    (does_weaker (early (sizes_of c.args.self.now.store) s s old.told) (does_nothing fits c.requires.going (still fits c.requires.going))) refl asks_rest

pub returns-in-Ok-clause-answers : goal.returns-in-Ok-clause-answers
returns-in-Ok-clause-answers g c s fits =
    let old = g.S.Site.state c.args.site.now in
    answered_as (λ o. LeavesEither (sizes_of c.args.self.now.store) s o.after old.told) (runs c.args.self.now old s c.args.session c.in-Some.entry fits (sym c.find.ensures.entry ∙ c.in-Some.is)) (of_session _ _ (entry_is c.args.self.now.active c.args.session c.in-Some.entry c.requires.going.table (sym c.find.ensures.entry ∙ c.in-Some.is)).session (c.in-Ok.ensures.does s fits)) (c.in-Ok.ensures.done s fits) c.in-Ok.ensures.asks

pub returns-in-Err-clause-answers : goal.returns-in-Err-clause-answers
returns-in-Err-clause-answers g c s fits =
    let old = g.S.Site.state c.args.site.now in
    answered_as (λ o. LeavesEither (sizes_of c.args.self.now.store) s o.after old.told) (runs c.args.self.now old s c.args.session c.in-Some.entry fits (sym c.find.ensures.entry ∙ c.in-Some.is)) (of_session _ _ (entry_is c.args.self.now.active c.args.session c.in-Some.entry c.requires.going.table (sym c.find.ensures.entry ∙ c.in-Some.is)).session (does_failed (omega arith) (c.in-Err.ensures.does s fits))) tt c.in-Err.ensures.asks

pub returns-in_default-clause-performs : goal.returns-in_default-clause-performs
returns-in_default-clause-performs g c s fits = performs_rest (refused_session c.args.self.now (g.S.Site.state c.args.site.now) s (Commit c.args.session) c.args.session fits (sym c.find.ensures.entry ∙ c.in_default.is) refl).1.1

pub returns-in-Ok-clause-performs : goal.returns-in-Ok-clause-performs
returns-in-Ok-clause-performs g c s fits = performs_as (runs c.args.self.now (g.S.Site.state c.args.site.now) s c.args.session c.in-Some.entry fits (sym c.find.ensures.entry ∙ c.in-Some.is)).1.1 (c.in-Ok.ensures.performs s fits)

pub returns-in-Err-clause-performs : goal.returns-in-Err-clause-performs
returns-in-Err-clause-performs g c s fits = performs_as (runs c.args.self.now (g.S.Site.state c.args.site.now) s c.args.session c.in-Some.entry fits (sym c.find.ensures.entry ∙ c.in-Some.is)).1.1 (c.in-Err.ensures.performs s fits)
