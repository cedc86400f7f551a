use Rattle.engine.proofs.Names.{◌≡◌, ◌∙◌, ℕ, Some, ap, rules, refl, arith, subst, sym, AreLocked, Engine, keeps_failed, keeps_weaker, works_answered, stays_honest, entry_is, owes, entry_of, Active}
use Rattle.engine.proofs.Actives.{ended_was}
use Rattle.engine.proofs.Commits.{may_commit, commits_either, committed_fits}
use Rattle.engine.proofs.Calling.{does_of, serves_of}
use Rattle.engine.proofs.FootprintChanges.{locked_ended}
use Rattle.engine.proofs.engine.Engine.carry_out_commit.Goals as goal

pub seal_commit-requires-clause-may : goal.seal_commit-requires-clause-may
seal_commit-requires-clause-may g c =
    let part = owes c.args.self.now.active c.args.entry.session c.args.entry c.requires.going.table c.requires.active in
    record { going = c.requires.going.store; room = omega (arith, part, c.requires.going.room, c.requires.going.cap); few = omega (arith, part, c.requires.going.bounded) }

pub returns-in-Err-clause-does : goal.returns-in-Err-clause-does
returns-in-Err-clause-does g c s fits = does_of (omega arith) tt (keeps_weaker (commits_either c.args.self.now s c.args.entry fits c.requires.active) (keeps_failed (c.in-Err.ensures.keeps fits.newest fits.records s.table s.commits fits.holds (may_commit c.args.self.now (g.S.Site.state c.args.site.now) s c.args.entry fits c.requires.active))))

pub returns-in-Ok-clause-does : goal.returns-in-Ok-clause-does
returns-in-Ok-clause-does g c s fits =
    let sealed = c.in-Ok.ensures.holds fits.newest fits.records s.table s.commits fits.holds (may_commit _ _ s c.args.entry fits c.requires.active) in
    does_of (omega arith)
    (committed_fits _ c.seal_commit.new.self _ _ _ s c.args.entry sealed.0 fits c.requires.going.table c.requires.active (stays_honest _ _ c.seal_commit.ensures.works.calls.preserves fits.honest) sealed.1
    c.seal_commit.ensures.rest c.in-Ok.ensures.commits c.in-Ok.ensures.works.made c.release.ensures c.remove.ensures.entry c.remove.ensures.owed refl refl refl c.requires.going.footprints.eight c.end.ensures.gone c.end.ensures.owned)
    (keeps_weaker (commits_either c.args.self.now s c.args.entry fits c.requires.active) (c.in-Ok.ensures.keeps fits.newest fits.records s.table s.commits fits.holds (may_commit c.args.self.now (g.S.Site.state c.args.site.now) s c.args.entry fits c.requires.active)))

pub returns-in-Ok-clause-performs : goal.returns-in-Ok-clause-performs
returns-in-Ok-clause-performs g c s fits = c.in-Ok.ensures.performs fits.newest fits.records s.table s.commits fits.holds

pub returns-in-Err-clause-performs : goal.returns-in-Err-clause-performs
returns-in-Err-clause-performs g c s fits = c.in-Err.ensures.performs fits.newest fits.records s.table s.commits fits.holds

pub end-requires : goal.end-requires
end-requires g c = (entry_is c.args.self.now.active c.args.entry.session c.args.entry c.requires.going.table c.requires.active).small

pub returns-in-Ok-clause-serves : goal.returns-in-Ok-clause-serves
returns-in-Ok-clause-serves g c =
    let small = (entry_is c.args.self.now.active c.args.entry.session c.args.entry c.requires.going.table c.requires.active).small in
    let same = c.seal_commit.ensures.rest in
    let was : (m : ℕ) (a : Active) → entry_of c.remove.new.active m ≡ Some a → entry_of c.args.self.now.active m ≡ Some a =
    λ m a at. sym (ap (λ (x : Engine). entry_of x.active m) same) ∙ ended_was _ _ c.args.entry.session c.remove.ensures.entry m a at in
    record {
      log_reads = c.seal_commit.ensures.log_reads;
      keeps = serves_of (works_answered c.in-Ok.ensures.works) (record {
        footprints = locked_ended c.seal_commit.new.self.footprints _ c.seal_commit.new.self.locks _ c.args.entry.session small c.release.ensures c.end.ensures.gone
            (subst (λ (x : Engine). AreLocked x.footprints x.locks) (sym same) c.requires.going.footprints);
        store = search rules;
        going = search rules;
        cap = search rules;
        table = search rules;
        room = search rules;
        since = search rules;
        bounded = search rules;
        budget = search rules;
        commits = search rules;
        lasts = λ m other at. let before = c.requires.going.lasts m other (was m other at) in (before.0, omega (arith, before.1, c.in-Ok.ensures.works.rises));
        differ = λ n m a b at_n at_m. c.requires.going.differ n m a b (was n a at_n) (was m b at_m);
      });
    }
