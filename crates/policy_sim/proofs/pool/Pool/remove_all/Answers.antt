use Rattle.policy_sim.proofs.Names.{◌==◌, ◌∙◌, ap, sym, take, List, ℕ, arith, pages_of, names, PoolPage, without, take_next}
use Rattle.std.proofs.Common.{take_all}
use Rattle.policy_sim.proofs.Pooled.{without_none, without_more}
use Rattle.policy_sim.proofs.pool.Pool.remove_all.Goals as goal

pub loop-place-init : goal.loop-place-init
loop-place-init c = record { pages = without_none (pages_of c.args.self.now); pool = c.requires; listed = λ queue listed. listed }

pub loop-place-preserved : goal.loop-place-preserved
loop-place-preserved c = record {
  pages =
      c.remove.ensures.pages ∙ ap (λ (pool : List PoolPage). without (λ n. n == c.at.result) pool) c.loop-place.invariant.pages
      ∙ without_more (pages_of c.args.self.now) (take c.loop-place.place c.args.pages.now) c.at.result
      ∙ ap (λ (l : List ℕ). without (names l) (pages_of c.args.self.now)) (sym (take_next c.args.pages.now c.loop-place.place c.at.result c.at.ensures));
  pool = c.remove.ensures.pool;
  listed = λ queue listed. c.remove.ensures.listed queue (c.loop-place.invariant.listed queue listed);
}

pub returns-clause-pages : goal.returns-clause-pages
returns-clause-pages c = c.loop-place.invariant.pages
    ∙ ap (λ (l : List ℕ). without (names l) (pages_of c.args.self.now)) (take_all c.loop-place.place c.args.pages.now (omega (arith, c.loop-place-test.false, c.len-place-end.ensures.len)))
