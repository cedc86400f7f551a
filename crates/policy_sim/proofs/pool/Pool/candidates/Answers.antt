use Rattle.policy_sim.proofs.Names.{rules, ap, arith, PoolMark}
use Rattle.std.proofs.Common.{slice_set}
use Rattle.policy_sim.proofs.Looked.{look_ends, look_goes_on, look_has_enough}
use Rattle.policy_sim.proofs.pool.Pool.candidates.Goals as goal

pub returns-then-count-eq-MOST_PULLED-clause-candidates : goal.returns-then-count-eq-MOST_PULLED-clause-candidates
returns-then-count-eq-MOST_PULLED-clause-candidates c =
    look_has_enough c.args.queue.now c.args.self.now.pages.entries c.args.self.now.listed.entries c.loop-entry.coldest c.loop-entry.into c.loop-entry.count c.requires.pool.listed c.requires.listed
    c.loop-entry.invariant.looked c.if-count-eq-MOST_PULLED.true

pub loop-entry-preserved : goal.loop-entry-preserved
loop-entry-preserved c =
    let few = c.loop-entry.invariant.few in
    let seven = c.loop-entry.invariant.seven in
    let less = c.if-count-eq-MOST_PULLED.false in
    record {
      looked = look_goes_on c.args.queue.now c.args.self.now.listed.entries c.loop-entry.coldest c.next.new.self (c.in-Some.field-0-0.now, c.in-Some.entry.now) c.loop-entry.into _ c.loop-entry.count
          c.loop-entry.invariant.looked c.in-Some.ensures.steps (ap (λ (m : PoolMark). slice_set c.loop-entry.into c.loop-entry.count m) c.mark_of.ensures) (omega (arith, few, seven, less));
      few = omega (arith, few, less);
      seven = search rules;
    }

pub returns-clause-candidates : goal.returns-clause-candidates
returns-clause-candidates c =
    look_ends c.args.queue.now c.args.self.now.pages.entries c.args.self.now.listed.entries c.loop-entry.coldest c.loop-entry.into c.loop-entry.count c.requires.pool.listed c.requires.listed
    c.loop-entry.invariant.looked c.in_default.ensures.steps.0 c.loop-entry.invariant.few
