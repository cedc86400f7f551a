use Rattle.policy_sim.proofs.Names.{rules, ◌≡◌, ◌∙◌, ◌++◌, ◌∷◌, [], false, true, length, ap, sym, refl, if◌then◌else◌, page_of, pages_of, rules_in, Cache, PoolPage, must_be_pushed, push_evicted, staged_in_push}
use Rattle.policy_sim.proofs.Touched.{coldest_evicted, coldest_pushes, coldest_stages}
use Rattle.policy_sim.proofs.machine.Machine.evict.Goals as goal

pub returns-then-not-must_be_pushed : goal.returns-then-not-must_be_pushed
returns-then-not-must_be_pushed c = record {
  ok = let old = c.args.self.now in
      let coldest : PoolPage = page_of c.in-Some.coldest in
      let left : Cache = record { pool = pages_of c.take_coldest.new.self; queue = old.queue } in
      let split : pages_of old.pool ≡ left.pool ++ coldest ∷ [] = c.in-Some.ensures.some in
      let stays : must_be_pushed old.queue coldest ≡ false = search rules in
      record {
        cache = sym (coldest_evicted (rules_in old) (pages_of old.pool) left.pool coldest old.queue split ∙ ap (λ b. if b then push_evicted (rules_in old) coldest left else left) stays);
        pushed = sym (coldest_pushes (rules_in old) (pages_of old.pool) left.pool coldest old.queue split ∙ stays);
        staged = sym (ap length (coldest_stages (rules_in old) (pages_of old.pool) left.pool coldest old.queue split ∙ ap (λ b. if b then staged_in_push (rules_in old) old.queue else []) stays));
        few = search rules;
        stays = record {
          rules = refl;
          groups = refl;
          number = search rules;
          ordered = record { pool = c.in-Some.ensures.pool; listed = λ pulls. c.in-Some.ensures.listed old.queue (c.requires.ordered.listed pulls) };
        };
      };
}

pub push-requires-clause-usable : goal.push-requires-clause-usable
push-requires-clause-usable c = record {
  some = c.requires.some;
  number = c.requires.number;
  ordered = record { pool = c.in-Some.ensures.pool; listed = λ pulls. c.in-Some.ensures.listed c.args.self.now.queue (c.requires.ordered.listed pulls) };
}

pub returns : goal.returns
returns c = record {
  ok = let old = c.args.self.now in
      let made = c.in_ok-staged.ensures.ok in
      let coldest : PoolPage = page_of c.in-Some.coldest in
      let left : Cache = record { pool = pages_of c.take_coldest.new.self; queue = old.queue } in
      let split : pages_of old.pool ≡ left.pool ++ coldest ∷ [] = c.in-Some.ensures.some in
      let goes : must_be_pushed old.queue coldest ≡ true = search rules in
      record {
        cache = made.cache
            ∙ sym (coldest_evicted (rules_in old) (pages_of old.pool) left.pool coldest old.queue split ∙ ap (λ b. if b then push_evicted (rules_in old) coldest left else left) goes);
        pushed = sym (coldest_pushes (rules_in old) (pages_of old.pool) left.pool coldest old.queue split ∙ goes);
        staged = made.staged_are
            ∙ sym (ap length (coldest_stages (rules_in old) (pages_of old.pool) left.pool coldest old.queue split ∙ ap (λ b. if b then staged_in_push (rules_in old) old.queue else []) goes));
        few = made.few;
        stays = record { rules = made.stays.rules; groups = made.stays.groups; number = made.stays.number; ordered = made.stays.ordered };
      };
}
