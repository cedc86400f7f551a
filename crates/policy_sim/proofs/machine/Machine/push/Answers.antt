use Rattle.policy_sim.proofs.Names.{◌≡◌, ◌+◌, Bool, List, take, length, refl, arith, ap, sym, subst, ◌∙◌, if◌then◌else◌, [], Mark, unless, group_of, page_of, pages_of, cache_of, rules_in, names, Cache, PoolPage, holds, without, leaving, Queue, front_marks, has_frame, pushed, Frame, Plan}
use Rattle.policy_sim.proofs.Lost.{still_framed}
use Rattle.policy_sim.proofs.Pushed.{push_is, staged_count, next_after}
use Rattle.policy_sim.proofs.Struck.{listed_by}
use Rattle.policy_sim.proofs.machine.Machine.push.Goals as goal

cache_with : List PoolPage → Queue → Cache
cache_with pool queue = record { pool = pool; queue = queue }

pub returns : goal.returns
unfolding cache_with
returns c = record {
  ok = let old = c.args.self.now in
      let front : List Mark = take c.marks_of_front-count.result c.marks_of_front-count.new.into in
      let full : Bool = c.is_full-full.result in
      let plan : Plan = c.plan-plan.result in
      let frames : List Frame = c.new_group-frames.result.items in
      let front_is : front ≡ leaving (rules_in old) old.queue =
      c.marks_of_front-count.ensures.marks ∙ ap (λ b. if b then front_marks old.queue.groups else []) c.is_full-full.ensures.full in
      let queue : c.push_group.new.self ≡ pushed full frames old.queue = c.in_ok-push_group.ensures.ok in
      let made : c.push_group.new.self ≡ pushed full (group_of front plan (page_of c.args.own.now) (pages_of old.pool)) old.queue =
      queue ∙ ap (λ l. pushed full l old.queue) c.new_group-frames.ensures.frames in
      let left : pages_of c.list_unframed.new.pool ≡ without (names plan.pulled) (pages_of old.pool) = c.in_ok-list_unframed.ensures.pages ∙ c.remove_all.ensures.pages in
      record {
        cache = ap (λ pool. cache_with pool c.push_group.new.self) left
            ∙ ap (cache_with (without (names plan.pulled) (pages_of old.pool))) queue
            ∙ push_is (rules_in old) (page_of c.args.own.now) (cache_of old) front plan frames full c.plans_are_pushes.ensures.eviction (record {
              full_is = c.is_full-full.ensures.full;
              front_is = front_is;
              plan_is = c.plan-plan.ensures.plan;
              frames_are = c.new_group-frames.ensures.frames;
              apart = c.len-len.ensures.apart;
            });
        staged_are = c.len.ensures.len ∙ staged_count (rules_in old) (cache_of old) front plan front_is c.plan-plan.ensures.plan;
        few = c.len.ensures.few;
        stays = record {
          rules = refl;
          groups = refl;
          number = omega (arith, ap (λ (q : Queue). q.first + length q.groups) queue, next_after full frames old.queue c.is_full-full.ensures.some);
          ordered = record {
            pool = c.in_ok-list_unframed.ensures.pool;
            listed = λ pulls. listed_by (unless front c.push_group.new.self (has_frame old.queue)) (has_frame c.push_group.new.self) c.list_unframed.new.pool.pages.entries
                (λ n held.
                subst (λ (q : Queue). unless front q (has_frame old.queue) n ≡ has_frame q n) (sym made)
                (still_framed full front old.queue plan (page_of c.args.own.now) (pages_of old.pool) n c.marks_of_front-count.ensures.marks c.requires.gone
                (sym (ap (λ (pool : List PoolPage). holds pool n) left) ∙ held)))
                (c.in_ok-list_unframed.ensures.listed pulls (has_frame old.queue) (c.remove_all.ensures.listed old.queue (c.requires.usable.ordered.listed pulls)));
          };
        };
      };
}
