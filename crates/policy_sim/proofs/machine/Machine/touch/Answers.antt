use Rattle.policy_sim.proofs.Names.{◌≡◌, ◌+◌, ◌&&◌, ◌||◌, not, false, List, length, arith, sym, ap, ◌∙◌, pages_of, cache_of, rules_in, Counts, Cache, PoolPage, holds, Queue, has_frame}
use Rattle.policy_sim.proofs.Struck.{listed_by}
use Rattle.policy_sim.proofs.Touched.{fetched, missed_cache, missed_counts, next_read, still_none}
use Rattle.policy_sim.proofs.machine.Machine.touch.Goals as goal

cache_with : List PoolPage → Queue → Cache
cache_with pool queue = record { pool = pool; queue = queue }

pub returns : goal.returns
unfolding cache_with
returns c = record {
  ok = let old = c.args.self.now in
      let new = c.make_room.new.self in
      let made = c.in_ok-made.ensures.ok in
      let none : holds (pages_of old.pool) c.args.page ≡ false = sym c.holds.ensures ∙ c.if-holds.false in
      let counts = c.not_in_pool.ensures.counts in
      let still : holds (pages_of new.pool) c.args.page ≡ false =
      ap (λ (cache : Cache). holds cache.pool c.args.page) made.cache ∙ still_none (rules_in old) c.args.page (cache_of old) none in
      let read : Queue = c.read-found.new.queue in
      let framed : not c.read-found.result ≡ not (has_frame read c.args.page) = ap not (c.read-found.ensures.found ∙ sym (c.read-found.ensures.frames c.args.page)) in
      record {
        cache = ap (λ pool. cache_with pool c.read-found.new.queue) c.in_ok-touch-2.ensures.ok
            ∙ ap (cache_with (fetched c.args.page c.args.change (cache_of new)).pool) c.read-found.ensures.after
            ∙ missed_cache (rules_in old) c.args.page c.args.change (cache_of old) (cache_of new) none made.cache;
        made_are = counts
            ∙ missed_counts (rules_in old) c.args.page c.args.change (cache_of old) (cache_of new) c.read-found.result c.in_ok-made.made.pushed c.in_ok-made.made.staged none made.cache
            c.read-found.ensures.found made.pushed made.staged;
        one = ap (λ (k : Counts). k.touches) counts;
        bounded = c.not_in_pool.ensures.bounded;
        stays = record {
          rules = made.stays.rules;
          groups = made.stays.groups;
          number = omega (arith, made.stays.number, next_read c.args.page new.queue, ap (λ (q : Queue). q.first + length q.groups) c.read-found.ensures.after);
          ordered = record {
            pool = c.in_ok-touch-2.ensures.pool;
            listed = λ pulls. c.in_ok-touch-2.ensures.listed read
                (listed_by (has_frame new.queue) (has_frame read) new.pool.pages.entries (λ n held. sym (c.read-found.ensures.frames n)) (made.stays.ordered.listed pulls))
                (c.lists-2.ensures ∙ ap (λ b. b && (c.args.change || not c.read-found.result)) pulls
                ∙ ap (λ b. c.args.change || b) (framed ∙ ap (λ b. not b && not (has_frame read c.args.page)) (sym still)));
          };
        };
      };
}
