use Rattle.page_store.proofs.Names.{rules, ◌+◌, ◌≡◌, true, false, ◌&&◌, [], length, cond, arith, ap, refl, ◌∙◌, nat_tests, nat_le, LogList, evicted, pushed_for_room, cache_of, is_pushed, rules_for, next_group, Stands, eviction_changes, room_changes, staged_by_eviction, ok_as, Image, forces}
use Rattle.page_store.proofs.Evictions.{not_forced}
use Rattle.page_store.proofs.Calling.{keeps_as, stands_as, stops_as, stops_not, keeps_nothing, stands_still}
use Rattle.page_store.proofs.StagingLaws.{stages_none, stages_as}
use Rattle.page_store.proofs.store.PageStore.make_room.Given.{Over}
use Rattle.page_store.proofs.store.PageStore.make_room.Goals.{After-evict}
use Rattle.page_store.proofs.store.PageStore.make_room.Goals as goal

pub returns-then-not-is_full-clause-room : goal.returns-then-not-is_full-clause-room
returns-then-not-is_full-clause-room g c =
    let store = c.args.self.now in
    let log = c.args.log.now in
    let is : nat_le store.pool.size (length store.pool.frames) ≡ false = search rules in
    let none = ap (λ b. forces log (cond b (evicted store) [])) is ∙ not_forced log in
    record {
      keeps = λ list ready. keeps_nothing c.requires.going.sizes ready;
      stands = λ list ready. stands_still c.requires.going.sizes refl none (ap (λ b. cond b (eviction_changes log list store (g.S.Site.state c.args.site.now).image) []) is) ready ready (search rules) (λ logged. logged);
      stages = stages_none (ap (λ b. cond b (staged_by_eviction (rules_for store) (cache_of store)) []) is) (omega arith) refl;
      worn = stops_not none (ap (λ b. b && is_pushed (cache_of store)) is);
    }

-- the pool is full

module _ (g : Over) (c : After-evict g) where
  is_full : true ≡ nat_le c.args.self.now.pool.size (length c.args.self.now.pool.frames)
  is_full = let full : length c.args.self.now.pool.frames ≡ c.args.self.now.pool.size = c.is_full.ensures.full.0 c.if-not-is_full.false in grind
      (arith, nat_tests)

  all_forced : forces c.args.log.now (evicted c.args.self.now) ≡ forces c.args.log.now (pushed_for_room c.args.self.now)
  all_forced = ap (λ b. forces c.args.log.now (cond b (evicted c.args.self.now) [])) is_full

  all_changes : (list : LogList) (image : Image) → eviction_changes c.args.log.now list c.args.self.now image ≡ room_changes c.args.log.now list
      c.args.self.now image
  all_changes list image = ap (λ b. cond b (eviction_changes c.args.log.now list c.args.self.now image) []) is_full

pub returns-clause-room : goal.returns-clause-room
returns-clause-room g c =
    let store = c.args.self.now in
    let log = c.args.log.now in
    let cache = cache_of store in
    let old = g.S.Site.state c.args.site.now in
    record {
      keeps = λ list ready. keeps_as (all_forced g c) (all_changes g c list old.image) (c.evict.ensures.keeps list ready);
      stands = λ list ready.
          ok_as c.evict.result _ (Stands log c.evict.new.log store c.evict.new.self old (g.S.Site.state c.evict.new.site) list (forces log (pushed_for_room store)) (room_changes log list store old.image))
          (stands_as (all_forced g c) (all_changes g c list old.image)) (c.evict.ensures.stands list ready);
      stages = stages_as (ap (λ b. cond b (staged_by_eviction (rules_for store) cache) []) (is_full g c)) (ap (λ b. next_group cache + (cond (b && is_pushed cache) 1 0)) (is_full g c)) c.evict.ensures.stages;
      worn = stops_as (all_forced g c) (ap (λ b. b && is_pushed cache) (is_full g c)) c.evict.ensures.worn;
    }
