use Rattle.policy_sim.proofs.Names.{places_left, at_page}
use Rattle.policy_sim.proofs.directory.drop_front_group.Goals as goal

pub returns-clause-places : goal.returns-clause-places
returns-clause-places c = λ finds. λ page. rw (c.if-not-drop_front.false) (places_left c.args.first c.args.groups.now.items c.pop_front.new.self.items c.in-Some.front page (at_page c.args.slots.now.items page)
    (at_page c.forget_group.new.slots.items page) c.in-Some.ensures.items (finds page) (c.forget_group.ensures.forgets page))
