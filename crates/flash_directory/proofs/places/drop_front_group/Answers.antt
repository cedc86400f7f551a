use Rattle.flash_directory.proofs.Names.{nat_eq, get}
use Rattle.flash_directory.proofs.Keeping.{places_left}
use Rattle.flash_directory.proofs.places.drop_front_group.Goals as goal

pub returns-clause-places : goal.returns-clause-places
returns-clause-places c = λ finds. λ page. rw (c.if-not-drop_front.false) (places_left c.args.first c.args.groups.now.items c.pop_front.new.self.items c.in-Some.front page (get nat_eq c.args.places.now page)
    (get nat_eq c.forget_group.new.places page) c.in-Some.ensures.items (finds page) (c.forget_group.ensures.forgets page))
