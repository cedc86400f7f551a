use Rattle.policy_sim.proofs.Names.{ℕ, ◌≡◌, ◌+◌, ◌^◌, ◌≤◌, List, length, arith, ap, sym, subst, ◌∙◌, places_pushed, last_among, newest, at_page, Queue, Frame}
use Rattle.flash_directory.proofs.Opened.{queue_pushed}
use Rattle.policy_sim.proofs.directory.Directory.push_group.Goals as goal

pub invariant_of-self-in_default : goal.invariant_of-self-in_default
invariant_of-self-in_default c =
    let q : Queue = record { first = c.self.inside.first; groups = c.self.inside.groups.items } in
    let group : List Frame = c.of_frames-group.result in
    let mid : List (List Frame) = c.drop_front_group.new.groups.items in
    let first : ℕ = c.first_then-self-inside.result in
    let low : q.first + length q.groups ≤ 2 ^ 31 = subst (λ (k : Queue). k.first + length k.groups ≤ 2 ^ 31) (sym c.self.view_is) c.requires.number in
    let kept : (page : ℕ) → at_page c.self.inside.slots.items page ≡ newest q page = λ page. c.self.invariant.1 page in (
      rw (c.first_then-self-inside.ensures, c.in_default.ensures.groups, c.drop_front_group.ensures.groups, c.of_frames-group.ensures)
          (queue_pushed q c.args.drop_front c.args.frames.items c.self.invariant.0 (c.requires.some, c.requires.few) (omega (arith, low))),
      λ page. places_pushed first mid group (first + c.len.result) page (at_page c.drop_front_group.new.slots.items page) (at_page c.append.new.slots.items page)
          (omega (arith, c.len.ensures, c.drop_front_group.new.groups.ok)) (c.drop_front_group.ensures.places kept page ∙ ap (λ n. last_among n mid page) (sym c.first_then-self-inside.ensures)) (c.in_default.ensures.enters page)
          ∙ ap (λ l. last_among first l page) (sym c.in_default.ensures.groups),
    )
