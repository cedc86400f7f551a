use Rattle.flash_directory.proofs.Names.{◌≡◌, ◌-◌, ℕ, List, set, length, arith, sym, ap, ◌∙◌, read_at, last_among, newest, length-groups_read, Queue, with_read, groups_read, Frame}
use Rattle.flash_directory.proofs.Reading.{groups_read_at, sizes_read}
use Rattle.flash_directory.proofs.Keeping.{place_at, newest_read}
use Rattle.flash_directory.proofs.directory.Directory.set_referenced.Goals as goal

-- the groups then
now_read : (c : goal.After-self-1) → set c.self.inside.groups.items (c.in-Some.place.group - c.self.inside.first) c.set_referenced.new.self ≡ groups_read c.args.page c.self.inside.groups.items
now_read c =
    let q : Queue = record { first = c.self.inside.first; groups = c.self.inside.groups.items } in
    let k : ℕ = c.in-Some.place.group - c.self.inside.first in
    let d : List Frame = c.index_mut.result.now in
    ap (set c.self.inside.groups.items k) (c.set_referenced.ensures ∙ ap (read_at c.in-Some.place.index) c.index_mut.ensures.value)
    ∙ groups_read_at c.args.page c.self.inside.groups.items k c.in-Some.place.index d
    (place_at q c.args.page c.in-Some.place (ap (λ (k : Queue). newest k c.args.page) c.self.view_is ∙ sym c.in-Some.ensures.newest))

pub invariant_of-self : goal.invariant_of-self
invariant_of-self c = (
  record {
    sizes = rw (now_read c) (sizes_read c.args.page c.self.inside.groups.items c.self.invariant.0.sizes);
    numbers = omega (arith, c.self.invariant.0.numbers, ap length (now_read c), length-groups_read c.args.page c.self.inside.groups.items);
  },
  λ page. c.self.invariant.1 page ∙ sym (ap (λ (l : List (List Frame)). last_among c.self.inside.first l page) (now_read c)
      ∙ newest_read c.self.inside.first c.args.page c.self.inside.groups.items page),
)

-- the queue of these groups
with_groups : ℕ → List (List Frame) → Queue
with_groups first groups = record { first = first; groups = groups }

pub returns-in-Some : goal.returns-in-Some
unfolding with_groups
returns-in-Some c = ap (with_groups c.self.inside.first) (now_read c) ∙ ap (with_read c.args.page) c.self.view_is
