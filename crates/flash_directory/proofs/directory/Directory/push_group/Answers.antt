use Rattle.flash_directory.proofs.Names.{ℕ, ◌≡◌, ◌+◌, ◌^◌, ◌≤◌, List, nat_eq, length, arith, ap, sym, subst, ◌∙◌, lookup, frames_in, last_among, newest, get, Queue, Frame}
use Rattle.flash_directory.proofs.Keeping.{places_pushed}
use Rattle.flash_directory.proofs.Opened.{queue_pushed, size_of_heads}
use Rattle.flash_directory.proofs.directory.Directory.push_group.Goals as goal

pub invariant_of-self-2 : goal.invariant_of-self-2
invariant_of-self-2 c =
    let q : Queue = record { first = c.self.inside.first; groups = c.self.inside.groups.items } in
    let group : List Frame = c.of_heads-group.result in
    let mid : List (List Frame) = c.drop_front_group.new.groups.items in
    let first : ℕ = c.first_then-self-inside.result in
    let low : q.first + length q.groups ≤ 2 ^ 40 = subst (λ (k : Queue). k.first + length k.groups ≤ 2 ^ 40) (sym c.self.view_is) c.requires.number in
    let kept : (page : ℕ) → get nat_eq c.reserve.new.self page ≡ newest q page = λ page. ap (lookup (nat_eq page)) c.reserve.ensures.entries ∙ c.self.invariant.1 page in (
      rw (c.first_then-self-inside.ensures, c.in-Ok.ensures.items, c.in_ok-drop_front_group.ensures.groups, c.of_heads-group.ensures)
          (queue_pushed q c.args.drop_front (frames_in c.args.heads.now) c.self.invariant.0 (size_of_heads c.args.heads.now c.requires.heads) low),
      λ page. places_pushed first mid group (first + c.len.result) page (get nat_eq c.drop_front_group.new.places page) (get nat_eq c.enter_group.new.places page)
          (omega (arith, c.len.ensures, c.drop_front_group.new.groups.ok)) (c.in_ok-drop_front_group.ensures.places kept page ∙ ap (λ n. last_among n mid page) (sym c.first_then-self-inside.ensures)) (c.enter_group.ensures.enters page)
          ∙ ap (λ l. last_among first l page) (sym c.in-Ok.ensures.items),
    )
