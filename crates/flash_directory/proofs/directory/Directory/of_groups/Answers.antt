use Rattle.flash_directory.proofs.Names.{ℕ, ◌+◌, ◌++◌, ◌∷◌, [], nat_eq, length, length-append, arith, ap, sym, ◌∙◌, lookup, last_among, newer, get}
use Rattle.flash_directory.proofs.Keeping.{places_pushed}
use Rattle.flash_directory.proofs.Opened.{queue_of_heads, map_more}
use Rattle.flash_directory.proofs.directory.Directory.of_groups.Goals as goal

pub loop-index-preserved : goal.loop-index-preserved
loop-index-preserved c =
    let first : ℕ = c.args.heads.now.first in
    let so_far = c.loop-index.groups.items in
    record {
      groups = c.in_ok-push_back.ensures.items ∙ ap (λ l. so_far ++ l ∷ []) c.of_heads-group.ensures
          ∙ map_more c.args.heads.now.list.now so_far c.loop-index.index _ c.loop-index-test.true c.loop-index.invariant.groups;
      places = λ page. places_pushed first so_far c.of_heads-group.result (first + c.loop-index.index) page (get nat_eq c.loop-index.places page) (get nat_eq c.enter_group.new.places page)
          (ap (λ n. first + n) (sym c.loop-index.invariant.count)) (c.loop-index.invariant.places page)
          (c.enter_group.ensures.enters page ∙ ap (λ es. newer (first + c.loop-index.index) c.of_heads-group.result page (lookup (nat_eq page) es)) c.reserve.ensures.entries)
          ∙ ap (λ l. last_among first l page) (sym c.in_ok-push_back.ensures.items);
      count = omega (arith, ap length c.in_ok-push_back.ensures.items, length-append so_far (c.of_heads-group.result ∷ []), c.loop-index.invariant.count);
    }

pub invariant_of-result : goal.invariant_of-result
invariant_of-result c = (
  queue_of_heads c.args.heads.now.first c.args.heads.now.list.now c.loop-index.groups.items c.loop-index.index c.requires.groups
      c.loop-index-test.false c.loop-index.invariant.groups c.requires.first (omega (arith, c.loop-index.groups.ok, c.loop-index.groups.small)),
  c.loop-index.invariant.places,
)
