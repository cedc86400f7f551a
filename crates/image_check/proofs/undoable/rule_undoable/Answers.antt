use Rattle.image_check.proofs.Names.{◌*◌, arith, rules, ◌≡◌, ◌==◌, ℕ, Option, true, true≢false, sym, subst, list_any, IfSome, kept_blocks, reading_of, records_of, few_more, few_then, logical_image_of, entries_of, IsLoserChain, losers}
use Rattle.image_check.proofs.StrayOnes.{fourth_of, chains_of, chains_whole, closed_of}
use Rattle.image_check.proofs.Walking.{in_order, may_later, sees_later}
use Rattle.image_check.proofs.undoable.rule_undoable.Goals as goal

pub find_open-requires : goal.find_open-requires
find_open-requires g c = may_later c.in-Ok.ensures.reads c.requires

pub returns-in-Some : goal.returns-in-Some
returns-in-Some g c = record {
  says = λ blocks sees third left.
      let p = logical_image_of (reading_of c.args.found.now blocks) (g.S.Site.state c.args.site.now).image in
      let log = records_of c.args.found.now blocks in
      let undoing = c.in-Ok.ensures.says blocks sees third.begun left in
      let found = subst (λ (o : Option ℕ). IfSome o (λ t. (list_any (λ n. n == t) (losers log) ≡ true) × (IsLoserChain t (entries_of t log) → ⊥))) c.in-Some.is undoing.chains.broken in (
        λ wrong. absurd (true≢false (sym wrong)),
        λ rule. absurd (found.1 (chains_of p rule c.in-Some.txn found.0)),
      );
  reads = search rules;
  few = few_more (1 * kept_blocks c.args.found.now) 0 (2 * kept_blocks c.args.found.now) 0 _ _ (omega arith) (omega arith) c.in-Ok.ensures.few;
}

pub returns-in-Ok-find_open : goal.returns-in-Ok-find_open
returns-in-Ok-find_open g c = record {
  says = λ blocks sees third left.
      let p = logical_image_of (reading_of c.args.found.now blocks) (g.S.Site.state c.args.site.now).image in
      let txns = c.in-Ok.undoing.strays.txns in
      let undoing = c.in-Ok.ensures.says blocks sees third.begun left in
      let closed = c.in-Ok-find_open.ensures.says blocks (sees_later c.in-Ok.ensures.reads sees) in (
        λ stand. fourth_of p txns undoing.strays (chains_whole _ _ (records_of c.args.found.now blocks) c.in-Ok.undoing.chains (in_order sees) third.begun undoing.chains c.in_default.is) (closed.0 stand),
        λ rule. closed.1 (closed_of p txns undoing.strays rule),
      );
  reads = search rules;
  few = few_then (1 * kept_blocks c.args.found.now) 0 (1 * kept_blocks c.args.found.now) 0 (2 * kept_blocks c.args.found.now) 0 _ _ _ (omega arith) (omega arith) c.in-Ok.ensures.few c.in-Ok-find_open.ensures.few;
}
