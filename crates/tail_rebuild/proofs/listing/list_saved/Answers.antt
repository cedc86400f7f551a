use Rattle.tail_rebuild.proofs.Names.{◌≡◌, ℕ, ◌+◌, ◌-◌, ◌<◌, List, [], ◌∷◌, ◌++◌, length, get_or, true≢false, sym, ◌∙◌, ap, subst, arith, length-append, All-push, All, FrameHead, heads_of_group, AreHeadsIn, IsFront, PagesExist}
use Rattle.tail_rebuild.proofs.Lists.{front_more}
use Rattle.tail_rebuild.proofs.listing.list_saved.Goals as goal

pub returns-then-not-pages_exist-clause-foreign : goal.returns-then-not-pages_exist-clause-foreign
returns-then-not-pages_exist-clause-foreign c says exist =
    let there = subst (PagesExist c.args.pages) (sym c.heads_of-eight.ensures) (exist c.loop-group.group c.loop-group.invariant.least c.loop-group-test.true) in
    true≢false (sym (c.pages_exist.ensures.1 there) ∙ c.if-not-pages_exist.true)

pub loop-group-preserved : goal.loop-group-preserved
loop-group-preserved c =
    let inv = c.loop-group.invariant in
    let list = c.loop-group.list.items in
    let group = c.loop-group.group in
    let heads = c.heads_of-eight.result.now in
    let items : c.push.new.self.items ≡ list ++ heads ∷ [] = c.in-Ok.ensures.items in
    let longer : length c.push.new.self.items ≡ length list + 1 = ap length items ∙ length-append list (heads ∷ []) in
    let own : AreHeadsIn c.args.pages heads = record {
      are_heads = subst (λ (l : List FrameHead). Rattle.byte_fields.specs.FrameHeads.AreGroupHeads l) (sym c.heads_of-eight.ensures) (c.requires.segment.groups group c.loop-group-test.true);
      exist = c.pages_exist.ensures.0 c.if-not-pages_exist.false;
    } in
    record {
      least = omega (arith, inv.least);
      listed = subst (λ (l : List (List FrameHead)). All (AreHeadsIn c.args.pages) l) (sym items) (All-push (AreHeadsIn c.args.pages) list heads inv.listed own);
      count = omega (arith, inv.count, longer);
      front = λ all begun goes.
          let at : length list ≡ length c.args.list.now.items + (group - c.args.skip) = omega (arith, inv.count, inv.least) in
          let inside = goes.inside in
          let within = c.loop-group-test.true in
          let less : length list < length all = omega (arith, at, inside, within, inv.least) in
          let back : c.args.skip + (group - c.args.skip) ≡ group = omega (arith, inv.least) in
          let is : heads ≡ get_or all (length list) [] =
          c.heads_of-eight.ensures ∙ sym (ap (heads_of_group c.args.heads.now) back) ∙ sym (goes.same (group - c.args.skip) (omega (arith, within, inv.least))) ∙ ap (λ (k : ℕ). get_or all k []) (sym at) in
          subst (IsFront all) (sym items) (front_more all list heads (inv.front all begun goes) less is);
    }
