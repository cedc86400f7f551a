use Rattle.image_form.proofs.Names.{rules, ◌≡◌, ◌-◌, ◌≤◌, ◌<◌, ℕ, true, false, sym, ap, ◌∙◌, subst, true≢false, arith, ◌+◌, min, refl, Err, ReadsAtMost, IsBlockOn, Finds, block_on, State, Image, Geometry, Log}
use Rattle.image_form.proofs.Counts.{few_then, few_more, log_few}
use Rattle.image_form.proofs.BlocksJudged.{finds_later, going_later, one_is_not, one_is}
use Rattle.image_form.proofs.blocks.rule_blocks.Goals as goal

pub returns-in-Err-Foreign-clause-blocks : goal.returns-in-Err-Foreign-clause-blocks
returns-in-Err-Foreign-clause-blocks g c finds =
    let log = c.args.log.now in
    let old : State = g.S.Site.state c.args.site.now in
    let now : State = g.S.Site.state c.loop-block.site in
    let reads = c.loop-block.invariant.reads in
    let same : now.image ≡ old.image = (reads.same finds.honest).image in
    let finds_now : Finds log now = finds_later log old now reads.preserves same finds in
    let low : log.ring.hi - (log.geometry.blocks - 1) ≤ c.loop-block.block = omega (arith, c.loop-block.auto.block, c.max-first.ensures, c.saturating_sub.ensures, c.sealed_end-hi.ensures, ap (λ (x : Geometry). x.blocks) c.geometry-geometry.ensures) in
    let from : c.args.kept ≤ c.loop-block.block = omega (arith, c.loop-block.auto.block, c.max-first.ensures) in
    let below : c.loop-block.block < log.ring.hi = omega (arith, c.loop-block-test.true, c.sealed_end-hi.ensures) in
    let none = c.in-Err-Foreign.ensures.foreign (ap Err c.in-Err-Foreign.field-0-is) finds_now in
    let is : block_on log.geometry now.image c.loop-block.block ≡ block_on log.geometry old.image c.loop-block.block = ap (λ (image : Image). block_on log.geometry image c.loop-block.block) same in (
      λ no. let wrong : false ≡ true = no in absurd (true≢false (sym wrong)),
      λ all. absurd (one_is_not log old c.args.kept c.loop-block.block c.requires finds from low below (block_on log.geometry now.image c.loop-block.block) is (λ records on. none records on.block) all),
    )

pub returns-then-not-are_on_pages-clause-blocks : goal.returns-then-not-are_on_pages-clause-blocks
returns-then-not-are_on_pages-clause-blocks g c finds =
    let log = c.args.log.now in
    let old : State = g.S.Site.state c.args.site.now in
    let now : State = g.S.Site.state c.loop-block.site in
    let reads = c.loop-block.invariant.reads in
    let same : now.image ≡ old.image = (reads.same finds.honest).image in
    let finds_now : Finds log now = finds_later log old now reads.preserves same finds in
    let low : log.ring.hi - (log.geometry.blocks - 1) ≤ c.loop-block.block = omega (arith, c.loop-block.auto.block, c.max-first.ensures, c.saturating_sub.ensures, c.sealed_end-hi.ensures, ap (λ (x : Geometry). x.blocks) c.geometry-geometry.ensures) in
    let from : c.args.kept ≤ c.loop-block.block = omega (arith, c.loop-block.auto.block, c.max-first.ensures) in
    let below : c.loop-block.block < log.ring.hi = omega (arith, c.loop-block-test.true, c.sealed_end-hi.ensures) in
    let is = c.in-Ok.ensures.block finds_now ∙ ap (λ (image : Image). block_on log.geometry image c.loop-block.block) same in
    let pages : c.geometry-geometry.result.pages ≡ log.geometry.pages = ap (λ (x : Geometry). x.pages) c.geometry-geometry.ensures in (
      λ no. let wrong : false ≡ true = no in absurd (true≢false (sym wrong)),
      λ all. absurd (one_is_not log old c.args.kept c.loop-block.block c.requires finds from low below c.read_block.new.into is
          (λ records on. let yes : c.are_on_pages.result ≡ true = c.are_on_pages.ensures.1 (records, subst (λ (n : ℕ). IsBlockOn n c.read_block.new.into records) (sym pages) on) in true≢false (sym yes ∙ c.if-not-are_on_pages.true)) all),
    )

pub loop-block-preserved : goal.loop-block-preserved
loop-block-preserved g c =
    let log = c.args.log.now in
    let old : State = g.S.Site.state c.args.site.now in
    let now : State = g.S.Site.state c.loop-block.site in
    let reads = c.loop-block.invariant.reads in
    let pages : c.geometry-geometry.result.pages ≡ log.geometry.pages = ap (λ (x : Geometry). x.pages) c.geometry-geometry.ensures in
    record {
      going = going_later log now (g.S.Site.state c.read_block.new.site) c.in-Ok.ensures.reads.preserves c.loop-block.invariant.going;
      stand = λ finds.
          let same : now.image ≡ old.image = (reads.same finds.honest).image in
          let finds_now : Finds log now = finds_later log old now reads.preserves same finds in
          let is = c.in-Ok.ensures.block finds_now ∙ ap (λ (image : Image). block_on log.geometry image c.loop-block.block) same in
          let here = c.are_on_pages.ensures.0 c.if-not-are_on_pages.false in
          one_is log old c.args.kept c.loop-block.block c.read_block.new.into is (here.0, subst (λ (n : ℕ). IsBlockOn n c.read_block.new.into here.0) pages here.1) (c.loop-block.invariant.stand finds);
      reads = search rules;
      most = omega (arith, c.loop-block-test.true, c.sealed_end-hi.ensures);
      looks =
          let next : ReadsAtMost 1 0 now (g.S.Site.state c.read_block.new.site) = log_few c.read_block.result Log 1 1 _ _ refl (omega arith) c.read_block.ensures.reads in
          few_then (c.loop-block.block - c.max-first.result) 0 1 0 (c.loop-block.block + 1 - c.max-first.result) 0 old now (g.S.Site.state c.read_block.new.site) (omega (arith, c.loop-block.auto.block)) (omega arith) c.loop-block.invariant.looks next;
    }

pub returns-in-Err-Foreign-clause-looks : goal.returns-in-Err-Foreign-clause-looks
returns-in-Err-Foreign-clause-looks g c =
    let log = c.args.log.now in
    let old : State = g.S.Site.state c.args.site.now in
    let now : State = g.S.Site.state c.loop-block.site in
    let next : ReadsAtMost 1 0 now (g.S.Site.state c.read_block.new.site) = log_few c.read_block.result Log 1 1 _ _ refl (omega arith) c.read_block.ensures.reads in
    few_then (c.loop-block.block - c.max-first.result) 0 1 0 (min (log.ring.hi - c.args.kept) (log.geometry.blocks - 1)) 0 old now (g.S.Site.state c.read_block.new.site)
    (omega (arith, c.loop-block.auto.block, c.loop-block-test.true, c.max-first.ensures, c.saturating_sub.ensures, c.sealed_end-hi.ensures, ap (λ (x : Geometry). x.blocks) c.geometry-geometry.ensures)) (omega arith) c.loop-block.invariant.looks next

pub returns-in-Err-clause-looks : goal.returns-in-Err-clause-looks
returns-in-Err-clause-looks g c =
    let log = c.args.log.now in
    let old : State = g.S.Site.state c.args.site.now in
    let now : State = g.S.Site.state c.loop-block.site in
    let next : ReadsAtMost 1 0 now (g.S.Site.state c.read_block.new.site) = log_few c.read_block.result Log 1 1 _ _ refl (omega arith) c.read_block.ensures.reads in
    few_then (c.loop-block.block - c.max-first.result) 0 1 0 (min (log.ring.hi - c.args.kept) (log.geometry.blocks - 1)) 0 old now (g.S.Site.state c.read_block.new.site)
    (omega (arith, c.loop-block.auto.block, c.loop-block-test.true, c.max-first.ensures, c.saturating_sub.ensures, c.sealed_end-hi.ensures, ap (λ (x : Geometry). x.blocks) c.geometry-geometry.ensures)) (omega arith) c.loop-block.invariant.looks next

pub returns-then-not-are_on_pages-clause-looks : goal.returns-then-not-are_on_pages-clause-looks
returns-then-not-are_on_pages-clause-looks g c =
    let log = c.args.log.now in
    let old : State = g.S.Site.state c.args.site.now in
    let now : State = g.S.Site.state c.loop-block.site in
    let next : ReadsAtMost 1 0 now (g.S.Site.state c.read_block.new.site) = log_few c.read_block.result Log 1 1 _ _ refl (omega arith) c.read_block.ensures.reads in
    few_then (c.loop-block.block - c.max-first.result) 0 1 0 (min (log.ring.hi - c.args.kept) (log.geometry.blocks - 1)) 0 old now (g.S.Site.state c.read_block.new.site)
    (omega (arith, c.loop-block.auto.block, c.loop-block-test.true, c.max-first.ensures, c.saturating_sub.ensures, c.sealed_end-hi.ensures, ap (λ (x : Geometry). x.blocks) c.geometry-geometry.ensures)) (omega arith) c.loop-block.invariant.looks next

pub returns-clause-looks : goal.returns-clause-looks
returns-clause-looks g c =
    let log = c.args.log.now in
    let most = c.loop-block.invariant.most in
    few_more (c.loop-block.block - c.max-first.result) 0 (min (log.ring.hi - c.args.kept) (log.geometry.blocks - 1)) 0 (g.S.Site.state c.args.site.now) (g.S.Site.state c.loop-block.site)
    (omega (arith, most, c.loop-block.auto.block, c.max-first.ensures, c.saturating_sub.ensures, c.sealed_end-hi.ensures, ap (λ (x : Geometry). x.blocks) c.geometry-geometry.ensures)) (omega arith) c.loop-block.invariant.looks
