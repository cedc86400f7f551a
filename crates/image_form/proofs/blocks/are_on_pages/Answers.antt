use Rattle.log_records.specs.declared.log_record.LogRecord.TheVariants.{Begin}
use Rattle.image_form.proofs.Names.{◌+◌, ◌≡◌, true, false, refl, sym, ◌∙◌, true≢false, arith, IsOnPage, used_is, used_low, some_octet}
use Rattle.image_form.proofs.BlockReading.{some_spelled}
use Rattle.image_form.proofs.PagesRead.{none_read, one_more, one_off, all_read, same_end}
use Rattle.image_form.proofs.blocks.are_on_pages.Goals as goal

pub loop-at-init : goal.loop-at-init
loop-at-init c =
    let end = used_is c.args.content.now c.requires.block.0 c.get_u16-used.result c.requires.block.1 c.get_u16-used.ensures in
    let low = used_low c.requires.block.0 c.requires.block.1.are_block in
    none_read c.args.content.now c.get_u16-used.result c.args.pages (omega (arith, end, low))

pub begins_at-requires-clause-inside : goal.begins_at-requires-clause-inside
begins_at-requires-clause-inside c =
    let end = used_is c.args.content.now c.requires.block.0 c.get_u16-used.result c.requires.block.1 c.get_u16-used.ensures in
    let high = c.requires.block.1.are_block.room in
    let size = c.requires.size in
    omega (arith, end, high, size)

pub read_record-requires-clause-inside : goal.read_record-requires-clause-inside
read_record-requires-clause-inside c =
    let end = used_is c.args.content.now c.requires.block.0 c.get_u16-used.result c.requires.block.1 c.get_u16-used.ensures in
    let high = c.requires.block.1.are_block.room in
    let size = c.requires.size in
    omega (arith, end, high, size)

pub unreachable-requires : goal.unreachable-requires
unreachable-requires c =
    let end = used_is c.args.content.now c.requires.block.0 c.get_u16-used.result c.requires.block.1 c.get_u16-used.ensures in
    let cut = c.loop-at.invariant.cut c.requires.block.0 c.requires.block.1 end in
    some_spelled c.args.content.now c.get_u16-used.result c.loop-at.at cut.left cut.are_left c.loop-at-test.true c.in_default.ensures.bad

pub returns-then-not-is_on_page : goal.returns-then-not-is_on_page
returns-then-not-is_on_page c =
    let end = used_is c.args.content.now c.requires.block.0 c.get_u16-used.result c.requires.block.1 c.get_u16-used.ensures in
    let off : IsOnPage c.args.pages c.in-Ok.rec → ⊥ = λ on. true≢false (sym (c.is_on_page.ensures.1 on) ∙ c.if-not-is_on_page.true) in (
      λ no. let same : false ≡ true = no in absurd (true≢false (sym same)),
      λ found. absurd (one_off c.args.content.now c.get_u16-used.result c.loop-at.at c.in-Ok.end c.args.pages c.in-Ok.rec c.loop-at.invariant c.loop-at-test.true c.in-Ok.ensures.found off found.0
          (same_end c.args.content.now c.get_u16-used.result c.requires.block.0 found.0 c.requires.block.1 found.1.block end) found.1),
    )

pub loop-at-smaller : goal.loop-at-smaller
loop-at-smaller c =
    let found = c.in-Ok.ensures.found in
    omega (arith, some_octet c.in-Ok.rec, found.length_is, found.inside, c.loop-at-test.true)

pub loop-at-preserved-then-begins_at : goal.loop-at-preserved-then-begins_at
loop-at-preserved-then-begins_at c =
    one_more c.args.content.now c.get_u16-used.result c.loop-at.at (c.loop-at.at + 1) c.args.pages Begin c.loop-at.invariant c.loop-at-test.true (c.begins_at.ensures c.if-begins_at.true) tt

pub loop-at-preserved : goal.loop-at-preserved
loop-at-preserved c =
    one_more c.args.content.now c.get_u16-used.result c.loop-at.at c.in-Ok.end c.args.pages c.in-Ok.rec c.loop-at.invariant c.loop-at-test.true c.in-Ok.ensures.found (c.is_on_page.ensures.0 c.if-not-is_on_page.false)

pub returns : goal.returns
returns c =
    let end = used_is c.args.content.now c.requires.block.0 c.get_u16-used.result c.requires.block.1 c.get_u16-used.ensures in (
      λ yes. (c.requires.block.0, all_read c.args.content.now c.get_u16-used.result c.loop-at.at c.args.pages c.loop-at.invariant (omega (arith, c.loop-at-test.false)) c.requires.block.0 c.requires.block.1 end),
      λ found. refl,
    )
