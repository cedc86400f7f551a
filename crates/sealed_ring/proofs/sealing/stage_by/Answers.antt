use Rattle.sealed_ring.proofs.Names.{◌≡◌, ◌+◌, length, ◌∙◌, ap, arith, rules, length-append, to_be_bytes, w64, region, LeavesKept, Stages, then_sync, stays_honest, one_call_more, ok_as, on_ok}
use Rattle.sealed_ring.proofs.Runs.{first, second, staged, wrote_changes, synced_changes, changes_in_sequence, synced_settles}
use Rattle.sealed_ring.proofs.sealing.stage_by.Goals as goal

pub returns-in_err-write_at-clause-staged : goal.returns-in_err-write_at-clause-staged
returns-in_err-write_at-clause-staged g c honest =
    let s = c.args.shape in
    let old = g.S.Site.state c.args.site.now in
    let mid = g.S.Site.state c.write_at.new.self in
    let wrote = c.write_at.ensures.wrote honest in
    let long : length c.spell.new.into ≡ 8 + s.room = ap length c.spell.ensures ∙ length-append (to_be_bytes w64 c.args.hi) c.args.content.now ∙ omega (arith, c.requires.may.room) in
    record {
      any_moment = λ rest. first s c.args.hi old c.requires.may.fits c.requires.may.bounded c.spell.new.into mid c.write_at.result long rest wrote;
      changes = wrote_changes s.dev _ _ old mid c.write_at.result wrote;
      stages = search rules;
      settled = search rules;
      device_calls = search rules;
    }

pub returns-in_err-write_at-2-clause-staged : goal.returns-in_err-write_at-2-clause-staged
returns-in_err-write_at-2-clause-staged g c honest =
    let s = c.args.shape in
    let old = g.S.Site.state c.args.site.now in
    let mid = g.S.Site.state c.write_at.new.self in
    let late = g.S.Site.state c.write_at-2.new.self in
    let wrote = c.write_at.ensures.wrote honest in
    let wrote-2 = c.write_at-2.ensures.wrote (stays_honest old mid c.write_at.ensures.preserves honest) in
    let long : length c.spell.new.into ≡ 8 + s.room = ap length c.spell.ensures ∙ length-append (to_be_bytes w64 c.args.hi) c.args.content.now ∙ omega (arith, c.requires.may.room) in
    record {
      any_moment = λ rest. second s c.args.hi old c.requires.may.fits c.requires.may.bounded c.spell.new.into mid late c.write_at-2.result long rest
          (first s c.args.hi old c.requires.may.fits c.requires.may.bounded c.spell.new.into mid c.write_at.result long rest wrote)
          (c.in_ok-write_at.ensures.wrote honest).written wrote-2;
      changes = changes_in_sequence s.dev old mid late (wrote_changes s.dev _ _ old mid c.write_at.result wrote) (wrote_changes s.dev _ _ mid late c.write_at-2.result wrote-2);
      stages = search rules;
      settled = search rules;
      device_calls = search rules;
    }

pub returns-clause-staged : goal.returns-clause-staged
returns-clause-staged g c honest =
    let s = c.args.shape in
    let old = g.S.Site.state c.args.site.now in
    let mid = g.S.Site.state c.write_at.new.self in
    let late = g.S.Site.state c.write_at-2.new.self in
    let new = g.S.Site.state c.sync.new.self in
    let honest-mid = stays_honest old mid c.write_at.ensures.preserves honest in
    let wrote = c.write_at.ensures.wrote honest in
    let wrote-2 = c.write_at-2.ensures.wrote honest-mid in
    let synced = c.sync.ensures.synced (stays_honest mid late c.write_at-2.ensures.preserves honest-mid) in
    let one = (c.in_ok-write_at.ensures.wrote honest).written in
    let two = (c.in_ok-write_at-2.ensures.wrote honest-mid).written in
    let long : length c.spell.new.into ≡ 8 + s.room = ap length c.spell.ensures ∙ length-append (to_be_bytes w64 c.args.hi) c.args.content.now ∙ omega (arith, c.requires.may.room) in
    record {
      any_moment = λ rest. then_sync old late new (LeavesKept s c.args.hi (region s old)) s.dev c.sync.result
          (second s c.args.hi old c.requires.may.fits c.requires.may.bounded c.spell.new.into mid late c.write_at-2.result long rest
          (first s c.args.hi old c.requires.may.fits c.requires.may.bounded c.spell.new.into mid c.write_at.result long rest wrote) one wrote-2) synced;
      changes = changes_in_sequence s.dev old late new
          (changes_in_sequence s.dev old mid late (wrote_changes s.dev _ _ old mid c.write_at.result wrote) (wrote_changes s.dev _ _ mid late c.write_at-2.result wrote-2))
          (synced_changes s.dev late new c.sync.result synced);
      stages = on_ok c.sync.result (Stages s c.args.hi c.args.content.now (region s old) (region s new))
          (staged s c.args.hi old c.requires.may.fits c.requires.may.bounded c.spell.new.into c.args.content.now mid late new c.sync.result c.spell.ensures c.requires.may.room one two synced);
      settled = synced_settles s.dev late new c.sync.result synced;
      device_calls =
          let first = one_call_more _ old mid (c.in_ok-write_at.ensures.wrote honest).past_ok in
          let second = one_call_more _ mid late (c.in_ok-write_at-2.ensures.wrote honest-mid).past_ok in
          ok_as c.sync.result _ _ (λ adds. let third = one_call_more _ late new adds in omega (arith, first, second, third)) synced.past_ok;
    }
