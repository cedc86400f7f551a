use Rattle.log_store.proofs.Names.{◌/◌, ◌∙◌, sym, rules, sealed_block}
use Rattle.log_store.proofs.Standing.{found_in_tail, found_in_block, held_block, block_bounds}
use Rattle.log_store.proofs.store.LogStore.read_at.Goals as goal

pub returns-in-Some-clause-found : goal.returns-in-Some-clause-found
returns-in-Some-clause-found g c log fits holds from =
    found_in_tail c.args.self.now (g.S.Site.state c.args.site.now) log c.args.lsn fits holds c.record_at.result (c.if-block-hi.true ∙ c.hi.ensures) c.record_at.ensures.found ∙ c.in-Some.is

pub returns-in-None-clause-foreign : goal.returns-in-None-clause-foreign
returns-in-None-clause-foreign g c says log fits holds from =
    found_in_tail c.args.self.now (g.S.Site.state c.args.site.now) log c.args.lsn fits holds c.record_at.result (c.if-block-hi.true ∙ c.hi.ensures) c.record_at.ensures.found ∙ c.in-None.is

pub returns-in_err-used-clause-foreign : goal.returns-in_err-used-clause-foreign
returns-in_err-used-clause-foreign g c says log fits holds from =
    let store = c.args.self.now in
    let site = g.S.Site.state c.args.site.now in
    let bounds = block_bounds store log c.args.lsn c.requires.going.high c.requires.before from (λ at. c.if-block-hi.false (at ∙ sym c.hi.ensures)) in
    absurd (c.in_err-used.ensures.foreign (search rules) fits (sealed_block log (c.args.lsn / 512)) (held_block store site log (c.args.lsn / 512) fits holds bounds.0 bounds.1))

pub returns-in-Some-record_at-clause-found : goal.returns-in-Some-record_at-clause-found
returns-in-Some-record_at-clause-found g c log fits holds from =
    let store = c.args.self.now in
    let site = g.S.Site.state c.args.site.now in
    let bounds = block_bounds store log c.args.lsn c.requires.going.high c.requires.before from (λ at. c.if-block-hi.false (at ∙ sym c.hi.ensures)) in
    found_in_block store site log c.args.lsn fits holds c.record_at-2.result from bounds.1 _ _ (c.in_ok-used.ensures.holds log fits holds bounds.0) c.record_at-2.ensures.found ∙ c.in-Some-record_at.is

pub returns-in-None-record_at-clause-foreign : goal.returns-in-None-record_at-clause-foreign
returns-in-None-record_at-clause-foreign g c says log fits holds from =
    let store = c.args.self.now in
    let site = g.S.Site.state c.args.site.now in
    let bounds = block_bounds store log c.args.lsn c.requires.going.high c.requires.before from (λ at. c.if-block-hi.false (at ∙ sym c.hi.ensures)) in
    found_in_block store site log c.args.lsn fits holds c.record_at-2.result from bounds.1 _ _ (c.in_ok-used.ensures.holds log fits holds bounds.0) c.record_at-2.ensures.found ∙ c.in-None-record_at.is
