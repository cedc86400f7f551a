use Rattle.face.proofs.Names.{sym, subst, ◌∙◌, CarriesUntold, Halt, Reply}
use Rattle.std.specs.Prelude.{Result}
use Rattle.face.proofs.Carrying.{cache_idles, carries_idle, listing_is}
use Rattle.face.proofs.Listed.{cache_line}
use Rattle.face.proofs.commands.carry_out.Goals as goal

pub carry_out_plain-requires-clause-plain : goal.carry_out_plain-requires-clause-plain
carry_out_plain-requires-clause-plain g c = sym c.asks_for_listing.ensures ∙ c.if-asks_for_listing.false

pub cache-requires : goal.cache-requires
cache-requires g c = record { going = (g.S.Site.state c.args.site.now, c.requires.going) }

pub returns-then-asks_for_listing : goal.returns-then-asks_for_listing
returns-then-asks_for_listing g c =
    let engine = c.args.engine.now in
    let site = g.S.Site.state c.args.site.now in
    let asks = sym c.asks_for_listing.ensures ∙ c.if-asks_for_listing.true in
    subst (λ (r : Result Reply Halt). CarriesUntold r c.args.line engine engine site site) (sym c.as_work.ensures)
    (carries_idle c.args.line _ (cache_line c.args.line asks) cache_idles c.cache.result engine site c.requires.going c.cache.ensures.stops
    (λ s listing asked fits. listing_is c.args.line asks c.cache.result engine s listing asked c.cache.ensures.listing))

pub returns : goal.returns
returns g c =
    subst (λ (r : Result Reply Halt). CarriesUntold r c.args.line c.args.engine.now c.carry_out_plain.new.engine (g.S.Site.state c.args.site.now) (g.S.Site.state c.carry_out_plain.new.site)) (sym c.as_work-2.ensures) c.carry_out_plain.ensures
