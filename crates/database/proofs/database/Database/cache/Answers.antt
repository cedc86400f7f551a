use Rattle.database.proofs.Names.{refl, le-add_right, listing_of, Cache, Listing}
use Rattle.database.proofs.Served.{as_answered, idle_contract, idle_keeps, idle_performs, served}
use Rattle.database.proofs.database.Database.cache.Goals as goal

pub returns : goal.returns
returns g c =
    let engine = c.self.inside.engine in
    let site = g.S.Site.state c.self.inside.site in
    let r = c.cache-answer.result in
    let going = c.self.invariant c.if-self.false in
    record {
      serves = as_answered _ c.self.view_is c.settle.ensures.answer
          (served Cache r _ _ refl c.if-self.false c.settle.ensures.closes (idle_keeps r c.cache-answer.ensures.stops engine site going)
          (λ s fits. idle_contract r c.cache-answer.ensures.stops engine site s going fits (Listing (listing_of engine)) c.cache-answer.ensures.listing)
          (λ s fits. idle_performs r c.cache-answer.ensures.stops engine site) (λ s fits. le-add_right _ _));
    }
