use Rattle.database.proofs.Names.{Bool, le-add_right, refl, sym, ap, subst, ◌∙◌, false, ◌||◌, Ok, Held, Serves, Stat}
use Rattle.database.proofs.Served.{idle_contract, idle_keeps, idle_performs, served}
use Rattle.database.proofs.database.Database.stat.Goals as goal

pub returns-else-self : goal.returns-else-self
returns-else-self g c =
    let engine = c.self.inside.engine in
    let site = g.S.Site.state c.self.inside.site in
    let is_open = c.if-self.false in
    let going = c.self.invariant is_open in
    let reply = c.stat.result in
    record {
      serves = subst (λ (db : Held). Serves Stat (Ok reply) db db) c.self.view_is
          (served Stat (Ok reply) _ _ refl is_open (is_open ∙ sym (ap (λ (b : Bool). b || false) is_open)) (idle_keeps (Ok reply) tt engine site going)
          (λ s fits. idle_contract (Ok reply) tt engine site s going fits _ (c.stat.ensures s site fits))
          (λ s fits. idle_performs (Ok reply) tt engine site) (λ s fits. le-add_right _ _));
    }
