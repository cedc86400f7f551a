use Rattle.database.proofs.Names.{Bool, le-add_right, refl, sym, ap, ◌∙◌, false, ◌||◌, Ok, Mark}
use Rattle.database.proofs.Served.{as_answered, mark_contract, mark_keeps, mark_performs, served}
use Rattle.database.proofs.database.Database.mark.Goals as goal

pub returns : goal.returns
returns g c =
    let engine = c.self.inside.engine in
    let site = g.S.Site.state c.self.inside.site in
    let is_open = c.if-self.false in
    let going = c.self.invariant is_open in
    let reply = c.mark.result in
    let new = c.mark.new.self in
    record {
      serves = as_answered (Ok reply) c.self.view_is refl
          (served (Mark c.args.session) (Ok reply) _ _ refl is_open (is_open ∙ sym (ap (λ (b : Bool). b || false) is_open)) (mark_keeps reply engine new site c.args.session c.mark.ensures.store (c.mark.ensures.going site going))
          (λ s fits. let says = c.mark.ensures.answers s site fits in mark_contract reply engine new site c.args.session c.mark.ensures.store s going fits says.0 says.1)
          (λ s fits. mark_performs reply engine new site c.args.session c.mark.ensures.store s) (λ s fits. le-add_right _ _));
    }
