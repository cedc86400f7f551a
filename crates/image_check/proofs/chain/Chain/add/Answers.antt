use Rattle.image_check.proofs.Names.{ℕ, ◌-◌, ◌≡◌, ◌∷◌, ◌++◌, [], true, false, refl, sym, ap, ◌∙◌, reverse-append, goes_well, is_update}
use Rattle.std.specs.Prelude.{reverse, drop, take}
use Rattle.image_check.proofs.ChainOnes.{popped_is, kept_update, kept_clr}
use Rattle.image_check.proofs.chain.Chain.add.Goals as goal

pub returns-then-not-updates : goal.returns-then-not-updates
returns-then-not-updates c =
    let other : is_update c.args.rec ≡ false = sym c.updates.ensures ∙ c.if-not-updates.true in
    let popped : reverse c.pop.new.self.items ≡ drop 1 (reverse c.args.self.now.updates.items) = popped_is c.args.self.now.updates.items c.pop.new.self.items (c.pop.ensures.rest ∙ ap (λ (n : ℕ). take (n - 1) c.args.self.now.updates.items) c.args.self.now.updates.ok.0) in
    goes_well (λ t rest k goes. kept_clr t c.args.self.now c.pop.new.self.items rest c.args.lsn c.args.rec other popped k goes _ refl refl (c.in_default.ensures.done rest c.args.lsn k.written))

pub returns : goal.returns
returns c =
    let own : is_update c.args.rec ≡ true = sym c.updates.ensures ∙ c.if-not-updates.false in
    let items : c.push.new.self.items ≡ c.args.self.now.updates.items ++ c.args.rec ∷ [] = c.in-Ok.ensures.items in
    goes_well (λ t rest k goes. kept_update t c.args.self.now c.push.new.self.items rest c.args.lsn c.args.rec own (ap reverse items ∙ reverse-append c.args.self.now.updates.items (c.args.rec ∷ [])) k goes _ refl refl (c.in_default.ensures.done rest c.args.lsn k.written))
