use Rattle.log_judge.proofs.Names.{ℕ, ◌-◌, ◌≡◌, ◌∷◌, [], Bool, true, false, refl, sym, ap, ◌∙◌, reverse-append, none-some, same_Some, reverse, kept_by, pending_of, Pending, is_update}
use Rattle.std.specs.Prelude.{drop, take}
use Rattle.log_judge.proofs.ChainOnes.{popped_is, kept_update, kept_clr}
use Rattle.log_judge.proofs.Outcomes.{goes_well}
use Rattle.log_judge.proofs.chain.Chain.add.Goals as goal

pub returns-in_default : goal.returns-in_default
returns-in_default c =
    let popped : reverse c.pop.new.self.items ≡ drop 1 (reverse c.args.self.now.updates.items) = popped_is c.args.self.now.updates.items c.pop.new.self.items (c.pop.ensures.rest ∙ ap (λ (n : ℕ). take (n - 1) c.args.self.now.updates.items) c.args.self.now.updates.ok.0) in
    let other : is_update c.args.rec.now ≡ false = by (is_update c.args.rec.now) refl in
    goes_well (λ t rest k goes. kept_clr t (kept_by c.args.self.now) c.pop.new.self.items rest c.args.lsn c.args.rec.now other popped k goes _ refl refl)
  where
    by : (b : Bool) → is_update c.args.rec.now ≡ b → is_update c.args.rec.now ≡ false
    by true is = absurd (none-some (pending_of c.args.rec.now) (sym c.in_default.is ∙ c.of.ensures.some is))
    by false is = is

pub returns : goal.returns
returns c =
    let own : is_update c.args.rec.now ≡ true = by (is_update c.args.rec.now) refl in
    let what : c.in-Some.update ≡ pending_of c.args.rec.now = same_Some _ _ (sym c.in-Some.is ∙ c.of.ensures.some own) in
    goes_well (λ t rest k goes. kept_update t (kept_by c.args.self.now) c.push.new.self.items rest c.args.lsn c.args.rec.now own
    (ap reverse c.in-Ok.ensures.items ∙ reverse-append c.args.self.now.updates.items (c.in-Some.update ∷ []) ∙ ap (λ (w : Pending). w ∷ reverse c.args.self.now.updates.items) what) k goes _ refl refl)
  where
    by : (b : Bool) → is_update c.args.rec.now ≡ b → is_update c.args.rec.now ≡ true
    by true is = is
    by false is = absurd (none-some c.in-Some.update (sym (c.of.ensures.none is) ∙ c.in-Some.is))
