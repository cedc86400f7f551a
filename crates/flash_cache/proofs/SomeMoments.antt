-- Moments within calls, one after the other.
use Rattle.std.proofs.lemmas.Grind.{common_steps}
use Rattle.flash_cache.proofs.Names.{◌≡◌, ◌<◌, List, [], ◌∷◌, ◌++◌, length, arith, refl, sym, ap, subst, ◌∙◌, append_assoc, length-append, drop_at, AllByRecursion, Contains, SomeMoment, EachMoment, since, State, Moment}

-- where a call was made each moment has Q, and so some one
pub some_of : (old new : State) (Q : Moment → Type 0) → EachMoment old new Q → length old.past < length new.past → SomeMoment old new Q
some_of old new Q each more = by (since old new) refl
  where
    by : (xs : List Moment) → since old new ≡ xs → SomeMoment old new Q
    by [] is =
        let grown = ap length (each.grown ∙ ap (λ (l : List Moment). old.past ++ l) is) in
        let none = length-append old.past [] in
        absurd (omega (arith, grown, none, more))
    by (m ∷ rest) is = record {
      moment = m;
      within = subst (λ (l : List Moment). Contains l m) (sym is) (0, omega arith, refl);
      has = (subst (AllByRecursion Q) is each.each).0;
    }

-- calls and those behind them
module _ (old mid new : State) (first : mid.past ≡ old.past ++ since old mid) (second : new.past ≡ mid.past ++ since mid new) where
  since_both : since old new ≡ since old mid ++ since mid new
  since_both = grind (arith, common_steps, append_assoc, drop_at)

  pub some_first : (Q : Moment → Type 0) → SomeMoment old mid Q → SomeMoment old new Q
  some_first Q some = grind (arith, common_steps, since_both)

  pub some_behind : (Q : Moment → Type 0) → SomeMoment mid new Q → SomeMoment old new Q
  some_behind Q some = grind (arith, common_steps, since_both)

-- calls that only read before it
pub some_after_reads : (old mid new : State) (Q : Moment → Type 0) → mid.past ≡ old.past → SomeMoment mid new Q → SomeMoment old new Q
some_after_reads old mid new Q same some = grind (arith, common_steps)

pub some_weaker : (old new : State) (Q R : Moment → Type 0) → ((m : Moment) → Q m → R m) → SomeMoment old new Q → SomeMoment old new R
some_weaker old new Q R turns some = record { moment = some.moment; within = some.within; has = turns some.moment some.has }
