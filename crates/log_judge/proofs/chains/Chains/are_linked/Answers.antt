use Rattle.log_judge.proofs.Names.{◌≡◌, Bool, true, false, true≢false, refl, sym, ◌∙◌, IsTrue, index_set_len}
use Rattle.log_judge.proofs.ChainSteps.{none_broken, one_broken, in_none, one_in}
use Rattle.log_judge.proofs.chains.Chains.are_linked.Goals as goal

pub returns : goal.returns
returns c records is = (
  λ none. none_broken records c.args.self.now (in_none c.args.self.now.broken (c.is_empty.ensures.0 none)) is,
  λ linked. by c.is_empty.result refl (λ some. let one = one_in c.args.self.now.broken some in one_broken records c.args.self.now one.0 one.1 is linked),
)
  where
    by : (b : Bool) → c.is_empty.result ≡ b → ((index_set_len c.args.self.now.broken ≡ 0 → ⊥) → ⊥) → IsTrue c.is_empty.result
    by true is_so some = is_so
    by false never some = absurd (some (λ none. true≢false (sym (c.is_empty.ensures.1 none) ∙ never)))
