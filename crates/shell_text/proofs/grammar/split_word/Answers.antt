use Rattle.std.proofs.Common.{◌+◌, ◌∷◌, List, ℕ, take, sym, ap, ◌∙◌}
use Rattle.std.proofs.lemmas.List.{take_rest}
use Rattle.shell_text.specs.Reading.{words_of}
use Rattle.shell_text.proofs.Cuts.{words_of-none, words_of-some, if_none}
use Rattle.shell_text.proofs.grammar.split_word.Goals as goal

pub returns-in_err-space-clause-none : goal.returns-in_err-space-clause-none
returns-in_err-space-clause-none c = if_none _ _ (words_of-none c.args.text.now (sym c.first_space.ensures ∙ c.in_err-space.was))

pub returns-clause-words : goal.returns-clause-words
returns-clause-words c =
    words_of-some c.args.text.now c.in_ok-space.space (sym c.first_space.ensures ∙ c.in_ok-space.was)
    ∙ ap (λ (rest : List ℕ). take c.in_ok-space.space c.args.text.now ∷ words_of rest) (sym (take_rest c.args.text.now (c.in_ok-space.space + 1)))
