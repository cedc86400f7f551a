use Rattle.std.proofs.Common.{◌≡◌, ap, ◌∙◌, sym, true, List}
use Rattle.std.proofs.lemmas.Bool.{false_from_ne_true}
use Rattle.std.proofs.lemmas.Result.{IfErr-weaker}
use Rattle.std.specs.Prelude.{Result, Ok, Err, IfOk}
use Rattle.clap.specs.Words.{App, FailsBy, HasMatchesOf, fault_of, is_simple, is_simple_and_free, subcommand_of, takes}
use Rattle.clap.specs.Walk.{Text}
use Rattle.clap.specs.declared.error.Error.{Error}
use Rattle.clap.specs.declared.parser.matches.ArgMatches.{ArgMatches}
use Rattle.command_line.specs.Program.{IsReadFrom, program}
use Rattle.command_line.specs.Words.{HasDash, words_of}
use Rattle.command_line.proofs.ClapLaws.{right_taken}
use Rattle.command_line.proofs.request.parse.Goals as goal

read : (words : List Text) (a : App) (o : Result ArgMatches Error) → a ≡ program → (HasDash words → ⊥) → IfOk o (HasMatchesOf a words)
    → (is_simple_and_free a ≡ true → FailsBy (fault_of a words) o) → IfOk o (λ m. IsReadFrom words m)
read words a (Ok m) is undashed found kinds = record {
  plain = false_from_ne_true _ undashed;
  faultless = ap (λ (b : App). fault_of b words) (sym is) ∙ kinds (ap is_simple_and_free is);
  rows = (found (ap is_simple is)).1 ∙ ap (λ (b : App). subcommand_of b words) is;
}
read words a (Err e) is undashed found kinds = tt

pub returns-clause-reads : goal.returns-clause-reads
returns-clause-reads c =
    let parse = c.try_get_matches_from in
    read (words_of c.args.words.now) _ parse.result c.in_ok-command.ensures.0 c.requires parse.ensures.matches parse.ensures.kinds

pub returns-clause-right : goal.returns-clause-right
returns-clause-right c =
    let words = words_of c.args.words.now in
    let parse = c.try_get_matches_from in
    IfErr-weaker parse.result _ _ (λ e h right. h (ap (λ (a : App). takes a words) c.in_ok-command.ensures.0 ∙ right_taken words right)) parse.ensures.passes
