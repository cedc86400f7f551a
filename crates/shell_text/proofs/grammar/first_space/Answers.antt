use Rattle.shell_text.proofs.Cuts.{place_found}
use Rattle.shell_text.proofs.grammar.first_space.Goals as goal

pub returns : goal.returns
returns c = place_found c.args.text.now c.memchr.result c.memchr.ensures
