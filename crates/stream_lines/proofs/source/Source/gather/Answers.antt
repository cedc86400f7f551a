use Rattle.stream_lines.proofs.Gathered.{newline_gathered}
use Rattle.stream_lines.proofs.source.Source.gather.Goals as goal

pub returns-in-Some-clause-part : goal.returns-in-Some-clause-part
returns-in-Some-clause-part c =
    newline_gathered c.args.self.now c.args.line.now.items c.gather.new.line.items c.in-Some.newline c.requires.source c.in-Some.ensures
