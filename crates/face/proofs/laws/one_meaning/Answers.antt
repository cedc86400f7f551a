use Rattle.face.proofs.laws.one_meaning.Goals as goal

pub returns : goal.returns
returns c = c.one_master_stands.ensures.meaning
