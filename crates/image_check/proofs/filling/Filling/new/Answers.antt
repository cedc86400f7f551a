use Rattle.image_check.proofs.filling.Filling.new.Goals as goal

pub returns : goal.returns
returns c log pages = record { lengths = c.new.ensures pages; chains = c.none.ensures log }
