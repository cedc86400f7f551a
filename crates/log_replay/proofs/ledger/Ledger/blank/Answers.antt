use Rattle.log_replay.proofs.Names.{◌*◌, refl, sym, length-replicate, None}
use Rattle.log_replay.proofs.ledger.Ledger.blank.Goals as goal

pub returns : goal.returns
returns c = record {
  size = length-replicate (32 * c.args.pages) None;
  shown = c.in_ok-table.ensures;
  commits = refl;
  nets = sym c.new.ensures.items;
  opened = c.none.ensures 2;
}
