-- What an image stands for.
use Rattle.face.proofs.Names.{arith, ◌-◌, refl, sym, ◌∙◌, Stands, Opens, BlankLaw, OneMeaning, OneOpening, OpensWhereItStands, State, opened, Image, Geometry}
use Rattle.image_meaning.specs.Laws.{BlankStands}

-- where a run opens the image stands for its table
pub stands_by : (g : Geometry) (image : Image) (s : State) → Opens g image s → Stands g image s.table s.commits
stands_by g image s opens = record { newest = opens.newest; stands = record { blocks = opens.blocks; sound = opens.sound; means = opens.means } }

pub one_opening : OneMeaning → OneOpening
one_opening meaning g image s t opens too =
    let meant = meaning g image s.table t.table s.commits t.commits (stands_by g image s opens) (stands_by g image t too) in
    opens.state ∙ (λ i. opened (meant.0 i) (meant.1 i) 0 (g.blocks - 1)) ∙ sym too.state

pub opens_where_it_stands : OpensWhereItStands
opens_where_it_stands g image table commits stands = (
  opened table commits 0 (g.blocks - 1),
  record { newest = stands.newest; blocks = stands.stands.blocks; sound = stands.stands.sound; means = stands.stands.means; state = refl },
  refl,
  refl,
)

-- blank devices have no master
pub blank_stands : BlankStands → BlankLaw
blank_stands blank g limits = grind arith
