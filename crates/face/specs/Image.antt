-- What an image stands for is one thing.
use Rattle.std.specs.Prelude.{◌≡◌, ℕ, ◌-◌, ◌*◌, List, replicate, None}
use Rattle.site.specs.declared.geometry.Geometry.{Geometry}
use Rattle.site.specs.Geometry.{HasLimits, blank_image}
use Rattle.site.specs.State.{Image}
use Rattle.record_model.specs.State.{Content, State, opened}
use Rattle.engine.specs.Image.{Stands, Opens}

-- an image stands for one table and one number of commits only
abbrev pub OneMeaning : Type 0
OneMeaning = (g : Geometry) (image : Image) (table other : List Content) (commits many : ℕ) →
    Stands g image table commits → Stands g image other many → (table ≡ other) × (commits ≡ many)

-- a run over it opens with one state only
abbrev pub OneOpening : Type 0
OneOpening = (g : Geometry) (image : Image) (s t : State) → Opens g image s → Opens g image t → s ≡ t

-- an image that stands for a table has an opening with this table
abbrev pub OpensWhereItStands : Type 0
OpensWhereItStands = (g : Geometry) (image : Image) (table : List Content) (commits : ℕ) →
    Stands g image table commits → (s : State) × Opens g image s × (s.table ≡ table) × (s.commits ≡ commits)

-- the table without values
abbrev pub blank_table : Geometry → List Content
blank_table g = replicate (32 * g.pages) None

-- a run over blank devices opens with the table without values, and no commit
abbrev pub BlankLaw : Type 0
BlankLaw = (g : Geometry) → HasLimits g → Stands g (blank_image g) (blank_table g) 0
    × Opens g (blank_image g) (opened (blank_table g) 0 0 (g.blocks - 1))
