-- What the versions on the devices show, beside the model's state.
use Rattle.std.specs.Prelude.{◌≡◌, ℕ, ◌*◌, ◌/◌, ◌<◌, true, false, List}
use Rattle.site.specs.State.{State as Site, Image}
use Rattle.site.specs.declared.geometry.Geometry.{Geometry}
use Rattle.record_model.specs.State.{Content, State, content_at, has_written, seen}
use Rattle.log_records.specs.Log.{slot_at}
use Rattle.second_chance.specs.Machine.{PoolPage, is_changed}
use Rattle.image_meaning.specs.Meaning.{versions_on}
use Rattle.page_store.specs.Caching.{cache_of}
use Rattle.engine.specs.declared.engine.Engine.{Engine}
use Rattle.engine.specs.Representation.{Matches}
use Rattle.engine.specs.Invariant.{sizes_of}

-- A slot has what is seen of a record: by the session that has written it, or in the table where none has.
pub record IsAsSeen (s : State) (number : ℕ) (slot : Content) : Type 0 where
  pub by_writer : (session : ℕ) → has_written s session number ≡ true → slot ≡ seen s session number
  pub in_table : ((session : ℕ) → has_written s session number ≡ false) → slot ≡ content_at s.table number

-- of each record whose page a pool doesn't hold as changed, the slot of that page's version is as seen
abbrev pub VersionsAreSeen : Geometry → List PoolPage → Image → State → Type 0
VersionsAreSeen g pool image s = (number : ℕ) → number < 32 * g.pages → is_changed pool (number / 32) ≡ false →
    IsAsSeen s number (slot_at (versions_on g image) number)

-- so it is wherever the database stands for a state
abbrev pub WhereItFits : Type 0
WhereItFits = (engine : Engine) (site : Site) (s : State) → Matches engine site s →
    VersionsAreSeen (sizes_of engine.store) (cache_of engine.store.pages).pool site.image s
