-- How many records a database has.
use Rattle.database.proofs.Names.{◌≡◌, length, Held, StandsFor, State, Geometry}
use Rattle.engine.proofs.Meanings.{same_size}
use Rattle.database.specs.Held.{records_of}

-- so many as the table of its state
pub table_size : (g : Geometry) (s : State) (db : Held) → StandsFor g s db → length s.table ≡ records_of db
table_size g s db stands = same_size db.engine db.site s stands.fits
