-- The database of a site of which only counts, told and heard octets change.
use Rattle.face.proofs.Names.{arith, ◌≡◌, ℕ, List, Option, sym, subst, Master, Invariant, sizes_of, Matches, Engine, StandsFor, log_shape, kept_by, logical_image_under, Entry, LogStore, PageStore, State, Content, RepresentsLog, RepresentsIn, hi_of, IsRing, stays_honest, Preserves, Site, Image, content_of, Geometry}
use Rattle.sealed_ring.specs.declared.ring.Ring.{Ring}
use Rattle.sealed_ring.specs.Ready.{Finds}
use Rattle.sealed_ring.proofs.Stays.{usable_later}
use Rattle.page_store.specs.Ahead.{IsAhead}
use Rattle.image_meaning.specs.Beside.{AreRingsSoundUnder}
use Rattle.redo_laws.proofs.CallsInSequence.{going_still, stands_there}
use Rattle.redo_laws.specs.Running.{History, settled, RunsOn}
use Rattle.log_store.specs.Representation as log_store
use Rattle.page_store.specs.Representation as page_store

-- it goes on after calls that keep the lengths
pub goes_on : (engine : Engine) (a b : Site) → Invariant engine a → Preserves a b → Invariant engine b
goes_on engine a b go goes = grind (arith, going_still, usable_later)

module _ (a b : Site) (goes : Preserves a b) (image : b.image ≡ a.image) where
  -- what is said of the image alone
  same : (P : Image → Type 0) → P a.image → P b.image
  same P p = subst P (sym image) p

  -- the pages fit it
  pages_fit : (pages : PageStore) → page_store.Matches pages a → page_store.Matches pages b
  pages_fit pages f = grind (arith, stays_honest, same)

  -- log and pages hold together
  log_holds : (g : Geometry) (log : LogStore) (pages : PageStore) (newest : Option Master) (records : List Entry) (history : History) → RepresentsLog g log pages a newest records history → RepresentsLog g log pages b newest records history
  log_holds g log pages newest records history h = record {
    kept = h.kept;
    blocks = h.blocks;
    tail = h.tail;
    ready = record {
      pages = pages_fit pages h.ready.pages;
      blocks = record {
        honest = stays_honest a b goes h.ready.blocks.honest;
        form = same (λ x. IsRing (log_shape log.geometry) x.log) h.ready.blocks.form;
        hi = same (λ x. log.ring.hi ≡ hi_of (log_shape log.geometry) x.log) h.ready.blocks.hi;
      };
      records = same (λ x. log_store.Represents log x (record { first = kept_by newest; blocks = h.blocks; tail = h.tail })) h.ready.records;
    };
    rings = same (AreRingsSoundUnder newest g) h.rings;
    runs_on = same (λ x. RunsOn (logical_image_under newest g x h.blocks) h.tail records history) h.runs_on;
    ahead = same (IsAhead log pages) h.ahead;
    room = h.room;
  }

  hold : (g : Geometry) (log : LogStore) (pages : PageStore) (newest : Option Master) (records : List Entry) (history : History) → RepresentsIn g log pages a newest records history → RepresentsIn g log pages b newest records history
  hold g log pages newest records history h = grind (arith, log_holds, same)

  -- a ring is the one that stands there
  finds : (ring : Ring) → Finds ring a → Finds ring b
  finds ring f = record { form = same (λ x. IsRing ring.shape (content_of ring.shape.dev x)) f.form; hi = same (λ x. ring.hi ≡ hi_of ring.shape (content_of ring.shape.dev x)) f.hi }

-- it stands for the same state
pub still_fits : (engine : Engine) (a b : Site) (s : State) → Matches engine a s → Preserves a b → b.image ≡ a.image → Matches engine b s
still_fits engine a b s fits goes image = record {
  honest = stays_honest a b goes fits.honest;
  newest = fits.newest;
  records = fits.records;
  holds = record {
    both = hold a b goes image (sizes_of engine.store) engine.store.log engine.store.pages fits.newest fits.records (settled s.table s.commits) fits.holds.both;
    orderly = fits.holds.orderly;
    masters = finds a b goes image engine.store.masters fits.holds.masters;
  };
  counts = fits.counts;
  sessions = fits.sessions;
  locks_are = fits.locks_are;
  footprints_are = fits.footprints_are;
}

-- the devices stand for the table and the count of this state
pub fits_stands : (engine : Engine) (site : Site) (s : State) → engine.store.log.geometry ≡ sizes_of engine.store → Matches engine site s → StandsFor (sizes_of engine.store) site.image s
fits_stands engine site s sizes fits = record { newest = fits.newest; stands = stands_there engine.store.log engine.store.pages site fits.newest fits.records s.table s.commits sizes fits.holds.both }
