-- What a restart asks of the page cache.
use Rattle.std.specs.Prelude.{nat_lt, List, [], ◌∷◌, ◌++◌, filter_map, reverse, Option, option_map}
use Rattle.record_model.specs.Touches.{CacheOp, touch, flush, page_of, write_touch}
use Rattle.log_records.specs.Log.{Entry, version_at, number_of}
use Rattle.log_records.specs.Unfinished.{pending}
use Rattle.log_records.specs.Sound.{LogicalImage, from_block}

-- redo touches the page of an Update or a CLR, and changes it exactly where the page's version doesn't know of the
-- record
abbrev pub redo_touch : LogicalImage → Entry → Option CacheOp
redo_touch p e = option_map (λ number. touch (page_of number) (nat_lt (version_at p.pages (page_of number)).lsn e.lsn))
    (number_of e.rec)

-- undo changes the page of an Update
abbrev pub undo_touch : Entry → Option CacheOp
undo_touch e = option_map write_touch (number_of e.rec)

-- redo goes forwards from the redo block, undo backwards over all that is pending; then comes the checkpoint's flush
abbrev pub restart_touches : LogicalImage → List CacheOp
restart_touches p =
    filter_map (redo_touch p) (from_block p.master.redo p.log) ++ filter_map undo_touch (reverse (pending p.log))
    ++ flush ∷ []
