use Rattle.redo_undo.proofs.Names.{settled, settled, inl, inr, ◌≡◌, ◌∙◌, ◌≤◌, ◌/◌, ℕ, sym, subst, arith, refl, ap, List, false, [], ◌∷◌, unit, Master, AppendsMaster, LeavesFront, master_shape, first_block, LeavesFor, Entry, cache_of, PageStore, Content, never_worn_flash, ends_ok, save_skips, save_calls, hi_on, masters_at_end, begins_of, MayBeMade, blocks_to, Represents, region, IsReady, Finds, hi_of, Ring, Shape, wants_flush, quiet_settled, no_error, err_again, LeavesOnly, State, IsSettled, IsQuiet, Log, Worn}
use Rattle.std.proofs.Common.{Err}
use Rattle.redo_undo.proofs.Saved.{needed_there, save_leaves, is_saved, log_still}
use Rattle.log_store.proofs.NextBlocks.{blocks_beside}
use Rattle.redo_undo.proofs.Calling.{appends_foreign}
use Rattle.redo_undo.proofs.checkpointing.save_master.Given.{Over}
use Rattle.redo_undo.proofs.checkpointing.save_master.Goals.{After-save}
use Rattle.std.specs.Prelude.{Option}
use Rattle.redo_undo.proofs.checkpointing.save_master.Goals as goal

-- the ring that was found, where nothing of its device is loose
ring_ready : (masters : Ring) (site : State) → masters.shape ≡ master_shape → IsQuiet site → Finds masters site → IsReady masters site
ring_ready masters site shape quiet finds = record { settled = subst (λ (s : Shape). IsSettled s.dev site) (sym shape) (quiet_settled Log site quiet); form = finds.form; hi = finds.hi }

within : (kept low next block first : ℕ) → low ≡ kept → (kept ≤ first) × (first ≤ next) → (low ≤ first → first ≤ next → block ≡ first) → block ≡ first
within kept low next block first is there so = so (let a = there.0 in omega (arith, a, is)) there.1

pub returns-in-Err-clause-log_going : goal.returns-in-Err-clause-log_going
returns-in-Err-clause-log_going g c = log_still c.args.log.now (g.S.Site.state c.args.site.now) (g.S.Site.state c.save.new.site) c.save.ensures.preserves c.requires.going

pub returns-clause-log_going : goal.returns-clause-log_going
returns-clause-log_going g c = c.keep.ensures.going (g.S.Site.state c.save.new.site) (log_still c.args.log.now (g.S.Site.state c.args.site.now) (g.S.Site.state c.save.new.site) c.save.ensures.preserves c.requires.going)

-- the master that is saved, and what its unit leaves

module _ (g : Over) (c : After-save g) (pages : PageStore) (newest : Option Master) (records : List Entry) (table : List Content)
    (sizes : c.args.log.now.geometry ≡ pages.flash.geometry)
    (h : Represents c.args.log.now pages (g.S.Site.state c.args.site.now) newest records (settled table c.args.commits)) (empty : c.args.log.now.used ≡ 2)
    (clean : wants_flush (cache_of pages) ≡ false)
    (may : MayBeMade c.args.masters.now (g.S.Site.state c.args.site.now) records c.args.active) where
  abbrev m : Master
  m = record { redo = c.sealed_end-redo.result / 512; kept = c.oldest_block-kept.result; commits = c.args.commits; active = c.args.active }

  redo : m.redo ≡ c.args.log.now.ring.hi
  redo = omega (arith, c.sealed_end-redo.ensures)

  kept : m.kept ≡ first_block m.redo (begins_of m.active)
  kept =
      let there = needed_there c.args.log.now pages
      (g.S.Site.state c.args.site.now) newest records table c.args.commits h sizes
      empty clean m redo refl c.requires.ascend may.unfinished in
      within c.args.log.now.kept c.kept.result m.redo m.kept (first_block m.redo (begins_of m.active)) c.kept.ensures there c.oldest_block-kept.ensures.is

  front : IsQuiet (g.S.Site.state c.args.site.now) → LeavesFront pages.flash.geometry (AppendsMaster (unit m) ∷ []) (g.S.Site.state c.args.site.now)
      (g.S.Site.state c.save.new.site)
  front quiet = c.save.ensures.front pages.flash.geometry h.log_holds.rings.limits h.log_holds.rings.lengths h.log_holds.ready.blocks.honest
      (ring_ready c.args.masters.now (g.S.Site.state c.args.site.now) c.requires.shape quiet may.ring) quiet

  leaves : IsQuiet (g.S.Site.state c.args.site.now) → LeavesOnly (g.S.Site.state c.args.site.now) (g.S.Site.state c.save.new.site)
      (LeavesFor pages.flash.geometry table c.args.commits (g.S.Site.state c.args.site.now).told)
  leaves quiet = save_leaves c.args.log.now pages
      (g.S.Site.state c.args.site.now) newest records table c.args.commits h sizes
      empty clean m redo refl c.requires.ascend may.unfinished kept c.save.ensures.unit may.orderly (g.S.Site.state c.save.new.site) quiet (front quiet)

pub returns-clause-saved : goal.returns-clause-saved
returns-clause-saved g c pages newest records table sizes h empty clean may =
    let s = (goal.at.returns-clause-saved g c).After-save in
    let ready = c.in-Ok.ensures.ready h.log_holds.ready.blocks.honest may.ring in
    is_saved c.args.log.now pages (g.S.Site.state c.args.site.now) newest
    records table c.args.commits h sizes empty clean
    (m g s pages newest records table sizes h empty clean may) (redo g s pages newest records table sizes h empty clean may) refl c.requires.ascend
    may.unfinished (kept g s pages newest records table sizes h empty clean may)
    c.save.ensures.unit may.orderly _ (c.in-Ok.ensures.reaches pages.flash.geometry h.log_holds.rings.limits h.log_holds.rings.lengths
    h.log_holds.ready.blocks.honest may.ring)
    (c.save.ensures.changes h.log_holds.ready.blocks.honest) c.save.ensures.preserves c.keep.new.self c.keep.ensures.kept (c.keep.ensures.finds _)
    (c.keep.ensures.holds _ _ (log_still c.args.log.now (g.S.Site.state c.args.site.now) _ c.save.ensures.preserves c.requires.going)) c.save.new.ring
    (record { form = ready.form; hi = ready.hi })

pub returns-in-Err-clause-keeps : goal.returns-in-Err-clause-keeps
returns-in-Err-clause-keeps g c pages newest records table sizes h empty clean may =
    let site = g.S.Site.state c.args.site.now in
    let log = c.args.log.now in
    let s = (goal.at.returns-in-Err-clause-keeps g c).After-save in
    record {
      ends = record {
        any_moment = leaves g s pages newest records table sizes h empty clean may;
        quiet = λ quiet other. elim c.in-Err.ensures.stops [
          | inl device ↦ absurd (other Log device)
          | inr worn ↦ subst IsQuiet (ap g.S.Site.state (sym (c.save.ensures.unchanged (c.in-Err.ensures.worn.0 (ap Err worn))))) quiet
        ];
        worn_log = λ is.
            let same : c.in-Err.stop ≡ Worn Log = cc in
            let worn = c.in-Err.ensures.worn.0 (ap Err same) in
            inr (masters_at_end c.args.masters.now site _ c.requires.shape may.ring.hi (ap g.S.Site.state (c.save.ensures.unchanged worn)) worn);
        worn = λ is. absurd (never_worn_flash (Err c.in-Err.stop) c.in-Err.ensures.stops is);
        readable = appends_foreign (Err c.in-Err.stop) c.in-Err.ensures.stops;
      };
      numbers = λ quiet. save_skips _ pages.flash.geometry log log (unit (m g s pages newest records table sizes h empty clean may)) site _
          (hi_on log.geometry pages.flash.geometry log site.image sizes h.log_holds.ready.blocks.hi)
          (front g s pages newest records table sizes h empty clean may quiet) tt tt;
      masters = λ none. tt;
    }

pub returns-clause-keeps : goal.returns-clause-keeps
returns-clause-keeps g c pages newest records table sizes h empty clean may =
    let site = g.S.Site.state c.args.site.now in
    let log = c.args.log.now in
    let s = (goal.at.returns-clause-keeps g c).After-save in
    record {
      ends = ends_ok (leaves g s pages newest records table sizes h empty clean may);
      numbers = λ quiet. save_skips _ pages.flash.geometry log c.keep.new.self (unit (m g s pages newest records table sizes h empty clean may)) site
          (g.S.Site.state c.save.new.site)
          (hi_on log.geometry pages.flash.geometry log site.image sizes h.log_holds.ready.blocks.hi)
          (front g s pages newest records table sizes h empty clean may quiet)
          (ap blocks_to c.keep.ensures.kept)
          (save_calls pages.flash.geometry (unit (m g s pages newest records table sizes h empty clean may)) site (g.S.Site.state c.save.new.site) quiet (c.save.ensures.changes h.log_holds.ready.blocks.honest)
          (c.in-Ok.ensures.reaches pages.flash.geometry h.log_holds.rings.limits h.log_holds.rings.lengths h.log_holds.ready.blocks.honest may.ring) (c.in-Ok.ensures.device_calls h.log_holds.ready.blocks.honest));
      masters = λ none. absurd (omega (arith, none));
    }

pub returns-in-Err-clause-worn : goal.returns-in-Err-clause-worn
returns-in-Err-clause-worn g c honest is says =
    let same : c.in-Err.stop ≡ Worn Log = cc in
    let full = c.in-Err.ensures.worn.0 (ap Err same) in
    ap (λ (s : State). hi_of master_shape s.image.log) (ap g.S.Site.state (c.save.ensures.unchanged full)) ∙ sym is ∙ full

pub returns-clause-worn : goal.returns-clause-worn
returns-clause-worn g c honest is says = absurd (no_error says)

pub returns-clause-next : goal.returns-clause-next
returns-clause-next g c honest block master =
    let old = g.S.Site.state c.args.site.now in
    let new = g.S.Site.state c.save.new.site in
    let log = c.args.log.now in (
      c.keep.ensures.is_next new (block ∙ sym (blocks_beside log.geometry old new c.requires.going.limits c.requires.going.lengths c.save.ensures.preserves (c.in-Ok.ensures.beside honest))),
      subst (λ (s : Shape). c.save.new.ring.hi ≡ hi_of s (region s new)) c.save.ensures.shape
          (c.in-Ok.ensures.fits honest (subst (λ (s : Shape). c.args.masters.now.hi ≡ hi_of s (region s old)) (sym c.requires.shape) master)),
    )

-- The unit itself, on every site.

pub returns-clause-unit : goal.returns-clause-unit
returns-clause-unit g c = ap (λ (r : Ring). r.hi) c.in-Ok.ensures.ok

pub returns-in-Err-clause-at_end : goal.returns-in-Err-clause-at_end
returns-in-Err-clause-at_end g c = λ says. c.in-Err.ensures.worn.0 (err_again c.in-Err.stop (Worn Log) says)

pub returns-clause-at_end : goal.returns-clause-at_end
returns-clause-at_end g c = λ says. absurd (no_error says)
