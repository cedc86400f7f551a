-- The numbers of the rings while records of an opened log are redone.
use Rattle.redo_undo.proofs.Names.{◌≡◌, ◌+◌, Bool, false, List, [], length, refl, sym, subst, arith, Result, OnOk, master_shape, kept_by, Entry, LogList, LogStore, CallsForUnits, LeavesPages, current, PageStore, masters_same, skips_on, sealed_hi, blocks_to, HasNumbers, SkipsNone, Opening, IsRedoing, hi_of, leaves_weaker, ok_as, LeavesOnly, State, Geometry, Stop}
use Rattle.redo_undo.proofs.Redoings.{leaves_so, blocks_left}

-- While records are redone the log ends with the blocks that it was opened with.
module _ (o : Opening) (log : LogStore) (pages : PageStore) (site : State) (front : List Entry) (h : IsRedoing o log pages site front) where
  opened_end : blocks_to log ≡ kept_by o.newest + length o.blocks
  opened_end = let end = sealed_hi log (blocks_to log) h.ready.records.tail.end refl in let hi = h.ready.blocks.hi in let next = h.ready.records.blocks.next in omega (arith, end, hi, next)

-- A touch while records are redone makes none, wherever it stops: no tail is sealed for it.
module _ (o : Opening) (log : LogStore) (pages : PageStore) (site : State) (front : List Entry) (h : IsRedoing o log pages site front) (sealing : Bool) (never : sealing ≡ false) (new : State) where
  pub skips_touch : {T : Type 0} (r : Result T Stop) (log' : LogStore) (pages' : PageStore) → LeavesOnly site new (LeavesPages pages.flash.geometry (current pages site.image) sealing (record { first = kept_by o.newest; blocks = o.blocks; tail = [] }) site) →
      OnOk r (IsRedoing o log' pages' new front) → OnOk r (CallsForUnits pages.flash.geometry site new) → SkipsNone r pages.flash.geometry log log' site new 0 0
  skips_touch r log' pages' leaves redone calls =
      let list : LogList = record { first = kept_by o.newest; blocks = o.blocks; tail = [] } in
      let all = leaves_so o log pages site front h sealing never new leaves in
      let first = opened_end o log pages site front h in
      skips_on r o.sizes pages.flash.geometry log log' site new 0 0 (sym h.geometry) (record {
        log = ok_as r _ _ (λ after. let last = opened_end o log' pages' new front after in omega (arith, first, last)) redone;
        any_moment = leaves_weaker site new (LeavesPages o.sizes (current pages site.image) false list site) (λ s. HasNumbers o.sizes (blocks_to log + 0) (hi_of master_shape site.image.log + 0) s.image)
            (λ s now. record {
              blocks = omega (arith, first, (blocks_left o log pages site front h s now).next);
              masters = omega (arith, masters_same site.image s.image now.masters);
            }) all;
        device_calls = subst (λ (g : Geometry). OnOk r (CallsForUnits g site new)) h.geometry calls;
      })
