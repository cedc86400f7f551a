-- A page enters the pool.
use Rattle.page_store.proofs.Names.{◌≡◌, ℕ, ◌<◌, ◌==◌, Bool, true, false, cond, List, ◌∷◌, length, Some, None, arith, refl, sym, ap, subst, ◌∙◌, eqb-true, Result, Ok, Err, OnOk, OnErr, absent, Pool, frame_of, Knows, Frame, version_on, IsPage, AreTold, Invariant, Matches, PageStore, has_frame, State}
use Rattle.page_store.proofs.ToldPages.{told_put}

pub put_fits : (store : PageStore) (pool : Pool) (frame : Frame) (site : State) → pool.frames ≡ frame ∷ store.pool.frames → frame.content ≡ version_on store.flash.geometry site.image frame.page
    → Matches store site → Matches (record store { pool = pool }) site
put_fits store pool frame site is version fits = record {
  flash = fits.flash;
  groups = fits.groups;
  holds = fits.holds;
  clean = fits.clean;
  sound = fits.sound;
  unchanged = λ page other found unchanged. by page other (frame.page == page) refl (sym (ap (λ (l : List Frame). frame_of l page) is) ∙ found) unchanged;
}
  where
    by : (page : ℕ) (other : Frame) (b : Bool) → (frame.page == page) ≡ b → cond b (Some frame) (frame_of store.pool.frames page) ≡ Some other → other.changed ≡ false
        → other.content ≡ version_on store.flash.geometry site.image page
    by page other true same found unchanged =
        let is : frame ≡ other = cc in
        sym (ap (λ (f : Frame). f.content) is) ∙ version ∙ ap (version_on store.flash.geometry site.image) (eqb-true _ _ same)
    by page other false same found unchanged = fits.unchanged page other found unchanged

entered : (store : PageStore) (pool : Pool) (frame : Frame) (framed : Bool) (site : State) → pool ≡ record store.pool { frames = frame ∷ store.pool.frames; framed = pool.framed } → Knows frame.page framed store.pool pool
    → framed ≡ has_frame store.flash.directory frame.page → frame_of store.pool.frames frame.page ≡ None
    → length store.pool.frames < store.pool.size → IsPage store.flash.geometry.pages frame → Invariant store site → Invariant (record store { pool = pool }) site
entered store pool frame framed site is knows right none room page going =
    let told = told_put store pool frame framed (ap (λ (p : Pool). p.frames) is) knows right going.own.told in
    subst (λ (p : Pool). Invariant (record store { pool = p }) site) (sym is) (record {
      flash = going.flash;
      own = record {
        least = going.own.least;
        most = going.own.most;
        pool = record { few = omega (arith, room); distinct = (absent store.pool.frames frame.page none, going.own.pool.distinct) };
        pages = (page, going.own.pages);
        told = subst (λ (p : Pool). AreTold (record store { pool = p })) is told;
      };
    })

pub put_going : {A E : Type 0} (r : Result A E) (store : PageStore) (pool : Pool) (frame : Frame) (framed : Bool) (site : State) → OnOk r (pool ≡ record store.pool { frames = frame ∷ store.pool.frames; framed = pool.framed })
    → OnOk r (Knows frame.page framed store.pool pool) → OnErr r (pool ≡ store.pool) → framed ≡ has_frame store.flash.directory frame.page
    → frame_of store.pool.frames frame.page ≡ None → length store.pool.frames < store.pool.size → IsPage store.flash.geometry.pages frame → Invariant store site → Invariant (record store { pool = pool }) site
put_going (Ok x) store pool frame framed site put knows kept right none room page going = entered store pool frame framed site put knows right none room page going
put_going (Err e) store pool frame framed site put knows kept right none room page going = subst (λ (p : Pool). Invariant (record store { pool = p }) site) (sym kept) (record {
  flash = going.flash;
  own = record { least = going.own.least; most = going.own.most; pool = going.own.pool; pages = going.own.pages; told = going.own.told };
})
