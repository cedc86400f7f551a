-- Pages leave the pool with an eviction.
use Rattle.page_store.proofs.Names.{◌≡◌, ◌≢◌, ◌⊎◌, inl, inr, ℕ, zero, suc, ◌-◌, ◌<◌, ◌≤◌, ◌==◌, Bool, true, false, not, ◌||◌, cond, List, [], ◌∷◌, ◌++◌, length, get_or, map, reverse, is_some, Option, Some, None, true≢false, arith, refl, sym, ap, subst, ◌∙◌, length-append, cases_eq, eqb-false, eq-eqb, ne_eqb, or_parts, or_right, map-append, reverse-reverse, length-map, none-some, AllByRecursion, AllPairs, IsSome, absent, Pool, AreDistinct, Knows, frame_of, is_framed, IsLast, WithoutTakesOne, Frame, AreCleanGiven, chance_marks, known_given, known_pushed, pages_pushed, pushed_queue, version_on, LogList, LogStore, evicted, AreLogged, pool_page, cache_of, rules_for as rules, MayWork, given_changes, eviction_changes, AreReady, AreGiven, Gives, AreChanged, KeepsCurrent, LeavesOut, mark_for, without_all, pulled, evicted_of, evicted_frames, IsPage, IsStore, IsTold, AreTold, Invariant, Matches, content_by, current, Has, PageStore, Rules, PoolPage, Cache, chance_frame, leaving, pool_marks, pool_frame, must_be_pushed, evict_first, evict_coldest, after_eviction, push_evicted, without, is_pulled, Placed, group_size, chances_of, pulled_at_eviction, Queue, has_frame, known_of, Known, State, Image, IsSound, all_both, all_reverse, all_map, all_weaker, all_at, IsLogged, forces, end_forced}
use Rattle.flash_cache.specs.Laws.{UnframedIsDisk}
use Rattle.page_store.proofs.Clearing.{is_among}
use Rattle.page_store.proofs.Saving.{distinct_reverse, found_all, pages_apart}
use Rattle.page_store.proofs.Removing.{none_either, absent_part, few_part, page_of, frames_without, all_left, pulled_few, all_pulled, pulled_move, pulled_apart, pool_left}
use Rattle.page_store.proofs.Choosing.{room_some}
use Rattle.page_store.proofs.Movable.{pulled_of}
use Rattle.std.specs.List.{All}
use Rattle.page_store.proofs.Evictions.{all_front, distinct_front, reverse_last, not_forced}
use Rattle.page_store.proofs.PushLaws.{or_listed}
use Rattle.page_store.proofs.Touching.{all_found}
use Rattle.page_store.specs.declared.taking.EvictedPages.{EvictedPages}
use Rattle.page_store.proofs.Changing.{given_are, eviction_is}
use Rattle.page_store.proofs.Flushes.{marks_turned, not_among}
use Rattle.page_store.proofs.Calling.{AreItsOwn}

-- The machine.

evicts_last : (r : Rules) (frames : List Frame) (last : Frame) (queue : Queue) → evict_coldest r (record { pool = map pool_page (frames ++ last ∷ []); queue = queue })
    ≡ after_eviction r (pool_page last) (record { pool = map pool_page frames; queue = queue })
evicts_last r frames last queue =
    let pool : List PoolPage = map pool_page frames in
    let turned : reverse (map pool_page (frames ++ last ∷ [])) ≡ pool_page last ∷ reverse pool = ap reverse (map-append pool_page frames (last ∷ [])) ∙ reverse_last pool (pool_page last) in
    let cache : Cache = record { pool = map pool_page (frames ++ last ∷ []); queue = queue } in
    ap (λ (l : List PoolPage). evict_first r l cache) turned
    ∙ ap (λ (l : List PoolPage). after_eviction r (pool_page last) (record { pool = l; queue = queue })) (reverse-reverse pool)

-- the machine behind the push of the coldest page and those that are pulled with it
pub evicts_pushed : (store : PageStore) (rest : Pool) (last : Frame) (queue : Queue) → store.pool.frames ≡ rest.frames ++ last ∷ [] → must_be_pushed store.flash.directory (pool_page last) ≡ true
    → queue ≡ pushed_queue store.flash (map chance_frame (chance_marks store.flash) ++ map (λ (f : Frame). known_of f.page f.changed) (last ∷ pulled (record store { pool = rest })))
    → ◌≡◌ {A = Cache} (record { pool = map pool_page (without_all (map (λ (f : Frame). f.page) (pulled (record store { pool = rest }))) rest.frames); queue = queue }) (evict_coldest (rules store) (cache_of store))
evicts_pushed store rest last queue is must after =
    let r : Rules = rules store in
    let before : Queue = store.flash.directory in
    let smaller : PageStore = record store { pool = rest } in
    let small : Cache = record { pool = map pool_page rest.frames; queue = before } in
    let gone : List Frame = pulled smaller in
    let marks : pulled_at_eviction r.pulls r.chances (leaving r before) (pool_marks small) ≡ map (mark_for before) gone =
    ap (pulled_at_eviction r.pulls r.chances (leaving r before)) (marks_turned before rest.frames) ∙ pulled_of r.pulls (group_size - 1 - length (chances_of r.chances (leaving r before))) before (reverse rest.frames) in
    (λ i. let c : Cache = record { pool = pool_left before gone rest.frames i; queue = after i } in c)
    ∙ (λ i. let c : Cache = record { pool = without (is_pulled (sym marks i)) (map pool_page rest.frames); queue = pushed_queue store.flash (map chance_frame (chance_marks store.flash) ++ known_marks before (last ∷ gone) i) } in c)
    ∙ (λ i. let c : Cache = record {
      pool = without (is_pulled (pulled_at_eviction r.pulls r.chances (leaving r before) (pool_marks small))) (map pool_page rest.frames);
      queue = pushed_queue store.flash (map chance_frame (chance_marks store.flash) ++ pool_frame (mark_for before last) ∷ map pool_frame (sym marks i));
    } in c)
    ∙ sym (ap (λ b. cond b (push_evicted r (pool_page last) small) small) must)
    ∙ sym (evicts_last r rest.frames last before)
    ∙ sym (ap (λ (l : List Frame). evict_coldest r (record { pool = map pool_page l; queue = before })) is)
  where
    known_marks : (before : Queue) (xs : List Frame) → map (λ (f : Frame). known_of f.page f.changed) xs ≡ map pool_frame (map (mark_for before) xs)
    known_marks before [] = refl
    known_marks before (x ∷ xs) = ap (λ (l : List Known). known_of x.page x.changed ∷ l) (known_marks before xs)

-- Some frames leave the pool: none of their pages is there any more, and all others are as they were.
pub record IsWithout (old new gone : List Frame) : Type 0 where
  pub absent : AllByRecursion (λ (f : Frame). frame_of new f.page ≡ None) gone
  pub others : (n : ℕ) → is_among (map page_of gone) n ≡ false → frame_of new n ≡ frame_of old n

all_gone : (P : ℕ → Type 0) (xs : List Frame) → ((n : ℕ) → is_among (map page_of xs) n ≡ true → P n) → AllByRecursion (λ (f : Frame). P f.page) xs
all_gone P [] all = tt
all_gone P (x ∷ xs) all = (
  all x.page (ap (λ (b : Bool). b || is_among (map page_of xs) x.page) (eq-eqb x.page x.page refl)),
  all_gone P xs (λ n is. all n (or_right (x.page == n) (is_among (map page_of xs) n) is)),
)

-- The store.

-- The coldest page has left the pool: it stood last there.
pub record HasLeft (store : PageStore) (rest : Pool) (last : Frame) : Type 0 where
  pub is : store.pool.frames ≡ rest.frames ++ last ∷ []
  pub one : IsLast rest.frames last
  pub size : rest.size ≡ store.pool.size
  pub knows : Knows last.page false store.pool rest

module _ (store : PageStore) (rest : Pool) (last : Frame) (h : HasLeft store rest last) where
  abbrev smaller : PageStore
  smaller = record store { pool = rest }

  own : frame_of store.pool.frames last.page ≡ Some last
  own = ap (λ (frames : List Frame). frame_of frames last.page) h.is ∙ h.one.own

  others : (n : ℕ) → n ≢ last.page → frame_of rest.frames n ≡ frame_of store.pool.frames n
  others n ne = h.one.others n ne ∙ ap (λ (frames : List Frame). frame_of frames n) (sym h.is)

  -- the pages that are pushed, where the coldest one is
  abbrev gone : List Frame
  gone = last ∷ pulled smaller

  evicted_is : evicted_frames store ≡ cond (must_be_pushed store.flash.directory (pool_page last)) gone []
  evicted_is = ap (evicted_of (rules store) store.flash.directory) (ap reverse h.is ∙ reverse_last rest.frames last)

  pub none_evicted : must_be_pushed store.flash.directory (pool_page last) ≡ false → evicted_frames store ≡ []
  none_evicted must = evicted_is ∙ ap (λ b. cond b gone []) must

  pub some_evicted : must_be_pushed store.flash.directory (pool_page last) ≡ true → evicted_frames store ≡ gone
  some_evicted must = evicted_is ∙ ap (λ b. cond b gone []) must

  pub none_forced : (log : LogStore) → must_be_pushed store.flash.directory (pool_page last) ≡ false → forces log (evicted store) ≡ false
  none_forced log must = ap (λ (l : List Frame). forces log (map (λ (f : Frame). f.content) l)) (none_evicted must) ∙ not_forced log

  rest_told : AreTold store → (n : ℕ) → IsSome (frame_of rest.frames n) → (n ≡ last.page) ⊎ (n ≢ last.page) → IsTold smaller n
  rest_told told n some (inl same) = absurd (true≢false (sym some ∙ ap is_some (ap (frame_of rest.frames) same ∙ h.one.gone)))
  rest_told told n some (inr other) =
      h.knows n ∙ ap (λ b. cond b false (is_framed store.pool n)) (ne_eqb n last.page other)
      ∙ told n (subst IsSome (others n other) some)

  -- whether it is to be pushed, by what the pool was told
  pub must_be : AreTold store → (framed : Bool) → framed ≡ is_framed store.pool last.page → must_be_pushed store.flash.directory (pool_page last) ≡ (last.changed || not framed)
  must_be told framed is = sym (ap (λ b. last.changed || not b) (is ∙ told last.page (subst IsSome (sym own) refl)))

  pub rest_going : (site : State) → Invariant store site → Invariant smaller site
  rest_going site going = record {
    flash = going.flash;
    own = record {
      least = subst (λ n. 1 ≤ n) (sym h.size) going.own.least;
      most = subst (λ n. n ≤ 4096) (sym h.size) going.own.most;
      pool = record {
        few = let few = going.own.pool.few in let longer = ap length h.is in omega (arith, few, longer, h.size, length-append rest.frames (last ∷ []));
        distinct = distinct_front rest.frames last (subst AreDistinct h.is going.own.pool.distinct);
      };
      pages = all_front (IsPage store.flash.geometry.pages) rest.frames last (subst (AllByRecursion (IsPage store.flash.geometry.pages)) h.is going.own.pages);
      told = λ n some. rest_told going.own.told n some (cases_eq n last.page);
    };
  }

  rest_unchanged : (site : State) (n : ℕ) (frame : Frame) → Matches store site → frame_of rest.frames n ≡ Some frame → frame.changed ≡ false → (n ≡ last.page) ⊎ (n ≢ last.page)
      → frame.content ≡ version_on store.flash.geometry site.image n
  rest_unchanged site n frame fits found unchanged (inl same) = absurd (none-some frame (sym h.one.gone ∙ ap (frame_of rest.frames) (sym same) ∙ found))
  rest_unchanged site n frame fits found unchanged (inr other) = fits.unchanged n frame (sym (others n other) ∙ found) unchanged

  pub rest_fits : (site : State) → Matches store site → Matches smaller site
  rest_fits site fits = record {
    flash = fits.flash;
    groups = fits.groups;
    holds = fits.holds;
    clean = fits.clean;
    sound = fits.sound;
    unchanged = λ n frame found unchanged. rest_unchanged site n frame fits found unchanged (cases_eq n last.page);
  }

  pub rest_ready : (log : LogStore) (list : LogList) (site : State) → AreReady store log list site → AreReady smaller log list site
  rest_ready log list site ready = record { pages = rest_fits site ready.pages; blocks = ready.blocks; records = ready.records }

  -- a page that isn't pushed is its version
  pub rest_current : (site : State) → Matches store site → must_be_pushed store.flash.directory (pool_page last) ≡ false → KeepsCurrent store site.image smaller site.image
  rest_current site fits must = record { each = λ page exists. by page (cases_eq page last.page) }
    where
      unmarked : (changed framed : Bool) → (changed || not framed) ≡ false → changed ≡ false
      unmarked true framed is = absurd cc
      unmarked false framed is = refl

      by : (page : ℕ) → (page ≡ last.page) ⊎ (page ≢ last.page) → current smaller site.image page ≡ current store site.image page
      by page (inl same) =
          ap (current smaller site.image) same
          ∙ ap (λ o. content_by o (version_on store.flash.geometry site.image last.page)) h.one.gone
          ∙ sym (fits.unchanged last.page last own (unmarked last.changed (has_frame store.flash.directory last.page) must))
          ∙ sym (ap (λ o. content_by o (version_on store.flash.geometry site.image last.page)) own)
          ∙ ap (current store site.image) (sym same)
      by page (inr other) = ap (λ o. content_by o (version_on store.flash.geometry site.image page)) (others page other)

  pub rest_logged : (end : ℕ) → AllByRecursion (λ (frame : Frame). IsLogged end frame.content) store.pool.frames → AllByRecursion (λ (frame : Frame). IsLogged end frame.content) rest.frames
  rest_logged end all = all_front (λ (frame : Frame). IsLogged end frame.content) rest.frames last (subst (AllByRecursion (λ (frame : Frame). IsLogged end frame.content)) h.is all)

  pub absent_rest : (page : ℕ) → frame_of store.pool.frames page ≡ None → frame_of rest.frames page ≡ None
  absent_rest page none = by (cases_eq page last.page)
    where
      by : (page ≡ last.page) ⊎ (page ≢ last.page) → frame_of rest.frames page ≡ None
      by (inl same) = ap (frame_of rest.frames) same ∙ h.one.gone
      by (inr other) = others page other ∙ none

  -- The pages that are pushed are the pool's own, each once.

  not_last : AllByRecursion (λ (f : Frame). f.page ≢ last.page) rest.frames
  not_last = all_weaker (λ (f : Frame). last.page ≢ f.page) (λ (f : Frame). f.page ≢ last.page) (λ f ne same. ne (sym same)) rest.frames (absent rest.frames last.page h.one.gone)

  module _ (distinct : AreDistinct rest.frames) where
    pulled_found : AllByRecursion (λ (f : Frame). frame_of rest.frames f.page ≡ Some f) (pulled smaller)
    pulled_found = all_pulled (λ (f : Frame). frame_of rest.frames f.page ≡ Some f) (rules smaller) store.flash.directory (reverse rest.frames)
        (all_reverse (λ (f : Frame). frame_of rest.frames f.page ≡ Some f) rest.frames (found_all rest.frames distinct))

    pulled_others : AllByRecursion (λ (f : Frame). f.page ≢ last.page) (pulled smaller)
    pulled_others = all_pulled (λ (f : Frame). f.page ≢ last.page) (rules smaller) store.flash.directory (reverse rest.frames) (all_reverse (λ (f : Frame). f.page ≢ last.page) rest.frames not_last)

    pub gone_found : AllByRecursion (λ (f : Frame). frame_of store.pool.frames f.page ≡ Some f) gone
    gone_found = (
      own,
      all_both (λ (f : Frame). frame_of rest.frames f.page ≡ Some f) (λ (f : Frame). f.page ≢ last.page) (λ (f : Frame). frame_of store.pool.frames f.page ≡ Some f)
          (λ f found other. sym (others f.page other) ∙ found) (pulled smaller) pulled_found pulled_others,
    )

    pub gone_apart : AreDistinct gone
    gone_apart = (
      all_weaker (λ (f : Frame). f.page ≢ last.page) (λ (f : Frame). last.page ≢ f.page) (λ f ne same. ne (sym same)) (pulled smaller) pulled_others,
      pulled_apart (rules smaller) store.flash.directory (reverse rest.frames) (distinct_reverse rest.frames distinct),
    )

    pub gone_move : must_be_pushed store.flash.directory (pool_page last) ≡ true → AllByRecursion (λ (f : Frame). must_be_pushed store.flash.directory (pool_page f) ≡ true) gone
    gone_move must = (must, pulled_move (rules smaller) store.flash.directory (reverse rest.frames))

    -- the pool without them
    pub gone_without : WithoutTakesOne → IsWithout store.pool.frames (without_all (map page_of (pulled smaller)) rest.frames) gone
    gone_without law = record {
      absent = (
        frames_without law (map page_of (pulled smaller)) rest.frames last.page ∙ ap (λ (o : Option Frame). cond (is_among (map page_of (pulled smaller)) last.page) None o) h.one.gone ∙ none_either (is_among (map page_of (pulled smaller)) last.page),
        all_gone (λ (n : ℕ). frame_of (without_all (map page_of (pulled smaller)) rest.frames) n ≡ None) (pulled smaller) (λ n is. frames_without law (map page_of (pulled smaller)) rest.frames n ∙ ap (λ (b : Bool). cond b None (frame_of rest.frames n)) is),
      );
      others = λ n none.
          frames_without law (map page_of (pulled smaller)) rest.frames n
          ∙ ap (λ (b : Bool). cond b None (frame_of rest.frames n)) (or_parts (last.page == n) (is_among (map page_of (pulled smaller)) n) none).1
          ∙ others n (λ same. eqb-false _ _ (or_parts (last.page == n) (is_among (map page_of (pulled smaller)) n) none).0 (sym same));
    }

-- Some frames have left the pool.

module _ (store : PageStore) (pool : Pool) (xs : List Frame) (w : IsWithout store.pool.frames pool.frames xs) where
  abbrev after : PageStore
  after = record store { pool = pool }

  listed_gone : (n k : ℕ) → k < length (map page_of xs) → get_or (map page_of xs) k 0 ≡ n → frame_of pool.frames n ≡ None
  listed_gone n k less is = subst (λ (page : ℕ). frame_of pool.frames page ≡ None) is
      (all_at (λ (page : ℕ). frame_of pool.frames page ≡ None) (map page_of xs) k 0 (all_map (λ (page : ℕ). frame_of pool.frames page ≡ None) page_of xs w.absent) less)

  pub without_fits : (site : State) → Matches store site → Matches after site
  without_fits site fits = record {
    flash = fits.flash;
    groups = fits.groups;
    holds = fits.holds;
    clean = fits.clean;
    sound = fits.sound;
    unchanged = λ n frame found unchanged. elim (or_listed (map page_of xs) n) [
      | inl there ↦ absurd (none-some frame (sym (listed_gone n there.0 there.1 there.2) ∙ found))
      | inr none ↦ fits.unchanged n frame (sym (w.others n (not_among (map page_of xs) n none)) ∙ found) unchanged
    ];
  }

  pub without_ready : (log : LogStore) (list : LogList) (site : State) → AreReady store log list site → AreReady after log list site
  without_ready log list site ready = record { pages = without_fits site ready.pages; blocks = ready.blocks; records = ready.records }

  pub without_changed : AreChanged after (map page_of xs)
  without_changed = record { each = λ k frame less found. absurd (none-some frame (sym (listed_gone (get_or (map page_of xs) k 0) k less refl) ∙ found)) }

  -- what is there once they were pushed
  pub without_current : (store' : PageStore) (old new : Image) → store'.pool.frames ≡ pool.frames → store'.flash.geometry ≡ store.flash.geometry → AreGiven (current store old) (map page_of xs) (map (λ (f : Frame). f.content) xs)
      → Gives store.flash.geometry (map page_of xs) (map (λ (f : Frame). f.content) xs) old new → KeepsCurrent store old store' new
  without_current store' old new same geometry given gives = record { each = λ n exists. turned n ∙ by n }
    where
      turned : (n : ℕ) → current store' new n ≡ content_by (frame_of pool.frames n) (version_on store.flash.geometry new n)
      turned n = λ i. content_by (frame_of (same i) n) (version_on (geometry i) new n)

      by : (n : ℕ) → content_by (frame_of pool.frames n) (version_on store.flash.geometry new n) ≡ current store old n
      by n = elim (or_listed (map page_of xs) n) [
        | inl there ↦
            ap (λ (o : Option Frame). content_by o (version_on store.flash.geometry new n)) (listed_gone n there.0 there.1 there.2)
            ∙ subst (λ (page : ℕ). version_on store.flash.geometry new page ≡ current store old page) there.2 (gives.given there.0 there.1 ∙ given.each there.0 there.1)
        | inr none ↦ (λ i. content_by (w.others n (not_among (map page_of xs) n none) i) (gives.others n none i))
      ]

-- A push of them: they are the pool's own.

module _ (store : PageStore) (xs : List Frame) (found : AllByRecursion (λ (f : Frame). frame_of store.pool.frames f.page ≡ Some f) xs) where
  pub own_all : (P : Frame → Type 0) → AllByRecursion P store.pool.frames → AllByRecursion P xs
  own_all P all = each xs found
    where
      each : (ys : List Frame) → AllByRecursion (λ (f : Frame). frame_of store.pool.frames f.page ≡ Some f) ys → AllByRecursion P ys
      each [] own = tt
      each (y ∷ ys) own = (all_found P store.pool.frames y.page y all own.0, each ys own.1)

  pub own_exist : IsStore store → All (λ (page : ℕ). page < store.flash.geometry.pages) (map page_of xs)
  own_exist is k d less = all_at (λ (page : ℕ). page < store.flash.geometry.pages) (map page_of xs) k d
      (all_map (λ (page : ℕ). page < store.flash.geometry.pages) page_of xs
      (all_weaker (IsPage store.flash.geometry.pages) (λ (f : Frame). f.page < store.flash.geometry.pages) (λ f p. p.exists) xs (own_all (IsPage store.flash.geometry.pages) is.pages))) less

  pub own_given : (image : Image) → AreGiven (current store image) (map page_of xs) (map (λ (f : Frame). f.content) xs)
  own_given image = record { each = at xs found }
    where
      at : (ys : List Frame) → AllByRecursion (λ (f : Frame). frame_of store.pool.frames f.page ≡ Some f) ys
          → (k : ℕ) → k < length (map page_of ys) → get_or (map (λ (f : Frame). f.content) ys) k [] ≡ current store image (get_or (map page_of ys) k 0)
      at [] own k less = absurd (omega (arith, less))
      at (y ∷ ys) own zero less = sym (ap (λ (o : Option Frame). content_by o (version_on store.flash.geometry image y.page)) own.0)
      at (y ∷ ys) own (suc k) less = at ys own.1 k (omega (arith, less))

  own_clean : UnframedIsDisk → (site : State) → Matches store site → AllByRecursion (λ (f : Frame). must_be_pushed store.flash.directory (pool_page f) ≡ true) xs
      → AreCleanGiven store.flash (map page_of xs) (map (λ (f : Frame). f.changed) xs) (map (λ (f : Frame). f.content) xs) site.image
  own_clean law site fits move = at xs found move
    where
      unframed : (framed changed : Bool) → changed ≡ false → (changed || not framed) ≡ true → framed ≡ false
      unframed true true un must = absurd cc
      unframed true false un must = absurd cc
      unframed false b un must = refl

      at : (ys : List Frame) → AllByRecursion (λ (f : Frame). frame_of store.pool.frames f.page ≡ Some f) ys → AllByRecursion (λ (f : Frame). must_be_pushed store.flash.directory (pool_page f) ≡ true) ys
          → AreCleanGiven store.flash (map page_of ys) (map (λ (f : Frame). f.changed) ys) (map (λ (f : Frame). f.content) ys) site.image
      at [] own all k less unchanged = absurd (omega (arith, less))
      at (y ∷ ys) own all zero less unchanged =
          let none : has_frame store.flash.directory y.page ≡ false = unframed (has_frame store.flash.directory y.page) y.changed unchanged all.0 in
          (none, fits.unchanged y.page y own.0 unchanged ∙ law store.flash site.image fits.groups y.page fits.holds none)
      at (y ∷ ys) own all (suc k) less unchanged = at ys own.1 all.1 k (omega (arith, less)) unchanged

  pub own_push : UnframedIsDisk → (log : LogStore) (site : State) → IsStore store → Matches store site → AllByRecursion (λ (f : Frame). must_be_pushed store.flash.directory (pool_page f) ≡ true) xs
      → AreItsOwn log store (map page_of xs) (map (λ (f : Frame). f.changed) xs) (map (λ (f : Frame). f.content) xs) site.image
  own_push law log site is fits move = record {
    given = own_given site.image;
    clean = own_clean law site fits move;
    sound = all_map IsSound (λ (f : Frame). f.content) xs (all_weaker (IsPage store.flash.geometry.pages) (λ (f : Frame). IsSound f.content) (λ f p. p.sound) xs (own_all (IsPage store.flash.geometry.pages) is.pages));
    logged = λ logged. all_map (IsLogged (end_forced log)) (λ (f : Frame). f.content) xs (own_all (λ (f : Frame). IsLogged (end_forced log) f.content) logged);
  }

pub known_own : (xs : List Frame) → known_given (map page_of xs) (map (λ (f : Frame). f.changed) xs) ≡ map (λ (f : Frame). known_of f.page f.changed) xs
known_own [] = refl
known_own (x ∷ xs) = ap (λ (l : List Known). known_of x.page x.changed ∷ l) (known_own xs)

-- Three lists that are equal to others, in a statement with all three.
pub with_parts : (P : List ℕ → List Bool → List (List ℕ) → Type 0) {a a' : List ℕ} {b b' : List Bool} {c c' : List (List ℕ)} → a ≡ a' → b ≡ b' → c ≡ c' → P a b c → P a' b' c'
with_parts P {a = a} {a' = a'} {b = b} {b' = b'} {c = c} first second third p =
    subst (P a' b') third (subst (λ (l : List Bool). P a' l c) second (subst (λ (l : List ℕ). P l b c) first p))

-- All that a push of the coldest page and of those that are pulled with it asks, and what it makes.

pub record Departs (store : PageStore) (pool : Pool) (pages : List ℕ) (changed : List Bool) (contents : List (List ℕ)) : Type 0 where
  pub few : length (pages_pushed store.flash pages) ≤ 8
  pub exist : All (λ (page : ℕ). page < store.flash.geometry.pages) pages
  pub apart : AllPairs (λ (a b : ℕ). a ≢ b) pages
  pub forced : (log : LogStore) → forces log contents ≡ forces log (evicted store)
  pub changes : (log : LogStore) (list : LogList) (image : Image) → given_changes log list store image pages changed contents ≡ eviction_changes log list store image
  pub own : (log : LogStore) (site : State) → Matches store site → AreItsOwn log store pages changed contents site.image
  pub ready : (log : LogStore) (list : LogList) (site : State) → AreReady store log list site → AreReady (record store { pool = pool }) log list site
  pub are_changed : AreChanged (record store { pool = pool }) pages
  pub current : (store' : PageStore) (old new : Image) → store'.pool.frames ≡ pool.frames → store'.flash.geometry ≡ store.flash.geometry → Gives store.flash.geometry pages contents old new → KeepsCurrent store old store' new
  pub machine : (queue : Queue) → queue ≡ pushed_queue store.flash (known_pushed store.flash pages changed) → ◌≡◌ {A = Cache} (record { pool = map pool_page pool.frames; queue = queue }) (evict_coldest (rules store) (cache_of store))

-- What is left of the pool once they have left it too.

module _ (store : PageStore) (rest : Pool) (last : Frame) (h : HasLeft store rest last) (pool : Pool) (part : LeavesOut rest.frames pool.frames) where
  pub going_left : (log : LogStore) (site : State) → IsStore (record store { pool = pool }) → MayWork log store site → MayWork log (record store { pool = pool }) site
  going_left log site own going = record {
    pages_going = record {
      flash = going.pages_going.flash;
      own = own;
    };
    log_going = going.log_going;
    sizes = going.sizes;
    room = going.room;
  }

  pub few_left : length pool.frames < length store.pool.frames
  few_left = let before = ap length h.is in omega (arith, before, length-append rest.frames (last ∷ []), few_part rest.frames pool.frames part)

  pub absent_left : WithoutTakesOne → (page : ℕ) → frame_of store.pool.frames page ≡ None → frame_of pool.frames page ≡ None
  absent_left law page none = absent_part law rest.frames pool.frames part page (absent_rest store rest last h page none)

  pub logged_left : (end : ℕ) → AreLogged end store.pool.frames → AreLogged end pool.frames
  logged_left end all =
      subst (AllByRecursion (λ (f : Frame). IsLogged end f.content)) (sym part.left)
      (all_left (λ (f : Frame). IsLogged end f.content) part.pages rest.frames (rest_logged store rest last h end all))

module _ (store : PageStore) (rest : Pool) (last : Frame) (h : HasLeft store rest last) (disk : UnframedIsDisk) (law : WithoutTakesOne) (whole : IsStore store)
    (must : must_be_pushed store.flash.directory (pool_page last) ≡ true) where
  abbrev all_gone_now : List Frame
  all_gone_now = last ∷ pulled (record store { pool = rest })

  abbrev pool_then : List ℕ → Pool
  pool_then framed = record rest { frames = without_all (map page_of (pulled (record store { pool = rest }))) rest.frames; framed = framed }

  rest_distinct : AreDistinct rest.frames
  rest_distinct = distinct_front rest.frames last (subst AreDistinct h.is whole.pool.distinct)

  own_departs : (framed : List ℕ) → Departs store (pool_then framed) (map page_of all_gone_now) (map (λ (f : Frame). f.changed) all_gone_now) (map (λ (f : Frame). f.content) all_gone_now)
  own_departs framed =
      let xs : List Frame = all_gone_now in
      let found = gone_found store rest last h rest_distinct in
      let out = gone_without store rest last h rest_distinct law in
      let chances : List Placed = chance_marks store.flash in
      let few = pulled_few (rules store) store.flash.directory (reverse rest.frames) in
      let least = room_some (rules store) store.flash.directory in
      let evicted_are = some_evicted store rest last h must in
      record {
        few = omega (arith, few, least, length-append (map (λ (f : Placed). f.1.page) chances) (map page_of xs), length-map chances (λ (f : Placed). f.1.page), length-map xs page_of);
        exist = own_exist store xs found whole;
        apart = pages_apart xs (gone_apart store rest last h rest_distinct);
        forced = λ log. ap (λ (l : List Frame). forces log (map (λ (f : Frame). f.content) l)) (sym evicted_are);
        changes = λ log list image. given_are log list store image xs ∙ sym (eviction_is log list store image xs evicted_are);
        own = λ log site fits. own_push store xs found disk log site whole fits (gone_move store rest last h rest_distinct must);
        ready = λ log list site ready. without_ready store (pool_then framed) xs out log list site ready;
        are_changed = without_changed store (pool_then framed) xs out;
        current = λ store' old new pool geometry gives. without_current store (pool_then framed) xs out store' old new pool geometry (own_given store xs found old) gives;
        machine = λ queue after. evicts_pushed store rest last queue h.is must (after ∙ ap (λ (l : List Known). pushed_queue store.flash (map chance_frame (chance_marks store.flash) ++ l)) (known_own xs));
      }

  pub departs : (pool : Pool) (taken : EvictedPages) (pages : List ℕ) (changed : List Bool) (contents : List (List ℕ)) → pool ≡ pool_then pool.framed → Has taken all_gone_now
      → pages ≡ taken.pages.items → changed ≡ taken.changed.items → contents ≡ taken.contents.items → Departs store pool pages changed contents
  departs pool taken pages changed contents then has first second third =
      subst (λ (p : Pool). Departs store p pages changed contents) (sym then)
      (with_parts (Departs store (pool_then pool.framed)) (sym (first ∙ has.pages)) (sym (second ∙ has.changed)) (sym (third ∙ has.contents)) (own_departs pool.framed))
