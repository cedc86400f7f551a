-- Behind a push of changed pages.
use Rattle.page_store.proofs.Names.{◌≡◌, inl, inr, ℕ, suc, ◌<◌, ◌≤◌, ◌==◌, Bool, true, false, true≢false, not, ◌&&◌, ◌||◌, cond, List, [], ◌∷◌, ◌++◌, length, get_or, take, map, filter, reverse, replicate, Option, Some, None, option_map, is_some, arith, refl, sym, ap, subst, ◌∙◌, eqb-true, get_or_default, reverse-append, map-append, length-map, length-take-le, take-map, none-some, AllByRecursion, IsSome, Contains, Ok, frame_page, frame_of, ClearedKeepsFrames, Frame, chance_marks, known_given, version_on, Change, LogList, sealed_if, LogStore, pool_page, cache_of, rules_for as rules, Keeps, Stands, standing, push_changes, given_changes, changed_frames, saved_next, content_in, cleared_all, Gives, KeepsCurrent, mark_for, room_for_pages, IsPage, IsStore, Matches, content_by, current, PageStore, changed_count, Cache, chance_frame, pool_mark, pool_frame, is_pulled, saved, push_changed, queue_is_full as is_full, Queue, pushed, known_of, PoolMark, State, Image, Geometry, IsSound, all_weaker, IsLogged, end_forced}
use Rattle.std.specs.List.{All}
use Rattle.page_store.proofs.PushLaws.{or_listed}
use Rattle.page_store.proofs.Choosing.{first_changed, few_chosen, chosen_changed}
use Rattle.page_store.proofs.Calling.{AreItsOwn}
use Rattle.page_store.proofs.Changing.{given_is, known_pages, HasMade}
use Rattle.page_store.proofs.Clearing.{frames_cleared, cleared_by, by_content, by_mark, is_among, pages_saved, all_pages}
use Rattle.page_store.proofs.Saving.{all_true, known_changed, HasChosen, has_chosen, chosen_contents}

-- Which pages are listed.

pub among_listed : (pages : List ℕ) (n : ℕ) → is_among pages n ≡ true → Contains pages n
among_listed [] n is = absurd cc
among_listed (p ∷ pages) n is = by (p == n) refl is (among_listed pages n)
  where
    by : (b : Bool) → (p == n) ≡ b → (b || is_among pages n) ≡ true → (is_among pages n ≡ true → Contains pages n) → Contains (p ∷ pages) n
    by true same is rest = (0, omega arith, eqb-true _ _ same)
    by false other is rest = let there = rest is in (suc there.0, let less = there.1 in omega (arith, less), there.2)

pub not_among : (pages : List ℕ) (n : ℕ) → (Contains pages n → ⊥) → is_among pages n ≡ false
not_among pages n none = by (is_among pages n) refl
  where
    by : (b : Bool) → is_among pages n ≡ b → is_among pages n ≡ false
    by true is = absurd (none (among_listed pages n is))
    by false is = is

-- The store.

module _ (law : ClearedKeepsFrames) (store after : PageStore) (pages : List ℕ) (contents : List (List ℕ)) (old new : State) (pool : after.pool.frames ≡ store.pool.frames) (geometry : after.flash.geometry ≡ store.flash.geometry)
    (gives : Gives store.flash.geometry pages contents old.image new.image) (given : (k : ℕ) → k < length pages → get_or contents k [] ≡ content_in store.pool.frames (get_or pages k 0)) where
  abbrev frames : List Frame
  frames = after.pool.frames

  same_frame : (n : ℕ) → frame_of frames n ≡ frame_of store.pool.frames n
  same_frame n = ap (λ (l : List Frame). frame_of l n) pool

  saved_frame : (n : ℕ) (frame f : Frame) → Matches after new → frame ≡ cleared_by pages f → frame_of frames n ≡ Some f → frame.changed ≡ false → frame.content ≡ version_on after.flash.geometry new.image n
  saved_frame n frame f fits is own unchanged = elim (or_listed pages n) [
    | inl there ↦
        ap (λ (x : Frame). x.content) is ∙ by_content pages f
        ∙ sym (ap (λ o. content_by o []) (sym (same_frame n) ∙ own))
        ∙ sym (ap (content_in store.pool.frames) there.2)
        ∙ sym (given there.0 there.1)
        ∙ sym (gives.given there.0 there.1)
        ∙ (λ i. version_on (sym geometry i) new.image (there.2 i))
    | inr none ↦
        ap (λ (x : Frame). x.content) is ∙ by_content pages f
        ∙ fits.unchanged n f own (was_unchanged none)
  ]
    where
      kept : (b : Bool) → (b && true) ≡ b
      kept true = refl
      kept false = refl

      was_unchanged : (Contains pages n → ⊥) → f.changed ≡ false
      was_unchanged none =
          let among : is_among pages f.page ≡ false = ap (is_among pages) (frame_page frames n f own) ∙ not_among pages n none in
          sym (kept f.changed) ∙ sym (ap (λ b. f.changed && not b) among) ∙ sym (by_mark pages f) ∙ sym (ap (λ (x : Frame). x.changed) is) ∙ unchanged

  pub saved_fits : (framed : List ℕ) → Matches after new → Matches (record after { pool = record after.pool { frames = cleared_all pages frames; framed = framed } }) new
  saved_fits framed fits = record {
    flash = fits.flash;
    groups = fits.groups;
    holds = fits.holds;
    clean = fits.clean;
    sound = fits.sound;
    unchanged = λ n frame found unchanged. by n frame (frame_of frames n) refl (sym (frames_cleared law pages frames n) ∙ found) unchanged;
  }
    where
      by : (n : ℕ) (frame : Frame) (o : Option Frame) → frame_of frames n ≡ o → option_map (cleared_by pages) o ≡ Some frame → frame.changed ≡ false → frame.content ≡ version_on after.flash.geometry new.image n
      by n frame None own found unchanged = absurd (none-some frame found)
      by n frame (Some f) own found unchanged = let is : frame ≡ cleared_by pages f = cc in saved_frame n frame f fits is own unchanged

  pub saved_current : (framed : List ℕ) → All (λ (page : ℕ). IsSome (frame_of store.pool.frames page)) pages → KeepsCurrent store old.image (record after { pool = record after.pool { frames = cleared_all pages frames; framed = framed } }) new.image
  saved_current framed there = record { each = λ n exists. ap (λ o. content_by o (version_on after.flash.geometry new.image n)) (frames_cleared law pages frames n) ∙ by n (frame_of store.pool.frames n) refl }
    where
      not_listed : (n : ℕ) → frame_of store.pool.frames n ≡ None → Contains pages n → ⊥
      not_listed n none listed =
          let is : get_or pages listed.0 0 ≡ n = get_or_default pages listed.0 0 n listed.1 ∙ listed.2 in
          let some : is_some (frame_of store.pool.frames n) ≡ true = subst (λ p. IsSome (frame_of store.pool.frames p)) is (there listed.0 0 listed.1) in
          true≢false (sym some ∙ ap is_some none)

      by : (n : ℕ) (o : Option Frame) → frame_of store.pool.frames n ≡ o
          → content_by (option_map (cleared_by pages) (frame_of frames n)) (version_on after.flash.geometry new.image n) ≡ current store old.image n
      by n None own =
          ap (λ p. content_by (option_map (cleared_by pages) p) (version_on after.flash.geometry new.image n)) (same_frame n ∙ own)
          ∙ ap (λ (g : Geometry). version_on g new.image n) geometry
          ∙ gives.others n (not_listed n own)
          ∙ sym (ap (λ p. content_by p (version_on store.flash.geometry old.image n)) own)
      by n (Some f) own =
          ap (λ p. content_by (option_map (cleared_by pages) p) (version_on after.flash.geometry new.image n)) (same_frame n ∙ own)
          ∙ by_content pages f
          ∙ sym (ap (λ p. content_by p (version_on store.flash.geometry old.image n)) own)

-- The machine.

filter_marked : (queue : Queue) (xs : List Frame) → filter (λ (m : PoolMark). m.changed) (map (mark_for queue) xs) ≡ map (mark_for queue) (filter (λ (f : Frame). f.changed) xs)
filter_marked queue [] = refl
filter_marked queue (x ∷ xs) = by x.changed (filter_marked queue xs)
  where
    by : (b : Bool) → filter (λ (m : PoolMark). m.changed) (map (mark_for queue) xs) ≡ map (mark_for queue) (filter (λ (f : Frame). f.changed) xs)
        → cond b (mark_for queue x ∷ filter (λ (m : PoolMark). m.changed) (map (mark_for queue) xs)) (filter (λ (m : PoolMark). m.changed) (map (mark_for queue) xs))
        ≡ map (mark_for queue) (cond b (x ∷ filter (λ (f : Frame). f.changed) xs) (filter (λ (f : Frame). f.changed) xs))
    by true rest = ap (λ (l : List PoolMark). mark_for queue x ∷ l) rest
    by false rest = rest

pub marks_turned : (queue : Queue) (xs : List Frame) → map (pool_mark queue) (reverse (map pool_page xs)) ≡ map (mark_for queue) (reverse xs)
marks_turned queue [] = refl
marks_turned queue (x ∷ xs) =
    ap (map (pool_mark queue)) (reverse-append (pool_page x ∷ []) (map pool_page xs))
    ∙ map-append (pool_mark queue) (reverse (map pool_page xs)) (pool_page x ∷ [])
    ∙ ap (λ (l : List PoolMark). l ++ mark_for queue x ∷ []) (marks_turned queue xs)
    ∙ sym (map-append (mark_for queue) (reverse xs) (x ∷ []))
    ∙ sym (ap (map (mark_for queue)) (reverse-append (x ∷ []) xs))

pulled_marks : (room : ℕ) (queue : Queue) (frames : List Frame)
    → take room (filter (λ (m : PoolMark). m.changed) (map (pool_mark queue) (reverse (map pool_page frames)))) ≡ map (mark_for queue) (first_changed room frames)
pulled_marks room queue frames =
    ap (λ (l : List PoolMark). take room (filter (λ (m : PoolMark). m.changed) l)) (marks_turned queue frames)
    ∙ ap (take room) (filter_marked queue (reverse frames))
    ∙ take-map (mark_for queue) room (changed_frames frames)

pulled_pages : (queue : Queue) (xs : List Frame) (n : ℕ) → is_pulled (map (mark_for queue) xs) n ≡ is_among (map (λ (f : Frame). f.page) xs) n
pulled_pages queue [] n = refl
pulled_pages queue (x ∷ xs) n = ap (λ b. (x.page == n) || b) (pulled_pages queue xs n)

pulled_frames : (queue : Queue) (xs : List Frame) → AllByRecursion (λ (f : Frame). f.changed ≡ true) xs → map pool_frame (map (mark_for queue) xs) ≡ map (λ page. known_of page true) (map (λ (f : Frame). f.page) xs)
pulled_frames queue [] all = refl
pulled_frames queue (x ∷ xs) all = λ i. known_of x.page (all.0 i) ∷ pulled_frames queue xs all.1 i

pub machine_saved : (store : PageStore) (queue : Queue) → queue ≡ pushed (is_full (rules store) store.flash.directory) (map chance_frame (chance_marks store.flash) ++ map (λ page. known_of page true) (map (λ (f : Frame). f.page) (saved_next store))) store.flash.directory
    → ◌≡◌ {A = Cache} (record { pool = map pool_page (cleared_all (map (λ (f : Frame). f.page) (saved_next store)) store.pool.frames); queue = queue }) (push_changed (rules store) (cache_of store))
machine_saved store queue is =
    let before = store.flash.directory in
    let frames = store.pool.frames in
    let room : ℕ = room_for_pages (rules store) before in
    let first : List Frame = saved_next store in
    let pages = map (λ (f : Frame). f.page) first in
    let pulled = pulled_marks room before frames in
    let names : is_among pages ≡ is_pulled (map (mark_for before) first) = λ i n. sym (pulled_pages before first n) i in
    let full : Bool = is_full (rules store) before in
    (λ i. let k : Cache = record { pool = pages_saved pages frames i; queue = is i } in k)
    ∙ (λ i. let k : Cache = record { pool = saved (names i) (map pool_page frames); queue = pushed full (map chance_frame (chance_marks store.flash) ++ sym (pulled_frames before first (chosen_changed room frames)) i) before } in k)
    ∙ (λ i. let k : Cache = record { pool = saved (is_pulled (sym pulled i)) (map pool_page frames); queue = pushed full (map chance_frame (chance_marks store.flash) ++ map pool_frame (sym pulled i)) before } in k)

-- The pages of the pool are sound and exist still.
pub pages_cleared : (most : ℕ) (ps : List ℕ) (frames : List Frame) → AllByRecursion (IsPage most) frames → AllByRecursion (IsPage most) (cleared_all ps frames)
pages_cleared most ps frames all =
    all_weaker (λ (f : Frame). IsSound f.content × (f.page < most)) (IsPage most) (λ f p. record { sound = p.0; exists = p.1 }) (cleared_all ps frames)
    (all_pages (λ page content. IsSound content × (page < most)) ps frames
    (all_weaker (IsPage most) (λ (f : Frame). IsSound f.content × (f.page < most)) (λ f p. (p.sound, p.exists)) frames all))

-- All that one push of a flush asks, and what it is.

abbrev pub marked : List ℕ → List Bool
marked pages = take (length pages) (replicate 8 true)

pub record IsSaving (store : PageStore) (pages : List ℕ) (contents : List (List ℕ)) : Type 0 where
  pub own : (log : LogStore) (image : Image) → AreItsOwn log store pages (marked pages) contents image
  pub chosen_are : HasChosen store pages (marked pages) contents
  pub changes : (log : LogStore) (list : LogList) (image : Image) → given_changes log list store image pages (marked pages) contents ≡ push_changes (standing log list store image) (saved_next store)
  pub known : known_given pages (marked pages) ≡ map (λ (f : Frame). known_of f.page true) (saved_next store)

pub is_saving : (store : PageStore) (pages : List ℕ) (contents : List (List ℕ)) → IsStore store → pages ≡ map (λ (f : Frame). f.page) (saved_next store) → contents ≡ map (content_in store.pool.frames) pages → IsSaving store pages contents
is_saving store pages contents is are have =
    let frames = store.pool.frames in
    let room : ℕ = room_for_pages (rules store) store.flash.directory in
    let first : List Frame = saved_next store in
    let short : length pages ≤ 8 = let count = ap length are in omega (arith, count, few_chosen room frames, length-map first (λ (f : Frame). f.page)) in
    let lists = length-take-le (length pages) (replicate 8 true) short in
    let facts = has_chosen store pages (marked pages) contents is.pool.distinct are have lists (all_true (length pages)) in
    record {
      own = λ log image. record {
        given = facts.given image;
        clean = facts.clean image;
        sound = chosen_contents IsSound room frames pages contents is.pool.distinct are have (all_weaker (IsPage store.flash.geometry.pages) (λ (f : Frame). IsSound f.content) (λ f p. p.sound) frames is.pages);
        logged = chosen_contents (IsLogged (end_forced log)) room frames pages contents is.pool.distinct are have;
      };
      chosen_are = facts;
      changes = λ log list image. given_is log list store image pages (marked pages) contents first are facts.first lists (all_true (length pages)) (chosen_changed room frames);
      known = known_changed pages (marked pages) lists (all_true (length pages)) ∙ ap (map (λ page. known_of page true)) are ∙ known_pages first;
    }

-- A flush, push by push: what its pushes so far leave, with the changes that are made and those still to come.
pub record SoFar (all : List Change) (log0 log : LogStore) (first store : PageStore) (old now : State) (list : LogList) (b : Bool) : Type 0 where
  pub made : List Change
  pub has : HasMade all made (standing log (sealed_if b list) store now.image) (changed_count (cache_of store).pool)
  pub keeps : Keeps {T = Unit {0}} (Ok tt) log0 first old now list b made
  pub stands : Stands log0 log first store old now list b made
