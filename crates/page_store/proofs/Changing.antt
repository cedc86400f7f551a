-- Lists of changes, call by call.
use Rattle.std.proofs.lemmas.Grind.{common_steps}
use Rattle.page_store.proofs.Names.{◌≡◌, ℕ, zero, suc, ◌+◌, ◌*◌, ◌<◌, ◌≤◌, ◌==◌, Bool, true, false, not, ◌&&◌, cond, List, [], ◌∷◌, ◌++◌, length, get_or, map, drop, Option, Some, None, subst, refl, sym, ap, ◌∙◌, arith, append_assoc, append-nil, eqb-true, eqb-false, length-map, none-some, AllByRecursion, frame_of, Frame, chance_marks, frames_given, pushed_queue, version_on, Stored, Change, IsReached, IsFrontOf, LeavesFront, group_shape, units_on, LogList, sealed_if, has_tail, LogStore, Standing, stored, is_due_at, group_at, push_changes, standing, given_changes, changes_if_any, eviction_changes, cache_at, next_saved, after_push, pushes_changes, saved_next, cleared_all, flushed_first, Gives, evicted_frames, content_by, PageStore, chance_frame, wants_flush, rules_of, queue_is_full, known_of, Known, leaves_weaker, State, Image, Geometry, forces}

-- What the first changes leave, more changes may leave too.
pub front_more : (g : Geometry) (first more : List Change) (old new : State) → LeavesFront g first old new → LeavesFront g (first ++ more) old new
front_more g first more old new leaves = leaves_weaker old new (IsReached g (IsFrontOf first) old) (IsReached g (IsFrontOf (first ++ more)) old)
    (λ s is. record {
      told = is.told;
      changes = is.changes;
      made = (is.made.0 ++ more, ap (λ (l : List Change). l ++ more) is.made.1 ∙ append_assoc is.changes is.made.0 more);
      reaches = is.reaches;
    }) leaves

-- Pages that are given with their marks and contents are frames of the pool.
frames_given_are : (xs : List Frame) → frames_given (map (λ (f : Frame). f.page) xs) (map (λ (f : Frame). f.changed) xs) (map (λ (f : Frame). f.content) xs) ≡ map stored xs
frames_given_are [] = refl
frames_given_are (x ∷ xs) = ap (λ (l : List Stored). stored x ∷ l) (frames_given_are xs)

pub given_are : (log : LogStore) (list : LogList) (store : PageStore) (image : Image) (xs : List Frame)
    → given_changes log list store image (map (λ (f : Frame). f.page) xs) (map (λ (f : Frame). f.changed) xs) (map (λ (f : Frame). f.content) xs) ≡ push_changes (standing log list store image) xs
given_are log list store image xs = grind (arith, common_steps, frames_given_are)

-- Pages that are given as changed, with what the pool has of them, are frames of the pool.
frames_changed : (xs : List Frame) (changed : List Bool) → length changed ≡ length xs → AllByRecursion (λ (b : Bool). b ≡ true) changed → AllByRecursion (λ (f : Frame). f.changed ≡ true) xs
    → frames_given (map (λ (f : Frame). f.page) xs) changed (map (λ (f : Frame). f.content) xs) ≡ map stored xs
frames_changed [] changed lists marks all = refl
frames_changed (x ∷ xs) [] lists marks all = absurd (omega (arith, lists))
frames_changed (x ∷ xs) (b ∷ bs) lists marks all = grind (arith, common_steps, (frames_changed xs bs (omega (arith, lists)) marks.1 all.1))

pub given_is : (log : LogStore) (list : LogList) (store : PageStore) (image : Image) (pages : List ℕ) (changed : List Bool) (contents : List (List ℕ)) (xs : List Frame) → pages ≡ map (λ (f : Frame). f.page) xs
    → contents ≡ map (λ (f : Frame). f.content) xs → length changed ≡ length pages → AllByRecursion (λ (b : Bool). b ≡ true) changed → AllByRecursion (λ (f : Frame). f.changed ≡ true) xs
    → given_changes log list store image pages changed contents ≡ push_changes (standing log list store image) xs
given_is log list store image pages changed contents xs are have lists marks all = grind (arith, common_steps, frames_changed, length-map)

-- An eviction pushes some pages, or none.
pub eviction_is : (log : LogStore) (list : LogList) (store : PageStore) (image : Image) (frames : List Frame) → evicted_frames store ≡ frames
    → eviction_changes log list store image ≡ changes_if_any (standing log list store image) frames
eviction_is log list store image frames is = ap (changes_if_any (standing log list store image)) is

-- What is pushed is the pages' versions then.

abbrev pages_in : List Frame → List ℕ
pages_in xs = map (λ (f : Frame). f.page) xs

none_listed : (n : ℕ) (ys : List Frame) → frame_of ys n ≡ None → (k : ℕ) → k < length (pages_in ys) → get_or (pages_in ys) k n ≡ n → ⊥
none_listed n [] none k less found = omega (arith, less)
none_listed n (y ∷ ys) none k less found = grind (arith, common_steps, none-some, eqb-false, (none_listed n ys))

-- a page's frame stands at a place
record StandsAt (n : ℕ) (ys : List Frame) (f : Frame) : Type 0 where
  place : ℕ
  within : place < length (pages_in ys)
  page : get_or (pages_in ys) place 0 ≡ n
  content : get_or (map (λ (x : Frame). x.content) ys) place [] ≡ f.content

stands_at : (n : ℕ) (ys : List Frame) (f : Frame) → frame_of ys n ≡ Some f → StandsAt n ys f
stands_at n [] f found = absurd (none-some f found)
stands_at n (y ∷ ys) f found = at (y.page == n) refl found (stands_at n ys f)
  where
    at : (b : Bool) → (y.page == n) ≡ b → cond b (Some y) (frame_of ys n) ≡ Some f → (frame_of ys n ≡ Some f → StandsAt n ys f) → StandsAt n (y ∷ ys) f
    at true is found rest = let same : y ≡ f = cc in record { place = 0; within = omega arith; page = eqb-true _ _ is; content = ap (λ (x : Frame). x.content) same }
    at false is found rest = let there = rest found in record { place = suc there.place; within = (let less = there.within in omega (arith, less)); page = there.page; content = there.content }

pub gives_versions : (g : Geometry) (xs : List Frame) (old new : Image) → Gives g (map (λ (f : Frame). f.page) xs) (map (λ (f : Frame). f.content) xs) old new
    → (n : ℕ) → version_on g new n ≡ content_by (frame_of xs n) (version_on g old n)
gives_versions g xs old new gives n = by (frame_of xs n) refl
  where
    by : (o : Option Frame) → frame_of xs n ≡ o → version_on g new n ≡ content_by o (version_on g old n)
    by None none = gives.others n (λ there. none_listed n xs none there.0 there.1 there.2)
    by (Some f) found = let there = stands_at n xs f found in subst (λ (page : ℕ). version_on g new page ≡ f.content) there.page (gives.given there.place there.within ∙ there.content)

-- A flush, push by push.

-- the queue's new group, of pages that are changed
pub known_pages : (xs : List Frame) → map (λ page. known_of page true) (map (λ (f : Frame). f.page) xs) ≡ map (λ (f : Frame). known_of f.page true) xs
known_pages [] = refl
known_pages (x ∷ xs) = ap (λ (l : List Known). known_of x.page true ∷ l) (known_pages xs)

-- the groups' contents behind a push, with the new group, and the numbers of the next group and segment
pub record HasPushed (s : Standing) (pushed : List Frame) (store : PageStore) (image : Image) : Type 0 where
  pub live : (units_on (group_shape store.flash.geometry) image).live ≡ cond (queue_is_full (rules_of 0 s.groups) s.queue) (drop 1 s.live) s.live ++ group_at s pushed ∷ []
  pub next_group : store.flash.ring.hi ≡ s.next_group + 1
  pub next_segment : store.flash.segments.hi ≡ cond (is_due_at s) (s.next_segment + 1) s.next_segment

-- Where the log was forced there is no tail, else it is as it was.
tail_after : (tail tail' any : Bool) (next next' : ℕ) → next' ≡ cond (tail && any) (next + 1) next → 512 * (next' + cond tail' 1 0) ≡ 512 * (next + cond tail 1 0) → tail' ≡ (tail && not (tail && any))
tail_after tail tail' any next next' h h2 = grind (arith, common_steps)

pub standing_after : (log log' : LogStore) (list list' : LogList) (store store' : PageStore) (image image' : Image) (any : Bool) → forces log (flushed_first store) ≡ (has_tail log && any)
    → log'.ring.hi ≡ cond (forces log (flushed_first store)) (log.ring.hi + 1) log.ring.hi → 512 * (log'.ring.hi + cond (has_tail log') 1 0) ≡ 512 * (log.ring.hi + cond (has_tail log) 1 0)
    → list' ≡ sealed_if (forces log (flushed_first store)) list → store'.flash.geometry ≡ store.flash.geometry → HasPushed (standing log list store image) (saved_next store) store' image'
    → store'.flash.directory ≡ pushed_queue store.flash (map chance_frame (chance_marks store.flash) ++ map (λ (f : Frame). known_of f.page true) (saved_next store))
    → store'.pool.frames ≡ cleared_all (map (λ (f : Frame). f.page) (saved_next store)) store.pool.frames
    → ((n : ℕ) → version_on store.flash.geometry image' n ≡ content_by (frame_of (saved_next store) n) (version_on store.flash.geometry image n))
    → standing log' list' store' image' ≡ after_push (standing log list store image)
standing_after log log' list list' store store' image image' any is next end sealed geometry grown queue frames versions =
    let tail : has_tail log' ≡ (has_tail log && not (forces log (flushed_first store))) =
    tail_after (has_tail log) (has_tail log') any log.ring.hi log'.ring.hi (next ∙ ap {B = ℕ} (λ (b : Bool). cond b (log.ring.hi + 1) log.ring.hi) is) end ∙ sym (ap (λ (b : Bool). has_tail log && not b) is) in
    let same : version_on store'.flash.geometry image' ≡ (λ n. content_by (frame_of (saved_next store) n) (version_on store.flash.geometry image n)) =
    ap (λ (g : Geometry). version_on g image') geometry ∙ (λ i n. versions n i) in
    λ i. record {
      tail = tail i;
      next = next i;
      list = sealed i;
      groups = (geometry i).groups;
      queue = queue i;
      live = grown.live i;
      next_group = grown.next_group i;
      next_segment = grown.next_segment i;
      frames = frames i;
      versions = same i;
    }

-- What the pushes so far have made: the first of all changes, with those left that are still to come.
pub record HasMade (all made : List Change) (s : Standing) (count : ℕ) : Type 0 where
  pub pushes : ℕ
  pub enough : count ≤ pushes
  pub split : all ≡ made ++ pushes_changes pushes s

module _ (all made : List Change) (s : Standing) (count : ℕ) (so_far : HasMade all made s count) where
  -- no page is changed
  pub none_to_come : wants_flush (cache_at s) ≡ false → made ≡ all
  none_to_come none = grind (arith, common_steps, append-nil)

  -- some page is
  pub one_to_come : wants_flush (cache_at s) ≡ true → (count' : ℕ) → count' < count → (s' : Standing) → s' ≡ after_push s → HasMade all (made ++ push_changes s (next_saved s)) s' count'
  one_to_come some count' fewer s' is = by so_far.pushes refl
    where
      by : (n : ℕ) → so_far.pushes ≡ n → HasMade all (made ++ push_changes s (next_saved s)) s' count'
      by zero none = absurd (omega (arith, fewer, so_far.enough, none))
      by (suc n) more = record {
        pushes = n;
        enough = omega (arith, fewer, so_far.enough, more);
        split = so_far.split ∙ ap (λ (k : ℕ). made ++ pushes_changes k s) more
            ∙ ap (λ (b : Bool). made ++ cond b (push_changes s (next_saved s) ++ pushes_changes n (after_push s)) []) some
            ∙ sym (append_assoc made (push_changes s (next_saved s)) (pushes_changes n (after_push s)))
            ∙ ap (λ (t : Standing). (made ++ push_changes s (next_saved s)) ++ pushes_changes n t) (sym is);
      }
