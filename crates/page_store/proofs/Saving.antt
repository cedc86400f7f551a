-- The coldest changed pages are saved.
use Rattle.page_store.proofs.Names.{◌≡◌, ◌≢◌, ℕ, zero, suc, ◌<◌, ◌≤◌, Bool, true, false, true≢false, ◌||◌, cond, List, [], ◌∷◌, ◌++◌, length, get_or, take, map, filter, reverse, replicate, Option, Some, None, is_some, arith, refl, sym, ap, subst, ◌∙◌, length-append, eq-eqb, ne_eqb, reverse-append, length-take, AllByRecursion, list_any, IsSome, AllPairs, changed_more, AreDistinct, frame_of, Frame, AreCleanGiven, known_given, version_on, FlashCache, pool_page, rules_for as rules, changed_frames, saved_next, content_in, flushed_first, AreGiven, AreChanged, room_for_pages, IsPage, content_by, current, PageStore, known_of, Image, all_both, all_take, all_reverse, all_map, all_filter, all_weaker, all_at}
use Rattle.flash_cache.proofs.Given.{all_append}
use Rattle.std.specs.List.{All}
use Rattle.page_store.proofs.Choosing.{first_changed, if_changed, chosen_changed}
use Rattle.std.proofs.lemmas.Grind.{common_steps}

-- lists

turned : {X : Type 0} (x : X) (xs : List X) → reverse (x ∷ xs) ≡ reverse xs ++ x ∷ []
turned x xs = reverse-append (x ∷ []) xs

pub all_chosen : (P : Frame → Type 0) (room : ℕ) (frames : List Frame) → AllByRecursion P frames → AllByRecursion P (first_changed room frames)
all_chosen P room frames all = all_take P room (changed_frames frames) (all_filter P (λ f. f.changed) (reverse frames) (all_reverse P frames all))

-- each page once

distinct_append : (xs : List Frame) (y : Frame) → AreDistinct xs → AllByRecursion (λ (x : Frame). x.page ≢ y.page) xs → AreDistinct (xs ++ y ∷ [])
distinct_append [] y apart others = (tt, tt)
distinct_append (x ∷ xs) y apart others = (all_append (λ (other : Frame). x.page ≢ other.page) xs (y ∷ []) apart.0 (others.0, tt), distinct_append xs y apart.1 others.1)

pub distinct_reverse : (xs : List Frame) → AreDistinct xs → AreDistinct (reverse xs)
distinct_reverse [] apart = tt
distinct_reverse (x ∷ xs) apart = grind (arith, common_steps, turned, distinct_append, all_reverse, all_weaker, (distinct_reverse xs apart.1))

pub distinct_filter : (test : Frame → Bool) (xs : List Frame) → AreDistinct xs → AreDistinct (filter test xs)
distinct_filter test [] apart = tt
distinct_filter test (x ∷ xs) apart = grind (arith, common_steps, all_filter, (distinct_filter test xs apart.1))

pub distinct_take : (n : ℕ) (xs : List Frame) → AreDistinct xs → AreDistinct (take n xs)
distinct_take zero xs apart = tt
distinct_take (suc n) [] apart = tt
distinct_take (suc n) (x ∷ xs) apart = (all_take (λ (other : Frame). x.page ≢ other.page) n xs apart.0, distinct_take n xs apart.1)

pub distinct_chosen : (room : ℕ) (frames : List Frame) → AreDistinct frames → AreDistinct (first_changed room frames)
distinct_chosen room frames apart = distinct_take room (changed_frames frames) (distinct_filter (λ (f : Frame). f.changed) (reverse frames) (distinct_reverse frames apart))

pub pages_apart : (xs : List Frame) → AreDistinct xs → AllPairs (λ (a b : ℕ). a ≢ b) (map (λ (f : Frame). f.page) xs)
pages_apart [] apart i j d before within = absurd (omega (arith, within))
pages_apart (x ∷ xs) apart zero zero d before within = absurd (omega (arith, before))
pages_apart (x ∷ xs) apart zero (suc j) d before within =
    all_at (λ (page : ℕ). x.page ≢ page) (map (λ (f : Frame). f.page) xs) j d (all_map (λ (page : ℕ). x.page ≢ page) (λ (f : Frame). f.page) xs apart.0) (omega (arith, within))
pages_apart (x ∷ xs) apart (suc i) zero d before within = absurd (omega (arith, before))
pages_apart (x ∷ xs) apart (suc i) (suc j) d before within = pages_apart xs apart.1 i j d (omega (arith, before)) (omega (arith, within))

-- each frame is its page's

pub found_all : (frames : List Frame) → AreDistinct frames → AllByRecursion (λ (f : Frame). frame_of frames f.page ≡ Some f) frames
found_all [] apart = tt
found_all (f ∷ fs) apart = grind (arith, common_steps, eq-eqb, all_both, ne_eqb, (found_all fs apart.1))

pub found_chosen : (room : ℕ) (frames : List Frame) → AreDistinct frames → AllByRecursion (λ (f : Frame). frame_of frames f.page ≡ Some f) (first_changed room frames)
found_chosen room frames apart = all_chosen (λ (f : Frame). frame_of frames f.page ≡ Some f) room frames (found_all frames apart)

pub some_chosen : (room : ℕ) (frames : List Frame) → 1 ≤ room → list_any (λ p. p.changed) (map pool_page frames) ≡ true → 1 ≤ length (first_changed room frames)
some_chosen room frames least some = omega (arith, least, length-take room (changed_frames frames), some_changed frames some)
  where
    some_changed : (fs : List Frame) → list_any (λ p. p.changed) (map pool_page fs) ≡ true → 1 ≤ length (changed_frames fs)
    some_changed [] some = absurd cc
    some_changed (f ∷ fs) some = by f.changed refl some (some_changed fs)
      where
        by : (b : Bool) → f.changed ≡ b → (b || list_any (λ p. p.changed) (map pool_page fs)) ≡ true → (list_any (λ p. p.changed) (map pool_page fs) ≡ true → 1 ≤ length (changed_frames fs))
            → 1 ≤ length (changed_frames (f ∷ fs))
        by true is some rest = omega (arith, ap length (changed_more f fs ∙ ap (λ b. changed_frames fs ++ cond b (f ∷ []) []) is), length-append (changed_frames fs) (f ∷ []))
        by false is some rest = omega (arith, rest some, ap length (changed_more f fs), length-append (changed_frames fs) (if_changed f))

-- The pages of chosen frames, and what they have.

module _ (room : ℕ) (frames : List Frame) (apart : AreDistinct frames) where
  abbrev pages : List ℕ
  pages = map (λ (f : Frame). f.page) (first_changed room frames)

  pub pages_there : All (λ (page : ℕ). IsSome (frame_of frames page)) pages
  pages_there k d less = all_at (λ (page : ℕ). IsSome (frame_of frames page)) pages k d
      (all_map (λ (page : ℕ). IsSome (frame_of frames page)) (λ (f : Frame). f.page) (first_changed room frames)
      (all_weaker (λ (f : Frame). frame_of frames f.page ≡ Some f) (λ (f : Frame). IsSome (frame_of frames f.page)) (λ f found. ap is_some found) (first_changed room frames) (found_chosen room frames apart))) less

  pub pages_exist : (most : ℕ) → AllByRecursion (IsPage most) frames → All (λ (page : ℕ). page < most) pages
  pages_exist most all k d less = all_at (λ (page : ℕ). page < most) pages k d
      (all_map (λ (page : ℕ). page < most) (λ (f : Frame). f.page) (first_changed room frames) (all_weaker (IsPage most) (λ (f : Frame). f.page < most) (λ f p. p.exists) (first_changed room frames) (all_chosen (IsPage most) room frames all))) less

  contents_each : (xs : List Frame) → AllByRecursion (λ (f : Frame). frame_of frames f.page ≡ Some f) xs → map (content_in frames) (map (λ (f : Frame). f.page) xs) ≡ map (λ (f : Frame). f.content) xs
  contents_each [] all = refl
  contents_each (x ∷ xs) all = λ i. content_by (all.0 i) [] ∷ contents_each xs all.1 i

  pub contents_are : map (content_in frames) pages ≡ map (λ (f : Frame). f.content) (first_changed room frames)
  contents_are = contents_each (first_changed room frames) (found_chosen room frames apart)

  pub contents_all : (P : List ℕ → Type 0) → AllByRecursion (λ (f : Frame). P f.content) frames → AllByRecursion P (map (content_in frames) pages)
  contents_all P all = subst (AllByRecursion P) (sym contents_are) (all_map P (λ (f : Frame). f.content) (first_changed room frames) (all_chosen (λ (f : Frame). P f.content) room frames all))

  content_at : (xs : List ℕ) (k : ℕ) → k < length xs → get_or (map (content_in frames) xs) k [] ≡ content_in frames (get_or xs k 0)
  content_at [] k less = absurd (omega (arith, less))
  content_at (x ∷ xs) zero less = refl
  content_at (x ∷ xs) (suc k) less = content_at xs k (omega (arith, less))

  pub content_there : (k : ℕ) → k < length pages → get_or (map (content_in frames) pages) k [] ≡ content_in frames (get_or pages k 0)
  content_there k less = content_at pages k less

  pub changed_there : (k : ℕ) (frame : Frame) → k < length pages → frame_of frames (get_or pages k 0) ≡ Some frame → frame.changed ≡ true
  changed_there k frame less found = all_at (λ (page : ℕ). (f : Frame) → frame_of frames page ≡ Some f → f.changed ≡ true) pages k 0
      (all_map (λ (page : ℕ). (f : Frame) → frame_of frames page ≡ Some f → f.changed ≡ true) (λ (f : Frame). f.page) (first_changed room frames)
      (all_both (λ (f : Frame). frame_of frames f.page ≡ Some f) (λ (f : Frame). f.changed ≡ true) (λ (f : Frame). (other : Frame) → frame_of frames f.page ≡ Some other → other.changed ≡ true)
      (λ f own is other found. let same : f ≡ other = one f other (sym own ∙ found) in ap (λ (g : Frame). g.changed) (sym same) ∙ is) (first_changed room frames) (found_chosen room frames apart) (chosen_changed room frames)))
      less frame found
    where
      one : (f other : Frame) → Some f ≡ Some other → f ≡ other
      one f other same = cc

pub given_there : (room : ℕ) (store : PageStore) (image : Image) (apart : AreDistinct store.pool.frames) → AreGiven (current store image) (pages room store.pool.frames apart) (map (content_in store.pool.frames) (pages room store.pool.frames apart))
given_there room store image apart = record {
  each = λ k less. content_there room store.pool.frames apart k less ∙ by (frame_of store.pool.frames (get_or (pages room store.pool.frames apart) k 0)) (version_on store.flash.geometry image (get_or (pages room store.pool.frames apart) k 0)) (pages_there room store.pool.frames apart k 0 less);
}
  where
    by : (o : Option Frame) (version : List ℕ) → IsSome o → content_by o [] ≡ content_by o version
    by None version there = absurd cc
    by (Some f) version there = refl

-- all of them are changed

pub all_true : (n : ℕ) → AllByRecursion (λ (b : Bool). b ≡ true) (take n (replicate 8 true))
all_true n = all_take (λ (b : Bool). b ≡ true) n (replicate 8 true) (refl, (refl, (refl, (refl, (refl, (refl, (refl, (refl, tt))))))))

pub clean_none : (cache : FlashCache) (pages : List ℕ) (changed : List Bool) (contents : List (List ℕ)) (image : Image) → length changed ≡ length pages → AllByRecursion (λ (b : Bool). b ≡ true) changed
    → AreCleanGiven cache pages changed contents image
clean_none cache pages changed contents image lists all k less unchanged = absurd (true≢false (sym (all_at (λ (b : Bool). b ≡ true) changed k false all (omega (arith, lists, less))) ∙ unchanged))

pub known_changed : (pages : List ℕ) (changed : List Bool) → length changed ≡ length pages → AllByRecursion (λ (b : Bool). b ≡ true) changed → known_given pages changed ≡ map (λ page. known_of page true) pages
known_changed [] [] lists all = refl
known_changed [] (b ∷ bs) lists all = absurd (omega (arith, lists))
known_changed (p ∷ ps) [] lists all = absurd (omega (arith, lists))
known_changed (p ∷ ps) (b ∷ bs) lists all = λ i. known_of p (all.0 i) ∷ known_changed ps bs (omega (arith, lists)) all.1 i

-- All that a push of them asks.

pub record HasChosen (store : PageStore) (pages : List ℕ) (changed : List Bool) (contents : List (List ℕ)) : Type 0 where
  pub given : (image : Image) → AreGiven (current store image) pages contents
  pub clean : (image : Image) → AreCleanGiven store.flash pages changed contents image
  pub are_changed : AreChanged store pages
  pub there : All (λ (page : ℕ). IsSome (frame_of store.pool.frames page)) pages
  pub each : (k : ℕ) → k < length pages → get_or contents k [] ≡ content_in store.pool.frames (get_or pages k 0)
  pub first : contents ≡ flushed_first store

pub has_chosen : (store : PageStore) (ps : List ℕ) (changed : List Bool) (contents : List (List ℕ)) → AreDistinct store.pool.frames → ps ≡ map (λ (f : Frame). f.page) (saved_next store)
    → contents ≡ map (content_in store.pool.frames) ps → length changed ≡ length ps → AllByRecursion (λ (b : Bool). b ≡ true) changed → HasChosen store ps changed contents
has_chosen store ps changed contents apart is has lists all =
    let room : ℕ = room_for_pages (rules store) store.flash.directory in
    let frames = store.pool.frames in
    subst (HasChosen store ps changed) (sym has) (record {
      given = λ image. subst (λ l. AreGiven (current store image) l (map (content_in frames) l)) (sym is) (given_there room store image apart);
      clean = λ image. clean_none store.flash ps changed (map (content_in frames) ps) image lists all;
      are_changed = subst (AreChanged store) (sym is) (record { each = λ k frame less found. changed_there room frames apart k frame less found });
      there = subst (All (λ (page : ℕ). IsSome (frame_of frames page))) (sym is) (pages_there room frames apart);
      each = λ k less. content_at_place frames ps k less;
      first = ap (map (content_in frames)) is ∙ contents_are room frames apart;
    })
  where
    content_at_place : (frames : List Frame) (xs : List ℕ) (k : ℕ) → k < length xs → get_or (map (content_in frames) xs) k [] ≡ content_in frames (get_or xs k 0)
    content_at_place frames [] k less = absurd (omega (arith, less))
    content_at_place frames (x ∷ xs) zero less = refl
    content_at_place frames (x ∷ xs) (suc k) less = content_at_place frames xs k (omega (arith, less))

pub chosen_contents : (P : List ℕ → Type 0) (room : ℕ) (frames : List Frame) (ps : List ℕ) (contents : List (List ℕ)) → AreDistinct frames → ps ≡ map (λ (f : Frame). f.page) (first_changed room frames) → contents ≡ map (content_in frames) ps
    → AllByRecursion (λ (f : Frame). P f.content) frames → AllByRecursion P contents
chosen_contents P room frames ps contents apart is has all = subst (AllByRecursion P) (sym (has ∙ ap (map (content_in frames)) is)) (contents_all room frames apart P all)
