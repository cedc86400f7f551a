-- The frames that a push stages, and its second chances, by the marks of the front group.
use Rattle.flash_cache.proofs.Names.{◌≡◌, ◌≢◌, ℕ, zero, suc, ◌+◌, ◌<◌, ◌≤◌, Bool, true, false, cond, List, [], ◌∷◌, length, get_or, map, Some, slice_get, arith, refl, sym, ap, subst, ◌∙◌, get_or-map, length-map, All-map, recursion_from_All, get_or_from_slice_get, slice_get_within, same_Some, All, AllPairs, AllByRecursion, Mark, no_mark, mark_at, front_leaves, staged_marks, staged_pages, chance_marks, IsPlan, Invariant, FlashCache, PushPlan, IsLive, staged_stand_in, staged_apart, rules_of, leaving, Placed, chances_given, staged_of, group_marks, front_marks, Known, State}
use Rattle.second_chance.proofs.Chances.{chances_stand_in, chances_are_not_staged}
use Rattle.std.proofs.lemmas.Grind.{common_steps}

-- marks of a group

pub length-marks : (group : List Known) (later : List (List Known)) → length (group_marks group later) ≡ length group
length-marks [] later = refl
length-marks (frame ∷ behind) later = ap suc (length-marks behind later)

pub front_few : (groups : List (List Known)) → AllByRecursion (λ frames. (1 ≤ length frames) × (length frames ≤ 8)) groups → length (front_marks groups) ≤ 8
front_few groups h = grind (arith, common_steps, length-marks)

mark_exists : (pages : ℕ) (group : List Known) (later : List (List Known)) (i : ℕ) (mark : Mark) → AllByRecursion (λ (frame : Known). frame.page < pages) group → slice_get (group_marks group later) i ≡ Some mark → mark.page < pages
mark_exists pages [] later i mark all is = absurd cc
mark_exists pages (frame ∷ behind) later zero mark all is = let same = ap (λ (m : Mark). m.page) (same_Some _ mark is) in let low = all.0 in omega (arith, same, low)
mark_exists pages (frame ∷ behind) later (suc i) mark all is = mark_exists pages behind later i mark all.1 is

pub front_exists : (pages : ℕ) (groups : List (List Known)) (i : ℕ) (mark : Mark) → AllByRecursion (λ frames. AllByRecursion (λ (frame : Known). frame.page < pages) frames) groups → slice_get (front_marks groups) i ≡ Some mark → mark.page < pages
front_exists pages groups i mark h h2 = grind (arith, common_steps, mark_exists)

-- numbered marks that stand at their places in a group's marks
abbrev pub AreNumbered : List Mark → List Placed → Type 0
AreNumbered front marks = All (λ f. slice_get front f.0 ≡ Some f.1) marks

module _ (front : List Mark) (marks : List Placed) (stand : AreNumbered front marks) where
  pub places_inside : (places : List ℕ) → places ≡ map (λ f. f.0) marks → All (λ place. place < length front) places
  places_inside places is =
      subst (All (λ place. place < length front)) (sym is)
      (All-map (λ (place : ℕ). place < length front) (λ (f : Placed). f.0) marks (λ k d lt. slice_get_within front _ _ (stand k d lt)))

read_by : {Y : Type 0} (f : Mark → Y) (front : List Mark) (xs : List Placed) → AllByRecursion (λ x. slice_get front x.0 ≡ Some x.1) xs → map (λ place. f (get_or front place no_mark)) (map (λ x. x.0) xs) ≡ map (λ x. f x.1) xs
read_by f front [] all = refl
read_by f front (x ∷ xs) all = λ i. f (get_or_from_slice_get front x.0 x.1 no_mark all.0 i) ∷ read_by f front xs all.1 i

-- what is read of marks by their places
pub read_at : {Y : Type 0} (f : Mark → Y) (front : List Mark) (marks : List Placed) (places : List ℕ) → AreNumbered front marks → places ≡ map (λ x. x.0) marks → map (λ place. f (mark_at front place)) places ≡ map (λ x. f x.1) marks
read_at f front marks places stand is =
    ap (map (λ place. f (mark_at front place))) is ∙ read_by f front marks (recursion_from_All (λ (x : Placed). slice_get front x.0 ≡ Some x.1) marks stand)

pub marks_exist : (pages : ℕ) (groups : List (List Known)) (marks : List Placed) → AreNumbered (front_marks groups) marks → AllByRecursion (λ frames. AllByRecursion (λ (frame : Known). frame.page < pages) frames) groups → All (λ page. page < pages) (map (λ f. f.1.page) marks)
marks_exist pages groups marks stand exist = All-map (λ (page : ℕ). page < pages) (λ (f : Placed). f.1.page) marks (λ k d lt. front_exists pages groups _ _ exist (stand k d lt))

module _ (cache : FlashCache) where
  abbrev front : List Mark
  front = front_marks cache.directory.groups

  abbrev out : List Mark
  out = leaving (rules_of 0 cache.geometry.groups) cache.directory

  -- what stands in the marks of what leaves stands in the front group
  leaving_is : (b : Bool) (place : ℕ) (mark : Mark) → slice_get (cond b front []) place ≡ Some mark → slice_get front place ≡ Some mark
  leaving_is true place mark is = is
  leaving_is false place mark is = absurd cc

  pub staged_numbered : AreNumbered front (staged_marks cache)
  staged_numbered k d lt = leaving_is (front_leaves cache) _ _ (staged_stand_in chances_given out k d lt).stands

  pub chances_numbered : AreNumbered front (chance_marks cache)
  chances_numbered k d lt = leaving_is (front_leaves cache) _ _ (chances_stand_in chances_given out k d lt).stands

  module _ (plan : PushPlan) (is : IsPlan plan cache) where
    pub staged_among : AreNumbered plan.front.now (staged_marks cache)
    staged_among = subst (λ (l : List Mark). AreNumbered l (staged_marks cache)) (sym is.front) (λ k d lt. (staged_stand_in chances_given out k d lt).stands)

    pub chances_among : AreNumbered plan.front.now (chance_marks cache)
    chances_among = subst (λ (l : List Mark). AreNumbered l (chance_marks cache)) (sym is.front) (λ k d lt. (chances_stand_in chances_given out k d lt).stands)

  marks_few : (b : Bool) → length (cond b front []) ≤ length front
  marks_few true = omega arith
  marks_few false = omega arith

  -- what leaves are at most eight frames, of a group that there is
  pub leaving_few : (leaves : List Mark) → leaves ≡ out → AllByRecursion (λ frames. (1 ≤ length frames) × (length frames ≤ 8)) cache.directory.groups → length leaves ≤ 8
  leaving_few leaves is sizes = omega (arith, ap length is, marks_few (front_leaves cache), front_few cache.directory.groups sizes)

  front_some : (groups : List (List Known)) → 0 < length (front_marks groups) → 0 < length groups
  front_some groups h = grind (arith, common_steps)

  pub leaving_some : (leaves : List Mark) → leaves ≡ out → 0 < length leaves → 0 < length cache.directory.groups
  leaving_some leaves is some = front_some cache.directory.groups (omega (arith, ap length is, marks_few (front_leaves cache), some))

  -- no more frames are read than the front group has
  pub reads_few : (staged chances : List ℕ) → AllByRecursion (λ frames. (1 ≤ length frames) × (length frames ≤ 8)) cache.directory.groups → staged ≡ map (λ f. f.0) (staged_marks cache) → chances ≡ map (λ f. f.0) (chance_marks cache) → length staged + length chances ≤ 8
  reads_few staged chances sizes is are = grind (arith, common_steps, length-map, chances_are_not_staged, marks_few, front_few)

  apart_by : (given b : Bool) (groups : List (List Known)) → AllPairs (λ x y. x.1.page ≢ y.1.page) (staged_of given (cond b (front_marks groups) []))
  apart_by given b groups = grind (arith, common_steps, staged_apart)

  pub pages_apart : AllPairs (λ a b. a ≢ b) (staged_pages cache)
  pages_apart i j d before within =
      let marks = staged_marks cache in
      let many = length-map marks (λ (f : Placed). f.1.page) in
      let e : Placed = (0, no_mark) in
      let low : i < length marks = omega (arith, before, within, many) in
      let high : j < length marks = omega (arith, within, many) in
      λ same. apart_by chances_given (front_leaves cache) cache.directory.groups i j e before high
      (sym (get_or-map (λ (f : Placed). f.1.page) marks i e d low) ∙ same ∙ get_or-map (λ (f : Placed). f.1.page) marks j e d high)

pub front_live : (cache : FlashCache) (site : State) → Invariant cache site → (n : ℕ) → n ≡ cache.directory.first → 1 ≤ length cache.directory.groups → IsLive cache.ring.shape cache.ring.hi n
front_live cache site going n is some = grind (arith, common_steps)
