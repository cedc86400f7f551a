-- What a push reads of the front group, and the group that it appends.
use Rattle.flash_cache.proofs.Names.{◌≡◌, ℕ, suc, ◌+◌, ◌-◌, ◌<◌, ◌≤◌, Bool, List, [], ◌∷◌, ◌++◌, length, get_or, map, arith, refl, sym, ap, subst, ◌∙◌, map-append, recursion_from_All, All-from_recursion, slice_get_within, All, AllByRecursion, FrameHead, Mark, page_at, AreAt, again, IsPlan, no_frame, staged_marks, staged_pages, chance_marks, chance_given, pages_pushed, frames_given, known_given, frames_pushed, known_pushed, Invariant, Represents, HasFrames, AllTogether, Shows, version_on, FlashCache, PushPlan, DepartingFrames, frames_in, pages_stand, Frame, IsFrame, group, heads_of, units_in, unit_at, Shape, chance_frame, Placed, front_marks, known_of, Known, State, Geometry, all_append, map_map, stands}
use Rattle.std.proofs.lemmas.List.{length-append}
use Rattle.flash_cache.proofs.Given.{length-given, known_of_given}
use Rattle.flash_cache.proofs.StagedFrames.{frames_at}
use Rattle.flash_cache.proofs.PushedOutcome.{stored}
use Rattle.flash_cache.proofs.Queues.{together_length, has_at}
use Rattle.flash_cache.proofs.Standing.{known_heads, length-mapped}
use Rattle.flash_cache.proofs.StagedMarks.{AreNumbered, length-marks, read_at, marks_exist, chances_numbered, staged_among, chances_among}
use Rattle.std.proofs.lemmas.Grind.{common_steps}

-- the pages given exist

given_exist : (count : ℕ) (pages : List ℕ) (changed : List Bool) (contents : List (List ℕ)) → All (λ page. page < count) pages → AllByRecursion (λ frame. frame.page < count) (frames_given pages changed contents)
given_exist count [] changed contents all = tt
given_exist count (p ∷ pages) [] contents all = tt
given_exist count (p ∷ pages) (c ∷ changed) [] all = tt
given_exist count (p ∷ pages) (c ∷ changed) (o ∷ contents) all = (all 0 0 (omega arith), given_exist count pages changed contents (λ k d lt. all (suc k) d (omega (arith, lt))))

-- the front group

pub front_long : (known : List (List Known)) (groups : List (List Frame)) → AllTogether (AllTogether Shows) known groups → length (front_marks known) ≡ length (get_or groups 0 [])
front_long known groups h = grind (arith, common_steps, length-marks, together_length)

pub some_group : (groups : List (List Frame)) (i : ℕ) → i < length (get_or groups 0 []) → 0 < length groups
some_group groups i h = grind (arith, common_steps)

contents_of : (unit : List ℕ) (frames : List Frame) (xs : List Placed) → ((i : ℕ) → i < length frames → page_at unit i ≡ (get_or frames i no_frame).octets) → AllByRecursion (λ f. f.0 < length frames) xs
    → map (page_at unit) (map (λ f. f.0) xs) ≡ map (λ f. (get_or frames f.0 no_frame).octets) xs
contents_of unit frames [] each all = refl
contents_of unit frames (f ∷ xs) each all = λ i. each f.0 all.0 i ∷ contents_of unit frames xs each all.1 i

module _ (cache : FlashCache) (site : State) (groups : List (List Frame)) (going : Invariant cache site) (holds : Represents cache site.image groups) where
  abbrev unit : List ℕ
  unit = unit_at cache.ring.shape (units_in cache.ring.shape site) cache.directory.first

  abbrev front : List Frame
  front = get_or groups 0 []

  each : (i : ℕ) → i < length front → page_at unit i ≡ (get_or front i no_frame).octets
  each i lt =
      let some = some_group groups i lt in
      let at : cache.directory.first ≡ cache.directory.first + 0 = omega arith in
      let is : unit ≡ group front =
      ap (λ (s : Shape). unit_at s (units_in s site) cache.directory.first) going.rings.groups_shape
      ∙ stands cache.geometry cache.directory.first groups site.image holds.has cache.directory.first 0 at some in
      ap (λ (u : List ℕ). page_at u i) is ∙ pages_stand (group front) front i no_frame (has_at cache.geometry groups 0 holds.has.are_groups some).is_group lt

  -- numbered marks stand at places of the front group
  pub inside : (marks : List Placed) → AreNumbered (front_marks cache.directory.groups) marks → AllByRecursion (λ f. f.0 < length front) marks
  inside marks numbered =
      let long = front_long cache.directory.groups groups holds.shown in
      recursion_from_All (λ (f : Placed). f.0 < length front) marks (λ k d lt.
      let f : Placed = get_or marks k d in
      let low = slice_get_within (front_marks cache.directory.groups) f.0 f.1 (numbered k d lt) in omega (arith, low, long))

  pub contents_are : (marks : List Placed) (places : List ℕ) → AreNumbered (front_marks cache.directory.groups) marks → places ≡ map (λ f. f.0) marks
      → map (page_at unit) places ≡ map (λ f. (get_or front f.0 no_frame).octets) marks
  contents_are marks places numbered is = ap (map (page_at unit)) is ∙ contents_of unit front marks each (inside marks numbered)

-- the pages of the frames that are staged
pub pages_are : (cache : FlashCache) (plan : PushPlan) (staged : DepartingFrames) → IsPlan plan cache → AreAt plan.front.now plan.plan.staged staged → staged.pages.items ≡ staged_pages cache
pages_are cache plan staged is are = are.pages ∙ read_at (λ (m : Mark). m.page) plan.front.now (staged_marks cache) plan.plan.staged (staged_among cache plan is) is.staged

-- the second chances, as they were read

of_marks : (versions : ℕ → List ℕ) (marks : List Placed) → frames_given (map (λ f. f.1.page) marks) (map (λ f. f.1.dirty) marks) (map (λ f. versions f.1.page) marks) ≡ map (chance_given versions) marks
of_marks versions [] = refl
of_marks versions (f ∷ marks) = ap (λ (l : List Frame). chance_given versions f ∷ l) (of_marks versions marks)

known_marks : (marks : List Placed) → known_given (map (λ f. f.1.page) marks) (map (λ f. f.1.dirty) marks) ≡ map chance_frame marks
known_marks [] = refl
known_marks (f ∷ marks) = ap (λ (l : List Known). chance_frame f ∷ l) (known_marks marks)

module _ (cache : FlashCache) (plan : PushPlan) (chances : DepartingFrames) (planned : IsPlan plan cache) (are : AreAt plan.front.now plan.plan.chances chances) where
  pub chance_pages : chances.pages.items ≡ map (λ f. f.1.page) (chance_marks cache)
  chance_pages = are.pages ∙ read_at (λ (m : Mark). m.page) plan.front.now (chance_marks cache) plan.plan.chances (chances_among cache plan planned) planned.chances

  pub chance_dirty : chances.dirty.items ≡ map (λ f. f.1.dirty) (chance_marks cache)
  chance_dirty = are.dirty ∙ read_at (λ (m : Mark). m.dirty) plan.front.now (chance_marks cache) plan.plan.chances (chances_among cache plan planned) planned.chances

  many : length plan.plan.chances ≡ length (chance_marks cache)
  many = ap length planned.chances ∙ length-mapped (λ (f : Placed). f.0) (chance_marks cache)

  pages_long : length chances.pages.items ≡ length (chance_marks cache)
  pages_long = ap length chance_pages ∙ length-mapped (λ (f : Placed). f.1.page) (chance_marks cache)

  pub dirty_long : length chances.dirty.items ≡ length chances.pages.items
  dirty_long = ap length chance_dirty ∙ length-mapped (λ (f : Placed). f.1.dirty) (chance_marks cache) ∙ sym pages_long

  pub contents_long : length chances.contents.items ≡ length chances.pages.items
  contents_long = are.count ∙ many ∙ sym pages_long

  -- with the pages given they are as many as the group has
  pub all_long : (pages : List ℕ) → length chances.pages.items + length pages ≡ length (pages_pushed cache pages)
  all_long pages = grind (arith, common_steps, length-append, chance_pages)

  again_known : map (λ frame. known_of frame.page frame.dirty) (again chances) ≡ map chance_frame (chance_marks cache)
  again_known = grind (arith, common_steps, known_of_given, dirty_long, contents_long, chance_pages, chance_dirty, known_marks)

  again_exist : AllByRecursion (λ frames. AllByRecursion (λ (frame : Known). frame.page < cache.geometry.pages) frames) cache.directory.groups → AllByRecursion (λ frame. frame.page < cache.geometry.pages) (again chances)
  again_exist exist =
      given_exist cache.geometry.pages chances.pages.items chances.dirty.items chances.contents.items
      (subst (All (λ (page : ℕ). page < cache.geometry.pages)) (sym chance_pages) (marks_exist cache.geometry.pages cache.directory.groups (chance_marks cache) (chances_numbered cache) exist))

  -- where groups stand on flash, they are the second chances of the push
  pub again_is : (site : State) (groups : List (List Frame)) → Invariant cache site → Represents cache site.image groups
      → chances.contents.items ≡ map (page_at (unit_at cache.ring.shape (units_in cache.ring.shape site) cache.directory.first)) plan.plan.chances
      → again chances ≡ map (chance_given (version_on cache.geometry site.image)) (chance_marks cache)
  again_is site groups going holds read =
      let marks = chance_marks cache in
      let versions : ℕ → List ℕ = version_on cache.geometry site.image in
      let octets : List Frame → List (List ℕ) = λ (l : List Frame). map (λ (x : Frame). x.octets) l in
      let contents : chances.contents.items ≡ map (λ f. versions f.1.page) marks =
      read ∙ contents_are cache site groups going holds marks plan.plan.chances (chances_numbered cache) planned.chances
      ∙ sym (map_map (λ (x : Frame). x.octets) (λ (f : Placed). get_or (get_or groups 0 []) f.0 no_frame) marks)
      ∙ sym (ap octets (stored cache groups site.image going.few going.limits.groups holds))
      ∙ map_map (λ (x : Frame). x.octets) (chance_given versions) marks in
      (λ i. frames_given (chance_pages i) (chance_dirty i) (contents i)) ∙ of_marks versions marks

  -- the group of them and the pages given
  module _ (pages : List ℕ) (changed : List Bool) (contents : List (List ℕ)) (marks : length changed ≡ length pages) (lists : length contents ≡ length pages) (some : 1 ≤ length (pages_pushed cache pages)) (few : length (pages_pushed cache pages) ≤ 8) where
    abbrev new_group : List Frame
    new_group = again chances ++ frames_given pages changed contents

    frames_long : length new_group ≡ length (pages_pushed cache pages)
    frames_long = grind (arith, common_steps, length-append, length-given, dirty_long, contents_long, all_long)

    pub group_has : (content : List ℕ) → AllByRecursion (λ groups. AllByRecursion (λ (frame : Known). frame.page < cache.geometry.pages) groups) cache.directory.groups → All (λ page. page < cache.geometry.pages) pages
        → AllByRecursion IsFrame new_group → content ≡ group new_group → HasFrames cache.geometry new_group content
    group_has content exist given are_frames is =
        let long = frames_long in
        record {
          is_group = record { some = omega (arith, some, long); room = omega (arith, few, long); are_frames = are_frames; spelled = is };
          exist = all_append (λ (frame : Frame). frame.page < cache.geometry.pages) (again chances) (frames_given pages changed contents) (again_exist exist) (given_exist cache.geometry.pages pages changed contents given);
        }

    pub group_known : (heads : List FrameHead) → heads ≡ heads_of new_group → frames_in heads ≡ known_pushed cache pages changed
    group_known heads is = grind (arith, common_steps, known_heads, map-append, again_known, known_of_given)

-- the group that stands behind a push, by what stands on flash before it

front_has : (g : Geometry) (groups : List (List Frame)) → AllByRecursion (λ frames. HasFrames g frames (group frames)) groups → AllByRecursion IsFrame (get_or groups 0 [])
front_has g groups h = grind (arith, common_steps)

front_of_pages : (g : Geometry) (groups : List (List Frame)) → AllByRecursion (λ frames. HasFrames g frames (group frames)) groups → AllByRecursion (λ frame. frame.page < g.pages) (get_or groups 0 [])
front_of_pages g groups h = grind (arith, common_steps)

all_at : (P : Frame → Type 0) (frames : List Frame) (marks : List Placed) → AllByRecursion P frames → AllByRecursion (λ f. f.0 < length frames) marks → AllByRecursion P (frames_at frames marks)
all_at P frames [] all low = tt
all_at P frames (f ∷ marks) all low = (All-from_recursion P frames all f.0 no_frame low.0, all_at P frames marks all low.1)

pub pushed_has : (cache : FlashCache) (site : State) (groups : List (List Frame)) → Invariant cache site → Represents cache site.image groups
    → (pages : List ℕ) (changed : List Bool) (contents : List (List ℕ)) → length changed ≡ length pages → length contents ≡ length pages → 1 ≤ length (pages_pushed cache pages) → length (pages_pushed cache pages) ≤ 8
    → All (λ page. page < cache.geometry.pages) pages → AllByRecursion IsFrame (frames_given pages changed contents)
    → HasFrames cache.geometry (frames_pushed cache site.image pages changed contents) (group (frames_pushed cache site.image pages changed contents))
pushed_has cache site groups going holds pages changed contents marks lists some few exist are =
    let front : List Frame = get_or groups 0 [] in
    let versions : ℕ → List ℕ = version_on cache.geometry site.image in
    let again : List Frame = map (chance_given versions) (chance_marks cache) in
    let given : List Frame = frames_given pages changed contents in
    let is = stored cache groups site.image going.few going.limits.groups holds in
    let low = inside cache site groups going holds (chance_marks cache) (chances_numbered cache) in
    let both = length-append again given in
    let first = length-mapped (chance_given versions) (chance_marks cache) in
    let second = length-given pages changed contents marks lists in
    let all = length-append (map (λ (f : Placed). f.1.page) (chance_marks cache)) pages in
    let numbers = length-mapped (λ (f : Placed). f.1.page) (chance_marks cache) in
    record {
      is_group = record {
        some = omega (arith, some, both, first, second, all, numbers);
        room = omega (arith, few, both, first, second, all, numbers);
        are_frames = all_append IsFrame again given (subst (AllByRecursion IsFrame) (sym is) (all_at IsFrame front (chance_marks cache) (front_has cache.geometry groups holds.has.are_groups) low)) are;
        spelled = refl;
      };
      exist = all_append (λ (frame : Frame). frame.page < cache.geometry.pages) again given
          (subst (AllByRecursion (λ (frame : Frame). frame.page < cache.geometry.pages)) (sym is) (all_at (λ (frame : Frame). frame.page < cache.geometry.pages) front (chance_marks cache) (front_of_pages cache.geometry groups holds.has.are_groups) low))
          (given_exist cache.geometry.pages pages changed contents exist);
    }

-- the pages given are no more than the group has
pub given_few : (cache : FlashCache) (pages : List ℕ) → length (pages_pushed cache pages) ≤ 8 → length pages ≤ 8
given_few cache pages few = let all = length-append (map (λ (f : Placed). f.1.page) (chance_marks cache)) pages in omega (arith, all, few)

-- two lists and a content in a statement are those that they are equal to
pub with_parts : (P : List ℕ → List (List ℕ) → List ℕ → Type 0) (a a' : List ℕ) (b b' : List (List ℕ)) (c c' : List ℕ) → a ≡ a' → b ≡ b' → c ≡ c' → P a b c → P a' b' c'
with_parts P a a' b b' c c' first second third p = grind (arith, common_steps)
