-- What a push keeps and gives, of each image that it leaves and of the cache.
use Rattle.flash_cache.proofs.Names.{◌≡◌, ◌≢◌, inl, inr, ℕ, ◌<◌, ◌≤◌, Bool, false, cond, List, [], ◌∷◌, ◌++◌, length, get_or, map, drop, Option, Some, None, arith, refl, sym, ap, subst, ◌∙◌, append_assoc, get_or_default, AllPairs, Contains, Result, OnOk, IsErrOf, HasLastStaged, no_frame, front_leaves, staged_pages, staged_contents, chance_marks, chance_given, frames_given, known_given, frames_pushed, known_pushed, pushed_groups, pushed_queue, changes_of_push, changes_before, changes_of_group, LeavesPushBehind, Invariant, Matches, HasGroups, HasFrames, AreSaved, Represents, AllTogether, Shows, frames_on, disk_on, version_on, IsCleanOn, FlashCache, last_by_index, none_by_index, last_is_of_page, new_version, other_versions, push_keeps_clean, Frame, group, last_frame, version, version_by, CleanAsDisk, Change, AppendsGroup, Reaches, IsFrontOf, chance_frame, rules_of, staged_in_push, Placed, chances_given, Queue, has_frame, leaves_weaker, LeavesOnly, State, Image, Snapshot, IsQuiet, Geometry, Stop, Foreign, HasStaged, changes_of, all_append, ok_both, is_due, changes_of_save, LeavesGaps}
use Rattle.flash_cache.specs.Kept.{KeepsVersions, GivesVersions, LeavesVersions, AreCleanGiven, LeavesClean, PushesGroup}
use Rattle.flash_cache.proofs.PushLaws.{push_front}
use Rattle.flash_cache.specs.Laws.{UnframedIsDisk}
use Rattle.flash_cache.proofs.Given.{length-given, given_at}
use Rattle.flash_cache.proofs.Queues.{joined}
use Rattle.flash_cache.proofs.StagedFrames.{frames_at, not_in_groups}
use Rattle.flash_cache.proofs.PushedVersions.{AreStaged, page_beside, unframed, staged_versions, staged_clean, dropped_version, dropped_clean}
use Rattle.flash_cache.proofs.PushedImages.{OnlyBefore, Keeps, Grown, front_of, rest_of, joined_parts, joined_more, frames_are, kept_groups, grown_groups, last_stands, are_staged, chances_stored, keeps_by, grown_by, front_only, staging_only, saving_only}
use Rattle.flash_cache.proofs.Segments.{groups_are, saved_front, saved_behind, with_pushed}
use Rattle.std.proofs.lemmas.Grind.{common_steps}

-- a page without a frame
pub unframed_is_disk : UnframedIsDisk
unframed_is_disk cache image groups page holds none =
    ap (λ (l : List Frame). version (disk_on image) l page) (frames_are cache.geometry cache.directory.first groups image holds.has)
    ∙ ap (λ (o : Option Frame). version_by o (disk_on image page)) (not_in_groups cache.directory.groups groups page holds.shown none)

-- the pages given

module _ (pages : List ℕ) (changed : List Bool) (contents : List (List ℕ)) (marks : length changed ≡ length pages) (lists : length contents ≡ length pages) (differ : AllPairs (λ a b. a ≢ b) pages) where
  abbrev frames : List Frame
  frames = frames_given pages changed contents

  at : (k : ℕ) → k < length pages → get_or frames k no_frame ≡ record { page = get_or pages k 0; dirty = get_or changed k false; octets = get_or contents k [] }
  at k lt = given_at pages changed contents k no_frame marks lists lt

  given_last : (k : ℕ) → k < length pages → last_frame (get_or pages k 0) frames ≡ Some (get_or frames k no_frame)
  given_last k lt = grind (arith, common_steps, length-given, last_by_index, at)

  given_none : (page : ℕ) → (Contains pages page → ⊥) → last_frame page frames ≡ None
  given_none page out =
      let long = length-given pages changed contents marks lists in
      none_by_index page frames no_frame (λ j below same.
      let low : j < length pages = omega (arith, below, long) in
      out (j, low, get_or_default pages j page 0 low ∙ sym (ap (λ (f : Frame). f.page) (at j low)) ∙ same))

module _ (cache : FlashCache) (groups : List (List Frame)) (old : Image) (few : length cache.directory.groups < cache.geometry.groups) (room : 8 ≤ cache.geometry.groups) (holds : Represents cache old groups) where
  abbrev g : Geometry
  g = cache.geometry

  abbrev leaves : Bool
  leaves = front_leaves cache

  abbrev front : List Frame
  front = front_of leaves groups

  abbrev rest : List Frame
  rest = joined (rest_of leaves groups)

  -- the second chances
  abbrev chances : List Frame
  chances = frames_at (get_or groups 0 []) (chance_marks cache)

  are : AreStaged front rest chances (staged_pages cache) (staged_contents cache groups)
  are = are_staged chances_given leaves cache.directory.groups groups holds.shown

  old_frames : frames_on g old ≡ front ++ rest
  old_frames = frames_are g cache.directory.first groups old holds.has ∙ sym (joined_parts leaves groups)

  pub stored : map (chance_given (version_on g old)) (chance_marks cache) ≡ chances
  stored = chances_stored chances_given leaves cache.directory.groups groups (version_on g old) (disk_on old) holds.shown (λ page. ap (λ (l : List Frame). version (disk_on old) l page) old_frames)

  -- before the append
  module _ (new : Image) (keeps : Keeps g (staged_pages cache) old new) where
    same : (page : ℕ) → (Contains (staged_pages cache) page → ⊥) → disk_on new page ≡ disk_on old page
    same page out = page_beside (staged_pages cache) old.disk new.disk page keeps.beside out

    has_still : HasGroups g cache.directory.first groups new
    has_still = kept_groups g cache.directory.first groups old new holds.has keeps.units

    new_frames : frames_on g new ≡ front ++ rest
    new_frames = frames_are g cache.directory.first groups new has_still ∙ sym (joined_parts leaves groups)

    pub keeps_versions : AreSaved g groups new → KeepsVersions g cache.directory.first groups old new
    keeps_versions saved = record {
      has = has_still;
      saved = saved;
      versions = λ page.
          ap (λ (l : List Frame). version (disk_on new) l page) new_frames
          ∙ staged_versions front rest chances (staged_pages cache) (staged_contents cache groups) are (disk_on old) (disk_on new) same page
          ∙ ap (λ (l : List Frame). version (disk_on old) l page) (sym old_frames);
    }

    pub keeps_clean : IsCleanOn g old → IsCleanOn g new
    keeps_clean clean =
        subst (CleanAsDisk (disk_on new)) (sym new_frames)
        (staged_clean front rest chances (staged_pages cache) (staged_contents cache groups) are (disk_on old) (disk_on new) same (subst (CleanAsDisk (disk_on old)) old_frames clean))

  -- behind it
  module _ (pages : List ℕ) (changed : List Bool) (contents : List (List ℕ)) (marks : length changed ≡ length pages) (lists : length contents ≡ length pages) (differ : AllPairs (λ a b. a ≢ b) pages)
      (own : HasFrames g (frames_pushed cache old pages changed contents) (group (frames_pushed cache old pages changed contents))) (new : Image)
      (staged : HasStaged (staged_pages cache) (staged_contents cache groups) old.disk new.disk) (grown : Grown g (group (frames_pushed cache old pages changed contents)) old new) where
    abbrev given : List Frame
    given = frames_given pages changed contents

    abbrev new_group : List Frame
    new_group = frames_pushed cache old pages changed contents

    same_then : (page : ℕ) → (Contains (staged_pages cache) page → ⊥) → disk_on new page ≡ disk_on old page
    same_then page out = page_beside (staged_pages cache) old.disk new.disk page (record { size = staged.size; beside = staged.beside }) out

    pub has_then : HasGroups g (pushed_queue cache (known_pushed cache pages changed)).first (pushed_groups cache groups new_group) new
    has_then = grown_groups cache groups holds.shown few room (known_pushed cache pages changed) new_group old new leaves refl holds.has own grown

    frames_then : frames_on g new ≡ (rest ++ chances) ++ given
    frames_then =
        frames_are g (pushed_queue cache (known_pushed cache pages changed)).first (pushed_groups cache groups new_group) new has_then ∙ joined_more (rest_of leaves groups) new_group
        ∙ ap (λ (l : List Frame). rest ++ (l ++ given)) stored ∙ sym (append_assoc rest chances given)

    pub gives_versions : IsCleanOn g old → AreSaved g (pushed_groups cache groups new_group) new
        → GivesVersions g (pushed_queue cache (known_pushed cache pages changed)).first (pushed_groups cache groups new_group) pages contents old new
    gives_versions clean saved = record {
      has = has_then;
      saved = saved;
      given = λ k lt.
          ap (λ (l : List Frame). version (disk_on new) l (get_or pages k 0)) frames_then
          ∙ new_version (disk_on new) (rest ++ chances) given (get_or pages k 0) (get_or given k no_frame) (given_last pages changed contents marks lists differ k lt)
          ∙ ap (λ (f : Frame). f.octets) (given_at pages changed contents k no_frame marks lists lt);
      others = λ page out.
          ap (λ (l : List Frame). version (disk_on new) l page) frames_then
          ∙ other_versions (disk_on new) (rest ++ chances) given page (given_none pages changed contents marks lists differ page out)
          ∙ dropped_version front rest chances (staged_pages cache) (staged_contents cache groups) are (disk_on old) (disk_on new) same_then staged.here (subst (CleanAsDisk (disk_on old)) old_frames clean) page
          ∙ ap (λ (l : List Frame). version (disk_on old) l page) (sym old_frames);
    }

    given_clean : AreCleanGiven cache pages changed contents old → CleanAsDisk (disk_on new) given
    given_clean are_clean page frame last clean =
        let found = last_stands page given frame last in
        let k : ℕ = found.0 in
        let long = length-given pages changed contents marks lists in
        let low : k < length pages = let lt = found.1 in omega (arith, lt, long) in
        let is = sym (given_at pages changed contents k no_frame marks lists low) ∙ found.2 in
        let page_is : get_or pages k 0 ≡ page = ap (λ (f : Frame). f.page) is ∙ last_is_of_page page given frame last in
        let facts = are_clean k low (ap (λ (f : Frame). f.dirty) is ∙ clean) in
        let none : last_frame page (front ++ rest) ≡ None =
        ap (last_frame page) (joined_parts leaves groups) ∙ not_in_groups cache.directory.groups groups page holds.shown (ap (has_frame cache.directory) (sym page_is) ∙ facts.0) in
        ap (λ (f : Frame). f.octets) (sym is) ∙ facts.1 ∙ ap (disk_on old) page_is
        ∙ sym (same_then page (unframed front rest chances (staged_pages cache) (staged_contents cache groups) are (disk_on old) (disk_on new) same_then page none))

    pub gives_clean : IsCleanOn g old → AreCleanGiven cache pages changed contents old → IsCleanOn g new
    gives_clean clean are_clean =
        subst (CleanAsDisk (disk_on new)) (sym frames_then)
        (push_keeps_clean (disk_on new) (rest ++ chances) given
        (dropped_clean front rest chances (staged_pages cache) (staged_contents cache groups) are (disk_on old) (disk_on new) same_then staged.here (subst (CleanAsDisk (disk_on old)) old_frames clean))
        (given_clean are_clean))

-- the cache

together_more : {A B : Type 0} (R : A → B → Type 0) (xs : List A) (ys : List B) (x : A) (y : B) → AllTogether R xs ys → R x y → AllTogether R (xs ++ x ∷ []) (ys ++ y ∷ [])
together_more R [] [] x y all r = (r, tt)
together_more R [] (b ∷ bs) x y all r = absurd all
together_more R (a ∷ as') [] x y all r = absurd all
together_more R (a ∷ as') (b ∷ bs) x y all r = (all.0, together_more R as' bs x y all.1 r)

together_behind : {A B : Type 0} (R : A → B → Type 0) (b : Bool) (xs : List A) (ys : List B) → AllTogether R xs ys → AllTogether R (cond b (drop 1 xs) xs) (cond b (drop 1 ys) ys)
together_behind R b xs ys h = grind (arith, common_steps)

given_shown : (pages : List ℕ) (changed : List Bool) (contents : List (List ℕ)) → length changed ≡ length pages → length contents ≡ length pages → AllTogether Shows (known_given pages changed) (frames_given pages changed contents)
given_shown [] changed contents marks lists = tt
given_shown (p ∷ pages) [] contents marks lists = absurd (omega (arith, marks))
given_shown (p ∷ pages) (c ∷ changed) [] marks lists = absurd (omega (arith, lists))
given_shown (p ∷ pages) (c ∷ changed) (o ∷ contents) marks lists = (record { page = refl; dirty = refl }, given_shown pages changed contents (omega (arith, marks)) (omega (arith, lists)))

together_append : {A B : Type 0} (R : A → B → Type 0) (xs xs' : List A) (ys ys' : List B) → AllTogether R xs ys → AllTogether R xs' ys' → AllTogether R (xs ++ xs') (ys ++ ys')
together_append R [] xs' [] ys' all others = others
together_append R [] xs' (b ∷ bs) ys' all others = absurd all
together_append R (a ∷ as') xs' [] ys' all others = absurd all
together_append R (a ∷ as') xs' (b ∷ bs) ys' all others = (all.0, together_append R as' xs' bs ys' all.1 others)

chances_shown : (versions : ℕ → List ℕ) (marks : List Placed) → AllTogether Shows (map chance_frame marks) (map (chance_given versions) marks)
chances_shown versions [] = tt
chances_shown versions (f ∷ marks) = (record { page = refl; dirty = refl }, chances_shown versions marks)

holds_pushed : (cache : FlashCache) (groups : List (List Frame)) (old : Image) (pages : List ℕ) (changed : List Bool) (contents : List (List ℕ)) (later : FlashCache) (new : Image) → Represents cache old groups
    → length changed ≡ length pages → length contents ≡ length pages → later.geometry ≡ cache.geometry → later.directory ≡ pushed_queue cache (known_pushed cache pages changed)
    → HasGroups cache.geometry (pushed_queue cache (known_pushed cache pages changed)).first (pushed_groups cache groups (frames_pushed cache old pages changed contents)) new
    → AreSaved cache.geometry (pushed_groups cache groups (frames_pushed cache old pages changed contents)) new → Represents later new (pushed_groups cache groups (frames_pushed cache old pages changed contents))
holds_pushed cache groups old pages changed contents later new holds marks lists geometry queue has saved =
    let pushed : List (List Frame) = pushed_groups cache groups (frames_pushed cache old pages changed contents) in
    record {
      has = subst (λ (g : Geometry). HasGroups g later.directory.first pushed new) (sym geometry)
          (subst (λ (q : Queue). HasGroups cache.geometry q.first pushed new) (sym queue) has);
      saved = subst (λ (g : Geometry). AreSaved g pushed new) (sym geometry) saved;
      shown = subst (λ (q : Queue). AllTogether (AllTogether Shows) q.groups pushed) (sym queue)
          (together_more (AllTogether Shows) _ _ _ _ (together_behind (AllTogether Shows) (front_leaves cache) cache.directory.groups groups holds.shown)
          (together_append Shows (map chance_frame (chance_marks cache)) (known_given pages changed) (map (chance_given (version_on cache.geometry old)) (chance_marks cache)) (frames_given pages changed contents)
          (chances_shown (version_on cache.geometry old) (chance_marks cache)) (given_shown pages changed contents marks lists)));
    }

-- of each snapshot, and behind the push
module _ (cache : FlashCache) (groups : List (List Frame)) (old : State) (going : Invariant cache old) (fits : Matches cache old) (holds : Represents cache old.image groups)
    (pages : List ℕ) (changed : List Bool) (contents : List (List ℕ)) (marks : length changed ≡ length pages) (lists : length contents ≡ length pages) (differ : AllPairs (λ a b. a ≢ b) pages)
    (own : HasFrames cache.geometry (frames_pushed cache old.image pages changed contents) (group (frames_pushed cache old.image pages changed contents))) where
  abbrev pushed_frames : List Frame
  pushed_frames = frames_pushed cache old.image pages changed contents

  abbrev pushed_content : List ℕ
  pushed_content = group pushed_frames

  abbrev due : Bool
  due = is_due cache.ring.hi cache.segments.hi

  abbrev before : List Change
  before = changes_of_save due groups

  few : length cache.directory.groups < cache.geometry.groups
  few = going.few

  room : 8 ≤ cache.geometry.groups
  room = going.limits.groups

  abbrev PushesBehind : List Change → Snapshot → Type 0
  PushesBehind l = LeavesPushBehind cache.geometry l (staged_pages cache) (staged_contents cache groups) pushed_content old

  abbrev Pushes : Snapshot → Type 0
  Pushes = PushesBehind before

  -- the groups that are read off the image are these
  as_saved : (P : List Change → Type 0) → P (changes_before cache old.image) → P before
  as_saved P is = subst (λ (gs : List (List Frame)). P (changes_of_save due gs)) (groups_are cache.geometry cache.directory.first groups old.image holds.has) is

  only : OnlyBefore (staged_pages cache) (before ++ changes_of (staged_pages cache))
  only = all_append _ before (changes_of (staged_pages cache)) (saving_only due groups (staged_pages cache)) (staging_only (staged_pages cache))

  kept_by : (s : Snapshot) (changes : List Change) → IsFrontOf (before ++ changes_of (staged_pages cache)) changes → Reaches cache.geometry changes old.image s.image → Keeps cache.geometry (staged_pages cache) old.image s.image
  kept_by s changes front reaches = keeps_by cache.geometry (staged_pages cache) changes old.image s.image (front_only (staged_pages cache) (before ++ changes_of (staged_pages cache)) changes only front) reaches

  saved_still : (s : Snapshot) (changes : List Change) → IsFrontOf (before ++ changes_of (staged_pages cache)) changes → Reaches cache.geometry changes old.image s.image → AreSaved cache.geometry groups s.image
  saved_still s changes front reaches =
      saved_front cache.geometry going.limits cache.directory.first groups old.image holds.has holds.saved cache.ring.hi cache.segments.hi fits.hi fits.segments_hi going.rings.high
      (staged_pages cache) changes s.image due refl front reaches

  made_by : (new : Image) → Reaches cache.geometry (before ++ changes_of_push (staged_pages cache) pushed_content) old.image new → Grown cache.geometry pushed_content old.image new
  made_by new reaches =
      grown_by cache.geometry (staged_pages cache) pushed_content (before ++ changes_of (staged_pages cache)) old.image new only
      (subst (λ (l : List Change). Reaches cache.geometry l old.image new) (sym (append_assoc before (changes_of (staged_pages cache)) (AppendsGroup pushed_content ∷ []))) reaches)

  saved_then : (new : Image) → Reaches cache.geometry (before ++ changes_of_push (staged_pages cache) pushed_content) old.image new → AreSaved cache.geometry (pushed_groups cache groups pushed_frames) new
  saved_then new reaches =
      subst (λ (gs : List (List Frame)). AreSaved cache.geometry gs new) (with_pushed cache groups pushed_frames holds.shown few room)
      (saved_behind cache.geometry going.limits cache.directory.first groups old.image holds.has holds.saved cache.ring.hi cache.segments.hi fits.hi fits.segments_hi going.rings.high
      (staged_pages cache) pushed_frames new due refl own reaches)

  pub leaves_versions : (new : State) → IsCleanOn cache.geometry old.image → LeavesOnly old new (PushesBehind (changes_before cache old.image)) → LeavesOnly old new (LeavesVersions cache groups pages changed contents old)
  leaves_versions new clean leaves = leaves_weaker old new Pushes (LeavesVersions cache groups pages changed contents old) (λ s is. record {
    told = is.told;
    either = elim is.either [
      | inl part ↦ inl (keeps_versions cache groups old.image few room holds s.image (kept_by s part.0 part.1 part.2) (saved_still s part.0 part.1 part.2))
      | inr all ↦ inr (gives_versions cache groups old.image few room holds pages changed contents marks lists differ own s.image all.0 (made_by s.image all.1) clean (saved_then s.image all.1))
    ];
  }) (as_saved (λ l. LeavesOnly old new (PushesBehind l)) leaves)

  pub leaves_clean : (new : State) → IsCleanOn cache.geometry old.image → AreCleanGiven cache pages changed contents old.image → LeavesOnly old new (PushesBehind (changes_before cache old.image)) → LeavesOnly old new (LeavesClean cache.geometry)
  leaves_clean new clean given leaves = leaves_weaker old new Pushes (LeavesClean cache.geometry) (λ s is. elim is.either [
    | inl part ↦ keeps_clean cache groups old.image few room holds s.image (kept_by s part.0 part.1 part.2) clean
    | inr all ↦ gives_clean cache groups old.image few room holds pages changed contents marks lists differ own s.image all.0 (made_by s.image all.1) clean given
  ]) (as_saved (λ l. LeavesOnly old new (PushesBehind l)) leaves)

  -- behind it
  module _ (cache' : FlashCache) (new : Image) (staged : HasStaged (staged_pages cache) (staged_contents cache groups) old.image.disk new.disk)
      (reaches : Reaches cache.geometry (changes_of_group cache old.image pages changed contents) old.image new) (queue : cache'.directory ≡ pushed_queue cache (known_pushed cache pages changed)) where
    made : Reaches cache.geometry (before ++ changes_of_push (staged_pages cache) pushed_content) old.image new
    made = as_saved (λ l. Reaches cache.geometry (l ++ changes_of_push (staged_pages cache) pushed_content) old.image new) reaches

    pub gives_behind : IsCleanOn cache.geometry old.image → GivesVersions cache.geometry cache'.directory.first (pushed_groups cache groups pushed_frames) pages contents old.image new
    gives_behind clean =
        subst (λ (q : Queue). GivesVersions cache.geometry q.first (pushed_groups cache groups pushed_frames) pages contents old.image new) (sym queue)
        (gives_versions cache groups old.image few room holds pages changed contents marks lists differ own new staged (made_by new made) clean (saved_then new made))

    pub clean_behind : IsCleanOn cache.geometry old.image → AreCleanGiven cache pages changed contents old.image → IsCleanOn cache.geometry new
    clean_behind clean given = gives_clean cache groups old.image few room holds pages changed contents marks lists differ own new staged (made_by new made) clean given

    pub holds_behind : cache'.geometry ≡ cache.geometry → Represents cache' new (pushed_groups cache groups pushed_frames)
    holds_behind geometry =
        holds_pushed cache groups old.image pages changed contents cache' new holds marks lists geometry queue
        (has_then cache groups old.image few room holds pages changed contents marks lists differ own new staged (made_by new made)) (saved_then new made)

  -- all of it, by the moments, and by what is reached
  pub pushes_group : {T : Type 0} (result : Result T Stop) (cache' : FlashCache) (new : State) → (IsQuiet old → LeavesOnly old new (PushesBehind (changes_before cache old.image))) → (IsQuiet old → LeavesGaps cache.geometry old new)
      → OnOk result (Reaches cache.geometry (changes_of_group cache old.image pages changed contents) old.image new.image) → OnOk result (HasStaged (staged_pages cache) (staged_contents cache groups) old.image.disk new.image.disk)
      → (IsQuiet old → OnOk result (HasLastStaged cache.geometry (staged_in_push (rules_of 0 cache.geometry.groups) cache.directory) old new)) → OnOk result (cache'.directory ≡ pushed_queue cache (known_pushed cache pages changed))
      → cache'.geometry ≡ cache.geometry → (IsErrOf result Foreign → ⊥) → PushesGroup result cache cache' groups pages changed contents old new
  pushes_group result cache' new any gaps reaches staged last queue geometry foreign =
      let Both : Type 0 = HasStaged (staged_pages cache) (staged_contents cache groups) old.image.disk new.image.disk × Reaches cache.geometry (changes_of_group cache old.image pages changed contents) old.image new.image in
      let both = ok_both result _ _ Both (λ s r. (s, r)) staged reaches in
      record {
        any_moment = any;
        front = λ quiet. push_front cache.geometry _ _ _ _ old new (any quiet);
        gaps = gaps;
        reaches = reaches;
        staged = staged;
        last = last;
        frames = own;
        versions = λ quiet clean. leaves_versions new clean (any quiet);
        gives = λ clean. ok_both result Both _ _ (λ b q. gives_behind cache' new.image b.0 b.1 q clean) both queue;
        clean_moment = λ quiet clean given. leaves_clean new clean given (any quiet);
        clean = λ clean given. ok_both result Both _ _ (λ b q. clean_behind cache' new.image b.0 b.1 q clean given) both queue;
        holds = ok_both result Both _ _ (λ b q. holds_behind cache' new.image b.0 b.1 q geometry) both queue;
        foreign = foreign;
      }
