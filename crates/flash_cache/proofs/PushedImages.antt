-- The images that a push leaves: its changes, the groups that stand there, and the versions of pages.
use Rattle.flash_cache.proofs.Names.{◌≡◌, ◌⊎◌, inl, inr, ℕ, zero, suc, ◌+◌, ◌-◌, ◌<◌, ◌≤◌, ◌==◌, Bool, true, false, cond, List, [], ◌∷◌, ◌++◌, length, get_or, map, drop, Option, Some, None, arith, refl, sym, ap, subst, ◌∙◌, length-append, append_assoc, append-nil, map-append, get_or-map, length-map, recursion_from_All, none-some, same_Some, cond_some, AllByRecursion, Contains, option_or, no_mark, no_frame, front_leaves, chance_given, HasGroups, HasFrames, AllTogether, Shows, frames_on, FlashCache, last_of_both, last_is_of_page, Frame, group, frames_of, last_frame, version, Change, RewritesPages, AppendsGroup, AppendsSegment, Makes, Reaches, IsFrontOf, Groups, group_shape, units_on, KeepsUnits, Units, IsRing, hi_of, appended, last_of, staged_stand_in, Placed, chances_of, staged_of, group_marks, front_marks, pushed, Known, Image, Geometry, Disk, changes_of, all_left, all_push, map_same, changes_of_save}
use Rattle.flash_cache.proofs.Queues.{joined, frames_of_groups, together_length}
use Rattle.flash_cache.proofs.Pushing.{leaves_when, stays_when}
use Rattle.flash_cache.proofs.Standing.{length-mapped}
use Rattle.flash_cache.proofs.StagedFrames.{Stands, frames_at, each_staged, each_chance, found_staged}
use Rattle.flash_cache.proofs.PushedVersions.{IsBeside, AreStaged, some_is_some}
use Rattle.std.proofs.lemmas.Grind.{common_steps}

-- changes before a group is appended: these pages are rewritten, or a segment is appended
abbrev IsBefore : List ℕ → Change → Type 0
IsBefore pages change = (change ≡ RewritesPages pages) ⊎ ((content : List ℕ) × (change ≡ AppendsSegment content))

abbrev pub OnlyBefore : List ℕ → List Change → Type 0
OnlyBefore pages changes = AllByRecursion (IsBefore pages) changes

pub staging_only : (pages : List ℕ) → OnlyBefore pages (changes_of pages)
staging_only [] = tt
staging_only (page ∷ pages) = (inl refl, tt)

pub saving_only : (due : Bool) (groups : List (List Frame)) (pages : List ℕ) → OnlyBefore pages (changes_of_save due groups)
saving_only due groups pages = grind (arith, common_steps)

pub front_only : (pages : List ℕ) (all changes : List Change) → OnlyBefore pages all → IsFrontOf all changes → OnlyBefore pages changes
front_only pages all changes only is = all_left (IsBefore pages) changes is.0 (subst (OnlyBefore pages) is.1 only)

pub made_as : (g : Geometry) (change as' : Change) (a b : Image) → change ≡ as' → Makes g change a b → Makes g as' a b
made_as g change as' a b is makes = let P : Change → Type 0 = λ (c : Change). Makes g c a b in subst P is makes

-- they leave the groups, and the disk beside the pages
pub record Keeps (g : Geometry) (pages : List ℕ) (old new : Image) : Type 0 where
  pub beside : IsBeside pages old.disk new.disk
  pub units : KeepsUnits (group_shape g) old new

one_keeps : (g : Geometry) (pages : List ℕ) (change : Change) (a b : Image) → IsBefore pages change → Makes g change a b → Keeps g pages a b
one_keeps g pages change a b (inl is) makes =
    let first = made_as g change (RewritesPages pages) a b is makes in
    record { beside = record { size = first.sizes Disk; beside = first.others }; units = first.rings Groups }
one_keeps g pages change a b (inr is) makes =
    let first = made_as g change (AppendsSegment is.0) a b is.1 makes in
    record {
      beside = record { size = first.sizes Disk; beside = λ place out. ap (λ (d : List ℕ). get_or d place 0) first.disk };
      units = first.others Groups (λ same. cc);
    }

pub keeps_by : (g : Geometry) (pages : List ℕ) (changes : List Change) (a b : Image) → OnlyBefore pages changes → Reaches g changes a b → Keeps g pages a b
keeps_by g pages [] a b only reaches = record {
  beside = record { size = reaches.sizes Disk; beside = λ place out. ap (λ (d : List ℕ). get_or d place 0) reaches.disk };
  units = reaches.rings Groups;
}
keeps_by g pages (change ∷ changes) a b only reaches =
    let mid : Image = reaches.0 in
    let first = one_keeps g pages change a mid only.0 reaches.1 in
    let rest = keeps_by g pages changes mid b only.1 reaches.2 in
    record {
      beside = record { size = rest.beside.size ∙ first.beside.size; beside = λ place out. rest.beside.beside place out ∙ first.beside.beside place out };
      units = record { units = rest.units.units ∙ first.units.units; form = λ form. rest.units.form (first.units.form form) };
    }

-- and once the group is appended, it stands behind the others
pub record Grown (g : Geometry) (content : List ℕ) (old new : Image) : Type 0 where
  pub form : IsRing (group_shape g) new.flash
  pub units : units_on (group_shape g) new ≡ appended (group_shape g) (units_on (group_shape g) old) content

pub grown_by : (g : Geometry) (pages : List ℕ) (content : List ℕ) (changes : List Change) (a b : Image) → OnlyBefore pages changes → Reaches g (changes ++ AppendsGroup content ∷ []) a b → Grown g content a b
grown_by g pages content [] a b only reaches = record { form = (reaches.2.rings Groups).form reaches.1.form; units = (reaches.2.rings Groups).units ∙ reaches.1.units }
grown_by g pages content (change ∷ changes) a b only reaches =
    let mid : Image = reaches.0 in
    let first = one_keeps g pages change a mid only.0 reaches.1 in
    let rest = grown_by g pages content changes mid b only.1 reaches.2 in
    record { form = rest.form; units = rest.units ∙ ap (λ (u : Units). appended (group_shape g) u content) first.units.units }

-- the groups that stand there

pub kept_groups : (g : Geometry) (first : ℕ) (groups : List (List Frame)) (old new : Image) → HasGroups g first groups old → KeepsUnits (group_shape g) old new → HasGroups g first groups new
kept_groups g first groups old new has keeps = grind (arith, common_steps)

pub frames_are : (g : Geometry) (first : ℕ) (groups : List (List Frame)) (image : Image) → HasGroups g first groups image → frames_on g image ≡ joined groups
frames_are g first groups image has = ap frames_of has.live ∙ frames_of_groups g groups has.are_groups

pub joined_more : (groups : List (List Frame)) (frames : List Frame) → joined (groups ++ frames ∷ []) ≡ joined groups ++ frames
joined_more [] frames = append-nil frames
joined_more (x ∷ groups) frames = ap (λ (l : List Frame). x ++ l) (joined_more groups frames) ∙ sym (append_assoc x (joined groups) frames)

-- what stays of the groups, and what leaves
abbrev pub rest_of : Bool → List (List Frame) → List (List Frame)
rest_of b groups = cond b (drop 1 groups) groups

abbrev pub front_of : Bool → List (List Frame) → List Frame
front_of b groups = cond b (get_or groups 0 []) []

pub joined_parts : (b : Bool) (groups : List (List Frame)) → front_of b groups ++ joined (rest_of b groups) ≡ joined groups
joined_parts b groups = grind (arith, common_steps)

-- a group more
module _ (g : Geometry) (first : ℕ) (groups : List (List Frame)) (frames : List Frame) (old new : Image) (has : HasGroups g first groups old) (own : HasFrames g frames (group frames)) (grown : Grown g (group frames) old new) where
  hi_is : hi_of (group_shape g) new.flash ≡ hi_of (group_shape g) old.flash + 1
  hi_is = ap (λ (u : Units). u.hi) grown.units

  live_is : (units_on (group_shape g) new).live ≡ last_of (g.groups - 1) (map group groups ++ group frames ∷ [])
  live_is = ap (λ (u : Units). u.live) grown.units ∙ ap (λ (l : List (List ℕ)). last_of (g.groups - 1) (l ++ group frames ∷ [])) has.live

  long : length (map group groups ++ group frames ∷ []) ≡ length groups + 1
  long = length-append (map group groups) (group frames ∷ []) ∙ ap (λ (n : ℕ). n + 1) (length-mapped group groups)

  next_is : (n : ℕ) (rest : List (List Frame)) → first + length groups + 1 ≡ n + length (rest ++ frames ∷ []) → n + length (rest ++ frames ∷ []) ≡ hi_of (group_shape g) new.flash
  next_is n rest is = let next = has.next in let hi = hi_is in omega (arith, is, next, hi)

  pub grown_behind : length groups < g.groups - 1 → HasGroups g first (groups ++ frames ∷ []) new
  grown_behind few = record {
    form = grown.form;
    next = next_is first groups (let n = length-append groups (frames ∷ []) in omega (arith, n));
    are_groups = all_push (λ fs. HasFrames g fs (group fs)) groups frames has.are_groups own;
    live = live_is ∙ ap (λ (n : ℕ). drop n (map group groups ++ group frames ∷ [])) (let n = long in let none : length (map group groups ++ group frames ∷ []) - (g.groups - 1) ≡ 0 = omega (arith, n, few) in none)
        ∙ sym (map-append group groups (frames ∷ []));
  }

pub grown_full : (g : Geometry) (first : ℕ) (groups : List (List Frame)) (frames : List Frame) (old new : Image) → HasGroups g first groups old → HasFrames g frames (group frames) → Grown g (group frames) old new
    → length groups ≡ g.groups - 1 → 0 < length groups → HasGroups g (first + 1) (drop 1 groups ++ frames ∷ []) new
grown_full g first [] frames old new has own grown full some = absurd (omega (arith, some))
grown_full g first (x ∷ groups) frames old new has own grown full some = record {
  form = grown.form;
  next = next_is g first (x ∷ groups) frames old new has own grown (first + 1) groups (let n = length-append groups (frames ∷ []) in omega (arith, n));
  are_groups = all_push (λ fs. HasFrames g fs (group fs)) groups frames has.are_groups.1 own;
  live = live_is g first (x ∷ groups) frames old new has own grown
      ∙ ap (λ (n : ℕ). drop n (map group (x ∷ groups) ++ group frames ∷ [])) (let n = long g first (x ∷ groups) frames old new has own grown in let one : length (map group (x ∷ groups) ++ group frames ∷ []) - (g.groups - 1) ≡ 1 = omega (arith, n, full) in one)
      ∙ sym (map-append group groups (frames ∷ []));
}

-- of the cache
module _ (cache : FlashCache) (groups : List (List Frame)) (shown : AllTogether (AllTogether Shows) cache.directory.groups groups) (few : length cache.directory.groups < cache.geometry.groups) (room : 8 ≤ cache.geometry.groups) where
  many : length cache.directory.groups ≡ length groups
  many = together_length (AllTogether Shows) cache.directory.groups groups shown

  pub grown_groups : (known : List Known) (frames : List Frame) (old new : Image) (b : Bool) → front_leaves cache ≡ b → HasGroups cache.geometry cache.directory.first groups old → HasFrames cache.geometry frames (group frames) → Grown cache.geometry (group frames) old new
      → HasGroups cache.geometry (pushed b known cache.directory).first (rest_of b groups ++ frames ∷ []) new
  grown_groups known frames old new b h h2 h3 h4 = grind (arith, common_steps, leaves_when, many, grown_full, stays_when, grown_behind)

-- a last frame is one of the frames
pub last_stands : (page : ℕ) (frames : List Frame) (frame : Frame) → last_frame page frames ≡ Some frame → (i : ℕ) × (i < length frames) × (get_or frames i no_frame ≡ frame)
last_stands page [] frame last = absurd (none-some frame last)
last_stands page (f ∷ fs) frame last = by (last_frame page fs) refl last (λ x is. last_stands page fs x is)
  where
    by : (o : Option Frame) → last_frame page fs ≡ o → option_or o (cond (f.page == page) (Some f) None) ≡ Some frame
        → ((x : Frame) → last_frame page fs ≡ Some x → (i : ℕ) × (i < length fs) × (get_or fs i no_frame ≡ x)) → (i : ℕ) × (i < suc (length fs)) × (get_or (f ∷ fs) i no_frame ≡ frame)
    by None none is rest = (zero, omega arith, (cond_some (f.page == page) f frame is).1)
    by (Some x) some is rest = let r = rest x some in (suc r.0, (let lt = r.1 in omega (arith, lt)), r.2 ∙ same_Some x frame is)

-- the staged pages and the second chances

none_placed : Placed
none_placed = (0, no_mark)

nothing_staged : (rest chances : List Frame) (contents : List (List ℕ)) → ((page : ℕ) → last_frame page chances ≡ None) → AreStaged [] rest chances [] contents
nothing_staged rest chances contents out = grind (arith, common_steps, none-some)

no_chances : (given : Bool) (frames : List Frame) (page : ℕ) → last_frame page (frames_at frames (chances_of given [])) ≡ None
no_chances true frames page = refl
no_chances false frames page = refl

module _ (given : Bool) (known : List Known) (later : List (List Known)) (frames : List Frame) (rest : List (List Frame)) (shown : AllTogether Shows known frames) (others : AllTogether (AllTogether Shows) later rest) where
  abbrev marks : List Placed
  marks = staged_of given (group_marks known later)

  abbrev again : List Placed
  again = chances_of given (group_marks known later)

  page_is : (j page : ℕ) → j < length marks → get_or (map (λ (f : Placed). f.1.page) marks) j page ≡ page → (get_or marks j none_placed).1.page ≡ page
  page_is j page lt is = sym (get_or-map (λ (f : Placed). f.1.page) marks j none_placed page lt) ∙ is

  -- a frame that stands is the last one of its page
  last_standing : (f : Placed) (page : ℕ) → Stands frames rest f → f.1.page ≡ page → last_frame page (frames ++ joined rest) ≡ Some (get_or frames f.0 no_frame)
  last_standing f page s same = grind (arith, common_steps, joined, last_of_both)

  staged_dirty : (page : ℕ) → Contains (map (λ (f : Placed). f.1.page) marks) page → (frame : Frame) × (last_frame page (frames ++ joined rest) ≡ Some frame) × (frame.dirty ≡ true)
  staged_dirty page listed =
      let j : ℕ = listed.0 in
      let many = length-map marks (λ (f : Placed). f.1.page) in
      let low : j < length marks = let lt = listed.1 in omega (arith, lt, many) in
      let f : Placed = get_or marks j none_placed in
      let s = each_staged known later frames rest shown others given j none_placed low in
      (get_or frames f.0 no_frame, last_standing f page s (page_is j page low listed.2), sym s.dirty ∙ (staged_stand_in given (group_marks known later) j none_placed low).dirty)

  staged_found : (page : ℕ) (frame : Frame) → last_frame page (joined rest) ≡ None → last_frame page frames ≡ Some frame → frame.dirty ≡ true → last_frame page (frames_at frames again) ≡ None
      → (k : ℕ) × (k < length (map (λ (f : Placed). f.1.page) marks)) × (get_or (map (λ (f : Placed). f.1.page) marks) k 0 ≡ page)
      × (get_or (map (λ (f : Placed). (get_or frames f.0 no_frame).octets) marks) k [] ≡ frame.octets)
  staged_found page frame none last dirty unchosen =
      let r = found_staged known later frames rest shown others given page frame none last dirty unchosen in
      let k : ℕ = r.k in
      let many = length-map marks (λ (f : Placed). f.1.page) in
      let low : k < length marks = let lt = r.below in omega (arith, lt, many) in
      let f : Placed = get_or marks k none_placed in
      let s = each_staged known later frames rest shown others given k none_placed low in
      let same : f.1.page ≡ page = sym (get_or-map (λ (p : Placed). p.1.page) marks k none_placed 0 low) ∙ r.is in
      let own : last_frame page frames ≡ Some (get_or frames f.0 no_frame) = ap (λ (p : ℕ). last_frame p frames) (sym same) ∙ s.last in
      let is : get_or frames f.0 no_frame ≡ frame = some_is_some (get_or frames f.0 no_frame) frame (last_frame page frames) own last in
      (k, r.below, r.is, get_or-map (λ (p : Placed). (get_or frames p.0 no_frame).octets) marks k none_placed [] low ∙ ap (λ (x : Frame). x.octets) is)

  chance_last : (page : ℕ) (frame : Frame) → last_frame page (frames_at frames again) ≡ Some frame → last_frame page (frames ++ joined rest) ≡ Some frame
  chance_last page frame last =
      let at = last_stands page (frames_at frames again) frame last in
      let j : ℕ = at.0 in
      let many = length-map again (λ (f : Placed). get_or frames f.0 no_frame) in
      let low : j < length again = let lt = at.1 in omega (arith, lt, many) in
      let f : Placed = get_or again j none_placed in
      let s = each_chance known later frames rest shown others given j none_placed low in
      let is : get_or frames f.0 no_frame ≡ frame = sym (get_or-map (λ (p : Placed). get_or frames p.0 no_frame) again j none_placed no_frame low) ∙ at.2 in
      let same : f.1.page ≡ page = sym (last_is_of_page f.1.page frames (get_or frames f.0 no_frame) s.last) ∙ ap (λ (x : Frame). x.page) is ∙ last_is_of_page page (frames_at frames again) frame last in
      last_standing f page s same ∙ ap (λ (x : Frame). Some x) is

  -- a second chance has its page's version
  chance_is : (versions disk : ℕ → List ℕ) (f : Placed) → Stands frames rest f → ((page : ℕ) → versions page ≡ version disk (frames ++ joined rest) page) → chance_given versions f ≡ get_or frames f.0 no_frame
  chance_is versions disk f s are = grind (arith, common_steps, last_is_of_page, last_standing)

  chances_are : (versions disk : ℕ → List ℕ) → ((page : ℕ) → versions page ≡ version disk (frames ++ joined rest) page) → map (chance_given versions) again ≡ frames_at frames again
  chances_are versions disk are =
      map_same (chance_given versions) (λ (f : Placed). get_or frames f.0 no_frame) again
      (recursion_from_All (λ (f : Placed). chance_given versions f ≡ get_or frames f.0 no_frame) again (λ j d lt. chance_is versions disk (get_or again j d) (each_chance known later frames rest shown others given j d lt) are))

pub are_staged : (given b : Bool) (known : List (List Known)) (groups : List (List Frame)) → AllTogether (AllTogether Shows) known groups
    → AreStaged (front_of b groups) (joined (rest_of b groups)) (frames_at (get_or groups 0 []) (chances_of given (cond b (front_marks known) [])))
    (map (λ f. f.1.page) (staged_of given (cond b (front_marks known) []))) (map (λ f. (get_or (get_or groups 0 []) f.0 no_frame).octets) (staged_of given (cond b (front_marks known) [])))
are_staged given false known groups shown = nothing_staged (joined groups) _ [] (no_chances given (get_or groups 0 []))
are_staged given true [] [] shown = nothing_staged [] _ [] (no_chances given [])
are_staged given true [] (f ∷ fs) shown = absurd shown
are_staged given true (k ∷ ks) [] shown = absurd shown
are_staged given true (k ∷ ks) (f ∷ fs) shown = record { dirty = staged_dirty given k ks f fs shown.0 shown.1; found = staged_found given k ks f fs shown.0 shown.1; chosen = chance_last given k ks f fs shown.0 shown.1 }

-- the second chances, where pages have the versions of these groups
pub chances_stored : (given b : Bool) (known : List (List Known)) (groups : List (List Frame)) (versions disk : ℕ → List ℕ) → AllTogether (AllTogether Shows) known groups
    → ((page : ℕ) → versions page ≡ version disk (front_of b groups ++ joined (rest_of b groups)) page)
    → map (chance_given versions) (chances_of given (cond b (front_marks known) [])) ≡ frames_at (get_or groups 0 []) (chances_of given (cond b (front_marks known) []))
chances_stored true false known groups versions disk shown are = refl
chances_stored false false known groups versions disk shown are = refl
chances_stored true true [] [] versions disk shown are = refl
chances_stored false true [] [] versions disk shown are = refl
chances_stored given true [] (f ∷ fs) versions disk shown are = absurd shown
chances_stored given true (k ∷ ks) [] versions disk shown are = absurd shown
chances_stored given true (k ∷ ks) (f ∷ fs) versions disk shown are = chances_are given k ks f fs shown.0 shown.1 versions disk are
