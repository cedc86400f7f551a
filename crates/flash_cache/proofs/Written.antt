-- Which disk pages some changes of an image rewrite, and how many groups and segments they append, by how many calls.
use Rattle.flash_cache.proofs.Names.{◌≡◌, Bool, true, false, ℕ, ◌+◌, ◌*◌, ◌<◌, ◌≤◌, List, [], ◌∷◌, ◌++◌, length, get_or, arith, refl, sym, ap, subst, ◌∙◌, append_assoc, append-nil, same_lists, Contains-append_left, Contains-append_right, Contains, if◌then◌else◌, IsBesidePage, page_on, changes_of_push, sum_of, calls_by, disk_on, Frame as Stored, Change, SealsBlock, RewritesPages, AppendsGroup, AppendsSegment, AppendsMaster, Makes, Reaches, IsFrontOf, RingName, Groups, Segments, group_shape, segment_shape, shape_of, units_on, KeepsUnits, Units, hi_of, Image, Geometry, Disk, changes_of, calls_of, changes_of_save}
use Rattle.flash_cache.proofs.PushedVersions.{within_disk, octet_is, size_is, apart}
use Rattle.std.proofs.lemmas.Grind.{common_steps}

-- A page of the disk beside which alone octets differ is as it was, whether it lies on the disk or not.

abbrev IsBesideAll : List ℕ → ℕ → Type 0
IsBesideAll pages place = (page : ℕ) → Contains pages page → IsBesidePage page place

page_beside : (pages : List ℕ) (old new : List ℕ) (page : ℕ) → length new ≡ length old → ((place : ℕ) → IsBesideAll pages place → get_or new place 0 ≡ get_or old place 0) → (Contains pages page → ⊥) → page_on page new ≡ page_on page old
page_beside pages old new page sizes beside out =
    let size = size_is page old new sizes in
    same_lists (page_on page new) (page_on page old) size (λ k d lt.
    let low = (within_disk page new k lt).0 in
    let all : IsBesideAll pages (4096 * page + k) = λ other listed. apart page other (4096 * page + k) (λ same. out (subst (Contains pages) same listed)) (omega arith) (omega (arith, low)) in
    octet_is page new k d lt ∙ beside (4096 * page + k) all ∙ sym (octet_is page old k d (subst (λ (n : ℕ). k < n) size lt)))

-- Changes.

abbrev pub rewritten : List Change → List ℕ
rewritten [] = []
rewritten (SealsBlock records ∷ changes) = rewritten changes
rewritten (RewritesPages pages ∷ changes) = pages ++ rewritten changes
rewritten (AppendsGroup content ∷ changes) = rewritten changes
rewritten (AppendsSegment content ∷ changes) = rewritten changes
rewritten (AppendsMaster content ∷ changes) = rewritten changes

-- how many groups and segments a change appends
abbrev pub groups_by : Change → ℕ
groups_by (AppendsGroup content) = 1
groups_by change = 0

abbrev pub segments_by : Change → ℕ
segments_by (AppendsSegment content) = 1
segments_by change = 0

-- the rings of groups and segments have so many numbers more, and each page that isn't rewritten is as it was
pub record Wrote (g : Geometry) (pages : List ℕ) (groups segments : ℕ) (old new : Image) : Type 0 where
  pub groups_are : hi_of (group_shape g) new.flash ≡ hi_of (group_shape g) old.flash + groups
  pub segments_are : hi_of (segment_shape g) new.flash ≡ hi_of (segment_shape g) old.flash + segments
  pub disk : (page : ℕ) → (Contains pages page → ⊥) → disk_on new page ≡ disk_on old page

-- by the units of the two rings
by_units : (g : Geometry) (pages : List ℕ) (groups segments : ℕ) (old new : Image) → hi_of (group_shape g) new.flash ≡ hi_of (group_shape g) old.flash + groups → hi_of (segment_shape g) new.flash ≡ hi_of (segment_shape g) old.flash + segments → new.disk ≡ old.disk → Wrote g pages groups segments old new
by_units g pages groups segments old new more others disk = record { groups_are = more; segments_are = others; disk = λ page out. ap (page_on page) disk }

still : (g : Geometry) (ring : RingName) (old new : Image) → KeepsUnits (shape_of g ring) old new → (units_on (shape_of g ring) new).hi ≡ (units_on (shape_of g ring) old).hi + 0
still g ring old new keeps = let same = ap (λ (u : Units). u.hi) keeps.units in omega (arith, same)

wrote_one : (g : Geometry) (change : Change) (old new : Image) → Makes g change old new → Wrote g (rewritten (change ∷ [])) (groups_by change) (segments_by change) old new
wrote_one g (SealsBlock records) old new makes = by_units g [] 0 0 old new (still g Groups old new (makes.1.others Groups (λ h. cc))) (still g Segments old new (makes.1.others Segments (λ h. cc))) makes.1.disk
wrote_one g (RewritesPages pages) old new makes =
    record {
      groups_are = still g Groups old new (makes.rings Groups);
      segments_are = still g Segments old new (makes.rings Segments);
      disk = λ page out. page_beside pages old.disk new.disk page (makes.sizes Disk) makes.others (λ listed. out (Contains-append_left pages [] page listed));
    }
wrote_one g (AppendsGroup content) old new makes = by_units g [] 1 0 old new (ap (λ (u : Units). u.hi) makes.units) (still g Segments old new (makes.others Segments (λ h. cc))) makes.disk
wrote_one g (AppendsSegment content) old new makes = by_units g [] 0 1 old new (still g Groups old new (makes.others Groups (λ h. cc))) (ap (λ (u : Units). u.hi) makes.units) makes.disk
wrote_one g (AppendsMaster content) old new makes = by_units g [] 0 0 old new (still g Groups old new (makes.others Groups (λ h. cc))) (still g Segments old new (makes.others Segments (λ h. cc))) makes.disk

wrote_then : (g : Geometry) (pages more : List ℕ) (groups segments groups' segments' : ℕ) (a b c : Image) → Wrote g pages groups segments a b → Wrote g more groups' segments' b c → Wrote g (pages ++ more) (groups + groups') (segments + segments') a c
wrote_then g pages more groups segments groups' segments' a b c one two =
    record {
      groups_are = omega (arith, one.groups_are, two.groups_are);
      segments_are = omega (arith, one.segments_are, two.segments_are);
      disk = λ page out. two.disk page (λ is. out (Contains-append_right pages more page is)) ∙ one.disk page (λ is. out (Contains-append_left pages more page is));
    }

rewritten_first : (change : Change) (changes : List Change) → rewritten (change ∷ []) ++ rewritten changes ≡ rewritten (change ∷ changes)
rewritten_first change changes = grind (arith, common_steps, append_assoc)

pub wrote : (g : Geometry) (changes : List Change) (old new : Image) → Reaches g changes old new → Wrote g (rewritten changes) (sum_of groups_by changes) (sum_of segments_by changes) old new
wrote g [] old new reads = by_units g [] 0 0 old new (still g Groups old new (reads.rings Groups)) (still g Segments old new (reads.rings Segments)) reads.disk
wrote g (change ∷ changes) old new reaches =
    subst (λ (l : List ℕ). Wrote g l (sum_of groups_by (change ∷ changes)) (sum_of segments_by (change ∷ changes)) old new) (rewritten_first change changes)
    (wrote_then g (rewritten (change ∷ [])) (rewritten changes) (groups_by change) (segments_by change) (sum_of groups_by changes) (sum_of segments_by changes) old reaches.0 new
    (wrote_one g change old reaches.0 reaches.1) (wrote g changes reaches.0 new reaches.2))

-- The first ones of some changes rewrite no other pages, and append no more.

rewritten_joined : (first later : List Change) → rewritten (first ++ later) ≡ rewritten first ++ rewritten later
rewritten_joined [] later = refl
rewritten_joined (change ∷ first) later = grind (arith, common_steps, rewritten_first, append_assoc, (rewritten_joined first later))

-- numbers of changes add up
pub sum_joined : (number : Change → ℕ) (first later : List Change) → sum_of number (first ++ later) ≡ sum_of number first + sum_of number later
sum_joined number [] later = omega arith
sum_joined number (change ∷ first) later = omega (arith, sum_joined number first later)

pub front_rewritten : (all changes : List Change) → IsFrontOf all changes → (page : ℕ) → Contains (rewritten changes) page → Contains (rewritten all) page
front_rewritten all changes front page listed = grind (arith, common_steps, rewritten_joined)

pub front_sum : (number : Change → ℕ) (all changes : List Change) → IsFrontOf all changes → sum_of number changes ≤ sum_of number all
front_sum number all changes front = let same = ap (sum_of number) front.1 in omega (arith, same, sum_joined number changes front.0)

-- Those of a push.

pub push_rewrites : (pages group : List ℕ) (page : ℕ) → Contains (rewritten (changes_of_push pages group)) page → Contains pages page
push_rewrites pages group page h = grind (arith, common_steps, append-nil)

pub push_groups : (pages group : List ℕ) → sum_of groups_by (changes_of_push pages group) ≡ 1
push_groups [] group = refl
push_groups (first ∷ pages) group = refl

pub push_segments : (pages group : List ℕ) → sum_of segments_by (changes_of_push pages group) ≡ 0
push_segments [] group = refl
push_segments (first ∷ pages) group = refl

-- a segment that is saved before them changes nothing of that
pub save_rewrites : (due : Bool) (saved : List (List Stored)) (changes : List Change) → rewritten (changes_of_save due saved ++ changes) ≡ rewritten changes
save_rewrites true saved changes = refl
save_rewrites false saved changes = refl

pub save_groups : (due : Bool) (saved : List (List Stored)) (changes : List Change) → sum_of groups_by (changes_of_save due saved ++ changes) ≡ sum_of groups_by changes
save_groups due saved changes = grind (arith, common_steps)

-- it is one more of them
pub save_segments : (due : Bool) (saved : List (List Stored)) (changes : List Change) → sum_of segments_by (changes_of_save due saved ++ changes) ≡ (if due then 1 else 0) + sum_of segments_by changes
save_segments due saved changes = grind (arith, common_steps)

-- The calls of a push: five for a segment, one for each page that is staged and for their sync, and five for the group.

staged_calls : (pages : List ℕ) → sum_of calls_by (changes_of pages) ≡ calls_of pages
staged_calls [] = refl
staged_calls (page ∷ pages) = omega arith

saved_calls : (due : Bool) (saved : List (List Stored)) → sum_of calls_by (changes_of_save due saved) ≡ (if due then 5 else 0)
saved_calls true saved = refl
saved_calls false saved = refl

pub push_calls : (due : Bool) (saved : List (List Stored)) (pages group : List ℕ) → sum_of calls_by (changes_of_save due saved ++ changes_of_push pages group) ≡ (if due then 5 else 0) + (calls_of pages + 5)
push_calls due saved pages group = grind (arith, common_steps, sum_joined, staged_calls, saved_calls)
