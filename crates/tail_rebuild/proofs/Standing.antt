-- The groups that stand on flash, and what was read of one.
use Rattle.tail_rebuild.proofs.Names.{◌≡◌, ℕ, zero, suc, ◌+◌, ◌-◌, ◌<◌, ◌≤◌, min, true≢false, List, [], ◌∷◌, ◌++◌, length, get_or, map, take, drop, replicate, arith, sym, ap, subst, ◌∙◌, take-take, length-map, get_or-map, get_or-replicate, length-replicate, AllByRecursion, blank, FrameHead, begins_with_heads, one_heads, Frame, group, head_of, heads_of, HasHeads, group_shape, units_on, live_count, region, units_in, RingFits, hi_of, units_of, unit_at, IsLive, Ring, Shape, State, Image, Geometry, all_at, HasFrames, HasGroups, PagesExist, group_on}

-- a ring still fits where the devices have what they had
pub fits_again : (ring : Ring) (old new : State) → new.image ≡ old.image → RingFits ring old → RingFits ring new
fits_again ring old new same fits = fits ∙ ap (λ (i : Image). hi_of ring.shape (region ring.shape (record old { image = i }))) (sym same)

module _ (g : Geometry) (first : ℕ) (groups : List (List Frame)) (image : Image) (has : HasGroups g first groups image) where
  -- all live groups are listed
  pub count : length groups ≡ min (hi_of (group_shape g) image.flash) (g.groups - 1)
  count = sym (length-map groups group) ∙ ap length (sym has.live) ∙ live_count (group_shape g) image.flash

  pub first_is : first ≡ hi_of (group_shape g) image.flash - (g.groups - 1)
  first_is = let next = has.next in let all = count in omega (arith, next, all)

  -- the content of one of them
  pub stands : (n k : ℕ) → n ≡ first + k → k < length groups → group_on g image n ≡ group (get_or groups k [])
  stands n k is lt =
      let at : n - (hi_of (group_shape g) image.flash - (g.groups - 1)) ≡ k = let e = first_is in omega (arith, is, e) in
      ap (λ (i : ℕ). get_or (units_on (group_shape g) image).live i []) at ∙ ap (λ (l : List (List ℕ)). get_or l k []) has.live ∙ get_or-map group groups k [] [] lt

  pub has_frames : (n k : ℕ) → n ≡ first + k → k < length groups → HasFrames g (get_or groups k []) (group_on g image n)
  has_frames n k is lt = subst (HasFrames g (get_or groups k [])) (sym (stands n k is lt)) (all_at (λ frames. HasFrames g frames (group frames)) groups k [] has.are_groups lt)

-- what was read of a group

heads_front : (octets : List ℕ) (n : ℕ) (heads : List FrameHead) → 128 ≤ n → HasHeads octets heads → HasHeads (take n octets) heads
heads_front octets n heads long has = grind (arith, take-take)

pub heads_stand : (g : Geometry) (ring : Ring) (site : State) (n : ℕ) (into : List ℕ) (frames : List Frame) → ring.shape ≡ group_shape g → HasFrames g frames (group_on g site.image n)
    → drop 8 into ≡ take 128 (unit_at ring.shape (units_in ring.shape site) n) → HasHeads (take 128 (drop 8 into)) (heads_of frames)
heads_stand g ring site n into frames shape has read =
    let content : take 128 (drop 8 into) ≡ take 128 (group_on g site.image n) =
    ap (take 128) read ∙ take-take 128 128 (unit_at ring.shape (units_in ring.shape site) n) (omega arith)
    ∙ ap (λ (s : Shape). take 128 (unit_at s (units_of s (region s site)) n)) shape in
    subst (λ (l : List ℕ). HasHeads l (heads_of frames)) (sym content)
    (heads_front (group_on g site.image n) 128 (heads_of frames) (omega arith) (begins_with_heads (group_on g site.image n) frames has.is_group))

-- the place of a live group among those that stand there
pub place_of : (g : Geometry) (ring : Ring) (site : State) (n first : ℕ) (groups : List (List Frame)) → ring.shape ≡ group_shape g → RingFits ring site → IsLive ring.shape ring.hi n
    → HasGroups g first groups site.image → (n ≡ first + (n - first)) × (n - first < length groups)
place_of g ring site n first groups shape fits live has =
    let slots : ring.shape.slots ≡ g.groups = ap (λ (s : Shape). s.slots) shape in
    let hi : ring.hi ≡ hi_of (group_shape g) site.image.flash = fits ∙ ap (λ (s : Shape). hi_of s (region s site)) shape in
    let own = first_is g first groups site.image has in
    let next = has.next in
    let below = live.below in
    let near = live.near in
    (omega (arith, slots, hi, own, below, near), omega (arith, slots, hi, own, next, below, near))

-- the heads of a live group, as its octets were read
pub group_read : (g : Geometry) (ring : Ring) (site : State) (n first : ℕ) (groups : List (List Frame)) (into : List ℕ) → ring.shape ≡ group_shape g → RingFits ring site → IsLive ring.shape ring.hi n
    → HasGroups g first groups site.image → drop 8 into ≡ take 128 (unit_at ring.shape (units_in ring.shape site) n) → HasHeads (take 128 (drop 8 into)) (get_or (map heads_of groups) (n - first) [])
group_read g ring site n first groups into shape fits live has read =
    let place = place_of g ring site n first groups shape fits live has in
    subst (HasHeads (take 128 (drop 8 into))) (sym (get_or-map heads_of groups (n - first) [] [] place.1))
    (heads_stand g ring site n into (get_or groups (n - first) []) shape (has_frames g first groups site.image has n (n - first) place.0 place.1) read)

pub heads_are : (octets : List ℕ) (heads other : List FrameHead) → HasHeads octets heads → HasHeads octets other → heads ≡ other
heads_are octets heads other read own = one_heads octets heads other read own

-- the heads of frames whose pages exist
blanks_exist : (pages n : ℕ) → PagesExist pages (replicate n blank)
blanks_exist pages n k d lt = grind (arith, get_or, get_or-replicate, length-replicate)

heads_exist : (pages : ℕ) (frames : List Frame) (n : ℕ) → AllByRecursion (λ frame. frame.page < pages) frames → PagesExist pages (map head_of frames ++ replicate n blank)
heads_exist pages [] n all k d lt = blanks_exist pages n k d lt
heads_exist pages (frame ∷ frames) n all zero d lt = λ present. all.0
heads_exist pages (frame ∷ frames) n all (suc k) d lt = heads_exist pages frames n all.1 k d (omega (arith, lt))

pub group_exists : (g : Geometry) (frames : List Frame) (content : List ℕ) → HasFrames g frames content → PagesExist g.pages (heads_of frames)
group_exists g frames content has = heads_exist g.pages frames (8 - length frames) has.exist

-- each group that stands there is of pages that exist
pub heads_at_exist : (g : Geometry) (first : ℕ) (groups : List (List Frame)) (image : Image) (k : ℕ) → HasGroups g first groups image → k < length groups → PagesExist g.pages (get_or (map heads_of groups) k [])
heads_at_exist g first groups image k has lt =
    subst (PagesExist g.pages) (sym (get_or-map heads_of groups k [] [] lt)) (group_exists g (get_or groups k []) (group (get_or groups k [])) (all_at (λ frames. HasFrames g frames (group frames)) groups k [] has.are_groups lt))
