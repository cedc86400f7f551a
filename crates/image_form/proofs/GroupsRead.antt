-- A group read frame by frame.
use Rattle.std.proofs.lemmas.Grind.{common_steps}
use Rattle.image_form.proofs.Names.{◌≡◌, ℕ, ◌+◌, ◌-◌, ◌*◌, ◌<◌, ◌≤◌, true, List, [], ◌∷◌, ◌++◌, length, get_or, map, take, drop, replicate, refl, sym, ap, subst, ◌∙◌, arith, take_all, take_more, length-append, length-map, get_or_append_left, get_or-map, AllByRecursion, blank, present_in_front, AreGroupHeads, FrameHead, same_lsn, front_present, pages_stand, Frame, head_of, frame_of, heads_of, group, IsFrame, IsGroup, PAGE_LEN, HEADS_LEN, IsFrameBy, IsGroupOn, IsFrameOf, Geometry, all_at, all_push}

-- the first frames of a content were put into another one
pub record Put (content again : List ℕ) (pages n : ℕ) : Type 0 where
  pub frames : List Frame
  pub count : length frames ≡ n
  pub put : again ≡ group frames
  pub are : AllByRecursion IsFrame frames
  pub sound : (g : Geometry) → g.pages ≡ pages → AllByRecursion (IsFrameOf g) frames
  -- no other frames stand there
  pub only : (others : List Frame) → IsGroup content others → take n others ≡ frames

abbrev pub no_frame : Frame
no_frame = record { page = 0; dirty = true; octets = [] }

-- as many frames as heads are present
pub frames_count : (frames : List Frame) → present_in_front (heads_of frames) ≡ length frames
frames_count frames = front_present frames (8 - length frames)

pub head_is : (frames : List Frame) (i : ℕ) → i < length frames → get_or (heads_of frames) i blank ≡ head_of (get_or frames i no_frame)
head_is frames i less =
    get_or_append_left (map head_of frames) (replicate (8 - length frames) blank) blank i (omega (arith, less, length-map frames head_of)) ∙ get_or-map head_of frames i no_frame blank less

-- the frame at a place, by the head and the page that stand there
pub frame_there : (content : List ℕ) (frames : List Frame) (i : ℕ) (head : FrameHead) (page : List ℕ) → IsGroup content frames → i < length frames →
    head ≡ get_or (heads_of frames) i blank → page ≡ take PAGE_LEN (drop (HEADS_LEN + PAGE_LEN * i) content) → get_or frames i no_frame ≡ frame_of head page
frame_there content frames i head page is less heads pages = grind (arith, common_steps, get_or, head_is, pages_stand)

-- of a group on the disk's pages each head and page are those of a frame
pub frame_by : (g : Geometry) (content : List ℕ) (frames : List Frame) (i : ℕ) (head : FrameHead) (page : List ℕ) → IsGroupOn g content frames → i < length frames →
    head ≡ get_or (heads_of frames) i blank → page ≡ take PAGE_LEN (drop (HEADS_LEN + PAGE_LEN * i) content) → IsFrameBy g.pages head page
frame_by g content frames i head page on less heads pages = grind (arith, common_steps, get_or, head_is, pages_stand, all_at, same_lsn)

-- no frame yet
pub put_none : (content again : List ℕ) (pages : ℕ) → again ≡ group [] → Put content again pages 0
put_none content again pages zeros = record { frames = []; count = refl; put = zeros; are = tt; sound = λ g is. tt; only = λ others is. refl }

-- one frame more
pub put_more : (content again new : List ℕ) (pages n : ℕ) (heads : List FrameHead) (head : FrameHead) (page : List ℕ) → ((others : List Frame) → IsGroup content others → heads ≡ heads_of others) → n < present_in_front heads →
    head ≡ get_or heads n blank → page ≡ take PAGE_LEN (drop (HEADS_LEN + PAGE_LEN * n) content) → IsFrameBy pages head page → IsFrame (frame_of head page) → (p : Put content again pages n) →
    ((frames : List Frame) → length frames ≡ n → again ≡ group frames → new ≡ group (frames ++ frame_of head page ∷ [])) → Put content new pages (n + 1)
put_more content again new pages n heads head page heads_are less head_is' page_is by frame p grown =
    let f : Frame = frame_of head page in
    record {
      frames = p.frames ++ f ∷ [];
      count = let more = length-append p.frames (f ∷ []) in let count = p.count in omega (arith, more, count);
      put = grown p.frames p.count p.put;
      are = all_push IsFrame p.frames f p.are frame;
      sound = λ g is. all_push (IsFrameOf g) p.frames f (p.sound g is) (record { exists = subst (λ (k : ℕ). head.page < k) (sym is) by.exists; sound = by.sound });
      only = λ others is.
          let all = heads_are others is in
          let many : n < length others = let c = frames_count others in let same = ap present_in_front all in omega (arith, less, c, same) in
          let there : get_or others n no_frame ≡ f = frame_there content others n head page is many (head_is' ∙ ap (λ (l : List FrameHead). get_or l n blank) all) page_is in
          take_more others n no_frame many ∙ (λ i. p.only others is i ++ there i ∷ []);
    }

-- where a head and a page aren't those of a frame, the content isn't that of such a group
pub not_put : (g : Geometry) (content : List ℕ) (n : ℕ) (heads : List FrameHead) (head : FrameHead) (page : List ℕ) → ((others : List Frame) → IsGroup content others → heads ≡ heads_of others) → n < present_in_front heads →
    head ≡ get_or heads n blank → page ≡ take PAGE_LEN (drop (HEADS_LEN + PAGE_LEN * n) content) → (IsFrameBy g.pages head page → ⊥) → ((frames : List Frame) × IsGroupOn g content frames) → ⊥
not_put g content n heads head page heads_are less head_is' page_is off found =
    let all = heads_are found.0 found.1.group in
    let many : n < length found.0 = let c = frames_count found.0 in let same = ap present_in_front all in omega (arith, less, c, same) in
    off (frame_by g content found.0 n head page found.1 many (head_is' ∙ ap (λ (l : List FrameHead). get_or l n blank) all) page_is)

-- all frames
pub put_all : (g : Geometry) (content again : List ℕ) (pages n : ℕ) (heads : List FrameHead) → g.pages ≡ pages → AreGroupHeads heads → n ≡ present_in_front heads → n ≤ 8 → Put content again pages n → content ≡ again → (frames : List Frame) × IsGroupOn g content frames
put_all g content again pages n heads is are all few p same =
    let some = are.some in
    let count = p.count in (
      p.frames,
      record {
        group = record { some = omega (arith, some, all, count); room = omega (arith, few, count); are_frames = p.are; spelled = same ∙ p.put };
        sound = p.sound g is;
      },
    )

pub all_put : (g : Geometry) (content again : List ℕ) (pages n : ℕ) (heads : List FrameHead) → ((others : List Frame) → IsGroup content others → heads ≡ heads_of others) → n ≡ present_in_front heads → Put content again pages n →
    ((frames : List Frame) × IsGroupOn g content frames) → content ≡ again
all_put g content again pages n heads heads_are all p found = grind (arith, common_steps, frames_count, take_all)
