-- A group's content grows by one frame.
use Rattle.std.proofs.Common.{◌≡◌, ℕ, suc, ◌+◌, ◌-◌, ◌*◌, ◌<◌, List, [], ◌∷◌, ◌++◌, length, map, take, drop, replicate, sym, ap, ◌∙◌, arith, append_assoc, length-append}
use Rattle.std.specs.Prelude.{Bool, true, IsTrue}
use Rattle.std.proofs.lemmas.List.{take_at, drop_at, append-nil, map-append, length-map, length-replicate, replicate-append-replicate}
use Rattle.std.proofs.lemmas.Grind.{flat_map-append}
use Rattle.byte_fields.specs.declared.frame_head.FrameHead.{FrameHead}
use Rattle.byte_fields.specs.FrameHeads.{blank, spelling, spelling_of_all}
use Rattle.byte_fields.proofs.HeadParts.{length_spelling}
use Rattle.byte_fields.proofs.HeadLists.{length_all}
use Rattle.frame_group.specs.declared.group.TheConstants.{PAGE_LEN, HEADS_LEN, GROUP_LEN}
use Rattle.frame_group.specs.Groups.{Frame, head_of, frame_of, lsn_of, heads_of, pages_of, group, put}
use Rattle.frame_group.proofs.Front.{length_heads}
use Rattle.frame_group.proofs.Pages.{octets_of}

-- what is put over a middle part of its length
put_over : (before part behind text : List ℕ) (at : ℕ) → length before ≡ at → length text ≡ length part → put (before ++ (part ++ behind)) at text ≡ before ++ (text ++ behind)
put_over before part behind text at here same =
    let front : take at (before ++ (part ++ behind)) ≡ before = take_at before _ at here in
    let grouped : (before ++ part) ++ behind ≡ before ++ (part ++ behind) = append_assoc before part behind in
    let rest : drop (at + length text) (before ++ (part ++ behind)) ≡ behind =
    ap (drop (at + length text)) (sym grouped) ∙ drop_at (before ++ part) behind (at + length text) (omega (arith, length-append before part, here, same)) in
    ap (λ (t : List ℕ). t ++ (text ++ drop (at + length text) (before ++ (part ++ behind)))) front ∙ ap (λ (t : List ℕ). before ++ (text ++ t)) rest

-- a head and a page are put into the first places that have none yet
grow_by : (size k : ℕ) (heads old new blanks pages page : List ℕ) (at to : ℕ) → length heads ≡ at → length new ≡ length old → length page ≡ size →
    length (heads ++ (new ++ blanks)) + length pages ≡ to →
    put (put ((heads ++ (old ++ blanks)) ++ (pages ++ replicate (size * suc k) 0)) at new) to page ≡ (heads ++ (new ++ blanks)) ++ ((pages ++ page) ++ replicate (size * k) 0)
grow_by size k heads old new blanks pages page at to here same fits there =
    let left : List ℕ = replicate (size * k) 0 in
    let room : List ℕ = replicate size 0 in
    let more : size * suc k ≡ size + size * k = grind arith in
    let zeros : replicate (size * suc k) 0 ≡ room ++ left = ap (λ (n : ℕ). replicate n 0) more ∙ sym (replicate-append-replicate size (size * k) 0) in
    let front = heads ++ (new ++ blanks) in
    let head_put : put ((heads ++ (old ++ blanks)) ++ (pages ++ replicate (size * suc k) 0)) at new ≡ heads ++ (new ++ (blanks ++ (pages ++ replicate (size * suc k) 0))) =
    ap (λ (t : List ℕ). put t at new) (simp append_assoc) ∙ put_over heads old (blanks ++ (pages ++ replicate (size * suc k) 0)) new at here same in
    let regrouped : heads ++ (new ++ (blanks ++ (pages ++ replicate (size * suc k) 0))) ≡ (front ++ pages) ++ (room ++ left) =
    ap (λ (t : List ℕ). heads ++ (new ++ (blanks ++ (pages ++ t)))) zeros ∙ simp append_assoc in
    let place : length (front ++ pages) ≡ to = length-append front pages ∙ there in
    let full : length page ≡ length room = fits ∙ sym (length-replicate size 0) in
    ap (λ (t : List ℕ). put t to page) (head_put ∙ regrouped) ∙ put_over (front ++ pages) room left page to place full ∙ simp append_assoc

frame_more : (frames : List Frame) (frame : Frame) → map head_of (frames ++ frame ∷ []) ≡ map head_of frames ++ head_of frame ∷ []
frame_more frames frame = map-append head_of frames (frame ∷ [])

-- the heads of frames, the next one, and those behind it
heads_parts : (frames : List Frame) (head : FrameHead) (k : ℕ) →
    spelling_of_all ((map head_of frames ++ head ∷ []) ++ replicate k blank) ≡ spelling_of_all (map head_of frames) ++ (spelling head ++ spelling_of_all (replicate k blank))
heads_parts frames head k =
    ap spelling_of_all (append_assoc (map head_of frames) (head ∷ []) (replicate k blank)) ∙ flat_map-append spelling (map head_of frames) (head ∷ replicate k blank)

pub grown_by : (frames : List Frame) (frame : Frame) (at to : ℕ) → length frames < 8 → length frame.octets ≡ PAGE_LEN → length (octets_of frames) ≡ PAGE_LEN * length frames →
    at ≡ 16 * length frames → to ≡ HEADS_LEN + PAGE_LEN * length frames →
    put (put (group frames) at (spelling (head_of frame))) to frame.octets ≡ group (frames ++ frame ∷ [])
unfolding group
grown_by frames frame at to less size pages here there =
    let k = 7 - length frames in
    let page = frame.octets in
    let heads = spelling_of_all (map head_of frames) in
    let blanks = spelling_of_all (replicate k blank) in
    let octets = octets_of frames in
    let before : 8 - length frames ≡ suc k = omega (arith, less) in
    let after : 8 - length (frames ++ frame ∷ []) ≡ k = omega (arith, less, length-append frames (frame ∷ [])) in
    let old_heads : spelling_of_all (heads_of frames) ≡ heads ++ (spelling blank ++ blanks) =
    ap (λ (m : ℕ). spelling_of_all (map head_of frames ++ replicate m blank)) before ∙ flat_map-append spelling (map head_of frames) (replicate (suc k) blank) in
    let new_heads : spelling_of_all (heads_of (frames ++ frame ∷ [])) ≡ heads ++ (spelling (head_of frame) ++ blanks) =
    ap (λ (m : ℕ). spelling_of_all (map head_of (frames ++ frame ∷ []) ++ replicate m blank)) after
    ∙ ap (λ (xs : List FrameHead). spelling_of_all (xs ++ replicate k blank)) (frame_more frames frame) ∙ heads_parts frames (head_of frame) k in
    let old_zeros : replicate (PAGE_LEN * (8 - length frames)) 0 ≡ replicate (PAGE_LEN * suc k) 0 = ap (λ (m : ℕ). replicate (PAGE_LEN * m) 0) before in
    let new_zeros : replicate (PAGE_LEN * (8 - length (frames ++ frame ∷ []))) 0 ≡ replicate (PAGE_LEN * k) 0 = ap (λ (m : ℕ). replicate (PAGE_LEN * m) 0) after in
    let new_octets : octets_of (frames ++ frame ∷ []) ≡ octets ++ page = flat_map-append (λ frame. frame.octets) frames (frame ∷ []) ∙ ap (λ (t : List ℕ). octets ++ t) (append-nil page) in
    let heads_end : length heads ≡ at = length_all (map head_of frames) ∙ ap (λ (m : ℕ). 16 * m) (length-map frames head_of) ∙ sym here in
    let same : length (spelling (head_of frame)) ≡ length (spelling blank) = length_spelling (head_of frame) ∙ sym (length_spelling blank) in
    let blanks_size : length blanks ≡ 16 * k = length_all (replicate k blank) ∙ ap (λ (m : ℕ). 16 * m) (length-replicate k blank) in
    let whole : length (heads ++ (spelling (head_of frame) ++ blanks)) + length octets ≡ to = omega (
      arith,
      length-append heads (spelling (head_of frame) ++ blanks),
      length-append (spelling (head_of frame)) blanks,
      length_spelling (head_of frame),
      blanks_size,
      heads_end,
      here,
      there,
      pages,
      less,
    ) in
    ap (λ (t : List ℕ). put (put (t ++ (octets ++ replicate (PAGE_LEN * (8 - length frames)) 0)) at (spelling (head_of frame))) to page) old_heads
    ∙ ap (λ (t : List ℕ). put (put ((heads ++ (spelling blank ++ blanks)) ++ (octets ++ t)) at (spelling (head_of frame))) to page) old_zeros
    ∙ grow_by PAGE_LEN k heads (spelling blank) (spelling (head_of frame)) blanks octets page at to heads_end same size whole
    ∙ ap (λ (t : List ℕ). t ++ ((octets ++ page) ++ replicate (PAGE_LEN * k) 0)) (sym new_heads)
    ∙ ap (λ (t : List ℕ). spelling_of_all (heads_of (frames ++ frame ∷ [])) ++ (t ++ replicate (PAGE_LEN * k) 0)) (sym new_octets)
    ∙ ap (λ (t : List ℕ). spelling_of_all (heads_of (frames ++ frame ∷ [])) ++ (octets_of (frames ++ frame ∷ []) ++ t)) (sym new_zeros)

-- a present head with the LSN of the page is the head of the frame that they make
pub head_of_made : (head : FrameHead) (page : List ℕ) → IsTrue head.present → head.lsn ≡ lsn_of page → head ≡ head_of (frame_of head page)
head_of_made head page present lsn =
    let made : Bool → ℕ → FrameHead = λ is n. record { present = is; dirty = head.dirty; page = head.page; lsn = n } in
    ap (λ is. made is head.lsn) present ∙ ap (λ n. made true n) lsn

-- the pages of frames fill what a group's content has beside its heads and its zeros
pub octets_fill : (content : List ℕ) (frames : List Frame) → content ≡ group frames → length content ≡ GROUP_LEN → length frames < 8 → length (octets_of frames) ≡ PAGE_LEN * length frames
unfolding group
octets_fill content frames e size less =
    let zeros : List ℕ = replicate (PAGE_LEN * (8 - length frames)) 0 in
    let rest : length zeros ≡ PAGE_LEN * (8 - length frames) = length-replicate (PAGE_LEN * (8 - length frames)) 0 in
    omega (
      arith,
      ap length e,
      length-append (spelling_of_all (heads_of frames)) (pages_of frames),
      length_all (heads_of frames),
      length_heads frames (omega arith),
      length-append (octets_of frames) zeros,
      rest,
      size,
      less,
    )
