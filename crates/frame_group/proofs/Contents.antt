-- The frames that a content says.
use Rattle.std.proofs.Common.{◌≡◌, ℕ, zero, suc, ◌+◌, ◌-◌, ◌*◌, ◌<◌, ◌≤◌, Bool, true, false, List, [], ◌∷◌, ◌++◌, length, get_or, map, replicate, refl, ap, ◌∙◌, subst, arith}
use Rattle.std.specs.Prelude.{filter, ◌==◌}
use Rattle.std.proofs.lemmas.List.{get_or-append_right, get_or_append_left, get_or-map, get_or-replicate, length-map, append-nil}
use Rattle.std.proofs.lemmas.Grind.{flat_map-append}
use Rattle.byte_fields.specs.declared.frame_head.FrameHead.{FrameHead}
use Rattle.byte_fields.specs.FrameHeads.{flag, blank}
use Rattle.byte_fields.proofs.HeadParts.{HasParts, parts_of}
use Rattle.byte_fields.proofs.HeadLists.{head_at}
use Rattle.frame_group.specs.Groups.{Frame, head_of, heads_of, frame_at, frames_in, IsGroup}
use Rattle.frame_group.specs.Versions.{frames_of}
use Rattle.frame_group.proofs.Front.{length_heads, begins_with_heads}
use Rattle.frame_group.proofs.Pages.{pages_stand}

abbrev from_on : ℕ → ℕ → List ℕ
from_on a zero = []
from_on a (suc k) = a ∷ from_on (suc a) k

none_pass : (test : ℕ → Bool) (a k : ℕ) → ((i : ℕ) → a ≤ i → i < a + k → test i ≡ false) → filter test (from_on a k) ≡ []
none_pass test a zero h = refl
none_pass test a (suc k) h =
    let no : test a ≡ false = h a (omega arith) (omega arith) in
    rw no (none_pass test (suc a) k (λ i low high. h i (omega arith) (omega arith)))

first_pass : (test : ℕ → Bool) (a k n : ℕ) → ((i : ℕ) → a ≤ i → i < a + n → test i ≡ true) → ((i : ℕ) → a + n ≤ i → i < a + k → test i ≡ false) → n ≤ k → filter test (from_on a k) ≡ from_on a n
first_pass test a k zero pass fail room = none_pass test a k (λ i low high. fail i (omega arith) high)
first_pass test a zero (suc n) pass fail room = absurd (omega (arith, room))
first_pass test a (suc k) (suc n) pass fail room =
    let here : test a ≡ true = pass a (omega arith) (omega arith) in
    rw here (ap (λ (xs : List ℕ). a ∷ xs) (first_pass test (suc a) k n (λ i low high. pass i (omega arith) (omega arith)) (λ i low high. fail i (omega arith) (omega arith)) (omega arith)))

map_is : {X : Type 0} (f : ℕ → X) (xs : List X) (a : ℕ) (d : X) → ((i : ℕ) → i < length xs → f (a + i) ≡ get_or xs i d) → map f (from_on a (length xs)) ≡ xs
map_is f [] a d h = refl
map_is f (x ∷ xs) a d h =
    let first : f a ≡ x = ap f (omega arith) ∙ h 0 (omega arith) in
    let rest = map_is f xs (suc a) d (λ i less. ap f (omega arith) ∙ h (suc i) (omega arith)) in
    ap (λ y. y ∷ map f (from_on (suc a) (length xs))) first ∙ ap (λ ys. x ∷ ys) rest

-- the head at a place of a group's content
head_is : (content : List ℕ) (frames : List Frame) (i : ℕ) → IsGroup content frames → i < 8 → HasParts content (16 * i) (get_or (heads_of frames) i blank)
head_is content frames i is less =
    parts_of content (16 * i) (get_or (heads_of frames) i blank)
    (head_at content (heads_of frames) i (begins_with_heads content frames is).at_front (omega (arith, less, length_heads frames is.room)))

head_of_frame : (frames : List Frame) (i : ℕ) (d : Frame) → i < length frames → get_or (heads_of frames) i blank ≡ head_of (get_or frames i d)
head_of_frame frames i d less =
    get_or_append_left (map head_of frames) (replicate (8 - length frames) blank) blank i (omega (arith, less, length-map frames head_of)) ∙ get_or-map head_of frames i d blank less

head_of_none : (frames : List Frame) (i : ℕ) → length frames ≤ i → i < 8 → get_or (heads_of frames) i blank ≡ blank
head_of_none frames i above less =
    get_or-append_right (map head_of frames) (replicate (8 - length frames) blank) (length frames) i blank (length-map frames head_of) above
    ∙ get_or-replicate (8 - length frames) (i - length frames) blank blank (omega arith)

flag_is : (b : Bool) → (flag b == 1) ≡ b
flag_is true = refl
flag_is false = refl

same_frame : (a b : Frame) → a.page ≡ b.page → a.dirty ≡ b.dirty → a.octets ≡ b.octets → a ≡ b
same_frame a b p d o =
    let frame : ℕ → Bool → List ℕ → Frame = λ page dirty octets. record { page = page; dirty = dirty; octets = octets } in
    ap (λ x. frame x a.dirty a.octets) p ∙ ap (λ x. frame b.page x a.octets) d ∙ ap (λ x. frame b.page b.dirty x) o

frame_is : (content : List ℕ) (frames : List Frame) (i : ℕ) (d : Frame) → IsGroup content frames → i < length frames → frame_at content i ≡ get_or frames i d
unfolding frame_at
frame_is content frames i d is less =
    let head = head_of_frame frames i d less in
    let parts = subst (HasParts content (16 * i)) head (head_is content frames i is (omega (arith, less, is.room))) in
    same_frame (frame_at content i) (get_or frames i d) parts.page (ap (λ (n : ℕ). n == 1) parts.dirty ∙ flag_is (get_or frames i d).dirty) (pages_stand content frames i d is less)

no_frame : Frame
no_frame = record { page = 0; dirty = false; octets = [] }

is_present : (content : List ℕ) (frames : List Frame) (i : ℕ) → IsGroup content frames → i < 8 → (get_or content (16 * i) 0 == 1) ≡ (get_or (heads_of frames) i blank).present
is_present content frames i is less = ap (λ (n : ℕ). n == 1) (head_is content frames i is less).present ∙ flag_is _

-- the frames of a group are those of its content
pub frames_are_in : (content : List ℕ) (frames : List Frame) → IsGroup content frames → frames_in content ≡ frames
frames_are_in content frames is =
    let places = first_pass (λ i. get_or content (16 * i) 0 == 1) 0 8 (length frames)
    (λ i low less. is_present content frames i is (omega (arith, less, is.room)) ∙ ap (λ (head : FrameHead). head.present) (head_of_frame frames i no_frame (omega (arith, less))))
    (λ i above less. is_present content frames i is (omega (arith, less)) ∙ ap (λ (head : FrameHead). head.present) (head_of_none frames i (omega (arith, above)) (omega (arith, less))))
    is.room in
    ap (map (frame_at content)) places ∙ map_is (frame_at content) frames 0 no_frame (λ i less. ap (frame_at content) (omega arith) ∙ frame_is content frames i no_frame is less)

-- a group more has its frames behind all others
pub frames_more : (contents : List (List ℕ)) (content : List ℕ) (frames : List Frame) → IsGroup content frames → frames_of (contents ++ content ∷ []) ≡ frames_of contents ++ frames
frames_more contents content frames is =
    flat_map-append frames_in contents (content ∷ []) ∙ ap (λ (xs : List Frame). frames_of contents ++ xs) (append-nil (frames_in content) ∙ frames_are_in content frames is)
