-- The places that a directory keeps, as groups enter the queue and leave it.
use Rattle.flash_directory.proofs.Names.{◌≡◌, ℕ, zero, suc, ◌+◌, ◌-◌, ◌<◌, ◌≤◌, ◌==◌, ◌||◌, ◌↔◌, not, Bool, true, false, cond, List, [], ◌∷◌, ◌++◌, length, get_or, take, drop, Option, Some, None, option_map, is_some, IsTrue, add-one, arith, refl, sym, ap, subst, ◌∙◌, eq-eqb, ne_eqb, cond-true, true≢false, none-some, same_Some, option_or, last_in, last_place, last_among, place_in, newest, IsNewest, IsQueue, elsewhere, newer, Place, Queue, in_group, in_groups, is_last, groups_read, group_read, Frame, same_bools, option_or_none, none_if_no_some, some_mapped, option_or_assoc}
use Rattle.flash_directory.proofs.Frames.{last_more}
use Rattle.flash_directory.proofs.Newest.{placed, last_among-place, some_last_in, some_last_place, found_here, place_bound, IsPlaceIn}
use Rattle.flash_directory.proofs.Newests.{newest_is, last_here, later_none, IsLastHere}

-- Back from the number of a group to its place.

place_of : (number : ℕ) (o : Option (ℕ × ℕ)) (p : Place) → option_map (placed number) o ≡ Some p → o ≡ Some (p.group - number, p.index)
place_of number None p is = absurd (none-some p is)
place_of number (Some q) p is =
    let same : ◌≡◌ {A = Place} (placed number q) p = same_Some (placed number q) p is in
    let group : number + q.0 ≡ p.group = ap (λ (k : Place). k.group) same in
    let index : q.1 ≡ p.index = ap (λ (k : Place). k.index) same in
    let first : q.0 ≡ p.group - number = omega (arith, group) in
    λ i. Some (first i, index i)

pub place_at : (q : Queue) (page : ℕ) (p : Place) → newest q page ≡ Some p → last_place q.groups page ≡ Some (p.group - q.first, p.index)
place_at q page p is = place_of q.first (last_place q.groups page) p (sym (last_among-place q.first q.groups page) ∙ is)

from_first : (number : ℕ) (o : Option (ℕ × ℕ)) (p : Place) → option_map (placed number) o ≡ Some p → number ≤ p.group
from_first number None p is = absurd (none-some p is)
from_first number (Some q) p is =
    let group : number + q.0 ≡ p.group = ap (λ (k : Place). k.group) (same_Some (placed number q) p is) in omega (arith, group)

-- no place is in a group before the first
pub not_before : (number : ℕ) (groups : List (List Frame)) (page : ℕ) (p : Place) → last_among number groups page ≡ Some p → number ≤ p.group
not_before number groups page p is = from_first number (last_place groups page) p (sym (last_among-place number groups page) ∙ is)

pub some_newest : (q : Queue) (page : ℕ) → is_some (newest q page) ≡ in_groups q.groups page
some_newest q page = ap is_some (last_among-place q.first q.groups page) ∙ some_mapped (placed q.first) (last_place q.groups page) ∙ some_last_place q.groups page

pub newest_at : (q : Queue) → IsQueue q → (page : ℕ) (p : Place) → newest q page ≡ Some p → IsNewest q page p
newest_at q queue page p is =
    let at = place_at q page p is in
    let low = not_before q.first q.groups page p is in
    let group : q.first + (p.group - q.first) ≡ p.group = omega (arith, low) in
    subst (λ n. IsNewest q page (place_in n p.index)) group (newest_is q queue page (p.group - q.first) p.index at)

-- A group enters behind the others.

pub newest_pushed : (number : ℕ) (groups : List (List Frame)) (group : List Frame) (page : ℕ)
    → last_among number (groups ++ group ∷ []) page ≡ newer (number + length groups) group page (last_among number groups page)
newest_pushed number [] group page = ap (λ n. option_map (place_in n) (last_in 0 group page)) here ∙ sym (option_or_none _)
  where
    here : number ≡ number + 0
    here = omega arith
newest_pushed number (front ∷ groups) group page =
    ap (λ o. option_or o (option_map (place_in number) (last_in 0 front page))) (newest_pushed (number + 1) groups group page)
    ∙ option_or_assoc (option_map (place_in (number + 1 + length groups)) (last_in 0 group page)) (last_among (number + 1) groups page) (option_map (place_in number) (last_in 0 front page))
    ∙ ap (λ n. option_or (option_map (place_in n) (last_in 0 group page)) (option_or (last_among (number + 1) groups page) (option_map (place_in number) (last_in 0 front page)))) next
  where
    next : number + 1 + length groups ≡ number + suc (length groups)
    next = omega arith

pub places_pushed : (first : ℕ) (groups : List (List Frame)) (group : List Frame) (number page : ℕ) (before after : Option Place) → number ≡ first + length groups
    → before ≡ last_among first groups page → after ≡ newer number group page before → after ≡ last_among first (groups ++ group ∷ []) page
places_pushed first groups group number page before after at was is =
    is ∙ ap (newer number group page) was ∙ ap (λ n. newer n group page (last_among first groups page)) at ∙ sym (newest_pushed first groups group page)

-- The front group leaves.

newest_left : (first : ℕ) (front : List Frame) (later : List (List Frame)) (page : ℕ)
    → cond (in_group front page) (elsewhere first (last_among first (front ∷ later) page)) (last_among first (front ∷ later) page) ≡ last_among (first + 1) later page
newest_left first front later page = by (last_among (first + 1) later page) refl (in_group front page) refl (last_in 0 front page) refl
  where
    stays : (p : Place) → last_among (first + 1) later page ≡ Some p → (p.group == first) ≡ false
    stays p is = ne_eqb p.group first (λ same. omega (arith, same, not_before (first + 1) later page p is))

    by : (o : Option Place) → last_among (first + 1) later page ≡ o → (b : Bool) → in_group front page ≡ b → (i : Option ℕ) → last_in 0 front page ≡ i
        → cond b (elsewhere first (option_or o (option_map (place_in first) i))) (option_or o (option_map (place_in first) i)) ≡ o
    by (Some p) is true has i at = ap (λ b. cond b None (Some p)) (stays p is)
    by (Some p) is false has i at = refl
    by None is true has None at = refl
    by None is true has (Some j) at = ap (λ b. cond b None (Some (place_in first j))) (eq-eqb first first refl)
    by None is false has None at = refl
    by None is false has (Some j) at = absurd (true≢false (sym (ap is_some at) ∙ some_last_in 0 front page ∙ has))

pub places_left : (first : ℕ) (groups rest : List (List Frame)) (front : List Frame) (page : ℕ) (before after : Option Place)
    → groups ≡ front ∷ rest → before ≡ last_among first groups page → after ≡ cond (in_group front page) (elsewhere first before) before
    → after ≡ last_among (first + 1) rest page
places_left first groups rest front page before after are was is =
    is ∙ ap (λ o. cond (in_group front page) (elsewhere first o) o) (was ∙ ap (λ l. last_among first l page) are) ∙ newest_left first front rest page

-- One page more of the group has its place.

pub entered_more : (number : ℕ) (frames : List Frame) (i : ℕ) (d : Frame) (page : ℕ) (before now after : Option Place) → i < length frames
    → now ≡ newer number (take i frames) page before
    → after ≡ cond ((get_or frames i d).page == page) (Some (place_in number i)) now
    → after ≡ newer number (take (i + 1) frames) page before
entered_more number frames i d page before now after less was is =
    is ∙ ap (cond ((get_or frames i d).page == page) (Some (place_in number i))) was
    ∙ both ((get_or frames i d).page == page) (last_in 0 (take i frames) page)
    ∙ ap (λ o. option_or (option_map (place_in number) o) before) (sym (ap (λ k. last_in 0 (take k frames) page) (add-one i) ∙ last_more 0 frames i d page less))
  where
    both : (b : Bool) (o : Option ℕ) → cond b (Some (place_in number i)) (option_or (option_map (place_in number) o) before)
        ≡ option_or (option_map (place_in number) (cond b (Some (0 + i)) o)) before
    both true o = ap (λ n. Some (place_in number n)) (omega arith)
    both false o = refl

-- A frame is its page's last exactly where the page's place is its own.

last_there : (n : ℕ) (frames : List Frame) (j : ℕ) (d : Frame) (page : ℕ) → j < length frames → (get_or frames j d).page ≡ page
    → in_group (drop (suc j) frames) page ≡ false → last_in n frames page ≡ Some (n + j)
last_there n [] j d page less is none = absurd (omega (arith, less))
last_there n (frame ∷ frames) zero d page less is none =
    ap (λ o. option_or o (cond (frame.page == page) (Some n) None)) (no_place n frames none)
    ∙ cond-true _ (Some n) None (eq-eqb _ _ is) ∙ ap Some (omega arith)
  where
    none_at : (o : Option ℕ) → is_some o ≡ false → o ≡ None
    none_at None is_none = refl
    none_at (Some x) is_none = absurd (true≢false is_none)

    no_place : (m : ℕ) (fs : List Frame) → in_group fs page ≡ false → last_in (m + 1) fs page ≡ None
    no_place m fs has = none_at (last_in (m + 1) fs page) (some_last_in (m + 1) fs page ∙ has)
last_there n (frame ∷ frames) (suc j) d page less is none =
    ap (λ o. option_or o (cond (frame.page == page) (Some n) None)) (last_there (n + 1) frames j d page (omega (arith, less)) is none)
    ∙ ap Some (omega arith)

pub is_newest_here : (q : Queue) (k j : ℕ) (d : List Frame) (e : Frame) → k < length q.groups → j < length (get_or q.groups k d)
    → is_last (drop (j + 1) (get_or q.groups k d)) (drop (k + 1) q.groups) (get_or (get_or q.groups k d) j e) ≡ true
    → newest q (get_or (get_or q.groups k d) j e).page ≡ Some (place_in (q.first + k) j)
is_newest_here q k j d e less within is =
    let group : List Frame = get_or q.groups k d in
    let page : ℕ = (get_or group j e).page in
    let none = neither (in_group (drop (j + 1) group) page) (in_groups (drop (k + 1) q.groups) page) is in
    let here : last_in 0 group page ≡ Some j = last_there 0 group j e page within refl (ap (λ n. in_group (drop n group) page) (sym (add-one j)) ∙ none.0) ∙ ap Some (omega arith) in
    last_among-place q.first q.groups page
    ∙ ap (option_map (placed q.first)) (found_here q.groups k d page j less (none_if_no_some _ (some_last_place (drop (k + 1) q.groups) page ∙ none.1)) here)
  where
    neither : (a b : Bool) → not (a || b) ≡ true → (a ≡ false) × (b ≡ false)
    neither true b says = absurd (true≢false (sym says))
    neither false true says = absurd (true≢false (sym says))
    neither false false says = (refl, refl)

pub newest_here_is : (q : Queue) (k j : ℕ) (d : List Frame) (frame : Frame)
    → newest q frame.page ≡ Some (place_in (q.first + k) j)
    → is_last (drop (j + 1) (get_or q.groups k d)) (drop (k + 1) q.groups) frame ≡ true
newest_here_is q k j d frame is =
    let page : ℕ = frame.page in
    let number : q.first + k - q.first ≡ k = omega arith in
    let at : last_place q.groups page ≡ Some (k, j) = place_at q page (place_in (q.first + k) j) is ∙ ap (λ n. Some (n, j)) number in
    let place : IsPlaceIn q.groups page k j d = place_bound q.groups page k j d at in
    let last : IsLastHere (get_or q.groups k d) page j = last_here 0 (get_or q.groups k d) page j (place.frame ∙ ap Some (omega arith)) in
    ap not (ap (λ b. b || in_groups (drop (k + 1) q.groups) page) (ap (λ n. in_group (drop n (get_or q.groups k d)) page) (add-one j) ∙ last.behind)
    ∙ ap (λ n. in_groups (drop n q.groups) page) (add-one k) ∙ later_none q.groups page k j at)

pub valid_here : (q : Queue) (k j : ℕ) (d : List Frame) (e : Frame) (tells : Bool) → k < length q.groups → j < length (get_or q.groups k d)
    → (IsTrue tells ↔ (newest q (get_or (get_or q.groups k d) j e).page ≡ Some (place_in (q.first + k) j)))
    → tells ≡ is_last (drop (j + 1) (get_or q.groups k d)) (drop (k + 1) q.groups) (get_or (get_or q.groups k d) j e)
valid_here q k j d e tells less within says =
    same_bools tells _ (λ is. newest_here_is q k j d (get_or (get_or q.groups k d) j e) (says.0 is)) (λ is. says.1 (is_newest_here q k j d e less within is))

pub valid_at : (q : Queue) (k j : ℕ) (d frames : List Frame) (e : Frame) (tells : Bool) → frames ≡ get_or q.groups k d → k < length q.groups → j < length frames
    → (IsTrue tells ↔ (newest q (get_or frames j e).page ≡ Some (place_in (q.first + k) j)))
    → tells ≡ is_last (drop (j + 1) frames) (drop (k + 1) q.groups) (get_or frames j e)
valid_at q k j d frames e tells are less =
    subst (λ (l : List Frame). j < length l → (IsTrue tells ↔ (newest q (get_or l j e).page ≡ Some (place_in (q.first + k) j)))
    → tells ≡ is_last (drop (j + 1) l) (drop (k + 1) q.groups) (get_or l j e)) (sym are) (valid_here q k j d e tells less)

-- A read leaves the places.

last_in_read : (n page : ℕ) (group : List Frame) (later : List (List Frame)) (m : ℕ) → last_in n (group_read page group later) m ≡ last_in n group m
last_in_read n page [] later m = refl
last_in_read n page (frame ∷ behind) later m = ap (λ o. option_or o (cond (frame.page == m) (Some n) None)) (last_in_read (n + 1) page behind later m)

pub newest_read : (number page : ℕ) (groups : List (List Frame)) (m : ℕ) → last_among number (groups_read page groups) m ≡ last_among number groups m
newest_read number page [] m = refl
newest_read number page (group ∷ later) m =
    ap (λ o. option_or o (option_map (place_in number) (last_in 0 (group_read page group later) m))) (newest_read (number + 1) page later m)
    ∙ ap (λ o. option_or (last_among (number + 1) later m) (option_map (place_in number) o)) (last_in_read 0 page group later m)
