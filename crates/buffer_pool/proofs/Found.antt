-- Where each page's frame is after a change of the list.
use Rattle.buffer_pool.proofs.Names.{◌≡◌, ◌≢◌, ℕ, ◌<◌, ◌==◌, cond, List, [], ◌∷◌, ◌++◌, length, drop, option_map, Option, None, Some, arith, refl, sym, ap, ◌∙◌, eqb-true, eqb-false, eq-eqb, ne_eqb, cond-true, cond-false, none-some, AllByRecursion, AreDistinct, frame_of, without, touched, cleared_at, cleared, front_of, ChangesFront, Frame}
use Rattle.buffer_pool.specs.Laws.{IsLast, ChangesOne}
use Rattle.buffer_pool.proofs.Order.{frame_page, page-cleared_at}
use Rattle.std.proofs.lemmas.Grind.{common_steps}

pub frame_of-without : (frames : List Frame) (page n : ℕ) → frame_of (without frames page) n ≡ cond (page == n) None (frame_of frames n)
frame_of-without [] page n = grind (arith, common_steps)
frame_of-without (frame ∷ frames) page n = grind (arith, common_steps, eqb-false, eqb-true, (frame_of-without frames page n))

pub frame_of-touched : (frames : List Frame) (page n : ℕ) → frame_of (touched frames page) n ≡ frame_of frames n
frame_of-touched frames page n = grind (arith, common_steps, eqb-true, frame_page, frame_of-without, cond-false)

pub frame_of-cleared : (frames : List Frame) (page n : ℕ) → frame_of (cleared frames page) n ≡ option_map (cleared_at page) (frame_of frames n)
frame_of-cleared [] page n = refl
frame_of-cleared (frame ∷ frames) page n = grind (arith, common_steps, page-cleared_at, (frame_of-cleared frames page n))

-- The last frame.

all_last : (P : Frame → Type 0) (xs : List Frame) (f : Frame) → AllByRecursion P (xs ++ f ∷ []) → P f
all_last P [] f all = all.0
all_last P (x ∷ xs) f all = all_last P xs f all.1

absent-last : (xs : List Frame) (f : Frame) → AreDistinct (xs ++ f ∷ []) → frame_of xs f.page ≡ None
absent-last [] f distinct = refl
absent-last (x ∷ xs) f distinct =
    cond-false _ (Some x) _ (ne_eqb _ _ (all_last (λ other. x.page ≢ other.page) xs f distinct.0)) ∙ absent-last xs f distinct.1

own-last : (xs : List Frame) (f : Frame) → frame_of xs f.page ≡ None → frame_of (xs ++ f ∷ []) f.page ≡ Some f
own-last [] f none = cond-true _ (Some f) _ (eq-eqb f.page f.page refl)
own-last (x ∷ xs) f none = grind (arith, common_steps, none-some, (own-last xs f))

others-last : (xs : List Frame) (f : Frame) (n : ℕ) → n ≢ f.page → frame_of xs n ≡ frame_of (xs ++ f ∷ []) n
others-last [] f n other = sym (cond-false _ (Some f) _ (ne_eqb _ _ (λ (same : f.page ≡ n). other (sym same))))
others-last (x ∷ xs) f n other = ap (λ o. cond (x.page == n) (Some x) o) (others-last xs f n other)

pub is_last : (xs : List Frame) (f : Frame) → AreDistinct (xs ++ f ∷ []) → IsLast xs f
is_last xs f distinct = grind (arith, common_steps, own-last, absent-last, others-last)

-- The frame in front.

found_front : (frames : List Frame) → 0 < length frames → frame_of frames (front_of frames).page ≡ Some (front_of frames)
found_front frames h = grind (arith, common_steps, cond-true, eq-eqb)

past_front : (frames : List Frame) (n : ℕ) → 0 < length frames → n ≢ (front_of frames).page → frame_of frames n ≡ frame_of (drop 1 frames) n
past_front frames n h h2 = grind (arith, common_steps, cond-false, ne_eqb)

pub changes_one : (old new : List Frame) (slot : ℕ) (content : Option (List ℕ)) (lsn : ℕ) → 0 < length old → ChangesFront old new slot content lsn → ChangesOne old new
changes_one old new slot content lsn some change = grind (arith, common_steps, found_front, past_front)
