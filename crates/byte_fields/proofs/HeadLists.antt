-- Heads that stand one after the other.
use Rattle.std.proofs.Common.{◌≡◌, ℕ, zero, suc, ◌+◌, ◌*◌, ◌<◌, List, [], ◌∷◌, ◌++◌, length, get_or, take, drop, refl, ap, sym, subst, ◌∙◌, arith, length-append}
use Rattle.std.specs.List.{AllByRecursion}
use Rattle.std.proofs.lemmas.List.{take_at, drop_at, drop-drop, drop-take, take-take, take_more, length-take-le, append-nil, same_lists, get_or_default}
use Rattle.std.proofs.lemmas.Grind.{flat_map-append}
use Rattle.std.proofs.Math.Seq.{take-add}
use Rattle.std_lemmas.proofs.AllOf.{all_push}
use Rattle.byte_fields.specs.declared.frame_head.FrameHead.{FrameHead}
use Rattle.byte_fields.specs.FrameHeads.{blank, spelling, spelling_of_all, HasForm, FitsFields, IsHeadAt, AreHeads}
use Rattle.byte_fields.specs.Writes.{Writes}
use Rattle.byte_fields.proofs.Texts.{stands_there, writes_then}
use Rattle.byte_fields.proofs.HeadParts.{length_spelling, one_head}

pub length_all : (heads : List FrameHead) → length (spelling_of_all heads) ≡ 16 * length heads
length_all [] = refl
length_all (head ∷ heads) = omega (arith, length-append (spelling head) (spelling_of_all heads), length_spelling head, length_all heads)

pub spelling_more : (heads : List FrameHead) (head : FrameHead) → spelling_of_all (heads ++ head ∷ []) ≡ spelling_of_all heads ++ spelling head
spelling_more heads head = flat_map-append spelling heads (head ∷ []) ∙ ap (λ (t : List ℕ). spelling_of_all heads ++ t) (append-nil (spelling head))

pub no_heads : (octets : List ℕ) → AreHeads octets []
no_heads octets = record { text = refl; have_form = tt; fit_fields = tt }

-- one head more
pub heads_more : (octets : List ℕ) (heads : List FrameHead) (head : FrameHead) (at : ℕ) → AreHeads octets heads → IsHeadAt octets at head → at ≡ 16 * length heads → AreHeads octets (heads ++ head ∷ [])
heads_more octets heads head at are is here =
    let size : 16 * length (heads ++ head ∷ []) ≡ 16 * length heads + 16 = omega (arith, length-append heads (head ∷ [])) in
    record {
      text = ap (λ n. take n octets) size ∙ take-add (16 * length heads) 16 octets
          ∙ ap (λ (t : List ℕ). t ++ take 16 (drop (16 * length heads) octets)) are.text
          ∙ ap (λ n. spelling_of_all heads ++ take 16 (drop n octets)) (sym here)
          ∙ ap (λ (t : List ℕ). spelling_of_all heads ++ t) is.text ∙ sym (spelling_more heads head);
      have_form = all_push HasForm heads head are.have_form is.has_form;
      fit_fields = all_push FitsFields heads head are.fit_fields is.fits_fields;
    }

-- the first of heads, and those behind it
pub first_head : (octets : List ℕ) (head : FrameHead) (heads : List FrameHead) → AreHeads octets (head ∷ heads) → IsHeadAt octets 0 head
first_head octets head heads are = record {
  text = sym (take-take 16 (16 * length (head ∷ heads)) octets (omega arith)) ∙ ap (take 16) are.text ∙ take_at (spelling head) _ 16 (length_spelling head);
  has_form = are.have_form.0;
  fits_fields = are.fit_fields.0;
}

pub other_heads : (octets : List ℕ) (head : FrameHead) (heads : List FrameHead) → AreHeads octets (head ∷ heads) → AreHeads (drop 16 octets) heads
other_heads octets head heads are = record {
  text = sym (drop-take 16 (16 * length heads) octets) ∙ ap (λ n. drop 16 (take n octets)) (omega arith) ∙ ap (drop 16) are.text ∙ drop_at (spelling head) _ 16 (length_spelling head);
  have_form = are.have_form.1;
  fit_fields = are.fit_fields.1;
}

-- a head of heads stands at its place
pub head_at : (octets : List ℕ) (heads : List FrameHead) (i : ℕ) → AreHeads octets heads → i < length heads → IsHeadAt octets (16 * i) (get_or heads i blank)
head_at octets [] i are less = absurd (omega (arith, less))
head_at octets (head ∷ heads) zero are less = first_head octets head heads are
head_at octets (head ∷ heads) (suc i) are less =
    let is = head_at (drop 16 octets) heads i (other_heads octets head heads are) (omega arith) in
    record {
      text = ap (λ n. take 16 (drop n octets)) (omega arith) ∙ ap (take 16) (sym (drop-drop (16 * i) 16 octets)) ∙ is.text;
      has_form = is.has_form;
      fits_fields = is.fits_fields;
    }

-- at most one list of so many heads is spelled there
pub one_list : (octets : List ℕ) (a b : List FrameHead) → AreHeads octets a → AreHeads octets b → length a ≡ length b → a ≡ b
one_list octets a b first second size =
    same_lists a b size (λ k d less.
    get_or_default a k d blank less ∙ one_head octets (16 * k) _ _ (head_at octets a k first less) (head_at octets b k second (omega (arith, less, size)))
    ∙ get_or_default b k blank d (omega (arith, less, size)))

-- heads that were written are spelled there
pub written_heads : (old new : List ℕ) (heads : List FrameHead) → Writes old new 0 (spelling_of_all heads) → AllByRecursion HasForm heads → AllByRecursion FitsFields heads → AreHeads new heads
written_heads old new heads writes form fits = record {
  text = ap (λ n. take n new) (sym (length_all heads)) ∙ stands_there writes;
  have_form = form;
  fit_fields = fits;
}

-- one head more that is written
pub writes_more : (old mid new : List ℕ) (heads : List FrameHead) (i : ℕ) → i < length heads → Writes old mid 0 (spelling_of_all (take i heads)) →
    Writes mid new (16 * i) (spelling (get_or heads i blank)) → Writes old new 0 (spelling_of_all (take (i + 1) heads))
writes_more old mid new heads i less before writes =
    let size : 16 * i ≡ 0 + length (spelling_of_all (take i heads)) = omega (arith, length_all (take i heads), length-take-le i heads (omega arith)) in
    subst (λ (t : List ℕ). Writes old new 0 t) (sym (ap spelling_of_all (take_more heads i blank less) ∙ spelling_more (take i heads) (get_or heads i blank)))
    (writes_then before writes size)

pub fit_more : (heads : List FrameHead) (i : ℕ) → i < length heads → AllByRecursion FitsFields (take i heads) → FitsFields (get_or heads i blank) → AllByRecursion FitsFields (take (i + 1) heads)
fit_more heads i less before fits = subst (AllByRecursion FitsFields) (sym (take_more heads i blank less)) (all_push FitsFields (take i heads) (get_or heads i blank) before fits)
