-- Heads of segments that are read group by group.
use Rattle.std.proofs.Common.{◌≡◌, ℕ, zero, suc, ◌+◌, ◌-◌, ◌*◌, ◌<◌, ◌≤◌, IsTrue, List, [], ◌∷◌, ◌++◌, length, get_or, set, take, drop, replicate, ⊎_elim, cond, true≢false, refl, ap, sym, subst, ◌∙◌, arith, length-append}
use Rattle.std.proofs.lemmas.Bool.{cases_lt}
use Rattle.std.specs.List.{AllByRecursion}
use Rattle.std.proofs.lemmas.List.{take_at, take_all, take_more, take_more_set, take-take, drop-take, drop-drop, take-append-drop, get_or-take, get_or-drop, drop_at, get_or-set_other, get_or_past, get_or-replicate, length-take, length-drop, length-set, length-replicate}
use Rattle.std.proofs.lemmas.Grind.{flat_map-append, get_or-set_at}
use Rattle.std.proofs.lemmas.Slice.{take-put_mid_below, take-put_mid, drop-put_mid}
use Rattle.std.proofs.Math.Seq.{take-add}
use borrow.Rule.Slice.PartMut.{put_mid}
use Rattle.byte_fields.specs.declared.frame_head.FrameHead.{FrameHead}
use Rattle.byte_fields.specs.FrameHeads.{blank, spelling, spelling_of_all, present_in_front, HasForm, FitsFields, IsHeadAt, AreHeads, AreGroupHeads}
use Rattle.byte_fields.proofs.HeadParts.{one_head}
use Rattle.byte_fields.proofs.HeadLists.{length_all, no_heads, heads_more, head_at, other_heads}
use Rattle.std_lemmas.proofs.AllOf.{all_at}
use Rattle.byte_fields.proofs.GroupHeads.{is_group, present_are_first}
use Rattle.meta_segments.specs.Segments.{heads_of_group, IsSegment}
use Rattle.meta_segments.proofs.Whole.{all_from_at, at_front, whole}

-- so many heads in front are present, and all behind them are blank
pub record HasFront (heads : List FrameHead) (frames : ℕ) : Type 0 where
  pub present : (i : ℕ) → i < frames → IsTrue (get_or heads i blank).present
  pub blanks : (i : ℕ) → frames ≤ i → get_or heads i blank ≡ blank

front_is : (heads : List FrameHead) (frames : ℕ) → HasFront heads frames → present_in_front heads ≡ frames
front_is [] zero front = refl
front_is [] (suc n) front = absurd (true≢false (sym (front.present 0 (omega arith))))
front_is (head ∷ heads) zero front = ap (λ (x : FrameHead). cond x.present (1 + present_in_front heads) 0) (front.blanks 0 (omega arith))
front_is (head ∷ heads) (suc n) front =
    let rest = front_is heads n (record { present = λ i less. front.present (suc i) (omega (arith, less)); blanks = λ i le. front.blanks (suc i) (omega (arith, le)) }) in
    ap (λ b. cond b (1 + present_in_front heads) 0) (front.present 0 (omega arith)) ∙ omega (arith, rest)

pub group_of_front : (heads : List FrameHead) (frames : ℕ) → length heads ≡ 8 → 0 < frames → HasFront heads frames → AreGroupHeads heads
group_of_front heads frames eight some front =
    let count = front_is heads frames front in
    is_group heads eight (omega (arith, count, some)) (all_from_at (λ head. head ≡ blank) (drop (present_in_front heads) heads) blank (λ i less.
    get_or-drop (present_in_front heads) heads i blank ∙ front.blanks (present_in_front heads + i) (omega (arith, count))))

-- heads up to a place were read
pub record HasRead (octets : List ℕ) (heads : List FrameHead) (place frames : ℕ) : Type 0 where
  pub size : length heads ≡ 8
  pub are : AreHeads octets (take place heads)
  pub front : HasFront heads frames
  pub within : frames ≤ place

-- one more that is blank
pub blank_read : (octets : List ℕ) (heads : List FrameHead) (place frames : ℕ) → HasRead octets heads place frames → place < 8 → IsHeadAt octets (16 * place) blank →
    HasRead octets heads (place + 1) frames
blank_read octets heads place frames read less is =
    let all : take (place + 1) heads ≡ take place heads ++ blank ∷ [] =
    take_more heads place blank (omega (arith, read.size, less)) ∙ ap (λ (x : FrameHead). take place heads ++ x ∷ []) (read.front.blanks place read.within) in
    record {
      size = read.size;
      are = subst (AreHeads octets) (sym all) (heads_more octets (take place heads) blank (16 * place) read.are is (omega (arith, length-take place heads, read.size, less)));
      front = read.front;
      within = omega (arith, read.within);
    }

-- a head that isn't blank is present
pub not_blank : (octets : List ℕ) (head : FrameHead) (at : ℕ) → IsHeadAt octets at head → (IsHeadAt octets at blank → ⊥) → IsTrue head.present
not_blank octets head at is other = ⊎_elim (λ present. present) (λ none. absurd (other (subst (IsHeadAt octets at) none is))) is.has_form

-- one more that is present, behind present ones alone
pub present_read : (octets : List ℕ) (heads : List FrameHead) (head : FrameHead) (place frames : ℕ) → HasRead octets heads place frames → place < 8 →
    IsHeadAt octets (16 * place) head → IsTrue head.present → place ≤ frames → HasRead octets (set heads place head) (place + 1) (place + 1)
present_read octets heads head place frames read less is present all = record {
  size = length-set heads place head ∙ read.size;
  are = subst (AreHeads octets) (sym (take_more_set heads place head (omega (arith, read.size, less))))
      (heads_more octets (take place heads) head (16 * place) read.are is (omega (arith, length-take place heads, read.size, less)));
  front = record {
    present = λ i before. ⊎_elim
        (λ low. ap (λ (x : FrameHead). x.present) (get_or-set_other heads place i head blank (λ e. omega (arith, e, low))) ∙ read.front.present i (omega (arith, low, all)))
        (λ high. ap (λ (x : FrameHead). x.present) (get_or-set_at heads place i head blank (omega (arith, high, before)) (omega (arith, read.size, less))) ∙ present)
        (cases_lt i place);
    blanks = λ i behind. get_or-set_other heads place i head blank (λ e. omega (arith, e, behind)) ∙ read.front.blanks i (omega (arith, read.within, behind));
  };
  within = omega arith;
}

-- no group has more frames than that, once a head behind them was read
pub no_more : (octets : List ℕ) (heads other : List FrameHead) (place frames : ℕ) → HasRead octets heads place frames → frames < place → frames < 8 →
    AreHeads octets other → AreGroupHeads other → frames < present_in_front other → ⊥
no_more octets heads other place frames read before less are group more =
    let size = length-take place heads in
    let same : get_or other frames blank ≡ blank =
    one_head octets (16 * frames) _ _ (head_at octets other frames are (omega (arith, group.eight, less))) (head_at octets (take place heads) frames read.are (omega (arith, size, read.size, before, less)))
    ∙ get_or-take place heads frames blank before ∙ read.front.blanks frames (omega arith) in
    true≢false (sym ((present_are_first other frames group less).1 more) ∙ ap (λ (x : FrameHead). x.present) same)

-- so a present one behind them is none of a group
pub gap_read : (octets : List ℕ) (heads other : List FrameHead) (head : FrameHead) (place frames : ℕ) → HasRead octets heads place frames → frames < place → place < 8 →
    IsHeadAt octets (16 * place) head → IsTrue head.present → AreHeads octets other → AreGroupHeads other → ⊥
gap_read octets heads other head place frames read before less is present are group =
    let same : get_or other place blank ≡ head = one_head octets (16 * place) _ _ (head_at octets other place are (omega (arith, group.eight, less))) is in
    let more = (present_are_first other place group less).0 (ap (λ (x : FrameHead). x.present) same ∙ present) in
    no_more octets heads other place frames read before (omega (arith, before, less)) are group (omega (arith, before, more))

-- heads from a place on, and up to a place
heads_from : (octets : List ℕ) (heads : List FrameHead) (n : ℕ) → AreHeads octets heads → AreHeads (drop (16 * n) octets) (drop n heads)
heads_from octets heads zero are = are
heads_from octets [] (suc n) are = no_heads _
heads_from octets (head ∷ heads) (suc n) are =
    subst (λ (t : List ℕ). AreHeads t (drop n heads)) (drop-drop (16 * n) 16 octets ∙ ap (λ k. drop k octets) (omega arith)) (heads_from (drop 16 octets) heads n (other_heads octets head heads are))

all_front : (P : FrameHead → Type 0) (heads : List FrameHead) (n : ℕ) → AllByRecursion P heads → AllByRecursion P (take n heads)
all_front P heads n all =
    all_from_at P (take n heads) blank (λ i less.
    let size = length-take n heads in
    subst P (sym (get_or-take n heads i blank (omega (arith, size, less)))) (all_at P heads i blank all (omega (arith, size, less))))

heads_up_to : (octets : List ℕ) (heads : List FrameHead) (n : ℕ) → AreHeads octets heads → AreHeads (take (16 * n) octets) (take n heads)
heads_up_to octets heads n are =
    let size = length-take n heads in
    let here = 16 * length (take n heads) in
    let parts : spelling_of_all heads ≡ spelling_of_all (take n heads) ++ spelling_of_all (drop n heads) =
    ap spelling_of_all (sym (take-append-drop n heads)) ∙ flat_map-append spelling (take n heads) (drop n heads) in
    record {
      text = take-take here (16 * n) octets (omega (arith, size)) ∙ sym (take-take here (16 * length heads) octets (omega (arith, size)))
          ∙ ap (take here) (are.text ∙ parts) ∙ take_at (spelling_of_all (take n heads)) _ here (length_all (take n heads));
      have_form = all_front HasForm heads n are.have_form;
      fit_fields = all_front FitsFields heads n are.fit_fields;
    }

-- the octets of one of four groups
abbrev pub octets_of : List ℕ → ℕ → List ℕ
octets_of content group = take 128 (drop (128 * group) content)

-- the heads of a group stand in its octets
pub group_in : (content : List ℕ) (heads : List FrameHead) (group : ℕ) → AreHeads content heads → AreHeads (octets_of content group) (heads_of_group heads group)
group_in content heads group are =
    heads_up_to (drop (128 * group) content) (drop (8 * group) heads) 8
    (subst (λ n. AreHeads (drop n content) (drop (8 * group) heads)) (omega arith) (heads_from content heads (8 * group) are))

all_both : (P : FrameHead → Type 0) (xs ys : List FrameHead) → AllByRecursion P xs → AllByRecursion P ys → AllByRecursion P (xs ++ ys)
all_both P [] ys h k = k
all_both P (x ∷ xs) ys h k = (h.0, all_both P xs ys h.1 k)

-- heads, and those of a group behind them
heads_then : (content : List ℕ) (heads new : List FrameHead) (group : ℕ) → AreHeads content heads → AreHeads (octets_of content group) new →
    length heads ≡ 8 * group → length new ≡ 8 → AreHeads content (heads ++ new)
heads_then content heads new group are is size eight =
    let both = length-append heads new in
    let behind : take (16 * length new) (drop (16 * length heads) content) ≡ spelling_of_all new =
    ap (λ n. take (16 * length new) (drop n content)) (omega (arith, size)) ∙ sym (take-take (16 * length new) 128 (drop (128 * group) content) (omega (arith, eight))) ∙ is.text in
    record {
      text = ap (λ n. take n content) (omega (arith, both)) ∙ take-add (16 * length heads) (16 * length new) content
          ∙ ap (λ (t : List ℕ). t ++ take (16 * length new) (drop (16 * length heads) content)) are.text
          ∙ ap (λ (t : List ℕ). spelling_of_all heads ++ t) behind ∙ sym (flat_map-append spelling heads new);
      have_form = all_both HasForm heads new are.have_form is.have_form;
      fit_fields = all_both FitsFields heads new are.fit_fields is.fit_fields;
    }

-- the first groups of a segment were read, and all heads behind them are blank
pub record HasGroups (content : List ℕ) (heads : List FrameHead) (group : ℕ) : Type 0 where
  pub size : length heads ≡ 32
  pub are : AreHeads content (take (8 * group) heads)
  pub groups : (n : ℕ) → n < group → AreGroupHeads (heads_of_group heads n)
  pub blanks : (i : ℕ) → 8 * group ≤ i → get_or heads i blank ≡ blank

-- before the first group is read
pub no_groups : (content : List ℕ) (n : ℕ) → n ≡ 32 → HasGroups content (replicate n blank) 0
no_groups content n all = grind (arith, length-replicate, no_heads, get_or-replicate, get_or_past, cases_lt)

-- the heads of a group are said by those up to its end
group_by_front : (a b : List FrameHead) (group n : ℕ) → take n a ≡ take n b → 8 * group + 8 ≤ n → heads_of_group a group ≡ heads_of_group b group
group_by_front a b group n same room =
    let cut : (heads : List FrameHead) → heads_of_group heads group ≡ drop (8 * group) (take (8 * group + 8) (take n heads)) =
    λ heads. sym (drop-take (8 * group) 8 heads) ∙ ap (drop (8 * group)) (sym (take-take (8 * group + 8) n heads room)) in
    cut a ∙ ap (λ (t : List FrameHead). drop (8 * group) (take (8 * group + 8) t)) same ∙ sym (cut b)

-- one group more
pub group_read : (content : List ℕ) (heads new : List FrameHead) (group at k : ℕ) → HasGroups content heads group → group < 4 → at ≡ 8 * group → k ≡ 8 →
    AreHeads (octets_of content group) new → AreGroupHeads new → HasGroups content (put_mid at k heads new) (group + 1)
group_read content heads new group at k have less here eight are is =
    let size = have.size in
    let all = put_mid at k heads new in
    let up : take (8 * (group + 1)) all ≡ take at heads ++ new = take-put_mid at k heads new (8 * (group + 1)) (omega (arith, here, is.eight)) (omega (arith, here, size, less)) in
    let below : take at all ≡ take at heads = take-put_mid_below at k heads new at (omega arith) (omega (arith, here, size, less)) in
    let behind : drop (8 * (group + 1)) all ≡ drop (8 * (group + 1)) heads =
    drop-put_mid at k heads new (8 * (group + 1)) (omega (arith, here, eight)) (omega (arith, here, size, less)) (omega (arith, is.eight, eight)) in
    let front : length (take at heads) ≡ 8 * group = omega (arith, length-take at heads, here, size, less) in
    record {
      size = omega (
        arith,
        ap length (take-append-drop (8 * (group + 1)) all),
        length-append (take (8 * (group + 1)) all) (drop (8 * (group + 1)) all),
        ap length up,
        length-append (take at heads) new,
        ap length behind,
        length-drop (8 * (group + 1)) heads,
        front,
        is.eight,
        size,
        less,
      );
      are = subst (AreHeads content) (sym up)
          (heads_then content (take at heads) new group (subst (λ n. AreHeads content (take n heads)) (sym here) have.are) are front is.eight);
      groups = λ n before. ⊎_elim
          (λ low. subst AreGroupHeads (sym (group_by_front all heads n at below (omega (arith, here, low)))) (have.groups n low))
          (λ high.
          let last : 8 * n ≡ 8 * group = omega (arith, high, before) in
          let whole_group : heads_of_group all n ≡ new =
          ap (λ m. take 8 (drop m all)) last ∙ sym (drop-take (8 * group) 8 all) ∙ ap (λ m. drop (8 * group) (take m all)) (omega arith)
          ∙ ap (drop (8 * group)) up ∙ drop_at (take at heads) new (8 * group) front in
          subst AreGroupHeads (sym whole_group) is)
          (cases_lt n group);
      blanks = λ i le.
          let there : 8 * (group + 1) + (i - 8 * (group + 1)) ≡ i = omega (arith, le) in
          ap (λ m. get_or all m blank) (sym there) ∙ sym (get_or-drop (8 * (group + 1)) all (i - 8 * (group + 1)) blank)
          ∙ ap (λ (t : List FrameHead). get_or t (i - 8 * (group + 1)) blank) behind ∙ get_or-drop (8 * (group + 1)) heads (i - 8 * (group + 1)) blank
          ∙ ap (λ m. get_or heads m blank) there ∙ have.blanks i (omega (arith, le));
    }

-- all four groups are a segment
pub segment_read : (content : List ℕ) (heads : List FrameHead) (group : ℕ) → HasGroups content heads group → length content ≡ 512 → 4 ≤ group → IsSegment content heads
segment_read content heads group have full four = grind (arith, take_all, whole)

-- a segment has a group in the octets of each
pub segment_has_group : (content : List ℕ) (heads : List FrameHead) (group : ℕ) → IsSegment content heads → group < 4 →
    AreHeads (octets_of content group) (heads_of_group heads group) × AreGroupHeads (heads_of_group heads group)
segment_has_group content heads group is less = (group_in content heads group (at_front content heads is), is.are_heads.groups group less)
