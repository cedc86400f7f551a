-- Steps of a change that keep a page sound.
use Rattle.std.proofs.Common.{◌≡◌, ◌≢◌, ℕ, ◌+◌, ◌-◌, ◌*◌, ◌^◌, ◌<◌, ◌≤◌, ◌⊎◌, inl, inr, List, length, take, drop, Option, Some, None, sym, ap, ◌∙◌, subst, arith, ⊎_elim}
use Rattle.std.proofs.lemmas.List.{drop-drop}
use Rattle.std.proofs.lemmas.Bool.{cases_eq, cases_lt}
use Rattle.std.specs.Int.{w16, w64, to_be_bytes}
use Rattle.byte_fields.specs.declared.TheConstants.{VALUE_MAX}
use Rattle.slotted_page.specs.Layout.{lsn_of, number_at, used_of, offset_of, code_of, length_of, content_of, IsEntry, AreApart, IsSound}
use Rattle.slotted_page.specs.Changes.{Wrote, SetsEntry, Sets}
use Rattle.slotted_page.proofs.Written.{length-Wrote, wrote_nothing, own, before, behind, number_before, number_behind, number_own, lsn_before}
use Rattle.slotted_page.proofs.Slots.{content_none, content_some, content_alike, content_same}

-- an entry that says the same over a heap that takes up no less
pub IsEntry-same : (old new : List ℕ) (slot : ℕ) → offset_of new slot ≡ offset_of old slot → code_of new slot ≡ code_of old slot
    → used_of old ≤ used_of new → IsEntry old slot → IsEntry new slot
IsEntry-same old new slot offset code more e = record {
  empty = λ none. offset ∙ e.empty (sym code ∙ none);
  short = omega (arith, code, e.short);
  begin = λ some. omega (arith, more, offset, e.begin (omega (arith, code, some)));
  end = λ some. omega (arith, offset, code, e.end (omega (arith, code, some)));
}

-- How a change of one slot may come about: the directory's other entries stay, and so does what the heap took up before.
pub record Renews (old new : List ℕ) (slot : ℕ) (content : Option (List ℕ)) : Type 0 where
  pub size : length new ≡ 4096
  pub zeros : take 6 (drop 10 new) ≡ take 6 (drop 10 old)
  pub lsn : lsn_of new ≡ lsn_of old
  pub more : used_of old ≤ used_of new
  pub few : used_of new ≤ 3952
  pub others : (k : ℕ) → k < 32 → k ≢ slot → (offset_of new k ≡ offset_of old k) × (code_of new k ≡ code_of old k)
  pub heap : (p : ℕ) → 4096 ≤ p + used_of old → drop p new ≡ drop p old
  pub entry : IsEntry new slot
  pub front : 0 < length_of new slot → offset_of new slot + length_of new slot + used_of old ≤ 4096
  pub own : content_of new slot ≡ content

module _ (old new : List ℕ) (slot : ℕ) (content : Option (List ℕ)) (sound : IsSound old) (r : Renews old new slot content) where
  entries : (k : ℕ) → k < 32 → IsEntry new k
  entries k below =
      ⊎_elim (λ (here : k ≡ slot). let P : ℕ → Type 0 = λ n. IsEntry new n in subst P (sym here) r.entry)
      (λ (other : k ≢ slot). IsEntry-same old new k (r.others k below other).0 (r.others k below other).1 r.more (sound.entries k below))
      (cases_eq k slot)

  -- the slot's own value stands in front of all others
  in_front : (k : ℕ) → k < 32 → k ≢ slot → 0 < length_of new slot → 0 < length_of new k → offset_of new slot + length_of new slot ≤ offset_of new k
  in_front k below other some value =
      let same = r.others k below other in
      omega (arith, r.front some, same.0, same.1, (sound.entries k below).begin (omega (arith, value, same.1)))

  apart : (a b : ℕ) → a < b → b < 32 → AreApart new a b
  apart a b less below = record {
    disjoint = λ a_some b_some.
        ⊎_elim (λ (here : a ≡ slot). inl (first a_some b_some here))
        (λ (a_other : a ≢ slot). ⊎_elim (λ (here : b ≡ slot). inr (second a_some b_some here a_other))
        (λ (b_other : b ≢ slot). neither a_some b_some a_other b_other)
        (cases_eq b slot))
        (cases_eq a slot);
  }
    where
      first : 0 < length_of new a → 0 < length_of new b → a ≡ slot → offset_of new a + length_of new a ≤ offset_of new b
      first a_some b_some here = let P : ℕ → Type 0 = λ n. 0 < length_of new n → offset_of new n + length_of new n ≤ offset_of new b in
          subst P (sym here) (λ some. in_front b below (λ (same : b ≡ slot). omega (arith, less, here, same)) some b_some) a_some

      second : 0 < length_of new a → 0 < length_of new b → b ≡ slot → a ≢ slot → offset_of new b + length_of new b ≤ offset_of new a
      second a_some b_some here other = let P : ℕ → Type 0 = λ n. 0 < length_of new n → offset_of new n + length_of new n ≤ offset_of new a in
          subst P (sym here) (λ some. in_front a (omega (arith, less, below)) other some a_some) b_some

      neither : 0 < length_of new a → 0 < length_of new b → a ≢ slot → b ≢ slot → (offset_of new a + length_of new a ≤ offset_of new b) ⊎ (offset_of new b + length_of new b ≤ offset_of new a)
      neither a_some b_some a_other b_other =
          let sa = r.others a (omega (arith, less, below)) a_other in
          let sb = r.others b below b_other in
          ⊎_elim (λ (e : offset_of old a + length_of old a ≤ offset_of old b). inl (omega (arith, e, sa.0, sa.1, sb.0, sb.1)))
          (λ (e : offset_of old b + length_of old b ≤ offset_of old a). inr (omega (arith, e, sa.0, sa.1, sb.0, sb.1)))
          ((sound.apart a b less below).disjoint (omega (arith, a_some, sa.1)) (omega (arith, b_some, sb.1)))

  pub sets : Sets old new slot content
  sets = record {
    sound = record {
      size = r.size;
      zeros = r.zeros ∙ sound.zeros;
      used = r.few;
      entries = entries;
      apart = apart;
    };
    own = r.own;
    others = λ k below other. content_same old new k (r.others k below other).0 (r.others k below other).1
        (λ some. r.heap (offset_of old k) (omega (arith, (sound.entries k below).begin some)));
    lsn = r.lsn;
  }

-- the entry of a slot, written as two numbers
pub entry_set : (a b c : List ℕ) (slot offset code : ℕ) → slot < 32 → offset < 2 ^ 16 → code < 2 ^ 16
    → Wrote a b (16 + 4 * slot) (to_be_bytes w16 offset) → Wrote b c (18 + 4 * slot) (to_be_bytes w16 code) → SetsEntry a c slot offset code
entry_set a b c slot offset code inside offset_small code_small w1 w2 = record {
  size = length-Wrote b c _ _ w2 ∙ length-Wrote a b _ _ w1;
  own_offset = number_before b c _ _ (16 + 4 * slot) w2 (omega arith) ∙ number_own a b (16 + 4 * slot) offset w1 offset_small;
  own_code = number_own b c (18 + 4 * slot) code w2 code_small;
  others = λ k other. (beside (16 + 4 * k) (omega_apart k other), beside (18 + 4 * k) (omega_apart' k other));
  lsn = lsn_before b c _ _ w2 (omega arith) ∙ lsn_before a b _ _ w1 (omega arith);
  used = number_before b c _ _ 8 w2 (omega arith) ∙ number_before a b _ _ 8 w1 (omega arith);
  zeros = before b c _ _ 10 6 w2 (omega arith) ∙ before a b _ _ 10 6 w1 (omega arith);
  heap = behind b c _ _ 144 w2 (omega (arith, inside)) ∙ behind a b _ _ 144 w1 (omega (arith, inside));
}
  where
    beside : (p : ℕ) → (p + 2 ≤ 16 + 4 * slot) ⊎ (20 + 4 * slot ≤ p) → number_at c p ≡ number_at a p
    beside p (inl less) = number_before b c _ _ p w2 (omega (arith, less)) ∙ number_before a b _ _ p w1 less
    beside p (inr more) = number_behind b c _ _ p w2 (omega (arith, more)) ∙ number_behind a b _ _ p w1 (omega (arith, more))

    omega_apart : (k : ℕ) → k ≢ slot → (16 + 4 * k + 2 ≤ 16 + 4 * slot) ⊎ (20 + 4 * slot ≤ 16 + 4 * k)
    omega_apart k other = ⊎_elim (λ (less : k < slot). inl (omega (arith, less))) (λ (more : slot ≤ k). inr (omega (arith, more, other))) (cases_lt k slot)

    omega_apart' : (k : ℕ) → k ≢ slot → (18 + 4 * k + 2 ≤ 16 + 4 * slot) ⊎ (20 + 4 * slot ≤ 18 + 4 * k)
    omega_apart' k other = ⊎_elim (λ (less : k < slot). inl (omega (arith, less))) (λ (more : slot ≤ k). inr (omega (arith, more, other))) (cases_lt k slot)

-- a slot that is emptied
pub clears : (old new : List ℕ) (slot : ℕ) → IsSound old → SetsEntry old new slot 0 0 → Renews old new slot None
clears old new slot sound e = record {
  size = e.size ∙ sound.size;
  zeros = e.zeros;
  lsn = e.lsn;
  more = omega (arith, e.used);
  few = omega (arith, e.used, sound.used);
  others = λ k below other. e.others k other;
  heap = λ p far. let rest : 144 + (p - 144) ≡ p = omega (arith, far, sound.used) in
      ap (λ m. drop m new) (sym rest) ∙ sym (drop-drop (p - 144) 144 new) ∙ ap (drop (p - 144)) e.heap ∙ drop-drop (p - 144) 144 old ∙ ap (λ m. drop m old) rest;
  entry = record {
    empty = λ _. e.own_offset;
    short = omega (arith, e.own_code);
    begin = λ some. absurd (omega (arith, some, e.own_code));
    end = λ some. absurd (omega (arith, some, e.own_code));
  };
  front = λ some. absurd (omega (arith, some, e.own_code));
  own = content_none new slot e.own_code;
}

-- a value that is put in front of the heap
pub places : (a b c d : List ℕ) (slot used offset : ℕ) (value : List ℕ) → IsSound a → slot < 32 → length value ≤ VALUE_MAX
    → used ≡ used_of a + length value → used ≤ 3952 → offset + used ≡ 4096
    → Wrote a b offset value → Wrote b c 8 (to_be_bytes w16 used) → SetsEntry c d slot offset (length value + 1)
    → Renews a d slot (Some value) × (used_of d ≡ used)
places a b c d slot used offset value sound inside short total few begin w1 w2 e = (
  record {
    size = e.size ∙ length-Wrote b c _ _ w2 ∙ length-Wrote a b _ _ w1 ∙ sound.size;
    zeros = e.zeros ∙ ap (take 6) (behind b c _ _ 10 w2 (omega arith)) ∙ before a b _ _ 10 6 w1 (omega (arith, few, begin));
    lsn = e.lsn ∙ lsn_before b c _ _ w2 (omega arith) ∙ lsn_before a b _ _ w1 (omega (arith, few, begin));
    more = omega (arith, now_used, total);
    few = omega (arith, now_used, few);
    others = λ k below other. ((e.others k other).0 ∙ beside (16 + 4 * k) (omega arith) (omega (arith, below)), (e.others k other).1 ∙ beside (18 + 4 * k) (omega arith) (omega (arith, below)));
    heap = λ p far. heap p (omega (arith, far, few, total)) ∙ behind b c _ _ p w2 (omega (arith, far, few, total)) ∙ behind a b _ _ p w1 (omega (arith, far, total, begin));
    entry = record {
      empty = λ none. absurd (omega (arith, none, e.own_code));
      short = omega (arith, short, e.own_code);
      begin = λ some. omega (arith, begin, now_used, e.own_offset);
      end = λ some. omega (arith, begin, total, e.own_offset, e.own_code);
    };
    front = λ some. omega (arith, begin, total, e.own_offset, e.own_code);
    own = content_some d slot offset (length value) value e.own_offset e.own_code
        (ap (take (length value)) (heap offset (omega (arith, begin, few)) ∙ behind b c _ _ offset w2 (omega (arith, begin, few))) ∙ own a b offset value w1);
  },
  now_used,
)
  where
    now_used : used_of d ≡ used
    now_used = e.used ∙ number_own b c 8 used w2 (omega (arith, few))

    beside : (p : ℕ) → 10 ≤ p → p + 2 ≤ 144 → number_at c p ≡ number_at a p
    beside p more less = number_behind b c _ _ p w2 (omega (arith, more)) ∙ number_before a b _ _ p w1 (omega (arith, less, begin, few))

    heap : (p : ℕ) → 144 ≤ p → drop p d ≡ drop p c
    heap p far = let rest : 144 + (p - 144) ≡ p = omega (arith, far) in
        ap (λ m. drop m d) (sym rest) ∙ sym (drop-drop (p - 144) 144 d) ∙ ap (drop (p - 144)) e.heap ∙ drop-drop (p - 144) 144 c ∙ ap (λ m. drop m c) rest

-- the same directory over other octets
pub sound_again : (old new : List ℕ) → IsSound old → length new ≡ 4096 → take 6 (drop 10 new) ≡ take 6 (drop 10 old)
    → ((p : ℕ) → 8 ≤ p → p + 2 ≤ 144 → number_at new p ≡ number_at old p) → IsSound new
sound_again old new sound size zeros numbers = record {
  size = size;
  zeros = zeros ∙ sound.zeros;
  used = omega (arith, sound.used, numbers 8 (omega arith) (omega arith));
  entries = λ k below. IsEntry-same old new k (numbers _ (omega arith) (omega (arith, below))) (numbers _ (omega arith) (omega (arith, below)))
      (omega (arith, numbers 8 (omega arith) (omega arith))) (sound.entries k below);
  apart = λ a b less below. record {
    disjoint = λ a_some b_some.
        let sa0 = numbers (16 + 4 * a) (omega arith) (omega (arith, less, below)) in let sa1 = numbers (18 + 4 * a) (omega arith) (omega (arith, less, below)) in
        let sb0 = numbers (16 + 4 * b) (omega arith) (omega (arith, below)) in let sb1 = numbers (18 + 4 * b) (omega arith) (omega (arith, below)) in
        ⊎_elim (λ (e : offset_of old a + length_of old a ≤ offset_of old b). inl (omega (arith, e, sa0, sa1, sb0, sb1)))
        (λ (e : offset_of old b + length_of old b ≤ offset_of old a). inr (omega (arith, e, sa0, sa1, sb0, sb1)))
        ((sound.apart a b less below).disjoint (omega (arith, a_some, sa1)) (omega (arith, b_some, sb1)));
  };
}

-- another LSN
module _ (old new : List ℕ) (lsn : ℕ) (sound : IsSound old) (w : Wrote old new 0 (to_be_bytes w64 lsn)) where
  numbers : (p : ℕ) → 8 ≤ p → number_at new p ≡ number_at old p
  numbers p more = number_behind old new 0 _ p w more

  pub sound_lsn : IsSound new
  sound_lsn = sound_again old new sound (length-Wrote old new _ _ w ∙ sound.size) (ap (take 6) (behind old new 0 _ 10 w (omega arith))) (λ p more less. numbers p more)

  pub contents_lsn : (k : ℕ) → k < 32 → content_of new k ≡ content_of old k
  contents_lsn k below = content_same old new k (numbers _ (omega arith)) (numbers _ (omega arith))
      (λ some. behind old new 0 _ (offset_of old k) w (omega (arith, sound.used, (sound.entries k below).begin some)))

-- a value that is written over one that is as long
module _ (old new : List ℕ) (slot : ℕ) (value : List ℕ) (sound : IsSound old) (inside : slot < 32) (code : code_of old slot ≡ length value + 1)
    (w : Wrote old new (offset_of old slot) value) where
  in_heap : 144 ≤ offset_of old slot
  in_heap = omega (arith, sound.used, (sound.entries slot inside).begin (omega (arith, code)))

  directory : (p : ℕ) → p + 2 ≤ 144 → number_at new p ≡ number_at old p
  directory p less = number_before old new _ _ p w (omega (arith, less, in_heap))

  -- where both values have octets they stand apart
  beside : (k : ℕ) → k < 32 → k ≢ slot → 0 < length value → 0 < length_of old k
      → (offset_of old slot + length value ≤ offset_of old k) ⊎ (offset_of old k + length_of old k ≤ offset_of old slot)
  beside k below other own_some some =
      ⊎_elim (λ (less : k < slot).
      ⊎_elim (λ (e : offset_of old k + length_of old k ≤ offset_of old slot). inr e)
      (λ (e : offset_of old slot + length_of old slot ≤ offset_of old k). inl (omega (arith, e, code)))
      ((sound.apart k slot less inside).disjoint some (omega (arith, code, own_some))))
      (λ (more : slot ≤ k).
      ⊎_elim (λ (e : offset_of old slot + length_of old slot ≤ offset_of old k). inl (omega (arith, e, code)))
      (λ (e : offset_of old k + length_of old k ≤ offset_of old slot). inr e)
      ((sound.apart slot k (omega (arith, more, other)) below).disjoint (omega (arith, code, own_some)) some))
      (cases_lt k slot)

  -- no octet of another value is changed
  value_kept : (k : ℕ) → k < 32 → k ≢ slot → take (length_of old k) (drop (offset_of old k) new) ≡ take (length_of old k) (drop (offset_of old k) old)
  value_kept k below other =
      ⊎_elim (λ (none : length value ≡ 0). ap (λ xs. take (length_of old k) (drop (offset_of old k) xs)) (wrote_nothing old new (offset_of old slot) value w none))
      (λ (own_some : length value ≡ 0 → ⊥).
      ⊎_elim (λ (none : length_of old k ≡ 0).
      ap (λ n. take n (drop (offset_of old k) new)) none ∙ sym (ap (λ n. take n (drop (offset_of old k) old)) none))
      (λ (some : length_of old k ≡ 0 → ⊥).
      ⊎_elim (λ (e : offset_of old slot + length value ≤ offset_of old k). ap (take (length_of old k)) (behind old new _ value (offset_of old k) w e))
      (λ (e : offset_of old k + length_of old k ≤ offset_of old slot). before old new _ value (offset_of old k) (length_of old k) w e)
      (beside k below other (omega (arith, own_some)) (omega (arith, some))))
      (cases_eq (length_of old k) 0))
      (cases_eq (length value) 0)

  overwrites : Sets old new slot (Some value)
  overwrites = record {
    sound = sound_again old new sound (length-Wrote old new _ _ w ∙ sound.size) (before old new _ _ 10 6 w (omega (arith, in_heap))) (λ p _ less. directory p less);
    own = content_some new slot (offset_of old slot) (length value) value (directory _ (omega (arith, inside))) (directory _ (omega (arith, inside)) ∙ code) (own old new _ value w);
    others = λ k below other. content_alike old new k (directory _ (omega (arith, below))) (directory _ (omega (arith, below))) (λ _. value_kept k below other);
    lsn = lsn_before old new _ _ w (omega (arith, in_heap));
  }

pub overwrites_at : (old new : List ℕ) (slot at : ℕ) (value : List ℕ) → IsSound old → slot < 32 → code_of old slot ≡ length value + 1
    → at ≡ offset_of old slot → Wrote old new at value → Sets old new slot (Some value)
overwrites_at old new slot at value sound inside code here w =
    let P : ℕ → Type 0 = λ n. Wrote old new n value in overwrites old new slot value sound inside code (subst P here w)
