-- Which changed pages have an LSN in the tail, before a push of a flush and behind it.
use Rattle.page_store.proofs.Names.{◌≡◌, ℕ, zero, suc, ◌+◌, ◌*◌, Bool, true, false, not, ◌&&◌, ◌||◌, cond, List, [], ◌∷◌, get_or, take, map, filter, reverse, Some, arith, refl, sym, ap, ◌∙◌, get_or_default, AllByRecursion, list_any, AreDistinct, frame_of, Frame, pool_page, changed_frames, cleared_all, all_both, all_map, all_at, any_reverse}
use Rattle.page_store.proofs.Choosing.{first_changed}
use Rattle.page_store.proofs.Clearing.{cleared_by, by_content, by_mark, is_among, all_cleared}
use Rattle.page_store.proofs.Saving.{found_all, found_chosen}
use Rattle.page_store.proofs.Flushes.{among_listed}

-- some changed page passes a test
abbrev pub some_changed : (List ℕ → Bool) → List Frame → Bool
some_changed u frames = list_any (λ (f : Frame). f.changed && u f.content) frames

any_filtered : (u : List ℕ → Bool) (xs : List Frame) → list_any u (map (λ (f : Frame). f.content) (filter (λ (f : Frame). f.changed) xs)) ≡ some_changed u xs
any_filtered u [] = refl
any_filtered u (x ∷ xs) = by x.changed (any_filtered u xs)
  where
    by : (b : Bool) → list_any u (map (λ (f : Frame). f.content) (filter (λ (f : Frame). f.changed) xs)) ≡ some_changed u xs
        → list_any u (map (λ (f : Frame). f.content) (cond b (x ∷ filter (λ (f : Frame). f.changed) xs) (filter (λ (f : Frame). f.changed) xs))) ≡ ((b && u x.content) || some_changed u xs)
    by true rest = ap (λ b. u x.content || b) rest
    by false rest = rest

pub any_changed : (u : List ℕ → Bool) (frames : List Frame) → list_any u (map (λ (f : Frame). f.content) (changed_frames frames)) ≡ some_changed u frames
any_changed u frames = any_filtered u (reverse frames) ∙ any_reverse (λ (f : Frame). f.changed && u f.content) frames

-- the first ones are some of all
any_taken : (u : List ℕ → Bool) (n : ℕ) (xs : List Frame) → list_any u (map (λ (f : Frame). f.content) (take n xs)) ≡ true → list_any u (map (λ (f : Frame). f.content) xs) ≡ true
any_taken u zero xs some = absurd cc
any_taken u (suc n) [] some = some
any_taken u (suc n) (x ∷ xs) some = by (u x.content) some (any_taken u n xs)
  where
    by : (b : Bool) → (b || list_any u (map (λ (f : Frame). f.content) (take n xs))) ≡ true
        → (list_any u (map (λ (f : Frame). f.content) (take n xs)) ≡ true → list_any u (map (λ (f : Frame). f.content) xs) ≡ true) → (b || list_any u (map (λ (f : Frame). f.content) xs)) ≡ true
    by true some rest = refl
    by false some rest = rest some

pub chosen_some : (u : List ℕ → Bool) (room : ℕ) (frames : List Frame) → list_any u (map (λ (f : Frame). f.content) (first_changed room frames)) ≡ true → some_changed u frames ≡ true
chosen_some u room frames some = sym (any_changed u frames) ∙ any_taken u room (changed_frames frames) some

-- where none of the chosen pages passes, the others alone decide

none_at : (u : List ℕ → Bool) (xs : List Frame) → list_any u (map (λ (f : Frame). f.content) xs) ≡ false → AllByRecursion (λ (f : Frame). u f.content ≡ false) xs
none_at u [] none = tt
none_at u (x ∷ xs) none = by (u x.content) refl none (none_at u xs)
  where
    by : (b : Bool) → u x.content ≡ b → (b || list_any u (map (λ (f : Frame). f.content) xs)) ≡ false
        → (list_any u (map (λ (f : Frame). f.content) xs) ≡ false → AllByRecursion (λ (f : Frame). u f.content ≡ false) xs) → AllByRecursion (λ (f : Frame). u f.content ≡ false) (x ∷ xs)
    by true is none rest = absurd cc
    by false is none rest = (is, rest none)

module _ (u : List ℕ → Bool) (room : ℕ) (frames : List Frame) (apart : AreDistinct frames) (none : list_any u (map (λ (f : Frame). f.content) (first_changed room frames)) ≡ false) where
  abbrev named : List ℕ
  named = map (λ (f : Frame). f.page) (first_changed room frames)

  abbrev Passes : ℕ → Type 0
  Passes page = (f : Frame) → frame_of frames page ≡ Some f → u f.content ≡ false

  all_named : AllByRecursion Passes named
  all_named = all_map Passes (λ (f : Frame). f.page) (first_changed room frames)
      (all_both (λ (f : Frame). frame_of frames f.page ≡ Some f) (λ (f : Frame). u f.content ≡ false) (λ (f : Frame). Passes f.page)
      (λ f own is other found. let same : f ≡ other = one f other (sym own ∙ found) in ap (λ (g : Frame). u g.content) (sym same) ∙ is)
      (first_changed room frames) (found_chosen room frames apart) (none_at u (first_changed room frames) none))
    where
      one : (f other : Frame) → Some f ≡ Some other → f ≡ other
      one f other same = cc

  not_one : (f : Frame) → frame_of frames f.page ≡ Some f → is_among named f.page ≡ true → u f.content ≡ false
  not_one f own among =
      let there = among_listed named f.page among in
      let at : get_or named there.0 0 ≡ f.page = get_or_default named there.0 0 f.page there.1 ∙ there.2 in
      all_at Passes named there.0 0 all_named there.1 f (ap (frame_of frames) at ∙ own)

  same_test : (f : Frame) → frame_of frames f.page ≡ Some f → (f.changed && u f.content) ≡ ((f.changed && not (is_among named f.page)) && u f.content)
  same_test f own = by (is_among named f.page) refl
    where
      end_false : (a b : Bool) → (a && false) ≡ ((a && b) && false)
      end_false true true = refl
      end_false true false = refl
      end_false false b = refl

      end_true : (a b : Bool) → (a && b) ≡ ((a && true) && b)
      end_true true b = refl
      end_true false b = refl

      by : (b : Bool) → is_among named f.page ≡ b → (f.changed && u f.content) ≡ ((f.changed && not b) && u f.content)
      by true is = let no_test = not_one f own is in ap (λ t. f.changed && t) no_test ∙ end_false f.changed false ∙ sym (ap (λ t. (f.changed && false) && t) no_test)
      by false is = end_true f.changed (u f.content)

  pub same_changed : some_changed u frames ≡ some_changed u (cleared_all named frames)
  same_changed = each frames (found_all frames apart) ∙ sym (ap (some_changed u) (all_cleared named frames) ∙ cleared frames)
    where
      each : (xs : List Frame) → AllByRecursion (λ (f : Frame). frame_of frames f.page ≡ Some f) xs
          → some_changed u xs ≡ list_any (λ (f : Frame). (f.changed && not (is_among named f.page)) && u f.content) xs
      each [] all = refl
      each (x ∷ xs) all = λ i. same_test x all.0 i || each xs all.1 i

      cleared : (xs : List Frame) → some_changed u (map (cleared_by named) xs) ≡ list_any (λ (f : Frame). (f.changed && not (is_among named f.page)) && u f.content) xs
      cleared [] = refl
      cleared (x ∷ xs) = λ i. (by_mark named x i && u (by_content named x i)) || cleared xs i

-- Forces, round by round.

abbrev pub forces_at : Bool → ℕ → List Frame → (ℕ → List ℕ → Bool) → Bool
forces_at tail hi frames test = tail && list_any (test (512 * hi)) (map (λ (f : Frame). f.content) (changed_frames frames))

pub next_round : (test : ℕ → List ℕ → Bool) (room : ℕ) (frames : List Frame) (apart : AreDistinct frames) (b : Bool) (t1 t2 : Bool) (h1 h2 : ℕ)
    → let forced = t1 && list_any (test (512 * h1)) (map (λ (f : Frame). f.content) (first_changed room frames)) in
    h2 ≡ cond forced (h1 + 1) h1 → 512 * (h2 + cond t2 1 0) ≡ 512 * (h1 + cond t1 1 0)
    → (b || forces_at t1 h1 frames test) ≡ ((b || forced) || forces_at t2 h2 (cleared_all (map (λ (f : Frame). f.page) (first_changed room frames)) frames) test)
next_round test room frames apart b false t2 h1 h2 next end = ap (λ t. b || t) (sym (none t2 end)) ∙ grouped b _
  where
    none : (t : Bool) → 512 * (h2 + cond t 1 0) ≡ 512 * (h1 + 0) → forces_at t h2 (cleared_all (map (λ (f : Frame). f.page) (first_changed room frames)) frames) test ≡ false
    none true end = absurd (omega (arith, next, end))
    none false end = refl

    grouped : (a c : Bool) → (a || c) ≡ ((a || false) || c)
    grouped true c = refl
    grouped false c = refl
next_round test room frames apart b true t2 h1 h2 next end = by (list_any (test (512 * h1)) (map (λ (f : Frame). f.content) (first_changed room frames))) refl next
  where
    or_true : (a c : Bool) → (a || true) ≡ ((a || true) || c)
    or_true true c = refl
    or_true false c = refl

    grouped : (a c : Bool) → (a || c) ≡ ((a || false) || c)
    grouped true c = refl
    grouped false c = refl

    same_tail : (t : Bool) → 512 * (h1 + cond t 1 0) ≡ 512 * (h1 + 1) → t ≡ true
    same_tail true is = refl
    same_tail false is = absurd (omega (arith, is))

    by : (c : Bool) → list_any (test (512 * h1)) (map (λ (f : Frame). f.content) (first_changed room frames)) ≡ c → h2 ≡ cond c (h1 + 1) h1
        → (b || forces_at true h1 frames test) ≡ ((b || c) || forces_at t2 h2 (cleared_all (map (λ (f : Frame). f.page) (first_changed room frames)) frames) test)
    by true is next = ap (λ t. b || t) (any_changed (test (512 * h1)) frames ∙ chosen_some (test (512 * h1)) room frames is) ∙ or_true b _
    by false is next =
        let tail : t2 ≡ true = same_tail t2 (ap (λ h. 512 * (h + cond t2 1 0)) (sym next) ∙ end) in
        let rest : forces_at true h1 frames test ≡ forces_at t2 h2 (cleared_all (map (λ (f : Frame). f.page) (first_changed room frames)) frames) test =
        any_changed (test (512 * h1)) frames ∙ same_changed (test (512 * h1)) room frames apart is
        ∙ sym (any_changed (test (512 * h1)) (cleared_all (map (λ (f : Frame). f.page) (first_changed room frames)) frames))
        ∙ (λ i. sym tail i && list_any (test (512 * sym next i)) (map (λ (f : Frame). f.content) (changed_frames (cleared_all (map (λ (f : Frame). f.page) (first_changed room frames)) frames)))) in
        ap (λ t. b || t) rest ∙ grouped b _

-- At the end no page is changed.
pub none_left_changed : (u : List ℕ → Bool) (frames : List Frame) → list_any (λ p. p.changed) (map pool_page frames) ≡ false → some_changed u frames ≡ false
none_left_changed u [] none = refl
none_left_changed u (x ∷ xs) none = by x.changed none (none_left_changed u xs)
  where
    by : (b : Bool) → (b || list_any (λ p. p.changed) (map pool_page xs)) ≡ false → (list_any (λ p. p.changed) (map pool_page xs) ≡ false → some_changed u xs ≡ false)
        → ((b && u x.content) || some_changed u xs) ≡ false
    by true none rest = absurd cc
    by false none rest = rest none

pub nothing_forced : (tail : Bool) (u : List ℕ → Bool) (frames : List Frame) → list_any (λ p. p.changed) (map pool_page frames) ≡ false
    → (tail && list_any u (map (λ (f : Frame). f.content) (changed_frames frames))) ≡ false
nothing_forced tail u frames none = ap (λ t. tail && t) (any_changed u frames ∙ none_left_changed u frames none) ∙ and_false tail
  where
    and_false : (b : Bool) → (b && false) ≡ false
    and_false true = refl
    and_false false = refl

-- Where the first ones force the log, all do.
pub forced_by_first : (tail : Bool) (u : List ℕ → Bool) (room : ℕ) (frames : List Frame) → (tail && list_any u (map (λ (f : Frame). f.content) (first_changed room frames))) ≡ true
    → (tail && list_any u (map (λ (f : Frame). f.content) (changed_frames frames))) ≡ true
forced_by_first true u room frames is = any_changed u frames ∙ chosen_some u room frames is
forced_by_first false u room frames is = is
