-- The frames that a push stages and those that it gives a second chance, as they stand on flash: each is the last one of its page.
use Rattle.flash_cache.proofs.Names.{◌≡◌, ℕ, zero, suc, ◌+◌, ◌<◌, ◌==◌, Bool, true, false, true≢false, not, ◌&&◌, ◌||◌, cond, List, [], ◌∷◌, length, get_or, map, filter, Option, Some, None, is_some, arith, refl, sym, ap, subst, ◌∙◌, and_parts, eqb-true, eq-eqb, ne_eqb, get_or-take, length-take, none-some, same_Some, cond_some, enumerate_from, option_or, Mark, no_frame, AllTogether, Shows, last_of_both, last_is_of_page, Frame, last_frame, Placed, chances_of, staged_of, is_among, in_group, in_groups, is_last, mark_of, group_marks, Known}
use Rattle.std_lemmas.proofs.Options.{none_if_no_some}
use Rattle.flash_cache.proofs.Queues.{joined}
use Rattle.std.proofs.lemmas.Grind.{common_steps}

-- whether a page has a frame

in_group_is : (known : List Known) (frames : List Frame) (page : ℕ) → AllTogether Shows known frames → in_group known page ≡ is_some (last_frame page frames)
in_group_is [] [] page shown = refl
in_group_is [] (f ∷ fs) page shown = absurd shown
in_group_is (k ∷ ks) [] page shown = absurd shown
in_group_is (k ∷ ks) (f ∷ fs) page shown = grind (arith, common_steps, (in_group_is ks fs page shown.1))

pub in_groups_is : (known : List (List Known)) (groups : List (List Frame)) (page : ℕ) → AllTogether (AllTogether Shows) known groups → in_groups known page ≡ is_some (last_frame page (joined groups))
in_groups_is [] [] page shown = refl
in_groups_is [] (f ∷ fs) page shown = absurd shown
in_groups_is (k ∷ ks) [] page shown = absurd shown
in_groups_is (k ∷ ks) (f ∷ fs) page shown = grind (arith, common_steps, in_group_is, joined, last_of_both, (in_groups_is ks fs page shown.1))

pub not_in_groups : (known : List (List Known)) (groups : List (List Frame)) (page : ℕ) → AllTogether (AllTogether Shows) known groups → in_groups known page ≡ false → last_frame page (joined groups) ≡ None
not_in_groups known groups page shown out = none_if_no_some (last_frame page (joined groups)) (sym (in_groups_is known groups page shown) ∙ out)

-- the frames from a place on whose marks pass a test

abbrev Test : Type 0
Test = Placed → Bool

abbrev TakesValid : Test → Type 0
TakesValid test = (f : Placed) → test f ≡ true → f.1.valid ≡ true

abbrev tested_from : Test → ℕ → List Known → List (List Known) → List Placed
tested_from test n group later = filter test (enumerate_from n (group_marks group later))

pub record StandsFrom (n : ℕ) (frames : List Frame) (later : List (List Known)) (f : Placed) : Type 0 where
  pub i : ℕ
  pub place : f.0 ≡ n + i
  pub last : last_frame f.1.page frames ≡ Some (get_or frames i no_frame)
  pub dirty : f.1.dirty ≡ (get_or frames i no_frame).dirty
  pub alone : in_groups later f.1.page ≡ false

either_false : (a b : Bool) → not (a || b) ≡ true → (a ≡ false) × (b ≡ false)
either_false a b h = grind (arith, common_steps)

each_from : (test : Test) → TakesValid test → (n : ℕ) (known : List Known) (frames : List Frame) (later : List (List Known)) (j : ℕ) (d : Placed) → AllTogether Shows known frames → j < length (tested_from test n known later)
    → StandsFrom n frames later (get_or (tested_from test n known later) j d)
each_from test takes n [] frames later j d shown lt = absurd (omega (arith, lt))
each_from test takes n (k ∷ ks) [] later j d shown lt = absurd shown
each_from test takes n (k ∷ ks) (f ∷ fs) later j d shown lt = by (test own_mark) refl j lt (λ j' lt'. each_from test takes (n + 1) ks fs later j' d shown.1 lt')
  where
    own_mark : Placed
    own_mark = (n, mark_of (is_last ks later k) k)

    further : (p : Placed) → StandsFrom (n + 1) fs later p → StandsFrom n (f ∷ fs) later p
    further p s = record {
      i = suc s.i;
      place = let at = s.place in omega (arith, at);
      last = ap (λ (o : Option Frame). option_or o (cond (f.page == p.1.page) (Some f) None)) s.last;
      dirty = s.dirty;
      alone = s.alone;
    }

    own : test own_mark ≡ true → StandsFrom n (f ∷ fs) later own_mark
    own is =
        let out = either_false (in_group ks k.page) (in_groups later k.page) (takes own_mark is) in
        let none : last_frame k.page fs ≡ None = none_if_no_some (last_frame k.page fs) (sym (in_group_is ks fs k.page shown.1) ∙ out.0) in
        let same : (f.page == k.page) ≡ true = eq-eqb f.page k.page (sym shown.0.page) in
        record {
          i = zero;
          place = omega arith;
          last = λ i. option_or (none i) (cond (same i) (Some f) None);
          dirty = shown.0.dirty;
          alone = out.1;
        }

    by : (b : Bool) → test own_mark ≡ b → (j : ℕ) → j < length (cond b (own_mark ∷ tested_from test (n + 1) ks later) (tested_from test (n + 1) ks later))
        → ((j' : ℕ) → j' < length (tested_from test (n + 1) ks later) → StandsFrom (n + 1) fs later (get_or (tested_from test (n + 1) ks later) j' d))
        → StandsFrom n (f ∷ fs) later (get_or (cond b (own_mark ∷ tested_from test (n + 1) ks later) (tested_from test (n + 1) ks later)) j d)
    by true is zero lt rest = own is
    by true is (suc j) lt rest = further _ (rest j (omega (arith, lt)))
    by false is j lt rest = further _ (rest j lt)

-- a last frame of the front group whose mark passes wherever such a frame stands is among them

pub record IsFoundIn (pages : List ℕ) (page : ℕ) : Type 0 where
  pub k : ℕ
  pub below : k < length pages
  pub is : get_or pages k 0 ≡ page

abbrev pages_from : Test → ℕ → List Known → List (List Known) → List ℕ
pages_from test n known later = map (λ f. f.1.page) (tested_from test n known later)

abbrev Passes : Test → ℕ → List Frame → Frame → Type 0
Passes test n frames frame = (i : ℕ) (mark : Mark) → get_or frames i no_frame ≡ frame → mark.valid ≡ true → mark.dirty ≡ frame.dirty → test (n + i, mark) ≡ true

found_from : (test : Test) (n : ℕ) (known : List Known) (frames : List Frame) (later : List (List Known)) (page : ℕ) (frame : Frame) → AllTogether Shows known frames → in_groups later page ≡ false
    → last_frame page frames ≡ Some frame → Passes test n frames frame → IsFoundIn (pages_from test n known later) page
found_from test n [] [] later page frame shown alone last passes = absurd (none-some frame last)
found_from test n [] (f ∷ fs) later page frame shown alone last passes = absurd shown
found_from test n (k ∷ ks) [] later page frame shown alone last passes = absurd shown
found_from test n (k ∷ ks) (f ∷ fs) later page frame shown alone last passes =
    by (last_frame page fs) refl last (λ x is passes'. found_from test (n + 1) ks fs later page x shown.1 alone is passes')
  where
    own_mark : Placed
    own_mark = (n, mark_of (is_last ks later k) k)

    with_first : (b : Bool) → IsFoundIn (pages_from test (n + 1) ks later) page
        → IsFoundIn (map (λ (p : Placed). p.1.page) (cond b (own_mark ∷ tested_from test (n + 1) ks later) (tested_from test (n + 1) ks later))) page
    with_first true found = record { k = suc found.k; below = let low = found.below in omega (arith, low); is = found.is }
    with_first false found = found

    first_one : (b : Bool) → b ≡ true → k.page ≡ page
        → IsFoundIn (map (λ (p : Placed). p.1.page) (cond b (own_mark ∷ tested_from test (n + 1) ks later) (tested_from test (n + 1) ks later))) page
    first_one true is same = record { k = zero; below = omega arith; is = same }
    first_one false is same = absurd (true≢false (sym is))

    own : last_frame page fs ≡ None → f.page ≡ page → f ≡ frame → IsFoundIn (pages_from test n (k ∷ ks) later) page
    own none same is =
        let page_is : k.page ≡ page = shown.0.page ∙ same in
        let out : in_group ks k.page ≡ false = ap (in_group ks) page_is ∙ in_group_is ks fs page shown.1 ∙ ap is_some none in
        let rest : in_groups later k.page ≡ false = ap (in_groups later) page_is ∙ alone in
        let valid : is_last ks later k ≡ true = λ i. not (out i || rest i) in
        let here : n + 0 ≡ n = omega arith in
        first_one (test own_mark) (ap (λ (m : ℕ). test (m, own_mark.1)) (sym here) ∙ passes 0 own_mark.1 is valid (shown.0.dirty ∙ ap (λ (x : Frame). x.dirty) is)) page_is

    next : Passes test (n + 1) fs frame
    next i mark is valid dirty = let at : (n + 1) + i ≡ n + suc i = omega arith in ap (λ (m : ℕ). test (m, mark)) at ∙ passes (suc i) mark is valid dirty

    by : (o : Option Frame) → last_frame page fs ≡ o → option_or o (cond (f.page == page) (Some f) None) ≡ Some frame
        → ((x : Frame) → last_frame page fs ≡ Some x → Passes test (n + 1) fs x → IsFoundIn (pages_from test (n + 1) ks later) page) → IsFoundIn (pages_from test n (k ∷ ks) later) page
    by None none is rest =
        let c = cond_some (f.page == page) f frame is in
        own none (eqb-true f.page page c.0) c.1
    by (Some x) some is rest = with_first (test own_mark) (rest x some (subst (Passes test (n + 1) fs) (sym (same_Some x frame is)) next))

-- the whole front group

pub record Stands (frames : List Frame) (rest : List (List Frame)) (f : Placed) : Type 0 where
  pub last : last_frame f.1.page frames ≡ Some (get_or frames f.0 no_frame)
  pub dirty : f.1.dirty ≡ (get_or frames f.0 no_frame).dirty
  pub alone : last_frame f.1.page (joined rest) ≡ None

-- the frames that numbered marks stand for
abbrev pub frames_at : List Frame → List Placed → List Frame
frames_at frames marks = map (λ f. get_or frames f.0 no_frame) marks

-- a page that is none of these frames' has no mark among them
not_among : (frames : List Frame) (marks : List Placed) (i page : ℕ) → last_frame page (frames_at frames marks) ≡ None → (get_or frames i no_frame).page ≡ page → is_among marks i ≡ false
not_among frames [] i page none is = refl
not_among frames (f ∷ marks) i page none is = grind (arith, common_steps, none-some, ne_eqb, eq-eqb, (not_among frames marks i page))

module _ (known : List Known) (later : List (List Known)) (frames : List Frame) (rest : List (List Frame)) (shown : AllTogether Shows known frames) (others : AllTogether (AllTogether Shows) later rest) where
  abbrev marks : List Mark
  marks = group_marks known later

  stands_at : (test : Test) → TakesValid test → (j : ℕ) (d : Placed) → j < length (filter test (enumerate_from 0 marks)) → Stands frames rest (get_or (filter test (enumerate_from 0 marks)) j d)
  stands_at test takes j d lt =
      let f : Placed = get_or (tested_from test 0 known later) j d in
      let s = each_from test takes 0 known frames later j d shown lt in
      let at : s.i ≡ f.0 = let place = s.place in omega (arith, place) in
      record {
        last = s.last ∙ ap (λ (i : ℕ). Some (get_or frames i no_frame)) at;
        dirty = s.dirty ∙ ap (λ (i : ℕ). (get_or frames i no_frame).dirty) at;
        alone = not_in_groups later rest f.1.page others s.alone;
      }

  pub each_staged : (given : Bool) (j : ℕ) (d : Placed) → j < length (staged_of given marks) → Stands frames rest (get_or (staged_of given marks) j d)
  each_staged given j d lt =
      stands_at (λ f. (f.1.valid && f.1.dirty) && not (is_among (chances_of given marks) f.0))
      (λ f is. (and_parts f.1.valid f.1.dirty (and_parts (f.1.valid && f.1.dirty) _ is).0).0) j d lt

  pub each_chance : (given : Bool) (j : ℕ) (d : Placed) → j < length (chances_of given marks) → Stands frames rest (get_or (chances_of given marks) j d)
  each_chance true j d lt =
      let all : List Placed = filter (λ f. f.1.valid && f.1.referenced) (enumerate_from 0 marks) in
      let long = length-take 7 all in
      subst (Stands frames rest) (sym (get_or-take 7 all j d (omega (arith, lt, long))))
      (stands_at (λ f. f.1.valid && f.1.referenced) (λ f is. (and_parts f.1.valid f.1.referenced is).0) j d (omega (arith, lt, long)))
  each_chance false j d lt = absurd (omega (arith, lt))

  pub found_staged : (given : Bool) (page : ℕ) (frame : Frame) → last_frame page (joined rest) ≡ None → last_frame page frames ≡ Some frame → frame.dirty ≡ true → last_frame page (frames_at frames (chances_of given marks)) ≡ None
      → IsFoundIn (map (λ f. f.1.page) (staged_of given marks)) page
  found_staged given page frame none last dirty unchosen =
      found_from (λ f. (f.1.valid && f.1.dirty) && not (is_among (chances_of given marks) f.0)) 0 known frames later page frame shown (in_groups_is later rest page others ∙ ap is_some none) last
      (λ i mark is valid marked.
      let at : 0 + i ≡ i = omega arith in
      let out = not_among frames (chances_of given marks) i page unchosen (ap (λ (x : Frame). x.page) is ∙ last_is_of_page page frames frame last) in
      λ k. (valid k && (marked ∙ dirty) k) && not ((ap (is_among (chances_of given marks)) at ∙ out) k))
