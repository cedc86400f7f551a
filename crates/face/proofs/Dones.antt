-- What is done when something is told, one line after the other.
use Rattle.face.proofs.Names.{◌≡◌, ◌⊎◌, inl, inr, ⊎_elim, ℕ, zero, suc, ◌+◌, ◌≤◌, List, [], ◌∷◌, ◌++◌, take, drop, refl, sym, ◌∙◌, ap, subst, arith, add-one, append-nil, take-take, LeavesTable, QueueIsOnFlash, WhereItFits, Engine, HandsReply, HasDone, TellsDone, lines_at, Run, answered, first_lines, listing_at, state_at, step, HasServed, first_texts, hands_as, Line, open_text, reply_lines, each_both, each_weaker, in_sequence, EachMoment, LeavesOnly, Site, Moment, HandsLine, HandsRest, TellsPart}
use Rattle.face.proofs.Fronts.{first_same, other, told_same}
use Rattle.face.proofs.Quiet.{says_nothing}
use Rattle.face.proofs.Runs.{lines_next}
use Rattle.face.proofs.Serving.{served_done, served_next}

pub none_behind : (k : ℕ) → drop {A = ℕ} k [] ≡ []
none_behind zero = refl
none_behind (suc k) = refl

module _ (pool : ℕ) (run : Run) (entry : Site) where
  -- restart
  pub silent_start : (mid : Site) → LeavesOnly entry mid (LeavesTable run.geometry run.opening.table run.opening.commits entry.told) → EachMoment entry mid (TellsDone pool run 0 [] entry)
  silent_start mid leaves =
      each_weaker entry mid (λ m. m.telling ≡ []) (TellsDone pool run 0 [] entry) (λ (m : Moment) none. inl none)
      (says_nothing entry.told (LeavesTable run.geometry run.opening.table run.opening.commits entry.told) (λ s t. t.told) entry mid leaves)

  -- the opening
  pub opening_done : (mid new : Site) (text : List ℕ) → text ≡ open_text run.opening.commits → mid.told ≡ entry.told → LeavesOnly entry mid (LeavesTable run.geometry run.opening.table run.opening.commits entry.told) → HasDone pool (first_lines run 0) entry.image mid.image
      → EachMoment mid new (TellsPart text mid) → EachMoment mid new (HandsRest text mid) → EachMoment entry new (TellsDone pool run 0 [] entry)
  opening_done mid new text is untold leaves done tells hands =
      in_sequence entry mid new (TellsDone pool run 0 [] entry) (silent_start mid leaves)
      (each_weaker mid new (λ m. TellsPart text mid m × HandsRest text mid m) (TellsDone pool run 0 [] entry)
      (λ (m : Moment) both. ⊎_elim (λ none. inl none) (λ rest. inr (inl (
        0,
        omega arith,
        record {
          line = (
            0,
            subst (λ (t : List ℕ). HandsLine (open_text run.opening.commits) t m) (untold ∙ sym (append-nil entry.told) ∙ sym (append-nil (entry.told ++ []))) (subst (λ (l : List ℕ). HandsLine l mid.told m) is rest),
          );
          done = subst (HasDone pool (first_lines run 0) entry.image) (sym both.0.image) done;
        },
      ))) both.1) (each_both mid new (TellsPart text mid) (HandsRest text mid) tells hands))

  -- with more lines begun
  pub done_more : (i n : ℕ) → i ≤ n → (mid : Site) → EachMoment entry mid (TellsDone pool run i [] entry) → EachMoment entry mid (TellsDone pool run n [] entry)
  done_more i n le mid so_far =
      each_weaker entry mid (TellsDone pool run i [] entry) (TellsDone pool run n [] entry)
      (λ (m : Moment) d. ⊎_elim (λ none. inl none) (λ some. inr (⊎_elim (λ t. let few = t.1 in inl (t.0, omega (arith, few, le), t.2)) (λ f. inr f) some)) d) so_far

  -- a line is answered, however that ends
  pub done_next : (mid new : Site) (engine engine' : Engine) (i : ℕ) (line : Line) (rest : List Line) → drop i (answered run) ≡ line ∷ rest → HasServed pool run entry mid engine i → QueueIsOnFlash → WhereItFits → mid.told ≡ entry.told ++ first_texts run (i + 1)
      → EachMoment entry mid (TellsDone pool run i [] entry) → EachMoment mid new (HandsReply line engine engine' (reply_lines (step (state_at run i) line (listing_at run i)).reply) mid) → EachMoment entry new (TellsDone pool run (suc i) [] entry)
  done_next mid new engine engine' i line rest is so_far queue seen told before hands =
      let lines = reply_lines (step (state_at run i) line (listing_at run i)).reply in
      in_sequence entry mid new (TellsDone pool run (suc i) [] entry) (done_more i (suc i) (omega arith) mid before)
      (each_weaker mid new (HandsReply line engine engine' lines mid) (TellsDone pool run (suc i) [] entry)
      (λ (m : Moment) h. ⊎_elim (λ none. inl none) (λ w. inr (inl (
        suc i,
        omega arith,
        record {
          line = hands_as m (sym (lines_next run i line rest is)) (told ∙ ap (λ (n : ℕ). entry.told ++ first_texts run n) (add-one i)) w.told;
          done = subst (HasDone pool (first_lines run (suc i)) entry.image) (sym w.image)
              (served_done pool run entry w.mid engine' (suc i) (served_next pool run entry mid engine i so_far line rest is engine' w.mid w.reply w.course) queue seen);
        },
      ))) h) hands)

-- of another run with the same first lines
pub done_same : (pool : ℕ) (run : Run) (lines : List Line) (n : ℕ) (same : take n lines ≡ take n run.lines) (fault : List ℕ) (old new : Site) → EachMoment old new (TellsDone pool run n [] old) → EachMoment old new (TellsDone pool (other run lines n same) n fault old)
done_same pool run lines n same fault old new each =
    each_weaker old new (TellsDone pool run n [] old) (TellsDone pool (other run lines n same) n fault old)
    (λ (m : Moment) d. ⊎_elim (λ none. inl none) (λ some. ⊎_elim
    (λ t.
    let l = t.0 in
    let few = t.1 in
    let front : take l lines ≡ take l run.lines = sym (take-take l n lines few) ∙ ap (take l) same ∙ take-take l n run.lines few in
    let eq : first_lines (other run lines n same) l ≡ first_lines run l = first_same run lines l front in
    let texts : first_texts run l ≡ first_texts (other run lines n same) l = sym (told_same run lines n same l (omega (arith, few))) in
    inr (inl (
      l,
      few,
      record {
        line = hands_as m (ap (λ (r : Run). lines_at r l) (sym eq)) (ap (λ (x : List ℕ). old.told ++ x) texts) t.2.line;
        done = subst (λ (r : Run). HasDone pool r old.image m.image) (sym eq) t.2.done;
      },
    )))
    (λ f. inl (f.1.telling ∙ none_behind f.1.part)) some) d) each

-- and the fault line is told behind whole texts
pub done_fault : (pool : ℕ) (run : Run) (n : ℕ) (fault : List ℕ) (old mid new : Site) → (fault ≡ []) ⊎ ((whole : ℕ) × (mid.told ≡ old.told ++ first_texts run whole)) → EachMoment old mid (TellsDone pool run n fault old) → EachMoment mid new (HandsRest fault mid) → EachMoment old new (TellsDone pool run n fault old)
done_fault pool run n fault old mid new behind so_far hands =
    in_sequence old mid new (TellsDone pool run n fault old) so_far (each_weaker mid new (HandsRest fault mid) (TellsDone pool run n fault old)
    (λ (m : Moment) h. ⊎_elim (λ none. inl none) (λ rest. ⊎_elim (λ empty. inl (rest.telling ∙ ap (drop rest.part) empty ∙ none_behind rest.part)) (λ w. inr (inr (w.0, subst (λ (t : List ℕ). HandsLine fault t m) w.1 rest))) behind) h) hands)
