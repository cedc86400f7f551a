-- The lines of a net's session, one after the other.
use Rattle.std.proofs.Common.{◌≡◌, ◌⊎◌, inl, inr, ⊎_elim, ℕ, zero, suc, ◌+◌, ◌-◌, ◌*◌, ◌<◌, ◌≤◌, List, [], ◌∷◌, ◌++◌, length, map, Some, None, refl, sym, ap, subst, ◌∙◌, arith}
use Rattle.std.specs.Prelude.{slice_index_or, take}
use Rattle.std.proofs.lemmas.Bool.{cases_lt}
use Rattle.std.proofs.lemmas.List.{length-take-le, take_all}
use Rattle.record_model.specs.declared.words.Command.{Command}
use Rattle.record_model.specs.declared.words.Command.TheVariants as command
use Rattle.record_model.specs.State.{Content, State, Write, table_with}
use Rattle.record_model.specs.Run.{Line}
use Rattle.record_model.specs.Step.{Outcome, step}
use Rattle.net_lines.specs.Nets.{AreWritable, HasPageRoom, busy, idle, line_writing, session_lines}
use Rattle.net_lines.proofs.Model.{begin_next, commit_next, few_at_begin, kept_at_begin, write_next}
use Rattle.net_lines.proofs.Rooms.{room_of, take_more, writable_at}

line_at : (net : List Write) (i : ℕ) → i < length net → slice_index_or (map (λ (w : Write). line_writing w.0 w.1) net ++ Some (command.Commit 0) ∷ []) i None ≡ line_writing (slice_index_or net i (0, None)).0 (slice_index_or net i (0, None)).1
line_at [] i less = absurd (omega (arith, less))
line_at (w ∷ net) zero less = refl
line_at (w ∷ net) (suc i) less = line_at net i (omega (arith, less))

last_line : (net : List Write) (i : ℕ) → i ≡ length net → slice_index_or (map (λ (w : Write). line_writing w.0 w.1) net ++ Some (command.Commit 0) ∷ []) i None ≡ Some (command.Commit 0)
last_line [] zero is = refl
last_line [] (suc i) is = absurd (omega (arith, is))
last_line (w ∷ net) zero is = absurd (omega (arith, is))
last_line (w ∷ net) (suc i) is = last_line net i (omega (arith, is))

-- the line behind the first one
line_behind : (net : List Write) (i j : ℕ) → i ≡ j + 1 → slice_index_or (session_lines net) i None ≡ slice_index_or (map (λ (w : Write). line_writing w.0 w.1) net ++ Some (command.Commit 0) ∷ []) j None
line_behind net zero j is = absurd (omega (arith, is))
line_behind net (suc i) j is = let same : i ≡ j = omega (arith, is) in ap (λ n. slice_index_or (map (λ (w : Write). line_writing w.0 w.1) net ++ Some (command.Commit 0) ∷ []) n None) same

first_line : (net : List Write) (i : ℕ) → i ≡ 0 → slice_index_or (session_lines net) i None ≡ Some (command.Begin 0)
first_line net zero is = refl
first_line net (suc i) is = absurd (omega (arith, is))

module _ (table : List Content) (commits made kept cap : ℕ) (net : List Write) where
  abbrev later : ℕ
  later = kept_at_begin table commits made kept cap

  abbrev start : State
  start = idle table commits made kept cap

  abbrev done : State
  done = idle (table_with table net) (commits + 1) (made + (length net + 2)) later cap

  -- where session 0 stands with so many writes of the net
  pub record IsWithin (i : ℕ) (s : State) : Type 0 where
    pub j : ℕ
    pub wrote : List ℕ
    pub place : i ≡ j + 1
    pub few : j ≤ length net
    pub is : s ≡ busy table commits (take j net) wrote made (made + (1 + j)) later cap

  -- where a database stands that has carried out so many of the lines
  abbrev pub IsAt : ℕ → State → Type 0
  IsAt i s = ((i ≡ 0) × (s ≡ start)) ⊎ (IsWithin i s ⊎ ((i ≡ length net + 2) × (s ≡ done)))

  pub at_start : IsAt 0 start
  at_start = inl (refl, refl)

  pub at_end : (s : State) → IsAt (length net + 2) s → s ≡ done
  at_end s at = ⊎_elim (λ none. absurd (let e = none.0 in omega (arith, e)))
      (λ some. ⊎_elim (λ within. absurd (let e = within.place in let few = within.few in omega (arith, e, few))) (λ all. all.1) some) at

  -- its table is always the one before the net or the one behind it
  pub either_at : (i : ℕ) (s : State) → IsAt i s → ((s.table ≡ table) × (s.commits ≡ commits)) ⊎ ((s.table ≡ table_with table net) × (s.commits ≡ commits + 1))
  either_at i s at = ⊎_elim (λ none. inl (ap (λ (x : State). x.table) none.1, ap (λ (x : State). x.commits) none.1))
      (λ some. ⊎_elim (λ within. inl (ap (λ (x : State). x.table) within.is, ap (λ (x : State). x.commits) within.is))
      (λ all. inr (ap (λ (x : State). x.table) all.1, ap (λ (x : State). x.commits) all.1)) some) at

  module _ (writable : AreWritable (length table) net) (pages : HasPageRoom table net) (room : made - kept + (2 * length net + 2) ≤ cap) where
    less_kept : made - later ≤ made - kept
    less_kept = few_at_begin table commits made kept cap

    begins : (c : Command) → Some c ≡ Some (command.Begin 0) → IsAt 1 (step start c []).after
    begins c is =
        let same : c ≡ command.Begin 0 = cc in
        let more : made + 1 ≡ made + (1 + 0) = omega arith in
        inr (inl (record {
          j = 0;
          wrote = [];
          place = refl;
          few = omega arith;
          is = ap (λ d. (step start d []).after) same ∙ ap (λ (o : Outcome). o.after) (begin_next table commits made kept cap (omega (arith, room)))
              ∙ ap (λ n. busy table commits [] [] made n later cap) more;
        }))

    module _ (j : ℕ) (wrote : List ℕ) (c : Command) where
      abbrev now : State
      now = busy table commits (take j net) wrote made (made + (1 + j)) later cap

      writes : j < length net → Some c ≡ line_writing (slice_index_or net j (0, None)).0 (slice_index_or net j (0, None)).1 → IsAt (j + 1 + 1) (step now c []).after
      writes less is =
          let w : Write = slice_index_or net j (0, None) in
          let ok = writable_at (length table) net j writable less in
          let few = less_kept in
          let long : length (take j net) ≡ j = length-take-le j net (omega (arith, less)) in
          let count : made + (1 + j) + 1 ≡ made + (1 + (j + 1)) = omega arith in
          let fits : made + (1 + j) - later + length (take j net) + 3 ≤ cap = omega (arith, few, room, long, less) in
          inr (inl (record {
            j = j + 1;
            wrote = wrote ++ w.0 ∷ [];
            place = refl;
            few = omega (arith, less);
            is = ap (λ (o : Outcome). o.after) (write_next table commits (take j net) wrote made (made + (1 + j)) later cap w.0 w.1 ok.inside ok.short fits (room_of table net j pages less) c is)
                ∙ (λ k. busy table commits (sym (take_more net j less) k) (wrote ++ w.0 ∷ []) made (count k) later cap);
          }))

      commits_it : j ≡ length net → Some c ≡ Some (command.Commit 0) → IsAt (j + 1 + 1) (step now c []).after
      commits_it all is =
          let same : c ≡ command.Commit 0 = cc in
          let count : made + (1 + j) + 1 ≡ made + (length net + 2) = omega (arith, all) in
          inr (inr (
            omega (arith, all),
            ap (λ d. (step now d []).after) same ∙ ap (λ (o : Outcome). o.after) (commit_next table commits (take j net) wrote made (made + (1 + j)) later cap)
                ∙ (λ k. idle (table_with table (take_all j net (omega (arith, all)) k)) (commits + 1) (count k) later cap),
          ))

    -- one line more
    pub at_next : (i : ℕ) (s : State) (c : Command) → IsAt i s → i < length net + 2 → Some c ≡ slice_index_or (session_lines net) i None → IsAt (i + 1) (step s c []).after
    at_next i s c at less line = ⊎_elim
        (λ none. subst (λ n. IsAt (n + 1) (step s c []).after) (sym none.0) (subst (λ x. IsAt 1 (step x c []).after) (sym none.1) (begins c (line ∙ first_line net i none.0))))
        (λ some. ⊎_elim
        (λ within.
        let behind = line ∙ line_behind net i within.j within.place in
        subst (λ n. IsAt (n + 1) (step s c []).after) (sym within.place) (subst (λ x. IsAt (within.j + 1 + 1) (step x c []).after) (sym within.is)
        (⊎_elim (λ few. writes within.j within.wrote c few (behind ∙ line_at net within.j few))
        (λ many. let all : within.j ≡ length net = (let few = within.few in omega (arith, few, many)) in commits_it within.j within.wrote c all (behind ∙ last_line net within.j all)) (cases_lt within.j (length net)))))
        (λ all. absurd (let e = all.0 in omega (arith, e, less))) some)
        at
