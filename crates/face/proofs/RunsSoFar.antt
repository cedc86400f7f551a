-- A run from its restart to its end.
use Rattle.face.proofs.Names.{◌≡◌, ◌≢◌, ⊎_elim, ℕ, suc, ◌+◌, ◌≤◌, List, [], ◌∷◌, ◌++◌, length, take, drop, refl, sym, ◌∙◌, ap, subst, arith, append_assoc, add-one, append-nil, length-take-le, take_all, Stands, sizes_of, LeavesTable, Engine, TellsDone, Run, answered, first_lines, step, state_at, listing_at, StandsFor, StandsAt, LeavesAnswer, RunInProgress, HasServed, HasBegun, IsLeft, IsWhole, StandsAfter, first_texts, text_at, StandsNear, Stops, HearsOnly, status_of, Halt, Line, State, open_text, reply_text, in_sequence, leaves_weaker, image_is, calm, now_same, holds_now, tell_leaves, Preserves, Leaves, LeavesOnly, EachMoment, Site, Image, Snapshot, MayLeave, now_of, no_loose, IsQuiet, TellsPart}
use Rattle.front_end.specs.declared.halt.Halt.TheVariants.{Output}
use Rattle.face.proofs.Logs.{fits_stands}
use Rattle.face.proofs.Fronts.{lines_first, told_first}
use Rattle.face.proofs.Lefts.{answer_more, between, first_after, first_before, front_count, stands_first, within}
use Rattle.face.proofs.Ranges.{all_among, all_text, stands_after}
use Rattle.face.proofs.Runs.{below, told_more, state_next, text_next}
use Rattle.face.proofs.Turns.{turns_count}
use Rattle.face.proofs.Serving.{served_heard}

-- the devices of a quiet site stand for this after each crash now
stands_now : (run : Run) (now : Site) (i : ℕ) → now.loose ≡ no_loose → StandsAt run i now.image → (s : Snapshot) → MayLeave (now_of now) s → StandsAt run i s.image
stands_now run now i quiet stands s left = subst (λ (x : Image). StandsAt run i x) (sym (image_is (now_of now) s quiet left)) stands

pub going_stands : {pool : ℕ} (run : Run) (entry now : Site) (engine : Engine) (i : ℕ) → HasServed pool run entry now engine i → StandsAt run i now.image
going_stands run entry now engine i going = grind (arith, fits_stands)

-- restart

module _ (run : Run) (entry mid : Site) (leaves : LeavesOnly entry mid (LeavesTable run.geometry run.opening.table run.opening.commits entry.told)) where
  none : 0 ≤ length (answered run)
  none = omega arith

  stands_near : (image : Image) → Stands run.geometry image run.opening.table run.opening.commits → StandsNear (first_lines run 0) 0 image
  stands_near image stands = first_after run 0 none 0 image (omega arith) stands

  at_start : LeavesOnly entry mid (IsLeft (first_lines run 0) entry.told [])
  at_start = leaves_weaker entry mid (LeavesTable run.geometry run.opening.table run.opening.commits entry.told) (IsLeft (first_lines run 0) entry.told [])
      (λ s t. between run 0 none entry.told s 0 (omega arith) (t.told ∙ sym (append-nil entry.told)) (stands_near s.image t.stands)) leaves

  untold : mid.told ≡ entry.told
  untold = (holds_now entry mid (LeavesTable run.geometry run.opening.table run.opening.commits entry.told) leaves).told

  -- it stops
  pub not_opened : (halt : Halt) → (status_of halt ≢ 3 → IsQuiet mid) → Stops run 0 entry mid halt
  not_opened halt quiet = record {
    any_moment = at_start;
    between = λ ne. record {
      whole = 0;
      few = omega arith;
      told = untold ∙ sym (append-nil entry.told);
      stands = λ s left. stands_near s.image (leaves.now s left).stands;
    };
    quiet = quiet;
  }

  -- the opening is told
  module _ (new : Site) (text : List ℕ) (is : text ≡ open_text run.opening.commits) (tells : EachMoment mid new (TellsPart text mid)) where
    opening : LeavesOnly entry new (IsLeft (first_lines run 0) entry.told [])
    opening =
        in_sequence entry mid new (Leaves (IsLeft (first_lines run 0) entry.told [])) at_start
        (leaves_weaker mid new (λ s. ((k : ℕ) × (s.told ≡ mid.told ++ take k text)) × StandsAt run 0 s.image) (IsLeft (first_lines run 0) entry.told [])
        (λ s p. within run 0 none entry.told s 0 p.0.0 (omega arith) (p.0.1 ∙ (λ i. (untold ∙ sym (append-nil entry.told)) i ++ take p.0.0 (is i))) p.1)
        (tell_leaves (StandsAt run 0) text mid new (λ s left. (leaves.now s left).stands) tells))

    pub opening_lost : IsQuiet new → Stops run 0 entry new Output
    opening_lost quiet = record { any_moment = opening; between = λ ne. absurd (ne refl); quiet = λ ne. quiet }

    pub opened : {pool : ℕ} (engine : Engine) → HasServed pool run entry new engine 0 → new.told ≡ mid.told ++ text → EachMoment entry new (TellsDone pool run 0 [] entry) → RunInProgress pool run entry new engine 0
    opened engine served told tells = record {
      tells = tells;
      served = served;
      told = told ∙ (λ i. untold i ++ is i) ∙ ap (λ (l : List ℕ). entry.told ++ l) (sym (told_more run 0 (omega arith)));
      moments = opening;
    }

-- a line is heard

pub moved : (pool : ℕ) (run : Run) (entry mid new : Site) (engine : Engine) (i : ℕ) → RunInProgress pool run entry mid engine i → Preserves mid new → HearsOnly mid new → RunInProgress pool run entry new engine i
moved pool run entry mid new engine i going goes hears = record {
  served = served_heard pool run entry mid engine i going.served new goes hears;
  told = hears.told ∙ going.told;
  moments = calm entry mid new (Leaves (IsLeft (first_lines run i) entry.told [])) going.moments hears.past (now_same mid new hears.told hears.image hears.loose);
  tells = calm entry mid new (TellsDone pool run i [] entry) going.tells hears.past (now_same mid new hears.told hears.image hears.loose);
}

module _ {pool : ℕ} (run : Run) (entry mid : Site) (engine : Engine) (i : ℕ) (going : RunInProgress pool run entry mid engine i) where
  -- it stops there
  pub stopped : (halt : Halt) → Stops run i entry mid halt
  stopped halt = record {
    any_moment = going.moments;
    between = λ ne. record {
      whole = suc i;
      few = let long = front_count run i going.few in omega (arith, long);
      told = going.told ∙ ap (λ (n : ℕ). entry.told ++ first_texts run n) (add-one i) ∙ ap (λ (l : List ℕ). entry.told ++ l) (sym (told_first run i (suc i) (omega arith)));
      stands = λ s left. first_before run i going.few i s.image (omega arith) (stands_now run mid i going.quiet (going_stands run entry mid engine i going.served) s left);
    };
    quiet = λ ne. going.quiet;
  }

  -- what is told before the reply of the last line
  pub begun_before : HasBegun run i [] entry mid
  begun_before =
      let few = going.few in
      let count = turns_count run.opening run.lines run.listings in
      record {
        few = omega (arith, few, count);
        reply = text_at run i;
        part = (length (text_at run i), sym (take_all (length (text_at run i)) (text_at run i) (omega arith)));
        rest = [];
        front = (0, refl);
        told = going.told ∙ ap (λ (n : ℕ). entry.told ++ first_texts run n) (add-one i)
            ∙ ap (λ (l : List ℕ). entry.told ++ l) (told_more run i (omega (arith, few)) ∙ ap (λ (l : List ℕ). first_texts run i ++ l) (sym (append-nil (text_at run i))));
      }

  -- there are no more lines
  pub ended : IsWhole (first_lines run i) entry mid
  ended =
      let front = first_lines run i in
      let long : length (answered front) ≡ i = ap (λ (l : List Line). length l) (lines_first run i) ∙ length-take-le i (answered run) going.few in
      record {
        told = going.told ∙ ap (λ (l : List ℕ). entry.told ++ l) (sym (told_first run i (i + 1) (omega arith)) ∙ ap (λ (n : ℕ). first_texts front (n + 1)) (sym long) ∙ all_text front);
        stands = subst (λ (k : ℕ). StandsAfter front k mid.image) (all_among front) (stands_after front (length (answered front)) mid.image
            (subst (λ (n : ℕ). StandsAt front n mid.image) (sym long) (stands_first run i going.few i mid.image (omega arith) (going_stands run entry mid engine i going.served))));
      }

  -- a line is answered
  module _ (new : Site) (line : Line) (rest : List Line) (is : drop i (answered run) ≡ line ∷ rest)
      (leaves : LeavesOnly mid new (LeavesAnswer (sizes_of engine.store) (state_at run i) (step (state_at run i) line (listing_at run i)).after (reply_text (step (state_at run i) line (listing_at run i)).reply) mid.told)) where
    leaves' : LeavesOnly mid new (LeavesAnswer run.geometry (state_at run i) (step (state_at run i) line (listing_at run i)).after (reply_text (step (state_at run i) line (listing_at run i)).reply) mid.told)
    leaves' = grind arith

    told_suc : mid.told ≡ entry.told ++ first_texts run (suc i)
    told_suc = going.told ∙ ap (λ (n : ℕ). entry.told ++ first_texts run n) (add-one i)

    moments' : LeavesOnly entry new (IsLeft (first_lines run (suc i)) entry.told [])
    moments' = answer_more run entry.told i line rest entry mid new is told_suc going.moments leaves'

    -- however that ends, what was told stays so
    pub begun_after : HasBegun run (suc i) [] entry new
    begun_after =
        let text = reply_text (step (state_at run i) line (listing_at run i)).reply in
        let front = (holds_now mid new (LeavesAnswer run.geometry (state_at run i) (step (state_at run i) line (listing_at run i)).after text mid.told) leaves').front in
        let less = below (answered run) i line rest is in
        let count = turns_count run.opening run.lines run.listings in
        record {
          few = omega (arith, less, count);
          reply = take front.0 text;
          part = (front.0, ap (take front.0) (sym (text_next run i line rest is)));
          rest = [];
          front = (0, refl);
          told = front.1 ∙ ap (λ (l : List ℕ). l ++ take front.0 text) told_suc ∙ append_assoc entry.told (first_texts run (suc i)) (take front.0 text)
              ∙ ap (λ (l : List ℕ). entry.told ++ (first_texts run (suc i) ++ l)) (sym (append-nil (take front.0 text)));
        }

    pub cut_short : (halt : Halt) → (status_of halt ≢ 3 → new.loose ≡ no_loose) → (halt ≢ Output → new.told ≡ mid.told) → Stops run (suc i) entry new halt
    cut_short halt quiet untold =
        let enough : suc i ≤ length (answered run) = below (answered run) i line rest is in
        record {
          quiet = quiet;
          any_moment = moments';
          between = λ ne. record {
            whole = suc i;
            few = let long = front_count run (suc i) enough in omega (arith, long);
            told = untold ne ∙ told_suc ∙ ap (λ (l : List ℕ). entry.told ++ l) (sym (told_first run (suc i) (suc i) (omega arith)));
            stands = λ s left. ⊎_elim (λ before. first_before run (suc i) enough i s.image (omega arith) before.0)
                (λ after. first_after run (suc i) enough (suc i) s.image (omega arith) (subst (λ (b : State). StandsFor run.geometry s.image b) (sym (state_next run i line rest is)) after)) (leaves'.now s left).stands;
          };
        }

    pub goes_on : (engine' : Engine) → HasServed pool run entry new engine' (suc i) → new.told ≡ mid.told ++ reply_text (step (state_at run i) line (listing_at run i)).reply → EachMoment entry new (TellsDone pool run (suc i) [] entry) → RunInProgress pool run entry new engine' (suc i)
    goes_on engine' served told tells = record {
      tells = tells;
      served = served;
      told = told ∙ (λ j. told_suc j ++ sym (text_next run i line rest is) j)
          ∙ append_assoc entry.told (first_texts run (suc i)) (text_at run (suc i))
          ∙ ap (λ (l : List ℕ). entry.told ++ l) (sym (told_more run (suc i) (let less = below (answered run) i line rest is in omega (arith, less))))
          ∙ ap (λ (n : ℕ). entry.told ++ first_texts run n) (sym (add-one (suc i)));
      moments = moments';
    }
