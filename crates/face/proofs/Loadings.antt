-- What a load leaves: while it opens, while its lines are carried out, and when they are done.
use Rattle.std.proofs.lemmas.Grind.{common_steps}
use Rattle.face.proofs.Names.{◌≡◌, ◌⊎◌, inl, inr, ⊎_elim, ℕ, zero, suc, ◌+◌, ◌-◌, ◌*◌, ◌<◌, ◌≤◌, Bool, List, [], ◌∷◌, ◌++◌, length, map, take, drop, refl, sym, ◌∙◌, ap, subst, arith, append_assoc, take-append-drop, length-append, Result, Ok, Err, count_by, append-nil, drop_at, length-map, take-take, Load, sizes_of, LeavesEither, QueueIsOnFlash, WhereItFits, Engine, CarriesUntold, TellsDone, lines_at, TellsWhenDone, HasBegunLoad, HasMadeBefore, IsLeftOf, IsOpened, IsUntold, LoadStops, LoadWorks, TellsOpening, LoadInProgress, Run, StandsFor, answered, first_lines, listing_at, state_at, step, turns_of, NeverOpens, RunInProgress, AsksNoMore, IsLeft, StandsAfter, WritesAsBegun, first_texts, texts, StandsNear, Stops, load_run, opening_text, get_line, get_lines, set_line, set_lines, status_of, Halt, Line, commit_marks, commits_among, State, Reply, each_weaker, holds_now, image_is, in_sequence, leaves_weaker, told_is, EachMoment, Leaves, LeavesOnly, Site, Image, Moment, Snapshot, MayLeave, now_of, Geometry, all_append, generated}
use Rattle.face.specs.Workload.{numbers_of}
use Rattle.face.proofs.Demanded.{demands_as}
use Rattle.face.proofs.Dones.{none_behind}
use Rattle.face.proofs.Quiet.{says_nothing}
use Rattle.face.proofs.Lefts.{left_first, left_none, none_among}
use Rattle.face.proofs.LinesBeforeQuit.{all_answered, count_join, front_lines, none_quits_map, one_more}
use Rattle.face.proofs.Pagings.{after_same}
use Rattle.face.proofs.Ranges.{all_among, stands_after}
use Rattle.face.proofs.Runs.{state_next}
use Rattle.face.proofs.RunsSoFar.{going_stands}
use Rattle.face.proofs.Serving.{line_asks, line_fails, none_before, served_all, served_next}
use Rattle.face.proofs.Turns.{turns_count}
use Rattle.face.proofs.Written.{written_more, written_none}

-- Its lines.

length_numbers : (seed count : ℕ) → length (numbers_of seed count) ≡ count
length_numbers seed zero = refl
length_numbers seed (suc i) = let more = length-append (numbers_of seed i) (generated seed (suc i) ∷ []) in let so_far = length_numbers seed i in omega (arith, more, so_far)

length_lines : (f : ℕ → Line) (seed count : ℕ) → length (map f (numbers_of seed count)) ≡ count
length_lines f seed count = length-map (numbers_of seed count) f ∙ length_numbers seed count

-- the one of a number, and those behind it
one_of : (f : ℕ → Line) (seed i count : ℕ) → i < count → (rest : List Line) × (map f (numbers_of seed count) ≡ map f (numbers_of seed i) ++ f (generated seed (suc i)) ∷ rest)
one_of f seed i count less =
    let front = front_lines f seed (suc i) count less in
    (front.0, front.1 ∙ ap (λ (l : List Line). l ++ front.0) (one_more f seed i) ∙ append_assoc (map f (numbers_of seed i)) (f (generated seed (suc i)) ∷ []) front.0)

-- no more commits among some turns than among all
few_among : (i : ℕ) (marks : List Bool) → commits_among i marks ≤ count_by (λ mark. mark) marks
few_among i marks = grind (arith, common_steps, take-append-drop, count_join)

-- the more turns, the more commits
more_among : (i j : ℕ) (marks : List Bool) → i ≤ j → commits_among i marks ≤ commits_among j marks
more_among i j marks le = subst (λ (l : List Bool). count_by (λ (mark : Bool). mark) l ≤ commits_among j marks) (take-take i j marks le) (few_among i (take j marks))

module _ (g : Geometry) (opening : State) (load : Load) where
  abbrev run : Run
  run = load_run g opening load

  abbrev records : ℕ
  records = 32 * g.pages

  all_lines : answered run ≡ run.lines
  all_lines = grind (arith, all_answered, all_append, none_quits_map)

  pub lines_count : length (answered run) ≡ 2 * load.count
  lines_count = grind (arith, length_lines, length-append, all_lines)

  -- at each place
  pub set_at : (i : ℕ) → i < load.count → (rest : List Line) × (drop i (answered run) ≡ set_line records (generated load.seed (suc i)) ∷ rest)
  set_at i less =
      let one = one_of (set_line records) load.seed i load.count less in
      let gets = get_lines records load.seed load.count in
      let own = set_line records (generated load.seed (suc i)) in (
        one.0 ++ gets,
        ap (drop i) (all_lines ∙ ap (λ (l : List Line). l ++ gets) one.1 ∙ append_assoc (map (set_line records) (numbers_of load.seed i)) (own ∷ one.0) gets)
            ∙ drop_at (map (set_line records) (numbers_of load.seed i)) (own ∷ (one.0 ++ gets)) i (length_lines (set_line records) load.seed i),
      )

  pub get_at : (i : ℕ) → i < load.count → (rest : List Line) × (drop (load.count + i) (answered run) ≡ get_line records (generated load.seed (suc i)) ∷ rest)
  get_at i less =
      let one = one_of (get_line records) load.seed i load.count less in
      let sets = set_lines records load.seed load.count in
      let front = map (get_line records) (numbers_of load.seed i) in
      let own = get_line records (generated load.seed (suc i)) in
      let long = length-append sets front in
      let many = length_lines (set_line records) load.seed load.count in
      let more = length_lines (get_line records) load.seed i in (
        one.0,
        ap (drop (load.count + i)) (all_lines ∙ ap (λ (l : List Line). sets ++ l) one.1 ∙ sym (append_assoc sets front (own ∷ one.0)))
            ∙ drop_at (sets ++ front) (own ∷ one.0) (load.count + i) (omega (arith, long, many, more)),
      )

  abbrev marks : List Bool
  marks = commit_marks (turns_of run)

  module _ (old : Site) where
    -- Before its first line no commit was made.
    stands_none : (k : ℕ) (image : Image) → k ≡ 0 → StandsAfter (first_lines run 0) k image → StandsAfter run 0 image
    stands_none k image none stands = subst (λ (n : ℕ). StandsAfter (first_lines run 0) n image) none stands

    opening_left : (s : Snapshot) → IsLeft (first_lines run 0) old.told [] s → IsLeftOf run [] [] old.told s
    opening_left s l = record {
      told = l.told;
      told_is = l.told_is;
      k = 0;
      allowed = inl (inl (left_first run l.told l.is_told), refl);
      stands = stands_none l.k s.image (left_none run old.told [] s l) l.stands;
    }

    near_none : (whole : ℕ) (image : Image) → StandsNear (first_lines run 0) whole image → StandsAfter run 0 image
    near_none whole image near = stands_none near.0 image (none_among whole near.0 near.2) near.3

    opening_between : (whole : ℕ) (new : Site) → whole ≤ length (texts (first_lines run 0)) → new.told ≡ old.told ++ first_texts (first_lines run 0) whole → ((s : Snapshot) → MayLeave (now_of new) s → StandsNear (first_lines run 0) whole s.image) → IsUntold run old new ⊎ IsOpened run old new
    opening_between zero new few told stands = inl (record { told = told ∙ append-nil old.told; stands = λ s left. near_none 0 s.image (stands s left) })
    opening_between (suc zero) new few told stands = inr (record {
      told = told ∙ ap (λ (l : List ℕ). old.told ++ l) (append-nil (opening_text run));
      stands = λ s left. (0, omega arith, near_none 1 s.image (stands s left));
    })
    opening_between (suc (suc n)) new few told stands = let one : length (texts (first_lines run 0)) ≡ 1 = refl in absurd (omega (arith, few, one))

    none_made : (s : Snapshot) → IsLeftOf run [] [] old.told s → HasMadeBefore run old.told 0 s
    none_made s l = record { opened = λ any. absurd (omega (arith, any)); k = l.k; made = omega arith; stands = l.stands }

    none_written : (new : Site) → LeavesOnly old new (IsLeftOf run [] [] old.told) → AsksNoMore load.pool (first_lines run 0) old new → WritesAsBegun load.pool run (HasMadeBefore run old.told) 0 old new
    none_written new left asks = written_none load.pool run (HasMadeBefore run old.told) old new (leaves_weaker old new (IsLeftOf run [] [] old.told) (HasMadeBefore run old.told 0) none_made left) asks

    never_opened : (new : Site) (h : Halt) → Stops run 0 old new h → LoadStops run [] old new h
    never_opened new h stops = record {
      any_moment = leaves_weaker old new (IsLeft (first_lines run 0) old.told []) (IsLeftOf run [] [] old.told) opening_left stops.any_moment;
      between = λ ne. let b = stops.between ne in opening_between b.whole new b.few b.told b.stands;
      quiet = stops.quiet;
    }

    pub load_never_opened : {T : Type 0} (new : Site) (h : Halt) → NeverOpens load.pool run old new h → new.input ≡ old.input → LoadWorks {T = T} load.pool run [] old new (Err h)
    load_never_opened new h never left = record {
      stops = never_opened new h never.stops;
      done = tt;
      begun = 0;
      has_begun = record {
        few = omega arith;
        by = λ s left. none_made s (opening_left s (never.stops.any_moment.now s left));
      };
      written = none_written new (leaves_weaker old new (IsLeft (first_lines run 0) old.told []) (IsLeftOf run [] [] old.told) opening_left never.stops.any_moment) never.demands.reads;
      all = tt;
      demands = demands_as load.pool (first_lines run 0) old new h never.demands;
      earlier = λ lines less. absurd (omega (arith, less));
      left = left;
    }

    -- the opening alone is told
    opens_only : (now : Site) → EachMoment old now (TellsDone load.pool run 0 [] old) → EachMoment old now (TellsOpening load.pool run old)
    opens_only now tells = each_weaker old now (TellsDone load.pool run 0 [] old) (TellsOpening load.pool run old)
        (λ (m : Moment) d. ⊎_elim (λ none. inl none) (λ some. ⊎_elim
        (λ t. let none : t.0 ≡ 0 = (let few = t.1 in omega (arith, few)) in
        inr (subst (λ (l : List ℕ). TellsWhenDone load.pool (first_lines run 0) (opening_text run ∷ []) l old m) (append-nil old.told)
        (subst (λ (n : ℕ). TellsWhenDone load.pool (first_lines run n) (lines_at (first_lines run n) n) (old.told ++ first_texts run n) old m) none t.2)))
        (λ f. inl (f.1.telling ∙ none_behind f.1.part)) some) d) tells

    pub opens_never : (new : Site) (h : Halt) → NeverOpens load.pool run old new h → EachMoment old new (TellsOpening load.pool run old)
    opens_never new h never = opens_only new never.tells

    pub load_opened : (new : Site) (engine : Engine) → RunInProgress load.pool run old new engine 0 → new.input ≡ old.input → LoadInProgress load.pool run old new engine 0
    load_opened new engine going left = record {
      served = going.served;
      told = going.told ∙ ap (λ (l : List ℕ). old.told ++ l) (append-nil (opening_text run));
      moments = leaves_weaker old new (IsLeft (first_lines run 0) old.told []) (IsLeftOf run [] [] old.told) opening_left going.moments;
      written = none_written new (leaves_weaker old new (IsLeft (first_lines run 0) old.told []) (IsLeftOf run [] [] old.told) opening_left going.moments) going.reads;
      tells = opens_only new going.tells;
      left = left;
    }

    -- so many lines were begun where all but one of them, or all, count
    made_before : (n k : ℕ) (s : Snapshot) → s.told ≡ old.told ++ opening_text run → n ≤ k + 1 → StandsAfter run (commits_among k marks) s.image → HasMadeBefore run old.told n s
    made_before n k s told most stands = grind (arith, append-nil, more_among)

    has_begun : (n : ℕ) (now : Site) → n ≤ length (answered run) → Leaves (HasMadeBefore run old.told n) (now_of now) → HasBegunLoad run n old now
    has_begun n now few by = record { few = let count = turns_count opening run.lines [] in omega (arith, count, few); by = by }

    -- So many lines were carried out.
    module _ (mid : Site) (engine : Engine) (i : ℕ) (so_far : LoadInProgress load.pool run old mid engine i) where
      -- they are all
      pub load_finished : {T : Type 0} → QueueIsOnFlash → WhereItFits → (x : T) → i ≡ 2 * load.count → LoadWorks {T = T} load.pool run [] old mid (Ok x)
      load_finished queue seen x end =
          let all : length (answered run) ≡ i = lines_count ∙ sym end in
          let stands = stands_after run i mid.image (going_stands run old mid engine i so_far.served) in
          record {
            stops = tt;
            done = record {
              any_moment = so_far.moments;
              whole = record {
                told = so_far.told ∙ ap (λ (l : List ℕ). old.told ++ l) (sym (append-nil (opening_text run)));
                stands = subst (λ (k : ℕ). StandsAfter run k mid.image) (ap (λ (n : ℕ). commits_among n marks) (sym all) ∙ all_among run) stands;
              };
              quiet = so_far.quiet;
            };
            begun = i;
            has_begun = has_begun i mid so_far.few (λ s left. made_before i i s (told_is mid s left ∙ so_far.told) (omega arith) (subst (StandsAfter run (commits_among i marks)) (sym (image_is (now_of mid) s so_far.quiet left)) stands));
            written = so_far.written;
            all = omega (arith, all);
            demands = served_all load.pool run old mid engine i so_far.served queue seen x;
            earlier = none_before load.pool run old mid engine i so_far.served i (omega arith);
            left = so_far.left;
          }

      -- One more, however it ends.
      module _ (line : Line) (rest : List Line) (is : drop i (answered run) ≡ line ∷ rest) (engine' : Engine) (new : Site) (result : Result Reply Halt) (c : CarriesUntold result line engine engine' mid new) where
        abbrev Left : Snapshot → Type 0
        Left = LeavesEither (sizes_of engine.store) (state_at run i) (step (state_at run i) line []).after mid.told

        leaves : LeavesOnly mid new Left
        leaves = c.any_moment (state_at run i) so_far.fits so_far.quiet

        near : (s : Snapshot) → Left s → (k : ℕ) × (suc i ≤ k + 1) × StandsAfter run (commits_among k marks) s.image
        near s e = ⊎_elim
            (λ before. (i, omega arith, stands_after run i s.image (subst (λ (x : Geometry). StandsFor x s.image (state_at run i)) so_far.geometry before)))
            (λ after. (
              suc i,
              omega arith,
              stands_after run (suc i) s.image (subst (λ (x : Geometry). StandsFor x s.image (state_at run (suc i))) so_far.geometry
                  (subst (λ (b : State). StandsFor (sizes_of engine.store) s.image b) (after_same (state_at run i) line [] (listing_at run i) ∙ sym (state_next run i line rest is)) after)),
            )) e.stands

        begun_here : LeavesOnly mid new (HasMadeBefore run old.told (suc i))
        begun_here = leaves_weaker mid new Left (HasMadeBefore run old.told (suc i)) (λ s e. (let k = near s e in made_before (suc i) k.0 s (e.told ∙ so_far.told) k.1 k.2)) leaves

        -- it writes no more than lines that were begun
        written' : WritesAsBegun load.pool run (HasMadeBefore run old.told) (suc i) old new
        written' = written_more load.pool run (HasMadeBefore run old.told) i old mid new begun_here (line_asks load.pool run old mid engine i so_far.served line rest is engine' new result c.course) so_far.written

        told' : new.told ≡ old.told ++ opening_text run
        told' = (holds_now mid new Left leaves).told ∙ so_far.told

        moments' : LeavesOnly old new (IsLeftOf run [] [] old.told)
        moments' = in_sequence old mid new (Leaves (IsLeftOf run [] [] old.told)) so_far.moments
            (leaves_weaker mid new Left (IsLeftOf run [] [] old.told) (λ s e. (let k = near s e in record {
              told = opening_text run ++ [];
              told_is = e.told ∙ so_far.told ∙ ap (λ (t : List ℕ). old.told ++ t) (sym (append-nil (opening_text run)));
              k = commits_among k.0 marks;
              allowed = inr (inl ([], refl, (0, refl), few_among k.0 marks));
              stands = k.2;
            })) leaves)

        -- nothing is told of it
        pub opens_still : EachMoment old new (TellsOpening load.pool run old)
        opens_still = in_sequence old mid new (TellsOpening load.pool run old) so_far.tells
            (each_weaker mid new (λ m. m.telling ≡ []) (TellsOpening load.pool run old) (λ (m : Moment) none. inl none) (says_nothing mid.told Left (λ s e. e.told) mid new leaves))

      -- it was carried out
      pub load_next : (line : Line) (rest : List Line) (is : drop i (answered run) ≡ line ∷ rest) (engine' : Engine) (new : Site) (reply : Reply) → CarriesUntold (Ok reply) line engine engine' mid new → LoadInProgress load.pool run old new engine' (suc i)
      load_next line rest is engine' new reply c = record {
        served = served_next load.pool run old mid engine i so_far.served line rest is engine' new reply c.course;
        told = told' line rest is engine' new (Ok reply) c;
        moments = moments' line rest is engine' new (Ok reply) c;
        written = written' line rest is engine' new (Ok reply) c;
        tells = opens_still line rest is engine' new (Ok reply) c;
        left = c.left so_far.fits.honest ∙ so_far.left;
      }

      -- or not
      pub load_stopped : {T : Type 0} (line : Line) (rest : List Line) (is : drop i (answered run) ≡ line ∷ rest) (engine' : Engine) (new : Site) (h : Halt) → i < length (answered run) → CarriesUntold (Err h) line engine engine' mid new → LoadWorks {T = T} load.pool run [] old new (Err h)
      load_stopped line rest is engine' new h less c = record {
        stops = record {
          any_moment = moments' line rest is engine' new (Err h) c;
          between = λ ne. inr (record {
            told = told' line rest is engine' new (Err h) c;
            stands = λ s left. let k = near line rest is engine' new (Err h) c s ((leaves line rest is engine' new (Err h) c).now s left) in (commits_among k.0 marks, few_among k.0 marks, k.2);
          });
          quiet = λ ne. (c.does (state_at run i) so_far.fits).quiet so_far.quiet (λ d e. ne (ap status_of e));
        };
        done = tt;
        begun = suc i;
        has_begun = has_begun (suc i) new less (begun_here line rest is engine' new (Err h) c).now;
        written = written' line rest is engine' new (Err h) c;
        all = tt;
        demands = line_fails load.pool run old mid engine i so_far.served line rest is engine' new (Err h) c.course h refl;
        earlier = none_before load.pool run old mid engine i so_far.served (suc i) (omega arith);
        left = c.left so_far.fits.honest ∙ so_far.left;
      }
