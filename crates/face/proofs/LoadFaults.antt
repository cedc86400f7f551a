-- A load that halts with its fault line, and one that is summed up.
use Rattle.face.proofs.Names.{◌≡◌, ◌≢◌, ◌⊎◌, inl, inr, ⊎_elim, ℕ, ◌≤◌, List, [], ◌∷◌, ◌++◌, length, take, drop, refl, sym, ◌∙◌, ap, subst, arith, append_assoc, Ok, Err, Result, IsTrue, flat_map, append-nil, take_all, Load, HasCause, HasCauses, HasDone, IsGood, TellsFault, HasBegunLoad, HasMadeBefore, IsLeftOf, IsOpened, IsUntold, LoadHeadline, LoadStops, LoadTellsDone, LoadWorks, TellsOpening, Allows, IsFront, Run, first_lines, StandsAfter, WritesAsBegun, all_commits, LoadContract, load_run, opening_text, summary_text, load_texts, WearsFirst, WearsNone, ends_whole, ends_with, NoFaultRose, EndsBehind, Tells, fault_line, status_of, Halt, unsynced_told, State, each_both, each_weaker, image_is, in_sequence, leaves_weaker, no_call, stays_honest, tell_leaves, told_is, Preserves, SameReads, EachMoment, Leaves, LeavesOnly, Site, Moment, Snapshot, now_of, HandsLine, HandsRest, SameDevices, TellsOnly, TellsPart, Geometry, Dev, Failed}
use Rattle.face.proofs.WornFronts.{never_worn_within}
use Rattle.face.proofs.CallCounts.{calls_told}
use Rattle.face.proofs.Dones.{none_behind}
use Rattle.face.proofs.Demanded.{asked_done, asked_halted, demands_done, demands_err, demands_failed, demands_lost}
use Rattle.face.proofs.Statuses.{not_zero, of_five, of_seven, output_or_not, worn_by}
use Rattle.face.proofs.Meanings.{stands_by}
use Rattle.face.proofs.Pagings.{done_whole}
use Rattle.face.proofs.Written.{leaves_told, made_behind, written_behind}
use Rattle.front_end.specs.declared.halt.Halt.TheVariants as halt

no_text : (rest text : List ℕ) → IsFront rest [] → IsFront rest text
no_text rest text front = (0, front.1 ∙ take_all front.0 [] (omega arith))

-- a summary and a fault line of which nothing is told yet
more_allowed : (run : Run) (summary fault told : List ℕ) (k : ℕ) → Allows run [] [] told k → Allows run summary fault told k
more_allowed run summary fault told k x5 = grind (arith, no_text)

more_left : (run : Run) (summary fault so_far : List ℕ) (s : Snapshot) → IsLeftOf run [] [] so_far s → IsLeftOf run summary fault so_far s
more_left run summary fault so_far s l = record { told = l.told; told_is = l.told_is; k = l.k; allowed = more_allowed run summary fault l.told l.k l.allowed; stands = l.stands }

-- the same where the summary may be told already
fault_allowed : (run : Run) (summary fault told : List ℕ) (k : ℕ) → Allows run summary [] told k → Allows run summary fault told k
fault_allowed run summary fault told k x5 = grind (arith, no_text)

fault_left : (run : Run) (summary fault so_far : List ℕ) (s : Snapshot) → IsLeftOf run summary [] so_far s → IsLeftOf run summary fault so_far s
fault_left run summary fault so_far s l = record { told = l.told; told_is = l.told_is; k = l.k; allowed = fault_allowed run summary fault l.told l.k l.allowed; stands = l.stands }

-- more is told behind the lines that were begun
still_begun : (run : Run) (begun : ℕ) (text : List ℕ) (old mid new : Site) → EachMoment mid new (TellsPart text mid) → HasBegunLoad run begun old mid → HasBegunLoad run begun old new
still_begun run begun text old mid new tells b = record {
  few = b.few;
  by = (leaves_told (HasMadeBefore run old.told begun) (made_behind run old.told begun) text mid mid new (no_call mid (Leaves (HasMadeBefore run old.told begun)) b.by) tells).now;
}

still_written : (pool : ℕ) (run : Run) (begun : ℕ) (text : List ℕ) (old mid new : Site) → EachMoment mid new (TellsPart text mid) → WritesAsBegun pool run (HasMadeBefore run old.told) begun old mid → WritesAsBegun pool run (HasMadeBefore run old.told) begun old new
still_written pool run begun text old = written_behind pool run (HasMadeBefore run old.told) (made_behind run old.told) begun text old

module _ (pool : ℕ) (run : Run) (summary : List ℕ) (old : Site) where
  -- it stops before its summary
  pub stopped_before : {T U : Type 0} (new : Site) (h : Halt) → LoadWorks {T = T} pool run [] old new (Err h) → LoadWorks {T = U} pool run summary old new (Err h)
  stopped_before {T} {U} new h works = record {
    stops = record {
      any_moment = leaves_weaker old new (IsLeftOf run [] [] old.told) (IsLeftOf run summary [] old.told) (λ s l. more_left run summary [] old.told s l) works.stops.any_moment;
      between = works.stops.between;
      quiet = works.stops.quiet;
    };
    done = tt;
    begun = works.begun;
    has_begun = works.has_begun;
    written = works.written;
    all = tt;
    demands = demands_err pool (first_lines run works.begun) old new h (λ dev e. works.demands.worn dev (ap Err e)) works.demands.numbers works.demands.reads;
    earlier = works.earlier;
    left = works.left;
  }

  module _ {T : Type 0} (x : T) (mid new : Site) (works : LoadWorks pool run [] old mid (Ok x)) (tells : EachMoment mid new (TellsPart summary mid)) (same : SameDevices mid new) (read : SameReads mid new) where
    told_mid : mid.told ≡ old.told ++ opening_text run
    told_mid = works.done.whole.told ∙ ap (λ (l : List ℕ). old.told ++ l) (append-nil (opening_text run))

    summing : LeavesOnly old new (IsLeftOf run summary [] old.told)
    summing = in_sequence old mid new (Leaves (IsLeftOf run summary [] old.told))
        (leaves_weaker old mid (IsLeftOf run [] [] old.told) (IsLeftOf run summary [] old.told) (λ s l. more_left run summary [] old.told s l) works.done.any_moment)
        (leaves_weaker mid new (λ s. ((k : ℕ) × (s.told ≡ mid.told ++ take k summary)) × StandsAfter run (all_commits run) s.image) (IsLeftOf run summary [] old.told) (λ s p. record {
          told = opening_text run ++ take p.0.0 summary;
          told_is = p.0.1 ∙ ap (λ (l : List ℕ). l ++ take p.0.0 summary) told_mid ∙ append_assoc old.told (opening_text run) (take p.0.0 summary);
          k = all_commits run;
          allowed = inr (inr (take p.0.0 summary, refl, (p.0.0, refl), refl));
          stands = p.1;
        }) (tell_leaves (StandsAfter run (all_commits run)) summary mid new (λ s left. subst (StandsAfter run (all_commits run)) (sym (image_is (now_of mid) s works.done.quiet left)) works.done.whole.stands) tells))

    -- it is summed up
    pub summed_up : {U : Type 0} (y : U) → new.told ≡ mid.told ++ summary → TellsOnly (length summary) mid new → LoadWorks {T = U} pool run summary old new (Ok y)
    summed_up {U} y told few = record {
      stops = tt;
      done = record {
        any_moment = summing;
        whole = record {
          told = told ∙ ap (λ (l : List ℕ). l ++ summary) told_mid ∙ append_assoc old.told (opening_text run) summary;
          stands = subst (StandsAfter run (all_commits run)) (sym same.image) works.done.whole.stands;
        };
        quiet = same.loose ∙ works.done.quiet;
      };
      begun = works.begun;
      has_begun = still_begun run works.begun summary old mid new tells works.has_begun;
      written = still_written pool run works.begun summary old mid new tells works.written;
      all = works.all;
      demands = demands_done pool (first_lines run works.begun) old mid new same.image read tells x y (calls_told run.geometry summary mid new same.image told tells.grown few) (unsynced_told mid new tells.grown few.works) works.demands;
      earlier = works.earlier;
      left = same.left ∙ works.left;
    }

    -- the summary isn't told whole
    pub summary_lost : {U : Type 0} → LoadWorks {T = U} pool run summary old new (Err halt.Output)
    summary_lost {U} = record {
      stops = record { any_moment = summing; between = λ ne. absurd (ne refl); quiet = λ ne. same.loose ∙ works.done.quiet };
      done = tt;
      begun = works.begun;
      has_begun = still_begun run works.begun summary old mid new tells works.has_begun;
      written = still_written pool run works.begun summary old mid new tells works.written;
      all = tt;
      demands = demands_lost pool (first_lines run works.begun) old mid new same.image read tells x works.demands;
      earlier = works.earlier;
      left = same.left ∙ works.left;
    }

-- What is told is done.
module _ (pool : ℕ) (run : Run) (summary : List ℕ) (old mid new : Site) where
  pub tells_opening : EachMoment old mid (TellsOpening pool run old) → EachMoment old mid (LoadTellsDone pool run summary [] old)
  tells_opening tells = each_weaker old mid (TellsOpening pool run old) (LoadTellsDone pool run summary [] old) (λ (m : Moment) o. inl o) tells

  -- the summary
  pub tells_summary : {T : Type 0} (x : T) → LoadWorks pool run [] old mid (Ok x) → EachMoment old mid (TellsOpening pool run old) → EachMoment mid new (TellsPart summary mid) → EachMoment mid new (HandsRest summary mid) → EachMoment old new (LoadTellsDone pool run summary [] old)
  tells_summary x works opening tells hands =
      let told : mid.told ≡ old.told ++ opening_text run = works.done.whole.told ∙ ap (λ (l : List ℕ). old.told ++ l) (append-nil (opening_text run)) in
      in_sequence old mid new (LoadTellsDone pool run summary [] old) (tells_opening opening)
      (each_weaker mid new (λ m. TellsPart summary mid m × HandsRest summary mid m) (LoadTellsDone pool run summary [] old)
      (λ (m : Moment) both. ⊎_elim (λ none. inl (inl none)) (λ rest. inr (inl (record {
        line = (0, subst (λ (t : List ℕ). HandsLine summary t m) (told ∙ sym (append-nil (old.told ++ opening_text run))) rest);
        done = subst (HasDone pool run old.image) (sym both.0.image) (done_whole pool run works.begun works.all old.image mid.image works.demands.done);
      }))) both.1) (each_both mid new (TellsPart summary mid) (HandsRest summary mid) tells hands))

  -- or the fault line
  pub tells_fault_line : (h : Halt) → LoadStops run summary old mid h → EachMoment old mid (LoadTellsDone pool run summary [] old) → EachMoment mid new (HandsRest (fault_line h) mid) → EachMoment old new (LoadTellsDone pool run summary (fault_line h) old)
  tells_fault_line h stops tells hands =
      in_sequence old mid new (LoadTellsDone pool run summary (fault_line h) old)
      (each_weaker old mid (LoadTellsDone pool run summary [] old) (LoadTellsDone pool run summary (fault_line h) old)
      (λ (m : Moment) d. ⊎_elim (λ o. inl o) (λ some. ⊎_elim (λ s. inr (inl s)) (λ f. inl (inl (f.1.telling ∙ none_behind f.1.part))) some) d) tells)
      (each_weaker mid new (HandsRest (fault_line h) mid) (LoadTellsDone pool run summary (fault_line h) old)
      (λ (m : Moment) h'. ⊎_elim (λ none. inl (inl none)) (λ rest. ⊎_elim
      (λ output. inl (inl (rest.telling ∙ ap (λ (x : Halt). drop rest.part (fault_line x)) output ∙ none_behind rest.part)))
      (λ ne. let w = whole ne in inr (inr (w.0, subst (λ (t : List ℕ). HandsLine (fault_line h) t m) w.1 rest)))
      (output_or_not h)) h') hands)
    where
      whole : h ≢ halt.Output → (n : ℕ) × (mid.told ≡ old.told ++ flat_map (λ (x : List ℕ). x) (take n (opening_text run ∷ summary ∷ [])))
      whole ne = ⊎_elim (λ u. (0, u.told ∙ sym (append-nil old.told))) (λ o. (1, o.told ∙ ap (λ (l : List ℕ). old.told ++ l) (sym (append-nil (opening_text run))))) (stops.between ne)

-- A fault line.
module _ (run : Run) (summary : List ℕ) (old mid new : Site) (h : Halt) (stops : LoadStops run summary old mid h) (tells : EachMoment mid new (TellsPart (fault_line h) mid)) where
  before : LeavesOnly old mid (IsLeftOf run summary (fault_line h) old.told)
  before = leaves_weaker old mid (IsLeftOf run summary [] old.told) (IsLeftOf run summary (fault_line h) old.told) (λ s l. fault_left run summary (fault_line h) old.told s l) stops.any_moment

  fault_untold : IsUntold run old mid → LeavesOnly mid new (IsLeftOf run summary (fault_line h) old.told)
  fault_untold u = leaves_weaker mid new (λ s. ((k : ℕ) × (s.told ≡ mid.told ++ take k (fault_line h))) × StandsAfter run 0 s.image) (IsLeftOf run summary (fault_line h) old.told) (λ s p. record {
    told = take p.0.0 (fault_line h);
    told_is = p.0.1 ∙ ap (λ (l : List ℕ). l ++ take p.0.0 (fault_line h)) u.told;
    k = 0;
    allowed = inl (inr (p.0.0, refl), refl);
    stands = p.1;
  }) (tell_leaves (StandsAfter run 0) (fault_line h) mid new u.stands tells)

  fault_opened : IsOpened run old mid → LeavesOnly mid new (IsLeftOf run summary (fault_line h) old.told)
  fault_opened o = leaves_weaker mid new (λ s. ((k : ℕ) × (s.told ≡ mid.told ++ take k (fault_line h))) × ((k : ℕ) × (k ≤ all_commits run) × StandsAfter run k s.image)) (IsLeftOf run summary (fault_line h) old.told) (λ s p. record {
    told = opening_text run ++ take p.0.0 (fault_line h);
    told_is = p.0.1 ∙ ap (λ (l : List ℕ). l ++ take p.0.0 (fault_line h)) o.told ∙ append_assoc old.told (opening_text run) (take p.0.0 (fault_line h));
    k = p.1.0;
    allowed = inr (inl (take p.0.0 (fault_line h), refl, (p.0.0, refl), p.1.1));
    stands = p.1.2;
  }) (tell_leaves (λ image. (k : ℕ) × (k ≤ all_commits run) × StandsAfter run k image) (fault_line h) mid new o.stands tells)

  -- where the output failed nothing more is told
  fault_none : h ≡ halt.Output → LeavesOnly mid new (IsLeftOf run summary (fault_line h) old.told)
  fault_none output =
      let none : fault_line h ≡ [] = ap fault_line output in
      leaves_weaker mid new (λ s. ((k : ℕ) × (s.told ≡ mid.told ++ take k (fault_line h))) × IsLeftOf run summary (fault_line h) old.told (record { told = mid.told; image = s.image })) (IsLeftOf run summary (fault_line h) old.told) (λ s p. record {
        told = p.1.told;
        told_is = p.0.1 ∙ ap (λ (l : List ℕ). mid.told ++ take p.0.0 l) none ∙ ap (λ (l : List ℕ). mid.told ++ l) (take_all p.0.0 [] (omega arith)) ∙ append-nil mid.told ∙ p.1.told_is;
        k = p.1.k;
        allowed = p.1.allowed;
        stands = p.1.stands;
      }) (tell_leaves (λ image. IsLeftOf run summary (fault_line h) old.told (record { told = mid.told; image = image })) (fault_line h) mid new (λ s left. subst (λ (t : List ℕ). IsLeftOf run summary (fault_line h) old.told (record { told = t; image = s.image })) (told_is mid s left) (before.now s left)) tells)

  with_fault : LeavesOnly old new (IsLeftOf run summary (fault_line h) old.told)
  with_fault = in_sequence old mid new (Leaves (IsLeftOf run summary (fault_line h) old.told)) before
      (⊎_elim fault_none (λ ne. ⊎_elim fault_untold fault_opened (stops.between ne)) (output_or_not h))

-- The headline.
module _ (load : Load) (g : Geometry) (opening : State) (old : Site) (good : IsGood g opening old) where
  abbrev run' : Run
  run' = load_run g opening load

  abbrev summary' : List ℕ
  summary' = summary_text run' load

  -- the texts before the fault line are whole
  load_ends : {U : Type 0} (mid new : Site) (h : Halt) (result : Result U Failed) → LoadStops run' summary' old mid h → Preserves old mid → IsTrue mid.honest → Tells (fault_line h) mid new result → h ≢ halt.Output → EndsBehind (load_texts run' load) (fault_line h) old new
  load_ends mid new h result stops goes honest tells ne = ⊎_elim
      (λ u. (0, ends_with (old.told ++ []) (fault_line h) old mid new result goes honest (u.told ∙ sym (append-nil old.told)) tells))
      (λ o. (1, ends_with (old.told ++ (opening_text run' ++ [])) (fault_line h) old mid new result goes honest (o.told ∙ ap (λ (l : List ℕ). old.told ++ l) (sym (append-nil (opening_text run')))) tells))
      (stops.between ne)

  pub load_halted : {T U : Type 0} (mid new : Site) (h : Halt) → LoadWorks {T = T} load.pool run' summary' old mid (Err h) → EachMoment old mid (LoadTellsDone load.pool run' summary' [] old) → Preserves old mid → (result : Result U Failed) → Tells (fault_line h) mid new result → HasCause h old new → (status : ℕ) → status ≡ status_of h → LoadHeadline load g opening old new status
  load_halted {T} mid new h works done goes result told cause status is =
      let honest = stays_honest old mid goes good.honest in
      let tells = told.any_moment honest in
      let same = told.devices honest in
      let read = told.reads in
      record {
        durability = record {
          fault = fault_line h;
          of_status = inr (h, is, refl);
          ends = λ ne. load_ends mid new h result works.stops goes honest told (λ output. ne (is ∙ ap status_of output));
          any_moment = with_fault run' summary' old mid new h works.stops tells;
          quiet = λ ne. same.loose ∙ works.stops.quiet (λ e. ne (is ∙ e));
          done = λ zero. absurd (not_zero h (sym is ∙ zero));
          left = same.left ∙ works.left;
        };
        caused = inr (h, is, refl, cause);
        resources = record {
          begun = works.begun;
          has_begun = still_begun run' works.begun (fault_line h) old mid new tells works.has_begun;
          written = still_written load.pool run' works.begun (fault_line h) old mid new tells works.written;
          asked = asked_halted load.pool run' works.begun old new {T = T} h status (λ zero. not_zero h (sym is ∙ zero)) (λ eight. worn_by h (sym is ∙ eight)) works.earlier
              (demands_failed load.pool (first_lines run' works.begun) old mid new same.image read tells h works.demands);
        };
        tells = tells_fault_line load.pool run' summary' old mid new h works.stops done (told.hands honest);
      }

  pub load_done : {T : Type 0} (new : Site) (x : T) → LoadWorks {T = T} load.pool run' summary' old new (Ok x) → EachMoment old new (LoadTellsDone load.pool run' summary' [] old) → LoadHeadline load g opening old new 0
  load_done new x works done = record {
    tells = done;
    durability = record {
      fault = [];
      of_status = inl (refl, refl);
      ends = λ ne. ends_whole (load_texts run' load) old new
          (works.done.whole.told ∙ ap (λ (l : List ℕ). old.told ++ (opening_text run' ++ l)) (sym (append-nil summary')));
      any_moment = works.done.any_moment;
      quiet = λ ne. works.done.quiet;
      done = λ zero. works.done.whole;
      left = works.left;
    };
    caused = inl (refl, refl);
    resources = record {
      begun = works.begun;
      has_begun = works.has_begun;
      written = works.written;
      asked = asked_done load.pool run' works.begun old new x works.all works.earlier works.demands;
    };
  }

  -- where nothing fails, and no ring is too short, it is done, or memory was wanted
  pub load_complete : (new : Site) (status : ℕ) → NoFaultRose old new → WearsNone load.pool run' old.image → (status ≢ 5) × (status ≢ 7) → HasCauses status old new → LoadHeadline load g opening old new status → (status ≡ 0) ⊎ (status ≡ 4)
  load_complete new status none room untaken causes h =
      ⊎_elim (λ e. inl e) (⊎_elim (λ e. let c = causes.device e in absurd (none.devices c.0 c.1)) (⊎_elim (λ e. inr e) (⊎_elim (λ e. absurd (untaken.0 e))
      (⊎_elim (λ e. absurd (none.output (causes.output e))) (⊎_elim (λ e. absurd (untaken.1 e))
      (⊎_elim (λ e. absurd (let worn = h.resources.asked.worn e in never worn.0 worn.2)) (λ e. absurd (causes.foreign e good.honest g opening.table opening.commits (stands_by g old.image opening good.opens))))))))) causes.others
    where
      never : (dev : Dev) → WearsFirst load.pool (first_lines run' h.resources.begun) dev old.image → ⊥
      never dev wears = never_worn_within load.pool run' h.resources.begun old.image good.opens.newest good.opens.blocks good.opens.sound dev wears room

-- a status of none that speaks of input
pub not_taken : (h : Halt) (status : ℕ) → status ≡ status_of h → (h ≢ halt.Input) × (h ≢ halt.Limit) → (status ≢ 5) × (status ≢ 7)
not_taken h status is ne = (λ e. ne.0 (of_five h (sym is ∙ e)), λ e. ne.1 (of_seven h (sym is ∙ e)))

-- the contract of a load
pub load_contract : (load : Load) (old new : Site) (status : ℕ) → ((g : Geometry) (opening : State) → IsGood g opening old → LoadHeadline load g opening old new status) → HasCauses status old new → (status ≢ 5) × (status ≢ 7) → (IsTrue old.honest → TellsFault status old new)
    → LoadContract load old new status
load_contract load old new status headline causes untaken line = record {
  headline = headline;
  complete = λ g opening good none room. load_complete load g opening old good new status none room untaken causes (headline g opening good);
  causes = causes;
  untaken = untaken;
  line = line;
}
