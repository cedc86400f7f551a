-- A run that halts, and its fault line.
use Rattle.std.proofs.lemmas.Grind.{common_steps}
use Rattle.face.proofs.Names.{◌≡◌, ◌≢◌, ◌⊎◌, inl, inr, ⊎_elim, ℕ, suc, ◌+◌, ◌≤◌, Bool, true, false, List, [], ◌++◌, length, take, drop, refl, sym, ◌∙◌, ap, subst, arith, append_assoc, length-append, take-append-drop, Err, Ok, Result, IsTrue, append-nil, take_all, take_at, take-take, length-take, list_any, Stands, HasCause, HasCauses, EndsInTime, Durability, IsGood, Headline, TellsFault, IsToldWhole, Run, answered, first_lines, Begins, IsLeft, IsWhole, ListsTheMachine, first_texts, run_of, run_text, texts, RunContract, Demands, HasHeard, StandsNear, StopsTaking, TakingFails, RunOutcome, HasTakenAll, IsBetween, WearsFirst, WearsNone, ends_whole, ends_with, NoFaultRose, commands_of, answered_of, limit, EndsBehind, Tells, fault_line, status_of, Halt, Line, is_quit, Serial, State, CacheLine, in_sequence, leaves_weaker, stays_honest, told_is, tell_leaves, Preserves, Leaves, LeavesOnly, EachMoment, Input, Site, Snapshot, TellsPart, Geometry, Dev, Failed}
use Rattle.face.proofs.WornFronts.{earlier_same, never_worn}
use Rattle.face.proofs.Waits.{answers_still}
use Rattle.face.proofs.Demanded.{asked_done, asked_halted, demands_failed}
use Rattle.face.proofs.Fronts.{begun_same, first_commands, first_same, lines_first, no_quits, told_first, told_same, waits_same, whole_turns}
use Rattle.face.proofs.LinesBeforeQuit.{all_answered}
use Rattle.face.proofs.Lefts.{left_whole}
use Rattle.face.proofs.Runs.{texts_count}
use Rattle.face.proofs.Meanings.{stands_by}
use Rattle.face.proofs.Dones.{done_fault, done_same}
use Rattle.face.proofs.Statuses.{not_zero, of_five, of_seven, output_or_not, worn_by}
use Rattle.face.proofs.SerialRuns.{answers_alone}
use Rattle.face.proofs.Ranges.{IsFault, is_left, all_text}
use Rattle.face.proofs.Written.{written_same, written_told}
use Rattle.front_end.specs.declared.halt.Halt.TheVariants as halt

-- no part of a fault line is a part of any
no_fault : (run : Run) (so_far fault : List ℕ) (s : Snapshot) → IsLeft run so_far [] s → IsLeft run so_far fault s
no_fault run so_far fault s l = record {
  told = l.told;
  told_is = l.told_is;
  is_told = ⊎_elim (λ front. inl front) (λ behind. inr (behind.0, behind.1, behind.2, behind.3, (0, behind.4.1 ∙ take_all behind.4.0 [] (omega arith)))) l.is_told;
  k = l.k;
  in_range = l.in_range;
  stands = l.stands;
}

module _ (run : Run) (old mid new : Site) where
  told_whole : (fault : List ℕ) → IsFault fault → LeavesOnly old mid (IsLeft run old.told []) → IsBetween run old mid → EachMoment mid new (TellsPart fault mid) → LeavesOnly old new (IsLeft run old.told fault)
  told_whole fault is_fault so_far b tells =
      in_sequence old mid new (Leaves (IsLeft run old.told fault)) (leaves_weaker old mid (IsLeft run old.told []) (IsLeft run old.told fault) (no_fault run old.told fault) so_far)
      (leaves_weaker mid new (λ s. ((k : ℕ) × (s.told ≡ mid.told ++ take k fault)) × StandsNear run b.whole s.image) (IsLeft run old.told fault) (λ s p.
      is_left run old.told fault s is_fault b.whole b.few (take p.0.0 fault) (inr (p.0.0, refl))
      (p.0.1 ∙ ap (λ (l : List ℕ). l ++ take p.0.0 fault) b.told ∙ append_assoc old.told (first_texts run b.whole) (take p.0.0 fault)) p.1)
      (tell_leaves (StandsNear run b.whole) fault mid new b.stands tells))

  -- where the output failed nothing more is told
  told_none : LeavesOnly old mid (IsLeft run old.told []) → EachMoment mid new (TellsPart [] mid) → LeavesOnly old new (IsLeft run old.told [])
  told_none so_far tells =
      in_sequence old mid new (Leaves (IsLeft run old.told [])) so_far
      (leaves_weaker mid new (λ s. ((k : ℕ) × (s.told ≡ mid.told ++ take k [])) × IsLeft run old.told [] (record { told = mid.told; image = s.image })) (IsLeft run old.told []) (λ s p. record {
        told = p.1.told;
        told_is = p.0.1 ∙ ap (λ (l : List ℕ). mid.told ++ l) (take_all p.0.0 [] (omega arith)) ∙ append-nil mid.told ∙ p.1.told_is;
        is_told = p.1.is_told;
        k = p.1.k;
        in_range = p.1.in_range;
        stands = p.1.stands;
      }) (tell_leaves (λ image. IsLeft run old.told [] (record { told = mid.told; image = image })) [] mid new (λ s left. subst (λ (t : List ℕ). IsLeft run old.told [] (record { told = t; image = s.image })) (told_is mid s left) (so_far.now s left)) tells))

  with_fault : (h : Halt) → LeavesOnly old mid (IsLeft run old.told []) → (h ≢ halt.Output → IsBetween run old mid) → EachMoment mid new (TellsPart (fault_line h) mid) → LeavesOnly old new (IsLeft run old.told (fault_line h))
  with_fault h so_far between tells = ⊎_elim
      (λ output. let none : fault_line h ≡ [] = ap fault_line output in
      subst (λ (l : List ℕ). LeavesOnly old new (IsLeft run old.told l)) (sym none) (told_none so_far (subst (λ (l : List ℕ). EachMoment mid new (TellsPart l mid)) none tells)))
      (λ ne. told_whole (fault_line h) (inr (h, refl)) so_far (between ne) tells) (output_or_not h)

-- The run over all octets that are left is the one over those that were taken, as far as its lines were heard.
module _ (g : Geometry) (opening : State) (listings : List (List CacheLine)) (old mid : Site) (heard : ℕ) (octets : List ℕ) (ended : Bool) (h : HasHeard heard octets ended old mid) where
  abbrev all : Run
  all = run_of g opening true old.input.left listings

  abbrev taken : Run
  taken = run_of g opening ended octets listings

  pub left_by : (new : Site) (fault : List ℕ) → IsFault fault → LeavesOnly old new (IsLeft (first_lines all heard) old.told fault) → LeavesOnly old new (IsLeft taken old.told fault)
  left_by new fault is_fault moments =
      leaves_weaker old new (IsLeft (first_lines all heard) old.told fault) (IsLeft taken old.told fault)
      (λ s l. left_whole g opening listings (commands_of ended octets) heard old.told fault s is_fault (subst (λ (r : Run). IsLeft r old.told fault s) (sym (first_same all (commands_of ended octets) heard h.same)) l)) moments

  -- all lines that stand whole in the first octets were heard
  whole_lines : length (answered_of false (take limit octets)) ≡ heard → list_any is_quit (commands_of false (take limit octets)) ≡ false → take heard (commands_of false (take limit octets)) ≡ take heard (commands_of true old.input.left)
  whole_lines count none =
      let lines = commands_of false (take limit octets) in
      let first = first_commands ended (take limit octets) (drop limit octets) in
      let is : commands_of ended octets ≡ lines ++ first.0 = ap (commands_of ended) (sym (take-append-drop limit octets)) ∙ first.1 in
      let long : length lines ≡ heard = sym (ap (λ (l : List Line). length l) (all_answered lines (no_quits lines none))) ∙ count in
      take_all heard lines (omega (arith, long)) ∙ sym (ap (take heard) is ∙ take_at lines first.0 heard long) ∙ h.same

  pub told_whole_lines : (new : Site) (fault : List ℕ) → HasTakenAll all heard octets old mid → ((k : ℕ) × (new.told ≡ mid.told ++ take k fault)) → IsToldWhole (run_of g opening false (take limit octets) listings) fault old new
  told_whole_lines new fault t more =
      let own = run_of g opening false (take limit octets) listings in
      let text : first_texts all (heard + 1) ≡ run_text own =
      sym (told_same all (commands_of false (take limit octets)) heard (whole_lines t.count t.no_quit) (heard + 1) (omega arith))
      ∙ ap (λ (n : ℕ). first_texts own (n + 1)) (sym t.count)
      ∙ all_text own in
      record {
        rest = take more.0 fault;
        told = more.1 ∙ ap (λ (l : List ℕ). l ++ take more.0 fault) (t.told ∙ ap (λ (l : List ℕ). old.told ++ l) text) ∙ append_assoc old.told (run_text own) (take more.0 fault);
        front = (more.0, refl);
      }

-- where all of a run's lines are among the first ones, all of it is told and done with them
is_whole : (run : Run) (n : ℕ) → length (answered run) ≤ n → (old new : Site) → IsWhole (first_lines run n) old new → IsWhole run old new
is_whole run n few old new w = grind (arith, whole_turns)

-- what a run begins with
pub begins : (g : Geometry) (opening : State) (listings : List (List CacheLine)) (old : Site) → IsGood g opening old → Begins (run_of g opening true old.input.left listings) old
begins g opening listings old good = record { honest = good.honest; quiet = good.quiet; opens = good.opens; lines = refl }

-- with 5 and 7 taking was what failed
taking_by : (T : Type 0) (h : Halt) → (status_of h ≡ 5) ⊎ (status_of h ≡ 7) → TakingFails {T = T} (Err h)
taking_by T h which = grind (arith, of_five, of_seven)

module _ (pool : ℕ) (g : Geometry) (opening : State) (listings : List (List CacheLine)) (old : Site) where
  abbrev run : Run
  run = run_of g opening true old.input.left listings

  -- where taking failed all whole lines are answered
  taken_by : (h : Halt) (heard : ℕ) (octets : List ℕ) (mid : Site) → StopsTaking h run heard octets old mid → (status_of h ≡ 5) ⊎ (status_of h ≡ 7) → HasTakenAll run heard octets old mid
  taken_by h heard octets mid s which = grind (arith, of_five, of_seven)

  over_by : (h : Halt) (heard : ℕ) (octets : List ℕ) (mid : Site) → StopsTaking h run heard octets old mid → status_of h ≡ 7 → (length octets ≡ limit + 1) × (list_any is_quit (commands_of false (take limit octets)) ≡ false)
  over_by h heard octets mid s e = let own = subst (λ (x : Halt). StopsTaking x run heard octets old mid) (of_seven h e) s in (own.1, own.0.no_quit)

  -- the texts before the fault line are whole
  whole_told : {T : Type 0} (mid : Site) (h : Halt) (works : RunOutcome {T = T} pool run old mid (Err h)) → h ≢ halt.Output → (whole : ℕ) × (mid.told ≡ old.told ++ first_texts (run_of g opening works.ended works.octets listings) whole)
  whole_told mid h works ne =
      let b = works.stops.0.between ne in
      let heard = works.has_heard in
      let lines = commands_of works.ended works.octets in
      let few : b.whole ≤ works.heard + 1 =
      let some = b.few in
      let long = texts_count (first_lines run works.heard) ∙ ap (λ (l : List Line). suc (length l)) (lines_first run works.heard) in
      let less = length-take works.heard (answered run) in
      omega (arith, some, long, less) in
      (b.whole, b.told ∙ ap (λ (l : List ℕ). old.told ++ l) (told_first run works.heard b.whole few ∙ sym (told_same run lines works.heard heard.same b.whole few)))

  ends_behind : {T U : Type 0} (mid new : Site) (h : Halt) (result : Result U Failed) (works : RunOutcome {T = T} pool run old mid (Err h)) → Preserves old mid → IsTrue mid.honest → Tells (fault_line h) mid new result → h ≢ halt.Output
      → EndsBehind (texts (run_of g opening works.ended works.octets listings)) (fault_line h) old new
  ends_behind mid new h result works goes honest tells ne =
      let w = whole_told mid h works ne in
      (w.0, ends_with (old.told ++ first_texts (run_of g opening works.ended works.octets listings) w.0) (fault_line h) old mid new result goes honest w.1 tells)

  pub halted : {T U : Type 0} → Serial → (mid new : Site) (h : Halt) → IsGood g opening old → RunOutcome {T = T} pool run old mid (Err h) → Preserves old mid → (result : Result U Failed) → Tells (fault_line h) mid new result → HasCause h old new → (status : ℕ) → status ≡ status_of h → Headline pool g opening old new status
  halted {T} law mid new h good works goes result told cause status is =
      let honest = stays_honest old mid goes good.honest in
      let tells = told.any_moment honest in
      let same_devices = told.devices honest in
      let heard = works.has_heard in
      let now = tells.now.told 0 in
      let lines = commands_of works.ended works.octets in
      let own = run_of g opening works.ended works.octets listings in
      let front : first_lines own works.heard ≡ first_lines run works.heard = first_same run lines works.heard heard.same in
      record {
        durability = record {
          octets = works.octets;
          ended = works.ended;
          listings = listings;
          taken = heard.taken ∙ ap (λ (input : Input). works.octets ++ input.left) (sym same_devices.left);
          end = λ e. ap (λ (input : Input). input.left) same_devices.left ∙ heard.end e;
          fault = fault_line h;
          of_status = inr (h, is, refl);
          ends = λ ne. ends_behind mid new h result works goes honest told (λ output. ne (is ∙ ap status_of output));
          any_moment = left_by g opening listings old mid works.heard works.octets works.ended heard new (fault_line h) (inr (h, refl)) (with_fault (first_lines run works.heard) old mid new h works.stops.0.any_moment works.stops.0.between tells);
          quiet = λ ne. same_devices.loose ∙ works.stops.0.quiet (λ e. ne (is ∙ e));
          heard = λ zero. absurd (not_zero h (sym is ∙ zero));
          done = λ zero. absurd (not_zero h (sym is ∙ zero));
          answered = waits_same run lines works.heard heard.same old new (answers_still run works.heard old mid new same_devices.left works.answers);
          taking = λ which. told_whole_lines g opening listings old mid works.heard works.octets works.ended heard new (fault_line h)
              (taken_by h works.heard works.octets mid works.stops.1 (⊎_elim (λ e. inl (sym is ∙ e)) (λ e. inr (sym is ∙ e)) which))
              (now.0, sym (append-nil new.told) ∙ now.1);
          over = λ seven. over_by h works.heard works.octets mid works.stops.1 (sym is ∙ seven);
        };
        caused = inr (h, is, refl, cause);
        resources = record {
          begun = works.heard;
          has_begun = begun_same run lines works.heard heard.same old mid new (fault_line h) now.0 (sym (append-nil new.told) ∙ now.1) heard.enough works.begun;
          asked = asked_halted pool own works.heard old new {T = T} h status (λ zero. not_zero h (sym is ∙ zero)) (λ eight. worn_by h (sym is ∙ eight)) (earlier_same pool run lines works.heard heard.same old.image works.earlier)
              (demands_failed pool (first_lines own works.heard) old mid new same_devices.image told.reads tells h (subst (λ (r : Run). Demands {T = T} pool r old mid (Err h)) (sym front) works.demands));
          taking = λ which. subst (λ (r : Run). WearsNone pool r old.image) (sym front) (works.taking (taking_by T h (⊎_elim (λ e. inl (sym is ∙ e)) (λ e. inr (sym is ∙ e)) which)));
          listed = subst (λ (r : Run). ListsTheMachine pool r old.image) (sym front) works.listed;
          written = written_same pool run lines works.heard heard.same old new (written_told pool run works.heard (fault_line h) old mid new tells works.written);
          tells = done_fault pool own works.heard (fault_line h) old mid new (⊎_elim (λ output. inl (ap fault_line output)) (λ ne. inr (whole_told mid h works ne)) (output_or_not h))
              (done_same pool run lines works.heard heard.same (fault_line h) old mid works.tells) (told.hands honest);
        };
        order = answers_alone law g opening old good works.ended works.octets listings;
      }

  pub finished : {T : Type 0} → Serial → (new : Site) (x : T) → IsGood g opening old → RunOutcome pool run old new (Ok x) → Headline pool g opening old new 0
  finished law new x good works =
      let heard = works.has_heard in
      let lines = commands_of works.ended works.octets in
      let count = works.done.1 in
      let same = heard.same in
      let own = run_of g opening works.ended works.octets listings in
      let front : first_lines own works.heard ≡ first_lines run works.heard = first_same run lines works.heard same in
      let whole : length (answered own) ≤ works.heard = omega (arith, count) in
      let done = is_whole own works.heard whole old new (subst (λ (r : Run). IsWhole r old new) (sym front) works.done.3) in
      record {
        durability = record {
          octets = works.octets;
          ended = works.ended;
          listings = listings;
          taken = heard.taken;
          end = heard.end;
          fault = [];
          of_status = inl (refl, refl);
          ends = λ ne. ends_whole (texts own) old new done.told;
          any_moment = left_by g opening listings old new works.heard works.octets works.ended heard new [] (inl refl) works.done.2;
          quiet = λ ne. works.done.4;
          heard = λ zero. works.done.0;
          done = λ zero. done;
          answered = waits_same run lines works.heard same old new works.answers;
          taking = λ which. ⊎_elim (λ e. absurd (omega (arith, e))) (λ e. absurd (omega (arith, e))) which;
          over = λ e. absurd (omega (arith, e));
        };
        caused = inl (refl, refl);
        resources = record {
          begun = works.heard;
          has_begun = begun_same run lines works.heard same old new new [] 0 (sym (append-nil new.told)) heard.enough works.begun;
          asked = asked_done pool own works.heard old new x whole (earlier_same pool run lines works.heard same old.image works.earlier) (subst (λ (r : Run). Demands pool r old new (Ok x)) (sym front) works.demands);
          taking = λ which. ⊎_elim (λ e. absurd (omega (arith, e))) (λ e. absurd (omega (arith, e))) which;
          listed = subst (λ (r : Run). ListsTheMachine pool r old.image) (sym front) works.listed;
          written = written_same pool run lines works.heard same old new works.written;
          tells = done_same pool run lines works.heard same [] old new works.tells;
        };
        order = answers_alone law g opening old good works.ended works.octets listings;
      }

true_not_false : true ≡ false → ⊥
true_not_false is = cc

-- input that ends within n octets, or quits among them, doesn't go over n
not_over : (n : ℕ) (left octets rest : List ℕ) → left ≡ octets ++ rest → (length left ≤ n) ⊎ (list_any is_quit (commands_of false (take n left)) ≡ true) → length octets ≡ n + 1 → list_any is_quit (commands_of false (take n octets)) ≡ false → ⊥
not_over n left octets rest is x5 many none = grind (arith, common_steps, length-append, true_not_false, take-take, take_at)

-- where nothing fails, no ring stands at its end that is appended to, and the input ends in time
pub complete : (pool : ℕ) (g : Geometry) (opening : State) (old new : Site) (status : ℕ) → IsGood g opening old → NoFaultRose old new → WearsNone pool (run_of g opening true old.input.left []) old.image → EndsInTime old → HasCauses status old new →
    Headline pool g opening old new status → (status ≡ 0) ⊎ (status ≡ 4)
complete pool g opening old new status good none room ends causes h =
    ⊎_elim (λ e. inl e) (⊎_elim (λ e. let c = causes.device e in absurd (none.devices c.0 c.1)) (⊎_elim (λ e. inr e) (⊎_elim (λ e. absurd (none.input (causes.input e)))
    (⊎_elim (λ e. absurd (none.output (causes.output e))) (⊎_elim (λ e. absurd (in_time (d.over e)))
    (⊎_elim (λ e. absurd (let worn = h.resources.asked.worn e in never worn.0 worn.2)) (λ e. absurd (causes.foreign e good.honest g opening.table opening.commits stands)))))))) causes.others
  where
    d : Durability g opening old new status
    d = h.durability

    stands : Stands g old.image opening.table opening.commits
    stands = stands_by g old.image opening good.opens

    in_time : (length d.octets ≡ limit + 1) × (list_any is_quit (commands_of false (take limit d.octets)) ≡ false) → ⊥
    in_time over = not_over limit old.input.left d.octets new.input.left d.taken ends over.0 over.1

    never : (dev : Dev) → WearsFirst pool (first_lines (run_of g opening d.ended d.octets d.listings) h.resources.begun) dev old.image → ⊥
    never dev wears = never_worn pool g opening d.listings d.ended old.input.left d.octets new.input.left d.taken d.end h.resources.begun old.image good.opens.newest good.opens.blocks good.opens.sound dev wears room

-- the contract of a run, where its line says the status
pub run_contract : (pool : ℕ) (old new : Site) (status : ℕ) → ((g : Geometry) (opening : State) → IsGood g opening old → Headline pool g opening old new status) → HasCauses status old new → (IsTrue old.honest → TellsFault status old new)
    → RunContract pool old new status
run_contract pool old new status headline causes line = record {
  headline = headline;
  complete = λ g opening good none room ends. complete pool g opening old new status good none room ends causes (headline g opening good);
  causes = causes;
  line = line;
}
