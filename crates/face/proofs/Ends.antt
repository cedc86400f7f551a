-- How a run comes to its end.
use Rattle.face.proofs.Names.{◌≡◌, ◌≢◌, ◌⊎◌, inl, inr, ⊎_elim, IsTrue, ℕ, ◌≤◌, List, [], ◌∷◌, ◌++◌, length, drop, suc, refl, sym, ◌∙◌, ap, subst, arith, Ok, Err, true, false, Bool, append-nil, Stands, sizes_of, QueueIsOnFlash, listing_of, Matches, WhereItFits, Engine, CarriesOut, HandsReply, TellsAnswer, HasCause, AnswerFailsBy, Run, answered, first_lines, listing_at, state_at, step, HasAnswered, NeverOpens, IsLeft, ListsTheMachine, HasHeard, RunOutcome, StopsTaking, TakingFails, IsWorn, HasEnded, to_hear, total, IsSource, HearsLine, IsCutOff, HeardAll, answered_of, Hears, status_of, Halt, Source, Line, is_quit, Content, State, CacheLine, IsLogWorn, IsSpent, AreNext, reply_lines, holds_now, rose_since, stays_honest, Preserves, Rose, HasLimits, HasLengths, EachMoment, Input, Site, Image, faults_of, Geometry, Dev, Log, Flash, Disk, Device, Memory, Worn, Foreign}
use Rattle.front_end.specs.declared.source.Heard.{Heard}
use Rattle.face.proofs.Cuts.{Cut, has_heard_all, input_failed, over_limit, taken_by, heard_line, quit_is_last}
use Rattle.face.proofs.RunsSoFar.{begun_after, begun_before, cut_short, ended as is_whole, stopped}
use Rattle.face.proofs.Demanded.{demands_as}
use Rattle.face.proofs.Dones.{done_next}
use Rattle.face.proofs.Serving.{line_asks, line_fails, none_before, none_worn, served_all, served_so_far}
use Rattle.face.proofs.Lefts.{left_first}
use Rattle.face.proofs.Listed.{asked, listed_next, no_turn}
use Rattle.face.proofs.Waits.{answers_more, answers_none, answers_still}
use Rattle.face.proofs.Written.{written_answered, written_opened}
use Rattle.front_end.specs.declared.halt.Halt.TheVariants as halt
use Rattle.front_end.specs.declared.source.Heard.TheVariants as heard

-- taking wasn't what failed
pub not_taking : (h : Halt) (run : Run) (i : ℕ) (octets : List ℕ) (old new : Site) → (h ≢ halt.Input) × (h ≢ halt.Limit) → StopsTaking h run i octets old new
not_taking x0 run i octets old new ne = grind arith

no_taking : (T : Type 0) (h : Halt) → (h ≢ halt.Input) × (h ≢ halt.Limit) → TakingFails {T = T} (Err h) → ⊥
no_taking T (halt.Stop stop) ne fails = fails
no_taking T halt.Input ne fails = ne.0 refl
no_taking T halt.Output ne fails = fails
no_taking T halt.Limit ne fails = ne.1 refl

-- no line asks for a listing where there is none
pub lists_nothing : (pool : ℕ) (run : Run) (image : Image) → ListsTheMachine pool (first_lines run 0) image
lists_nothing pool run image newest blocks sound before later t is = absurd (no_turn before later t is)

-- it comes to its end
whole : {T : Type 0} {later : List (List CacheLine)} (pool : ℕ) (run : Run) (old new : Site) (engine : Engine) (i : ℕ) (so_far : HasAnswered pool run later old new engine i) (x : T) (octets : List ℕ) (ended : Bool) → HasHeard i octets ended old new → QueueIsOnFlash → WhereItFits →
    HeardAll ended octets × (length (answered_of ended octets) ≡ i) → RunOutcome pool run old new (Ok x)
whole pool run old new engine i so_far x octets ended heard queue seen all = record {
  heard = i;
  octets = octets;
  ended = ended;
  has_heard = heard;
  stops = tt;
  begun = begun_before run old new engine i so_far.progress;
  done = (all.0, all.1, so_far.moments, is_whole run old new engine i so_far.progress, so_far.quiet);
  demands = served_all pool run old new engine i so_far.served queue seen x;
  earlier = none_before pool run old new engine i so_far.served i (omega arith);
  taking = λ fails. absurd fails;
  listed = so_far.listed;
  written = so_far.written;
  answers = so_far.answers;
  tells = so_far.tells;
}

-- before the first line
pub never_opened : {T : Type 0} (pool : ℕ) (run : Run) (old new : Site) (h : Halt) → NeverOpens pool run old new h → (h ≢ halt.Input) × (h ≢ halt.Limit) → new.input ≡ old.input → RunOutcome {T = T} pool run old new (Err h)
never_opened {T} pool run old new h never ne left = record {
  heard = 0;
  octets = [];
  ended = false;
  has_heard = record { taken = sym (ap (λ (input : Input). input.left) left); end = λ no. cc; enough = omega arith; same = refl };
  stops = (never.stops, not_taking h run 0 [] old new ne);
  begun = let a = holds_now old new (IsLeft (first_lines run 0) old.told []) never.stops.any_moment in
      let front = left_first run a.told a.is_told in
      record {
        few = omega arith;
        reply = a.told;
        part = front;
        rest = [];
        front = (0, refl);
        told = a.told_is ∙ ap (λ (l : List ℕ). old.told ++ l) (sym (append-nil a.told));
      };
  done = tt;
  demands = demands_as pool (first_lines run 0) old new h never.demands;
  earlier = λ lines less. absurd (omega (arith, less));
  taking = λ fails. absurd (no_taking T h ne fails);
  listed = lists_nothing pool run old.image;
  written = written_opened pool run old new never.stops.any_moment never.demands.reads;
  answers = answers_none run old new left;
  tells = never.tells;
}

-- So many lines were answered, and more was heard.
module _ {later : List (List CacheLine)} (pool : ℕ) (run : Run) (old mid new : Site) (engine : Engine) (source : Source) (i : ℕ) (cut : Cut old.input.left source mid i) (is_source : IsSource source) (so_far : HasAnswered pool run later old new engine i) where
  -- taking failed within a line
  failed : {T : Type 0} (h : Halt) (octets : List ℕ) → ((dev : Dev) → h ≡ halt.Stop (Worn dev) → ⊥) → HasHeard i octets false old new → StopsTaking h run i octets old new → RunOutcome {T = T} pool run old new (Err h)
  failed h octets never heard taking = record {
    heard = i;
    octets = octets;
    ended = false;
    has_heard = heard;
    stops = (stopped run old new engine i so_far.progress h, taking);
    begun = begun_before run old new engine i so_far.progress;
    done = tt;
    demands = served_so_far pool run old new engine i so_far.served h never;
    earlier = none_before pool run old new engine i so_far.served i (omega arith);
    taking = λ fails. none_worn pool run old new engine i so_far.served;
    listed = so_far.listed;
    written = so_far.written;
    answers = so_far.answers;
    tells = so_far.tells;
  }

  pub taking_failed : {T : Type 0} (h : Halt) → (h ≡ halt.Input) ⊎ (h ≡ halt.Limit) → IsCutOff h source.ended (total source mid) (to_hear source mid) new.input.left → RunOutcome {T = T} pool run old new (Err h)
  taking_failed (halt.Stop stop) which off = ⊎_elim (λ e. absurd cc) (λ e. absurd cc) which
  taking_failed halt.Output which off = ⊎_elim (λ e. absurd cc) (λ e. absurd cc) which
  taking_failed halt.Input which off =
      let f = input_failed old.input.left source mid i cut is_source new.input.left off.octets off.rest off.none off.all_of_it off.going old new refl refl off.ends.0 off.ends.1 in
      failed halt.Input (cut.octets ++ off.octets) (λ dev e. cc) f.0 (record { count = f.1.0; no_quit = f.1.1; told = so_far.told })
  taking_failed halt.Limit which off =
      let f = over_limit old.input.left source mid i cut is_source new.input.left off.octets off.rest off.none off.all_of_it off.going off.ends.0 off.ends.1 off.ends.2 old new refl refl in
      failed halt.Limit ((cut.octets ++ off.octets) ++ off.ends.0 ∷ []) (λ dev e. cc) f.0 (record { count = f.1.0; no_quit = f.1.1; told = so_far.told }, f.2)

  -- there are no more lines
  pub finished : {T : Type 0} (x : T) → QueueIsOnFlash → WhereItFits → to_hear source mid ≡ [] → new.input.left ≡ [] → RunOutcome pool run old new (Ok x)
  finished x queue seen none left =
      let f = has_heard_all old.input.left source mid i cut is_source old new refl none left in
      whole pool run old new engine i so_far x cut.octets true f.0 queue seen (inl refl, f.1)

-- A line was heard.
module _ (pool : ℕ) (run : Run) (old mid next new : Site) (source source' : Source) (i : ℕ) (cut : Cut old.input.left source mid i) (is_source : IsSource source) (line : Line) (h : HearsLine line source.ended source'.ended (to_hear source mid) (to_hear source' next))
    (last : HasEnded source' next) (is' : IsSource source') (left : new.input ≡ next.input) where
  has_heard_it : HasHeard (suc i) (taken_by old.input.left source mid i cut is_source source' next line h last is') source'.ended old new
  has_heard_it = heard_line old.input.left source mid i cut is_source source' next line h last is' old new refl left

  -- its answer failed
  pub answer_failed : {T U : Type 0} (later : List (List CacheLine)) (engine engine' : Engine) (so_far : HasAnswered pool run (asked line (listing_of engine) ++ later) old next engine i) (rest : List Line) (is : drop i (answered run) ≡ line ∷ rest) (fault : Halt) →
      CarriesOut {T = U} (Err fault) line engine engine' next new → TellsAnswer {T = U} (Err fault) (sizes_of engine.store) (state_at run i) (step (state_at run i) line (listing_at run i)) next new → (fault ≢ halt.Input) × (fault ≢ halt.Limit) → QueueIsOnFlash → WhereItFits → EachMoment next new (HandsReply line engine engine' (reply_lines (step (state_at run i) line (listing_at run i)).reply) next) → RunOutcome {T = T} pool run old new (Err fault)
  answer_failed {T} {U} later engine engine' so_far rest is fault c tells ne queue seen hands =
      let asks = line_asks pool run old next engine i so_far.served line rest is engine' new (Err fault) c in
      record {
        heard = suc i;
        octets = taken_by old.input.left source mid i cut is_source source' next line h last is';
        ended = source'.ended;
        has_heard = has_heard_it;
        stops = (
          cut_short run old next engine i so_far.progress new line rest is tells.any_moment fault
              (λ three. (c.does (state_at run i) so_far.fits).quiet so_far.quiet (λ d e. three (ap status_of e))) tells.untold,
          not_taking fault run (suc i) _ old new ne,
        );
        begun = begun_after run old next engine i so_far.progress new line rest is tells.any_moment;
        done = tt;
        demands = line_fails pool run old next engine i so_far.served line rest is engine' new (Err fault) c fault refl;
        earlier = none_before pool run old next engine i so_far.served (suc i) (omega arith);
        taking = λ fails. absurd (no_taking T fault ne fails);
        listed = listed_next line later so_far rest is;
        written = written_answered pool run i old next new so_far.told tells.any_moment asks so_far.written;
        answers = answers_more run i (suc i) old new (omega arith) (answers_still run i old next new left so_far.answers);
        tells = done_next pool run old next new engine engine' i line rest is so_far.served queue seen so_far.told so_far.tells hands;
      }

  -- a quit was answered
  pub quitted : {T : Type 0} {later : List (List CacheLine)} (x : T) (engine : Engine) → is_quit line ≡ true → QueueIsOnFlash → WhereItFits → HasAnswered pool run later old new engine (suc i) → RunOutcome pool run old new (Ok x)
  quitted x engine quits queue seen so_far =
      let all = quit_is_last old.input.left source mid i cut is_source source' next line h last is' quits in
      whole pool run old new engine (suc i) so_far x _ source'.ended has_heard_it queue seen (inr all.1, all.0)

-- what was heard
pub heard_end : (h : Heard) (was ended : Bool) (before after : List ℕ) → Hears h was ended before after → h ≡ heard.End → (before ≡ []) × (ended ≡ true)
heard_end h was ended before after hears is = subst (λ (x : Heard). Hears x was ended before after) is hears

pub line_heard : (h : Heard) (line : Line) (was ended : Bool) (before after : List ℕ) → Hears h was ended before after → h ≡ heard.Line line → HearsLine line was ended before after
line_heard h line was ended before after hears is = subst (λ (x : Heard). Hears x was ended before after) is hears

-- why taking failed
pub taking_cause : (h : Halt) (source : Source) (old mid new : Site) → (h ≡ halt.Input) ⊎ (h ≡ halt.Limit) → (h ≡ halt.Input → Rose mid.input_faults new.input_faults) → old.input_faults ≤ mid.input_faults
    → (IsTrue old.honest → (total source mid ≡ length old.input.left) × IsCutOff h source.ended (total source mid) (to_hear source mid) new.input.left) → HasCause h old new
taking_cause x0 source old mid new which input low off = grind arith

-- where the answer failed, taking wasn't what failed
pub answer_takes_nothing : (h : Halt) (engine : Engine) (old new : Site) → AnswerFailsBy h engine old new → (h ≢ halt.Input) × (h ≢ halt.Limit)
answer_takes_nothing x0 engine old new fails = grind arith

-- nothing is foreign where the run began over a sound image
pub answer_cause : (h : Halt) (engine : Engine) (old mid new : Site) → AnswerFailsBy h engine mid new → Preserves old mid
    → (IsTrue old.honest → (g : Geometry) (table : List Content) (commits : ℕ) → Stands g old.image table commits → ((s : State) × Matches engine mid s) × (sizes_of engine.store ≡ g))
    → (IsTrue old.honest → (g : Geometry) → HasLimits g → HasLengths g old.image → AreNext engine.store mid × (sizes_of engine.store ≡ g)) → HasCause h old new
answer_cause (halt.Stop (Device dev)) engine old mid new fails goes fits next = rose_since (faults_of dev old) (faults_of dev mid) (faults_of dev new) (goes.faults dev) fails
answer_cause (halt.Stop Memory) engine old mid new fails goes fits next = fails
answer_cause (halt.Stop (Worn Log)) engine old mid new fails goes fits next = λ honest g limits lengths.
    let n = next honest g limits lengths in (
      subst (λ (x : Geometry). IsSpent Log x new.image) n.1 (fails.0 (stays_honest old mid goes honest) n.0),
      λ table commits stands. let f = fits honest g table commits stands in subst (λ (x : Geometry). IsLogWorn x new.image) f.1 (fails.1 f.0.0 f.0.1),
    )
answer_cause (halt.Stop (Worn Flash)) engine old mid new fails goes fits next = λ honest g limits lengths.
    let n = next honest g limits lengths in (
      subst (λ (x : Geometry). IsSpent Flash x new.image) n.1 (fails.0 (stays_honest old mid goes honest) n.0),
      λ table commits stands. let f = fits honest g table commits stands in subst (λ (x : Geometry). IsWorn x new.image) f.1 (fails.1 f.0.0 f.0.1),
    )
answer_cause (halt.Stop (Worn Disk)) engine old mid new fails goes fits next = absurd fails
answer_cause (halt.Stop Foreign) engine old mid new fails goes fits next = λ honest g table commits stands. let f = fits honest g table commits stands in fails f.0.0 f.0.1
answer_cause halt.Input engine old mid new fails goes fits next = absurd fails
answer_cause halt.Output engine old mid new fails goes fits next = rose_since old.output_faults mid.output_faults new.output_faults goes.output_faults fails
answer_cause halt.Limit engine old mid new fails goes fits next = absurd fails
