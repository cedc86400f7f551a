-- A line is carried out: a command of the database, one that asks for nothing, and one whose reply is told.
use Rattle.face.proofs.Names.{◌≡◌, inl, inr, ⊎_elim, ℕ, ◌+◌, ◌++◌, ◌≤◌, true, false, List, [], IsTrue, IfErr, OnOk, IsErrOf, refl, sym, ◌∙◌, ap, subst, arith, ◌≢◌, Result, Ok, Err, Some, None, IfOk, ⊤, staged_from, run_makes, Invariant, sizes_of, LeavesEither, LeavesTable, listing_of, log_reads_by, Matches, Engine, CarriesOut, CarriesUntold, DoesLine, HandsReply, TellsAnswer, LinePerforms, LineStepsMachine, halted, AnswerFailsBy, IsAsked, StandsFor, line_checkpoints, line_log_reads, step, LeavesAnswer, hands_as, RunFaults, HandsLines, TellsText, Halt, cache_of, rules, CallsForUnits, Line, is_cache, State, Outcome, CacheOp, line_touches, CacheLine, Command, Reply, Listing, MirrorsStore, PerformsStore, AreNext, TransactionStore, performs_answered, performs_as, performs_nothing, line_work, Performs, reply_lines, reply_text, each_both, each_weaker, goes_in_sequence, goes_nowhere, holds_now, in_sequence, leaves_weaker, rose_since, stays_honest, stays_quiet, ok_always, Rose, faults_in, with_output_fault, WorkFaults, EachMoment, LeavesOnly, Site, Image, Moment, Snapshot, IsQuiet, TellsPart, Geometry, Dev, Log, Failed, Stop, Device, Memory, Worn, Foreign}
use Rattle.record_model.specs.declared.words.Command.TheVariants.{Cache, Mark, Quit, Stat}
use Rattle.engine.specs.Calls.{CommandContract, KeepsEngine}
use Rattle.face.proofs.CommandLaws.{fails_by}
use Rattle.face.proofs.Counted.{counts_as, counts_err, counts_idle, counts_told}
use Rattle.face.proofs.Listed.{cache_line, same_step}
use Rattle.face.proofs.Logs.{fits_stands, goes_on, still_fits}
use Rattle.face.proofs.NextUnits.{next_later}
use Rattle.face.proofs.Pagings.{after_same, reads_still}
use Rattle.face.proofs.Quiet.{is_told, no_change, not_told, says_nothing}
use Rattle.face.proofs.WornRuns.{cache_work, mark_work, neither, quit_work, stat_work}
use Rattle.face.proofs.Writings.{last_told, staged_nothing, told_synced, writes_nothing, writes_told}
use Rattle.front_end.specs.declared.halt.Halt.TheVariants as halt

quiet_always : {T : Type 0} (result : Result T Halt) (P : Type 0) → P → IfErr result (λ h. ((d : Dev) → h ≢ halt.Stop (Device d)) → P)
quiet_always (Ok x) P p = tt
quiet_always (Err h) P p = λ other. p

-- A command of the database.

-- the call that it names has failed
pub stop_faults : (A B : Type 0) (stop : Stop) (old new : Site) → WorkFaults {T = A} (Err stop) old new → RunFaults {T = B} (Err (halt.Stop stop)) old new
stop_faults A B (Device dev) old new is = is
stop_faults A B Memory old new is = is
stop_faults A B (Worn dev) old new is = is
stop_faults A B Foreign old new is = is

module _ (command : Command) (old new : Engine) (before now : Site) where
  -- it answers what the model answers, and does its work; a crash meanwhile leaves P
  pub record Answers (P : State → Snapshot → Type 0) (result : Result Reply Stop) : Type 0 where
    pub keeps : KeepsEngine result old new before now
    pub log_reads : (s : State) → Matches old before s → now.log_reads ≤ before.log_reads + log_reads_by s command
    pub answers : (s : State) → Matches old before s → CommandContract result old new before now s (step s (Some command) []) (line_touches s (Some command)) (P s) (line_checkpoints s (Some command))
    pub performs : (s : State) → Matches old before s → PerformsStore result (line_work s (Some command)) old.store new.store before now

  module _ (plain : is_cache (Some command) ≡ false) (P : State → Snapshot → Type 0) (left : (s : State) (snapshot : Snapshot) → P s snapshot → LeavesEither (sizes_of old.store) s (step s (Some command) []).after before.told snapshot) where
    does : (result : Result Reply Stop) → Answers P result → (s : State) → Matches old before s → DoesLine (halted result) s (Some command) old new before now
    does (Ok x) c s fits =
        let a = c.answers s fits in
        record {
          fits = a.does.after_fits;
          asks = record { machine = a.asks.machine; reads = a.asks.reads; log_reads = c.log_reads s fits; writes = a.asks.stages.writes; last = staged_from (Ok x) (line_touches s (Some command)) old.store.pages new.store.pages before now a.asks; rules_are = a.asks.rules_are };
          performs = record { done = performs_answered (c.performs s fits); worn = λ m is dev says. absurd cc };
          numbers = λ quiet. counts_as x (Ok x) old new before now s _ _ (a.does.numbers quiet);
          quiet = λ quiet. tt;
        }
    does (Err stop) c s fits =
        let a = c.answers s fits in
        record {
          fits = tt;
          asks = record { machine = tt; reads = a.asks.reads; log_reads = c.log_reads s fits; writes = a.asks.stages.writes; last = λ has quiet. tt; rules_are = a.asks.rules_are };
          performs = record { done = tt; worn = λ m is dev says. (c.performs s fits).worn m is dev (again dev says) };
          numbers = λ quiet. counts_err stop (halt.Stop stop) old new before now s _ _ (a.does.numbers quiet);
          quiet = λ quiet other. a.does.quiet quiet (λ d is. other d (ap halt.Stop is));
        }
      where
        again : (dev : Dev) → IsErrOf {T = Reply} (Err (halt.Stop stop)) (halt.Stop (Worn dev)) → IsErrOf {T = Reply} (Err stop) (Worn dev)
        again dev says = cc

    course : (result : Result Reply Stop) → Answers P result → CarriesOut (halted result) (Some command) old new before now
    course (Ok x) c = record {
      does = does (Ok x) c;
      left = c.keeps.calls.left;
      stays_quiet = c.keeps.calls.stays_quiet;
      going = c.keeps.going;
      cause = tt;
      next = λ honest is. (c.keeps.next honest).next is;
      preserves = c.keeps.calls.preserves;
      sizes = c.keeps.sizes;
      faults = c.keeps.calls.faults;
    }
    course (Err stop) c = record {
      does = does (Err stop) c;
      left = c.keeps.calls.left;
      stays_quiet = λ honest quiet. tt;
      going = tt;
      cause = fails_by (Err stop) old before now c.keeps.stops c.keeps.next c.keeps.calls.device (λ s fits. (c.answers s fits).does.worn_log) (λ s fits. (c.answers s fits).does.worn) (λ is s fits. (c.answers s fits).does.readable is);
      next = λ honest is. tt;
      preserves = c.keeps.calls.preserves;
      sizes = c.keeps.sizes;
      faults = stop_faults Reply Reply stop before now c.keeps.calls.faults;
    }

    replies : (result : Result Reply Stop) → Answers P result → (s : State) (listing : List CacheLine) → Matches old before s → IfOk (halted result) (λ reply. reply ≡ (step s (Some command) listing).reply)
    replies (Ok x) c s listing fits = (c.answers s fits).reply ∙ ap (λ (o : Outcome). o.reply) (sym (same_step s (Some command) listing plain))
    replies (Err stop) c s listing fits = tt

    carried : (line : Line) → line ≡ Some command → (result : Result Reply Stop) → Answers P result → CarriesUntold (halted result) line old new before now
    carried line is result c = subst (λ (l : Line). CarriesUntold (halted result) l old new before now) (sym is) (record {
      course = course result c;
      reply = λ s listing asked fits. replies result c s listing fits;
      any_moment = λ s fits quiet. leaves_weaker before now (P s) (LeavesEither (sizes_of old.store) s (step s (Some command) []).after before.told) (left s) ((c.answers s fits).does.any_moment quiet);
    })

-- one that commits nothing, and one that may commit
pub keeps_table : (command : Command) → is_cache (Some command) ≡ false → (line : Line) → line ≡ Some command → (result : Result Reply Stop) (old new : Engine) (before now : Site) → Answers command old new before now (λ s. LeavesTable (sizes_of old.store) s.table s.commits before.told) result → CarriesUntold (halted result) line old new before now
keeps_table command plain line is result old new before now c =
    carried command old new before now plain (λ s. LeavesTable (sizes_of old.store) s.table s.commits before.told) (λ s snapshot t. record { told = t.told; stands = inl t.stands }) line is result c

pub may_commit : (command : Command) → is_cache (Some command) ≡ false → (line : Line) → line ≡ Some command → (result : Result Reply Stop) (old new : Engine) (before now : Site) → Answers command old new before now (λ s. LeavesEither (sizes_of old.store) s (step s (Some command) []).after before.told) result → CarriesUntold (halted result) line old new before now
may_commit command plain line is result old new before now c =
    carried command old new before now plain (λ s. LeavesEither (sizes_of old.store) s (step s (Some command) []).after before.told) (λ s snapshot e. e) line is result c

-- A line that asks for nothing. The record table stays as it is.
pub record IsIdle (line : Line) : Type 0 where
  pub touches : (s : State) → line_touches s line ≡ []
  pub work : (s : State) → line_work s line ≡ []
  pub checkpoints : (s : State) → line_checkpoints s line ≡ 0
  pub made : (s : State) → s.made ≤ (step s line []).after.made

pub mark_idles : (n : ℕ) → IsIdle (Some (Mark n))
mark_idles n = grind (arith, neither, mark_work, run_makes)

module _ (line : Line) (idle : IsIdle line) (old new : Engine) (site : Site) (same : new.store ≡ old.store) (going : Invariant old site) (goes : Invariant new site) (fits_after : (s : State) → Matches old site s → Matches new site (step s line []).after) where
  does_nothing : {T : Type 0} (h : Result T Halt) → ((dev : Dev) → IsErrOf h (halt.Stop (Worn dev)) → ⊥) → (s : State) → Matches old site s → DoesLine h s line old new site site
  does_nothing h never s fits = record {
    fits = ok_always h _ (fits_after s fits);
    asks = subst (λ (t : TransactionStore). LineStepsMachine h (line_touches s line) (line_log_reads s line) old.store.pages t.pages site site) (sym same)
        (subst (λ (w : List CacheOp). LineStepsMachine h w (line_log_reads s line) old.store.pages old.store.pages site site) (sym (idle.touches s)) (record {
          machine = ok_always h _ refl;
          reads = record { flash = omega arith; disk = omega arith };
          log_reads = omega arith;
          writes = λ has quiet. writes_nothing old.store.pages site has quiet;
          last = λ has quiet. ok_always h _ (staged_nothing old.store.pages.flash.geometry (rules old.store.pages) (cache_of old.store.pages) site);
          rules_are = refl;
        }));
    performs = subst (λ (t : TransactionStore). LinePerforms h (line_work s line) old.store t site site) (sym same) (record {
      done = ok_always h _ (performs_as (idle.work s) (performs_nothing (λ m is. is) (λ dev says. absurd cc)));
      worn = λ m is dev says. absurd (never dev says);
    });
    numbers = λ quiet. counts_idle h line old new site s same fits going quiet (idle.made s) (idle.checkpoints s);
    quiet = λ quiet. quiet_always h (IsQuiet site) quiet;
  }

  nothing_carried : (r : Result Reply Stop) → IfErr r (λ stop. stop ≡ Memory) → CarriesOut (halted r) line old new site site
  nothing_carried (Ok x) memory = record {
    does = does_nothing (Ok x) (λ dev says. cc);
    left = λ honest. refl;
    stays_quiet = λ honest quiet. quiet;
    going = goes;
    cause = tt;
    next = λ honest is. subst (λ (t : TransactionStore). AreNext t site) (sym same) is;
    preserves = goes_nowhere site;
    sizes = ap sizes_of same;
    faults = refl;
  }
  nothing_carried (Err stop) memory = subst (λ (e : Stop). CarriesOut {T = Reply} (Err (halt.Stop e)) line old new site site) (sym memory) (record {
    does = does_nothing (Err (halt.Stop Memory)) (λ dev says. cc);
    left = λ honest. refl;
    stays_quiet = λ honest quiet. tt;
    going = tt;
    cause = tt;
    next = λ honest is. tt;
    preserves = goes_nowhere site;
    sizes = ap sizes_of same;
    faults = refl;
  })

  carries_nothing : (result : Result Reply Stop) → IfErr result (λ stop. stop ≡ Memory) →
      ((s : State) (listing : List CacheLine) → IsAsked line (listing_of old) listing → Matches old site s → IfOk (halted result) (λ reply. reply ≡ (step s line listing).reply)) → CarriesUntold (halted result) line old new site site
  carries_nothing result stops reply = record {
    course = nothing_carried result stops;
    reply = reply;
    any_moment = λ s fits quiet. no_change (sizes_of old.store) site s _ quiet (fits_stands old site s going.store.both.sizes fits);
  }

-- a session's mark is set
pub carries_mark : (line : Line) (n : ℕ) → line ≡ Some (Mark n) → (reply : Reply) (old new : Engine) (site : Site) → new.store ≡ old.store → Invariant old site → Invariant new site →
    ((s : State) → Matches old site s → (reply ≡ (step s (Some (Mark n)) []).reply) × Matches new site (step s (Some (Mark n)) []).after) → CarriesUntold (Ok reply) line old new site site
carries_mark line n is reply old new site same going goes marks =
    subst (λ (l : Line). CarriesUntold (Ok reply) l old new site site) (sym is)
    (carries_nothing (Some (Mark n)) (mark_idles n) old new site same going goes (λ s fits. (marks s fits).1) (Ok reply) tt
    (λ s listing asked fits. (marks s fits).0 ∙ ap (λ (o : Outcome). o.reply) (sym (same_step s (Some (Mark n)) listing refl))))

-- A line that changes nothing, and asks for nothing.
pub record IsStill (line : Line) : Type 0 where
  pub after : (s : State) → (step s line []).after ≡ s
  pub idle : IsIdle line

stays_still : (line : Line) → ((s : State) → (step s line []).after ≡ s) → ((s : State) → line_touches s line ≡ []) → ((s : State) → line_work s line ≡ []) → ((s : State) → line_checkpoints s line ≡ 0) → IsStill line
stays_still line after touches work checkpoints = grind arith

pub none_idles : IsStill None
none_idles = stays_still None (λ s. refl) (λ s. refl) (λ s. refl) (λ s. refl)

pub stat_idles : IsStill (Some Stat)
stat_idles = stays_still (Some Stat) (λ s. refl) (λ s. refl) stat_work (λ s. refl)

pub quit_idles : IsStill (Some Quit)
quit_idles = stays_still (Some Quit) (λ s. refl) (λ s. refl) quit_work (λ s. refl)

pub cache_idles : IsStill (Some Cache)
cache_idles = stays_still (Some Cache) (λ s. refl) (λ s. refl) cache_work (λ s. refl)

pub carries_idle : (line other : Line) → line ≡ other → IsStill other → (result : Result Reply Stop) (engine : Engine) (site : Site) → Invariant engine site → IfErr result (λ stop. stop ≡ Memory) →
    ((s : State) (listing : List CacheLine) → IsAsked line (listing_of engine) listing → Matches engine site s → IfOk (halted result) (λ reply. reply ≡ (step s line listing).reply)) → CarriesUntold (halted result) line engine engine site site
carries_idle line other is idles result engine site going stops reply =
    let stays = subst IsStill (sym is) idles in
    carries_nothing line stays.idle engine engine site refl going going (λ s fits. subst (Matches engine site) (sym (stays.after s)) fits) result stops reply

-- the listing of the cache, which may want memory
pub listing_is : (line : Line) → is_cache line ≡ true → (result : Result Reply Stop) (engine : Engine) (s : State) (listing : List CacheLine) → IsAsked line (listing_of engine) listing → IfOk result (λ reply. reply ≡ Listing (listing_of engine)) → IfOk (halted result) (λ reply. reply ≡ (step s line listing).reply)
listing_is line asks x2 engine s listing asked is = grind (arith, cache_line)

-- What it answers is told.

-- an error of the line is one of its answer
pub carries_err : {A B : Type 0} (h : Halt) (line : Line) (a b : Engine) (old new : Site) → CarriesOut {T = A} (Err h) line a b old new → CarriesOut {T = B} (Err h) line a b old new
carries_err {A} {B} h line a b old new c = record {
  does = λ s fits. let d = c.does s fits in record {
    fits = tt;
    asks = record { machine = tt; reads = d.asks.reads; log_reads = d.asks.log_reads; writes = d.asks.writes; last = λ has quiet. tt; rules_are = d.asks.rules_are };
    performs = record { done = tt; worn = λ m is dev says. d.performs.worn m is dev (again dev says) };
    numbers = λ quiet. counts_err h h a b old new s _ _ (d.numbers quiet);
    quiet = d.quiet;
  };
  left = c.left;
  stays_quiet = λ honest quiet. tt;
  going = tt;
  cause = c.cause;
  next = λ honest is. tt;
  preserves = c.preserves;
  sizes = c.sizes;
  faults = c.faults;
}
  where
    again : (dev : Dev) → IsErrOf {T = B} (Err h) (halt.Stop (Worn dev)) → IsErrOf {T = A} (Err h) (halt.Stop (Worn dev))
    again dev says = cc

module _ {A : Type 0} (reply : A) (line : Line) (a b : Engine) (old mid new : Site) (c : CarriesOut {T = A} (Ok reply) line a b old mid) {N : Type 0} {piece : List ℕ} {told : Result N Failed} (tells : TellsText piece mid new told) where
  -- what is told changes nothing
  module _ {B : Type 0} (result : Result B Halt) (never : (dev : Dev) → IsErrOf result (halt.Stop (Worn dev)) → ⊥) (cause : IfErr result (λ h. AnswerFailsBy h a old new)) (calls : IsTrue mid.honest → OnOk result (CallsForUnits (sizes_of a.store) mid new)) (faults : RunFaults result old new) where
    still : IsTrue old.honest → IsTrue mid.honest
    still honest = stays_honest old mid c.preserves honest

    carries_told : CarriesOut result line a b old new
    carries_told = record {
      does = λ s fits.
          let d = c.does s fits in
          let honest = still fits.honest in
          let same = tells.devices honest in
          let each = tells.any_moment honest in
          record {
            fits = ok_always result _ (still_fits b mid new _ d.fits tells.preserves same.image);
            asks = record {
              machine = ok_always result _ d.asks.machine;
              reads = reads_still (rules a.store.pages) (line_touches s line) (cache_of a.store.pages) old mid new tells.reads d.asks.reads;
              log_reads = let read = d.asks.log_reads in let none : new.log_reads ≡ mid.log_reads = tells.reads Log in omega (arith, read, none);
              writes = λ has quiet. writes_told a.store.pages.flash.geometry (rules a.store.pages) (line_touches s line) (cache_of a.store.pages) piece old mid new (d.asks.writes has quiet) each;
              last = λ has quiet. ok_always result _ (last_told a.store.pages.flash.geometry (rules a.store.pages) (line_touches s line) (cache_of a.store.pages) piece old mid new (d.asks.writes has quiet).grown each (told_synced piece mid new (c.stays_quiet fits.honest quiet) each) (d.asks.last has quiet));
              rules_are = d.asks.rules_are;
            };
            performs = record {
              done = ok_always result _ (subst (λ (i : Image). Performs {T = ⊤} (Ok tt) (rules a.store.pages) (line_work s line) (MirrorsStore a.store old.image) (MirrorsStore b.store i)) (sym same.image) d.performs.done);
              worn = λ m is dev says. absurd (never dev says);
            };
            numbers = λ quiet. counts_told reply result a b piece old mid new s _ _ each (calls honest) (d.numbers quiet);
            quiet = λ quiet. quiet_always result (IsQuiet new) (stays_quiet mid new same (c.stays_quiet fits.honest quiet));
          };
      left = λ honest. (tells.devices (still honest)).left ∙ c.left honest;
      stays_quiet = λ honest quiet. ok_always result _ (stays_quiet mid new (tells.devices (still honest)) (c.stays_quiet honest quiet));
      going = ok_always result _ (goes_on b mid new c.going tells.preserves);
      cause = cause;
      next = λ honest is. ok_always result _ (next_later b.store mid new (tells.devices (still honest)).image (c.next honest is));
      preserves = goes_in_sequence old mid new c.preserves tells.preserves;
      sizes = c.sizes;
      faults = faults;
    }

  -- all of it, or a front
  pub all_told : {B : Type 0} (x : B) → (IsTrue mid.honest → CallsForUnits (sizes_of a.store) mid new) → faults_in new ≡ faults_in mid → CarriesOut {T = B} (Ok x) line a b old new
  all_told x calls same = carries_told (Ok x) (λ dev says. cc) tt calls (same ∙ c.faults)

  pub not_all_told : {B : Type 0} → faults_in new ≡ with_output_fault (faults_in mid) → Rose mid.output_faults new.output_faults → CarriesOut {T = B} (Err halt.Output) line a b old new
  not_all_told {B} same rose = carries_told {B = B} (Err halt.Output) (λ dev says. cc) (rose_since old.output_faults mid.output_faults new.output_faults c.preserves.output_faults rose) (λ honest. tt) (same ∙ ap with_output_fault c.faults)

-- What its reply tells.
module _ (line : Line) (a b : Engine) (old mid : Site) (result : Result Reply Halt) (c : CarriesUntold result line a b old mid) (s : State) (listing : List CacheLine) (fits : Matches a old s) (quiet : IsQuiet old) where
  abbrev next : Outcome
  next = step s line listing

  moments : LeavesOnly old mid (LeavesEither (sizes_of a.store) s next.after old.told)
  moments = subst (λ (x : State). LeavesOnly old mid (LeavesEither (sizes_of a.store) s x old.told)) (after_same s line [] listing) (c.any_moment s fits quiet)

  untold : mid.told ≡ old.told
  untold = (holds_now old mid (LeavesEither (sizes_of a.store) s next.after old.told) moments).told

  -- nothing is being told meanwhile
  pub hands_nothing : {lines : List (List ℕ)} → EachMoment old mid (HandsReply line a b lines old)
  hands_nothing {lines} = each_weaker old mid (λ m. m.telling ≡ []) (HandsReply line a b lines old) (λ (m : Moment) none. inl none) (says_nothing old.told (LeavesEither (sizes_of a.store) s next.after old.told) (λ x e. e.told) old mid moments)

  -- nothing: it has failed
  pub tells_nothing : {B : Type 0} (h : Halt) → TellsAnswer {T = B} (Err h) (sizes_of a.store) s next old mid
  tells_nothing h = record { any_moment = not_told (sizes_of a.store) old mid s next.after (reply_text next.reply) moments; told = tt; untold = λ ne. untold }

-- all of it, or a front
module _ (line : Line) (a b : Engine) (old mid new : Site) (reply : Reply) (c : CarriesUntold (Ok reply) line a b old mid) {N : Type 0} {told : Result N Failed} (tells : TellsText (reply_text reply) mid new told) (s : State) (listing : List CacheLine) (asked : IsAsked line (listing_of a) listing) (fits : Matches a old s) (quiet : IsQuiet old) where
  text : reply_text reply ≡ reply_text (step s line listing).reply
  text = ap reply_text (c.reply s listing asked fits)

  honest : IsTrue mid.honest
  honest = stays_honest old mid c.preserves fits.honest

  some_told : LeavesOnly old new (LeavesAnswer (sizes_of a.store) s (step s line listing).after (reply_text (step s line listing).reply) old.told)
  some_told =
      let after = (step s line listing).after in
      let there = subst (Matches b mid) (after_same s line [] listing) (c.does s fits).fits in
      is_told (sizes_of a.store) old mid new s after (reply_text (step s line listing).reply) (moments line a b old mid (Ok reply) c s listing fits quiet) (c.stays_quiet fits.honest quiet)
      (subst (λ (x : Geometry). StandsFor x mid.image after) c.sizes (fits_stands b mid after c.going.store.both.sizes there))
      (subst (λ (t : List ℕ). EachMoment mid new (TellsPart t mid)) text (tells.any_moment honest))

  pub hands_carried : (IsTrue mid.honest → EachMoment mid new (HandsLines (reply_lines reply) mid.told)) → EachMoment old new (HandsReply line a b (reply_lines (step s line listing).reply) old)
  hands_carried hands =
      let lines = reply_lines (step s line listing).reply in
      let is : reply_lines reply ≡ lines = ap reply_lines (c.reply s listing asked fits) in
      let same = untold line a b old mid (Ok reply) c s listing fits quiet in
      let first : EachMoment old mid (HandsReply line a b lines old) = hands_nothing line a b old mid (Ok reply) c s listing fits quiet in
      in_sequence old mid new (HandsReply line a b lines old) first
      (each_weaker mid new (λ m. TellsPart (reply_text reply) mid m × HandsLines (reply_lines reply) mid.told m) (HandsReply line a b lines old)
      (λ (m : Moment) both. ⊎_elim (λ none. inl none) (λ w. inr (record {
        told = hands_as m is same w;
        reply = reply;
        mid = mid;
        course = c.course;
        image = both.0.image;
      })) both.1) (each_both mid new (TellsPart (reply_text reply) mid) (HandsLines (reply_lines reply) mid.told) (tells.any_moment honest) (hands honest)))

  pub tells_all_of_it : {B : Type 0} (x : B) → new.told ≡ mid.told ++ reply_text reply → TellsAnswer {T = B} (Ok x) (sizes_of a.store) s (step s line listing) old new
  tells_all_of_it x is = record { any_moment = some_told; told = is ∙ (λ i. untold line a b old mid (Ok reply) c s listing fits quiet i ++ text i); untold = tt }

  pub tells_front : {B : Type 0} → TellsAnswer {T = B} (Err halt.Output) (sizes_of a.store) s (step s line listing) old new
  tells_front = record { any_moment = some_told; told = tt; untold = λ ne. absurd (ne refl) }
