-- The lines that write a net are carried out.
use Rattle.std.proofs.Common.{◌≡◌, ◌⊎◌, inl, inr, ⊎_elim, ℕ, zero, suc, ◌+◌, ◌-◌, ◌*◌, ◌<◌, ◌≤◌, Bool, true, false, List, [], ◌∷◌, ◌++◌, length, map, take, drop, refl, sym, ◌∙◌, ap, subst, arith, append_assoc, append-nil, Ok, Err, Result, Some, None}
use Rattle.std.proofs.lemmas.Bool.{ltb-false}
use Rattle.std.specs.Prelude.{IfErr, nat_lt, slice_index_or, if◌then◌else◌}
use Rattle.site.specs.State.{State as Site, Snapshot, Image, now_of}
use Rattle.site.specs.Moments.{Leaves, LeavesOnly}
use Rattle.std.proofs.lemmas.List.{length-map, take_all, length-append}
use Rattle.site.proofs.Laws.{holds_now, image_is, in_sequence, leaves_weaker, no_call, told_is}
use Rattle.site.specs.declared.geometry.Geometry.{Geometry}
use Rattle.record_model.specs.State.{Content, State, Write, table_with}
use Rattle.record_model.specs.Run.{Line, is_quit}
use Rattle.record_model.specs.declared.words.Command.{Command}
use Rattle.record_model.specs.declared.words.Command.TheVariants as command
use Rattle.record_model.specs.declared.words.Reply.{Reply}
use Rattle.net_lines.specs.Nets.{idle, line_writing, net_lines, session_lines, tight}
use Rattle.net_lines.proofs.Model.{kept_at_begin}
use Rattle.net_lines.proofs.Session.{IsAt, at_end, at_next, at_start, either_at}
use Rattle.engine.specs.declared.engine.Engine.{Engine}
use Rattle.engine.specs.Image.{Stands}
use Rattle.engine.specs.Leaves.{LeavesEither}
use Rattle.front_end.specs.declared.halt.Halt.{Halt}
use Rattle.face.specs.Carrying.{CarriesUntold}
use Rattle.face.specs.Run.{StandsFor, step}
use Rattle.archive_restore.specs.Writing.{AsksSome, FailsToWrite, HasCarried, HasFreed, HasWrittenNet, IsFree, LeavesNet}
use Rattle.archive_restore.proofs.Carried.{carried_asks, carried_leaves, carried_next, carried_quiet, carried_stands, failed_quiet}

-- the lines of a session don't quit
writes_on : (number : ℕ) (content : Content) (c : Command) → Some c ≡ line_writing number content → is_quit (Some c) ≡ false
writes_on number None c is = ap is_quit is
writes_on number (Some value) c is = ap is_quit is

none_quits : (net : List Write) (i : ℕ) (c : Command) → Some c ≡ slice_index_or (session_lines net) i None → is_quit (Some c) ≡ false
none_quits net zero c is = ap is_quit is
none_quits [] (suc zero) c is = ap is_quit is
none_quits [] (suc (suc i)) c is = let bad : Some c ≡ None = is in cc
none_quits (w ∷ net) (suc zero) c is = writes_on w.0 w.1 c is
none_quits (w ∷ net) (suc (suc i)) c is = none_quits net (suc i) c is

length_session : (net : List Write) → length (session_lines net) ≡ length net + 2
length_session net =
    let all = length-append (map (λ (w : Write). line_writing w.0 w.1) net) (Some (command.Commit 0) ∷ []) in
    let same = length-map net (λ (w : Write). line_writing w.0 w.1) in
    omega (arith, all, same)

-- a line more of some
take_line : (lines : List Line) (i : ℕ) (c : Command) → Some c ≡ slice_index_or lines i None → take (i + 1) lines ≡ take i lines ++ Some c ∷ []
take_line [] i c is = let bad : Some c ≡ None = is in cc
take_line (x ∷ lines) zero c is = ap (λ (l : Line). l ∷ []) (sym is)
take_line (x ∷ lines) (suc i) c is =
    let more : suc i + 1 ≡ suc (i + 1) = omega arith in
    ap (λ n. take n (x ∷ lines)) more ∙ ap (λ (l : List Line). x ∷ l) (take_line lines i c is)

-- it stands between those before it and those behind it
split_line : (lines : List Line) (i : ℕ) (c : Command) → Some c ≡ slice_index_or lines i None → lines ≡ take i lines ++ Some c ∷ drop (suc i) lines
split_line [] i c is = let bad : Some c ≡ None = is in cc
split_line (x ∷ lines) zero c is = ap (λ (l : Line). l ∷ lines) (sym is)
split_line (x ∷ lines) (suc i) c is = ap (λ (l : List Line). x ∷ l) (split_line lines i c is)

-- fewer lines at least
asks_weaker : (pool : ℕ) (g : Geometry) (least most : ℕ) (lines : List Line) (entry new : Site) (halt : Halt) → least ≤ most → AsksSome pool g most lines entry new halt → AsksSome pool g least lines entry new halt
asks_weaker pool g least most lines entry new halt less a = record { begun = a.begun; enough = (let enough = a.enough in omega (arith, less, enough)); few = a.few; earlier = a.earlier; demands = a.demands }

-- So many lines of the session were carried out.
pub record HasComeTo (pool : ℕ) (g : Geometry) (entry old now : Site) (engine : Engine) (lines : List Line) (table : List Content) (commits made kept cap : ℕ) (net : List Write) (place : ℕ) : Type 0 where
  pub s : State
  pub at : IsAt table commits made kept cap net place s
  pub carried : HasCarried pool g entry now engine (lines ++ take place (session_lines net)) s
  pub moments : LeavesOnly old now (LeavesNet g table commits net old.told)
  pub told : now.told ≡ old.told

module _ (pool : ℕ) (g : Geometry) (entry : Site) (lines : List Line) (table : List Content) (commits : ℕ) (net : List Write) where
  -- nothing was done yet
  pub still_there : (old : Site) (engine : Engine) (made kept cap : ℕ) → HasCarried pool g entry old engine lines (idle table commits made kept cap) → LeavesOnly old old (LeavesNet g table commits net old.told)
  still_there old engine made kept cap c = no_call old (Leaves (LeavesNet g table commits net old.told)) (λ snapshot left. record {
    told = told_is old snapshot left;
    stands = inl (subst (λ (x : Image). Stands g x table commits) (sym (image_is (now_of old) snapshot (carried_quiet pool g entry old engine lines _ c) left)) (carried_stands pool g entry old engine lines _ c));
  })

  module _ (made kept cap : ℕ) where
    pub come_first : (old : Site) (engine : Engine) → HasCarried pool g entry old engine lines (idle table commits made kept cap) → HasComeTo pool g entry old old engine lines table commits made kept cap net 0
    come_first old engine c = record {
      s = idle table commits made kept cap;
      at = at_start table commits made kept cap net;
      carried = subst (λ l. HasCarried pool g entry old engine l (idle table commits made kept cap)) (sym (append-nil lines)) c;
      moments = still_there old engine made kept cap c;
      told = refl;
    }

    module _ (old mid : Site) (engine : Engine) (place : ℕ) (h : HasComeTo pool g entry old mid engine lines table commits made kept cap net place) (free : IsFree table made kept cap net) (less : place < length net + 2) (c : Command) (is : Some c ≡ slice_index_or (session_lines net) place None) (engine' : Engine) (new : Site) where
      abbrev after : State
      after = (step h.s (Some c) []).after

      at_after : IsAt table commits made kept cap net (place + 1) after
      at_after = at_next table commits made kept cap net free.writable free.pages free.log place h.s c h.at less is

      stands_as : (snapshot : Snapshot) (s : State) → ((s.table ≡ table) × (s.commits ≡ commits)) ⊎ ((s.table ≡ table_with table net) × (s.commits ≡ commits + 1)) → StandsFor g snapshot.image s
          → Stands g snapshot.image table commits ⊎ Stands g snapshot.image (table_with table net) (commits + 1)
      stands_as snapshot s either stands = ⊎_elim
          (λ same. inl (subst (λ (n : ℕ). Stands g snapshot.image table n) same.1 (subst (λ (t : List Content). Stands g snapshot.image t s.commits) same.0 stands)))
          (λ more. inr (subst (λ (n : ℕ). Stands g snapshot.image (table_with table net) n) more.1 (subst (λ (t : List Content). Stands g snapshot.image t s.commits) more.0 stands))) either

      leaves : (result : Result Reply Halt) → CarriesUntold result (Some c) engine engine' mid new → LeavesOnly old new (LeavesNet g table commits net old.told)
      leaves result done = in_sequence old mid new (Leaves (LeavesNet g table commits net old.told)) h.moments
          (leaves_weaker mid new (LeavesEither g h.s after mid.told) (LeavesNet g table commits net old.told)
          (λ snapshot e. record {
            told = e.told ∙ h.told;
            stands = ⊎_elim (stands_as snapshot h.s (either_at table commits made kept cap net place h.s h.at)) (stands_as snapshot after (either_at table commits made kept cap net (place + 1) after at_after)) e.stands;
          }) (carried_leaves pool g entry mid engine _ h.s h.carried c engine' new result done))

      -- one line more
      pub come_next : (reply : Reply) → CarriesUntold (Ok reply) (Some c) engine engine' mid new → HasComeTo pool g entry old new engine' lines table commits made kept cap net (place + 1)
      come_next reply done = record {
        s = after;
        at = at_after;
        carried = subst (λ l. HasCarried pool g entry new engine' l after) (append_assoc lines (take place (session_lines net)) (Some c ∷ []) ∙ ap (λ l. lines ++ l) (sym (take_line (session_lines net) place c is)))
            (carried_next pool g entry mid engine _ h.s h.carried c engine' new (none_quits net place c is) reply done);
        moments = leaves (Ok reply) done;
        told = told_after;
      }
        where
          told_after : new.told ≡ old.told
          told_after = (holds_now mid new (LeavesEither g h.s after mid.told) (carried_leaves pool g entry mid engine _ h.s h.carried c engine' new (Ok reply) done)).told ∙ h.told

      pub come_fails : (halt : Halt) → CarriesUntold (Err halt) (Some c) engine engine' mid new → FailsToWrite pool g entry (length lines) (lines ++ session_lines net) table commits net old new halt
      come_fails halt done =
          let all = session_lines net in
          let rest = drop (suc place) all in
          let long = length-append lines (take place all) in
          record {
            asks = subst (λ (l : List Line). AsksSome pool g (length lines) l entry new halt) (append_assoc lines (take place all) (Some c ∷ rest) ∙ ap (λ (l : List Line). lines ++ l) (sym (split_line all place c is)))
                (carried_asks pool g entry mid engine (lines ++ take place all) h.s h.carried c engine' new rest halt (length lines) done (omega (arith, long)));
            moments = leaves (Err halt) done;
            quiet = failed_quiet pool g entry mid engine _ h.s h.carried c engine' new halt done;
          }

    -- all of them
    pub come_to_end : (old now : Site) (engine : Engine) (place : ℕ) → HasComeTo pool g entry old now engine lines table commits made kept cap net place → place ≡ length net + 2 → HasWrittenNet pool g entry old now engine (lines ++ session_lines net) table commits cap net
    come_to_end old now engine place h all =
        let at : IsAt table commits made kept cap net (length net + 2) h.s = subst (λ n. IsAt table commits made kept cap net n h.s) all h.at in
        let whole : take place (session_lines net) ≡ session_lines net = take_all place (session_lines net) (let long = length_session net in omega (arith, all, long)) in
        record {
          made = made + (length net + 2);
          kept = kept_at_begin table commits made kept cap;
          carried = subst (λ (s : State). HasCarried pool g entry now engine (lines ++ session_lines net) s) (at_end table commits made kept cap net h.s at) (subst (λ l. HasCarried pool g entry now engine (lines ++ l) h.s) whole h.carried);
          moments = h.moments;
        }

-- what is known of an error, by what was known of it
pub err_as : {T E : Type 0} (result : Result T E) (P Q : E → Type 0) → ((e : E) → P e → Q e) → IfErr result P → IfErr result Q
err_as (Ok x) P Q f h = tt
err_as (Err e) P Q f h = f e h

-- The log has room.

lt_room : (cap n : ℕ) → nat_lt cap n ≡ false → n ≤ cap
lt_room cap n is = ltb-false cap n is

-- the lines in front of a session, by whether a checkpoint comes first
abbrev pub first_of : Bool → List Line
first_of tight = if tight then Some command.Checkpoint ∷ [] else []

module _ (pool : ℕ) (g : Geometry) (entry old : Site) (engine : Engine) (lines : List Line) (table : List Content) (commits made kept cap : ℕ) (net : List Write) (c : HasCarried pool g entry old engine lines (idle table commits made kept cap)) (used_is : ℕ) (same : used_is ≡ made - kept) where
  -- it has room as it is
  pub freed_still : tight cap used_is net ≡ false → HasFreed pool g entry old old engine lines table commits made kept cap net
  freed_still none =
      let loose : tight cap (made - kept) net ≡ false = ap (λ n. tight cap n net) (sym same) ∙ none in
      record {
        later = kept;
        carried = subst (λ l. HasCarried pool g entry old engine (lines ++ l) (idle table commits made kept cap)) (sym (ap first_of loose)) (subst (λ l. HasCarried pool g entry old engine l (idle table commits made kept cap)) (sym (append-nil lines)) c);
        room = lt_room cap (made - kept + (2 * length net + 2)) loose;
        moments = still_there pool g entry lines table commits net old engine made kept cap c;
      }

  module _ (engine' : Engine) (new : Site) where
    abbrev leaves_both : Snapshot → Type 0
    leaves_both = LeavesEither g (idle table commits made kept cap) (idle table commits made made cap) old.told

    both : (snapshot : Snapshot) → leaves_both snapshot → LeavesNet g table commits net old.told snapshot
    both snapshot e = record { told = e.told; stands = inl (⊎_elim (λ x. x) (λ x. x) e.stands) }

    -- or by a checkpoint
    pub freed_by : tight cap used_is net ≡ true → 2 * length net + 2 ≤ cap → (reply : Reply) → CarriesUntold (Ok reply) (Some command.Checkpoint) engine engine' old new → HasFreed pool g entry old new engine' lines table commits made kept cap net
    freed_by full fits reply done =
        let wants : tight cap (made - kept) net ≡ true = ap (λ n. tight cap n net) (sym same) ∙ full in
        record {
          later = made;
          carried = subst (λ l. HasCarried pool g entry new engine' (lines ++ l) (idle table commits made made cap)) (sym (ap first_of wants)) (carried_next pool g entry old engine lines _ c command.Checkpoint engine' new refl reply done);
          room = omega (arith, fits);
          moments = leaves_weaker old new leaves_both (LeavesNet g table commits net old.told) both (carried_leaves pool g entry old engine lines _ c command.Checkpoint engine' new (Ok reply) done);
        }

    pub frees_not : tight cap used_is net ≡ true → (halt : Halt) → CarriesUntold (Err halt) (Some command.Checkpoint) engine engine' old new → FailsToWrite pool g entry (length lines) (lines ++ net_lines (idle table commits made kept cap) net) table commits net old new halt
    frees_not full halt done = record {
      asks =
          let wants : tight cap (made - kept) net ≡ true = ap (λ n. tight cap n net) (sym same) ∙ full in
          let are : net_lines (idle table commits made kept cap) net ≡ Some command.Checkpoint ∷ session_lines net = ap (λ (b : Bool). if b then Some command.Checkpoint ∷ session_lines net else session_lines net) wants in
          subst (λ (l : List Line). AsksSome pool g (length lines) (lines ++ l) entry new halt) (sym are)
          (carried_asks pool g entry old engine lines _ c command.Checkpoint engine' new (session_lines net) halt (length lines) done (omega arith));
      moments = leaves_weaker old new leaves_both (LeavesNet g table commits net old.told) both (carried_leaves pool g entry old engine lines _ c command.Checkpoint engine' new (Err halt) done);
      quiet = failed_quiet pool g entry old engine lines _ c command.Checkpoint engine' new halt done;
    }

-- Both, one behind the other.
module _ (pool : ℕ) (g : Geometry) (entry old mid : Site) (engine : Engine) (lines : List Line) (table : List Content) (commits made kept cap : ℕ) (net : List Write) (f : HasFreed pool g entry old mid engine lines table commits made kept cap net) where
  told_then : mid.told ≡ old.told
  told_then = (holds_now old mid (LeavesNet g table commits net old.told) f.moments).told

  moments_then : (new : Site) → LeavesOnly mid new (LeavesNet g table commits net mid.told) → LeavesOnly old new (LeavesNet g table commits net old.told)
  moments_then new moments = in_sequence old mid new (Leaves (LeavesNet g table commits net old.told)) f.moments (subst (λ t. LeavesOnly mid new (LeavesNet g table commits net t)) told_then moments)

  lines_then : (b : Bool) → (lines ++ first_of b) ++ session_lines net ≡ lines ++ (if b then Some command.Checkpoint ∷ session_lines net else session_lines net)
  lines_then true = append_assoc lines (Some command.Checkpoint ∷ []) (session_lines net)
  lines_then false = ap (λ l. l ++ session_lines net) (append-nil lines)

  pub both_written : (engine' : Engine) (new : Site) → HasWrittenNet pool g entry mid new engine' ((lines ++ first_of (tight cap (made - kept) net)) ++ session_lines net) table commits cap net
      → HasWrittenNet pool g entry old new engine' (lines ++ net_lines (idle table commits made kept cap) net) table commits cap net
  both_written engine' new w = record {
    made = w.made;
    kept = w.kept;
    carried = subst (λ l. HasCarried pool g entry new engine' l (idle (table_with table net) (commits + 1) w.made w.kept cap)) (lines_then (tight cap (made - kept) net)) w.carried;
    moments = moments_then new w.moments;
  }

  pub session_fails : (new : Site) (halt : Halt) → FailsToWrite pool g entry (length (lines ++ first_of (tight cap (made - kept) net))) ((lines ++ first_of (tight cap (made - kept) net)) ++ session_lines net) table commits net mid new halt
      → FailsToWrite pool g entry (length lines) (lines ++ net_lines (idle table commits made kept cap) net) table commits net old new halt
  session_fails new halt w =
      let front = first_of (tight cap (made - kept) net) in
      let long = length-append lines front in
      record {
        asks = subst (λ (l : List Line). AsksSome pool g (length lines) l entry new halt) (lines_then (tight cap (made - kept) net)) (asks_weaker pool g (length lines) (length (lines ++ front)) ((lines ++ front) ++ session_lines net) entry new halt (omega (arith, long)) w.asks);
        moments = moments_then new w.moments;
        quiet = w.quiet;
      }
