-- The lives of a script, one after the other.
use Rattle.std.proofs.lemmas.Grind.{common_steps}
use Rattle.face.proofs.Names.{◌≡◌, ◌≢◌, ◌⊎◌, inl, ⊎_elim, ℕ, zero, suc, ◌+◌, ◌-◌, ◌≤◌, ◌<◌, List, [], ◌∷◌, ◌++◌, length, take, drop, refl, sym, ◌∙◌, ap, subst, arith, add-one, append_assoc, length-append, take-append-drop, IsTrue, Option, Some, None, Result, Ok, Err, append-nil, take_all, take_at, OnErr, slice_get, slice_range, BlankLaw, Finds, HasLivedOne, Ends, IsGivenUp, IsHaltOfTrial, IsReady, KeepsDevices, IsFront, Between, HaveLived, IsCut, IsLife, IsLived, IsNewSite, IsStatus, Lives, TellsAll, TellsSome, TrialCauses, TrialContract, at_first, is_within, life_line, numbers_of, script_limit, ends_with, HearsOnly, Tells, fault_line, status_of, Halt, started, image_left, lives_of, state_of, IsFresh, limits_of, MemSite, calm, each_weaker, goes_in_sequence, goes_nowhere, in_sequence, no_call, now_same, rose_then, stays_honest, now_leaves, Preserves, Rose, SameReads, EachMoment, Input, Site, Image, MayLeave, no_loose, now_of, TellsPart, Geometry, Failed, Memory, lives_between, lives_in, stops_from}
use Rattle.workload.specs.declared.scripts.Life.{Life}
use Rattle.workload.specs.declared.scripts.StopLine.{StopLine}
use Rattle.face.proofs.Longer.{front_more}
use Rattle.front_end.specs.declared.halt.Halt.TheVariants as halt

-- How many lives a script has.

between_count : (start : ℕ) (stops : List StopLine) (end : ℕ) → length (lives_between start stops end) ≡ suc (length stops)
between_count start [] end = refl
between_count start (stop ∷ stops) end = ap suc (between_count stop.next stops end)

between_last : (start : ℕ) (stops : List StopLine) (end place : ℕ) (life : Life) → slice_get (lives_between start stops end) place ≡ Some life → life.stop ≡ None → place ≡ length stops
between_last start [] end zero life is none = grind arith
between_last start [] end (suc place) life is none = grind arith
between_last start (stop ∷ stops) end zero life is none = grind arith
between_last start (stop ∷ stops) end (suc place) life is none = grind (arith, (between_last stop.next stops end place life is none))

between_more : (start : ℕ) (stops : List StopLine) (end place : ℕ) (life : Life) (x : ℕ × ℕ) → slice_get (lives_between start stops end) place ≡ Some life → life.stop ≡ Some x → place < length stops
between_more start [] end zero life x is some = grind arith
between_more start [] end (suc place) life x is some = grind arith
between_more start (stop ∷ stops) end zero life x is some = grind arith
between_more start (stop ∷ stops) end (suc place) life x is some = grind (arith, (between_more stop.next stops end place life x is some))

module _ (script : List ℕ) where
  abbrev stops : List StopLine
  stops = take 31 (stops_from script 0)

  count : length (lives_in script) ≡ suc (length stops)
  count = between_count 0 stops (length script)

  pub some_lives : 0 < length (lives_in script)
  some_lives = let same = count in omega (arith, same)

  pub few_lives : length (lives_in script) ≤ 32
  few_lives = let same = count in let few = length-take-most 31 (stops_from script 0) in omega (arith, same, few)
    where
      length-take-most : (n : ℕ) (xs : List StopLine) → length (take n xs) ≤ n
      length-take-most zero xs = omega arith
      length-take-most (suc n) [] = omega arith
      length-take-most (suc n) (x ∷ xs) = let few = length-take-most n xs in omega (arith, few)

  pub last_life : (place : ℕ) (life : Life) → slice_get (lives_in script) place ≡ Some life → life.stop ≡ None → suc place ≡ length (lives_in script)
  last_life place life is none = ap suc (between_last 0 stops (length script) place life is none) ∙ sym count

  pub more_lives : (place : ℕ) (life : Life) (x : ℕ × ℕ) → slice_get (lives_in script) place ≡ Some life → life.stop ≡ Some x → suc place < length (lives_in script)
  more_lives place life x is some = let less = between_more 0 stops (length script) place life x is some in let same = count in omega (arith, less, same)

-- The devices of a site.

pub keeps_then : (a b c : Site) → KeepsDevices a b → KeepsDevices b c → KeepsDevices a c
keeps_then a b c first second = record {
  devices = λ honest. let one = first.devices honest in in_sequence a b c (λ m. (m.image ≡ a.image) × (m.loose ≡ a.loose)) one
      (each_weaker b c (λ m. (m.image ≡ b.image) × (m.loose ≡ b.loose)) (λ m. (m.image ≡ a.image) × (m.loose ≡ a.loose)) (λ m same. (same.0 ∙ one.now.0, same.1 ∙ one.now.1)) (second.devices (stays_honest a b first.preserves honest)));
  reads = λ dev. second.reads dev ∙ first.reads dev;
  preserves = goes_in_sequence a b c first.preserves second.preserves;
}

pub keeps_told : (piece : List ℕ) (a b : Site) → (IsTrue a.honest → EachMoment a b (TellsPart piece a)) → SameReads a b → Preserves a b → KeepsDevices a b
keeps_told piece a b tells reads goes = record {
  devices = λ honest. each_weaker a b (TellsPart piece a) (λ m. (m.image ≡ a.image) × (m.loose ≡ a.loose)) (λ m part. (part.image, part.loose)) (tells honest);
  reads = reads;
  preserves = goes;
}

pub keeps_heard : (a b : Site) → (IsTrue a.honest → HearsOnly a b) → SameReads a b → Preserves a b → KeepsDevices a b
keeps_heard a b hears reads goes = grind (arith, common_steps, calm, no_call, now_same)

pub keeps_still : (a : Site) → KeepsDevices a a
keeps_still a = record { devices = λ honest. no_call a (λ m. (m.image ≡ a.image) × (m.loose ≡ a.loose)) (refl, refl); reads = λ dev. refl; preserves = goes_nowhere a }

-- Fronts.

pub front_behind : (before rest all : List ℕ) → IsFront rest all → IsFront (before ++ rest) (before ++ all)
front_behind before rest all front =
    let parted : all ≡ rest ++ drop front.0 all = sym (take-append-drop front.0 all) ∙ ap (λ (l : List ℕ). l ++ drop front.0 all) (sym front.1) in
    let whole : before ++ all ≡ (before ++ rest) ++ drop front.0 all = ap (λ (l : List ℕ). before ++ l) parted ∙ sym (append_assoc before rest (drop front.0 all)) in
    (length (before ++ rest), sym (ap (take (length (before ++ rest))) whole ∙ take_at (before ++ rest) (drop front.0 all) (length (before ++ rest)) refl))

-- what was told in part, of a piece and of a line behind it
pub told_part : (old mid new : Site) (piece line : List ℕ) → mid.told ≡ old.told ++ piece → EachMoment mid new (TellsPart line mid) → (rest : List ℕ) × (new.told ≡ old.told ++ rest) × IsFront rest (piece ++ line)
told_part old mid new piece line is tells =
    let part = tells.now.told 0 in
    (piece ++ take part.0 line, sym (append-nil new.told) ∙ part.1 ∙ ap (λ (l : List ℕ). l ++ take part.0 line) is ∙ append_assoc old.told piece (take part.0 line), front_behind piece (take part.0 line) line (part.0, refl))

pub told_first_part : (old new : Site) (piece line : List ℕ) → EachMoment old new (TellsPart piece old) → (rest : List ℕ) × (new.told ≡ old.told ++ rest) × IsFront rest (piece ++ line)
told_first_part old new piece line tells =
    let part = tells.now.told 0 in
    (take part.0 piece, sym (append-nil new.told) ∙ part.1, front_more (take part.0 piece) piece line (part.0, refl))

pub on_err : {T E : Type 0} (P : Type 0) (r : Result T E) → P → OnErr r P
on_err P (Ok x) p = tt
on_err P (Err e) p = p

-- One life more.

-- What stands behind a life that is over, where this is what it leaves.
pub record Behind (g : Geometry) (pool number : ℕ) (octets : List ℕ) (stop : Option (ℕ × ℕ)) (before : Between) (site : Site) (status changes : ℕ) (image : Image) : Type 0 where
  pub after : Between
  pub life : IsLife g pool number octets stop before after
  pub over : life.over ≡ site
  pub found : after.image ≡ image
  pub told : after.told ≡ before.told ++ (site.told ++ life_line number status)
  pub counted : after.changes ≡ before.changes ++ changes ∷ []
  pub finds : (site : Site) → IsTrue site.honest → site.loose ≡ no_loose → site.image ≡ image → Finds g after.table after.commits site

pub behind : (g : Geometry) (pool number : ℕ) (octets : List ℕ) (stop : Option (ℕ × ℕ)) (before : Between) (status changes : ℕ) (site : Site) (image : Image) → HasLivedOne g before octets status site → IsLived pool octets stop before status site →
    IsStatus (is_within stop changes) status → MayLeave (now_of site) (record { told = site.told; image = image }) → Behind g pool number octets stop before site status changes image
behind g pool number octets stop before status changes site image lived ran is_status may =
    let found = lived.left image may in
    record {
      after = record { told = before.told ++ (site.told ++ life_line number status); changes = before.changes ++ changes ∷ []; image = image; table = found.table; commits = found.commits };
      over = refl;
      found = refl;
      life = record { listings = lived.listings; status = status; over = site; lived = ran; text = site.told; text_is = refl; is_text = lived.is_text; told = refl; changes = changes; is_status = is_status; counted = refl; goes_on = found.goes_on };
      told = refl;
      counted = refl;
      finds = found.finds;
    }

-- So many lives were told, and the next one may begin on the site in memory.
pub record Reached (g : Geometry) (pool : ℕ) (script : List ℕ) (lives : ℕ) (old now : Site) (inner : MemSite) : Type 0 where
  pub before : Between
  pub lived : HaveLived g pool script lives before
  pub ready : IsReady g before inner
  pub numbers : lives_of inner ≡ before.changes
  pub count : length before.changes ≡ lives
  pub told : now.told ≡ old.told ++ before.told

pub none_yet : BlankLaw → (g : Geometry) (pool : ℕ) (script : List ℕ) (old : Site) (inner : MemSite) → IsNewSite g inner → Reached g pool script 0 old old inner
none_yet blank g pool script old inner new = grind (arith, count, append-nil)

-- the site of the life that is over, and how it ended
module _ (g : Geometry) (pool : ℕ) (script : List ℕ) (place : ℕ) (old mid : Site) (inner lived : MemSite) (r : Reached g pool script place old mid inner) (numbers : lives_of lived ≡ lives_of inner) where
  module _ (life : Life) (is_life : slice_get (lives_in script) place ≡ Some life) (status : ℕ) (one : HasLivedOne g r.before (slice_range script life.start life.end) status (state_of lived)) (ran : IsLived pool (slice_range script life.start life.end) life.stop r.before status (state_of lived)) (is_status : IsStatus (is_within life.stop (limits_of lived).changes) status) where
    abbrev text : List ℕ
    text = (state_of lived).told

    abbrev changes : ℕ
    changes = (limits_of lived).changes

    here : Behind g pool (place + 1) (slice_range script life.start life.end) life.stop r.before (state_of lived) status changes (state_of lived).image
    here = behind g pool (place + 1) (slice_range script life.start life.end) life.stop r.before status changes (state_of lived) (state_of lived).image one ran is_status (now_leaves (state_of lived))

    pub told_in_part : (new : Site) (rest : List ℕ) → new.told ≡ mid.told ++ rest → IsFront rest (text ++ life_line (place + 1) status) → TellsSome g pool script old new (numbers_of lived)
    told_in_part new rest told front = record {
      lives = place;
      before = r.before;
      lived = r.lived;
      after = here.after;
      next = (life, is_life, here.life);
      rest = rest;
      told = told ∙ ap (λ (l : List ℕ). l ++ rest) r.told ∙ append_assoc old.told r.before.told rest;
      front = subst (IsFront (r.before.told ++ rest)) (sym here.told) (front_behind r.before.told rest _ front);
      numbers_are = ap (λ (l : List ℕ). l ++ changes ∷ []) (numbers ∙ r.numbers) ∙ sym here.counted;
    }

    pub told_last : (new : Site) → new.told ≡ mid.told ++ (text ++ life_line (place + 1) status) → life.stop ≡ None → TellsAll g pool script old new (numbers_of lived)
    told_last new told none = record {
      last = here.after;
      lived = subst (λ (n : ℕ). HaveLived g pool script n here.after) (last_life script place life is_life none) (r.before, r.lived, (life, is_life, here.life), subst (λ (o : Option (ℕ × ℕ)). IsCut o here.life.over here.after.image) (sym none) tt);
      told = told ∙ ap (λ (l : List ℕ). l ++ (text ++ life_line (place + 1) status)) r.told ∙ append_assoc old.told r.before.told _ ∙ ap (λ (l : List ℕ). old.told ++ l) (sym here.told);
      numbers_are = ap (λ (l : List ℕ). l ++ changes ∷ []) (numbers ∙ r.numbers) ∙ sym here.counted;
    }

    module _ (stop : ℕ × ℕ) (some : life.stop ≡ Some stop) (cut : MemSite)
        (state : state_of cut ≡ started (0 ∷ 0 ∷ lives_of cut) (image_left stop.1 (state_of lived).loose (state_of lived).image))
        (fresh : IsFresh cut)
        (left : MayLeave (now_of (state_of lived)) (record { told = (state_of lived).told; image = (state_of cut).image }))
        (all : lives_of cut ≡ drop (length (lives_of lived ++ changes ∷ []) - 31) (lives_of lived ++ changes ∷ [])) where
      next : Behind g pool (place + 1) (slice_range script life.start life.end) life.stop r.before (state_of lived) status changes (state_of cut).image
      next = behind g pool (place + 1) (slice_range script life.start life.end) life.stop r.before status changes (state_of lived) (state_of cut).image one ran is_status left

      more : suc place < length (lives_in script)
      more = more_lives script place life stop is_life some

      kept : lives_of cut ≡ r.before.changes ++ changes ∷ []
      kept = grind (arith, count, length-append, add-one, few_lives, more)

      pub goes_on : (new : Site) → new.told ≡ mid.told ++ (text ++ life_line (place + 1) status) → Reached g pool script (place + 1) old new cut
      goes_on new told = subst (λ (n : ℕ). Reached g pool script n old new cut) (sym (add-one place)) (record {
        before = next.after;
        lived = (
          r.before,
          r.lived,
          (life, is_life, next.life),
          subst (λ (o : Option (ℕ × ℕ)). IsCut o next.life.over next.after.image) (sym some)
              (next.found ∙ ap (λ (s : Site). s.image) state ∙ ap (λ (s : Site). image_left stop.1 s.loose s.image) (sym next.over)),
        );
        ready = record {
          finds = next.finds (state_of cut) refl (ap (λ (s : Site). s.loose) state) refl;
          fresh = fresh;
          state = state ∙ (λ i. started (0 ∷ 0 ∷ (kept ∙ sym next.counted) i) (sym (next.found ∙ ap (λ (s : Site). s.image) state) i));
        };
        numbers = kept ∙ sym next.counted;
        count = ap length next.counted ∙ length-append r.before.changes (changes ∷ []) ∙ ap (λ (n : ℕ). n + 1) r.count ∙ add-one place;
        told = told ∙ ap (λ (l : List ℕ). l ++ (text ++ life_line (place + 1) status)) r.told ∙ append_assoc old.told r.before.told _ ∙ ap (λ (l : List ℕ). old.told ++ l) (sym next.told);
      })

-- The script is read, and nothing is told meanwhile.

given_up_since : (g : Geometry) (pool : ℕ) (script : List ℕ) (old mid new : Site) (numbers : List ℕ) → mid.told ≡ old.told → IsGivenUp g pool script mid new numbers → IsGivenUp g pool script old new numbers
given_up_since g pool script old mid new numbers same e = grind arith

pub ends_since : {T : Type 0} (g : Geometry) (pool : ℕ) (script : List ℕ) (r : Result T Halt) (old mid new : Site) (numbers : List ℕ) → mid.told ≡ old.told → Ends g pool script r mid new numbers → Ends g pool script r old new numbers
ends_since g pool script x3 old mid new numbers same e = grind (arith, next, given_up_since)

-- Before the first life.

pub numbers_unbegun : (g : Geometry) (inner : MemSite) → IsNewSite g inner → numbers_of inner ≡ 0 ∷ []
numbers_unbegun g inner is = ap (λ (l : List ℕ). l ++ (limits_of inner).changes ∷ []) is.lives ∙ ap (λ (n : ℕ). n ∷ []) is.fresh.changes

-- A trial as a whole.

module _ {T : Type 0} (g : Geometry) (pool : ℕ) (script : List ℕ) (old mid new : Site) (numbers : List ℕ) (status : ℕ) (result : Result T Failed) (goes : Preserves old mid) (honest : IsTrue mid.honest) where
  told_first : (h : Halt) → status ≡ status_of h → (status_of h ≢ 0) → (status_of h ≢ 6) → ((status_of h ≡ 5) ⊎ (status_of h ≡ 7) → numbers ≡ 0 ∷ []) → IsGivenUp g pool script old mid numbers → Tells (fault_line h) mid new result → Lives g pool script old new status numbers
  told_first h is nonzero nonsix none u tells = grind (arith, more, ends_with)

  told_some : status ≡ 6 → TellsSome g pool script old mid numbers → Tells (fault_line halt.Output) mid new result → Lives g pool script old new status numbers
  told_some is some tells = record {
    all = λ e. let other = sym is ∙ e in absurd (omega (arith, other));
    some = λ e. record {
      lives = some.lives;
      before = some.before;
      lived = some.lived;
      after = some.after;
      next = some.next;
      rest = some.rest;
      told = nothing ∙ some.told;
      front = some.front;
      numbers_are = some.numbers_are;
    };
    first = λ ne six. absurd (six is);
    none = λ which. ⊎_elim (λ e. let other = sym is ∙ e in absurd (omega (arith, other))) (λ e. let other = sym is ∙ e in absurd (omega (arith, other))) which;
  }
    where
      nothing : new.told ≡ mid.told
      nothing = let part = (tells.any_moment honest).now.told 0 in sym (append-nil new.told) ∙ part.1 ∙ ap (λ (l : List ℕ). mid.told ++ l) (take_all part.0 [] (omega arith)) ∙ append-nil mid.told

  pub told_and_fault : (h : Halt) → status ≡ status_of h → Ends {T = T} g pool script (Err h) old mid numbers → ((h ≡ halt.Input) ⊎ (h ≡ halt.Limit) → numbers ≡ 0 ∷ []) → Tells (fault_line h) mid new result → Lives g pool script old new status numbers
  told_and_fault x0 is u none tells = grind (arith, told_first, told_some)

-- Why it ends so.

pub record TrialHalts (h : Halt) (old mid : Site) : Type 0 where
  pub is : IsHaltOfTrial h
  pub input : h ≡ halt.Input → Rose old.input_faults mid.input_faults
  pub output : h ≡ halt.Output → Rose old.output_faults mid.output_faults
  pub few : h ≡ halt.Output → IsTrue old.honest → length old.input.left ≤ script_limit
  pub limit : h ≡ halt.Limit → IsTrue old.honest → length old.input.left ≡ script_limit + 1 + length mid.input.left

pub caused_by : (h : Halt) (status : ℕ) (old mid new : Site) → status ≡ status_of h → TrialHalts h old mid → Preserves mid new → (IsTrue old.honest → new.input ≡ mid.input) → TrialCauses old new status
caused_by h status old mid new is t goes left = grind (arith, rose_then)

-- where memory was wanted before the script was read
pub lacked_trial : {T : Type 0} (g : Geometry) (pool : ℕ) (old new : Site) (result : Result T Failed) → Tells (fault_line (halt.Stop Memory)) old new result → TrialContract g pool old new 4 (0 ∷ [])
lacked_trial {T} g pool old new result tells = record {
  lives = λ honest. told_and_fault {T = T} g pool old.input.left old old new (0 ∷ []) 4 result (goes_nowhere old) honest (halt.Stop Memory) refl
      (record { lives = 0; before = at_first g; lived = refl; told = sym (append-nil old.told); changes = 0; numbers_are = refl }) (λ which. refl) tells;
  causes = caused_by (halt.Stop Memory) 4 old old new refl (record {
    is = inl refl;
    input = λ e. absurd (not_memory_input e);
    output = λ e. absurd (not_memory_output e);
    few = λ e. absurd (not_memory_output e);
    limit = λ e. absurd (not_memory_limit e);
  }) tells.preserves (λ honest. (tells.devices honest).left);
  devices = (keeps_told (fault_line (halt.Stop Memory)) old new tells.any_moment tells.reads tells.preserves).devices;
  reads = tells.reads;
}
  where
    not_memory_input : halt.Stop Memory ≡ halt.Input → ⊥
    not_memory_input e = cc

    not_memory_output : halt.Stop Memory ≡ halt.Output → ⊥
    not_memory_output e = cc

    not_memory_limit : halt.Stop Memory ≡ halt.Limit → ⊥
    not_memory_limit e = cc
