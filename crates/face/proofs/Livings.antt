-- One life, and the lives of a script under way.
use Rattle.face.proofs.Names.{arith, ◌≡◌, inl, inr, ⊎_elim, ℕ, ◌-◌, true, List, [], ◌∷◌, ◌++◌, sym, ◌∙◌, ap, subst, Option, Some, None, IfSome, Opens, Durability, ran, LawOfLives, OpensAgain, Finds, HasLivedOne, IsFoundAfter, Run, turns_of, IsLeft, IsToldOf, run_text, texts, Between, IsTextOf, life_run, commands_of, IsLineOf, started, lives_of, state_of, fed, MemSite, IsInRange, Line, after_commits, commit_marks, State, opened, holds_now, Site, Image, MayLeave, now_of, no_input, snapshot_of, Geometry}
use Rattle.face.specs.Trial.{kept_by}
use Rattle.face.proofs.Longer.{all_heard, lines_longer, range_all, run_with, table_all, told_all}
use Rattle.face.proofs.Ranges.{IsFault}

fault_is : (status : ℕ) (fault : List ℕ) → IsLineOf status fault → IsFault fault
fault_is status fault is = ⊎_elim (λ none. inl none.1) (λ halt. inr (halt.0, halt.2)) is

-- A run from nothing told is a life, over all lines of the input.
module _ (law : LawOfLives) (g : Geometry) (before : Between) (octets : List ℕ) (old new : Site) (status : ℕ) (left : old.input.left ≡ octets) (nothing : old.told ≡ [])
    (d : Durability g (opened before.table before.commits 0 (g.blocks - 1)) old new status) where
  abbrev opening : State
  opening = opened before.table before.commits 0 (g.blocks - 1)

  abbrev run : Run
  run = life_run g before octets d.listings

  taken : octets ≡ d.octets ++ new.input.left
  taken = sym left ∙ d.taken

  longer : (more : List Line) × (commands_of true octets ≡ commands_of d.ended d.octets ++ more)
  longer = lines_longer d.ended octets d.octets new.input.left taken d.end

  all_is : run_with g opening d.listings (commands_of d.ended d.octets ++ longer.0) ≡ run
  all_is = ap (run_with g opening d.listings) (sym longer.1)

  now : IsLeft (ran d) old.told d.fault (snapshot_of new)
  now = holds_now old new (IsLeft (ran d) old.told d.fault) d.any_moment

  told_same : (told : List ℕ) → new.told ≡ old.told ++ told → told ≡ new.told
  told_same told is = ap (λ (l : List ℕ). l ++ told) (sym nothing) ∙ sym is

  is_told : IsToldOf (ran d) d.fault new.told
  is_told = subst (IsToldOf (ran d) d.fault) (told_same now.told now.told_is) now.is_told

  is_text : IsTextOf run status new.told
  is_text = record {
    fault = d.fault;
    of_status = d.of_status;
    told = subst (λ (r : Run). IsToldOf r d.fault new.told) all_is (told_all g opening d.listings (commands_of d.ended d.octets) longer.0 d.fault new.told is_told);
    whole = λ zero. sym (told_same (run_text (ran d)) (d.done zero).told) ∙ sym (all_heard g opening d.listings d.ended octets d.octets new.input.left taken d.end (d.heard zero));
  }

  found : (image : Image) → MayLeave (now_of new) (record { told = new.told; image = image }) → IsFoundAfter g run new.told image
  found image may =
      let again : OpensAgain (ran d) old.told (record { told = new.told; image = image }) = (law g opening old new status d).any_moment.now (record { told = new.told; image = image }) may in
      let same = told_same again.told again.told_is in
      let range = subst (λ (l : List ℕ). IsInRange l (texts (ran d)) (commit_marks (turns_of (ran d))) again.k) same again.in_range in
      let xs = commands_of d.ended d.octets in
      let is_fault = fault_is status d.fault d.of_status in
      record {
        table = again.opens.next.table;
        commits = again.opens.next.commits;
        goes_on = record {
          k = again.k;
          in_range = subst (λ (r : Run). IsInRange new.told (texts r) (commit_marks (turns_of r)) again.k) all_is (range_all g opening d.listings xs longer.0 d.fault new.told is_fault is_told again.k range);
          table_is = again.opens.table ∙ table_all g opening d.listings xs longer.0 d.fault new.told is_fault is_told again.k range ∙ ap (λ (r : Run). after_commits before.table (turns_of r) again.k) all_is;
          commits_are = again.opens.commits;
        };
        finds = λ site honest quiet is.
            let good = again.opens.good site honest quiet is in
            record { honest = good.honest; quiet = good.quiet; opens = subst (Opens g site.image) good.opens.state good.opens };
      }

  pub lived_one : HasLivedOne g before octets status new
  lived_one = record { listings = d.listings; is_text = is_text; left = found }

-- A site that a life may begin on, once its lines are fed.
pub fed_site : (g : Geometry) (before : Between) (entry lit fed : Site) (kept octets : List ℕ) → lit ≡ record entry { kept = kept } → fed ≡ record lit { input = record lit.input { left = lit.input.left ++ octets } } → Finds g before.table before.commits entry → entry.told ≡ [] → entry.input.left ≡ [] →
    Finds g before.table before.commits fed × (fed.input.left ≡ octets) × (fed.told ≡ [])
fed_site g before entry lit fed kept octets is_lit is_fed finds told left = grind arith

-- what holds with the status holds with the one that is told
pub with_status : (A P : ℕ → Type 0) (o : Option ℕ) (status : ℕ) → IfSome o (λ told. (told ≡ status) × A told) → P status → IfSome o P
with_status A P (Some told) status is holds = subst P (sym is.0) holds
with_status A P None status is holds = is

-- A site in memory on which a life begins.
pub begun_so : (stop : Option (ℕ × ℕ)) (before : Between) (octets : List ℕ) (inner : MemSite) (lit begun : Site) → state_of inner ≡ started (0 ∷ 0 ∷ before.changes) before.image → lit ≡ record (state_of inner) { kept = lit.kept } → lit.kept ≡ kept_by stop (lives_of inner)
    → begun ≡ record lit { input = fed octets lit.input } → begun ≡ record (started (kept_by stop before.changes) before.image) { input = fed octets no_input }
begun_so stop before octets inner lit begun state is_lit fuse is_begun = grind arith
