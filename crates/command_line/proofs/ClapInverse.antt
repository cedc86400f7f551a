-- What words are that `clap` has read.
use Rattle.std.proofs.Common.{◌≡◌, ◌++◌, ◌∙◌, ap, refl, sym, subst, inl, inr, ◌⊎◌, ℕ, Bool, true, false, List, [], ◌∷◌, map, codes, fold, get_or, append_assoc}
use Rattle.std.specs.Prelude.{Option, Some, None, IfNone, option_map, decimal}
use Rattle.std.specs.Str.{bytes_eq}
use Rattle.std.specs.List.{list_any}
use Rattle.std.proofs.lemmas.Bool.{or_parts}
use Rattle.std.proofs.lemmas.List.{append-nil}
use Rattle.std.proofs.lemmas.Option.{same_Some}
use Rattle.std.proofs.lemmas.Slice.Eq.{bytes_eq-Decides}
use Rattle.clap.specs.Walk.{Names, Row, Rule, Text, Walk, first_of, nothing_held, stop_after, walk_from, walked}
use Rattle.clap.specs.Simple.{built, entered, names_of, subcommand_of}
use Rattle.clap.specs.Faults.{entered_fault, fault_of}
use Rattle.clap.specs.Kinds.{Kinds, or_else}
use Rattle.clap.specs.Words.{first_value, rows_of, subcommand_name_of, subcommand_rows_of}
use Rattle.clap.specs.declared.parser.matches.ArgMatches.{ArgMatches}
use Rattle.clap.specs.declared.parser.matches.ArgMatches.TheViews.{out-ArgMatches}
use Rattle.clap.specs.declared.parser.matches.Found.{Found}
use Rattle.clap.proofs.OnLiterals.{clap_on_literals}
use Rattle.clap.proofs.WalkLemmas.{first_value-rows}
use Rattle.site.specs.declared.geometry.Geometry.{Geometry}
use Rattle.command_line.specs.declared.request.Load.{Load}
use Rattle.command_line.specs.declared.request.Restoring.{Restoring}
use Rattle.command_line.specs.declared.request.Simulation.{Simulation}
use Rattle.command_line.specs.declared.request.TrialSizes.{TrialSizes}
use Rattle.command_line.specs.Words.{IsArchive, IsVerify, IsRestore, IsRun, IsNew, IsLoad, IsSimulate, IsTrial, IsCheck, IsOfArchive, IsRight, is_dashed}
use Rattle.command_line.specs.Program.{ArePages, AreSizes, IsFrom, IsLoadOf, IsPool, IsReadFrom, IsRestoringOf, IsSimulationOf, IsTrialOf, program}
use Rattle.command_line.proofs.ClapLaws.{Plain, plain, plains, line_of, written_out}

-- the words are a name and texts, and the rows have these under their names
record IsLine (name : Text) (ids : List Text) (words : List Text) (rows : List Row) : Type 0 where
  pub texts : List Text
  pub words_are : words ≡ name ∷ texts
  pub rows_are : map (λ id. first_of id rows) ids ≡ map Some texts

-- no fault is none

abbrev is_none : Kinds → Bool
is_none [] = true
is_none (k ∷ ks) = false

refused : {kinds : Kinds} → kinds ≡ [] → is_none kinds ≡ false → ⊥
refused none some = let bad : true ≡ false = sym (ap is_none none) ∙ some in cc

after : (a b : Kinds) → or_else a b ≡ [] → b ≡ []
after [] b e = e
after (k ∷ ks) b e = absurd (refused e refl)

first : (a b : Kinds) → or_else a b ≡ [] → a ≡ []
first [] b e = refl
first (k ∷ ks) b e = absurd (refused e refl)

-- The first word is the name of a subcommand, at which the program's walk stops.

abbrev IsName : Text → Type 0
IsName w = (w ≡ codes "new") ⊎ ((w ≡ codes "run") ⊎ ((w ≡ codes "load") ⊎ ((w ≡ codes "simulate") ⊎ ((w ≡ codes "trial") ⊎ ((w ≡ codes "check") ⊎ ((w ≡ codes "archive") ⊎ ((w ≡ codes "verify") ⊎ (w ≡ codes "restore"))))))))

-- what holds of each name
of_each : (P : Text → Type 0) → P (codes "new") → P (codes "run") → P (codes "load") → P (codes "simulate") → P (codes "trial") → P (codes "check") → P (codes "archive") → P (codes "verify") → P (codes "restore") → (w : Text) → IsName w → P w
of_each P new run load simulate trial check archive verify restore w (inl e) = subst P (sym e) new
of_each P new run load simulate trial check archive verify restore w (inr (inl e)) = subst P (sym e) run
of_each P new run load simulate trial check archive verify restore w (inr (inr (inl e))) = subst P (sym e) load
of_each P new run load simulate trial check archive verify restore w (inr (inr (inr (inl e)))) = subst P (sym e) simulate
of_each P new run load simulate trial check archive verify restore w (inr (inr (inr (inr (inl e))))) = subst P (sym e) trial
of_each P new run load simulate trial check archive verify restore w (inr (inr (inr (inr (inr (inl e)))))) = subst P (sym e) check
of_each P new run load simulate trial check archive verify restore w (inr (inr (inr (inr (inr (inr (inl e))))))) = subst P (sym e) archive
of_each P new run load simulate trial check archive verify restore w (inr (inr (inr (inr (inr (inr (inr (inl e)))))))) = subst P (sym e) verify
of_each P new run load simulate trial check archive verify restore w (inr (inr (inr (inr (inr (inr (inr (inr e)))))))) = subst P (sym e) restore

-- a first word that is none is refused
stray : (w : Text) (rest : List Text) → Plain w → bytes_eq (codes "new") w ≡ false → bytes_eq (codes "run") w ≡ false → bytes_eq (codes "load") w ≡ false → bytes_eq (codes "simulate") w ≡ false → bytes_eq (codes "trial") w ≡ false → bytes_eq (codes "check") w ≡ false → bytes_eq (codes "archive") w ≡ false → bytes_eq (codes "verify") w ≡ false → bytes_eq (codes "restore") w ≡ false → fault_of program (w ∷ rest) ≡ [] → ⊥
unfolding clap_on_literals
stray w rest p new run load simulate trial check archive verify restore none = refused none (rw (new, run, load, simulate, trial, check, archive, verify, restore, p.dashes, p.long, p.short) refl)

names_one : (w : Text) (rest : List Text) → Plain w → fault_of program (w ∷ rest) ≡ [] → IsName w
names_one w rest p none = go (bytes_eq (codes "new") w) refl (bytes_eq (codes "run") w) refl (bytes_eq (codes "load") w) refl (bytes_eq (codes "simulate") w) refl (bytes_eq (codes "trial") w) refl (bytes_eq (codes "check") w) refl (bytes_eq (codes "archive") w) refl (bytes_eq (codes "verify") w) refl (bytes_eq (codes "restore") w) refl
  where
    is : (name : Text) → bytes_eq name w ≡ true → w ≡ name
    is name e = sym ((bytes_eq-Decides name w).0 e)

    go : (b0 : Bool) → bytes_eq (codes "new") w ≡ b0 → (b1 : Bool) → bytes_eq (codes "run") w ≡ b1 → (b2 : Bool) → bytes_eq (codes "load") w ≡ b2 → (b3 : Bool) → bytes_eq (codes "simulate") w ≡ b3 → (b4 : Bool) → bytes_eq (codes "trial") w ≡ b4 → (b5 : Bool) → bytes_eq (codes "check") w ≡ b5 → (b6 : Bool) → bytes_eq (codes "archive") w ≡ b6 → (b7 : Bool) → bytes_eq (codes "verify") w ≡ b7 → (b8 : Bool) → bytes_eq (codes "restore") w ≡ b8 → IsName w
    go true e0 b1 e1 b2 e2 b3 e3 b4 e4 b5 e5 b6 e6 b7 e7 b8 e8 = inl (is _ e0)
    go false e0 true e1 b2 e2 b3 e3 b4 e4 b5 e5 b6 e6 b7 e7 b8 e8 = inr (inl (is _ e1))
    go false e0 false e1 true e2 b3 e3 b4 e4 b5 e5 b6 e6 b7 e7 b8 e8 = inr (inr (inl (is _ e2)))
    go false e0 false e1 false e2 true e3 b4 e4 b5 e5 b6 e6 b7 e7 b8 e8 = inr (inr (inr (inl (is _ e3))))
    go false e0 false e1 false e2 false e3 true e4 b5 e5 b6 e6 b7 e7 b8 e8 = inr (inr (inr (inr (inl (is _ e4)))))
    go false e0 false e1 false e2 false e3 false e4 true e5 b6 e6 b7 e7 b8 e8 = inr (inr (inr (inr (inr (inl (is _ e5))))))
    go false e0 false e1 false e2 false e3 false e4 false e5 true e6 b7 e7 b8 e8 = inr (inr (inr (inr (inr (inr (inl (is _ e6)))))))
    go false e0 false e1 false e2 false e3 false e4 false e5 false e6 true e7 b8 e8 = inr (inr (inr (inr (inr (inr (inr (inl (is _ e7))))))))
    go false e0 false e1 false e2 false e3 false e4 false e5 false e6 false e7 true e8 = inr (inr (inr (inr (inr (inr (inr (inr (is _ e8))))))))
    go false e0 false e1 false e2 false e3 false e4 false e5 false e6 false e7 false e8 = absurd (stray w rest p e0 e1 e2 e3 e4 e5 e6 e7 e8 none)

-- behind a subcommand all words are its own
stopped : (c : List Rule) (names : Names) (w : Walk) (name : Text) (had rest : List Text) → w.stopped ≡ Some (name, had) → (fold (walked c names) w rest).stopped ≡ Some (name, had ++ rest)
unfolding clap_on_literals
stopped c names w name had [] e = e ∙ ap (λ (l : List Text). Some (name, l)) (sym (append-nil had))
stopped c names w name had (t ∷ rest) e =
    stopped c names (walked c names w t) name (had ++ t ∷ []) rest (rw e refl)
    ∙ ap (λ (l : List Text). Some (name, l)) (append_assoc had (t ∷ []) rest)

abbrev names : Names
names = names_of (built program)

stop_at : (name : Text) (rest : List Text) (w : Walk) → walked [] names (walk_from nothing_held) name ≡ w → w.stopped ≡ Some (name, []) → stop_after [] names (name ∷ rest) ≡ Some (name, rest)
stop_at name rest w is e = ap (λ (v : Walk). (fold (walked [] names) v rest).stopped) is ∙ stopped [] names w name [] rest e

stop : (rest : List Text) (w : Text) → IsName w → stop_after [] names (w ∷ rest) ≡ Some (w, rest)
unfolding clap_on_literals
stop rest = of_each (λ w. stop_after [] names (w ∷ rest) ≡ Some (w, rest)) (stop_at _ rest _ refl refl) (stop_at _ rest _ refl refl) (stop_at _ rest _ refl refl) (stop_at _ rest _ refl refl) (stop_at _ rest _ refl refl) (stop_at _ rest _ refl refl) (stop_at _ rest _ refl refl) (stop_at _ rest _ refl refl) (stop_at _ rest _ refl refl)

-- and it is the one that is found
abbrev name_in : Option (Text × List Row) → Option Text
name_in = option_map (λ p. p.0)

own_name : (w : Text) (rest : List Text) → IsName w → name_in (subcommand_of program (w ∷ rest)) ≡ Some w
unfolding clap_on_literals
own_name w rest is = ap (λ o. name_in (entered (built program) o)) (stop rest w is) ∙ of_each (λ v. name_in (entered (built program) (Some (v, rest))) ≡ Some v) refl refl refl refl refl refl refl refl refl w is

-- where the program takes the words, the subcommand takes those behind its name
below : (name : Text) (rest : List Text) → IsName name → fault_of program (name ∷ rest) ≡ [] → entered_fault (built program) (Some (name, rest)) ≡ []
below name rest is none =
    let low = first _ _ (after _ _ none) in
    ap (entered_fault (built program)) (sym (stop rest name is)) ∙ low

-- What each subcommand takes.

abbrev texts_in : List Text → Option (Text × List Row) → Option (List (Option Text))
texts_in ids = option_map (λ p. map (λ id. first_of id p.1) ids)

abbrev TakesLine : Text → List Text → Type 0
TakesLine name ids = (rest : List Text) (rows : List Row) → list_any is_dashed rest ≡ false → fault_of program (name ∷ rest) ≡ [] → subcommand_of program (name ∷ rest) ≡ Some (name, rows) → IsLine name ids (name ∷ rest) rows

taken : (name : Text) (ids texts : List Text) (rows : List Row) → subcommand_of program (name ∷ texts) ≡ Some (name, rows) → texts_in ids (subcommand_of program (name ∷ texts)) ≡ Some (map Some texts) → IsLine name ids (name ∷ texts) rows
taken name ids texts rows same is = record { texts = texts; words_are = refl; rows_are = same_Some _ _ (sym (ap (texts_in ids) same) ∙ is) }

run_line : TakesLine (codes "run") (codes "pool" ∷ [])
unfolding clap_on_literals
run_line [] rows undashed none same = absurd (refused none refl)
run_line (t ∷ []) rows undashed none same = let p = plains (t ∷ []) undashed in taken _ _ (t ∷ []) rows same (rw (p.0.dashes, p.0.long, p.0.short) refl)
run_line (t ∷ u ∷ rest) rows undashed none same =
    let p = plains (t ∷ u ∷ rest) undashed in
    absurd (refused (below (codes "run") (t ∷ u ∷ rest) (inr (inl refl)) none) (rw (p.0.dashes, p.0.long, p.0.short, p.1.0.dashes, p.1.0.long, p.1.0.short) refl))

new_line : TakesLine (codes "new") (codes "pages" ∷ codes "groups" ∷ codes "blocks" ∷ [])
unfolding clap_on_literals
new_line [] rows undashed none same = absurd (refused none refl)
new_line (t ∷ []) rows undashed none same = let p = plains (t ∷ []) undashed in absurd (refused none (rw (p.0.dashes, p.0.long, p.0.short) refl))
new_line (t ∷ u ∷ []) rows undashed none same = let p = plains (t ∷ u ∷ []) undashed in absurd (refused none (rw (p.0.dashes, p.0.long, p.0.short, p.1.0.dashes, p.1.0.long, p.1.0.short) refl))
new_line (t ∷ u ∷ v ∷ []) rows undashed none same =
    let p = plains (t ∷ u ∷ v ∷ []) undashed in
    taken _ _ (t ∷ u ∷ v ∷ []) rows same (rw (p.0.dashes, p.0.long, p.0.short, p.1.0.dashes, p.1.0.long, p.1.0.short, p.1.1.0.dashes, p.1.1.0.long, p.1.1.0.short) refl)
new_line (t ∷ u ∷ v ∷ w ∷ rest) rows undashed none same =
    let p = plains (t ∷ u ∷ v ∷ w ∷ rest) undashed in
    absurd (refused (below (codes "new") (t ∷ u ∷ v ∷ w ∷ rest) (inl refl) none)
    (rw (p.0.dashes, p.0.long, p.0.short, p.1.0.dashes, p.1.0.long, p.1.0.short, p.1.1.0.dashes, p.1.1.0.long, p.1.1.0.short, p.1.1.1.0.dashes, p.1.1.1.0.long, p.1.1.1.0.short) refl))

load_line : TakesLine (codes "load") (codes "count" ∷ codes "seed" ∷ codes "pool" ∷ [])
unfolding clap_on_literals
load_line [] rows undashed none same = absurd (refused none refl)
load_line (t ∷ []) rows undashed none same = let p = plains (t ∷ []) undashed in absurd (refused none (rw (p.0.dashes, p.0.long, p.0.short) refl))
load_line (t ∷ u ∷ []) rows undashed none same = let p = plains (t ∷ u ∷ []) undashed in absurd (refused none (rw (p.0.dashes, p.0.long, p.0.short, p.1.0.dashes, p.1.0.long, p.1.0.short) refl))
load_line (t ∷ u ∷ v ∷ []) rows undashed none same =
    let p = plains (t ∷ u ∷ v ∷ []) undashed in
    taken _ _ (t ∷ u ∷ v ∷ []) rows same (rw (p.0.dashes, p.0.long, p.0.short, p.1.0.dashes, p.1.0.long, p.1.0.short, p.1.1.0.dashes, p.1.1.0.long, p.1.1.0.short) refl)
load_line (t ∷ u ∷ v ∷ w ∷ rest) rows undashed none same =
    let p = plains (t ∷ u ∷ v ∷ w ∷ rest) undashed in
    absurd (refused (below (codes "load") (t ∷ u ∷ v ∷ w ∷ rest) (inr (inr (inl refl))) none)
    (rw (p.0.dashes, p.0.long, p.0.short, p.1.0.dashes, p.1.0.long, p.1.0.short, p.1.1.0.dashes, p.1.1.0.long, p.1.1.0.short, p.1.1.1.0.dashes, p.1.1.1.0.long, p.1.1.1.0.short) refl))

simulate_line : TakesLine (codes "simulate") (codes "groups" ∷ codes "pool" ∷ [])
unfolding clap_on_literals
simulate_line [] rows undashed none same = absurd (refused none refl)
simulate_line (t ∷ []) rows undashed none same = let p = plains (t ∷ []) undashed in absurd (refused none (rw (p.0.dashes, p.0.long, p.0.short) refl))
simulate_line (t ∷ u ∷ []) rows undashed none same =
    let p = plains (t ∷ u ∷ []) undashed in
    taken _ _ (t ∷ u ∷ []) rows same (rw (p.0.dashes, p.0.long, p.0.short, p.1.0.dashes, p.1.0.long, p.1.0.short) refl)
simulate_line (t ∷ u ∷ v ∷ rest) rows undashed none same =
    let p = plains (t ∷ u ∷ v ∷ rest) undashed in
    absurd (refused (below (codes "simulate") (t ∷ u ∷ v ∷ rest) (inr (inr (inr (inl refl)))) none)
    (rw (p.0.dashes, p.0.long, p.0.short, p.1.0.dashes, p.1.0.long, p.1.0.short, p.1.1.0.dashes, p.1.1.0.long, p.1.1.0.short) refl))

trial_line : TakesLine (codes "trial") (codes "pages" ∷ codes "groups" ∷ codes "blocks" ∷ codes "pool" ∷ [])
unfolding clap_on_literals
trial_line [] rows undashed none same = absurd (refused none refl)
trial_line (t ∷ []) rows undashed none same = let p = plains (t ∷ []) undashed in absurd (refused none (rw (p.0.dashes, p.0.long, p.0.short) refl))
trial_line (t ∷ u ∷ []) rows undashed none same = let p = plains (t ∷ u ∷ []) undashed in absurd (refused none (rw (p.0.dashes, p.0.long, p.0.short, p.1.0.dashes, p.1.0.long, p.1.0.short) refl))
trial_line (t ∷ u ∷ v ∷ []) rows undashed none same =
    let p = plains (t ∷ u ∷ v ∷ []) undashed in
    absurd (refused none (rw (p.0.dashes, p.0.long, p.0.short, p.1.0.dashes, p.1.0.long, p.1.0.short, p.1.1.0.dashes, p.1.1.0.long, p.1.1.0.short) refl))
trial_line (t ∷ u ∷ v ∷ w ∷ []) rows undashed none same =
    let p = plains (t ∷ u ∷ v ∷ w ∷ []) undashed in
    taken _ _ (t ∷ u ∷ v ∷ w ∷ []) rows same
    (rw (p.0.dashes, p.0.long, p.0.short, p.1.0.dashes, p.1.0.long, p.1.0.short, p.1.1.0.dashes, p.1.1.0.long, p.1.1.0.short, p.1.1.1.0.dashes, p.1.1.1.0.long, p.1.1.1.0.short) refl)
trial_line (t ∷ u ∷ v ∷ w ∷ x ∷ rest) rows undashed none same =
    let p = plains (t ∷ u ∷ v ∷ w ∷ x ∷ rest) undashed in
    let q = p.1.1.1 in
    absurd (refused (below (codes "trial") (t ∷ u ∷ v ∷ w ∷ x ∷ rest) (inr (inr (inr (inr (inl refl))))) none)
    (rw (p.0.dashes, p.0.long, p.0.short, p.1.0.dashes, p.1.0.long, p.1.0.short, p.1.1.0.dashes, p.1.1.0.long, p.1.1.0.short, q.0.dashes, q.0.long, q.0.short, q.1.0.dashes, q.1.0.long, q.1.0.short) refl))

check_line : TakesLine (codes "check") []
unfolding clap_on_literals
check_line [] rows undashed none same = record { texts = []; words_are = refl; rows_are = refl }
check_line (t ∷ rest) rows undashed none same =
    let p = plains (t ∷ rest) undashed in
    absurd (refused (below (codes "check") (t ∷ rest) (inr (inr (inr (inr (inr (inl refl)))))) none) (rw (p.0.dashes, p.0.long, p.0.short) refl))

archive_line : TakesLine (codes "archive") (codes "from" ∷ [])
unfolding clap_on_literals
archive_line [] rows undashed none same = absurd (refused none refl)
archive_line (t ∷ []) rows undashed none same = let p = plains (t ∷ []) undashed in taken _ _ (t ∷ []) rows same (rw (p.0.dashes, p.0.long, p.0.short) refl)
archive_line (t ∷ u ∷ rest) rows undashed none same =
    let p = plains (t ∷ u ∷ rest) undashed in
    absurd (refused (below (codes "archive") (t ∷ u ∷ rest) (inr (inr (inr (inr (inr (inr (inl refl))))))) none) (rw (p.0.dashes, p.0.long, p.0.short, p.1.0.dashes, p.1.0.long, p.1.0.short) refl))

verify_line : TakesLine (codes "verify") (codes "pages" ∷ [])
unfolding clap_on_literals
verify_line [] rows undashed none same = absurd (refused none refl)
verify_line (t ∷ []) rows undashed none same = let p = plains (t ∷ []) undashed in taken _ _ (t ∷ []) rows same (rw (p.0.dashes, p.0.long, p.0.short) refl)
verify_line (t ∷ u ∷ rest) rows undashed none same =
    let p = plains (t ∷ u ∷ rest) undashed in
    absurd (refused (below (codes "verify") (t ∷ u ∷ rest) (inr (inr (inr (inr (inr (inr (inr (inl refl)))))))) none) (rw (p.0.dashes, p.0.long, p.0.short, p.1.0.dashes, p.1.0.long, p.1.0.short) refl))

restore_line : TakesLine (codes "restore") (codes "count" ∷ codes "pool" ∷ [])
unfolding clap_on_literals
restore_line [] rows undashed none same = absurd (refused none refl)
restore_line (t ∷ []) rows undashed none same = let p = plains (t ∷ []) undashed in absurd (refused none (rw (p.0.dashes, p.0.long, p.0.short) refl))
restore_line (t ∷ u ∷ []) rows undashed none same =
    let p = plains (t ∷ u ∷ []) undashed in
    taken _ _ (t ∷ u ∷ []) rows same (rw (p.0.dashes, p.0.long, p.0.short, p.1.0.dashes, p.1.0.long, p.1.0.short) refl)
restore_line (t ∷ u ∷ v ∷ rest) rows undashed none same =
    let p = plains (t ∷ u ∷ v ∷ rest) undashed in
    absurd (refused (below (codes "restore") (t ∷ u ∷ v ∷ rest) (inr (inr (inr (inr (inr (inr (inr (inr refl)))))))) none)
    (rw (p.0.dashes, p.0.long, p.0.short, p.1.0.dashes, p.1.0.long, p.1.0.short, p.1.1.0.dashes, p.1.1.0.long, p.1.1.0.short) refl))

-- What was read.

no_words : (a : Text) (rows : List Row) → subcommand_of program [] ≡ Some (a, rows) → ⊥
unfolding clap_on_literals
no_words a rows same = cc

-- the words behind the first one, which is the name that was found
lines : (name : Text) (ids : List Text) → TakesLine name ids → (words : List Text) (rows : List Row) → list_any is_dashed words ≡ false → fault_of program words ≡ [] → subcommand_of program words ≡ Some (name, rows) → IsLine name ids words rows
lines name ids line [] rows undashed none same = absurd (no_words _ rows same)
lines name ids line (w ∷ rest) rows undashed none same =
    let parts = or_parts (is_dashed w) (list_any is_dashed rest) undashed in
    let is : w ≡ name = same_Some _ _ (sym (own_name w rest (names_one w rest (plain w parts.0) none)) ∙ ap name_in same) in
    subst (λ (v : Text). IsLine name ids (v ∷ rest) rows) (sym is)
    (line rest rows parts.1 (ap (λ (v : Text). fault_of program (v ∷ rest)) (sym is) ∙ none) (ap (λ (v : Text). subcommand_of program (v ∷ rest)) (sym is) ∙ same))

both : {A B : Type 0} (o : Option (A × B)) (a : A) (b : B) → option_map (λ p. p.0) o ≡ Some a → option_map (λ p. p.1) o ≡ Some b → o ≡ Some (a, b)
both None a b e f = let bad : None ≡ Some a = e in cc
both (Some (x, y)) a b e f = λ i. Some (same_Some x a e i, same_Some y b f i)

compose : {X Y Z : Type 0} (f : X → Y) (g : Y → Z) (o : Option X) → option_map g (option_map f o) ≡ option_map (λ x. g (f x)) o
compose f g None = refl
compose f g (Some x) = refl

has_name : (m : ArgMatches) → option_map (λ p. p.0) (subcommand_rows_of m) ≡ subcommand_name_of m
has_name m = compose _ _ (out-ArgMatches m).subcommand

some_injective : (xs ys : List Text) → map Some xs ≡ map Some ys → xs ≡ ys
some_injective [] [] e = refl
some_injective [] (y ∷ ys) e = let bad : [] ≡ Some y ∷ map Some ys = e in cc
some_injective (x ∷ xs) [] e = let bad : Some x ∷ map Some xs ≡ [] = e in cc
some_injective (x ∷ xs) (y ∷ ys) e =
    let one : Some x ≡ Some y = cc in
    let more : map Some xs ≡ map Some ys = cc in
    (λ i. same_Some x y one i ∷ some_injective xs ys more i)

-- the words of `check` have nothing behind it
pub check_right : (words : List Text) (m : ArgMatches) → IsReadFrom words m → subcommand_name_of m ≡ Some (codes "check") → IsCheck words
check_right words m read is = go (subcommand_rows_of m) refl
  where
    nothing : (rows : List Row) → IsLine (codes "check") [] words rows → IsCheck words
    nothing rows line = line.words_are ∙ ap (λ (l : List Text). codes "check" ∷ l) (some_injective line.texts [] (sym line.rows_are))

    go : (o : Option (Text × List Row)) → subcommand_rows_of m ≡ o → IsCheck words
    go None e = let bad : None ≡ Some (codes "check") = sym (ap name_in e) ∙ has_name m ∙ is in cc
    go (Some (name, rows)) e =
        let same : name ≡ codes "check" = same_Some _ _ (sym (ap name_in e) ∙ has_name m ∙ is) in
        nothing rows (lines (codes "check") [] check_line words rows read.plain read.faultless (sym read.rows ∙ e ∙ ap (λ (t : Text). Some (t, rows)) same))

module _ (words : List Text) (m : ArgMatches) (found : Found) (read : IsReadFrom words m) (rows : option_map (λ p. p.1) (subcommand_rows_of m) ≡ Some (rows_of found)) where
  module _ (name : Text) (ids : List Text) (line : TakesLine name ids) (is : subcommand_name_of m ≡ Some name) where
    its : IsLine name ids words (rows_of found)
    its = lines name ids line words (rows_of found) read.plain read.faultless (sym read.rows ∙ both _ name (rows_of found) (has_name m ∙ is) rows)

    values : map (first_value found) ids ≡ map Some its.texts
    values = (λ i. map (λ id. first_value-rows found id i) ids) ∙ its.rows_are

    -- words by what is found, and what is found by words
    told : (numbers : List ℕ) → map (first_value found) ids ≡ map Some (map decimal numbers) → words ≡ name ∷ map decimal numbers
    told numbers same = its.words_are ∙ ap (λ (l : List Text). name ∷ l) (some_injective its.texts (map decimal numbers) (sym values ∙ same))

    untold : (numbers : List ℕ) → words ≡ name ∷ map decimal numbers → map (first_value found) ids ≡ map Some (map decimal numbers)
    untold numbers same =
        let all : name ∷ its.texts ≡ name ∷ map decimal numbers = sym its.words_are ∙ same in
        let texts : its.texts ≡ map decimal numbers = cc in
        values ∙ ap (map Some) texts

    -- right words of another name
    other : (right : IsRight words) → bytes_eq name (line_of right).0 ≡ false → ⊥
    other right apart =
        let all : name ∷ its.texts ≡ (line_of right).0 ∷ map decimal (line_of right).1 = sym its.words_are ∙ written_out right in
        let same : name ≡ (line_of right).0 = cc in
        let equal = (bytes_eq-Decides name (line_of right).0).1 same in
        let bad : true ≡ false = sym equal ∙ apart in
        cc

  abbrev at : ℕ → List (Option Text) → Option Text
  at k values = get_or values k None

  module _ (is : subcommand_name_of m ≡ Some (codes "run")) where
    pub run_right : (pool : ℕ) → IsPool found pool → IsRun words pool
    run_right pool p = record { words_are = told _ _ run_line is (pool ∷ []) (λ i. p.text i ∷ []); from = p.from; to = p.to }

    pub run_wrong : ((pool : ℕ) → IsPool found pool → ⊥) → IsRight words → ⊥
    run_wrong none (inl run) = none run.0 (record { text = ap (at 0) (untold _ _ run_line is (run.0 ∷ []) run.1.words_are); from = run.1.from; to = run.1.to })
    run_wrong none (inr (inl new)) = other _ _ run_line is (inr (inl new)) refl
    run_wrong none (inr (inr (inl load))) = other _ _ run_line is (inr (inr (inl load))) refl
    run_wrong none (inr (inr (inr (inl simulate)))) = other _ _ run_line is (inr (inr (inr (inl simulate)))) refl
    run_wrong none (inr (inr (inr (inr (inl trial))))) = other _ _ run_line is (inr (inr (inr (inr (inl trial))))) refl
    run_wrong none (inr (inr (inr (inr (inr (inl check)))))) = other _ _ run_line is (inr (inr (inr (inr (inr (inl check)))))) refl
    run_wrong none (inr (inr (inr (inr (inr (inr (inl archive))))))) = other _ _ run_line is (inr (inr (inr (inr (inr (inr (inl archive))))))) refl
    run_wrong none (inr (inr (inr (inr (inr (inr (inr (inl verify)))))))) = other _ _ run_line is (inr (inr (inr (inr (inr (inr (inr (inl verify)))))))) refl
    run_wrong none (inr (inr (inr (inr (inr (inr (inr (inr restore)))))))) = other _ _ run_line is (inr (inr (inr (inr (inr (inr (inr (inr restore)))))))) refl

  module _ (is : subcommand_name_of m ≡ Some (codes "new")) where
    pub new_right : (g : Geometry) → AreSizes found g → IsNew words g
    new_right g s = record { words_are = told _ _ new_line is (g.pages ∷ g.groups ∷ g.blocks ∷ []) (λ i. s.pages i ∷ s.groups i ∷ s.blocks i ∷ []); limits = s.limits }

    pub new_wrong : ((g : Geometry) → AreSizes found g → ⊥) → IsRight words → ⊥
    new_wrong none (inr (inl new)) =
        let same = untold _ _ new_line is (new.0.pages ∷ new.0.groups ∷ new.0.blocks ∷ []) new.1.words_are in
        none new.0 (record { pages = ap (at 0) same; groups = ap (at 1) same; blocks = ap (at 2) same; limits = new.1.limits })
    new_wrong none (inl run) = other _ _ new_line is (inl run) refl
    new_wrong none (inr (inr (inl load))) = other _ _ new_line is (inr (inr (inl load))) refl
    new_wrong none (inr (inr (inr (inl simulate)))) = other _ _ new_line is (inr (inr (inr (inl simulate)))) refl
    new_wrong none (inr (inr (inr (inr (inl trial))))) = other _ _ new_line is (inr (inr (inr (inr (inl trial))))) refl
    new_wrong none (inr (inr (inr (inr (inr (inl check)))))) = other _ _ new_line is (inr (inr (inr (inr (inr (inl check)))))) refl
    new_wrong none (inr (inr (inr (inr (inr (inr (inl archive))))))) = other _ _ new_line is (inr (inr (inr (inr (inr (inr (inl archive))))))) refl
    new_wrong none (inr (inr (inr (inr (inr (inr (inr (inl verify)))))))) = other _ _ new_line is (inr (inr (inr (inr (inr (inr (inr (inl verify)))))))) refl
    new_wrong none (inr (inr (inr (inr (inr (inr (inr (inr restore)))))))) = other _ _ new_line is (inr (inr (inr (inr (inr (inr (inr (inr restore)))))))) refl

  module _ (is : subcommand_name_of m ≡ Some (codes "load")) where
    pub load_right : (load : Load) → IsLoadOf found load → IsLoad words load
    load_right load l = record { words_are = told _ _ load_line is (load.count ∷ load.seed ∷ load.pool ∷ []) (λ i. l.count i ∷ l.seed i ∷ l.pool i ∷ []); limits = l.limits }

    pub load_wrong : ((load : Load) → IsLoadOf found load → ⊥) → IsRight words → ⊥
    load_wrong none (inr (inr (inl load))) =
        let same = untold _ _ load_line is (load.0.count ∷ load.0.seed ∷ load.0.pool ∷ []) load.1.words_are in
        none load.0 (record { count = ap (at 0) same; seed = ap (at 1) same; pool = ap (at 2) same; limits = load.1.limits })
    load_wrong none (inl run) = other _ _ load_line is (inl run) refl
    load_wrong none (inr (inl new)) = other _ _ load_line is (inr (inl new)) refl
    load_wrong none (inr (inr (inr (inl simulate)))) = other _ _ load_line is (inr (inr (inr (inl simulate)))) refl
    load_wrong none (inr (inr (inr (inr (inl trial))))) = other _ _ load_line is (inr (inr (inr (inr (inl trial))))) refl
    load_wrong none (inr (inr (inr (inr (inr (inl check)))))) = other _ _ load_line is (inr (inr (inr (inr (inr (inl check)))))) refl
    load_wrong none (inr (inr (inr (inr (inr (inr (inl archive))))))) = other _ _ load_line is (inr (inr (inr (inr (inr (inr (inl archive))))))) refl
    load_wrong none (inr (inr (inr (inr (inr (inr (inr (inl verify)))))))) = other _ _ load_line is (inr (inr (inr (inr (inr (inr (inr (inl verify)))))))) refl
    load_wrong none (inr (inr (inr (inr (inr (inr (inr (inr restore)))))))) = other _ _ load_line is (inr (inr (inr (inr (inr (inr (inr (inr restore)))))))) refl

  module _ (is : subcommand_name_of m ≡ Some (codes "simulate")) where
    pub simulate_right : (s : Simulation) → IsSimulationOf found s → IsSimulate words s
    simulate_right s l = record { words_are = told _ _ simulate_line is (s.groups ∷ s.pool ∷ []) (λ i. l.groups i ∷ l.pool i ∷ []); limits = l.limits }

    pub simulate_wrong : ((s : Simulation) → IsSimulationOf found s → ⊥) → IsRight words → ⊥
    simulate_wrong none (inr (inr (inr (inl simulate)))) =
        let same = untold _ _ simulate_line is (simulate.0.groups ∷ simulate.0.pool ∷ []) simulate.1.words_are in
        none simulate.0 (record { groups = ap (at 0) same; pool = ap (at 1) same; limits = simulate.1.limits })
    simulate_wrong none (inl run) = other _ _ simulate_line is (inl run) refl
    simulate_wrong none (inr (inl new)) = other _ _ simulate_line is (inr (inl new)) refl
    simulate_wrong none (inr (inr (inl load))) = other _ _ simulate_line is (inr (inr (inl load))) refl
    simulate_wrong none (inr (inr (inr (inr (inl trial))))) = other _ _ simulate_line is (inr (inr (inr (inr (inl trial))))) refl
    simulate_wrong none (inr (inr (inr (inr (inr (inl check)))))) = other _ _ simulate_line is (inr (inr (inr (inr (inr (inl check)))))) refl
    simulate_wrong none (inr (inr (inr (inr (inr (inr (inl archive))))))) = other _ _ simulate_line is (inr (inr (inr (inr (inr (inr (inl archive))))))) refl
    simulate_wrong none (inr (inr (inr (inr (inr (inr (inr (inl verify)))))))) = other _ _ simulate_line is (inr (inr (inr (inr (inr (inr (inr (inl verify)))))))) refl
    simulate_wrong none (inr (inr (inr (inr (inr (inr (inr (inr restore)))))))) = other _ _ simulate_line is (inr (inr (inr (inr (inr (inr (inr (inr restore)))))))) refl

  module _ (is : subcommand_name_of m ≡ Some (codes "trial")) where
    pub trial_right : (t : TrialSizes) → IsTrialOf found t → IsTrial words t
    trial_right t l = record {
      words_are = told _ _ trial_line is (t.geometry.pages ∷ t.geometry.groups ∷ t.geometry.blocks ∷ t.pool ∷ []) (λ i. l.pages i ∷ l.groups i ∷ l.blocks i ∷ l.pool i ∷ []);
      limits = l.limits;
    }

    pub trial_wrong : ((t : TrialSizes) → IsTrialOf found t → ⊥) → IsRight words → ⊥
    trial_wrong none (inr (inr (inr (inr (inl trial))))) =
        let same = untold _ _ trial_line is (trial.0.geometry.pages ∷ trial.0.geometry.groups ∷ trial.0.geometry.blocks ∷ trial.0.pool ∷ []) trial.1.words_are in
        none trial.0 (record { pages = ap (at 0) same; groups = ap (at 1) same; blocks = ap (at 2) same; pool = ap (at 3) same; limits = trial.1.limits })
    trial_wrong none (inl run) = other _ _ trial_line is (inl run) refl
    trial_wrong none (inr (inl new)) = other _ _ trial_line is (inr (inl new)) refl
    trial_wrong none (inr (inr (inl load))) = other _ _ trial_line is (inr (inr (inl load))) refl
    trial_wrong none (inr (inr (inr (inl simulate)))) = other _ _ trial_line is (inr (inr (inr (inl simulate)))) refl
    trial_wrong none (inr (inr (inr (inr (inr (inl check)))))) = other _ _ trial_line is (inr (inr (inr (inr (inr (inl check)))))) refl
    trial_wrong none (inr (inr (inr (inr (inr (inr (inl archive))))))) = other _ _ trial_line is (inr (inr (inr (inr (inr (inr (inl archive))))))) refl
    trial_wrong none (inr (inr (inr (inr (inr (inr (inr (inl verify)))))))) = other _ _ trial_line is (inr (inr (inr (inr (inr (inr (inr (inl verify)))))))) refl
    trial_wrong none (inr (inr (inr (inr (inr (inr (inr (inr restore)))))))) = other _ _ trial_line is (inr (inr (inr (inr (inr (inr (inr (inr restore)))))))) refl

  module _ (is : subcommand_name_of m ≡ Some (codes "archive")) where
    pub archive_right : (from : ℕ) → IsFrom found from → IsArchive words from
    archive_right from l = record { words_are = told _ _ archive_line is (from ∷ []) (λ i. l.text i ∷ []); fits = l.fits }

    pub archive_wrong : ((from : ℕ) → IsFrom found from → ⊥) → IsRight words → ⊥
    archive_wrong none (inr (inr (inr (inr (inr (inr (inl archive))))))) = none archive.0 (record { text = ap (at 0) (untold _ _ archive_line is (archive.0 ∷ []) archive.1.words_are); fits = archive.1.fits })
    archive_wrong none (inl run) = other _ _ archive_line is (inl run) refl
    archive_wrong none (inr (inl new)) = other _ _ archive_line is (inr (inl new)) refl
    archive_wrong none (inr (inr (inl load))) = other _ _ archive_line is (inr (inr (inl load))) refl
    archive_wrong none (inr (inr (inr (inl simulate)))) = other _ _ archive_line is (inr (inr (inr (inl simulate)))) refl
    archive_wrong none (inr (inr (inr (inr (inl trial))))) = other _ _ archive_line is (inr (inr (inr (inr (inl trial))))) refl
    archive_wrong none (inr (inr (inr (inr (inr (inl check)))))) = other _ _ archive_line is (inr (inr (inr (inr (inr (inl check)))))) refl
    archive_wrong none (inr (inr (inr (inr (inr (inr (inr (inl verify)))))))) = other _ _ archive_line is (inr (inr (inr (inr (inr (inr (inr (inl verify)))))))) refl
    archive_wrong none (inr (inr (inr (inr (inr (inr (inr (inr restore)))))))) = other _ _ archive_line is (inr (inr (inr (inr (inr (inr (inr (inr restore)))))))) refl

  module _ (is : subcommand_name_of m ≡ Some (codes "verify")) where
    pub verify_right : (pages : ℕ) → ArePages found pages → IsVerify words pages
    verify_right pages l = record { words_are = told _ _ verify_line is (pages ∷ []) (λ i. l.text i ∷ []); from = l.from; to = l.to }

    pub verify_wrong : ((pages : ℕ) → ArePages found pages → ⊥) → IsRight words → ⊥
    verify_wrong none (inr (inr (inr (inr (inr (inr (inr (inl verify)))))))) = none verify.0 (record { text = ap (at 0) (untold _ _ verify_line is (verify.0 ∷ []) verify.1.words_are); from = verify.1.from; to = verify.1.to })
    verify_wrong none (inl run) = other _ _ verify_line is (inl run) refl
    verify_wrong none (inr (inl new)) = other _ _ verify_line is (inr (inl new)) refl
    verify_wrong none (inr (inr (inl load))) = other _ _ verify_line is (inr (inr (inl load))) refl
    verify_wrong none (inr (inr (inr (inl simulate)))) = other _ _ verify_line is (inr (inr (inr (inl simulate)))) refl
    verify_wrong none (inr (inr (inr (inr (inl trial))))) = other _ _ verify_line is (inr (inr (inr (inr (inl trial))))) refl
    verify_wrong none (inr (inr (inr (inr (inr (inl check)))))) = other _ _ verify_line is (inr (inr (inr (inr (inr (inl check)))))) refl
    verify_wrong none (inr (inr (inr (inr (inr (inr (inl archive))))))) = other _ _ verify_line is (inr (inr (inr (inr (inr (inr (inl archive))))))) refl
    verify_wrong none (inr (inr (inr (inr (inr (inr (inr (inr restore)))))))) = other _ _ verify_line is (inr (inr (inr (inr (inr (inr (inr (inr restore)))))))) refl

  module _ (is : subcommand_name_of m ≡ Some (codes "restore")) where
    pub restore_right : (r : Restoring) → IsRestoringOf found r → IsRestore words r
    restore_right r l = record { words_are = told _ _ restore_line is (r.commits ∷ r.pool ∷ []) (λ i. l.commits i ∷ l.pool i ∷ []); limits = l.limits }

    pub restore_wrong : ((r : Restoring) → IsRestoringOf found r → ⊥) → IsRight words → ⊥
    restore_wrong none (inr (inr (inr (inr (inr (inr (inr (inr restore)))))))) =
        let same = untold _ _ restore_line is (restore.0.commits ∷ restore.0.pool ∷ []) restore.1.words_are in
        none restore.0 (record { commits = ap (at 0) same; pool = ap (at 1) same; limits = restore.1.limits })
    restore_wrong none (inl run) = other _ _ restore_line is (inl run) refl
    restore_wrong none (inr (inl new)) = other _ _ restore_line is (inr (inl new)) refl
    restore_wrong none (inr (inr (inl load))) = other _ _ restore_line is (inr (inr (inl load))) refl
    restore_wrong none (inr (inr (inr (inl simulate)))) = other _ _ restore_line is (inr (inr (inr (inl simulate)))) refl
    restore_wrong none (inr (inr (inr (inr (inl trial))))) = other _ _ restore_line is (inr (inr (inr (inr (inl trial))))) refl
    restore_wrong none (inr (inr (inr (inr (inr (inl check)))))) = other _ _ restore_line is (inr (inr (inr (inr (inr (inl check)))))) refl
    restore_wrong none (inr (inr (inr (inr (inr (inr (inl archive))))))) = other _ _ restore_line is (inr (inr (inr (inr (inr (inr (inl archive))))))) refl
    restore_wrong none (inr (inr (inr (inr (inr (inr (inr (inl verify)))))))) = other _ _ restore_line is (inr (inr (inr (inr (inr (inr (inr (inl verify)))))))) refl

-- the words name the subcommand
named : (words : List Text) (m : ArgMatches) → IsReadFrom words m → (name : Text) (rest : List Text) → IsName name → words ≡ name ∷ rest → subcommand_name_of m ≡ Some name
named words m read name rest is same = sym (has_name m) ∙ ap name_in (read.rows ∙ ap (subcommand_of program) same) ∙ own_name name rest is

-- right words of an archive name one of three
pub archive_named : (words : List Text) (m : ArgMatches) → IsReadFrom words m → IsOfArchive words
    → (subcommand_name_of m ≡ Some (codes "archive")) ⊎ ((subcommand_name_of m ≡ Some (codes "verify")) ⊎ (subcommand_name_of m ≡ Some (codes "restore")))
archive_named words m read (inl archive) = inl (named words m read _ _ (inr (inr (inr (inr (inr (inr (inl refl))))))) archive.1.words_are)
archive_named words m read (inr (inl verify)) = inr (inl (named words m read _ _ (inr (inr (inr (inr (inr (inr (inr (inl refl)))))))) verify.1.words_are))
archive_named words m read (inr (inr restore)) = inr (inr (named words m read _ _ (inr (inr (inr (inr (inr (inr (inr (inr refl)))))))) restore.1.words_are))

-- the other right words name one of six
pub right_named : (words : List Text) (m : ArgMatches) → IsReadFrom words m → (IsOfArchive words → ⊥) → IsRight words
    → (subcommand_name_of m ≡ Some (codes "run")) ⊎ ((subcommand_name_of m ≡ Some (codes "new")) ⊎ ((subcommand_name_of m ≡ Some (codes "load")) ⊎ ((subcommand_name_of m ≡ Some (codes "simulate")) ⊎ ((subcommand_name_of m ≡ Some (codes "trial")) ⊎ (subcommand_name_of m ≡ Some (codes "check"))))))
right_named words m read none (inl run) = inl (named words m read _ _ (inr (inl refl)) run.1.words_are)
right_named words m read none (inr (inl new)) = inr (inl (named words m read _ _ (inl refl) new.1.words_are))
right_named words m read none (inr (inr (inl load))) = inr (inr (inl (named words m read _ _ (inr (inr (inl refl))) load.1.words_are)))
right_named words m read none (inr (inr (inr (inl simulate)))) = inr (inr (inr (inl (named words m read _ _ (inr (inr (inr (inl refl)))) simulate.1.words_are))))
right_named words m read none (inr (inr (inr (inr (inl trial))))) = inr (inr (inr (inr (inl (named words m read _ _ (inr (inr (inr (inr (inl refl))))) trial.1.words_are)))))
right_named words m read none (inr (inr (inr (inr (inr (inl check)))))) = inr (inr (inr (inr (inr (named words m read _ _ (inr (inr (inr (inr (inr (inl refl)))))) check)))))
right_named words m read none (inr (inr (inr (inr (inr (inr archive)))))) = absurd (none archive)

-- what follows from none
pub if_none : {A P Q : Type 0} (o : Option A) → (P → Q) → IfNone o P → IfNone o Q
if_none (Some a) f p = tt
if_none None f p = f p
