-- The words of `run`, `new`, `load`, `simulate`, `trial`, `archive`, `verify` and `restore` each say one thing.
use Rattle.std.proofs.Common.{◌≡◌, ◌∙◌, ℕ, List, [], ◌∷◌, map, get_or, inl, inr, refl, sym}
use Rattle.std.specs.Prelude.{decimal}
use Rattle.std.specs.List.{AllByRecursion}
use Rattle.std.proofs.lemmas.Fmt.{decimal_injective}
use Rattle.site.specs.declared.geometry.Geometry.{Geometry}
use Rattle.command_line.specs.declared.request.Load.{Load}
use Rattle.command_line.specs.declared.request.Restoring.{Restoring}
use Rattle.command_line.specs.declared.request.Simulation.{Simulation}
use Rattle.command_line.specs.declared.request.TrialSizes.{TrialSizes}
use Rattle.command_line.specs.Words.{IsArchive, IsVerify, IsRestore, IsRun, IsNew, IsLoad, IsSimulate, IsTrial, IsRight}
use Rattle.command_line.proofs.ClapLaws.{Fits, fit, line_of, written_out}

-- numbers whose texts are the same are the same
same_numbers : (xs ys : List ℕ) → AllByRecursion Fits xs → AllByRecursion Fits ys → map decimal xs ≡ map decimal ys → xs ≡ ys
same_numbers [] [] few small is = refl
same_numbers [] (y ∷ ys) few small is = let bad : [] ≡ decimal y ∷ map decimal ys = is in cc
same_numbers (x ∷ xs) [] few small is = let bad : decimal x ∷ map decimal xs ≡ [] = is in cc
same_numbers (x ∷ xs) (y ∷ ys) few small is =
    let text : decimal x ≡ decimal y = cc in
    let texts : map decimal xs ≡ map decimal ys = cc in
    (λ i. decimal_injective x y few.0 small.0 text i ∷ same_numbers xs ys few.1 small.1 texts i)

-- so right words have one list of numbers
one_line : {words : List (List ℕ)} (a b : IsRight words) → (line_of a).1 ≡ (line_of b).1
one_line a b =
    let words : (line_of a).0 ∷ map decimal (line_of a).1 ≡ (line_of b).0 ∷ map decimal (line_of b).1 = sym (written_out a) ∙ written_out b in
    let texts : map decimal (line_of a).1 ≡ map decimal (line_of b).1 = cc in
    same_numbers (line_of a).1 (line_of b).1 (fit a) (fit b) texts

pub one_geometry : (words : List (List ℕ)) (g h : Geometry) → IsNew words g → IsNew words h → g ≡ h
one_geometry words g h first second =
    let same = one_line {words = words} (inr (inl (g, first))) (inr (inl (h, second))) in
    λ i. record { pages = get_or (same i) 0 0; groups = get_or (same i) 1 0; blocks = get_or (same i) 2 0 }

pub one_pool : (words : List (List ℕ)) (pool other : ℕ) → IsRun words pool → IsRun words other → pool ≡ other
one_pool words pool other first second =
    let same = one_line {words = words} (inl (pool, first)) (inl (other, second)) in
    λ i. get_or (same i) 0 0

pub one_load : (words : List (List ℕ)) (load other : Load) → IsLoad words load → IsLoad words other → load ≡ other
one_load words load other first second =
    let same = one_line {words = words} (inr (inr (inl (load, first)))) (inr (inr (inl (other, second)))) in
    λ i. record { count = get_or (same i) 0 0; seed = get_or (same i) 1 0; pool = get_or (same i) 2 0 }

pub one_simulation : (words : List (List ℕ)) (s other : Simulation) → IsSimulate words s → IsSimulate words other → s ≡ other
one_simulation words s other first second =
    let same = one_line {words = words} (inr (inr (inr (inl (s, first))))) (inr (inr (inr (inl (other, second))))) in
    λ i. record { groups = get_or (same i) 0 0; pool = get_or (same i) 1 0 }

pub one_trial : (words : List (List ℕ)) (t other : TrialSizes) → IsTrial words t → IsTrial words other → t ≡ other
one_trial words t other first second =
    let same = one_line {words = words} (inr (inr (inr (inr (inl (t, first)))))) (inr (inr (inr (inr (inl (other, second)))))) in
    λ i. record { geometry = record { pages = get_or (same i) 0 0; groups = get_or (same i) 1 0; blocks = get_or (same i) 2 0 }; pool = get_or (same i) 3 0 }

pub one_from : (words : List (List ℕ)) (from other : ℕ) → IsArchive words from → IsArchive words other → from ≡ other
one_from words from other first second =
    let same = one_line {words = words} (inr (inr (inr (inr (inr (inr (inl (from, first)))))))) (inr (inr (inr (inr (inr (inr (inl (other, second)))))))) in
    λ i. get_or (same i) 0 0

pub one_archive_size : (words : List (List ℕ)) (pages other : ℕ) → IsVerify words pages → IsVerify words other → pages ≡ other
one_archive_size words pages other first second =
    let same = one_line {words = words} (inr (inr (inr (inr (inr (inr (inr (inl (pages, first))))))))) (inr (inr (inr (inr (inr (inr (inr (inl (other, second))))))))) in
    λ i. get_or (same i) 0 0

pub one_restore : (words : List (List ℕ)) (r other : Restoring) → IsRestore words r → IsRestore words other → r ≡ other
one_restore words r other first second =
    let same = one_line {words = words} (inr (inr (inr (inr (inr (inr (inr (inr (r, first))))))))) (inr (inr (inr (inr (inr (inr (inr (inr (other, second))))))))) in
    λ i. record { commits = get_or (same i) 0 0; pool = get_or (same i) 1 0 }
