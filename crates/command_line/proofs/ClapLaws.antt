-- What `clap` makes of the right words.
use Rattle.std.proofs.Common.{◌≡◌, ◌==◌, ◌&&◌, ◌∙◌, ◌<◌, ◌^◌, ap, refl, sym, ℕ, Bool, true, false, List, [], ◌∷◌, map, codes, cond, arith, inl, inr}
use Rattle.std.specs.Prelude.{Some, None, option_and_then, decimal, string_bytes}
use Rattle.std.specs.List.{AllByRecursion, list_any}
use Rattle.std.specs.Str.{bytes_eq}
use Rattle.std.specs.declared.string.String.{String}
use Rattle.std.specs.declared.alloc.Global.{Global}
use Rattle.std.proofs.lemmas.Bool.{ne_eqb, or_parts}
use Rattle.std.proofs.lemmas.Fmt.{decimal_is_IsNumeral}
use Rattle.std.proofs.lemmas.Str.Parse.{digit_from_value}
use Rattle.std.specs.Str.Parse.{IsNumeral}
use Rattle.std_lemmas.proofs.Lists.{any_map}
use Rattle.clap.specs.Lexer.{long_of, long_of_rest, short_of, short_of_rest, strip_byte}
use Rattle.clap.specs.Walk.{Text}
use Rattle.clap.specs.Words.{takes}
use Rattle.clap.proofs.OnLiterals.{clap_on_literals}
use Rattle.command_line.specs.Words.{IsRight, HasDash, is_dashed, words_of}
use Rattle.command_line.specs.Program.{program}

-- A word that doesn't begin with a dash is neither a long nor a short flag.
pub record Plain (t : Text) : Type 0 where
  pub dashes : bytes_eq t (45 ∷ 45 ∷ []) ≡ false
  pub long : long_of t ≡ None
  pub short : short_of t ≡ None

pub plain : (t : Text) → is_dashed t ≡ false → Plain t
plain [] e = record { dashes = refl; long = refl; short = refl }
plain (x ∷ xs) e = record { dashes = two (x == 45) e; long = double (x == 45) e; short = single (x == 45) e }
  where
    two : (b : Bool) → b ≡ false → (b && bytes_eq xs (45 ∷ [])) ≡ false
    two true bad = cc
    two false ok = refl

    double : (b : Bool) → b ≡ false → option_and_then long_of_rest (option_and_then (strip_byte 45) (cond b (Some xs) None)) ≡ None
    double true bad = cc
    double false ok = refl

    single : (b : Bool) → b ≡ false → option_and_then short_of_rest (cond b (Some xs) None) ≡ None
    single true bad = cc
    single false ok = refl

pub plains : (ts : List Text) → list_any is_dashed ts ≡ false → AllByRecursion Plain ts
plains [] none = tt
plains (t ∷ ts) none = let parts = or_parts (is_dashed t) (list_any is_dashed ts) none in (plain t parts.0, plains ts parts.1)

-- Right words are a name and numbers in decimal.

abbrev pub line_of : {words : List Text} → IsRight words → Text × List ℕ
line_of (inl run) = (codes "run", run.0 ∷ [])
line_of (inr (inl new)) = (codes "new", new.0.pages ∷ new.0.groups ∷ new.0.blocks ∷ [])
line_of (inr (inr (inl load))) = (codes "load", load.0.count ∷ load.0.seed ∷ load.0.pool ∷ [])
line_of (inr (inr (inr (inl simulate)))) = (codes "simulate", simulate.0.groups ∷ simulate.0.pool ∷ [])
line_of (inr (inr (inr (inr (inl trial))))) = (codes "trial", trial.0.geometry.pages ∷ trial.0.geometry.groups ∷ trial.0.geometry.blocks ∷ trial.0.pool ∷ [])
line_of (inr (inr (inr (inr (inr (inl check)))))) = (codes "check", [])
line_of (inr (inr (inr (inr (inr (inr (inl archive))))))) = (codes "archive", archive.0 ∷ [])
line_of (inr (inr (inr (inr (inr (inr (inr (inl verify)))))))) = (codes "verify", verify.0 ∷ [])
line_of (inr (inr (inr (inr (inr (inr (inr (inr restore)))))))) = (codes "restore", restore.0.commits ∷ restore.0.pool ∷ [])

pub written_out : {words : List Text} (right : IsRight words) → words ≡ (line_of right).0 ∷ map decimal (line_of right).1
written_out (inl run) = run.1.words_are
written_out (inr (inl new)) = new.1.words_are
written_out (inr (inr (inl load))) = load.1.words_are
written_out (inr (inr (inr (inl simulate)))) = simulate.1.words_are
written_out (inr (inr (inr (inr (inl trial))))) = trial.1.words_are
written_out (inr (inr (inr (inr (inr (inl check)))))) = check
written_out (inr (inr (inr (inr (inr (inr (inl archive))))))) = archive.1.words_are
written_out (inr (inr (inr (inr (inr (inr (inr (inl verify)))))))) = verify.1.words_are
written_out (inr (inr (inr (inr (inr (inr (inr (inr restore)))))))) = restore.1.words_are

abbrev pub Fits : ℕ → Type 0
Fits n = n < 2 ^ 64

pub fit : {words : List Text} (right : IsRight words) → AllByRecursion Fits (line_of right).1
fit (inl run) = let to = run.1.to in (omega (arith, to), tt)
fit (inr (inl new)) =
    let pages = new.1.limits.few_pages in
    let groups = new.1.limits.few_groups in
    let blocks = new.1.limits.few_blocks in
    (omega (arith, pages), (omega (arith, groups), (omega (arith, blocks), tt)))
fit (inr (inr (inl load))) = let few = load.1.limits.few in let to = load.1.limits.to in (omega (arith, few), (load.1.limits.seed, (omega (arith, to), tt)))
fit (inr (inr (inr (inl simulate)))) = let most = simulate.1.limits.most in let to = simulate.1.limits.to in (omega (arith, most), (omega (arith, to), tt))
fit (inr (inr (inr (inr (inl trial))))) =
    let pages = trial.1.limits.sizes.few_pages in
    let groups = trial.1.limits.sizes.few_groups in
    let blocks = trial.1.limits.sizes.few_blocks in
    let to = trial.1.limits.to in
    (omega (arith, pages), (omega (arith, groups), (omega (arith, blocks), (omega (arith, to), tt))))
fit (inr (inr (inr (inr (inr (inl check)))))) = tt
fit (inr (inr (inr (inr (inr (inr (inl archive))))))) = (archive.1.fits, tt)
fit (inr (inr (inr (inr (inr (inr (inr (inl verify)))))))) = let to = verify.1.to in (omega (arith, to), tt)
fit (inr (inr (inr (inr (inr (inr (inr (inr restore)))))))) = let to = restore.1.limits.to in (restore.1.limits.commits, (omega (arith, to), tt))

named_undashed : {words : List Text} (right : IsRight words) → is_dashed (line_of right).0 ≡ false
named_undashed (inl run) = refl
named_undashed (inr (inl new)) = refl
named_undashed (inr (inr (inl load))) = refl
named_undashed (inr (inr (inr (inl simulate)))) = refl
named_undashed (inr (inr (inr (inr (inl trial))))) = refl
named_undashed (inr (inr (inr (inr (inr (inl check)))))) = refl
named_undashed (inr (inr (inr (inr (inr (inr (inl archive))))))) = refl
named_undashed (inr (inr (inr (inr (inr (inr (inr (inl verify)))))))) = refl
named_undashed (inr (inr (inr (inr (inr (inr (inr (inr restore)))))))) = refl

-- a number in decimal begins with a digit
numeral_undashed : (t : Text) → IsNumeral 10 t → is_dashed t ≡ false
numeral_undashed [] h = refl
numeral_undashed (d ∷ ds) h = ne_eqb _ _ (λ e. omega (arith, digit_from_value d h.1.0))

numbers_undashed : (numbers : List ℕ) → AllByRecursion Fits numbers → list_any is_dashed (map decimal numbers) ≡ false
numbers_undashed [] few = refl
numbers_undashed (n ∷ numbers) few = rw (numeral_undashed (decimal n) (decimal_is_IsNumeral n few.0).0, numbers_undashed numbers few.1) refl

pub right_undashed : (words : List Text) → IsRight words → HasDash words → ⊥
right_undashed words right dash =
    let line : list_any is_dashed ((line_of right).0 ∷ map decimal (line_of right).1) ≡ false = rw (named_undashed right, numbers_undashed (line_of right).1 (fit right)) refl in
    let none : list_any is_dashed words ≡ false = ap (list_any is_dashed) (written_out right) ∙ line in
    cc

-- `clap` takes a name and as many plain texts as it wants.

taken_run : (t : Text) → Plain t → takes program (codes "run" ∷ t ∷ []) ≡ true
unfolding clap_on_literals
taken_run t p = rw (p.dashes, p.long, p.short) refl

taken_new : (t u v : Text) → Plain t → Plain u → Plain v → takes program (codes "new" ∷ t ∷ u ∷ v ∷ []) ≡ true
unfolding clap_on_literals
taken_new t u v p q r = rw (p.dashes, p.long, p.short, q.dashes, q.long, q.short, r.dashes, r.long, r.short) refl

taken_load : (t u v : Text) → Plain t → Plain u → Plain v → takes program (codes "load" ∷ t ∷ u ∷ v ∷ []) ≡ true
unfolding clap_on_literals
taken_load t u v p q r = rw (p.dashes, p.long, p.short, q.dashes, q.long, q.short, r.dashes, r.long, r.short) refl

taken_simulate : (t u : Text) → Plain t → Plain u → takes program (codes "simulate" ∷ t ∷ u ∷ []) ≡ true
unfolding clap_on_literals
taken_simulate t u p q = rw (p.dashes, p.long, p.short, q.dashes, q.long, q.short) refl

taken_trial : (t u v w : Text) → Plain t → Plain u → Plain v → Plain w → takes program (codes "trial" ∷ t ∷ u ∷ v ∷ w ∷ []) ≡ true
unfolding clap_on_literals
taken_trial t u v w p q r s = rw (p.dashes, p.long, p.short, q.dashes, q.long, q.short, r.dashes, r.long, r.short, s.dashes, s.long, s.short) refl

taken_check : takes program (codes "check" ∷ []) ≡ true
unfolding clap_on_literals
taken_check = refl

taken_archive : (t : Text) → Plain t → takes program (codes "archive" ∷ t ∷ []) ≡ true
unfolding clap_on_literals
taken_archive t p = rw (p.dashes, p.long, p.short) refl

taken_verify : (t : Text) → Plain t → takes program (codes "verify" ∷ t ∷ []) ≡ true
unfolding clap_on_literals
taken_verify t p = rw (p.dashes, p.long, p.short) refl

taken_restore : (t u : Text) → Plain t → Plain u → takes program (codes "restore" ∷ t ∷ u ∷ []) ≡ true
unfolding clap_on_literals
taken_restore t u p q = rw (p.dashes, p.long, p.short, q.dashes, q.long, q.short) refl

taken_line : {words : List Text} (right : IsRight words) → AllByRecursion Plain (map decimal (line_of right).1) → takes program ((line_of right).0 ∷ map decimal (line_of right).1) ≡ true
taken_line (inl run) p = taken_run _ p.0
taken_line (inr (inl new)) p = taken_new _ _ _ p.0 p.1.0 p.1.1.0
taken_line (inr (inr (inl load))) p = taken_load _ _ _ p.0 p.1.0 p.1.1.0
taken_line (inr (inr (inr (inl simulate)))) p = taken_simulate _ _ p.0 p.1.0
taken_line (inr (inr (inr (inr (inl trial))))) p = taken_trial _ _ _ _ p.0 p.1.0 p.1.1.0 p.1.1.1.0
taken_line (inr (inr (inr (inr (inr (inl check)))))) p = taken_check
taken_line (inr (inr (inr (inr (inr (inr (inl archive))))))) p = taken_archive _ p.0
taken_line (inr (inr (inr (inr (inr (inr (inr (inl verify)))))))) p = taken_verify _ p.0
taken_line (inr (inr (inr (inr (inr (inr (inr (inr restore)))))))) p = taken_restore _ _ p.0 p.1.0

-- so it takes all right words
pub right_taken : (words : List Text) → IsRight words → takes program words ≡ true
right_taken words right = ap (takes program) (written_out right) ∙ taken_line right (plains _ (numbers_undashed (line_of right).1 (fit right)))

pub dash_is : (words : List (String Global)) (found : Bool) → found ≡ list_any (λ word. is_dashed (string_bytes word)) words → list_any is_dashed (words_of words) ≡ found
dash_is words found is = any_map is_dashed string_bytes words ∙ sym is

pub no_dash : (words : List (String Global)) (found : Bool) → found ≡ list_any (λ word. is_dashed (string_bytes word)) words → found ≡ false → HasDash (words_of words) → ⊥
no_dash words found is none dash = let bad : true ≡ false = sym dash ∙ dash_is words found is ∙ none in cc
