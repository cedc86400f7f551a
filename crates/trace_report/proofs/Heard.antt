-- The octets of a line, one after the other.
use Rattle.std.proofs.Common.{◌≡◌, ℕ, zero, suc, ◌-◌, ◌<◌, Bool, true, List, [], ◌∷◌, ◌++◌, length, refl, sym, ◌∙◌, ap, subst, arith, length-append}
use Rattle.std.specs.Prelude.{◌==◌, false, Option, Some, None, if◌then◌else◌}
use Rattle.std.proofs.lemmas.List.{append-nil}
use Rattle.std.proofs.lemmas.Bool.{ne_eqb}
use Rattle.site.specs.State.{State}
use Rattle.shell_text.specs.Laws.{HasNoNewline}
use Rattle.shell_text.specs.Runs.{in_front, lines_of}
use Rattle.shell_text.proofs.Lines.{lines_of-newline, lines_of-end}
use Rattle.trace_report.specs.declared.trace.Heard.{Heard}
use Rattle.trace_report.specs.declared.trace.Heard.TheVariants as heard
use Rattle.trace_report.specs.declared.trace.Trace.{Trace}
use Rattle.trace_report.specs.Hearing.{HearsOctet, HearsOnly, Hears, IsSaid, to_hear}
use Rattle.trace_report.proofs.Spelled.{too_long}

-- what was heard of a line so far
pub record SoFar (before after line : List ℕ) : Type 0 where
  pub all : before ≡ line ++ after
  pub none : HasNoNewline line

pub octet_is : (o : Option ℕ) (x : ℕ) (before after : List ℕ) → HearsOctet o before after → o ≡ Some x → before ≡ x ∷ after
octet_is o x before after h is = subst (λ (p : Option ℕ). HearsOctet p before after) is h

pub none_is : (o : Option ℕ) (before after : List ℕ) → HearsOctet o before after → o ≡ None → (before ≡ []) × (after ≡ [])
none_is o before after h is = subst (λ (p : Option ℕ). HearsOctet p before after) is h

pub then_rest : (before mid rest line : List ℕ) → SoFar before mid line → mid ≡ rest → SoFar before rest line
then_rest before mid rest line h is = subst (λ (l : List ℕ). SoFar before l line) is h

-- what a line says that is the first
says : (said : Heard) (before after line : List ℕ) → lines_of true before ≡ line ∷ lines_of true after → IsSaid said line → Hears said before after
says x0 before after line is touch = grind arith

-- a line that ends in a newline
pub line_heard : (said : Heard) (before after line : List ℕ) → SoFar before (10 ∷ after) line → IsSaid said line → Hears said before after
line_heard said before after line h is = says _ _ _ _ (ap (lines_of true) h.all ∙ lines_of-newline true line after h.none) is

-- a last line, which the end of the input ends
pub last_heard : (said : Heard) (before after line : List ℕ) → SoFar before [] line → after ≡ [] → 0 < length line → IsSaid said line → Hears said before after
last_heard said before after [] h nothing some is = grind arith
last_heard said before after (x ∷ line) h nothing some is = grind (arith, says, append-nil, lines_of-end)

-- where a line isn't empty
pub some_octet : (n : ℕ) (empty : Bool) → empty ≡ (n == 0) → empty ≡ false → 0 < n
some_octet zero empty is not_empty = let bad : true ≡ false = sym is ∙ not_empty in cc
some_octet (suc n) empty is not_empty = omega arith

-- octets with no newline among them begin the first line
record Begins (line : List ℕ) (lines : List (List ℕ)) : Type 0 where
  pub more : List ℕ
  pub behind : List (List ℕ)
  pub is : lines ≡ (line ++ more) ∷ behind

in_front_begins : (x : ℕ) (lines : List (List ℕ)) → Begins (x ∷ []) (in_front true x lines)
in_front_begins x [] = record { more = []; behind = []; is = refl }
in_front_begins x (line ∷ lines) = record { more = line; behind = lines; is = refl }

begins : (x : ℕ) (line after : List ℕ) → HasNoNewline (x ∷ line) → Begins (x ∷ line) (lines_of true (x ∷ line ++ after))
begins x [] after none =
    let is : lines_of true (x ∷ after) ≡ in_front true x (lines_of true after) = λ i. if ne_eqb x 10 none.0 i then [] ∷ lines_of true after else in_front true x (lines_of true after) in
    let b = in_front_begins x (lines_of true after) in
    record { more = b.more; behind = b.behind; is = is ∙ b.is }
begins x (y ∷ line) after none =
    let rest : List ℕ = y ∷ line ++ after in
    let is : lines_of true (x ∷ rest) ≡ in_front true x (lines_of true rest) = λ i. if ne_eqb x 10 none.0 i then [] ∷ lines_of true rest else in_front true x (lines_of true rest) in
    let b = begins y line after none.1 in
    record { more = b.more; behind = b.behind; is = is ∙ ap (in_front true x) b.is }

-- so eight of them are no touch, whatever comes behind them
pub long_heard : (before after line : List ℕ) → SoFar before after line → length line ≡ 8 → Hears heard.Wrong before after
long_heard before after [] h long = absurd (omega (arith, long))
long_heard before after (x ∷ line) h long =
    let b = begins x line after h.none in (
      (x ∷ line) ++ b.more,
      b.behind,
      ap (lines_of true) h.all ∙ b.is,
      too_long ((x ∷ line) ++ b.more) (let all = length-append (x ∷ line) b.more in omega (arith, all, long)),
    )

pub hears_then : (a b c : State) → HearsOnly a b → HearsOnly b c → HearsOnly a c
hears_then a b c f s = record { image = s.image ∙ f.image; loose = s.loose ∙ f.loose; told = s.told ∙ f.told; past = s.past ∙ f.past }

pub hears_as : (said is : Heard) (before after : List ℕ) → Hears said before after → said ≡ is → Hears is before after
hears_as said is before after h same = subst (λ (x : Heard). Hears x before after) same h

-- a trace of which nothing was taken
pub nothing_pending : (trace : Trace) (site : State) → trace.from ≡ trace.to → to_hear trace site ≡ site.input.left
nothing_pending trace site empty = grind arith
