-- A trace, cut into its touches line by line.
use Rattle.std.proofs.Common.{◌≡◌, ◌⊎◌, ℕ, ◌+◌, ◌≤◌, ◌<◌, Bool, true, List, [], ◌∷◌, ◌++◌, length, refl, sym, ◌∙◌, ap, subst, arith, append_assoc, length-append, inl, inr}
use Rattle.std.proofs.lemmas.Grind.{common_steps}
use Rattle.std.specs.Prelude.{map, All}
use Rattle.std.proofs.lemmas.List.{append-nil, map-append, length-map}
use Rattle.std.proofs.lemmas.List.Elements.{All-cons, All-head, All-nil, All-tail}
use Rattle.shell_text.specs.Runs.{lines_of}
use Rattle.trace_report.specs.Traces.{Touch, touch_text, IsPage, IsTouch, IsTrace, IsFirstWrong, most}
use Rattle.trace_report.specs.Hearing.{IsWrong, Hears}
use Rattle.trace_report.specs.declared.trace.Heard.TheVariants as heard
use Rattle.trace_report.specs.declared.machines.Machines.{Machines}
use Rattle.trace_report.specs.Counting.{HaveServed}

-- the first lines of these octets are touches, and those of the rest are the others
pub record IsCut (octets rest : List ℕ) (touches : List Touch) : Type 0 where
  pub lines : lines_of true octets ≡ map touch_text touches ++ lines_of true rest
  pub pages : All IsPage touches

pub uncut : (octets : List ℕ) → IsCut octets octets []
uncut octets = record { lines = refl; pages = All-nil IsPage }

one_page : (t : Touch) → IsPage t → All IsPage (t ∷ [])
one_page t p = All-cons IsPage t [] p (All-nil IsPage)

pub cut_more : (octets rest next line : List ℕ) (touches : List Touch) (t : Touch) → IsCut octets rest touches → lines_of true rest ≡ line ∷ lines_of true next → IsTouch line t → IsCut octets next (touches ++ t ∷ [])
cut_more octets rest next line touches t cut is touch = grind (arith, common_steps, append_assoc, map-append, one_page)

-- at the end of the input
pub all_cut : (octets rest : List ℕ) (touches : List Touch) → IsCut octets rest touches → rest ≡ [] → length touches ≤ most → IsTrace octets touches
all_cut octets rest touches cut none few = grind (arith, append-nil)

-- a line that isn't a touch, or is one too many
pub wrong_here : (octets rest : List ℕ) (touches : List Touch) (line : List ℕ) (behind : List (List ℕ)) (number : ℕ) → IsCut octets rest touches → lines_of true rest ≡ line ∷ behind → length touches ≤ most → number ≡ length touches + 1 → (length touches ≡ most) ⊎ IsWrong line → IsFirstWrong octets number
wrong_here octets rest touches line behind number cut is few number_is wrong = grind arith

-- No input is both.

record IsAt (touches : List Touch) (before : List (List ℕ)) (line : List ℕ) : Type 0 where
  pub touch : Touch
  pub text : line ≡ touch_text touch
  pub page : IsPage touch
  pub more : length before < length touches

first_is : (t : Touch) (touches : List Touch) → All IsPage (t ∷ touches) → IsPage t × All IsPage touches
first_is t touches all = (All-head IsPage t _ all, All-tail IsPage t _ all)

line_at : (touches : List Touch) (before : List (List ℕ)) (line : List ℕ) (behind : List (List ℕ)) → map touch_text touches ≡ before ++ line ∷ behind → All IsPage touches → IsAt touches before line
line_at [] before line behind is all = let none : 0 ≡ length before + length (line ∷ behind) = ap length is ∙ length-append before (line ∷ behind) in absurd (omega (arith, none))
line_at (t ∷ touches) [] line behind is all = record { touch = t; text = sym (cc is); page = (first_is t touches all).0; more = omega arith }
line_at (t ∷ touches) (x ∷ before) line behind is all =
    let a = line_at touches before line behind (cc is) (first_is t touches all).1 in
    let more = a.more in
    record { touch = a.touch; text = a.text; page = a.page; more = omega (arith, more) }

pub never_both : (octets : List ℕ) (touches : List Touch) (number : ℕ) → IsTrace octets touches → IsFirstWrong octets number → ⊥
never_both octets touches number trace wrong =
    let a = line_at _ _ _ _ (sym trace.are.texts ∙ wrong.lines) trace.are.pages in
    elim wrong.wrong [
      | inl many ↦
          let long = ap length wrong.are.texts ∙ length-map wrong.touches touch_text in
          let more = a.more in
          let few = trace.few in
          absurd (omega (arith, many, long, more, few))
      | inr none ↦ none a.touch (record { text = a.text; page = a.page })
    ]

-- Three machines that have served the touches of the lines so far.
pub record IsServed (groups pool : ℕ) (octets rest : List ℕ) (number : ℕ) (machines : Machines) : Type 0 where
  pub touches : List Touch
  pub count : length touches ≡ number
  pub cut : IsCut octets rest touches
  pub served : HaveServed groups pool touches machines

pub not_yet : (groups pool : ℕ) (octets rest : List ℕ) (machines : Machines) → rest ≡ octets → HaveServed groups pool [] machines → IsServed groups pool octets rest 0 machines
not_yet groups pool octets rest machines is served = record { touches = []; count = refl; cut = subst (λ (l : List ℕ). IsCut octets l []) (sym is) (uncut octets); served = served }

module _ (groups pool : ℕ) (octets rest : List ℕ) (number : ℕ) (machines : Machines) (s : IsServed groups pool octets rest number machines) where
  -- one touch more
  pub served_more : (next : List ℕ) (page : ℕ) (change : Bool) (after : Machines) → Hears (heard.Touch page change) rest next → HaveServed groups pool (s.touches ++ (page, change) ∷ []) after → IsServed groups pool octets next (number + 1) after
  served_more next page change after hears served = grind (arith, common_steps, length-append, cut_more)

  -- the end of the trace
  pub served_all : (next : List ℕ) → Hears heard.End rest next → number ≤ most → IsTrace octets s.touches
  served_all next hears few = all_cut _ _ _ s.cut hears (let count = s.count in omega (arith, count, few))

  -- a line that is no touch, and one that is one too many
  pub stopped : (next : List ℕ) → Hears heard.Wrong rest next → number ≤ most → IsFirstWrong octets (number + 1)
  stopped next hears few = grind (arith, wrong_here)

  pub overfull : (next : List ℕ) (page : ℕ) (change : Bool) → Hears (heard.Touch page change) rest next → number ≡ most → IsFirstWrong octets (number + 1)
  overfull next page change hears full = grind (arith, wrong_here)
