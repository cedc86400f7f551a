-- What a trace is: lines of which each is a touch of a page.
use Rattle.std.specs.Prelude.{◌≡◌, ◌⊎◌, ℕ, ◌+◌, ◌≤◌, Bool, true, false, List, ◌∷◌, ◌++◌, length, map, All, codes}
use Rattle.std.specs.Prelude.{decimal}
use Rattle.shell_text.specs.Runs.{lines_of}

-- a touch of a page, and whether the page is changed
abbrev pub Touch : Type 0
Touch = ℕ × Bool

-- `r PAGE` is a touch without a change, `w PAGE` one with a change
abbrev pub letter : Bool → List ℕ
letter true = codes "w "
letter false = codes "r "

abbrev pub touch_text : Touch → List ℕ
touch_text t = letter t.1 ++ decimal t.0

-- pages are numbered 0 to 65,535
abbrev pub IsPage : Touch → Type 0
IsPage t = t.0 ≤ 65535

-- a line is this touch
pub record IsTouch (line : List ℕ) (t : Touch) : Type 0 where
  pub text : line ≡ touch_text t
  pub page : IsPage t

-- lines are these touches, one each
pub record AreTouches (lines : List (List ℕ)) (touches : List Touch) : Type 0 where
  pub texts : lines ≡ map touch_text touches
  pub pages : All IsPage touches

-- a trace has at most so many lines
abbrev pub most : ℕ
most = 1000000

-- the octets of an input are a trace of these touches
pub record IsTrace (octets : List ℕ) (touches : List Touch) : Type 0 where
  pub are : AreTouches (lines_of true octets) touches
  pub few : length touches ≤ most

-- Among the lines of an input, counted from 1, the one of this number is the first that is no touch, or it is one more
-- than a trace may have. The lines before it are touches.
pub record IsFirstWrong (octets : List ℕ) (number : ℕ) : Type 0 where
  pub before : List (List ℕ)
  pub line : List ℕ
  pub behind : List (List ℕ)
  pub lines : lines_of true octets ≡ before ++ line ∷ behind
  pub touches : List Touch
  pub are : AreTouches before touches
  pub few : length touches ≤ most
  pub number_is : number ≡ length touches + 1
  pub wrong : (length touches ≡ most) ⊎ ((t : Touch) → IsTouch line t → ⊥)
