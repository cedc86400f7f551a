-- A word that writes a number.
use Rattle.std.proofs.Common.{◌≡◌, ℕ, List, sym, ◌∙◌, ap}
use Rattle.std.specs.Prelude.{Option, Some, None, IfSome, IfNone, decimal}
use Rattle.shell_text.specs.Grammar.{IsNumber}
use Rattle.shell_text.specs.Reading.{number_of}
use Rattle.shell_text.proofs.Numbers.{number_of-some, number_of-decimal}

pub writes : (o : Option ℕ) (word : List ℕ) → o ≡ number_of word → IfSome o (λ n. IsNumber n × (word ≡ decimal n))
writes (Some n) word is = number_of-some word n (sym is)
writes None word is = tt

pub writes_none : (o : Option ℕ) (word : List ℕ) → o ≡ number_of word → IfNone o ((n : ℕ) → IsNumber n → word ≡ decimal n → ⊥)
writes_none (Some n) word is = tt
writes_none None word is = λ n small e.
    let some : None ≡ Some n = is ∙ ap number_of e ∙ number_of-decimal n small in
    cc
