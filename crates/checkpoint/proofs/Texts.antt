-- Texts that are written over octets, one after the other, and parts of octets.
use Rattle.checkpoint.proofs.Names.{◌≡◌, ℕ, ◌+◌, ◌<◌, ◌≤◌, List, [], ◌++◌, length, get_or, take, drop, ap, sym, ◌∙◌, arith, length-append, take-append-drop, length-take, length-drop, get_or-take, get_or-drop, get_or_past, Writes}
use Rattle.std.proofs.lemmas.Bool.{cases_lt}
use Rattle.std_lemmas.proofs.Lists.{length_front}

abbrev pub IsBytes : List ℕ → Type 0
IsBytes octets = (i : ℕ) → get_or octets i 0 < 256

pub IsBytes-drop : (n : ℕ) (octets : List ℕ) → IsBytes octets → IsBytes (drop n octets)
IsBytes-drop n octets h i = rw get_or-drop (h (n + i))

pub IsBytes-take : (n : ℕ) (octets : List ℕ) → IsBytes octets → IsBytes (take n octets)
IsBytes-take n octets h i = grind (arith, cases_lt, get_or-take, get_or_past, length-take)

-- a text that was put at a place leaves the length
pub length-written : {old new text : List ℕ} {at : ℕ} → Writes old new at text → length new ≡ length old
length-written {old} {new} {text} {at} writes =
    omega (arith, ap length writes.written, length_front old (text ++ drop (at + length text) old) at (omega (arith, writes.inside)), length-append text (drop (at + length text) old), length-drop (at + length text) old, writes.inside)

pub nothing_written : (octets : List ℕ) (at : ℕ) → at ≤ length octets → Writes octets octets at []
nothing_written octets at room = record { inside = omega (arith, room); written = sym (take-append-drop at octets) ∙ ap (λ n. take at octets ++ drop n octets) (omega arith) }
