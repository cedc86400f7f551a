-- A store holds one log.
use Rattle.log_store.proofs.Names.{◌≡◌, ℕ, List, [], ◌∷◌, length, drop, refl, sym, ap, ◌∙◌, arith, length-append, AllByRecursion, map, flat_map, behind, some_octet, HasForm, FitsFields, AreBlock, IsBlock, LogRecord, LogList, HasTail, Represents, LogStore, Image}
use Rattle.std_lemmas.proofs.Lists.{front_same}
use Rattle.log_records.specs.Spelling.{spelling, block}
use Rattle.log_records.proofs.Records.{spelling_is_one}
use Rattle.log_store.proofs.Standing.{one_end}

-- a text is that of one list of records
pub one_list : (a b : List LogRecord) → AllByRecursion HasForm a → AllByRecursion FitsFields a → AllByRecursion HasForm b → AllByRecursion FitsFields b → flat_map spelling a ≡ flat_map spelling b → a ≡ b
one_list [] [] f g f' g' same = refl
one_list [] (x ∷ b) f g f' g' same = let some = some_octet x in let all = length-append (spelling x) (flat_map spelling b) in let none = ap length same in absurd (omega (arith, some, all, none))
one_list (x ∷ a) [] f g f' g' same = let some = some_octet x in let all = length-append (spelling x) (flat_map spelling a) in let none = ap length same in absurd (omega (arith, some, all, none))
one_list (x ∷ a) (y ∷ b) f g f' g' same =
    let one = spelling_is_one x y (flat_map spelling a) (flat_map spelling b) f.0 g.0 f'.0 g'.0 same in
    (λ i. one.0 i ∷ one_list a b f.1 g.1 f'.1 g'.1 one.1 i)

one_block : (a b : List LogRecord) → AreBlock a → AreBlock b → block a ≡ block b → a ≡ b
one_block a b first second same =
    let left : IsBlock (block a) a = record { are_block = first; spelled = refl } in
    let right : IsBlock (block a) b = record { are_block = second; spelled = same } in
    let end = one_end (block a) a b left right in
    one_list a b first.have_form first.fit_fields second.have_form second.fit_fields
    (front_same (flat_map spelling a) (flat_map spelling b) _ _ (omega (arith, end)) (sym (behind (block a) a left) ∙ behind (block a) b right))

pub one_blocks : (a b : List (List LogRecord)) → AllByRecursion AreBlock a → AllByRecursion AreBlock b → map block a ≡ map block b → a ≡ b
one_blocks [] [] all all' same = refl
one_blocks (x ∷ a) (y ∷ b) all all' same = (λ i. one_block x y all.0 all'.0 (ap (first_or []) same) i ∷ one_blocks a b all.1 all'.1 (ap (drop 1) same) i)
  where
    first_or : List ℕ → List (List ℕ) → List ℕ
    first_or none [] = none
    first_or none (first ∷ rest) = first
one_blocks _ _ all all' same = let none = ap length same in absurd (omega (arith, none))

one_tail : (octets : List ℕ) (used : ℕ) (a b : List LogRecord) → HasTail octets used a → HasTail octets used b → a ≡ b
one_tail octets used a b first second = grind (arith, one_list, front_same)

-- what stands there and the octets of the tail tell the log, from its first block on
pub one_log : (store : LogStore) (image : Image) (a b : LogList) → Represents store image a → Represents store image b → a.first ≡ b.first → a ≡ b
one_log store image a b first second same = grind (arith, one_blocks, one_tail)
