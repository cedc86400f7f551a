-- The lines of a net in the record model.
use Rattle.std.proofs.Common.{◌≡◌, ◌⊎◌, inl, inr, ⊎_elim, ℕ, zero, suc, ◌+◌, ◌-◌, ◌*◌, ◌<◌, ◌≤◌, Bool, true, false, nat_lt, nat_le, List, [], ◌∷◌, ◌++◌, length, map, take, drop, Option, Some, None, refl, sym, ap, subst, ◌∙◌, arith}
use Rattle.std.specs.Prelude.{replicate, slice_index_or, if◌then◌else◌}
use Rattle.std.proofs.lemmas.Bool.{leb-true, ltb-true}
use Rattle.byte_fields.specs.declared.TheConstants.{VALUE_MAX}
use Rattle.record_model.specs.declared.words.Command.{Command}
use Rattle.record_model.specs.declared.words.Command.TheVariants as command
use Rattle.record_model.specs.declared.words.CacheLine.{CacheLine}
use Rattle.record_model.specs.declared.words.Reply.TheVariants as reply
use Rattle.record_model.specs.declared.words.Why.TheVariants.{NoRecord, TooLong}
use Rattle.record_model.specs.State.{Content, State, Write, is_due, length_of, need, page_of, page_room, table_with, used}
use Rattle.record_model.specs.Step.{Outcome, answer, carried_out, carried_through, effect, fills_page, first_refusal, full, lacks_room, outcome, ready, refusal, refuse_if, step}
use Rattle.net_lines.specs.Nets.{HasRoomFor, busy, idle, line_writing, while_writing}

lt_false : (a b : ℕ) → b ≤ a → nat_lt a b ≡ false
lt_false a b few = by (nat_lt a b) refl
  where
    by : (c : Bool) → nat_lt a b ≡ c → nat_lt a b ≡ false
    by true is = let less = ltb-true a b is in absurd (omega (arith, less, few))
    by false is = is

le_false : (a b : ℕ) → b < a → nat_le a b ≡ false
le_false a b less = by (nat_le a b) refl
  where
    by : (c : Bool) → nat_le a b ≡ c → nat_le a b ≡ false
    by true is = let few = leb-true a b is in absurd (omega (arith, less, few))
    by false is = is

-- a command that is let through
let_through : (s : State) (c : Command) → refusal s c ≡ None → lacks_room (ready s c) c ≡ false → fills_page (ready s c) c ≡ None → step s c [] ≡ record { after = effect (ready s c) c; reply = answer (ready s c) c [] }
let_through s c allowed room page =
    ap (outcome s c []) allowed
    ∙ (λ i. if room i then record { after = ready s c; reply = full (ready s c) } else carried_through (ready s c) c [] (page i))

-- how many records a begin keeps
abbrev pub kept_at_begin : List Content → ℕ → ℕ → ℕ → ℕ → ℕ
kept_at_begin table commits made kept cap = if is_due (idle table commits made kept cap) then made else kept

pub few_at_begin : (table : List Content) (commits made kept cap : ℕ) → made - kept_at_begin table commits made kept cap ≤ made - kept
few_at_begin table commits made kept cap = by (is_due (idle table commits made kept cap))
  where
    by : (b : Bool) → made - (if b then made else kept) ≤ made - kept
    by true = omega arith
    by false = omega arith

pub begin_next : (table : List Content) (commits made kept cap : ℕ) → made - kept + 2 ≤ cap
    → step (idle table commits made kept cap) (command.Begin 0) [] ≡ record { after = busy table commits [] [] made (made + 1) (kept_at_begin table commits made kept cap) cap; reply = reply.Done }
begin_next table commits made kept cap room =
    let few = few_at_begin table commits made kept cap in
    let_through (idle table commits made kept cap) (command.Begin 0) refl (lt_false cap (made - kept_at_begin table commits made kept cap + 0 + 2) (omega (arith, few, room))) refl

pub write_next : (table : List Content) (commits : ℕ) (writes : List Write) (wrote : List ℕ) (born made kept cap number : ℕ) (content : Content) → number < length table → length_of content ≤ VALUE_MAX → made - kept + length writes + 3 ≤ cap
    → HasRoomFor table writes number content → (c : Command) → Some c ≡ line_writing number content
    → step (busy table commits writes wrote born made kept cap) c [] ≡ record { after = busy table commits (writes ++ (number, content) ∷ []) (wrote ++ number ∷ []) born (made + 1) kept cap; reply = reply.Done }
write_next table commits writes wrote born made kept cap number None inside short room page c is =
    let same : c ≡ command.Erase 0 number = cc in
    ap (λ d. step (busy table commits writes wrote born made kept cap) d []) same
    ∙ let_through (busy table commits writes wrote born made kept cap) (command.Erase 0 number)
    (λ i. first_refusal (None ∷ refuse_if (le_false (length table) number inside i) (reply.Refused NoRecord) ∷ None ∷ []))
    (lt_false cap (made - kept + (0 + (length writes + 1)) + 2) (omega (arith, room))) refl
write_next table commits writes wrote born made kept cap number (Some value) inside short room page c is =
    let same : c ≡ command.Write 0 number value = cc in
    ap (λ d. step (busy table commits writes wrote born made kept cap) d []) same
    ∙ let_through (busy table commits writes wrote born made kept cap) (command.Write 0 number value)
    (λ i. first_refusal (None ∷ refuse_if (le_false (length table) number inside i) (reply.Refused NoRecord) ∷ refuse_if (lt_false VALUE_MAX (length value) short i) (reply.Refused TooLong) ∷ None ∷ []))
    (lt_false cap (made - kept + (0 + (length writes + 1)) + 2) (omega (arith, room)))
    (λ i. refuse_if (lt_false page_room (need (while_writing table writes) number value) page i) (reply.PageFull (page_of number) (need (while_writing table writes) number value)))

pub commit_next : (table : List Content) (commits : ℕ) (writes : List Write) (wrote : List ℕ) (born made kept cap : ℕ)
    → step (busy table commits writes wrote born made kept cap) (command.Commit 0) [] ≡ record { after = idle (table_with table writes) (commits + 1) (made + 1) kept cap; reply = reply.Committed (commits + 1) }
commit_next table commits writes wrote born made kept cap = refl
