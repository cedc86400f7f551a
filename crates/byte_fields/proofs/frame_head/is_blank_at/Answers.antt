use Rattle.std.proofs.Common.{arith, sym, ◌∙◌}
use Rattle.std.proofs.lemmas.Bool.{eqb-true, eq-eqb}
use Rattle.byte_fields.proofs.HeadParts.{blank_at, halves_of_blank}
use Rattle.byte_fields.proofs.frame_head.is_blank_at.Goals as goal

pub returns-then-get_u64-eq0 : goal.returns-then-get_u64-eq0
returns-then-get_u64-eq0 c =
    let at = c.args.at in
    let octets = c.args.bytes.now in
    let back = c.get_u64-then-get_u64-eq0 in (
      λ zero. blank_at octets at (λ i. omega (arith, c.type_inv.bytes i)) c.requires (sym c.get_u64.ensures ∙ c.if-get_u64-eq0.true) (sym back.ensures ∙ eqb-true back.result 0 zero),
      λ is. eq-eqb back.result 0 (back.ensures ∙ (halves_of_blank octets at is).1),
    )

pub returns-else-get_u64-eq0 : goal.returns-else-get_u64-eq0
returns-else-get_u64-eq0 c = (
  λ zero. absurd (c.if-get_u64-eq0.false (eqb-true c.get_u64.result 0 zero)),
  λ is. absurd (c.if-get_u64-eq0.false (c.get_u64.ensures ∙ (halves_of_blank c.args.bytes.now c.args.at is).0)),
)
