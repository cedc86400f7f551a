use Rattle.std.proofs.Common.{ℕ, arith, sym, ap, ◌∙◌, bit_or}
use Rattle.std.proofs.lemmas.Bool.{eqb-true, eq-eqb}
use Rattle.std.proofs.lemmas.Nat.{le_or_l, le_or_r}
use Rattle.byte_fields.proofs.HeadParts.{blank_at, halves_of_blank}
use Rattle.meta_segments.proofs.segment.is_blank.Goals as goal

pub returns : goal.returns
returns c =
    let octets = c.args.octets.now in
    let at = c.args.at in
    let front = c.get_u64.result in
    let back = c.get_u64-2.result in (
      λ zero.
          let none = eqb-true (bit_or front back) 0 zero in
          blank_at octets at (λ i. omega (arith, c.type_inv.octets i)) c.requires
          (sym c.get_u64.ensures ∙ omega (arith, le_or_l front back, none)) (sym c.get_u64-2.ensures ∙ omega (arith, le_or_r front back, none)),
      λ is.
          let halves = halves_of_blank octets at is in
          eq-eqb (bit_or front back) 0
          (ap (λ (n : ℕ). bit_or n back) (c.get_u64.ensures ∙ halves.0) ∙ ap (bit_or 0) (c.get_u64-2.ensures ∙ halves.1)),
    )
