use Rattle.checkpoint.proofs.Names.{◌*◌, ◌+◌, arith, List, ℕ, [], ◌∷◌, ap, sym, ◌∙◌, take, drop, length, subst, length-append, drop-drop, length-drop, w64, from_be_bytes, ArePairs, Pair}
use Rattle.checkpoint.proofs.Texts.{IsBytes-drop}
use Rattle.checkpoint.proofs.PairLists.{pairs_more}
use Rattle.checkpoint.proofs.codec.read_pairs.Goals as goal

pub loop-place-preserved : goal.loop-place-preserved
loop-place-preserved c =
    let octets = c.args.content.now in
    let at = 16 * c.loop-place.place in
    let pair : Pair = record { begin = c.get_u64.result; last = c.get_u64-in-loop-place.result } in
    let count = c.loop-place.invariant.count in
    record {
      count = ap length c.push.ensures ∙ length-append c.loop-place.active (pair ∷ []) ∙ ap (λ n. n + 1) count;
      spelled = subst (ArePairs (drop 25 octets)) (sym c.push.ensures)
          (pairs_more (drop 25 octets) c.loop-place.active pair at c.loop-place.invariant.spelled (omega arith, omega arith) (IsBytes-drop 25 octets (λ i. omega (arith, c.type_inv.content i)))
          (omega (arith, count)) (omega (arith, length-drop 25 octets))
          (c.get_u64.ensures ∙ ap (λ (t : List ℕ). from_be_bytes w64 (take 8 t)) (sym (drop-drop at 25 octets)))
          (c.get_u64-in-loop-place.ensures ∙ ap (λ (t : List ℕ). from_be_bytes w64 (take 8 t)) (ap (λ n. drop n octets) (omega arith) ∙ sym (drop-drop (at + 8) 25 octets))));
    }
