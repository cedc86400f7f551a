use Rattle.checkpoint.proofs.Names.{◌≡◌, ◌≤◌, ◌*◌, ◌+◌, arith, ℕ, length, sym, subst, ◌∙◌, get_or, drop, true≢false, take_rest, AllByRecursion, Ascend, Master}
use Rattle.checkpoint.proofs.PairLists.{one_list}
use Rattle.checkpoint.proofs.UnitParts.{HasParts, parts_of, unit_of_parts}
use Rattle.checkpoint.proofs.codec.read_master.Goals as goal

pub returns-then-count-gt-ACTIVE_MAX-clause-bad : goal.returns-then-count-gt-ACTIVE_MAX-clause-bad
returns-then-count-gt-ACTIVE_MAX-clause-bad c m is =
    let count = (parts_of c.args.content.now m is).count in let few = is.few in let many = c.if-count-gt-ACTIVE_MAX.true in omega (arith, count, few, many)

-- the pairs that were read are those of each master with this unit
pub returns-then-not-ascend-clause-bad : goal.returns-then-not-ascend-clause-bad
returns-then-not-ascend-clause-bad c m is =
    let octets = c.args.content.now in
    let parts = parts_of octets m is in
    let same : m.active ≡ c.read_pairs-active.result = one_list (drop 25 octets) m.active c.read_pairs-active.result parts.pairs c.read_pairs-active.ensures.spelled (sym parts.count ∙ sym c.read_pairs-active.ensures.count) in
    true≢false (sym (c.ascend.ensures.1 (subst Ascend same is.ascend)) ∙ c.if-not-ascend.true)

pub returns-then-not-are_zero-clause-bad : goal.returns-then-not-are_zero-clause-bad
returns-then-not-are_zero-clause-bad c m is =
    let octets = c.args.content.now in
    let parts = parts_of octets m is in
    let zeros = subst (λ n. AllByRecursion (λ (octet : ℕ). octet ≡ 0) (drop (25 + 16 * n) octets)) (sym parts.count) parts.rest in
    true≢false (sym (c.are_zero.ensures.1 (subst (AllByRecursion (λ (octet : ℕ). octet ≡ 0)) (sym (take_rest octets (25 + 16 * get_or octets 24 0))) zeros)) ∙ c.if-not-are_zero.true)

pub returns-clause-found : goal.returns-clause-found
returns-clause-found c =
    let octets = c.args.content.now in
    let m : Master = record { redo = c.get_u64.result; kept = c.get_u64-2.result; commits = c.get_u64-3.result; active = c.read_pairs-active.result } in
    let few : length m.active ≤ 8 = omega (arith, c.read_pairs-active.ensures.count, c.if-count-gt-ACTIVE_MAX.false) in
    let parts : HasParts octets m = record {
      redo = c.get_u64.ensures;
      kept = c.get_u64-2.ensures;
      commits = c.get_u64-3.ensures;
      count = sym c.read_pairs-active.ensures.count;
      pairs = c.read_pairs-active.ensures.spelled;
      rest = subst (λ n. AllByRecursion (λ (octet : ℕ). octet ≡ 0) (drop (25 + 16 * n) octets)) (sym c.read_pairs-active.ensures.count) (subst (AllByRecursion (λ (octet : ℕ). octet ≡ 0)) (take_rest octets (25 + 16 * get_or octets 24 0)) (c.are_zero.ensures.0 c.if-not-are_zero.false));
    } in
    record {
      spelled = unit_of_parts octets m (λ i. omega (arith, c.type_inv.content i)) c.requires few parts;
      few = few;
      ascend = c.ascend.ensures.0 c.if-not-ascend.false;
      redo = c.get_u64.type_inv;
      kept = c.get_u64-2.type_inv;
      commits = c.get_u64-3.type_inv;
      fit = c.read_pairs-active.ensures.spelled.fit;
    }
