use Rattle.engine.proofs.Names.{◌≡◌, ◌++◌, ◌∷◌, [], ap, subst, sym, ◌∙◌, length, take, arith, Ascend}
use Rattle.engine.proofs.Namings.{pair_of, pairs_of, one_more, length-named, all-named, ascending}
use Rattle.engine.proofs.sessions.named.Goals as goal

pub push-requires : goal.push-requires
push-requires c =
    let more = c.loop-place-test.true in
    let long = length-named c.args.active.now c.loop-place.place (omega (arith, c.len-place-end.ensures.len, more)) in
    omega (arith, c.len-place-end.ensures.few, more, long, ap length c.loop-place.invariant)

pub loop-place-init : goal.loop-place-init
loop-place-init c = c.new-named.ensures

pub loop-place-preserved : goal.loop-place-preserved
loop-place-preserved c = c.push.ensures ∙ ap (λ xs. xs ++ pair_of c.at-entry.result ∷ []) c.loop-place.invariant ∙ one_more c.args.active.now c.loop-place.place c.at-entry.result c.at-entry.ensures.entry

all : (c : goal.After-loop-place) → c.loop-place.named ≡ pairs_of c.args.active.now
all c =
    let end : c.loop-place.place ≡ length c.args.active.now = omega (arith, c.loop-place-test.false, c.loop-place.auto.place-end, c.len-place-end.ensures.len) in
    c.loop-place.invariant ∙ ap (λ n. pairs_of (take n c.args.active.now)) end ∙ all-named c.args.active.now

pub returns-clause-named : goal.returns-clause-named
returns-clause-named c = all c

pub returns-clause-ascend : goal.returns-clause-ascend
returns-clause-ascend c = subst Ascend (sym (all c)) (ascending c.args.active.now c.len-place-end.ensures.table c.requires.differ)
