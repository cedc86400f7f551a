use Rattle.policy_sim.proofs.Names.{◌≡◌, ◌∷◌, ◌++◌, ◌+◌, [], List, take, length, append-nil, arith, ap, sym, ◌∙◌, given_again, Frame, take_next}
use Rattle.policy_sim.proofs.Pushed.{given_more, given_none, there, not_there}
use Rattle.policy_sim.proofs.group.given_again.Goals.{in-Some, in_default}
use Rattle.policy_sim.proofs.group.given_again.Goals as goal

pub loop-place-preserved : goal.loop-place-preserved
loop-place-preserved c =
    let next : given_again c.args.front.now (take c.loop-place.place c.args.chances.now ++ c.at.result ∷ []) ≡ given_again c.args.front.now (take (c.loop-place.place + 1) c.args.chances.now) =
    ap (given_again c.args.front.now) (sym (take_next c.args.chances.now c.loop-place.place c.at.result c.at.ensures)) in
    let before : c.loop-place.frames.items ≡ given_again c.args.front.now (take c.loop-place.place c.args.chances.now) = c.loop-place.invariant.frames in
    elim c.match-get.branch [
      | in-Some w ↦
          let mark = w.in-Some.mark.now in
          let at = there c.args.front.now c.at.result mark w.in-Some.ensures.lookup.0 w.in-Some.ensures.lookup.1 in
          record {
            frames = ap (λ v. v.items) w.frames-is ∙ w.push.ensures.items
                ∙ ap (λ (l : List Frame). l ++ w.unread.result ∷ []) before
                ∙ ap (λ (f : Frame). given_again c.args.front.now (take c.loop-place.place c.args.chances.now) ++ f ∷ []) w.unread.ensures
                ∙ sym (given_more c.args.front.now (take c.loop-place.place c.args.chances.now) c.at.result mark at) ∙ next;
            few = omega (arith, c.loop-place.invariant.few, ap length (ap (λ v. v.items) w.frames-is), w.push.ensures.len);
          }
      | in_default w ↦
          let none = not_there c.args.front.now c.at.result w.in_default.ensures.lookup.0 in
          record {
            frames = ap (λ v. v.items) w.frames-is ∙ before ∙ sym (append-nil (given_again c.args.front.now (take c.loop-place.place c.args.chances.now)))
                ∙ sym (given_none c.args.front.now (take c.loop-place.place c.args.chances.now) c.at.result none) ∙ next;
            few = omega (arith, c.loop-place.invariant.few, ap length (ap (λ v. v.items) w.frames-is));
          }
    ]
