use Rattle.std.proofs.Common.{max, [], ◌∷◌, ◌++◌, unwrap_or, slice_set, sym, ap, subst, ◌∙◌, arith}
use Rattle.std.specs.List.{reduce}
use Rattle.std.proofs.lemmas.List.{get_or_default, set-get_or}
use Rattle.footprints.specs.Longest.{lengths_on}
use Rattle.footprints.specs.Stacks.{AreStacks}
use Rattle.footprints.proofs.Changed.{own_longest, written, same_entries, alone}
use Rattle.footprints.proofs.footprints.Footprints.write.Goals as goal

pub push-requires : goal.push-requires
push-requires c =
    let still = same_entries c.self.inside.longest c.reserve.new.self c.self.inside.stacks c.self.invariant c.in_ok-reserve.ensures.entries in
    c.copied-before.ensures ∙ c.get.ensures.value
    ∙ own_longest c.reserve.new.self c.reserve.new.self c.self.inside.stacks still c.args.session c.requires.session c.args.footprint
    (alone c.self.inside.stacks c.args.self.now c.self.view_is c.args.session c.args.footprint.number c.requires.alone)
    ∙ ap (λ l. reduce max (lengths_on c.args.footprint.number l)) (get_or_default c.self.inside.stacks c.args.session [] _ (omega (arith, c.requires.session, c.self.invariant.eight)))

pub invariant_of-self-in_err-push : goal.invariant_of-self-in_err-push
invariant_of-self-in_err-push c =
    subst (λ own. AreStacks c.reserve.new.self (slice_set c.self.inside.stacks c.args.session own)) (sym c.in_err-push.ensures.err)
    (subst (AreStacks c.reserve.new.self) (sym (set-get_or c.self.inside.stacks c.args.session c.index-self-session.result))
    (same_entries c.self.inside.longest c.reserve.new.self c.self.inside.stacks c.self.invariant c.in_ok-reserve.ensures.entries))

pub invariant_of-self-2 : goal.invariant_of-self-2
invariant_of-self-2 c =
    let still = same_entries c.self.inside.longest c.reserve.new.self c.self.inside.stacks c.self.invariant c.in_ok-reserve.ensures.entries in
    let own = get_or_default c.self.inside.stacks c.args.session [] c.index-self-session.result (omega (arith, c.requires.session, c.self.invariant.eight)) in
    subst (λ own. AreStacks c.insert.new.self (slice_set c.self.inside.stacks c.args.session own)) (ap (λ l. l ++ c.args.footprint ∷ []) own ∙ sym c.in_ok-push.ensures.ok)
    (written c.reserve.new.self c.insert.new.self c.self.inside.stacks still c.args.session c.requires.session c.args.footprint c.max-length.result
    (alone c.self.inside.stacks c.args.self.now c.self.view_is c.args.session c.args.footprint.number c.requires.alone)
    (c.max-length.ensures ∙ ap (λ n. max n c.unwrap_or.result) c.max.ensures
    ∙ ap (max (max c.args.footprint.stood c.args.footprint.written)) (c.unwrap_or.ensures ∙ ap (λ o. unwrap_or o 0) (c.copied-before.ensures ∙ c.get.ensures.value)))
    c.in-Ok.ensures.updates.0)
