-- What footprints on a stack know, as one comes and one goes.
use Rattle.std.proofs.Common.{◌≡◌, max, List, [], ◌∷◌, ◌++◌, sym, ap, ◌∙◌}
use Rattle.std.specs.List.{reduce}
use Rattle.std.proofs.lemmas.List.{append-nil, append_assoc}
use Rattle.footprints.specs.declared.footprint.Footprint.{Footprint}
use Rattle.footprints.specs.declared.stack.Standing.{Standing}
use Rattle.footprints.specs.Longest.{lengths_on}
use Rattle.footprints.specs.Stacks.{shown, Remember}

pub remember_more : (earlier : List Footprint) (stack : List Standing) (s : Standing) → Remember earlier stack
    → s.before ≡ reduce max (lengths_on s.footprint.number (earlier ++ shown stack)) → Remember earlier (stack ++ s ∷ [])
remember_more earlier [] s all knows = (knows ∙ ap (λ l. reduce max (lengths_on s.footprint.number l)) (append-nil earlier), tt)
remember_more earlier (first ∷ stack) s all knows =
    (all.0, remember_more (earlier ++ first.footprint ∷ []) stack s all.1 (knows ∙ ap (λ l. reduce max (lengths_on s.footprint.number l)) (sym (append_assoc earlier (first.footprint ∷ []) (shown stack)))))

pub remember_less : (earlier : List Footprint) (stack : List Standing) (s : Standing) → Remember earlier (stack ++ s ∷ [])
    → Remember earlier stack × (s.before ≡ reduce max (lengths_on s.footprint.number (earlier ++ shown stack)))
remember_less earlier [] s all = (tt, all.0 ∙ ap (λ l. reduce max (lengths_on s.footprint.number l)) (sym (append-nil earlier)))
remember_less earlier (first ∷ stack) s all =
    let rest = remember_less (earlier ++ first.footprint ∷ []) stack s all.1 in
    ((all.0, rest.0), rest.1 ∙ ap (λ l. reduce max (lengths_on s.footprint.number l)) (append_assoc earlier (first.footprint ∷ []) (shown stack)))
