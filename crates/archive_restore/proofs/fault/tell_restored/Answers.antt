use Rattle.std.proofs.Common.{◌∙◌, List, ℕ, length, subst}
use Rattle.std.specs.Prelude.{OnOk}
use Rattle.site.specs.Telling.{TellsOnly}
use Rattle.front_end.specs.Tells.{Tells}
use Rattle.archive_restore.proofs.fault.tell_restored.Goals as goal

pub returns-clause-tells : goal.returns-clause-tells
returns-clause-tells g c =
    let old = g.S.Site.state c.args.site.now in
    let new = g.S.Site.state c.tell_all.new.site in
    subst (λ (line : List ℕ). Tells line old new c.tell_all.result) (c.as_slice.ensures.value ∙ c.numbered_line.ensures)
    (record {
      text = record { any_moment = c.tell_all.ensures.any_moment; told = c.tell_all.ensures.told; devices = c.tell_all.ensures.same; cause = c.tell_all.ensures.cause; reads = c.tell_all.ensures.reads; preserves = c.tell_all.ensures.preserves; faults = c.tell_all.ensures.faults };
      hands = c.tell_all.ensures.hands;
    })

pub returns-clause-only : goal.returns-clause-only
returns-clause-only g c honest =
    let old = g.S.Site.state c.args.site.now in
    let new = g.S.Site.state c.tell_all.new.site in
    subst (λ (line : List ℕ). OnOk c.tell_all.result (TellsOnly (length line) old new)) (c.as_slice.ensures.value ∙ c.numbered_line.ensures) (c.tell_all.ensures.tells_only honest)
