use Rattle.std.proofs.Common.{◌∙◌, List, ℕ, sym, subst}
use Rattle.front_end.specs.Tells.{Tells}
use Rattle.archive_restore.specs.declared.fault.Fault.{Fault}
use Rattle.archive_restore.specs.Texts.{fault_line}
use Rattle.archive_restore.proofs.fault.tell_fault.Goals as goal

pub returns-in-Stream : goal.returns-in-Stream
returns-in-Stream g c =
    let old = g.S.Site.state c.args.site.now in
    let new = g.S.Site.state c.tell_all.new.site in
    subst (λ (f : Fault). Tells (fault_line f) old new c.tell_all.result) (sym c.in-Stream.is)
    (subst (λ (line : List ℕ). Tells line old new c.tell_all.result) (c.as_slice.ensures.value ∙ c.numbered_line.ensures)
    (record {
      text = record { any_moment = c.tell_all.ensures.any_moment; told = c.tell_all.ensures.told; devices = c.tell_all.ensures.same; cause = c.tell_all.ensures.cause; reads = c.tell_all.ensures.reads; preserves = c.tell_all.ensures.preserves; faults = c.tell_all.ensures.faults };
      hands = c.tell_all.ensures.hands;
    }))

pub returns-in-Short : goal.returns-in-Short
returns-in-Short g c =
    let old = g.S.Site.state c.args.site.now in
    let new = g.S.Site.state c.tell_all-in-Short.new.site in
    subst (λ (f : Fault). Tells (fault_line f) old new c.tell_all-in-Short.result) (sym c.in-Short.is)
    (subst (λ (line : List ℕ). Tells line old new c.tell_all-in-Short.result) (c.as_slice-in-Short.ensures.value ∙ c.numbered_line-in-Short.ensures)
    (record {
      text = record { any_moment = c.tell_all-in-Short.ensures.any_moment; told = c.tell_all-in-Short.ensures.told; devices = c.tell_all-in-Short.ensures.same; cause = c.tell_all-in-Short.ensures.cause; reads = c.tell_all-in-Short.ensures.reads; preserves = c.tell_all-in-Short.ensures.preserves; faults = c.tell_all-in-Short.ensures.faults };
      hands = c.tell_all-in-Short.ensures.hands;
    }))

pub returns-in-Full : goal.returns-in-Full
returns-in-Full g c =
    let old = g.S.Site.state c.args.site.now in
    let new = g.S.Site.state c.tell_all-in-Full.new.site in
    subst (λ (f : Fault). Tells (fault_line f) old new c.tell_all-in-Full.result) (sym c.in-Full.is)
    (record {
      text = record { any_moment = c.tell_all-in-Full.ensures.any_moment; told = c.tell_all-in-Full.ensures.told; devices = c.tell_all-in-Full.ensures.same; cause = c.tell_all-in-Full.ensures.cause; reads = c.tell_all-in-Full.ensures.reads; preserves = c.tell_all-in-Full.ensures.preserves; faults = c.tell_all-in-Full.ensures.faults };
      hands = c.tell_all-in-Full.ensures.hands;
    })
