use Rattle.image_check.proofs.Names.{◌≡◌, ◌-◌, ◌++◌, ◌∷◌, [], ℕ, List, suc, true≢false, length, take, reverse, refl, rules, sym, ap, ◌∙◌, subst, arith, Err, None, take_all, AreKept, Fills, opened, AreVersions, versions_on, number_of, LogRecord, looks_then, looks_answered, State, Image}
use Rattle.std.proofs.Common.{Ok}
use Rattle.image_check.proofs.Looks.{looked_none, looked_failed, looked_answered, looked_then}
use Rattle.image_check.proofs.FilledOnes.{Leaving, leaving_first, leaving_more, leaving_fails, left_kept, left_room, last_first}
use Rattle.image_check.proofs.ShownOnes.{versions_later}
use Rattle.image_check.proofs.Walking.{may_later}
use Rattle.image_check.proofs.filling.raise_all.Goals as goal

pub loop-left-init : goal.loop-left-init
loop-left-init g c = record {
  may = c.requires.may;
  leaving = λ log before finds versions kept room.
      let updates : List LogRecord = c.args.updates.now in
      leaving_first log _ (before ++ reverse updates) before (reverse (take (length updates) updates)) c.args.lengths.now.pages (ap (λ (l : List LogRecord). before ++ reverse l) (sym (take_all (length updates) updates (omega arith)))) kept room;
  few = omega arith;
  looks = looked_none tt c.args.found.now.log.geometry.pages c.args.lengths.now.pages (g.S.Site.state c.args.site.now) (g.S.Site.state c.args.site.now) (record { log = omega arith; pages = omega arith });
  reads = search rules;
}

pub raise-requires-clause-may : goal.raise-requires-clause-may
raise-requires-clause-may g c = c.loop-left.invariant.may

pub loop-left-preserved : goal.loop-left-preserved
loop-left-preserved g c =
    let old : State = g.S.Site.state c.args.site.now in
    let now : State = g.S.Site.state c.loop-left.site in
    let next : State = g.S.Site.state c.raise.new.site in
    let geometry = c.args.found.now.log.geometry in
    let updates : List LogRecord = c.args.updates.now in
    let reads = c.loop-left.invariant.reads in
    let few = c.loop-left.invariant.few in
    let k : ℕ = c.loop-left.left - 1 in
    let u : LogRecord = c.index-updates-left.result in
    let more : c.loop-left.left ≡ suc k = omega (arith, c.loop-left-test.true) in
    record {
      may = may_later c.in-Ok-true.ensures.reads c.loop-left.invariant.may;
      leaving = λ log before finds versions kept room.
          let same : now.image ≡ old.image = (reads.same finds.honest).image in
          let pages = versions_on geometry old.image in
          let whole : List LogRecord = before ++ reverse updates in
          let at : Leaving log pages whole (u ∷ reverse (take k updates)) c.loop-left.lengths.pages = subst (λ (l : List LogRecord). Leaving log pages whole l c.loop-left.lengths.pages) (ap (λ (n : ℕ). reverse (take n updates)) more ∙ last_first updates k u (omega (arith, c.loop-left-test.true, few)) c.index-updates-left.is) (c.loop-left.invariant.leaving log before finds versions kept room) in
          let fills = subst (λ (image : Image). AreKept (versions_on geometry image) (opened log (versions_on geometry image) at.done) c.loop-left.lengths.pages → Fills (versions_on geometry image) (opened log (versions_on geometry image) (at.done ++ u ∷ [])) (number_of u) c.raise.new.self.pages c.in-Ok-true.field-0) same
          (c.in-Ok-true.ensures.raised log at.done (versions_later reads finds) (subst (AreVersions geometry) (sym same) versions)) at.kept_so in
          leaving_more log pages whole u (reverse (take k updates)) c.loop-left.lengths.pages c.raise.new.self.pages at c.in-Ok-true.field-0 c.in-Ok-true.field-0-test fills;
      few = omega (arith, few);
      looks = looked_then tt (Ok tt) c.args.found.now.log.geometry.pages c.args.lengths.now.pages c.loop-left.lengths.pages c.raise.new.self.pages old now next c.loop-left.invariant.looks (looked_answered c.in-Ok-true.field-0 tt c.args.found.now.log.geometry.pages c.loop-left.lengths.pages c.raise.new.self.pages now next c.in-Ok-true.ensures.looks);
      reads = looks_then tt _ old now next reads (looks_answered c.in-Ok-true.field-0 tt now next c.in-Ok-true.ensures.reads);
    }

pub returns-in-Ok-false-clause-opens : goal.returns-in-Ok-false-clause-opens
returns-in-Ok-false-clause-opens g c log before finds versions kept room =
    let old : State = g.S.Site.state c.args.site.now in
    let now : State = g.S.Site.state c.loop-left.site in
    let geometry = c.args.found.now.log.geometry in
    let updates : List LogRecord = c.args.updates.now in
    let reads = c.loop-left.invariant.reads in
    let few = c.loop-left.invariant.few in
    let k : ℕ = c.loop-left.left - 1 in
    let u : LogRecord = c.index-updates-left.result in
    let more : c.loop-left.left ≡ suc k = omega (arith, c.loop-left-test.true) in
    let same : now.image ≡ old.image = (reads.same finds.honest).image in
    let pages = versions_on geometry old.image in
    let whole : List LogRecord = before ++ reverse updates in
    let at : Leaving log pages whole (u ∷ reverse (take k updates)) c.loop-left.lengths.pages = subst (λ (l : List LogRecord). Leaving log pages whole l c.loop-left.lengths.pages) (ap (λ (n : ℕ). reverse (take n updates)) more ∙ last_first updates k u (omega (arith, c.loop-left-test.true, few)) c.index-updates-left.is) (c.loop-left.invariant.leaving log before finds versions kept room) in
    let fills = subst (λ (image : Image). AreKept (versions_on geometry image) (opened log (versions_on geometry image) at.done) c.loop-left.lengths.pages → Fills (versions_on geometry image) (opened log (versions_on geometry image) (at.done ++ u ∷ [])) (number_of u) c.raise.new.self.pages c.in-Ok-false.field-0) same
    (c.in-Ok-false.ensures.raised log at.done (versions_later reads finds) (subst (AreVersions geometry) (sym same) versions)) at.kept_so in
    record {
      fit = (λ wrong. absurd (true≢false (sym wrong)), λ all. absurd (leaving_fails log pages whole u (reverse (take k updates)) c.loop-left.lengths.pages c.raise.new.self.pages at c.in-Ok-false.field-0 c.in-Ok-false.field-0-test fills all));
      kept_so = λ wrong. absurd (true≢false (sym wrong));
    }

pub returns-clause-opens : goal.returns-clause-opens
returns-clause-opens g c log before finds versions kept room =
    let pages = versions_on c.args.found.now.log.geometry (g.S.Site.state c.args.site.now).image in
    let updates : List LogRecord = c.args.updates.now in
    let whole : List LogRecord = before ++ reverse updates in
    let end : c.loop-left.left ≡ 0 = omega (arith, c.loop-left-test.false) in
    let at : Leaving log pages whole [] c.loop-left.lengths.pages = subst (λ (n : ℕ). Leaving log pages whole (reverse (take n updates)) c.loop-left.lengths.pages) end (c.loop-left.invariant.leaving log before finds versions kept room) in
    record { fit = (λ yes. left_room log pages whole c.loop-left.lengths.pages at, λ all. refl); kept_so = λ yes. left_kept log pages whole c.loop-left.lengths.pages at }

pub returns-in-Ok-false-clause-looks : goal.returns-in-Ok-false-clause-looks
returns-in-Ok-false-clause-looks g c =
    looked_then tt _ c.args.found.now.log.geometry.pages c.args.lengths.now.pages c.loop-left.lengths.pages c.raise.new.self.pages (g.S.Site.state c.args.site.now) (g.S.Site.state c.loop-left.site) (g.S.Site.state c.raise.new.site) c.loop-left.invariant.looks (looked_answered c.in-Ok-false.field-0 _ c.args.found.now.log.geometry.pages c.loop-left.lengths.pages c.raise.new.self.pages (g.S.Site.state c.loop-left.site) (g.S.Site.state c.raise.new.site) c.in-Ok-false.ensures.looks)

pub returns-in-Err-clause-looks : goal.returns-in-Err-clause-looks
returns-in-Err-clause-looks g c =
    looked_then tt (Err c.in-Err.stop) c.args.found.now.log.geometry.pages c.args.lengths.now.pages c.loop-left.lengths.pages c.raise.new.self.pages (g.S.Site.state c.args.site.now) (g.S.Site.state c.loop-left.site) (g.S.Site.state c.raise.new.site) c.loop-left.invariant.looks (looked_failed c.in-Err.stop c.args.found.now.log.geometry.pages c.loop-left.lengths.pages c.raise.new.self.pages (g.S.Site.state c.loop-left.site) (g.S.Site.state c.raise.new.site) c.in-Err.ensures.looks.ends)

pub returns-clause-looks : goal.returns-clause-looks
returns-clause-looks g c = looked_answered tt None c.args.found.now.log.geometry.pages c.args.lengths.now.pages c.loop-left.lengths.pages (g.S.Site.state c.args.site.now) (g.S.Site.state c.loop-left.site) c.loop-left.invariant.looks
