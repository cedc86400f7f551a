use Rattle.image_check.proofs.Names.{◌≡◌, ◌==◌, ◌++◌, ◌∷◌, [], ℕ, List, true, true≢false, map, nat_eq, reverse, refl, rules, sym, ap, ◌∙◌, subst, Err, arith, AllByRecursion, list_any, AreKept, HaveRoom, Opens, left_in, opened, put_back_by, Chains, AreVersions, versions_on, get, Left, Entry, left_open, losers, looks_then, looks_answered, State, Image}
use Rattle.std.proofs.Common.{is_none, Ok}
use Rattle.std.specs.Prelude.{Some}
use Rattle.image_check.proofs.Looks.{looked_none, looked_failed, looked_answered, looked_then}
use Rattle.image_check.proofs.FilledOnes.{Leaving, leaving_first, leaving_chain, chain_fails, left_room, left_txns, all_listed}
use Rattle.image_check.proofs.ShownOnes.{versions_later}
use Rattle.image_check.proofs.Walking.{may_later}
use Rattle.image_check.proofs.filling.find_crowded.Goals as goal

pub loop-txn-init : goal.loop-txn-init
loop-txn-init g c = record {
  may = c.requires.may;
  leaving = λ log finds versions left keeps kept room.
      let same : map (λ (e : ℕ × Left). e.0) c.into_iter-txn-iterator.result ≡ losers log = ap (map (λ (e : ℕ × Left). e.0)) c.into_iter-txn-iterator.ensures.into_iter_gives.0 ∙ left_txns log c.args.left.now.left left in (
        leaving_first log _ (put_back_by log (losers log)) [] (put_back_by log (map (λ (e : ℕ × Left). e.0) c.into_iter-txn-iterator.result)) c.args.filling.lengths.pages (sym (ap (put_back_by log) same)) kept room,
        subst (AllByRecursion (λ n. list_any (λ m. m == n) (losers log) ≡ true)) (sym same) (all_listed (losers log)),
      );
  chains = refl;
  looks = looked_none tt c.args.found.now.log.geometry.pages c.args.filling.lengths.pages (g.S.Site.state c.args.site.now) (g.S.Site.state c.args.site.now) (record { log = omega arith; pages = omega arith });
  reads = search rules;
}

pub raise_all-requires-clause-may : goal.raise_all-requires-clause-may
raise_all-requires-clause-may g c = c.loop-txn.invariant.may

pub loop-txn-preserved : goal.loop-txn-preserved
loop-txn-preserved g c =
    let old : State = g.S.Site.state c.args.site.now in
    let now : State = g.S.Site.state c.loop-txn.site in
    let next : State = g.S.Site.state c.raise_all.new.site in
    let geometry = c.args.found.now.log.geometry in
    let reads = c.loop-txn.invariant.reads in
    record {
      may = may_later c.in-Ok-None.ensures.reads c.loop-txn.invariant.may;
      leaving = λ log finds versions left keeps kept room.
          let same : now.image ≡ old.image = (reads.same finds.honest).image in
          let pages = versions_on geometry old.image in
          let steps = ap (map (λ (e : ℕ × Left). e.0)) c.in-Some.ensures.steps in
          let both = c.loop-txn.invariant.leaving log finds versions left keeps kept room in
          let listed = subst (AllByRecursion (λ n. list_any (λ m. m == n) (losers log) ≡ true)) steps both.1 in
          let at : Leaving log pages (put_back_by log (losers log)) (put_back_by log (c.in-Some.txn.now ∷ map (λ (e : ℕ × Left). e.0) c.next.new.self)) c.loop-txn.filling.lengths.pages =
          subst (λ (ts : List ℕ). Leaving log pages (put_back_by log (losers log)) (put_back_by log ts) c.loop-txn.filling.lengths.pages) steps both.0 in
          let own : reverse c.left_of-updates.result.now ≡ map (λ (u : Entry). u.rec) (left_open log c.in-Some.txn.now) =
          c.left_of-updates.ensures ∙ ap (λ (x : Chains). left_in (get nat_eq x.chains c.in-Some.txn.now)) c.loop-txn.invariant.chains ∙ keeps c.in-Some.txn.now listed.0 in
          let opens = subst (λ (image : Image). AreKept (versions_on geometry image) (opened log (versions_on geometry image) at.done) c.loop-txn.filling.lengths.pages → HaveRoom (versions_on geometry image) (opened log (versions_on geometry image) at.done) →
          Opens log (versions_on geometry image) (at.done ++ reverse c.left_of-updates.result.now) c.raise_all.new.lengths.pages c.in-Ok-None.field-0) same
          (c.in-Ok-None.ensures.opens log at.done (versions_later reads finds) (subst (AreVersions geometry) (sym same) versions)) at.kept_so at.room in
          (leaving_chain log pages (put_back_by log (losers log)) c.in-Some.txn.now _ (reverse c.left_of-updates.result.now) c.loop-txn.filling.lengths.pages c.raise_all.new.lengths.pages at own c.in-Ok-None.field-0 (ap is_none c.in-Ok-None.field-0-is) opens, listed.1);
      chains = c.loop-txn.invariant.chains;
      looks = looked_then tt (Ok tt) c.args.found.now.log.geometry.pages c.args.filling.lengths.pages c.loop-txn.filling.lengths.pages c.raise_all.new.lengths.pages old now next c.loop-txn.invariant.looks (looked_answered c.in-Ok-None.field-0 tt c.args.found.now.log.geometry.pages c.loop-txn.filling.lengths.pages c.raise_all.new.lengths.pages now next c.in-Ok-None.ensures.looks);
      reads = looks_then tt _ old now next reads (looks_answered c.in-Ok-None.field-0 tt now next c.in-Ok-None.ensures.reads);
    }

pub returns-in-Ok-Some-clause-crowded : goal.returns-in-Ok-Some-clause-crowded
returns-in-Ok-Some-clause-crowded g c log finds versions left keeps kept room =
    let old : State = g.S.Site.state c.args.site.now in
    let now : State = g.S.Site.state c.loop-txn.site in
    let geometry = c.args.found.now.log.geometry in
    let reads = c.loop-txn.invariant.reads in
    let same : now.image ≡ old.image = (reads.same finds.honest).image in
    let pages = versions_on geometry old.image in
    let steps = ap (map (λ (e : ℕ × Left). e.0)) c.in-Some.ensures.steps in
    let both = c.loop-txn.invariant.leaving log finds versions left keeps kept room in
    let listed = subst (AllByRecursion (λ n. list_any (λ m. m == n) (losers log) ≡ true)) steps both.1 in
    let at : Leaving log pages (put_back_by log (losers log)) (put_back_by log (c.in-Some.txn.now ∷ map (λ (e : ℕ × Left). e.0) c.next.new.self)) c.loop-txn.filling.lengths.pages =
    subst (λ (ts : List ℕ). Leaving log pages (put_back_by log (losers log)) (put_back_by log ts) c.loop-txn.filling.lengths.pages) steps both.0 in
    let own : reverse c.left_of-updates.result.now ≡ map (λ (u : Entry). u.rec) (left_open log c.in-Some.txn.now) =
    c.left_of-updates.ensures ∙ ap (λ (x : Chains). left_in (get nat_eq x.chains c.in-Some.txn.now)) c.loop-txn.invariant.chains ∙ keeps c.in-Some.txn.now listed.0 in
    let opens = subst (λ (image : Image). AreKept (versions_on geometry image) (opened log (versions_on geometry image) at.done) c.loop-txn.filling.lengths.pages → HaveRoom (versions_on geometry image) (opened log (versions_on geometry image) at.done) →
    Opens log (versions_on geometry image) (at.done ++ reverse c.left_of-updates.result.now) c.raise_all.new.lengths.pages c.in-Ok-Some.field-0) same
    (c.in-Ok-Some.ensures.opens log at.done (versions_later reads finds) (subst (AreVersions geometry) (sym same) versions)) at.kept_so at.room in (
      λ wrong. absurd (true≢false (sym wrong)),
      λ all. absurd (chain_fails log pages (put_back_by log (losers log)) c.in-Some.txn.now _ (reverse c.left_of-updates.result.now) c.loop-txn.filling.lengths.pages c.raise_all.new.lengths.pages at own c.in-Ok-Some.field-0 (ap is_none c.in-Ok-Some.field-0-is) opens all),
    )

pub returns-in-Ok-Some-clause-reads : goal.returns-in-Ok-Some-clause-reads
returns-in-Ok-Some-clause-reads g c =
    let now : State = g.S.Site.state c.loop-txn.site in
    let next : State = g.S.Site.state c.raise_all.new.site in
    looks_then tt _ _ now next c.loop-txn.invariant.reads (looks_answered c.in-Ok-Some.field-0 (Some c.in-Ok-Some.place) now next c.in-Ok-Some.ensures.reads)

pub returns-in-Err-clause-reads : goal.returns-in-Err-clause-reads
returns-in-Err-clause-reads g c = looks_then tt _ _ (g.S.Site.state c.loop-txn.site) (g.S.Site.state c.raise_all.new.site) c.loop-txn.invariant.reads c.in-Err.ensures.reads

pub returns-clause-crowded : goal.returns-clause-crowded
returns-clause-crowded g c log finds versions left keeps kept room =
    let pages = versions_on c.args.found.now.log.geometry (g.S.Site.state c.args.site.now).image in
    let both = c.loop-txn.invariant.leaving log finds versions left keeps kept room in
    let at : Leaving log pages (put_back_by log (losers log)) [] c.loop-txn.filling.lengths.pages = subst (λ (ts : List ℕ). Leaving log pages (put_back_by log (losers log)) (put_back_by log ts) c.loop-txn.filling.lengths.pages) (ap (map (λ (e : ℕ × Left). e.0)) c.in-None.ensures.steps.0) both.0 in
    (λ good. left_room log pages (put_back_by log (losers log)) c.loop-txn.filling.lengths.pages at, λ all. refl)

pub returns-in-Ok-Some-clause-looks : goal.returns-in-Ok-Some-clause-looks
returns-in-Ok-Some-clause-looks g c = (looked_then tt (Ok c.in-Ok-Some.field-0) c.args.found.now.log.geometry.pages c.args.filling.lengths.pages c.loop-txn.filling.lengths.pages c.raise_all.new.lengths.pages (g.S.Site.state c.args.site.now) (g.S.Site.state c.loop-txn.site) (g.S.Site.state c.raise_all.new.site) c.loop-txn.invariant.looks c.in-Ok-Some.ensures.looks).ends

pub returns-in-Err-clause-looks : goal.returns-in-Err-clause-looks
returns-in-Err-clause-looks g c = (looked_then {B = Unit {0}} tt (Err c.in-Err.stop) c.args.found.now.log.geometry.pages c.args.filling.lengths.pages c.loop-txn.filling.lengths.pages c.raise_all.new.lengths.pages (g.S.Site.state c.args.site.now) (g.S.Site.state c.loop-txn.site) (g.S.Site.state c.raise_all.new.site) c.loop-txn.invariant.looks (looked_failed c.in-Err.stop c.args.found.now.log.geometry.pages c.loop-txn.filling.lengths.pages c.raise_all.new.lengths.pages (g.S.Site.state c.loop-txn.site) (g.S.Site.state c.raise_all.new.site) c.in-Err.ensures.looks.ends)).ends

pub returns-clause-looks : goal.returns-clause-looks
returns-clause-looks g c = c.loop-txn.invariant.looks.ends
