use Rattle.image_check.proofs.Names.{rules, ◌≡◌, ◌*◌, ◌↔◌, ℕ, IsTrue, List, Err, true, true≢false, refl, sym, ap, ◌∙◌, subst, arith, AllByRecursion, list_all, IfOk, is_ok, kept_blocks, reading_of, records_of, IsKnownEarly, is_logged, Hears, few_more, few_then, AreVersions, logical_image_of, values_of, Place, looks_then, looks_answered, looks_failed, State, Image}
use Rattle.std.proofs.Common.{Result}
use Rattle.image_check.specs.declared.values.Logged.{Logged}
use Rattle.image_check.proofs.ShownOnes.{versions_later, AllHave, rule_logged, rule_early, rule_contents, rule_of}
use Rattle.image_check.proofs.Walking.{may_later, sees_later}
use Rattle.image_check.proofs.values.show_log.Goals as goal

pub returns-in-Some : goal.returns-in-Some
returns-in-Some g c = record {
  says = λ blocks sees found versions. record {
    fits = (
      λ wrong. absurd (true≢false (sym wrong)),
      λ rule.
          let old : State = g.S.Site.state c.args.site.now in
          let end : ℕ = c.sealed_end.result in
          let p = logical_image_of (reading_of c.args.found.now blocks) old.image in
          let logged = rule_logged p c.args.found.now.log.geometry old.image refl c.in-Ok.lsns.items (c.in-Ok.ensures.lsns found) end (c.sealed_end.ensures ∙ ap (λ (n : ℕ). 512 * n) sees.log.hi) rule in
          absurd (true≢false (sym (c.in-Some.ensures.1 (ap (list_all (is_logged end)) c.deref.ensures.value ∙ logged)))),
    );
    values = λ apart. tt;
  };
  reads = search rules;
  few = few_more 0 c.args.found.now.log.geometry.pages (1 * kept_blocks c.args.found.now) (2 * c.args.found.now.log.geometry.pages) (g.S.Site.state c.args.site.now) (g.S.Site.state c.version_lsns.new.site) (omega arith) (omega arith) c.in-Ok.ensures.looks;
}

pub of_log-requires : goal.of_log-requires
of_log-requires g c = may_later c.in-Ok.ensures.reads c.requires.may

pub returns-in-Ok-Err : goal.returns-in-Ok-Err
returns-in-Ok-Err g c = record {
  says = λ blocks sees found versions. record {
    fits = (
      λ wrong. absurd (true≢false (sym wrong)),
      λ rule.
          let old : State = g.S.Site.state c.args.site.now in
          let p = logical_image_of (reading_of c.args.found.now blocks) old.image in
          let early = rule_early p c.args.found.now.log.geometry old.image refl c.in-Ok.lsns.items (c.in-Ok.ensures.lsns found) rule in
          let says = c.in-Ok-Err.ensures.says blocks (sees_later c.in-Ok.ensures.reads sees) in
          let known = subst (λ (l : List ℕ). AllByRecursion (IsKnownEarly c.args.found.now.master.redo l) (records_of c.args.found.now blocks)) (sym c.deref-2.ensures.value) early in
          absurd (true≢false (sym (says.0.1 known) ∙ ap is_ok c.in-Ok-Err.field-0-is)),
    );
    values = λ apart. tt;
  };
  reads = looks_then c.in-Ok.lsns _ (g.S.Site.state c.args.site.now) (g.S.Site.state c.version_lsns.new.site) (g.S.Site.state c.of_log.new.site) c.in-Ok.ensures.reads
      (looks_answered c.in-Ok-Err.field-0 (Err c.in-Ok-Err.place) (g.S.Site.state c.version_lsns.new.site) (g.S.Site.state c.of_log.new.site) c.in-Ok-Err.ensures.reads);
  few = few_more (1 * kept_blocks c.args.found.now) c.args.found.now.log.geometry.pages (1 * kept_blocks c.args.found.now) (2 * c.args.found.now.log.geometry.pages) (g.S.Site.state c.args.site.now) (g.S.Site.state c.of_log.new.site) (omega arith) (omega arith) (few_then 0 c.args.found.now.log.geometry.pages (1 * kept_blocks c.args.found.now) 0 (1 * kept_blocks c.args.found.now) c.args.found.now.log.geometry.pages (g.S.Site.state c.args.site.now) (g.S.Site.state c.version_lsns.new.site) (g.S.Site.state c.of_log.new.site) (omega arith) (omega arith) c.in-Ok.ensures.looks c.in-Ok-Err.ensures.few);
}

pub count_pages-requires-clause-may : goal.count_pages-requires-clause-may
count_pages-requires-clause-may g c = may_later c.in-Ok-Ok.ensures.reads (may_later c.in-Ok.ensures.reads c.requires.may)

pub returns-in-Ok-count_pages : goal.returns-in-Ok-count_pages
returns-in-Ok-count_pages g c = record {
  says = λ blocks sees found versions.
      let sizes = c.args.found.now.log.geometry in
      let old : State = g.S.Site.state c.args.site.now in
      let now : State = g.S.Site.state c.version_lsns.new.site in
      let new : State = g.S.Site.state c.of_log.new.site in
      let lsns : List ℕ = c.in-Ok.lsns.items in
      let end : ℕ = c.sealed_end.result in
      let p = logical_image_of (reading_of c.args.found.now blocks) old.image in
      let records = records_of c.args.found.now blocks in
      let are = c.in-Ok.ensures.lsns found in
      let is : end ≡ 512 * p.hi = c.sealed_end.ensures ∙ ap (λ (n : ℕ). 512 * n) sees.log.hi in
      let logged : list_all (is_logged end) lsns ≡ true = ap (list_all (is_logged end)) (sym c.deref.ensures.value) ∙ c.in_default.ensures.0 refl in
      let found1 = versions_later c.in-Ok.ensures.reads found in
      let found2 = versions_later c.in-Ok-Ok.ensures.reads found1 in
      let later : new.image ≡ old.image = (c.in-Ok-Ok.ensures.reads.same found1.honest).image ∙ (c.in-Ok.ensures.reads.same found.honest).image in
      let says = c.in-Ok-Ok.ensures.says blocks (sees_later c.in-Ok.ensures.reads sees) in
      let heard : Hears c.args.found.now.master.redo lsns records c.in-Ok-Ok.logged records =
      subst (λ (l : List ℕ). Hears c.args.found.now.master.redo l records c.in-Ok-Ok.logged records) c.deref-2.ensures.value
      (subst (λ (r : Result Logged Place). IfOk r (λ x. Hears c.args.found.now.master.redo c.deref-2.result.now records x records)) c.in-Ok-Ok.field-0-is says.1) in
      let contents = c.in-Ok-Ok.logged.expected.contents in
      let sound = subst (AreVersions sizes) (sym later) versions in
      let counted = c.in-Ok-count_pages.answer in
      let shown : IsTrue (is_ok counted) ↔ AllHave contents sizes old.image = subst (λ (image : Image). IsTrue (is_ok counted) ↔ AllHave contents sizes image) later (c.in-Ok-count_pages.ensures.shown found2 sound) in
      record {
        fits = (
          λ yes. rule_of p sizes old.image refl lsns are end contents is logged heard.early heard.expected (shown.0 yes),
          λ rule. shown.1 (rule_contents p sizes old.image refl lsns are contents heard.expected rule),
        );
        values = λ apart. subst (λ (image : Image). IfOk counted (λ count. count ≡ values_of (logical_image_of (reading_of c.args.found.now blocks) image))) later
            (c.in-Ok-count_pages.ensures.values records found2 sound (heard.written apart));
      };
  reads = looks_then c.in-Ok-Ok.field-0 _ (g.S.Site.state c.args.site.now) (g.S.Site.state c.of_log.new.site) (g.S.Site.state c.count_pages.new.site)
      (looks_then c.in-Ok.lsns _ (g.S.Site.state c.args.site.now) (g.S.Site.state c.version_lsns.new.site) (g.S.Site.state c.of_log.new.site) c.in-Ok.ensures.reads c.in-Ok-Ok.ensures.reads) c.in-Ok-count_pages.ensures.reads;
  few = few_then (1 * kept_blocks c.args.found.now) c.args.found.now.log.geometry.pages 0 c.args.found.now.log.geometry.pages (1 * kept_blocks c.args.found.now) (2 * c.args.found.now.log.geometry.pages) (g.S.Site.state c.args.site.now) (g.S.Site.state c.of_log.new.site) (g.S.Site.state c.count_pages.new.site) (omega arith) (omega arith) (few_then 0 c.args.found.now.log.geometry.pages (1 * kept_blocks c.args.found.now) 0 (1 * kept_blocks c.args.found.now) c.args.found.now.log.geometry.pages (g.S.Site.state c.args.site.now) (g.S.Site.state c.version_lsns.new.site) (g.S.Site.state c.of_log.new.site) (omega arith) (omega arith) c.in-Ok.ensures.looks c.in-Ok-Ok.ensures.few) c.in-Ok-count_pages.ensures.looks;
}

pub returns : goal.returns
returns g c = record {
  says = tt;
  reads = looks_then c.in-Ok-Ok.field-0 _ (g.S.Site.state c.args.site.now) (g.S.Site.state c.of_log.new.site) (g.S.Site.state c.count_pages.new.site)
      (looks_then c.in-Ok.lsns _ (g.S.Site.state c.args.site.now) (g.S.Site.state c.version_lsns.new.site) (g.S.Site.state c.of_log.new.site) c.in-Ok.ensures.reads c.in-Ok-Ok.ensures.reads) c.in-Err-count_pages.ensures.reads;
  few = few_then (1 * kept_blocks c.args.found.now) c.args.found.now.log.geometry.pages 0 c.args.found.now.log.geometry.pages (1 * kept_blocks c.args.found.now) (2 * c.args.found.now.log.geometry.pages) (g.S.Site.state c.args.site.now) (g.S.Site.state c.of_log.new.site) (g.S.Site.state c.count_pages.new.site) (omega arith) (omega arith) (few_then 0 c.args.found.now.log.geometry.pages (1 * kept_blocks c.args.found.now) 0 (1 * kept_blocks c.args.found.now) c.args.found.now.log.geometry.pages (g.S.Site.state c.args.site.now) (g.S.Site.state c.version_lsns.new.site) (g.S.Site.state c.of_log.new.site) (omega arith) (omega arith) c.in-Ok.ensures.looks c.in-Ok-Ok.ensures.few) c.in-Err-count_pages.ensures.looks;
}

pub returns-in-Err : goal.returns-in-Err
returns-in-Err g c = record { says = tt; reads = looks_failed c.in-Err.stop _ _ c.in-Err.ensures.reads; few = few_more 0 c.args.found.now.log.geometry.pages (1 * kept_blocks c.args.found.now) (2 * c.args.found.now.log.geometry.pages) (g.S.Site.state c.args.site.now) (g.S.Site.state c.version_lsns.new.site) (omega arith) (omega arith) c.in-Err.ensures.looks }

pub returns-in-Err-of_log : goal.returns-in-Err-of_log
returns-in-Err-of_log g c = record {
  says = tt;
  reads = looks_then c.in-Ok.lsns _ (g.S.Site.state c.args.site.now) (g.S.Site.state c.version_lsns.new.site) (g.S.Site.state c.of_log.new.site) c.in-Ok.ensures.reads (looks_failed c.in-Err-of_log.stop (g.S.Site.state c.version_lsns.new.site) (g.S.Site.state c.of_log.new.site) c.in-Err-of_log.ensures.reads);
  few = few_more (1 * kept_blocks c.args.found.now) c.args.found.now.log.geometry.pages (1 * kept_blocks c.args.found.now) (2 * c.args.found.now.log.geometry.pages) (g.S.Site.state c.args.site.now) (g.S.Site.state c.of_log.new.site) (omega arith) (omega arith) (few_then 0 c.args.found.now.log.geometry.pages (1 * kept_blocks c.args.found.now) 0 (1 * kept_blocks c.args.found.now) c.args.found.now.log.geometry.pages (g.S.Site.state c.args.site.now) (g.S.Site.state c.version_lsns.new.site) (g.S.Site.state c.of_log.new.site) (omega arith) (omega arith) c.in-Ok.ensures.looks c.in-Err-of_log.ensures.few);
}
