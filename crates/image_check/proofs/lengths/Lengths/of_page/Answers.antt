use Rattle.image_check.proofs.Names.{◌≡◌, ◌<◌, ℕ, nat_eq, Some, None, option_copied, length, true≢false, sym, ap, ◌∙◌, subst, arith, cond, Option, AreKeptOn, without, PageLengths, few_more, ReadsAtMost, length-versions, version_is, versions_on, get, content_at, length_of, Geometry, IsSound, lsn_of, slots_of}
use Rattle.std.proofs.Common.{is_some}
use Rattle.std.specs.Prelude.{List, slice_index_or}
use Rattle.image_check.proofs.Looks.{lacks_few}
use Rattle.image_check.proofs.FilledOnes.{of_version}
use Rattle.image_check.proofs.lengths.Lengths.of_page.Goals as goal

pub returns-then-page-geometry-clause-lengths : goal.returns-then-page-geometry-clause-lengths
returns-then-page-geometry-clause-lengths g c lengths finds versions kept =
    let geometry = c.args.found.now.log.geometry in
    omega (arith, c.if-page-geometry.true, ap (λ (k : Geometry). k.pages) c.geometry.ensures, length-versions geometry (g.S.Site.state c.args.site.now).image)

pub returns-in-Some-clause-lengths : goal.returns-in-Some-clause-lengths
returns-in-Some-clause-lengths g c lengths finds versions kept =
    let geometry = c.args.found.now.log.geometry in
    let image = (g.S.Site.state c.args.site.now).image in
    let less : c.args.page < length (versions_on geometry image) = omega (arith, c.if-page-geometry.false, ap (λ (k : Geometry). k.pages) c.geometry.ensures, length-versions geometry image) in
    let there : get nat_eq c.args.self.now.pages c.args.page ≡ Some c.in-Some.lengths.now = sym c.get.ensures.value ∙ ap option_copied c.in-Some.is in
    (less, subst (AreKeptOn (versions_on geometry image) lengths c.args.page) there (kept.each c.args.page less))

pub returns-then-not-sound-clause-lengths : goal.returns-then-not-sound-clause-lengths
returns-then-not-sound-clause-lengths g c lengths finds versions kept =
    let geometry = c.args.found.now.log.geometry in
    let sound = subst IsSound (sym (c.in-Ok.ensures.version finds)) (versions c.args.page (omega (arith, c.if-page-geometry.false, ap (λ (k : Geometry). k.pages) c.geometry.ensures))) in
    absurd (true≢false (sym (c.sound.ensures.1 sound) ∙ c.if-not-sound.true))

pub returns-clause-lengths : goal.returns-clause-lengths
returns-clause-lengths g c lengths finds versions kept =
    let geometry = c.args.found.now.log.geometry in
    let image = (g.S.Site.state c.args.site.now).image in
    let within : c.args.page < geometry.pages = omega (arith, c.if-page-geometry.false, ap (λ (k : Geometry). k.pages) c.geometry.ensures) in
    let less : c.args.page < length (versions_on geometry image) = omega (arith, within, length-versions geometry image) in
    let there : get nat_eq c.args.self.now.pages c.args.page ≡ None = sym c.get.ensures.value ∙ ap option_copied c.in_default.is in
    let version = c.in-Ok.ensures.version finds in (
      less,
      of_version (versions_on geometry image) c.args.page _ lengths c.of.result (version_is geometry image c.args.page within) (c.of.ensures.lsn ∙ ap lsn_of version)
          (λ slot low. subst (λ (octets : List ℕ). slice_index_or c.of.result.lengths slot 0 ≡ length_of (content_at (slots_of octets) slot)) version (c.of.ensures.lengths slot low))
          (subst (AreKeptOn (versions_on geometry image) lengths c.args.page) there (kept.each c.args.page less)),
    )

pub returns-in-Some-clause-some : goal.returns-in-Some-clause-some
returns-in-Some-clause-some g c = (omega (arith, c.if-page-geometry.false, ap (λ (k : Geometry). k.pages) c.geometry.ensures), record { log = omega arith; pages = omega arith })

pub returns-then-not-sound-clause-some : goal.returns-then-not-sound-clause-some
returns-then-not-sound-clause-some g c = (omega (arith, c.if-page-geometry.false, ap (λ (k : Geometry). k.pages) c.geometry.ensures), subst (λ (o : Option PageLengths). ReadsAtMost 0 (cond (is_some o) 0 1) (g.S.Site.state c.args.site.now) (g.S.Site.state c.version_of.new.site)) (sym (sym c.get.ensures.value ∙ ap option_copied c.in_default.is)) c.version_of.ensures.looks)

pub returns-clause-some : goal.returns-clause-some
returns-clause-some g c = (omega (arith, c.if-page-geometry.false, ap (λ (k : Geometry). k.pages) c.geometry.ensures), subst (λ (o : Option PageLengths). ReadsAtMost 0 (cond (is_some o) 0 1) (g.S.Site.state c.args.site.now) (g.S.Site.state c.version_of.new.site)) (sym (sym c.get.ensures.value ∙ ap option_copied c.in_default.is)) c.version_of.ensures.looks)

pub returns-in-Err-clause-looks : goal.returns-in-Err-clause-looks
returns-in-Err-clause-looks g c = few_more 0 (cond (is_some (get nat_eq c.args.self.now.pages c.args.page)) 0 1) 0 (without c.args.self.now.pages c.args.found.now.log.geometry.pages) (g.S.Site.state c.args.site.now) (g.S.Site.state c.version_of.new.site) (omega arith) (lacks_few c.args.self.now.pages c.args.page c.args.found.now.log.geometry.pages (omega (arith, c.if-page-geometry.false, ap (λ (k : Geometry). k.pages) c.geometry.ensures))) (subst (λ (o : Option PageLengths). ReadsAtMost 0 (cond (is_some o) 0 1) (g.S.Site.state c.args.site.now) (g.S.Site.state c.version_of.new.site)) (sym (sym c.get.ensures.value ∙ ap option_copied c.in_default.is)) c.version_of.ensures.looks)

pub returns-then-not-sound-clause-looks : goal.returns-then-not-sound-clause-looks
returns-then-not-sound-clause-looks g c = few_more 0 (cond (is_some (get nat_eq c.args.self.now.pages c.args.page)) 0 1) 0 (without c.args.self.now.pages c.args.found.now.log.geometry.pages) (g.S.Site.state c.args.site.now) (g.S.Site.state c.version_of.new.site) (omega arith) (lacks_few c.args.self.now.pages c.args.page c.args.found.now.log.geometry.pages (omega (arith, c.if-page-geometry.false, ap (λ (k : Geometry). k.pages) c.geometry.ensures))) (subst (λ (o : Option PageLengths). ReadsAtMost 0 (cond (is_some o) 0 1) (g.S.Site.state c.args.site.now) (g.S.Site.state c.version_of.new.site)) (sym (sym c.get.ensures.value ∙ ap option_copied c.in_default.is)) c.version_of.ensures.looks)

pub returns-clause-looks : goal.returns-clause-looks
returns-clause-looks g c = few_more 0 (cond (is_some (get nat_eq c.args.self.now.pages c.args.page)) 0 1) 0 (without c.args.self.now.pages c.args.found.now.log.geometry.pages) (g.S.Site.state c.args.site.now) (g.S.Site.state c.version_of.new.site) (omega arith) (lacks_few c.args.self.now.pages c.args.page c.args.found.now.log.geometry.pages (omega (arith, c.if-page-geometry.false, ap (λ (k : Geometry). k.pages) c.geometry.ensures))) (subst (λ (o : Option PageLengths). ReadsAtMost 0 (cond (is_some o) 0 1) (g.S.Site.state c.args.site.now) (g.S.Site.state c.version_of.new.site)) (sym (sym c.get.ensures.value ∙ ap option_copied c.in_default.is)) c.version_of.ensures.looks)
