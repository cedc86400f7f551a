use Rattle.image_form.proofs.Names.{rules, subst, ◌+◌, ◌*◌, arith, Option, Result, Ok, Err, log_to_find, pages_to_find, SizesAre, RingsAre, HasSizes, AreRings, Found, Place, Rings, looks_then, looks_answered, State, Geometry}
use Rattle.image_form.proofs.Counts.{by_no_sizes, by_sizes, few_more, few_then}
use Rattle.image_form.proofs.Lasting.{sizes_later}
use Rattle.image_form.proofs.FirstRule.{one_size}
use Rattle.image_form.specs.declared.place.Place.TheVariants as place
use Rattle.image_form.proofs.formed.find.Goals as goal

pub find_log-requires : goal.find_log-requires
find_log-requires g c =
    let s0 : State = g.S.Site.state c.args.site.now in
    let s1 : State = g.S.Site.state c.rule_rings.new.site in
    let s2 : State = g.S.Site.state c.rule_master.new.site in
    let sizes : HasSizes c.in-Some.geometry s0.image = subst (λ (o : Option Geometry). SizesAre o s0.image) c.in-Some.is c.rule_lengths.ensures in
    sizes_later c.in-Some.geometry s1 s2 c.in_ok-master.ensures.reads.preserves (sizes_later c.in-Some.geometry s0 s1 c.in_ok-rings.ensures.reads.preserves sizes)

pub returns-in-Err-clause-found : goal.returns-in-Err-clause-found
returns-in-Err-clause-found g c honest =
    let geometry = c.in-Some.geometry in
    let s0 : State = g.S.Site.state c.args.site.now in
    let s1 : State = g.S.Site.state c.rule_rings.new.site in
    let sizes : HasSizes geometry s0.image = subst (λ (o : Option Geometry). SizesAre o s0.image) c.in-Some.is c.rule_lengths.ensures in
    let sizes1 : HasSizes geometry s1.image = sizes_later geometry s0 s1 c.in_ok-rings.ensures.reads.preserves sizes in
    let none : AreRings geometry s1.image → ⊥ = subst (λ (o : Result Rings Place). RingsAre geometry o s1) c.in-Err.is (c.in_ok-rings.ensures.rings honest) in
    λ other m formed. none (subst (λ (x : Geometry). AreRings x s1.image) (one_size other geometry s1.image formed.sizes sizes1) formed.rings)

pub returns-in_default-2-clause-reads : goal.returns-in_default-2-clause-reads
returns-in_default-2-clause-reads g c =
    let answer : Result Found Place = Err place.Master in
    looks_then c.in_ok-rings.field-0 (Ok answer) _ _ _ c.in_ok-rings.ensures.reads (looks_answered c.in_ok-master.field-0 answer _ _ c.in_ok-master.ensures.reads)

pub returns-in_err-log-clause-reads : goal.returns-in_err-log-clause-reads
returns-in_err-log-clause-reads g c =
    looks_then c.in_ok-rings.field-0 c.from_residual-in_err-log.result _ _ _ c.in_ok-rings.ensures.reads
    (looks_then c.in_ok-master.field-0 c.from_residual-in_err-log.result _ _ _ c.in_ok-master.ensures.reads (search rules))

pub returns-in_default-3-clause-reads : goal.returns-in_default-3-clause-reads
returns-in_default-3-clause-reads g c =
    let answer : Result Found Place = Err place.Blocks in
    looks_then c.in_ok-rings.field-0 (Ok answer) _ _ _ c.in_ok-rings.ensures.reads
    (looks_then c.in_ok-master.field-0 (Ok answer) _ _ _ c.in_ok-master.ensures.reads (looks_answered c.in_ok-log.field-0 answer _ _ c.in_ok-log.ensures.reads))

pub returns-clause-reads : goal.returns-clause-reads
returns-clause-reads g c =
    let found : Found = record { rings = c.in-Ok.rings; master = c.in-Some-2.master; log = c.in-Some-3.log } in
    let answer : Result Found Place = Ok found in
    looks_then c.in_ok-rings.field-0 (Ok answer) _ _ _ c.in_ok-rings.ensures.reads
    (looks_then c.in_ok-master.field-0 (Ok answer) _ _ _ c.in_ok-master.ensures.reads (looks_answered c.in_ok-log.field-0 answer _ _ c.in_ok-log.ensures.reads))

pub returns-in_default-clause-looks : goal.returns-in_default-clause-looks
returns-in_default-clause-looks g c =
    let old : State = g.S.Site.state c.args.site.now in
    by_no_sizes log_to_find pages_to_find old (subst (λ (o : Option Geometry). SizesAre o old.image) c.in_default.is c.rule_lengths.ensures)

pub returns-in_err-rings-clause-looks : goal.returns-in_err-rings-clause-looks
returns-in_err-rings-clause-looks g c =
    let geometry = c.in-Some.geometry in
    let old : State = g.S.Site.state c.args.site.now in
    let sizes : HasSizes geometry old.image = subst (λ (o : Option Geometry). SizesAre o old.image) c.in-Some.is c.rule_lengths.ensures in
    by_sizes log_to_find pages_to_find geometry old (g.S.Site.state c.rule_rings.new.site) sizes (few_more (2 * geometry.blocks + 6) (pages_to_find geometry) (log_to_find geometry) (pages_to_find geometry) _ _ (omega arith) (omega arith) c.rule_rings.ensures.looks)

pub returns-in-Err-clause-looks : goal.returns-in-Err-clause-looks
returns-in-Err-clause-looks g c =
    let geometry = c.in-Some.geometry in
    let old : State = g.S.Site.state c.args.site.now in
    let sizes : HasSizes geometry old.image = subst (λ (o : Option Geometry). SizesAre o old.image) c.in-Some.is c.rule_lengths.ensures in
    by_sizes log_to_find pages_to_find geometry old (g.S.Site.state c.rule_rings.new.site) sizes (few_more (2 * geometry.blocks + 6) (pages_to_find geometry) (log_to_find geometry) (pages_to_find geometry) _ _ (omega arith) (omega arith) c.rule_rings.ensures.looks)

pub returns-in_err-master-clause-looks : goal.returns-in_err-master-clause-looks
returns-in_err-master-clause-looks g c =
    let geometry = c.in-Some.geometry in
    let old : State = g.S.Site.state c.args.site.now in
    let sizes : HasSizes geometry old.image = subst (λ (o : Option Geometry). SizesAre o old.image) c.in-Some.is c.rule_lengths.ensures in
    by_sizes log_to_find pages_to_find geometry old (g.S.Site.state c.rule_master.new.site) sizes (few_then (2 * geometry.blocks + 6) (pages_to_find geometry) 5 0 (log_to_find geometry) (pages_to_find geometry) _ _ _ (omega arith) (omega arith)
    c.rule_rings.ensures.looks c.rule_master.ensures.looks)

pub returns-in_default-2-clause-looks : goal.returns-in_default-2-clause-looks
returns-in_default-2-clause-looks g c =
    let geometry = c.in-Some.geometry in
    let old : State = g.S.Site.state c.args.site.now in
    let sizes : HasSizes geometry old.image = subst (λ (o : Option Geometry). SizesAre o old.image) c.in-Some.is c.rule_lengths.ensures in
    by_sizes log_to_find pages_to_find geometry old (g.S.Site.state c.rule_master.new.site) sizes (few_then (2 * geometry.blocks + 6) (pages_to_find geometry) 5 0 (log_to_find geometry) (pages_to_find geometry) _ _ _ (omega arith) (omega arith)
    c.rule_rings.ensures.looks c.rule_master.ensures.looks)

pub returns-in_err-log-clause-looks : goal.returns-in_err-log-clause-looks
returns-in_err-log-clause-looks g c =
    let geometry = c.in-Some.geometry in
    let old : State = g.S.Site.state c.args.site.now in
    let sizes : HasSizes geometry old.image = subst (λ (o : Option Geometry). SizesAre o old.image) c.in-Some.is c.rule_lengths.ensures in
    by_sizes log_to_find pages_to_find geometry old (g.S.Site.state c.find_log.new.site) sizes (few_then (2 * geometry.blocks + 11) (pages_to_find geometry) (geometry.blocks + 1) 0 (log_to_find geometry) (pages_to_find geometry) _ _ _ (omega arith) (omega arith)
    (few_then (2 * geometry.blocks + 6) (pages_to_find geometry) 5 0 (2 * geometry.blocks + 11) (pages_to_find geometry) _ _ _ (omega arith) (omega arith) c.rule_rings.ensures.looks c.rule_master.ensures.looks)
    c.find_log.ensures.looks)

pub returns-in_default-3-clause-looks : goal.returns-in_default-3-clause-looks
returns-in_default-3-clause-looks g c =
    let geometry = c.in-Some.geometry in
    let old : State = g.S.Site.state c.args.site.now in
    let sizes : HasSizes geometry old.image = subst (λ (o : Option Geometry). SizesAre o old.image) c.in-Some.is c.rule_lengths.ensures in
    by_sizes log_to_find pages_to_find geometry old (g.S.Site.state c.find_log.new.site) sizes (few_then (2 * geometry.blocks + 11) (pages_to_find geometry) (geometry.blocks + 1) 0 (log_to_find geometry) (pages_to_find geometry) _ _ _ (omega arith) (omega arith)
    (few_then (2 * geometry.blocks + 6) (pages_to_find geometry) 5 0 (2 * geometry.blocks + 11) (pages_to_find geometry) _ _ _ (omega arith) (omega arith) c.rule_rings.ensures.looks c.rule_master.ensures.looks)
    c.find_log.ensures.looks)

pub returns-clause-looks : goal.returns-clause-looks
returns-clause-looks g c =
    let geometry = c.in-Some.geometry in
    let old : State = g.S.Site.state c.args.site.now in
    let sizes : HasSizes geometry old.image = subst (λ (o : Option Geometry). SizesAre o old.image) c.in-Some.is c.rule_lengths.ensures in
    by_sizes log_to_find pages_to_find geometry old (g.S.Site.state c.find_log.new.site) sizes (few_then (2 * geometry.blocks + 11) (pages_to_find geometry) (geometry.blocks + 1) 0 (log_to_find geometry) (pages_to_find geometry) _ _ _ (omega arith) (omega arith)
    (few_then (2 * geometry.blocks + 6) (pages_to_find geometry) 5 0 (2 * geometry.blocks + 11) (pages_to_find geometry) _ _ _ (omega arith) (omega arith) c.rule_rings.ensures.looks c.rule_master.ensures.looks)
    c.find_log.ensures.looks)
