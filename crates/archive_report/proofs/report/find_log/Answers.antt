use Rattle.archive_report.proofs.Names.{◌≡◌, ◌∙◌, subst, Option, Some, IfSome, IsUsable, Ring, goes_in_sequence, lengths_later}
use Rattle.archive_report.proofs.report.find_log.Goals as goal

some_is : (o : Option Ring) (x : Ring) (P : Ring → Type 0) → o ≡ Some x → IfSome o P → P x
some_is o x P is p = subst (λ (o : Option Ring). IfSome o P) is p

pub returns-in-Ok-Some-clause-ring : goal.returns-in-Ok-Some-clause-ring
returns-in-Ok-Some-clause-ring g c =
    let old = g.S.Site.state c.args.site.now in
    let mid = g.S.Site.state c.sync.new.self in
    let new = g.S.Site.state c.judge.new.site in
    record {
      g = c.in-Some.geometry;
      limits = c.in-Some.ensures.sizes.0;
      lengths = lengths_later c.in-Some.geometry old new (goes_in_sequence old mid new c.sync.ensures.preserves c.judge.ensures.reads.preserves) c.in-Some.ensures.sizes.1;
      shape = some_is c.in-Ok-Some.field-0 c.in-Ok-Some.ring (λ (r : Ring). r.shape ≡ c.shape_of.result) c.in-Ok-Some.field-0-is c.in-Ok-Some.ensures.shape ∙ c.shape_of.ensures;
      usable = some_is c.in-Ok-Some.field-0 c.in-Ok-Some.ring (λ (r : Ring). IsUsable r new) c.in-Ok-Some.field-0-is c.in-Ok-Some.ensures.usable;
    }
