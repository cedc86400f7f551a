-- Input is asked for within a line.
use Rattle.std.proofs.Common.{◌≡◌, ◌≢◌, ℕ, List, ◌++◌, length, ◌<◌, sym, ◌∙◌, ap, arith, append_assoc, length-append}
use Rattle.std.proofs.lemmas.List.{length-take}
use Rattle.std_lemmas.proofs.AllOf.{all_append, all_weaker}
use Rattle.site.specs.State.{State as Site}
use Rattle.site.specs.declared.outside.Take.{Take}
use Rattle.stream_lines.specs.declared.source.Source.{Source}
use Rattle.stream_lines.specs.Lines.{long, pending, to_hear, TookWithin, TakesWithin}
use Rattle.stream_lines.proofs.LineOctets.{HeardSoFar}

-- octets of the line were heard, and then input was asked for again
pub takes_then : (source source' : Source) (old mid new : Site) (line : List ℕ) (turns : ℕ) → HeardSoFar (to_hear source old) (to_hear source' mid) line turns → length line < long → mid.told ≡ old.told → source'.ended ≡ source.ended
    → TakesWithin long source old mid → TakesWithin 1 source' mid new → TakesWithin long source old new
takes_then source source' old mid new line turns h room told same first second = record {
  takes = first.takes ++ second.takes;
  are = second.are ∙ ap (λ (l : List Take). l ++ second.takes) first.are ∙ append_assoc old.input.takes first.takes second.takes;
  within = all_append (TookWithin long source old) first.takes second.takes first.within (all_weaker (TookWithin 1 source' mid) (TookWithin long source old) later second.takes second.within);
  count = second.count ∙ first.count;
}
  where
    later : (t : Take) → TookWithin 1 source' mid t → TookWithin long source old t
    later t took = record {
      octets = h.octets ++ took.octets;
      none = all_append (λ x. x ≢ 10) h.octets took.octets h.none took.none;
      few =
          let kept = ap length h.kept ∙ length-take long h.octets in
          let both = length-append h.octets took.octets in
          let none = took.few in
          omega (arith, kept, both, none, room);
      rest = took.rest;
      all = h.all ∙ ap (λ (l : List ℕ). h.octets ++ l) took.all ∙ sym (append_assoc h.octets took.octets took.rest);
      here =
          let here = took.here in
          let count = first.count in
          let before = length-append (pending source) old.input.left in
          let after = length-append (pending source') mid.input.left in
          let all = ap length h.all ∙ length-append h.octets (to_hear source' mid) in
          let both = length-append h.octets took.octets in
          omega (arith, here, count, before, after, all, both);
      told = took.told ∙ ap length told;
      going = sym same ∙ took.going;
    }
