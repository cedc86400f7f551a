use Rattle.flash_cache.proofs.Names.{rules, ◌≡◌, ℕ, length, replicate, [], refl, sym, ◌∙◌, ap, subst, length-replicate, frames_with, again, IsMadeOf, frames_given, zeros_have_no_frames, heads_of}
use Rattle.flash_cache.proofs.Given.{length-given}
use Rattle.flash_cache.proofs.Heads.{heads_make}
use Rattle.flash_cache.proofs.making.new_group.Goals.{After-heads_given-first}
use Rattle.flash_cache.proofs.making.new_group.Goals as goal

module _ (c : After-heads_given-first) where
  octets_are : c.as_slice-octets.result.now ≡ c.args.chances.now.contents.items
  octets_are = search rules

  heads_are : c.heads_given-first.result ≡ heads_of (again c.args.chances.now)
  heads_are =
      let pages : c.as_slice.result.now ≡ c.args.chances.now.pages.items = search rules in
      let dirty : c.as_slice-2.result.now ≡ c.args.chances.now.dirty.items = search rules in
      c.heads_given-first.ensures.heads ∙ (λ i. heads_of (frames_given (pages i) (dirty i) (octets_are i)))

  first_is : frames_with c.heads_given-first.result c.as_slice-octets.result.now ≡ again c.args.chances.now
  first_is =
      let chances = c.args.chances.now in
      ap (frames_with c.heads_given-first.result) octets_are
      ∙ heads_make chances.pages.items chances.dirty.items chances.contents.items c.heads_given-first.result c.requires.marks c.requires.lists heads_are

pub put_frames-requires-clause-heads : goal.put_frames-requires-clause-heads
put_frames-requires-clause-heads c =
    let s = (goal.at.put_frames-requires-clause-heads c).After-heads_given-first in
    heads_are s ∙ ap heads_of (sym (first_is s))

pub returns-clause-content : goal.returns-clause-content
returns-clause-content c =
    let chances = c.args.chances.now in
    let s = (goal.at.returns-clause-content c).After-heads_given-first in
    let many : length (again chances) ≡ length c.as_slice-octets.result.now =
    length-given chances.pages.items chances.dirty.items chances.contents.items c.requires.marks c.requires.lists ∙ sym c.requires.lists ∙ ap length (sym (octets_are s)) in
    c.put_frames-2.ensures.grown (again chances) many
    (subst (IsMadeOf c.put_frames.new.group) (first_is s) (c.put_frames.ensures.grown [] refl (record {
      content = zeros_have_no_frames (replicate 32896 0) (length-replicate {A = ℕ} 32896 0) (ap (λ (n : ℕ). replicate n 0) (sym (length-replicate {A = ℕ} 32896 0)));
      heads = refl;
    })))
