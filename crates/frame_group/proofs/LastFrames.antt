-- The last frame of a page, and what pushing and dropping a group make of it.
use Rattle.std.proofs.Common.{◌≡◌, ℕ, zero, suc, ⊎_elim, true, false, cond, List, [], ◌∷◌, Some, None, refl, sym, ap, subst, ◌∙◌, arith}
use Rattle.std.specs.Prelude.{Option, ◌==◌, ◌++◌, ◌<◌, ◌≢◌, length, get_or}
use Rattle.std.specs.Option.{option_or}
use Rattle.std.specs.List.{AllByRecursion}
use Rattle.std.proofs.lemmas.Bool.{eqb-true, eq-eqb, ne_eqb, cases_Bool}
use Rattle.std.proofs.lemmas.Option.{cond_some, none-some}
use Rattle.std_lemmas.proofs.Options.{option_or_none, option_or_assoc, option_or_some}
use Rattle.frame_group.specs.Groups.{Frame}
use Rattle.frame_group.specs.Versions.{last_frame, version_by}
use Rattle.frame_group.specs.Laws.{NewVersion, OtherVersions, PushKeepsClean, StagingKeepsVersions, StagingKeepsClean, DropKeepsVersion, DropKeepsClean}

abbrev one : ℕ → Frame → Option Frame
one page frame = cond (frame.page == page) (Some frame) None

pub last_of_both : (page : ℕ) (older newer : List Frame) → last_frame page (older ++ newer) ≡ option_or (last_frame page newer) (last_frame page older)
last_of_both page [] newer = sym (option_or_none (last_frame page newer))
last_of_both page (frame ∷ older) newer =
    ap (λ (o : Option Frame). option_or o (one page frame)) (last_of_both page older newer) ∙ option_or_assoc (last_frame page newer) (last_frame page older) (one page frame)

pub last_is_of_page : (page : ℕ) (frames : List Frame) (frame : Frame) → last_frame page frames ≡ Some frame → frame.page ≡ page
last_is_of_page page [] frame e = absurd cc
last_is_of_page page (other ∷ frames) frame e =
    ⊎_elim (λ o. last_is_of_page page frames frame o)
    (λ o. let c = cond_some (other.page == page) other frame o.1 in ap (λ (f : Frame). f.page) (sym c.1) ∙ eqb-true other.page page c.0)
    (option_or_some (last_frame page frames) (one page other) frame e)

pub none_by_index : (page : ℕ) (frames : List Frame) (d : Frame) → ((j : ℕ) → j < length frames → (get_or frames j d).page ≢ page) → last_frame page frames ≡ None
none_by_index page [] d h = refl
none_by_index page (frame ∷ frames) d h =
    let rest = none_by_index page frames d (λ j less. h (suc j) (omega arith)) in
    let no : (frame.page == page) ≡ false = ne_eqb frame.page page (h 0 (omega arith)) in
    rw (rest, no) refl

pub last_by_index : (page : ℕ) (frames : List Frame) (i : ℕ) (d : Frame) → i < length frames → (get_or frames i d).page ≡ page → ((j : ℕ) → i < j → j < length frames → (get_or frames j d).page ≢ page) → last_frame page frames ≡ Some (get_or frames i d)
last_by_index page [] i d less is others = absurd (omega (arith, less))
last_by_index page (frame ∷ frames) zero d less is others =
    let rest = none_by_index page frames d (λ j below. others (suc j) (omega arith) (omega arith)) in
    let yes : (frame.page == page) ≡ true = eq-eqb frame.page page is in
    rw (rest, yes) refl
last_by_index page (frame ∷ frames) (suc i) d less is others =
    ap (λ (o : Option Frame). option_or o (one page frame))
    (last_by_index page frames i d (omega arith) is (λ j above below. others (suc j) (omega arith) (omega arith)))

pub new_version : NewVersion
new_version disk frames new page frame e =
    ap (λ (o : Option Frame). version_by o (disk page)) (last_of_both page frames new ∙ ap (λ (o : Option Frame). option_or o (last_frame page frames)) e)

pub other_versions : OtherVersions
other_versions disk frames new page e =
    ap (λ (o : Option Frame). version_by o (disk page)) (last_of_both page frames new ∙ ap (λ (o : Option Frame). option_or o (last_frame page frames)) e)

pub push_keeps_clean : PushKeepsClean
push_keeps_clean disk frames new before pushed page frame is clean =
    ⊎_elim (λ o. pushed page frame o clean) (λ o. before page frame o.1 clean)
    (option_or_some (last_frame page new) (last_frame page frames) frame (sym (last_of_both page frames new) ∙ is))

pub staging_keeps_versions : StagingKeepsVersions
staging_keeps_versions old new frames same page = by (last_frame page frames) (same page)
  where
    by : (o : Option Frame) → (o ≡ None → new page ≡ old page) → version_by o (new page) ≡ version_by o (old page)
    by None f = f refl
    by (Some frame) f = refl

pub staging_keeps_clean : StagingKeepsClean
staging_keeps_clean old new frames same clean page frame is not_dirty = clean page frame is not_dirty ∙ sym (same page frame is not_dirty)

drop_by : (rest front : Option Frame) (on_disk : List ℕ) → ((frame : Frame) → option_or rest front ≡ Some frame → frame.dirty ≡ false → frame.octets ≡ on_disk) →
    ((frame : Frame) → rest ≡ None → front ≡ Some frame → frame.dirty ≡ true → on_disk ≡ frame.octets) → version_by rest on_disk ≡ version_by (option_or rest front) on_disk
drop_by (Some frame) front on_disk clean staged = refl
drop_by None None on_disk clean staged = refl
drop_by None (Some frame) on_disk clean staged =
    ⊎_elim (λ dirty. staged frame refl refl dirty) (λ not_dirty. sym (clean frame refl not_dirty)) (cases_Bool frame.dirty)

pub drop_keeps_version : DropKeepsVersion
drop_keeps_version disk front rest page clean staged =
    drop_by (last_frame page rest) (last_frame page front) (disk page)
    (λ frame is not_dirty. clean page frame (last_of_both page front rest ∙ is) not_dirty) staged
    ∙ ap (λ (o : Option Frame). version_by o (disk page)) (sym (last_of_both page front rest))

pub drop_keeps_clean : DropKeepsClean
drop_keeps_clean disk front rest clean page frame is not_dirty =
    clean page frame (last_of_both page front rest ∙ ap (λ (o : Option Frame). option_or o (last_frame page front)) is) not_dirty

-- the last frame of a page is one of the frames
pub all_last_frame : (P : Frame → Type 0) (page : ℕ) (frames : List Frame) (frame : Frame) → AllByRecursion P frames → last_frame page frames ≡ Some frame → P frame
all_last_frame P page [] frame all is = absurd (none-some frame is)
all_last_frame P page (x ∷ frames) frame all is = ⊎_elim (all_last_frame P page frames frame all.1)
    (λ own. subst P (cond_some (x.page == page) x frame own.1).1 all.0)
    (option_or_some (last_frame page frames) (one page x) frame is)
