-- The queue on flash, as the cache machine has it.
use Rattle.engine.proofs.Names.{◌≡◌, ◌-◌, List, [], ◌∷◌, length, map, refl, sym, ◌∙◌, ap, arith, AllByRecursion, sizes_of, AllTogether, HasFrames, Shows, Frame, frames_in, group, group_shape, units_on, hi_of, unread, known_of, Geometry}
use Rattle.frame_group.proofs.Contents.{frames_are_in}
use Rattle.second_chance.specs.declared.frame.Frame.{Frame as Known}
use Rattle.engine.specs.Listings.{QueueIsOnFlash}

frames_are : (g : Geometry) (groups : List (List Frame)) → AllByRecursion (λ frames. HasFrames g frames (group frames)) groups → map frames_in (map group groups) ≡ groups
frames_are g [] all = refl
frames_are g (frames ∷ groups) all = λ i. frames_are_in (group frames) frames all.0.is_group i ∷ frames_are g groups all.1 i

abbrev unread_of : Frame → Known
unread_of frame = known_of frame.page frame.dirty

group_shown : (known : List Known) (frames : List Frame) → AllTogether Shows known frames → map unread_of frames ≡ map unread known
group_shown [] [] all = refl
group_shown [] (frame ∷ frames) all = absurd all
group_shown (k ∷ known) [] all = absurd all
group_shown (k ∷ known) (frame ∷ frames) all = λ i. known_of (sym all.0.page i) (sym all.0.dirty i) ∷ group_shown known frames all.1 i

groups_shown : (known : List (List Known)) (groups : List (List Frame)) → AllTogether (AllTogether Shows) known groups → map (map unread_of) groups ≡ map (map unread) known
groups_shown [] [] all = refl
groups_shown [] (frames ∷ groups) all = absurd all
groups_shown (k ∷ known) [] all = absurd all
groups_shown (k ∷ known) (frames ∷ groups) all = λ i. group_shown k frames all.0 i ∷ groups_shown known groups all.1 i

pub on_flash : QueueIsOnFlash
on_flash engine site s fits =
    let pages = fits.holds.both.log_holds.ready.pages in
    let g = sizes_of engine.store in
    let has = pages.holds.has in
    let directory = engine.store.pages.flash.directory in
    let frames : map frames_in (units_on (group_shape g) site.image).live ≡ pages.groups = ap (map frames_in) has.live ∙ frames_are g pages.groups has.are_groups in
    let long = ap length frames in
    let first : hi_of (group_shape g) site.image.flash - length (map frames_in (units_on (group_shape g) site.image).live) ≡ directory.first = omega (arith, has.next, long) in
    let groups : map (map unread_of) (map frames_in (units_on (group_shape g) site.image).live) ≡ map (map unread) directory.groups = ap (map (map unread_of)) frames ∙ groups_shown directory.groups pages.groups pages.holds.shown in
    λ i. record { pool = []; queue = record { first = first i; groups = groups i } }
