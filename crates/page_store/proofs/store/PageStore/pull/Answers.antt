use Rattle.page_store.proofs.Names.{◌≡◌, ℕ, ◌+◌, ◌<◌, ◌++◌, ◌∷◌, [], List, false, Some, get_or, length, map, take, arith, sym, ap, subst, ◌∙◌, append_assoc, take_more, length-map, none-some, get_or_from_slice_get, slice_get, Pool, frame_of, Frame, without_all, pulled, Has, PageStore}
use Rattle.buffer_pool.specs.Frames.{without}
use Rattle.page_store.proofs.Removing.{page_of, without_push, next_pulled, store_without}
use Rattle.page_store.proofs.store.PageStore.pull.Goals as goal

abbrev no_frame : Frame
no_frame = record { page = 0; changed = false; content = [] }

pub unreachable-requires : goal.unreachable-requires
unreachable-requires c =
    let k = c.loop-place.place in
    let xs : List Frame = pulled c.args.self.now in
    let count : length c.args.pages.now ≡ length xs = ap length c.requires.pages ∙ length-map xs page_of in
    let less : k < length xs = omega (arith, c.loop-place-test.true, c.len-place-end.ensures.len, count) in
    let at : slice_get (map page_of xs) k ≡ Some c.at-page.result = ap (λ (l : List ℕ). slice_get l k) (sym c.requires.pages) ∙ c.at-page.ensures in
    none-some (get_or xs k no_frame) (
    sym c.in_default.ensures.none
    ∙ ap (λ (s : PageStore). frame_of s.pool.frames c.at-page.result) c.loop-place.invariant.kept
    ∙ next_pulled c.frames_of_pages.ensures.without c.args.self.now c.requires.store k no_frame less c.at-page.result at
    )

pub returns-in_err-push-clause-part : goal.returns-in_err-push-clause-part
returns-in_err-push-clause-part c =
    let pages : List ℕ = take c.loop-place.place (map page_of (pulled c.args.self.now)) in
    record {
      pages = pages ++ c.at-page.result ∷ [];
      left = ap (λ (p : Pool). p.frames) c.take_page.ensures.after ∙ ap (λ (s : PageStore). without s.pool.frames c.at-page.result) c.loop-place.invariant.kept ∙ sym (without_push pages c.at-page.result _);
    }

pub returns-in_err-push-clause-store : goal.returns-in_err-push-clause-store
returns-in_err-push-clause-store c =
    store_without c.frames_of_pages.ensures.without c.loop-place.self c.take_page.new.self c.at-page.result c.take_page.ensures.after c.take_page.ensures.framed c.loop-place.invariant.store

pub loop-place-preserved : goal.loop-place-preserved
loop-place-preserved c =
    let store = c.args.self.now in
    let frames = store.pool.frames in
    let k = c.loop-place.place in
    let page = c.at-page.result in
    let xs : List Frame = pulled store in
    let ps : List ℕ = map page_of xs in
    let so_far = c.loop-place.invariant.kept in
    let count : length c.args.pages.now ≡ length xs = ap length c.requires.pages ∙ length-map xs page_of in
    let less : k < length xs = omega (arith, c.loop-place-test.true, c.len-place-end.ensures.len, count) in
    let at : slice_get ps k ≡ Some page = ap (λ (l : List ℕ). slice_get l k) (sym c.requires.pages) ∙ c.at-page.ensures in
    let next = next_pulled c.frames_of_pages.ensures.without store c.requires.store k no_frame less page at in
    let taken : frame_of c.loop-place.self.pool.frames page ≡ Some (record { page = page; changed = c.in-Some.changed; content = c.in-Some.content }) = c.in-Some.ensures.some in
    let f : Frame = record { page = page; changed = c.in-Some.changed; content = c.in-Some.content } in
    let both : Some f ≡ Some (get_or xs k no_frame) =
    sym taken ∙ ap (λ (s : PageStore). frame_of s.pool.frames page) so_far ∙ next in
    let is : f ≡ get_or xs k no_frame = cc in
    let own : get_or ps k 0 ≡ page = get_or_from_slice_get ps k page 0 at in
    let all : without (without_all (take k ps) frames) page ≡ without_all (take (k + 1) ps) frames =
    sym (without_push (take k ps) page frames)
    ∙ ap (λ (l : List ℕ). without_all l frames) (ap (λ (n : ℕ). take k ps ++ n ∷ []) (sym own) ∙ sym (take_more ps k 0 (omega (arith, less, length-map xs page_of)))) in
    let framed = c.take_page.new.self.framed in
    let pool : c.take_page.new.self ≡ record store.pool { frames = without_all (take (k + 1) ps) frames; framed = framed } =
    c.take_page.ensures.after ∙ ap (λ (s : PageStore). let p : Pool = record s.pool { frames = without s.pool.frames page; framed = framed } in p) so_far
    ∙ ap (λ (l : List Frame). let p : Pool = record store.pool { frames = l; framed = framed } in p) all in
    record {
      kept = λ i. let s : PageStore = record { alloc = (so_far i).alloc; pool = pool i; flash = (so_far i).flash; ended = (so_far i).ended } in s;
      store = store_without c.frames_of_pages.ensures.without c.loop-place.self c.take_page.new.self page c.take_page.ensures.after c.take_page.ensures.framed c.loop-place.invariant.store;
      taken = λ before has. subst (Has c.push.new.self) (append_assoc before (take k xs) (f ∷ []) ∙ ap (λ (l : List Frame). before ++ l) (ap (λ (x : Frame). take k xs ++ x ∷ []) is ∙ sym (take_more xs k no_frame less)))
          (c.in_ok-push.ensures.has (before ++ take k xs) (c.loop-place.invariant.taken before has));
    }
