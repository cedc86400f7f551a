use Rattle.redo_undo.proofs.Names.{History, ◌≡◌, ℕ, ◌*◌, ◌+◌, ◌%◌, List, Some, ap, ◌∙◌, arith, div-add-mod, front_of, versions_on, shown, front_shows, sizes_of}
use Rattle.std.proofs.Common.{rules}
use Rattle.redo_undo.proofs.store.TransactionStore.shown.Goals as goal

pub returns-in-None-clause-shown : goal.returns-in-None-clause-shown
returns-in-None-clause-shown c site newest records history h =
    let store = c.args.self.now in
    let number = c.args.number in
    let place : 32 * (front_of store.pages.pool.frames).page + number % 32 ≡ number = omega (arith, c.requires.front.page, div-add-mod number 32) in
    c.in-None.ensures.content
    ∙ front_shows store.log store.pages site newest records history (number % 32) c.requires.pages c.requires.front.there (search rules) h.both
    ∙ ap (shown records (versions_on (sizes_of store) site.image)) place

pub returns-in-Some-from_slice-clause-shown : goal.returns-in-Some-from_slice-clause-shown
returns-in-Some-from_slice-clause-shown c site newest records history h =
    let store = c.args.self.now in
    let number = c.args.number in
    let place : 32 * (front_of store.pages.pool.frames).page + number % 32 ≡ number = omega (arith, c.requires.front.page, div-add-mod number 32) in
    ap (λ (value : List ℕ). Some value) c.in-Some-from_slice.ensures.value
    ∙ c.in-Some.ensures.content
    ∙ front_shows store.log store.pages site newest records history (number % 32) c.requires.pages c.requires.front.there (search rules) h.both
    ∙ ap (shown records (versions_on (sizes_of store) site.image)) place
