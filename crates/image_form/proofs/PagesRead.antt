-- The records of a block read in order, each on a page of the disk.
use Rattle.std.proofs.lemmas.Grind.{common_steps}
use Rattle.image_form.proofs.Names.{arith, ◌≡◌, ℕ, ◌≤◌, ◌<◌, List, [], ◌∷◌, ◌++◌, sym, ap, ◌∙◌, subst, append_assoc, append-nil, AllByRecursion, IsOnPage, IsBlockOn, IsLeft, used_by, IsBlock, IsSpelledAt, LogRecord, all_push, all_between}
use Rattle.image_form.proofs.BlockReading.{all_left, none_left, reads_first}
use Rattle.image_form.proofs.BlockLists.{one_block}

-- of a block's records the first ones are on pages of the disk, and the others are left
pub record IsCut (content : List ℕ) (used at pages : ℕ) (all : List LogRecord) : Type 0 where
  pub done : List LogRecord
  pub left : List LogRecord
  pub split : all ≡ done ++ left
  pub are_left : IsLeft content used at left
  pub exist : AllByRecursion (IsOnPage pages) done

pub record PagesTo (content : List ℕ) (used at pages : ℕ) : Type 0 where
  pub to : at ≤ used
  pub cut : (all : List LogRecord) → IsBlock content all → used ≡ used_by all → IsCut content used at pages all

pub none_read : (content : List ℕ) (used pages : ℕ) → 2 ≤ used → PagesTo content used 2 pages
none_read content used pages low = grind (arith, common_steps, all_left)

pub one_more : (content : List ℕ) (used at end pages : ℕ) (rec : LogRecord) → PagesTo content used at pages → at < used → IsSpelledAt content at used rec end → IsOnPage pages rec → PagesTo content used end pages
one_more content used at end pages rec so_far before spelled on = record {
  to = spelled.inside;
  cut = λ all is is_end.
      let cut = so_far.cut all is is_end in
      let read = reads_first content used at cut.left cut.are_left before rec end spelled in
      record {
        done = cut.done ++ rec ∷ [];
        left = read.0;
        split = cut.split ∙ ap (λ (x : List LogRecord). cut.done ++ x) read.1 ∙ sym (append_assoc cut.done (rec ∷ []) read.0);
        are_left = read.2;
        exist = all_push (IsOnPage pages) cut.done rec cut.exist on;
      };
}

-- where one isn't, no block of this content has its records on pages
pub one_off : (content : List ℕ) (used at end pages : ℕ) (rec : LogRecord) → PagesTo content used at pages → at < used → IsSpelledAt content at used rec end → (IsOnPage pages rec → ⊥) →
    (all : List LogRecord) → used ≡ used_by all → IsBlockOn pages content all → ⊥
one_off content used at end pages rec so_far before spelled off all is_end is =
    let cut = so_far.cut all is.block is_end in
    let read = reads_first content used at cut.left cut.are_left before rec end spelled in
    let split : all ≡ cut.done ++ rec ∷ read.0 = cut.split ∙ ap (λ (x : List LogRecord). cut.done ++ x) read.1 in
    off (all_between (IsOnPage pages) cut.done rec read.0 (subst (AllByRecursion (IsOnPage pages)) split is.exist))

-- at the end they are all records of the block
pub all_read : (content : List ℕ) (used at pages : ℕ) → PagesTo content used at pages → used ≤ at → (all : List LogRecord) → IsBlock content all → used ≡ used_by all → IsBlockOn pages content all
all_read content used at pages so_far end all is is_end = grind (arith, common_steps, none_left, append-nil)

-- a content is the block of one list of records
pub same_end : (content : List ℕ) (used : ℕ) (a b : List LogRecord) → IsBlock content a → IsBlock content b → used ≡ used_by a → used ≡ used_by b
same_end content used a b first second end = end ∙ ap used_by (one_block content a b first second)
