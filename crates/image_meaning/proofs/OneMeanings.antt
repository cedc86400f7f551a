-- An image stands for one table.
use Rattle.image_meaning.proofs.Names.{◌≡◌, ℕ, zero, suc, false, List, [], replicate, Option, Some, None, refl, sym, ap, subst, ◌∙◌, arith, one_newest, newest_of, blank, IsOf, Master, master_shape, log_shape, units_on, OneMeaningFor, OneMasterStands, NewestIsRead, ReadIsNewest, saved_by, kept_by, logical_image_under, HasNewest, IsSoundUnder, StandsUnder, table_of, commit_count, LogRecord, HasBlocks, Represents, Content, live, Image, Geometry}
use Rattle.log_store.proofs.OneLog.{one_log}
use Rattle.log_store.specs.declared.store.LogStore.{LogStore}
use Rattle.log_store.specs.LogList.{LogList}

-- a store that has found no block
abbrev empty_store : Geometry → LogStore
empty_store g = record { geometry = g; ring = record { shape = log_shape g; hi = 0; ended = false }; kept = 0; tail = replicate 503 0; used = 2 }

abbrev list_of : ℕ → List (List LogRecord) → LogList
list_of first blocks = record { first = first; blocks = blocks; tail = [] }

holds : (g : Geometry) (image : Image) (first : ℕ) (blocks : List (List LogRecord)) → HasBlocks g first blocks image → Represents (empty_store g) image (list_of first blocks)
holds g image first blocks has = record { kept = omega arith; blocks = has; tail = record { end = refl; have_form = tt; fit_fields = tt; text = refl } }

module _ (newest : Option Master) (g : Geometry) (image : Image) where
  -- an image has one list of blocks
  same_blocks : (a b : List (List LogRecord)) → IsSoundUnder newest g image a → IsSoundUnder newest g image b → a ≡ b
  same_blocks a b first second =
      ap (λ (l : LogList). l.blocks) (one_log (empty_store g) image (list_of (kept_by newest) a) (list_of (kept_by newest) b) (holds g image (kept_by newest) a first.held) (holds g image (kept_by newest) b second.held) refl)

  pub one_meaning_under : (table other : List Content) (commits many : ℕ) → StandsUnder newest g image table commits → StandsUnder newest g image other many → (table ≡ other) × (commits ≡ many)
  one_meaning_under table other commits many stands too =
      let same = same_blocks stands.blocks too.blocks stands.sound too.sound in
      (stands.means.table_is ∙ (λ i. table_by (same i)) ∙ sym too.means.table_is, stands.means.count_is ∙ (λ i. count_by (same i)) ∙ sym too.means.count_is)
    where
      table_by : List (List LogRecord) → List Content
      table_by blocks = table_of (logical_image_under newest g image blocks).log (logical_image_under newest g image blocks).pages

      count_by : List (List LogRecord) → ℕ
      count_by blocks = commit_count (logical_image_under newest g image blocks)

pub one_master_stands : OneMasterStands
one_master_stands g image x2 x3 first second = grind (arith, one_newest)

pub one_meaning_for : OneMeaningFor
one_meaning_for g image table other commits many stands too =
    one_meaning_under too.newest g image table other commits many
    (subst (λ (n : Option Master). StandsUnder n g image table commits) (one_master_stands g image stands.newest too.newest stands.stands.sound.octets.masters too.stands.sound.octets.masters) stands.stands)
    too.stands

-- The newest master is the one that is read.

no_units : (image : Image) → (units_on master_shape image).hi ≡ 0 → (units_on master_shape image).live ≡ []
no_units image none = ap (λ (hi : ℕ). live master_shape hi image.log) none

pub newest_is_read : NewestIsRead
newest_is_read None g image unused = subst (λ (units : List (List ℕ)). IsOf (newest_of units) blank) (sym (no_units image unused.none)) refl
newest_is_read (Some m) g image is = is.master

pub read_is_newest : ReadIsNewest
read_is_newest g image m form has = by (units_on master_shape image).hi refl
  where
    by : (hi : ℕ) → (units_on master_shape image).hi ≡ hi → (newest : Option Master) × HasNewest newest g image × (m ≡ saved_by newest)
    by zero none = (None, record { form = form; none = none }, subst (λ (units : List (List ℕ)). IsOf (newest_of units) m) (no_units image none) has)
    by (suc hi) some = (Some m, record { form = form; some = omega (arith, some); master = has }, refl)
