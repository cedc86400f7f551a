-- Pages of a disk, before and after a write.
use Rattle.std.proofs.Common.{◌≡◌, inl, inr, ℕ, ◌+◌, ◌*◌, ◌≤◌, ◌<◌, List, length, drop, get_or, sym, ◌∙◌, arith}
use Rattle.std.proofs.lemmas.Bool.{cases_order}
use Rattle.std.proofs.lemmas.List.{same_lists, get_or_default, get_or-take, get_or-drop, length-take-le, length-drop}
use Rattle.site.proofs.Laws.{length-put, put_below, put_behind, put_here}
use Rattle.disk_pages.specs.Pages.{LiesOn, page_on, with_page}
use Rattle.disk_pages.specs.Laws.{IsBesidePage}
use Rattle.disk_pages.specs.Laws.{HasWritten}
use Rattle.std.specs.Prelude.{slice_index}
use Rattle.std.specs.Prelude.{◌≢◌}

-- a page has 4,096 octets
pub length-page : (page : ℕ) (disk : List ℕ) → LiesOn page disk → length (page_on page disk) ≡ 4096
length-page page disk lies = length-take-le 4096 (drop (4096 * page) disk) (omega (arith, lies, length-drop (4096 * page) disk))

-- an octet of a page
pub page_octet : (page : ℕ) (disk : List ℕ) (k : ℕ) → k < 4096 → get_or (page_on page disk) k 0 ≡ get_or disk (4096 * page + k) 0
page_octet page disk k lt = get_or-take 4096 (drop (4096 * page) disk) k 0 lt ∙ get_or-drop (4096 * page) disk k 0

-- a page is its octets
pub page_is : (page : ℕ) (disk octets : List ℕ) → LiesOn page disk → length octets ≡ 4096 → ((k : ℕ) → k < 4096 → get_or disk (4096 * page + k) 0 ≡ get_or octets k 0) → page_on page disk ≡ octets
page_is page disk octets lies long same =
    same_lists (page_on page disk) octets (length-page page disk lies ∙ sym long) (λ k d lt.
    let few : k < 4096 = omega (arith, lt, length-page page disk lies) in
    get_or_default (page_on page disk) k d 0 lt ∙ page_octet page disk k few ∙ same k few ∙ get_or_default octets k 0 d (omega (arith, few, long)))

pub page_is_written : (page : ℕ) (octets disk : List ℕ) → LiesOn page disk → length octets ≡ 4096 → HasWritten page octets disk (with_page page octets disk)
page_is_written page octets disk lies long =
    let fits : 4096 * page + length octets ≤ length disk = omega (arith, lies, long) in
    let size = length-put disk (4096 * page) octets fits in record {
      size = size;
      here = page_is page (with_page page octets disk) octets (omega (arith, size, lies)) long (λ k lt. put_here disk (4096 * page) octets k fits (omega (arith, lt, long)));
      beside = beside fits;
    }
  where
    beside : 4096 * page + length octets ≤ length disk → (place : ℕ) → IsBesidePage page place → get_or (with_page page octets disk) place 0 ≡ get_or disk place 0
    beside fits place (inl below) = put_below disk (4096 * page) octets place fits below
    beside fits place (inr behind) = put_behind disk (4096 * page) octets place fits (omega (arith, behind, long))

-- a page whose octets stay is the page that it was
pub page_stays : (page : ℕ) (old new : List ℕ) → LiesOn page old → length new ≡ length old → ((place : ℕ) → 4096 * page ≤ place → place < 4096 * page + 4096 → slice_index new place ≡ slice_index old place) → page_on page new ≡ page_on page old
page_stays page old new lies size same =
    page_is page new (page_on page old) (omega (arith, lies, size)) (length-page page old lies) (λ k lt.
    same (4096 * page + k) (omega arith) (omega (arith, lt)) ∙ sym (page_octet page old k lt))

-- so is each page beside one that was written
pub others_stay : (page other : ℕ) (octets old new : List ℕ) → other ≢ page → LiesOn other old → HasWritten page octets old new → page_on other new ≡ page_on other old
others_stay page other octets old new ne lies w =
    page_stays other old new lies w.size (λ place from below. w.beside place (apart place from below))
  where
    apart : (place : ℕ) → 4096 * other ≤ place → place < 4096 * other + 4096 → IsBesidePage page place
    apart place from below = elim (cases_order other page) [
      | inl same ↦ absurd (ne same)
      | inr rest ↦ elim rest [
        | inl less ↦ inl (omega (arith, below, less))
        | inr more ↦ inr (omega (arith, from, more))
      ]
    ]
