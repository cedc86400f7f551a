-- What the loop over the places of a device does, and that a crash may leave it.
use Rattle.std.proofs.Common.{◌≡◌, ℕ, ◌+◌, ◌<◌, Bool, false, List, [], ◌∷◌, ◌++◌, zero, suc, length, get_or, set, take, drop, refl, sym, ◌∙◌, ap, subst, arith, append_assoc}
use Rattle.std.proofs.lemmas.List.{take_more_set, drop-set-lt, drop_more}
use Rattle.site.specs.State.{Range, is_loose, MayStand}
use Rattle.mem_site.specs.Crash.{number_at, octet_at, scattered, drawn}

-- one place more
module _ (seed : ℕ) (ranges : List Range) (x : ℕ) (content : List ℕ) (i : ℕ) (fits : i < length content)
    (loose : Bool) (next octet : ℕ) (is : loose ≡ is_loose ranges i) (draws : next ≡ number_at loose x) (leaves : octet ≡ octet_at loose seed next (get_or content i 0)) where
  draws_at : next ≡ number_at (is_loose ranges i) x
  draws_at = draws ∙ ap (λ (b : Bool). number_at b x) is

  leaves_at : octet ≡ octet_at (is_loose ranges i) seed (number_at (is_loose ranges i) x) (get_or content i 0)
  leaves_at = leaves ∙ ap (λ (b : Bool). octet_at b seed next (get_or content i 0)) is ∙ ap (λ (n : ℕ). octet_at (is_loose ranges i) seed n (get_or content i 0)) draws_at

  pub scattered_more : take (i + 1) (set content i octet) ++ scattered seed ranges (i + 1) next (drop (i + 1) (set content i octet)) ≡ take i content ++ scattered seed ranges i x (drop i content)
  scattered_more =
      let rest = drop (i + 1) content in
      ap (λ (l : List ℕ). l ++ scattered seed ranges (i + 1) next (drop (i + 1) (set content i octet))) (take_more_set content i octet fits)
      ∙ ap (λ (l : List ℕ). take i content ++ octet ∷ [] ++ scattered seed ranges (i + 1) next l) (drop-set-lt (i + 1) content i octet (omega arith))
      ∙ append_assoc (take i content) (octet ∷ []) (scattered seed ranges (i + 1) next rest)
      ∙ ap (λ (n : ℕ). take i content ++ n ∷ scattered seed ranges (i + 1) next rest) leaves_at
      ∙ ap (λ (n : ℕ). take i content ++ octet_at (is_loose ranges i) seed (number_at (is_loose ranges i) x) (get_or content i 0) ∷ scattered seed ranges (i + 1) n rest) draws_at
      ∙ ap (λ (l : List ℕ). take i content ++ scattered seed ranges i x l) (sym (drop_more content i 0 fits))

  pub drawn_more : drawn ranges (i + 1) next (drop (i + 1) (set content i octet)) ≡ drawn ranges i x (drop i content)
  drawn_more =
      ap (λ (l : List ℕ). drawn ranges (i + 1) next l) (drop-set-lt (i + 1) content i octet (omega arith))
      ∙ ap (λ (n : ℕ). drawn ranges (i + 1) n (drop (i + 1) content)) draws_at
      ∙ ap (λ (l : List ℕ). drawn ranges i x l) (sym (drop_more content i 0 fits))

pub length-scattered : (seed : ℕ) (ranges : List Range) (place x : ℕ) (octets : List ℕ) → length (scattered seed ranges place x octets) ≡ length octets
length-scattered seed ranges place x [] = refl
length-scattered seed ranges place x (octet ∷ octets) = omega (arith, length-scattered seed ranges (place + 1) (number_at (is_loose ranges place) x) octets)

-- outside the loose ranges it stays
pub scattered_kept : (seed : ℕ) (ranges : List Range) (place x : ℕ) (octets : List ℕ) (k : ℕ) → is_loose ranges (place + k) ≡ false → get_or (scattered seed ranges place x octets) k 0 ≡ get_or octets k 0
scattered_kept seed ranges place x [] k out = refl
scattered_kept seed ranges place x (octet ∷ octets) zero out =
    let here : place + zero ≡ place = omega arith in
    ap (λ (b : Bool). octet_at b seed (number_at (is_loose ranges place) x) octet) (ap (is_loose ranges) (sym here) ∙ out)
scattered_kept seed ranges place x (octet ∷ octets) (suc k) out =
    let there : place + 1 + k ≡ place + suc k = omega arith in
    scattered_kept seed ranges (place + 1) (number_at (is_loose ranges place) x) octets k (ap (is_loose ranges) there ∙ out)

-- a crash may leave it
pub scattered_stands : (seed : ℕ) (ranges : List Range) (x : ℕ) (octets : List ℕ) → MayStand ranges octets (scattered seed ranges 0 x octets)
scattered_stands seed ranges x octets = record {
  size = length-scattered seed ranges 0 x octets;
  kept = λ place out. let here : 0 + place ≡ place = omega arith in scattered_kept seed ranges 0 x octets place (ap (is_loose ranges) here ∙ out);
}

pub left_stands : (seed : ℕ) (ranges : List Range) (x : ℕ) (octets now : List ℕ) → now ≡ scattered seed ranges 0 x octets → MayStand ranges octets now
left_stands seed ranges x octets now is = subst (λ (l : List ℕ). MayStand ranges octets l) (sym is) (scattered_stands seed ranges x octets)

-- with nothing loose all stays
pub scattered_none : (seed place x : ℕ) (octets : List ℕ) → scattered seed [] place x octets ≡ octets
scattered_none seed place x [] = refl
scattered_none seed place x (octet ∷ octets) = ap (λ (l : List ℕ). octet ∷ l) (scattered_none seed (place + 1) x octets)

pub drawn_none : (place x : ℕ) (octets : List ℕ) → drawn [] place x octets ≡ x
drawn_none place x [] = refl
drawn_none place x (octet ∷ octets) = drawn_none (place + 1) x octets
