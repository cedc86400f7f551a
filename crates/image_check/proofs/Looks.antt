-- What is read of versions where each is read once.
use Rattle.image_check.proofs.Names.{◌≡◌, ◌==◌, ℕ, zero, suc, ◌+◌, ◌≤◌, ◌<◌, inl, inr, Bool, true, false, cond, nat_eq, Option, Some, Err, sym, ap, ◌∙◌, subst, arith, cases_eq, eq-eqb, Result, OnOk, LooksOnce, without, few_more, ReadsAtMost, IndexMap, get, State, Stop}
use Rattle.std.proofs.Common.{is_some, Ok}

pub without_most : {X S : Type 0} (entries : IndexMap ℕ X S) (n : ℕ) → without entries n ≤ n
without_most entries zero = omega arith
without_most entries (suc n) = let before = without_most entries n in let one = at_most (is_some (get nat_eq entries n)) in omega (arith, before, one)
  where
    at_most : (b : Bool) → cond b 0 1 ≤ 1
    at_most true = omega arith
    at_most false = omega arith

abbrev lacks : {X S : Type 0} → IndexMap ℕ X S → ℕ → ℕ
lacks entries page = cond (is_some (get nat_eq entries page)) 0 1

-- a page that has no entry is among those without
pub lacks_few : {X S : Type 0} (entries : IndexMap ℕ X S) (page n : ℕ) → page < n → lacks entries page ≤ without entries n
lacks_few entries page zero less = absurd (omega (arith, less))
lacks_few entries page (suc n) less = elim (cases_eq page n) [
  | inl here ↦ let same : lacks entries page ≡ lacks entries n = ap (lacks entries) here in omega (arith, same)
  | inr other ↦ let before = lacks_few entries page n (omega (arith, less, other)) in omega (arith, before)
]

-- an entry more

module _ {X S : Type 0} (old new : IndexMap ℕ X S) (page : ℕ) (x : X) (puts : (p : ℕ) → get nat_eq new p ≡ cond (page == p) (Some x) (get nat_eq old p)) where
  term : (b : Bool) (o p : Option X) → p ≡ cond b (Some x) o → cond (is_some p) 0 1 ≤ cond (is_some o) 0 1
  term true o p is = subst (λ (q : Option X). cond (is_some q) 0 1 ≤ cond (is_some o) 0 1) (sym is) (omega arith)
  term false o p is = subst (λ (q : Option X). cond (is_some q) 0 1 ≤ cond (is_some o) 0 1) (sym is) (omega arith)

  put_same : (n : ℕ) → without new n ≤ without old n
  put_same zero = omega arith
  put_same (suc n) = let before = put_same n in let here = term (page == n) (get nat_eq old n) (get nat_eq new n) (puts n) in omega (arith, before, here)

  pub put_once : (n : ℕ) → page < n → without new n + lacks old page ≤ without old n
  put_once zero less = absurd (omega (arith, less))
  put_once (suc n) less = elim (cases_eq page n) [
    | inl here ↦
        let before = put_same n in
        let there : get nat_eq new n ≡ Some x = puts n ∙ ap (λ (b : Bool). cond b (Some x) (get nat_eq old n)) (eq-eqb page n here) in
        let gone : lacks new n ≡ 0 = ap (λ (o : Option X). cond (is_some o) 0 1) there in
        let same : lacks old page ≡ lacks old n = ap (lacks old) here in
        omega (arith, before, gone, same)
    | inr other ↦
        let before = put_once n (omega (arith, less, other)) in
        let here = term (page == n) (get nat_eq old n) (get nat_eq new n) (puts n) in
        omega (arith, before, here)
  ]

-- Calls, by what they read.

pub looked_none : {T X S : Type 0} (x : T) (n : ℕ) (entries : IndexMap ℕ X S) (a b : State) → ReadsAtMost 0 0 a b → LooksOnce {T = T} n (Ok x) entries entries a b
looked_none x n entries a b few = let pages = few.pages in record { ends = few_more 0 0 0 (without entries n) a b (omega arith) (omega arith) few; once = omega (arith, pages) }

pub looked_failed : {T X S : Type 0} (e : Stop) (n : ℕ) (before now : IndexMap ℕ X S) (a b : State) → ReadsAtMost 0 (without before n) a b → LooksOnce {T = T} n (Err e) before now a b
looked_failed e n before now a b few = record { ends = few; once = tt }

pub looked_put : {T X S : Type 0} (r : Result T Stop) (n page : ℕ) (x : X) (before now : IndexMap ℕ X S) (a b : State) → page < n → ReadsAtMost 0 (cond (is_some (get nat_eq before page)) 0 1) a b →
    OnOk r ((p : ℕ) → get nat_eq now p ≡ cond (page == p) (Some x) (get nat_eq before p)) → LooksOnce n r before now a b
looked_put (Ok y) n page x before now a b less few puts =
    let pages = few.pages in
    let once = put_once before now page x puts n less in
    record { ends = few_more 0 (lacks before page) 0 (without before n) a b (omega arith) (lacks_few before page n less) few; once = omega (arith, pages, once) }
looked_put (Err e) n page x before now a b less few puts = record { ends = few_more 0 (lacks before page) 0 (without before n) a b (omega arith) (lacks_few before page n less) few; once = tt }

pub looked_answered : {A B X S : Type 0} (x : A) (y : B) (n : ℕ) (before now : IndexMap ℕ X S) (a b : State) → LooksOnce {T = A} n (Ok x) before now a b → LooksOnce {T = B} n (Ok y) before now a b
looked_answered x y n before now a b looks = record { ends = looks.ends; once = looks.once }

pub looked_then : {A B X S : Type 0} (x : A) (r : Result B Stop) (n : ℕ) (first mid last : IndexMap ℕ X S) (a b c : State) → LooksOnce {T = A} n (Ok x) first mid a b → LooksOnce n r mid last b c → LooksOnce n r first last a c
looked_then {A} {B} x r n first mid last a b c before behind = record { ends = ended; once = by r behind.once }
  where
    ended : ReadsAtMost 0 (without first n) a c
    ended =
        let log = before.ends.log in
        let pages : b.flash_reads + b.disk_reads + without mid n ≤ a.flash_reads + a.disk_reads + without first n = before.once in
        let log' = behind.ends.log in
        let pages' = behind.ends.pages in
        record { log = omega (arith, log, log'); pages = omega (arith, pages, pages') }

    by : (r : Result B Stop) → OnOk r (c.flash_reads + c.disk_reads + without last n ≤ b.flash_reads + b.disk_reads + without mid n) → OnOk r (c.flash_reads + c.disk_reads + without last n ≤ a.flash_reads + a.disk_reads + without first n)
    by (Ok y) once = let pages : b.flash_reads + b.disk_reads + without mid n ≤ a.flash_reads + a.disk_reads + without first n = before.once in omega (arith, pages, once)
    by (Err e) once = tt
