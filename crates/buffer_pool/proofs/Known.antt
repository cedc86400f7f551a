-- Which pages have a frame in the queue, as the entries say.
use Rattle.buffer_pool.proofs.Names.{◌≡◌, ◌≢◌, ℕ, ◌-◌, ◌<◌, ◌==◌, ◌||◌, nat_eq, Bool, true, false, cond, List, [], ◌∷◌, ◌++◌, length, take, map, filter, Option, None, Some, arith, refl, sym, ap, subst, ◌∙◌, eqb-true, eq-eqb, ne_eqb, lookup-set_value, lookup-remove_entry, AllByRecursion, list_any, keys_of, lookup, lookup_entry, remove_entry, set_value, frames_in, framed_pages, state_in, IsPool, AreDistinct, touched, is_framed, KnowsSame, Knows, PoolEntry, promoted, last_entry, eq_turned}
use Rattle.std.specs.Prelude.{IsSome}
use Rattle.std.specs.List.{IsDistinct}
use Rattle.std.specs.Option.{option_map_or}
use Rattle.std.specs.Cmp.{nat_eq_equiv}
use Rattle.buffer_pool.proofs.Order.{Others, distinct-touched}
use Rattle.buffer_pool.proofs.Cached.{Entry, found, frames-remove_entry, length_frames, split_last}
use Rattle.std.proofs.lemmas.Grind.{common_steps}

-- as a look-up of the page tells it
abbrev pub framed_in : List Entry → ℕ → Bool
framed_in es n = option_map_or (λ (kept : PoolEntry). kept.framed) (lookup (nat_eq n) es) false

missing_key : (n : ℕ) (es : List Entry) → Others n (frames_in es) → lookup (nat_eq n) es ≡ None
missing_key n [] all = refl
missing_key n (e ∷ es) all = ap (λ b. cond b (Some e.1) (lookup (nat_eq n) es)) (ne_eqb n e.0 all.0) ∙ missing_key n es all.1

pub known : (size : ℕ) (es : List Entry) → AreDistinct (frames_in es) → (n : ℕ) → is_framed (state_in size es) n ≡ framed_in es n
known size [] distinct n = refl
known size (e ∷ es) distinct n = by e.1.framed refl (n == e.0) refl (known size es distinct.1 n)
  where
    by : (f : Bool) → e.1.framed ≡ f → (b : Bool) → (n == e.0) ≡ b → list_any (λ m. m == n) (framed_pages es) ≡ framed_in es n
        → list_any (λ m. m == n) (map (λ (x : Entry). x.0) (cond f (e ∷ filter (λ (x : Entry). x.1.framed) es) (filter (λ (x : Entry). x.1.framed) es)))
        ≡ option_map_or (λ (kept : PoolEntry). kept.framed) (cond b (Some e.1) (lookup (nat_eq n) es)) false
    by true on true at rest = ap (λ b. b || list_any (λ m. m == n) (framed_pages es)) (eq_turned e.0 n ∙ at) ∙ sym on
    by true on false at rest = ap (λ b. b || list_any (λ m. m == n) (framed_pages es)) (eq_turned e.0 n ∙ at) ∙ rest
    by false off true at rest =
        rest ∙ ap (λ (o : Option PoolEntry). option_map_or (λ (kept : PoolEntry). kept.framed) o false)
        (missing_key n es (let P : ℕ → Type 0 = λ m. Others m (frames_in es) in subst P (sym (eqb-true n e.0 at)) distinct.0))
        ∙ sym off
    by false off false at rest = rest

-- so what is known before and after is known by look-ups
pub knows_same : (size : ℕ) (es new : List Entry) → AreDistinct (frames_in es) → AreDistinct (frames_in new) → ((n : ℕ) → framed_in new n ≡ framed_in es n) → KnowsSame (state_in size es) (state_in size new)
knows_same size es new distinct distinct' same n = known size new distinct' n ∙ same n ∙ sym (known size es distinct n)

pub knows : (size page : ℕ) (framed : Bool) (es new : List Entry) → AreDistinct (frames_in es) → AreDistinct (frames_in new)
    → ((n : ℕ) → framed_in new n ≡ cond (n == page) framed (framed_in es n)) → Knows page framed (state_in size es) (state_in size new)
knows size page framed es new distinct distinct' is n = known size new distinct' n ∙ is n ∙ ap (λ b. cond (n == page) framed b) (sym (known size es distinct n))

-- The keys of a pool are apart.

key_apart : (k : ℕ) (es : List Entry) → Others k (frames_in es) → AllByRecursion (λ y. nat_eq k y ≡ false) (keys_of es)
key_apart k [] all = tt
key_apart k (e ∷ es) all = (ne_eqb k e.0 all.0, key_apart k es all.1)

keys_apart : (es : List Entry) → AreDistinct (frames_in es) → IsDistinct nat_eq (keys_of es)
unfolding IsDistinct
keys_apart [] distinct = tt
keys_apart (e ∷ es) distinct = (key_apart e.0 es distinct.0, keys_apart es distinct.1)

one_key : (page x y : ℕ) → nat_eq page x ≡ true → nat_eq page y ≡ nat_eq x y
one_key page x y at = ap (λ m. nat_eq m y) (eqb-true page x at)

of_option : (b : Bool) (kept : PoolEntry) (o : Option PoolEntry)
    → option_map_or (λ (k : PoolEntry). k.framed) (cond b (Some kept) o) false ≡ cond b kept.framed (option_map_or (λ (k : PoolEntry). k.framed) o false)
of_option true kept o = refl
of_option false kept o = refl

of_none : (b : Bool) (o : Option PoolEntry) → option_map_or (λ (k : PoolEntry). k.framed) (cond b None o) false ≡ cond b false (option_map_or (λ (k : PoolEntry). k.framed) o false)
of_none true o = refl
of_none false o = refl

-- What each change of the entries does.

pub framed-put : (es : List Entry) (page : ℕ) (kept : PoolEntry) (n : ℕ) → framed_in ((page, kept) ∷ es) n ≡ cond (n == page) kept.framed (framed_in es n)
framed-put es page kept n = of_option (n == page) kept (lookup (nat_eq n) es)

pub framed-removed : (es : List Entry) (page : ℕ) → AreDistinct (frames_in es) → (n : ℕ) → framed_in (remove_entry (nat_eq page) es) n ≡ cond (n == page) false (framed_in es n)
framed-removed es page distinct n =
    ap (λ (o : Option PoolEntry). option_map_or (λ (k : PoolEntry). k.framed) o false) (lookup-remove_entry nat_eq_equiv (nat_eq page) (one_key page) n es (keys_apart es distinct))
    ∙ of_none (nat_eq page n) (lookup (nat_eq n) es)
    ∙ ap (λ b. cond b false (framed_in es n)) (eq_turned page n)

pub framed-set : (es : List Entry) (page : ℕ) (kept now : PoolEntry) → lookup (nat_eq page) es ≡ Some kept → (n : ℕ)
    → framed_in (set_value (nat_eq page) es now) n ≡ cond (n == page) now.framed (framed_in es n)
framed-set es page kept now is n =
    ap (λ (o : Option PoolEntry). option_map_or (λ (k : PoolEntry). k.framed) o false) (lookup-set_value nat_eq_equiv (nat_eq page) (one_key page) n now es (subst IsSome (sym is) refl))
    ∙ of_option (nat_eq page n) now (lookup (nat_eq n) es)
    ∙ ap (λ b. cond b now.framed (framed_in es n)) (eq_turned page n)

pub framed-same : (es : List Entry) (page : ℕ) (kept now : PoolEntry) → lookup (nat_eq page) es ≡ Some kept → now.framed ≡ kept.framed → (n : ℕ)
    → framed_in (set_value (nat_eq page) es now) n ≡ framed_in es n
framed-same es page kept now is same n = grind (arith, common_steps, framed-set, eqb-true)

last_removed : (front : List Entry) (e : Entry) → AreDistinct (frames_in (front ++ e ∷ [])) → remove_entry (nat_eq e.0) (front ++ e ∷ []) ≡ front
last_removed [] e distinct = ap (λ b. cond b [] (e ∷ [])) (eq-eqb e.0 e.0 refl)
last_removed (f ∷ front) e distinct =
    ap (λ b. cond b (front ++ e ∷ []) (f ∷ remove_entry (nat_eq e.0) (front ++ e ∷ []))) (ne_eqb e.0 f.0 (λ same. last front distinct.0 (sym same)))
    ∙ ap (λ (l : List Entry). f ∷ l) (last_removed front e distinct.1)
  where
    last : (front : List Entry) → Others f.0 (frames_in (front ++ e ∷ [])) → f.0 ≢ e.0
    last [] all = all.0
    last (g ∷ front) all = last front all.1

pub framed-last : (es : List Entry) (e : Entry) → last_entry es ≡ Some e → AreDistinct (frames_in es) → (n : ℕ)
    → framed_in (take (length es - 1) es) n ≡ cond (n == e.0) false (framed_in es n)
framed-last es e is distinct n =
    let split = split_last es e is in
    let left = ap (remove_entry (nat_eq e.0)) split ∙ last_removed (take (length es - 1) es) e (subst (λ (l : List Entry). AreDistinct (frames_in l)) split distinct) in
    ap (λ (l : List Entry). framed_in l n) (sym left) ∙ framed-removed es e.0 distinct n

-- a page that is there comes to the front, with another entry
found_entry : (es : List Entry) (page : ℕ) (kept : PoolEntry) → lookup (nat_eq page) es ≡ Some kept → lookup_entry (nat_eq page) es ≡ Some (page, kept)
found_entry [] page kept is = absurd cc
found_entry (e ∷ es) page kept is = grind (arith, common_steps, eqb-true, (found_entry es page kept))

pub set_promoted : (es : List Entry) (page : ℕ) (kept now : PoolEntry) → lookup (nat_eq page) es ≡ Some kept
    → set_value (nat_eq page) (promoted (nat_eq page) es) now ≡ (page, now) ∷ remove_entry (nat_eq page) es
set_promoted es page kept now is = grind (arith, common_steps, found_entry, eq-eqb)

pub frames-renewed : (es : List Entry) (page : ℕ) (kept now : PoolEntry) → AreDistinct (frames_in es) → lookup (nat_eq page) es ≡ Some kept → now.changed ≡ kept.changed → now.content ≡ kept.content
    → frames_in ((page, now) ∷ remove_entry (nat_eq page) es) ≡ touched (frames_in es) page
frames-renewed es page kept now distinct is changed content = grind (arith, common_steps, frames-remove_entry, found)

pub pool-renewed : (n : ℕ) (es : List Entry) (page : ℕ) (kept now : PoolEntry) → lookup (nat_eq page) es ≡ Some kept → now.changed ≡ kept.changed → now.content ≡ kept.content
    → IsPool (state_in n es) → IsPool (state_in n ((page, now) ∷ remove_entry (nat_eq page) es))
pool-renewed n es page kept now is changed content pool =
    let frames = frames-renewed es page kept now pool.distinct is changed content in
    record {
      few = let few = pool.few in omega (arith, few, length_frames es, length_frames (remove_entry (nat_eq page) es), shorter es is);
      distinct = subst AreDistinct (sym frames) (distinct-touched (frames_in es) page pool.distinct);
    }
  where
    shorter : (es : List Entry) → lookup (nat_eq page) es ≡ Some kept → length (remove_entry (nat_eq page) es) < length es
    shorter [] is = absurd cc
    shorter (e ∷ es) is = grind (arith, common_steps, (shorter es))

pub framed-promoted : (es : List Entry) (page : ℕ) (kept now : PoolEntry) → AreDistinct (frames_in es) → lookup (nat_eq page) es ≡ Some kept → now.framed ≡ kept.framed → (n : ℕ)
    → framed_in ((page, now) ∷ remove_entry (nat_eq page) es) n ≡ framed_in es n
framed-promoted es page kept now distinct is same n = grind (arith, common_steps, framed-put, framed-removed, eqb-true)

-- the entries themselves agree with what is known
pub each_known : (es : List Entry) → AreDistinct (frames_in es) → AllByRecursion (λ (e : Entry). framed_in es e.0 ≡ e.1.framed) es
each_known [] distinct = tt
each_known (e ∷ es) distinct = (
  ap (λ b. option_map_or (λ (k : PoolEntry). k.framed) (cond b (Some e.1) (lookup (nat_eq e.0) es)) false) (eq-eqb e.0 e.0 refl),
  behind es distinct.0 (each_known es distinct.1),
)
  where
    behind : (rest : List Entry) → Others e.0 (frames_in rest) → AllByRecursion (λ (x : Entry). framed_in es x.0 ≡ x.1.framed) rest
        → AllByRecursion (λ (x : Entry). framed_in (e ∷ es) x.0 ≡ x.1.framed) rest
    behind [] others all = tt
    behind (x ∷ rest) others all = grind (arith, common_steps, ne_eqb, (behind rest others.1 all.1))
