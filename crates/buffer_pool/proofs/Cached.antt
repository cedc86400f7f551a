-- What the words on a cache's entries say of the pool's frames.
use Rattle.buffer_pool.proofs.Names.{◌≡◌, ℕ, ◌-◌, ◌<◌, ◌==◌, not, nat_eq, Bool, true, false, cond, List, [], ◌∷◌, ◌++◌, length, take, drop, slice_get, slice_set, is_some, option_map, Option, None, Some, arith, refl, sym, ap, subst, ◌∙◌, length-append, eqb-true, eq-eqb, cond-true, length-map, map-append, length-set_value, none-some, lookup, lookup_entry, remove_entry, set_value, frame_in, frames_in, state_in, State, IsPool, AreDistinct, frame_of, without, touched, cleared, clear, front_of, ChangesFront, Frame, PoolEntry, LruCache, put_entries, last_entry, IsSound, slots_of, lsn_of, eq_turned}
use Rattle.std.proofs.Common.{take_all}
use Rattle.buffer_pool.proofs.Order.{Others, absent, others_stay, others_marked, distinct-without, length-without, distinct-front}
use Rattle.std.proofs.lemmas.Grind.{common_steps}

abbrev pub Entry : Type 0
Entry = ℕ × PoolEntry

abbrev pub state : ℕ → List ℕ → List Frame → State
state n framed frames = record { size = n; frames = frames; framed = framed }

-- A page's frame.

pub frame_of-lookup : (es : List Entry) (page : ℕ) → frame_of (frames_in es) page ≡ option_map (λ (kept : PoolEntry). frame_in (page, kept)) (lookup (nat_eq page) es)
frame_of-lookup [] page = refl
frame_of-lookup (e ∷ es) page = grind (arith, common_steps, eq_turned, eqb-true, (frame_of-lookup es page))

pub frame_of-lookup_entry : (es : List Entry) (page : ℕ) → frame_of (frames_in es) page ≡ option_map frame_in (lookup_entry (nat_eq page) es)
frame_of-lookup_entry [] page = refl
frame_of-lookup_entry (e ∷ es) page = grind (arith, common_steps, eq_turned, (frame_of-lookup_entry es page))

pub content-lookup : (es : List Entry) (page : ℕ)
    → option_map (λ (frame : Frame). frame.content) (frame_of (frames_in es) page) ≡ option_map (λ (kept : PoolEntry). kept.content.value) (lookup (nat_eq page) es)
content-lookup es page = grind (arith, common_steps, frame_of-lookup)

pub found : (es : List Entry) (page : ℕ) (kept : PoolEntry) → lookup (nat_eq page) es ≡ Some kept → frame_of (frames_in es) page ≡ Some (frame_in (page, kept))
found es page kept is = frame_of-lookup es page ∙ ap (option_map (λ (kept : PoolEntry). frame_in (page, kept))) is

pub missing : (es : List Entry) (page : ℕ) → lookup (nat_eq page) es ≡ None → frame_of (frames_in es) page ≡ None
missing es page is = frame_of-lookup es page ∙ ap (option_map (λ (kept : PoolEntry). frame_in (page, kept))) is

not_entry : (es : List Entry) (page : ℕ) → frame_of (frames_in es) page ≡ None → lookup_entry (nat_eq page) es ≡ None
not_entry es page none = grind (arith, common_steps, frame_of-lookup_entry, none-some)

-- An entry less.

pub frames-remove_entry : (es : List Entry) (page : ℕ) → AreDistinct (frames_in es) → frames_in (remove_entry (nat_eq page) es) ≡ without (frames_in es) page
frames-remove_entry [] page distinct = refl
frames-remove_entry (e ∷ es) page distinct = by (page == e.0) refl (frames-remove_entry es page distinct.1)
  where
    by : (b : Bool) → (page == e.0) ≡ b → frames_in (remove_entry (nat_eq page) es) ≡ without (frames_in es) page
        → frames_in (cond b es (e ∷ remove_entry (nat_eq page) es)) ≡ cond (not (e.0 == page)) (frame_in e ∷ without (frames_in es) page) (without (frames_in es) page)
    by true is rest =
        sym (others_stay page (frames_in es) (let P : ℕ → Type 0 = λ n. Others n (frames_in es) in subst P (sym (eqb-true _ _ is)) distinct.0))
        ∙ ap (λ b. cond (not b) (frame_in e ∷ without (frames_in es) page) (without (frames_in es) page)) (sym (eq_turned e.0 page ∙ is))
    by false is rest = grind (arith, common_steps, eq_turned)

pub pool-remove_entry : (n : ℕ) (es : List Entry) (page : ℕ) → IsPool (state_in n es) → IsPool (state_in n (remove_entry (nat_eq page) es))
pool-remove_entry n es page pool = grind (arith, common_steps, frames-remove_entry, length-without, distinct-without)

pub none_removed : (es : List Entry) (page : ℕ) → lookup (nat_eq page) es ≡ None → remove_entry (nat_eq page) es ≡ es
none_removed [] page none = refl
none_removed (e ∷ es) page none = grind (arith, common_steps, none-some, (none_removed es page))

-- An entry comes to the front.

pub length_frames : (es : List Entry) → length (frames_in es) ≡ length es
length_frames es = length-map es frame_in

pub front-promoted : (es : List Entry) (page : ℕ) → AreDistinct (frames_in es) → is_some (frame_of (frames_in es) page) ≡ true
    → frame_of (frames_in es) page ≡ Some (front_of (touched (frames_in es) page))
front-promoted es page distinct some = grind (arith, common_steps)

pub some-promoted : (frames : List Frame) (page : ℕ) → is_some (frame_of frames page) ≡ true → 0 < length (touched frames page)
some-promoted frames page some = grind (arith, common_steps)

-- An entry more.

pub frames-put : (c : LruCache ℕ PoolEntry) (page : ℕ) (kept : PoolEntry) → frame_of (frames_in c.entries) page ≡ None → length c.entries < c.cap
    → put_entries nat_eq c page kept ≡ (page, kept) ∷ c.entries
frames-put c page kept none room = grind (arith, common_steps, not_entry, take_all)

pub pool-put : (n : ℕ) (es : List Entry) (page : ℕ) (kept : PoolEntry) → frame_of (frames_in es) page ≡ None → length (frames_in es) < n
    → IsPool (state_in n es) → IsPool (state_in n ((page, kept) ∷ es))
pool-put n es page kept none room pool = record { few = omega (arith, room); distinct = (absent (frames_in es) page none, pool.distinct) }

-- The last entry.

pub split_last : (es : List Entry) (e : Entry) → last_entry es ≡ Some e → es ≡ take (length es - 1) es ++ e ∷ []
split_last [] e is = absurd (none-some e is)
split_last (f ∷ []) e is = let same : f ≡ e = cc in ap (λ (x : Entry). x ∷ []) same
split_last (f ∷ g ∷ es) e is = grind (arith, common_steps, (split_last (g ∷ es) e))

pub frames-last : (es : List Entry) (e : Entry) → last_entry es ≡ Some e → frames_in es ≡ frames_in (take (length es - 1) es) ++ frame_in e ∷ []
frames-last es e is = ap frames_in (split_last es e is) ∙ map-append frame_in (take (length es - 1) es) (e ∷ [])

pub pool-last : (n : ℕ) (es : List Entry) (e : Entry) → last_entry es ≡ Some e → IsPool (state_in n es) → IsPool (state_in n (take (length es - 1) es))
pool-last n es e is pool =
    let split : frames_in es ≡ frames_in (take (length es - 1) es) ++ frame_in e ∷ [] = frames-last es e is in
    let split_es : es ≡ take (length es - 1) es ++ e ∷ [] = split_last es e is in
    record {
      few = omega (arith, ap length split, length-append (frames_in (take (length es - 1) es)) (frame_in e ∷ []), pool.few);
      distinct = distinct-front (frames_in (take (length es - 1) es)) (frame_in e ∷ []) (subst AreDistinct split pool.distinct);
    }

-- What is kept of a page is another.

-- with the same marks for the pool
pub frames-kept : (es : List Entry) (page : ℕ) (kept now : PoolEntry) → now.changed ≡ kept.changed → now.content ≡ kept.content → lookup (nat_eq page) es ≡ Some kept
    → frames_in (set_value (nat_eq page) es now) ≡ frames_in es
frames-kept [] page kept now changed content is = refl
frames-kept (e ∷ es) page kept now changed content is = grind (arith, common_steps, (frames-kept es page kept now changed content))

-- no longer marked as changed
pub frames-cleared : (es : List Entry) (page : ℕ) (kept now : PoolEntry) → now.changed ≡ false → now.content ≡ kept.content → AreDistinct (frames_in es) → lookup (nat_eq page) es ≡ Some kept
    → frames_in (set_value (nat_eq page) es now) ≡ cleared (frames_in es) page
frames-cleared [] page kept now changed content distinct is = refl
frames-cleared (e ∷ es) page kept now changed content distinct is = by (page == e.0) refl is (frames-cleared es page kept now changed content distinct.1)
  where
    by : (b : Bool) → (page == e.0) ≡ b → cond b (Some e.1) (lookup (nat_eq page) es) ≡ Some kept
        → (lookup (nat_eq page) es ≡ Some kept → frames_in (set_value (nat_eq page) es now) ≡ cleared (frames_in es) page)
        → frames_in (cond b ((e.0, now) ∷ es) (e ∷ set_value (nat_eq page) es now)) ≡ cond (e.0 == page) (clear (frame_in e)) (frame_in e) ∷ cleared (frames_in es) page
    by true at is rest =
        let same : e.1 ≡ kept = cc in
        (λ i. let f : Frame = record { page = e.0; changed = changed i; content = (content i).value } in f ∷ frames_in es)
        ∙ ap (λ (k : PoolEntry). clear (frame_in (e.0, k)) ∷ frames_in es) (sym same)
        ∙ ap (λ (xs : List Frame). clear (frame_in e) ∷ xs) (sym (others_marked page (frames_in es) (let P : ℕ → Type 0 = λ n. Others n (frames_in es) in subst P (sym (eqb-true _ _ at)) distinct.0)))
        ∙ ap (λ b. cond b (clear (frame_in e)) (frame_in e) ∷ cleared (frames_in es) page) (sym (eq_turned e.0 page ∙ at))
    by false at is rest = grind (arith, common_steps, eq_turned)

pub pool-kept : (n : ℕ) (es : List Entry) (page : ℕ) (now : PoolEntry) → IsPool (state_in n es) → IsPool (state_in n (set_value (nat_eq page) es now))
pool-kept n es page now pool = record {
  few = omega (arith, length_frames es, length_frames (set_value (nat_eq page) es now), length-set_value (nat_eq page) es now, pool.few);
  distinct = distinct-kept es pool.distinct;
}
  where
    others-kept : (n : ℕ) (es : List Entry) → Others n (frames_in es) → Others n (frames_in (set_value (nat_eq page) es now))
    others-kept n [] all = tt
    others-kept n (e ∷ es) all = grind (arith, common_steps, (others-kept n es all.1))

    distinct-kept : (es : List Entry) → AreDistinct (frames_in es) → AreDistinct (frames_in (set_value (nat_eq page) es now))
    distinct-kept [] all = tt
    distinct-kept (e ∷ es) all = by (nat_eq page e.0) (distinct-kept es all.1)
      where
        by : (b : Bool) → AreDistinct (frames_in (set_value (nat_eq page) es now)) → AreDistinct (frames_in (cond b ((e.0, now) ∷ es) (e ∷ set_value (nat_eq page) es now)))
        by true rest = all
        by false rest = (others-kept e.0 es all.0, rest)

-- The entry in front.

pub no_front : (es : List Entry) → slice_get es 0 ≡ None → es ≡ []
no_front [] is = refl
no_front (e ∷ es) is = absurd (none-some e (sym is))

pub front-first : (es : List Entry) (e : Entry) → slice_get es 0 ≡ Some e → front_of (frames_in es) ≡ frame_in e
front-first [] e is = absurd (none-some e is)
front-first (f ∷ es) e is = let same : f ≡ e = cc in ap frame_in same

pub lookup-first : (es : List Entry) (e : Entry) → slice_get es 0 ≡ Some e → lookup (nat_eq e.0) es ≡ Some e.1
lookup-first [] e is = absurd (none-some e is)
lookup-first (f ∷ es) e is = grind (arith, common_steps, cond-true, eq-eqb)

pub set-first : (es : List Entry) (e : Entry) (w : PoolEntry) → slice_get es 0 ≡ Some e → set_value (nat_eq e.0) es w ≡ (e.0, w) ∷ drop 1 es
set-first es e w h = grind (arith, common_steps, none-some, cond-true, eq-eqb)

-- the entry in front has another value
pub changes_front : (es : List Entry) (e : Entry) (now : PoolEntry) (slot : ℕ) (content : Option (List ℕ)) (lsn : ℕ) → slice_get es 0 ≡ Some e
    → now.changed ≡ true → IsSound now.content.value → slots_of now.content.value ≡ slice_set (slots_of (front_of (frames_in es)).content) slot content → lsn_of now.content.value ≡ lsn
    → ChangesFront (frames_in es) (frames_in (set_value (nat_eq e.0) es now)) slot content lsn
changes_front es e now slot content lsn h h2 h3 h4 h5 = grind (arith, common_steps, none-some, set-first)

-- what the page in front holds
pub front_content : (pool : State) (n : ℕ) (es : List Entry) (e : Entry) (kept : PoolEntry) → state_in n es ≡ pool → slice_get es 0 ≡ Some e
    → Some kept ≡ lookup (nat_eq e.0) es → (front_of pool.frames).content ≡ kept.content.value
front_content pool n es e kept view is there = grind (arith, common_steps, lookup-first, front-first)
