-- Names are a map: what each line's probing comes to, over the values of a table.
use Rattle.name_table.proofs.Names.{◌≡◌, ℕ, zero, suc, ◌+◌, ◌<◌, ◌≤◌, Bool, true, List, [], ◌++◌, length, replicate, Option, Some, None, inl, inr, refl, ap, sym, ◌∙◌, subst, arith, length-append, mod-lt, and_from, le-leb, ◌⊎◌, ◌/◌, take, drop, slice_set, if◌then◌else◌, IsOther, found, Writes, IsFull, NamesAreAMap, BlankIsWellFormed, IsName, entry, has_name, bucket_of, home, probed, bucket_count, bucket_at, value_under, value_among, names, AreWellFormed, IsWellFormed, record_at, Content, content_at, Ask, Write, End, Bucket, Free, Tombstone, Entry, Strange, Find, Put, Remove}
use Rattle.std.proofs.Math.Seq.{take-append_seam, drop-append_seam}
use Rattle.std.proofs.lemmas.List.{get_or-set_other, get_or-set_same, length-set}
use Rattle.name_table.proofs.Ring.{steps_to}
use Rattle.name_table.proofs.Values.{IsAbsent, under_other, stands, absent_none}
use Rattle.name_table.proofs.Changes.{Changed, probed_below, absent_behind, absent_all, put_formed, put_names, others_stay, removed_formed, removed_none, entries_differ, not_free}
use Rattle.name_table.proofs.Runs.{bucket_on, ArePassed, HasTombstone, Comes, meets, is_strange, is_free, passes_all, comes_to}
use Rattle.record_model.specs.declared.names.NameAnswer.TheVariants as answer

-- The octets of an entry are read as one.
pub reads_entry : (name value : List ℕ) → IsName name → length value ≤ 100 → bucket_of (Some (entry name value)) ≡ Entry name value
reads_entry name value is short =
    ap (λ (b : Bool). if b then Entry (take (length name) (name ++ value)) (drop (length name) (name ++ value)) else Strange) has
    ∙ ap (λ (l : List ℕ). Entry l (drop (length name) (name ++ value))) (take-append_seam name value)
    ∙ ap (Entry name) (drop-append_seam name value)
  where
    total : length (name ++ value) ≡ length name + length value
    total = length-append name value

    has : has_name (length name) (name ++ value) ≡ true
    has = and_from _ _ (and_from _ _ (and_from _ _ (le-leb 1 (length name) is.least) (le-leb (length name) 32 is.most))
        (le-leb (length name) (length (name ++ value)) (omega (arith, total))))
        (le-leb (length (name ++ value)) (length name + 100) (omega (arith, total)))

-- A write to the record of a bucket changes that bucket, and no other.
module _ (table : List Content) (place : ℕ) (among : place < bucket_count table) (value : List ℕ) where
  count_stays : bucket_count (slice_set table (bucket_count table + place) (Some value)) ≡ bucket_count table
  count_stays = ap (λ (k : ℕ). k / 2) (length-set table (bucket_count table + place) (Some value))

  within : bucket_count table + place < length table
  within = omega arith

  -- the buckets behind the write
  abbrev behind : ℕ → Bucket
  behind other = bucket_of (content_at (slice_set table (bucket_count table + place) (Some value)) (bucket_count table + other))

  changed : (b : Bucket) → bucket_of (Some value) ≡ b → Changed (bucket_at table) behind place b
  changed b is = record {
    here = ap bucket_of (get_or-set_same table (bucket_count table + place) (Some value) None within) ∙ is;
    elsewhere = λ other apart. ap bucket_of (get_or-set_other table (bucket_count table + place) (bucket_count table + other) (Some value) None
        (λ e. apart (omega (arith, e))));
  }

  -- such a write, by what it does to buckets
  writes : (name : List ℕ) (under : Option (List ℕ)) → AreWellFormed behind (bucket_count table) →
      value_among behind name (bucket_count table) ≡ under →
      ((other : List ℕ) → (other ≡ name → ⊥) → value_among behind other (bucket_count table) ≡ names table other) →
      Writes table name value under (Write (bucket_count table + place) value)
  writes name under formed of_name of_others = record {
    place = place;
    among = among;
    asks = refl;
    well_formed = subst (λ (n : ℕ). AreWellFormed (λ other. bucket_of (content_at (slice_set table (bucket_count table + place) (Some value)) (n + other))) n) (sym count_stays) formed;
    of_name = moved name ∙ of_name;
    of_others = λ other ne. moved other ∙ of_others other ne;
    elsewhere = λ number apart. get_or-set_other table (bucket_count table + place) number (Some value) None apart;
  }
    where
      moved : (other : List ℕ) → names (slice_set table (bucket_count table + place) (Some value)) other ≡ value_among behind other (bucket_count table)
      moved other = ap (λ (n : ℕ). value_among (λ k. bucket_of (content_at (slice_set table (bucket_count table + place) (Some value)) (n + k))) other n) count_stays

not_none : (value : List ℕ) → Some value ≡ None → ⊥
not_none value e = cc

-- each place is so many steps from home
pub each_other : (table : List Content) (name : List ℕ) → 1 ≤ bucket_count table →
    ((steps : ℕ) → steps < bucket_count table → IsOther name (bucket_on table name steps)) →
    (place : ℕ) → place < bucket_count table → IsOther name (bucket_at table place)
each_other table name some each place below =
    let way = steps_to (bucket_count table) (home name (bucket_count table)) place (mod-lt _ some) below in
    subst (λ (k : ℕ). IsOther name (bucket_at table k)) way.leads (each way.steps way.fewer)

other_entry : (name other value : List ℕ) → (other ≡ name → ⊥) → value_under other (Entry name value) ≡ None
other_entry name other value ne = under_other other (Entry name value) (λ more e. ne (sym (entries_differ name other value more e)))

module _ (table : List Content) (name : List ℕ) (some : 1 ≤ bucket_count table) (formed : IsWellFormed table) where
  among : (steps : ℕ) → probed name (bucket_count table) steps < bucket_count table
  among steps = probed_below (bucket_at table) (bucket_count table) some formed name steps

  none_behind : (steps : ℕ) → steps < bucket_count table → ArePassed table name steps → bucket_on table name steps ≡ Free → names table name ≡ None
  none_behind steps less passed free =
      absent_none (bucket_at table) name (bucket_count table) (absent_behind (bucket_at table) (bucket_count table) some formed name steps less passed free)

  none_at_all : ArePassed table name (bucket_count table) → names table name ≡ None
  none_at_all passed = absent_none (bucket_at table) name (bucket_count table) (absent_all (bucket_at table) (bucket_count table) some formed name passed)

  stands_on : (steps : ℕ) (value : List ℕ) → bucket_on table name steps ≡ Entry name value → names table name ≡ Some value
  stands_on steps value own = stands (bucket_at table) name (bucket_count table) formed (probed name (bucket_count table) steps) value (among steps) own

  find_ends : (next : Ask) → Comes table Find name next → next ≡ End (found (names table name))
  find_ends next (meets steps value less own passed e) = e ∙ ap (λ (o : Option (List ℕ)). End (found o)) (sym (stands_on steps value own))
  find_ends next (is_strange steps less strange passed e) = absurd (formed.formed _ (among steps) strange)
  find_ends next (is_free steps tombstone less free passed has e) = e ∙ ap (λ (o : Option (List ℕ)). End (found o)) (sym (none_behind steps less passed free))
  find_ends next (passes_all tombstone passed has e) = e ∙ ap (λ (o : Option (List ℕ)). End (found o)) (sym (none_at_all passed))

  -- A put writes to a bucket that the probing came to, where no other has the name's entry, and it none of another name.
  put_writes : (value : List ℕ) → IsName name → length value ≤ 100 → (steps : ℕ) → steps < bucket_count table → ArePassed table name steps →
      ((other : List ℕ) → (other ≡ name → ⊥) → value_under other (bucket_on table name steps) ≡ None) →
      ((place : ℕ) (more : List ℕ) → place < bucket_count table → (place ≡ probed name (bucket_count table) steps → ⊥) → bucket_at table place ≡ Entry name more → ⊥) →
      Writes table name (entry name value) (Some value) (Write (record_at name (bucket_count table) steps) (entry name value))
  put_writes value is short steps less passed had alone =
      let place : ℕ = probed name (bucket_count table) steps in
      let change : Changed (bucket_at table) (behind table place (among steps) (entry name value)) place (Entry name value) =
      changed table place (among steps) (entry name value) (Entry name value) (reads_entry name value is short) in
      writes table place (among steps) (entry name value) name (Some value)
      (put_formed (bucket_at table) (bucket_count table) some formed name _ steps less value change passed alone)
      (put_names (bucket_at table) (bucket_count table) some formed name _ steps less value change passed alone)
      (λ other ne. others_stay (bucket_at table) (bucket_count table) some formed name _ place (Entry name value) change other (had other ne) (other_entry name other value ne))

  -- what a new entry finds under other names
  new_writes : (value : List ℕ) → IsName name → length value ≤ 100 → (steps : ℕ) → steps < bucket_count table → ArePassed table name steps →
      ((other : List ℕ) → value_under other (bucket_on table name steps) ≡ None) → IsAbsent (bucket_at table) name (bucket_count table) →
      (next : Ask) → next ≡ Write (record_at name (bucket_count table) steps) (entry name value) →
      Writes table name (entry name value) (Some value) next
  new_writes value is short steps less passed had absent next e =
      subst (Writes table name (entry name value) (Some value)) (sym e) (put_writes value is short steps less passed (λ other ne. had other)
      (λ place more below apart own. absent place more below own))

  tombstone_writes : (value : List ℕ) → IsName name → length value ≤ 100 → (steps number : ℕ) → steps ≤ bucket_count table → ArePassed table name steps →
      HasTombstone table name steps (Some number) → IsAbsent (bucket_at table) name (bucket_count table) →
      (next : Ask) → next ≡ Write number (entry name value) → Writes table name (entry name value) (Some value) next
  tombstone_writes value is short steps number few passed has absent next e =
      let at : ℕ = has.0 in
      let before : at < steps = has.1 in
      new_writes value is short at (omega arith) (λ fewer less. passed fewer (omega arith))
      (λ other. ap (value_under other) has.3) absent next (e ∙ ap (λ (k : ℕ). Write k (entry name value)) has.2)

  absent_at_all : ArePassed table name (bucket_count table) → IsAbsent (bucket_at table) name (bucket_count table)
  absent_at_all passed = absent_all (bucket_at table) (bucket_count table) some formed name passed

  put_ends : (value : List ℕ) → IsName name → length value ≤ 100 → (next : Ask) → Comes table (Put value) name next →
      IsFull table name next ⊎ Writes table name (entry name value) (Some value) next
  put_ends value is short next (meets steps old less own passed e) =
      inr (subst (Writes table name (entry name value) (Some value)) (sym e) (put_writes value is short steps less passed
      (λ other ne. ap (value_under other) own ∙ other_entry name other old ne)
      (λ place more below apart has. apart (formed.differ place _ name more old below (among steps) has own))))
  put_ends value is short next (is_strange steps less strange passed e) = absurd (formed.formed _ (among steps) strange)
  put_ends value is short next (is_free steps None less free passed has e) =
      inr (new_writes value is short steps less passed (λ other. ap (value_under other) free)
      (absent_behind (bucket_at table) (bucket_count table) some formed name steps less passed free) next e)
  put_ends value is short next (is_free steps (Some number) less free passed has e) =
      inr (tombstone_writes value is short steps number (omega arith) passed has
      (absent_behind (bucket_at table) (bucket_count table) some formed name steps less passed free) next e)
  put_ends value is short next (passes_all None passed has e) = inl (record { each = each_other table name some has; tells = e })
  put_ends value is short next (passes_all (Some number) passed has e) =
      inr (tombstone_writes value is short (bucket_count table) number (omega arith) passed has (absent_at_all passed) next e)

  remove_none : names table name ≡ None → (next : Ask) → Comes table Remove name next → next ≡ End answer.Nothing
  remove_none none next (meets steps value less own passed e) = absurd (not_none value (sym (stands_on steps value own) ∙ none))
  remove_none none next (is_strange steps less strange passed e) = absurd (formed.formed _ (among steps) strange)
  remove_none none next (is_free steps tombstone less free passed has e) = e
  remove_none none next (passes_all tombstone passed has e) = e

  remove_writes : (old : List ℕ) (steps : ℕ) → bucket_on table name steps ≡ Entry name old →
      Writes table name [] None (Write (record_at name (bucket_count table) steps) [])
  remove_writes old steps own =
      let place : ℕ = probed name (bucket_count table) steps in
      let change : Changed (bucket_at table) (behind table place (among steps) []) place Tombstone = changed table place (among steps) [] Tombstone refl in
      writes table place (among steps) [] name None
      (removed_formed (bucket_at table) (bucket_count table) some formed name _ place (among steps) old own change)
      (removed_none (bucket_at table) (bucket_count table) some formed name _ place (among steps) old own change)
      (λ other ne. others_stay (bucket_at table) (bucket_count table) some formed name _ place Tombstone change other
      (ap (value_under other) own ∙ other_entry name other old ne) refl)

  remove_some : (value : List ℕ) → names table name ≡ Some value → (next : Ask) → Comes table Remove name next → Writes table name [] None next
  remove_some value there next (meets steps old less own passed e) = subst (Writes table name [] None) (sym e) (remove_writes old steps own)
  remove_some value there next (is_strange steps less strange passed e) = absurd (formed.formed _ (among steps) strange)
  remove_some value there next (is_free steps tombstone less free passed has e) = absurd (not_none value (sym there ∙ none_behind steps less passed free))
  remove_some value there next (passes_all tombstone passed has e) = absurd (not_none value (sym there ∙ none_at_all passed))

pub names_are_a_map : NamesAreAMap
names_are_a_map table name some formed = record {
  find = find_ends table name some formed _ (comes_to table Find name some).comes;
  put = λ value is short. put_ends table name some formed value is short _ (comes_to table (Put value) name some).comes;
  remove_none = λ none. remove_none table name some formed none _ (comes_to table Remove name some).comes;
  remove_some = λ value there. remove_some table name some formed value there _ (comes_to table Remove name some).comes;
}

pub blank_is_well_formed : BlankIsWellFormed
blank_is_well_formed records = record {
  formed = λ place below e. not_strange (sym (free place) ∙ e);
  differ = λ place other name value more below under e o. absurd (not_free name value (sym e ∙ free place));
  reached = λ name value steps fewer few before e f. not_free name value (sym e ∙ free (probed name (bucket_count (replicate records None)) steps));
}
  where
    nothing : (many place : ℕ) → content_at (replicate many None) place ≡ None
    nothing zero place = refl
    nothing (suc many) zero = refl
    nothing (suc many) (suc place) = nothing many place

    free : (place : ℕ) → bucket_at (replicate records None) place ≡ Free
    free place = ap bucket_of (nothing records (bucket_count (replicate records None) + place))

    not_strange : Free ≡ Strange → ⊥
    not_strange e = cc
