-- What one changed bucket does to well-formed buckets.
use Rattle.name_table.proofs.Names.{◌≡◌, ℕ, ◌<◌, List, Some, None, inl, inr, refl, ap, sym, ◌∙◌, subst, arith, mod-lt, cases_eq, cases_order, IsPassed, home, probed, value_under, value_among, AreWellFormed, Bucket, Free, Tombstone, Entry, Strange}
use Rattle.name_table.proofs.Ring.{same_steps, steps_to}
use Rattle.name_table.proofs.Values.{IsAbsent, stands, stands_alike, absent_none}

-- the bucket of one place changes
pub record Changed (f g : ℕ → Bucket) (place : ℕ) (b : Bucket) : Type 0 where
  pub here : g place ≡ b
  pub elsewhere : (other : ℕ) → (other ≡ place → ⊥) → g other ≡ f other

pub entries_differ : (name other value more : List ℕ) → Entry name value ≡ Entry other more → name ≡ other
entries_differ name other value more e = cc

pub not_free : (name value : List ℕ) → Entry name value ≡ Free → ⊥
not_free name value e = cc

pub not_tombstone : (name value : List ℕ) → Entry name value ≡ Tombstone → ⊥
not_tombstone name value e = cc

-- what is passed is not free, and not the name's own entry
pub passed_not_free : (name : List ℕ) (b : Bucket) → IsPassed name b → b ≡ Free → ⊥
passed_not_free name b passed e = subst (IsPassed name) e passed

pub passed_not_own : (name value : List ℕ) (b : Bucket) → IsPassed name b → b ≡ Entry name value → ⊥
passed_not_own name value b passed e = subst (IsPassed name) e passed refl

module _ (f : ℕ → Bucket) (n : ℕ) (some : 0 < n) (formed : AreWellFormed f n) (name : List ℕ) where
  home_below : home name n < n
  home_below = mod-lt _ some

  pub probed_below : (d : ℕ) → probed name n d < n
  probed_below d = mod-lt _ some

  -- The name is nowhere where the probing meets a free bucket, or passes all of them.
  pub absent_behind : (d : ℕ) → d < n → ((k : ℕ) → k < d → IsPassed name (f (probed name n k))) → f (probed name n d) ≡ Free → IsAbsent f name n
  absent_behind d less passed free place value below is =
      let way = steps_to n (home name n) place home_below below in
      let own : f (probed name n way.steps) ≡ Entry name value = ap f way.leads ∙ is in
      elim (cases_order way.steps d) [
        | inl same ↦ not_free name value (sym own ∙ ap (λ (k : ℕ). f (probed name n k)) same ∙ free)
        | inr other ↦ elim other [
          | inl early ↦ passed_not_own name value _ (passed way.steps early) own
          | inr late ↦ formed.reached name value way.steps d way.fewer late own free
        ]
      ]

  pub absent_all : ((k : ℕ) → k < n → IsPassed name (f (probed name n k))) → IsAbsent f name n
  absent_all passed place value below is =
      let way = steps_to n (home name n) place home_below below in
      passed_not_own name value _ (passed way.steps way.fewer) (ap f way.leads ∙ is)

  -- A name's entry is put where the probing for it has come to, and no other bucket has one.
  module _ (g : ℕ → Bucket) (d : ℕ) (less : d < n) (value : List ℕ) (change : Changed f g (probed name n d) (Entry name value))
      (passed : (k : ℕ) → k < d → IsPassed name (f (probed name n k)))
      (alone : (place : ℕ) (more : List ℕ) → place < n → (place ≡ probed name n d → ⊥) → f place ≡ Entry name more → ⊥) where
    -- a bucket that isn't free stays so
    stays_taken : (place : ℕ) → (f place ≡ Free → ⊥) → g place ≡ Free → ⊥
    stays_taken place taken e = elim (cases_eq place (probed name n d)) [
      | inl same ↦ not_free name value (sym change.here ∙ ap g (sym same) ∙ e)
      | inr apart ↦ taken (sym (change.elsewhere place apart) ∙ e)
    ]

    pub put_formed : AreWellFormed g n
    put_formed = record { formed = formed_still; differ = differ_still; reached = reached_still }
      where
        formed_still : (place : ℕ) → place < n → g place ≡ Strange → ⊥
        formed_still place below e = elim (cases_eq place (probed name n d)) [
          | inl same ↦ let no : Entry name value ≡ Strange = sym change.here ∙ ap g (sym same) ∙ e in cc
          | inr apart ↦ formed.formed place below (sym (change.elsewhere place apart) ∙ e)
        ]

        -- an entry elsewhere is of another name
        mine : (place other : ℕ) (own more rest : List ℕ) → place ≡ probed name n d → other < n → (other ≡ probed name n d → ⊥) →
            g place ≡ Entry own more → g other ≡ Entry own rest → ⊥
        mine place other own more rest same below apart e o =
            let is : name ≡ own = entries_differ name own value more (sym change.here ∙ ap g (sym same) ∙ e) in
            alone other rest below apart (sym (change.elsewhere other apart) ∙ o ∙ ap (λ (l : List ℕ). Entry l rest) (sym is))

        differ_still : (place other : ℕ) (own more rest : List ℕ) → place < n → other < n → g place ≡ Entry own more → g other ≡ Entry own rest → place ≡ other
        differ_still place other own more rest below under e o = elim (cases_eq place (probed name n d)) [
          | inl same ↦ elim (cases_eq other (probed name n d)) [
            | inl too ↦ same ∙ sym too
            | inr apart ↦ absurd (mine place other own more rest same under apart e o)
          ]
          | inr apart ↦ elim (cases_eq other (probed name n d)) [
            | inl too ↦ absurd (mine other place own rest more too below apart o e)
            | inr both ↦ formed.differ place other own more rest below under (sym (change.elsewhere place apart) ∙ e) (sym (change.elsewhere other both) ∙ o)
          ]
        ]

        -- the way to the new entry
        own_way : (steps fewer : ℕ) → steps < n → fewer < steps → probed name n steps ≡ probed name n d → f (probed name n fewer) ≡ Free → ⊥
        own_way steps fewer few before same free =
            let at : steps ≡ d = same_steps n (home name n) steps d home_below few less same in
            passed_not_free name _ (passed fewer (omega arith)) free

        reached_still : (own more : List ℕ) (steps fewer : ℕ) → steps < n → fewer < steps → g (probed own n steps) ≡ Entry own more → g (probed own n fewer) ≡ Free → ⊥
        reached_still own more steps fewer few before e = stays_taken (probed own n fewer) (elim (cases_eq (probed own n steps) (probed name n d)) [
          | inl same ↦
              let is : name ≡ own = entries_differ name own value more (sym change.here ∙ ap g (sym same) ∙ e) in
              subst (λ (l : List ℕ). probed l n steps ≡ probed name n d → f (probed l n fewer) ≡ Free → ⊥) is (own_way steps fewer few before) same
          | inr apart ↦ formed.reached own more steps fewer few before (sym (change.elsewhere _ apart) ∙ e)
        ])

    pub put_names : value_among g name n ≡ Some value
    put_names = stands g name n put_formed (probed name n d) value (probed_below d) change.here

  -- What stands under other names stays, where the changed bucket had no other one's entry, and has none.
  pub others_stay : (g : ℕ → Bucket) (place : ℕ) (b : Bucket) → Changed f g place b → (other : List ℕ) →
      value_under other (f place) ≡ None → value_under other b ≡ None → value_among g other n ≡ value_among f other n
  others_stay g place b change other had has = stands_alike f g other n alike
    where
      alike : (k : ℕ) → k < n → value_under other (g k) ≡ value_under other (f k)
      alike k below = elim (cases_eq k place) [
        | inl same ↦ ap (λ (k : ℕ). value_under other (g k)) same ∙ ap (value_under other) change.here ∙ has ∙ sym had ∙ ap (λ (k : ℕ). value_under other (f k)) (sym same)
        | inr apart ↦ ap (value_under other) (change.elsewhere k apart)
      ]

  -- An entry becomes a tombstone.
  module _ (g : ℕ → Bucket) (place : ℕ) (below : place < n) (value : List ℕ) (is : f place ≡ Entry name value) (change : Changed f g place Tombstone) where
    -- each entry that is left was there
    was_there : (k : ℕ) (own more : List ℕ) → g k ≡ Entry own more → (k ≡ place → ⊥) × (f k ≡ Entry own more)
    was_there k own more e = elim (cases_eq k place) [
      | inl same ↦ absurd (not_tombstone own more (sym e ∙ ap g same ∙ change.here))
      | inr apart ↦ (apart, sym (change.elsewhere k apart) ∙ e)
    ]

    pub removed_formed : AreWellFormed g n
    removed_formed = record {
      formed = λ k low e. elim (cases_eq k place) [
        | inl same ↦ let no : Tombstone ≡ Strange = sym change.here ∙ ap g (sym same) ∙ e in cc
        | inr apart ↦ formed.formed k low (sym (change.elsewhere k apart) ∙ e)
      ];
      differ = λ k other own more rest low under e o. formed.differ k other own more rest low under (was_there k own more e).1 (was_there other own rest o).1;
      reached = λ own more steps fewer few before e free. elim (cases_eq (probed own n fewer) place) [
        | inl same ↦ let no : Tombstone ≡ Free = sym change.here ∙ ap g (sym same) ∙ free in cc
        | inr apart ↦ formed.reached own more steps fewer few before (was_there _ own more e).1 (sym (change.elsewhere _ apart) ∙ free)
      ];
    }

    pub removed_none : value_among g name n ≡ None
    removed_none = absent_none g name n gone
      where
        gone : IsAbsent g name n
        gone k more low e =
            let was = was_there k name more e in
            was.0 (formed.differ k place name more value low below was.1 is)
