-- A flush, push by push.
use Rattle.std.proofs.lemmas.Grind.{common_steps}
use Rattle.page_store.proofs.Names.{◌≡◌, ◌⊎◌, inl, inr, ℕ, ◌+◌, ◌*◌, ◌<◌, ◌≤◌, Bool, true, false, true≢false, ◌||◌, cond, List, [], ◌∷◌, ◌++◌, arith, refl, sym, ap, subst, ◌∙◌, or-false, or-true, nat_tests, nat_lt, units_then, master_shape, LogList, sealed_if, HasBlocks, LeavesLog, LeavesPages, in_sequence, leaves_weaker, holds_now, Leaves, LeavesOnly, State, Snapshot, snapshot_of, Geometry}

-- Blocks and tail: where there is one block more, there was a tail and is none.

pub no_tail : (h0 h1 : ℕ) (t0 t1 : Bool) → 512 * (h1 + cond t1 1 0) ≡ 512 * (h0 + cond t0 1 0) → nat_lt h0 h1 ≡ true → t1 ≡ false
no_tail h0 h1 t0 t1 h h2 = grind (arith, common_steps, nat_tests)

pub risen : (h0 h1 h2 : ℕ) (forced : Bool) → h0 ≤ h1 → h2 ≡ cond forced (h1 + 1) h1 → nat_lt h0 h2 ≡ (nat_lt h0 h1 || forced)
risen h0 h1 h2 true rises is = grind (arith, common_steps, or-true, nat_tests)
risen h0 h1 h2 false rises is = ap (nat_lt h0) is ∙ sym (or-false (nat_lt h0 h1))

pub sealed_again : (list : LogList) (b forced : Bool) → (b ≡ true → forced ≡ false) → sealed_if forced (sealed_if b list) ≡ sealed_if (b || forced) list
sealed_again list b forced h = grind (arith, common_steps)

-- One push more.

-- where more may be sealed
pub more_sealed : (g : Geometry) (given : ℕ → List ℕ) (a b : Bool) (list : LogList) (old : State) (s : Snapshot) → (a ≡ true → b ≡ true) → LeavesPages g given a list old s → LeavesPages g given b list old s
more_sealed g given a b list old s more p = record {
  log = record {
    told = p.log.told;
    blocks = elim p.log.blocks [
      | inl has ↦ inl has
      | inr both ↦ inr (more both.0, both.1)
    ];
  };
  masters = p.masters;
  queue = p.queue;
  clean = p.clean;
  versions = p.versions;
}

-- What is left behind it, or at a moment of it.
pub one_more_pages : (g : Geometry) (given given' : ℕ → List ℕ) (wanted b forced : Bool) (list : LogList) (old mid : State) (s : Snapshot) → (b ≡ true → wanted ≡ true) → (forced ≡ true → wanted ≡ true) → (b ≡ true → forced ≡ false)
    → ((page : ℕ) → page < g.pages → given' page ≡ given page) → LeavesPages g given wanted list old (snapshot_of mid) → LeavesPages g given' forced (sealed_if b list) mid s → LeavesPages g given wanted list old s
one_more_pages g given given' wanted b forced list old mid s had also once same there p = record {
  log = blocks b refl p.log;
  masters = units_then master_shape old.image mid.image s.image there.masters p.masters;
  queue = p.queue;
  clean = p.clean;
  versions = λ page exists. elim (p.versions page exists) [
    | inl kept ↦ elim (there.versions page exists) [
      | inl before ↦ inl (kept ∙ before)
      | inr own ↦ inr (kept ∙ own)
    ]
    | inr own ↦ inr (own ∙ same page exists)
  ];
}
  where
    blocks : (c : Bool) → b ≡ c → LeavesLog g forced (sealed_if b list) mid.told s → LeavesLog g wanted list old.told s
    blocks c is log = record { told = log.told ∙ there.log.told; blocks = at c is (subst (λ (d : Bool). LeavesLog g forced (sealed_if d list) mid.told s) is log) }
      where
        at : (d : Bool) → b ≡ d → LeavesLog g forced (sealed_if d list) mid.told s → HasBlocks g list.first list.blocks s.image ⊎ ((wanted ≡ true) × HasBlocks g list.first (list.blocks ++ list.tail ∷ []) s.image)
        at true is left = elim left.blocks [
          | inl has ↦ inr (had is, has)
          | inr both ↦ absurd (true≢false (sym both.0 ∙ once is))
        ]
        at false is left = elim left.blocks [
          | inl has ↦ inl has
          | inr both ↦ inr (also both.0, both.1)
        ]

pub one_more_push : (g : Geometry) (given given' : ℕ → List ℕ) (wanted b forced : Bool) (list : LogList) (old mid new : State) → (b ≡ true → wanted ≡ true) → (forced ≡ true → wanted ≡ true) → (b ≡ true → forced ≡ false)
    → ((page : ℕ) → page < g.pages → given' page ≡ given page) → LeavesOnly old mid (LeavesPages g given wanted list old) → LeavesOnly mid new (LeavesPages g given' forced (sealed_if b list) mid)
    → LeavesOnly old new (LeavesPages g given wanted list old)
one_more_push g given given' wanted b forced list old mid new had also once same first second =
    in_sequence old mid new (Leaves (LeavesPages g given wanted list old)) first
    (leaves_weaker mid new (LeavesPages g given' forced (sealed_if b list) mid) (LeavesPages g given wanted list old)
    (λ s p. one_more_pages g given given' wanted b forced list old mid s had also once same (holds_now old mid (LeavesPages g given wanted list old) first) p) second)

-- where there is a tail, there is no block more
pub kept_block : (h0 h1 : ℕ) (t0 t1 : Bool) → 512 * (h1 + cond t1 1 0) ≡ 512 * (h0 + cond t0 1 0) → h0 ≤ h1 → t1 ≡ true → h0 ≡ h1
kept_block h0 h1 t0 t1 h h2 h3 = grind (arith, common_steps)
