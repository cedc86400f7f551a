-- A command that makes no call, and one that is told.
use Rattle.face.proofs.Names.{◌≡◌, inl, inr, ⊎_elim, ℕ, List, [], ◌++◌, length, length-append, take, refl, sym, ◌∙◌, ap, subst, arith, append-nil, take_all, nil_from_length, LeavesEither, StandsFor, LeavesAnswer, State, each_weaker, no_call, image_is, told_is, in_sequence, leaves_weaker, holds_now, tell_leaves, Leaves, LeavesOnly, EachMoment, Site, Image, MayLeave, Moment, Snapshot, now_of, no_loose, TellsPart, Geometry}

-- where each snapshot has told the same nothing is being told
left_at : (m : Moment) (k : ℕ) → MayLeave m (record { told = m.told ++ take k m.telling; image = m.image })
left_at m k = record { told = (k, refl); content = λ dev. record { size = refl; kept = λ place out. refl } }

silent : (t : List ℕ) (m : Moment) → ((s : Snapshot) → MayLeave m s → s.told ≡ t) → m.telling ≡ []
silent t m told =
    let none = ap length (told _ (left_at m 0)) in
    let all = ap length (told _ (left_at m (length m.telling))) in
    let front = length-append m.told (take 0 m.telling) in
    let both = length-append m.told (take (length m.telling) m.telling) in
    let whole = ap length (take_all (length m.telling) m.telling (omega arith)) in
    let empty : length (take 0 m.telling) ≡ 0 = refl in
    nil_from_length m.telling (omega (arith, none, all, front, both, whole, empty))

pub says_nothing : (t : List ℕ) (P : Snapshot → Type 0) → ((s : Snapshot) → P s → s.told ≡ t) → (old new : Site) → LeavesOnly old new P → EachMoment old new (λ m. m.telling ≡ [])
says_nothing t P told old new leaves = each_weaker old new (Leaves P) (λ m. m.telling ≡ []) (λ m left. silent t m (λ s may. told s (left s may))) leaves

-- a command that makes no call leaves what was there
pub no_change : (g : Geometry) (s : Site) (before after : State) → s.loose ≡ no_loose → StandsFor g s.image before → LeavesOnly s s (LeavesEither g before after s.told)
no_change g s before after quiet stands = no_call s (Leaves (LeavesEither g before after s.told)) (λ snapshot left. record {
  told = told_is s snapshot left;
  stands = inl (subst (λ (x : Image). StandsFor g x before) (sym (image_is (now_of s) snapshot quiet left)) stands);
})

-- before the reply
pub not_told : (g : Geometry) (old mid : Site) (before after : State) (text : List ℕ) → LeavesOnly old mid (LeavesEither g before after old.told) → LeavesOnly old mid (LeavesAnswer g before after text old.told)
not_told g old mid before after text so_far =
    leaves_weaker old mid (LeavesEither g before after old.told) (LeavesAnswer g before after text old.told) (λ s e. record {
      front = (0, e.told ∙ sym (append-nil old.told));
      stands = ⊎_elim (λ b. inl (b, e.told)) (λ a. inr a) e.stands;
    }) so_far

-- and within it
pub is_told : (g : Geometry) (old mid new : Site) (before after : State) (text : List ℕ) → LeavesOnly old mid (LeavesEither g before after old.told) → mid.loose ≡ no_loose → StandsFor g mid.image after → EachMoment mid new (TellsPart text mid)
    → LeavesOnly old new (LeavesAnswer g before after text old.told)
is_told g old mid new before after text so_far quiet stands tells =
    let same : mid.told ≡ old.told = (holds_now old mid (LeavesEither g before after old.told) so_far).told in
    in_sequence old mid new (Leaves (LeavesAnswer g before after text old.told)) (not_told g old mid before after text so_far)
    (leaves_weaker mid new (λ s. ((k : ℕ) × (s.told ≡ mid.told ++ take k text)) × StandsFor g s.image after) (LeavesAnswer g before after text old.told) (λ s p. record {
      front = (p.0.0, p.0.1 ∙ ap (λ (l : List ℕ). l ++ take p.0.0 text) same);
      stands = inr p.1;
    })
    (tell_leaves (λ image. StandsFor g image after) text mid new (λ s left. subst (λ (x : Image). StandsFor g x after) (sym (image_is (now_of mid) s quiet left)) stands) tells))
