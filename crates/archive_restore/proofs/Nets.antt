-- One net more.
use Rattle.std.proofs.Common.{◌≡◌, inl, ⊎_elim, ℕ, zero, suc, ◌+◌, ◌-◌, ◌≤◌, List, [], ◌∷◌, ◌++◌, length, take, refl, sym, ◌∙◌, ap, subst, arith, append_assoc, append-nil, length-append}
use Rattle.std.specs.Prelude.{flat_map, slice_set}
use Rattle.std.proofs.lemmas.Grind.{flat_map-append}
use Rattle.std.proofs.lemmas.List.{length-take-le, take_at}
use Rattle.site.specs.State.{State as Site, Snapshot}
use Rattle.site.specs.Moments.{Leaves, LeavesOnly}
use Rattle.site.proofs.Laws.{in_sequence, leaves_weaker}
use Rattle.site.specs.declared.geometry.Geometry.{Geometry}
use Rattle.record_model.specs.State.{Content, State, Write, table_with}
use Rattle.record_model.specs.Run.{Line}
use Rattle.log_archive.specs.Accepted.{Stream, archive_table}
use Rattle.net_lines.specs.Nets.{net_lines}
use Rattle.engine.specs.Image.{Stands}
use Rattle.face.specs.Image.{blank_table}
use Rattle.face.specs.Run.{after_lines, step}
use Rattle.face.proofs.LinesBeforeQuit.{after_cons}
use Rattle.archive_restore.specs.Restores.{IsLeft, lines_of_nets}
use Rattle.archive_restore.specs.Writing.{LeavesNet}

-- tables and lines behind one net more

table_then : (table : List Content) (a b : List Write) → table_with table (a ++ b) ≡ table_with (table_with table a) b
table_then table [] b = refl
table_then table (w ∷ a) b = table_then (slice_set table w.0 w.1) a b

after_then : (s : State) (a b : List Line) → after_lines s (a ++ b) [] ≡ after_lines (after_lines s a []) b []
after_then s [] b = refl
after_then s (line ∷ a) b = after_cons s line (a ++ b) ∙ after_then (step s line []).after a b ∙ ap (λ (t : State). after_lines t b []) (sym (after_cons s line a))

pub lines_push : (s : State) (nets : List (List Write)) (net : List Write) → lines_of_nets s (nets ++ net ∷ []) ≡ lines_of_nets s nets ++ net_lines (after_lines s (lines_of_nets s nets) []) net
lines_push s [] net = append-nil (net_lines s net)
lines_push s (x ∷ nets) net =
    let first = net_lines s x in
    let mid = after_lines s first [] in
    ap (λ l. first ++ l) (lines_push mid nets net) ∙ sym (append_assoc first (lines_of_nets mid nets) (net_lines (after_lines mid (lines_of_nets mid nets) []) net))
    ∙ ap (λ (t : State). (first ++ lines_of_nets mid nets) ++ net_lines t net) (sym (after_then s first (lines_of_nets mid nets)))

-- fewer nets have fewer lines
lines_fewer : (s : State) (nets : List (List Write)) (i k : ℕ) → i ≤ k → length (lines_of_nets s (take i nets)) ≤ length (lines_of_nets s (take k nets))
lines_fewer s nets zero k less = omega arith
lines_fewer s nets (suc i) zero less = absurd (omega (arith, less))
lines_fewer s [] (suc i) (suc k) less = omega arith
lines_fewer s (net ∷ nets) (suc i) (suc k) less =
    let first = net_lines s net in
    let mid = after_lines s first [] in
    let a = length-append first (lines_of_nets mid (take i nets)) in
    let b = length-append first (lines_of_nets mid (take k nets)) in
    let rest = lines_fewer mid nets i k (omega (arith, less)) in
    omega (arith, a, b, rest)

pub lines_rise : (s : State) (nets : List (List Write)) (k : ℕ) → length (lines_of_nets s (take (k - 1) nets)) ≤ length (lines_of_nets s (take k nets))
lines_rise s nets k = lines_fewer s nets (k - 1) k (omega arith)

module _ (nets : List (List Write)) (k : ℕ) (net : List Write) (waiting : List (List Write)) (few : k ≤ length nets) (are : nets ≡ (take k nets ++ net ∷ []) ++ waiting) where
  pub split_there : nets ≡ take k nets ++ net ∷ waiting
  split_there = are ∙ append_assoc (take k nets) (net ∷ []) waiting

  pub one_more_there : k + 1 ≤ length nets
  one_more_there =
      let all = ap length split_there ∙ length-append (take k nets) (net ∷ waiting) in
      let front = length-take-le k nets few in
      omega (arith, all, front)

  pub take_there : take (k + 1) nets ≡ take k nets ++ net ∷ []
  take_there =
      let front : List (List Write) = take k nets ++ net ∷ [] in
      let long : length front ≡ k + 1 = (let all = length-append (take k nets) (net ∷ []) in let first = length-take-le k nets few in omega (arith, all, first)) in
      ap (take (k + 1)) are ∙ take_at front waiting (k + 1) long

  pub table_there : (table : List Content) → archive_table table nets (k + 1) ≡ table_with (archive_table table nets k) net
  table_there table =
      ap (λ (l : List (List Write)). table_with table (flat_map (λ (n : List Write). n) l)) take_there
      ∙ ap (table_with table) (flat_map-append (λ (n : List Write). n) (take k nets) (net ∷ []) ∙ ap (λ (l : List Write). flat_map (λ (n : List Write). n) (take k nets) ++ l) (append-nil net))
      ∙ table_then table (flat_map (λ (n : List Write). n) (take k nets)) net

-- What a crash leaves meanwhile.

module _ (g : Geometry) (s : Stream) (so_far : List ℕ) where
  pub left_later : (k : ℕ) (snapshot : Snapshot) → IsLeft g s k [] so_far snapshot → IsLeft g s (k + 1) [] so_far snapshot
  left_later k snapshot l = record {
    k = l.k;
    few = let few = l.few in omega (arith, few);
    stands = l.stands;
    told = inl (⊎_elim (λ same. same) (λ some. some.1 ∙ ap (λ (t : List ℕ). so_far ++ t) (none_taken some.0) ∙ append-nil so_far) l.told);
  }
    where
      none_taken : (n : ℕ) → take {A = ℕ} n [] ≡ []
      none_taken zero = refl
      none_taken (suc n) = refl

  pub left_by_net : (k : ℕ) (net : List Write) (snapshot : Snapshot) → archive_table (blank_table g) s.nets (k + 1) ≡ table_with (archive_table (blank_table g) s.nets k) net → LeavesNet g (archive_table (blank_table g) s.nets k) k net so_far snapshot → IsLeft g s (k + 1) [] so_far snapshot
  left_by_net k net snapshot more l = ⊎_elim
      (λ before. record { k = k; few = omega arith; stands = before; told = inl l.told })
      (λ behind. record { k = k + 1; few = omega arith; stands = subst (λ (t : List Content). Stands g snapshot.image t (k + 1)) (sym more) behind; told = inl l.told }) l.stands

  pub moments_more : (k : ℕ) (net : List Write) (entry mid new : Site) → archive_table (blank_table g) s.nets (k + 1) ≡ table_with (archive_table (blank_table g) s.nets k) net → mid.told ≡ so_far → LeavesOnly entry mid (IsLeft g s k [] so_far)
      → LeavesOnly mid new (LeavesNet g (archive_table (blank_table g) s.nets k) k net mid.told) → LeavesOnly entry new (IsLeft g s (k + 1) [] so_far)
  moments_more k net entry mid new more told before own =
      in_sequence entry mid new (Leaves (IsLeft g s (k + 1) [] so_far)) (leaves_weaker entry mid (IsLeft g s k [] so_far) (IsLeft g s (k + 1) [] so_far) (left_later k) before)
      (leaves_weaker mid new (LeavesNet g (archive_table (blank_table g) s.nets k) k net so_far) (IsLeft g s (k + 1) [] so_far) (λ snapshot l. left_by_net k net snapshot more l)
      (subst (λ t. LeavesOnly mid new (LeavesNet g (archive_table (blank_table g) s.nets k) k net t)) told own))
