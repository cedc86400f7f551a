-- How many sessions are active.
use Rattle.engine.proofs.Names.{◌≡◌, ℕ, ◌+◌, List, [], ◌∷◌, length, sum_by, Option, None, Some, refl, sym, ◌∙◌, arith, sum_by-cons, range_with_len, option_map_or, slice_index_or, Master, Matches, SessionIs, Engine, Entry, Session, State, session_at, active_sessions, Site, sum-by_session, IsTable, entry_of, Active}
use Rattle.std.proofs.Common.{filter_map}

abbrev one_of : Option Session → ℕ
one_of o = option_map_or (λ (session : Session). 1) o 0

ones : List (Option Session) → ℕ
ones [] = 0
ones (o ∷ rest) = one_of o + ones rest

ones_is : (xs : List (Option Session)) → length (filter_map (λ session. session) xs) ≡ ones xs
unfolding ones
ones_is [] = refl
ones_is (None ∷ rest) = let same = ones_is rest in omega (arith, same)
ones_is (Some session ∷ rest) = let same = ones_is rest in omega (arith, same)

length_is : (xs : List Active) → sum_by (λ entry. 1) xs ≡ length xs
length_is [] = refl
length_is (x ∷ xs) = let same = length_is xs in let first = sum_by-cons (λ (entry : Active). 1) x xs in omega (arith, same, first)

each_one : (newest : Option Master) (kept : ℕ) (records : List Entry) (a : Option Active) (o : Option Session) → SessionIs newest kept records a o → option_map_or (λ (entry : Active). 1) a 0 ≡ one_of o
each_one newest kept records None None is = refl
each_one newest kept records None (Some session) is = absurd is
each_one newest kept records (Some entry) None is = absurd is
each_one newest kept records (Some entry) (Some session) is = refl

of_eight : (xs : List (Option Session)) (f : ℕ → ℕ) → length xs ≡ 8 → ((n : ℕ) → f n ≡ one_of (slice_index_or xs n None)) → sum_by f (range_with_len 0 8) ≡ ones xs
unfolding ones
of_eight (a ∷ b ∷ c ∷ d ∷ e ∷ x ∷ y ∷ z ∷ []) f is says = omega (arith, says 0, says 1, says 2, says 3, says 4, says 5, says 6, says 7)
of_eight _ f is says = absurd (omega (arith, is))

pub active_same : (engine : Engine) (site : Site) (s : State) → Matches engine site s → IsTable engine.active → length engine.active ≡ length (active_sessions s)
active_same engine site s fits table =
    sym (length_is engine.active)
    ∙ sum-by_session (λ entry. 1) engine.active table
    ∙ of_eight s.sessions (λ n. option_map_or (λ (entry : Active). 1) (entry_of engine.active n) 0) fits.sessions.count (λ n. each_one fits.newest s.kept fits.records (entry_of engine.active n) (session_at s n) (fits.sessions.each n))
    ∙ sym (ones_is s.sessions)
