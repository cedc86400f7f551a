-- Calls one after the other.
use Rattle.database.proofs.Names.{List, [], ◌∷◌, ◌++◌, refl, subst, Result, Call, Follow, Held, Serves, Unanswered, Command, Reply}

-- one
pub one_call : (command : Command) (answer : Result Reply Unanswered) (before now : Held) → Serves command answer before now →
    Follow before (record { command = command; answer = answer; before = before; after = now } ∷ []) now
one_call command answer before now serves = (refl, serves, refl)

-- some, and then others
pub calls_then : (first later : List Call) (before between now : Held) → Follow before first between → Follow between later now → Follow before (first ++ later) now
calls_then [] later before between now first then = subst (λ (db : Held). Follow db later now) first then
calls_then (call ∷ first) later before between now follow then = (follow.0, follow.1, calls_then first later call.after between now follow.2 then)
