-- Calls are counted by the units that are appended and the octets that are told.
use Rattle.face.proofs.Names.{◌≡◌, List, ◌++◌, ℕ, length, length-append, arith, ap, ◌∙◌, HearsOnly, unsynced_told, CallsForUnits, cost_of, since, Site, TellsOnly, Geometry}

-- while only is heard
pub calls_heard : (g : Geometry) (mid now : Site) → HearsOnly mid now → CallsForUnits g mid now
calls_heard g mid now same = grind arith

-- a piece is told, by tells alone and by no more than it has octets
pub calls_told : (g : Geometry) (piece : List ℕ) (mid now : Site) → now.image ≡ mid.image → now.told ≡ mid.told ++ piece → now.past ≡ mid.past ++ since mid now → TellsOnly (length piece) mid now → CallsForUnits g mid now
calls_told g piece mid now same told grown tells =
    let still = unsynced_told mid now grown tells.works in
    let more = ap length told ∙ length-append mid.told piece in
    let cost = ap (cost_of g) same in
    let calls = tells.calls in
    let works = tells.works in
    record { works = omega (arith, still, cost, works); tells = omega (arith, more, calls, works) }
