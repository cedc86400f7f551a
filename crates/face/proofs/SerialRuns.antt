-- A run is one of the record model's, so serial order holds of it.
use Rattle.face.proofs.Names.{◌≡◌, ℕ, ◌-◌, Bool, List, ◌∷◌, ◌++◌, sym, subst, IsGood, AnswersAlone, opened, Turn, turns_of, run_of, commands_of, turns, Serial, State, CacheLine, Site, Geometry}
use Rattle.shell_text.specs.Runs.{texts}
use Rattle.shell_text.specs.Serial.{IsToldSerial}
use Rattle.shell_text.proofs.Serial.{serial_is_told}

pub answers_alone : Serial → (g : Geometry) (opening : State) (site : Site) → IsGood g opening site → (ended : Bool) (octets : List ℕ) (listings : List (List CacheLine)) →
    (earlier later : List Turn) (t : Turn) → turns_of (run_of g opening ended octets listings) ≡ earlier ++ t ∷ later → AnswersAlone (run_of g opening ended octets listings) earlier t later
answers_alone law g opening site good ended octets listings earlier later t e =
    let lines = commands_of ended octets in
    let here : turns (opened opening.table opening.commits 0 (g.blocks - 1)) lines listings ≡ earlier ++ t ∷ later = subst (λ (s : State). turns s lines listings ≡ earlier ++ t ∷ later) good.opens.state e in
    record {
      serial = law opening.table opening.commits 0 (g.blocks - 1) lines listings earlier later t here;
      serial_told = subst (λ (s : State). IsToldSerial s (texts s lines listings) earlier later t) (sym good.opens.state)
          (serial_is_told opening.table opening.commits 0 (g.blocks - 1) lines listings earlier later t here);
    }
