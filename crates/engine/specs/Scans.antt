-- Reading several records at once.
use Rattle.std.specs.Prelude.{ℕ, List, [], ◌∷◌, map, filter_map, Option, Some, None, option_map}
use Rattle.record_model.specs.declared.words.Item.{Item}
use Rattle.record_model.specs.declared.words.Reply.{Reply}
use Rattle.record_model.specs.declared.words.Reply.TheVariants as reply
use Rattle.record_model.specs.State.{Content, State, seen}
use Rattle.record_model.specs.Step.{first_refusal, item}
use Rattle.lock_table.specs.declared.lock.Lock.{Lock}
use Rattle.lock_table.specs.Locks.{busy_read}

-- the reply for the first of these records that another session has written, if there is one
abbrev pub first_busy : List Lock → ℕ → List ℕ → Option Reply
first_busy held session numbers =
    first_refusal (map (λ number. option_map reply.Busy (busy_read held (Some session) number)) numbers)

-- those of these records that have a value in a session's eyes, with what they have
abbrev pub items_seen : State → ℕ → List ℕ → List Item
items_seen s n numbers = filter_map (item (seen s n)) numbers

-- a record as an item, where it has a value
abbrev pub items_of : ℕ → Content → List Item
items_of number None = []
items_of number (Some value) = record { number = number; value = value } ∷ []
