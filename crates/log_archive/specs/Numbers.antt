-- What digits write.
use Rattle.std.specs.Prelude.{ℕ, ◌&&◌, nat_lt, List, Option, Some, None, if◌then◌else◌}
use Rattle.std.specs.Str.{all_ascii_digits}
use Rattle.std.specs.Str.Parse.{digits_value}

-- what digits alone write, where it is below ten million million
abbrev pub number_in : List ℕ → Option ℕ
number_in text =
    if all_ascii_digits text && nat_lt (digits_value 10 text) 10000000000000 then Some (digits_value 10 text) else None
