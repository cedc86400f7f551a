-- A run opens exactly where all rules hold.
use Rattle.face.proofs.Names.{refl, sym, ◌∙◌, ap, count_by, is_some, table_of}
use Rattle.image_form.specs.Verdict.{logical_image_of}
use Rattle.image_check.specs.Laws.{SoundStands, StandingIsSound}
use Rattle.face.specs.Openings.{OpeningIsSound, SoundOpens}
use Rattle.face.proofs.Meanings.{opens_where_it_stands, stands_by}

pub sound_opens : SoundStands → SoundOpens
sound_opens stands image records commits sound =
    let table = table_of (logical_image_of sound.reading image).log (logical_image_of sound.reading image).pages in
    let opens = opens_where_it_stands sound.reading.g image table commits (stands sound.reading image table commits sound.reads sound.rules (record { table_is = refl; count_is = sound.count })) in
    record { g = sound.reading.g; opening = opens.0; opens = opens.1; values = sound.values ∙ ap (count_by is_some) (sym opens.2); count = sym opens.3 }

pub opening_is_sound : StandingIsSound → OpeningIsSound
opening_is_sound is_sound image records commits with' =
    let read = is_sound with'.g image with'.opening.table with'.opening.commits (stands_by with'.g image with'.opening with'.opens) in
    record { reading = read.reading; reads = read.reads; rules = read.rules; values = with'.values ∙ ap (count_by is_some) read.means.table_is; count = with'.count ∙ read.means.count_is }
