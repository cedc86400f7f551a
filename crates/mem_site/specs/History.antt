-- What a site in memory keeps of each change, and the moments that it stands for.
use Rattle.std.specs.Prelude.{◌-◌, List, [], ◌∷◌, ◌++◌, length, take, drop, map, reverse}
use Rattle.site.specs.State.{Moment, Range, content_of, loose_of, with_content, with_loose}
use Rattle.site.specs.Calls.{put}
use Rattle.mem_site.specs.declared.change.Change.{Change}
use Rattle.mem_site.specs.declared.change.Change.TheVariants.{Wrote, Synced, Told}
use Rattle.mem_site.specs.declared.change.Span.{Span}

abbrev pub range_of : Span → Range
range_of span = record { at = span.at; len = span.len }

-- the newest stands first
abbrev pub ranges_of : List Span → List Range
ranges_of spans = map range_of (reverse spans)

-- the moment before a change, from the one after it
abbrev pub before : Moment → Change → Moment
before after (Wrote dev at had) = record {
  told = after.told;
  telling = [];
  image = with_content dev (put (content_of dev after.image) at had.items) after.image;
  loose = with_loose dev (drop 1 (loose_of dev after.loose)) after.loose;
}
before after (Synced dev had) = record {
  told = after.told;
  telling = [];
  image = after.image;
  loose = with_loose dev (ranges_of had.items) after.loose;
}
before after (Told taken rest) = record {
  told = take (length after.told - taken) after.told;
  telling = [];
  image = after.image;
  loose = after.loose;
}

-- the moment within a change, from the one after it
abbrev pub within : Moment → Change → Moment
within after (Wrote dev at had) = record {
  told = after.told;
  telling = [];
  image = with_content dev (put (content_of dev after.image) at had.items) after.image;
  loose = after.loose;
}
within after (Synced dev had) = before after (Synced dev had)
within after (Told taken rest) = record {
  told = take (length after.told - taken) after.told;
  telling = drop (length after.told - taken) after.told ++ rest.items;
  image = after.image;
  loose = after.loose;
}

-- the moments within the changes that led to this one, oldest first; of the changes the newest stands first
abbrev pub moments_back : Moment → List Change → List Moment
moments_back after [] = []
moments_back after (change ∷ changes) = moments_back (before after change) changes ++ within after change ∷ []

-- the same, of changes whose oldest stands first
abbrev pub moments_of : Moment → List Change → List Moment
moments_of now changes = moments_back now (reverse changes)
