-- An input, cut into its lines, which are heard one after the other.
use Rattle.std.proofs.Common.{◌≡◌, inl, inr, ℕ, ◌+◌, ◌-◌, ◌≤◌, ◌<◌, Bool, true, List, [], ◌∷◌, ◌++◌, length, take, drop, refl, sym, ap, subst, ◌∙◌, append_assoc, append-nil, arith}
use Rattle.std.specs.Prelude.{codes, decimal}
use Rattle.std.proofs.lemmas.List.{length-append}
use Rattle.std.proofs.lemmas.Fmt.{length-decimal-le}
use Rattle.record_model.specs.State.{Write}
use Rattle.site.specs.State.{State}
use Rattle.shell_text.specs.Runs.{lines_of}
use Rattle.stream_lines.specs.declared.source.Source.{Source}
use Rattle.stream_lines.specs.declared.source.Heard.{Heard}
use Rattle.stream_lines.specs.Lines.{HasEnded, Hears, HearsLine, HearsOnly, IsSource, pending, to_hear, total}
use Rattle.log_archive.specs.Accepted.{Accepted, AfterLine, Stream, blank_stream, commits_in}
use Rattle.log_archive.proofs.Following.{join}
use Rattle.log_archive.proofs.Lined.{length-line}
use Rattle.log_archive.proofs.OneStream.{one_stream}
use Rattle.log_replay.specs.declared.replay.Replay.{Replay}
use Rattle.log_replay.specs.Stands.{StandsFor}
use Rattle.stream_report.specs.Streams.{IsArchiveOf, IsFirstBad, most}

-- These lines were heard, so many, of an input, of which these octets are left; a Replay stands for the stream behind them.
pub record IsHeard (pages : ℕ) (octets rest : List ℕ) (lines : List (List ℕ)) (number : ℕ) (replay : Replay) : Type 0 where
  pub count : length lines ≡ number
  pub cut : lines_of true octets ≡ lines ++ lines_of true rest
  pub mid : Stream
  pub accepted : Accepted pages lines (blank_stream pages) mid
  pub popped : List (List Write)
  pub stands : StandsFor pages mid popped replay
  pub few : number + length rest ≤ length octets

pub unheard : (pages : ℕ) (octets rest : List ℕ) (replay : Replay) → rest ≡ octets → StandsFor pages (blank_stream pages) [] replay → IsHeard pages octets rest [] 0 replay
unheard pages octets rest replay all stands = record {
  count = refl;
  cut = ap (lines_of true) (sym all);
  mid = blank_stream pages;
  accepted = refl;
  popped = [];
  stands = stands;
  few = omega (arith, ap length all);
}

-- nothing is left of a source that has ended
pub nothing_left : (source : Source) (site : State) → IsSource source → HasEnded source site → source.ended ≡ true → to_hear source site ≡ []
nothing_left source site is ended at =
    let emptied = is.emptied at in
    (λ i. take (none emptied i) (drop source.from source.buffer) ++ ended at i)
  where
    none : source.from ≡ source.to → source.to - source.from ≡ 0
    none same = omega (arith, same)

-- at the start nothing was taken
pub nothing_taken : (source : Source) (site : State) → source.from ≡ source.to → to_hear source site ≡ site.input.left
nothing_taken source site empty = ap (λ n. take n (drop source.from source.buffer) ++ site.input.left) (none empty)
  where
    none : source.from ≡ source.to → source.to - source.from ≡ 0
    none same = omega (arith, same)

pub total_first : (source : Source) (site : State) → source.taken ≡ 0 → total source site ≡ length site.input.left
total_first source site none = omega (arith, none)

-- the line that was heard is the first
pub first_line : (line before after : List ℕ) (was ended : Bool) → HearsLine line was ended before after → (ended ≡ true → after ≡ []) → lines_of true before ≡ line ∷ lines_of true after
first_line line before after was ended h none = ap (lines_of true) h.all ∙ h.is_line after true (λ at. (none at, refl))

module _ (pages : ℕ) (octets rest : List ℕ) (lines : List (List ℕ)) (number : ℕ) (replay : Replay) (h : IsHeard pages octets rest lines number replay) where
  -- one line more
  pub heard_more : (line next : List ℕ) (was ended : Bool) (now : Stream) (popped : List (List Write)) (after : Replay) → HearsLine line was ended rest next → (ended ≡ true → next ≡ []) → AfterLine pages line h.mid now → StandsFor pages now popped after → IsHeard pages octets next (lines ++ line ∷ []) (number + 1) after
  heard_more line next was ended now popped after hears none behind stands =
      let long = length-append hears.octets next in
      let some = hears.some in
      let few = h.few in
      record {
        count = length-append lines (line ∷ []) ∙ ap (λ n. n + 1) h.count;
        cut = h.cut ∙ ap (λ l. lines ++ l) (first_line line rest next was ended hears none) ∙ sym (append_assoc lines (line ∷ []) (lines_of true next));
        mid = now;
        accepted = join pages lines (line ∷ []) (blank_stream pages) h.mid now h.accepted (now, behind, refl);
        popped = popped;
        stands = stands;
        few = omega (arith, long, some, few, ap length hears.all);
      }

  -- the end of the input
  pub heard_all : (count : ℕ) → rest ≡ [] → count ≡ commits_in h.mid → length octets ≤ most → IsArchiveOf pages octets count
  heard_all count none is few = record {
    now = h.mid;
    accepted = subst (λ l. Accepted pages l (blank_stream pages) h.mid) (sym (h.cut ∙ ap (λ l. lines ++ lines_of true l) none ∙ append-nil lines)) h.accepted;
    count_is = is;
    few = few;
  }

  -- a line that isn't accepted
  pub bad_here : (line : List ℕ) (behind : List (List ℕ)) → lines_of true rest ≡ line ∷ behind → ((now : Stream) → AfterLine pages line h.mid now → ⊥) → IsFirstBad pages octets (number + 1)
  bad_here line behind is bad = record {
    before = lines;
    line = line;
    behind = behind;
    lines = h.cut ∙ ap (λ l. lines ++ l) is;
    number_is = ap (λ n. n + 1) (sym h.count);
    mid = h.mid;
    accepted = h.accepted;
    bad = bad;
  }

-- A line of 1,027 octets isn't one of an archive.

pub too_long : (pages : ℕ) (line : List ℕ) (s now : Stream) → 1027 ≤ length line → AfterLine pages line s now → ⊥
too_long pages line s now many (inl (content, records, block, is, after)) =
    let fits = block.fits in
    let digits = length-decimal-le 13 s.next (omega arith) (omega (arith, fits)) (omega (arith, fits)) in
    let long = length-line line s.next content block in
    omega (arith, long, digits, many)
too_long pages line s now many (inr (end, same)) =
    let fits = end.fits in
    let digits = length-decimal-le 13 s.next (omega arith) (omega (arith, fits)) (omega (arith, fits)) in
    let long = ap length end.text ∙ length-append (codes "end ") (decimal s.next) in
    omega (arith, long, digits, many)

-- No input is both an archive, and one with a line that isn't accepted.

split_at : (pages : ℕ) (before : List (List ℕ)) (line : List ℕ) (behind : List (List ℕ)) (s now : Stream) → Accepted pages (before ++ line ∷ behind) s now → (mid : Stream) × (next : Stream) × Accepted pages before s mid × AfterLine pages line mid next
split_at pages [] line behind s now (next, after, rest) = (s, next, refl, after)
split_at pages (x ∷ before) line behind s now (mid, after, rest) =
    let more = split_at pages before line behind mid now rest in
    (more.0, more.1, (mid, after, more.2), more.3)

pub never_both : (pages : ℕ) (octets : List ℕ) (count number : ℕ) → IsArchiveOf pages octets count → IsFirstBad pages octets number → ⊥
never_both pages octets count number archive wrong =
    let parts = split_at pages wrong.before wrong.line wrong.behind (blank_stream pages) archive.now (subst (λ l. Accepted pages l (blank_stream pages) archive.now) wrong.lines archive.accepted) in
    let same : parts.0 ≡ wrong.mid = one_stream pages wrong.before (blank_stream pages) parts.0 wrong.mid parts.2 wrong.accepted in
    wrong.bad parts.1 (subst (λ (x : Stream). AfterLine pages wrong.line x parts.1) same parts.3)

-- More lines than the input may have octets aren't heard.
pub few_lines : (pages : ℕ) (octets : List ℕ) (lines : List (List ℕ)) (number : ℕ) (replay : Replay) (source : Source) (site : State) → IsSource source → IsHeard pages octets (to_hear source site) lines number replay → total source site ≡ length octets → most < number → ⊥
few_lines pages octets lines number replay source site is h all many =
    let few = h.few in
    let long = length-append (pending source) site.input.left in
    let taken = is.few in
    omega (arith, few, long, taken, all, many)

-- so the input isn't longer than it may be, once nothing of it is left
pub few_octets : (octets : List ℕ) (source : Source) (site : State) → IsSource source → to_hear source site ≡ [] → total source site ≡ length octets → length octets ≤ most
few_octets octets source site is none all =
    let long = length-append (pending source) site.input.left in
    let taken = is.few in
    omega (arith, long, taken, all, ap length none)

-- what was heard, by its kind
pub hears_as : (said is : Heard) (line : List ℕ) (was ended : Bool) (before after : List ℕ) → Hears said line was ended before after → said ≡ is → Hears is line was ended before after
hears_as said is line was ended before after h same = subst (λ x. Hears x line was ended before after) same h

pub hears_then : (a b c : State) → HearsOnly a b → HearsOnly b c → HearsOnly a c
hears_then a b c f s = record { image = s.image ∙ f.image; loose = s.loose ∙ f.loose; told = s.told ∙ f.told; past = s.past ∙ f.past; reads = λ dev. s.reads dev ∙ f.reads dev }
