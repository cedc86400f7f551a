-- A line more is heard.
use Rattle.std.proofs.Common.{◌≡◌, inl, inr, ℕ, ◌+◌, ◌-◌, ◌^◌, ◌<◌, ◌≤◌, Bool, true, List, [], ◌∷◌, ◌++◌, length, take, drop, refl, sym, ◌∙◌, ap, subst, arith, append_assoc, length-append, IsTrue}
use Rattle.std.specs.Prelude.{codes, decimal}
use Rattle.std.proofs.lemmas.Fmt.{length-decimal-le}
use Rattle.hex.specs.Hex.{encode_lower, lower_digits}
use Rattle.hex.proofs.HexLemmas.{length-encode_with}
use Rattle.site.specs.State.{State as Site, Image, Snapshot, now_of, no_loose}
use Rattle.site.specs.Calls.{Preserves}
use Rattle.site.specs.Moments.{Leaves}
use Rattle.site.proofs.Laws.{calm, image_is, leaves_weaker, now_same, stays_honest}
use Rattle.site.specs.declared.geometry.Geometry.{Geometry}
use Rattle.record_model.specs.State.{Content, State}
use Rattle.record_model.specs.Run.{Line}
use Rattle.shell_text.specs.Runs.{lines_of}
use Rattle.log_archive.specs.Accepted.{Accepted, AfterLine, Stream, archive_table, blank_stream}
use Rattle.log_replay.specs.declared.replay.Replay.{Replay}
use Rattle.log_replay.specs.Stands.{StandsFor}
use Rattle.net_lines.specs.Nets.{AreLengths, Fits, idle, while_writing}
use Rattle.front_end.specs.Lines as front
use Rattle.front_end.specs.Faults.{SameFaults}
use Rattle.face.proofs.Going.{goes_heard}
use Rattle.stream_lines.specs.Lines.{HasEnded, Hears, HearsLine, HearsOnly, IsCutOff, IsSource, limit, pending, to_hear, total}
use Rattle.stream_lines.proofs.Asked.{cut_more}
use Rattle.stream_lines.specs.declared.source.Fault.{Fault as Taking}
use Rattle.stream_lines.specs.declared.source.Fault.TheVariants.{Limit}
use Rattle.stream_lines.specs.declared.source.Heard.{Heard}
use Rattle.stream_lines.specs.declared.source.Source.{Source}
use Rattle.engine.specs.declared.engine.Engine.{Engine}
use Rattle.engine.specs.Image.{Stands}
use Rattle.face.specs.Image.{blank_table}
use Rattle.face.proofs.Serving.{served_heard}
use Rattle.archive_restore.specs.declared.restoring.Restoring.{Restoring}
use Rattle.archive_restore.specs.declared.fault.Fault.{Fault}
use Rattle.archive_restore.specs.Progress.{EndsOnSite, GoesOnRestoring, HasFit, HasHeard, HasWritten, StopsAsking, halt_in}
use Rattle.archive_restore.specs.Restores.{EndsBy, FitsAt, HasFaultCause, IsLeft, StandsAfter, lines_of_nets, net_at}
use Rattle.archive_restore.specs.Writing.{HasCarried, blank_state, run_over}
use Rattle.archive_restore.proofs.Carried.{carried_fits, carried_quiet, carried_so_far, carried_stands}
use Rattle.archive_restore.proofs.Nets.{lines_rise}
use Rattle.site.specs.declared.outside.Dev.{Dev}
use Rattle.site.specs.declared.outside.Stop.TheVariants.{Worn}
use Rattle.front_end.specs.declared.halt.Halt.TheVariants as halt
use Rattle.archive_restore.proofs.Growing.{Grows, line_grows, net_stays, table_stays, take_stays}

as_front : (old new : Site) → HearsOnly old new → front.HearsOnly old new
as_front old new h = record { image = h.image; loose = h.loose; told = h.told; past = h.past; reads = h.reads }

-- what was carried out stays so
pub carried_heard : (pool : ℕ) (g : Geometry) (entry mid new : Site) (engine : Engine) (lines : List Line) (s : State) → HasCarried pool g entry mid engine lines s → Preserves mid new → HearsOnly mid new → HasCarried pool g entry new engine lines s
carried_heard pool g entry mid new engine lines s c goes same = record {
  served = λ more. served_heard pool (run_over g (lines ++ more)) entry mid engine (length lines) (c.served more) new goes (as_front mid new same);
  state = c.state;
  goes = c.goes;
}

-- the commits that had room are the first ones of the longer stream too
module _ (g : Geometry) (s now : Stream) (r : Restoring) (a : HasFit g s r) (grown : Grows s now) where
  fit_same : (j : ℕ) → j < r.written → FitsAt g now j
  fit_same j less =
      let inside : j < length s.nets = let all = a.few in omega (arith, less, all) in
      subst (Fits (g.blocks - 1) (archive_table (blank_table g) now.nets j)) (sym (net_stays s now grown j inside))
      (subst (λ t. Fits (g.blocks - 1) t (net_at s j)) (sym (table_stays s now grown j (blank_table g) (omega (arith, inside)))) (a.fit j less))

  pub table_same : archive_table (blank_table g) now.nets r.written ≡ archive_table (blank_table g) s.nets r.written
  table_same = table_stays s now grown r.written (blank_table g) a.few

  pub fit_heard : (replay : Replay) (source : Source) → StandsFor g.pages now (take r.written s.nets) replay → HasFit g now (record r { replay = replay; source = source })
  fit_heard replay source stands = record {
    replay = subst (λ l. StandsFor g.pages now l replay) (sym (take_stays s now grown r.written a.few)) stands;
    few = let all = a.few in let more = ap length grown.is ∙ length-append s.nets grown.more in omega (arith, all, more);
    cap = a.cap;
    room = subst (λ t. AreLengths (while_writing t []) r.room) (sym table_same) a.room;
    fit = fit_same;
  }

module _ (pool : ℕ) (g : Geometry) (s now : Stream) (entry mid new : Site) (r : Restoring) (h : HasWritten pool g s entry mid r) (grown : Grows s now) (goes : Preserves mid new) (same : HearsOnly mid new) where
  abbrev k : ℕ
  k = r.written

  left_same : (snapshot : Snapshot) → IsLeft g s k [] entry.told snapshot → IsLeft g now k [] entry.told snapshot
  left_same snapshot l = record {
    k = l.k;
    few = l.few;
    stands = subst (λ (t : List Content). Stands g snapshot.image t l.k) (sym (table_stays s now grown l.k (blank_table g) (let few = l.few in let all = h.few in omega (arith, few, all)))) l.stands;
    told = l.told;
  }

  -- they are written
  pub written_heard : (replay : Replay) (source : Source) → StandsFor g.pages now (take k s.nets) replay → HasWritten pool g now entry new (record r { replay = replay; source = source })
  written_heard replay source stands = record {
    archived = fit_heard g s now r h.archived grown replay source stands;
    made = h.made;
    kept = h.kept;
    carried = subst (λ l. HasCarried pool g entry new r.engine (lines_of_nets (blank_state g) l) (idle (archive_table (blank_table g) now.nets k) k h.made h.kept (g.blocks - 1))) (sym (take_stays s now grown k h.few))
        (subst (λ t. HasCarried pool g entry new r.engine (lines_of_nets (blank_state g) (take k s.nets)) (idle t k h.made h.kept (g.blocks - 1))) (sym (table_same g s now r h.archived grown))
        (carried_heard pool g entry mid new r.engine _ _ h.carried goes same));
    told = same.told ∙ h.told;
    moments = leaves_weaker entry new (IsLeft g s k [] entry.told) (IsLeft g now k [] entry.told) left_same
        (calm entry mid new (Leaves (IsLeft g s k [] entry.told)) h.moments same.past (now_same mid new same.told same.image same.loose));
  }

-- Nothing is left to hear behind the end.
none_behind : (source : Source) (site : Site) → IsSource source → HasEnded source site → source.ended ≡ true → to_hear source site ≡ []
none_behind source site is ended over =
    let none : source.to - source.from ≡ 0 = let empty = is.emptied over in omega (arith, empty) in
    λ i. take (none i) (drop source.from source.buffer) ++ ended over i

accepted_push : (pages : ℕ) (lines : List (List ℕ)) (line : List ℕ) (s mid now : Stream) → Accepted pages lines s mid → AfterLine pages line mid now → Accepted pages (lines ++ line ∷ []) s now
accepted_push pages [] line s mid now is after = (now, subst (λ (x : Stream). AfterLine pages line x now) is after, refl)
accepted_push pages (x ∷ lines) line s mid now (next, first, rest) after = (next, first, accepted_push pages lines line next mid now rest after)

-- a line more was heard
pub heard_more : (g : Geometry) (lines : List (List ℕ)) (line : List ℕ) (s now : Stream) (entry mid new : Site) (r r' : Restoring) → HasHeard g lines s entry mid r → IsSource r'.source → HasEnded r'.source new
    → HearsLine line r.source.ended r'.source.ended (to_hear r.source mid) (to_hear r'.source new) → total r'.source new ≡ total r.source mid → new.input.heard + length new.input.left ≡ mid.input.heard + length mid.input.left → AfterLine g.pages line s now → HasHeard g (lines ++ line ∷ []) now entry new r'
heard_more g lines line s now entry mid new r r' h source ended heard count octets after = record {
  all = h.all ∙ ap (λ l. lines ++ l) (ap (lines_of true) heard.all ∙ heard.is_line (to_hear r'.source new) true (λ over. (none_behind r'.source new source ended over, refl)))
      ∙ sym (append_assoc lines (line ∷ []) (lines_of true (to_hear r'.source new)));
  count = count ∙ h.count;
  cut = cut_more lines line r.source r'.source entry mid new h.cut heard octets;
  each =
      let before = length-append (pending r.source) mid.input.left in
      let behind = length-append (pending r'.source) new.input.left in
      let all = ap length heard.all ∙ length-append heard.octets (to_hear r'.source new) in
      let some = heard.some in
      let each = h.each in
      let more = length-append lines (line ∷ []) in
      omega (arith, before, behind, all, some, each, more, count);
  accepted = accepted_push g.pages lines line (blank_stream g.pages) s now h.accepted after;
  ended = ended;
}

-- A line of an archive isn't long.

no_longer : (n : ℕ) → n ≤ 2 ^ 40 → length (decimal n) ≤ 13
no_longer n few = length-decimal-le 13 n (omega arith) (omega (arith, few)) (omega (arith, few))

length-block : (n : ℕ) (hex : List ℕ) → length (codes "block " ++ decimal n ++ codes " " ++ hex) ≡ 7 + length (decimal n) + length hex
length-block n hex =
    let whole = length-append (codes "block " ++ decimal n ++ codes " ") hex in
    let first = length-append (decimal n) (codes " ") in
    omega (arith, whole, first)

pub long_refused : (pages : ℕ) (line : List ℕ) (s now : Stream) → 1027 ≤ length line → AfterLine pages line s now → ⊥
long_refused pages line s now many (inl (content, records, is, block, after)) =
    let whole = ap length is.text ∙ length-block s.next (encode_lower content) in
    let hex = length-encode_with lower_digits content in
    let digits = no_longer s.next (let fits = is.fits in omega (arith, fits)) in
    let len = is.len in
    omega (arith, whole, hex, digits, len, many)
long_refused pages line s now many (inr (is, same)) =
    let whole = ap length is.text ∙ length-append (codes "end ") (decimal s.next) in
    let digits = no_longer s.next is.fits in
    omega (arith, whole, digits, many)

-- It ends there: all commits that were heard of are written.
module _ (pool : ℕ) (g : Geometry) (s : Stream) (entry mid new : Site) (r : Restoring) (h : HasWritten pool g s entry mid r) (goes : Preserves mid new) (same : HearsOnly mid new) where
  quiet_here : new.loose ≡ no_loose
  quiet_here = same.loose ∙ carried_quiet pool g entry mid r.engine _ _ h.carried

  stands_here : StandsAfter g s r.written new.image
  stands_here = subst (λ (x : Image). StandsAfter g s r.written x) (sym same.image) (carried_stands pool g entry mid r.engine _ _ h.carried)

  pub stops_here : (lines behind : List (List ℕ)) (count : ℕ) (f : Fault) → EndsBy f g lines behind s r.written entry new → r.written < count → ((dev : Dev) → halt_in f ≡ halt.Stop (Worn dev) → ⊥) → StopsAsking pool g lines behind s count entry new f
  stops_here lines behind count f ends less never = record {
    stops = record {
      early = record { begun = r.written; few = h.few; most = omega (arith, less); ends = ends; fit = h.fit; less = λ is. less };
      told = same.told ∙ h.told;
      moments = calm entry mid new (Leaves (IsLeft g s r.written [] entry.told)) h.moments same.past (now_same mid new same.told same.image same.loose);
      near = λ snapshot left. (r.written, omega arith, omega arith, subst (λ (x : Image). StandsAfter g s r.written x) (sym (image_is (now_of new) snapshot quiet_here left)) stands_here);
      between = λ is. stands_here;
      quiet = λ ne. quiet_here;
    };
    asks = carried_so_far pool g entry new r.engine _ _ (carried_heard pool g entry mid new r.engine _ _ h.carried goes same) (halt_in f) (length (lines_of_nets (blank_state g) (take (r.written - 1) s.nets))) never (lines_rise (blank_state g) s.nets r.written);
  }

-- On every site it goes on behind a line.
pub goes_on_heard : (number : ℕ) (entry mid new : Site) (r : Restoring) (replay : Replay) (source : Source) (line : List ℕ) (goes : GoesOnRestoring number entry mid r) → Preserves mid new → (IsTrue mid.honest → HearsOnly mid new) → SameFaults mid new → IsSource source
    → ((now : Stream) × AfterLine goes.g.pages line goes.s now × StandsFor goes.g.pages now (take r.written goes.s.nets) replay)
    → (IsTrue mid.honest → HasEnded r.source mid → HearsLine line r.source.ended source.ended (to_hear r.source mid) (to_hear source new) × HasEnded source new × (total source new ≡ total r.source mid) × (new.input.heard + length new.input.left ≡ mid.input.heard + length mid.input.left))
    → GoesOnRestoring (number + 1) entry new (record r { replay = replay; source = source })
goes_on_heard number entry mid new r replay source line goes keeps same faults usable (now, after, stands) hears = record {
  database = goes_heard entry mid new r.engine goes.database keeps (λ honest. as_front mid new (same honest)) faults;
  source = usable;
  g = goes.g;
  limits = goes.limits;
  lengths = goes.lengths;
  lines = goes.lines ++ line ∷ [];
  long = length-append goes.lines (line ∷ []) ∙ ap (λ n. n + 1) goes.long;
  s = now;
  accepted = accepted_push goes.g.pages goes.lines line (blank_stream goes.g.pages) goes.s now goes.accepted after;
  archived = fit_heard goes.g goes.s now r goes.archived (line_grows goes.g.pages line goes.s now after) replay source stands;
  room = goes.room;
  cap = goes.cap;
  heard = λ honest.
      let h = goes.heard honest in
      let one = hears (stays_honest entry mid goes.database.preserves honest) h.ended in
      heard_more goes.g goes.lines line goes.s now entry mid new r (record r { replay = replay; source = source }) h usable one.1 one.0 one.2 one.3 after;
  stands = goes.stands;
}

-- It ends behind all commits that were heard of.
pub ends_heard : (number count : ℕ) (entry mid new : Site) (r : Restoring) (f : Fault) (goes : GoesOnRestoring number entry mid r) → r.written < count → (IsTrue entry.honest → EndsBy f goes.g goes.lines (lines_of true (to_hear r.source mid)) goes.s r.written entry new) → HasFaultCause f entry new → EndsOnSite count entry new f
ends_heard number count entry mid new r f goes less ends cause = record {
  g = goes.g;
  limits = goes.limits;
  lengths = goes.lengths;
  lines = goes.lines;
  behind = lines_of true (to_hear r.source mid);
  s = goes.s;
  early = λ honest. (
    record { all = (goes.heard honest).all; accepted = goes.accepted },
    record { begun = r.written; few = goes.archived.few; most = omega (arith, less); ends = ends honest; fit = goes.archived.fit; less = λ is. less },
  );
  cause = cause;
}

-- what is heard of an honest site, and what comes of it
pub hears_on : (pool : ℕ) (g : Geometry) (s : Stream) (entry mid new : Site) (r : Restoring) (replay : Replay) (source : Source) (lines : List (List ℕ)) (line : List ℕ) → HasWritten pool g s entry mid r → HasHeard g lines s entry mid r → Preserves mid new → HearsOnly mid new
    → IsSource source → HasEnded source new → HearsLine line r.source.ended source.ended (to_hear r.source mid) (to_hear source new) → total source new ≡ total r.source mid → new.input.heard + length new.input.left ≡ mid.input.heard + length mid.input.left
    → ((now : Stream) × AfterLine g.pages line s now × StandsFor g.pages now (take r.written s.nets) replay)
    → (l : List ℕ) × (now : Stream) × HasWritten pool g now entry new (record r { replay = replay; source = source }) × HasHeard g (lines ++ l ∷ []) now entry new (record r { replay = replay; source = source })
hears_on pool g s entry mid new r replay source lines line h heard keeps same usable ended hears count octets (now, after, stands) = (
  line,
  now,
  written_heard pool g s now entry mid new r h (line_grows g.pages line s now after) keeps same replay source stands,
  heard_more g lines line s now entry mid new r (record r { replay = replay; source = source }) heard usable ended hears count octets after,
)

-- the lines that are left begin with this one
pub left_with : (g : Geometry) (lines : List (List ℕ)) (s : Stream) (entry mid : Site) (r : Restoring) (line : List ℕ) (behind : List (List ℕ)) → HasHeard g lines s entry mid r → lines_of true (to_hear r.source mid) ≡ line ∷ behind → lines_of true entry.input.left ≡ lines ++ line ∷ behind
left_with g lines s entry mid r line behind h is = h.all ∙ ap (λ l. lines ++ l) is

-- of a line that was heard
pub line_first : (line : List ℕ) (source source' : Source) (mid new : Site) → IsSource source' → HasEnded source' new → HearsLine line source.ended source'.ended (to_hear source mid) (to_hear source' new) → lines_of true (to_hear source mid) ≡ line ∷ lines_of true (to_hear source' new)
line_first line source source' mid new usable ended h = ap (lines_of true) h.all ∙ h.is_line (to_hear source' new) true (λ over. (none_behind source' new usable ended over, refl))

-- more was taken than may be
pub over_limit : (g : Geometry) (lines : List (List ℕ)) (s : Stream) (entry mid new : Site) (r : Restoring) → HasHeard g lines s entry mid r → IsCutOff Limit r.source.ended (total r.source mid) (to_hear r.source mid) new.input.left → limit + length new.input.left < length entry.input.left
over_limit g lines s entry mid new r h cut =
    let all = cut.ends.2 in
    let count = h.count in
    omega (arith, all, count)

pub honest_of : (pool : ℕ) (g : Geometry) (s : Stream) (entry mid : Site) (r : Restoring) → HasWritten pool g s entry mid r → IsTrue mid.honest
honest_of pool g s entry mid r h = (carried_fits pool g entry mid r.engine _ _ h.carried).honest

-- What was heard, by what was answered.

pub heard_as : (a b : Heard) (line : List ℕ) (was ended : Bool) (before after : List ℕ) → Hears a line was ended before after → a ≡ b → Hears b line was ended before after
heard_as a b line was ended before after h is = subst (λ (x : Heard). Hears x line was ended before after) is h

pub cut_as : (a b : Taking) (was : Bool) (all : ℕ) (before left : List ℕ) → IsCutOff a was all before left → a ≡ b → IsCutOff b was all before left
cut_as a b was all before left h is = subst (λ (x : Taking). IsCutOff x was all before left) is h
