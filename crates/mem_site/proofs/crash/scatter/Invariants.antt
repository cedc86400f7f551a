use Rattle.std.proofs.Common.{◌≡◌, ◌++◌, take, drop}
use Rattle.mem_site.specs.Crash.{scattered, drawn}
use Rattle.mem_site.specs.History.{ranges_of}
use Rattle.mem_site.proofs.crash.scatter.Given as goal

abbrev pub invariant-loop-place : goal.invariant-loop-place
invariant-loop-place l = record {
  content : take l.place l.content ++ scattered l.seed (ranges_of l.spans) l.place l.at (drop l.place l.content) ≡ scattered l.seed (ranges_of l.spans) 0 l.x l.fn.content;
  drawn : drawn (ranges_of l.spans) l.place l.at (drop l.place l.content) ≡ drawn (ranges_of l.spans) 0 l.x l.fn.content;
}
