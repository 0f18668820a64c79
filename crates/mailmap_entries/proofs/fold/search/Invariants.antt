use Rattle.std.proofs.Common.{◌≡◌, ◌+◌, ◌-◌, ◌<◌, ◌≤◌, Less, Greater}
use Rattle.std.specs.List.{AllWithin}
use Rattle.mailmap_entries.specs.Search.{digits}
use Rattle.mailmap_entries.proofs.fold.search.Given as goal

abbrev pub invariant-loop-low : goal.invariant-loop-low
invariant-loop-low g l = record {
  within : (l.low ≤ l.high) × (l.high ≤ l.len);
  same : g.P.Probe.answers l.p ≡ g.P.Probe.answers l.initial.p;
  less : AllWithin (λ a. a ≡ Less) (g.P.Probe.answers l.initial.p) 0 l.low;
  greater : AllWithin (λ a. a ≡ Greater) (g.P.Probe.answers l.initial.p) l.high l.len;
  at_most : g.P.Probe.asked l.p + digits (l.high - l.low) ≤ g.P.Probe.asked l.initial.p + digits l.len;
  no_fewer : g.P.Probe.asked l.initial.p ≤ g.P.Probe.asked l.p;
  at_least : l.high - l.low < l.len → g.P.Probe.asked l.initial.p < g.P.Probe.asked l.p;
}

abbrev pub decreases-loop-low : goal.decreases-loop-low
decreases-loop-low g l = l.high - l.low
