-- Rows that are pairings.
use Rattle.std.proofs.Common.{replicate, None, arith}
use Rattle.graphs.specs.Graphs.{Shape, Small, Row}
use Rattle.graphs.specs.Covers.{Marking, Cover}
use Rattle.pairings.specs.Pairings.{Paired}
use Rattle.pairings.proofs.Rows.{blank}

pub idle_paired : Paired (replicate 16 None)
idle_paired = record {
  small = λ p t h. cc (blank 16 p, h);
  apart = λ p q t h m. cc (blank 16 p, h);
}

-- a cover has no task twice
pub cover_paired : (g : Shape) (marks : Marking) (row : Row) → Small g → Cover g marks row → Paired row
cover_paired g marks row small c = record {
  small = λ p t h. omega (arith, (c.edges p t h).0, small.firsts_few);
  apart = c.apart;
}
