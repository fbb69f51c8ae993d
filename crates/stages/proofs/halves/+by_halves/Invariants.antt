-- The number of places falls.
use Rattle.std.proofs.Common.{length}
use Rattle.stages.proofs.halves.+by_halves.Given as goal

abbrev pub decreases-by_halves : goal.decreases-by_halves
decreases-by_halves g l = length (g.P.Places.values l.buf.now)
