use Rattle.std.proofs.Common.{arith}
use Rattle.display.specs.StrokeSizes.{red_size, black_size}
use Rattle.display.proofs.stroke_sizes.paint_size.Goals as goal

pub returns-then-red : goal.returns-then-red
returns-then-red c = (red_size _ c.if-red.true, omega arith)

pub returns-else-red : goal.returns-else-red
returns-else-red c = (black_size _ c.if-red.false, omega arith)
