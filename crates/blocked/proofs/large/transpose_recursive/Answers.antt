use Rattle.std.proofs.Common.{ap, ◌∙◌, rules}
use Rattle.tile.specs.Kernels.{raised}
use Rattle.blocked.proofs.Leafwise.{whole_lies, whole_pasted, whole_counted}
use Rattle.blocked.proofs.large.transpose_recursive.Goals as goal

pub returns : goal.returns
returns g c =
    record {
      places = c.transpose_leaves.ensures.places ∙ whole_pasted c.args.matrix.width c.args.matrix.height c.args.matrix.cells.now _ c.new-walk.ensures c.args.output.now;
      count = c.transpose_leaves.ensures.count
          ∙ ap (raised (g.K.TileKernel.count c.args.kernel.now))
          (whole_counted c.args.matrix.width c.args.matrix.height c.args.matrix.cells.now _ c.new-walk.ensures g.K.TileKernel.SIDE);
    }

pub transpose_leaves-requires : goal.transpose_leaves-requires
transpose_leaves-requires g c =
    (search rules, (c.requires.output, whole_lies c.args.matrix.width c.args.matrix.height c.args.matrix.cells.now _ c.new-walk.ensures))
