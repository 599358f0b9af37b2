use Rattle.std.proofs.Common.{sym, arith, rules}
use Rattle.tile.proofs.Pasted.{no_column}
use Rattle.tile.proofs.Runs.{run_ends, run_long, rows_in, column_more}
use Rattle.tile.proofs.block.transpose_runs.Goals as goal

pub loop-inner_x-init : goal.loop-inner_x-init
loop-inner_x-init g c =
    sym (no_column c.args.matrix.width c.args.matrix.height c.args.matrix.cells.now c.args.block.x c.args.block.y c.args.block.high c.args.output.now)

pub overflow_add-base : goal.overflow_add-base
overflow_add-base g c = let h = run_ends _ _ _ _ _ _ _ _ c.requires c.loop-inner_x.inner_x (omega arith) in search rules

pub overflow_add-run : goal.overflow_add-run
overflow_add-run g c = let h = run_ends _ _ _ _ _ _ _ _ c.requires c.loop-inner_x.inner_x (omega arith) in search rules

pub offset_bounds-output-base : goal.offset_bounds-output-base
offset_bounds-output-base g c = let h = run_ends _ _ _ _ _ _ _ _ c.requires c.loop-inner_x.inner_x (omega arith) in search rules

pub slice_bounds-run-end : goal.slice_bounds-run-end
slice_bounds-run-end g c = let h = run_ends _ _ _ _ _ _ _ _ c.requires c.loop-inner_x.inner_x (omega arith) in search rules

pub loop-inner_x-preserved : goal.loop-inner_x-preserved
loop-inner_x-preserved g c =
    let n = run_long _ _ _ _ _ _ _ _ c.requires c.loop-inner_x.inner_x (omega arith) c.loop-inner_x.output (omega arith) in
    column_more _ _ _ _ _ _ _ _ c.requires c.loop-inner_x.inner_x (omega arith)
    c.loop-inner_x.output c.fill_run.new.run (omega arith) (omega arith) (λ k d h. c.fill_run.ensures k d (omega arith))
    c.args.output.now _ (omega arith) c.loop-inner_x.invariant

pub fill_run-requires : goal.fill_run-requires
fill_run-requires g c =
    let n = run_long _ _ _ _ _ _ _ _ c.requires c.loop-inner_x.inner_x (omega arith) c.loop-inner_x.output (omega arith) in
    record {
      column = omega arith;
      rows = rw n (rows_in _ _ _ _ _ _ _ _ c.requires c.loop-inner_x.inner_x (omega arith));
    }
