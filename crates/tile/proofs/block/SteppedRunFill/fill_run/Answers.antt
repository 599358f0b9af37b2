use Rattle.std.proofs.Common.{◌+◌, ◌^◌, ◌<◌, length, get_or, ap, ◌∙◌, inl, inr, mod-eq_of_lt, arith, length-set, rules}
use Rattle.std.proofs.lemmas.List.{get_or-set_same, get_or-set_other, get_or_default}
use Rattle.std.proofs.lemmas.Bool.{cases_eq}
use Rattle.tile.proofs.Runs.{in_column}
use Rattle.tile.proofs.block.SteppedRunFill.fill_run.Goals as goal

pub offset_bounds-matrix-at : goal.offset_bounds-matrix-at
offset_bounds-matrix-at g c =
    let e = in_column c.args.y c.loop-cell.cell-index _ c.args.matrix.width c.args.x _ c.loop-cell-test.true c.requires.column c.requires.rows in
    let h = c.loop-cell.invariant.1 (omega arith) in search rules

pub bounds-matrix-at : goal.bounds-matrix-at
bounds-matrix-at g c =
    let e = in_column c.args.y c.loop-cell.cell-index _ c.args.matrix.width c.args.x _ c.loop-cell-test.true c.requires.column c.requires.rows in
    omega (arith, c.loop-cell.invariant.1 (omega arith))

pub loop-cell-preserved : goal.loop-cell-preserved
loop-cell-preserved g c =
    let at = c.loop-cell.invariant.1 (omega arith) in
    let e = in_column c.args.y c.loop-cell.cell-index _ c.args.matrix.width c.args.x _ c.loop-cell-test.true c.requires.column c.requires.rows in (
      λ j d h. elim (cases_eq j c.loop-cell.cell-index) [
        | inl z ↦
            let v = get_or_default c.args.matrix.cells.now c.loop-cell.at c.index-matrix-at.result d (omega arith) in
            rw z
            (get_or-set_same c.loop-cell.run c.loop-cell.cell-index (get_or c.args.matrix.cells.now c.loop-cell.at c.index-matrix-at.result) d (omega arith)
            ∙ v ∙ ap (λ i. get_or c.args.matrix.cells.now i d) at)
        | inr z ↦
            get_or-set_other c.loop-cell.run c.loop-cell.cell-index j (get_or c.args.matrix.cells.now c.loop-cell.at c.index-matrix-at.result) d z
            ∙ c.loop-cell.invariant.0 j d (omega arith)
      ],
      λ h.
          let b : length c.args.matrix.cells.now < 2 ^ 64 = search rules in
          let l = length-set c.loop-cell.run c.loop-cell.cell-index (get_or c.args.matrix.cells.now c.loop-cell.at c.index-matrix-at.result) in
          let n : c.loop-cell.cell-index + 1 < length c.args.run.now = omega arith in
          let f = in_column c.args.y (c.loop-cell.cell-index + 1) _ c.args.matrix.width c.args.x _ n c.requires.column c.requires.rows in
          let m : c.loop-cell.at + c.args.matrix.width < 2 ^ 64 = omega arith in
          let w = mod-eq_of_lt m in
          omega arith,
    )
