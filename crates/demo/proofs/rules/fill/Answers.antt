use Rattle.std.proofs.Common.{map, length, sym, ◌∙◌, arith}
use Rattle.std.proofs.lemmas.List.{same_lists}
use Rattle.std.proofs.lemmas.List.FromFn.{length-map-range_with_len, get_or-map-range_with_len}
use Rattle.places.specs.Places.{same}
use Rattle.demo.proofs.rules.fill.Goals as goal

pub returns : goal.returns
returns g c =
    let n = length c.args.page.now in
    let m = length-map-range_with_len g.R.Rule.at 0 n in
    same_lists c.loop-k.page (map g.R.Rule.at (same n)) (omega arith) (λ k d l.
    c.loop-k.invariant k d (omega arith) ∙ sym (get_or-map-range_with_len g.R.Rule.at 0 n k k d (omega arith) (omega arith)))
