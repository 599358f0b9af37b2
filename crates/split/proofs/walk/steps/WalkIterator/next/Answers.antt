use Rattle.std.proofs.Common.{sym, ◌∙◌, rules}
use Rattle.split.proofs.Halving.{pending_none}
use Rattle.split.proofs.Walks.{same_walk, halved}
use Rattle.split.proofs.walk.steps.WalkIterator.next.Goals as goal

pub returns-in_err-here-clause-steps : goal.returns-in_err-here-clause-steps
returns-in_err-here-clause-steps g c =
    let v = c.in_err-here.ensures.variant in
    rw c.from_residual.ensures (pending_none _ (λ h. search rules), same_walk _ _ c.in_err-here.ensures.empty)

pub push-requires : goal.push-requires
push-requires g c =
    let h = halved _ _ _ _ _ (sym c.loop-here-test.ensures) c.loop-here.invariant.0 c.loop-here.self.sound c.halves.ensures in
    (search rules, h.place)

pub invariant_of-self-in-loop-here : goal.invariant_of-self-in-loop-here
invariant_of-self-in-loop-here g c =
    let h = halved _ _ _ _ _ (sym c.loop-here-test.ensures) c.loop-here.invariant.0 c.loop-here.self.sound c.halves.ensures in
    record { sound = rw c.push.ensures.items h.aside }

pub loop-here-smaller : goal.loop-here-smaller
loop-here-smaller g c =
    let h = halved _ _ _ _ _ (sym c.loop-here-test.ensures) c.loop-here.invariant.0 c.loop-here.self.sound c.halves.ensures in search rules

pub loop-here-preserved : goal.loop-here-preserved
loop-here-preserved g c =
    let h = halved _ _ _ _ _ (sym c.loop-here-test.ensures) c.loop-here.invariant.0 c.loop-here.self.sound c.halves.ensures in
    (rw c.push.ensures.len h.next, c.loop-here.invariant.1 ∙ rw c.push.ensures.items (sym h.same))
