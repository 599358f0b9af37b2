-- What a walk has yet to yield.
use Rattle.std.specs.Prelude.{◌≡◌, ℕ, List, [], ◌∷◌, Option, MatchOption}
use Rattle.split.specs.declared.region.Region.{Region}
use Rattle.split.specs.declared.walk.Walk.{Walk}
use Rattle.split.specs.Regions.{pending}

-- the leaves to come, in their order
abbrev pub left : {N : ℕ} → Walk N → List Region
left w = pending w.waiting.items

-- one step of a walk: it yields the next leaf, or nothing when all are done, and then it is as it was
abbrev pub NextLeaf : {N : ℕ} → Walk N → Option Region → Walk N → Type 0
NextLeaf s r t = MatchOption r ((left s ≡ []) × (t ≡ s)) (λ v. left s ≡ v ∷ left t)
