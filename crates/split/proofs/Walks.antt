-- Regions that wait in a walk.
use Rattle.std.proofs.Common.{◌≡◌, ℕ, ◌+◌, ◌-◌, ◌<◌, true, false, List, [], ◌∷◌, ◌++◌, length, ap, subst}
use Rattle.std.proofs.Props.{props}
use Rattle.split.specs.declared.region.Region.{Region}
use Rattle.split.specs.declared.walk.Walk.{Walk}
use Rattle.split.specs.Tiles.{leaf}
use Rattle.split.specs.Regions.{rows, cols, sound, AllSound, Halves, leaves, pending}
use Rattle.split.proofs.Leaves.{halves_are}
use Rattle.split.proofs.Halving.{turn, sound_push, pending_more}

-- the same regions wait, so it is the same walk
pub same_walk : {N : ℕ} (v w : Walk N) → v.waiting ≡ w.waiting → v ≡ w
same_walk {N} v w e =
    let p : IsProp (AllSound N v.waiting.items) = hlevel props in
    subst (λ b. (h : AllSound N b.items) → v ≡ record { waiting = b; sound = h }) e (λ h. ap (λ s. record v { sound = s }) (p v.sound h)) w.sound

-- While the regions rs wait in k places, r is halved: the half b finds a place, and a is looked at next.
pub record Halved (k : ℕ) (rs : List Region) (r a b : Region) : Type 0 where
  pub place : length rs < k
  pub next : sound (k - (length rs + 1)) a ≡ true
  pub aside : AllSound k (rs ++ b ∷ [])
  pub same : leaves a ++ pending (rs ++ b ∷ []) ≡ leaves r ++ pending rs

pub halved : (k : ℕ) (rs : List Region) (r a b : Region) → leaf (rows r) (cols r) ≡ false → sound (k - length rs) r ≡ true →
    AllSound k rs → Halves r a b → Halved k rs r a b
halved k rs r a b e h all p =
    let t = turn k (length rs) r e h in
    let q = halves_are r a b p in
    rw (q.0, q.1) record { place = t.0; next = t.1; aside = sound_push k rs _ all t.2; same = pending_more rs r e }
