-- What an accepted transposition says of its sides and lengths.
use Rattle.std.proofs.Common.{◌≡◌, ℕ, ◌*◌, ◌^◌, ◌<◌, true, Ok, sym, mul_comm, arith}
use Rattle.std.proofs.lemmas.Bool.{leb-false, not-false, eqb-true}
use Rattle.fault.specs.declared.Refusal.TheVariants.{TooManyCells}
use Rattle.fault.specs.Makers.{plain}
use Rattle.fault.specs.Tests.{declines}
use Rattle.fault.proofs.Ordered.{only_accepted}
use Rattle.transpose.specs.Answers.{turn_tests, transposable}

pub record Fitting (w h i o : ℕ) : Type 0 where
  pub small : w * h < 2 ^ 64
  pub input : i ≡ w * h
  pub output : o ≡ w * h

pub fitting : (w h i o : ℕ) → Ok tt ≡ transposable w h i o → Fitting w h i o
fitting w h i o e =
    let none = only_accepted (turn_tests w h i o) (declines true (plain TooManyCells)) (sym e) in
    record {
      small = leb-false _ _ (none 0 (omega arith));
      input = eqb-true _ _ (not-false _ (none 1 (omega arith)));
      output = eqb-true _ _ (not-false _ (none 2 (omega arith)));
    }

-- the two sides may be exchanged: only their product counts
pub transposable_flipped : (w h i o : ℕ) → transposable h w i o ≡ transposable w h i o
transposable_flipped w h i o = rw (mul_comm h w)
